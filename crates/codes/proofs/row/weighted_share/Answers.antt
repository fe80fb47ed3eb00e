use Rattle.std.proofs.Common.{rules}
use Rattle.codes.proofs.Filling.{weighted-share}
use Rattle.codes.proofs.row.weighted_share.Goals as goal

pub returns-then-j-lt-COLUMNS : goal.returns-then-j-lt-COLUMNS
returns-then-j-lt-COLUMNS c = search (rules, weighted-share)
