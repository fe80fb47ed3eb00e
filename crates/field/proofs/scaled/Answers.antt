use Rattle.std.proofs.Common.{rules}
use Rattle.field.proofs.Laws.{times-zero-r}
use Rattle.field.proofs.Products.{scaled-is}
use Rattle.field.proofs.scaled.Goals as goal

pub returns-in-Some : goal.returns-in-Some
returns-in-Some c = search (rules, scaled-is)

pub returns-in-None : goal.returns-in-None
returns-in-None c = search (rules, times-zero-r)
