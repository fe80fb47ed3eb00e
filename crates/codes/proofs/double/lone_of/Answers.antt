use Rattle.std.proofs.Common.{rules}
use Rattle.field.proofs.Rules.{exp-mod}
use Rattle.codes.proofs.double.lone_of.Goals as goal

pub returns-in-None : goal.returns-in-None
returns-in-None c = search (rules, exp-mod)
