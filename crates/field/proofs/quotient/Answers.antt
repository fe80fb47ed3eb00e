use Rattle.std.proofs.Common.{rules}
use Rattle.field.proofs.Laws.{times-zero-l}
use Rattle.field.proofs.Products.{quotient_is}
use Rattle.field.proofs.quotient.Goals as goal

pub returns-in-Some : goal.returns-in-Some
returns-in-Some c = search (rules, quotient_is)

pub returns-in-None : goal.returns-in-None
returns-in-None c = search (rules, times-zero-l)
