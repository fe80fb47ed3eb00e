use Rattle.std.proofs.Common.{◌≡◌, ◌*◌, get_or}
use Rattle.field.specs.Field.{exp, times}
use Rattle.codes.specs.Sums.{sum_to}
use Rattle.codes.proofs.row.weighted_of.Given as goal

abbrev pub invariant-loop-j : goal.invariant-loop-j
invariant-loop-j l = l.s ≡ sum_to l.j (λ j. times (exp (l.step * j)) (get_or l.b-items j 0))
