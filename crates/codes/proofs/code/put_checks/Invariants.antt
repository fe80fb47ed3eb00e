use Rattle.std.proofs.Common.{◌≡◌, ◌++◌, length}
use Rattle.codes.specs.Solving.{remade}
use Rattle.codes.proofs.code.put_checks.Given as goal

abbrev pub invariant-loop-r : goal.invariant-loop-r
invariant-loop-r g l = l.bytes ++ l.checks ≡ remade (λ r. g.C.Code.check r l.bytes) (length l.bytes) l.lost l.r (l.bytes ++ l.initial.checks)
