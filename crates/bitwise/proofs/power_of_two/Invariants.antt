use Rattle.std.proofs.Common.{◌≡◌}
use Rattle.bitwise.specs.Bitwise.{power}
use Rattle.bitwise.proofs.power_of_two.Given as goal

abbrev pub invariant-loop : goal.invariant-loop
invariant-loop l = l.p ≡ power l.counter
