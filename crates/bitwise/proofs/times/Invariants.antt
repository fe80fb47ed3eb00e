use Rattle.std.proofs.Common.{◌≡◌, ◌-◌, bit_xor}
use Rattle.bitwise.specs.Bitwise.{product}
use Rattle.bitwise.proofs.times.Given as goal

abbrev pub invariant-loop : goal.invariant-loop
invariant-loop l = bit_xor l.sum (product (8 - l.counter) l.shifted l.rest) ≡ product 8 l.a l.b
