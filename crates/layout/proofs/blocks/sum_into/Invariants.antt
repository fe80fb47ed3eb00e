use Rattle.std.proofs.Common.{◌≡◌}
use Rattle.layout.specs.Bytes.{summed_to}
use Rattle.layout.proofs.blocks.sum_into.Given as goal

abbrev pub invariant-loop-i : goal.invariant-loop-i
invariant-loop-i l = l.d-items ≡ summed_to l.a l.b l.i l.initial.d-items
