use Rattle.std.proofs.Common.{◌≡◌}
use Rattle.layout.specs.Bytes.{summed_to}
use Rattle.layout.proofs.blocks.add_into.Given as goal

abbrev pub invariant-loop-i : goal.invariant-loop-i
invariant-loop-i l = l.d-items ≡ summed_to l.initial.d-items l.src l.i l.initial.d-items
