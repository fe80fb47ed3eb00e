use Rattle.std.proofs.Common.{◌≡◌}
use Rattle.codes.specs.Solving.{cleared}
use Rattle.codes.proofs.row.clear_lost.Given as goal

abbrev pub invariant-loop-c : goal.invariant-loop-c
invariant-loop-c l = l.bytes ≡ cleared l.lost l.c l.initial.bytes
