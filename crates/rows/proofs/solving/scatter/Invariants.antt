use Rattle.rows.specs.Columns.{PlacePut}
use Rattle.rows.proofs.solving.scatter.Given as goal

abbrev pub invariant-loop-c : goal.invariant-loop-c
invariant-loop-c l = PlacePut l.c l.i l.from l.initial.row l.row
