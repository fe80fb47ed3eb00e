use Rattle.std.proofs.Common.{◌≡◌, ℕ, ◌<◌, cond}
use Rattle.layout.specs.Stripes.{slot_of}
use Rattle.model.specs.Coding.{zeros}
use Rattle.rows.specs.Columns.{column_in, flagged}
use Rattle.rows.proofs.row.read_columns.Given as goal

abbrev pub invariant-loop-c : goal.invariant-loop-c
invariant-loop-c g l =
    ((j : ℕ) → j < l.c → column_in l.row j ≡ cond (flagged l.lost j) zeros ((g.B.Backplane.view l.initial.plane).block (slot_of l.stripe.columns l.stripe.number j) l.stripe.number))
    × (g.B.Backplane.view l.plane ≡ g.B.Backplane.view l.initial.plane)
