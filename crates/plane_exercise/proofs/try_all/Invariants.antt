use Rattle.std.proofs.Common.{◌+◌, ◌<◌}
use Rattle.plane_exercise.specs.Tallies.{total, SameSizes, Tried}
use Rattle.plane_exercise.proofs.try_all.Given as goal

abbrev pub invariant-loop-step : goal.invariant-loop-step
invariant-loop-step g l =
    SameSizes (g.B.Backplane.view l.initial.plane) (g.B.Backplane.view l.plane)
    × (total l.initial.tally + l.step-index < 4294967296 → Tried l.step-index l.initial.tally l.tally (g.B.Backplane.view l.initial.plane) (g.B.Backplane.view l.plane))
