use Rattle.std.proofs.Common.{◌-◌, Result}
use Rattle.backplane.specs.Meaning.{Bytes}
use Rattle.faults.specs.declared.fault.ArrayFault.{ArrayFault}
use Rattle.array.specs.Calls.{Performed}
use Rattle.array.specs.Ready.{Kept}
use Rattle.array.specs.Parity.{row_cells}
use Rattle.array.proofs.parity.store_checks.Given as goal

-- what is left, once performed, is the whole
abbrev pub invariant-loop-r : goal.invariant-loop-r
invariant-loop-r g l =
    let v = g.B.Backplane.view in
    Kept (v l.initial.plane) (v l.plane)
    × ((q : Bytes) (e : Result (Unit {0}) ArrayFault) → Performed (row_cells l.started.shape.columns l.row l.at (l.started.shape.slots - l.started.shape.columns - l.r) l.r) (v l.plane) e q
    → Performed (row_cells l.started.shape.columns l.row l.at (l.started.shape.slots - l.started.shape.columns) 0) (v l.initial.plane) e q)
