use Rattle.std.proofs.Common.{◌+◌, ◌-◌, Result}
use Rattle.backplane.specs.Meaning.{Bytes}
use Rattle.faults.specs.declared.fault.ArrayFault.{ArrayFault}
use Rattle.array.specs.Calls.{Performed}
use Rattle.array.specs.Ready.{Kept}
use Rattle.array.specs.Starts.{to_good_checks}
use Rattle.rows.specs.Columns.{column_in}
use Rattle.array.proofs.parity.finish_checks.Given as goal

-- what is left, once performed, is the whole
abbrev pub invariant-loop-r : goal.invariant-loop-r
invariant-loop-r g l =
    let v = g.B.Backplane.view in
    let n = l.started.shape.slots in
    let k = l.started.shape.columns in
    let live = (v l.initial.plane).live in
    let checks = to_good_checks n k live l.started.header l.stripe (λ r. column_in l.row (k + r)) in
    Kept (v l.initial.plane) (v l.plane)
    × ((q : Bytes) (e : Result (Unit {0}) ArrayFault) → Performed (checks (n - k - l.r) l.r) (v l.plane) e q
    → Performed (checks (n - k) 0) (v l.initial.plane) e q)
