use Rattle.std.proofs.Common.{◌≡◌, ◌+◌, ◌-◌, Result}
use Rattle.backplane.specs.Meaning.{Bytes}
use Rattle.faults.specs.declared.fault.ArrayFault.{ArrayFault}
use Rattle.array.specs.Calls.{Performed}
use Rattle.array.specs.Ready.{Kept}
use Rattle.array.specs.Starts.{to_good_checks}
use Rattle.array.proofs.finish.finish_parity.Given as goal

-- the cells stay, and what is left, once performed, is the whole
abbrev pub invariant-loop-row : goal.invariant-loop-row
invariant-loop-row g l =
    let p = g.B.Backplane.view l.initial.plane in
    let now = g.B.Backplane.view l.plane in
    let m = g.C.Code.ROWS in
    let checks = to_good_checks l.started.shape.slots l.started.shape.columns p.live l.started.header l.stripe (λ r. p.cell (l.at + (1 + r))) in
    Kept p now
    × (now.cell ≡ p.cell)
    × ((q : Bytes) (r : Result (Unit {0}) ArrayFault) → Performed (checks (m - l.row) l.row) now r q → Performed (checks m 0) p r q)
