use Rattle.std.proofs.Common.{◌-◌, Result}
use Rattle.backplane.specs.Meaning.{Bytes}
use Rattle.faults.specs.declared.fault.ArrayFault.{ArrayFault}
use Rattle.array.specs.Calls.{Performed, fill_disk}
use Rattle.array.specs.Ready.{Kept}
use Rattle.array.proofs.format.fill_disk.Given as goal

-- what is left, once performed, is the whole
abbrev pub invariant-loop-b : goal.invariant-loop-b
invariant-loop-b g l =
    let v = g.B.Backplane.view in
    Kept (v l.initial.backplane) (v l.backplane)
    × ((q : Bytes) (r : Result (Unit {0}) ArrayFault) → Performed (fill_disk l.bytes l.slot (l.blocks - l.b) l.b) (v l.backplane) r q
    → Performed (fill_disk l.bytes l.slot l.blocks 0) (v l.initial.backplane) r q)
