use Rattle.std.proofs.Common.{◌-◌, Result}
use Rattle.backplane.specs.Meaning.{Bytes}
use Rattle.faults.specs.declared.fault.ArrayFault.{ArrayFault}
use Rattle.array.specs.Calls.{Performed, fill_disks}
use Rattle.array.specs.Ready.{Kept}
use Rattle.array.proofs.format.fill_disks.Given as goal

-- what is left, once performed, is the whole
abbrev pub invariant-loop-d : goal.invariant-loop-d
invariant-loop-d g l =
    let v = g.B.Backplane.view in
    Kept (v l.initial.backplane) (v l.backplane)
    × ((q : Bytes) (r : Result (Unit {0}) ArrayFault) → Performed (fill_disks l.bytes l.blocks (l.slots - l.d) l.d) (v l.backplane) r q
    → Performed (fill_disks l.bytes l.blocks l.slots 0) (v l.initial.backplane) r q)
