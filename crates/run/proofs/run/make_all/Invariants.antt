use Rattle.std.proofs.Common.{◌≡◌, length, take, vec_items}
use Rattle.array.specs.Calls.{view_of, coding_of}
use Rattle.run.specs.Runs.{MadeAll, device_of}
use Rattle.run.proofs.run.make_all.Given as goal

-- the calls so far were made, in an array of as many slots, and the work area is as it was
abbrev pub invariant-loop-call : goal.invariant-loop-call
invariant-loop-call g l =
    (l.work ≡ l.initial.work)
    × ((view_of g.B.Backplane g.C.Code l.array).slots ≡ (view_of g.B.Backplane g.C.Code l.initial.array).slots)
    × MadeAll (coding_of g.B.Backplane g.C.Code l.initial.array) (length l.initial.work) (device_of g.B.Backplane g.C.Code l.initial.array)
    (take l.call-index l.calls) (vec_items l.answers) (device_of g.B.Backplane g.C.Code l.array)
