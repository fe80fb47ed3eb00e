-- What a run ensures: its answers are right by the history of the calls, and so are the disks.
use Rattle.std.specs.Prelude.{◌≡◌, ℕ, ◌≤◌, List, [], map, length, take}
use Rattle.backplane.specs.Plane.{Sector}
use Rattle.backplane.specs.declared.Backplane.{Ghosts as PlaneGhosts}
use Rattle.codes.specs.declared.code.Code.{Ghosts as CodeGhosts}
use Rattle.faults.specs.Refusals.{array_refusal}
use Rattle.model.specs.Coding.{Coding}
use Rattle.model.specs.Verdict.{Reply, answered, refused, done, Ends}
use Rattle.model.specs.Rules as rules
use Rattle.model.specs.Runs.{Device, Event, Ran}
use Rattle.model.specs.Promise.{Formatted, Kept}
use Rattle.array.specs.declared.array.Array.{Array}
use Rattle.array.specs.Calls.{view_of, coding_of, Ended}
use Rattle.run.specs.Calls.{Answer, call_of, reply_for}
use Rattle.run.specs.declared.call.Call.{Call}
use Rattle.run.specs.declared.call.RunFault.{RunFault}
use Rattle.run.specs.declared.call.RunFault.TheVariants.{Format, NoMemory}

abbrev pub asked_in : Event (List ℕ) → rules.Call (List ℕ)
asked_in e = e.call

abbrev pub replied_in : Event (List ℕ) → Reply (List ℕ)
replied_in e = e.reply

-- these calls were made one after the other, with these answers and a work area of w bytes, from u to v
pub record MadeAll (K : Coding (List ℕ)) (w : ℕ) (u : Device (List ℕ)) (calls : List Call) (answers : List Answer) (v : Device (List ℕ)) : Type 0 where
  -- what the ledger is told of each call; after a cut at cell 0 also whether that is then new, by what it holds
  pub events : List (Event (List ℕ))
  pub asked : map asked_in events ≡ map (call_of w) calls
  pub replied : map replied_in events ≡ map reply_for answers
  pub ran : Ran K Sector events u v

-- only the first of the calls were made
pub record MadeSome (K : Coding (List ℕ)) (w : ℕ) (u : Device (List ℕ)) (calls : List Call) (v : Device (List ℕ)) : Type 0 where
  pub many : ℕ
  pub within : many ≤ length calls
  pub answers : List Answer
  pub made : MadeAll K w u (take many calls) answers v

-- over a backplane and a code by what their bounds say of them
module _ {B C : Type 0} (plane : PlaneGhosts B) (code : CodeGhosts C) where
  abbrev pub device_of : Array B C → Device (List ℕ)
  device_of a = record { plane = view_of plane code a; held = a.header }

  -- the array a was formatted, with a work area of w bytes; then these calls were made with these answers, and z is left
  pub record RunKept (a : Array B C) (w : ℕ) (calls : List Call) (answers : List Answer) (z : Array B C) : Type 0 where
    -- the array once formatted
    pub opened : Device (List ℕ)
    pub format : Ends Sector [] (rules.formatting (coding_of plane code a) (view_of plane code a) w) (view_of plane code a) a.header (answered done) opened.plane opened.held
    pub formatted : Formatted (coding_of plane code a) opened
    pub made : MadeAll (coding_of plane code a) w opened calls answers (device_of z)
    -- the promise: the answers are right by the ledger, and so are the disks
    pub kept : Kept (coding_of plane code a) opened made.events (device_of z)

  -- the same of the first of the calls
  pub record FrontKept (a : Array B C) (w : ℕ) (calls : List Call) (z : Array B C) : Type 0 where
    pub many : ℕ
    pub within : many ≤ length calls
    pub answers : List Answer
    pub front : RunKept a w (take many calls) answers z

  -- what a run leaves that is not made whole: format was refused or cut, or memory gave out
  abbrev pub RunFailed : Array B C → ℕ → List Call → RunFault → Array B C → Type 0
  RunFailed a w calls (Format f) z = Ended plane code (rules.formatting (coding_of plane code a) (view_of plane code a) w) a (refused (array_refusal f)) z
  RunFailed a w calls (NoMemory e) z = FrontKept a w calls z
