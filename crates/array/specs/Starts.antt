-- The walk over the log at start, and the stores that finish its last record.
use Rattle.std.specs.Prelude.{◌≡◌, ℕ, zero, suc, ◌+◌, ◌<◌, Bool, cond, not, List, [], ◌∷◌, ◌++◌, Some, None, Ok, Err, Option, Result}
use Rattle.backplane.specs.Plane.{Store, to_block}
use Rattle.backplane.specs.Meaning.{Bytes}
use Rattle.layout.specs.declared.head.Head.{Head}
use Rattle.layout.specs.declared.head.Head.TheVariants.{OfWrite, OfParity}
use Rattle.layout.specs.declared.header.Header.{Header}
use Rattle.layout.specs.Header.{header_in, is_laid_out}
use Rattle.layout.specs.Stripes.{slot_of}
use Rattle.model.specs.Coding.{Coding, width}
use Rattle.model.specs.Log.{walk}
use Rattle.model.specs.Row.{good_at}
use Rattle.model.specs.Rules.{good_of, shape_of, is_good, log_of, finish_last, start_open}
use Rattle.model.specs.Verdict.{refusal, Verdict, guard}
use Rattle.faults.specs.declared.fault.LogFault.{LogFault}
use Rattle.faults.specs.declared.fault.LogFault.TheVariants.{Full, Pending, Damaged, Overfull, AtCell}
use Rattle.parity_log.specs.Walks.{LastAt}

-- the walk over cells 1 to u answers the cell of the last head, if there is one, or else the first damaged cell
abbrev pub Walks : Coding (List ℕ) → Bytes → ℕ → Result (Option ℕ) LogFault → Type 0
Walks K p u (Ok last) = ((walk K p u).damage ≡ None) × LastAt K p u last (walk K p u).log
Walks K p u (Err (Damaged at)) = (walk K p u).damage ≡ Some at
Walks K p u (Err (Full _)) = ⊥
Walks K p u (Err (Pending _)) = ⊥
Walks K p u (Err Overfull) = ⊥
Walks K p u (Err (AtCell _)) = ⊥

-- x goes to column c of stripe s, where that is good by the lives, with n slots
abbrev pub to_good : ℕ → (ℕ → Bool) → Header → ℕ → ℕ → List ℕ → List (Store (List ℕ))
to_good n live h s c x = cond (good_at n live (good_of h) s c) (to_block (slot_of n s c) s x ∷ []) []

-- check blocks f, so many from check row r on, with n slots and k data columns
abbrev pub to_good_checks : ℕ → ℕ → (ℕ → Bool) → Header → ℕ → (ℕ → List ℕ) → ℕ → ℕ → List (Store (List ℕ))
to_good_checks n k live h s f zero r = []
to_good_checks n k live h s f (suc m) r = to_good n live h s (k + r) (f r) ++ to_good_checks n k live h s f m (r + 1)

-- what finishes the record with this head in cell i
abbrev pub finish_by : ℕ → ℕ → ℕ → Bytes → Header → ℕ → Head → List (Store (List ℕ))
finish_by n k m p h i (OfWrite s c) = to_good n p.live h s c (p.cell (i + 2))
finish_by n k m p h i (OfParity s) = to_good_checks n k p.live h s (λ r. p.cell (i + (1 + r))) m 0

-- that record is of a stripe that there is, and its cells are there
abbrev pub Placed : ℕ → Bytes → ℕ → Head → Type 0
Placed m p i (OfWrite s c) = (s < p.blocks) × (i + 2 < p.cells)
Placed m p i (OfParity s) = (s < p.blocks) × (i + m < p.cells)

-- what is to be finished, by the cell and the head of the last record, if there is one
abbrev pub ToFinish : Coding (List ℕ) → Bytes → Header → Option (ℕ × Head) → Type 0
ToFinish K p h None = finish_last K (is_good K p h) (log_of K p h) ≡ []
ToFinish K p h (Some r) = (finish_last K (is_good K p h) (log_of K p h) ≡ finish_by (width K) K.k K.m p h r.0 r.1) × Placed K.m p r.0 r.1

-- the verdict on a start once the power is on
abbrev pub start_on : Coding (List ℕ) → Bytes → Verdict (List ℕ)
start_on K p = guard (not (is_laid_out K.m (shape_of K p) (K.bytes (p.cell 0)))) (refusal 18 0 0) (start_open K p (header_in (K.bytes (p.cell 0))))
