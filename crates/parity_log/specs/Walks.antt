-- The walk over the log by the heads of its records.
use Rattle.std.specs.Prelude.{◌≡◌, ℕ, zero, suc, ◌+◌, ◌-◌, ◌<◌, ◌≤◌, ◌⊎◌, cond, List, [], ◌∷◌, Some, None, Ok, Err, Option, Result, ◌==◌, nat_le, nat_lt}
use Rattle.backplane.specs.Plane.{Plane, to_cell}
use Rattle.backplane.specs.Meaning.{Bytes, fault_of}
use Rattle.backplane.specs.declared.fault.BackplaneFault.{BackplaneFault}
use Rattle.layout.specs.declared.head.Head.{Head}
use Rattle.layout.specs.declared.head.Head.TheVariants.{OfWrite, OfParity}
use Rattle.layout.specs.Head.{head_in, record_cells}
use Rattle.model.specs.Coding.{Coding}
use Rattle.model.specs.Log.{Rec, or_else, record_at, walk}
use Rattle.faults.specs.declared.fault.LogFault.{LogFault}
use Rattle.faults.specs.declared.fault.LogFault.TheVariants.{Damaged}

-- the last parity record of stripe s after one more record, in cell i
abbrev pub parity_at : ℕ → ℕ → Head → Option ℕ → Option ℕ
parity_at s i (OfWrite t c) last = last
parity_at s i (OfParity t) last = cond (s == t) (Some i) last

module _ {B : Type 0} (K : Coding B) where
  -- the head in the bytes x of cell i, with so many stripes and cells up to u in use; none where it breaks the layout or its record runs past u
  abbrev pub head_within : ℕ → ℕ → ℕ → List ℕ → Option Head
  head_within stripes u i x = or_else (head_in K.k stripes x) None
      (λ h. cond (nat_le (i + record_cells K.m h) (u + 1)) (Some h) None)

  -- the head of the record that begins in cell i
  abbrev pub head_at : Plane B → ℕ → ℕ → Option Head
  head_at p u i = head_within p.blocks u i (K.bytes (p.cell i))

  -- what comes of x along the walk from cell i on, step by step by cell and head, over at most n records
  abbrev pub fold_from : {X : Type 0} → (ℕ → Head → X → X) → ℕ → Plane B → ℕ → ℕ → X → X
  fold_from step zero p u i x = x
  fold_from step (suc n) p u i x = cond (nat_lt u i) x (or_else (head_at p u i) x (λ h. fold_from step n p u (i + record_cells K.m h) (step i h x)))

  -- the same over all records up to cell u
  unfoldable pub rest : {X : Type 0} → (ℕ → Head → X → X) → Plane B → ℕ → ℕ → X → X
  rest step p u i x = fold_from step (u + 1 - i) p u i x

  -- the cell of the log's last head, if it has one
  abbrev pub last_head : Plane B → ℕ → Option ℕ
  last_head p u = fold_from (λ i h last. Some i) u p u 1 None

  -- the cell of the last parity record of stripe s, if it has one
  abbrev pub last_parity : Plane B → ℕ → ℕ → Option ℕ
  last_parity p u s = fold_from (parity_at s) u p u 1 None

  -- what a walk over the log answers: the cell of the last head, or the first damaged one
  abbrev pub walk_end : Plane B → ℕ → Result (Option ℕ) LogFault
  walk_end p u = or_else (walk K p u).damage (Ok (last_head p u)) (λ i. Err (Damaged i))

  -- the log's last record begins in this cell; with none it is empty
  abbrev pub LastAt : Plane B → ℕ → Option ℕ → List (Rec B) → Type 0
  LastAt p u None l = l ≡ []
  LastAt p u (Some i) l = (r : Rec B) × (rest : List (Rec B)) × (l ≡ r ∷ rest) × (record_at K p u i ≡ Some r)

  -- where the pending records of a stripe begin: after its last parity record, if it has one
  abbrev pub resume_at : Option ℕ → ℕ
  resume_at None = 1
  resume_at (Some i) = i + (1 + K.m)

module _ (K : Coding (List ℕ)) where
  -- no record begins in cell i, into whose place x could be read
  abbrev pub Over : Bytes → ℕ → ℕ → List ℕ → Type 0
  Over p u i x = (u < i) ⊎ ((i ≤ u) × (fault_of (to_cell i x) p ≡ None) × (head_at K p u i ≡ None))

  -- what a look for the next record from cell i on answers, with x for the cell, and the cell j where the look after it begins
  abbrev pub Next : Bytes → ℕ → ℕ → List ℕ → Result (Option (ℕ × Head)) BackplaneFault → ℕ → Type 0
  Next p u i x (Ok (Some r)) j = (r.0 ≡ i) × (i ≤ u) × (fault_of (to_cell i x) p ≡ None) × (head_at K p u i ≡ Some r.1) × (j ≡ i + record_cells K.m r.1)
  Next p u i x (Ok None) j = Over p u i x × (j ≡ i)
  Next p u i x (Err f) j = (i ≤ u) × (fault_of (to_cell i x) p ≡ Some f) × (j ≡ i)
