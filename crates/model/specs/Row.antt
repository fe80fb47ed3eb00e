-- Good and lost columns, and the row of a stripe.
use Rattle.std.specs.Prelude.{ℕ, ◌-◌, Bool, cond, not, ◌&&◌, List, nat_lt}
use Rattle.layout.specs.Stripes.{slot_of}
use Rattle.layout.specs.Counts.{count}
use Rattle.model.specs.Coding.{Coding, width}
use Rattle.model.specs.Log.{Rec, debt}

-- by the slots' life and good stripes, with n slots: column c of stripe s is good if its slot is live and s is below that slot's good stripes
abbrev pub good_at : ℕ → (ℕ → Bool) → (ℕ → ℕ) → ℕ → ℕ → Bool
good_at n live good s c = live (slot_of n s c) && nat_lt s (good (slot_of n s c))

abbrev pub lost_at : ℕ → (ℕ → Bool) → (ℕ → ℕ) → ℕ → ℕ → Bool
lost_at n live good s c = not (good_at n live good s c)

-- how many columns of stripe s are lost
abbrev pub missing : ℕ → (ℕ → Bool) → (ℕ → ℕ) → ℕ → ℕ
missing n live good s = count n (lost_at n live good s)

module _ {B : Type 0} (K : Coding B) where
  -- a block in column c of stripe s, plus the shares of the pending deltas where that is a check column
  abbrev pub settled_with : List (Rec B) → ℕ → ℕ → B → B
  settled_with l s c x = cond (nat_lt c K.k) x (K.add x (debt K (c - K.k) s l))

  -- the row before it is solved: good data blocks as stored, good check blocks plus the shares of the pending deltas, zeros where a column is lost
  abbrev pub raw : (ℕ → ℕ → Bool) → List (Rec B) → (ℕ → ℕ → B) → ℕ → ℕ → B
  raw lost l block s c = cond (lost s c) K.nil (settled_with l s c (block (slot_of (width K) s c) s))

  -- the row of stripe s
  abbrev pub row : (ℕ → ℕ → Bool) → List (Rec B) → (ℕ → ℕ → B) → ℕ → ℕ → B
  row lost l block s = K.solve (lost s) (raw lost l block s)
