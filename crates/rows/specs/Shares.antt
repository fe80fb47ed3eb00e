-- What the records of a walk add to the columns of a row.
use Rattle.std.specs.Prelude.{ℕ, ◌+◌, ◌-◌, ◌<◌, Bool, cond, ◌==◌, nat_lt}
use Rattle.backplane.specs.Plane.{Plane}
use Rattle.layout.specs.declared.head.Head.{Head}
use Rattle.layout.specs.declared.head.Head.TheVariants.{OfWrite, OfParity}
use Rattle.model.specs.Coding.{Coding, share}

-- the column of a write record is a data column
abbrev pub column_below : ℕ → Head → Type 0
column_below k (OfWrite t c) = c < k
column_below k (OfParity t) = Unit {0}

module _ {B : Type 0} (K : Coding B) where
  -- the shares of the deltas of stripe s in check row r, with those of one more record
  abbrev pub sum_step : Plane B → ℕ → ℕ → ℕ → Head → B → B
  sum_step p r s i (OfWrite t c) x = cond (s == t) (K.add (share K r c (p.cell (i + 1))) x) x
  sum_step p r s i (OfParity t) x = x

  -- column c takes a share of a delta d at column j, if it is a check column and not one to leave alone
  abbrev pub shared_to : (ℕ → Bool) → ℕ → B → ℕ → B → B
  shared_to leave j d c x = cond (leave c) x (cond (nat_lt c K.k) x (K.add x (share K (c - K.k) j d)))

  -- column c with the share of one more record of stripe s
  abbrev pub grow_step : Plane B → (ℕ → Bool) → ℕ → ℕ → ℕ → Head → B → B
  grow_step p leave s c i (OfWrite t j) x = cond (s == t) (shared_to leave j (p.cell (i + 1)) c x) x
  grow_step p leave s c i (OfParity t) x = x
