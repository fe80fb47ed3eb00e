-- The log: its records, newest first, and what they say.
use Rattle.std.specs.Prelude.{ℕ, zero, suc, ◌+◌, Bool, cond, List, [], ◌∷◌, map, Some, None, Option, ◌==◌, nat_le, nat_lt}
use Rattle.std.specs.List.{range_with_len}
use Rattle.backplane.specs.Plane.{Plane}
use Rattle.layout.specs.declared.head.Head.{Head}
use Rattle.layout.specs.declared.head.Head.TheVariants.{OfWrite, OfParity}
use Rattle.layout.specs.Head.{head_bytes, head_in, record_cells}
use Rattle.layout.specs.Counts.{count}
use Rattle.model.specs.Coding.{Coding, share, check_rows}

pub data Rec (B : Type 0) : Type 0 where
  -- stripe, data column, delta (old block plus new block), image (the new block)
  write : ℕ → ℕ → B → B → Rec B
  -- stripe, and its check blocks by check row
  parity : ℕ → (ℕ → B) → Rec B

-- the records of a log, and the head cell of the first one that is damaged
pub record Walked (B : Type 0) : Type 0 where
  pub log : List (Rec B)
  pub damage : Option ℕ

-- go on with what is there, or else with this
abbrev pub or_else : {A : Type 0} {R : Type 0} → Option A → R → (A → R) → R
or_else None z f = z
or_else (Some x) z f = f x

module _ {B : Type 0} (K : Coding B) where
  abbrev pub head_of : Rec B → Head
  head_of (write s c x y) = OfWrite s c
  head_of (parity s f) = OfParity s

  -- how many cells a record has
  abbrev pub cells_of : Rec B → ℕ
  cells_of r = record_cells K.m (head_of r)

  -- its cells: the head, then delta and image, or the check blocks
  abbrev pub body_of : Rec B → List B
  body_of (write s c x y) = x ∷ (y ∷ [])
  body_of (parity s f) = map f (range_with_len 0 K.m)

  abbrev pub cells_for : Rec B → List B
  cells_for r = K.pack (head_bytes (head_of r)) ∷ body_of r

  -- the record with this head in cell i
  abbrev pub record_from : Plane B → ℕ → Head → Rec B
  record_from p i (OfWrite s c) = write s c (p.cell (i + 1)) (p.cell (i + 2))
  record_from p i (OfParity s) = parity s (check_rows K (λ r. p.cell (i + (1 + r))))

  -- the record that begins in cell i, with cells up to u in use; none where it breaks the layout or runs past u
  abbrev pub record_at : Plane B → ℕ → ℕ → Option (Rec B)
  record_at p u i = or_else (head_in K.k p.blocks (K.bytes (p.cell i))) None
      (λ h. cond (nat_le (i + record_cells K.m h) (u + 1)) (Some (record_from p i h)) None)

  -- the log is walked record by record, from cell i on, until u cells are passed; l are the records before
  abbrev pub walk_from : ℕ → Plane B → ℕ → ℕ → List (Rec B) → Walked B
  walk_from zero p u i l = record { log = l; damage = None }
  walk_from (suc n) p u i l =
      cond (nat_lt u i) (record { log = l; damage = None })
      (or_else (record_at p u i) (record { log = l; damage = Some i }) (λ r. walk_from n p u (i + cells_of r) (r ∷ l)))

  -- the log in cells 1 to u; where it is damaged, the records before the damage
  abbrev pub walk : Plane B → ℕ → Walked B
  walk p u = walk_from u p u 1 []

  -- the pending records of stripe s: its write records after its last parity record
  abbrev pub pending : ℕ → List (Rec B) → ℕ
  pending s [] = 0
  pending s (write t c x y ∷ l) = cond (s == t) 1 0 + pending s l
  pending s (parity t f ∷ l) = cond (s == t) 0 (pending s l)

  abbrev pub owing : List (Rec B) → ℕ → Bool
  owing l s = nat_lt 0 (pending s l)

  -- how many of so many stripes have pending records
  abbrev pub owed : ℕ → List (Rec B) → ℕ
  owed stripes l = count stripes (owing l)

  -- the sum of the shares of the pending deltas of stripe s in check row r
  abbrev pub debt : ℕ → ℕ → List (Rec B) → B
  debt r s [] = K.nil
  debt r s (write t c x y ∷ l) = cond (s == t) (K.add (share K r c x) (debt r s l)) (debt r s l)
  debt r s (parity t f ∷ l) = cond (s == t) K.nil (debt r s l)
