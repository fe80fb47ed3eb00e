-- Worked examples of the rules, with one byte in a block.
use Rattle.std.specs.Prelude.{◌≡◌, ℕ, ◌-◌, Bool, true, false, cond, List, [], ◌∷◌, ◌==◌, bit_xor, nat_eq, nat_lt}
use Rattle.backplane.specs.Plane.{Plane}
use Rattle.layout.specs.declared.header.Header.{Header}
use Rattle.layout.specs.Stripes.{stripe_of, column_of, slot_of}
use Rattle.model.specs.Coding.{Coding}
use Rattle.model.specs.Log.{Rec, write}
use Rattle.model.specs.Row.{settled_with, row}
use Rattle.model.specs.Rules.{too_full}

-- three data columns and their sum
abbrev pub sum : Coding ℕ
sum = record {
  k = 3;
  m = 1;
  number = 1;
  add = bit_xor;
  nil = 0;
  check = λ r d. bit_xor (d 0) (bit_xor (d 1) (d 2));
  solve = λ lost raw c. cond (nat_lt c 3) (raw c) (bit_xor (raw 0) (bit_xor (raw 1) (raw 2)));
  pack = λ x. 0;
  bytes = λ x. [];
}

-- a backplane with 8 stripes and so many cells, and a header with so many cells in use
abbrev pub with_cells : ℕ → Plane ℕ
with_cells c = record { slots = 4; blocks = 8; cells = c; on = true; live = λ d. true; block = λ d b. 0; cell = λ i. 0 }

abbrev pub used_cells : ℕ → Header
used_cells u = record { used = u; good = [] }

-- a write to this stripe
abbrev pub wrote : ℕ → Rec ℕ
wrote s = write s 0 0 0

-- the log is full for a further write, with so many cells in all and in use
abbrev pub full : ℕ → ℕ → List (Rec ℕ) → Bool
full cells used l = too_full sum (with_cells cells) (used_cells used) 3 l

pub record Samples : Type 0 where
  -- with 3 data columns and 1 check, block 7 is column 1 of stripe 2, on slot 3; that stripe's check is on slot 1
  pub place : (stripe_of 3 7 ≡ 2) × (column_of 3 7 ≡ 1) × (slot_of 4 2 1 ≡ 3) × (slot_of 4 2 3 ≡ 1)
  -- with 8 cells one write is taken, and a second to the same stripe is refused with 4 cells free
  pub eight : (full 8 0 (wrote 0 ∷ []) ≡ false) × (full 8 3 (wrote 0 ∷ (wrote 0 ∷ [])) ≡ true) × ((with_cells 8).cells - 1 - (used_cells 3).used ≡ 4)
  -- with 9 it is taken, and one to another stripe is refused with 5 free
  pub nine : (full 9 3 (wrote 0 ∷ (wrote 0 ∷ [])) ≡ false) × (full 9 3 (wrote 1 ∷ (wrote 0 ∷ [])) ≡ true) × ((with_cells 9).cells - 1 - (used_cells 3).used ≡ 5)
  -- data 34, 0, 0 with one pending delta 34: a rebuilt check is 0
  pub rebuilt-check : settled_with sum (write 0 0 34 34 ∷ []) 0 3 (row sum (λ s c. nat_eq c 3) (write 0 0 34 34 ∷ []) (λ d b. cond (d == 0) 34 0) 0 3) ≡ 0
