-- What a call comes to: a refusal, or stores in their order with the answer; and how it then goes.
use Rattle.std.specs.Prelude.{◌≡◌, ℕ, ◌<◌, Bool, true, false, cond, ◌⊎◌, List, [], ◌∷◌, None, Option, ◌==◌}
use Rattle.backplane.specs.Plane.{Plane, Store, switched, fitted, pulled}
use Rattle.backplane.specs.Stores.{stored_all, Cutting}
use Rattle.backplane.specs.declared.fault.Place.{Place}
use Rattle.backplane.specs.Faults.{first_of, second_of}
use Rattle.layout.specs.declared.header.Header.{Header}

-- the layer in which a refusal arises
pub data Layer : Type 0 where
  of_backplane : Layer
  of_log : Layer
  of_stripe : Layer
  of_array : Layer

abbrev pub among : List ℕ → ℕ → Bool
among [] n = false
among (x ∷ xs) n = cond (n == x) true (among xs n)

abbrev pub layer_of : ℕ → Layer
layer_of n =
    cond (among (7 ∷ (12 ∷ (13 ∷ (20 ∷ [])))) n) of_backplane
    (cond (among (16 ∷ (17 ∷ (19 ∷ []))) n) of_log
    (cond (among (3 ∷ (4 ∷ (15 ∷ []))) n) of_stripe
    of_array))

-- a refusal: its number, the layer, and two details
pub record Refusal : Type 0 where
  pub number : ℕ
  pub layer : Layer
  pub a : ℕ
  pub b : ℕ

abbrev pub refusal : ℕ → ℕ → ℕ → Refusal
refusal n a b = record { number = n; layer = layer_of n; a = a; b = b }

-- the power failed at a store: slot and block, or 255 and the cell
abbrev pub cut_at : Place → Refusal
cut_at at = refusal 20 (first_of at) (second_of at)

pub data Answer (B : Type 0) : Type 0 where
  done : Answer B
  of_block : B → Answer B
  of_number : ℕ → Answer B

pub data Reply (B : Type 0) : Type 0 where
  answered : Answer B → Reply B
  refused : Refusal → Reply B

-- what follows the stores: nothing, a disk fitted into a slot, or a slot pulled
pub data Last : Type 0 where
  nothing : Last
  fits : ℕ → Last
  pulls : ℕ → Last

pub data Verdict (B : Type 0) : Type 0 where
  -- refused
  refuse : Refusal → Verdict B
  -- refused if the test holds, else as the rest says
  guard : Bool → Refusal → Verdict B → Verdict B
  -- the power is turned on and the array is not started; then as the rest says
  power_up : Verdict B → Verdict B
  -- the stores in order, then the last, the answer, and the header then held
  make : List (Store B) → Last → Answer B → Option Header → Verdict B

module _ {B : Type 0} (Whole : B → Type 0) (gone : B) where
  -- what the last leaves: a fitted disk has any whole blocks, a pulled slot none
  abbrev pub LastOf : Last → Plane B → Plane B → Type 0
  LastOf nothing p q = q ≡ p
  LastOf (fits d) p q = (x : ℕ → B) × ((j : ℕ) → j < p.blocks → Whole (x j)) × (q ≡ fitted d true x p)
  LastOf (pulls d) p q = q ≡ pulled gone d p

  -- with the backplane p and the header held o, a call with this verdict gets the reply r and leaves q and u:
  -- refused, all done, or cut at one of the stores, and then no header is held
  abbrev pub Ends : Verdict B → Plane B → Option Header → Reply B → Plane B → Option Header → Type 0
  Ends (refuse f) p o r q u = (r ≡ refused f) × (q ≡ p) × (u ≡ o)
  Ends (guard t f v) p o r q u = ((t ≡ true) × (r ≡ refused f) × (q ≡ p) × (u ≡ o)) ⊎ ((t ≡ false) × Ends v p o r q u)
  Ends (power_up v) p o r q u = Ends v (switched true p) None r q u
  Ends (make ss l a h) p o r q u =
      ((r ≡ answered a) × LastOf l (stored_all ss p) q × (u ≡ h))
      ⊎ ((at : Place) × (r ≡ refused (cut_at at)) × Cutting Whole ss p q at × (u ≡ None))
