-- The bits of a byte, tried at all bytes.
use Rattle.std.proofs.Common.{◌≡◌, ℕ, zero, suc, ◌-◌, ◌*◌, ◌%◌, ◌^◌, ◌<◌, Bool, true, false, cond, not, ◌&&◌, eqb, refl, ap, ◌∙◌, inl, inr, arith}
use mathlib.Core.Bool.{beq, false≢true}
use lib.Bits.{bit_or, bit_and}
use Rattle.std.proofs.lemmas.Bool.{and_parts, cases_eq}
use Rattle.layout.specs.Marks.{bit_of}

abbrev all_below : ℕ → (ℕ → Bool) → Bool
all_below zero f = true
all_below (suc n) f = f n && all_below n f

below : (n : ℕ) (f : ℕ → Bool) → all_below n f ≡ true → (k : ℕ) → k < n → f k ≡ true
below zero f h k l = absurd (omega arith)
below (suc n) f h k l = elim (cases_eq k n) [
  | inl e ↦ ap f e ∙ (and_parts (f n) (all_below n f) h).0
  | inr o ↦ below n f (and_parts (f n) (all_below n f) h).1 k (omega arith)
]

beq-true : (a b : Bool) → beq a b ≡ true → a ≡ b
beq-true true true h = refl
beq-true true false h = absurd (false≢true h)
beq-true false true h = absurd (false≢true h)
beq-true false false h = refl

abbrev mask : ℕ → ℕ
mask i = 1 * 2 ^ i % 256

-- a rule for a byte and two bits
abbrev everywhere : (ℕ → ℕ → ℕ → Bool) → Bool
everywhere rule = all_below 256 (λ v. all_below 8 (λ i. all_below 8 (λ j. rule v i j)))

at_bits : (rule : ℕ → ℕ → ℕ → Bool) → everywhere rule ≡ true → (v i j : ℕ) → v < 256 → i < 8 → j < 8 → rule v i j ≡ true
at_bits rule t v i j hv hi hj =
    below 8 (λ j. rule v i j) (below 8 (λ i. all_below 8 (λ j. rule v i j)) (below 256 (λ v. all_below 8 (λ i. all_below 8 (λ j. rule v i j))) t v hv) i hi) j hj

abbrev set_rule : ℕ → ℕ → ℕ → Bool
set_rule v i j = beq (bit_of (bit_or v (mask i)) j) (cond (eqb j i) true (bit_of v j))

abbrev clear_rule : ℕ → ℕ → ℕ → Bool
clear_rule v i j = beq (bit_of (bit_and v (255 - mask i)) j) (cond (eqb j i) false (bit_of v j))

abbrev test_rule : ℕ → ℕ → Bool
test_rule v i = beq (not (eqb (bit_and v (mask i)) 0)) (bit_of v i)

set-tried : everywhere set_rule ≡ true
set-tried = refl

clear-tried : everywhere clear_rule ≡ true
clear-tried = refl

test-tried : all_below 256 (λ v. all_below 8 (λ i. test_rule v i)) ≡ true
test-tried = refl

pub bit-set : (v i j : ℕ) → v < 256 → i < 8 → j < 8 → bit_of (bit_or v (mask i)) j ≡ cond (eqb j i) true (bit_of v j)
bit-set v i j hv hi hj = beq-true _ _ (at_bits set_rule set-tried v i j hv hi hj)

pub bit-clear : (v i j : ℕ) → v < 256 → i < 8 → j < 8 → bit_of (bit_and v (255 - mask i)) j ≡ cond (eqb j i) false (bit_of v j)
bit-clear v i j hv hi hj = beq-true _ _ (at_bits clear_rule clear-tried v i j hv hi hj)

pub bit_test : (v i : ℕ) → v < 256 → i < 8 → not (eqb (bit_and v (mask i)) 0) ≡ bit_of v i
bit_test v i hv hi = beq-true _ _ (below 8 (λ i. test_rule v i) (below 256 (λ v. all_below 8 (λ i. test_rule v i)) test-tried v hv) i hi)
