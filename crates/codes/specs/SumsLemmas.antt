-- Sums of a function over the first numbers.
use Rattle.std.specs.Prelude.{◌≡◌, ℕ, zero, suc, ◌+◌, ◌<◌, ◌≤◌, ◌⊎◌, ◌≢◌, bit_xor, refl}
use Rattle.std.proofs.Common.{sym, ap, ◌∙◌, inl, inr, arith, add-one}
use Rattle.std.specs.Int.Bits.{xor_assoc, xor_zero_r, xor_zero_l, xor_self}
use Rattle.std.proofs.lemmas.Nat.{xor_comm, xor_lt}
use Rattle.std.proofs.lemmas.Bool.{cases_eq}
use Rattle.codes.specs.Sums.{sum_to}

-- (a + b) + (c + d) with the middle two exchanged
pub middle : (a b c d : ℕ) → bit_xor (bit_xor a b) (bit_xor c d) ≡ bit_xor (bit_xor a c) (bit_xor b d)
middle a b c d =
    xor_assoc a b (bit_xor c d) ∙ ap (bit_xor a) (sym (xor_assoc b c d) ∙ ap (λ x. bit_xor x d) (xor_comm b c) ∙ xor_assoc c b d) ∙ sym (xor_assoc a c (bit_xor b d))

pub cancel : (a b : ℕ) → bit_xor a b ≡ 0 → a ≡ b
cancel a b e = sym (xor_zero_r a) ∙ ap (bit_xor a) (sym (xor_self b)) ∙ sym (xor_assoc a b b) ∙ ap (λ x. bit_xor x b) e ∙ xor_zero_l b

pub same_sum : (a b : ℕ) → a ≡ b → bit_xor a b ≡ 0
same_sum a b e = ap (λ x. bit_xor x b) e ∙ xor_self b

-- what is added twice is gone
pub twice : (a b : ℕ) → bit_xor a (bit_xor a b) ≡ b
twice a b = sym (xor_assoc a a b) ∙ ap (λ x. bit_xor x b) (xor_self a) ∙ xor_zero_l b

pub back : (a b : ℕ) → bit_xor a (bit_xor b a) ≡ b
back a b = ap (bit_xor a) (xor_comm b a) ∙ twice a b

pub sum_same : (n : ℕ) (f g : ℕ → ℕ) → ((j : ℕ) → j < n → f j ≡ g j) → sum_to n f ≡ sum_to n g
unfolding sum_to
sum_same zero f g e = refl
sum_same (suc n) f g e = ap (λ x. bit_xor x (sum_to n f)) (e n (omega arith)) ∙ ap (bit_xor (g n)) (sum_same n f g (λ j h. e j (omega arith)))

pub sum-none : (n : ℕ) (f : ℕ → ℕ) → ((j : ℕ) → j < n → f j ≡ 0) → sum_to n f ≡ 0
unfolding sum_to
sum-none zero f e = refl
sum-none (suc n) f e = ap (λ x. bit_xor x (sum_to n f)) (e n (omega arith)) ∙ xor_zero_l (sum_to n f) ∙ sum-none n f (λ j h. e j (omega arith))

pub sum-adds : (n : ℕ) (f g : ℕ → ℕ) → sum_to n (λ j. bit_xor (f j) (g j)) ≡ bit_xor (sum_to n f) (sum_to n g)
unfolding sum_to
sum-adds zero f g = refl
sum-adds (suc n) f g = ap (bit_xor (bit_xor (f n) (g n))) (sum-adds n f g) ∙ middle (f n) (g n) (sum_to n f) (sum_to n g)

pub sum-byte : (n : ℕ) (f : ℕ → ℕ) → ((j : ℕ) → f j < 256) → sum_to n f < 256
unfolding sum_to
sum-byte zero f h = omega arith
sum-byte (suc n) f h = xor_lt 8 (f n) (sum_to n f) (h n) (sum-byte n f h)

pub sum-next : (n : ℕ) (f : ℕ → ℕ) → sum_to (suc n) f ≡ bit_xor (f n) (sum_to n f)
unfolding sum_to
sum-next n f = refl

pub sum-start : (f : ℕ → ℕ) → sum_to 0 f ≡ 0
unfolding sum_to
sum-start f = refl

-- two functions that differ only at i
pub sum-change : (n : ℕ) (f g : ℕ → ℕ) (i : ℕ) → i < n → ((j : ℕ) → j < n → (j ≢ i) → f j ≡ g j) → sum_to n f ≡ bit_xor (sum_to n g) (bit_xor (f i) (g i))
sum-change zero f g i h e = absurd (omega arith)
sum-change (suc n) f g i h e = sum-next n f ∙ (go (cases_eq n i) (sum-change n f g i) ∙ sym (ap (λ x. bit_xor x (bit_xor (f i) (g i))) (sum-next n g)))
  where
    go : (n ≡ i) ⊎ (n ≢ i) → (i < n → ((j : ℕ) → j < n → (j ≢ i) → f j ≡ g j) → sum_to n f ≡ bit_xor (sum_to n g) (bit_xor (f i) (g i)))
        → bit_xor (f n) (sum_to n f) ≡ bit_xor (bit_xor (g n) (sum_to n g)) (bit_xor (f i) (g i))
    go (inl q) ih =
        ap (bit_xor (f n)) (sum_same n f g (λ j l. e j (omega arith) (λ t. omega arith)))
        ∙ xor_comm (f n) (sum_to n g)
        ∙ ap (bit_xor (sum_to n g)) (sym (back (g n) (f n)))
        ∙ sym (xor_assoc (sum_to n g) (g n) (bit_xor (f n) (g n)))
        ∙ ap (λ x. bit_xor x (bit_xor (f n) (g n))) (xor_comm (sum_to n g) (g n))
        ∙ ap (λ m. bit_xor (bit_xor (g n) (sum_to n g)) (bit_xor (f m) (g m))) q
    go (inr d) ih =
        ap (λ x. bit_xor x (sum_to n f)) (e n (omega arith) d) ∙ ap (bit_xor (g n)) (ih (omega arith) (λ j l. e j (omega arith)))
        ∙ sym (xor_assoc (g n) (sum_to n g) (bit_xor (f i) (g i)))

-- nothing is added from n on
pub sum-cut : (n m : ℕ) (f : ℕ → ℕ) → n ≤ m → ((j : ℕ) → n ≤ j → j < m → f j ≡ 0) → sum_to m f ≡ sum_to n f
sum-cut n zero f h e = let z : n ≡ 0 = omega arith in ap (λ k. sum_to k f) (sym z)
sum-cut n (suc m) f h e = go (cases_eq n (suc m)) (sum-cut n m f)
  where
    go : (n ≡ suc m) ⊎ (n ≢ suc m) → (n ≤ m → ((j : ℕ) → n ≤ j → j < m → f j ≡ 0) → sum_to m f ≡ sum_to n f) → sum_to (suc m) f ≡ sum_to n f
    go (inl q) ih = ap (λ k. sum_to k f) (sym q)
    go (inr d) ih = sum-next m f ∙ ap (λ x. bit_xor x (sum_to m f)) (e m (omega arith) (omega arith)) ∙ xor_zero_l (sum_to m f) ∙ ih (omega arith) (λ j a b. e j a (omega arith))

-- all terms but one, or but two, are 0
pub sum_one : (n : ℕ) (f : ℕ → ℕ) (i : ℕ) → i < n → ((j : ℕ) → j < n → (j ≢ i) → f j ≡ 0) → sum_to n f ≡ f i
sum_one n f i h e =
    sum-change n f (λ _. 0) i h e ∙ ap (λ x. bit_xor x (bit_xor (f i) 0)) (sum-none n (λ _. 0) (λ j l. refl)) ∙ xor_zero_l (bit_xor (f i) 0) ∙ xor_zero_r (f i)

-- one more term, added at the end
pub sum_more : (n : ℕ) (f : ℕ → ℕ) → bit_xor (sum_to n f) (f n) ≡ sum_to (n + 1) f
sum_more n f = xor_comm (sum_to n f) (f n) ∙ (sym (sum-next n f) ∙ ap (λ k. sum_to k f) (sym (add-one n)))
