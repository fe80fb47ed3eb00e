-- Counting.
use Rattle.std.proofs.Common.{◌≡◌, ℕ, zero, suc, ◌+◌, ◌<◌, Bool, true, false, cond, ◌⊎◌, sym, refl, inl, inr, arith}
use Rattle.std.proofs.lemmas.Bool.{cases_eq}
use Rattle.layout.specs.Counts.{count}

pub count_none : (n : ℕ) (f : ℕ → Bool) → count n f ≡ 0 → (i : ℕ) → i < n → f i ≡ false
count_none zero f e i h = absurd (omega arith)
count_none (suc n) f e i h = go (f n) refl e (cases_eq i n) (count_none n f)
  where
    go : (t : Bool) → f n ≡ t → cond t 1 0 + count n f ≡ 0 → (i ≡ n) ⊎ (i ≡ n → ⊥) → (count n f ≡ 0 → (i : ℕ) → i < n → f i ≡ false) → f i ≡ false
    go true a b c ih = absurd (omega arith)
    go false a b (inl c) ih = rw c a
    go false a b (inr c) ih = ih (omega arith) i (omega arith)

pub count_same : (n : ℕ) (f g : ℕ → Bool) → ((i : ℕ) → i < n → f i ≡ g i) → count n f ≡ count n g
count_same zero f g e = refl
count_same (suc n) f g e = rw (e n (omega arith), count_same n f g (λ i h. e i (omega arith)))

pub count_less : (n : ℕ) (f g : ℕ → Bool) (t : ℕ) → t < n → f t ≡ true → g t ≡ false → ((i : ℕ) → (i ≡ t → ⊥) → g i ≡ f i) → count n f ≡ 1 + count n g
count_less zero f g t h a b e = absurd (omega arith)
count_less (suc n) f g t h a b e = go (cases_eq n t) (count_less n f g t)
  where
    go : (n ≡ t) ⊎ (n ≡ t → ⊥) → (t < n → f t ≡ true → g t ≡ false → ((i : ℕ) → (i ≡ t → ⊥) → g i ≡ f i) → count n f ≡ 1 + count n g)
        → cond (f n) 1 0 + count n f ≡ 1 + (cond (g n) 1 0 + count n g)
    go (inl c) ih = rw (c, a, b, count_same t f g (λ i h. sym (e i (omega arith)))) (omega arith)
    go (inr c) ih = rw (e n c) (let z : count n f ≡ 1 + count n g = ih (omega arith) a b e in omega arith)

pub count-false : (n : ℕ) → count n (λ _. false) ≡ 0
count-false zero = refl
count-false (suc n) = rw (count-false n)
