-- Counting.
use Rattle.std.specs.Prelude.{◌≡◌, ℕ, zero, suc, ◌+◌, ◌<◌, ◌≤◌, Bool, true, false, cond, not, ◌&&◌, ◌⊎◌, List, [], ◌∷◌, drop, ◌≢◌, nat_lt, refl}
use Rattle.std.proofs.Common.{sym, ◌∙◌, inl, inr, arith, add-zero, zero-add, add-suc}
use Rattle.std.proofs.lemmas.Bool.{cases_eq, ltb-true, ltb-false, true≢false}
use Rattle.codes.specs.Code.{count, lost_at, lost_count}

pub count_none : (n : ℕ) (f : ℕ → Bool) → count n f ≡ 0 → (i : ℕ) → i < n → f i ≡ false
count_none zero f e i h = absurd (omega arith)
count_none (suc n) f e i h = go (f n) refl e (cases_eq i n) (count_none n f)
  where
    go : (t : Bool) → f n ≡ t → cond t 1 0 + count n f ≡ 0 → (i ≡ n) ⊎ (i ≢ n) → (count n f ≡ 0 → (i : ℕ) → i < n → f i ≡ false) → f i ≡ false
    go true a b c ih = absurd (omega arith)
    go false a b (inl c) ih = rw c a
    go false a b (inr c) ih = ih (omega arith) i (omega arith)

pub count_same : (n : ℕ) (f g : ℕ → Bool) → ((i : ℕ) → i < n → f i ≡ g i) → count n f ≡ count n g
count_same zero f g e = refl
count_same (suc n) f g e = rw (e n (omega arith), count_same n f g (λ i h. e i (omega arith)))

pub count-zero : (n : ℕ) (f : ℕ → Bool) → ((i : ℕ) → i < n → f i ≡ false) → count n f ≡ 0
count-zero zero f e = refl
count-zero (suc n) f e = rw (e n (omega arith), count-zero n f (λ i h. e i (omega arith)))

pub count-split : (a b : ℕ) (f : ℕ → Bool) → count (a + b) f ≡ count a f + count b (λ i. f (a + i))
count-split a zero f = rw (add-zero, add-zero)
count-split a (suc b) f = rw (add-suc a b, count-split a b f) (omega arith)

pub count-not : (n : ℕ) (f : ℕ → Bool) → count n f + count n (λ i. not (f i)) ≡ n
count-not zero f = refl
count-not (suc n) f = go (f n) (count-not n f)
  where
    go : (t : Bool) → count n f + count n (λ i. not (f i)) ≡ n → cond t 1 0 + count n f + (cond (not t) 1 0 + count n (λ i. not (f i))) ≡ suc n
    go true h = omega arith
    go false h = omega arith

-- of those that pass, the e lowest
abbrev pub first : ℕ → (ℕ → Bool) → ℕ → Bool
first e f q = f q && nat_lt (count q f) e

pub count-first : (n e : ℕ) (f : ℕ → Bool) → ((count n f ≤ e) × (count n (first e f) ≡ count n f)) ⊎ ((e ≤ count n f) × (count n (first e f) ≡ e))
count-first zero e f = inl (omega arith, refl)
count-first (suc n) e f = go (f n) (nat_lt (count n f) e) refl (count-first n e f)
  where
    go : (t u : Bool) → nat_lt (count n f) e ≡ u → ((count n f ≤ e) × (count n (first e f) ≡ count n f)) ⊎ ((e ≤ count n f) × (count n (first e f) ≡ e))
        → ((cond t 1 0 + count n f ≤ e) × (cond (t && u) 1 0 + count n (first e f) ≡ cond t 1 0 + count n f))
        ⊎ ((e ≤ cond t 1 0 + count n f) × (cond (t && u) 1 0 + count n (first e f) ≡ e))
    go true true h (inl i) = inl (omega (arith, ltb-true (count n f) e h), omega arith)
    go true true h (inr i) = absurd (omega (arith, ltb-true (count n f) e h))
    go true false h (inl i) = inr (omega (arith, ltb-false (count n f) e h), omega (arith, ltb-false (count n f) e h))
    go true false h (inr i) = inr (omega arith, omega arith)
    go false u h (inl i) = inl (omega arith, omega arith)
    go false u h (inr i) = inr (omega arith, omega arith)

-- the list's count is the count of its places
lost-step : (lost : List Bool) (n : ℕ) → lost_count (drop n lost) ≡ cond (lost_at lost n) 1 0 + lost_count (drop (suc n) lost)
lost-step [] zero = refl
lost-step [] (suc n) = refl
lost-step (b ∷ bs) zero = refl
lost-step (b ∷ bs) (suc n) = lost-step bs n

pub lost-split : (lost : List Bool) (n : ℕ) → lost_count lost ≡ count n (lost_at lost) + lost_count (drop n lost)
lost-split lost zero = sym (zero-add (lost_count lost))
lost-split lost (suc n) = let a = lost-split lost n in let b = lost-step lost n in omega arith

pub lost-none : (lost : List Bool) (n : ℕ) → ((c : ℕ) → n ≤ c → lost_at lost c ≡ false) → lost_count (drop n lost) ≡ 0
lost-none [] zero h = refl
lost-none [] (suc n) h = refl
lost-none (b ∷ bs) zero h = rw (h 0 (omega arith)) (zero-add (lost_count bs) ∙ lost-none bs zero (λ c l. h (suc c) (omega arith)))
lost-none (b ∷ bs) (suc n) h = lost-none bs n (λ c l. h (suc c) (omega arith))

-- the one place outside which no test passes, where at most one does
pub one_place : (n : ℕ) (f : ℕ → Bool) → count n f ≤ 1 → (i : ℕ) × ((c : ℕ) → c < n → (c ≢ i) → f c ≡ false)
one_place zero f h = (0, λ c l a. absurd (omega arith))
one_place (suc n) f h = go (f n) refl h (one_place n f)
  where
    go : (t : Bool) → f n ≡ t → cond t 1 0 + count n f ≤ 1 → (count n f ≤ 1 → (i : ℕ) × ((c : ℕ) → c < n → (c ≢ i) → f c ≡ false))
        → (i : ℕ) × ((c : ℕ) → c < suc n → (c ≢ i) → f c ≡ false)
    go true e h ih = (n, λ c l a. count_none n f (omega arith) c (omega arith))
    go false e h ih = let w = ih (omega arith) in (w.0, λ c l a. at c l (cases_eq c n) (λ m. w.1 c m a))
      where
        at : (c : ℕ) → c < suc n → (c ≡ n) ⊎ (c ≢ n) → (c < n → f c ≡ false) → f c ≡ false
        at c l (inl q) r = rw q e
        at c l (inr q) r = r (omega arith)

pub two-places : (n : ℕ) (f : ℕ → Bool) → count n f ≤ 2 → (i : ℕ) × (j : ℕ) × ((c : ℕ) → c < n → (c ≢ i) → (c ≢ j) → f c ≡ false)
two-places zero f h = (0, 0, λ c l a b. absurd (omega arith))
two-places (suc n) f h = go (f n) refl h (two-places n f)
  where
    go : (t : Bool) → f n ≡ t → cond t 1 0 + count n f ≤ 2 → (count n f ≤ 2 → (i : ℕ) × (j : ℕ) × ((c : ℕ) → c < n → (c ≢ i) → (c ≢ j) → f c ≡ false))
        → (i : ℕ) × (j : ℕ) × ((c : ℕ) → c < suc n → (c ≢ i) → (c ≢ j) → f c ≡ false)
    go true e h ih = let w = one_place n f (omega arith) in (n, w.0, λ c l a b. w.1 c (omega arith) b)
    go false e h ih = let w = ih (omega arith) in (w.0, w.1, λ c l a b. at c l (cases_eq c n) (λ m. w.2 c m a b))
      where
        at : (c : ℕ) → c < suc n → (c ≡ n) ⊎ (c ≢ n) → (c < n → f c ≡ false) → f c ≡ false
        at c l (inl q) r = rw q e
        at c l (inr q) r = r (omega arith)

-- at most one passes where all but one place fail
pub count-one : (n : ℕ) (f : ℕ → Bool) (i : ℕ) → ((c : ℕ) → c < n → (c ≢ i) → f c ≡ false) → count n f ≤ 1
count-one zero f i h = omega arith
count-one (suc n) f i h = go (f n) refl (cases_eq n i) (count-one n f i)
  where
    go : (t : Bool) → f n ≡ t → (n ≡ i) ⊎ (n ≢ i) → (((c : ℕ) → c < n → (c ≢ i) → f c ≡ false) → count n f ≤ 1) → cond t 1 0 + count n f ≤ 1
    go true e (inl q) ih = let z = count-zero n f (λ c l. h c (omega arith) (λ r. omega arith)) in omega arith
    go true e (inr d) ih = absurd (true≢false (sym e ∙ h n (omega arith) d))
    go false e q ih = let z = ih (λ c l d. h c (omega arith) d) in omega arith
