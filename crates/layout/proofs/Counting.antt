-- Counts and lowest numbers by a test, one number on, and by two tests that agree.
use Rattle.std.proofs.Common.{◌≡◌, ℕ, zero, suc, ◌+◌, ◌-◌, ◌<◌, ◌≤◌, Bool, true, false, cond, ltb, Some, None, Option, sym, refl, ap, ◌∙◌, ap₂, inl, inr, add-one, arith}
use Rattle.std.proofs.lemmas.List.Sums.{sum_by-cons}
use Rattle.std.specs.List.{count_by, range_with_len}
use Rattle.std.specs.Option.{MatchOption}
use Rattle.std.proofs.lemmas.Bool.{cases_eq, lt-ltb, cond-true}
use Rattle.layout.specs.Counts.{count, lowest, first_of}

pub count-more : (n : ℕ) (f : ℕ → Bool) → count (n + 1) f ≡ cond (f n) 1 0 + count n f
count-more n f = ap (λ (m : ℕ). count m f) (add-one n)

pub count_most : (n : ℕ) (f : ℕ → Bool) → count n f ≤ n
count_most zero f = omega arith
count_most (suc n) f = let h = count_most n f in elim (f n) as (λ (b : Bool). cond b 1 0 + count n f ≤ suc n) [ true ↦ omega arith | false ↦ omega arith ]

pub count-some : (n : ℕ) (f : ℕ → Bool) (s : ℕ) → s < n → f s ≡ true → 0 < count n f
count-some zero f s h e = absurd (omega arith)
count-some (suc n) f s h e = elim (cases_eq s n) [
  | inl q ↦ let t : ◌≡◌ {A = ℕ} (cond (f n) 1 0) 1 = ap (λ (m : ℕ). cond (f m) 1 0) (sym q) ∙ ap (λ (b : Bool). cond b 1 0) e in omega arith
  | inr o ↦ let r = count-some n f s (omega arith) e in omega arith
]

-- two tests that agree below n
pub count_same : (n : ℕ) (f g : ℕ → Bool) → ((t : ℕ) → t < n → f t ≡ g t) → count n f ≡ count n g
count_same zero f g e = refl
count_same (suc n) f g e = ap₂ (λ (b : Bool) (m : ℕ). cond b 1 0 + m) (e n (omega arith)) (count_same n f g (λ t h. e t (omega arith)))

pub lowest-same : (n : ℕ) (f g : ℕ → Bool) (i : ℕ) → ((t : ℕ) → i ≤ t → t < i + n → f t ≡ g t) → lowest n f i ≡ lowest n g i
lowest-same zero f g i e = refl
lowest-same (suc n) f g i e = ap₂ (λ (b : Bool) (m : ℕ). cond b i m) (e i (omega arith) (omega arith)) (lowest-same n f g (suc i) (λ t a b. e t (omega arith) (omega arith)))

pub first_of-same : (n : ℕ) (f g : ℕ → Bool) → ((t : ℕ) → t < n → f t ≡ g t) → first_of n f ≡ first_of n g
first_of-same n f g e =
    ap₂ (λ (c l : ℕ). cond (ltb 0 c) (Some l) None) (count_same n f g e) (lowest-same n f g 0 (λ t a b. e t (omega arith)))

module _ (f : ℕ → Bool) (n s : ℕ) (h : s < n) where
  one_less : n - s ≡ suc (n - (s + 1))
  one_less = omega arith

  pub lowest-here : f s ≡ true → lowest (n - s) f s ≡ s
  lowest-here y = ap (λ (m : ℕ). lowest m f s) one_less ∙ rw y

  pub lowest-later : f s ≡ false → lowest (n - s) f s ≡ lowest (n - (s + 1)) f (s + 1)
  lowest-later y = ap (λ (m : ℕ). lowest m f s) one_less ∙ rw (y, add-one s)

  -- the first that passes, where the search from s on is that from 0 on
  pub first-here : f s ≡ true → lowest (n - s) f s ≡ lowest n f 0 → Some s ≡ first_of n f
  first-here y e =
      ap Some (sym (lowest-here y) ∙ e) ∙ sym (cond-true (ltb 0 (count n f)) (Some (lowest n f 0)) None (lt-ltb 0 (count n f) (count-some n f s h y)))

count-none : (n : ℕ) (f : ℕ → Bool) → ((k : ℕ) → k < n → f k ≡ false) → count n f ≡ 0
count-none zero f miss = refl
count-none (suc n) f miss =
    let h = count-none n f (λ k l. miss k (omega arith)) in
    let z : ◌≡◌ {A = ℕ} (cond (f n) 1 0) 0 = ap (λ (b : Bool). cond b 1 0) (miss n (omega arith)) in
    omega arith

-- where none below i passes, the search from i on is that from 0 on
lowest-past : (f : ℕ → Bool) (n i : ℕ) → i ≤ n → ((k : ℕ) → k < i → f k ≡ false) → lowest (n - i) f i ≡ lowest n f 0
lowest-past f n zero h miss = let e : n - 0 ≡ n = omega arith in ap (λ (m : ℕ). lowest m f 0) e
lowest-past f n (suc i) h miss =
    rw (← add-one i) (sym (lowest-later f n i (omega arith) (miss i (omega arith))) ∙ lowest-past f n i (omega arith) (λ k l. miss k (omega arith)))

-- what a search from 0 on finds
pub first-found : (n : ℕ) (f : ℕ → Bool) (r : Option ℕ) → MatchOption r ((k : ℕ) → 0 ≤ k → k < n → f k ≡ false) (λ i. (0 ≤ i) × (i < n) × (f i ≡ true) × ((k : ℕ) → 0 ≤ k → k < i → f k ≡ false)) → r ≡ first_of n f
first-found n f None miss = sym (ap (λ (c : ℕ). cond (ltb 0 c) (Some (lowest n f 0)) None) (count-none n f (λ k h. miss k (omega arith) h)))
first-found n f (Some i) at = first-here f n i at.1 at.2 (lowest-past f n i (omega (arith, at.1)) (λ k h. at.3 k (omega arith) h))

count-first : (n : ℕ) (f : ℕ → Bool) → count (suc n) f ≡ cond (f 0) 1 0 + count n (λ k. f (suc k))
count-first zero f = refl
count-first (suc n) f = let h = count-first n f in omega arith

-- how many of the n numbers from a on pass
pub count-range : (n a : ℕ) (f : ℕ → Bool) → count_by f (range_with_len a n) ≡ count n (λ k. f (a + k))
count-range zero a f = refl
count-range (suc n) a f =
    let s : count n (λ k. f (a + 1 + k)) ≡ count n (λ k. f (a + suc k)) = count_same n (λ k. f (a + 1 + k)) (λ k. f (a + suc k)) (λ t l. ap f (omega arith)) in
    let z : f a ≡ f (a + 0) = ap f (omega arith) in
    sum_by-cons (λ (k : ℕ). cond (f k) 1 0) a (range_with_len (a + 1) n)
    ∙ ap₂ (λ (b : Bool) (m : ℕ). cond b 1 0 + m) z (count-range n (a + 1) f ∙ s) ∙ sym (count-first n (λ k. f (a + k)))
