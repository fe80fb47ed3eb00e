-- Where the columns of a stripe lie, and what one store changes.
use Rattle.std.proofs.Common.{◌≡◌, ℕ, suc, ◌+◌, ◌-◌, ◌*◌, ◌/◌, ◌%◌, ◌<◌, ◌≤◌, Bool, true, false, cond, not, ◌&&◌, eqb, ◌⊎◌, List, sym, refl, ap, ◌∙◌, inl, inr, mod-lt, mod-eq_of_lt, mul-le-mul_left, mul-suc, arith}
use native.Mathlib.Nat.{div-add-mod, mod-add-mod, add-mul-mod_self_left}
use Rattle.std.proofs.lemmas.Bool.{eqb-true, eqb-false, eq-eqb, cases_order, true≢false}
use Rattle.model.specs.Coding.{Coding, width}
use Rattle.model.specs.Log.{Rec}
use Rattle.model.proofs.State.{upd2, slot, want, Holds}

-- two sums with the same remainder whose first parts are below the divisor
pub same_rest : (n s a b : ℕ) → a < n → b < n → (a + s) % n ≡ (b + s) % n → a ≡ b
same_rest n s a b ha hb e =
    let x = div-add-mod (a + s) n in
    let y = div-add-mod (b + s) n in
    go (cases_order ((a + s) / n) ((b + s) / n)) x y
  where
    go : {q r : ℕ} → (q ≡ r) ⊎ ((q < r) ⊎ (r < q)) → n * q + (a + s) % n ≡ a + s → n * r + (b + s) % n ≡ b + s → a ≡ b
    go {q} {r} (inl h) x y = let z = ap (λ t. n * t) h in omega arith
    go {q} {r} (inr (inl h)) x y = let z : n * suc q ≤ n * r = mul-le-mul_left n h in omega (arith, mul-suc n q)
    go {q} {r} (inr (inr h)) x y = let z : n * suc r ≤ n * q = mul-le-mul_left n h in omega (arith, mul-suc n r)

-- the column that slot d has of stripe s
pub column-slot : (n s d : ℕ) → d < n → ((d + (n - s % n)) % n + s) % n ≡ d
column-slot n s d h =
    mod-add-mod (d + (n - s % n)) n s ∙ (ap (λ t. t % n) e ∙ (add-mul-mod_self_left d n (1 + s / n) ∙ mod-eq_of_lt h))
  where
    e : d + (n - s % n) + s ≡ d + n * (1 + s / n)
    e = let x = div-add-mod s n in let y : s % n < n = mod-lt s (omega arith) in omega arith

-- places of which one is good and the other is not
pub apart : (g : ℕ → ℕ → Bool) (s₀ c₀ s c : ℕ) → g s c ≡ true → g s₀ c₀ ≡ false → (eqb s s₀ && eqb c c₀) ≡ false
apart g s₀ c₀ s c gd e = go (eqb s s₀) (eqb c c₀) refl refl
  where
    go : (t u : Bool) → eqb s s₀ ≡ t → eqb c c₀ ≡ u → (t && u) ≡ false
    go true true h k = absurd (true≢false (sym gd ∙ (ap (λ z. g z c) (eqb-true s s₀ h) ∙ (ap (λ z. g s₀ z) (eqb-true c c₀ k) ∙ e))))
    go true false h k = refl
    go false u h k = refl

module _ {B : Type 0} (K : Coding B) where
  pub other : (x : ℕ → ℕ → B) (s₀ c₀ : ℕ) (y : B) (s c : ℕ) → c < width K → c₀ < width K → (eqb s s₀ && eqb c c₀) ≡ false
      → upd2 x (slot K s₀ c₀) s₀ y (slot K s c) s ≡ x (slot K s c) s
  other x s₀ c₀ y s c hc h₀ e = go (eqb s s₀) (eqb (slot K s c) (slot K s₀ c₀)) refl refl e
    where
      go : (t u : Bool) → eqb s s₀ ≡ t → eqb (slot K s c) (slot K s₀ c₀) ≡ u → (t && eqb c c₀) ≡ false → cond (u && t) y (x (slot K s c) s) ≡ x (slot K s c) s
      go t false h k f = refl
      go false true h k f = refl
      go true true h k f =
          let i : s ≡ s₀ = eqb-true s s₀ h in
          let j : (c + s) % width K ≡ (c₀ + s) % width K = eqb-true (slot K s c) (slot K s₀ c₀) k ∙ ap (λ z. (c₀ + z) % width K) (sym i) in
          absurd (eqb-false c c₀ f (same_rest (width K) s c c₀ hc h₀ j))

  pub same : (x : ℕ → ℕ → B) (d s : ℕ) (y : B) → upd2 x d s y d s ≡ y
  same x d s y = rw (eq-eqb d d refl, eq-eqb s s refl)

module _ {B : Type 0} (K : Coding B) (S : ℕ) where
  -- a store at an exempt place
  pub put-exempt : (ex g : ℕ → ℕ → Bool) (l : List (Rec B)) (x dat : ℕ → ℕ → B) (s₀ c₀ : ℕ) (y : B) → c₀ < width K → ex s₀ c₀ ≡ true
      → Holds K S ex g l x dat → Holds K S ex g l (upd2 x (slot K s₀ c₀) s₀ y) dat
  put-exempt ex g l x dat s₀ c₀ y h₀ e ok s c hs hc gd f =
      other K x s₀ c₀ y s c hc h₀ (apart (λ i j. not (ex i j)) s₀ c₀ s c (rw f) (rw e)) ∙ ok s c hs hc gd f

  -- a store of what the place should hold
  pub put_right : (ex ex' g : ℕ → ℕ → Bool) (l : List (Rec B)) (x dat : ℕ → ℕ → B) (s₀ c₀ : ℕ) (y : B) → c₀ < width K
      → y ≡ want K l dat s₀ c₀
      → ((s c : ℕ) → ex' s c ≡ false → (eqb s s₀ && eqb c c₀) ≡ false → ex s c ≡ false)
      → Holds K S ex g l x dat → Holds K S ex' g l (upd2 x (slot K s₀ c₀) s₀ y) dat
  put_right ex ex' g l x dat s₀ c₀ y h₀ e less ok s c hs hc gd f = go (eqb s s₀) (eqb c c₀) refl refl
    where
      away : (eqb s s₀ && eqb c c₀) ≡ false → upd2 x (slot K s₀ c₀) s₀ y (slot K s c) s ≡ want K l dat s c
      away n = other K x s₀ c₀ y s c hc h₀ n ∙ ok s c hs hc gd (less s c f n)

      go : (t u : Bool) → eqb s s₀ ≡ t → eqb c c₀ ≡ u → upd2 x (slot K s₀ c₀) s₀ y (slot K s c) s ≡ want K l dat s c
      go true true h k = rw (eqb-true s s₀ h, eqb-true c c₀ k) (same K x (slot K s₀ c₀) s₀ y ∙ e)
      go true false h k = away (rw (h, k))
      go false u h k = away (rw h)

  -- a store at a place that is not good
  pub put-lost : (ex g : ℕ → ℕ → Bool) (l : List (Rec B)) (x dat : ℕ → ℕ → B) (s₀ c₀ : ℕ) (y : B) → c₀ < width K → g s₀ c₀ ≡ false
      → Holds K S ex g l x dat → Holds K S ex g l (upd2 x (slot K s₀ c₀) s₀ y) dat
  put-lost ex g l x dat s₀ c₀ y h₀ e held s c hs hc gd f = other K x s₀ c₀ y s c hc h₀ (apart g s₀ c₀ s c gd e) ∙ held s c hs hc gd f
