-- What blocks should hold, and the row.
use Rattle.std.proofs.Common.{◌≡◌, ℕ, ◌+◌, ◌-◌, ◌<◌, ◌≤◌, Bool, true, false, cond, not, ◌&&◌, eqb, ltb, List, [], ◌∷◌, refl, ap, ◌∙◌, arith}
use Rattle.std.proofs.lemmas.Bool.{eqb-true, not-false, lt-ltb, le-ltb, true≢false}
use Rattle.model.specs.Coding.{Coding, share, width}
use Rattle.model.specs.Log.{Rec, write, parity, debt, pending}
use Rattle.model.specs.Row.{settled_with, raw}
use Rattle.model.proofs.Lawful.{Lawful, word}
use Rattle.model.proofs.State.{upd2, State, want, in_head, is_good, is_lost, lost_in, row_of, slot}
use Rattle.model.proofs.Sums.{left_comm, unit-r, twice, twice-r, check-upd}

module _ {B : Type 0} (K : Coding B) (L : Lawful K) where
  pub word-data : (d : ℕ → B) (c : ℕ) → c < K.k → word K d c ≡ d c
  word-data d c h = rw (lt-ltb c K.k h)

  pub word-check : (d : ℕ → B) (r : ℕ) → word K d (K.k + r) ≡ K.check r d
  word-check d r = rw (le-ltb (K.k + r) K.k (omega arith), sub-k)
    where
      sub-k : K.k + r - K.k ≡ r
      sub-k = omega arith

  -- the shares put in twice are out again
  pub settled-twice : (l : List (Rec B)) (s c : ℕ) (x : B) → settled_with K l s c (settled_with K l s c x) ≡ x
  settled-twice l s c x = go (ltb c K.k)
    where
      go : (u : Bool) → cond u (cond u x (K.add x (debt K (c - K.k) s l))) (K.add (cond u x (K.add x (debt K (c - K.k) s l))) (debt K (c - K.k) s l)) ≡ x
      go true = refl
      go false = twice-r K L x (debt K (c - K.k) s l)

  pub want-data : (l : List (Rec B)) (dat : ℕ → ℕ → B) (s c : ℕ) → c < K.k → want K l dat s c ≡ dat s c
  want-data l dat s c h = rw (lt-ltb c K.k h)

  pub want-row : (l : List (Rec B)) (dat : ℕ → ℕ → B) (s r : ℕ) → want K l dat s (K.k + r) ≡ K.add (K.check r (dat s)) (debt K r s l)
  want-row l dat s r = go (ltb (K.k + r) K.k) (K.k + r - K.k) (le-ltb (K.k + r) K.k (omega arith)) (omega arith)
    where
      go : (u : Bool) (v : ℕ) → u ≡ false → v ≡ r
          → cond u (cond u (dat s (K.k + r)) (K.check v (dat s))) (K.add (cond u (dat s (K.k + r)) (K.check v (dat s))) (debt K v s l)) ≡ K.add (K.check r (dat s)) (debt K r s l)
      go false v e f = rw f
      go true v e f = absurd (true≢false e)

  -- one block changes, and its delta is pending
  pub want-write : (l : List (Rec B)) (dat : ℕ → ℕ → B) (s₀ c₀ : ℕ) (y : B) (s c : ℕ)
      → (eqb s s₀ && eqb c c₀) ≡ false
      → want K (write s₀ c₀ (K.add (dat s₀ c₀) y) y ∷ l) (upd2 dat s₀ c₀ y) s c ≡ want K l dat s c
  want-write l dat s₀ c₀ y s c h = go (eqb s s₀) (ltb c K.k) refl h
    where
      go : (t u : Bool) → eqb s s₀ ≡ t → (t && eqb c c₀) ≡ false
          → cond u (cond u (cond (t && eqb c c₀) y (dat s c)) (K.check (c - K.k) (λ j. cond (t && eqb j c₀) y (dat s j))))
          (K.add (cond u (cond (t && eqb c c₀) y (dat s c)) (K.check (c - K.k) (λ j. cond (t && eqb j c₀) y (dat s j))))
          (cond t (K.add (share K (c - K.k) c₀ (K.add (dat s₀ c₀) y)) (debt K (c - K.k) s l)) (debt K (c - K.k) s l)))
          ≡ cond u (cond u (dat s c) (K.check (c - K.k) (dat s))) (K.add (cond u (dat s c) (K.check (c - K.k) (dat s))) (debt K (c - K.k) s l))
      go true true e f = rw f
      go true false e f = rw (check-upd K L (c - K.k) (dat s) c₀ y, eqb-true s s₀ e) (simp (L.assoc, L.comm, left_comm K L, twice K L, L.self, L.unit, unit-r K L))
      go false true e f = refl
      go false false e f = refl

  -- a parity record takes the debt of its stripe away
  pub want-parity : (l : List (Rec B)) (dat : ℕ → ℕ → B) (t : ℕ) (f : ℕ → B) (s c : ℕ)
      → in_head K (parity t f ∷ l) s c ≡ false → want K (parity t f ∷ l) dat s c ≡ want K l dat s c
  want-parity l dat t f s c h = go (eqb s t) (ltb c K.k) h
    where
      go : (t u : Bool) → (t && not u) ≡ false
          → cond u (word K (dat s) c) (K.add (word K (dat s) c) (cond t K.nil (debt K (c - K.k) s l)))
          ≡ cond u (word K (dat s) c) (K.add (word K (dat s) c) (debt K (c - K.k) s l))
      go t true e = refl
      go false false e = refl
      go true false e = absurd (true≢false e)

  -- a stripe without pending records owes nothing
  pub no-debt : (r s : ℕ) (l : List (Rec B)) → pending K s l ≡ 0 → debt K r s l ≡ K.nil
  no-debt r s [] h = refl
  no-debt r s (write t c x y ∷ l) h = go (eqb s t) h (no-debt r s l)
    where
      go : (u : Bool) → cond u 1 0 + pending K s l ≡ 0 → (pending K s l ≡ 0 → debt K r s l ≡ K.nil)
          → cond u (K.add (share K r c x) (debt K r s l)) (debt K r s l) ≡ K.nil
      go true e ih = absurd (omega arith)
      go false e ih = ih (omega arith)
  no-debt r s (parity t f ∷ l) h = go (eqb s t) h (no-debt r s l)
    where
      go : (u : Bool) → cond u 0 (pending K s l) ≡ 0 → (pending K s l ≡ 0 → debt K r s l ≡ K.nil)
          → cond u K.nil (debt K r s l) ≡ K.nil
      go true e ih = refl
      go false e ih = ih e

  pub want-paid : (l : List (Rec B)) (dat : ℕ → ℕ → B) (s c : ℕ) → pending K s l ≡ 0 → want K l dat s c ≡ want K [] dat s c
  want-paid l dat s c h = ap (λ z. cond (ltb c K.k) (word K (dat s) c) (K.add (word K (dat s) c) z)) (no-debt (c - K.k) s l h)

  -- the row of one stripe whose good blocks are right
  pub row-right : (a : State B) (dat : ℕ → ℕ → B) (s : ℕ)
      → ((c : ℕ) → c < width K → is_good K a s c ≡ true → a.blk (slot K s c) s ≡ want K a.log dat s c)
      → lost_in K a s ≤ K.m → (c : ℕ) → c < width K → row_of K a s c ≡ word K (dat s) c
  row-right a dat s held hm = L.solve-right (is_lost K a s) (raw K (is_lost K a) a.log a.blk s) (dat s) hm kept
    where
      kept : (c : ℕ) → c < width K → is_lost K a s c ≡ false → raw K (is_lost K a) a.log a.blk s c ≡ word K (dat s) c
      kept c hc g = rw g (ap (settled_with K a.log s c) (held c hc (not-false (is_good K a s c) g)) ∙ settled-twice a.log s c (word K (dat s) c))
