-- The laws of a code over whole blocks.
use Rattle.std.proofs.Common.{◌≡◌, ℕ, ◌-◌, ◌<◌, ◌≤◌, Bool, false, cond, ltb}
use Rattle.layout.specs.Counts.{count}
use Rattle.model.specs.Coding.{Coding, width}

-- column c of the coded row of the data d: a data block, or check c - k
abbrev pub word_of : {A : Type 0} → ℕ → (ℕ → (ℕ → A) → A) → (ℕ → A) → ℕ → A
word_of k check d c = cond (ltb c k) (d c) (check (c - k) d)

abbrev pub word : {B : Type 0} → Coding B → (ℕ → B) → ℕ → B
word K = word_of K.k K.check

pub record Lawful {B : Type 0} (K : Coding B) : Type 0 where
  pub some : 0 < K.k
  pub assoc : (x y z : B) → K.add (K.add x y) z ≡ K.add x (K.add y z)
  pub comm : (x y : B) → K.add x y ≡ K.add y x
  pub unit : (x : B) → K.add K.nil x ≡ x
  pub self : (x : B) → K.add x x ≡ K.nil
  pub check-nil : (r : ℕ) → K.check r (λ _. K.nil) ≡ K.nil
  pub check-add : (r : ℕ) (d f : ℕ → B) → K.check r (λ j. K.add (d j) (f j)) ≡ K.add (K.check r d) (K.check r f)
  pub check-below : (r : ℕ) (d f : ℕ → B) → ((j : ℕ) → j < K.k → d j ≡ f j) → K.check r d ≡ K.check r f
  pub solve-right : (lost : ℕ → Bool) (raw d : ℕ → B) → count (width K) lost ≤ K.m
      → ((c : ℕ) → c < width K → lost c ≡ false → raw c ≡ word K d c)
      → (c : ℕ) → c < width K → K.solve lost raw c ≡ word K d c
