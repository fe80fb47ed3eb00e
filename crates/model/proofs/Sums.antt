-- Sums of blocks, and the check of a row in which one block changes.
use Rattle.std.proofs.Common.{◌≡◌, ℕ, Bool, true, false, cond, eqb, sym, refl, ap, ◌∙◌}
use mathlib.Core.Path.{fun_ext}
use Rattle.std.proofs.lemmas.Bool.{eqb-true}
use Rattle.model.specs.Coding.{Coding, share, only}
use Rattle.model.proofs.Lawful.{Lawful}
use Rattle.model.proofs.State.{upd}

module _ {B : Type 0} (K : Coding B) (L : Lawful K) where
  pub left_comm : (x y z : B) → K.add x (K.add y z) ≡ K.add y (K.add x z)
  left_comm x y z = sym (L.assoc x y z) ∙ ap (λ w. K.add w z) (L.comm x y) ∙ L.assoc y x z

  pub unit-r : (x : B) → K.add x K.nil ≡ x
  unit-r x = L.comm x K.nil ∙ L.unit x

  pub twice : (x y : B) → K.add x (K.add x y) ≡ y
  twice x y = sym (L.assoc x x y) ∙ ap (λ w. K.add w y) (L.self x) ∙ L.unit y

  pub twice-r : (x y : B) → K.add (K.add x y) y ≡ x
  twice-r x y = simp (L.assoc, L.self, unit-r)

  pub change : (d : ℕ → B) (c : ℕ) (y : B) (e : ℕ) → upd d c y e ≡ K.add (d e) (only K c (K.add (d c) y) e)
  change d c y e = go (eqb e c) refl
    where
      go : (t : Bool) → eqb e c ≡ t → cond t y (d e) ≡ K.add (d e) (cond t (K.add (d c) y) K.nil)
      go true h = rw (eqb-true e c h, twice)
      go false h = sym (unit-r (d e))

  pub check-upd : (r : ℕ) (d : ℕ → B) (c : ℕ) (y : B) → K.check r (upd d c y) ≡ K.add (K.check r d) (share K r c (K.add (d c) y))
  check-upd r d c y = ap (K.check r) (fun_ext (change d c y)) ∙ L.check-add r d (only K c (K.add (d c) y))
