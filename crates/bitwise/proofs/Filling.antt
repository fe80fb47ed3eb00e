-- An array that is filled by calls of a closure that changes nothing.
use Rattle.std.proofs.Common.{◌≡◌, ℕ, zero, suc, ◌+◌, ◌<◌, ◌≤◌, List, get_or, subst, sym, ap, ◌∙◌, inl, inr, arith}
use Rattle.std.specs.Fn.{Called}
use Rattle.std.specs.Array.{IsFromFnResultFrom, IsFromFnResult}
use Rattle.std.proofs.lemmas.Bool.{cases_eq}
use denote.Param.Members.{Mut}

module _ {F B : Type 0} (g : Mut F (ℕ × Unit {0}) B) (f : F) (v : ℕ → B) (m : ℕ) (each : (i : ℕ) (y : B) (q : F) → i < m → Called g f (i, tt) y q → (q ≡ f) × (y ≡ v i)) where
  filled-at : (ys : List B) (n a k : ℕ) (d : B) → a + n ≡ m → IsFromFnResultFrom g f ys a n → a ≤ k → k < m → get_or ys k d ≡ v k
  filled-at ys zero a k d e c l h = absurd (omega arith)
  filled-at ys (suc n) a k d e c l h =
      let s = each a c.1 c.0 (omega arith) c.3 in
      elim (cases_eq k a) [
        | inl p ↦ ap (λ (i : ℕ). get_or ys i d) p ∙ c.2.1 d ∙ s.1 ∙ ap v (sym p)
        | inr o ↦ filled-at ys n (a + 1) k d (omega arith) (subst (λ (q : F). IsFromFnResultFrom g q ys (a + 1) n) s.0 c.4) (omega arith) h
      ]

  pub filled : (ys : List B) (d : B) → IsFromFnResult g f ys m → (k : ℕ) → k < m → get_or ys k d ≡ v k
  filled ys d r k h = filled-at ys m 0 k d (omega arith) r.each (omega arith) h
