-- An array of any type that is filled by calls of a closure that changes nothing. Layout's lemma is of natural numbers only.
use Rattle.std.proofs.Common.{◌≡◌, ℕ, zero, suc, ◌+◌, ◌<◌, ◌≤◌, List, get_or, map, subst, sym, ap, ◌∙◌, inl, inr, arith}
use Rattle.std.specs.Fn.{Called}
use Rattle.std.specs.List.{range_with_len}
use Rattle.std.specs.Array.{IsFromFnResultFrom, IsFromFnResult}
use Rattle.std.proofs.lemmas.Bool.{cases_eq}
use Rattle.std.proofs.lemmas.List.FromFn.{fill_by_all}
use denote.Param.Members.{Mut}

module _ {F A : Type 0} (g : Mut F (ℕ × Unit {0}) A) (f : F) (v : ℕ → A) (d : A) (m : ℕ) (each : (i : ℕ) (y : A) (q : F) → i < m → Called g f (i, tt) y q → (q ≡ f) × (y ≡ v i)) where
  filled-at : (ys : List A) (n a k : ℕ) → a + n ≡ m → IsFromFnResultFrom g f ys a n → a ≤ k → k < m → get_or ys k d ≡ v k
  filled-at ys zero a k e c l h = absurd (omega arith)
  filled-at ys (suc n) a k e c l h =
      let s = each a c.1 c.0 (omega arith) c.3 in
      elim (cases_eq k a) [
        | inl p ↦ ap (λ (i : ℕ). get_or ys i d) p ∙ c.2.1 d ∙ s.1 ∙ ap v (sym p)
        | inr o ↦ filled-at ys n (a + 1) k (omega arith) (subst (λ (q : F). IsFromFnResultFrom g q ys (a + 1) n) s.0 c.4) (omega arith) h
      ]

  pub filled : (ys : List A) → IsFromFnResult g f ys m → ys ≡ map v (range_with_len 0 m)
  filled ys r = fill_by_all v ys m d r.long (λ k h. filled-at ys m 0 k (omega arith) r.each (omega arith) h)
