-- What a start reads does not depend on the power.
use Rattle.std.proofs.Common.{◌≡◌, ℕ, zero, suc, ◌+◌, true, cond, not, ltb, leb, List, [], ◌∷◌, Some, None, Option, refl, ap, ◌∙◌}
use Rattle.backplane.specs.Plane.{switched}
use Rattle.backplane.specs.Meaning.{Bytes}
use Rattle.layout.specs.declared.head.Head.{Head}
use Rattle.layout.specs.declared.head.Head.TheVariants.{OfWrite, OfParity}
use Rattle.layout.specs.declared.header.Header.{Header}
use Rattle.layout.specs.Head.{head_in, record_cells}
use Rattle.layout.specs.Header.{header_in, is_laid_out}
use Rattle.model.specs.Coding.{Coding}
use Rattle.model.specs.Log.{Rec, Walked, or_else, cells_of, record_from, record_at, walk_from}
use Rattle.model.specs.Rules.{shape_of, is_there, is_good, too_full, finish_last}
use Rattle.model.specs.Verdict.{Verdict, refusal, nothing, done, guard, make}
use Rattle.array.specs.Starts.{start_on}

else_same : {A R : Type 0} (o : Option A) (z : R) (f g : A → R) → ((x : A) → f x ≡ g x) → or_else o z f ≡ or_else o z g
else_same None z f g e = refl
else_same (Some x) z f g e = e x

module _ (K : Coding (List ℕ)) (p : Bytes) where
  record_same : (i : ℕ) (d : Head) → record_from K (switched true p) i d ≡ record_from K p i d
  record_same i (OfWrite s c) = refl
  record_same i (OfParity s) = refl

  at_same : (u i : ℕ) → record_at K (switched true p) u i ≡ record_at K p u i
  at_same u i =
      else_same (head_in K.k p.blocks (K.bytes (p.cell i))) None
      (λ d. cond (leb (i + record_cells K.m d) (u + 1)) (Some (record_from K (switched true p) i d)) None)
      (λ d. cond (leb (i + record_cells K.m d) (u + 1)) (Some (record_from K p i d)) None)
      (λ d. ap (λ (r : Rec (List ℕ)). cond (leb (i + record_cells K.m d) (u + 1)) (Some r) None) (record_same i d))

  walk_same : (n u i : ℕ) (l : List (Rec (List ℕ))) → walk_from K n (switched true p) u i l ≡ walk_from K n p u i l
  walk_same zero u i l = refl
  walk_same (suc n) u i l =
      let here : Walked (List ℕ) = record { log = l; damage = None } in
      let bad : Walked (List ℕ) = record { log = l; damage = Some i } in
      ap (λ (w : Walked (List ℕ)). cond (ltb u i) here w)
      (ap (λ (o : Option (Rec (List ℕ))). or_else o bad (λ r. walk_from K n (switched true p) u (i + cells_of K r) (r ∷ l))) (at_same u i)
      ∙ else_same (record_at K p u i) bad (λ r. walk_from K n (switched true p) u (i + cells_of K r) (r ∷ l)) (λ r. walk_from K n p u (i + cells_of K r) (r ∷ l))
      (λ r. walk_same n u (i + cells_of K r) (r ∷ l)))

  -- a start by what its walk over the log finds
  abbrev by_walk : Header → Walked (List ℕ) → Verdict (List ℕ)
  by_walk h w =
      guard (not (is_laid_out K.m (shape_of K p) (K.bytes (p.cell 0)))) (refusal 18 0 0)
      (guard (is_there w.damage) (refusal 19 (or_else w.damage 0 (λ i. i)) 0)
      (guard (too_full K p h 0 w.log) (refusal 19 0 0)
      (make (finish_last K (is_good K p h) w.log) nothing done (Some h))))

  pub start-same : start_on K (switched true p) ≡ start_on K p
  start-same =
      let h : Header = header_in (K.bytes (p.cell 0)) in
      ap (by_walk h) (walk_same h.used h.used 1 [])
