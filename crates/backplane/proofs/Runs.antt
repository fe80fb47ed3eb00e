-- Lists of stores: one after another, and what they leave as it was.
use Rattle.std.proofs.Common.{◌≡◌, ◌⊎◌, List, [], ◌∷◌, ◌++◌, Some, None, Option, refl, subst, inl, inr}
use Rattle.backplane.specs.declared.fault.Place.{Place}
use Rattle.backplane.specs.Plane.{Plane, Store, to_block, to_cell, stored}
use Rattle.backplane.specs.Stores.{stored_all, place_of, CutBy, Cutting, Performed}

module _ {B : Type 0} where
  pub stored-append : (ss ts : List (Store B)) (p : Plane B) → stored_all (ss ++ ts) p ≡ stored_all ts (stored_all ss p)
  stored-append [] ts p = refl
  stored-append (s ∷ ss) ts p = stored-append ss ts (stored s p)

  -- stores leave the sizes, the power and the lives
  pub stored_on : (ss : List (Store B)) (p : Plane B) → (stored_all ss p).on ≡ p.on
  stored_on [] p = refl
  stored_on (to_block d b x ∷ ss) p = stored_on ss (stored (to_block d b x) p)
  stored_on (to_cell c x ∷ ss) p = stored_on ss (stored (to_cell c x) p)

  pub stored-slots : (ss : List (Store B)) (p : Plane B) → (stored_all ss p).slots ≡ p.slots
  stored-slots [] p = refl
  stored-slots (to_block d b x ∷ ss) p = stored-slots ss (stored (to_block d b x) p)
  stored-slots (to_cell c x ∷ ss) p = stored-slots ss (stored (to_cell c x) p)

  pub stored-blocks : (ss : List (Store B)) (p : Plane B) → (stored_all ss p).blocks ≡ p.blocks
  stored-blocks [] p = refl
  stored-blocks (to_block d b x ∷ ss) p = stored-blocks ss (stored (to_block d b x) p)
  stored-blocks (to_cell c x ∷ ss) p = stored-blocks ss (stored (to_cell c x) p)

  pub stored-cells : (ss : List (Store B)) (p : Plane B) → (stored_all ss p).cells ≡ p.cells
  stored-cells [] p = refl
  stored-cells (to_block d b x ∷ ss) p = stored-cells ss (stored (to_block d b x) p)
  stored-cells (to_cell c x ∷ ss) p = stored-cells ss (stored (to_cell c x) p)

  pub stored-live : (ss : List (Store B)) (p : Plane B) → (stored_all ss p).live ≡ p.live
  stored-live [] p = refl
  stored-live (to_block d b x ∷ ss) p = stored-live ss (stored (to_block d b x) p)
  stored-live (to_cell c x ∷ ss) p = stored-live ss (stored (to_cell c x) p)

module _ {B : Type 0} (Whole : B → Type 0) where
  -- a cut in the first of two lists, and one in the second
  pub cut-append : (ss ts : List (Store B)) (p q : Plane B) (at : Place) → Cutting Whole ss p q at → Cutting Whole (ss ++ ts) p q at
  cut-append [] ts p q at h = absurd h
  cut-append (s ∷ ss) ts p q at (inl h) = inl h
  cut-append (s ∷ ss) ts p q at (inr h) = inr (cut-append ss ts (stored s p) q at h)

  pub cut-after : (ss ts : List (Store B)) (p q : Plane B) (at : Place) → Cutting Whole ts (stored_all ss p) q at → Cutting Whole (ss ++ ts) p q at
  cut-after [] ts p q at h = h
  cut-after (s ∷ ss) ts p q at h = inr (cut-after ss ts (stored s p) q at h)

  -- and no other
  pub cut-either : (ss ts : List (Store B)) (p q : Plane B) (at : Place) → Cutting Whole (ss ++ ts) p q at → Cutting Whole ss p q at ⊎ Cutting Whole ts (stored_all ss p) q at
  cut-either [] ts p q at h = inr h
  cut-either (s ∷ ss) ts p q at (inl h) = inl (inl h)
  cut-either (s ∷ ss) ts p q at (inr h) = elim (cut-either ss ts (stored s p) q at h) [ inl a ↦ inl (inr a) | inr a ↦ inr a ]

  -- the rest after the first store
  pub performed-rest : (s : Store B) (ss : List (Store B)) (p q : Plane B) (r : Option Place) → Performed Whole ss (stored s p) q r → Performed Whole (s ∷ ss) p q r
  performed-rest s ss p q None h = h
  performed-rest s ss p q (Some at) h = inr h

  pub performed-next : (s : Store B) (ss : List (Store B)) (p m q : Plane B) (r : Option Place) → m ≡ stored s p → Performed Whole ss m q r → Performed Whole (s ∷ ss) p q r
  performed-next s ss p m q r e h = performed-rest s ss p q r (subst (λ (x : Plane B). Performed Whole ss x q r) e h)

  -- cut at the first store
  pub performed-cut : (s : Store B) (ss : List (Store B)) (p q : Plane B) (at : Place) → at ≡ place_of s → CutBy Whole s p q → Performed Whole (s ∷ ss) p q (Some at)
  performed-cut s ss p q at e h = inl (e, h)

  -- one list after another
  pub performed-append : (ss ts : List (Store B)) (p q : Plane B) (r : Option Place) → Performed Whole ts (stored_all ss p) q r → Performed Whole (ss ++ ts) p q r
  performed-append [] ts p q r h = h
  performed-append (s ∷ ss) ts p q r h = performed-rest s (ss ++ ts) p q r (performed-append ss ts (stored s p) q r h)
