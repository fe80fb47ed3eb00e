-- No call changes how many slots there are.
use Rattle.std.proofs.Common.{◌≡◌, ℕ, Bool, true, false, cond, ltb, List, [], ◌∷◌, None, Option, refl, ap, ◌∙◌, inl, inr}
use Rattle.backplane.specs.Plane.{Sector, Store, to_block, to_cell, stored, switched, fitted}
use Rattle.backplane.specs.Meaning.{Bytes}
use Rattle.backplane.specs.Stores.{stored_all, Cutting}
use Rattle.backplane.specs.declared.fault.Place.{Place}
use Rattle.backplane.proofs.Runs.{stored-slots}
use Rattle.layout.specs.declared.header.Header.{Header}
use Rattle.model.specs.Verdict.{Reply, Last, nothing, fits, pulls, LastOf, Verdict, refuse, guard, power_up, make, Ends}

abbrev slots_of : Bytes → ℕ
slots_of p = p.slots

cut-slots : (ss : List (Store (List ℕ))) (p q : Bytes) (at : Place) → Cutting Sector ss p q at → q.slots ≡ p.slots
cut-slots [] p q at h = absurd h
cut-slots (to_block d b x ∷ ss) p q at (inl h) = ap slots_of h.1.after
cut-slots (to_cell i x ∷ ss) p q at (inl h) = ap slots_of h.1.after
cut-slots (to_block d b x ∷ ss) p q at (inr h) = cut-slots ss (stored (to_block d b x) p) q at h
cut-slots (to_cell i x ∷ ss) p q at (inr h) = cut-slots ss (stored (to_cell i x) p) q at h

pull-slots : (t : Bool) (d : ℕ) (p : Bytes) → slots_of (cond t (fitted d false (λ _. []) p) p) ≡ p.slots
pull-slots true d p = refl
pull-slots false d p = refl

last-slots : (l : Last) (p q : Bytes) → LastOf Sector [] l p q → q.slots ≡ p.slots
last-slots nothing p q h = ap slots_of h
last-slots (fits d) p q h = ap slots_of h.2
last-slots (pulls d) p q h = ap slots_of h ∙ pull-slots (ltb d p.slots) d p

pub ends-slots : (v : Verdict (List ℕ)) (p q : Bytes) (o u : Option Header) (r : Reply (List ℕ)) → Ends Sector [] v p o r q u → q.slots ≡ p.slots
ends-slots (refuse f) p q o u r h = ap slots_of h.1
ends-slots (guard t f v) p q o u r (inl h) = ap slots_of h.2
ends-slots (guard t f v) p q o u r (inr h) = ends-slots v p q o u r h.1
ends-slots (power_up v) p q o u r h = ends-slots v (switched true p) q None u r h
ends-slots (make ss l a n) p q o u r (inl h) = last-slots l (stored_all ss p) q h.1 ∙ stored-slots ss p
ends-slots (make ss l a n) p q o u r (inr h) = cut-slots ss p q h.0 h.2
