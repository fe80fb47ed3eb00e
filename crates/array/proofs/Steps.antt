-- Stores performed one by one.
use Rattle.std.proofs.Common.{◌≡◌, ℕ, List, [], ◌∷◌, ◌++◌, Ok, Err, Result, sym, refl, ap, ◌∙◌, subst, inl, inr}
use mathlib.Core.Path.{subst⁻¹}
use Rattle.backplane.specs.Plane.{Sector, Store, to_block, to_cell}
use Rattle.backplane.specs.Meaning.{Bytes}
use Rattle.backplane.specs.Stores.{place_of, stored_all, CutBy, Cutting}
use Rattle.backplane.proofs.Runs.{stored-append, stored-slots, stored-blocks, stored-cells, stored_on, stored-live, cut-append, cut-after}
use Rattle.faults.specs.declared.fault.ArrayFault.{ArrayFault}
use Rattle.array.specs.Calls.{Performed, PerformedIn, cut_place, fault_at}
use Rattle.array.specs.declared.started.Started.{Started}
use Rattle.array.specs.Ready.{Fits, Kept}

-- the rest after the first stores
pub performed-append : (ss ts : List (Store (List ℕ))) (p m q : Bytes) (r : Result (Unit {0}) ArrayFault) → m ≡ stored_all ss p → Performed ts m r q → Performed (ss ++ ts) p r q
performed-append ss ts p m q (Ok x) e h = h ∙ ap (stored_all ts) e ∙ sym (stored-append ss ts p)
performed-append ss ts p m q (Err f) e h = (h.0, cut-after Sector ss ts p q (cut_place f) (subst (λ (x : Bytes). Cutting Sector ts x q (cut_place f)) e h.1))

-- cut in the first stores
pub performed-cut : (ss ts : List (Store (List ℕ))) (p q : Bytes) (f : ArrayFault) → Performed ss p (Err f) q → Performed (ss ++ ts) p (Err f) q
performed-cut ss ts p q f h = (h.0, cut-append Sector ss ts p q (cut_place f) h.1)

-- one store was cut
pub store-cut : (s : Store (List ℕ)) (p q : Bytes) (f : ArrayFault) → f ≡ fault_at (place_of s) → CutBy Sector s p q → Performed (s ∷ []) p (Err f) q
store-cut s p q f e h = subst⁻¹ (λ (x : ArrayFault). Performed (s ∷ []) p (Err x) q) e (go s h)
  where
    go : (t : Store (List ℕ)) → CutBy Sector t p q → Performed (t ∷ []) p (Err (fault_at (place_of t))) q
    go (to_block d b x) cut = (refl, inl (refl, cut))
    go (to_cell i x) cut = (refl, inl (refl, cut))

-- stores leave the sizes, the power and the lives
pub stored-kept : (ss : List (Store (List ℕ))) (p q : Bytes) → q ≡ stored_all ss p → Kept p q
stored-kept ss p q e = record {
  slots = ap (λ (x : Bytes). x.slots) e ∙ stored-slots ss p;
  blocks = ap (λ (x : Bytes). x.blocks) e ∙ stored-blocks ss p;
  cells = ap (λ (x : Bytes). x.cells) e ∙ stored-cells ss p;
  on = ap (λ (x : Bytes). x.on) e ∙ stored_on ss p;
  live = ap (λ (x : Bytes). x.live) e ∙ stored-live ss p;
}

pub kept-after : (p m q : Bytes) → Kept p m → Kept m q → Kept p q
kept-after p m q a b = record
    { slots = b.slots ∙ a.slots; blocks = b.blocks ∙ a.blocks; cells = b.cells ∙ a.cells; on = b.on ∙ a.on; live = b.live ∙ a.live }

-- a started array goes by the same after stores
pub kept-fits : (p q : Bytes) (s : Started) → Kept p q → Fits p s → Fits q s
kept-fits p q s k f = record {
  on = k.on ∙ f.on;
  slots = f.slots ∙ sym k.slots;
  cells = f.cells ∙ sym k.cells;
  some = f.some;
  few = f.few;
  log = f.log;
  used = f.used;
  columns = f.columns;
}

-- the last of three phases, after the first two
pub performed-last : (a b c : List (Store (List ℕ))) (p m n q : Bytes) (r : Result (Unit {0}) ArrayFault) → m ≡ stored_all a p → n ≡ stored_all b m
    → Performed c n r q → PerformedIn (a ∷ (b ∷ (c ∷ []))) p r q
performed-last a b c p m n q (Ok x) e f h = h ∙ ap (stored_all c) (f ∙ ap (stored_all b) e)
performed-last a b c p m n q (Err x) e f h =
    (h.0, inr (inr (inl (subst (λ (y : Bytes). Cutting Sector c y q (cut_place x)) (f ∙ ap (stored_all b) e) h.1))))
