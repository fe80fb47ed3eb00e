-- From what a fuse promises of a store to what every backplane does.
use Rattle.std.proofs.Common.{◌≡◌, ℕ, Bool, true, false, cond, eqb, ◌&&◌, ◌⊎◌, List, length, ◌++◌, take, Some, None, Ok, Err, Option, Result, sym, refl, ap, ◌∙◌, subst, inl, inr, nat_lt, arith}
use Rattle.std.proofs.lemmas.Option.{none-some}
use Rattle.std.proofs.lemmas.List.{take_all, drop_all, append-nil}
use mathlib.Core.Path.{subst⁻¹}
use Rattle.backplane.specs.declared.fault.Place.{Place}
use Rattle.backplane.specs.declared.fault.Place.TheVariants.{OfBlock, OfCell}
use Rattle.backplane.specs.declared.fault.BackplaneFault.{BackplaneFault}
use Rattle.backplane.specs.declared.fault.BackplaneFault.TheVariants.{Off, NoPlace, Dead, Live, Cut}
use Rattle.backplane.specs.Plane.{Sector, Store, to_block, to_cell, content, placed, put, stored, switched}
use Rattle.backplane.specs.Meaning.{Bytes, fault_of, Stored, Read}
use Rattle.backplane.specs.Stores.{to_place, place_of, Leaves, CutBy}
use Rattle.fuse.specs.Fused.{mixed, new_at, fused, cut_to, cutting, Fusing, Through, Fused}

-- what a store of the mixed bytes leaves, the cut store may leave
either : (t : Bool) (y old new : List ℕ) → (y ≡ old) ⊎ (y ≡ cond t old new) → (y ≡ old) ⊎ (y ≡ new)
either t y old new (inl e) = inl e
either true y old new (inr e) = inl e
either false y old new (inr e) = inr e

leaves : (t : ℕ) (s : Store (List ℕ)) (p : Bytes) (y : List ℕ) → Leaves Sector (cut_to t s p) p y → Leaves Sector s p y
leaves t (to_block d b x) p y h = h
leaves t (to_cell c x) p y h = either (eqb t 0) y (p.cell c) x h

put_same : (t : ℕ) (s : Store (List ℕ)) (p : Bytes) (y : List ℕ) → put (cut_to t s p) y p ≡ put s y p
put_same t (to_block d b x) p y = refl
put_same t (to_cell c x) p y = refl

left_by : (t : ℕ) (s : Store (List ℕ)) (p q : Bytes) → Leaves Sector s p (content (cut_to t s p))
    → (q ≡ stored (cut_to t s p) p) ⊎ CutBy Sector (cut_to t s p) p q → CutBy Sector s p (switched false q)
left_by t s p q h (inl e) = record { left = content (cut_to t s p); may = h; after = ap (switched false) (e ∙ put_same t s p (content (cut_to t s p))) }
left_by t s p q h (inr e) = record { left = e.left; may = leaves t s p e.left e.may; after = ap (switched false) e.after ∙ ap (switched false) (put_same t s p e.left) }

unchanged : (on : Bool) (a z : Fusing) → on ≡ a.on → z ≡ a → fused z.on z.below ≡ fused on a.below
unchanged on a z e h = ap (λ (x : Fusing). fused x.on x.below) h ∙ ap (λ (o : Bool). fused o a.below) (sym e)

through : (on : Bool) (cut : Option ℕ) (s : Store (List ℕ)) (a z : Fusing) (r : Result (Unit {0}) BackplaneFault) → on ≡ a.on
    → Through on cut s a r z → Stored s (fused on a.below) r (fused z.on z.below)
through false cut s a z r e h =
    subst⁻¹ (λ (x : Result (Unit {0}) BackplaneFault). Stored s (fused false a.below) x (fused z.on z.below)) h.0 (refl, unchanged false a z e h.1)
through true None s a z r e h = rw h.2 h.0
through true (Some t) s a z (Ok _) e h = absurd h
through true (Some t) s a z (Err (Cut at)) e h = (h.0, h.1, rw h.3 (left_by t s a.below z.below h.4 h.5))
through true (Some t) s a z (Err Off) e h = (h.0, unchanged true a z e h.1)
through true (Some t) s a z (Err NoPlace) e h = (h.0, unchanged true a z e h.1)
through true (Some t) s a z (Err Dead) e h = (h.0, unchanged true a z e h.1)
through true (Some t) s a z (Err Live) e h = h

pub store-meant : (s : Store (List ℕ)) (a z : Fusing) (r : Result (Unit {0}) BackplaneFault) → Fused s a r z → Stored s (fused a.on a.below) r (fused z.on z.below)
store-meant s a z r h = through a.on (cutting a.setting) s a z r refl h

-- the place and the fault of a store, whatever its 512 bytes are
pub place-is : (at : Place) (x : List ℕ) → at ≡ place_of (to_place at x)
place-is (OfBlock d b) x = refl
place-is (OfCell c) x = refl

same-fault : (at : Place) (x y : List ℕ) (p : Bytes) → length x ≡ length y → fault_of (to_place at x) p ≡ fault_of (to_place at y) p
same-fault (OfBlock d b) x y p e =
    ap (λ (n : ℕ). cond p.on (cond (nat_lt d p.slots && (nat_lt b p.blocks && eqb n 512)) (cond (p.live d) None (Some Dead)) (Some NoPlace)) (Some Off)) e
same-fault (OfCell c) x y p e = ap (λ (n : ℕ). cond p.on (cond (nat_lt c p.cells && eqb n 512) None (Some NoPlace)) (Some Off)) e

done_or_cut : (s : Store (List ℕ)) (p q : Bytes) (r : Result (Unit {0}) BackplaneFault) → fault_of s p ≡ None → Stored s p r q → (q ≡ stored s p) ⊎ CutBy Sector s p q
done_or_cut s p q (Ok _) e h = inl h.1
done_or_cut s p q (Err (Cut at)) e h = inr h.2
done_or_cut s p q (Err Off) e h = absurd (none-some _ (sym e ∙ h.0))
done_or_cut s p q (Err NoPlace) e h = absurd (none-some _ (sym e ∙ h.0))
done_or_cut s p q (Err Dead) e h = absurd (none-some _ (sym e ∙ h.0))
done_or_cut s p q (Err Live) e h = absurd h

-- what a cut store sends below
module _ (t : ℕ) where
  of_cell : (b : Bool) (x old : List ℕ) → length x ≡ 512 → length old ≡ 512 → mixed (cond b 0 512) x old ≡ cond b old x
  of_cell true x old e f = refl
  of_cell false x old e f = ap (λ (z : List ℕ). take 512 x ++ z) (drop_all 512 old (omega arith)) ∙ append-nil (take 512 x) ∙ take_all 512 x (omega arith)

  sent : (at : Place) (x : List ℕ) (p : Bytes) → length x ≡ 512 → length (placed (to_place at x) p) ≡ 512
      → to_place at (mixed (new_at at t) x (placed (to_place at x) p)) ≡ cut_to t (to_place at x) p
  sent (OfBlock d b) x p e f = refl
  sent (OfCell c) x p e f = ap (to_cell c) (of_cell (eqb t 0) x (p.cell c) e f)

  old_or_new : (b : Bool) (old new : List ℕ) → (cond b old new ≡ old) ⊎ (cond b old new ≡ new)
  old_or_new true old new = inl refl
  old_or_new false old new = inr refl

  may : (at : Place) (x : List ℕ) (p : Bytes) → Sector (content (cut_to t (to_place at x) p)) → Leaves Sector (to_place at x) p (content (cut_to t (to_place at x) p))
  may (OfBlock d b) x p w = w
  may (OfCell c) x p w = old_or_new (eqb t 0) (p.cell c) x

  content-is : (at : Place) (y : List ℕ) → content (to_place at y) ≡ y
  content-is (OfBlock d b) y = refl
  content-is (OfCell c) y = refl

  placed-is : (at : Place) (x y : List ℕ) (p : Bytes) → placed (to_place at x) p ≡ placed (to_place at y) p
  placed-is (OfBlock d b) x y p = refl
  placed-is (OfCell c) x y p = refl

  -- the place was read into `old`, from bytes of the same length
  pub cut-done : (at : Place) (x z old y : List ℕ) (p m q : Bytes) (r : Result (Unit {0}) BackplaneFault)
      → Read (to_place at z) p (Ok tt) m old → length x ≡ 512 → length z ≡ 512 → length old ≡ 512
      → y ≡ mixed (new_at at t) x old → Sector y → Stored (to_place at y) m r q
      → (fault_of (to_place at x) p ≡ None) × Leaves Sector (to_place at x) p (content (cut_to t (to_place at x) p))
      × ((q ≡ stored (cut_to t (to_place at x) p) p) ⊎ CutBy Sector (cut_to t (to_place at x) p) p q)
  cut-done at x z old y p m q r h lx lz lo e w s =
      let o : old ≡ placed (to_place at x) p = h.2 ∙ placed-is at z x p in
      let k : to_place at y ≡ cut_to t (to_place at x) p = ap (to_place at) (e ∙ ap (mixed (new_at at t) x) o) ∙ sent at x p lx (ap length (sym o) ∙ lo) in
      let free : fault_of (to_place at y) p ≡ None = same-fault at y z p (w.0 ∙ sym lz) ∙ h.0 in
      let s' : Stored (to_place at y) p r q = subst (λ (a : Bytes). Stored (to_place at y) a r q) h.1 s in (
        same-fault at x z p (lx ∙ sym lz) ∙ h.0,
        may at x p (subst Sector (sym (content-is at y) ∙ ap content k) w),
        subst (λ (c : Store (List ℕ)). (q ≡ stored c p) ⊎ CutBy Sector c p q) k (done_or_cut (to_place at y) p q r free s'),
      )
