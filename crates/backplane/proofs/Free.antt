-- What a fault's absence says, and which faults there can be.
use Rattle.std.proofs.Common.{◌≡◌, ℕ, ◌<◌, Bool, true, false, cond, ◌&&◌, eqb, ltb, List, length, Some, None, Err, Option, refl, arith}
use Rattle.std.proofs.lemmas.Bool.{ltb-true, eqb-true, and_parts}
use Rattle.backplane.specs.declared.fault.BackplaneFault.{BackplaneFault}
use Rattle.backplane.specs.declared.fault.BackplaneFault.TheVariants.{Off, NoPlace, Dead, Live, Cut}
use Rattle.backplane.specs.Plane.{Store, to_block, to_cell}
use Rattle.backplane.specs.Meaning.{Bytes, has_place, on_live, fault_of, fit_fault, Stored}

-- a test that was passed
pass : (t : Bool) (u : Option BackplaneFault) (f : BackplaneFault) → cond t u (Some f) ≡ None → (t ≡ true) × (u ≡ None)
pass true u f h = (refl, h)
pass false u f h = absurd (let z : ◌≡◌ {A = ℕ} 0 1 = cc in omega arith)

pub record FreeBlock (p : Bytes) (d b : ℕ) (x : List ℕ) : Type 0 where
  pub on : p.on ≡ true
  pub slot : d < p.slots
  pub block : b < p.blocks
  pub long : length x ≡ 512
  pub live : p.live d ≡ true

pub free-block : (p : Bytes) (d b : ℕ) (x : List ℕ) → fault_of (to_block d b x) p ≡ None → FreeBlock p d b x
free-block p d b x h =
    let on = pass p.on (cond (has_place (to_block d b x) p) (cond (p.live d) None (Some Dead)) (Some NoPlace)) Off h in
    let place = pass (has_place (to_block d b x) p) (cond (p.live d) None (Some Dead)) NoPlace on.1 in
    let live = pass (p.live d) None Dead place.1 in
    let sizes = and_parts (ltb d p.slots) (ltb b p.blocks && eqb (length x) 512) place.0 in
    let rest = and_parts (ltb b p.blocks) (eqb (length x) 512) sizes.1 in
    record { on = on.0; slot = ltb-true d p.slots sizes.0; block = ltb-true b p.blocks rest.0; long = eqb-true (length x) 512 rest.1; live = live.0 }

pub record FreeCell (p : Bytes) (c : ℕ) (x : List ℕ) : Type 0 where
  pub on : p.on ≡ true
  pub cell : c < p.cells
  pub long : length x ≡ 512

pub free-cell : (p : Bytes) (c : ℕ) (x : List ℕ) → fault_of (to_cell c x) p ≡ None → FreeCell p c x
free-cell p c x h =
    let on = pass p.on (cond (has_place (to_cell c x) p) None (Some NoPlace)) Off h in
    let place = pass (has_place (to_cell c x) p) None NoPlace on.1 in
    let sizes = and_parts (ltb c p.cells) (eqb (length x) 512) place.0 in
    record { on = on.0; cell = ltb-true c p.cells sizes.0; long = eqb-true (length x) 512 sizes.1 }

pub record FreeSlot (p : Bytes) (d : ℕ) : Type 0 where
  pub on : p.on ≡ true
  pub slot : d < p.slots
  pub dead : p.live d ≡ false

free-life : (t : Bool) → cond t (Some Live) None ≡ None → t ≡ false
free-life true h = absurd (let z : ◌≡◌ {A = ℕ} 0 1 = cc in omega arith)
free-life false h = refl

pub free-slot : (p : Bytes) (d : ℕ) → fit_fault d p ≡ None → FreeSlot p d
free-slot p d h =
    let on = pass p.on (cond (ltb d p.slots) (cond (p.live d) (Some Live) None) (Some NoPlace)) Off h in
    let place = pass (ltb d p.slots) (cond (p.live d) (Some Live) None) NoPlace on.1 in
    record { on = on.0; slot = ltb-true d p.slots place.0; dead = free-life (p.live d) place.1 }

-- a store's fault is neither a cut nor a live disk
abbrev OfStore : BackplaneFault → Type 0
OfStore Off = Unit {0}
OfStore NoPlace = Unit {0}
OfStore Dead = Unit {0}
OfStore Live = ⊥
OfStore (Cut _) = ⊥

abbrev AtMost : Option BackplaneFault → Type 0
AtMost None = Unit {0}
AtMost (Some f) = OfStore f

at_most : (on place live : Bool) → AtMost (cond on (cond place (cond live None (Some Dead)) (Some NoPlace)) (Some Off))
at_most true true true = tt
at_most true true false = tt
at_most true false live = tt
at_most false place live = tt

pub of-store : (s : Store (List ℕ)) (p : Bytes) (f : BackplaneFault) → fault_of s p ≡ Some f → OfStore f
of-store s p f e = let m : AtMost (fault_of s p) = at_most p.on (has_place s p) (on_live s p) in rw e at m

pub faulted : (s : Store (List ℕ)) (p q : Bytes) (f : BackplaneFault) → fault_of s p ≡ Some f → q ≡ p → Stored s p (Err f) q
faulted s p q Off e h = (e, h)
faulted s p q NoPlace e h = (e, h)
faulted s p q Dead e h = (e, h)
faulted s p q Live e h = of-store s p Live e
faulted s p q (Cut at) e h = absurd (of-store s p (Cut at) e)
