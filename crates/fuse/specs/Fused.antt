-- What a fuse lets through, and what is left of its setting.
use Rattle.std.specs.Prelude.{◌≡◌, ℕ, ◌-◌, min, Bool, true, false, cond, ◌&&◌, ◌⊎◌, List, ◌++◌, take, drop, Some, None, Ok, Err, Option, Result, ◌==◌}
use Rattle.backplane.specs.declared.fault.Place.{Place}
use Rattle.backplane.specs.declared.fault.Place.TheVariants.{OfBlock, OfCell}
use Rattle.backplane.specs.declared.fault.BackplaneFault.{BackplaneFault}
use Rattle.backplane.specs.declared.fault.BackplaneFault.TheVariants.{Off, NoPlace, Dead, Live, Cut}
use Rattle.backplane.specs.Plane.{Sector, Store, to_block, to_cell, content, stored, switched}
use Rattle.backplane.specs.Meaning.{Bytes, fault_of, Stored}
use Rattle.backplane.specs.Stores.{place_of, Leaves, CutBy}
use Rattle.fuse.specs.declared.Setting.{Setting}
use Rattle.fuse.specs.declared.Fuse.{Fuse}

-- the new bytes before t, and the old ones from t on
abbrev pub mixed : ℕ → List ℕ → List ℕ → List ℕ
mixed t new old = take t new ++ drop t old

-- how many new bytes a store that is cut at t leaves: a cell is never mixed
abbrev pub new_at : Place → ℕ → ℕ
new_at (OfBlock d b) t = min t 512
new_at (OfCell c) t = cond (t == 0) 0 512

-- the store that goes below in place of a cut one. A setting has t at most 512
abbrev pub cut_to : ℕ → Store (List ℕ) → Bytes → Store (List ℕ)
cut_to t (to_block d b x) p = to_block d b (mixed (min t 512) x (p.block d b))
cut_to t (to_cell c x) p = to_cell c (cond (t == 0) (p.cell c) x)

-- whether the next store is cut, and then its t
abbrev pub cutting : Option Setting → Option ℕ
cutting None = None
cutting (Some f) = cond (f.passes == 0) (Some f.kept) None

abbrev pub fewer : Setting → Setting
fewer f = record { passes = f.passes - 1; kept = f.kept }

-- a setting after a store that passed it: done or cut below it is counted, refused by a fault it is not
abbrev pub counted : Option Setting → Result (Unit {0}) BackplaneFault → Option Setting
counted None r = None
counted (Some f) (Ok _) = Some (fewer f)
counted (Some f) (Err (Cut _)) = Some (fewer f)
counted (Some f) (Err Off) = Some f
counted (Some f) (Err NoPlace) = Some f
counted (Some f) (Err Dead) = Some f
counted (Some f) (Err Live) = Some f

-- a fuse: its setting, its own power, and what stands below it
pub record Fusing : Type 0 where
  pub setting : Option Setting
  pub on : Bool
  pub below : Bytes

abbrev pub fusing : {B : Type 0} → (B → Bytes) → Fuse B → Fusing
fusing view f = record { setting = f.setting; on = f.on; below = view f.below }

-- the backplane as seen through a fuse: the power is on where both are on
abbrev pub fused : Bool → Bytes → Bytes
fused on p = switched (on && p.on) p

abbrev pub seen : Fusing → Bytes
seen a = fused a.on a.below

-- other bytes below, and the fuse as it was
abbrev pub over : Fusing → Bytes → Fusing
over a p = record { setting = a.setting; on = a.on; below = p }

-- both are on
abbrev pub lit : Fusing → Fusing
lit a = record { setting = a.setting; on = true; below = switched true a.below }

-- the fuse cuts the store s at t. Where the store has no fault, its mixed bytes go below as one store, which is done or cut, and the fuse is
-- spent and its power off. Else nothing changes
abbrev pub CutAt : ℕ → Store (List ℕ) → Fusing → Result (Unit {0}) BackplaneFault → Fusing → Type 0
CutAt t s a (Ok _) z = ⊥
CutAt t s a (Err (Cut at)) z =
    (fault_of s a.below ≡ None) × (at ≡ place_of s) × (z.setting ≡ None) × (z.on ≡ false)
    × Leaves Sector s a.below (content (cut_to t s a.below))
    × ((z.below ≡ stored (cut_to t s a.below) a.below) ⊎ CutBy Sector (cut_to t s a.below) a.below z.below)
CutAt t s a (Err Off) z = (fault_of s a.below ≡ Some Off) × (z ≡ a)
CutAt t s a (Err NoPlace) z = (fault_of s a.below ≡ Some NoPlace) × (z ≡ a)
CutAt t s a (Err Dead) z = (fault_of s a.below ≡ Some Dead) × (z ≡ a)
CutAt t s a (Err Live) z = ⊥

-- a store through the fuse, by the fuse's own power and by whether it cuts this store
abbrev pub Through : Bool → Option ℕ → Store (List ℕ) → Fusing → Result (Unit {0}) BackplaneFault → Fusing → Type 0
Through false cut s a r z = (r ≡ Err Off) × (z ≡ a)
Through true None s a r z = Stored s a.below r z.below × (z.setting ≡ counted a.setting r) × (z.on ≡ true)
Through true (Some t) s a r z = CutAt t s a r z

abbrev pub Fused : Store (List ℕ) → Fusing → Result (Unit {0}) BackplaneFault → Fusing → Type 0
Fused s a r z = Through a.on (cutting a.setting) s a r z
