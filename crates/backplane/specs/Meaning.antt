-- What a backplane's functions answer and leave.
use Rattle.std.specs.Prelude.{◌≡◌, ℕ, ◌<◌, ◌≤◌, Bool, true, false, cond, ◌&&◌, List, length, Some, None, Ok, Err, Option, Result, ◌==◌, nat_lt}
use Rattle.backplane.specs.declared.fault.BackplaneFault.{BackplaneFault}
use Rattle.backplane.specs.declared.fault.BackplaneFault.TheVariants.{Off, NoPlace, Dead, Live, Cut}
use Rattle.backplane.specs.declared.sizes.Sizes.{Sizes}
use Rattle.backplane.specs.Plane.{Plane, Sector, Store, to_block, to_cell, content, placed, stored, fitted}
use Rattle.backplane.specs.Stores.{CutBy, place_of}

-- a backplane by its bytes
abbrev pub Bytes : Type 0
Bytes = Plane (List ℕ)

abbrev pub sizes_of : Bytes → Sizes
sizes_of p = record { slots = p.slots; blocks = p.blocks; cells = p.cells }

-- there is such a place, and 512 bytes are given
abbrev pub has_place : Store (List ℕ) → Bytes → Bool
has_place (to_block d b x) p = nat_lt d p.slots && (nat_lt b p.blocks && length x == 512)
has_place (to_cell c x) p = nat_lt c p.cells && length x == 512

-- the place is on a live disk, or it is a cell
abbrev pub on_live : Store (List ℕ) → Bytes → Bool
on_live (to_block d b x) p = p.live d
on_live (to_cell c x) p = true

-- the first fault that applies to a store, or to a read into the bytes it holds: off, no such place, dead
abbrev pub fault_of : Store (List ℕ) → Bytes → Option BackplaneFault
fault_of s p = cond p.on (cond (has_place s p) (cond (on_live s p) None (Some Dead)) (Some NoPlace)) (Some Off)

-- a store answers r and leaves q
abbrev pub Stored : Store (List ℕ) → Bytes → Result (Unit {0}) BackplaneFault → Bytes → Type 0
Stored s p (Ok _) q = (fault_of s p ≡ None) × (q ≡ stored s p)
Stored s p (Err (Cut at)) q = (fault_of s p ≡ None) × (at ≡ place_of s) × CutBy Sector s p q
Stored s p (Err Off) q = (fault_of s p ≡ Some Off) × (q ≡ p)
Stored s p (Err NoPlace) q = (fault_of s p ≡ Some NoPlace) × (q ≡ p)
Stored s p (Err Dead) q = (fault_of s p ≡ Some Dead) × (q ≡ p)
Stored s p (Err Live) q = ⊥

-- a read of the place of s, whose bytes are those given, answers r, leaves q and the bytes y
abbrev pub Read : Store (List ℕ) → Bytes → Result (Unit {0}) BackplaneFault → Bytes → List ℕ → Type 0
Read s p (Ok _) q y = (fault_of s p ≡ None) × (q ≡ p) × (y ≡ placed s p)
Read s p (Err f) q y = (fault_of s p ≡ Some f) × (q ≡ p) × (y ≡ content s)

-- the first fault that applies to fitting slot d
abbrev pub fit_fault : ℕ → Bytes → Option BackplaneFault
fit_fault d p = cond p.on (cond (nat_lt d p.slots) (cond (p.live d) (Some Live) None) (Some NoPlace)) (Some Off)

-- a disk with any bytes is in slot d
pub record Fitting (d : ℕ) (p q : Bytes) : Type 0 where
  pub fresh : ℕ → List ℕ
  pub whole : (j : ℕ) → j < p.blocks → Sector (fresh j)
  pub after : q ≡ fitted d true fresh p

abbrev pub Fitted : ℕ → Bytes → Result (Unit {0}) BackplaneFault → Bytes → Type 0
Fitted d p (Ok _) q = (fit_fault d p ≡ None) × Fitting d p q
Fitted d p (Err f) q = (fit_fault d p ≡ Some f) × (q ≡ p)

-- what every backplane keeps: 512 bytes for each block of a live slot and for each cell, and no slot beyond the last is live
pub record Sound (p : Bytes) : Type 0 where
  pub blocks : (d b : ℕ) → d < p.slots → b < p.blocks → p.live d ≡ true → Sector (p.block d b)
  pub cells : (c : ℕ) → c < p.cells → Sector (p.cell c)
  pub within : (d : ℕ) → p.slots ≤ d → p.live d ≡ false
