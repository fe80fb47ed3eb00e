-- What a memory backplane holds, and what each of its functions leaves, to the byte.
use Rattle.std.specs.Prelude.{◌≡◌, ℕ, ◌+◌, ◌*◌, ◌≤◌, Bool, true, false, cond, List, length, replicate, Some, None, Ok, Err, Result, nat_lt, slice_set}
use Rattle.backplane.specs.declared.fault.BackplaneFault.{BackplaneFault}
use Rattle.backplane.specs.Plane.{Store, to_block, to_cell, content}
use Rattle.backplane.specs.Meaning.{Bytes, fault_of, fit_fault}
use Rattle.memory.specs.declared.Memory.{Memory}
use Rattle.memory.specs.Lent.{part, with_part, block_at, cell_at, fits_memory, laid_out}

pub record Held : Type 0 where
  pub bytes : List ℕ
  -- as given; in force they are only where they fit the bytes
  pub slots : ℕ
  pub blocks : ℕ
  pub cells : ℕ
  pub on : Bool
  pub live : List Bool

abbrev pub held_by : Memory → Held
held_by m = record { bytes = m.bytes.now; slots = m.given.slots; blocks = m.given.blocks; cells = m.given.cells; on = m.on; live = m.live }

-- a size in force: 0 where the sizes do not fit the lent bytes
abbrev pub in_force : Held → ℕ → ℕ
in_force h x = cond (fits_memory h.slots h.blocks h.cells (length h.bytes)) x 0

-- the view of a backplane
abbrev pub view_of : Held → Bytes
view_of h = laid_out h.bytes (in_force h h.slots) (in_force h h.blocks) (in_force h h.cells) h.on h.live

abbrev pub with_bytes : List ℕ → Held → Held
with_bytes x h = record { bytes = x; slots = h.slots; blocks = h.blocks; cells = h.cells; on = h.on; live = h.live }

abbrev pub with_lives : List Bool → Held → Held
with_lives x h = record { bytes = h.bytes; slots = h.slots; blocks = h.blocks; cells = h.cells; on = h.on; live = x }

abbrev pub powered : Held → Held
powered h = record { bytes = h.bytes; slots = h.slots; blocks = h.blocks; cells = h.cells; on = true; live = h.live }

-- the first byte of the place of a store
abbrev pub place_in : Store (List ℕ) → Held → ℕ
place_in (to_block d b _) h = block_at (in_force h h.blocks) d b
place_in (to_cell c _) h = cell_at (in_force h h.slots) (in_force h h.blocks) c

-- a place was found, or there is a fault
abbrev pub Placed : Store (List ℕ) → Held → Result ℕ BackplaneFault → Type 0
Placed s h (Ok at) = (fault_of s (view_of h) ≡ None) × (at ≡ place_in s h) × (at + 512 ≤ length h.bytes) × (length (content s) ≡ 512)
Placed s h (Err f) = fault_of s (view_of h) ≡ Some f

-- 512 bytes are stored at that place and no other byte changes, or nothing changes
abbrev pub StoredIn : Store (List ℕ) → Held → Result (Unit {0}) BackplaneFault → Held → Type 0
StoredIn s h (Ok _) k = (fault_of s (view_of h) ≡ None) × (k ≡ with_bytes (with_part (place_in s h) 512 (content s) h.bytes) h)
StoredIn s h (Err f) k = (fault_of s (view_of h) ≡ Some f) × (k ≡ h)

-- the 512 bytes at that place are read into y
abbrev pub ReadFrom : Store (List ℕ) → Held → Result (Unit {0}) BackplaneFault → List ℕ → Type 0
ReadFrom s h (Ok _) y = (fault_of s (view_of h) ≡ None) × (y ≡ part h.bytes (place_in s h))
ReadFrom s h (Err f) y = (fault_of s (view_of h) ≡ Some f) × (y ≡ content s)

-- every byte of every block of slot d is 229, and the slot is live
abbrev pub filled : ℕ → Held → Held
filled d h =
    with_lives (slice_set h.live d true)
    (with_bytes (with_part (block_at (in_force h h.blocks) d 0) (512 * in_force h h.blocks) (replicate (512 * in_force h h.blocks) 229) h.bytes) h)

abbrev pub FittedIn : ℕ → Held → Result (Unit {0}) BackplaneFault → Held → Type 0
FittedIn d h (Ok _) k = (fit_fault d (view_of h) ≡ None) × (k ≡ filled d h)
FittedIn d h (Err f) k = (fit_fault d (view_of h) ≡ Some f) × (k ≡ h)

abbrev pub pulled_in : ℕ → Held → Held
pulled_in d h = cond (nat_lt d (in_force h h.slots)) (with_lives (slice_set h.live d false) h) h
