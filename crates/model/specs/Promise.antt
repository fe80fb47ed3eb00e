-- The promise of the array, over every run and every power cut.
use Rattle.std.specs.Prelude.{◌≡◌, ℕ, ◌<◌, Bool, true, List, [], Some}
use Rattle.backplane.specs.Plane.{Sector}
use Rattle.backplane.specs.Meaning.{Sound}
use Rattle.layout.specs.Limits.{within_limits}
use Rattle.layout.specs.Header.{header_bytes}
use Rattle.model.specs.Coding.{Coding, byte_coding}
use Rattle.model.specs.ByteLaws.{ByteLaws}
use Rattle.model.specs.Verdict.{done, answered, Ends}
use Rattle.model.specs.Rules.{first_header, shape_of, formatting}
use Rattle.model.specs.Ledger.{opening}
use Rattle.model.specs.Runs.{Device, Event, fed_all, Ran, RepliesRight, DisksRight}

-- an array just formatted: the sizes are within the limits, the power is on, all slots are live, all blocks are zeros,
-- and cell 0 and the array hold the header of an empty log with all stripes good
pub record Formatted (K : Coding (List ℕ)) (u : Device (List ℕ)) : Type 0 where
  pub sound : Sound u.plane
  pub within : within_limits K.m (shape_of K u.plane) ≡ true
  pub on : u.plane.on ≡ true
  pub live : (d : ℕ) → d < u.plane.slots → u.plane.live d ≡ true
  pub blocks : (d b : ℕ) → d < u.plane.slots → b < u.plane.blocks → u.plane.block d b ≡ K.nil
  pub cell : u.plane.cell 0 ≡ header_bytes (shape_of K u.plane) (first_header u.plane.slots u.plane.blocks)
  pub held : u.held ≡ Some (first_header u.plane.slots u.plane.blocks)

-- what holds after a run from u to v with these events
pub record Kept (K : Coding (List ℕ)) (u : Device (List ℕ)) (es : List (Event (List ℕ))) (v : Device (List ℕ)) : Type 0 where
  pub replies : RepliesRight K u.plane.blocks (opening K.nil u.plane.slots u.plane.blocks) es
  pub disks : DisksRight K u.plane.blocks (fed_all (opening K.nil u.plane.slots u.plane.blocks) es) v.plane

-- with a code of this number, check rows, checks and solving, for every array just formatted and every run of calls on it, with every way
-- in which each may end: the replies are right by the ledger, and so are the disks
abbrev pub Promised : (number rows : ℕ) → (ℕ → List ℕ → ℕ) → (ℕ → List ℕ → List Bool → List ℕ) → Type 0
Promised number rows check solved =
    (k : ℕ) (u : Device (List ℕ)) → Formatted (byte_coding k number rows check solved) u
    → (es : List (Event (List ℕ))) (v : Device (List ℕ)) → Ran (byte_coding k number rows check solved) Sector es u v
    → Kept (byte_coding k number rows check solved) u es v

-- the promise, for every code that keeps its laws
abbrev pub Promise : Type 0
Promise = (number rows : ℕ) (check : ℕ → List ℕ → ℕ) (solved : ℕ → List ℕ → List Bool → List ℕ) → ByteLaws number rows check solved → Promised number rows check solved

-- a format that is done leaves an array just formatted
abbrev pub FormatDone : (number rows : ℕ) → (ℕ → List ℕ → ℕ) → (ℕ → List ℕ → List Bool → List ℕ) → Type 0
FormatDone number rows check solved =
    (k w : ℕ) (u v : Device (List ℕ)) → Sound u.plane
    → Ends Sector [] (formatting (byte_coding k number rows check solved) u.plane w) u.plane u.held (answered done) v.plane v.held
    → Formatted (byte_coding k number rows check solved) v

abbrev pub FormatRight : Type 0
FormatRight = (number rows : ℕ) (check : ℕ → List ℕ → ℕ) (solved : ℕ → List ℕ → List Bool → List ℕ) → ByteLaws number rows check solved → FormatDone number rows check solved
