-- Appending a record to the log, in phases: its cells, cell 0 with the new count, and what finishes it.
use Rattle.std.specs.Prelude.{ℕ, suc, ◌+◌, Bool, List, [], ◌∷◌}
use Rattle.backplane.specs.Plane.{Store, to_cell}
use Rattle.backplane.specs.Meaning.{Bytes}
use Rattle.layout.specs.declared.header.Header.{Header}
use Rattle.model.specs.Coding.{Coding}
use Rattle.model.specs.Log.{Rec, cells_for}
use Rattle.array.specs.Starts.{to_good}
use Rattle.model.specs.Rules.{to_cells, to_header, finish, is_good, grown}

-- by the rules
abbrev pub appending : Coding (List ℕ) → Bytes → Header → Rec (List ℕ) → List (List (Store (List ℕ)))
appending K p h r = to_cells (suc h.used) (cells_for K r) ∷ ((to_header K p (grown K p h r) ∷ []) ∷ (finish K (is_good K p h) r ∷ []))

-- a write record of column c of stripe s after so many cells in use, by the bytes of its head, of its delta, of the block and of cell 0,
-- in an array with n slots, these lives and the header h before it
abbrev pub write_stores : ℕ → (ℕ → Bool) → Header → ℕ → ℕ → List ℕ → List ℕ → List ℕ → List ℕ → List (List (Store (List ℕ)))
write_stores n live h s c head delta image cell =
    (to_cell (h.used + 1) head ∷ (to_cell (h.used + 2) delta ∷ (to_cell (h.used + 3) image ∷ [])))
    ∷ ((to_cell 0 cell ∷ []) ∷ (to_good n live h s c image ∷ []))
