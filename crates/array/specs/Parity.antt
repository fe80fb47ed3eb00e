-- A parity record in the log, in phases: its cells, cell 0 with the new count, and what finishes it.
use Rattle.std.specs.Prelude.{ℕ, zero, suc, ◌+◌, Bool, List, [], ◌∷◌}
use Rattle.backplane.specs.Plane.{Store, to_cell}
use Rattle.layout.specs.declared.header.Header.{Header}
use Rattle.rows.specs.Columns.{column_in}
use Rattle.array.specs.Starts.{to_good_checks}

-- so many check blocks of a row with k data columns, from check row r on, in the cells from cell i on
abbrev pub row_cells : ℕ → List ℕ → ℕ → ℕ → ℕ → List (Store (List ℕ))
row_cells k row i zero r = []
row_cells k row i (suc m) r = to_cell (i + r) (column_in row (k + r)) ∷ row_cells k row i m (r + 1)

-- a parity record of stripe s after the cells in use, by the bytes of its head, of the row and of cell 0, in an array with n slots,
-- k data columns, m check rows, these lives and the header h before it
abbrev pub parity_stores : ℕ → ℕ → ℕ → (ℕ → Bool) → Header → ℕ → List ℕ → List ℕ → List ℕ → List (List (Store (List ℕ)))
parity_stores n k m live h s head row cell =
    (to_cell (h.used + 1) head ∷ row_cells k row (h.used + 2) m 0)
    ∷ ((to_cell 0 cell ∷ []) ∷ (to_good_checks n k live h s (λ r. column_in row (k + r)) m 0 ∷ []))
