-- Blocks of 512 bytes side by side, one for each column of a row.
use Rattle.std.specs.Prelude.{◌≡◌, ℕ, ◌+◌, ◌*◌, ◌<◌, ◌≤◌, Bool, false, ◌&&◌, List, length, take, drop, ◌≢◌, nat_le, slice_index, slice_index_or}
use Rattle.codes.specs.Code.{solvable}
use Rattle.model.specs.Coding.{solve_bytes}

-- the block at column c
unfoldable pub column_in : List ℕ → ℕ → List ℕ
column_in area c = take 512 (drop (512 * c) area)

-- column c holds x, and every other column what it held
pub record ColumnPut (c : ℕ) (x area after : List ℕ) : Type 0 where
  pub long : length after ≡ length area
  pub here : column_in after c ≡ x
  pub there : (j : ℕ) → (j ≢ c) → column_in after j ≡ column_in area j

-- byte i of the first n columns is as in xs, and every other byte as it was
pub record PlacePut (n i : ℕ) (xs area after : List ℕ) : Type 0 where
  pub long : length after ≡ length area
  pub here : (c : ℕ) → c < n → slice_index after (512 * c + i) ≡ slice_index xs c
  pub there : (j c : ℕ) → j < 512 → (j ≢ i) → slice_index after (512 * c + j) ≡ slice_index area (512 * c + j)
  pub past : (c : ℕ) → n ≤ c → slice_index after (512 * c + i) ≡ slice_index area (512 * c + i)

-- whether a column is lost, by a list of flags
abbrev pub flagged : List Bool → ℕ → Bool
flagged lost c = slice_index_or lost c false

-- the columns of the row solved; what stands past them is as it was
pub record RowSolved (solved : ℕ → List ℕ → List Bool → List ℕ) (k n : ℕ) (lost : List Bool) (area after : List ℕ) : Type 0 where
  pub each : (c : ℕ) → c < n → column_in after c ≡ solve_bytes solved k n (flagged lost) (column_in area) c
  pub past : (c : ℕ) → n ≤ c → column_in after c ≡ column_in area c

-- a row with these flags can be solved in so many bytes
abbrev pub row_solvable : ℕ → ℕ → List Bool → ℕ → Bool
row_solvable rows k lost bytes = solvable rows k (length lost) lost && nat_le (512 * length lost) bytes
