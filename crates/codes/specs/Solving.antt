-- The steps of solving that all codes share.
use Rattle.std.specs.Prelude.{ℕ, zero, suc, ◌+◌, Bool, cond, List, take, bit_xor, slice_index, slice_set}
use Rattle.codes.specs.Code.{lost_at}

-- The first lost place among the n from c on, or c + n if there is none.
abbrev pub next_lost : List Bool → ℕ → ℕ → ℕ
next_lost lost c zero = c
next_lost lost c (suc n) = cond (lost_at lost c) c (next_lost lost (suc c) n)

-- The lost places among the first n taken as 0.
abbrev pub cleared : List Bool → ℕ → List ℕ → List ℕ
cleared lost zero row = row
cleared lost (suc n) row = cond (lost_at lost n) (slice_set (cleared lost n row) n 0) (cleared lost n row)

-- What check row r lacks to agree with the data.
abbrev pub gap : (ℕ → List ℕ → ℕ) → ℕ → List ℕ → ℕ → ℕ
gap check k row r = bit_xor (slice_index row (k + r)) (check r (take k row))

-- The lost ones of check rows 0 to n - 1 made by f.
abbrev pub remade : (ℕ → ℕ) → ℕ → List Bool → ℕ → List ℕ → List ℕ
remade f k lost zero row = row
remade f k lost (suc n) row = cond (lost_at lost (k + n)) (slice_set (remade f k lost n row) (k + n) (f n)) (remade f k lost n row)

-- The lost checks made from the data.
abbrev pub completed : (ℕ → List ℕ → ℕ) → ℕ → ℕ → List Bool → List ℕ → List ℕ
completed check rows k lost row = remade (λ r. check r (take k row)) k lost rows row
