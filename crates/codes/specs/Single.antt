-- Code 1: one check row, the sum of the data.
use Rattle.std.specs.Prelude.{ℕ, zero, suc, Bool, cond, List, nat_lt, slice_set}
use Rattle.codes.specs.Sums.{total}
use Rattle.codes.specs.Solving.{next_lost, cleared, gap, completed}

abbrev pub single : ℕ → List ℕ → ℕ
single zero xs = total xs
single (suc r) xs = 0

-- A lost data byte, here at i, is what the sum lacks.
abbrev pub fill_one : ℕ → ℕ → List ℕ → List ℕ
fill_one k i z = cond (nat_lt i k) (slice_set z i (gap single k z 0)) z

unfoldable pub data_one : ℕ → List ℕ → List Bool → List ℕ
data_one k row lost = fill_one k (next_lost lost 0 k) (cleared lost k row)

unfoldable pub solved_one : ℕ → List ℕ → List Bool → List ℕ
solved_one k row lost = completed single 1 k lost (data_one k row lost)
