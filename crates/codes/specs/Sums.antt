-- Sums over the columns of a row.
use Rattle.std.specs.Prelude.{ℕ, zero, suc, ◌*◌, List, bit_xor, slice_index}
use Rattle.field.specs.Field.{exp, times}

-- f(0) + .. + f(n - 1)
unfoldable pub sum_to : ℕ → (ℕ → ℕ) → ℕ
sum_to zero f = 0
sum_to (suc n) f = bit_xor (f n) (sum_to n f)

-- The sum of the 12 columns; one past the list's end is 0.
unfoldable pub total : List ℕ → ℕ
total xs = sum_to 12 (λ j. slice_index xs j)

-- The sum of E(s·j) times column j over the 12 columns j.
unfoldable pub weighted : ℕ → List ℕ → ℕ
weighted s xs = sum_to 12 (λ j. times (exp (s * j)) (slice_index xs j))
