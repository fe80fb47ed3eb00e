-- What a code is: check bytes for the data bytes of a row, and the laws that they keep to.
use Rattle.std.specs.Prelude.{◌≡◌, ℕ, zero, suc, ◌+◌, ◌<◌, ◌≤◌, Bool, true, false, cond, not, ◌&&◌, List, [], ◌∷◌, ◌++◌, map, length, take, drop, replicate, ◌==◌, bit_xor, nat_le, nat_lt, slice_index, slice_index_or, slice_set}
use Rattle.std.specs.List.{range_with_len}

-- A list of bytes.
abbrev pub Bytes : List ℕ → Type 0
Bytes xs = (j : ℕ) → slice_index xs j < 256

-- The sum of two lists, place by place.
abbrev pub plus : List ℕ → List ℕ → List ℕ
plus [] ys = []
plus (x ∷ xs) [] = []
plus (x ∷ xs) (y ∷ ys) = bit_xor x y ∷ plus xs ys

-- Data filled up with zeros to 12 columns, and cut there.
abbrev pub filled : List ℕ → List ℕ
filled xs = take 12 (xs ++ replicate 12 0)

-- b at column j, and zeros elsewhere.
abbrev pub alone : ℕ → ℕ → List ℕ
alone j b = slice_set (replicate 12 0) j b

-- What b at column j adds to check row r.
abbrev pub share_of : (ℕ → List ℕ → ℕ) → ℕ → ℕ → ℕ → ℕ → ℕ
share_of check rows r j b = cond (nat_lt r rows && nat_lt j 12) (check r (alone j b)) 0

-- The coded row of the data: the data, then the checks with rows ascending.
abbrev pub coded : (ℕ → List ℕ → ℕ) → ℕ → List ℕ → List ℕ
coded check rows xs = xs ++ map (λ r. check r xs) (range_with_len 0 rows)

-- How many numbers below n pass a test.
abbrev pub count : ℕ → (ℕ → Bool) → ℕ
count zero f = 0
count (suc n) f = cond (f n) 1 0 + count n f

-- Two rows of n bytes agree outside the lost places.
abbrev pub Agree : ℕ → (ℕ → Bool) → List ℕ → List ℕ → Type 0
Agree n lost xs ys = (c : ℕ) → c < n → lost c ≡ false → slice_index xs c ≡ slice_index ys c

-- Two data lists are equal if their coded rows agree outside as many places as there are check rows.
abbrev pub Apart : (ℕ → List ℕ → ℕ) → ℕ → Type 0
Apart check rows =
    (xs ys : List ℕ) (lost : ℕ → Bool) → length xs ≡ length ys → length xs ≤ 12 → Bytes xs → Bytes ys → count (length xs + rows) lost ≤ rows
    → Agree (length xs + rows) lost (coded check rows xs) (coded check rows ys) → xs ≡ ys

-- A place is lost if the list has `true` there; places past its end are kept.
abbrev pub lost_at : List Bool → ℕ → Bool
lost_at lost c = slice_index_or lost c false

abbrev pub lost_count : List Bool → ℕ
lost_count [] = 0
lost_count (b ∷ bs) = cond b 1 0 + lost_count bs

-- A row of n bytes can be solved: k within its limits, n = k + rows, every lost place below n, and no more lost than there are check rows.
abbrev pub solvable : ℕ → ℕ → ℕ → List Bool → Bool
solvable rows k n lost = nat_le 2 k && (nat_le k 12 && (n == k + rows && (lost_count (drop (k + rows) lost) == 0 && nat_le (lost_count lost) rows)))

-- The data agree with the lowest kept check rows, as many as data places are lost.
abbrev pub Lowest : (ℕ → List ℕ → ℕ) → ℕ → ℕ → List ℕ → List Bool → List ℕ → Type 0
Lowest check rows k row lost xs =
    (r : ℕ) → r < rows → lost_at lost (k + r) ≡ false → count r (λ p. not (lost_at lost (k + p))) < count k (lost_at lost) → check r xs ≡ slice_index row (k + r)

-- What solving makes of a row.
pub record Solves (check : ℕ → List ℕ → ℕ) (rows k : ℕ) (row : List ℕ) (lost : List Bool) (out : List ℕ) : Type 0 where
  pub long : length out ≡ length row
  pub bytes : Bytes out
  pub kept : Agree (k + rows) (lost_at lost) out row
  pub lowest : Lowest check rows k row lost (take k out)
  pub made : (r : ℕ) → r < rows → lost_at lost (k + r) ≡ true → slice_index out (k + r) ≡ check r (take k out)

-- A call that solves answers whether the row can be solved, and changes nothing if not.
abbrev pub Solved : ℕ → (ℕ → List ℕ → List Bool → List ℕ) → ℕ → List ℕ → List Bool → Bool → List ℕ → Type 0
Solved rows solved k row lost r out = (r ≡ solvable rows k (length row) lost) × (out ≡ cond (solvable rows k (length row) lost) (solved k row lost) row)

-- No other data agree with the kept data and with the lowest kept check rows.
abbrev pub Only : (ℕ → List ℕ → ℕ) → ℕ → ℕ → List ℕ → List Bool → List ℕ → Type 0
Only check rows k row lost out =
    (xs : List ℕ) → length xs ≡ k → Bytes xs → Agree k (lost_at lost) xs row → Lowest check rows k row lost xs → xs ≡ take k out

-- A coded row of which at most as many places are lost as there are check rows is restored.
abbrev pub Restored : (ℕ → List ℕ → ℕ) → ℕ → ℕ → List ℕ → List Bool → Bool → List ℕ → Type 0
Restored check rows k row lost r out =
    (xs : List ℕ) → length xs ≡ k → 2 ≤ k → k ≤ 12 → Bytes xs → length row ≡ k + rows
    → ((c : ℕ) → k + rows ≤ c → lost_at lost c ≡ false) → count (k + rows) (lost_at lost) ≤ rows
    → Agree (k + rows) (lost_at lost) row (coded check rows xs) → (r ≡ true) × (out ≡ coded check rows xs)

-- The row of n bytes has k data bytes within the limits and a place for each check.
abbrev pub codable : ℕ → ℕ → ℕ → Bool
codable rows k n = nat_le 2 k && (nat_le k 12 && n == k + rows)
