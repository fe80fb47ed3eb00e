-- Blocks and numbers as lists of bytes.
use Rattle.std.specs.Prelude.{ℕ, ◌+◌, ◌*◌, ◌/◌, ◌%◌, List, [], ◌∷◌, ◌++◌, take, drop, bit_xor, slice_index}

-- the sum of two blocks: the exclusive or, place by place, as far as both go
abbrev pub sum_of : List ℕ → List ℕ → List ℕ
sum_of [] ys = []
sum_of (x ∷ xs) [] = []
sum_of (x ∷ xs) (y ∷ ys) = bit_xor x y ∷ sum_of xs ys

-- a number in four bytes, the lowest first
abbrev pub le4 : ℕ → List ℕ
le4 v = v % 256 ∷ (v / 256 % 256 ∷ (v / 65536 % 256 ∷ (v / 16777216 % 256 ∷ [])))

-- the number in the four bytes from a place on
abbrev pub four_at : List ℕ → ℕ → ℕ
four_at xs i = slice_index xs i + slice_index xs (i + 1) * 256 + slice_index xs (i + 2) * 65536 + slice_index xs (i + 3) * 16777216

-- two blocks being added into a third: i bytes are stored, the first i are sums, the others still what the third held
abbrev pub summed_to : List ℕ → List ℕ → ℕ → List ℕ → List ℕ
summed_to xs ys i held = sum_of (take i xs) (take i ys) ++ drop i held
