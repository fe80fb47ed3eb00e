-- The laws of a code over bytes: what every code promises.
use Rattle.std.specs.Prelude.{◌≡◌, ℕ, ◌<◌, ◌≤◌, Bool, true, List, length, replicate, bit_xor}
use Rattle.codes.specs.Code.{Bytes, plus, Apart, solvable, Solves}

pub record ByteLaws (number rows : ℕ) (check : ℕ → List ℕ → ℕ) (solved : ℕ → List ℕ → List Bool → List ℕ) : Type 0 where
  pub named : number < 256
  pub few : (1 ≤ rows) × (rows ≤ 4)
  -- a check is a byte
  pub low : (r : ℕ) (xs : List ℕ) → Bytes xs → check r xs < 256
  -- zeros have the check 0, and the check of a sum is the sum of the checks
  pub zero : (r n : ℕ) → check r (replicate n 0) ≡ 0
  pub additive : (r : ℕ) (xs ys : List ℕ) → length xs ≡ length ys → Bytes xs → Bytes ys → check r (plus xs ys) ≡ bit_xor (check r xs) (check r ys)
  -- two data lists are equal if their coded rows agree outside as many places as there are check rows
  pub apart : Apart check rows
  -- a row that can be solved is solved
  pub solves : (k : ℕ) (row : List ℕ) (lost : List Bool) → solvable rows k (length row) lost ≡ true → Bytes row → Solves check rows k row lost (solved k row lost)
