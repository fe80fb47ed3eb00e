-- A code as the rules use it: its sizes and its operations on whole blocks. `B` is what stands in a block or a cell.
use Rattle.std.specs.Prelude.{ℕ, ◌+◌, Bool, cond, List, map, replicate, ◌==◌, nat_lt, slice_index}
use Rattle.std.specs.List.{range_with_len}
use Rattle.layout.specs.Bytes.{sum_of}

pub record Coding (B : Type 0) : Type 0 where
  -- the data columns, the check columns, and the code's number
  pub k : ℕ
  pub m : ℕ
  pub number : ℕ
  -- the sum of two blocks, and the block of zeros
  pub add : B → B → B
  pub nil : B
  -- the check block of a row, by check row and the data blocks by column; only the columns below k count
  pub check : ℕ → (ℕ → B) → B
  -- the row with its lost columns filled in: which columns are lost, the row, and the column asked for
  pub solve : (ℕ → Bool) → (ℕ → B) → ℕ → B
  -- the block with these bytes, and the bytes of a block
  pub pack : List ℕ → B
  pub bytes : B → List ℕ

module _ {B : Type 0} (K : Coding B) where
  -- all columns
  abbrev pub width : ℕ
  width = K.k + K.m

  -- x at column j and zeros elsewhere
  abbrev pub only : ℕ → B → ℕ → B
  only j x i = cond (i == j) x K.nil

  -- what a block in column j contributes to check row r
  abbrev pub share : ℕ → ℕ → B → B
  share r j x = K.check r (only j x)

  -- the first m of some blocks
  abbrev pub check_rows : (ℕ → B) → ℕ → B
  check_rows f r = cond (nat_lt r K.m) (f r) K.nil

-- the bytes at place i of the first n of some blocks
abbrev pub across : ℕ → (ℕ → List ℕ) → ℕ → List ℕ
across n d i = map (λ j. slice_index (d j) i) (range_with_len 0 n)

-- a block of zeros
unfoldable pub zeros : List ℕ
zeros = replicate 512 0

-- the check block of k data blocks, byte by byte
unfoldable pub check_bytes : (ℕ → List ℕ → ℕ) → ℕ → ℕ → (ℕ → List ℕ) → List ℕ
check_bytes check k r d = map (λ i. check r (across k d i)) (range_with_len 0 512)

-- column c of n blocks of which some are lost, solved byte by byte
unfoldable pub solve_bytes : (ℕ → List ℕ → List Bool → List ℕ) → ℕ → ℕ → (ℕ → Bool) → (ℕ → List ℕ) → ℕ → List ℕ
solve_bytes solved k n lost raw c = map (λ i. slice_index (solved k (across n raw i) (map lost (range_with_len 0 n))) c) (range_with_len 0 512)

-- the code over bytes: from its number, its check rows, the check byte of a list of data bytes, and the row solved,
-- which takes the data columns, the row of bytes and which of them are lost
abbrev pub byte_coding : ℕ → ℕ → ℕ → (ℕ → List ℕ → ℕ) → (ℕ → List ℕ → List Bool → List ℕ) → Coding (List ℕ)
byte_coding k number rows check solved = record {
  k = k;
  m = rows;
  number = number;
  add = sum_of;
  nil = zeros;
  check = check_bytes check k;
  solve = solve_bytes solved k (k + rows);
  pack = λ x. x;
  bytes = λ x. x;
}
