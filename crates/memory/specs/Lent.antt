-- How a backplane lies in a row of bytes.
use Rattle.std.specs.Prelude.{ℕ, ◌+◌, ◌*◌, Bool, false, cond, ◌&&◌, List, [], ◌++◌, take, drop, ◌==◌, nat_le, nat_lt, slice_index_or}
use Rattle.backplane.specs.Meaning.{Bytes}

-- the 512 bytes from a place on
abbrev pub part : List ℕ → ℕ → List ℕ
part bytes at = take 512 (drop at bytes)

-- the bytes with x in place of the w bytes from a place on
abbrev pub with_part : ℕ → ℕ → List ℕ → List ℕ → List ℕ
with_part at w x bytes = take at bytes ++ (x ++ drop w (drop at bytes))

-- where block b of slot d begins, of s blocks a slot; the cells follow the blocks of all n slots
abbrev pub block_at : ℕ → ℕ → ℕ → ℕ
block_at s d b = 512 * (d * s + b)

abbrev pub cell_at : ℕ → ℕ → ℕ → ℕ
cell_at n s c = 512 * (n * s + c)

-- the sizes are within the limits, and the lent bytes are as many as they ask for
abbrev pub fits_memory : ℕ → ℕ → ℕ → ℕ → Bool
fits_memory n s c len =
    (nat_le 3 n && nat_le n 16) && ((nat_le 1 s && nat_le s 65536) && ((nat_le 8 c && nat_le c 4096) && len == 512 * (n * s + c)))

abbrev pub alive : ℕ → List Bool → ℕ → Bool
alive n live d = nat_lt d n && slice_index_or live d false

-- a backplane of these sizes in these bytes; what is on a dead slot is gone
abbrev pub laid_out : List ℕ → ℕ → ℕ → ℕ → Bool → List Bool → Bytes
laid_out bytes n s c on live = record {
  slots = n;
  blocks = s;
  cells = c;
  on = on;
  live = alive n live;
  block = λ d b. cond (alive n live d && nat_lt b s) (part bytes (block_at s d b)) [];
  cell = λ i. cond (nat_lt i c) (part bytes (cell_at n s i)) [];
}
