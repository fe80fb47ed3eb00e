-- The sizes that an array may have.
use Rattle.std.specs.Prelude.{ℕ, ◌+◌, ◌-◌, Bool, cond, ◌&&◌, Some, None, Option, ◌==◌, nat_le}
use Rattle.layout.specs.declared.shape.Shape.{Shape}

-- 2 to 12 data columns, as many slots as columns in all, 1 to 65,536 blocks on a disk, 8 to 4,096 cells
abbrev pub within_limits : ℕ → Shape → Bool
within_limits rows sh =
    (nat_le 2 sh.columns && nat_le sh.columns 12) && (sh.slots == sh.columns + rows
    && ((nat_le 1 sh.blocks && nat_le sh.blocks 65536) && (nat_le 8 sh.cells && nat_le sh.cells 4096)))

-- the shape of an array with so many check rows on a backplane of these sizes: the slots that hold no check hold data
abbrev pub shape_with : ℕ → ℕ → ℕ → ℕ → ℕ → Shape
shape_with code rows slots blocks cells = record { code = code; columns = slots - rows; slots = slots; blocks = blocks; cells = cells }

-- a code has 1 to 4 check rows
abbrev pub rows_fit : ℕ → Bool
rows_fit rows = nat_le 1 rows && nat_le rows 4

-- the shape, if it is within the limits
abbrev pub shape_of : ℕ → ℕ → ℕ → ℕ → ℕ → Option Shape
shape_of code rows slots blocks cells =
    cond (rows_fit rows && within_limits rows (shape_with code rows slots blocks cells)) (Some (shape_with code rows slots blocks cells)) None
