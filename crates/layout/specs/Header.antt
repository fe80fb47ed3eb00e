-- Cell 0: what its bytes are, and when bytes are a cell 0.
use Rattle.std.specs.Prelude.{ℕ, zero, suc, ◌+◌, ◌-◌, ◌*◌, Bool, true, cond, ◌&&◌, List, ◌∷◌, ◌++◌, map, replicate, Some, None, Option, nat_le, nat_lt, slice_index, slice_set}
use Rattle.std.specs.List.{range_with_len, flat_map}
use Rattle.std.specs.Str.{bytes_eq}
use Rattle.layout.specs.Bytes.{le4, four_at}
use Rattle.layout.specs.Limits.{within_limits}
use Rattle.layout.specs.declared.shape.Shape.{Shape}
use Rattle.layout.specs.declared.header.Header.{Header}

-- the first twenty bytes: the identification, the code's number, the sizes, and the count of log cells in use
unfoldable pub front_bytes : Shape → ℕ → List ℕ
front_bytes sh used =
    80 ∷ (76 ∷ (79 ∷ (71 ∷ (sh.code ∷ (sh.columns ∷ (sh.slots ∷ (0 ∷ (le4 sh.blocks ++ (le4 sh.cells ++ le4 used)))))))))

-- the 512 bytes of cell 0: after the front the good stripes of sixteen slots, then zeros
abbrev pub header_bytes : Shape → Header → List ℕ
header_bytes sh h = front_bytes sh h.used ++ (flat_map le4 h.good ++ replicate 428 0)

-- the header that stands in these bytes
abbrev pub good_in : List ℕ → ℕ → ℕ
good_in x d = four_at x (20 + 4 * d)

unfoldable pub goods_in : List ℕ → List ℕ
goods_in x = map (good_in x) (range_with_len 0 16)

abbrev pub header_in : List ℕ → Header
header_in x = record { used = four_at x 16; good = goods_in x }

-- no slot has more good stripes than a disk has blocks, and from the last slot on there are none
unfoldable pub goods_fit : ℕ → ℕ → ℕ → List ℕ → Bool
goods_fit slots blocks zero good = true
goods_fit slots blocks (suc d) good = nat_le (slice_index good d) (cond (nat_lt d slots) blocks 0) && goods_fit slots blocks d good

-- at most as many cells are in use as there are beside cell 0, and the good stripes fit
abbrev pub header_fits : Shape → Header → Bool
header_fits sh h = nat_le h.used (sh.cells - 1) && goods_fit sh.slots sh.blocks 16 h.good

-- cell 0 is as laid out for a code with so many check rows and a backplane of these sizes
abbrev pub is_laid_out : ℕ → Shape → List ℕ → Bool
is_laid_out rows sh x = within_limits rows sh && (header_fits sh (header_in x) && bytes_eq x (header_bytes sh (header_in x)))

-- the header in a cell 0 that is as laid out
abbrev pub header_of : ℕ → Shape → List ℕ → Option Header
header_of rows sh x = cond (is_laid_out rows sh x) (Some (header_in x)) None

-- the header of an array just formatted: the log is empty, and every stripe of each slot is good
abbrev pub first_header : ℕ → ℕ → Header
first_header slots blocks = record { used = 0; good = map (λ d. cond (nat_lt d slots) blocks 0) (range_with_len 0 16) }

-- a header with another count of cells in use, or with other good stripes for a slot
abbrev pub with_used : Header → ℕ → Header
with_used h u = record { used = u; good = h.good }

abbrev pub with_good : Header → ℕ → ℕ → Header
with_good h d g = record { used = h.used; good = slice_set h.good d g }
