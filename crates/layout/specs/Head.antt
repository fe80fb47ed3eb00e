-- The head of a log record.
use Rattle.std.specs.Prelude.{ℕ, ◌+◌, Bool, cond, ◌&&◌, List, ◌∷◌, ◌++◌, replicate, Some, None, Option, nat_lt, slice_index}
use Rattle.std.specs.Str.{bytes_eq}
use Rattle.layout.specs.Bytes.{le4, four_at}
use Rattle.layout.specs.declared.head.Head.{Head}
use Rattle.layout.specs.declared.head.Head.TheVariants.{OfWrite, OfParity}

-- kind, column, two zeros, the stripe, zeros
unfoldable pub head_cell : ℕ → ℕ → ℕ → List ℕ
head_cell kind column stripe = kind ∷ (column ∷ (0 ∷ (0 ∷ (le4 stripe ++ replicate 504 0))))

abbrev pub head_bytes : Head → List ℕ
head_bytes (OfWrite stripe column) = head_cell 1 column stripe
head_bytes (OfParity stripe) = head_cell 2 0 stripe

-- how many cells the record has, its head among them
abbrev pub record_cells : ℕ → Head → ℕ
record_cells rows (OfWrite stripe column) = 3
record_cells rows (OfParity stripe) = 1 + rows

-- the head in these bytes, with k data columns and so many stripes; none where it is damaged
abbrev pub head_in : ℕ → ℕ → List ℕ → Option Head
head_in k stripes x =
    cond (nat_lt (four_at x 4) stripes && (nat_lt (slice_index x 1) k && bytes_eq x (head_cell 1 (slice_index x 1) (four_at x 4)))) (Some (OfWrite (four_at x 4) (slice_index x 1)))
    (cond (nat_lt (four_at x 4) stripes && bytes_eq x (head_cell 2 0 (four_at x 4))) (Some (OfParity (four_at x 4)))
    None)

-- the head is of a stripe and a data column that there are
abbrev pub head_fits : ℕ → ℕ → Head → Bool
head_fits k stripes (OfWrite stripe column) = nat_lt stripe stripes && nat_lt column k
head_fits k stripes (OfParity stripe) = nat_lt stripe stripes
