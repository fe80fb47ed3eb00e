-- One bit for each stripe, eight to a byte.
use Rattle.std.specs.Prelude.{ℕ, ◌/◌, ◌%◌, ◌^◌, Bool, List, ◌==◌, slice_index}

-- bit j of a byte
abbrev pub bit_of : ℕ → ℕ → Bool
bit_of v j = v / 2 ^ j % 2 == 1

-- whether a stripe is marked
abbrev pub marked : List ℕ → ℕ → Bool
marked xs s = bit_of (slice_index xs (s / 8)) (s % 8)
