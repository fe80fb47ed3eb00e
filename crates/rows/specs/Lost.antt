-- Which columns of a stripe are lost, as flags.
use Rattle.std.specs.Prelude.{ℕ, Bool, ◌&&◌, List, map, nat_lt}
use Rattle.std.specs.List.{range_with_len}
use Rattle.model.specs.Row.{lost_at}

-- column c is one of n columns, and lost
abbrev pub is_lost_of : ℕ → (ℕ → Bool) → (ℕ → ℕ) → ℕ → ℕ → Bool
is_lost_of n live good s c = nat_lt c n && lost_at n live good s c

-- a flag for each of sixteen columns
unfoldable pub lost_flags : ℕ → (ℕ → Bool) → (ℕ → ℕ) → ℕ → List Bool
lost_flags n live good s = map (is_lost_of n live good s) (range_with_len 0 16)
