use Rattle.std.proofs.Common.{◌≡◌, ℕ, ◌<◌, ◌≤◌, get_or, length}
use Rattle.std.specs.Int.Bits.{bit_xor}
use Rattle.bitwise.specs.Bitwise.{product}
use Rattle.bitwise.proofs.add_times.Given as goal

abbrev pub invariant-loop-i : goal.invariant-loop-i
invariant-loop-i g l = (length l.sum ≡ length l.initial.sum) × ((k : ℕ) → k < l.i → get_or l.sum k 0 ≡ bit_xor (get_or l.initial.sum k 0) (product 8 l.w (get_or l.x k 0))) × ((k : ℕ) → l.i ≤ k → get_or l.sum k 0 ≡ get_or l.initial.sum k 0)
