use Rattle.std.proofs.Common.{◌≡◌, ℕ, ◌+◌, ◌*◌, ◌<◌, ◌≤◌, length, get_or}
use Rattle.model.specs.Coding.{across}
use Rattle.rows.specs.Columns.{column_in}
use Rattle.rows.proofs.solving.solve_places.Given as goal

abbrev pub invariant-loop-i : goal.invariant-loop-i
invariant-loop-i g l =
    (length l.row ≡ length l.initial.row)
    × ((j c : ℕ) → j < l.i → j < 512 → c < length l.lost → get_or l.row (512 * c + j) 0 ≡ get_or (g.C.Code.solved l.k (across (length l.lost) (column_in l.initial.row) j) l.lost) c 0)
    × ((j c : ℕ) → l.i ≤ j → j < 512 → get_or l.row (512 * c + j) 0 ≡ get_or l.initial.row (512 * c + j) 0)
    × ((j c : ℕ) → j < 512 → length l.lost ≤ c → get_or l.row (512 * c + j) 0 ≡ get_or l.initial.row (512 * c + j) 0)
