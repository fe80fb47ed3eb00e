use Rattle.std.proofs.Common.{◌≡◌, ℕ, ◌+◌, ◌<◌, ◌≤◌, length}
use Rattle.parity_log.specs.Codes.{coding}
use Rattle.rows.specs.Columns.{column_in, flagged}
use Rattle.rows.specs.Shares.{shared_to}
use Rattle.rows.proofs.pending.Delta.add_shares.Given as goal

abbrev pub invariant-loop-r : goal.invariant-loop-r
invariant-loop-r g l =
    (length l.row ≡ length l.initial.row)
    × ((c : ℕ) → c < l.self.columns + l.r → column_in l.row c ≡ shared_to (coding g.C.Code l.self.columns) (flagged l.leave) l.self.column l.self.bytes.now c (column_in l.initial.row c))
    × ((c : ℕ) → l.self.columns + l.r ≤ c → column_in l.row c ≡ column_in l.initial.row c)
