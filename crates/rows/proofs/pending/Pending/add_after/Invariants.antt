use Rattle.std.proofs.Common.{◌≡◌, ℕ, ◌+◌, ◌-◌, ◌<◌}
use Rattle.parity_log.specs.Codes.{coding}
use Rattle.parity_log.specs.Walks.{rest, resume_at}
use Rattle.rows.specs.Columns.{column_in, flagged}
use Rattle.rows.specs.Shares.{grow_step}
use Rattle.rows.proofs.pending.Pending.add_after.Given as goal

abbrev pub invariant-loop-at : goal.invariant-loop-at
invariant-loop-at g l =
    let v = g.B.Backplane.view l.fn.plane in
    let K = coding g.C.Code l.self.log.columns in
    let u = l.self.log.used in
    record {
      view : g.B.Backplane.view l.plane ≡ v;
      log : l.records.log ≡ l.self.log;
      grown : (c : ℕ) → c < l.self.log.columns + g.C.Code.ROWS → rest K (grow_step K v (flagged l.self.leave.now) l.self.stripe c) v u l.records.at (column_in l.row c) ≡ rest K (grow_step K v (flagged l.self.leave.now) l.self.stripe c) v u (resume_at K l.fn.last) (column_in l.fn.row c);
    }

abbrev pub decreases-loop-at : goal.decreases-loop-at
decreases-loop-at g l = l.self.log.used + 1 - l.records.at
