use Rattle.std.proofs.Common.{ℕ, List, Option, ap, ◌∙◌}
use Rattle.backplane.specs.Meaning.{Bytes}
use Rattle.parity_log.specs.Codes.{coding}
use Rattle.parity_log.specs.Walks.{resume_at, rest}
use Rattle.rows.specs.Columns.{column_in, flagged}
use Rattle.rows.specs.Shares.{grow_step}
use Rattle.rows.proofs.Placed.{length-column}
use Rattle.rows.proofs.Grown.{grown-is}
use Rattle.rows.proofs.pending.Pending.add_to_row.Goals as goal

pub returns-clause-each : goal.returns-clause-each
returns-clause-each g c =
    let p : Bytes = g.B.Backplane.view c.args.plane.now in
    let k = c.args.self.log.columns in
    let u = c.args.self.log.used in
    let s = c.args.self.stripe in
    let K = coding g.C.Code k in
    let row : List ℕ = c.args.row.now in
    let leave = c.args.self.leave.now in
    λ j l. c.add_after.ensures.each j l
    ∙ ap (λ (q : Bytes). rest K (grow_step K q (flagged leave) s j) q u (resume_at K c.in_ok-last.last) (column_in row j)) c.in_ok-last.ensures.kept
    ∙ ap (λ (o : Option ℕ). rest K (grow_step K p (flagged leave) s j) p u (resume_at K o) (column_in row j)) c.in_ok-last.ensures.found
    ∙ grown-is g.C.Code k p u s (flagged leave) j (column_in row j) (length-column row j)
