use Rattle.std.proofs.Common.{◌≡◌, ℕ, Bool, List, sym, ap, ◌∙◌}
use Rattle.backplane.specs.Meaning.{Bytes}
use Rattle.parity_log.specs.Codes.{coding}
use Rattle.parity_log.specs.Walks.{rest}
use Rattle.parity_log.proofs.Walking.{next-some, next-none, rest-over, rest-met}
use Rattle.rows.specs.Columns.{column_in, flagged}
use Rattle.rows.specs.Shares.{grow_step}
use Rattle.rows.proofs.pending.Pending.add_after.Goals as goal

pub loop-at-preserved : goal.loop-at-preserved
loop-at-preserved g c =
    let v : Bytes = g.B.Backplane.view c.args.plane.now in
    let K = coding g.C.Code c.args.self.log.columns in
    let u = c.args.self.log.used in
    let leave : ℕ → Bool = flagged c.args.self.leave.now in
    let s = c.args.self.stripe in
    let inv = c.loop-at.invariant in
    let next = c.in_ok-at.ensures in
    let added = c.in_ok-add_record.ensures in
    let i = c.loop-at.records.at in
    let j = c.next.new.self.at in
    let m = next-some g.C.Code (g.B.Backplane.view c.loop-at.plane) v c.loop-at.records.log c.args.self.log i c.loop-at.cell j inv.view inv.log c.in_ok-at.field-0 (c.in-Some.at, c.in-Some.head) next.next c.in-Some.is in
    let same : g.B.Backplane.view c.next.new.plane ≡ v = next.kept ∙ inv.view in
    record {
      view = added.kept ∙ same;
      log = next.log ∙ inv.log;
      grown = λ q l. ap (λ (x : List ℕ). rest K (grow_step K v leave s q) v u j x) (added.each q l ∙ ap (λ (w : Bytes). grow_step K w leave s q c.in-Some.at c.in-Some.head (column_in c.loop-at.row q)) same)
          ∙ rest-met K v u i c.in-Some.at c.in-Some.head j (grow_step K v leave s q) (column_in c.loop-at.row q) m ∙ inv.grown q l;
    }

pub returns-clause-each : goal.returns-clause-each
returns-clause-each g c =
    let v : Bytes = g.B.Backplane.view c.args.plane.now in
    let K = coding g.C.Code c.args.self.log.columns in
    let u = c.args.self.log.used in
    let inv = c.loop-at.invariant in
    let over = next-none g.C.Code (g.B.Backplane.view c.loop-at.plane) v c.loop-at.records.log c.args.self.log c.loop-at.records.at c.loop-at.cell c.next.new.self.at inv.view inv.log c.in_ok-at.field-0 c.in_ok-at.ensures.next c.in_default.is in
    λ q l. sym (rest-over K v u c.loop-at.records.at c.loop-at.cell (grow_step K v (flagged c.args.self.leave.now) c.args.self.stripe q) (column_in c.loop-at.row q) over.0) ∙ inv.grown q l
