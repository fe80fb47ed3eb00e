use Rattle.std.proofs.Common.{◌≡◌, false, sym, ap, ◌∙◌, subst, inr}
use Rattle.backplane.specs.Meaning.{Bytes}
use Rattle.model.specs.Rules.{is_there, is_good, log_of, too_full, finish_last}
use Rattle.parity_log.specs.Codes.{coding_on}
use Rattle.array.specs.Calls.{view_of, Performed}
use Rattle.array.proofs.Endings.{performed-ends}
use Rattle.array.proofs.array.Array.start_open.Goals as goal

pub returns : goal.returns
returns g c =
    let a = c.args.self.now in
    let h = c.args.started.now.header in
    let on = coding_on g.C.Code in
    let p = view_of g.B.Backplane g.C.Code a in
    let q = view_of g.B.Backplane g.C.Code c.finish_start.new.self in
    let u = c.finish_start.new.self.header in
    let r = c.finish_start.result in
    let walked = c.in_ok-last.ensures in
    let room = c.if-is_overfull.ensures in
    let full = subst (λ (x : Bytes). false ≡ too_full (on x) x h 0 (log_of (on x) x h)) walked.kept room.value in
    let stores = subst (λ (x : Bytes). Performed (finish_last (on x) (is_good (on x) x h) (log_of (on x) x h)) x r q) (room.kept ∙ walked.kept) c.finish_start.ensures.stores in
    inr (
      ap is_there walked.walked.0,
      inr (sym full, performed-ends (finish_last (on p) (is_good (on p) p h) (log_of (on p) p h)) h a.header u p q r stores c.finish_start.ensures.held),
    )
