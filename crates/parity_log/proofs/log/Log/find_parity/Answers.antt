use Rattle.std.proofs.Common.{ℕ, Ok, None, Option, sym, refl, ap, ◌∙◌}
use Rattle.parity_log.specs.Codes.{coding}
use Rattle.parity_log.specs.Walks.{rest, parity_at}
use Rattle.parity_log.proofs.Walking.{rest-first, next-some, next-none, rest-over, rest-met}
use Rattle.parity_log.proofs.log.Log.find_parity.Goals as goal

pub loop-at-init : goal.loop-at-init
loop-at-init g c =
    let v = g.B.Backplane.view c.args.plane.now in
    let K = coding g.C.Code c.args.self.columns in
    let u = c.args.self.used in
    record {
      view = refl;
      log = c.records-records.ensures.log;
      found = ap (λ (i : ℕ). rest K (parity_at c.args.stripe) v u i None) c.records-records.ensures.at ∙ rest-first K v u (parity_at c.args.stripe) None;
    }

pub loop-at-preserved : goal.loop-at-preserved
loop-at-preserved g c =
    let v = g.B.Backplane.view c.args.plane.now in
    let K = coding g.C.Code c.args.self.columns in
    let u = c.args.self.used in
    let s = c.args.stripe in
    let inv = c.loop-at.invariant in
    let next = c.in_ok-at.ensures in
    let j = c.next.new.self.at in
    let m = next-some g.C.Code (g.B.Backplane.view c.loop-at.plane) v c.loop-at.records.log c.args.self c.loop-at.records.at c.loop-at.buf j inv.view inv.log c.in_ok-at.field-0 (c.in-Some.at, c.in-Some.head) next.next c.in-Some.is in
    record {
      view = next.kept ∙ inv.view;
      log = next.log ∙ inv.log;
      found = ap (λ (o : Option ℕ). rest K (parity_at s) v u j o) c.later_parity-last.ensures ∙ rest-met K v u c.loop-at.records.at c.in-Some.at c.in-Some.head j (parity_at s) c.loop-at.last m ∙ inv.found;
    }

pub returns-clause-found : goal.returns-clause-found
returns-clause-found g c =
    let v = g.B.Backplane.view c.args.plane.now in
    let K = coding g.C.Code c.args.self.columns in
    let u = c.args.self.used in
    let s = c.args.stripe in
    let inv = c.loop-at.invariant in
    let over = next-none g.C.Code (g.B.Backplane.view c.loop-at.plane) v c.loop-at.records.log c.args.self c.loop-at.records.at c.loop-at.buf c.next.new.self.at inv.view inv.log c.in_ok-at.field-0 c.in_ok-at.ensures.next c.in_default.is in
    sym (rest-over K v u c.loop-at.records.at c.loop-at.buf (parity_at s) c.loop-at.last over.0) ∙ inv.found

pub returns-clause-value : goal.returns-clause-value
returns-clause-value g c = λ there. ap Ok (returns-clause-found g c)
