use Rattle.std.proofs.Common.{ℕ, ◌<◌, [], ◌∷◌, Some, None, Err, Option, sym, refl, ap, ◌∙◌, subst, inl, inr, arith}
use Rattle.layout.specs.declared.head.Head.{Head}
use Rattle.model.specs.Log.{record_from}
use Rattle.faults.specs.declared.fault.LogFault.TheVariants.{Damaged}
use Rattle.parity_log.specs.Codes.{coding}
use Rattle.parity_log.specs.Walks.{rest, LastAt}
use Rattle.parity_log.proofs.Walking.{Stands, stands-first, stands-next, record_at-some, rest-first, next-some, next-none, rest-met, end-past, end-damaged}
use Rattle.parity_log.proofs.log.Log.walk_records.Goals as goal

abbrev place : ℕ → Head → Option ℕ → Option ℕ
place i h last = Some i

pub loop-at-init : goal.loop-at-init
loop-at-init g c =
    let v = g.B.Backplane.view c.args.plane.now in
    let K = coding g.C.Code c.args.self.columns in
    let u = c.args.self.used in
    let first = c.records-records.ensures.at in
    record {
      view = refl;
      log = c.records-records.ensures.log;
      walked = ([], subst (λ (i : ℕ). Stands K v u i []) (sym first) (stands-first K v u), ap (λ (i : ℕ). rest K place v u i None) first ∙ rest-first K v u place None, refl);
    }

pub loop-at-preserved : goal.loop-at-preserved
loop-at-preserved g c =
    let v = g.B.Backplane.view c.args.plane.now in
    let K = coding g.C.Code c.args.self.columns in
    let u = c.args.self.used in
    let inv = c.loop-at.invariant in
    let next = c.in_ok-at.ensures in
    let i = c.loop-at.records.at in
    let j = c.next.new.self.at in
    let at = c.in-Some.at in
    let h = c.in-Some.field-0-1 in
    let ls = inv.walked.0 in
    let m = next-some g.C.Code (g.B.Backplane.view c.loop-at.plane) v c.loop-at.records.log c.args.self i c.loop-at.buf j inv.view inv.log c.in_ok-at.field-0 (at, h) next.next c.in-Some.is in
    let r = record_from K v i h in
    record {
      view = next.kept ∙ inv.view;
      log = next.log ∙ inv.log;
      walked = (
        r ∷ ls,
        subst (λ (k : ℕ). Stands K v u k (r ∷ ls)) (sym m.on) (stands-next K v u i ls h m.low m.head inv.walked.1),
        rest-met K v u i at h j place c.loop-at.last m ∙ inv.walked.2,
        subst (λ (k : ℕ). LastAt K v u (Some k) (r ∷ ls)) (sym m.here) (r, ls, refl, record_at-some K v u i h m.head),
      );
    }

pub returns-then-records-self-clause-value : goal.returns-then-records-self-clause-value
returns-then-records-self-clause-value g c =
    let v = g.B.Backplane.view c.args.plane.now in
    let K = coding g.C.Code c.args.self.columns in
    let u = c.args.self.used in
    let inv = c.loop-at.invariant in
    let i = c.loop-at.records.at in
    let over = next-none g.C.Code (g.B.Backplane.view c.loop-at.plane) v c.loop-at.records.log c.args.self i c.loop-at.buf c.next.new.self.at inv.view inv.log c.in_ok-at.field-0 c.in_ok-at.ensures.next c.in_default.is in
    let past : u < i = omega (arith, over.1, c.if-records-self.true) in
    end-past K v u i c.loop-at.last inv.walked.0 past inv.walked.1 inv.walked.2

pub returns-else-records-self-clause-value : goal.returns-else-records-self-clause-value
returns-else-records-self-clause-value g c =
    let v = g.B.Backplane.view c.args.plane.now in
    let K = coding g.C.Code c.args.self.columns in
    let u = c.args.self.used in
    let inv = c.loop-at.invariant in
    let i = c.loop-at.records.at in
    let j = c.next.new.self.at in
    let over = next-none g.C.Code (g.B.Backplane.view c.loop-at.plane) v c.loop-at.records.log c.args.self i c.loop-at.buf j inv.view inv.log c.in_ok-at.field-0 c.in_ok-at.ensures.next c.in_default.is in
    elim over.0 [
      | inl past ↦ absurd (omega (arith, past, over.1, c.if-records-self.false))
      | inr stop ↦ ap (λ (k : ℕ). Err (Damaged k)) over.1 ∙ end-damaged K v u i inv.walked.0 stop.0 stop.2 inv.walked.1
    ]
