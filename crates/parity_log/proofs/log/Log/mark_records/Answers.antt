use Rattle.std.proofs.Common.{ℕ, Bool, List, [], length, sym, refl, ap, ◌∙◌, arith}
use Rattle.model.specs.Log.{Rec, owing}
use Rattle.parity_log.specs.Codes.{coding}
use Rattle.parity_log.specs.Pending.{owing_after}
use Rattle.parity_log.specs.Walks.{rest}
use Rattle.parity_log.proofs.Owed.{unmarked, owing-next}
use Rattle.parity_log.proofs.Walking.{keep, walk-is, next-some, next-none, rest-over, rest-met}
use Rattle.parity_log.proofs.log.Log.mark_records.Goals as goal

pub loop-head-init : goal.loop-head-init
loop-head-init g c =
    let v = g.B.Backplane.view c.args.plane.now in
    let K = coding g.C.Code c.args.self.columns in
    let u = c.args.self.used in
    let m = c.args.map.now in
    record {
      view = refl;
      log = c.records-records.ensures.log;
      noted = ([], ap (λ (i : ℕ). rest K (keep K v u) v u i []) c.records-records.ensures.at ∙ walk-is K v u, λ t h. unmarked m (length m) t c.requires.wiped);
    }

pub loop-head-preserved : goal.loop-head-preserved
loop-head-preserved g c =
    let v = g.B.Backplane.view c.args.plane.now in
    let K = coding g.C.Code c.args.self.columns in
    let u = c.args.self.used in
    let inv = c.loop-head.invariant in
    let next = c.in_ok-head.ensures in
    let i = c.loop-head.records.at in
    let j = c.next.new.self.at in
    let at = c.in-Some.field-0-0 in
    let h = c.in-Some.head in
    let ls = inv.noted.0 in
    let m = next-some g.C.Code (g.B.Backplane.view c.loop-head.plane) v c.loop-head.records.log c.args.self i c.loop-head.buf j inv.view inv.log c.in_ok-head.field-0 (at, h) next.next c.in-Some.is in
    record {
      view = next.kept ∙ inv.view;
      log = next.log ∙ inv.log;
      noted = (
        keep K v u at h ls,
        rest-met K v u i at h j (keep K v u) ls m ∙ inv.noted.1,
        λ t l. c.note_record.ensures t (omega (arith, c.note_record.auto.map, l)) ∙ ap (λ (b : Bool). owing_after h t b) (inv.noted.2 t (omega (arith, c.note_record.auto.map, l))) ∙ sym (owing-next K v at h ls t),
      );
    }

pub returns-clause-marks : goal.returns-clause-marks
returns-clause-marks g c =
    let v = g.B.Backplane.view c.args.plane.now in
    let K = coding g.C.Code c.args.self.columns in
    let u = c.args.self.used in
    let inv = c.loop-head.invariant in
    let ls = inv.noted.0 in
    let over = next-none g.C.Code (g.B.Backplane.view c.loop-head.plane) v c.loop-head.records.log c.args.self c.loop-head.records.at c.loop-head.buf c.next.new.self.at inv.view inv.log c.in_ok-head.field-0 c.in_ok-head.ensures.next c.in_default.is in
    let log = sym (rest-over K v u c.loop-head.records.at c.loop-head.buf (keep K v u) ls over.0) ∙ inv.noted.1 in
    λ t l. inv.noted.2 t (omega (arith, c.loop-head.auto.map, l)) ∙ ap (λ (xs : List (Rec (List ℕ))). owing K xs t) log
