use Rattle.std.proofs.Common.{◌+◌, [], ◌∷◌, ◌++◌, length, get_or, vec_items, refl, ap, ◌∙◌, arith, take_all}
use Rattle.std.proofs.lemmas.Result.{err_from_is_err_and}
use Rattle.model.specs.Rules.{verdict}
use Rattle.array.specs.Calls.{view_of, coding_of}
use Rattle.run.specs.Calls.{call_of, reply_for}
use Rattle.run.specs.Runs.{device_of}
use Rattle.run.specs.declared.call.Call.{Call}
use Rattle.run.specs.declared.call.Call.TheVariants.{Read}
use Rattle.run.proofs.Sizes.{ends-slots}
use Rattle.run.proofs.Work.{area-stays}
use Rattle.run.proofs.Making.{made_none, further}
use Rattle.run.proofs.run.make_all.Goals as goal

-- what `get_or` reads past the end
abbrev none : Call
none = Read 0

pub loop-call-init : goal.loop-call-init
loop-call-init g c =
    let B = g.B.Backplane in
    let C = g.C.Code in
    let a = c.args.array.now in
    (refl, refl, made_none (coding_of B C a) (length c.args.work.now) (device_of B C a) c.args.calls.now _ c.new-answers.ensures.items)

pub loop-call-preserved : goal.loop-call-preserved
loop-call-preserved g c =
    let B = g.B.Backplane in
    let C = g.C.Code in
    let e = c.in_ok-make_next.ensures in
    let x = c.in_ok-make_next.field-0 in
    let inv = c.loop-call.invariant in
    let call = get_or c.args.calls.now c.loop-call.call-index none in
    let a = c.loop-call.array in
    let z = c.make_next.new.array in (
      area-stays call c.args.work.now c.loop-call.work c.make_next.new.work c.requires inv.0 e.area,
      ends-slots (verdict (coding_of B C a) (view_of B C a) a.header (call_of (length c.loop-call.work) call)) (view_of B C a) (view_of B C z) a.header z.header (reply_for x) e.does ∙ inv.1,
      rw e.added
          (further B C c.args.array.now a z (length c.loop-call.work) (length c.args.work.now) c.args.calls.now c.loop-call.call-index none
          (vec_items c.loop-call.answers) x c.loop-call-test.true (ap length inv.0) inv.1 inv.2 e.given e.does),
    )

pub returns : goal.returns
returns g c = record { does = rw (take_all _ _ c.loop-call-test.false) at c.loop-call.invariant.2; area = c.loop-call.invariant.0 }

pub returns-in_err-make_next : goal.returns-in_err-make_next
returns-in_err-make_next g c =
    let e = c.in_err-make_next.ensures in
    let x = c.in_err-make_next.field-0.0.value in
    let inv = c.loop-call.invariant in
    let i = c.loop-call.call-index in
    let call = get_or c.args.calls.now i none in
    let p = err_from_is_err_and c.from_residual.result c.from_residual.ensures.1 in
    record {
      does = rw p.1 (record {
        many = i + 1;
        within = omega arith;
        answers = vec_items c.loop-call.answers ++ x ∷ [];
        made = further g.B.Backplane g.C.Code c.args.array.now c.loop-call.array c.make_next.new.array (length c.loop-call.work) (length c.args.work.now) c.args.calls.now i none
            (vec_items c.loop-call.answers) x c.loop-call-test.true (ap length inv.0) inv.1 inv.2 e.given e.does;
      });
      area = area-stays call c.args.work.now c.loop-call.work c.make_next.new.work c.requires inv.0 e.area;
    }
