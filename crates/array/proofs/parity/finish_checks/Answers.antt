use Rattle.std.proofs.Common.{◌≡◌, ℕ, ◌+◌, ◌-◌, List, Ok, Err, Result, refl, ap, ◌∙◌, subst, arith}
use mathlib.Core.Path.{subst⁻¹}
use Rattle.std.proofs.lemmas.Result.{err_from_is_err_and}
use Rattle.rows.specs.Columns.{column_in}
use Rattle.faults.specs.declared.fault.ArrayFault.{ArrayFault}
use Rattle.array.specs.Calls.{Performed}
use Rattle.array.specs.Starts.{to_good, to_good_checks}
use Rattle.array.proofs.Steps.{kept-fits}
use Rattle.array.proofs.Finishing.{good-done, good-cut}
use Rattle.array.proofs.parity.finish_checks.Goals as goal

pub store_good-requires-clause-fits : goal.store_good-requires-clause-fits
store_good-requires-clause-fits g c =
    kept-fits (g.B.Backplane.view c.args.plane.now) (g.B.Backplane.view c.loop-r.plane) c.args.started.now c.loop-r.invariant.0 c.requires.fits

pub store_good-requires-clause-stripe : goal.store_good-requires-clause-stripe
store_good-requires-clause-stripe g c =
    let blocks = c.loop-r.invariant.0.blocks in omega arith

pub returns-in_err-store_good : goal.returns-in_err-store_good
returns-in_err-store_good g c =
    let v = g.B.Backplane.view in
    let p = v c.args.plane.now in
    let n = c.args.started.now.shape.slots in
    let k = c.args.started.now.shape.columns in
    let f : ℕ → List ℕ = λ j. column_in c.args.row.now (k + j) in
    let b = err_from_is_err_and c.from_residual.result c.from_residual.ensures.1 in
    let q = v c.store_good.new.plane in
    let one = subst (λ (x : List ℕ). Performed (to_good n (v c.loop-r.plane).live c.args.started.now.header c.args.stripe (k + c.loop-r.r) x) (v c.loop-r.plane) (Err c.in_err-store_good.field-0.0) q) c.row_column.ensures c.in_err-store_good.ensures in
    subst⁻¹ (λ (x : Result (Unit {0}) ArrayFault). Performed (to_good_checks n k p.live c.args.started.now.header c.args.stripe f (n - k) 0) p x q) (b.1 ∙ ap Err b.2)
    (c.loop-r.invariant.1 q (Err c.in_err-store_good.field-0.0)
    (good-cut n k c.args.started.now.header c.args.stripe f p (v c.loop-r.plane) q (n - k) c.loop-r.r c.in_err-store_good.field-0.0 (omega arith) c.loop-r.invariant.0 one))

pub loop-r-preserved : goal.loop-r-preserved
loop-r-preserved g c =
    let v = g.B.Backplane.view in
    let p = v c.args.plane.now in
    let n = c.args.started.now.shape.slots in
    let k = c.args.started.now.shape.columns in
    let f : ℕ → List ℕ = λ j. column_in c.args.row.now (k + j) in
    let one = subst (λ (x : List ℕ). Performed (to_good n (v c.loop-r.plane).live c.args.started.now.header c.args.stripe (k + c.loop-r.r) x) (v c.loop-r.plane) (Ok tt) (v c.store_good.new.plane)) c.row_column.ensures c.in_ok-store_good.ensures in
    let step = good-done n k c.args.started.now.header c.args.stripe f p (v c.loop-r.plane) (v c.store_good.new.plane) (n - k) c.loop-r.r (omega arith) c.loop-r.invariant.0 one in
    (step.0, λ q x h. c.loop-r.invariant.1 q x (step.1 q x h))

pub returns : goal.returns
returns g c =
    let v = g.B.Backplane.view in
    let p = v c.args.plane.now in
    let now = v c.loop-r.plane in
    let n = c.args.started.now.shape.slots in
    let k = c.args.started.now.shape.columns in
    let f : ℕ → List ℕ = λ j. column_in c.args.row.now (k + j) in
    let e : n - k - c.loop-r.r ≡ 0 = omega arith in
    c.loop-r.invariant.1 now (Ok tt) (subst⁻¹ (λ (i : ℕ). Performed (to_good_checks n k p.live c.args.started.now.header c.args.stripe f i c.loop-r.r) now (Ok tt) now) e refl)
