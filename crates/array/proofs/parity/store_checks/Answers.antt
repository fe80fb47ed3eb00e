use Rattle.std.proofs.Common.{◌≡◌, ℕ, suc, ◌+◌, ◌-◌, List, [], ◌∷◌, IfOk, Ok, Err, Result, refl, ap, ◌∙◌, subst, arith}
use mathlib.Core.Path.{subst⁻¹}
use Rattle.std.proofs.lemmas.Result.{err_from_is_err_and}
use Rattle.backplane.specs.Plane.{Sector, to_cell, stored}
use Rattle.backplane.specs.Stores.{CutBy}
use Rattle.rows.specs.Columns.{column_in}
use Rattle.faults.specs.declared.fault.ArrayFault.{ArrayFault}
use Rattle.array.specs.Calls.{Performed}
use Rattle.array.specs.Ready.{Kept}
use Rattle.array.proofs.Steps.{performed-append, performed-cut, store-cut, stored-kept, kept-after}
use Rattle.array.specs.Parity.{row_cells}
use Rattle.array.proofs.parity.store_checks.Goals as goal

pub returns-in_err-put : goal.returns-in_err-put
returns-in_err-put g c =
    let v = g.B.Backplane.view in
    let row = c.args.row.now in
    let k = c.args.started.now.shape.columns in
    let at = c.args.at in
    let m = c.args.started.now.shape.slots - k in
    let r = c.loop-r.r in
    let left = m - (r + 1) in
    let p = v c.loop-r.plane in
    let q = v c.put.new.plane in
    let f = c.in_err-put.field-0.0 in
    let told = c.in_err-put.ensures in
    let cut = subst (λ (x : List ℕ). CutBy Sector (to_cell (at + r) x) p q) c.row_column.ensures told.1 in
    let b = err_from_is_err_and c.from_residual.result c.from_residual.ensures.1 in
    let e : m - r ≡ suc left = omega arith in
    record {
      stores = subst⁻¹ (λ (x : Result (Unit {0}) ArrayFault). Performed (row_cells k row at m 0) (v c.args.plane.now) x q) (b.1 ∙ ap Err b.2)
          (c.loop-r.invariant.1 q (Err f)
          (subst⁻¹ (λ (i : ℕ). Performed (row_cells k row at i r) p (Err f) q) e
          (performed-cut (to_cell (at + r) (column_in row (k + r)) ∷ []) (row_cells k row at left (r + 1)) p q f (store-cut (to_cell (at + r) (column_in row (k + r))) p q f told.0 cut))));
      kept = subst⁻¹ (λ (x : Result (Unit {0}) ArrayFault). IfOk x (λ _. Kept (v c.args.plane.now) q)) b.1 tt;
    }

pub loop-r-preserved : goal.loop-r-preserved
loop-r-preserved g c =
    let v = g.B.Backplane.view in
    let row = c.args.row.now in
    let k = c.args.started.now.shape.columns in
    let at = c.args.at in
    let m = c.args.started.now.shape.slots - k in
    let r = c.loop-r.r in
    let left = m - (r + 1) in
    let p = v c.loop-r.plane in
    let then = v c.put.new.plane in
    let e : m - r ≡ suc left = omega arith in
    let one = c.in_ok-put.ensures ∙ ap (λ (x : List ℕ). stored (to_cell (at + r) x) p) c.row_column.ensures in (
      kept-after (v c.args.plane.now) p then c.loop-r.invariant.0 (stored-kept (to_cell (at + r) (column_in row (k + r)) ∷ []) p then one),
      λ q x h. c.loop-r.invariant.1 q x
          (subst⁻¹ (λ (i : ℕ). Performed (row_cells k row at i r) p x q) e
          (performed-append (to_cell (at + r) (column_in row (k + r)) ∷ []) (row_cells k row at left (r + 1)) p then q x one h)),
    )

pub returns : goal.returns
returns g c =
    let v = g.B.Backplane.view in
    let p = v c.loop-r.plane in
    let m = c.args.started.now.shape.slots - c.args.started.now.shape.columns in
    let e : m - c.loop-r.r ≡ 0 = omega arith in
    record {
      stores = c.loop-r.invariant.1 p (Ok tt) (subst⁻¹ (λ (i : ℕ). Performed (row_cells c.args.started.now.shape.columns c.args.row.now c.args.at i c.loop-r.r) p (Ok tt) p) e refl);
      kept = c.loop-r.invariant.0;
    }
