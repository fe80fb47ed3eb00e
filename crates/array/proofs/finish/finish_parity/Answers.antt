use Rattle.std.proofs.Common.{◌≡◌, ℕ, ◌+◌, ◌-◌, List, Ok, Err, Result, refl, ap, ◌∙◌, subst, arith}
use mathlib.Core.Path.{subst⁻¹}
use Rattle.std.proofs.lemmas.Result.{err_from_is_err_and}
use Rattle.backplane.specs.Meaning.{Bytes}
use Rattle.faults.specs.declared.fault.ArrayFault.{ArrayFault}
use Rattle.array.specs.Calls.{Performed}
use Rattle.array.specs.Starts.{to_good, to_good_checks}
use Rattle.array.proofs.Steps.{kept-fits}
use Rattle.array.proofs.Finishing.{good-done, good-cut, good-cells}
use Rattle.array.proofs.finish.finish_parity.Goals as goal

pub finish_column-requires : goal.finish_column-requires
finish_column-requires g c =
    let kept = c.loop-row.invariant.0 in
    let blocks = kept.blocks in
    let cells = kept.cells in
    record {
      fits = kept-fits (g.B.Backplane.view c.args.plane.now) (g.B.Backplane.view c.loop-row.plane) c.args.started.now kept c.requires.fits;
      stripe = omega arith;
      cell = omega arith;
    }

pub returns-in_err-finish_column : goal.returns-in_err-finish_column
returns-in_err-finish_column g c =
    let v = g.B.Backplane.view in
    let p = v c.args.plane.now in
    let now = v c.loop-row.plane in
    let q = v c.finish_column.new.plane in
    let n = c.args.started.now.shape.slots in
    let k = c.args.started.now.shape.columns in
    let h = c.args.started.now.header in
    let s = c.args.stripe in
    let m = g.C.Code.ROWS in
    let row = c.loop-row.row in
    let f : ℕ → List ℕ = λ j. p.cell (c.args.at + (1 + j)) in
    let inv = c.loop-row.invariant in
    let e = c.in_err-finish_column.field-0.0 in
    let b = err_from_is_err_and c.from_residual.result c.from_residual.ensures.1 in
    let one = subst (λ (cell : ℕ → List ℕ). Performed (to_good n now.live h s (k + row) (cell (c.args.at + (1 + row)))) now (Err e) q) inv.1 c.in_err-finish_column.ensures in
    subst⁻¹ (λ (r : Result (Unit {0}) ArrayFault). Performed (to_good_checks n k p.live h s f m 0) p r q) (b.1 ∙ ap Err b.2)
    (inv.2 q (Err e) (good-cut n k h s f p now q m row e (omega arith) inv.0 one))

pub loop-row-preserved : goal.loop-row-preserved
loop-row-preserved g c =
    let v = g.B.Backplane.view in
    let p = v c.args.plane.now in
    let now = v c.loop-row.plane in
    let then = v c.finish_column.new.plane in
    let n = c.args.started.now.shape.slots in
    let k = c.args.started.now.shape.columns in
    let h = c.args.started.now.header in
    let s = c.args.stripe in
    let m = g.C.Code.ROWS in
    let row = c.loop-row.row in
    let f : ℕ → List ℕ = λ j. p.cell (c.args.at + (1 + j)) in
    let inv = c.loop-row.invariant in
    let done = c.in_ok-finish_column.ensures in
    let one = subst (λ (cell : ℕ → List ℕ). Performed (to_good n now.live h s (k + row) (cell (c.args.at + (1 + row)))) now (Ok tt) then) inv.1 done in
    let step = good-done n k h s f p now then m row (omega arith) inv.0 one in (
      step.0,
      ap (λ (y : Bytes). y.cell) one ∙ good-cells n now.live h s (k + row) (f row) now ∙ inv.1,
      λ q r t. inv.2 q r (step.1 q r t),
    )

pub returns : goal.returns
returns g c =
    let p = g.B.Backplane.view c.args.plane.now in
    let now = g.B.Backplane.view c.loop-row.plane in
    let e : g.C.Code.ROWS - c.loop-row.row ≡ 0 = omega arith in
    c.loop-row.invariant.2 now (Ok tt)
    (subst⁻¹ (λ (i : ℕ). Performed (to_good_checks c.args.started.now.shape.slots c.args.started.now.shape.columns p.live c.args.started.now.header c.args.stripe (λ j. p.cell (c.args.at + (1 + j))) i c.loop-row.row) now (Ok tt) now) e refl)
