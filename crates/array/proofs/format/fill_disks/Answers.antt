use Rattle.std.proofs.Common.{◌≡◌, ℕ, suc, ◌+◌, ◌-◌, IfOk, Ok, Err, Result, refl, ap, ◌∙◌, arith}
use mathlib.Core.Path.{subst⁻¹}
use Rattle.std.proofs.lemmas.Result.{err_from_is_err_and}
use Rattle.array.specs.Ready.{Kept}
use Rattle.faults.specs.declared.fault.ArrayFault.{ArrayFault}
use Rattle.array.specs.Calls.{Performed, fill_disk, fill_disks}
use Rattle.array.proofs.Steps.{performed-append, performed-cut, stored-kept, kept-after}
use Rattle.array.proofs.format.fill_disks.Goals as goal

pub returns-in_err-fill_disk : goal.returns-in_err-fill_disk
returns-in_err-fill_disk g c =
    let v = g.B.Backplane.view in
    let x = c.args.bytes.now in
    let d = c.loop-d.d in
    let s = c.args.blocks in
    let left = c.args.slots - (d + 1) in
    let p = v c.loop-d.backplane in
    let q = v c.fill_disk.new.backplane in
    let f = c.in_err-fill_disk.field-0.0 in
    let k = err_from_is_err_and c.from_residual.result c.from_residual.ensures.1 in
    let e : c.args.slots - d ≡ suc left = omega arith in
    record {
      stores = subst⁻¹ (λ (r : Result (Unit {0}) ArrayFault). Performed (fill_disks x s c.args.slots 0) (v c.args.backplane.now) r q) (k.1 ∙ ap Err k.2)
          (c.loop-d.invariant.1 q (Err f)
          (subst⁻¹ (λ (n : ℕ). Performed (fill_disks x s n d) p (Err f) q) e
          (performed-cut (fill_disk x d s 0) (fill_disks x s left (d + 1)) p q f c.in_err-fill_disk.ensures)));
      kept = subst⁻¹ (λ (r : Result (Unit {0}) ArrayFault). IfOk r (λ _. Kept (v c.args.backplane.now) q)) k.1 tt;
    }

pub loop-d-preserved : goal.loop-d-preserved
loop-d-preserved g c =
    let v = g.B.Backplane.view in
    let x = c.args.bytes.now in
    let d = c.loop-d.d in
    let s = c.args.blocks in
    let left = c.args.slots - (d + 1) in
    let p = v c.loop-d.backplane in
    let m = v c.fill_disk.new.backplane in
    let e : c.args.slots - d ≡ suc left = omega arith in
    let disk = c.in_ok-fill_disk.ensures in (
      kept-after (v c.args.backplane.now) p m c.loop-d.invariant.0 (stored-kept (fill_disk x d s 0) p m disk),
      λ q r h. c.loop-d.invariant.1 q r
          (subst⁻¹ (λ (n : ℕ). Performed (fill_disks x s n d) p r q) e (performed-append (fill_disk x d s 0) (fill_disks x s left (d + 1)) p m q r disk h)),
    )

pub returns : goal.returns
returns g c =
    let v = g.B.Backplane.view in
    let p = v c.loop-d.backplane in
    let e : c.args.slots - c.loop-d.d ≡ 0 = omega arith in
    record {
      stores = c.loop-d.invariant.1 p (Ok tt) (subst⁻¹ (λ (n : ℕ). Performed (fill_disks c.args.bytes.now c.args.blocks n c.loop-d.d) p (Ok tt) p) e refl);
      kept = c.loop-d.invariant.0;
    }
