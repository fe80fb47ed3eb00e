use Rattle.std.proofs.Common.{◌≡◌, ℕ, suc, ◌+◌, ◌-◌, [], ◌∷◌, Ok, Err, Result, refl, ap, ◌∙◌, arith}
use mathlib.Core.Path.{subst⁻¹}
use Rattle.std.proofs.lemmas.Result.{err_from_is_err_and}
use Rattle.backplane.specs.Plane.{to_block}
use Rattle.faults.specs.declared.fault.ArrayFault.{ArrayFault}
use Rattle.array.specs.Calls.{Performed, fill_disk}
use Rattle.array.proofs.Steps.{performed-append, performed-cut, store-cut, stored-kept, kept-after}
use Rattle.array.proofs.format.fill_disk.Goals as goal

pub returns-in_err-put : goal.returns-in_err-put
returns-in_err-put g c =
    let v = g.B.Backplane.view in
    let x = c.args.bytes.now in
    let d = c.args.slot in
    let b = c.loop-b.b in
    let left = c.args.blocks - (b + 1) in
    let p = v c.loop-b.backplane in
    let q = v c.put.new.plane in
    let cut = c.in_err-put.ensures in
    let f = c.in_err-put.field-0.0 in
    let k = err_from_is_err_and c.from_residual.result c.from_residual.ensures.1 in
    let e : c.args.blocks - b ≡ suc left = omega arith in
    subst⁻¹ (λ (r : Result (Unit {0}) ArrayFault). Performed (fill_disk x d c.args.blocks 0) (v c.args.backplane.now) r q) (k.1 ∙ ap Err k.2)
    (c.loop-b.invariant.1 q (Err f)
    (subst⁻¹ (λ (n : ℕ). Performed (fill_disk x d n b) p (Err f) q) e
    (performed-cut (to_block d b x ∷ []) (fill_disk x d left (b + 1)) p q f (store-cut (to_block d b x) p q f cut.0 cut.1))))

pub loop-b-preserved : goal.loop-b-preserved
loop-b-preserved g c =
    let v = g.B.Backplane.view in
    let x = c.args.bytes.now in
    let d = c.args.slot in
    let b = c.loop-b.b in
    let left = c.args.blocks - (b + 1) in
    let p = v c.loop-b.backplane in
    let m = v c.put.new.plane in
    let e : c.args.blocks - b ≡ suc left = omega arith in
    let one = c.in_ok-put.ensures in (
      kept-after (v c.args.backplane.now) p m c.loop-b.invariant.0 (stored-kept (to_block d b x ∷ []) p m one),
      λ q r h. c.loop-b.invariant.1 q r
          (subst⁻¹ (λ (n : ℕ). Performed (fill_disk x d n b) p r q) e (performed-append (to_block d b x ∷ []) (fill_disk x d left (b + 1)) p m q r one h)),
    )

pub returns : goal.returns
returns g c =
    let v = g.B.Backplane.view in
    let p = v c.loop-b.backplane in
    let e : c.args.blocks - c.loop-b.b ≡ 0 = omega arith in
    c.loop-b.invariant.1 p (Ok tt) (subst⁻¹ (λ (n : ℕ). Performed (fill_disk c.args.bytes.now c.args.slot n c.loop-b.b) p (Ok tt) p) e refl)
