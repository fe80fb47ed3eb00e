use Rattle.std.proofs.Common.{◌≡◌, ℕ, List, ◌++◌, length, get_or, take, drop, ap, ◌∙◌, arith}
use Rattle.std.proofs.lemmas.List.{length-take, take_all}
use Rattle.layout.specs.Bytes.{sum_of, summed_to}
use Rattle.layout.proofs.Adding.{summed_to-more, summed_to-at, summed_to-front, summed_to-all}
use Rattle.layout.proofs.blocks.add_into.Goals as goal

pub loop-i-preserved : goal.loop-i-preserved
loop-i-preserved c =
    let d : List ℕ = take c.min-common.result c.args.dst.now in
    let s = c.args.src.now in
    let i = c.loop-i.i in
    let l : length d ≡ c.min-common.result = simp length-take (omega arith) in
    let a = summed_to-at d s d i (omega arith) (omega arith) (omega arith) in
    let m = summed_to-more d s d i (omega arith) (omega arith) (omega arith) in
    let r : get_or c.loop-i.d-items i 0 ≡ get_or d i 0 = rw c.loop-i.invariant a in
    (cc)

pub returns : goal.returns
returns c =
    let d = c.args.dst.now in
    let s = c.args.src.now in
    let n = c.min-common.result in
    let l : length (take n d) ≡ n = simp length-take (omega arith) in
    let i : c.loop-i.i ≡ n = omega arith in
    let e : c.loop-i.d-items ++ drop n d ≡ summed_to d s n d =
    ap (λ (x : List ℕ). x ++ drop n d) (c.loop-i.invariant ∙ ap (λ (j : ℕ). summed_to (take n d) s j (take n d)) i)
    ∙ ap (λ (x : List ℕ). (sum_of x (take n s) ++ drop n (take n d)) ++ drop n d) (take_all n (take n d) (omega arith))
    ∙ summed_to-front d s d n in
    record { after = e ∙ ap (λ (j : ℕ). summed_to d s j d) c.min-common.ensures; whole = λ q. e ∙ summed_to-all d s d n (omega arith) (omega arith) (omega arith) }
