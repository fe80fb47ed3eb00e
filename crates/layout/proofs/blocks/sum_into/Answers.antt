use Rattle.std.proofs.Common.{◌≡◌, ℕ, List, ◌++◌, length, take, drop, ap, ◌∙◌, min, arith}
use Rattle.std.proofs.lemmas.List.{length-take}
use Rattle.layout.specs.Bytes.{summed_to}
use Rattle.layout.proofs.Adding.{summed_to-more, summed_to-front, summed_to-all}
use Rattle.layout.proofs.blocks.sum_into.Goals as goal

pub loop-i-preserved : goal.loop-i-preserved
loop-i-preserved c =
    let d : List ℕ = take c.min-common.result c.args.dst.now in
    let a = c.args.a.now in
    let b = c.args.b.now in
    let l : length d ≡ c.min-common.result = simp length-take (omega arith) in
    let m = summed_to-more a b d c.loop-i.i (omega arith) (omega arith) (omega arith) in
    (cc)

pub returns : goal.returns
returns c =
    let d = c.args.dst.now in
    let a = c.args.a.now in
    let b = c.args.b.now in
    let n = c.min-common.result in
    let l : length (take n d) ≡ n = simp length-take (omega arith) in
    let i : c.loop-i.i ≡ n = omega arith in
    let e : c.loop-i.d-items ++ drop n d ≡ summed_to a b n d =
    ap (λ (x : List ℕ). x ++ drop n d) (c.loop-i.invariant ∙ ap (λ (j : ℕ). summed_to a b j (take n d)) i) ∙ summed_to-front a b d n in
    let m : n ≡ min (length d) (min (length a) (length b)) = c.min-common.ensures ∙ ap (λ (j : ℕ). min (length d) j) c.min.ensures in
    record { after = e ∙ ap (λ (j : ℕ). summed_to a b j d) m; whole = λ p q. e ∙ summed_to-all a b d n (omega arith) (omega arith) (omega arith) }
