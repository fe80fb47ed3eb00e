use Rattle.std.proofs.Common.{◌≡◌, ℕ, ◌<◌, List, ◌++◌, map, length, get_or, take, drop, sym, ap, ◌∙◌, arith}
use Rattle.std.proofs.lemmas.List.{length-map, length-take, take_all, get_or-map}
use Rattle.codes.specs.Code.{share_of}
use Rattle.layout.specs.Bytes.{sum_of, summed_to}
use Rattle.layout.proofs.Adding.{summed_to-more, summed_to-at, summed_to-front, summed_to-all}
use Rattle.rows.proofs.Sharing.{share-bytes}
use Rattle.rows.proofs.shares.add_share.Goals as goal

pub loop-i-preserved : goal.loop-i-preserved
loop-i-preserved g c =
    let t : List ℕ = take c.min-n.result c.args.target.now in
    let b = c.args.block.now in
    let i = c.loop-i.i in
    let sh : ℕ → ℕ = share_of g.C.Code.check g.C.Code.ROWS c.args.r c.args.column in
    let l : length t ≡ c.min-n.result = simp length-take (omega arith) in
    let long : length (map sh b) ≡ length b = length-map b sh in
    let low : i < length b = omega arith in
    let a = summed_to-at t (map sh b) t i (omega arith) (omega arith) (omega arith) in
    let m = summed_to-more t (map sh b) t i (omega arith) (omega arith) (omega arith) in
    let v = get_or-map sh b i 0 0 low in
    let r : get_or c.loop-i.check-items i 0 ≡ get_or t i 0 = rw c.loop-i.invariant a in
    (cc)

pub returns : goal.returns
returns g c =
    let t = c.args.target.now in
    let b = c.args.block.now in
    let n = c.min-n.result in
    let sh : ℕ → ℕ = share_of g.C.Code.check g.C.Code.ROWS c.args.r c.args.column in
    let ys : List ℕ = map sh b in
    let long : length ys ≡ length b = length-map b sh in
    let l : length (take n t) ≡ n = simp length-take (omega arith) in
    let i : c.loop-i.i ≡ n = omega arith in
    let e : c.loop-i.check-items ++ drop n t ≡ summed_to t ys n t =
    ap (λ (x : List ℕ). x ++ drop n t) (c.loop-i.invariant ∙ ap (λ (j : ℕ). summed_to (take n t) ys j (take n t)) i)
    ∙ ap (λ (x : List ℕ). (sum_of x (take n ys) ++ drop n (take n t)) ++ drop n t) (take_all n (take n t) (omega arith))
    ∙ summed_to-front t ys t n in
    record {
      after = e ∙ ap (λ (j : ℕ). summed_to t ys j t) c.min-n.ensures;
      whole = λ k inside fits low s f. e ∙ summed_to-all t ys t n (omega arith) (omega arith) (omega arith)
          ∙ ap (sum_of t) (sym (share-bytes g.C.Code g.met.C.Code.fill k c.args.r c.args.column b inside fits low s));
    }
