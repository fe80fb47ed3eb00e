use Rattle.std.proofs.Common.{◌≡◌, ℕ, ◌+◌, ◌-◌, ◌*◌, List, ◌++◌, length, get_or, take, replicate, ap, ◌∙◌, ap₂, arith, rules}
use lib.Seq.{paste}
use Rattle.std.specs.List.{flat_map}
use Rattle.std.proofs.lemmas.List.{append_assoc, take_all}
use Rattle.layout.specs.Bytes.{le4}
use Rattle.layout.specs.Header.{front_bytes, header_bytes}
use Rattle.layout.proofs.Numbers.{goods-more}
use Rattle.layout.proofs.Headers.{length-front_bytes, encoded-back}
use Rattle.layout.proofs.header.Header.cell.Goals as goal

pub loop-d-preserved : goal.loop-d-preserved
loop-d-preserved c =
    let h = c.args.self.now in
    let sh = c.args.shape.now in
    let f = front_bytes sh h.used in
    let i = c.loop-d.d in
    let n : length h.good ≡ 16 = search rules in
    c.put_number.ensures ∙ ap (λ (x : List ℕ). paste x (20 + 4 * i) (le4 (get_or h.good i 0)) 4) c.loop-d.invariant
    ∙ goods-more f h.good i (length-front_bytes sh h.used) n (omega arith)

pub returns : goal.returns
returns c =
    let h = c.args.self.now in
    let sh = c.args.shape.now in
    let f = front_bytes sh h.used in
    let i = c.loop-d.d in
    let n : length h.good ≡ 16 = search rules in
    let e : 492 - 4 * i ≡ 428 = omega arith in
    let b : c.loop-d.cell ≡ header_bytes sh h =
    c.loop-d.invariant ∙ append_assoc f (flat_map le4 (take i h.good)) (replicate (492 - 4 * i) 0)
    ∙ ap₂ (λ (x : List ℕ) (m : ℕ). f ++ (flat_map le4 x ++ replicate m 0)) (take_all i h.good (omega arith)) e in
    record { bytes = b; back = λ rows l fits. encoded-back rows sh h n l fits c.loop-d.cell b }
