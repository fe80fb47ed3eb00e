use Rattle.std.proofs.Common.{◌≡◌, ℕ, Bool, cond, sym, ap, arith}
use Rattle.layout.specs.Marks.{marked}
use Rattle.layout.proofs.Counting.{count-more}
use Rattle.layout.proofs.marks.count_marked.Goals as goal
use Rattle.layout.proofs.marks.count_marked.Goals.{then-is_marked, else-is_marked}

pub loop-s-preserved : goal.loop-s-preserved
loop-s-preserved c =
    let f = marked c.args.map.now in
    let s = c.loop-s.s in
    let m = count-more s f in
    elim c.if-is_marked.branch [
      | then-is_marked w ↦ let one : ◌≡◌ {A = ℕ} (cond (f s) 1 0) 1 = ap (λ (b : Bool). cond b 1 0) (sym w.if-is_marked.ensures) in (omega (arith, w.n-is), omega (arith, w.n-is))
      | else-is_marked w ↦ let one : ◌≡◌ {A = ℕ} (cond (f s) 1 0) 0 = ap (λ (b : Bool). cond b 1 0) (sym w.if-is_marked.ensures) in (omega (arith, w.n-is), omega (arith, w.n-is))
    ]
