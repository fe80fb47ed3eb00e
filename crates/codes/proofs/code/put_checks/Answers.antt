use Rattle.std.proofs.Common.{ℕ, ◌+◌, ◌++◌, length, set, sym, ap, ◌∙◌}
use Rattle.std.proofs.lemmas.List.{set-get_or}
use Rattle.codes.specs.Solving.{remade}
use Rattle.codes.specs.Steps.{remade-true, remade-false}
use Rattle.codes.proofs.Filling.{set-check}
use Rattle.codes.proofs.code.put_checks.Goals as goal
use Rattle.codes.proofs.code.put_checks.Goals.{then-is_lost, else-is_lost}

pub loop-r-preserved : goal.loop-r-preserved
loop-r-preserved g c =
    let xs = c.args.bytes.now in
    let f : ℕ → ℕ = λ r. g.C.Code.check r xs in
    let k = length xs in
    let lost = c.args.lost.now in
    let n = c.loop-r.r in
    let row = xs ++ c.args.checks.now in
    elim c.if-is_lost.branch [
      | then-is_lost w ↦ ap (λ s. xs ++ s) w.checks-is ∙ sym (set-check xs c.loop-r.checks n w.check_byte.result) ∙ ap (λ s. set s (k + n) w.check_byte.result) c.loop-r.invariant
          ∙ ap (set (remade f k lost n row) (k + n)) w.check_byte.ensures ∙ sym (remade-true f k lost n row w.if-is_lost.ensures)
      | else-is_lost w ↦ ap (λ s. xs ++ s) (w.checks-is ∙ set-get_or c.loop-r.checks n 0) ∙ c.loop-r.invariant ∙ sym (remade-false f k lost n row w.if-is_lost.ensures)
    ]
