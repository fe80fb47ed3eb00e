use Rattle.std.proofs.Common.{set, sym, ap, ◌∙◌}
use Rattle.std.proofs.lemmas.List.{set-get_or}
use Rattle.codes.specs.Steps.{cleared-true, cleared-false}
use Rattle.codes.proofs.row.clear_lost.Goals as goal
use Rattle.codes.proofs.row.clear_lost.Goals.{then-is_lost, else-is_lost}

pub loop-c-preserved : goal.loop-c-preserved
loop-c-preserved c =
    let lost = c.args.lost.now in
    let n = c.loop-c.c in
    let row = c.args.bytes.now in
    elim c.if-is_lost.branch [
      | then-is_lost w ↦ w.bytes-is ∙ ap (λ r. set r n 0) c.loop-c.invariant ∙ sym (cleared-true lost n row w.if-is_lost.ensures)
      | else-is_lost w ↦ w.bytes-is ∙ set-get_or c.loop-c.bytes n 0 ∙ c.loop-c.invariant ∙ sym (cleared-false lost n row w.if-is_lost.ensures)
    ]
