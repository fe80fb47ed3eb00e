use Rattle.std.proofs.Common.{◌≡◌, ℕ, ◌+◌, ◌-◌, ◌*◌, List, length, take, drop, replicate, ap, ◌∙◌, arith}
use Rattle.model.specs.Coding.{zeros}
use Rattle.rows.proofs.Placed.{put-column, put_as, column-is, full-column}
use Rattle.rows.proofs.row.wipe_column.Goals as goal

pub returns : goal.returns
unfolding zeros
returns c =
    let at : ℕ = c.args.column in
    let row : List ℕ = c.args.row.now in
    let w = 512 * at + 512 - 512 * at in
    let e : w ≡ 512 = omega arith in
    let n : length (take w (drop (512 * at) row)) ≡ 512 = ap length (column-is row at w e) ∙ full-column row at c.requires in
    put_as at c.wipe.new.bytes zeros row _ (c.wipe.ensures ∙ ap (λ (m : ℕ). replicate m 0) n) (put-column row c.wipe.new.bytes at w e c.requires (c.wipe.auto.bytes ∙ n))
