use Rattle.std.proofs.Common.{◌≡◌, ℕ, ◌+◌, ◌-◌, ◌*◌, List, length, take, drop, ap, ◌∙◌, arith}
use Rattle.layout.specs.Bytes.{sum_of}
use Rattle.model.specs.Coding.{share}
use Rattle.parity_log.specs.Codes.{coding}
use Rattle.rows.specs.Columns.{column_in}
use Rattle.rows.proofs.Placed.{put-column, put_as, column-is, full-column}
use Rattle.rows.proofs.pending.Delta.add_share.Goals as goal

pub returns : goal.returns
returns g c =
    let at = c.args.self.columns + c.args.r in
    let row : List ℕ = c.args.row.now in
    let w = 512 * at + 512 - 512 * at in
    let e : w ≡ 512 = omega arith in
    let col : take w (drop (512 * at) row) ≡ column_in row at = column-is row at w e in
    let n : length (take w (drop (512 * at) row)) ≡ 512 = ap length col ∙ full-column row at c.requires.room in
    let long : length c.args.self.bytes.now ≡ 512 = omega arith in
    let sh : List ℕ = share (coding g.C.Code c.args.self.columns) c.args.r c.args.self.column c.args.self.bytes.now in
    let whole : c.add_share.new.target ≡ sum_of (take w (drop (512 * at) row)) sh = c.add_share.ensures.whole c.args.self.columns c.requires.column c.requires.few c.requires.check long n in
    put_as at c.add_share.new.target _ row _ (whole ∙ ap (λ (z : List ℕ). sum_of z sh) col) (put-column row c.add_share.new.target at w e c.requires.room (c.add_share.auto.target ∙ n))
