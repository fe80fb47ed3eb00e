use Rattle.std.proofs.Common.{◌≡◌, ℕ, ◌+◌, ◌-◌, ◌*◌, ◌≤◌, List, length, take, drop, ap, ◌∙◌, ap₂, arith}
use Rattle.backplane.specs.Meaning.{Bytes}
use Rattle.rows.proofs.Placed.{put-column, put_as, column-is, full-column}
use Rattle.rows.proofs.row.read_column.Goals as goal

pub returns-clause-column : goal.returns-clause-column
returns-clause-column g c =
    let p : Bytes = g.B.Backplane.view c.args.plane.now in
    let at : ℕ = c.args.column in
    let row : List ℕ = c.args.row.now in
    let w = 512 * at + 512 - 512 * at in
    let e : w ≡ 512 = omega arith in
    let room : 512 * at + 512 ≤ length row = omega (arith, c.requires.fits.few, c.requires.column, c.requires.room) in
    let n : length (take w (drop (512 * at) row)) ≡ 512 = ap length (column-is row at w e) ∙ full-column row at room in
    let here = (c.place-slot.ensures.slot (omega (arith, c.requires.column))).0 in
    put_as at c.read.new.into _ row _ (c.in_ok-read.ensures.2 ∙ ap₂ p.block here (ap (λ (r : ℕ × ℕ). r.1) c.place-slot.ensures.value))
    (put-column row c.read.new.into at w e room (c.read.auto.into ∙ n))
