use Rattle.std.proofs.Common.{◌≡◌, ℕ, List, ◌-◌, ◌*◌, length, take, drop, ap, ◌∙◌, arith}
use Rattle.std.proofs.lemmas.List.{length-drop, take_all}
use Rattle.rows.specs.Columns.{column_in}
use Rattle.array.proofs.row.row_column.Goals as goal

pub returns : goal.returns
unfolding column_in
returns c =
    let at : ℕ = 512 * c.args.column in
    let rest : List ℕ = drop at c.args.row.now in
    let long : length rest ≡ length c.args.row.now - at = length-drop at c.args.row.now in
    c.in-Some.ensures.cases.same ∙ ap (take 512) (take_all (8192 - at) rest (omega arith))
