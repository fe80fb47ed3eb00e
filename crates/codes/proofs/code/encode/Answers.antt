use Rattle.std.proofs.Common.{◌≡◌, true, false, ◌++◌, ◌+◌, if◌then◌else◌, take, replicate, sym, ap, ◌∙◌, arith, rules, length}
use Rattle.std.proofs.lemmas.List.{get_or-replicate}
use Rattle.codes.specs.Code.{coded, codable}
use Rattle.codes.specs.Solving.{remade}
use Rattle.codes.proofs.Filling.{all-made, codable-wide}
use Rattle.codes.proofs.code.encode.Goals as goal

pub returns-clause-after : goal.returns-clause-after
returns-clause-after g c =
    let check = g.C.Code.check in
    let rows = g.C.Code.ROWS in
    let k = c.args.k in
    let row = c.args.row.now in
    let s = c.split_at_mut-data.ensures in
    let xs = c.split_at_mut-data.result.0.now in
    let ys = c.split_at_mut-data.result.1.now in
    let can : codable rows k (length row) ≡ true = search rules in
    let w = codable-wide rows k (length row) can in
    let deep : length ys ≡ rows = omega (arith, s.back_len, w.1) in
    c.put_checks.ensures ∙ ap (λ n. remade (λ r. check r xs) (length xs) (replicate 16 true) n (xs ++ ys)) deep
    ∙ all-made check rows (replicate 16 true) xs ys deep (λ r h. get_or-replicate 16 (length xs + r) true false (omega (arith, s.front_len, w.0, g.met.C.Code.few.1)))
    ∙ ap (coded check rows) s.front ∙ sym (ap (λ t. if t then coded check rows (take k row) else row) can)
