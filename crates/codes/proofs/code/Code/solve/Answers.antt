use Rattle.std.proofs.Common.{◌≡◌, true, ◌++◌, cond, sym, ap, ◌∙◌, arith, rules, length}
use Rattle.codes.specs.Code.{solvable}
use Rattle.codes.specs.Solving.{completed}
use Rattle.codes.specs.Coded.{Fit, fit}
use Rattle.codes.proofs.Filling.{completed-parts}
use Rattle.codes.proofs.code.Code.solve.Goals as goal

pub returns-clause-solved : goal.returns-clause-solved
returns-clause-solved g c =
    let rows = g.Self.Code.ROWS in
    let k = c.args.k in
    let row = c.args.row.now in
    let lost = c.args.lost.now in
    let s = c.split_at_mut-data.ensures in
    let xs = c.fill_data.new.bytes in
    let ys = c.split_at_mut-data.result.1.now in
    let can : solvable rows k (length row) lost ≡ true = search rules in
    let f : Fit rows k (length row) lost = fit rows k (length row) lost can in
    let wide : length xs ≡ k = omega (arith, c.fill_data.auto.bytes, s.front_len) in
    let deep : length ys ≡ rows = omega (arith, s.back_len, f.wide) in
    let filled : xs ++ ys ≡ g.Self.Code.repaired k row lost
    = c.fill_data.ensures ∙ ap (λ n. g.Self.Code.repaired n (c.split_at_mut-data.result.0.now ++ ys) lost) s.front_len ∙ ap (λ r. g.Self.Code.repaired k r lost) (sym s.value) in (
      sym can,
      c.put_checks.ensures ∙ sym (completed-parts g.Self.Code.check rows k lost xs ys wide deep) ∙ ap (completed g.Self.Code.check rows k lost) filled
          ∙ sym (g.met.Self.Code.completes k row lost) ∙ sym (ap (λ t. cond t (g.Self.Code.solved k row lost) row) can),
    )
