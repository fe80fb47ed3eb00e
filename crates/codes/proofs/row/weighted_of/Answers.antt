use Rattle.std.proofs.Common.{ℕ, ◌*◌, get_or, take, sym, ap, ◌∙◌, arith}
use lib.Bits.{bit_xor}
use Rattle.std.proofs.lemmas.List.{length-take-le}
use Rattle.field.specs.Field.{exp, times}
use Rattle.field.proofs.Rules.{exp-mod}
use Rattle.codes.specs.SumsLemmas.{sum-start, sum_more}
use Rattle.codes.proofs.Filling.{weighted-front}
use Rattle.codes.proofs.row.weighted_of.Goals as goal

pub loop-j-init : goal.loop-j-init
loop-j-init c = sym (sum-start (λ j. times (exp (c.args.step * j)) (get_or (take c.min-n.result c.args.bytes.now) j 0)))

pub loop-j-preserved : goal.loop-j-preserved
loop-j-preserved c =
    let xs = take c.min-n.result c.args.bytes.now in
    let f : ℕ → ℕ = λ j. times (exp (c.args.step * j)) (get_or xs j 0) in
    let j = c.loop-j.j in
    ap (bit_xor c.loop-j.s) (c.scaled-s.ensures ∙ ap (λ e. times e (get_or xs j 0)) (exp-mod (c.args.step * j)))
    ∙ ap (λ s. bit_xor s (f j)) c.loop-j.invariant ∙ sum_more j f

pub returns : goal.returns
returns c =
    let xs = c.args.bytes.now in
    let n = c.min-n.result in
    let short = length-take-le n xs (omega (arith, c.min-n.ensures)) in
    c.loop-j.invariant
    ∙ weighted-front c.args.step n c.loop-j.j xs (omega (arith, c.min-n.ensures)) (omega (arith, c.min-n.ensures)) (λ i h l. omega (arith, c.min-n.ensures)) (omega (arith, short, c.loop-j-test.false))
