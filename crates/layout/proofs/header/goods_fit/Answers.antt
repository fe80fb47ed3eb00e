use Rattle.std.proofs.Common.{◌∙◌, leb, ltb, cond, rules}
use borrow.Author.Tests.{tests}
use Rattle.std.proofs.lemmas.Iterator.{YieldsList-from_slice}
use Rattle.std.proofs.lemmas.Iterator.Consumers.{YieldsList-from_enumerate}
use Rattle.std.proofs.lemmas.Iterator.Search.{all_from_yields_List}
use Rattle.layout.proofs.Headers.{all_fit}
use Rattle.layout.proofs.header.goods_fit.Goals as goal

pub returns : goal.returns
returns c =
    let sh = c.args.shape.now in
    let good = c.args.good.now in
    all_from_yields_List (λ p. leb p.1 (cond (ltb p.0 sh.slots) sh.blocks 0)) _ _ c.all.result c.all.ensures.ran (YieldsList-from_enumerate (YieldsList-from_slice good (cc)) (cc)) (λ x b q k. search (rules, tests))
    ∙ all_fit sh.slots sh.blocks good (search rules)
