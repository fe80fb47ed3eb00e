use Rattle.std.proofs.Common.{◌≡◌, true, false, rules}
use borrow.Author.Tests.{tests}
use Rattle.std.proofs.lemmas.Iterator.{first_from_Range}
use Rattle.layout.specs.Marks.{marked}
use Rattle.layout.proofs.Counting.{first-found}
use Rattle.layout.proofs.marks.lowest_marked.Goals as goal

pub returns : goal.returns
returns c =
    let f = marked c.args.map.now in
    first-found c.args.stripes f c.find.result
    (first_from_Range _ _ _ _ (λ i. f i ≡ true) (λ i. f i ≡ false) c.find.ensures.ran (λ x q k. search (rules, tests)) (λ x q k. search (rules, tests)))
