use Rattle.std.proofs.Common.{◌+◌, ◌&&◌, Bool, ap, ◌∙◌, rules, arith}
use borrow.Author.Tests.{tests}
use Rattle.std.specs.List.{range_with_len}
use Rattle.std.proofs.lemmas.Iterator.{YieldsList-from_range}
use Rattle.std.proofs.lemmas.Iterator.Consumers.{count_from_yields_List, YieldsList-from_filter}
use Rattle.std.proofs.lemmas.List.Sums.{length-filter}
use Rattle.std.proofs.lemmas.Bool.{lt-ltb}
use Rattle.layout.proofs.Counting.{count-range, count_same}
use Rattle.model.specs.Row.{lost_at}
use Rattle.model.specs.Rules.{good_of}
use Rattle.rows.specs.Lost.{is_lost_of}
use Rattle.rows.proofs.stripe.Stripe.count_lost.Goals as goal

pub returns : goal.returns
returns g c =
    let n = c.args.self.columns in
    let live = (g.B.Backplane.view c.args.plane.now).live in
    let good = good_of c.args.self.header.now in
    let s = c.args.self.number in
    let f = is_lost_of n live good s in
    count_from_yields_List c.filter.result _ c.count.ensures.ran (YieldsList-from_filter _ f (YieldsList-from_range 0 n n (cc) (omega arith)) c.filter.ensures.closure (λ x b q k. search (rules, tests)))
    ∙ length-filter f (range_with_len 0 n) ∙ count-range n 0 f
    ∙ count_same n (λ k. f (0 + k)) (lost_at n live good s) (λ t h. ap f (omega arith) ∙ ap (λ (b : Bool). b && lost_at n live good s t) (lt-ltb t n h))
