use Rattle.std.proofs.Common.{false, rules}
use Rattle.model.specs.Rules.{good_of}
use Rattle.rows.specs.Lost.{is_lost_of, lost_flags}
use Rattle.rows.proofs.Filling.{filled}
use Rattle.rows.proofs.stripe.Stripe.lost_columns.Goals as goal

pub returns : goal.returns
unfolding lost_flags
returns g c =
    filled _ _ (is_lost_of c.args.self.columns (g.B.Backplane.view c.args.plane.now).live (good_of c.args.self.header.now) c.args.self.number) false 16 (λ i y q h k. search rules) c.from_fn.result c.from_fn.ensures.items
