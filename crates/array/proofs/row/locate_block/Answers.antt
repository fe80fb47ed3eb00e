use Rattle.std.proofs.Common.{◌≡◌, ℕ, ◌+◌, ◌-◌, ◌*◌, ◌<◌, ◌≤◌, sym, ap, ◌∙◌, arith}
use Rattle.layout.specs.Stripes.{stripe_of, column_of}
use Rattle.array.proofs.Opening.{stripe-below}
use Rattle.array.proofs.row.locate_block.Goals as goal

pub returns : goal.returns
returns g c =
    let p = g.B.Backplane.view c.args.plane.now in
    let block : ℕ = c.args.block in
    let k : ℕ = c.args.started.now.shape.columns in
    let least : g.C.Code.ROWS + 2 ≤ p.slots = c.requires.started.ready.sized.least in
    let slots : c.args.started.now.shape.slots ≡ p.slots = c.requires.started.fits.slots in
    let columns : k ≡ p.slots - g.C.Code.ROWS = c.requires.started.columns in
    let some : 0 < k = omega arith in
    let at = c.locate.ensures.place some in
    let back = c.locate.ensures.back some in
    let low : c.locate.result.1 < k = back.0 in
    record {
      stripe = at.0 ∙ ap (λ (j : ℕ). stripe_of j block) columns;
      column = at.1 ∙ ap (λ (j : ℕ). column_of j block) columns;
      within = stripe-below (p.slots - g.C.Code.ROWS) p.blocks block c.locate.result.0 c.locate.result.1 c.requires.block (ap (λ (j : ℕ). c.locate.result.0 * j + c.locate.result.1) (sym columns) ∙ back.1);
      below = omega arith;
    }
