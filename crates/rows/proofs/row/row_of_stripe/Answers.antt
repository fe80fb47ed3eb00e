use Rattle.std.proofs.Common.{ℕ, ◌<◌, ◌≤◌, length, Option, subst}
use Rattle.std.specs.Prelude.{IfSome}
use Rattle.backplane.specs.Meaning.{Bytes}
use Rattle.layout.specs.declared.shape.Shape.{Shape}
use Rattle.model.specs.Row.{missing}
use Rattle.model.specs.Rules.{good_of}
use Rattle.parity_log.specs.Codes.{coding}
use Rattle.rows.specs.Rows.{OpenFits, HoldsRow}
use Rattle.rows.proofs.row.row_of_stripe.Goals as goal

pub returns-clause-row : goal.returns-clause-row
returns-clause-row g c =
    let p : Bytes = g.B.Backplane.view c.args.plane.now in
    let h = c.args.header.now in
    let s = c.args.stripe in
    let fits = subst (λ (o : Option Shape). IfSome o (λ sh. OpenFits g.C.Code.ROWS p h sh × (s < p.blocks) × (missing sh.slots p.live (good_of h) s ≤ g.C.Code.ROWS) × (8192 ≤ length c.args.row.now)))
    c.in_ok-shape.ensures.ok_part c.row_shape.ensures.fits in
    subst (λ (k : ℕ). HoldsRow (coding g.C.Code k) p h s c.fill_row.new.row) fits.0.columns c.fill_row.ensures.row
