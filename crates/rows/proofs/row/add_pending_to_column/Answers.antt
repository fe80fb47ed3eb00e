use Rattle.std.proofs.Common.{◌≡◌, ℕ, true, leb, eqb, length, Option, refl, sym, ◌∙◌, subst, arith}
use Rattle.std.proofs.lemmas.Bool.Decides.{nat_tests}
use Rattle.std.specs.Prelude.{IfSome}
use Rattle.backplane.specs.Meaning.{Bytes}
use Rattle.layout.specs.declared.shape.Shape.{Shape}
use Rattle.parity_log.specs.Codes.{coding}
use Rattle.rows.specs.Rows.{OpenFits, Settled}
use Rattle.rows.proofs.Opened.{then_open}
use Rattle.rows.proofs.row.add_pending_to_column.Goals as goal

pub returns-clause-settled : goal.returns-clause-settled
returns-clause-settled g c =
    let p : Bytes = g.B.Backplane.view c.args.plane.now in
    let fits = subst (λ (o : Option Shape). IfSome o (λ sh. OpenFits g.C.Code.ROWS p c.args.header.now sh)) c.in_ok-shape.ensures.ok_part c.open_shape.ensures.fits in
    subst (λ (k : ℕ). Settled (coding g.C.Code k) p c.args.header.now c.args.stripe c.args.column c.args.row.now c.add_pending_only.new.row) fits.columns c.add_pending_only.ensures.each

pub returns-clause-answer : goal.returns-clause-answer
returns-clause-answer g c =
    let opened = then_open g.C.Code (g.B.Backplane.view c.args.plane.now) c.args.header.now c.in_ok-shape.shape (sym c.open_shape.ensures.value ∙ c.in_ok-shape.ensures.ok_part) in
    let row : leb 8192 (length c.args.row.now) ≡ true = grind (arith, nat_tests) in
    let cell : eqb (length c.args.cell.now) 512 ≡ true = grind (arith, nat_tests) in
    rw (opened, row, cell) refl
