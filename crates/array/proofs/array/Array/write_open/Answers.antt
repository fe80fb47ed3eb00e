use Rattle.std.proofs.Common.{ℕ, [], subst}
use Rattle.backplane.specs.Plane.{Sector}
use Rattle.layout.specs.Stripes.{stripe_of}
use Rattle.model.specs.Rules.{write_open}
use Rattle.model.specs.Verdict.{Ends}
use Rattle.array.specs.Calls.{view_of, coding_of, acked, reply_of}
use Rattle.array.proofs.array.Array.write_open.Goals as goal

pub returns : goal.returns
returns g c =
    let a = c.args.self.now in
    let h = c.args.started.now.header in
    let x = c.args.bytes.now in
    let p = view_of g.B.Backplane g.C.Code a in
    let K = coding_of g.B.Backplane g.C.Code a in
    let q = view_of g.B.Backplane g.C.Code c.write_column.new.self in
    let u = c.write_column.new.self.header in
    let r = c.write_column.result in
    let found = c.locate_block-stripe.ensures in
    subst (λ (j : ℕ). Ends Sector [] (write_open K p h (stripe_of K.k c.args.block) j x) p a.header (reply_of acked r) q u) found.column
    (subst (λ (s : ℕ). Ends Sector [] (write_open K p h s c.locate_block-stripe.result.1 x) p a.header (reply_of acked r) q u) found.stripe c.write_column.ensures)
