use Rattle.std.proofs.Common.{◌≡◌, ℕ, List, [], ◌-◌, ◌*◌, false, not, ltb, length, sym, ap, ◌∙◌, subst, inr}
use Rattle.std.proofs.lemmas.Bool.{eq-eqb}
use Rattle.backplane.specs.Plane.{Sector}
use Rattle.layout.specs.Stripes.{stripe_of, column_of}
use Rattle.model.specs.Rules.{write_open}
use Rattle.model.specs.Verdict.{Ends}
use Rattle.array.specs.Calls.{view_of, coding_of, opened_of, acked, reply_of}
use Rattle.array.proofs.Endings.{long-enough, open-ends}
use Rattle.array.proofs.array.Array.write_in.Goals as goal

pub returns : goal.returns
returns g c =
    let a = c.args.self.now in
    let z = c.write_open.new.self in
    let h = c.in-Some.started.header in
    let p = view_of g.B.Backplane g.C.Code a in
    let q = view_of g.B.Backplane g.C.Code z in
    let K = coding_of g.B.Backplane g.C.Code a in
    let r = reply_of acked c.write_open.result in
    let k : ℕ = p.slots - g.C.Code.ROWS in
    let s : ℕ = stripe_of k c.args.block in
    let j : ℕ = column_of k c.args.block in
    let whole = c.in-Ok.ensures.1 in
    let there : not (ltb c.args.block (p.blocks * k)) ≡ false = ap not (sym c.has_block.ensures ∙ c.if-not-has_block.false) in
    inr (
      ap not (eq-eqb (length c.args.bytes.now) 512 whole.long),
      inr (
        long-enough _ c.requires,
        inr (
          there,
          open-ends K (opened_of g.B.Backplane g.C.Code a) h (λ x. write_open K p x s j c.args.bytes.now) p q a.header z.header r c.in-Some.ensures.value
              (subst (λ (x : List ℕ). Ends Sector [] (write_open K p h s j x) p a.header r q z.header) whole.same c.write_open.ensures),
        ),
      ),
    )
