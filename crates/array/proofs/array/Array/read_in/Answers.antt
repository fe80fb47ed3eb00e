use Rattle.std.proofs.Common.{◌≡◌, ℕ, ◌-◌, ◌*◌, List, false, not, ltb, length, sym, ap, ◌∙◌, subst, inr}
use Rattle.std.proofs.lemmas.Bool.{eq-eqb}
use Rattle.layout.specs.Stripes.{stripe_of, column_of}
use Rattle.model.specs.Rules.{read_open}
use Rattle.model.specs.Verdict.{of_block}
use Rattle.array.specs.Calls.{view_of, coding_of, opened_of, reply_of}
use Rattle.array.specs.Reads.{ColumnRead}
use Rattle.array.proofs.Endings.{long-enough, open-ends}
use Rattle.array.proofs.Opening.{open-held}
use Rattle.array.proofs.Found.{column-ends, column-kept}
use Rattle.array.proofs.array.Array.read_in.Goals as goal

pub returns : goal.returns
returns g c =
    let a = c.args.self.now in
    let z = c.read_open.new.self in
    let h = c.in-Some-opened.started.header in
    let p = view_of g.B.Backplane g.C.Code a in
    let q = view_of g.B.Backplane g.C.Code z in
    let K = coding_of g.B.Backplane g.C.Code a in
    let r = c.read_open.result in
    let bytes = c.read_open.new.into in
    let k : ℕ = p.slots - g.C.Code.ROWS in
    let s : ℕ = stripe_of k c.args.block in
    let j : ℕ = column_of k c.args.block in
    let is = c.in-Some-opened.ensures.value in
    let full : length c.args.into.now ≡ 512 = c.in-Some.ensures.cases.long in
    let there : not (ltb c.args.block (p.blocks * k)) ≡ false = ap not (sym c.has_block.ensures ∙ c.if-not-has_block.false) in
    let d = c.read_open.ensures in
    let read = subst (λ (x : List ℕ). ColumnRead K p h s j x r bytes) c.in-Some.ensures.cases.same d.does in
    record {
      does = inr (
        ap not (eq-eqb (length c.args.into.now) 512 full),
        inr (
          long-enough _ c.requires,
          inr (
            there,
            open-ends K (opened_of g.B.Backplane g.C.Code a) h (λ x. read_open K p x s j) p q a.header z.header (reply_of (λ _. of_block bytes) r) is
                (column-ends K p h s j c.args.into.now bytes a.header (open-held K p a.header h is) q z.header r d.plane d.header read),
          ),
        ),
      );
      kept = column-kept K p h s j c.args.into.now bytes r read;
    }
