use Rattle.std.proofs.Common.{◌≡◌, false, not, ltb, [], ◌∷◌, Some, sym, ap, ◌∙◌, subst, inr}
use Rattle.backplane.specs.Meaning.{Fitting}
use Rattle.layout.specs.declared.header.Header.{Header}
use Rattle.layout.specs.Header.{with_good}
use Rattle.model.specs.Rules.{to_header, fit_open}
use Rattle.array.specs.Calls.{view_of, coding_of, opened_of, acked, reply_of, Made}
use Rattle.array.proofs.Endings.{long-enough, fit-ends, open-ends}
use Rattle.array.proofs.array.Array.fit_in.Goals as goal

pub returns : goal.returns
returns g c =
    let a = c.args.self.now in
    let d = c.args.slot in
    let h = c.in-Some.started.header in
    let p = view_of g.B.Backplane g.C.Code a in
    let K = coding_of g.B.Backplane g.C.Code a in
    let q = view_of g.B.Backplane g.C.Code c.fit_out.new.self in
    let u = c.fit_out.new.self.header in
    let r = c.fit_out.result in
    let made = subst (λ (x : Header). Made ((to_header K p x ∷ []) ∷ []) (Fitting d) (tt {0}) (Some x) p r q u) c.unbuilt.ensures c.fit_out.ensures in
    let within : not (ltb d p.slots) ≡ false = ap not (sym c.has_slot.ensures ∙ c.if-not-has_slot.false) in
    inr (
      long-enough _ c.requires,
      inr (
        within,
        open-ends K (opened_of g.B.Backplane g.C.Code a) h (λ x. fit_open K p x d) p q a.header u (reply_of acked r) c.in-Some.ensures.value
            (inr (sym c.if-live.ensures, fit-ends acked ((to_header K p (with_good h d 0) ∷ []) ∷ []) d (tt {0}) (Some (with_good h d 0)) a.header p q r u made)),
      ),
    )
