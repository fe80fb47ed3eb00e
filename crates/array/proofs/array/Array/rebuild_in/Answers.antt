use Rattle.std.proofs.Common.{◌≡◌, ℕ, ◌<◌, ◌≤◌, false, not, ltb, sym, ap, ◌∙◌, subst, inr, arith}
use Rattle.std.proofs.lemmas.Bool.{ltb-true}
use Rattle.model.specs.Rules.{rebuild_open}
use Rattle.model.specs.Verdict.{of_number}
use Rattle.array.specs.Calls.{view_of, coding_of, opened_of, reply_of}
use Rattle.array.proofs.Endings.{long-enough, open-ends}
use Rattle.array.proofs.Opening.{good-below, le-ne-lt}
use Rattle.array.proofs.Ways.{stripe-ends}
use Rattle.array.proofs.array.Array.rebuild_in.Goals as goal

pub rebuild_stripe-requires : goal.rebuild_stripe-requires
rebuild_stripe-requires g c =
    let a = c.args.self.now in
    let p = view_of g.B.Backplane g.C.Code a in
    let K = coding_of g.B.Backplane g.C.Code a in
    let h = c.in-Some.started.header in
    let d = c.args.slot in
    let s = c.in-Ok.stripe in
    let next = c.in-Ok.ensures in
    let started = c.in-Some.ensures.started in
    let few = started.ready.sized.few in
    let slot : d < p.slots = ltb-true d p.slots (sym c.has_slot.ensures ∙ c.if-not-has_slot.false) in
    let most : s ≤ p.blocks = subst (λ (x : ℕ). x ≤ p.blocks) (sym next.0) (good-below K p h d started.started slot (omega arith)) in
    record {
      started = started;
      slot = slot;
      live = next.1;
      stripe = le-ne-lt s p.blocks most next.2;
      repairable = next.3;
    }

pub returns-in-Ok : goal.returns-in-Ok
returns-in-Ok g c =
    let a = c.args.self.now in
    let z = c.rebuild_stripe.new.self in
    let p = view_of g.B.Backplane g.C.Code a in
    let q = view_of g.B.Backplane g.C.Code z in
    let K = coding_of g.B.Backplane g.C.Code a in
    let h = c.in-Some.started.header in
    let d = c.args.slot in
    let r = c.rebuild_stripe.result in
    let within : not (ltb d p.slots) ≡ false = ap not (sym c.has_slot.ensures ∙ c.if-not-has_slot.false) in
    inr (
      long-enough _ c.requires,
      inr (
        within,
        open-ends K (opened_of g.B.Backplane g.C.Code a) h (λ x. rebuild_open K p x d) p q a.header z.header (reply_of of_number r) c.in-Some.ensures.value
            (stripe-ends K p h d a.header c.in-Ok.stripe q r z.header c.in-Ok.ensures c.rebuild_stripe.ensures),
      ),
    )
