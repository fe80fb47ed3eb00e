use Rattle.std.proofs.Common.{◌≡◌, ℕ, ◌+◌, ◌≤◌, Bool, true, false, cond, Ok, Option, sym, refl, ap, ◌∙◌, arith}
use mir.Val.{bool_byte}
use Rattle.parity_log.specs.Codes.{coding}
use Rattle.parity_log.specs.Pending.{is_write_of}
use Rattle.parity_log.specs.Walks.{rest, resume_at}
use Rattle.parity_log.proofs.Walking.{next-some, next-none, rest-over, rest-met}
use Rattle.parity_log.proofs.Counted.{count_step, pending-is}
use Rattle.parity_log.proofs.log.Log.count_after.Goals as goal

pub loop-head-init : goal.loop-head-init
loop-head-init g c =
    let v = g.B.Backplane.view c.args.plane.now in
    let K = coding g.C.Code c.args.self.columns in
    let u = c.args.self.used in
    let s = c.args.stripe in
    record {
      view = refl;
      log = c.records_after-records.ensures.log;
      few = omega arith;
      counted = ap (λ (i : ℕ). rest K (count_step s) v u i 0) c.records_after-records.ensures.at ∙ ap (λ (o : Option ℕ). rest K (count_step s) v u (resume_at K o) 0) c.requires.last
          ∙ sym (pending-is K v u s);
    }

byte-is : (b : Bool) → bool_byte b ≡ cond b 1 0
byte-is true = refl
byte-is false = refl

few-by : (b : Bool) → cond b 1 0 ≤ 1
few-by true = omega arith
few-by false = omega arith

pub loop-head-preserved : goal.loop-head-preserved
loop-head-preserved g c =
    let v = g.B.Backplane.view c.args.plane.now in
    let K = coding g.C.Code c.args.self.columns in
    let u = c.args.self.used in
    let s = c.args.stripe in
    let inv = c.loop-head.invariant in
    let next = c.in_ok-head.ensures in
    let i = c.loop-head.records.at in
    let j = c.next.new.self.at in
    let at = c.in-Some.field-0-0 in
    let h = c.in-Some.head in
    let n = c.loop-head.count in
    let m = next-some g.C.Code (g.B.Backplane.view c.loop-head.plane) v c.loop-head.records.log c.args.self i c.loop-head.buf j inv.view inv.log c.in_ok-head.field-0 (at, h) next.next c.in-Some.is in
    let one : c.from-count.result ≡ cond (is_write_of s h) 1 0 = c.from-count.ensures ∙ byte-is c.is_write_of.result ∙ ap (λ (b : Bool). cond {A = ℕ} b 1 0) c.is_write_of.ensures in
    let few = few-by (is_write_of s h) in
    let same : n + c.from-count.result ≡ count_step s at h n = omega (arith, one) in
    record {
      view = next.kept ∙ inv.view;
      log = next.log ∙ inv.log;
      few = omega (arith, inv.few, m.more, one, few);
      counted = ap (λ (k : ℕ). rest K (count_step s) v u j k) same ∙ rest-met K v u i at h j (count_step s) n m ∙ inv.counted;
    }

pub returns-clause-value : goal.returns-clause-value
returns-clause-value g c =
    let v = g.B.Backplane.view c.args.plane.now in
    let K = coding g.C.Code c.args.self.columns in
    let u = c.args.self.used in
    let inv = c.loop-head.invariant in
    let over = next-none g.C.Code (g.B.Backplane.view c.loop-head.plane) v c.loop-head.records.log c.args.self c.loop-head.records.at c.loop-head.buf c.next.new.self.at inv.view inv.log c.in_ok-head.field-0 c.in_ok-head.ensures.next c.in_default.is in
    ap Ok (sym (rest-over K v u c.loop-head.records.at c.loop-head.buf (count_step c.args.stripe) c.loop-head.count over.0) ∙ inv.counted)
