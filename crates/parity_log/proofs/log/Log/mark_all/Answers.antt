use Rattle.std.proofs.Common.{◌≡◌, ℕ, ◌*◌, ◌<◌, Bool, true, cond, eqb, List, [], ◌∷◌, length, Option, sym, ap, ◌∙◌, subst, inl, inr, arith}
use Rattle.std.proofs.lemmas.Bool.{cases_lt, ne_eqb, cond-false}
use Rattle.layout.specs.Marks.{marked}
use Rattle.model.specs.Log.{walk, write, owing}
use Rattle.parity_log.specs.Codes.{coding}
use Rattle.parity_log.specs.Pending.{with_write, MarksOwing}
use Rattle.parity_log.proofs.Owed.{marks-owing, owing-write}
use Rattle.parity_log.proofs.log.Log.mark_all.Goals as goal

pub returns-in-Some-clause-marks : goal.returns-in-Some-clause-marks
returns-in-Some-clause-marks g c =
    let v = g.B.Backplane.view c.args.plane.now in
    let K = coding g.C.Code c.args.self.columns in
    let l = (walk K v c.args.self.used).log in
    let s = c.in-Some.stripe in
    let before = c.mark_records.new.map in
    let after = c.mark.new.map in
    let long : length before ≡ length c.args.map.now = omega (arith, c.mark_records.auto.map, c.wipe.auto.bytes) in
    let was : (t : ℕ) → t < v.blocks → marked before t ≡ owing K l t = λ t h. c.in_ok-mark_records.ensures.marks t (omega (arith, c.wipe.auto.bytes, c.requires.room)) in
    let is : (t : ℕ) → t < v.blocks → marked after t ≡ cond (eqb t s) true (marked before t) = λ t h. elim (cases_lt s (8 * length before)) [
      | inl lt ↦ c.mark.ensures.within lt t
      | inr le ↦ ap (λ (xs : List ℕ). marked xs t) (c.mark.ensures.past le) ∙ sym (cond-false (eqb t s) true (marked before t) (ne_eqb t s (λ e. omega (arith, c.requires.room))))
    ] in
    let m : MarksOwing K v.blocks (write s 0 [] [] ∷ l) after = marks-owing K v.blocks (write s 0 [] [] ∷ l) after
    (λ t h. is t h ∙ ap (λ (b : Bool). cond (eqb t s) true b) (was t h) ∙ sym (owing-write K s 0 [] [] l t)) in
    subst (λ (o : Option ℕ). MarksOwing K v.blocks (with_write o l) after) (sym c.in-Some.is) m

pub returns-in_default-clause-marks : goal.returns-in_default-clause-marks
returns-in_default-clause-marks g c =
    let v = g.B.Backplane.view c.args.plane.now in
    let K = coding g.C.Code c.args.self.columns in
    let l = (walk K v c.args.self.used).log in
    let map = c.mark_records.new.map in
    let m : MarksOwing K v.blocks l map = marks-owing K v.blocks l map (λ t h. c.in_ok-mark_records.ensures.marks t (omega (arith, c.wipe.auto.bytes, c.requires.room))) in
    subst (λ (o : Option ℕ). MarksOwing K v.blocks (with_write o l) map) (sym c.in_default.is) m
