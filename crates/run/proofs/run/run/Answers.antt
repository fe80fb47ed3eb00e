use Rattle.std.proofs.Common.{rules, ◌≡◌, length, vec_items, ap, ◌∙◌, Ok}
use Rattle.std.proofs.lemmas.Result.{err_from_is_err_and}
use Rattle.model.specs.ByteLaws.{ByteLaws}
use Rattle.run.proofs.Work.{wiped-length}
use Rattle.run.proofs.Keeping.{kept-all, kept-some}
use Rattle.run.proofs.run.run.Given as given
use Rattle.run.proofs.run.run.Goals as goal

-- what the code keeps
laws : (g : given.Over) → ByteLaws g.C.Code.NUMBER g.C.Code.ROWS g.C.Code.check g.C.Code.solved
laws g =
    let met = g.met.C.Code in
    record { named = met.named; few = met.few; low = met.low; zero = met.zero; additive = met.additive; apart = met.apart; solves = met.solves }

pub returns : goal.returns
returns g c =
    let w = c.args.work.now in
    let wiped = c.format.ensures.area in
    -- the list of calls is made only where the format was done
    let done : c.format.result ≡ Ok tt = search rules in
    record {
      does = kept-all g.B.Backplane g.C.Code (laws g) c.args.array.now c.format.new.self c.make_all.new.array (length c.format.new.work) (length w)
          (ap length wiped ∙ wiped-length w) c.keeps_sound.ensures (rw done at c.format.ensures.does)
          c.args.calls.now (vec_items c.in_ok-make_all.field-0) c.in_ok-make_all.ensures.does;
      area = c.in_ok-make_all.ensures.area ∙ wiped;
    }

pub returns-in_err-make_all : goal.returns-in_err-make_all
returns-in_err-make_all g c =
    let w = c.args.work.now in
    let wiped = c.in_ok-format.ensures.area in
    let p = err_from_is_err_and c.from_residual-in_err-make_all.result c.from_residual-in_err-make_all.ensures.1 in
    record {
      does = rw (p.1, p.2)
          (kept-some g.B.Backplane g.C.Code (laws g) c.args.array.now c.format.new.self c.make_all.new.array (length c.format.new.work) (length w)
          (ap length wiped ∙ wiped-length w) c.keeps_sound.ensures c.in_ok-format.ensures.does
          c.args.calls.now c.in_err-make_all.ensures.does);
      area = c.in_err-make_all.ensures.area ∙ wiped;
    }
