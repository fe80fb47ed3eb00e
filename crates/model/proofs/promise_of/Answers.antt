use Rattle.model.specs.ByteLaws.{ByteLaws}
use Rattle.model.proofs.promise_of.Goals as goal
use Rattle.model.proofs.Whole.{promise}

pub returns : goal.returns
returns g c =
    let K = g.C.Code in
    let M = g.met.C.Code in
    let W : ByteLaws K.NUMBER K.ROWS K.check K.solved = record { named = M.named; few = M.few; low = M.low; zero = M.zero; additive = M.additive; apart = M.apart; solves = M.solves } in
    promise K.NUMBER K.ROWS K.check K.solved W
