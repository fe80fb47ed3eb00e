use Rattle.std.proofs.Common.{◌≡◌, ◌+◌, ◌-◌}
use Rattle.parity_log.specs.Codes.{coding}
use Rattle.parity_log.specs.Walks.{rest, parity_at, last_parity}
use Rattle.parity_log.proofs.log.Log.find_parity.Given as goal

abbrev pub invariant-loop-at : goal.invariant-loop-at
invariant-loop-at g l =
    let v = g.B.Backplane.view l.fn.plane in
    let K = coding g.C.Code l.fn.self.columns in
    let u = l.fn.self.used in
    record {
      view : g.B.Backplane.view l.plane ≡ v;
      log : l.records.log ≡ l.fn.self;
      found : rest K (parity_at l.stripe) v u l.records.at l.last ≡ last_parity K v u l.stripe;
    }

abbrev pub decreases-loop-at : goal.decreases-loop-at
decreases-loop-at g l = l.fn.self.used + 1 - l.records.at
