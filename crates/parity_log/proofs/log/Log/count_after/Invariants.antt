use Rattle.std.proofs.Common.{◌≡◌, ◌+◌, ◌-◌, ◌≤◌}
use Rattle.model.specs.Log.{walk, pending}
use Rattle.parity_log.specs.Codes.{coding}
use Rattle.parity_log.specs.Walks.{rest}
use Rattle.parity_log.proofs.Counted.{count_step}
use Rattle.parity_log.proofs.log.Log.count_after.Given as goal

abbrev pub invariant-loop-head : goal.invariant-loop-head
invariant-loop-head g l =
    let v = g.B.Backplane.view l.fn.plane in
    let K = coding g.C.Code l.fn.self.columns in
    let u = l.fn.self.used in
    record {
      view : g.B.Backplane.view l.plane ≡ v;
      log : l.records.log ≡ l.fn.self;
      few : l.count ≤ l.records.at;
      counted : rest K (count_step l.stripe) v u l.records.at l.count ≡ pending K l.stripe (walk K v u).log;
    }

abbrev pub decreases-loop-head : goal.decreases-loop-head
decreases-loop-head g l = l.fn.self.used + 1 - l.records.at
