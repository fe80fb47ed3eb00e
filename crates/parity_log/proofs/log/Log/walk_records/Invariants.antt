use Rattle.std.proofs.Common.{◌≡◌, ℕ, ◌+◌, ◌-◌, List, Some}
use Rattle.model.specs.Log.{Rec}
use Rattle.parity_log.specs.Codes.{coding}
use Rattle.parity_log.specs.Walks.{rest, last_head, LastAt}
use Rattle.parity_log.proofs.Walking.{Stands}
use Rattle.parity_log.proofs.log.Log.walk_records.Given as goal

abbrev pub invariant-loop-at : goal.invariant-loop-at
invariant-loop-at g l =
    let v = g.B.Backplane.view l.fn.plane in
    let K = coding g.C.Code l.self.columns in
    let u = l.self.used in
    record {
      view : g.B.Backplane.view l.plane ≡ v;
      log : l.records.log ≡ l.self;
      walked : (ls : List (Rec (List ℕ))) × Stands K v u l.records.at ls × (rest K (λ i h last. Some i) v u l.records.at l.last ≡ last_head K v u) × LastAt K v u l.last ls;
    }

abbrev pub decreases-loop-at : goal.decreases-loop-at
decreases-loop-at g l = l.self.used + 1 - l.records.at
