use Rattle.std.proofs.Common.{◌≡◌, ℕ, ◌+◌, ◌-◌, ◌*◌, ◌<◌, List, length}
use Rattle.layout.specs.Marks.{marked}
use Rattle.model.specs.Log.{Rec, walk, owing}
use Rattle.parity_log.specs.Codes.{coding}
use Rattle.parity_log.specs.Walks.{rest}
use Rattle.parity_log.proofs.Walking.{keep}
use Rattle.parity_log.proofs.log.Log.mark_records.Given as goal

abbrev pub invariant-loop-head : goal.invariant-loop-head
invariant-loop-head g l =
    let v = g.B.Backplane.view l.fn.plane in
    let K = coding g.C.Code l.fn.self.columns in
    let u = l.fn.self.used in
    record {
      view : g.B.Backplane.view l.plane ≡ v;
      log : l.records.log ≡ l.fn.self;
      noted : (ls : List (Rec (List ℕ))) × (rest K (keep K v u) v u l.records.at ls ≡ (walk K v u).log) × ((t : ℕ) → t < 8 * length l.map → marked l.map t ≡ owing K ls t);
    }

abbrev pub decreases-loop-head : goal.decreases-loop-head
decreases-loop-head g l = l.fn.self.used + 1 - l.records.at
