use Rattle.std.proofs.Common.{ltb, [], ◌∷◌, Some, subst, inr}
use Rattle.backplane.specs.Meaning.{Bytes}
use Rattle.layout.specs.declared.header.Header.{Header}
use Rattle.layout.specs.Counts.{lowest}
use Rattle.layout.specs.Header.{with_used}
use Rattle.model.specs.Log.{owing, owed}
use Rattle.model.specs.Rules.{to_header, log_of, clear_open}
use Rattle.parity_log.specs.Codes.{coding_on}
use Rattle.array.specs.Calls.{view_of, coding_of, opened_of, acked, reply_of, Made, Same}
use Rattle.array.proofs.Endings.{long-enough, none_found, made-header, same_ends, open-ends}
use Rattle.array.proofs.array.Array.clear_in.Goals as goal

pub returns : goal.returns
returns g c =
    let a = c.args.self.now in
    let b = c.lowest_pending.new.self in
    let h = c.in-Some.started.header in
    let n = c.emptied.result in
    let p = view_of g.B.Backplane g.C.Code a in
    let K = coding_of g.B.Backplane g.C.Code a in
    let m = view_of g.B.Backplane g.C.Code b in
    let q = view_of g.B.Backplane g.C.Code c.store_header.new.self in
    let u = c.store_header.new.self.header in
    let r = c.store_header.result in
    let log = log_of K p h in
    let first = made-header (to_header (coding_on g.C.Code m) m n) n m q r u c.store_header.ensures.stores c.store_header.ensures.held in
    let kept = subst (λ (x : Bytes). Made ((to_header (coding_on g.C.Code x) x n ∷ []) ∷ []) Same (tt {0}) (Some n) x r q u) c.lowest_pending.ensures.kept first in
    let made = subst (λ (x : Header). Made ((to_header K p x ∷ []) ∷ []) Same (tt {0}) (Some x) p r q u) c.emptied.ensures kept in
    inr (
      long-enough _ c.requires,
      open-ends K (opened_of g.B.Backplane g.C.Code a) h (λ x. clear_open K p x) p q a.header u (reply_of acked r) c.in-Some.ensures.value
          (inr (
            none_found (ltb 0 (owed K p.blocks log)) (lowest p.blocks (owing K log) 0) c.in_default-lowest_pending.ensures.value,
            same_ends acked ((to_header K p (with_used h 0) ∷ []) ∷ []) (tt {0}) (Some (with_used h 0)) a.header p q r u made,
          )),
    )
