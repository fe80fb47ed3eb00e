use Rattle.std.proofs.Common.{ℕ, true, List, [], None, Option, subst, inr}
use Rattle.backplane.specs.Plane.{Sector, switched}
use Rattle.backplane.specs.Meaning.{Bytes}
use Rattle.layout.specs.declared.header.Header.{Header}
use Rattle.model.specs.Verdict.{Verdict, Ends}
use Rattle.parity_log.specs.Codes.{coding_on}
use Rattle.array.specs.Calls.{view_of, acked, reply_of}
use Rattle.array.proofs.Endings.{long-enough}
use Rattle.array.specs.Starts.{start_on}
use Rattle.array.proofs.Switching.{start-same}
use Rattle.array.proofs.array.Array.start_in.Goals as goal

pub returns : goal.returns
returns g c =
    let on = coding_on g.C.Code in
    let p = view_of g.B.Backplane g.C.Code c.args.self.now in
    let q = view_of g.B.Backplane g.C.Code c.start_on.new.self in
    let u = c.start_on.new.self.header in
    let r = c.start_on.result in
    let off = c.power_on.new.self in
    let here = subst (λ (o : Option Header). Ends Sector [] (start_on (on (view_of g.B.Backplane g.C.Code off)) (view_of g.B.Backplane g.C.Code off)) (view_of g.B.Backplane g.C.Code off) o (reply_of acked r) q u) c.power_on.ensures.held c.start_on.ensures in
    let ends = subst (λ (x : Bytes). Ends Sector [] (start_on (on x) x) x None (reply_of acked r) q u) c.power_on.ensures.view here in
    inr (long-enough _ c.requires, subst (λ (v : Verdict (List ℕ)). Ends Sector [] v (switched true p) None (reply_of acked r) q u) (start-same (on p) p) ends)
