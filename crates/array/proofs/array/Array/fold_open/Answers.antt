use Rattle.std.proofs.Common.{Some, ◌∙◌, subst, arith}
use Rattle.backplane.specs.Meaning.{Bytes}
use Rattle.model.specs.Rules.{folded, grown}
use Rattle.parity_log.specs.Codes.{coding_on}
use Rattle.array.specs.Calls.{view_of, Made, Same}
use Rattle.array.specs.Records.{appending}
use Rattle.array.proofs.Folded.{fold-ends}
use Rattle.array.proofs.array.Array.fold_open.Goals as goal

pub returns : goal.returns
returns g c =
    let a = c.args.self.now in
    let h = c.args.started.now.header in
    let s = c.args.stripe in
    let p = view_of g.B.Backplane g.C.Code a in
    let on = coding_on g.C.Code in
    let q = view_of g.B.Backplane g.C.Code c.append_parity.new.self in
    let u = c.append_parity.new.self.header in
    let r = c.append_parity.result in
    let x = c.in_ok-records.records in
    let judged = c.in_ok-records.ensures in
    let made = subst (λ (y : Bytes). Made (appending (on y) y h (folded (on y) y h s)) Same x (Some (grown (on y) y h (folded (on y) y h s))) y r q u) (c.load_row.ensures.kept ∙ judged.kept) c.append_parity.ensures in
    fold-ends (on p) p h s a.header x r q u judged.judged (omega arith) made
