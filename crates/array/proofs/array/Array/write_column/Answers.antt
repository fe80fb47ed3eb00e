use Rattle.std.proofs.Common.{◌≡◌, ℕ, List, Some, ◌∙◌, subst}
use Rattle.backplane.specs.Meaning.{Bytes}
use Rattle.layout.specs.Bytes.{sum_of}
use Rattle.model.specs.Log.{write}
use Rattle.model.specs.Rules.{grown, row_of}
use Rattle.parity_log.specs.Codes.{coding_on}
use Rattle.array.specs.Calls.{view_of, Made, Same}
use Rattle.array.specs.Records.{appending}
use Rattle.array.proofs.Written.{write-ends}
use Rattle.array.proofs.array.Array.write_column.Goals as goal

pub returns : goal.returns
returns g c =
    let a = c.args.self.now in
    let h = c.args.started.now.header in
    let s = c.args.stripe in
    let j = c.args.column in
    let x = c.args.bytes.now in
    let p = view_of g.B.Backplane g.C.Code a in
    let on = coding_on g.C.Code in
    let m = g.B.Backplane.view c.check_write.new.plane in
    let q = view_of g.B.Backplane g.C.Code c.append_write.new.self in
    let u = c.append_write.new.self.header in
    let r = c.append_write.result in
    let d = c.find_delta.new.delta in
    let judged = c.in_ok-check_write.ensures in
    let same : m ≡ p = judged.kept in
    let found : d ≡ sum_of (row_of (on p) p h s j) x = subst (λ (y : Bytes). d ≡ sum_of (row_of (on y) y h s j) x) same c.find_delta.ensures.found in
    let made = subst (λ (y : Bytes). Made (appending (on y) y h (write s j d x)) Same (tt {0}) (Some (grown (on y) y h (write s j d x))) y r q u) (c.find_delta.ensures.kept ∙ same) c.append_write.ensures in
    write-ends (on p) p h s j x a.header c.in_ok-check_write.field-0 r q u judged.judged
    (subst (λ (y : List ℕ). Made (appending (on p) p h (write s j y x)) Same (tt {0}) (Some (grown (on p) p h (write s j y x))) p r q u) found made)
