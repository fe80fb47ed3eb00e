use Rattle.std.proofs.Common.{◌≡◌, ℕ, List, length, replicate, Some, ap, ◌∙◌, subst, rules}
use Rattle.layout.specs.declared.header.Header.{Header}
use Rattle.layout.specs.Header.{header_bytes}
use Rattle.model.specs.Coding.{zeros}
use Rattle.array.specs.Calls.{view_of, Made, Same}
use Rattle.array.specs.Formats.{formatted_by}
use Rattle.array.proofs.array.Array.format_out.Goals as goal

pub returns : goal.returns
unfolding zeros
returns g c =
    let sh = c.args.shape.now in
    let p = view_of g.B.Backplane g.C.Code c.args.self.now in
    let q = view_of g.B.Backplane g.C.Code c.format_by.new.self in
    let u = c.format_by.new.self.header in
    let r = c.format_by.result in
    let h = c.first-header.result in
    let long : length c.args.zero.now ≡ 512 = search rules in
    let blank : c.wipe.new.bytes ≡ zeros = c.wipe.ensures ∙ ap (λ (n : ℕ). replicate n 0) long in
    subst (λ (x : Header). Made (formatted_by sh zeros (header_bytes sh x)) Same (tt {0}) (Some x) p r q u) c.first-header.ensures
    (subst (λ (x : List ℕ). Made (formatted_by sh x (header_bytes sh h)) Same (tt {0}) (Some h) p r q u) blank
    (subst (λ (x : List ℕ). Made (formatted_by sh c.wipe.new.bytes x) Same (tt {0}) (Some h) p r q u) c.cell.ensures.bytes c.format_by.ensures))
