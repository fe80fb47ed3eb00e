use Rattle.std.proofs.Common.{◌≡◌, ℕ, true, not, ltb, Some, None, ap, subst, inr, arith}
use Rattle.backplane.specs.Plane.{switched}
use Rattle.backplane.specs.Meaning.{Bytes}
use Rattle.layout.specs.declared.shape.Shape.{Shape}
use Rattle.layout.specs.Header.{header_bytes}
use Rattle.model.specs.Coding.{zeros}
use Rattle.layout.specs.Counts.{count}
use Rattle.array.specs.Calls.{view_of, shape_for, acked, Made, Same}
use Rattle.array.specs.Formats.{formatted_by, first_of}
use Rattle.array.proofs.Endings.{long-enough, same_ends}
use Rattle.array.proofs.array.Array.format_in.Goals as goal

pub returns : goal.returns
returns g c =
    let a = c.args.self.now in
    let p = view_of g.B.Backplane g.C.Code a in
    let sh = shape_for g.B.Backplane g.C.Code a in
    let q = view_of g.B.Backplane g.C.Code c.format_out.new.self in
    let u = c.format_out.new.self.header in
    let r = c.format_out.result in
    let known = c.in-Some.ensures.cases in
    let none : count p.slots (λ d. not (p.live d)) ≡ 0 = omega arith in
    let made = subst (λ (s : Shape). Made (formatted_by s zeros (header_bytes s (first_of s))) Same (tt {0}) (Some (first_of s)) (switched true p) r q u) known.1
    (subst (λ (x : Bytes). Made (formatted_by c.in-Some.shape zeros (header_bytes c.in-Some.shape (first_of c.in-Some.shape))) Same (tt {0}) (Some (first_of c.in-Some.shape)) x r q u) c.power_on.ensures.view c.format_out.ensures) in
    inr (
      long-enough _ c.requires,
      inr (
        ap not known.0,
        inr (
          ap (λ (n : ℕ). ltb 0 n) none,
          same_ends acked (formatted_by sh zeros (header_bytes sh (first_of sh))) (tt {0}) (Some (first_of sh)) None (switched true p) q r u made,
        ),
      ),
    )
