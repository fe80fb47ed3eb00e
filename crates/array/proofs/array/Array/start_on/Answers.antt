use Rattle.std.proofs.Common.{◌≡◌, ℕ, Bool, true, false, cond, not, Some, None, List, [], sym, refl, subst, inr}
use Rattle.backplane.specs.Plane.{Sector}
use Rattle.backplane.specs.Meaning.{Bytes}
use Rattle.layout.specs.declared.header.Header.{Header}
use Rattle.layout.specs.declared.shape.Shape.{Shape}
use Rattle.layout.specs.Header.{header_of, header_in, is_laid_out}
use Rattle.model.specs.Rules.{shape_of, start_open}
use Rattle.model.specs.Verdict.{Ends}
use Rattle.parity_log.specs.Codes.{coding_on}
use Rattle.array.specs.Calls.{view_of, acked, reply_of}
use Rattle.array.proofs.array.Array.start_on.Goals as goal

-- a cell 0 with a header is as laid out, and the header is the one in it
found : (rows : ℕ) (sh : Shape) (x : List ℕ) (h : Header) → Some h ≡ header_of rows sh x → (not (is_laid_out rows sh x) ≡ false) × (header_in x ≡ h)
found rows sh x h e = go (is_laid_out rows sh x) e
  where
    go : (b : Bool) → Some h ≡ cond b (Some (header_in x)) None → (not b ≡ false) × (header_in x ≡ h)
    go true same = (refl, cc)
    go false none = cc

pub returns : goal.returns
returns g c =
    let on = coding_on g.C.Code in
    let p = view_of g.B.Backplane g.C.Code c.args.self.now in
    let q = view_of g.B.Backplane g.C.Code c.start_open.new.self in
    let u = c.start_open.new.self.header in
    let r = c.start_open.result in
    let o = c.args.self.now.header in
    let h = c.in-Some-read_header.started.header in
    let shape : c.in-Some.shape ≡ shape_of (on p) p = c.in-Some.ensures.cases.1 in
    let there = c.in-Some-read_header.ensures.value in
    let known = found g.C.Code.ROWS (shape_of (on p) p) (p.cell 0) h (subst (λ (s : Shape). Some h ≡ header_of g.C.Code.ROWS s (p.cell 0)) shape there) in
    let ends : Ends Sector [] (start_open (on p) p h) p o (reply_of acked r) q u =
    subst (λ (x : Bytes). Ends Sector [] (start_open (on x) x h) x o (reply_of acked r) q u) c.in-Some-read_header.ensures.kept c.start_open.ensures in
    inr (known.0, subst (λ (y : Header). Ends Sector [] (start_open (on p) p y) p o (reply_of acked r) q u) (sym known.1) ends)
