use Rattle.std.proofs.Common.{◌≡◌, ℕ, ◌+◌, ◌*◌, ◌<◌, Bool, false, List, map, length, get_or, sym, refl, ap, ◌∙◌, inl, inr, arith}
use mathlib.Core.Path.{fun_ext}
use Rattle.std.specs.List.{range_with_len}
use Rattle.std.proofs.lemmas.List.FromFn.{fill_by_all}
use Rattle.std.proofs.lemmas.Bool.{cases_eq}
use Rattle.model.specs.Coding.{across, solve_bytes}
use Rattle.rows.specs.Columns.{column_in, flagged}
use Rattle.rows.proofs.Placed.{same-column, column-by, column-byte}
use Rattle.rows.proofs.solving.solve_places.Goals as goal

-- the same bytes at a place
across-same : (a b : List ℕ) (n i : ℕ) → i < 512 → ((c : ℕ) → get_or a (512 * c + i) 0 ≡ get_or b (512 * c + i) 0) → across n (column_in a) i ≡ across n (column_in b) i
across-same a b n i l h = ap (λ (f : ℕ → ℕ). map f (range_with_len 0 n)) (fun_ext (λ c. column-byte a c i l ∙ h c ∙ sym (column-byte b c i l)))

pub loop-i-preserved : goal.loop-i-preserved
loop-i-preserved g c =
    let i = c.loop-i.i in
    let n = length c.args.lost.now in
    let s = c.solve_place.ensures in
    let v = c.loop-i.invariant in
    let a = c.args.row.now in
    let after = c.solve_place.new.row in
    let low : i < 512 = omega arith in
    let same = across-same c.loop-i.row a n i low (λ q. v.2 i q (omega arith) low) in (
      s.long ∙ v.0,
      (λ j q h m l. elim (cases_eq j i) [
        | inl e ↦ ap (λ (x : ℕ). get_or after (512 * q + x) 0) e ∙ s.here q l
            ∙ ap (λ (r : List ℕ). get_or (g.C.Code.solved c.args.k r c.args.lost.now) q 0) (same ∙ ap (λ (x : ℕ). across n (column_in a) x) (sym e))
        | inr o ↦ s.there j q m o ∙ v.1 j q (omega arith) m l
      ]),
      (λ j q h m. s.there j q m (λ e. omega arith) ∙ v.2 j q (omega arith) m),
      (λ j q m l. elim (cases_eq j i) [
        | inl e ↦ ap (λ (x : ℕ). get_or after (512 * q + x) 0) e ∙ s.past q l ∙ ap (λ (x : ℕ). get_or c.loop-i.row (512 * q + x) 0) (sym e) ∙ v.3 j q m l
        | inr o ↦ s.there j q m o ∙ v.3 j q m l
      ]),
    )

flags-are : (lost : List Bool) → lost ≡ map (flagged lost) (range_with_len 0 (length lost))
flags-are lost = fill_by_all (flagged lost) lost (length lost) false refl (λ k h. refl)

pub returns : goal.returns
unfolding solve_bytes
returns g c =
    let n = length c.args.lost.now in
    let lost = c.args.lost.now in
    let v = c.loop-i.invariant in
    let a = c.args.row.now in
    let at : (q i : ℕ) → ℕ = λ q i. get_or (g.C.Code.solved c.args.k (across n (column_in a) i) (map (flagged lost) (range_with_len 0 n))) q 0 in
    record {
      each = λ q l. column-by c.loop-i.row q (at q) (omega (arith, c.requires.room, v.0))
          (λ i m. v.1 i q (omega arith) m l ∙ ap (λ (f : List Bool). get_or (g.C.Code.solved c.args.k (across n (column_in a) i) f) q 0) (flags-are lost));
      past = λ q l. same-column c.loop-i.row a q v.0 (λ i m. v.3 i q m l);
    }
