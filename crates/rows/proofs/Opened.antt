-- What an open array is known to be.
use Rattle.std.proofs.Common.{◌≡◌, ℕ, ◌+◌, ◌-◌, ◌<◌, ◌≤◌, Bool, true, false, cond, not, ◌&&◌, eqb, ltb, leb, List, Some, None, refl, ap, ◌∙◌, subst, arith}
use Rattle.std.proofs.lemmas.Bool.{and_parts}
use Rattle.std.proofs.lemmas.Bool.Decides.{nat_tests}
use Rattle.backplane.specs.Meaning.{Bytes}
use Rattle.layout.specs.declared.shape.Shape.{Shape}
use Rattle.layout.specs.declared.header.Header.{Header}
use Rattle.layout.specs.Limits.{within_limits}
use Rattle.layout.specs.Header.{header_fits, goods_fit}
use Rattle.codes.specs.declared.code.Code.{Ghosts as CodeGhosts}
use Rattle.model.specs.Coding.{Coding}
use Rattle.parity_log.specs.declared.log.Log.{Log}
use Rattle.parity_log.specs.Codes.{coding_on}
use Rattle.model.specs.Row.{missing}
use Rattle.model.specs.Rules.{good_of, shape_of, past_repair}
use Rattle.rows.specs.Rows.{is_open, open_shape, OpenFits, LogFits, has_row, has_room}

some_is : {A : Type 0} (b : Bool) (x y : A) → cond b (Some x) None ≡ Some y → (b ≡ true) × (x ≡ y)
some_is true x y e = (refl, cc)
some_is false x y e = absurd (let z : ◌≡◌ {A = ℕ} 0 1 = cc in omega arith)

none_is : {A : Type 0} (b : Bool) (x : A) → cond b (Some x) None ≡ None → b ≡ false
none_is true x e = absurd (let z : ◌≡◌ {A = ℕ} 0 1 = cc in omega arith)
none_is false x e = refl

module _ {C : Type 0} (code : CodeGhosts C) (p : Bytes) (h : Header) where
  K : Coding (List ℕ)
  K = coding_on code p

  by_tests : is_open (coding_on code p) p h ≡ true → OpenFits code.ROWS p h (shape_of (coding_on code p) p)
  by_tests o =
      let k : ℕ = p.slots - code.ROWS in
      let L : Bool = within_limits code.ROWS (shape_of (coding_on code p) p) in
      let H : Bool = header_fits (shape_of (coding_on code p) p) h in
      let D : Bool = leb 8 p.cells && leb p.cells 4096 in
      let T : Bool = (leb 1 p.blocks && leb p.blocks 65536) && D in
      let open-parts = and_parts p.on (L && H) o in
      let parts = and_parts L H open-parts.1 in
      let of-limits = and_parts (leb 2 k && leb k 12) (eqb p.slots (k + code.ROWS) && T) parts.0 in
      let of-columns = and_parts (leb 2 k) (leb k 12) of-limits.0 in
      let of_slots = and_parts (eqb p.slots (k + code.ROWS)) T of-limits.1 in
      let of-cells = and_parts (leb 8 p.cells) (leb p.cells 4096) (and_parts (leb 1 p.blocks && leb p.blocks 65536) D of_slots.1).1 in
      let low : leb 2 (p.slots - code.ROWS) ≡ true = of-columns.0 in
      let high : leb (p.slots - code.ROWS) 12 ≡ true = of-columns.1 in
      let slots : eqb p.slots (p.slots - code.ROWS + code.ROWS) ≡ true = of_slots.0 in
      let some : leb 8 p.cells ≡ true = of-cells.0 in
      let many : leb p.cells 4096 ≡ true = of-cells.1 in
      let used : leb h.used (p.cells - 1) ≡ true = (and_parts (leb h.used (p.cells - 1)) (goods_fit p.slots p.blocks 16 h.good) parts.1).0 in
      record {
        power = open-parts.0;
        slots = refl;
        blocks = refl;
        width = grind (arith, nat_tests);
        columns = refl;
        low = grind (arith, nat_tests);
        high = grind (arith, nat_tests);
        cells = grind (arith, nat_tests);
        used = grind (arith, nat_tests);
      }

  pub open-fits : (sh : Shape) → open_shape (coding_on code p) p h ≡ Some sh → OpenFits code.ROWS p h sh
  open-fits sh e =
      let w = some_is (is_open (coding_on code p) p h) (shape_of (coding_on code p) p) sh e in
      subst (λ (z : Shape). OpenFits code.ROWS p h z) w.1 (by_tests w.0)

  pub then_open : (sh : Shape) → open_shape (coding_on code p) p h ≡ Some sh → is_open (coding_on code p) p h ≡ true
  then_open sh e = (some_is (is_open (coding_on code p) p h) (shape_of (coding_on code p) p) sh e).0

  pub not-open : open_shape (coding_on code p) p h ≡ None → is_open (coding_on code p) p h ≡ false
  not-open e = none_is (is_open (coding_on code p) p h) (shape_of (coding_on code p) p) e

  module _ (sh : Shape) (e : open_shape (coding_on code p) p h ≡ Some sh) (s bytes cell : ℕ) where
    f : OpenFits code.ROWS p h sh
    f = open-fits sh e

    -- the tests of the row in an open array
    pub row-tests : has_row (coding_on code p) p h s bytes cell ≡ ltb s sh.blocks && (has_room bytes cell && not (ltb code.ROWS (missing sh.slots p.live (good_of h) s)))
    row-tests =
        let w : p.slots - code.ROWS + code.ROWS ≡ sh.slots = omega (arith, f.width, f.columns) in
        ap (λ (t : Bool). t && (ltb s p.blocks && (has_room bytes cell && not (past_repair (coding_on code p) p h s)))) (then_open sh e)
        ∙ ap (λ (b : ℕ). ltb s b && (has_room bytes cell && not (past_repair (coding_on code p) p h s))) f.blocks
        ∙ ap (λ (n : ℕ). ltb s sh.blocks && (has_room bytes cell && not (ltb code.ROWS (missing n p.live (good_of h) s)))) w

    pub row_fits : ltb s sh.blocks && (has_room bytes cell && not (ltb code.ROWS (missing sh.slots p.live (good_of h) s))) ≡ true
        → OpenFits code.ROWS p h sh × (s < p.blocks) × (missing sh.slots p.live (good_of h) s ≤ code.ROWS) × (8192 ≤ bytes) × (cell ≡ 512)
    row_fits t =
        let N : Bool = not (ltb code.ROWS (missing sh.slots p.live (good_of h) s)) in
        let ab = and_parts (ltb s sh.blocks) (has_room bytes cell && N) t in
        let cd = and_parts (has_room bytes cell) N ab.1 in
        let ef = and_parts (leb 8192 bytes) (eqb cell 512) cd.0 in
        let a : ltb s sh.blocks ≡ true = ab.0 in
        let b : leb 8192 bytes ≡ true = ef.0 in
        let d : eqb cell 512 ≡ true = ef.1 in
        let lost : not (ltb code.ROWS (missing sh.slots p.live (good_of h) s)) ≡ true = cd.1 in
        let same = f.blocks in
        (f, grind (arith, nat_tests), low code.ROWS (missing sh.slots p.live (good_of h) s) lost, grind (arith, nat_tests), grind (arith, nat_tests))
      where
        low : (m n : ℕ) → not (ltb m n) ≡ true → n ≤ m
        low m n e = go (ltb m n) refl e
          where
            go : (t : Bool) → ltb m n ≡ t → not t ≡ true → n ≤ m
            go true x y = absurd (let z : ◌≡◌ {A = ℕ} 0 1 = cc in omega arith)
            go false x y = grind (arith, nat_tests)

pub log-fits : (rows : ℕ) (p : Bytes) (h : Header) (sh : Shape) (log : Log) → log.columns ≡ sh.columns → log.used ≡ h.used → OpenFits rows p h sh → LogFits p log
log-fits rows p h sh log c u f = record { power = f.power; cells = omega (arith, f.cells, u); few = omega (arith, f.high, c) }
