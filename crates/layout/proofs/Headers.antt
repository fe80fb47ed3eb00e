-- What is encoded from a header that fits is as laid out, and holds that header.
use Rattle.std.proofs.Common.{◌≡◌, ℕ, zero, suc, ◌+◌, ◌-◌, ◌*◌, ◌<◌, ◌≤◌, Bool, true, false, cond, ◌&&◌, ltb, leb, List, ◌++◌, length, get_or, take, replicate, sym, refl, ap, ◌∙◌, ap₂, inl, inr, add-one, arith}
use Rattle.std.specs.List.{flat_map, list_all, enumerate_from}
use Rattle.std.proofs.Math.Bool.{and_comm}
use Rattle.std.proofs.lemmas.List.{take_all}
use Rattle.std.proofs.lemmas.List.Folds.{list_all_more}
use Rattle.std.specs.Str.{bytes_eq}
use Rattle.std.proofs.lemmas.Bool.{and_parts, and_from, leb-true, cases_eq}
use Rattle.std.proofs.lemmas.List.FromFn.{fill_by_all, length-enumerate_from, get_or-enumerate_from}
use Rattle.std.proofs.lemmas.Slice.Eq.{bytes_eq-Decides}
use Rattle.layout.specs.Bytes.{le4, four_at}
use Rattle.layout.specs.Limits.{within_limits}
use Rattle.layout.specs.Header.{front_bytes, header_bytes, good_in, goods_in, header_in, goods_fit, header_fits, is_laid_out}
use Rattle.layout.specs.declared.shape.Shape.{Shape}
use Rattle.layout.specs.declared.header.Header.{Header}
use Rattle.layout.proofs.Numbers.{four_at-le4, four_at-past, four_at-joined}

pub length-front_bytes : (sh : Shape) (used : ℕ) → length (front_bytes sh used) ≡ 20
unfolding front_bytes
length-front_bytes sh used = refl

pub same_bytes : (xs ys : List ℕ) → xs ≡ ys → bytes_eq xs ys ≡ true
same_bytes xs ys e = (bytes_eq-Decides xs ys).1 e

pub bytes_same : (xs ys : List ℕ) → bytes_eq xs ys ≡ true → xs ≡ ys
bytes_same xs ys e = (bytes_eq-Decides xs ys).0 e

-- each of the slots has at most as many good stripes as there are blocks
pub goods-at : (slots blocks n : ℕ) (good : List ℕ) → goods_fit slots blocks n good ≡ true → (d : ℕ) → d < n → get_or good d 0 ≤ cond (ltb d slots) blocks 0
unfolding goods_fit
goods-at slots blocks zero good e d h = absurd (omega arith)
goods-at slots blocks (suc n) good e d h =
    let p = and_parts (leb (get_or good n 0) (cond (ltb n slots) blocks 0)) (goods_fit slots blocks n good) e in
    elim (cases_eq d n) [
      | inl q ↦ rw q (leb-true (get_or good n 0) (cond (ltb n slots) blocks 0) p.0)
      | inr o ↦ goods-at slots blocks n good p.1 d (omega arith)
    ]

pub goods_fit-more : (slots blocks d : ℕ) (good : List ℕ) → goods_fit slots blocks (d + 1) good ≡ (leb (get_or good d 0) (cond (ltb d slots) blocks 0) && goods_fit slots blocks d good)
unfolding goods_fit
goods_fit-more slots blocks d good = ap (λ (n : ℕ). goods_fit slots blocks n good) (add-one d)

fits-front : (slots blocks : ℕ) (good : List ℕ) (i : ℕ) → i ≤ length good → list_all (λ (p : ℕ × ℕ). leb p.1 (cond (ltb p.0 slots) blocks 0)) (take i (enumerate_from 0 good)) ≡ goods_fit slots blocks i good
unfolding goods_fit
fits-front slots blocks good zero h = refl
fits-front slots blocks good (suc i) h =
    let f : ℕ × ℕ → Bool = λ p. leb p.1 (cond (ltb p.0 slots) blocks 0) in
    let l = length-enumerate_from 0 good in
    let m = list_all_more f (enumerate_from 0 good) i (0, 0) (omega arith) in
    let e = get_or-enumerate_from 0 good i (0, 0) (omega arith) in
    let z : 0 + i ≡ i = omega arith in
    ap (λ (k : ℕ). list_all f (take k (enumerate_from 0 good))) (sym (add-one i)) ∙ m ∙ ap₂ (λ (a b : Bool). a && b) (fits-front slots blocks good i (omega arith)) (ap f e ∙ ap (λ (j : ℕ). leb (get_or good i 0) (cond (ltb j slots) blocks 0)) z) ∙ and_comm (goods_fit slots blocks i good) (leb (get_or good i 0) (cond (ltb i slots) blocks 0))

-- each of sixteen counts, tried in turn
pub all_fit : (slots blocks : ℕ) (good : List ℕ) → length good ≡ 16 → list_all (λ (p : ℕ × ℕ). leb p.1 (cond (ltb p.0 slots) blocks 0)) (enumerate_from 0 good) ≡ goods_fit slots blocks 16 good
all_fit slots blocks good n =
    let l = length-enumerate_from 0 good in
    sym (ap (list_all (λ (p : ℕ × ℕ). leb p.1 (cond (ltb p.0 slots) blocks 0))) (take_all 16 (enumerate_from 0 good) (omega arith))) ∙ fits-front slots blocks good 16 (omega arith)

cond-most : (b : Bool) (n : ℕ) → cond b n 0 ≤ n
cond-most true n = omega arith
cond-most false n = omega arith

pub goods-most : (slots blocks : ℕ) (good : List ℕ) → goods_fit slots blocks 16 good ≡ true → (d : ℕ) → d < 16 → get_or good d 0 ≤ blocks
goods-most slots blocks good e d h =
    let a = goods-at slots blocks 16 good e d h in
    let b = cond-most (ltb d slots) blocks in
    omega arith

pub record Limits (rows : ℕ) (sh : Shape) : Type 0 where
  pub some : 2 ≤ sh.columns
  pub few : sh.columns ≤ 12
  pub sum : sh.slots ≡ sh.columns + rows
  pub blocks : sh.blocks ≤ 65536
  pub block : 1 ≤ sh.blocks
  pub cells : sh.cells ≤ 4096
  pub cell : 8 ≤ sh.cells

pub limits_of : (rows : ℕ) (sh : Shape) → within_limits rows sh ≡ true → Limits rows sh
limits_of rows sh e = grind arith

module _ (rows : ℕ) (sh : Shape) (h : Header) (n : length h.good ≡ 16) (l : within_limits rows sh ≡ true) (fits : header_fits sh h ≡ true) where
  parts : (leb h.used (sh.cells - 1) ≡ true) × (goods_fit sh.slots sh.blocks 16 h.good ≡ true)
  parts = and_parts (leb h.used (sh.cells - 1)) (goods_fit sh.slots sh.blocks 16 h.good) fits

  used-back : four_at (header_bytes sh h) 16 ≡ h.used
  unfolding front_bytes
  used-back =
      let lim = limits_of rows sh l in
      let u = leb-true h.used (sh.cells - 1) parts.0 in
      four_at-le4 h.used (omega arith)

  good-back : (d : ℕ) → d < 16 → get_or h.good d 0 ≡ good_in (header_bytes sh h) d
  good-back d lt =
      let f = front_bytes sh h.used in
      let z = flat_map le4 h.good ++ replicate 428 0 in
      let lim = limits_of rows sh l in
      let most = goods-most sh.slots sh.blocks h.good parts.1 d lt in
      let e : four_at (f ++ z) (20 + 4 * d) ≡ four_at (f ++ z) (length f + 4 * d) = ap (λ (m : ℕ). four_at (f ++ z) (m + 4 * d)) (sym (length-front_bytes sh h.used)) in
      sym (e ∙ four_at-past f z (4 * d) ∙ four_at-joined h.good (replicate 428 0) d (omega arith) ∙ four_at-le4 (get_or h.good d 0) (omega arith))

  goods-back : goods_in (header_bytes sh h) ≡ h.good
  unfolding goods_in
  goods-back = sym (fill_by_all (good_in (header_bytes sh h)) h.good 16 0 n good-back)

  pub header_in-header_bytes : header_in (header_bytes sh h) ≡ h
  header_in-header_bytes = λ i. record { used = used-back i; good = goods-back i }

  pub is_laid_out-header_bytes : is_laid_out rows sh (header_bytes sh h) ≡ true
  is_laid_out-header_bytes =
      let x = header_bytes sh h in
      and_from _ _ l (and_from _ _ (ap (header_fits sh) header_in-header_bytes ∙ fits) (same_bytes x (header_bytes sh (header_in x)) (ap (header_bytes sh) (sym header_in-header_bytes))))

  pub encoded-back : (x : List ℕ) → x ≡ header_bytes sh h → (is_laid_out rows sh x ≡ true) × (header_in x ≡ h)
  encoded-back x e = (ap (is_laid_out rows sh) e ∙ is_laid_out-header_bytes, ap header_in e ∙ header_in-header_bytes)
