-- The laws of a code over bytes, as the proofs use them: over the same counting and sums as the rules.
use Rattle.std.proofs.Common.{◌≡◌, ℕ, zero, suc, ◌+◌, ◌<◌, ◌≤◌, Bool, true, false, cond, not, eqb, leb, List, [], ◌∷◌, ◌++◌, map, length, get_or, take, drop, replicate, sym, refl, ap, ◌∙◌, arith}
use Rattle.std.proofs.lemmas.Bool.{and_from, le-leb, eq-eqb}
use Rattle.codes.specs.Code.{plus, lost_count, solvable, count as count_c, Solves as SolvesC}
use Rattle.codes.specs.Counts.{lost-split}
use Rattle.model.specs.ByteLaws.{ByteLaws}
use lib.Bits.{bit_xor}
use Rattle.std.specs.List.{range_with_len}
use Rattle.layout.specs.Bytes.{sum_of}
use Rattle.layout.specs.Counts.{count}

-- a list of bytes
abbrev pub Low : List ℕ → Type 0
Low xs = (j : ℕ) → get_or xs j 0 < 256

-- the coded row of the data: the data, then the checks
abbrev pub coded : (ℕ → List ℕ → ℕ) → ℕ → List ℕ → List ℕ
coded check rows xs = xs ++ map (λ r. check r xs) (range_with_len 0 rows)

-- two rows of n bytes agree outside the lost places
abbrev pub Agree : ℕ → (ℕ → Bool) → List ℕ → List ℕ → Type 0
Agree n lost xs ys = (c : ℕ) → c < n → lost c ≡ false → get_or xs c 0 ≡ get_or ys c 0

abbrev pub lost_place : List Bool → ℕ → Bool
lost_place lost c = get_or lost c false

-- what solving makes of a row: the kept places stay, the data agree with the lowest kept check rows, as many as data places are lost,
-- and lost checks are made from the data
pub record Solves (check : ℕ → List ℕ → ℕ) (rows k : ℕ) (row : List ℕ) (lost : List Bool) (out : List ℕ) : Type 0 where
  pub long : length out ≡ length row
  pub bytes : Low out
  pub kept : Agree (k + rows) (lost_place lost) out row
  pub lowest : (r : ℕ) → r < rows → lost_place lost (k + r) ≡ false → count r (λ p. not (lost_place lost (k + p))) < count k (lost_place lost)
      → check r (take k out) ≡ get_or row (k + r) 0
  pub made : (r : ℕ) → r < rows → lost_place lost (k + r) ≡ true → get_or out (k + r) 0 ≡ check r (take k out)

pub record CodeLaws (number rows : ℕ) (check : ℕ → List ℕ → ℕ) (solved : ℕ → List ℕ → List Bool → List ℕ) : Type 0 where
  pub named : number < 256
  pub few : (1 ≤ rows) × (rows ≤ 4)
  -- a check is a byte
  pub low : (r : ℕ) (xs : List ℕ) → Low xs → check r xs < 256
  -- zeros have the check 0, and the check of a sum is the sum of the checks
  pub zero : (r n : ℕ) → check r (replicate n 0) ≡ 0
  pub additive : (r : ℕ) (xs ys : List ℕ) → length xs ≡ length ys → Low xs → Low ys → check r (sum_of xs ys) ≡ bit_xor (check r xs) (check r ys)
  -- two data lists are equal if their coded rows agree outside as many places as there are check rows
  pub apart : (xs ys : List ℕ) (lost : ℕ → Bool) → length xs ≡ length ys → length xs ≤ 12 → Low xs → Low ys → count (length xs + rows) lost ≤ rows
      → Agree (length xs + rows) lost (coded check rows xs) (coded check rows ys) → xs ≡ ys
  -- a row of which no more places are lost than there are check rows is solved
  pub solves : (k : ℕ) (row : List ℕ) (lost : List Bool) → 2 ≤ k → k ≤ 12 → length row ≡ k + rows → length lost ≡ k + rows → count (k + rows) (lost_place lost) ≤ rows
      → Low row → Solves check rows k row lost (solved k row lost)

count-is : (n : ℕ) (f : ℕ → Bool) → count_c n f ≡ count n f
count-is zero f = refl
count-is (suc n) f = ap (λ z. cond (f n) 1 0 + z) (count-is n f)

plus-is : (xs ys : List ℕ) → plus xs ys ≡ sum_of xs ys
plus-is [] ys = refl
plus-is (x ∷ xs) [] = refl
plus-is (x ∷ xs) (y ∷ ys) = ap (λ (z : List ℕ). bit_xor x y ∷ z) (plus-is xs ys)

drop_all : (xs : List Bool) (n : ℕ) → length xs ≡ n → lost_count (drop n xs) ≡ 0
drop_all [] zero h = refl
drop_all [] (suc n) h = absurd (omega arith)
drop_all (x ∷ xs) zero h = absurd (omega arith)
drop_all (x ∷ xs) (suc n) h = drop_all xs n (omega arith)

module _ (number rows : ℕ) (check : ℕ → List ℕ → ℕ) (solved : ℕ → List ℕ → List Bool → List ℕ) (W : ByteLaws number rows check solved) where
  fit : (k : ℕ) (row : List ℕ) (lost : List Bool) → 2 ≤ k → k ≤ 12 → length row ≡ k + rows → length lost ≡ k + rows → count (k + rows) (lost_place lost) ≤ rows
      → solvable rows k (length row) lost ≡ true
  fit k row lost h2 h12 hr hl few =
      and_from (leb 2 k) _ (le-leb 2 k h2) (and_from (leb k 12) _ (le-leb k 12 h12) (and_from (eqb (length row) (k + rows)) _ (eq-eqb (length row) (k + rows) hr)
      (and_from (eqb (lost_count (drop (k + rows) lost)) 0) _ (eq-eqb (lost_count (drop (k + rows) lost)) 0 (drop_all lost (k + rows) hl))
      (le-leb (lost_count lost) rows (let z = lost-split lost (k + rows) in let y = drop_all lost (k + rows) hl in let x = count-is (k + rows) (lost_place lost) in omega arith)))))

  -- the laws as the trait has them are these
  pub laws : CodeLaws number rows check solved
  laws = record {
    named = W.named;
    few = W.few;
    low = W.low;
    zero = W.zero;
    additive = λ r xs ys e a b. ap (check r) (sym (plus-is xs ys)) ∙ W.additive r xs ys e a b;
    apart = λ xs ys lost e l a b few agree. W.apart xs ys lost e l a b (let z = count-is (length xs + rows) lost in omega arith) agree;
    solves = λ k row lost h2 h12 hr hl few low. turned k row lost (W.solves k row lost (fit k row lost h2 h12 hr hl few) low);
  }
    where
      turned : (k : ℕ) (row : List ℕ) (lost : List Bool) → SolvesC check rows k row lost (solved k row lost) → Solves check rows k row lost (solved k row lost)
      turned k row lost s = record {
        long = s.long;
        bytes = s.bytes;
        kept = s.kept;
        made = s.made;
        lowest = λ r hr kept fewer. s.lowest r hr kept (let z = count-is r (λ p. not (lost_place lost (k + p))) in let y = count-is k (lost_place lost) in omega arith);
      }
