-- The step of a loop that stores sums over the front of a block.
use Rattle.std.proofs.Common.{◌≡◌, ℕ, zero, suc, ◌+◌, ◌<◌, ◌≤◌, List, [], ◌∷◌, ◌++◌, length, get_or, take, drop, set, sym, refl, ap, ◌∙◌, add-one, arith}
use lib.Bits.{bit_xor}
use Rattle.std.proofs.lemmas.List.{append_assoc, append-nil, take_all, drop_all, drop_more, set_at, get_or_at, length-take}
use Rattle.layout.specs.Bytes.{sum_of, summed_to}

pub length-sum_of : (xs ys : List ℕ) → length xs ≡ length ys → length (sum_of xs ys) ≡ length xs
length-sum_of [] ys e = refl
length-sum_of (x ∷ xs) [] e = sym e
length-sum_of (x ∷ xs) (y ∷ ys) e = ap suc (length-sum_of xs ys (omega arith))

sum_of-suc : (xs ys : List ℕ) (i : ℕ) → i < length xs → i < length ys → sum_of (take (suc i) xs) (take (suc i) ys) ≡ sum_of (take i xs) (take i ys) ++ bit_xor (get_or xs i 0) (get_or ys i 0) ∷ []
sum_of-suc [] ys i h k = absurd (omega arith)
sum_of-suc (x ∷ xs) [] i h k = absurd (omega arith)
sum_of-suc (x ∷ xs) (y ∷ ys) zero h k = refl
sum_of-suc (x ∷ xs) (y ∷ ys) (suc i) h k = ap (λ (zs : List ℕ). bit_xor x y ∷ zs) (sum_of-suc xs ys i (omega arith) (omega arith))

length_front : (xs ys : List ℕ) (i : ℕ) → i ≤ length xs → i ≤ length ys → length (sum_of (take i xs) (take i ys)) ≡ i
length_front xs ys i h k = length-sum_of (take i xs) (take i ys) (simp length-take (omega arith)) ∙ simp length-take (omega arith)

module _ (xs ys held : List ℕ) (i : ℕ) (h : i < length xs) (k : i < length ys) (l : i < length held) where
  pub summed_to-more : set (summed_to xs ys i held) i (bit_xor (get_or xs i 0) (get_or ys i 0)) ≡ summed_to xs ys (i + 1) held
  summed_to-more =
      let p : List ℕ = sum_of (take i xs) (take i ys) in
      let v : ℕ = bit_xor (get_or xs i 0) (get_or ys i 0) in
      let a : summed_to xs ys i held ≡ p ++ get_or held i 0 ∷ drop (i + 1) held = ap (λ (z : List ℕ). p ++ z) (drop_more held i 0 l) in
      let b : sum_of (take (i + 1) xs) (take (i + 1) ys) ≡ p ++ v ∷ [] = rw add-one (sum_of-suc xs ys i h k) in
      ap (λ (z : List ℕ). set z i v) a
      ∙ set_at p (get_or held i 0) (drop (i + 1) held) v i (length_front xs ys i (omega arith) (omega arith))
      ∙ sym (append_assoc p (v ∷ []) (drop (i + 1) held))
      ∙ sym (ap (λ (z : List ℕ). z ++ drop (i + 1) held) b)

  -- what is not stored yet is as it was
  pub summed_to-at : get_or (summed_to xs ys i held) i 0 ≡ get_or held i 0
  summed_to-at =
      let p : List ℕ = sum_of (take i xs) (take i ys) in
      ap (λ (z : List ℕ). get_or (p ++ z) i 0) (drop_more held i 0 l)
      ∙ get_or_at p (get_or held i 0) (drop (i + 1) held) 0 i (length_front xs ys i (omega arith) (omega arith))

-- the sums stored over the first n bytes alone, and then the rest
pub summed_to-front : (xs ys held : List ℕ) (n : ℕ) → summed_to xs ys n (take n held) ++ drop n held ≡ summed_to xs ys n held
summed_to-front xs ys held n =
    let p : List ℕ = sum_of (take n xs) (take n ys) in
    ap (λ (z : List ℕ). (p ++ z) ++ drop n held) (drop_all n (take n held) (simp length-take (omega arith)))
    ∙ ap (λ (z : List ℕ). z ++ drop n held) (append-nil p)

pub summed_to-all : (xs ys held : List ℕ) (i : ℕ) → length xs ≤ i → length ys ≤ i → length held ≤ i → summed_to xs ys i held ≡ sum_of xs ys
summed_to-all xs ys held i h k l = simp (take_all, drop_all, append-nil)
