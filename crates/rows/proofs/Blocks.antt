-- The sum of blocks is commutative and associative, whatever their lengths, and zeros add nothing.
use Rattle.std.proofs.Common.{◌≡◌, ℕ, zero, suc, ◌≤◌, List, [], ◌∷◌, length, replicate, refl, ap, ◌∙◌, arith}
use lib.Bits.{xor_comm, xor_assoc, xor_zero_r}
use Rattle.layout.specs.Bytes.{sum_of}

cons-both : {x y : ℕ} {xs ys : List ℕ} → x ≡ y → xs ≡ ys → x ∷ xs ≡ y ∷ ys
cons-both p q = cc

pub sum_of-comm : (xs ys : List ℕ) → sum_of xs ys ≡ sum_of ys xs
sum_of-comm [] [] = refl
sum_of-comm [] (y ∷ ys) = refl
sum_of-comm (x ∷ xs) [] = refl
sum_of-comm (x ∷ xs) (y ∷ ys) = cons-both (xor_comm x y) (sum_of-comm xs ys)

pub sum_of-assoc : (xs ys zs : List ℕ) → sum_of (sum_of xs ys) zs ≡ sum_of xs (sum_of ys zs)
sum_of-assoc [] ys zs = refl
sum_of-assoc (x ∷ xs) [] zs = refl
sum_of-assoc (x ∷ xs) (y ∷ ys) [] = refl
sum_of-assoc (x ∷ xs) (y ∷ ys) (z ∷ zs) = cons-both (xor_assoc x y z) (sum_of-assoc xs ys zs)

-- a sum with one more added to its second part
pub sum_of-more : (xs ys zs : List ℕ) → sum_of (sum_of xs ys) zs ≡ sum_of xs (sum_of zs ys)
sum_of-more xs ys zs = sum_of-assoc xs ys zs ∙ ap (sum_of xs) (sum_of-comm ys zs)

pub sum_of-zeros : (xs : List ℕ) (n : ℕ) → length xs ≤ n → sum_of xs (replicate n 0) ≡ xs
sum_of-zeros [] n h = refl
sum_of-zeros (x ∷ xs) zero h = absurd (omega arith)
sum_of-zeros (x ∷ xs) (suc n) h = cons-both (xor_zero_r x) (sum_of-zeros xs n (omega arith))
