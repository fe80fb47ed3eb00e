-- From a code's laws alone: a changed data byte changes each check by the share of the difference.
use Rattle.std.proofs.Common.{◌≡◌, ℕ, suc, ◌<◌, ◌≤◌, ◌&&◌, ltb, ◌⊎◌, List, [], ◌∷◌, ◌++◌, length, get_or, take, set, replicate, sym, refl, ap, ◌∙◌, inl, inr, arith}
use lib.Bits.{bit_xor, xor_lt, xor_zero_r}
use Rattle.std.proofs.lemmas.Bool.{cases_eq, cases_lt, cond-true, lt-ltb, and_from}
use Rattle.std.proofs.lemmas.List.{ext_get_or, length-take-le, length-append, length-replicate, length-set, get_or-set_same, get_or-set_other, get_or_past}
use Rattle.codes.specs.Code.{Bytes, plus, filled, alone, share_of}
use Rattle.codes.specs.SumsLemmas.{twice}
use Rattle.codes.specs.Weights.{get_or-zeros, get_or-plus, fill-at}
use Rattle.codes.specs.Steps.{set-bytes}

length-plus : (xs ys : List ℕ) → length xs ≡ length ys → length (plus xs ys) ≡ length xs
length-plus [] ys e = refl
length-plus (x ∷ xs) [] e = absurd (omega arith)
length-plus (x ∷ xs) (y ∷ ys) e = ap suc (length-plus xs ys (omega arith))

-- over any width n: with a numeral the lists would be written out
filled-length : (n : ℕ) (xs : List ℕ) → length (take n (xs ++ replicate n 0)) ≡ n
filled-length n xs =
    length-take-le n (xs ++ replicate n 0) (let a = length-append xs (replicate n 0) in let b = length-replicate {A = ℕ} n 0 in omega arith)

filled-past : (n : ℕ) (xs : List ℕ) (c : ℕ) → n ≤ c → get_or (take n (xs ++ replicate n 0)) c 0 ≡ 0
filled-past n xs c l = get_or_past (take n (xs ++ replicate n 0)) c 0 (omega (arith, filled-length n xs))

alone-length : (n j b : ℕ) → length (set (replicate n 0) j b) ≡ n
alone-length n j b = length-set (replicate n 0) j b ∙ length-replicate {A = ℕ} n 0

alone-else : (n j b c : ℕ) → (c ≡ j → ⊥) → get_or (set (replicate n 0) j b) c 0 ≡ 0
alone-else n j b c d = get_or-set_other (replicate n 0) j c b 0 d ∙ get_or-zeros n c

alone-here : (n j b : ℕ) → j < n → get_or (set (replicate n 0) j b) j 0 ≡ b
alone-here n j b h = get_or-set_same (replicate n 0) j b 0 (let e = length-replicate {A = ℕ} n 0 in omega arith)

changed : (n : ℕ) (xs : List ℕ) (j b : ℕ) → j < length xs → j < n
    → take n (set xs j b ++ replicate n 0) ≡ plus (take n (xs ++ replicate n 0)) (set (replicate n 0) j (bit_xor (get_or xs j 0) b))
changed n xs j b h l =
    let same = filled-length n xs ∙ sym (alone-length n j (bit_xor (get_or xs j 0) b)) in
    ext_get_or 0 _ _ (filled-length n (set xs j b) ∙ sym (length-plus _ _ same ∙ filled-length n xs))
    (λ c m. let lt : c < n = omega (arith, filled-length n (set xs j b)) in
    fill-at n n (set xs j b) c lt ∙ at c (cases_eq c j)
    ∙ sym (get_or-plus (take n (xs ++ replicate n 0)) (set (replicate n 0) j (bit_xor (get_or xs j 0) b)) c same
    ∙ ap (λ x. bit_xor x (get_or (set (replicate n 0) j (bit_xor (get_or xs j 0) b)) c 0)) (fill-at n n xs c lt)))
  where
    at : (c : ℕ) → (c ≡ j) ⊎ (c ≡ j → ⊥) → get_or (set xs j b) c 0 ≡ bit_xor (get_or xs c 0) (get_or (set (replicate n 0) j (bit_xor (get_or xs j 0) b)) c 0)
    at c (inl e) = rw e (get_or-set_same xs j b 0 h ∙ sym (ap (bit_xor (get_or xs j 0)) (alone-here n j (bit_xor (get_or xs j 0) b) l) ∙ twice (get_or xs j 0) b))
    at c (inr d) = get_or-set_other xs j c b 0 d ∙ sym (ap (bit_xor (get_or xs c 0)) (alone-else n j (bit_xor (get_or xs j 0) b) c d) ∙ xor_zero_r (get_or xs c 0))

pub share-change : (check : ℕ → List ℕ → ℕ) (rows : ℕ) → ((r : ℕ) (xs : List ℕ) → check r xs ≡ check r (filled xs))
    → ((r : ℕ) (xs ys : List ℕ) → length xs ≡ length ys → Bytes xs → Bytes ys → check r (plus xs ys) ≡ bit_xor (check r xs) (check r ys))
    → (r : ℕ) (xs : List ℕ) (j b : ℕ) → r < rows → j < length xs → j < 12 → Bytes xs → b < 256
    → check r (set xs j b) ≡ bit_xor (check r xs) (share_of check rows r j (bit_xor (get_or xs j 0) b))
share-change check rows fill additive r xs j b hr hj most bytes low =
    fill r (set xs j b) ∙ ap (check r) (changed 12 xs j b hj most)
    ∙ additive r (filled xs) (alone j (bit_xor (get_or xs j 0) b)) (filled-length 12 xs ∙ sym (alone-length 12 j (bit_xor (get_or xs j 0) b))) filled-bytes
    (set-bytes (replicate 12 0) j (bit_xor (get_or xs j 0) b) (λ c. rw (get_or-zeros 12 c) (omega arith)) (xor_lt 8 (get_or xs j 0) b (bytes j) low))
    ∙ ap (λ x. bit_xor x (check r (alone j (bit_xor (get_or xs j 0) b)))) (sym (fill r xs))
    ∙ ap (bit_xor (check r xs)) (sym (cond-true (ltb r rows && ltb j 12) _ _ (and_from (ltb r rows) (ltb j 12) (lt-ltb r rows hr) (lt-ltb j 12 most))))
  where
    filled-bytes : Bytes (filled xs)
    filled-bytes c = go (cases_lt c 12)
      where
        go : (c < 12) ⊎ (12 ≤ c) → get_or (filled xs) c 0 < 256
        go (inl l) = rw (fill-at 12 12 xs c l) (bytes c)
        go (inr l) = rw (filled-past 12 xs c l) (omega arith)
