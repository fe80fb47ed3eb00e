-- What the functions compute, as the definitions have it: a row's data and its checks are two lists there.
use Rattle.std.proofs.Common.{[], ◌∷◌, zero-add, add-zero, add_assoc, ◌≡◌, ℕ, zero, suc, ◌+◌, ◌-◌, ◌*◌, ◌%◌, ◌<◌, ◌≤◌, Bool, true, false, ◌&&◌, cond, ltb, leb, eqb, ◌⊎◌, List, ◌++◌, length, get_or, take, set, sym, refl, ap, ◌∙◌, inl, inr, add-one, arith}
use lib.Bits.{bit_xor, xor_assoc, xor_zero_r, xor_zero_l}
use Rattle.std.specs.List.{count_by, fold}
use Rattle.std.proofs.lemmas.Nat.{xor_comm}
use Rattle.std.proofs.Math.Seq.{take-append_seam}
use Rattle.std.proofs.lemmas.Bool.{true≢false, and_parts, leb-true, eqb-true, cases_lt, cond-true, cond-false, lt-ltb, le-ltb}
use Rattle.std.proofs.lemmas.List.{length-append, get_or-take, get_or_past, get_or-append-add, ext_get_or, set-append_left, set-append_right, length-set}
use Rattle.field.specs.Field.{exp, times}
use Rattle.field.proofs.Rules.{exp-mod}
use Rattle.field.proofs.Laws.{times-zero-r}
use Rattle.codes.specs.Code.{alone, coded, lost_at, lost_count, codable}
use Rattle.codes.specs.Sums.{sum_to, total, weighted}
use Rattle.codes.specs.Solving.{next_lost, cleared, gap, remade, completed}
use Rattle.codes.specs.Single.{single, fill_one, data_one}
use Rattle.codes.specs.Double.{double, lone, unless, former, fill_two, data_two}
use Rattle.codes.specs.SumsLemmas.{sum_same, sum-start, sum-none, sum-cut}
use Rattle.codes.specs.Weights.{total-linear, weighted-linear}
use Rattle.codes.specs.Steps.{Next, next-lost, cleared-length, remade-length, remade-lost, remade-take}
use Rattle.codes.specs.Coded.{coded-length, coded-data, coded-check}

whole : (k : ℕ) → k - 0 ≡ k
whole k = omega arith

-- clearing data leaves the checks after them
cleared-front : (lost : List Bool) (n : ℕ) (xs ys : List ℕ) → n ≤ length xs → cleared lost n (xs ++ ys) ≡ cleared lost n xs ++ ys
cleared-front lost zero xs ys h = refl
cleared-front lost (suc n) xs ys h = go (lost_at lost n) (cleared-front lost n xs ys (omega arith))
  where
    go : (t : Bool) → cleared lost n (xs ++ ys) ≡ cleared lost n xs ++ ys
        → cond t (set (cleared lost n (xs ++ ys)) n 0) (cleared lost n (xs ++ ys)) ≡ cond t (set (cleared lost n xs) n 0) (cleared lost n xs) ++ ys
    go true e = ap (λ s. set s n 0) e ∙ set-append_left (cleared lost n xs) ys n 0 (let z = cleared-length lost n xs in omega arith)
    go false e = e

gap-at : (check : ℕ → List ℕ → ℕ) (k : ℕ) (z ys : List ℕ) (r : ℕ) → length z ≡ k → bit_xor (get_or ys r 0) (check r z) ≡ gap check k (z ++ ys) r
gap-at check k z ys r e =
    rw (sym e) (sym (ap (λ v. bit_xor v (check r (take (length z) (z ++ ys)))) (get_or-append-add z ys r 0) ∙ ap (λ s. bit_xor (get_or ys r 0) (check r s)) (take-append_seam z ys)))

-- data xs whose lost ones are cleared, and checks ys
module _ (xs ys : List ℕ) (lost : List Bool) (z : List ℕ) (cz : z ≡ cleared lost (length xs) xs) where
  long : length z ≡ length xs
  long = ap length cz ∙ cleared-length lost (length xs) xs

  row-is : z ++ ys ≡ cleared lost (length xs) (xs ++ ys)
  row-is = ap (λ s. s ++ ys) cz ∙ sym (cleared-front lost (length xs) xs ys (omega arith))

  put : (i b : ℕ) → i < length xs → set z i b ++ ys ≡ set (z ++ ys) i b
  put i b h = sym (set-append_left z ys i b (omega (arith, long)))

  one-is : fill_one (length xs) (next_lost lost 0 (length xs)) (z ++ ys) ≡ data_one (length xs) (xs ++ ys) lost
  unfolding data_one
  one-is = ap (fill_one (length xs) (next_lost lost 0 (length xs))) row-is

  two-is : (i j : ℕ) (u : Bool) → i ≡ next_lost lost 0 (length xs) → j ≡ next_lost lost (suc i) (length xs - suc i) → u ≡ lost_at lost (length xs)
      → fill_two (length xs) i j u (z ++ ys) ≡ data_two (length xs) (xs ++ ys) lost
  unfolding data_two
  two-is i j u ei ej eu = rw (ej, eu, ei, row-is) refl

  module _ (i : ℕ) (ci : i ≡ next_lost lost 0 (length xs - 0)) where
    at-i : i ≡ next_lost lost 0 (length xs)
    at-i = ci ∙ ap (next_lost lost 0) (whole (length xs))

    pub one-lost : i < length xs → (y s : ℕ) → y ≡ get_or ys 0 0 → s ≡ total z → set z i (bit_xor y s) ++ ys ≡ data_one (length xs) (xs ++ ys) lost
    one-lost h y s f e =
        put i (bit_xor y s) h ∙ ap (set (z ++ ys) i) (ap (λ x. bit_xor x s) f ∙ ap (bit_xor (get_or ys 0 0)) e ∙ gap-at single (length xs) z ys 0 long)
        ∙ sym (cond-true (ltb i (length xs)) _ _ (lt-ltb i (length xs) h)) ∙ ap (λ m. fill_one (length xs) m (z ++ ys)) at-i ∙ one-is

  pub one-none : length xs ≤ next_lost lost 0 (length xs - 0) → z ++ ys ≡ data_one (length xs) (xs ++ ys) lost
  one-none h = sym (cond-false (ltb (next_lost lost 0 (length xs)) (length xs)) _ _ (le-ltb (next_lost lost 0 (length xs)) (length xs) (omega (arith, ap (next_lost lost 0) (whole (length xs)))))) ∙ one-is

  pub two-none : length xs ≤ next_lost lost 0 (length xs - 0) → z ++ ys ≡ data_two (length xs) (xs ++ ys) lost
  two-none h =
      sym (cond-false (ltb (next_lost lost 0 (length xs)) (length xs)) _ _ (le-ltb (next_lost lost 0 (length xs)) (length xs) (omega (arith, ap (next_lost lost 0) (whole (length xs))))))
      ∙ two-is (next_lost lost 0 (length xs)) (next_lost lost (suc (next_lost lost 0 (length xs))) (length xs - suc (next_lost lost 0 (length xs)))) (lost_at lost (length xs)) refl refl refl

  module _ (i : ℕ) (ci : i ≡ next_lost lost 0 (length xs - 0)) (h : i < length xs) (a s b t : ℕ) (ea : a ≡ get_or ys 0 0) (es : s ≡ total z) (eb : b ≡ get_or ys 1 0) (et : t ≡ weighted 1 z) where
    p-is : bit_xor a s ≡ gap double (length xs) (z ++ ys) 0
    p-is = ap (λ x. bit_xor x s) ea ∙ ap (bit_xor (get_or ys 0 0)) es ∙ gap-at double (length xs) z ys 0 long

    q-is : bit_xor b t ≡ gap double (length xs) (z ++ ys) 1
    q-is = ap (λ x. bit_xor x t) eb ∙ ap (bit_xor (get_or ys 1 0)) et ∙ gap-at double (length xs) z ys 1 long

    pub two-one : length xs ≤ next_lost lost (i + 1) (length xs - (i + 1)) → (u : Bool) → u ≡ lost_at lost (length xs) → (o : _) → o ≡ unless u (bit_xor a s)
        → (y : ℕ) → y ≡ lone i o (bit_xor b t) → set z i y ++ ys ≡ data_two (length xs) (xs ++ ys) lost
    two-one l u cu o eo y e =
        let j : ℕ = next_lost lost (suc i) (length xs - suc i) in
        let ge : length xs ≤ j = rw (sym (add-one i)) l in
        put i y h ∙ ap (set (z ++ ys) i) (e ∙ ap (λ v. lone i v (bit_xor b t)) (eo ∙ ap (unless u) p-is) ∙ ap (lone i (unless u (gap double (length xs) (z ++ ys) 0))) q-is)
        ∙ sym (cond-true (ltb i (length xs)) _ _ (lt-ltb i (length xs) h) ∙ cond-false (ltb j (length xs)) _ _ (le-ltb j (length xs) ge))
        ∙ two-is i j u (at-i i ci) refl cu

    pub two-both : (j : ℕ) → j ≡ next_lost lost (i + 1) (length xs - (i + 1)) → j < length xs → (x : ℕ) → x ≡ former i j (bit_xor a s) (bit_xor b t)
        → set (set z i x) j (bit_xor (bit_xor a s) x) ++ ys ≡ data_two (length xs) (xs ++ ys) lost
    two-both j cj l x e =
        let p : ℕ = bit_xor a s in
        let ex : x ≡ former i j (gap double (length xs) (z ++ ys) 0) (gap double (length xs) (z ++ ys) 1)
        = e ∙ ap (λ v. former i j v (bit_xor b t)) p-is ∙ ap (former i j (gap double (length xs) (z ++ ys) 0)) q-is in
        sym (set-append_left (set z i x) ys j (bit_xor p x) (let n = length-set z i x in omega (arith, long))) ∙ ap (λ w. set w j (bit_xor p x)) (put i x h)
        ∙ ap (λ v. set (set (z ++ ys) i x) j (bit_xor v x)) p-is ∙ ap (λ v. set (set (z ++ ys) i v) j (bit_xor (gap double (length xs) (z ++ ys) 0) v)) ex
        ∙ sym (cond-true (ltb i (length xs)) _ _ (lt-ltb i (length xs) h) ∙ cond-true (ltb j (length xs)) _ _ (lt-ltb j (length xs) l))
        ∙ two-is i j (lost_at lost (length xs)) (at-i i ci) (cj ∙ ap (λ m. next_lost lost m (length xs - m)) (add-one i)) refl

pub plain-share : (j b : ℕ) → j < 12 → b ≡ cond (ltb j 12) (total (alone j b)) 0
plain-share j b l = sym (cond-true (ltb j 12) _ _ (lt-ltb j 12 l) ∙ total-linear.alone 12 j b l l)

pub weighted-share : (s j b x : ℕ) → j < 12 → x ≡ times (exp ((s * j) % 255)) b → x ≡ cond (ltb j 12) (weighted s (alone j b)) 0
weighted-share s j b x l e =
    e ∙ ap (λ w. times w b) (exp-mod (s * j)) ∙ sym (cond-true (ltb j 12) _ _ (lt-ltb j 12 l) ∙ (weighted-linear s).alone 12 j b l l)

-- the lost checks of a row of data and checks
pub completed-parts : (check : ℕ → List ℕ → ℕ) (rows k : ℕ) (lost : List Bool) (xs ys : List ℕ) → length xs ≡ k → length ys ≡ rows
    → completed check rows k lost (xs ++ ys) ≡ remade (λ r. check r xs) (length xs) lost (length ys) (xs ++ ys)
completed-parts check rows k lost xs ys e f =
    rw (sym e, sym f) (ap (λ s. remade (λ r. check r s) (length xs) lost (length ys) (xs ++ ys)) (take-append_seam xs ys))

-- a row with all its checks made is the coded row of its data
pub all-made : (check : ℕ → List ℕ → ℕ) (rows : ℕ) (lost : List Bool) (xs ys : List ℕ) → length ys ≡ rows → ((r : ℕ) → r < rows → lost_at lost (length xs + r) ≡ true)
    → remade (λ r. check r xs) (length xs) lost rows (xs ++ ys) ≡ coded check rows xs
all-made check rows lost xs ys e all =
    ext_get_or 0 (remade (λ r. check r xs) (length xs) lost rows (xs ++ ys)) (coded check rows xs) (wide ∙ sym (coded-length check rows xs)) (λ c h. at c (omega (arith, wide)) (cases_lt c (length xs)))
  where
    wide : length (remade (λ r. check r xs) (length xs) lost rows (xs ++ ys)) ≡ length xs + rows
    wide = remade-length (λ r. check r xs) (length xs) lost (xs ++ ys) rows ∙ length-append xs ys ∙ ap (λ n. length xs + n) e

    front : take (length xs) (remade (λ r. check r xs) (length xs) lost rows (xs ++ ys)) ≡ xs
    front = remade-take (λ r. check r xs) (length xs) lost (xs ++ ys) rows ∙ take-append_seam xs ys

    at : (c : ℕ) → c < length xs + rows → (c < length xs) ⊎ (length xs ≤ c) → get_or (remade (λ r. check r xs) (length xs) lost rows (xs ++ ys)) c 0 ≡ get_or (coded check rows xs) c 0
    at c h (inl l) = sym (get_or-take (length xs) (remade (λ r. check r xs) (length xs) lost rows (xs ++ ys)) c 0 l) ∙ ap (λ s. get_or s c 0) front ∙ sym (coded-data check rows xs c l)
    at c h (inr l) =
        let to : length xs + (c - length xs) ≡ c = omega arith in
        let r : c - length xs < rows = omega arith in
        let n : length xs + rows ≤ length (xs ++ ys) = omega (arith, length-append xs ys, e) in
        ap (λ m. get_or (remade (λ r. check r xs) (length xs) lost rows (xs ++ ys)) m 0) (sym to) ∙ remade-lost (λ r. check r xs) (length xs) lost (xs ++ ys) rows (c - length xs) n r (all (c - length xs) r)
        ∙ sym (coded-check check rows xs (c - length xs) r) ∙ ap (λ m. get_or (coded check rows xs) m 0) to

-- where a search for the next lost place ends
pub next-found : (lost : List Bool) (from to i : ℕ) → from ≤ i → i < to → lost_at lost i ≡ true → ((j : ℕ) → from ≤ j → j < i → lost_at lost j ≡ false)
    → i ≡ next_lost lost from (to - from)
next-found lost from to i a b here before = go (cases_lt i j) (cases_lt j i)
  where
    j : ℕ
    j = next_lost lost from (to - from)

    n : Next lost from (to - from) j
    n = next-lost lost from (to - from)

    go : (i < j) ⊎ (j ≤ i) → (j < i) ⊎ (i ≤ j) → i ≡ j
    go (inl l) m = absurd (true≢false (sym here ∙ n.before i a l))
    go (inr l) (inl m) = absurd (true≢false (sym (n.here (omega arith)) ∙ before j n.from m))
    go (inr l) (inr m) = omega arith

pub next-none : (lost : List Bool) (from to : ℕ) → ((j : ℕ) → from ≤ j → j < to → lost_at lost j ≡ false) → to ≤ next_lost lost from (to - from)
next-none lost from to none = go (cases_lt j to)
  where
    j : ℕ
    j = next_lost lost from (to - from)

    n : Next lost from (to - from) j
    n = next-lost lost from (to - from)

    go : (j < to) ⊎ (to ≤ j) → to ≤ j
    go (inl l) = absurd (true≢false (sym (n.here (let f = n.from in omega arith)) ∙ none j n.from l))
    go (inr l) = l

pub set-check : (xs ys : List ℕ) (i b : ℕ) → set (xs ++ ys) (length xs + i) b ≡ xs ++ set ys i b
set-check xs ys i b = set-append_right xs ys (length xs) (length xs + i) b refl (omega arith) ∙ ap (λ n. xs ++ set ys n b) (let e : length xs + i - length xs ≡ i = omega arith in e)

-- counting by a chain
count-from : (bs : List Bool) (a : ℕ) → fold (λ n b. n + cond b 1 0) a bs ≡ a + lost_count bs
count-from [] a = sym (add-zero a)
count-from (b ∷ bs) a = count-from bs (a + cond b 1 0) ∙ add_assoc a (cond b 1 0) (lost_count bs)

pub lost_count-chain : (lost : List Bool) → count_by (λ b. b) lost ≡ lost_count lost
lost_count-chain lost = count-from lost 0 ∙ zero-add (lost_count lost)

-- the parts of the test of a row's sizes
pub codable-wide : (rows k n : ℕ) → codable rows k n ≡ true → (k ≤ 12) × (n ≡ k + rows)
codable-wide rows k n h =
    let a = and_parts (leb 2 k) (leb k 12 && eqb n (k + rows)) h in
    let b = and_parts (leb k 12) (eqb n (k + rows)) a.1 in
    (leb-true k 12 b.0, eqb-true n (k + rows) b.1)

-- adding up by a chain
sum-front : (n : ℕ) (f : ℕ → ℕ) → sum_to (suc n) f ≡ bit_xor (f 0) (sum_to n (λ j. f (suc j)))
unfolding sum_to
sum-front zero f = refl
sum-front (suc n) f = ap (bit_xor (f (suc n))) (sum-front n f) ∙ sym (xor_assoc (f (suc n)) (f 0) (sum_to n (λ j. f (suc j))))
    ∙ ap (λ x. bit_xor x (sum_to n (λ j. f (suc j)))) (xor_comm (f (suc n)) (f 0)) ∙ xor_assoc (f 0) (f (suc n)) (sum_to n (λ j. f (suc j)))

fold-sum : (n : ℕ) (xs : List ℕ) (a : ℕ) → fold (λ s b. bit_xor s b) a (take n xs) ≡ bit_xor a (sum_to n (λ j. get_or xs j 0))
fold-sum zero xs a = sym (ap (bit_xor a) (sum-start (λ j. get_or xs j 0)) ∙ xor_zero_r a)
fold-sum (suc n) [] a = sym (ap (bit_xor a) (sum-none (suc n) (λ j. get_or {A = ℕ} [] j 0) (λ j h. refl)) ∙ xor_zero_r a)
fold-sum (suc n) (x ∷ xs) a =
    fold-sum n xs (bit_xor a x) ∙ xor_assoc a x (sum_to n (λ j. get_or xs j 0)) ∙ ap (bit_xor a) (sym (sum-front n (λ j. get_or (x ∷ xs) j 0)))

pub total-fold : (n : ℕ) (xs : List ℕ) → n ≤ 12 → ((i : ℕ) → n ≤ i → i < 12 → length xs ≤ i) → fold (λ s b. bit_xor s b) 0 (take n xs) ≡ total xs
unfolding total
total-fold n xs most past =
    fold-sum n xs 0 ∙ xor_zero_l (sum_to n (λ j. get_or xs j 0)) ∙ sym (sum-cut n 12 (λ j. get_or xs j 0) most (λ i h l. get_or_past xs i 0 (past i h l)))

pub weighted-front : (s n j : ℕ) (xs : List ℕ) → n ≤ 12 → n ≤ length xs → ((i : ℕ) → n ≤ i → i < 12 → length xs ≤ i) → j ≡ n
    → sum_to j (λ i. times (exp (s * i)) (get_or (take n xs) i 0)) ≡ weighted s xs
unfolding weighted
weighted-front s n j xs most short past e =
    ap (λ m. sum_to m (λ i. times (exp (s * i)) (get_or (take n xs) i 0))) e
    ∙ sum_same n (λ i. times (exp (s * i)) (get_or (take n xs) i 0)) (λ i. times (exp (s * i)) (get_or xs i 0)) (λ i h. ap (times (exp (s * i))) (get_or-take n xs i 0 h))
    ∙ sym (sum-cut n 12 (λ i. times (exp (s * i)) (get_or xs i 0)) most (λ i h l. ap (times (exp (s * i))) (get_or_past xs i 0 (past i h l)) ∙ times-zero-r (exp (s * i))))
