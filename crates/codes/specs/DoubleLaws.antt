-- Code 2 keeps the laws.
use Rattle.std.specs.Prelude.{◌≡◌, ℕ, zero, suc, ◌+◌, ◌-◌, ◌*◌, ◌<◌, ◌≤◌, Bool, true, false, cond, not, ◌⊎◌, List, [], ◌∷◌, length, take, replicate, ◌==◌, ◌≢◌, nat_lt, slice_index, slice_index_or, slice_set}
use Rattle.std.proofs.Math.Path.{refl}
use Rattle.std.proofs.Common.{sym, ◌∙◌, ap, inl, inr, arith, add-zero, one-mul}
use Rattle.std.specs.Int.Bits.{bit_xor, xor_assoc, xor_zero_r, xor_self}
use Rattle.std.proofs.lemmas.Nat.{xor_lt, xor_comm}
use Rattle.std.proofs.lemmas.Bool.{cases_eq, cases_lt, ltb-true, ltb-false, true≢false, cond-false, ne_eqb}
use Rattle.std.proofs.lemmas.List.{get_or-set_other, length-set}
use Rattle.field.specs.Field.{exp, times, reciprocal}
use Rattle.field.proofs.Rules.{exp-byte}
use Rattle.field.proofs.Laws.{times-byte, times-adds, times-comm, exp-different}
use Rattle.field.proofs.Products.{times_none, times-cancel, times-over}
use Rattle.codes.specs.Code.{Bytes, plus, filled, count, Apart, lost_at, solvable, Lowest, Solves}
use Rattle.codes.specs.Sums.{total, weighted}
use Rattle.codes.specs.Solving.{next_lost, cleared, gap, completed}
use Rattle.codes.specs.Double.{double, divided, lone, unless, former, pair, fill_two, data_two, solved_two}
use Rattle.codes.specs.SumsLemmas.{cancel, same_sum, back, middle}
use Rattle.codes.specs.Weights.{Linear, plain, powers-of, total-linear, weighted-linear}
use Rattle.codes.specs.Counts.{count-zero, count-one, two-places}
use Rattle.codes.specs.Steps.{Next, next-lost, cleared-length, cleared-kept, cleared-lost, cleared-bytes, set-bytes, set-zero, take-bytes, completes}
use Rattle.codes.specs.Coded.{apart-data, apart-check, apart-all, Fit, fit}
use Rattle.codes.specs.SingleLaws.{front-put}

pub double-low : (r : ℕ) (xs : List ℕ) → Bytes xs → double r xs < 256
double-low zero xs h = total-linear.low xs h
double-low (suc zero) xs h = (weighted-linear 1).low xs h
double-low (suc (suc r)) xs h = omega arith

pub double-past : (r : ℕ) (xs : List ℕ) → 2 ≤ r → double r xs ≡ 0
double-past zero xs h = absurd (omega arith)
double-past (suc zero) xs h = absurd (omega arith)
double-past (suc (suc r)) xs h = refl

pub double-fill : (r : ℕ) (xs : List ℕ) → double r xs ≡ double r (filled xs)
double-fill zero xs = total-linear.fill xs
double-fill (suc zero) xs = (weighted-linear 1).fill xs
double-fill (suc (suc r)) xs = refl

pub double-zero : (r n : ℕ) → double r (replicate n 0) ≡ 0
double-zero zero n = total-linear.zeros n
double-zero (suc zero) n = (weighted-linear 1).zeros n
double-zero (suc (suc r)) n = refl

pub double-adds : (r : ℕ) (xs ys : List ℕ) → length xs ≡ length ys → Bytes xs → Bytes ys → double r (plus xs ys) ≡ bit_xor (double r xs) (double r ys)
double-adds zero xs ys e p q = total-linear.adds xs ys e p q
double-adds (suc zero) xs ys e p q = (weighted-linear 1).adds xs ys e p q
double-adds (suc (suc r)) xs ys e p q = refl

pub weight_is : (j x : ℕ) → powers-of 1 j x ≡ times (exp j) x
weight_is j x = ap (λ n. times (exp n) x) (one-mul j)

-- all columns but a and b are 0
two-terms : (by : ℕ → ℕ → ℕ) (row : List ℕ → ℕ) → Linear by row → (zs : List ℕ) (a b : ℕ) → a < 12 → b < 12 → (a ≢ b)
    → ((c : ℕ) → (c ≢ a) → (c ≢ b) → slice_index zs c ≡ 0) → row zs ≡ bit_xor (by a (slice_index zs a)) (by b (slice_index zs b))
two-terms by row L zs a b p q d h =
    L.put zs (slice_set zs b 0) b q (λ j l n. sym (get_or-set_other zs b j 0 0 n)) (set-zero zs b)
    ∙ ap (λ x. bit_xor x (by b (slice_index zs b)))
    (L.one (slice_set zs b 0) a p (λ j l n. at j n (cases_eq j b)) ∙ ap (by a) (get_or-set_other zs b a 0 0 d))
  where
    at : (j : ℕ) → (j ≢ a) → (j ≡ b) ⊎ (j ≢ b) → slice_index (slice_set zs b 0) j ≡ 0
    at j n (inl e) = ap (λ m. slice_index (slice_set zs b 0) m) e ∙ set-zero zs b
    at j n (inr m) = get_or-set_other zs b j 0 0 m ∙ h j n m

-- what is known of the difference zs of two rows of n data bytes
module _ (zs : List ℕ) (n : ℕ) (most : n ≤ 12) (bytes : Bytes zs) (a b : ℕ) (h : a < n) (but : (c : ℕ) → (c ≢ a) → (c ≢ b) → slice_index zs c ≡ 0)
    (past : (c : ℕ) → n ≤ c → slice_index zs c ≡ 0)
    (row0 : (n + 0 ≢ a) → (n + 0 ≢ b) → total zs ≡ 0) (row1 : (n + 1 ≢ a) → (n + 1 ≢ b) → weighted 1 zs ≡ 0) where
  only_one : ((c : ℕ) → (c ≢ a) → slice_index zs c ≡ 0) → (n ≡ b) ⊎ (n ≢ b) → slice_index zs a ≡ 0
  only_one z (inl e) =
      times_none (exp (1 * a)) (slice_index zs a) (exp-byte (1 * a)).0
      (sym ((weighted-linear 1).one zs a (omega arith) (λ j l d. z j d)) ∙ row1 (λ t. omega arith) (λ t. omega arith))
  only_one z (inr d) = sym (total-linear.one zs a (omega arith) (λ j l m. z j m)) ∙ row0 (λ t. omega arith) (λ t. d (omega arith))

  both : b < n → (a ≢ b) → (slice_index zs a ≡ 0) ⊎ (slice_index zs a ≢ 0) → slice_index zs a ≡ 0
  both l d (inl z) = z
  both l d (inr m) =
      let x = slice_index_or zs a 0 in
      let t₀ = two-terms plain total total-linear zs a b (omega arith) (omega arith) d but in
      let t₁ = two-terms (powers-of 1) (weighted 1) (weighted-linear 1) zs a b (omega arith) (omega arith) d but in
      let same : slice_index_or zs a 0 ≡ slice_index_or zs b 0 = cancel _ _ (sym t₀ ∙ row0 (λ t. omega arith) (λ t. omega arith)) in
      let w : times (exp (1 * a)) (slice_index zs a) ≡ times (exp (1 * b)) (slice_index zs b) = cancel _ _ (sym t₁ ∙ row1 (λ t. omega arith) (λ t. omega arith)) in
      let e : exp (1 * a) ≡ exp (1 * b) = times-cancel (exp (1 * a)) (exp (1 * b)) (slice_index zs a) (exp-byte (1 * a)).1 (exp-byte (1 * b)).1 (omega arith) (bytes a)
      (w ∙ ap (times (exp (1 * b))) (sym same)) in
      absurd (d (exp-different a b (omega arith) (omega arith) (ap exp (sym (one-mul a)) ∙ e ∙ ap exp (one-mul b))))

  at-lost : (b < n) ⊎ (n ≤ b) → (a ≡ b) ⊎ (a ≢ b) → slice_index zs a ≡ 0
  at-lost (inl l) (inr d) = both l d (cases_eq (slice_index zs a) 0)
  at-lost (inl l) (inl e) = only_one (λ c d. but c d (λ t. d (t ∙ sym e))) (inr (λ t. omega arith))
  at-lost (inr l) s = only_one (λ c d. outside c d (cases_eq c b)) (cases_eq n b)
    where
      outside : (c : ℕ) → (c ≢ a) → (c ≡ b) ⊎ (c ≢ b) → slice_index zs c ≡ 0
      outside c d (inl e) = past c (omega arith)
      outside c d (inr m) = but c d m

plus-bytes : (xs ys : List ℕ) → length xs ≡ length ys → Bytes xs → Bytes ys → Bytes (plus xs ys)
plus-bytes [] ys e p q j = omega arith
plus-bytes (x ∷ xs) [] e p q j = absurd (omega arith)
plus-bytes (x ∷ xs) (y ∷ ys) e p q zero = xor_lt 8 x y (p 0) (q 0)
plus-bytes (x ∷ xs) (y ∷ ys) e p q (suc j) = plus-bytes xs ys (omega arith) (λ k. p (suc k)) (λ k. q (suc k)) j

pub double-apart : Apart double 2
double-apart xs ys lost e most bx by few agree = apart-all double 2 xs ys lost e agree (λ c h. at c h (cases_eq c i) (cases_eq c j))
  where
    w : (i : ℕ) × (j : ℕ) × ((c : ℕ) → c < length xs + 2 → (c ≢ i) → (c ≢ j) → lost c ≡ false)
    w = two-places (length xs + 2) lost few

    i : ℕ
    i = w.0

    j : ℕ
    j = w.1

    zs : List ℕ
    zs = plus xs ys

    but : (c : ℕ) → (c ≢ i) → (c ≢ j) → slice_index zs c ≡ 0
    but c p q = apart-data double 2 xs ys lost e agree c (λ h. w.2 c (omega arith) p q)

    past : (c : ℕ) → length xs ≤ c → slice_index zs c ≡ 0
    past c h = apart-data double 2 xs ys lost e agree c (λ l. absurd (omega arith))

    row0 : (length xs + 0 ≢ i) → (length xs + 0 ≢ j) → total zs ≡ 0
    row0 p q = total-linear.adds xs ys e bx by ∙ same_sum _ _ (apart-check double 2 xs ys lost e agree 0 (omega arith) (w.2 (length xs + 0) (omega arith) p q))

    row1 : (length xs + 1 ≢ i) → (length xs + 1 ≢ j) → weighted 1 zs ≡ 0
    row1 p q = (weighted-linear 1).adds xs ys e bx by ∙ same_sum _ _ (apart-check double 2 xs ys lost e agree 1 (omega arith) (w.2 (length xs + 1) (omega arith) p q))

    at : (c : ℕ) → c < length xs → (c ≡ i) ⊎ (c ≢ i) → (c ≡ j) ⊎ (c ≢ j) → slice_index zs c ≡ 0
    at c h (inr p) (inr q) = but c p q
    at c h (inl p) s =
        at-lost zs (length xs) most (plus-bytes xs ys e bx by) c j h (λ d m n. but d (λ t. m (t ∙ sym p)) n) past
        (λ m n. row0 (λ t. m (t ∙ sym p)) n) (λ m n. row1 (λ t. m (t ∙ sym p)) n) (cases_lt j (length xs)) (cases_eq c j)
    at c h (inr p) (inl q) =
        at-lost zs (length xs) most (plus-bytes xs ys e bx by) c i h (λ d m n. but d n (λ t. m (t ∙ sym q))) past
        (λ m n. row0 n (λ t. m (t ∙ sym q))) (λ m n. row1 n (λ t. m (t ∙ sym q))) (cases_lt i (length xs)) (cases_eq c i)

-- b · (a / b) is a
pub divided-back : (a b : ℕ) → a < 256 → 0 < b → b < 256 → times b (divided a b) ≡ a
unfolding divided
divided-back a b p s h = ap (times b) (cond-false (b == 0) 0 (times a (reciprocal b)) (ne_eqb b 0 (λ e. omega arith))) ∙ times-over a b p s h

pub divided-byte : (a b : ℕ) → divided a b < 256
unfolding divided
divided-byte a b = go (b == 0)
  where
    go : (t : Bool) → cond t 0 (times a (reciprocal b)) < 256
    go true = omega arith
    go false = times-byte a (reciprocal b)

-- the weights of two columns differ
weights-differ : (i j : ℕ) → i < 255 → j < 255 → (i ≢ j) → 0 < bit_xor (exp i) (exp j)
weights-differ i j p q d = go (cases_eq (bit_xor (exp i) (exp j)) 0)
  where
    go : (bit_xor (exp i) (exp j) ≡ 0) ⊎ (bit_xor (exp i) (exp j) ≢ 0) → 0 < bit_xor (exp i) (exp j)
    go (inl e) = absurd (d (exp-different i j p q (cancel (exp i) (exp j) e)))
    go (inr n) = omega arith

-- the two equations hold
former-is : (i j p q : ℕ) → i < 255 → j < 255 → (i ≢ j) → p < 256 → q < 256
    → bit_xor (times (exp i) (former i j p q)) (times (exp j) (bit_xor p (former i j p q))) ≡ q
former-is i j p q hi hj d lp lq =
    let x = former i j p q in
    let bi = (exp-byte i).1 in
    let bj = (exp-byte j).1 in
    let lx : former i j p q < 256 = divided-byte (bit_xor q (times (exp j) p)) (bit_xor (exp i) (exp j)) in
    let solved : times (bit_xor (exp i) (exp j)) (former i j p q) ≡ bit_xor q (times (exp j) p)
    = divided-back (bit_xor q (times (exp j) p)) (bit_xor (exp i) (exp j)) (xor_lt 8 q (times (exp j) p) lq (times-byte (exp j) p)) (weights-differ i j hi hj d) (xor_lt 8 (exp i) (exp j) bi bj) in
    let spread : times (bit_xor (exp i) (exp j)) (former i j p q) ≡ bit_xor (times (exp i) (former i j p q)) (times (exp j) (former i j p q))
    = times-comm (bit_xor (exp i) (exp j)) (former i j p q) ∙ times-adds (former i j p q) (exp i) (exp j) lx bi bj
    ∙ ap (λ y. bit_xor y (times (former i j p q) (exp j))) (times-comm (former i j p q) (exp i)) ∙ ap (bit_xor (times (exp i) (former i j p q))) (times-comm (former i j p q) (exp j)) in
    ap (bit_xor (times (exp i) (former i j p q))) (times-adds (exp j) p (former i j p q) bj lp lx ∙ xor_comm (times (exp j) p) (times (exp j) (former i j p q)))
    ∙ sym (xor_assoc (times (exp i) (former i j p q)) (times (exp j) (former i j p q)) (times (exp j) p))
    ∙ ap (λ y. bit_xor y (times (exp j) p)) (sym spread ∙ solved)
    ∙ xor_assoc q (times (exp j) p) (times (exp j) p) ∙ ap (bit_xor q) (xor_self (times (exp j) p)) ∙ xor_zero_r q

module _ (k : ℕ) (row : List ℕ) (lost : List Bool) (can : Fit 2 k (length row) lost) (bytes : Bytes row) where
  abbrev z : List ℕ
  z = cleared lost k row

  abbrev i : ℕ
  i = next_lost lost 0 k

  abbrev j : ℕ
  j = next_lost lost (suc i) (k - suc i)

  w : Next lost 0 k i
  w = next-lost lost 0 k

  v : Next lost (suc i) (k - suc i) j
  v = next-lost lost (suc i) (k - suc i)

  abbrev p : ℕ
  p = gap double k z 0

  abbrev q : ℕ
  q = gap double k z 1

  abbrev x : ℕ
  x = former i j p q

  z-bytes : Bytes z
  z-bytes = cleared-bytes lost k row bytes

  z-long : k ≤ length z
  z-long = let n = cleared-length lost k row in omega (arith, can.wide)

  p-byte : p < 256
  p-byte = xor_lt 8 (slice_index z (k + 0)) (total (take k z)) (z-bytes (k + 0)) (total-linear.low (take k z) (take-bytes k z z-bytes))

  q-byte : q < 256
  q-byte = xor_lt 8 (slice_index z (k + 1)) (weighted 1 (take k z)) (z-bytes (k + 1)) ((weighted-linear 1).low (take k z) (take-bytes k z z-bytes))

  x-byte : x < 256
  x-byte = divided-byte (bit_xor q (times (exp j) p)) (bit_xor (exp i) (exp j))

  lone-byte : (t : Bool) → lone i (unless t p) q < 256
  lone-byte true = divided-byte q (exp i)
  lone-byte false = p-byte

  abbrev filling : Bool → Bool → Bool → List ℕ
  filling s t u = cond s (cond t (pair i j p q z) (slice_set z i (lone i (unless u p) q))) z

  wide_at : (s t u : Bool) → length (filling s t u) ≡ length row
  wide_at true true u = length-set (slice_set z i x) j (bit_xor p x) ∙ length-set z i x ∙ cleared-length lost k row
  wide_at true false u = length-set z i (lone i (unless u p) q) ∙ cleared-length lost k row
  wide_at false t u = cleared-length lost k row

  bytes-at : (s t u : Bool) → Bytes (filling s t u)
  bytes-at true true u = set-bytes (slice_set z i x) j (bit_xor p x) (set-bytes z i x z-bytes x-byte) (xor_lt 8 p x p-byte x-byte)
  bytes-at true false u = set-bytes z i (lone i (unless u p) q) z-bytes (lone-byte u)
  bytes-at false t u = z-bytes

  i-lost : i < k → lost_at lost i ≡ true
  i-lost h = w.here (omega arith)

  j-lost : i < k → j < k → lost_at lost j ≡ true
  j-lost h l = v.here (omega arith)

  away : (m c : ℕ) → m < k → lost_at lost m ≡ true → (c < k → lost_at lost c ≡ false) → c ≢ m
  away m c h l n e = true≢false (sym l ∙ ap (lost_at lost) (sym e) ∙ n (omega arith))

  kept_at : (s t u : Bool) → nat_lt i k ≡ s → nat_lt j k ≡ t → (c : ℕ) → (c < k → lost_at lost c ≡ false) → slice_index (filling s t u) c ≡ slice_index row c
  kept_at true true u a b c h =
      let hi = ltb-true i k a in
      let hj = ltb-true j k b in
      get_or-set_other (slice_set z i x) j c (bit_xor p x) 0 (away j c hj (j-lost hi hj) h) ∙ get_or-set_other z i c x 0 (away i c hi (i-lost hi) h) ∙ cleared-kept lost k row c h
  kept_at true false u a b c h = let hi = ltb-true i k a in get_or-set_other z i c (lone i (unless u p) q) 0 (away i c hi (i-lost hi) h) ∙ cleared-kept lost k row c h
  kept_at false t u a b c h = cleared-kept lost k row c h

  check-kept : (r : ℕ) → slice_index z (k + r) ≡ slice_index row (k + r)
  check-kept r = cleared-kept lost k row (k + r) (λ m. absurd (omega arith))

  -- one byte put in: P, and Q
  put-p : i < k → (y : ℕ) → total (take k (slice_set z i y)) ≡ bit_xor (total (take k z)) y
  put-p h y = front-put plain total total-linear k z i y can.most h z-long (cleared-lost lost k row i h (i-lost h))

  put-q : i < k → (y : ℕ) → weighted 1 (take k (slice_set z i y)) ≡ bit_xor (weighted 1 (take k z)) (times (exp i) y)
  put-q h y =
      front-put (powers-of 1) (weighted 1) (weighted-linear 1) k z i y can.most h z-long (cleared-lost lost k row i h (i-lost h))
      ∙ ap (bit_xor (weighted 1 (take k z))) (weight_is i y)

  z-at-j : i < k → j < k → slice_index (slice_set z i x) j ≡ 0
  z-at-j h l = get_or-set_other z i j x 0 (λ e. let f = v.from in omega arith) ∙ cleared-lost lost k row j l (j-lost h l)

  both-p : i < k → j < k → total (take k (pair i j p q z)) ≡ slice_index row (k + 0)
  both-p h l =
      front-put plain total total-linear k (slice_set z i x) j (bit_xor p x) can.most l (let n = length-set z i x in let m = z-long in omega arith) (z-at-j h l)
      ∙ ap (λ y. bit_xor y (bit_xor p x)) (put-p h x)
      ∙ middle (total (take k z)) x p x ∙ ap (bit_xor (bit_xor (total (take k z)) p)) (xor_self x) ∙ xor_zero_r (bit_xor (total (take k z)) p)
      ∙ back (total (take k z)) (slice_index z (k + 0)) ∙ check-kept 0

  both-q : i < k → j < k → weighted 1 (take k (pair i j p q z)) ≡ slice_index row (k + 1)
  both-q h l =
      front-put (powers-of 1) (weighted 1) (weighted-linear 1) k (slice_set z i x) j (bit_xor p x) can.most l (let n = length-set z i x in let m = z-long in omega arith) (z-at-j h l)
      ∙ ap (bit_xor (weighted 1 (take k (slice_set z i x)))) (weight_is j (bit_xor p x))
      ∙ ap (λ y. bit_xor y (times (exp j) (bit_xor p x))) (put-q h x)
      ∙ xor_assoc (weighted 1 (take k z)) (times (exp i) x) (times (exp j) (bit_xor p x))
      ∙ ap (bit_xor (weighted 1 (take k z)))
      (former-is i j p q (let f = can.most in omega arith) (let f = can.most in omega arith) (λ e. let f = v.from in omega arith) p-byte q-byte)
      ∙ back (weighted 1 (take k z)) (slice_index z (k + 1)) ∙ check-kept 1

  lone-p : i < k → total (take k (slice_set z i (lone i (unless false p) q))) ≡ slice_index row (k + 0)
  lone-p h = put-p h p ∙ back (total (take k z)) (slice_index z (k + 0)) ∙ check-kept 0

  lone-q : i < k → weighted 1 (take k (slice_set z i (lone i (unless true p) q))) ≡ slice_index row (k + 1)
  lone-q h =
      put-q h (divided q (exp i)) ∙ ap (bit_xor (weighted 1 (take k z))) (divided-back q (exp i) q-byte (exp-byte i).0 (exp-byte i).1)
      ∙ back (weighted 1 (take k z)) (slice_index z (k + 1)) ∙ check-kept 1

  at_most_one : i < k → k ≤ j → count k (lost_at lost) ≤ 1
  at_most_one h g = count-one k (lost_at lost) i (λ c l d. other c l d (cases_lt c i))
    where
      other : (c : ℕ) → c < k → (c ≢ i) → (c < i) ⊎ (i ≤ c) → lost_at lost c ≡ false
      other c l d (inl m) = w.before c (omega arith) m
      other c l d (inr m) = v.before c (omega arith) (omega arith)

  lowest-at : (s t u : Bool) → nat_lt i k ≡ s → nat_lt j k ≡ t → lost_at lost (k + 0) ≡ u → Lowest double 2 k row lost (take k (filling s t u))
  lowest-at true true u a b c zero h l m = both-p (ltb-true i k a) (ltb-true j k b)
  lowest-at true true u a b c (suc zero) h l m = both-q (ltb-true i k a) (ltb-true j k b)
  lowest-at true false false a b c zero h l m = lone-p (ltb-true i k a)
  lowest-at true false false a b c (suc zero) h l m =
      let one = at_most_one (ltb-true i k a) (ltb-false j k b) in
      let here : count 1 (λ r. not (lost_at lost (k + r))) ≡ 1 = ap (λ t. cond (not t) 1 0 + 0) c in
      absurd (omega arith)
  lowest-at true false true a b c zero h l m = absurd (true≢false (sym c ∙ l))
  lowest-at true false true a b c (suc zero) h l m = lone-q (ltb-true i k a)
  lowest-at false t u a b c r h l m =
      let ge = ltb-false i k a in
      let none = count-zero k (lost_at lost) (λ d y. w.before d (omega arith) (omega arith)) in
      absurd (omega arith)
  lowest-at true t u a b c (suc (suc r)) h l m = absurd (omega arith)

  two-solves : Solves double 2 k row lost (solved_two k row lost)
  unfolding solved_two data_two
  two-solves =
      completes double 2 k row (fill_two k i j (lost_at lost k) z) lost double-low can.wide (wide_at (nat_lt i k) (nat_lt j k) (lost_at lost k)) (bytes-at (nat_lt i k) (nat_lt j k) (lost_at lost k))
      (kept_at (nat_lt i k) (nat_lt j k) (lost_at lost k) refl refl) (lowest-at (nat_lt i k) (nat_lt j k) (lost_at lost k) refl refl (ap (lost_at lost) (add-zero k)))

pub double-solves : (k : ℕ) (row : List ℕ) (lost : List Bool) → solvable 2 k (length row) lost ≡ true → Bytes row → Solves double 2 k row lost (solved_two k row lost)
double-solves k row lost h bytes = two-solves k row lost (fit 2 k (length row) lost h) bytes

pub double-completes : (k : ℕ) (row : List ℕ) (lost : List Bool) → solved_two k row lost ≡ completed double 2 k lost (data_two k row lost)
unfolding solved_two
double-completes k row lost = refl
