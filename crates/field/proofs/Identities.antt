-- Identities of the field by a normal form: a sum of products is a list of monomials, and equal ones cancel.
use Rattle.std.proofs.Common.{◌≡◌, ℕ, ◌<◌, Bool, true, false, cond, ◌&&◌, eqb, leb, List, [], ◌∷◌, sym, refl, ap, ◌∙◌, arith}
use lib.Bits.{bit_xor, xor_lt, xor_zero_l, xor_zero_r, xor_assoc, xor_comm, xor_self}
use Rattle.std.proofs.lemmas.Bool.{eqb-true}
use Rattle.field.specs.Field.{times}
use Rattle.field.proofs.Laws.{times-byte, times-assoc, times-one, times-zero-l, times-zero-r, times-comm, times-adds}

-- expressions in numbered unknowns
pub data Ex : Type 0 where
  var : ℕ → Ex
  add : Ex → Ex → Ex
  mul : Ex → Ex → Ex

abbrev pub val : (ℕ → ℕ) → Ex → ℕ
val ρ (var i) = ρ i
val ρ (add a b) = bit_xor (val ρ a) (val ρ b)
val ρ (mul a b) = times (val ρ a) (val ρ b)

-- a monomial is a list of unknowns, a sum a list of monomials
abbrev mono : (ℕ → ℕ) → List ℕ → ℕ
mono ρ [] = 1
mono ρ (i ∷ m) = times (ρ i) (mono ρ m)

abbrev poly : (ℕ → ℕ) → List (List ℕ) → ℕ
poly ρ [] = 0
poly ρ (m ∷ p) = bit_xor (mono ρ m) (poly ρ p)

abbrev ins : ℕ → List ℕ → List ℕ
ins i [] = i ∷ []
ins i (j ∷ m) = cond (leb i j) (i ∷ (j ∷ m)) (j ∷ ins i m)

abbrev join : List ℕ → List ℕ → List ℕ
join [] m = m
join (i ∷ l) m = ins i (join l m)

abbrev same : List ℕ → List ℕ → Bool
same [] [] = true
same [] (j ∷ m) = false
same (i ∷ l) [] = false
same (i ∷ l) (j ∷ m) = eqb i j && same l m

-- adds a monomial, or takes it away where it stands
abbrev toggle : List ℕ → List (List ℕ) → List (List ℕ)
toggle m [] = m ∷ []
toggle m (q ∷ p) = cond (same m q) p (q ∷ toggle m p)

abbrev sum : List (List ℕ) → List (List ℕ) → List (List ℕ)
sum [] q = q
sum (m ∷ p) q = toggle m (sum p q)

abbrev scale : List ℕ → List (List ℕ) → List (List ℕ)
scale m [] = []
scale m (q ∷ p) = toggle (join m q) (scale m p)

abbrev product : List (List ℕ) → List (List ℕ) → List (List ℕ)
product [] q = []
product (m ∷ p) q = sum (scale m q) (product p q)

abbrev pub norm : Ex → List (List ℕ)
norm (var i) = (i ∷ []) ∷ []
norm (add a b) = sum (norm a) (norm b)
norm (mul a b) = product (norm a) (norm b)

and_both : (a b : Bool) → (a && b) ≡ true → (a ≡ true) × (b ≡ true)
and_both true b e = (refl, e)
and_both false b e = absurd (let z : ◌≡◌ {A = ℕ} 0 1 = cc in omega arith)

same-eq : (l m : List ℕ) → same l m ≡ true → l ≡ m
same-eq [] [] e = refl
same-eq [] (j ∷ m) e = absurd (let z : ◌≡◌ {A = ℕ} 0 1 = cc in omega arith)
same-eq (i ∷ l) [] e = absurd (let z : ◌≡◌ {A = ℕ} 0 1 = cc in omega arith)
same-eq (i ∷ l) (j ∷ m) e =
    let b = and_both (eqb i j) (same l m) e in
    ap (λ k. k ∷ l) (eqb-true i j b.0) ∙ ap (λ k. j ∷ k) (same-eq l m b.1)

module _ (ρ : ℕ → ℕ) (bytes : (i : ℕ) → ρ i < 256) where
  mono-byte : (m : List ℕ) → mono ρ m < 256
  mono-byte [] = omega arith
  mono-byte (i ∷ m) = times-byte (ρ i) (mono ρ m)

  poly-byte : (p : List (List ℕ)) → poly ρ p < 256
  poly-byte [] = omega arith
  poly-byte (m ∷ p) = xor_lt 8 (mono ρ m) (poly ρ p) (mono-byte m) (poly-byte p)

  swap : (a b c : ℕ) → times a (times b c) ≡ times b (times a c)
  swap a b c = sym (times-assoc a b c) ∙ ap (λ x. times x c) (times-comm a b) ∙ times-assoc b a c

  ins-at : (t : Bool) (i j : ℕ) (m : List ℕ) → mono ρ (ins i m) ≡ times (ρ i) (mono ρ m) → mono ρ (cond t (i ∷ (j ∷ m)) (j ∷ ins i m)) ≡ times (ρ i) (mono ρ (j ∷ m))
  ins-at true i j m h = refl
  ins-at false i j m h = ap (times (ρ j)) h ∙ swap (ρ j) (ρ i) (mono ρ m)

  ins-is : (i : ℕ) (m : List ℕ) → mono ρ (ins i m) ≡ times (ρ i) (mono ρ m)
  ins-is i [] = refl
  ins-is i (j ∷ m) = ins-at (leb i j) i j m (ins-is i m)

  join_is : (l m : List ℕ) → mono ρ (join l m) ≡ times (mono ρ l) (mono ρ m)
  join_is [] m = sym (times-one (mono ρ m) (mono-byte m))
  join_is (i ∷ l) m = ins-is i (join l m) ∙ ap (times (ρ i)) (join_is l m) ∙ sym (times-assoc (ρ i) (mono ρ l) (mono ρ m))

  left_comm : (a b c : ℕ) → bit_xor a (bit_xor b c) ≡ bit_xor b (bit_xor a c)
  left_comm a b c = sym (xor_assoc a b c) ∙ ap (λ x. bit_xor x c) (xor_comm a b) ∙ xor_assoc b a c

  toggle-at : (t : Bool) (m q : List ℕ) (p : List (List ℕ)) → same m q ≡ t → poly ρ (toggle m p) ≡ bit_xor (mono ρ m) (poly ρ p)
      → poly ρ (cond t p (q ∷ toggle m p)) ≡ bit_xor (mono ρ m) (bit_xor (mono ρ q) (poly ρ p))
  toggle-at true m q p e h =
      sym (xor_zero_l (poly ρ p)) ∙ ap (λ x. bit_xor x (poly ρ p)) (sym (xor_self (mono ρ m))) ∙ xor_assoc (mono ρ m) (mono ρ m) (poly ρ p)
      ∙ ap (λ l. bit_xor (mono ρ m) (bit_xor (mono ρ l) (poly ρ p))) (same-eq m q e)
  toggle-at false m q p e h = ap (bit_xor (mono ρ q)) h ∙ left_comm (mono ρ q) (mono ρ m) (poly ρ p)

  toggle-is : (m : List ℕ) (p : List (List ℕ)) → poly ρ (toggle m p) ≡ bit_xor (mono ρ m) (poly ρ p)
  toggle-is m [] = refl
  toggle-is m (q ∷ p) = toggle-at (same m q) m q p refl (toggle-is m p)

  sum_is : (p q : List (List ℕ)) → poly ρ (sum p q) ≡ bit_xor (poly ρ p) (poly ρ q)
  sum_is [] q = sym (xor_zero_l (poly ρ q))
  sum_is (m ∷ p) q = toggle-is m (sum p q) ∙ ap (bit_xor (mono ρ m)) (sum_is p q) ∙ sym (xor_assoc (mono ρ m) (poly ρ p) (poly ρ q))

  scale-is : (m : List ℕ) (p : List (List ℕ)) → poly ρ (scale m p) ≡ times (mono ρ m) (poly ρ p)
  scale-is m [] = sym (times-zero-r (mono ρ m))
  scale-is m (q ∷ p) =
      toggle-is (join m q) (scale m p) ∙ ap (λ x. bit_xor x (poly ρ (scale m p))) (join_is m q) ∙ ap (bit_xor (times (mono ρ m) (mono ρ q))) (scale-is m p)
      ∙ sym (times-adds (mono ρ m) (mono ρ q) (poly ρ p) (mono-byte m) (mono-byte q) (poly-byte p))

  adds-left : (a b c : ℕ) → a < 256 → b < 256 → c < 256 → times (bit_xor a b) c ≡ bit_xor (times a c) (times b c)
  adds-left a b c p q r =
      times-comm (bit_xor a b) c ∙ times-adds c a b r p q ∙ ap (λ x. bit_xor x (times c b)) (times-comm c a) ∙ ap (bit_xor (times a c)) (times-comm c b)

  product_is : (p q : List (List ℕ)) → poly ρ (product p q) ≡ times (poly ρ p) (poly ρ q)
  product_is [] q = sym (times-zero-l (poly ρ q))
  product_is (m ∷ p) q =
      sum_is (scale m q) (product p q) ∙ ap (λ x. bit_xor x (poly ρ (product p q))) (scale-is m q) ∙ ap (bit_xor (times (mono ρ m) (poly ρ q))) (product_is p q)
      ∙ sym (adds-left (mono ρ m) (poly ρ p) (poly ρ q) (mono-byte m) (poly-byte p) (poly-byte q))

  norm-is : (e : Ex) → poly ρ (norm e) ≡ val ρ e
  norm-is (var i) = xor_zero_r (times (ρ i) 1) ∙ times-comm (ρ i) 1 ∙ times-one (ρ i) (bytes i)
  norm-is (add a b) = sum_is (norm a) (norm b) ∙ ap (λ x. bit_xor x (poly ρ (norm b))) (norm-is a) ∙ ap (bit_xor (val ρ a)) (norm-is b)
  norm-is (mul a b) = product_is (norm a) (norm b) ∙ ap (λ x. times x (poly ρ (norm b))) (norm-is a) ∙ ap (times (val ρ a)) (norm-is b)

  cancel : (a b : ℕ) → bit_xor a b ≡ 0 → a ≡ b
  cancel a b e = sym (xor_zero_r a) ∙ ap (bit_xor a) (sym (xor_self b)) ∙ sym (xor_assoc a b b) ∙ ap (λ x. bit_xor x b) e ∙ xor_zero_l b

  -- two expressions are equal if their sum's normal form is empty, which antt computes: `equal .. a b refl`
  pub equal : (a b : Ex) → norm (add a b) ≡ [] → val ρ a ≡ val ρ b
  equal a b e = cancel (val ρ a) (val ρ b) (sym (norm-is (add a b)) ∙ ap (poly ρ) e)
