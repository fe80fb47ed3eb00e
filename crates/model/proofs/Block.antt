-- Blocks: 512 bytes, with the proof of it. They are what their bytes are.
use Rattle.std.proofs.Common.{◌≡◌, ℕ, zero, suc, ◌+◌, ◌<◌, Bool, true, false, ◌&&◌, T, eqb, ltb, List, [], ◌∷◌, map, length, get_or, replicate, sym, refl, ap, ◌∙◌, subst, arith}
use mathlib.Core.HLevel.{Σ_prop_path}
use lib.Dec.{T_prop}
use lib.ListN.{length-replicate}
use lib.Bits.{bit_xor, xor_comm, xor_assoc, xor_self, xor_zero_l, xor_lt}
use Rattle.std.specs.List.{range_with_len, AllByRecursion}
use Rattle.std.proofs.lemmas.List.FromFn.{fill_by_all}
use Rattle.std.proofs.lemmas.Bool.{and_parts, ltb-true, eqb-true, eq-eqb, lt-ltb, and_from, true≢false}
use Rattle.backplane.specs.Plane.{Sector}
use Rattle.layout.specs.Bytes.{sum_of}
use Rattle.model.specs.Coding.{zeros}
use Rattle.model.proofs.Laws.{Low}

abbrev pub all_low : List ℕ → Bool
all_low [] = true
all_low (x ∷ xs) = ltb x 256 && all_low xs

abbrev pub is_sector : List ℕ → Bool
is_sector xs = eqb (length xs) 512 && all_low xs

abbrev pub Block : Type 0
Block = (xs : List ℕ) × T (is_sector xs)

-- byte i of a block
abbrev pub byte_at : Block → ℕ → ℕ
byte_at x i = get_or x.0 i 0

T_true : (b : Bool) → T b → b ≡ true
T_true true t = refl
T_true false t = absurd t

pub low-at : (xs : List ℕ) → all_low xs ≡ true → Low xs
low-at [] h i = omega arith
low-at (x ∷ xs) h zero = ltb-true x 256 (and_parts (ltb x 256) (all_low xs) h).0
low-at (x ∷ xs) h (suc i) = low-at xs (and_parts (ltb x 256) (all_low xs) h).1 i

pub low-from : (xs : List ℕ) → Low xs → all_low xs ≡ true
low-from [] h = refl
low-from (x ∷ xs) h = and_from (ltb x 256) (all_low xs) (lt-ltb x 256 (h 0)) (low-from xs (λ i. h (suc i)))

low-all : (xs : List ℕ) → AllByRecursion (λ x. x < 256) xs → all_low xs ≡ true
low-all [] h = refl
low-all (x ∷ xs) h = and_from (ltb x 256) (all_low xs) (lt-ltb x 256 h.0) (low-all xs h.1)

all-low : (xs : List ℕ) → all_low xs ≡ true → AllByRecursion (λ x. x < 256) xs
all-low [] h = tt
all-low (x ∷ xs) h = let z = and_parts (ltb x 256) (all_low xs) h in (ltb-true x 256 z.0, all-low xs z.1)

pub low-made : (f : ℕ → ℕ) (n a : ℕ) → ((i : ℕ) → f i < 256) → all_low (map f (range_with_len a n)) ≡ true
low-made f zero a h = refl
low-made f (suc n) a h = and_from (ltb (f a) 256) (all_low (map f (range_with_len (a + 1) n))) (lt-ltb (f a) 256 (h a)) (low-made f n (a + 1) h)

pub sector-from : (xs : List ℕ) → length xs ≡ 512 → all_low xs ≡ true → is_sector xs ≡ true
sector-from xs l h = and_from (eqb (length xs) 512) (all_low xs) (eq-eqb (length xs) 512 l) h

pub is-sector : (xs : List ℕ) → Sector xs → is_sector xs ≡ true
is-sector xs h = sector-from xs h.0 (low-all xs h.1)

abbrev pub in_block : (xs : List ℕ) → is_sector xs ≡ true → Block
in_block xs h = (xs, subst T (sym h) tt)

pub sector-of : (x : Block) → Sector x.0
sector-of x = let z = and_parts (eqb (length x.0) 512) (all_low x.0) (T_true (is_sector x.0) x.1) in (eqb-true (length x.0) 512 z.0, all-low x.0 z.1)

pub byte_low : (x : Block) → Low x.0
byte_low x = low-at x.0 (and_parts (eqb (length x.0) 512) (all_low x.0) (T_true (is_sector x.0) x.1)).1

pub size : (x : Block) → length x.0 ≡ 512
size x = eqb-true (length x.0) 512 (and_parts (eqb (length x.0) 512) (all_low x.0) (T_true (is_sector x.0) x.1)).0

pub block-ext : (x y : Block) → ((i : ℕ) → i < 512 → byte_at x i ≡ byte_at y i) → x ≡ y
block-ext x y h = Σ_prop_path (λ xs. T_prop (is_sector xs))
    (fill_by_all (byte_at y) x.0 512 0 (size x) h ∙ sym (fill_by_all (byte_at y) y.0 512 0 (size y) (λ i _. refl)))

-- blocks with the same bytes
pub block_same : (x y : Block) → x.0 ≡ y.0 → x ≡ y
block_same x y e = Σ_prop_path (λ xs. T_prop (is_sector xs)) e

-- sums
length-sum : (xs ys : List ℕ) → length xs ≡ length ys → length (sum_of xs ys) ≡ length xs
length-sum [] ys h = refl
length-sum (x ∷ xs) [] h = absurd (omega arith)
length-sum (x ∷ xs) (y ∷ ys) h = ap suc (length-sum xs ys (omega arith))

pub get_or-sum : (xs ys : List ℕ) (i : ℕ) → length xs ≡ length ys → get_or (sum_of xs ys) i 0 ≡ bit_xor (get_or xs i 0) (get_or ys i 0)
get_or-sum [] [] i h = refl
get_or-sum [] (y ∷ ys) i h = absurd (omega arith)
get_or-sum (x ∷ xs) [] i h = absurd (omega arith)
get_or-sum (x ∷ xs) (y ∷ ys) zero h = refl
get_or-sum (x ∷ xs) (y ∷ ys) (suc i) h = get_or-sum xs ys i (omega arith)

pub sum-sector : (x y : Block) → is_sector (sum_of x.0 y.0) ≡ true
sum-sector x y = sector-from (sum_of x.0 y.0) (length-sum x.0 y.0 (size x ∙ sym (size y)) ∙ size x)
    (low-from (sum_of x.0 y.0) (λ i. rw (get_or-sum x.0 y.0 i (size x ∙ sym (size y))) (xor_lt 8 (byte_at x i) (byte_at y i) (byte_low x i) (byte_low y i))))

abbrev pub plus : Block → Block → Block
plus x y = in_block (sum_of x.0 y.0) (sum-sector x y)

pub plus-bytes : (x y : Block) → (plus x y).0 ≡ sum_of x.0 y.0
plus-bytes x y = refl

pub get_or-zeros : (n i : ℕ) → get_or {A = ℕ} (replicate n 0) i 0 ≡ 0
get_or-zeros zero i = refl
get_or-zeros (suc n) zero = refl
get_or-zeros (suc n) (suc i) = get_or-zeros n i

pub zeros-at : (i : ℕ) → get_or zeros i 0 ≡ 0
unfolding zeros
zeros-at i = get_or-zeros 512 i

pub zeros-sector : is_sector zeros ≡ true
unfolding zeros
zeros-sector = sector-from (replicate 512 0) (length-replicate {A = ℕ} 512 0) (low-from (replicate 512 0) (λ i. rw (get_or-zeros 512 i) (omega arith)))

abbrev pub none : Block
none = in_block zeros zeros-sector

pub none-bytes : none.0 ≡ zeros
none-bytes = refl

pub byte-plus : (x y : Block) (i : ℕ) → byte_at (plus x y) i ≡ bit_xor (byte_at x i) (byte_at y i)
byte-plus x y i = get_or-sum x.0 y.0 i (size x ∙ sym (size y))

pub byte-none : (i : ℕ) → byte_at none i ≡ 0
byte-none i = zeros-at i

pub plus_assoc : (x y z : Block) → plus (plus x y) z ≡ plus x (plus y z)
plus_assoc x y z = block-ext (plus (plus x y) z) (plus x (plus y z)) (λ i h.
    byte-plus (plus x y) z i ∙ (ap (λ t. bit_xor t (byte_at z i)) (byte-plus x y i) ∙ (xor_assoc (byte_at x i) (byte_at y i) (byte_at z i)
    ∙ sym (byte-plus x (plus y z) i ∙ ap (λ t. bit_xor (byte_at x i) t) (byte-plus y z i)))))

pub plus_comm : (x y : Block) → plus x y ≡ plus y x
plus_comm x y = block-ext (plus x y) (plus y x) (λ i h. byte-plus x y i ∙ (xor_comm (byte_at x i) (byte_at y i) ∙ sym (byte-plus y x i)))

pub plus_none : (x : Block) → plus none x ≡ x
plus_none x = block-ext (plus none x) x (λ i h. byte-plus none x i ∙ (ap (λ t. bit_xor t (byte_at x i)) (byte-none i) ∙ xor_zero_l (byte_at x i)))

pub plus-self : (x : Block) → plus x x ≡ none
plus-self x = block-ext (plus x x) none (λ i h. byte-plus x x i ∙ (xor_self (byte_at x i) ∙ sym (byte-none i)))

-- the block with these bytes, if they are 512 bytes
abbrev pub pack-if : (xs : List ℕ) (b : Bool) → is_sector xs ≡ b → Block
pack-if xs true e = in_block xs e
pack-if xs false e = none

abbrev pub pack : List ℕ → Block
pack xs = pack-if xs (is_sector xs) refl

pub pack-bytes : (xs : List ℕ) → is_sector xs ≡ true → (pack xs).0 ≡ xs
pack-bytes xs h = go (is_sector xs) refl h
  where
    go : (b : Bool) (e : is_sector xs ≡ b) → b ≡ true → (pack-if xs b e).0 ≡ xs
    go true e k = refl
    go false e k = absurd (true≢false (sym k))
