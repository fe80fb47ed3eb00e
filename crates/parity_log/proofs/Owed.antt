-- Marks and pending records, one record on, and counts of them.
use Rattle.std.proofs.Common.{◌≡◌, ℕ, zero, suc, ◌+◌, ◌/◌, ◌%◌, ◌^◌, ◌<◌, Bool, true, false, cond, eqb, ltb, List, ◌∷◌, get_or, replicate, Some, None, refl, ap, ◌∙◌, ap₂, inl, inr, zero-add, arith}
use native.Mathlib.Nat.{zero-div}
use Rattle.std.proofs.lemmas.List.{get_or-replicate, get_or_past, length-replicate}
use Rattle.std.proofs.lemmas.Bool.{cases_lt, lt-ltb}
use Rattle.backplane.specs.Plane.{Plane}
use Rattle.layout.specs.Marks.{bit_of, marked}
use Rattle.layout.specs.Counts as marks
use Rattle.layout.proofs.Counting.{count_same, lowest-same}
use Rattle.layout.specs.declared.head.Head.{Head}
use Rattle.layout.specs.declared.head.Head.TheVariants.{OfWrite, OfParity}
use Rattle.layout.specs.Counts.{count, lowest}
use Rattle.model.specs.Coding.{Coding}
use Rattle.model.specs.Log.{Rec, write, record_from, pending, owing}
use Rattle.parity_log.specs.Pending.{owing_after, lowest_owing, MarksOwing}

get_or-zeros : (n i : ℕ) → ◌≡◌ {A = ℕ} (get_or (replicate n 0) i 0) 0
get_or-zeros n i = elim (cases_lt i n) [
  | inl h ↦ get_or-replicate n i 0 0 h
  | inr h ↦ get_or_past (replicate n 0) i 0 (simp length-replicate h)
]

pub unmarked : (xs : List ℕ) (n t : ℕ) → xs ≡ replicate n 0 → marked xs t ≡ false
unmarked xs n t e =
    ap (λ (ys : List ℕ). marked ys t) e ∙ ap (λ (v : ℕ). bit_of v (t % 8)) (get_or-zeros n (t / 8))
    ∙ ap (λ (v : ℕ). eqb (v % 2) 1) (zero-div (2 ^ (t % 8)))

some_more : (n : ℕ) → ltb 0 (1 + n) ≡ true
some_more n = lt-ltb 0 (1 + n) (omega arith)

module _ {B : Type 0} (K : Coding B) where
  wrote : (b : Bool) (n : ℕ) → ltb 0 (cond b 1 0 + n) ≡ cond b true (ltb 0 n)
  wrote true n = some_more n
  wrote false n = ap (ltb 0) (zero-add n)

  folded : (b : Bool) (n : ℕ) → ltb 0 (cond b 0 n) ≡ cond b false (ltb 0 n)
  folded true n = refl
  folded false n = refl

  pub owing-next : (p : Plane B) (i : ℕ) (h : Head) (l : List (Rec B)) (t : ℕ) → owing K (record_from K p i h ∷ l) t ≡ owing_after h t (owing K l t)
  owing-next p i (OfWrite s c) l t = wrote (eqb t s) (pending K t l)
  owing-next p i (OfParity s) l t = folded (eqb t s) (pending K t l)

  pub owing-write : (s c : ℕ) (x y : B) (l : List (Rec B)) (t : ℕ) → owing K (write s c x y ∷ l) t ≡ cond (eqb t s) true (owing K l t)
  owing-write s c x y l t = wrote (eqb t s) (pending K t l)

-- the counts of marks are those of the rules
count-is : (n : ℕ) (f : ℕ → Bool) → marks.count n f ≡ count n f
count-is zero f = refl
count-is (suc n) f = ap (λ (m : ℕ). cond (f n) 1 0 + m) (count-is n f)

lowest-is : (n : ℕ) (f : ℕ → Bool) (i : ℕ) → marks.lowest n f i ≡ lowest n f i
lowest-is zero f i = refl
lowest-is (suc n) f i = ap (λ (m : ℕ). cond (f i) i m) (lowest-is n f (suc i))

pub count-owing : (n : ℕ) (f g : ℕ → Bool) → ((t : ℕ) → t < n → f t ≡ g t) → marks.count n f ≡ count n g
count-owing n f g e = count_same n f g e ∙ count-is n g

pub lowest-owing : {B : Type 0} (K : Coding B) (n : ℕ) (f : ℕ → Bool) (l : List (Rec B)) → ((t : ℕ) → t < n → f t ≡ owing K l t) → marks.first_of n f ≡ lowest_owing K n l
lowest-owing K n f l e =
    ap₂ (λ (c m : ℕ). cond (ltb 0 c) (Some m) None) (count-owing n f (owing K l) e)
    (lowest-same n f (owing K l) 0 (λ t a b. e t (omega arith)) ∙ lowest-is n (owing K l) 0)

pub marks-owing : {B : Type 0} (K : Coding B) (n : ℕ) (l : List (Rec B)) (map : List ℕ) → ((t : ℕ) → t < n → marked map t ≡ owing K l t) → MarksOwing K n l map
marks-owing K n l map e = record { each = e; number = count-owing n (marked map) (owing K l) e; first = lowest-owing K n (marked map) l e }
