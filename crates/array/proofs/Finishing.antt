-- The stores that finish a record.
use Rattle.std.proofs.Common.{◌≡◌, ℕ, zero, suc, ◌+◌, ◌-◌, ◌<◌, ◌≤◌, Bool, true, false, cond, ◌&&◌, ltb, leb, List, [], ◌∷◌, ◌++◌, get_or, Some, None, Ok, Err, Option, Result, sym, refl, ap, ◌∙◌, subst, add-one, arith}
use mathlib.Core.Path.{subst⁻¹}
use Rattle.std.proofs.lemmas.Bool.{cond-true, lt-ltb, ltb-true, leb-true}
use Rattle.backplane.specs.Plane.{Store, to_block}
use Rattle.backplane.specs.Meaning.{Bytes}
use Rattle.backplane.specs.Stores.{stored_all}
use Rattle.layout.specs.declared.head.Head.{Head}
use Rattle.layout.specs.declared.head.Head.TheVariants.{OfWrite, OfParity}
use Rattle.layout.specs.declared.header.Header.{Header}
use Rattle.std.specs.Str.{bytes_eq}
use Rattle.layout.specs.Bytes.{four_at}
use Rattle.layout.specs.Head.{head_cell, head_in, record_cells}
use Rattle.layout.specs.Stripes.{slot_of}
use Rattle.model.specs.Coding.{Coding, width, check_rows}
use Rattle.model.specs.Log.{Rec, or_else, record_from, record_at}
use Rattle.model.specs.Row.{good_at}
use Rattle.model.specs.Rules.{good_of, is_good, log_of, to_checks, finish, finish_last}
use Rattle.parity_log.specs.Walks.{LastAt}
use Rattle.faults.specs.declared.fault.ArrayFault.{ArrayFault}
use Rattle.array.specs.Calls.{Performed}
use Rattle.array.specs.Ready.{Kept}
use Rattle.array.proofs.Steps.{performed-append, performed-cut, stored-kept, kept-after}
use Rattle.array.specs.Starts.{to_good, to_good_checks, finish_by, Placed, ToFinish}

-- a store in a block leaves the cells
pub block-cells : (b : Bool) (d s : ℕ) (x : List ℕ) (p : Bytes) → (stored_all (cond b (to_block d s x ∷ []) []) p).cell ≡ p.cell
block-cells true d s x p = refl
block-cells false d s x p = refl

pub good-cells : (n : ℕ) (live : ℕ → Bool) (h : Header) (s c : ℕ) (x : List ℕ) (p : Bytes) → (stored_all (to_good n live h s c x) p).cell ≡ p.cell
good-cells n live h s c x p = block-cells (good_at n live (good_of h) s c) (slot_of n s c) s x p

-- one check block more, in a loop over the check rows: it is done, or cut
module _ (n k : ℕ) (h : Header) (s : ℕ) (f : ℕ → List ℕ) (p now then : Bytes) (m r : ℕ) where
  abbrev checks_of : ℕ → ℕ → List (Store (List ℕ))
  checks_of = to_good_checks n k p.live h s f

  abbrev check_at : (ℕ → Bool) → List (Store (List ℕ))
  check_at live = to_good n live h s (k + r) (f r)

  pub good-done : r < m → Kept p now → Performed (check_at now.live) now (Ok tt) then
      → Kept p then × ((q : Bytes) (x : Result (Unit {0}) ArrayFault) → Performed (checks_of (m - (r + 1)) (r + 1)) then x q → Performed (checks_of (m - r) r) now x q)
  good-done l k0 one =
      let e : m - r ≡ suc (m - (r + 1)) = omega arith in
      let here : then ≡ stored_all (check_at p.live) now = subst (λ (live : ℕ → Bool). then ≡ stored_all (check_at live) now) k0.live one in (
        kept-after p now then k0 (stored-kept (check_at now.live) now then one),
        λ q x t. subst⁻¹ (λ (i : ℕ). Performed (checks_of i r) now x q) e (performed-append (check_at p.live) (checks_of (m - (r + 1)) (r + 1)) now then q x here t),
      )

  pub good-cut : (g : ArrayFault) → r < m → Kept p now → Performed (check_at now.live) now (Err g) then → Performed (checks_of (m - r) r) now (Err g) then
  good-cut g l k0 cut =
      let e : m - r ≡ suc (m - (r + 1)) = omega arith in
      let here = subst (λ (live : ℕ → Bool). Performed (check_at live) now (Err g) then) k0.live cut in
      subst⁻¹ (λ (i : ℕ). Performed (checks_of i r) now (Err g) then) e (performed-cut (check_at p.live) (checks_of (m - (r + 1)) (r + 1)) now then g here)

first_of : {A : Type 0} (b : Bool) (x : A) (xs : List A) → cond b (x ∷ xs) xs ≡ cond b (x ∷ []) [] ++ xs
first_of true x xs = refl
first_of false x xs = refl

module _ (K : Coding (List ℕ)) (p : Bytes) (h : Header) where
  -- check blocks of which each is known go where the rules store them
  pub checks-are : (s : ℕ) (f g : ℕ → List ℕ) (m r : ℕ) → r + m ≡ K.m → ((j : ℕ) → j < K.m → f j ≡ g j)
      → to_checks K (is_good K p h s) s (check_rows K f) m r ≡ to_good_checks (width K) K.k p.live h s g m r
  checks-are s f g zero r e same = refl
  checks-are s f g (suc m) r e same =
      let good : Bool = is_good K p h s (K.k + r) in
      let slot : ℕ = slot_of (width K) s (K.k + r) in
      let rest : List (Store (List ℕ)) = to_checks K (is_good K p h s) s (check_rows K f) m (suc r) in
      let there : check_rows K f r ≡ g r = cond-true (ltb r K.m) (f r) K.nil (lt-ltb r K.m (omega arith)) ∙ same r (omega arith) in
      ap (λ (x : List ℕ). cond good (to_block slot s x ∷ rest) rest) there
      ∙ first_of good (to_block slot s (g r)) rest
      ∙ ap (λ (xs : List (Store (List ℕ))). cond good (to_block slot s (g r) ∷ []) [] ++ xs)
      (checks-are s f g m (suc r) (omega arith) same ∙ ap (λ (j : ℕ). to_good_checks (width K) K.k p.live h s g m j) (sym (add-one r)))

  finish-is : (i : ℕ) (d : Head) → finish K (is_good K p h) (record_from K p i d) ≡ finish_by (width K) K.k K.m p h i d
  finish-is i (OfWrite s c) = refl
  finish-is i (OfParity s) = checks-are s (λ j. p.cell (i + (1 + j))) (λ j. p.cell (i + (1 + j))) K.m 0 (omega arith) (λ j l. refl)

-- a head is of a stripe that there is
abbrev InStripe : ℕ → Head → Type 0
InStripe n (OfWrite s c) = s < n
InStripe n (OfParity s) = s < n

in-stripe : (t w v : Bool) (s c n : ℕ) (d : Head) → (t ≡ true → s < n)
    → cond (t && w) (Some (OfWrite s c)) (cond (t && v) (Some (OfParity s)) None) ≡ Some d → InStripe n d
in-stripe true true v s c n d f e = let same : OfWrite s c ≡ d = cc in subst (InStripe n) same (f refl)
in-stripe true false true s c n d f e = let same : OfParity s ≡ d = cc in subst (InStripe n) same (f refl)
in-stripe true false false s c n d f e = absurd (let z : ◌≡◌ {A = ℕ} 0 1 = cc in omega arith)
in-stripe false w v s c n d f e = absurd (let z : ◌≡◌ {A = ℕ} 0 1 = cc in omega arith)

head-in-stripe : (k n : ℕ) (x : List ℕ) (d : Head) → head_in k n x ≡ Some d → InStripe n d
head-in-stripe k n x d e =
    in-stripe (ltb (four_at x 4) n) (ltb (get_or x 1 0) k && bytes_eq x (head_cell 1 (get_or x 1 0) (four_at x 4))) (bytes_eq x (head_cell 2 0 (four_at x 4)))
    (four_at x 4) (get_or x 1 0) n d (λ t. ltb-true (four_at x 4) n t) e

-- a record that is there begins with a head and ends within the cells in use
record Begun (K : Coding (List ℕ)) (p : Bytes) (u i : ℕ) (r : Rec (List ℕ)) : Type 0 where
  head : Head
  read : head_in K.k p.blocks (K.bytes (p.cell i)) ≡ Some head
  within : i + record_cells K.m head ≤ u + 1
  same : r ≡ record_from K p i head

fitting : (K : Coding (List ℕ)) (p : Bytes) (u i : ℕ) (r : Rec (List ℕ)) (d : Head) (b : Bool) → b ≡ leb (i + record_cells K.m d) (u + 1)
    → head_in K.k p.blocks (K.bytes (p.cell i)) ≡ Some d → cond b (Some (record_from K p i d)) None ≡ Some r → Begun K p u i r
fitting K p u i r d true b e f = record { head = d; read = e; within = leb-true (i + record_cells K.m d) (u + 1) (sym b); same = cc }
fitting K p u i r d false b e f = absurd (let z : ◌≡◌ {A = ℕ} 0 1 = cc in omega arith)

by-head : (K : Coding (List ℕ)) (p : Bytes) (u i : ℕ) (r : Rec (List ℕ)) (o : Option Head) → head_in K.k p.blocks (K.bytes (p.cell i)) ≡ o
    → or_else o None (λ d. cond (leb (i + record_cells K.m d) (u + 1)) (Some (record_from K p i d)) None) ≡ Some r → Begun K p u i r
by-head K p u i r None e f = absurd (let z : ◌≡◌ {A = ℕ} 0 1 = cc in omega arith)
by-head K p u i r (Some d) e f = fitting K p u i r d (leb (i + record_cells K.m d) (u + 1)) refl e f

begun : (K : Coding (List ℕ)) (p : Bytes) (u i : ℕ) (r : Rec (List ℕ)) → record_at K p u i ≡ Some r → Begun K p u i r
begun K p u i r e = by-head K p u i r (head_in K.k p.blocks (K.bytes (p.cell i))) refl e

placed : (m u i : ℕ) (p : Bytes) (d : Head) → InStripe p.blocks d → i + record_cells m d ≤ u + 1 → u < p.cells → Placed m p i d
placed m u i p (OfWrite s c) h w f = (h, omega arith)
placed m u i p (OfParity s) h w f = (h, omega arith)

to-finish : (K : Coding (List ℕ)) (p : Bytes) (h : Header) (i : ℕ) (r : Rec (List ℕ)) (rest : List (Rec (List ℕ))) (d : Head)
    → h.used < p.cells → log_of K p h ≡ r ∷ rest → Begun K p h.used i r → Some d ≡ head_in K.k p.blocks (K.bytes (p.cell i)) → ToFinish K p h (Some (i, d))
to-finish K p h i r rest d f l b e =
    let same : b.head ≡ d = (let read = b.read in cc) in
    let w = subst (λ (x : Head). i + record_cells K.m x ≤ h.used + 1) same b.within in (
      ap (finish_last K (is_good K p h)) l ∙ ap (finish K (is_good K p h)) b.same ∙ finish-is K p h i b.head ∙ ap (finish_by (width K) K.k K.m p h i) same,
      placed K.m h.used i p d (head-in-stripe K.k p.blocks (K.bytes (p.cell i)) d (sym e)) w f,
    )

-- the record in the cell that the walk found is to be finished
pub last-to-finish : (K : Coding (List ℕ)) (p : Bytes) (h : Header) (last : Option ℕ) (i : ℕ) (d : Head)
    → last ≡ Some i → h.used < p.cells → LastAt K p h.used last (log_of K p h) → Some d ≡ head_in K.k p.blocks (K.bytes (p.cell i)) → ToFinish K p h (Some (i, d))
last-to-finish K p h None i d z f l e = absurd (cc)
last-to-finish K p h (Some j) i d z f (r, rest, l, at) e =
    let same : j ≡ i = cc in
    to-finish K p h i r rest d f l (begun K p h.used i r (subst (λ (t : ℕ). record_at K p h.used t ≡ Some r) same at)) e

-- that cell holds a head
pub last-is-head : (K : Coding (List ℕ)) (p : Bytes) (h : Header) (last : Option ℕ) (i : ℕ)
    → last ≡ Some i → LastAt K p h.used last (log_of K p h) → None ≡ head_in K.k p.blocks (K.bytes (p.cell i)) → ⊥
last-is-head K p h None i z l e = cc
last-is-head K p h (Some j) i z (r, rest, l, at) e =
    let same : j ≡ i = cc in
    let b = begun K p h.used i r (subst (λ (t : ℕ). record_at K p h.used t ≡ Some r) same at) in
    let read = b.read in cc

-- an empty log has no record to finish
pub none-to-finish : (K : Coding (List ℕ)) (p : Bytes) (h : Header) (last : Option ℕ) → last ≡ None → LastAt K p h.used last (log_of K p h) → ToFinish K p h None
none-to-finish K p h None z l = ap (finish_last K (is_good K p h)) l
none-to-finish K p h (Some i) z l = absurd (cc)
