-- From what was made, by the answer, to how a call ends by the rules.
use Rattle.std.proofs.Common.{◌≡◌, ℕ, ◌<◌, ◌≤◌, Bool, true, false, cond, not, ltb, List, [], ◌∷◌, ◌++◌, Some, None, Ok, Err, Option, Result, sym, refl, ap, ◌∙◌, subst, inl, inr, arith}
use Rattle.std.proofs.lemmas.Bool.{lt-ltb, le-ltb}
use Rattle.backplane.specs.Plane.{Sector, Store}
use Rattle.backplane.specs.Stores.{stored_all, Cutting}
use Rattle.backplane.specs.declared.fault.Place.{Place}
use Rattle.backplane.proofs.Runs.{stored-append, cut-append, cut-after}
use Rattle.backplane.specs.Meaning.{Bytes, Fitting}
use Rattle.layout.specs.declared.header.Header.{Header}
use Rattle.faults.specs.declared.fault.ArrayFault.{ArrayFault}
use Rattle.model.specs.Coding.{Coding}
use Rattle.model.specs.Rules.{if_open, short_work}
use Rattle.model.specs.Verdict.{Answer, Last, done, nothing, fits, LastOf, Reply, answered, refused, Verdict, make, Ends}
use Rattle.array.specs.Calls.{acked, reply_of, cut_place, stored_in, CuttingIn, Performed, Made, Same, held_after}

-- the stores of phases, in one list
abbrev pub flat : List (List (Store (List ℕ))) → List (Store (List ℕ))
flat [] = []
flat (ss ∷ []) = ss
flat (ss ∷ (ts ∷ rest)) = ss ++ flat (ts ∷ rest)

pub stored-flat : (phases : List (List (Store (List ℕ)))) (p : Bytes) → stored_in phases p ≡ stored_all (flat phases) p
stored-flat [] p = refl
stored-flat (ss ∷ []) p = refl
stored-flat (ss ∷ (ts ∷ rest)) p = stored-flat (ts ∷ rest) (stored_all ss p) ∙ sym (stored-append ss (flat (ts ∷ rest)) p)

pub cut-flat : (phases : List (List (Store (List ℕ)))) (p q : Bytes) (at : Place) → CuttingIn phases p q at → Cutting Sector (flat phases) p q at
cut-flat [] p q at h = absurd h
cut-flat (ss ∷ []) p q at (inl h) = h
cut-flat (ss ∷ []) p q at (inr h) = absurd h
cut-flat (ss ∷ (ts ∷ rest)) p q at (inl h) = cut-append Sector ss (flat (ts ∷ rest)) p q at h
cut-flat (ss ∷ (ts ∷ rest)) p q at (inr h) = cut-after Sector ss (flat (ts ∷ rest)) p q at (cut-flat (ts ∷ rest) (stored_all ss p) q at h)

-- one store of a header, as the one phase of a call
pub made-header : (s : Store (List ℕ)) (h : Header) (p q : Bytes) (r : Result (Unit {0}) ArrayFault) (u : Option Header)
    → Performed (s ∷ []) p r q → u ≡ held_after h r → Made ((s ∷ []) ∷ []) Same (tt {0}) (Some h) p r q u
made-header s h p q (Ok x) u m e = (refl, m, e)
made-header s h p q (Err f) u m e = (m.0, inl m.1, e)

module _ {T : Type 0} (f : T → Answer (List ℕ)) (phases : List (List (Store (List ℕ)))) where
  pub made_ends : (L : Bytes → Bytes → Type 0) (l : Last) (v : T) (h o : Option Header) (p q : Bytes) (r : Result T ArrayFault) (u : Option Header)
      → ((x y : Bytes) → L x y → LastOf Sector [] l x y) → Made phases L v h p r q u → Ends Sector [] (make (flat phases) l (f v) h) p o (reply_of f r) q u
  made_ends L l v h o p q (Ok x) u k m =
      inl (ap (λ y. answered (f y)) m.0, k _ _ (subst (λ (x : Bytes). L x q) (stored-flat phases p) m.1), m.2)
  made_ends L l v h o p q (Err e) u k m = inr (cut_place e, ap refused m.0, cut-flat phases p q (cut_place e) m.1, m.2)

  pub same_ends : (v : T) (h o : Option Header) (p q : Bytes) (r : Result T ArrayFault) (u : Option Header)
      → Made phases Same v h p r q u → Ends Sector [] (make (flat phases) nothing (f v) h) p o (reply_of f r) q u
  same_ends v h o p q r u m = made_ends Same nothing v h o p q r u (λ x y e. e) m

  pub fit-ends : (d : ℕ) (v : T) (h o : Option Header) (p q : Bytes) (r : Result T ArrayFault) (u : Option Header)
      → Made phases (Fitting d) v h p r q u → Ends Sector [] (make (flat phases) (fits d) (f v) h) p o (reply_of f r) q u
  fit-ends d v h o p q r u m = made_ends (Fitting d) (fits d) v h o p q r u (λ x y e. (e.fresh, e.whole, e.after)) m

-- stores, after which a header is held, as the whole of a call
pub performed-ends : (ss : List (Store (List ℕ))) (h : Header) (o u : Option Header) (p q : Bytes) (r : Result (Unit {0}) ArrayFault)
    → Performed ss p r q → u ≡ held_after h r → Ends Sector [] (make ss nothing done (Some h)) p o (reply_of acked r) q u
performed-ends ss h o u p q (Ok x) e k = inl (refl, e, k)
performed-ends ss h o u p q (Err f) e k = inr (cut_place f, ap refused e.0, e.1, k)

-- a started array goes on with the header held
pub open-ends : (K : Coding (List ℕ)) (x : Option Header) (h : Header) (F : Header → Verdict (List ℕ)) (p q : Bytes) (o u : Option Header) (r : Reply (List ℕ))
    → Some h ≡ x → Ends Sector [] (F h) p o r q u → Ends Sector [] (if_open K x F) p o r q u
open-ends K x h F p q o u r e m = subst (λ (y : Option Header). Ends Sector [] (if_open K y F) p o r q u) e m

-- tests that are passed
pub long-enough : (w : ℕ) → 10240 ≤ w → short_work w ≡ false
long-enough w h = le-ltb w 10240 h

pub is_below : (d n : ℕ) → d < n → not (ltb d n) ≡ false
is_below d n h = ap not (lt-ltb d n h)

-- where none was found, there is none
pub none_found : {A : Type 0} (b : Bool) (x : A) → None ≡ cond b (Some x) None → b ≡ false
none_found true x e = absurd (let z : ◌≡◌ {A = ℕ} 0 1 = cc in omega arith)
none_found false x e = refl
