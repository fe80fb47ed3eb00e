-- How a write ends by the rules.
use Rattle.std.proofs.Common.{◌≡◌, ℕ, suc, ◌+◌, List, [], ◌∷◌, Some, Ok, Err, Option, Result, sym, refl, ap, ◌∙◌, subst, inl, inr, arith}
use Rattle.std.proofs.lemmas.Bool.{lt-ltb, le-ltb}
use Rattle.backplane.specs.Plane.{Sector, Store, to_cell}
use Rattle.backplane.specs.Meaning.{Bytes}
use Rattle.layout.specs.declared.head.Head.TheVariants.{OfWrite}
use Rattle.layout.specs.declared.header.Header.{Header}
use Rattle.layout.specs.Head.{head_bytes}
use Rattle.layout.specs.Header.{header_bytes, with_used}
use Rattle.model.specs.Coding.{Coding, width}
use Rattle.model.specs.Log.{write}
use Rattle.model.specs.Rules.{shape_of, lost_in, row_of, grown, written, write_open}
use Rattle.model.specs.Verdict.{refused, Ends}
use Rattle.faults.specs.declared.fault.ArrayFault.{ArrayFault}
use Rattle.faults.specs.Refusals.{array_refusal}
use Rattle.array.specs.Calls.{acked, reply_of, Made, Same}
use Rattle.array.proofs.Endings.{same_ends}
use Rattle.array.specs.Writes.{WriteJudged}
use Rattle.array.specs.Records.{appending, write_stores}
use Rattle.array.specs.Starts.{to_good}

module _ (K : Coding (List ℕ)) (p : Bytes) (h : Header) (s c : ℕ) where
  -- the phases over the bytes at hand are those of the rules
  pub write-phases : ((x : List ℕ) → K.pack x ≡ x) → (n : ℕ) (head delta image cell : List ℕ) (then : Header) (r : Result (Unit {0}) ArrayFault) (q : Bytes) (u : Option Header)
      → n ≡ width K → head ≡ head_bytes (OfWrite s c) → then ≡ with_used h (h.used + 3) → cell ≡ header_bytes (shape_of K p) then
      → Made (write_stores n p.live h s c head delta image cell) Same (tt {0}) (Some then) p r q u
      → Made (appending K p h (write s c delta image)) Same (tt {0}) (Some (grown K p h (write s c delta image))) p r q u
  write-phases whole n head delta image cell then r q u w eh et ec m =
      let eh' : head ≡ K.pack (head_bytes (OfWrite s c)) = eh ∙ sym (whole (head_bytes (OfWrite s c))) in
      let a1 : h.used + 1 ≡ suc h.used = omega arith in
      let a2 : h.used + 2 ≡ suc (suc h.used) = omega arith in
      let a3 : h.used + 3 ≡ suc (suc (suc h.used)) = omega arith in
      let ec' : cell ≡ K.pack (header_bytes (shape_of K p) (with_used h (h.used + 3))) =
      ec ∙ ap (header_bytes (shape_of K p)) et ∙ sym (whole (header_bytes (shape_of K p) (with_used h (h.used + 3)))) in
      let same : write_stores n p.live h s c head delta image cell ≡ appending K p h (write s c delta image) =
      λ i. (to_cell (a1 i) (eh' i) ∷ (to_cell (a2 i) delta ∷ (to_cell (a3 i) image ∷ [])))
      ∷ ((to_cell 0 (ec' i) ∷ []) ∷ (to_good (w i) p.live h s c image ∷ [])) in
      subst (λ (x : List (List (Store (List ℕ)))). Made x Same (tt {0}) (Some (with_used h (h.used + 3))) p r q u) same
      (subst (λ (x : Header). Made (write_stores n p.live h s c head delta image cell) Same (tt {0}) (Some x) p r q u) et m)

  module _ (x : List ℕ) (o : Option Header) where
    pub refused-ends : (f : ArrayFault) → WriteJudged K p h s (Err f) → Ends Sector [] (write_open K p h s c x) p o (refused (array_refusal f)) p o
    refused-ends f (inl d) = inl (lt-ltb K.m (lost_in K p h s) d.0, ap (λ (y : ArrayFault). refused (array_refusal y)) d.1, refl, refl)
    refused-ends f (inr d) =
        inr (le-ltb K.m (lost_in K p h s) d.0, inl (d.1 c (K.add (row_of K p h s c) x) x, ap (λ (y : ArrayFault). refused (array_refusal y)) d.2, refl, refl))

    pub write-ends : (e : Unit {0}) (r : Result (Unit {0}) ArrayFault) (q : Bytes) (u : Option Header) → WriteJudged K p h s (Ok e)
        → Made (appending K p h (written K p h s c x)) Same (tt {0}) (Some (grown K p h (written K p h s c x))) p r q u
        → Ends Sector [] (write_open K p h s c x) p o (reply_of acked r) q u
    write-ends e r q u d m =
        inr (
          le-ltb K.m (lost_in K p h s) d.0,
          inr (
            d.2 c (K.add (row_of K p h s c) x) x,
            same_ends acked (appending K p h (written K p h s c x)) (tt {0}) (Some (grown K p h (written K p h s c x))) o p q r u m,
          ),
        )
