-- How a read ends by the rules.
use Rattle.std.proofs.Common.{◌≡◌, ℕ, List, [], IfErr, Some, Ok, Err, Option, Result, sym, refl, ap, ◌∙◌, subst, inl, inr}
use Rattle.std.proofs.lemmas.Bool.{lt-ltb, le-ltb, and_from, and_left, and_right, not_from_true, not_from_false, cond-true, cond-false}
use Rattle.backplane.specs.Plane.{Sector}
use Rattle.backplane.specs.Meaning.{Bytes}
use Rattle.layout.specs.declared.header.Header.{Header}
use Rattle.layout.specs.Stripes.{slot_of}
use Rattle.model.specs.Coding.{Coding, width}
use Rattle.model.specs.Rules.{is_good, is_lost, past_repair, lost_in, row_of, read_open}
use Rattle.model.specs.Verdict.{of_block, answered, refused, Ends}
use Rattle.faults.specs.declared.fault.ArrayFault.{ArrayFault}
use Rattle.faults.specs.Refusals.{array_refusal}
use Rattle.array.specs.Calls.{reply_of}
use Rattle.array.specs.Reads.{ColumnRead}

module _ (K : Coding (List ℕ)) (p : Bytes) (h : Header) (s c : ℕ) (given bytes : List ℕ) (o : Option Header) (held : o ≡ Some h) where
  here-ends : (r : Result (Unit {0}) ArrayFault) → ColumnRead K p h s c given r bytes
      → Ends Sector [] (read_open K p h s c) p o (reply_of (λ _. of_block bytes) r) p o
  here-ends (Err f) d =
      inl (
        and_from (is_lost K p h s c) (past_repair K p h s) (not_from_false (is_good K p h s c) d.0) (lt-ltb K.m (lost_in K p h s) d.1),
        ap (λ (x : ArrayFault). refused (array_refusal x)) d.2,
        refl,
        refl,
      )
  here-ends (Ok _) (inl d) =
      inr (
        and_left (is_lost K p h s c) (past_repair K p h s) (not_from_true (is_good K p h s c) d.0),
        inl (ap (λ (x : List ℕ). answered (of_block x)) (d.1 ∙ sym (cond-true (is_good K p h s c) (p.block (slot_of (width K) s c) s) (row_of K p h s c) d.0)), refl, held),
      )
  here-ends (Ok _) (inr d) =
      inr (
        and_right (is_lost K p h s c) (past_repair K p h s) (le-ltb K.m (lost_in K p h s) d.1),
        inl (ap (λ (x : List ℕ). answered (of_block x)) (d.2 ∙ sym (cond-false (is_good K p h s c) (p.block (slot_of (width K) s c) s) (row_of K p h s c) d.0)), refl, held),
      )

  -- a column read from a backplane and a header that are left as they were
  pub column-ends : (q : Bytes) (u : Option Header) (r : Result (Unit {0}) ArrayFault) → q ≡ p → u ≡ o → ColumnRead K p h s c given r bytes
      → Ends Sector [] (read_open K p h s c) p o (reply_of (λ _. of_block bytes) r) q u
  column-ends q u r e f d =
      subst (λ (x : Bytes). Ends Sector [] (read_open K p h s c) p o (reply_of (λ _. of_block bytes) r) x u) (sym e)
      (subst (λ (x : Option Header). Ends Sector [] (read_open K p h s c) p o (reply_of (λ _. of_block bytes) r) p x) (sym f) (here-ends r d))

-- the bytes given stay as they are where it is refused
pub column-kept : (K : Coding (List ℕ)) (p : Bytes) (h : Header) (s c : ℕ) (given bytes : List ℕ) (r : Result (Unit {0}) ArrayFault)
    → ColumnRead K p h s c given r bytes → IfErr r (λ _. bytes ≡ given)
column-kept K p h s c given bytes (Ok _) d = tt
column-kept K p h s c given bytes (Err f) d = d.3
