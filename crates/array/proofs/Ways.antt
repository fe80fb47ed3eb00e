-- How a rebuild of a stripe ends by the rules.
use Rattle.std.proofs.Common.{ℕ, ◌+◌, ◌≤◌, not, List, [], ◌∷◌, Some, Ok, Option, Result, ap, ◌∙◌, subst, inr}
use Rattle.std.proofs.lemmas.Bool.{le-ltb, ne_eqb}
use Rattle.backplane.specs.Plane.{Sector}
use Rattle.backplane.specs.Meaning.{Bytes}
use Rattle.layout.specs.Header.{with_good}
use Rattle.layout.specs.declared.header.Header.{Header}
use Rattle.model.specs.Coding.{Coding}
use Rattle.model.specs.Rules.{good_of, lost_in, rebuild_open}
use Rattle.model.specs.Verdict.{of_number, Ends}
use Rattle.faults.specs.declared.fault.ArrayFault.{ArrayFault}
use Rattle.array.specs.Calls.{reply_of, Made, Same}
use Rattle.array.proofs.Endings.{same_ends}
use Rattle.array.specs.Repairs.{NextStripe, repairs}

module _ (K : Coding (List ℕ)) (p : Bytes) (h : Header) (d : ℕ) (o : Option Header) where
  pub stripe-ends : (s : ℕ) (q : Bytes) (r : Result ℕ ArrayFault) (u : Option Header) → NextStripe K p h d (Ok s)
      → Made (repairs K p h d s ∷ []) Same (s + 1) (Some (with_good h d (s + 1))) p r q u → Ends Sector [] (rebuild_open K p h d) p o (reply_of of_number r) q u
  stripe-ends s q r u x made =
      let g : ℕ = good_of h d in
      inr (
        ap not x.1,
        inr (
          ne_eqb g p.blocks (λ e. x.2 (x.0 ∙ e)),
          inr (
            le-ltb K.m (lost_in K p h g) (subst (λ (y : ℕ). lost_in K p h y ≤ K.m) x.0 x.3),
            same_ends of_number (repairs K p h d g ∷ []) (g + 1) (Some (with_good h d (g + 1))) o p q r u
                (subst (λ (y : ℕ). Made (repairs K p h d y ∷ []) Same (y + 1) (Some (with_good h d (y + 1))) p r q u) x.0 made),
          ),
        ),
      )
