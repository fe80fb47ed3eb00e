-- A wiped work area stays as it is.
use Rattle.std.proofs.Common.{◌≡◌, ℕ, Bool, true, false, cond, List, length, replicate, sym, refl, ap, ◌∙◌}
use Rattle.std.proofs.lemmas.List.{length-replicate}
use Rattle.model.specs.Rules.{short_work}
use Rattle.array.specs.Calls.{wiped}
use Rattle.run.specs.Calls.{area_after}
use Rattle.run.specs.declared.call.Call.{Call}
use Rattle.run.specs.declared.call.Call.TheVariants.{Read, Clear, Pull, Fit, Rebuild, Start, Write, Fold}

pub wiped-length : (w : List ℕ) → length (wiped w) ≡ length w
wiped-length w = go (short_work (length w))
  where
    go : (t : Bool) → length (cond t w (replicate (length w) 0)) ≡ length w
    go true = refl
    go false = length-replicate (length w) 0

pub wiped-twice : (w : List ℕ) → wiped (wiped w) ≡ wiped w
wiped-twice w = go (short_work (length w)) refl
  where
    go : (t : Bool) → short_work (length w) ≡ t → wiped (wiped w) ≡ wiped w
    go true e = let x : wiped w ≡ w = ap (λ b. cond b w (replicate (length w) 0)) e in ap wiped x
    go false e =
        let zero = replicate (length w) 0 in
        let x : wiped w ≡ zero = ap (λ b. cond b w (replicate (length w) 0)) e in
        let y : wiped zero ≡ zero = ap (λ n. cond (short_work n) zero (replicate n 0)) (length-replicate (length w) 0) ∙ ap (λ b. cond b zero zero) e in
        ap wiped x ∙ (y ∙ sym x)

pub area-stays : (c : Call) (first w after : List ℕ) → wiped first ≡ first → w ≡ first → after ≡ area_after c w → after ≡ first
area-stays (Read l) first w after e same h = h ∙ (ap wiped same ∙ e)
area-stays Clear first w after e same h = h ∙ (ap wiped same ∙ e)
area-stays (Pull d) first w after e same h = h ∙ same
area-stays (Fit d) first w after e same h = h ∙ (ap wiped same ∙ e)
area-stays (Rebuild d) first w after e same h = h ∙ (ap wiped same ∙ e)
area-stays Start first w after e same h = h ∙ (ap wiped same ∙ e)
area-stays (Write l x) first w after e same h = h ∙ (ap wiped same ∙ e)
area-stays (Fold s) first w after e same h = h ∙ (ap wiped same ∙ e)
