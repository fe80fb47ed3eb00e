-- Finishing the newest record.
use Rattle.std.proofs.Common.{◌≡◌, ℕ, zero, suc, ◌+◌, ◌<◌, Bool, true, false, cond, not, ◌&&◌, eqb, ltb, List, [], ◌∷◌, sym, refl, ◌∙◌, arith}
use Rattle.std.proofs.lemmas.Bool.{eq-eqb}
use Rattle.std.proofs.lemmas.Bool.Decides.{nat_tests}
use Rattle.model.specs.Coding.{Coding}
use Rattle.model.specs.Log.{Rec, write, parity}
use Rattle.model.proofs.Lawful.{Lawful}
use Rattle.model.proofs.State.{upd2, State, slot, Out, all_done, torn, Op, put, stored, Always, is_good, want, Holds, in_head, HeadRight, LogFits}
use Rattle.model.proofs.Sums.{unit-r}
use Rattle.model.proofs.Rows.{want-data, want-row}
use Rattle.model.proofs.Places.{put-exempt, put_right, apart}

abbrev pub none : ℕ → ℕ → Bool
none s c = false

abbrev pub with_blocks : {B : Type 0} → State B → (ℕ → ℕ → B) → State B
with_blocks p x = record { live = p.live; good = p.good; log = p.log; blk = x }

here : (s c : ℕ) → (eqb s s && eqb c c) ≡ true
here s c = rw (eq-eqb s s refl, eq-eqb c c refl)

module _ {B : Type 0} where
  pub put_if : (u : Bool) (d i : ℕ) (y : B) (ops : List (Op B)) (p : State B) (Q : Out → State B → Type 0)
      → (u ≡ true → Always ops (stored p d i y) Q × ((z : B) → Q (torn d i) (stored p d i z))) → (u ≡ false → Always ops p Q)
      → Always (cond u (put d i y ∷ ops) ops) p Q
  put_if true d i y ops p Q a b = a refl
  put_if false d i y ops p Q a b = b refl

module _ {B : Type 0} (K : Coding B) where
  -- the good check blocks of stripe s, rows r and up
  abbrev pub checks_from : (ℕ → Bool) → ℕ → (ℕ → B) → ℕ → ℕ → List (Op B)
  checks_from g s f zero r = []
  checks_from g s f (suc n) r =
      cond (g (K.k + r)) (put (slot K s (K.k + r)) s (f r) ∷ checks_from g s f n (suc r)) (checks_from g s f n (suc r))

  -- the block stores that finish the newest record, where the column is good
  abbrev pub finish : (ℕ → ℕ → Bool) → List (Rec B) → List (Op B)
  finish g [] = []
  finish g (write s c x y ∷ l) = cond (g s c) (put (slot K s c) s y ∷ []) []
  finish g (parity s f ∷ l) = checks_from (g s) s f K.m 0

module _ {B : Type 0} (K : Coding B) (L : Lawful K) (S : ℕ) where
  -- check rows from r on
  abbrev rows_from : ℕ → ℕ → ℕ → ℕ → Bool
  rows_from t r s c = eqb s t && not (ltb c (K.k + r))

  rows-less : (t r s c : ℕ) → rows_from t (suc r) s c ≡ false → (eqb s t && eqb c (K.k + r)) ≡ false → rows_from t r s c ≡ false
  rows-less t r s c h k = grind (arith, nat_tests)

  rows_head : (t r s c : ℕ) → (eqb s t && not (ltb c K.k)) ≡ false → rows_from t r s c ≡ false
  rows_head t r s c h = grind (arith, nat_tests)

  module _ (t : ℕ) (f : ℕ → B) (l : List (Rec B)) (dat : ℕ → ℕ → B) (head : (r : ℕ) → r < K.m → f r ≡ K.check r (dat t))
      (Q : Out → State B → Type 0) where
    want-check : (r : ℕ) → r < K.m → f r ≡ want K (parity t f ∷ l) dat t (K.k + r)
    want-check r h = head r h ∙ sym (want-row K L (parity t f ∷ l) dat t r ∙ rw (eq-eqb t t refl) (unit-r K L (K.check r (dat t))))

    checks-always : (n r : ℕ) → r + n ≡ K.m → (p : State B)
        → Holds K S (rows_from t r) (is_good K p) (parity t f ∷ l) p.blk dat
        → ((x : ℕ → ℕ → B) → Holds K S none (is_good K p) (parity t f ∷ l) x dat → Q all_done (with_blocks p x))
        → ((d i : ℕ) (x : ℕ → ℕ → B) → Holds K S (in_head K (parity t f ∷ l)) (is_good K p) (parity t f ∷ l) x dat → Q (torn d i) (with_blocks p x))
        → Always (checks_from K (is_good K p t) t f n r) p Q
    checks-always zero r e p ok all cut = all p.blk (λ s c hs hc g _. ok s c hs hc g (grind (arith, nat_tests)))
    checks-always (suc n) r e p ok all cut =
        put_if (is_good K p t (K.k + r)) (slot K t (K.k + r)) t (f r) (checks_from K (is_good K p t) t f n (suc r)) p Q
        (λ u. (
          checks-always n (suc r) (omega arith) (stored p (slot K t (K.k + r)) t (f r))
              (put_right K S (rows_from t r) (rows_from t (suc r)) (is_good K p) (parity t f ∷ l) p.blk dat t (K.k + r) (f r) (omega arith)
              (want-check r (omega arith)) (rows-less t r) ok)
              all cut,
          λ z. cut (slot K t (K.k + r)) t (upd2 p.blk (slot K t (K.k + r)) t z)
              (put-exempt K S (in_head K (parity t f ∷ l)) (is_good K p) (parity t f ∷ l) p.blk dat t (K.k + r) z (omega arith) (grind (arith, nat_tests))
              (λ s c hs hc g h. ok s c hs hc g (rows_head t r s c h))),
        ))
        (λ u. checks-always n (suc r) (omega arith) p
        (λ s c hs hc g h. ok s c hs hc g (rows-less t r s c h (apart (is_good K p) t (K.k + r) s c g u)))
        all cut)

  -- the newest record is finished, or the power is cut and its blocks are still exempt
  pub finish-always : (l : List (Rec B)) (dat : ℕ → ℕ → B) (Q : Out → State B → Type 0) (p : State B)
      → HeadRight K l dat → LogFits K S l
      → Holds K S (in_head K l) (is_good K p) l p.blk dat
      → ((x : ℕ → ℕ → B) → Holds K S none (is_good K p) l x dat → Q all_done (with_blocks p x))
      → ((d i : ℕ) (x : ℕ → ℕ → B) → Holds K S (in_head K l) (is_good K p) l x dat → Q (torn d i) (with_blocks p x))
      → Always (finish K (is_good K p) l) p Q
  finish-always [] dat Q p head fits ok all cut = all p.blk ok
  finish-always (parity t f ∷ l) dat Q p head fits ok all cut =
      checks-always t f l dat head Q K.m 0 (omega arith) p (λ s c hs hc g h. ok s c hs hc g (grind (arith, nat_tests))) all cut
  finish-always (write t e x y ∷ l) dat Q p head fits ok all cut =
      put_if (is_good K p t e) (slot K t e) t y [] p Q
      (λ u. (
        all (upd2 p.blk (slot K t e) t y)
            (put_right K S (in_head K (write t e x y ∷ l)) none (is_good K p) (write t e x y ∷ l) p.blk dat t e y (omega arith)
            (sym (want-data K L (write t e x y ∷ l) dat t e fits.0.1 ∙ head)) (λ s c _ h. h) ok),
        λ z. cut (slot K t e) t (upd2 p.blk (slot K t e) t z)
            (put-exempt K S (in_head K (write t e x y ∷ l)) (is_good K p) (write t e x y ∷ l) p.blk dat t e z (omega arith) (here t e) ok),
      ))
      (λ u. all p.blk (λ s c hs hc g _. ok s c hs hc g (apart (is_good K p) t e s c g u)))
