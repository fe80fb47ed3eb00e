-- What the rules say of bytes is the bytes of what they say of blocks.
use Rattle.std.proofs.Common.{◌≡◌, ℕ, ◌+◌, ◌-◌, ◌<◌, ◌≤◌, Bool, true, false, cond, eqb, ltb, List, [], ◌∷◌, map, get_or, sym, refl, ap, ◌∙◌, ap₂, arith}
use mathlib.Core.Path.{fun_ext}
use Rattle.std.specs.List.{range_with_len}
use Rattle.layout.specs.Bytes.{sum_of}
use Rattle.layout.specs.Stripes.{slot_of}
use Rattle.layout.specs.Counts.{count}
use Rattle.model.specs.Coding.{Coding, share, only, byte_coding, zeros, check_bytes, solve_bytes}
use Rattle.model.proofs.Laws.{CodeLaws}
use Rattle.model.specs.Log.{Rec, write, parity, cells_of, pending, owing, owed, debt}
use Rattle.model.specs.Row.{settled_with, raw, row}
use Rattle.model.proofs.Counts.{count_same}
use Rattle.model.proofs.State.{used, LogFits}
use Rattle.model.proofs.Block.{Block, none}
use Rattle.model.proofs.Lift.{block_coding, solve-bytes, map_same}

abbrev pub rec_bytes : Rec Block → Rec (List ℕ)
rec_bytes (write s c x y) = write s c x.0 y.0
rec_bytes (parity s f) = parity s (λ r. (f r).0)

abbrev pub log_bytes : List (Rec Block) → List (Rec (List ℕ))
log_bytes [] = []
log_bytes (r ∷ l) = rec_bytes r ∷ log_bytes l

pub cond-bytes : (b : Bool) (x y : Block) → (cond b x y).0 ≡ cond b x.0 y.0
cond-bytes true x y = refl
cond-bytes false x y = refl

module _ (number rows : ℕ) (check : ℕ → List ℕ → ℕ) (solved : ℕ → List ℕ → List Bool → List ℕ) (W : CodeLaws number rows check solved)
    (k : ℕ) (h2 : 2 ≤ k) (h12 : k ≤ 12) where
  abbrev pub KB : Coding Block
  KB = block_coding number rows check solved W k h2 h12

  abbrev pub Kb : Coding (List ℕ)
  Kb = byte_coding k number rows check solved

  pub cells_same : (r : Rec Block) → cells_of Kb (rec_bytes r) ≡ cells_of KB r
  cells_same (write s c x y) = refl
  cells_same (parity s f) = refl

  pub used-same : (l : List (Rec Block)) → used Kb (log_bytes l) ≡ used KB l
  used-same [] = refl
  used-same (r ∷ l) = ap₂ (λ (a b : ℕ). a + b) (cells_same r) (used-same l)

  pub pending-same : (s : ℕ) (l : List (Rec Block)) → pending Kb s (log_bytes l) ≡ pending KB s l
  pending-same s [] = refl
  pending-same s (write t c x y ∷ l) = ap (λ z. cond (eqb s t) 1 0 + z) (pending-same s l)
  pending-same s (parity t f ∷ l) = ap (λ z. cond (eqb s t) 0 z) (pending-same s l)

  pub owing-same : (l : List (Rec Block)) (s : ℕ) → owing Kb (log_bytes l) s ≡ owing KB l s
  owing-same l s = ap (ltb 0) (pending-same s l)

  pub owed_same : (S : ℕ) (l : List (Rec Block)) → owed Kb S (log_bytes l) ≡ owed KB S l
  owed_same S l = count_same S (owing Kb (log_bytes l)) (owing KB l) (λ s _. owing-same l s)

  only_same : (j : ℕ) (x : Block) (i : ℕ) → only Kb j x.0 i ≡ (only KB j x i).0
  only_same j x i = sym (cond-bytes (eqb i j) x none)

  share-same : (r j : ℕ) (x : Block) → share Kb r j x.0 ≡ (share KB r j x).0
  share-same r j x = ap (check_bytes check k r) (fun_ext (only_same j x))

  pub debt-same : (r s : ℕ) (l : List (Rec Block)) → debt Kb r s (log_bytes l) ≡ (debt KB r s l).0
  debt-same r s [] = refl
  debt-same r s (write t c x y ∷ l) =
      ap₂ (λ (u v : List ℕ). cond (eqb s t) u v) (ap₂ sum_of (share-same r c x) (debt-same r s l)) (debt-same r s l)
      ∙ sym (cond-bytes (eqb s t) (KB.add (share KB r c x) (debt KB r s l)) (debt KB r s l))
  debt-same r s (parity t f ∷ l) = ap (λ (v : List ℕ). cond (eqb s t) zeros v) (debt-same r s l) ∙ sym (cond-bytes (eqb s t) none (debt KB r s l))

  pub settled_same : (l : List (Rec Block)) (s c : ℕ) (x : Block) → settled_with Kb (log_bytes l) s c x.0 ≡ (settled_with KB l s c x).0
  settled_same l s c x = ap (λ (v : List ℕ). cond (ltb c k) x.0 (sum_of x.0 v)) (debt-same (c - k) s l) ∙ sym (cond-bytes (ltb c k) x (KB.add x (debt KB (c - k) s l)))

  pub fits-same : (S : ℕ) (l : List (Rec Block)) → LogFits KB S l → LogFits Kb S (log_bytes l)
  fits-same S [] h = tt
  fits-same S (write s c x y ∷ l) h = (h.0, fits-same S l h.1)
  fits-same S (parity s f ∷ l) h =
      ((h.0.0, fun_ext (λ r. ap (λ (g : ℕ → Block). (g r).0) h.0.1 ∙ cond-bytes (ltb r rows) (f r) none)), fits-same S l h.1)

  -- solving looks at the columns alone
  solve-same : (lost : ℕ → Bool) (f g : ℕ → List ℕ) (c : ℕ) → ((j : ℕ) → j < k + rows → f j ≡ g j) → solve_bytes solved k (k + rows) lost f c ≡ solve_bytes solved k (k + rows) lost g c
  unfolding solve_bytes
  solve-same lost f g c h =
      ap (λ (z : ℕ → List ℕ). map (λ i. get_or (solved k (z i) (map lost (range_with_len 0 (k + rows)))) c 0) (range_with_len 0 512))
      (fun_ext (λ i. map_same (λ j. get_or (f j) i 0) (λ j. get_or (g j) i 0) 0 (k + rows) (λ j hj. ap (λ (z : List ℕ). get_or z i 0) (h j (omega arith)))))

  raw_same : (lost : ℕ → ℕ → Bool) (l : List (Rec Block)) (x : ℕ → ℕ → List ℕ) (y : ℕ → ℕ → Block) (s c : ℕ)
      → (lost s c ≡ false → x (slot_of (k + rows) s c) s ≡ (y (slot_of (k + rows) s c) s).0)
      → raw Kb lost (log_bytes l) x s c ≡ (raw KB lost l y s c).0
  raw_same lost l x y s c h = go (lost s c) h
    where
      go : (t : Bool) → (t ≡ false → x (slot_of (k + rows) s c) s ≡ (y (slot_of (k + rows) s c) s).0)
          → cond t zeros (settled_with Kb (log_bytes l) s c (x (slot_of (k + rows) s c) s)) ≡ (cond t none (settled_with KB l s c (y (slot_of (k + rows) s c) s))).0
      go true e = refl
      go false e = ap (settled_with Kb (log_bytes l) s c) (e refl) ∙ settled_same l s c (y (slot_of (k + rows) s c) s)

  pub row_same : (lost : ℕ → ℕ → Bool) (l : List (Rec Block)) (x : ℕ → ℕ → List ℕ) (y : ℕ → ℕ → Block) (s c : ℕ)
      → count (k + rows) (lost s) ≤ rows
      → ((c : ℕ) → c < k + rows → lost s c ≡ false → x (slot_of (k + rows) s c) s ≡ (y (slot_of (k + rows) s c) s).0)
      → row Kb lost (log_bytes l) x s c ≡ (row KB lost l y s c).0
  row_same lost l x y s c few h =
      solve-same (lost s) (raw Kb lost (log_bytes l) x s) (λ j. (raw KB lost l y s j).0) c (λ j hj. raw_same lost l x y s j (h j hj))
      ∙ sym (solve-bytes number rows check solved W k h2 h12 (lost s) (raw KB lost l y s) c few)
