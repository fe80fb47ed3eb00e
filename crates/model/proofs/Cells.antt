-- Cells that hold a log are walked to that log.
use Rattle.std.proofs.Common.{◌≡◌, ℕ, zero, suc, ◌+◌, ◌-◌, ◌<◌, ◌≤◌, Bool, true, false, cond, ltb, leb, ◌⊎◌, List, [], ◌∷◌, map, length, Some, None, sym, refl, ap, ◌∙◌, inl, inr, add-zero, zero-add, add-one, arith}
use mathlib.Core.Path.{fun_ext}
use native.Mathlib.Numerals.{add-two}
use Rattle.std.specs.List.{range_with_len}
use Rattle.std.proofs.lemmas.List.FromFn.{length-map-range_with_len}
use Rattle.std.proofs.lemmas.Bool.{ne_eqb, lt-ltb, le-ltb, le-leb, ltb-true}
use Rattle.backplane.specs.Plane.{Plane, with_cell}
use Rattle.layout.specs.declared.head.Head.TheVariants.{OfWrite, OfParity}
use Rattle.layout.specs.Head.{head_in, record_cells}
use Rattle.layout.proofs.Heads.{write-back, parity-back}
use Rattle.model.specs.Coding.{Coding, byte_coding, zeros}
use Rattle.model.specs.Log.{Rec, write, parity, or_else, cells_of, cells_for, record_from, record_at, walk_from, walk}
use Rattle.model.proofs.State.{used, RecFits, LogFits}

-- the cells from i on are these
abbrev pub CellsAt : (ℕ → List ℕ) → ℕ → List (List ℕ) → Type 0
CellsAt cell i [] = Unit {0}
CellsAt cell i (x ∷ xs) = (cell i ≡ x) × CellsAt cell (suc i) xs

-- a store elsewhere
cells-keep : (cell : ℕ → List ℕ) (j : ℕ) (y : List ℕ) (i : ℕ) (xs : List (List ℕ)) → (j < i) ⊎ (i + length xs ≤ j) → CellsAt cell i xs → CellsAt (with_cell j y cell) i xs
cells-keep cell j y i [] h e = tt
cells-keep cell j y i (x ∷ xs) h e = (rw (ne_eqb i j (off-place h)) e.0, cells-keep cell j y (suc i) xs (next h) e.1)
  where
    off-place : (j < i) ⊎ (i + suc (length xs) ≤ j) → i ≡ j → ⊥
    off-place (inl h) e = omega arith
    off-place (inr h) e = omega arith

    next : (j < i) ⊎ (i + suc (length xs) ≤ j) → (j < suc i) ⊎ (suc i + length xs ≤ j)
    next (inl h) = inl (omega arith)
    next (inr h) = inr (omega arith)

module _ (K : Coding (List ℕ)) where
  -- the cells from 1 on hold the log
  abbrev pub Encoded : (ℕ → List ℕ) → List (Rec (List ℕ)) → Type 0
  Encoded cell [] = Unit {0}
  Encoded cell (r ∷ l) = CellsAt cell (suc (used K l)) (cells_for K r) × Encoded cell l

  pub length-cells : (r : Rec (List ℕ)) → length (cells_for K r) ≡ cells_of K r
  length-cells (write s c x y) = refl
  length-cells (parity s f) = rw (length-map-range_with_len f 0 K.m) (omega arith)

  pub keep : (cell : ℕ → List ℕ) (j : ℕ) (y : List ℕ) (l : List (Rec (List ℕ))) → (j ≡ 0) ⊎ (used K l < j) → Encoded cell l → Encoded (with_cell j y cell) l
  keep cell j y [] h e = tt
  keep cell j y (r ∷ l) h e = (cells-keep cell j y (suc (used K l)) (cells_for K r) (place h) e.0, keep cell j y l (rest h) e.1)
    where
      place : (j ≡ 0) ⊎ (cells_of K r + used K l < j) → (j < suc (used K l)) ⊎ (suc (used K l) + length (cells_for K r) ≤ j)
      place (inl h) = inl (omega arith)
      place (inr h) = inr (omega (arith, length-cells r))

      rest : (j ≡ 0) ⊎ (cells_of K r + used K l < j) → (j ≡ 0) ⊎ (used K l < j)
      rest (inl h) = inl h
      rest (inr h) = inr (omega arith)

module _ (k number rows : ℕ) (check : ℕ → List ℕ → ℕ) (solved : ℕ → List ℕ → List Bool → List ℕ) where
  abbrev K : Coding (List ℕ)
  K = byte_coding k number rows check solved

  rows_at : (cell : ℕ → List ℕ) (f : ℕ → List ℕ) (j n r : ℕ) → CellsAt cell j (map f (range_with_len r n)) → (q : ℕ) → q < n → cell (j + q) ≡ f (r + q)
  rows_at cell f j zero r e q h = absurd (omega arith)
  rows_at cell f j (suc n) r e zero h = rw (add-zero, add-zero) e.0
  rows_at cell f j (suc n) r e (suc q) h = ap cell e₁ ∙ (rows_at cell f (suc j) n (r + 1) e.1 q (omega arith) ∙ ap f e₂)
    where
      e₁ : j + suc q ≡ suc j + q
      e₁ = omega arith

      e₂ : r + 1 + q ≡ r + suc q
      e₂ = omega arith

  module _ (p : Plane (List ℕ)) (small : p.blocks < 4294967296) where
    record_is : (r : Rec (List ℕ)) (u i : ℕ) → CellsAt p.cell i (cells_for K r) → RecFits K p.blocks r → i + cells_of K r ≤ u + 1 → record_at K p u i ≡ Some r
    record_is (write s c x y) u i e f h =
        ap (λ z. or_else (head_in k p.blocks z) None (λ h. cond (leb (i + record_cells rows h) (u + 1)) (Some (record_from K p i h)) None)) e.0
        ∙ (ap (λ z. or_else z None (λ h. cond (leb (i + record_cells rows h) (u + 1)) (Some (record_from K p i h)) None))
        (write-back k p.blocks s c (omega (arith, f.0)) (lt-ltb s p.blocks f.0) (lt-ltb c k f.1))
        ∙ (ap (λ t. cond t (Some (record_from K p i (OfWrite s c))) None) (le-leb (i + 3) (u + 1) h)
        ∙ (let x' : p.cell (i + 1) ≡ x = rw add-one e.1.0 in let y' : p.cell (i + 2) ≡ y = rw add-two e.1.1.0 in rw (x', y'))))
    record_is (parity s f) u i e g h =
        ap (λ z. or_else (head_in k p.blocks z) None (λ h. cond (leb (i + record_cells rows h) (u + 1)) (Some (record_from K p i h)) None)) e.0
        ∙ (ap (λ z. or_else z None (λ h. cond (leb (i + record_cells rows h) (u + 1)) (Some (record_from K p i h)) None))
        (parity-back k p.blocks s (omega (arith, g.0)) (lt-ltb s p.blocks g.0))
        ∙ (ap (λ t. cond t (Some (record_from K p i (OfParity s))) None) (le-leb (i + (1 + rows)) (u + 1) h)
        ∙ ap (λ z. Some (parity s z)) (fun_ext (λ r. go r (ltb r rows) refl ∙ sym (ap (λ (z : ℕ → List ℕ). z r) g.1)))))
      where
        go : (r : ℕ) (t : Bool) → ltb r rows ≡ t → cond t (p.cell (i + (1 + r))) zeros ≡ cond t (f r) zeros
        go r false h = refl
        go r true h =
            let z : i + (1 + r) ≡ suc i + r = omega arith in
            ap p.cell z ∙ (rows_at p.cell f (suc i) rows 0 e.1 r (ltb-true r rows h) ∙ ap f (zero-add r))

    -- the walk comes to the end of the log's records
    walk-log : (l : List (Rec (List ℕ))) (n u : ℕ) → Encoded K p.cell l → LogFits K p.blocks l → used K l ≤ u
        → walk_from K (n + length l) p u 1 [] ≡ walk_from K n p u (suc (used K l)) l
    walk-log [] n u e fits h = rw add-zero
    walk-log (r ∷ l) n u e fits h =
        ap (λ z. walk_from K z p u 1 []) regroup ∙ (walk-log l (suc n) u e.1 fits.1 (omega arith)
        ∙ (ap (λ t. cond t (record { log = l; damage = None }) (or_else (record_at K p u (suc (used K l))) (record { log = l; damage = Some (suc (used K l)) }) (λ r. walk_from K n p u (suc (used K l) + cells_of K r) (r ∷ l))))
        (le-ltb u (suc (used K l)) (room r h))
        ∙ (ap (λ z. or_else z (record { log = l; damage = Some (suc (used K l)) }) (λ r. walk_from K n p u (suc (used K l) + cells_of K r) (r ∷ l))) (record_is r u (suc (used K l)) e.0 fits.0 (omega arith))
        ∙ ap (λ z. walk_from K n p u z (r ∷ l)) (let z : suc (used K l) + cells_of K r ≡ suc (cells_of K r + used K l) = omega arith in z))))
      where
        regroup : n + suc (length l) ≡ suc n + length l
        regroup = omega arith

        room : (r : Rec (List ℕ)) → cells_of K r + used K l ≤ u → suc (used K l) ≤ u
        room (write s c x y) h = omega arith
        room (parity s f) h = omega arith

    short : (l : List (Rec (List ℕ))) → length l ≤ used K l
    short [] = omega arith
    short (write s c x y ∷ l) = let z = short l in omega arith
    short (parity s f ∷ l) = let z = short l in omega arith

    over : (n u i : ℕ) (l : List (Rec (List ℕ))) → u < i → walk_from K n p u i l ≡ record { log = l; damage = None }
    over zero u i l h = refl
    over (suc n) u i l h = rw (lt-ltb u i h)

    pub walk_is : (l : List (Rec (List ℕ))) (u : ℕ) → Encoded K p.cell l → LogFits K p.blocks l → u ≡ used K l → walk K p u ≡ record { log = l; damage = None }
    walk_is l u e fits h =
        ap (λ z. walk_from K z p u 1 []) split ∙ (walk-log l (u - length l) u e fits (omega arith) ∙ over (u - length l) u (suc (used K l)) l (omega arith))
      where
        split : u ≡ u - length l + length l
        split = let z = short l in omega arith
