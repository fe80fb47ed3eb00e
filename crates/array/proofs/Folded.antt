-- How a fold ends by the rules.
use Rattle.std.proofs.Common.{◌≡◌, ℕ, zero, suc, ◌+◌, ◌-◌, ◌<◌, Bool, true, cond, ltb, List, [], ◌∷◌, map, Some, Ok, Option, Result, sym, refl, ap, ◌∙◌, subst, inr, arith}
use Rattle.std.proofs.lemmas.Bool.{cond-true, lt-ltb, le-ltb}
use Rattle.std.specs.List.{range_with_len}
use Rattle.backplane.specs.Plane.{Sector, Store, to_cell}
use Rattle.backplane.specs.Meaning.{Bytes}
use Rattle.layout.specs.declared.head.Head.TheVariants.{OfParity}
use Rattle.layout.specs.declared.header.Header.{Header}
use Rattle.layout.specs.Head.{head_bytes}
use Rattle.layout.specs.Header.{header_bytes, with_used}
use Rattle.model.specs.Coding.{Coding, width, check_rows}
use Rattle.model.specs.Log.{pending, owing}
use Rattle.model.specs.Rules.{shape_of, to_cells, to_checks, is_good, log_of, lost_in, row_of, grown, append, folded, fold_open}
use Rattle.model.specs.Verdict.{of_number, nothing, make, Ends}
use Rattle.rows.specs.Columns.{column_in}
use Rattle.rows.specs.Rows.{HoldsRow}
use Rattle.faults.specs.declared.fault.ArrayFault.{ArrayFault}
use Rattle.array.specs.Calls.{reply_of, Made, Same}
use Rattle.array.proofs.Endings.{same_ends}
use Rattle.array.specs.Records.{appending}
use Rattle.array.specs.Folds.{FoldJudged}
use Rattle.array.specs.Parity.{row_cells, parity_stores}
use Rattle.array.specs.Starts.{to_good_checks}
use Rattle.array.proofs.Finishing.{checks-are}

positive : (x : ℕ) → (x ≡ 0 → ⊥) → 0 < x
positive zero f = absurd (f refl)
positive (suc x) f = omega arith

module _ (K : Coding (List ℕ)) (p : Bytes) (h : Header) (s : ℕ) where
  -- the check blocks of the row, by check row
  abbrev check_of : ℕ → List ℕ
  check_of r = row_of K p h s (K.k + r)

  abbrev checks : ℕ → List ℕ
  checks = check_rows K check_of

  module _ (row : List ℕ) (holds : HoldsRow K p h s row) where
    check-is : (r : ℕ) → r < K.m → column_in row (K.k + r) ≡ checks r
    check-is r l = holds (K.k + r) (omega arith) ∙ sym (cond-true (ltb r K.m) (check_of r) K.nil (lt-ltb r K.m l))

    cells_are : (i m r : ℕ) → r + m ≡ K.m → row_cells K.k row i m r ≡ to_cells (i + r) (map checks (range_with_len r m))
    cells_are i zero r e = refl
    cells_are i (suc m) r e =
        let at : i + (r + 1) ≡ suc (i + r) = omega arith in
        let here : column_in row (K.k + r) ≡ checks r = check-is r (omega arith) in
        let there : row_cells K.k row i m (r + 1) ≡ to_cells (suc (i + r)) (map checks (range_with_len (r + 1) m)) =
        cells_are i m (r + 1) (omega arith) ∙ ap (λ (j : ℕ). to_cells j (map checks (range_with_len (r + 1) m))) at in
        λ t. to_cell (i + r) (here t) ∷ there t

    -- the phases over the bytes at hand are those of the rules
    pub parity-phases : ((x : List ℕ) → K.pack x ≡ x) → (n k : ℕ) → n ≡ width K → k ≡ K.k → n - k ≡ K.m
        → (head cell : List ℕ) (then : Header) (v : ℕ) (r : Result ℕ ArrayFault) (q : Bytes) (u : Option Header)
        → head ≡ head_bytes (OfParity s) → then ≡ with_used h (h.used + (1 + (n - k))) → cell ≡ header_bytes (shape_of K p) then
        → Made (parity_stores n k (n - k) p.live h s head row cell) Same v (Some then) p r q u
        → Made (appending K p h (folded K p h s)) Same v (Some (grown K p h (folded K p h s))) p r q u
    parity-phases whole n k en ek em head cell then v r q u eh et ec made =
        let et' : then ≡ with_used h (h.used + (1 + K.m)) = et ∙ ap (λ (j : ℕ). with_used h (h.used + (1 + j))) em in
        let eh' : head ≡ K.pack (head_bytes (OfParity s)) = eh ∙ sym (whole (head_bytes (OfParity s))) in
        let ec' : cell ≡ K.pack (header_bytes (shape_of K p) (with_used h (h.used + (1 + K.m)))) =
        ec ∙ ap (header_bytes (shape_of K p)) et' ∙ sym (whole (header_bytes (shape_of K p) (with_used h (h.used + (1 + K.m))))) in
        let a1 : h.used + 1 ≡ suc h.used = omega arith in
        let a2 : h.used + 2 + 0 ≡ suc (suc h.used) = omega arith in
        let cells : row_cells K.k row (h.used + 2) K.m 0 ≡ to_cells (suc (suc h.used)) (map checks (range_with_len 0 K.m)) =
        cells_are (h.used + 2) K.m 0 (omega arith) ∙ ap (λ (j : ℕ). to_cells j (map checks (range_with_len 0 K.m))) a2 in
        let blocks : to_good_checks (width K) K.k p.live h s (λ j. column_in row (K.k + j)) K.m 0 ≡ to_checks K (is_good K p h s) s checks K.m 0 =
        sym (checks-are K p h s check_of (λ j. column_in row (K.k + j)) K.m 0 (omega arith) (λ j l. sym (holds (K.k + j) (omega arith)))) in
        let sizes : parity_stores n k (n - k) p.live h s head row cell ≡ parity_stores (width K) K.k K.m p.live h s head row cell =
        λ i. parity_stores (en i) (ek i) (em i) p.live h s head row cell in
        let same : parity_stores (width K) K.k K.m p.live h s head row cell ≡ appending K p h (folded K p h s) =
        λ i. (to_cell (a1 i) (eh' i) ∷ cells i) ∷ ((to_cell 0 (ec' i) ∷ []) ∷ (blocks i ∷ [])) in
        subst (λ (x : List (List (Store (List ℕ)))). Made x Same v (Some (with_used h (h.used + (1 + K.m)))) p r q u) (sizes ∙ same)
        (subst (λ (x : Header). Made (parity_stores n k (n - k) p.live h s head row cell) Same v (Some x) p r q u) et' made)

  pub fold-ends : (o : Option Header) (x : ℕ) (r : Result ℕ ArrayFault) (q : Bytes) (u : Option Header) → FoldJudged K p h s (Ok x) → (x ≡ 0 → ⊥)
      → Made (appending K p h (folded K p h s)) Same x (Some (grown K p h (folded K p h s))) p r q u
      → Ends Sector [] (fold_open K p h s) p o (reply_of of_number r) q u
  fold-ends o x r q u d some made =
      let log = log_of K p h in
      let G : Header = grown K p h (folded K p h s) in
      let count : x ≡ pending K s log = d.0 in
      let pos : 0 < pending K s log = subst (λ (y : ℕ). 0 < y) count (positive x some) in
      let owed : owing K log s ≡ true = lt-ltb 0 (pending K s log) pos in
      inr (
        d.1,
        inr (
          le-ltb K.m (lost_in K p h s) d.2,
          subst (λ (b : Bool). Ends Sector [] (make (cond b (append K p h (folded K p h s)) []) nothing (of_number (pending K s log)) (Some (cond b G h))) p o (reply_of of_number r) q u) (sym owed)
              (subst (λ (y : ℕ). Ends Sector [] (make (append K p h (folded K p h s)) nothing (of_number y) (Some G)) p o (reply_of of_number r) q u) count
              (same_ends of_number (appending K p h (folded K p h s)) x (Some G) o p q r u made)),
        ),
      )
