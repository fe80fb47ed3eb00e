-- Write, fold and clear keep what is true between calls.
use Rattle.std.proofs.Common.{◌≡◌, ℕ, zero, suc, ◌+◌, ◌-◌, ◌*◌, ◌/◌, ◌%◌, ◌<◌, ◌≤◌, Bool, true, false, cond, ◌&&◌, eqb, ltb, ◌⊎◌, List, [], ◌∷◌, ◌++◌, length, Some, None, sym, refl, ap, ◌∙◌, subst, ap₂, inl, inr, mod-lt, div-lt_iff_lt-mul, mul-le-mul_left, arith}
use mathlib.Core.Path.{fun_ext}
use Rattle.std.proofs.lemmas.Bool.{eqb-true, ltb-true, ltb-false, not-false, and_parts}
use Rattle.backplane.specs.Plane.{Plane, Sector, Store, to_cell}
use Rattle.layout.specs.declared.header.Header.{Header}
use Rattle.layout.specs.Limits.{within_limits}
use Rattle.layout.specs.Header.{header_bytes, with_used}
use Rattle.layout.specs.Stripes.{stripe_of, column_of}
use Rattle.layout.proofs.Counting.{count-some}
use Rattle.model.specs.Coding.{Coding, check_rows, zeros}
use Rattle.model.proofs.Laws.{CodeLaws, Low}
use Rattle.model.specs.Log.{Rec, write, parity, cells_for, owed, owing, pending}
use Rattle.model.specs.Verdict.{Reply, answered, refused, refusal, Answer, done, of_number, Verdict, make, nothing, Ends}
use Rattle.model.specs.Rules.{Call, Write, Fold, Clear, opened, if_open, to_cells, verdict, written, folded, write_open, fold_open, clear_open, lost_refusal, to_header, past_repair}
use Rattle.model.specs.Rules.{log_of as log_r, is_good as is_good_r, finish as finish_r, append as append_r, grown as grown_r}
use Rattle.model.specs.Ledger.{Ledger, counted, stopped, with_at, feed}
use Rattle.model.specs.Runs.{Device}
use Rattle.model.proofs.State.{upd, upd2, State, Op, seal, Out, Always, Book, is_good, lost_in, row_of, used, Inv}
use Rattle.model.proofs.Block.{Block, in_block, sector-from, low-from, none}
use Rattle.model.proofs.Lift.{lawful}
use Rattle.model.proofs.Bytes.{rec_bytes, log_bytes, owed_same, owing-same, cond-bytes}
use Rattle.model.proofs.Finish.{finish, checks_from}
use Rattle.model.proofs.Keeps.{array, notes, append, Ended, stopped_b, wrote_b, cleared_b, write_keeps, fold-keeps, clear-keeps}
use Rattle.model.proofs.Follow.{stores, head_after, is_other}
use Rattle.model.proofs.World.{KA, KL, sh, Same, World, same_number, refused-still, shape_is, used-is, opened-is, log_is, goods-is, missing-is, row_is, finish-stores, notes-stores, append-ready, made}

module _ (number rows : ℕ) (check : ℕ → List ℕ → ℕ) (solved : ℕ → List ℕ → List Bool → List ℕ) (W : CodeLaws number rows check solved)
    (k : ℕ) (h2 : 2 ≤ k) (h12 : k ≤ 12) (S C : ℕ) (lim : within_limits rows (sh number rows check solved W k h2 h12 S C) ≡ true) where
  abbrev pub A : Coding Block
  A = KA number rows check solved W k h2 h12 S C

  abbrev pub B : Coding (List ℕ)
  B = KL number rows check solved W k h2 h12 S C

  abbrev pub shape : Rattle.layout.specs.declared.shape.Shape.Shape
  shape = sh number rows check solved W k h2 h12 S C

  abbrev pub Wd : Device (List ℕ) → Ledger (List ℕ) → Type 0
  Wd = World number rows check solved W k h2 h12 S C

  abbrev pub Sm : Ledger (List ℕ) → Book Block → Type 0
  Sm = Same number rows check solved W k h2 h12 S C

  -- the array is not started, and 11 is answered, or it goes on with the header held
  pub open-cases : (u v : Device (List ℕ)) (l : Ledger (List ℕ)) (w : Wd u l) (f : Header → Verdict (List ℕ)) (r : Reply (List ℕ))
      → Ends Sector [] (if_open B (opened B u.plane u.held) f) u.plane u.held r v.plane v.held
      → ((w.started ≡ false) × (r ≡ refused (refusal 11 0 0)) × (v.plane ≡ u.plane) × (v.held ≡ u.held))
      ⊎ ((w.started ≡ true) × Ends Sector [] (f w.header) u.plane u.held r v.plane v.held)
  open-cases u v l w f r e = go w.started refl w.held w.on
    where
      go : (t : Bool) → w.started ≡ t → u.held ≡ cond t (Some w.header) None → (t ≡ true → u.plane.on ≡ true)
          → ((w.started ≡ false) × (r ≡ refused (refusal 11 0 0)) × (v.plane ≡ u.plane) × (v.held ≡ u.held))
          ⊎ ((w.started ≡ true) × Ends Sector [] (f w.header) u.plane u.held r v.plane v.held)
      go false a h o = let z = subst (λ x. Ends Sector [] (if_open B (opened B u.plane x) f) u.plane u.held r v.plane v.held) h e in inl (a, z.0, z.1, z.2)
      go true a h o =
          inr (
            a,
            subst (λ x. Ends Sector [] (if_open B x f) u.plane u.held r v.plane v.held)
                (ap (opened B u.plane) h ∙ opened-is number rows check solved W k h2 h12 S C lim u.plane w.state w.header w.started w.book w.repr w.inv (o refl)) e,
          )

  pub inv-on : (u : Device (List ℕ)) (l : Ledger (List ℕ)) (w : Wd u l) → w.started ≡ true → Inv A S C (array w.state true) w.book
  inv-on u l w st = subst (λ z. Inv A S C (array w.state z) w.book) st w.inv

  pub stop-same : (l : Ledger (List ℕ)) (b : Book Block) → Sm l b → Sm (stopped l) (stopped_b b)
  stop-same l b s = record { blocks = s.blocks; live = s.live; good = s.good; empty = s.empty; started = refl }

  -- after a plan of appending the header counts the record
  pub head-finish : (g : ℕ → ℕ → Bool) (l : List (Rec Block)) (h : Header) → head_after B shape (finish A g l) h ≡ h
  head-finish g [] h = refl
  head-finish g (write s c x y ∷ l) h = go (g s c)
    where
      go : (t : Bool) → head_after B shape (cond t (Rattle.model.proofs.State.put (Rattle.model.proofs.State.slot A s c) s y ∷ []) []) h ≡ h
      go true = refl
      go false = refl
  head-finish g (parity s f ∷ l) h = go rows 0
    where
      pick : (t : Bool) (d : ℕ) (x : Block) (ops : List (Op Block)) → head_after B shape ops h ≡ h → head_after B shape (cond t (Rattle.model.proofs.State.put d s x ∷ ops) ops) h ≡ h
      pick true d x ops e = e
      pick false d x ops e = e

      go : (n r : ℕ) → head_after B shape (checks_from A (g s) s f n r) h ≡ h
      go zero r = refl
      go (suc n) r = pick (g s (k + r)) (Rattle.model.proofs.State.slot A s (k + r)) (f r) (checks_from A (g s) s f n (suc r)) (go n (suc r))

  head-notes : (i : ℕ) (xs : List (List ℕ)) (ops : List (Op Block)) (h : Header) → head_after B shape (notes i xs ops) h ≡ head_after B shape ops h
  head-notes i [] ops h = refl
  head-notes i (x ∷ xs) ops h = head-notes (suc i) xs ops h

  -- a record appended: done or cut
  pub appended : (u v : Device (List ℕ)) (l : Ledger (List ℕ)) (w : Wd u l) → w.started ≡ true → (c : Call (List ℕ)) (x : Rec Block) (y : Rec (List ℕ)) → y ≡ rec_bytes x
      → (ans : Answer (List ℕ)) (r : Reply (List ℕ)) (ld lt ls lf : Book Block)
      → ((h : Header) → Always (append A w.state x (cells_for B (rec_bytes x)) h) w.state (Ended A S C ld lt ls lf))
      → Sm (feed l c (answered ans) (is_other (u.plane.cell 0) (v.plane.cell 0))) ld → Sm (stopped (cond (Rattle.model.specs.Ledger.is_write c) (counted l c) l)) lt → Sm (stopped l) ls → Sm (stopped (counted l c)) lf
      → Ends Sector [] (make (append_r B u.plane w.header y) nothing ans (Some (grown_r B u.plane w.header y))) u.plane u.held r v.plane v.held
      → Wd v (feed l c r (is_other (u.plane.cell 0) (v.plane.cell 0)))
  appended u v l w st c x y e ans r ld lt ls lf always sd s₁ s₂ s₃ m =
      made number rows check solved W k h2 h12 S C v l c p p u.held a h h' ops (append_r B p h (rec_bytes x)) ans r ld lt ls lf
      refl (w.on st) w.repr es
      (append-ready number rows check solved W k h2 h12 S C W.few.1 a x h' p.cell w.repr.log (let z = w.repr.count in omega arith) w.repr.long w.repr.good)
      (always h') (head-notes (suc (used A a.log)) (cells_for B (rec_bytes x)) (seal (x ∷ a.log) a.good h' ∷ finish A (is_good A a) (x ∷ a.log)) h ∙ head-finish (is_good A a) (x ∷ a.log) h')
      sd s₁ s₂ s₃
      (subst (λ z. Ends Sector [] (make (append_r B p h z) nothing ans (Some (grown_r B p h z))) p u.held r v.plane v.held) e m)
    where
      p : Plane (List ℕ)
      p = u.plane

      a : State Block
      a = w.state

      h : Header
      h = w.header

      h' : Header
      h' = grown_r B p h (rec_bytes x)

      ops : List (Op Block)
      ops = append A a x (cells_for B (rec_bytes x)) h'

      last : to_cell 0 (header_bytes shape h') ∷ stores B shape (finish A (is_good A a) (x ∷ a.log)) ≡ to_header B p h' ∷ finish_r B (is_good_r B p h) (rec_bytes x)
      last = ap₂ (λ z (zs : List (Store (List ℕ))). to_cell 0 (header_bytes z h') ∷ zs)
          (sym (shape_is number rows check solved W k h2 h12 S C lim p a h w.started w.book w.repr w.inv))
          (finish-stores number rows check solved W k h2 h12 S C (is_good A a) (x ∷ a.log)
          ∙ ap (λ (g : ℕ → ℕ → Bool). finish_r B g (rec_bytes x)) (sym (goods-is number rows check solved W k h2 h12 S C lim p a h w.started w.book w.repr w.inv)))

      es : stores B shape ops ≡ append_r B p h (rec_bytes x)
      es = notes-stores number rows check solved W k h2 h12 S C (suc (used A a.log)) (cells_for B (rec_bytes x)) (seal (x ∷ a.log) a.good h' ∷ finish A (is_good A a) (x ∷ a.log))
          ∙ ap₂ (λ n (zs : List (Store (List ℕ))). to_cells (suc n) (cells_for B (rec_bytes x)) ++ zs) (sym (used-is number rows check solved W k h2 h12 S C lim p a h w.started w.book w.repr w.inv)) last

  -- the facts that the guards give
  pub few-lost : (u : Device (List ℕ)) (l : Ledger (List ℕ)) (w : Wd u l) (s : ℕ) → past_repair B u.plane w.header s ≡ false → lost_in A w.state s ≤ rows
  few-lost u l w s e = ltb-false rows (lost_in A w.state s)
      (ap (λ (f : ℕ → ℕ). ltb rows (f s)) (sym (missing-is number rows check solved W k h2 h12 S C lim u.plane w.state w.header w.started w.book w.repr w.inv)) ∙ e)

  pub the-log : (u : Device (List ℕ)) (l : Ledger (List ℕ)) (w : Wd u l) → log_r B u.plane w.header ≡ log_bytes w.state.log
  the-log u l w = log_is number rows check solved W k h2 h12 S C lim u.plane w.state w.header w.started w.book w.repr w.inv

  pub write_step : (u v : Device (List ℕ)) (l : Ledger (List ℕ)) (i : ℕ) (x : List ℕ) (wk : ℕ) (r : Reply (List ℕ)) → Wd u l → Low x
      → Ends Sector [] (verdict B u.plane u.held (Write i x wk)) u.plane u.held r v.plane v.held
      → Wd v (feed l (Write i x wk) r (is_other (u.plane.cell 0) (v.plane.cell 0)))
  write_step u v l i x wk r w low (inl (t, e, p, o)) = refused-still number rows check solved W k h2 h12 S C u v l (Write i x wk) r (refusal 1 0 0) _ w refl e p o
  write_step u v l i x wk r w low (inr (g₁, inl (t, e, p, o))) = refused-still number rows check solved W k h2 h12 S C u v l (Write i x wk) r (refusal 2 0 0) _ w refl e p o
  write_step u v l i x wk r w low (inr (g₁, inr (g₂, inl (t, e, p, o)))) = refused-still number rows check solved W k h2 h12 S C u v l (Write i x wk) r (refusal 3 0 0) _ w refl e p o
  write_step u v l i x wk r w low (inr (g₁, inr (g₂, inr (g₃, m)))) =
      go (open-cases u v l w (λ h. write_open B u.plane h (stripe_of k i) (column_of k i) x) r m)
    where
      s : ℕ
      s = i / k

      c : ℕ
      c = i % k

      a : State Block
      a = w.state

      y : Block
      y = in_block x (sector-from x (eqb-true (length x) 512 (not-false (eqb (length x) 512) g₁)) (low-from x low))

      rec : Rec Block
      rec = write s c (A.add (row_of A a s c) y) y

      hs : s < S
      hs = (div-lt_iff_lt-mul (omega arith)).1 (subst (λ z. i < z * k) w.repr.blocks (ltb-true i (u.plane.blocks * k) (not-false (ltb i (u.plane.blocks * k)) g₃)))

      hc : c < k
      hc = mod-lt i (omega arith)

      wrote : Sm (counted l (Write i x wk)) (wrote_b w.book s c y)
      wrote = record {
        blocks = λ s' c' h. ap (λ t. cond t x (l.blocks (s' * k + c'))) (same_number k s' c' i h)
            ∙ (ap (λ z. cond (eqb s' s && eqb c' c) x z) (w.same.blocks s' c' h) ∙ sym (cond-bytes (eqb s' s && eqb c' c) y (w.book.dat s' c')));
        live = w.same.live;
        good = w.same.good;
        empty = refl;
        started = w.same.started;
      }

      go : ((w.started ≡ false) × (r ≡ refused (refusal 11 0 0)) × (v.plane ≡ u.plane) × (v.held ≡ u.held))
          ⊎ ((w.started ≡ true) × Ends Sector [] (write_open B u.plane w.header s c x) u.plane u.held r v.plane v.held)
          → Wd v (feed l (Write i x wk) r (is_other (u.plane.cell 0) (v.plane.cell 0)))
      go (inl (t, e, p, o)) = refused-still number rows check solved W k h2 h12 S C u v l (Write i x wk) r (refusal 11 0 0) _ w refl e p o
      go (inr (st, inl (t, e, p, o))) = refused-still number rows check solved W k h2 h12 S C u v l (Write i x wk) r (lost_refusal B u.plane w.header s) _ w refl e p o
      go (inr (st, inr (g₄, inl (t, e, p, o)))) = refused-still number rows check solved W k h2 h12 S C u v l (Write i x wk) r (refusal 16 (u.plane.cells - 1 - w.header.used) 0) _ w refl e p o
      go (inr (st, inr (g₄, inr (g₅, m)))) =
          appended u v l w st (Write i x wk) rec (written B u.plane w.header s c x) rec-is done r (wrote_b w.book s c y) (stopped_b (wrote_b w.book s c y)) (stopped_b w.book) (stopped_b (wrote_b w.book s c y))
          (λ h. write_keeps A (lawful number rows check solved W k h2 h12) S C a w.book s c y (cells_for B (rec_bytes rec)) h (inv-on u l w st) hs hc few room)
          wrote (stop-same (counted l (Write i x wk)) (wrote_b w.book s c y) wrote) (stop-same l w.book w.same) (stop-same (counted l (Write i x wk)) (wrote_b w.book s c y) wrote) m
        where
          few : lost_in A a s ≤ rows
          few = few-lost u l w s g₄

          rec-is : written B u.plane w.header s c x ≡ rec_bytes rec
          rec-is = ap (λ (z : List ℕ). write s c (B.add z x) x) (row_is number rows check solved W k h2 h12 S C lim u.plane a w.header w.started w.book w.repr w.inv s c hs few)

          owed-is : owed B u.plane.blocks (written B u.plane w.header s c x ∷ log_r B u.plane w.header) ≡ owed A S (rec ∷ a.log)
          owed-is = ap₂ (λ z (q : Rec (List ℕ)). owed B z (q ∷ log_r B u.plane w.header)) w.repr.blocks rec-is
              ∙ (ap (λ (q : List (Rec (List ℕ))). owed B S (rec_bytes rec ∷ q)) (the-log u l w) ∙ owed_same number rows check solved W k h2 h12 S (rec ∷ a.log))

          room : used A a.log + 3 + (1 + rows) * owed A S (rec ∷ a.log) ≤ C - 1
          room =
              let z = ltb-false (u.plane.cells - 1) (w.header.used + 3 + (1 + rows) * owed B u.plane.blocks (written B u.plane w.header s c x ∷ log_r B u.plane w.header)) g₅ in
              let y = rw owed-is at z in
              omega (arith, w.repr.cells, used-is number rows check solved W k h2 h12 S C lim u.plane a w.header w.started w.book w.repr w.inv)

  pub fold_step : (u v : Device (List ℕ)) (l : Ledger (List ℕ)) (s wk : ℕ) (r : Reply (List ℕ)) → Wd u l
      → Ends Sector [] (verdict B u.plane u.held (Fold s wk)) u.plane u.held r v.plane v.held
      → Wd v (feed l (Fold s wk) r (is_other (u.plane.cell 0) (v.plane.cell 0)))
  fold_step u v l s wk r w (inl (t, e, p, o)) = refused-still number rows check solved W k h2 h12 S C u v l (Fold s wk) r (refusal 2 0 0) _ w refl e p o
  fold_step u v l s wk r w (inr (g₁, inl (t, e, p, o))) = refused-still number rows check solved W k h2 h12 S C u v l (Fold s wk) r (refusal 4 0 0) _ w refl e p o
  fold_step u v l s wk r w (inr (g₁, inr (g₂, m))) = go (open-cases u v l w (λ h. fold_open B u.plane h s) r m)
    where
      a : State Block
      a = w.state

      rec : Rec Block
      rec = parity s (check_rows A (λ i. row_of A a s (k + i)))

      hs : s < S
      hs = subst (λ z. s < z) w.repr.blocks (ltb-true s u.plane.blocks (not-false (ltb s u.plane.blocks) g₂))

      go : ((w.started ≡ false) × (r ≡ refused (refusal 11 0 0)) × (v.plane ≡ u.plane) × (v.held ≡ u.held))
          ⊎ ((w.started ≡ true) × Ends Sector [] (fold_open B u.plane w.header s) u.plane u.held r v.plane v.held)
          → Wd v (feed l (Fold s wk) r (is_other (u.plane.cell 0) (v.plane.cell 0)))
      go (inl (t, e, p, o)) = refused-still number rows check solved W k h2 h12 S C u v l (Fold s wk) r (refusal 11 0 0) _ w refl e p o
      -- the log has room for the folds of all pending stripes
      go (inr (st, inl (t, e, p, o))) =
          let q = and_parts (owing B (log_r B u.plane w.header) s) (ltb (u.plane.cells - 1) (w.header.used + (1 + rows))) t in
          let some : 1 ≤ owed A S a.log = count-some S (owing A a.log) s hs (sym (owing-same number rows check solved W k h2 h12 a.log s) ∙ (ap (λ (z : List (Rec (List ℕ))). owing B z s) (sym (the-log u l w)) ∙ q.0)) in
          let more : (1 + rows) * 1 ≤ (1 + rows) * owed A S a.log = mul-le-mul_left (1 + rows) some in
          absurd (omega (
            arith,
            more,
            ltb-true (u.plane.cells - 1) (w.header.used + (1 + rows)) q.1,
            w.inv.room,
            w.repr.cells,
            used-is number rows check solved W k h2 h12 S C lim u.plane a w.header w.started w.book w.repr w.inv,
          ))
      go (inr (st, inr (g, inl (t, e, p, o)))) = refused-still number rows check solved W k h2 h12 S C u v l (Fold s wk) r (lost_refusal B u.plane w.header s) _ w refl e p o
      go (inr (st, inr (g, inr (g₃, m)))) = by (owing B (log_r B u.plane w.header) s) refl m
        where
          few : lost_in A a s ≤ rows
          few = few-lost u l w s g₃

          rec-is : folded B u.plane w.header s ≡ rec_bytes rec
          rec-is = ap (λ (f : ℕ → List ℕ). parity s f) (fun_ext (λ i.
              ap (λ (z : List ℕ). cond (ltb i rows) z zeros) (row_is number rows check solved W k h2 h12 S C lim u.plane a w.header w.started w.book w.repr w.inv s (k + i) hs few)
              ∙ sym (cond-bytes (ltb i rows) (row_of A a s (k + i)) none)))

          by : (t : Bool) → owing B (log_r B u.plane w.header) s ≡ t
              → Ends Sector [] (make (cond t (append_r B u.plane w.header (folded B u.plane w.header s)) []) nothing (of_number (pending B s (log_r B u.plane w.header)))
              (Some (cond t (grown_r B u.plane w.header (folded B u.plane w.header s)) w.header))) u.plane u.held r v.plane v.held
              → Wd v (feed l (Fold s wk) r (is_other (u.plane.cell 0) (v.plane.cell 0)))
          by true ow m =
              appended u v l w st (Fold s wk) rec (folded B u.plane w.header s) rec-is (of_number (pending B s (log_r B u.plane w.header))) r w.book (stopped_b w.book) (stopped_b w.book) (stopped_b w.book)
              (λ h. fold-keeps A (lawful number rows check solved W k h2 h12) S C a w.book s (cells_for B (rec_bytes rec)) h (inv-on u l w st) hs few
              (sym (owing-same number rows check solved W k h2 h12 a.log s) ∙ (ap (λ (q : List (Rec (List ℕ))). owing B q s) (sym (the-log u l w)) ∙ ow)))
              w.same (stop-same l w.book w.same) (stop-same l w.book w.same) (stop-same l w.book w.same) m
          by false ow m =
              made number rows check solved W k h2 h12 S C v l (Fold s wk) u.plane u.plane u.held a w.header w.header [] [] (of_number (pending B s (log_r B u.plane w.header))) r
              w.book (stopped_b w.book) (stopped_b w.book) (stopped_b w.book) refl (w.on st) w.repr refl tt (inv-on u l w st) refl
              w.same (stop-same l w.book w.same) (stop-same l w.book w.same) (stop-same l w.book w.same) m

  pub clear_step : (u v : Device (List ℕ)) (l : Ledger (List ℕ)) (wk : ℕ) (r : Reply (List ℕ)) → Wd u l
      → Ends Sector [] (verdict B u.plane u.held (Clear wk)) u.plane u.held r v.plane v.held
      → Wd v (feed l (Clear wk) r (is_other (u.plane.cell 0) (v.plane.cell 0)))
  clear_step u v l wk r w (inl (t, e, p, o)) = refused-still number rows check solved W k h2 h12 S C u v l (Clear wk) r (refusal 2 0 0) _ w refl e p o
  clear_step u v l wk r w (inr (g₁, m)) = go (open-cases u v l w (λ h. clear_open B u.plane h) r m)
    where
      a : State Block
      a = w.state

      h' : Header
      h' = with_used w.header 0

      cleared : Sm (counted l (Clear wk)) (cleared_b w.book)
      cleared = record { blocks = w.same.blocks; live = w.same.live; good = w.same.good; empty = refl; started = w.same.started }

      go : ((w.started ≡ false) × (r ≡ refused (refusal 11 0 0)) × (v.plane ≡ u.plane) × (v.held ≡ u.held))
          ⊎ ((w.started ≡ true) × Ends Sector [] (clear_open B u.plane w.header) u.plane u.held r v.plane v.held)
          → Wd v (feed l (Clear wk) r (is_other (u.plane.cell 0) (v.plane.cell 0)))
      go (inl (t, e, p, o)) = refused-still number rows check solved W k h2 h12 S C u v l (Clear wk) r (refusal 11 0 0) _ w refl e p o
      go (inr (st, inl (t, e, p, o))) =
          refused-still number rows check solved W k h2 h12 S C u v l (Clear wk) r
          (refusal 17 (Rattle.layout.specs.Counts.lowest u.plane.blocks (owing B (log_r B u.plane w.header)) 0) 0) _ w refl e p o
      go (inr (st, inr (g₂, m))) =
          made number rows check solved W k h2 h12 S C v l (Clear wk) u.plane u.plane u.held a w.header h' (seal [] a.good h' ∷ []) (to_header B u.plane h' ∷ []) done r
          (cleared_b w.book) (stopped_b w.book) (stopped_b w.book) (stopped_b (cleared_b w.book)) refl (w.on st) w.repr
          (ap (λ z. to_cell 0 (header_bytes z h') ∷ []) (sym (shape_is number rows check solved W k h2 h12 S C lim u.plane a w.header w.started w.book w.repr w.inv)))
          (refl, tt, refl, w.repr.long, w.repr.good, tt)
          (clear-keeps A (lawful number rows check solved W k h2 h12) S C a w.book h' (inv-on u l w st) nothing-owed) refl
          cleared (stop-same l w.book w.same) (stop-same l w.book w.same) (stop-same (counted l (Clear wk)) (cleared_b w.book) cleared) m
        where
          owed-is : owed B u.plane.blocks (log_r B u.plane w.header) ≡ owed A S a.log
          owed-is = ap₂ (λ z (q : List (Rec (List ℕ))). owed B z q) w.repr.blocks (the-log u l w) ∙ owed_same number rows check solved W k h2 h12 S a.log

          nothing-owed : owed A S a.log ≤ 0
          nothing-owed = rw (← owed-is) (ltb-false 0 (owed B u.plane.blocks (log_r B u.plane w.header)) g₂)
