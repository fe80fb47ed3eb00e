-- The promise: reads, disks, and every run.
use Rattle.std.proofs.Common.{◌≡◌, ℕ, ◌+◌, ◌-◌, ◌*◌, ◌/◌, ◌%◌, ◌<◌, ◌≤◌, Bool, true, false, cond, not, ◌&&◌, eqb, ltb, ◌⊎◌, List, [], ◌∷◌, ◌++◌, map, length, get_or, sym, refl, ap, ◌∙◌, subst, ap₂, inl, inr, ⊎_elim, mod-lt, mul_comm, div-lt_iff_lt-mul, zero-add, arith}
use mathlib.Core.Path.{fun_ext}
use native.Mathlib.Nat.{div-add-mod}
use lib.ListN.{get_or-eq_default}
use Rattle.std.specs.List.{range_with_len}
use Rattle.std.proofs.lemmas.List.FromFn.{get_or-map-range_with_len, length-map-range_with_len}
use Rattle.std.proofs.lemmas.Bool.{eqb-false, true≢false, ltb-true, ltb-false, not-true, not-false, and_parts, and_cases}
use Rattle.backplane.specs.Plane.{Plane, Sector}
use Rattle.layout.specs.Limits.{within_limits}
use Rattle.layout.specs.Stripes.{stripe_of, column_of, slot_of}
use Rattle.layout.proofs.Headers.{Limits, limits_of}
use Rattle.model.specs.Coding.{Coding, byte_coding, zeros, check_bytes}
use Rattle.model.proofs.Laws.{CodeLaws, laws}
use Rattle.model.specs.Log.{Rec, debt}
use Rattle.model.specs.Verdict.{Refusal, Reply, answered, refused, refusal, Answer, of_block, Ends}
use Rattle.model.specs.Rules.{Call, Write, Read, Fold, Clear, Pull, Fit, Rebuild, Start, good_of, shape_of, first_header, verdict, read_open, lost_refusal, past_repair}
use Rattle.model.specs.Rules.{is_good as is_good_r, is_lost as is_lost_r, lost_in as lost_in_r, row_of as row_r}
use Rattle.model.specs.Ledger.{Ledger, feed, opening}
use Rattle.model.specs.Runs.{Device, Event, fed_all, Called, Ran, Given, good_in, missing_in, ReadRight, ReplyRight, RepliesRight, DisksRight}
use Rattle.model.specs.Promise.{Formatted, Promise}
use Rattle.model.proofs.State.{State, is_good, lost_in, is_empty, Inv}
use Rattle.model.proofs.Sums.{unit-r}
use Rattle.model.proofs.Rows.{want-data, want-row, word-data}
use Rattle.model.proofs.Counts.{count-false}
use Rattle.model.proofs.Block.{Block, none}
use Rattle.model.proofs.Lift.{lawful, map_same}
use Rattle.model.proofs.Keeps.{array, stopped_b, plain, row_is as row-right}
use Rattle.model.proofs.Follow.{is_other}
use Rattle.model.proofs.World.{KA, sh, World, refused-still, block-is, row_is, goods-is, missing-is, lost-is, made}
use Rattle.model.proofs.Steps.{A, B, Wd, Sm, open-cases, inv-on, stop-same, write_step, fold_step, clear_step}
use Rattle.model.proofs.Slots.{pull-step, fit-step, rebuild-step, start-step}

module _ (number rows : ℕ) (check : ℕ → List ℕ → ℕ) (solved : ℕ → List ℕ → List Bool → List ℕ) (W : CodeLaws number rows check solved)
    (k : ℕ) (h2 : 2 ≤ k) (h12 : k ≤ 12) (S C : ℕ) (lim : within_limits rows (sh number rows check solved W k h2 h12 S C) ≡ true) where
  abbrev A'' : Coding Block
  A'' = A number rows check solved W k h2 h12 S C lim

  abbrev B'' : Coding (List ℕ)
  B'' = B number rows check solved W k h2 h12 S C lim

  abbrev pub Wd'' : Device (List ℕ) → Ledger (List ℕ) → Type 0
  Wd'' = Wd number rows check solved W k h2 h12 S C lim

  -- the check of the ledger's blocks of a stripe
  check-same : (r : ℕ) (f g : ℕ → List ℕ) → ((j : ℕ) → j < k → f j ≡ g j) → check_bytes check k r f ≡ check_bytes check k r g
  unfolding check_bytes
  check-same r f g h =
      ap (λ (z : ℕ → List ℕ). map (λ i. check r (z i)) (range_with_len 0 512)) (fun_ext (λ i. map_same (λ j. get_or (f j) i 0) (λ j. get_or (g j) i 0) 0 k (λ j hj. ap (λ (z : List ℕ). get_or z i 0) (h j (omega arith)))))

  module _ (u : Device (List ℕ)) (l : Ledger (List ℕ)) (w : Wd'' u l) where
    abbrev a : State Block
    a = w.state

    good-by : (s c : ℕ) → good_in B'' S l s c ≡ is_good A'' a s c
    good-by s c = ap₂ (λ (x : ℕ → Bool) (y : ℕ → ℕ). Rattle.model.specs.Row.good_at (k + rows) x y s c) (w.same.live ∙ w.inv.live) (w.same.good ∙ w.inv.good)

    missing-by : (s : ℕ) → missing_in B'' S l s ≡ lost_in A'' a s
    missing-by s = ap₂ (λ (x : ℕ → Bool) (y : ℕ → ℕ). Rattle.model.specs.Row.missing (k + rows) x y s) (w.same.live ∙ w.inv.live) (w.same.good ∙ w.inv.good)

    on-by : l.started ≡ true → w.started ≡ true
    on-by e = sym w.inv.started ∙ (sym w.same.started ∙ e)

    pub disks : DisksRight B'' S l u.plane
    disks st em s hs = (
      λ c hc g. block-is number rows check solved W k h2 h12 S C lim u.plane a w.header w.started w.book w.repr w.inv s c hs (sym (good-by s c) ∙ g)
          ∙ (ap (λ (x : Block). x.0) (plain A'' (lawful number rows check solved W k h2 h12) S C a w.book I s c hs (omega arith) (sym (good-by s c) ∙ g) refl
          ∙ want-data A'' (lawful number rows check solved W k h2 h12) a.log w.book.dat s c hc)
          ∙ sym (w.same.blocks s c hc)),
      λ r hr g. block-is number rows check solved W k h2 h12 S C lim u.plane a w.header w.started w.book w.repr w.inv s (k + r) hs (sym (good-by s (k + r)) ∙ g)
          ∙ (ap (λ (x : Block). x.0) (plain A'' (lawful number rows check solved W k h2 h12) S C a w.book I s (k + r) hs (omega arith) (sym (good-by s (k + r)) ∙ g) refl
          ∙ (want-row A'' (lawful number rows check solved W k h2 h12) a.log w.book.dat s r ∙ clean a.log (sym w.inv.empty ∙ (sym w.same.empty ∙ em)) r))
          ∙ check-same r (λ j. (w.book.dat s j).0) (λ j. l.blocks (s * k + j)) (λ j hj. sym (w.same.blocks s j hj))),
    )
      where
        I : Inv A'' S C (array a true) w.book
        I = inv-on number rows check solved W k h2 h12 S C lim u l w (on-by st)

        clean : (log : List (Rec Block)) → is_empty A'' log ≡ true → (r : ℕ) → A''.add (A''.check r (w.book.dat s)) (debt A'' r s log) ≡ A''.check r (w.book.dat s)
        clean [] e r = unit-r A'' (lawful number rows check solved W k h2 h12) (A''.check r (w.book.dat s))
        clean (x ∷ log) e r = absurd (true≢false (sym e))

    -- what a read answers
    read-value : (i : ℕ) → w.started ≡ true → i / k < S → (is_good A'' a (i / k) (i % k) ≡ true) ⊎ (lost_in A'' a (i / k) ≤ rows)
        → cond (is_good_r B'' u.plane w.header (i / k) (i % k)) (u.plane.block (slot_of (k + rows) (i / k) (i % k)) (i / k)) (row_r B'' u.plane w.header (i / k) (i % k)) ≡ l.blocks i
    read-value i st hs few =
        ap (λ (g : ℕ → ℕ → Bool). cond (g s c) (u.plane.block (slot_of (k + rows) s c) s) (row_r B'' u.plane w.header s c))
        (goods-is number rows check solved W k h2 h12 S C lim u.plane a w.header w.started w.book w.repr w.inv)
        ∙ (go (is_good A'' a s c) refl few ∙ (sym (w.same.blocks s c hc) ∙ ap l.blocks (let y = mul_comm s k in let z = div-add-mod i k in let x : s * k + c ≡ i = omega arith in x)))
      where
        s : ℕ
        s = i / k

        c : ℕ
        c = i % k

        hc : c < k
        hc = mod-lt i (omega arith)

        I : Inv A'' S C (array a true) w.book
        I = inv-on number rows check solved W k h2 h12 S C lim u l w st

        go : (t : Bool) → is_good A'' a s c ≡ t → (t ≡ true) ⊎ (lost_in A'' a s ≤ rows)
            → cond t (u.plane.block (slot_of (k + rows) s c) s) (row_r B'' u.plane w.header s c) ≡ (w.book.dat s c).0
        go true e f = block-is number rows check solved W k h2 h12 S C lim u.plane a w.header w.started w.book w.repr w.inv s c hs e
            ∙ ap (λ (x : Block). x.0) (plain A'' (lawful number rows check solved W k h2 h12) S C a w.book I s c hs (omega arith) e refl
            ∙ want-data A'' (lawful number rows check solved W k h2 h12) a.log w.book.dat s c hc)
        go false e (inl f) = absurd (true≢false (sym f))
        go false e (inr f) = row_is number rows check solved W k h2 h12 S C lim u.plane a w.header w.started w.book w.repr w.inv s c hs f
            ∙ ap (λ (x : Block). x.0) (row-right A'' (lawful number rows check solved W k h2 h12) S C a w.book I s hs f c (omega arith)
            ∙ word-data A'' (lawful number rows check solved W k h2 h12) (w.book.dat s) c hc)

    no_answer : (f : Refusal) (x : Answer (List ℕ)) (r : Reply (List ℕ)) → r ≡ refused f → r ≡ answered x → ⊥
    no_answer f x r e g = let y : ◌≡◌ {A = Reply (List ℕ)} (refused f) (answered x) = sym e ∙ g in let z : ◌≡◌ {A = ℕ} 0 1 = cc in omega arith

    pub read_right : (v : Device (List ℕ)) (i given wk : ℕ) (r : Reply (List ℕ))
        → Ends Sector [] (verdict B'' u.plane u.held (Read i given wk)) u.plane u.held r v.plane v.held
        → ReadRight B'' S l i given wk r
    read_right v i given wk r (inl (t, e, p, o)) =
        (λ x g. absurd (no_answer (refusal 1 0 0) x r e g), λ st hg hw hi. absurd (eqb-false given 512 (not-true (eqb given 512) t) hg))
    read_right v i given wk r (inr (g₁, inl (t, e, p, o))) =
        (λ x g. absurd (no_answer (refusal 2 0 0) x r e g), λ st hg hw hi. absurd (omega (arith, ltb-true wk 10240 t)))
    read_right v i given wk r (inr (g₁, inr (g₂, inl (t, e, p, o)))) =
        (λ x g. absurd (no_answer (refusal 3 0 0) x r e g), λ st hg hw hi. absurd (let z = ltb-false i (u.plane.blocks * k) (not-true (ltb i (u.plane.blocks * k)) t) in let y = rw w.repr.blocks at z in omega arith))
    read_right v i given wk r (inr (g₁, inr (g₂, inr (g₃, m)))) = go (open-cases number rows check solved W k h2 h12 S C lim u v l w (λ h. read_open B'' u.plane h (stripe_of k i) (column_of k i)) r m)
      where
        s : ℕ
        s = i / k

        c : ℕ
        c = i % k

        hs : s < S
        hs = (div-lt_iff_lt-mul (omega arith)).1 (subst (λ z. i < z * k) w.repr.blocks (ltb-true i (u.plane.blocks * k) (not-false (ltb i (u.plane.blocks * k)) g₃)))

        ml : missing_in B'' S l s ≡ lost_in_r B'' u.plane w.header s
        ml = missing-by s ∙ ap (λ (f : ℕ → ℕ). f s) (sym (missing-is number rows check solved W k h2 h12 S C lim u.plane a w.header w.started w.book w.repr w.inv))

        test-is : (is_lost_r B'' u.plane w.header s c && past_repair B'' u.plane w.header s) ≡ (not (is_good A'' a s c) && ltb rows (lost_in A'' a s))
        test-is = ap₂ (λ (f : ℕ → ℕ → Bool) (n : ℕ → ℕ). f s c && ltb rows (n s))
            (lost-is number rows check solved W k h2 h12 S C lim u.plane a w.header w.started w.book w.repr w.inv)
            (missing-is number rows check solved W k h2 h12 S C lim u.plane a w.header w.started w.book w.repr w.inv)

        turn : (good_in B'' S l s c ≡ true) ⊎ (missing_in B'' S l s ≤ rows) → (is_good A'' a s c ≡ true) ⊎ (lost_in A'' a s ≤ rows)
        turn (inl g) = inl (sym (good-by s c) ∙ g)
        turn (inr f) = inr (let z = missing-by s in omega arith)

        not-15 : (not (is_good A'' a s c) && ltb rows (lost_in A'' a s)) ≡ true → (is_good A'' a s c ≡ true) ⊎ (lost_in A'' a s ≤ rows) → ⊥
        not-15 h (inl g) = true≢false (sym (and_parts (not (is_good A'' a s c)) (ltb rows (lost_in A'' a s)) h).0 ∙ ap not g)
        not-15 h (inr f) = omega (arith, ltb-true rows (lost_in A'' a s) (and_parts (not (is_good A'' a s c)) (ltb rows (lost_in A'' a s)) h).1)

        few-of : (not (is_good A'' a s c) && ltb rows (lost_in A'' a s)) ≡ false → (is_good A'' a s c ≡ true) ⊎ (lost_in A'' a s ≤ rows)
        few-of h = ⊎_elim (λ z. inl (not-false (is_good A'' a s c) z)) (λ z. inr (ltb-false rows (lost_in A'' a s) z)) (and_cases (not (is_good A'' a s c)) (ltb rows (lost_in A'' a s)) h)

        value : Answer (List ℕ) → Reply (List ℕ) → Answer (List ℕ)
        value d (answered x) = x
        value d (refused f) = d

        go : ((w.started ≡ false) × (r ≡ refused (refusal 11 0 0)) × (v.plane ≡ u.plane) × (v.held ≡ u.held))
            ⊎ ((w.started ≡ true) × Ends Sector [] (read_open B'' u.plane w.header s c) u.plane u.held r v.plane v.held)
            → ReadRight B'' S l i given wk r
        go (inl (t, e, p, o)) = (λ x g. absurd (no_answer (refusal 11 0 0) x r e g), λ st hg hw hi. absurd (true≢false (sym (on-by st) ∙ t)))
        go (inr (st, inl (t, e, p, o))) = (
          λ x g. absurd (no_answer (lost_refusal B'' u.plane w.header s) x r e g),
          λ _ hg hw hi. ((λ lost few. e ∙ ap (λ z. refused (refusal 15 s z)) (sym ml)), λ alt. absurd (not-15 (sym test-is ∙ t) (turn alt))),
        )
        go (inr (st, inr (g₄, inr x))) = absurd x.2
        go (inr (st, inr (g₄, inl (e, p, o)))) =
            let few = few-of (sym test-is ∙ g₄) in (
              λ x g. ap (value x) (sym g ∙ e) ∙ ap of_block (read-value i st hs few),
              λ _ hg hw hi. (
                λ lost many. absurd (⊎_elim (λ (z : is_good A'' a s c ≡ true). true≢false (sym z ∙ (sym (good-by s c) ∙ lost))) (λ (z : lost_in A'' a s ≤ rows). let y = missing-by s in omega arith) few),
                λ _. (cond (is_good_r B'' u.plane w.header s c) (u.plane.block (slot_of (k + rows) s c) s) (row_r B'' u.plane w.header s c), e),
              ),
            )

    pub read_step : (v : Device (List ℕ)) (i given wk : ℕ) (r : Reply (List ℕ))
        → Ends Sector [] (verdict B'' u.plane u.held (Read i given wk)) u.plane u.held r v.plane v.held
        → Wd'' v (feed l (Read i given wk) r (is_other (u.plane.cell 0) (v.plane.cell 0)))
    read_step v i given wk r (inl (t, e, p, o)) = refused-still number rows check solved W k h2 h12 S C u v l (Read i given wk) r (refusal 1 0 0) _ w refl e p o
    read_step v i given wk r (inr (g₁, inl (t, e, p, o))) = refused-still number rows check solved W k h2 h12 S C u v l (Read i given wk) r (refusal 2 0 0) _ w refl e p o
    read_step v i given wk r (inr (g₁, inr (g₂, inl (t, e, p, o)))) = refused-still number rows check solved W k h2 h12 S C u v l (Read i given wk) r (refusal 3 0 0) _ w refl e p o
    read_step v i given wk r (inr (g₁, inr (g₂, inr (g₃, m)))) = go (open-cases number rows check solved W k h2 h12 S C lim u v l w (λ h. read_open B'' u.plane h (stripe_of k i) (column_of k i)) r m)
      where
        stop : Sm number rows check solved W k h2 h12 S C lim (Rattle.model.specs.Ledger.stopped l) (stopped_b w.book)
        stop = stop-same number rows check solved W k h2 h12 S C lim l w.book w.same

        go : ((w.started ≡ false) × (r ≡ refused (refusal 11 0 0)) × (v.plane ≡ u.plane) × (v.held ≡ u.held))
            ⊎ ((w.started ≡ true) × Ends Sector [] (read_open B'' u.plane w.header (i / k) (i % k)) u.plane u.held r v.plane v.held)
            → Wd'' v (feed l (Read i given wk) r (is_other (u.plane.cell 0) (v.plane.cell 0)))
        go (inl (t, e, p, o)) = refused-still number rows check solved W k h2 h12 S C u v l (Read i given wk) r (refusal 11 0 0) _ w refl e p o
        go (inr (st, inl (t, e, p, o))) = refused-still number rows check solved W k h2 h12 S C u v l (Read i given wk) r (lost_refusal B'' u.plane w.header (i / k)) _ w refl e p o
        go (inr (st, inr (g₄, m))) =
            made number rows check solved W k h2 h12 S C v l (Read i given wk) u.plane u.plane u.held a w.header w.header [] []
            (of_block (cond (is_good_r B'' u.plane w.header (i / k) (i % k)) (u.plane.block (slot_of (k + rows) (i / k) (i % k)) (i / k)) (row_r B'' u.plane w.header (i / k) (i % k)))) r
            w.book (stopped_b w.book) (stopped_b w.book) (stopped_b w.book) refl (w.on st) w.repr refl tt (inv-on number rows check solved W k h2 h12 S C lim u l w st) refl
            w.same stop stop stop m

  -- one call
  pub step : (u v : Device (List ℕ)) (l : Ledger (List ℕ)) (e : Event (List ℕ)) → Wd'' u l → Called B'' Sector u e v
      → ReplyRight B'' S l e.call e.reply × Wd'' v (feed l e.call e.reply e.new)
  step u v l e w c =
      let z = go e.call c.given c.ends in
      (z.0, subst (λ t. Wd'' v (feed l e.call e.reply t)) (sym c.told) z.1)
    where
      r : Reply (List ℕ)
      r = e.reply

      go : (x : Call (List ℕ)) → Given B'' Sector x → Ends Sector [] (verdict B'' u.plane u.held x) u.plane u.held r v.plane v.held
          → ReplyRight B'' S l x r × Wd'' v (feed l x r (is_other (u.plane.cell 0) (v.plane.cell 0)))
      go (Write i x wk) low m = (tt, write_step number rows check solved W k h2 h12 S C lim u v l i x wk r w low m)
      go (Read i n wk) g m = (read_right u l w v i n wk r m, read_step u l w v i n wk r m)
      go (Fold s wk) g m = (tt, fold_step number rows check solved W k h2 h12 S C lim u v l s wk r w m)
      go (Clear wk) g m = (tt, clear_step number rows check solved W k h2 h12 S C lim u v l wk r w m)
      go (Pull d) g m = (tt, pull-step number rows check solved W k h2 h12 S C lim u v l d r w m)
      go (Fit d wk) g m = (tt, fit-step number rows check solved W k h2 h12 S C lim u v l d wk r w m)
      go (Rebuild d wk) g m = (tt, rebuild-step number rows check solved W k h2 h12 S C lim u v l d wk r w m)
      go (Start wk) g m = start-step number rows check solved W k h2 h12 S C lim u v l wk r w m

  -- every run
  pub runs : (es : List (Event (List ℕ))) (u v : Device (List ℕ)) (l : Ledger (List ℕ)) → Wd'' u l → Ran B'' Sector es u v
      → RepliesRight B'' S l es × Wd'' v (fed_all l es)
  runs [] u v l w e = (tt, subst (λ z. Wd'' z l) (sym e) w)
  runs (e ∷ es) u v l w (x, c, m) =
      let z = step u x l e w c in
      let y = runs es x v (feed l e.call e.reply e.new) z.1 m in
      ((z.0, y.0), y.1)

-- runs grow at the end
pub ran-more : {X : Type 0} (K : Coding X) (Whole : X → Type 0) (es : List (Event X)) (u v w : Device X) (e : Event X) → Ran K Whole es u v → Called K Whole v e w → Ran K Whole (es ++ e ∷ []) u w
ran-more K Whole [] u v w e m c = (w, subst (λ z. Called K Whole z e w) m c, refl)
ran-more K Whole (x ∷ es) u v w e (y, b, m) c = (y, b, ran-more K Whole es y v w e m c)

module _ (number rows : ℕ) (check : ℕ → List ℕ → ℕ) (solved : ℕ → List ℕ → List Bool → List ℕ) (W : CodeLaws number rows check solved)
    (k : ℕ) (u : Device (List ℕ)) (F : Formatted (byte_coding k number rows check solved) u) where
  abbrev p : Plane (List ℕ)
  p = u.plane

  L : Limits rows (shape_of (byte_coding k number rows check solved) p)
  L = limits_of rows (shape_of (byte_coding k number rows check solved) p) F.within

  pub two : 2 ≤ k
  two = L.some

  pub twelve : k ≤ 12
  twelve = L.few

  pub wide : p.slots ≡ k + rows
  wide = L.sum

  pub inside : within_limits rows (sh number rows check solved W k two twelve p.blocks p.cells) ≡ true
  inside = subst (λ z. within_limits rows (record { code = number; columns = k; slots = z; blocks = p.blocks; cells = p.cells }) ≡ true) wide F.within

  first_good : (d : ℕ) → good_of (first_header p.slots p.blocks) d ≡ cond (ltb d p.slots) p.blocks 0
  first_good d = go (ltb d 16) refl
    where
      f : ℕ → ℕ
      f d = cond (ltb d p.slots) p.blocks 0

      past : 16 ≤ d → (t : Bool) → ltb d p.slots ≡ t → 0 ≡ cond t p.blocks 0
      past h true e = absurd (omega (arith, ltb-true d p.slots e, wide, twelve, W.few.1))
      past h false e = refl

      go : (t : Bool) → ltb d 16 ≡ t → get_or (map f (range_with_len 0 16)) d 0 ≡ f d
      go true e = get_or-map-range_with_len f 0 16 d d 0 (ltb-true d 16 e) (zero-add d)
      go false e = get_or-eq_default (map f (range_with_len 0 16)) 0 (let z : length (map f (range_with_len 0 16)) ≤ d = omega (arith, length-map-range_with_len f 0 16, ltb-false d 16 e) in z) ∙ past (ltb-false d 16 e) (ltb d p.slots) refl

  -- the array just formatted
  pub start-world : World number rows check solved W k two twelve p.blocks p.cells u (opening zeros p.slots p.blocks)
  start-world = record {
    state = record { live = λ d. ltb d p.slots; good = λ d. cond (ltb d p.slots) p.blocks 0; log = []; blk = λ d i. none };
    header = first_header p.slots p.blocks;
    book = record { dat = λ s c. none; live = λ d. ltb d p.slots; good = λ d. cond (ltb d p.slots) p.blocks 0; empty = true; started = true };
    started = true;
    repr = record {
      slots = wide;
      blocks = refl;
      cells = refl;
      live = fun_ext (λ d. alive d (ltb d p.slots) refl);
      blk = λ d i hd hi lv. F.blocks d i (rw wide hd) hi;
      zeroth = F.cell ∙ ap (λ z. Rattle.layout.specs.Header.header_bytes (record { code = number; columns = k; slots = z; blocks = p.blocks; cells = p.cells }) (first_header p.slots p.blocks)) wide;
      count = refl;
      long = length-map-range_with_len (λ d. cond (ltb d p.slots) p.blocks 0) 0 16;
      good = first_good;
      log = tt;
    };
    held = F.held;
    on = λ _. F.on;
    inv = record {
      started = refl;
      live = refl;
      good = refl;
      empty = refl;
      blocks = λ s c hs hc g _. sym (blank s c (ltb c k));
      head = tt;
      fits = tt;
      room = rw (count-false p.blocks) (omega arith);
      within = λ d. goods d (ltb d p.slots) refl;
    };
    same = record { blocks = λ s c h. refl; live = refl; good = refl; empty = refl; started = refl };
  }
    where
      K : Coding Block
      K = KA number rows check solved W k two twelve p.blocks p.cells

      alive : (d : ℕ) (t : Bool) → ltb d p.slots ≡ t → t ≡ p.live d
      alive d true e = sym (F.live d (ltb-true d p.slots e))
      alive d false e = sym (F.sound.within d (ltb-false d p.slots e))

      goods : (d : ℕ) (t : Bool) → ltb d p.slots ≡ t → (cond t p.blocks 0 ≤ p.blocks) × (k + rows ≤ d → cond t p.blocks 0 ≡ 0)
      goods d true e = (omega arith, λ z. absurd (omega (arith, ltb-true d p.slots e, wide)))
      goods d false e = (omega arith, λ z. refl)

      blank : (s c : ℕ) (t : Bool) → cond t (cond t none (K.check (c - k) (λ j. none))) (K.add (cond t none (K.check (c - k) (λ j. none))) none) ≡ none
      blank s c true = refl
      blank s c false = ap (λ z. K.add z none) ((lawful number rows check solved W k two twelve).check-nil (c - k)) ∙ (lawful number rows check solved W k two twelve).unit none

pub promise : Promise
promise number rows check solved V k u F es v m =
    let W : CodeLaws number rows check solved = laws number rows check solved V in
    let z = runs number rows check solved W k (two number rows check solved W k u F) (twelve number rows check solved W k u F) u.plane.blocks u.plane.cells (inside number rows check solved W k u F)
    es u v (opening zeros u.plane.slots u.plane.blocks) (start-world number rows check solved W k u F) m in
    record {
      replies = z.0;
      disks = disks number rows check solved W k (two number rows check solved W k u F) (twelve number rows check solved W k u F) u.plane.blocks u.plane.cells (inside number rows check solved W k u F)
          v (fed_all (opening zeros u.plane.slots u.plane.blocks) es) z.1;
    }
