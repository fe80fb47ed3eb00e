-- Pull, fit, rebuild and start keep what is true between calls.
use Rattle.std.proofs.Common.{◌≡◌, ℕ, ◌+◌, ◌-◌, ◌*◌, ◌<◌, ◌≤◌, Bool, true, false, cond, not, eqb, ltb, ◌⊎◌, List, [], ◌∷◌, length, get_or, set, Some, None, sym, refl, ap, ◌∙◌, subst, ap₂, inl, inr, arith, length-set, get_or-set_other, get_or-set_same}
use Rattle.std.proofs.lemmas.Bool.{eqb-true, eqb-false, true≢false, ltb-true, not-false}
use Rattle.backplane.specs.Plane.{Plane, Sector, Store, to_block, to_cell, fitted, pulled, switched, put as put_at}
use Rattle.layout.specs.declared.header.Header.{Header}
use Rattle.layout.specs.Limits.{within_limits}
use Rattle.layout.specs.Header.{header_bytes, is_laid_out, with_good}
use Rattle.layout.specs.Stripes.{column_on}
use Rattle.model.specs.Coding.{Coding}
use Rattle.model.proofs.Laws.{CodeLaws}
use Rattle.model.specs.Log.{Rec, Walked, walk, owed}
use Rattle.model.specs.Row.{settled_with}
use Rattle.model.specs.Verdict.{Refusal, Reply, answered, refused, refusal, cut_at, done, of_number, make, nothing, Ends}
use Rattle.model.specs.Rules.{Pull, Fit, Rebuild, Start, good_of, shape_of, verdict, fit_open, rebuild_open, start_open, rebuilt, lost_refusal, to_header, is_there, finish_last}
use Rattle.model.specs.Rules.{log_of as log_r, is_good as is_good_r, lost_in as lost_in_r}
use Rattle.model.specs.Ledger.{Ledger, counted, stopped, with_at, feed}
use Rattle.model.specs.Runs.{Device, StartRight}
use Rattle.model.proofs.State.{upd, State, Op, put, seal, sealed, Book, is_good, lost_in, row_of}
use Rattle.model.proofs.Block.{Block, none, pack, pack-bytes, is-sector}
use Rattle.model.proofs.Lift.{lawful}
use Rattle.model.proofs.Bytes.{log_bytes, owed_same, settled_same}
use Rattle.model.proofs.Finish.{finish}
use Rattle.model.proofs.Keeps.{slotted, stopped_b, started_b, good_b, live_b, pull-keeps, fit-keeps, plug-keeps, rebuild-keeps, start-keeps}
use Rattle.model.proofs.Follow.{stores, Repr, is_other, seal-like, switch-like}
use Rattle.model.proofs.World.{sh, refused-still, shape_is, used-is, laid_out, walked, goods-is, row_is, finish-stores, finish-ready, made, made-cut}
use Rattle.model.proofs.Steps.{A, B, shape, Wd, Sm, open-cases, inv-on, stop-same, head-finish, few-lost, the-log}

module _ (number rows : ℕ) (check : ℕ → List ℕ → ℕ) (solved : ℕ → List ℕ → List Bool → List ℕ) (W : CodeLaws number rows check solved)
    (k : ℕ) (h2 : 2 ≤ k) (h12 : k ≤ 12) (S C : ℕ) (lim : within_limits rows (sh number rows check solved W k h2 h12 S C) ≡ true) where
  abbrev A' : Coding Block
  A' = A number rows check solved W k h2 h12 S C lim

  abbrev B' : Coding (List ℕ)
  B' = B number rows check solved W k h2 h12 S C lim

  abbrev sh' : Rattle.layout.specs.declared.shape.Shape.Shape
  sh' = shape number rows check solved W k h2 h12 S C lim

  abbrev Wd' : Device (List ℕ) → Ledger (List ℕ) → Type 0
  Wd' = Wd number rows check solved W k h2 h12 S C lim

  abbrev Sm' : Ledger (List ℕ) → Book Block → Type 0
  Sm' = Sm number rows check solved W k h2 h12 S C lim

  stops-too : (l : Ledger (List ℕ)) (b : Book Block) → Sm' l b → Sm' (stopped l) (stopped_b b)
  stops-too = stop-same number rows check solved W k h2 h12 S C lim

  -- a slot with another disk, or none
  slot-like : (p : Plane (List ℕ)) (a : State Block) (h : Header) (d : ℕ) (v : Bool) (x : ℕ → List ℕ) (y : ℕ → Block) → Repr B' sh' p a h
      → (v ≡ true → (j : ℕ) → j < S → x j ≡ (y j).0) → Repr B' sh' (fitted d v x p) (slotted a d v y) h
  slot-like p a h d v x y R same = record {
    slots = R.slots;
    blocks = R.blocks;
    cells = R.cells;
    zeroth = R.zeroth;
    count = R.count;
    long = R.long;
    good = R.good;
    log = R.log;
    live = ap (λ f. upd f d v) R.live;
    blk = λ e j he hj lv. go j hj (eqb e d) (p.live e) (p.block e j) (a.blk e) lv (R.blk e j he hj);
  }
    where
      go : (j : ℕ) → j < S → (t u : Bool) (z : List ℕ) (f : ℕ → Block) → cond t v u ≡ true → (u ≡ true → z ≡ (f j).0) → cond t (x j) z ≡ (cond t y f j).0
      go j hj true u z f lv e = same lv j hj
      go j hj false u z f lv e = e lv

  pub pull-step : (u v : Device (List ℕ)) (l : Ledger (List ℕ)) (d : ℕ) (r : Reply (List ℕ)) → Wd' u l
      → Ends Sector [] (verdict B' u.plane u.held (Pull d)) u.plane u.held r v.plane v.held
      → Wd' v (feed l (Pull d) r (is_other (u.plane.cell 0) (v.plane.cell 0)))
  pull-step u v l d r w (inl (t, e, p, o)) = refused-still number rows check solved W k h2 h12 S C u v l (Pull d) r (refusal 5 0 0) _ w refl e p o
  pull-step u v l d r w (inr (g, inr c)) = absurd c.2
  pull-step u v l d r w (inr (g, inl (e, q, o))) = record {
    state = slotted w.state d false (λ _. none);
    header = w.header;
    book = live_b w.book d false;
    started = w.started;
    repr = subst (λ z. Repr B' sh' z (slotted w.state d false (λ _. none)) w.header) (sym plane-is)
        (slot-like u.plane w.state w.header d false (λ _. []) (λ _. none) w.repr (λ z. absurd (true≢false (sym z))));
    held = o ∙ w.held;
    on = λ z. ap (λ (x : Plane (List ℕ)). x.on) plane-is ∙ w.on z;
    inv = pull-keeps A' (lawful number rows check solved W k h2 h12) S C w.state w.started w.book d (λ _. none) w.inv;
    same = rw e (record { blocks = w.same.blocks; live = ap (λ f. upd f d false) w.same.live; good = w.same.good; empty = w.same.empty; started = w.same.started });
  }
    where
      plane-is : v.plane ≡ fitted d false (λ _. []) u.plane
      plane-is = q ∙ ap (λ t. cond t (fitted d false (λ _. []) u.plane) u.plane) (not-false (ltb d u.plane.slots) g)

  -- the good stripes by a header in which those of one slot are changed
  good-set : (h : Header) (d v e : ℕ) → length h.good ≡ 16 → d < 16 → good_of (with_good h d v) e ≡ upd (good_of h) d v e
  good-set h d v e n hd = go (eqb e d) refl
    where
      go : (t : Bool) → eqb e d ≡ t → get_or (set h.good d v) e 0 ≡ cond t v (get_or h.good e 0)
      go true x = ap (λ z. get_or (set h.good d v) z 0) (eqb-true e d x) ∙ get_or-set_same h.good d v 0 (omega arith)
      go false x = get_or-set_other h.good d e v 0 (eqb-false e d x)

  seal-good : (u : Device (List ℕ)) (l : Ledger (List ℕ)) (w : Wd' u l) (d v : ℕ) → d < 16 → (e : ℕ) → good_of (with_good w.header d v) e ≡ upd w.state.good d v e
  seal-good u l w d v hd e = good-set w.header d v e w.repr.long hd ∙ ap (λ z. cond (eqb e d) v z) (w.repr.good e)

  seal-long : (u : Device (List ℕ)) (l : Ledger (List ℕ)) (w : Wd' u l) (d v : ℕ) → length (with_good w.header d v).good ≡ 16
  seal-long u l w d v = length-set w.header.good d v ∙ w.repr.long

  below : (u : Device (List ℕ)) (l : Ledger (List ℕ)) (w : Wd' u l) (d : ℕ) → not (ltb d u.plane.slots) ≡ false → d < k + rows
  below u l w d g = subst (λ z. d < z) w.repr.slots (ltb-true d u.plane.slots (not-false (ltb d u.plane.slots) g))

  to-header : (u : Device (List ℕ)) (l : Ledger (List ℕ)) (w : Wd' u l) (h : Header) → ◌≡◌ {A = Store (List ℕ)} (to_cell 0 (header_bytes sh' h)) (to_header B' u.plane h)
  to-header u l w h = ap (λ z. to_cell 0 (header_bytes z h)) (sym (shape_is number rows check solved W k h2 h12 S C lim u.plane w.state w.header w.started w.book w.repr w.inv))

  good-same : (l : Ledger (List ℕ)) (b : Book Block) (d v v' : ℕ) → v ≡ v' → Sm' l b
      → Sm' (record { blocks = l.blocks; live = l.live; good = with_at d v l.good; empty = l.empty; started = l.started }) (good_b b d v')
  good-same l b d v v' e s = record { blocks = s.blocks; live = s.live; good = ap₂ (λ z (f : ℕ → ℕ). upd f d z) e s.good; empty = s.empty; started = s.started }

  pub fit-step : (u v : Device (List ℕ)) (l : Ledger (List ℕ)) (d wk : ℕ) (r : Reply (List ℕ)) → Wd' u l
      → Ends Sector [] (verdict B' u.plane u.held (Fit d wk)) u.plane u.held r v.plane v.held
      → Wd' v (feed l (Fit d wk) r (is_other (u.plane.cell 0) (v.plane.cell 0)))
  fit-step u v l d wk r w (inl (t, e, p, o)) = refused-still number rows check solved W k h2 h12 S C u v l (Fit d wk) r (refusal 2 0 0) _ w refl e p o
  fit-step u v l d wk r w (inr (g₁, inl (t, e, p, o))) = refused-still number rows check solved W k h2 h12 S C u v l (Fit d wk) r (refusal 5 0 0) _ w refl e p o
  fit-step u v l d wk r w (inr (g₁, inr (g₂, m))) = go (open-cases number rows check solved W k h2 h12 S C lim u v l w (λ h. fit_open B' u.plane h d) r m)
    where
      a : State Block
      a = w.state

      h' : Header
      h' = with_good w.header d 0

      hd : d < 16
      hd = let z = below u l w d g₂ in let y = W.few.1 in omega arith

      ops : List (Op Block)
      ops = seal a.log (upd a.good d 0) h' ∷ []

      lowered : Sm' (counted l (Fit d wk)) (good_b w.book d 0)
      lowered = good-same l w.book d 0 0 refl w.same

      go : ((w.started ≡ false) × (r ≡ refused (refusal 11 0 0)) × (v.plane ≡ u.plane) × (v.held ≡ u.held))
          ⊎ ((w.started ≡ true) × Ends Sector [] (fit_open B' u.plane w.header d) u.plane u.held r v.plane v.held)
          → Wd' v (feed l (Fit d wk) r (is_other (u.plane.cell 0) (v.plane.cell 0)))
      go (inl (t, e, p, o)) = refused-still number rows check solved W k h2 h12 S C u v l (Fit d wk) r (refusal 11 0 0) _ w refl e p o
      go (inr (st, inl (t, e, p, o))) = refused-still number rows check solved W k h2 h12 S C u v l (Fit d wk) r (refusal 12 0 0) _ w refl e p o
      go (inr (st, inr (g₃, inl (e, (x, whole, q), o)))) = record {
        state = slotted (sealed a a.log (upd a.good d 0)) d true (λ j. pack (x j));
        header = h';
        book = live_b (good_b w.book d 0) d true;
        started = true;
        repr = subst (λ z. Repr B' sh' z (slotted (sealed a a.log (upd a.good d 0)) d true (λ j. pack (x j))) h') (sym plane-is)
            (slot-like p' (sealed a a.log (upd a.good d 0)) h' d true x (λ j. pack (x j))
            (seal-like B' sh' u.plane a w.header h' a.log (upd a.good d 0) (header_bytes sh' h') w.repr w.repr.log w.repr.count (seal-long u l w d 0) (seal-good u l w d 0 hd))
            (λ _ j hj. sym (pack-bytes (x j) (is-sector (x j) (whole j (subst (λ z. j < z) (sym w.repr.blocks) hj))))));
        held = o;
        on = λ _. ap (λ (z : Plane (List ℕ)). z.on) plane-is ∙ w.on st;
        inv = plug-keeps A' (lawful number rows check solved W k h2 h12) S C a (good_b w.book d 0) d (λ j. pack (x j))
            (fit-keeps A' (lawful number rows check solved W k h2 h12) S C a w.book d h' (inv-on number rows check solved W k h2 h12 S C lim u l w st)).0;
        same = rw e (record { blocks = lowered.blocks; live = ap (λ f. upd f d true) lowered.live; good = lowered.good; empty = lowered.empty; started = lowered.started });
      }
        where
          p' : Plane (List ℕ)
          p' = put_at (to_cell 0 (header_bytes sh' h')) (header_bytes sh' h') u.plane

          plane-is : v.plane ≡ fitted d true x p'
          plane-is = q ∙ ap (λ (z : Store (List ℕ)). fitted d true x (Rattle.backplane.specs.Plane.stored z u.plane)) (sym (to-header u l w h'))
      go (inr (st, inr (g₃, inr c))) =
          made-cut number rows check solved W k h2 h12 S C v l (Fit d wk) u.plane u.plane a w.header ops (to_header B' u.plane h' ∷ []) r
          (good_b w.book d 0) (stopped_b w.book) (stopped_b w.book) (stopped_b (good_b w.book d 0)) refl w.repr
          (ap (λ (z : Store (List ℕ)). z ∷ []) (to-header u l w h'))
          (refl, w.repr.log, w.repr.count, seal-long u l w d 0, seal-good u l w d 0 hd, tt)
          (fit-keeps A' (lawful number rows check solved W k h2 h12) S C a w.book d h' (inv-on number rows check solved W k h2 h12 S C lim u l w st))
          (stops-too l w.book w.same) (stops-too l w.book w.same) (stops-too (counted l (Fit d wk)) (good_b w.book d 0) lowered) c

  pub rebuild-step : (u v : Device (List ℕ)) (l : Ledger (List ℕ)) (d wk : ℕ) (r : Reply (List ℕ)) → Wd' u l
      → Ends Sector [] (verdict B' u.plane u.held (Rebuild d wk)) u.plane u.held r v.plane v.held
      → Wd' v (feed l (Rebuild d wk) r (is_other (u.plane.cell 0) (v.plane.cell 0)))
  rebuild-step u v l d wk r w (inl (t, e, p, o)) = refused-still number rows check solved W k h2 h12 S C u v l (Rebuild d wk) r (refusal 2 0 0) _ w refl e p o
  rebuild-step u v l d wk r w (inr (g₁, inl (t, e, p, o))) = refused-still number rows check solved W k h2 h12 S C u v l (Rebuild d wk) r (refusal 5 0 0) _ w refl e p o
  rebuild-step u v l d wk r w (inr (g₁, inr (g₂, m))) = go (open-cases number rows check solved W k h2 h12 S C lim u v l w (λ h. rebuild_open B' u.plane h d) r m)
    where
      a : State Block
      a = w.state

      s : ℕ
      s = a.good d

      gs : good_of w.header d ≡ s
      gs = w.repr.good d

      c : ℕ
      c = column_on (k + rows) s d

      x : Block
      x = settled_with A' a.log s c (row_of A' a s c)

      h' : Header
      h' = with_good w.header d (s + 1)

      hd : d < k + rows
      hd = below u l w d g₂

      hd' : d < 16
      hd' = let z : d < k + rows = hd in let y = W.few.1 in omega arith

      ops : List (Op Block)
      ops = put d s x ∷ (seal a.log (upd a.good d (s + 1)) h' ∷ [])

      more : Sm' (counted l (Rebuild d wk)) (good_b w.book d (w.book.good d + 1))
      more = good-same l w.book d (l.good d + 1) (w.book.good d + 1) (ap (λ (f : ℕ → ℕ). f d + 1) w.same.good) w.same

      go : ((w.started ≡ false) × (r ≡ refused (refusal 11 0 0)) × (v.plane ≡ u.plane) × (v.held ≡ u.held))
          ⊎ ((w.started ≡ true) × Ends Sector [] (rebuild_open B' u.plane w.header d) u.plane u.held r v.plane v.held)
          → Wd' v (feed l (Rebuild d wk) r (is_other (u.plane.cell 0) (v.plane.cell 0)))
      go (inl (t, e, p, o)) = refused-still number rows check solved W k h2 h12 S C u v l (Rebuild d wk) r (refusal 11 0 0) _ w refl e p o
      go (inr (st, inl (t, e, p, o))) = refused-still number rows check solved W k h2 h12 S C u v l (Rebuild d wk) r (refusal 13 0 0) _ w refl e p o
      go (inr (st, inr (g₃, inl (t, e, p, o)))) = refused-still number rows check solved W k h2 h12 S C u v l (Rebuild d wk) r (refusal 14 0 0) _ w refl e p o
      go (inr (st, inr (g₃, inr (g₄, inl (t, e, p, o))))) =
          refused-still number rows check solved W k h2 h12 S C u v l (Rebuild d wk) r (lost_refusal B' u.plane w.header (good_of w.header d)) _ w refl e p o
      go (inr (st, inr (g₃, inr (g₄, inr (g₅, m))))) =
          made number rows check solved W k h2 h12 S C v l (Rebuild d wk) u.plane u.plane u.held a w.header (with_good w.header d (good_of w.header d + 1)) ops
          (to_block d (good_of w.header d) (rebuilt B' u.plane w.header d (good_of w.header d)) ∷ (to_header B' u.plane (with_good w.header d (good_of w.header d + 1)) ∷ []))
          (of_number (good_of w.header d + 1)) r
          (good_b w.book d (w.book.good d + 1)) (stopped_b w.book) (stopped_b w.book) (stopped_b (good_b w.book d (w.book.good d + 1))) refl (w.on st) w.repr es
          ((let z : d < 16 = hd' in omega arith), (refl, w.repr.log, w.repr.count, seal-long u l w d (s + 1), seal-good u l w d (s + 1) hd', tt))
          (rebuild-keeps A' (lawful number rows check solved W k h2 h12) S C a w.book d x h' (inv-on number rows check solved W k h2 h12 S C lim u l w st) hd lv ns few refl)
          (ap (λ z. with_good w.header d (z + 1)) (sym gs))
          more (stops-too l w.book w.same) (stops-too l w.book w.same) (stops-too (counted l (Rebuild d wk)) (good_b w.book d (w.book.good d + 1)) more) m
        where
          lv : a.live d ≡ true
          lv = ap (λ (f : ℕ → Bool). f d) w.repr.live ∙ not-false (u.plane.live d) g₃

          ns : a.good d ≡ S → ⊥
          ns e = eqb-false (good_of w.header d) u.plane.blocks g₄ (gs ∙ (e ∙ sym w.repr.blocks))

          few : lost_in A' a s ≤ rows
          few = few-lost number rows check solved W k h2 h12 S C lim u l w s (ap (λ z. ltb rows (lost_in_r B' u.plane w.header z)) (sym gs) ∙ g₅)

          hs : s < S
          hs = let z = (w.inv.within d).0 in let y : a.good d ≡ S → ⊥ = ns in omega arith

          x-is : rebuilt B' u.plane w.header d s ≡ x.0
          x-is = ap₂ (λ (q : List (Rec (List ℕ))) (z : List ℕ). settled_with B' q s c z) (the-log number rows check solved W k h2 h12 S C lim u l w)
              (row_is number rows check solved W k h2 h12 S C lim u.plane a w.header w.started w.book w.repr w.inv s c hs few)
              ∙ settled_same number rows check solved W k h2 h12 a.log s c (row_of A' a s c)

          es : stores B' sh' ops
              ≡ to_block d (good_of w.header d) (rebuilt B' u.plane w.header d (good_of w.header d)) ∷ (to_header B' u.plane (with_good w.header d (good_of w.header d + 1)) ∷ [])
          es = ap₂ (λ (z : List ℕ) (y : Store (List ℕ)). to_block d s z ∷ (y ∷ [])) (sym x-is) (to-header u l w h')
              ∙ ap (λ z. to_block d z (rebuilt B' u.plane w.header d z) ∷ (to_header B' u.plane (with_good w.header d (z + 1)) ∷ [])) (sym gs)

  not-19 : (f : Refusal) (n : ℕ) → f.number ≡ n → (n ≡ 18 → ⊥) → (n ≡ 19 → ⊥) → (f.number ≡ 18) ⊎ (f.number ≡ 19) → ⊥
  not-19 f n e a b (inl h) = a (sym e ∙ h)
  not-19 f n e a b (inr h) = b (sym e ∙ h)

  pub start-step : (u v : Device (List ℕ)) (l : Ledger (List ℕ)) (wk : ℕ) (r : Reply (List ℕ)) → Wd' u l
      → Ends Sector [] (verdict B' u.plane u.held (Start wk)) u.plane u.held r v.plane v.held
      → StartRight B' S r × Wd' v (feed l (Start wk) r (is_other (u.plane.cell 0) (v.plane.cell 0)))
  start-step u v l wk r w (inl (t, e, p, o)) = (
    (λ f g. not-19 f 2 (number_is f (sym g ∙ e)) (λ z. omega arith) (λ z. omega arith)),
    refused-still number rows check solved W k h2 h12 S C u v l (Start wk) r (refusal 2 0 0) _ w refl e p o,
  )
    where
      number_is : (f : Refusal) → ◌≡◌ {A = Reply (List ℕ)} (refused f) (refused (refusal 2 0 0)) → f.number ≡ 2
      number_is f e = ap num e
        where
          num : Reply (List ℕ) → ℕ
          num (answered x) = 0
          num (refused g) = g.number
  start-step u v l wk r w (inr (g₁, inl (t, e, q, o))) = absurd (true≢false (sym t ∙ ap not laid))
    where
      laid : is_laid_out rows (shape_of B' u.plane) (u.plane.cell 0) ≡ true
      laid = ap (λ z. is_laid_out rows z (u.plane.cell 0)) (shape_is number rows check solved W k h2 h12 S C lim u.plane w.state w.header w.started w.book w.repr w.inv)
          ∙ (laid_out number rows check solved W k h2 h12 S C lim u.plane w.state w.header w.started w.book w.repr w.inv).0
  start-step u v l wk r w (inr (g₁, inr (g₂, m))) =
      go (subst (λ z. Ends Sector [] (start_open B' p z) (switched true p) None r v.plane v.held) (laid_out number rows check solved W k h2 h12 S C lim p a h w.started w.book w.repr w.inv).1 m)
    where
      p : Plane (List ℕ)
      p = u.plane

      a : State Block
      a = w.state

      h : Header
      h = w.header

      num : Reply (List ℕ) → ℕ
      num (answered x) = 0
      num (refused g) = g.number

      cut-20 : (at : Rattle.backplane.specs.declared.fault.Place.Place) → (cut_at at).number ≡ 20
      cut-20 (Rattle.backplane.specs.declared.fault.Place.TheVariants.OfBlock d b) = refl
      cut-20 (Rattle.backplane.specs.declared.fault.Place.TheVariants.OfCell c) = refl

      walks : walk B' p h.used ≡ record { log = log_bytes a.log; damage = None }
      walks = walked number rows check solved W k h2 h12 S C lim p a h w.started w.book w.repr w.inv

      owed-is : owed B' p.blocks (log_r B' p h) ≡ owed A' S a.log
      owed-is = ap₂ (λ z (q : List (Rec (List ℕ))). owed B' z q) w.repr.blocks (the-log number rows check solved W k h2 h12 S C lim u l w) ∙ owed_same number rows check solved W k h2 h12 S a.log

      awake : Sm' (feed l (Start wk) (answered done) (is_other (p.cell 0) (v.plane.cell 0))) (started_b w.book)
      awake = record { blocks = w.same.blocks; live = w.same.live; good = w.same.good; empty = w.same.empty; started = refl }

      right : Ends Sector [] (make (finish_last B' (is_good_r B' p h) (log_r B' p h)) nothing done (Some h)) (switched true p) None r v.plane v.held → StartRight B' S r
      right (inl e) f g q = let z : ◌≡◌ {A = Reply (List ℕ)} (refused f) (answered done) = sym g ∙ e.0 in absurd (let y : f.number ≡ 0 = ap num z in not-19 f 0 y (λ z. omega arith) (λ z. omega arith) q)
      right (inr e) f g q = let z : ◌≡◌ {A = Reply (List ℕ)} (refused f) (refused (cut_at e.0)) = sym g ∙ e.1 in not-19 f 20 (ap num z ∙ cut-20 e.0) (λ z. omega arith) (λ z. omega arith) q

      go : Ends Sector [] (start_open B' p h) (switched true p) None r v.plane v.held → StartRight B' S r × Wd' v (feed l (Start wk) r (is_other (p.cell 0) (v.plane.cell 0)))
      go (inl (t, e, q, o)) = absurd (true≢false (sym t ∙ ap (λ (z : Walked (List ℕ)). is_there z.damage) walks))
      go (inr (t, inl (f, e, q, o))) =
          absurd (let z = ltb-true (p.cells - 1) (h.used + 0 + (1 + rows) * owed B' p.blocks (log_r B' p h)) f in
          let y = rw owed-is at z in
          omega (arith, w.inv.room, w.repr.cells, used-is number rows check solved W k h2 h12 S C lim p a h w.started w.book w.repr w.inv))
      go (inr (t, inr (f, m))) = (
        right m,
        made number rows check solved W k h2 h12 S C v l (Start wk) p (switched true p) None a h h (finish A' (is_good A' a) a.log) (finish_last B' (is_good_r B' p h) (log_r B' p h)) done r
            (started_b w.book) (stopped_b w.book) (stopped_b w.book) (stopped_b w.book) refl refl (switch-like B' sh' true p a h w.repr)
            (finish-stores number rows check solved W k h2 h12 S C (is_good A' a) a.log
            ∙ ap₂ (λ (g : ℕ → ℕ → Bool) (q : List (Rec (List ℕ))). finish_last B' g q) (sym (goods-is number rows check solved W k h2 h12 S C lim p a h w.started w.book w.repr w.inv))
            (sym (the-log number rows check solved W k h2 h12 S C lim u l w)))
            (finish-ready number rows check solved W k h2 h12 S C W.few.1 true (is_good A' a) a.log a.log p.cell)
            (start-keeps A' (lawful number rows check solved W k h2 h12) S C a w.started w.book w.inv)
            (head-finish number rows check solved W k h2 h12 S C lim (is_good A' a) a.log h)
            awake (stops-too l w.book w.same) (stops-too l w.book w.same) (stops-too l w.book w.same) m,
      )
