-- The backplane's bytes follow the plan.
use Rattle.std.proofs.Common.{◌≡◌, ℕ, ◌<◌, Bool, true, false, cond, not, ◌&&◌, eqb, ◌⊎◌, List, [], ◌∷◌, length, sym, refl, ap, ◌∙◌, subst, inl, inr, arith}
use Rattle.std.specs.Str.{bytes_eq}
use Rattle.std.proofs.lemmas.Bool.{ne_eqb, true≢false}
use Rattle.backplane.specs.Plane.{Plane, Sector, Store, to_block, to_cell, put as put_at, stored as stored_at, switched, with_cell}
use Rattle.backplane.specs.Stores.{stored_all, Cutting, CutBy}
use Rattle.backplane.specs.declared.fault.Place.{Place}
use Rattle.backplane.specs.declared.fault.Place.TheVariants.{OfBlock, OfCell}
use Rattle.layout.specs.declared.shape.Shape.{Shape}
use Rattle.layout.specs.declared.header.Header.{Header}
use Rattle.layout.specs.Header.{header_bytes}
use Rattle.layout.proofs.Headers.{same_bytes, bytes_same}
use Rattle.model.specs.Coding.{Coding}
use Rattle.model.specs.Log.{Rec}
use Rattle.model.specs.Rules.{good_of}
use Rattle.model.proofs.State.{State, Op, put, note, seal, Out, all_done, torn, stale, fresh, stored, sealed, Always, used}
use Rattle.model.proofs.Cells.{Encoded, keep}
use Rattle.model.proofs.Block.{Block, pack, pack-bytes, is-sector}
use Rattle.model.proofs.Bytes.{log_bytes}

-- a cut at this place, where cell 0 is then new or not, is this end of a plan
abbrev pub OutIs : Out → Place → Bool → Type 0
OutIs o (OfBlock d b) new = (o ≡ torn d b) × (d < 255)
OutIs o (OfCell c) new = o ≡ cond (eqb c 0) (cond new fresh (stale 0)) (stale c)

abbrev pub is_other : List ℕ → List ℕ → Bool
is_other x y = not (bytes_eq x y)

module _ (K : Coding (List ℕ)) (sh : Shape) where
  abbrev pub store : Op Block → Store (List ℕ)
  store (put d i x) = to_block d i x.0
  store (note i x) = to_cell i x
  store (seal l g h) = to_cell 0 (header_bytes sh h)

  abbrev pub stores : List (Op Block) → List (Store (List ℕ))
  stores [] = []
  stores (op ∷ ops) = store op ∷ stores ops

  -- the backplane holds the state, with the header h in cell 0
  pub record Repr (p : Plane (List ℕ)) (a : State Block) (h : Header) : Type 0 where
    pub slots : p.slots ≡ sh.slots
    pub blocks : p.blocks ≡ sh.blocks
    pub cells : p.cells ≡ sh.cells
    pub live : a.live ≡ p.live
    pub blk : (d i : ℕ) → d < sh.slots → i < sh.blocks → p.live d ≡ true → p.block d i ≡ (a.blk d i).0
    pub zeroth : p.cell 0 ≡ header_bytes sh h
    pub count : h.used ≡ used K (log_bytes a.log)
    pub long : length h.good ≡ 16
    pub good : (d : ℕ) → good_of h d ≡ a.good d
    pub log : Encoded K p.cell (log_bytes a.log)

  -- notes go to free cells, what is sealed has been noted, and cell 0 is stored once at most (t: not yet)
  abbrev pub Ready : Bool → List (Op Block) → List (Rec Block) → (ℕ → List ℕ) → Type 0
  Ready t [] l cell = Unit {0}
  Ready t (put d i x ∷ ops) l cell = (d < 255) × Ready t ops l cell
  Ready t (note i x ∷ ops) l cell = (used K (log_bytes l) < i) × Ready t ops l (with_cell i x cell)
  Ready t (seal l' g h ∷ ops) l cell =
      (t ≡ true) × Encoded K cell (log_bytes l') × (h.used ≡ used K (log_bytes l')) × (length h.good ≡ 16) × ((d : ℕ) → good_of h d ≡ g d)
      × Ready false ops l' (with_cell 0 (header_bytes sh h) cell)

  -- the header after a plan that is done
  abbrev pub head_after : List (Op Block) → Header → Header
  head_after [] h = h
  head_after (put d i x ∷ ops) h = head_after ops h
  head_after (note i x ∷ ops) h = head_after ops h
  head_after (seal l g h' ∷ ops) h = head_after ops h'

  block-like : (p : Plane (List ℕ)) (a : State Block) (h : Header) (d i : ℕ) (y : List ℕ) (x : Block) → Repr p a h → Repr (put_at (to_block d i y) x.0 p) (stored a d i x) h
  block-like p a h d i y x R = record {
    slots = R.slots;
    blocks = R.blocks;
    cells = R.cells;
    live = R.live;
    zeroth = R.zeroth;
    count = R.count;
    long = R.long;
    good = R.good;
    log = R.log;
    blk = λ e j he hj lv. go (eqb e d && eqb j i) (p.block e j) (a.blk e j) (R.blk e j he hj lv);
  }
    where
      go : (b : Bool) (u : List ℕ) (v : Block) → u ≡ v.0 → cond b x.0 u ≡ (cond b x v).0
      go true u v e = refl
      go false u v e = e

  note-like : (p : Plane (List ℕ)) (a : State Block) (h : Header) (i : ℕ) (y x : List ℕ) → Repr p a h → used K (log_bytes a.log) < i → Repr (put_at (to_cell i y) x p) a h
  note-like p a h i y x R hi = record {
    slots = R.slots;
    blocks = R.blocks;
    cells = R.cells;
    live = R.live;
    blk = R.blk;
    count = R.count;
    long = R.long;
    good = R.good;
    zeroth = rw (ne_eqb 0 i (λ e. omega arith)) R.zeroth;
    log = keep K p.cell i x (log_bytes a.log) (inr hi) R.log;
  }

  pub seal-like : (p : Plane (List ℕ)) (a : State Block) (h h' : Header) (l : List (Rec Block)) (g : ℕ → ℕ) (y : List ℕ) → Repr p a h
      → Encoded K p.cell (log_bytes l) → h'.used ≡ used K (log_bytes l) → length h'.good ≡ 16 → ((d : ℕ) → good_of h' d ≡ g d)
      → Repr (put_at (to_cell 0 y) (header_bytes sh h') p) (sealed a l g) h'
  seal-like p a h h' l g y R e c n f = record {
    slots = R.slots;
    blocks = R.blocks;
    cells = R.cells;
    live = R.live;
    blk = R.blk;
    zeroth = refl;
    count = c;
    long = n;
    good = f;
    log = keep K p.cell 0 (header_bytes sh h') (log_bytes l) (inl refl) e;
  }

  -- the power goes, or comes
  pub switch-like : (t : Bool) (p : Plane (List ℕ)) (a : State Block) (h : Header) → Repr p a h → Repr (switched t p) a h
  switch-like t p a h R = record
      { slots = R.slots; blocks = R.blocks; cells = R.cells; live = R.live; blk = R.blk; zeroth = R.zeroth; count = R.count; long = R.long; good = R.good; log = R.log }

  pub follow-done : (t : Bool) (ops : List (Op Block)) (p : Plane (List ℕ)) (a : State Block) (h : Header) (Q : Out → State Block → Type 0)
      → Repr p a h → Ready t ops a.log p.cell → Always ops a Q
      → (a' : State Block) × Q all_done a' × Repr (stored_all (stores ops) p) a' (head_after ops h)
  follow-done t [] p a h Q R ready w = (a, w, R)
  follow-done t (put d i x ∷ ops) p a h Q R ready w = follow-done t ops (stored_at (to_block d i x.0) p) (stored a d i x) h Q (block-like p a h d i x.0 x R) ready.1 w.0
  follow-done t (note i x ∷ ops) p a h Q R ready w = follow-done t ops (stored_at (to_cell i x) p) a h Q (note-like p a h i x x R ready.0) ready.1 w.0
  follow-done t (seal l g h' ∷ ops) p a h Q R ready w =
      follow-done false ops (stored_at (to_cell 0 (header_bytes sh h')) p) (sealed a l g) h' Q
      (seal-like p a h h' l g (header_bytes sh h') R ready.1 ready.2 ready.3 ready.4) ready.5 w.0

  -- a cut at cell 0
  seal-cut : (p₀ p q : Plane (List ℕ)) (a : State Block) (h h' : Header) (l : List (Rec Block)) (g : ℕ → ℕ) (Q : Out → State Block → Type 0)
      → p₀.cell 0 ≡ p.cell 0 → Repr p a h
      → Encoded K p.cell (log_bytes l) → h'.used ≡ used K (log_bytes l) → length h'.good ≡ 16 → ((d : ℕ) → good_of h' d ≡ g d)
      → Q (stale 0) a → Q fresh (sealed a l g) → CutBy Sector (to_cell 0 (header_bytes sh h')) p q
      → (o : Out) × (a' : State Block) × (h'' : Header) × (o ≡ cond (is_other (p₀.cell 0) (q.cell 0)) fresh (stale 0)) × Q o a' × Repr q a' h''
  seal-cut p₀ p q a h h' l g Q tie R e c n f old new cut = go (bytes_eq (p₀.cell 0) (q.cell 0)) refl cut.may
    where
      left_is : q.cell 0 ≡ cut.left
      left_is = ap (λ (z : Plane (List ℕ)). z.cell 0) cut.after

      kept : cut.left ≡ p.cell 0 → Repr q a h
      kept z = rw cut.after (switch-like false (put_at (to_cell 0 (header_bytes sh h')) cut.left p) a h (record {
        slots = R.slots;
        blocks = R.blocks;
        cells = R.cells;
        live = R.live;
        blk = R.blk;
        count = R.count;
        long = R.long;
        good = R.good;
        zeroth = z ∙ R.zeroth;
        log = keep K p.cell 0 cut.left (log_bytes a.log) (inl refl) R.log;
      }))

      go : (b : Bool) → bytes_eq (p₀.cell 0) (q.cell 0) ≡ b → (cut.left ≡ p.cell 0) ⊎ (cut.left ≡ header_bytes sh h')
          → (o : Out) × (a' : State Block) × (h'' : Header) × (o ≡ cond (not b) fresh (stale 0)) × Q o a' × Repr q a' h''
      go true s m = (stale 0, a, h, refl, old, kept (sym left_is ∙ (sym (bytes_same (p₀.cell 0) (q.cell 0) s) ∙ tie)))
      go false s (inl m) = absurd (true≢false (sym (same_bytes (p₀.cell 0) (q.cell 0) (tie ∙ (sym m ∙ sym left_is))) ∙ s))
      go false s (inr m) = (
        fresh,
        sealed a l g,
        h',
        refl,
        new,
        rw cut.after (subst (λ z. Repr (switched false (put_at (to_cell 0 (header_bytes sh h')) z p)) (sealed a l g) h') (sym m)
            (switch-like false (put_at (to_cell 0 (header_bytes sh h')) (header_bytes sh h') p) (sealed a l g) h' (seal-like p a h h' l g (header_bytes sh h') R e c n f))),
      )

  pub follow-cut : (t : Bool) (ops : List (Op Block)) (p₀ p q : Plane (List ℕ)) (a : State Block) (h : Header) (Q : Out → State Block → Type 0) (at : Place)
      → (t ≡ true → p₀.cell 0 ≡ p.cell 0) → Repr p a h → Ready t ops a.log p.cell → Always ops a Q → Cutting Sector (stores ops) p q at
      → (o : Out) × (a' : State Block) × (h' : Header) × OutIs o at (is_other (p₀.cell 0) (q.cell 0)) × Q o a' × Repr q a' h'
  follow-cut t [] p₀ p q a h Q at tie R ready w c = absurd c
  follow-cut t (put d i x ∷ ops) p₀ p q a h Q at tie R ready w (inr c) =
      follow-cut t ops p₀ (stored_at (to_block d i x.0) p) q (stored a d i x) h Q at tie (block-like p a h d i x.0 x R) ready.1 w.0 c
  follow-cut t (put d i x ∷ ops) p₀ p q a h Q at tie R ready w (inl (e, c)) = (
    torn d i,
    stored a d i y,
    h,
    subst (λ z. OutIs (torn d i) z (is_other (p₀.cell 0) (q.cell 0))) (sym e) (refl, ready.0),
    w.1 y,
    rw c.after (switch-like false (put_at (to_block d i x.0) c.left p) (stored a d i y) h (subst (λ z. Repr (put_at (to_block d i x.0) z p) (stored a d i y) h) y-is (block-like p a h d i x.0 y R))),
  )
    where
      y : Block
      y = pack c.left

      y-is : (pack c.left).0 ≡ c.left
      y-is = pack-bytes c.left (is-sector c.left c.may)
  follow-cut t (note i x ∷ ops) p₀ p q a h Q at tie R ready w (inr c) =
      follow-cut t ops p₀ (stored_at (to_cell i x) p) q a h Q at (λ z. tie z ∙ rw (ne_eqb 0 i (λ e. let y = ready.0 in omega arith))) (note-like p a h i x x R ready.0) ready.1 w.0 c
  follow-cut t (note i x ∷ ops) p₀ p q a h Q at tie R ready w (inl (e, c)) = (
    stale i,
    a,
    h,
    subst (λ z. OutIs (stale i) z (is_other (p₀.cell 0) (q.cell 0))) (sym e) (rw (ne_eqb i 0 (λ e. let y = ready.0 in omega arith))),
    w.1,
    rw c.after (switch-like false (put_at (to_cell i x) c.left p) a h (note-like p a h i x c.left R ready.0)),
  )
  follow-cut t (seal l g h' ∷ ops) p₀ p q a h Q at tie R ready w (inr c) =
      follow-cut false ops p₀ (stored_at (to_cell 0 (header_bytes sh h')) p) q (sealed a l g) h' Q at (λ z. absurd (true≢false (sym z)))
      (seal-like p a h h' l g (header_bytes sh h') R ready.1 ready.2 ready.3 ready.4) ready.5 w.0 c
  follow-cut t (seal l g h' ∷ ops) p₀ p q a h Q at tie R ready w (inl (e, c)) =
      let z = seal-cut p₀ p q a h h' l g Q (tie ready.0) R ready.1 ready.2 ready.3 ready.4 w.1 w.2 c in
      (z.0, z.1, z.2, subst (λ v. OutIs z.0 v (is_other (p₀.cell 0) (q.cell 0))) (sym e) z.3, z.4, z.5)
