-- Calls made one after the other: one call more at the end.
use Rattle.std.proofs.Common.{◌≡◌, ℕ, ◌+◌, ◌-◌, ◌<◌, List, [], ◌∷◌, ◌++◌, map, length, get_or, take, sym, refl, ap, ◌∙◌, subst}
use Rattle.std.proofs.lemmas.List.{map-append, take_more}
use Rattle.backplane.specs.Plane.{Sector}
use Rattle.backplane.specs.declared.Backplane.{Ghosts as PlaneGhosts}
use Rattle.codes.specs.declared.code.Code.{Ghosts as CodeGhosts}
use Rattle.model.specs.Coding.{Coding, byte_coding}
use Rattle.model.specs.Verdict.{Ends}
use Rattle.model.specs.Rules.{verdict}
use Rattle.model.specs.Runs.{Device, Event, Given, is_new}
use Rattle.model.proofs.Whole.{ran-more}
use Rattle.array.specs.declared.array.Array.{Array}
use Rattle.array.specs.Calls.{view_of, coding_of, Follows}
use Rattle.run.specs.Calls.{Answer, call_of, reply_for}
use Rattle.run.specs.Runs.{asked_in, replied_in, MadeAll, device_of}
use Rattle.run.specs.declared.call.Call.{Call}

pub made_none : (K : Coding (List ℕ)) (w : ℕ) (u : Device (List ℕ)) (cs : List Call) (xs : List Answer) → xs ≡ [] → MadeAll K w u (take 0 cs) xs u
made_none K w u cs xs e = record { events = []; asked = refl; replied = ap (map reply_for) (sym e); ran = refl }

made_more : (K : Coding (List ℕ)) (w : ℕ) (u v z : Device (List ℕ)) (cs : List Call) (xs : List Answer) (c : Call) (x : Answer)
    → MadeAll K w u cs xs v → Given K Sector (call_of w c)
    → Ends Sector (K.pack []) (verdict K v.plane v.held (call_of w c)) v.plane v.held (reply_for x) z.plane z.held
    → MadeAll K w u (cs ++ c ∷ []) (xs ++ x ∷ []) z
made_more K w u v z cs xs c x m given ends =
    let e : Event (List ℕ) = record { call = call_of w c; reply = reply_for x; new = is_new K Sector v z } in
    record {
      events = m.events ++ e ∷ [];
      asked = map-append asked_in m.events (e ∷ []) ∙ (ap (λ (l : List _). l ++ call_of w c ∷ []) m.asked ∙ sym (map-append (call_of w) cs (c ∷ [])));
      replied = map-append replied_in m.events (e ∷ []) ∙ (ap (λ (l : List _). l ++ reply_for x ∷ []) m.replied ∙ sym (map-append reply_for xs (x ∷ [])));
      ran = ran-more K Sector m.events u v z e m.ran (record { given = given; ends = ends; told = refl });
    }

module _ {B C : Type 0} (plane : PlaneGhosts B) (code : CodeGhosts C) where
  -- the code on a backplane with n slots
  abbrev pub coding_for : ℕ → Coding (List ℕ)
  coding_for n = byte_coding (n - code.ROWS) code.NUMBER code.ROWS code.check code.solved

  -- the call in place i, after those before it
  pub further : (first a z : Array B C) (n w : ℕ) (cs : List Call) (i : ℕ) (d : Call) (xs : List Answer) (x : Answer)
      → i < length cs → n ≡ w → (view_of plane code a).slots ≡ (view_of plane code first).slots
      → MadeAll (coding_of plane code first) w (device_of plane code first) (take i cs) xs (device_of plane code a)
      → Given (coding_of plane code a) Sector (call_of n (get_or cs i d))
      → Follows plane code (call_of n (get_or cs i d)) a (reply_for x) z
      → MadeAll (coding_of plane code first) w (device_of plane code first) (take (i + 1) cs) (xs ++ x ∷ []) (device_of plane code z)
  further first a z n w cs i d xs x h long same m given follows =
      let c = get_or cs i d in
      let p = view_of plane code a in
      let q = view_of plane code z in
      let K = coding_of plane code first in
      let gives = subst (λ (k : ℕ). Given (coding_for k) Sector (call_of w c)) same (subst (λ (k : ℕ). Given (coding_of plane code a) Sector (call_of k c)) long given) in
      let ends = subst (λ (k : ℕ). Ends Sector [] (verdict (coding_for k) p a.header (call_of w c)) p a.header (reply_for x) q z.header) same
      (subst (λ (k : ℕ). Follows plane code (call_of k c) a (reply_for x) z) long follows) in
      subst (λ (l : List Call). MadeAll K w (device_of plane code first) l (xs ++ x ∷ []) (device_of plane code z)) (sym (take_more cs i d h))
      (made_more K w (device_of plane code first) (device_of plane code a) (device_of plane code z) (take i cs) xs c x m gives ends)
