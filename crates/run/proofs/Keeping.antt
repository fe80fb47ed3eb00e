-- Calls made on an array just formatted keep the promise.
use Rattle.std.proofs.Common.{◌≡◌, ℕ, ◌-◌, List, subst}
use Rattle.backplane.specs.Meaning.{Sound}
use Rattle.backplane.specs.declared.Backplane.{Ghosts as PlaneGhosts}
use Rattle.codes.specs.declared.code.Code.{Ghosts as CodeGhosts}
use Rattle.model.specs.ByteLaws.{ByteLaws}
use Rattle.model.specs.Coding.{Coding}
use Rattle.model.specs.Promise.{Formatted}
use Rattle.model.specs.Verdict.{answered, done}
use Rattle.model.specs.Rules.{formatting}
use Rattle.model.proofs.Format.{format-right}
use Rattle.model.proofs.Whole.{promise}
use Rattle.array.specs.declared.array.Array.{Array}
use Rattle.array.specs.Calls.{view_of, coding_of, Ended}
use Rattle.run.specs.Runs.{MadeAll, MadeSome, device_of, RunKept, FrontKept}
use Rattle.run.specs.declared.call.Call.{Call}
use Rattle.run.specs.Calls.{Answer}
use Rattle.run.proofs.Sizes.{ends-slots}
use Rattle.run.proofs.Making.{coding_for}

module _ {B C : Type 0} (plane : PlaneGhosts B) (code : CodeGhosts C) (W : ByteLaws code.NUMBER code.ROWS code.check code.solved)
    (a b z : Array B C) (n w : ℕ) (long : n ≡ w) (sound : Sound (view_of plane code a))
    (format : Ended plane code (formatting (coding_of plane code a) (view_of plane code a) w) a (answered done) b) where
  abbrev K : Coding (List ℕ)
  K = coding_of plane code a

  pub kept-all : (cs : List Call) (xs : List Answer) → MadeAll (coding_of plane code b) n (device_of plane code b) cs xs (device_of plane code z) → RunKept plane code a w cs xs z
  kept-all cs xs made =
      let formatted : Formatted K (device_of plane code b) =
      format-right code.NUMBER code.ROWS code.check code.solved W ((view_of plane code a).slots - code.ROWS) w (device_of plane code a) (device_of plane code b) sound format in
      let same = ends-slots (formatting K (view_of plane code a) w) (view_of plane code a) (view_of plane code b) a.header b.header (answered done) format in
      let all : MadeAll K w (device_of plane code b) cs xs (device_of plane code z) =
      subst (λ (k : ℕ). MadeAll K k (device_of plane code b) cs xs (device_of plane code z)) long
      (subst (λ (k : ℕ). MadeAll (coding_for plane code k) n (device_of plane code b) cs xs (device_of plane code z)) same made) in
      record {
        opened = device_of plane code b;
        format = format;
        formatted = formatted;
        made = all;
        kept = promise code.NUMBER code.ROWS code.check code.solved W ((view_of plane code a).slots - code.ROWS) (device_of plane code b) formatted all.events (device_of plane code z) all.ran;
      }

  pub kept-some : (cs : List Call) → MadeSome (coding_of plane code b) n (device_of plane code b) cs (device_of plane code z) → FrontKept plane code a w cs z
  kept-some cs m = record { many = m.many; within = m.within; answers = m.answers; front = kept-all _ m.answers m.made }
