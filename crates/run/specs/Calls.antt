-- What the calls of a run and their answers stand for in the rules.
use Rattle.std.specs.Prelude.{ℕ, List, Result}
use Rattle.faults.specs.declared.fault.ArrayFault.{ArrayFault}
use Rattle.model.specs.Rules as rules
use Rattle.model.specs.Verdict as verdict
use Rattle.array.specs.Calls.{reply_of, wiped}
use Rattle.run.specs.declared.call.Call.{Call}
use Rattle.run.specs.declared.call.Call.TheVariants.{Read, Clear, Pull, Fit, Rebuild, Start, Write, Fold}
use Rattle.run.specs.declared.call.Outcome.{Outcome}
use Rattle.run.specs.declared.call.Outcome.TheVariants.{Done, Block, Number}

abbrev pub Answer : Type 0
Answer = Result Outcome ArrayFault

-- a call with a work area of w bytes; a block is read into 512 bytes
abbrev pub call_of : ℕ → Call → rules.Call (List ℕ)
call_of w (Read number) = rules.Read number 512 w
call_of w Clear = rules.Clear w
call_of w (Pull slot) = rules.Pull slot
call_of w (Fit slot) = rules.Fit slot w
call_of w (Rebuild slot) = rules.Rebuild slot w
call_of w Start = rules.Start w
call_of w (Write number bytes) = rules.Write number bytes.now w
call_of w (Fold stripe) = rules.Fold stripe w

abbrev pub outcome_for : Outcome → verdict.Answer (List ℕ)
outcome_for Done = verdict.done
outcome_for (Block bytes) = verdict.of_block bytes
outcome_for (Number n) = verdict.of_number n

abbrev pub reply_for : Answer → verdict.Reply (List ℕ)
reply_for a = reply_of outcome_for a

-- the work area after a call: a pull takes none
abbrev pub area_after : Call → List ℕ → List ℕ
area_after (Read number) work = wiped work
area_after Clear work = wiped work
area_after (Pull slot) work = work
area_after (Fit slot) work = wiped work
area_after (Rebuild slot) work = wiped work
area_after Start work = wiped work
area_after (Write number bytes) work = wiped work
area_after (Fold stripe) work = wiped work
