-- The calls that the work adds to those of a desk.
use Rattle.std.specs.Prelude.{◌≡◌, ℕ, ◌≤◌, List, ◌++◌, Result, Ok, Err, Bool, true, false, OnOk}
use Rattle.esr_model.specs.Values.{Has}
use Rattle.esr_core.specs.Entry.{TakeStep}
use Rattle.esr_desk.specs.declared.refusal.StepRefusal.{StepRefusal}
use Rattle.esr_desk.specs.Calls.{Call}
use Rattle.esr_drive.specs.Takes.{idle_calls}

-- they are takes, of which so many found no unit ready
pub record TakeCalls (count : ℕ) (old new : List Call) : Type 0 where
  pub more : List Call
  pub is : new ≡ old ++ more
  pub takes : (c : Call) → Has more c → c.entry.step ≡ TakeStep
  pub idle : idle_calls more ≡ count

-- ... of which at most one did, and one where the work came to its end
pub record WorkedCalls (old new : List Call) (answer : Result (Unit {0}) StepRefusal) : Type 0 where
  pub more : List Call
  pub is : new ≡ old ++ more
  pub takes : (c : Call) → Has more c → c.entry.step ≡ TakeStep
  pub idle : idle_calls more ≤ 1
  pub one : OnOk answer (idle_calls more ≡ 1)

-- whether a take found no unit ready, by whether a unit was worked: 1, or 0
abbrev pub found_none : Result Bool StepRefusal → ℕ
found_none (Ok true) = 0
found_none (Ok false) = 1
found_none (Err refusal) = 0
