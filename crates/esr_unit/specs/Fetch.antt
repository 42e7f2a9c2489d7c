-- What a fetch of a whole blob leaves.
use Rattle.std.specs.Prelude.{◌≡◌, ◌⊎◌, ℕ, List, Some}
use Rattle.esr_model.specs.Names.{BlobName}
use Rattle.esr_model.specs.Values.{Bytes, Has}
use Rattle.esr_core.specs.Entry.{Step, Reply, Entry, Moment}
use Rattle.esr_desk.specs.declared.hand.Hand.{Hand}
use Rattle.esr_desk.specs.declared.hand.Hand.TheVariants as hands
use Rattle.esr_desk.specs.declared.refusal.StepRefusal.{StepRefusal}
use Rattle.esr_desk.specs.declared.refusal.StepRefusal.TheVariants.{Memory}
use Rattle.esr_desk.specs.Refusals.{told_refusal}
use Rattle.esr_desk.specs.Start.{Start, told_bytes}
use Rattle.esr_desk.specs.Own.{Own, made_of}
use Rattle.esr_desk.specs.Calls.{Call}
use Rattle.esr_desk.specs.Hands.{own_fetched}
use Rattle.esr_desk.specs.Outcome.{Waited, Stepped, Refusing, Grounds}
use Rattle.esr_desk.specs.Evidence.{Faulty}
use Rattle.esr_unit.specs.declared.trouble.Trouble.{Trouble}
use Rattle.esr_unit.specs.declared.trouble.Trouble.TheVariants as troubles

-- the step was refused so
abbrev pub IsRefusedBy : Start → List Moment → List Moment → ℕ → Step → StepRefusal → Type 0
IsRefusedBy s old new who step refusal = Refusing s old new who step (told_refusal refusal) × Grounds s new who refusal

-- the fetch was refused so, or memory was wanting as it was read, or it failed
abbrev pub FetchErr : {S F : Type 0} → (F → ℕ) → Start → List Moment → List Moment → ℕ → Step → Trouble S F → Type 0
FetchErr faults s old new who step (troubles.Step refusal) = IsRefusedBy s old new who step refusal ⊎ (refusal ≡ Memory)
FetchErr faults s old new who step (troubles.Fetch fetch) = Faulty s (faults fetch)
FetchErr faults s old new who step trouble = ⊥

-- it is as it was, or has fetched the blob
abbrev pub IsFetched : Hand → Start → BlobName → Own → Own → Type 0
IsFetched hand s name old new = (new ≡ old) ⊎ ((bytes : Bytes) × (new ≡ own_fetched hand (told_bytes s) name (Some bytes) old))

-- the step was made, with some answer; or none was
abbrev pub IsAsked : Start → List Moment → List Moment → ℕ → Step → Type 0
IsAsked s old new who step = Waited s old new who ⊎ ((reply : Reply) × Stepped s old new who step reply)

-- it has made this step alone, or none
abbrev pub MadeOne : Start → List Moment → List Moment → ℕ → Step → Type 0
MadeOne s old new who step = (e : Entry) → Has (made_of s new who) e → Has (made_of s old who) e ⊎ (e.step ≡ step)

-- a ticket's steps leave the calls of who 0
abbrev pub LeavesCalls : Hand → List Call → List Call → Type 0
LeavesCalls hands.Unit old new = new ≡ old
LeavesCalls hands.Delete old new = new ≡ old
LeavesCalls hands.Restore old new = new ≡ old
LeavesCalls hands.Check old new = Unit {0}
LeavesCalls hands.Verify old new = Unit {0}
