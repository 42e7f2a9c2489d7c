-- What the steps of opening do before the record is written: they look into the container, and answer what is found in it.
use Rattle.std.specs.Prelude.{◌≡◌, ℕ, ◌≤◌, Option, Some, Result, Ok, Err}
use Rattle.esr_depot.specs.Image.{Image as Held}
use Rattle.esr_depot.specs.Look.{Look}
use Rattle.esr_opening.specs.Found.{Obstacle, Damage, LastTerm}
use Rattle.esr_opening.specs.Opening.{IsAsBefore, IsFault}
use Rattle.esr_opening.specs.declared.refusal.OpenRefusal.{OpenRefusal}
use Rattle.esr_opening.specs.declared.refusal.OpenRefusal.TheVariants as refusals

-- the container is as it was, but for its count of faults, which never falls
pub record Looked (before after : Look) (old_faults new_faults : ℕ) : Type 0 where
  pub kept : IsAsBefore before after
  pub later : old_faults ≤ new_faults

-- ---- of a container

-- A refusal tells what is found, where the container tells; a failed call or read has its cause.
abbrev pub Refuses : {F B : Type 0} → (F → ℕ) → Option Held → ℕ → ℕ → (Held → Result B Obstacle) → OpenRefusal F → Type 0
Refuses faults held old new finds refusals.Memory = Unit {0}
Refuses faults held old new finds (refusals.DepotFault fetch) = IsFault faults old new fetch
Refuses faults held old new finds (refusals.Damaged name why) = (i : Held) → held ≡ Some i → finds i ≡ Err (Damage name why)
Refuses faults held old new finds (refusals.TermsSpent term) = (i : Held) → held ≡ Some i → finds i ≡ Err (LastTerm term)

-- What is answered is what is found, where the container tells, unless memory was wanting or a call failed.
abbrev pub Answers : {F B : Type 0} → (F → ℕ) → Option Held → ℕ → ℕ → (Held → Result B Obstacle) → Result B (OpenRefusal F) → Type 0
Answers faults held old new finds (Ok x) = (i : Held) → held ≡ Some i → finds i ≡ Ok x
Answers faults held old new finds (Err e) = Refuses faults held old new finds e

-- ---- of what was read

-- the refusal tells what is found, unless memory was wanting
abbrev pub Blames : {F B : Type 0} → Result B Obstacle → OpenRefusal F → Type 0
Blames found refusals.Memory = Unit {0}
Blames found (refusals.DepotFault fetch) = ⊥
Blames found (refusals.Damaged name why) = found ≡ Err (Damage name why)
Blames found (refusals.TermsSpent term) = found ≡ Err (LastTerm term)

-- what is answered is what is found, unless memory was wanting
abbrev pub Says : {F B : Type 0} → Result B Obstacle → Result B (OpenRefusal F) → Type 0
Says found (Ok x) = found ≡ Ok x
Says found (Err e) = Blames found e
