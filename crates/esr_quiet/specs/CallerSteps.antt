-- Steps of tickets, takes of units, and elections leave what who 0 has done of a check or a verification.
use Rattle.std.proofs.Common.{◌≡◌, ◌≢◌, ◌⊎◌, ℕ, List, [], ◌∷◌, ◌++◌, Option, ap, ◌∙◌, inl, inr}
use Rattle.esr_core.specs.Laws.StepFrames as frames
use Rattle.esr_model.specs.Values.{Formats}
use Rattle.esr_model.specs.Image.{Image}
use Rattle.esr_core.specs.World.{World, Caller}
use Rattle.esr_core.specs.Entry.{Step, TakeStep, ElectStep, Reply, Moment}
use Rattle.esr_core.specs.After.{caller_after, answered, after}
use Rattle.esr_core.specs.Allowed.{Allowed}
use Rattle.esr_core.specs.Laws.ChangeLaws.{change_of}
use Rattle.esr_core.specs.Laws.Histories.{world_parts}
use Rattle.esr_desk.specs.Start.{Start, formats_of, world_of}
use Rattle.esr_desk.specs.Own.{caller_of}

-- ---- what a step makes of the world leaves it

answered_same : (f : Formats) (w : World) (who : ℕ) (step : Step) (reply : Reply) (image : Option Image) → (answered f w who step reply image).caller ≡ w.caller
answered_same f w who step reply image = frames.change_caller f w who step (answered f w who step reply image) (change_of f w who step reply image)

-- ---- a step of a ticket, a take, or an election

abbrev pub IsWork : Moment → Type 0
IsWork m = (m.entry.who ≢ 0) ⊎ ((m.entry.step ≡ TakeStep) ⊎ (m.entry.step ≡ ElectStep))

-- what is told of a take, or of an election, tells nothing of it
take_tells : (f : Formats) (c : Caller) (who : ℕ) (step : Step) (reply : Reply) (image : Option Image) → (step ≡ TakeStep) ⊎ (step ≡ ElectStep) → caller_after f c who step reply image ≡ c
take_tells f c who step reply image (inl take) = ap (λ (st : Step). caller_after f c who st reply image) take
take_tells f c who step reply image (inr elect) = ap (λ (st : Step). caller_after f c who st reply image) elect

pub caller_stays : (f : Formats) (size : ℕ) (w : World) (m : Moment) → Allowed f size w m → IsWork m → (after f w m).caller ≡ w.caller
caller_stays f size w m a work = elim work [
  | inl some ↦ frames.caller_stays f size w m a some
  | inr other ↦ take_tells f (answered f w m.entry.who m.entry.step m.entry.reply m.image).caller m.entry.who m.entry.step m.entry.reply m.image other ∙ answered_same f w m.entry.who m.entry.step m.entry.reply m.image
]

-- ---- what it is after a step

pub caller_one : (s : Start) (front : List Moment) (m : Moment) → caller_of s (front ++ m ∷ []) ≡ caller_after (formats_of s) (caller_of s front) m.entry.who m.entry.step m.entry.reply m.image
caller_one s front m =
    ap (λ (w : World). w.caller) (world_parts (formats_of s) front (m ∷ []) s.world)
    ∙ ap (λ (c : Caller). caller_after (formats_of s) c m.entry.who m.entry.step m.entry.reply m.image) (answered_same (formats_of s) (world_of s front) m.entry.who m.entry.step m.entry.reply m.image)

pub caller_left : (s : Start) (front : List Moment) (m : Moment) → Allowed (formats_of s) s.part_size (world_of s front) m → IsWork m → caller_of s (front ++ m ∷ []) ≡ caller_of s front
caller_left s front m a work = ap (λ (w : World). w.caller) (world_parts (formats_of s) front (m ∷ []) s.world) ∙ caller_stays (formats_of s) s.part_size (world_of s front) m a work
