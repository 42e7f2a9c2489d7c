-- The checks of a run.
use Rattle.std.specs.Prelude.{◌≡◌, ℕ, Bool, false, ◌||◌, List, [], ◌∷◌, ◌++◌}
use Rattle.esr_model.specs.Values.{Has}
use Rattle.esr_core.specs.Entry.{LookStep, ReadStep, CheckedAll, ReadFails, Why, HasEnded, Moment}
use Rattle.esr_core.specs.Allowed.{IsChecking}
use Rattle.esr_desk.specs.Start.{Start, world_of}
use Rattle.esr_script.specs.declared.item.ScriptLine.{ScriptLine}
use Rattle.esr_script.specs.Kinds.{is_check}
use Rattle.esr_check.specs.Checked.{HasChecked}

-- Each check that ended well is whole, with exact counts: the steps up to its end, that among them, are just those of a good check, from
-- its look on.
abbrev pub AreChecked : Start → List Moment → Type 0
AreChecked s log = (front back : List Moment) (m : Moment) (snapshots blobs : ℕ) → log ≡ front ++ m ∷ back → m.entry.who ≡ 0 → m.entry.step ≡ ReadStep (CheckedAll snapshots blobs) → m.entry.reply ≡ HasEnded
    → (old : List Moment) × HasChecked s old (front ++ m ∷ []) snapshots blobs

-- no check was ended as failed
abbrev pub NoCheckFails : Start → List Moment → Type 0
NoCheckFails s log = (front back : List Moment) (m : Moment) (why : Why) → log ≡ front ++ m ∷ back → m.entry.who ≡ 0 → m.entry.step ≡ ReadStep (ReadFails why) → m.entry.reply ≡ HasEnded → IsChecking (world_of s front) → ⊥

-- who 0 has looked, with which a check begins
abbrev pub HasLooked : List Moment → Type 0
HasLooked log = (m : Moment) × Has log m × (m.entry.who ≡ 0) × (m.entry.step ≡ LookStep)

-- a line asks for a check
abbrev pub asks_check : List ScriptLine → Bool
asks_check [] = false
asks_check (line ∷ lines) = is_check line.item || asks_check lines
