-- That verifications and checks are made one after another, each for its line.
use Rattle.std.specs.Prelude.{◌≡◌, ◌⊎◌, ℕ, true, List, [], ◌∷◌, ◌++◌, None}
use Rattle.esr_model.specs.Values.{Has}
use Rattle.esr_core.specs.Entry.{Read, CheckedAll, ReadFails, LookStep, ReadStep, HasEnded, Moment}
use Rattle.esr_script.specs.declared.item.Item.{Item}
use Rattle.esr_script.specs.declared.item.Item.TheVariants as items
use Rattle.esr_script.specs.declared.item.Kind.TheVariants as kinds
use Rattle.esr_script.specs.declared.item.ScriptLine.{ScriptLine}
use Rattle.esr_script.specs.Kinds.{kind_of}
use Rattle.esr_desk.specs.Start.{Start}
use Rattle.esr_desk.specs.Own.{caller_of}
use Rattle.esr_desk.specs.Check.Shown.{AllFetches}
use Rattle.esr_quiet.specs.Asked.{is_line_ask, asked_steps}
use Rattle.esr_quiet.specs.Smooth.{NoneChecked}
use Rattle.esr_complete.specs.Lines.{steps_of_item}

-- who 0 has no verification open where a line asks for something, nor at the end
pub record IsInTurn (s : Start) (log : List Moment) : Type 0 where
  pub asked : (front back : List Moment) (m : Moment) → log ≡ front ++ m ∷ back → m.entry.who ≡ 0 → is_line_ask m.entry.step ≡ true → (caller_of s front).drawn ≡ None
  pub closed : (caller_of s log).drawn ≡ None

-- a check ends by it
abbrev pub IsEndOfCheck : Read → Type 0
IsEndOfCheck (CheckedAll snapshots blobs) = Unit {0}
IsEndOfCheck (ReadFails why) = Unit {0}
IsEndOfCheck read = ⊥

-- what a line adds that asks for a check: a look of who 0, fetches, and the end of the check
pub record IsCheckPart (part : List Moment) : Type 0 where
  pub look : Moment
  pub fetches : List Moment
  pub end : Moment
  pub is : part ≡ look ∷ fetches ++ end ∷ []
  pub looker : look.entry.who ≡ 0
  pub looks : look.entry.step ≡ LookStep
  pub all : AllFetches fetches
  pub ender : end.entry.who ≡ 0
  pub read : Read
  pub ends : end.entry.step ≡ ReadStep read
  pub is_end : IsEndOfCheck read
  pub ended : end.entry.reply ≡ HasEnded

-- what a line adds: in that of another line no check ends well
abbrev pub IsPart : Item → List Moment → Type 0
IsPart item part = elim (kind_of item) [ kinds.Check ↦ IsCheckPart part | kind ↦ NoneChecked part ]

-- each line has a part of the history of its own, in which what it asks for is asked, one part after another; in what comes after them
-- nothing is asked
abbrev pub AreParts : ℕ → List ScriptLine → List Moment → Type 0
AreParts moment [] log = (asked_steps log ≡ []) × NoneChecked log
AreParts moment (line ∷ lines) log = (part : List Moment) × (back : List Moment) × (log ≡ part ++ back) × (asked_steps part ≡ steps_of_item moment line.item) × IsPart line.item part × AreParts moment lines back

-- no line asks for a check
abbrev pub NoneAsksCheck : List ScriptLine → Type 0
NoneAsksCheck lines = (line : ScriptLine) → Has lines line → line.item ≡ items.Check → ⊥

-- no line asks for a check, and none ended well; or each line has its part
abbrev pub AreChecksInTurn : ℕ → List ScriptLine → List Moment → Type 0
AreChecksInTurn moment lines log = (NoneAsksCheck lines × NoneChecked log) ⊎ AreParts moment lines log
