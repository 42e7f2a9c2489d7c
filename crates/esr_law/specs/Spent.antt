-- How many terms, generations and ids a history asks for, and which of them are spent where a step is refused so.
use Rattle.std.specs.Prelude.{ℕ, zero, ◌+◌, ◌^◌, ◌≤◌, List, [], ◌∷◌}
use Rattle.esr_core.specs.World.{World}
use Rattle.esr_core.specs.Entry.{Step, RaiseStep, ElectStep, Refusal, GenerationsSpent, TermsSpent, IdsSpent, Moment}
use Rattle.esr_core.specs.Numbers.{ids_by}

-- whether who 0 asks for a term by the step: 1, or 0
abbrev pub terms_by : ℕ → Step → ℕ
terms_by zero ElectStep = 1
terms_by who step = 0

-- whether the step asks for a generation: 1, or 0
abbrev pub generations_by : Step → ℕ
generations_by RaiseStep = 1
generations_by step = 0

-- how many a history asks for
abbrev pub terms_in : List Moment → ℕ
terms_in [] = 0
terms_in (m ∷ log) = terms_by m.entry.who m.entry.step + terms_in log

abbrev pub generations_in : List Moment → ℕ
generations_in [] = 0
generations_in (m ∷ log) = generations_by m.entry.step + generations_in log

abbrev pub ids_in : List Moment → ℕ
ids_in [] = 0
ids_in (m ∷ log) = ids_by m.entry.step + ids_in log

-- Why a step of a history was refused so, which began in this world: what the history asks for takes the term or the generation past the
-- last one, or it asks for more ids than a term has.
abbrev pub SpentSo : World → List Moment → Refusal → Type 0
SpentSo w log (TermsSpent term) = 2 ^ 63 ≤ w.term + terms_in log
SpentSo w log (GenerationsSpent pending) = 2 ^ 63 ≤ w.pending + generations_in log
SpentSo w log (IdsSpent next) = 2 ^ 64 ≤ ids_in log
SpentSo w log refusal = Unit {0}
