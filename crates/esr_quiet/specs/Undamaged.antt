-- That nothing was reported as damaged.
use Rattle.std.specs.Prelude.{◌≡◌, ◌≤◌, List, ◌∷◌, ◌++◌}
use Rattle.esr_model.specs.Values.{Has}
use Rattle.esr_core.specs.Entry.{Why, OfAbsence, OfUnreadable, OfPrint, OfDisagreement, FailedStep, ReadStep, ReadFails, PruneStep, DeleteFails, HasEnded, Moment}
use Rattle.esr_desk.specs.Start.{Start}
use Rattle.esr_desk.specs.Check.Shown.{SinceLook}
use Rattle.esr_quiet.specs.Smooth.{IsStaleTicket}

-- a blob is damaged: it is absent, or doesn't read, or a file has another print than is stated, or two blobs disagree
abbrev pub IsDamage : Why → Type 0
IsDamage (OfAbsence name) = Unit {0}
IsDamage (OfUnreadable name reason) = Unit {0}
IsDamage (OfPrint name stated_len stated_digest found_len found_digest) = Unit {0}
IsDamage (OfDisagreement name other) = Unit {0}
IsDamage why = ⊥

-- no unit of a snapshot or of a clone failed for damage
abbrev pub NoUnitFindsDamage : List Moment → Type 0
NoUnitFindsDamage log = (m : Moment) (why : Why) → Has log m → m.entry.step ≡ FailedStep why → m.entry.reply ≡ HasEnded → IsDamage why → ⊥

-- nor a shard of a restore
abbrev pub NoRestoreFindsDamage : List Moment → Type 0
NoRestoreFindsDamage log = (m : Moment) (why : Why) → Has log m → 1 ≤ m.entry.who → m.entry.step ≡ ReadStep (ReadFails why) → m.entry.reply ≡ HasEnded → IsDamage why → ⊥

-- nor a delete or cleanup, but for a stale ticket, which may read what a later one has removed
abbrev pub NoDeleteFindsDamage : Start → List Moment → Type 0
NoDeleteFindsDamage s log = (front back : List Moment) (m : Moment) (why : Why) → log ≡ front ++ m ∷ back → m.entry.step ≡ PruneStep (DeleteFails why) → m.entry.reply ≡ HasEnded → IsDamage why → IsStaleTicket s front m.entry.who

-- nor a check, which a look began
abbrev pub NoCheckFindsDamage : List Moment → Type 0
NoCheckFindsDamage log = (front back : List Moment) (m : Moment) (why : Why) → log ≡ front ++ m ∷ back → SinceLook front → m.entry.who ≡ 0 → m.entry.step ≡ ReadStep (ReadFails why) → m.entry.reply ≡ HasEnded → IsDamage why
    → ⊥
