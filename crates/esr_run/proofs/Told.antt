-- A container that tells goes on telling.
use Rattle.std.proofs.Common.{◌≡◌, ℕ, Bool, true, false, true≢false, List, Option, Some, None, is_some, refl, sym, ◌∙◌}
use Rattle.esr_core.specs.World.{World}
use Rattle.esr_core.specs.Entry.{Entry}
use Rattle.esr_depot.specs.Image.{Image as Held}
use Rattle.esr_depot.specs.Look.{Look}
use Rattle.esr_repo.specs.Past.{IsPast}
use Rattle.esr_run.specs.Start.{Telling, start_of, LegalRun}
use Rattle.esr_run.specs.Told.{StaysTold}

-- what is taken for told is told
pub told_now : (image : Option Held) (tells : Bool) → (image ≡ None → tells ≡ false) → tells ≡ true → is_some image ≡ true
told_now None tells untold is = absurd (true≢false (sym is ∙ untold refl))
told_now (Some i) tells untold is = refl

pub stays_told : (files : Telling) (size : ℕ) (quiet : Bool) (before after : Look) (w : World) (clock : ℕ) (past : ℕ → Held → Type 0) (history : List Entry)
    → LegalRun (start_of files size quiet before w) clock after history → IsPast (start_of files size quiet before w) clock past after history → StaysTold before clock history after
stays_told files size quiet before after w clock past history run was is = record { moments = was.told is; ends = run.tells is }
