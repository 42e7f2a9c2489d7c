-- A check ends.
use Rattle.std.proofs.Common.{◌≡◌, ℕ, List, Option, None, refl, sym, subst}
use Rattle.esr_model.specs.Image.{Image}
use Rattle.esr_core.specs.World.{no_caller}
use Rattle.esr_core.specs.Entry.{CheckedAll, ReadStep, HasEnded, Moment}
use Rattle.esr_core.specs.Allowed.{Checks, CheckingAll, Reading}
use Rattle.esr_desk.specs.Start.{Start, formats_of, world_of}
use Rattle.esr_desk.specs.Own.{caller_of}
use Rattle.esr_desk.specs.Check.Conditions.{CanEndCheck}
use Rattle.esr_repo.specs.Next.{Added, CallersTold}
use Rattle.esr_repo.specs.May.{CanTell, MayNote}
use Rattle.esr_repo.specs.Stepping.{told_if}

checks : (s : Start) (log : List Moment) (snapshots blobs : ℕ) (image : Option Image) → CanEndCheck s log snapshots blobs → CanTell s image → Checks (formats_of s) (world_of s log) snapshots blobs image
checks s log snapshots blobs image can tells = record { is_open = can.is_open; snapshots_is = can.snapshots_is; blobs_is = can.blobs_is; present = can.present; told = told_if s image _ tells can.done }

pub may_note_checked : (s : Start) (old log : List Moment) (snapshots blobs next : ℕ) → log ≡ old → CanEndCheck s old snapshots blobs → next ≡ (world_of s log).next_id
    → MayNote s log 0 (ReadStep (CheckedAll snapshots blobs)) HasEnded None next
may_note_checked s old log snapshots blobs next e before next_is =
    let can : CanEndCheck s log snapshots blobs = subst (λ (l : List Moment). CanEndCheck s l snapshots blobs) (sym e) before in
    record {
      plain = refl;
      allows = λ image tells same. Reading 0 (CheckedAll snapshots blobs) HasEnded image (CheckingAll snapshots blobs image (checks s log snapshots blobs image can tells)) same;
      plan_is = λ image p h. h;
      next_is = λ image. next_is;
    }

pub checked_caller : (law : CallersTold) (s : Start) (old new : List Moment) (snapshots blobs : ℕ) → Added s old new 0 (ReadStep (CheckedAll snapshots blobs)) HasEnded → caller_of s new ≡ no_caller
checked_caller law s old new snapshots blobs a = law s old new 0 (ReadStep (CheckedAll snapshots blobs)) HasEnded a
