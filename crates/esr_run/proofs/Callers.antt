-- What the steps of a wait leave of verifications.
use Rattle.std.proofs.Common.{◌≡◌, List, [], ◌∷◌, ◌++◌, append-nil, append_assoc, sym, ap, ◌∙◌, subst}
use Rattle.esr_core.specs.World.{World}
use Rattle.esr_core.specs.Entry.{Moment}
use Rattle.esr_core.specs.After.{after}
use Rattle.esr_desk.specs.Start.{Start, Legal, formats_of, world_of}
use Rattle.esr_desk.specs.Own.{caller_of}
use Rattle.esr_drive.specs.Elections.{AllOfWait}
use Rattle.esr_verify.specs.Idle.{IsIdle}
use Rattle.esr_run.specs.Made.{NoneOpen, IsWaiting}
use Rattle.esr_run.specs.Laws.{WorkLeaves}
use Rattle.esr_run.proofs.Making.{world_one, legal_one, legal_front}

pub caller_end : (s : Start) (log : List Moment) (m : Moment) → caller_of s (log ++ m ∷ []) ≡ (after (formats_of s) (world_of s log) m).caller
caller_end s log m = ap (λ (w : World). w.caller) (world_one (formats_of s) s.world log m)

pub caller_worked : (leaves : WorkLeaves) (s : Start) (log more : List Moment) → AllOfWait more → Legal s (log ++ more) → caller_of s (log ++ more) ≡ caller_of s log
caller_worked leaves s log [] work legal = ap (caller_of s) (append-nil log)
caller_worked leaves s log (m ∷ more) work legal =
    let whole : (log ++ m ∷ []) ++ more ≡ log ++ m ∷ more = append_assoc log (m ∷ []) more in
    let all : Legal s ((log ++ m ∷ []) ++ more) = subst (Legal s) (sym whole) legal in
    let one : Legal s (log ++ m ∷ []) = legal_front (formats_of s) s.part_size (log ++ m ∷ []) more s.world all in
    ap (caller_of s) (sym whole) ∙ caller_worked leaves s (log ++ m ∷ []) more work.1 all
    ∙ caller_end s log m ∙ leaves (formats_of s) s.part_size (world_of s log) m (legal_one (formats_of s) s.part_size s.world log m one).1.0 work.0

-- since a wait began none is open
pub waiting_closed : (leaves : WorkLeaves) (s : Start) (log : List Moment) → Legal s log → IsWaiting s log → NoneOpen s log
waiting_closed leaves s log legal w = subst IsIdle (sym (ap (caller_of s) w.is ∙ caller_worked leaves s w.start w.work w.all (subst (Legal s) w.is legal))) w.closed
