-- Steps that ask, and looks.
use Rattle.std.proofs.Common.{◌≡◌, ℕ, List, sym, subst, None, refl}
use Rattle.esr_model.specs.Values.{RootSnap}
use Rattle.esr_core.specs.Entry.{Asked, Step, AskStep, LookStep, Moment, Looked}
use Rattle.esr_core.specs.Allowed.{Allows, Looking}
use Rattle.esr_desk.specs.Start.{Start, world_of, formats_of}
use Rattle.esr_desk.specs.Once.{IsFresh}
use Rattle.esr_repo.specs.Next.{GoesOn}
use Rattle.esr_repo.specs.May.{MayNote}
use Rattle.esr_repo.specs.Fresh.{free_fresh, IsFree}

-- a step that is one of those that may be made again
pub free_as : (s : Start) (log : List Moment) (who : ℕ) (given step : Step) → given ≡ step → IsFree step → IsFresh s log who given
free_as s log who given step is free = subst (λ (x : Step). IsFresh s log who x) (sym is) (free_fresh s log who step free)

-- an ask goes on whatever it asks for
pub goes_ask : (s : Start) (log : List Moment) (a b : Asked) → GoesOn s log 0 (AskStep a) → GoesOn s log 0 (AskStep b)
goes_ask s log a b goes = record {
  unaborted = λ by x. goes.unaborted by (record { t = x.t; out = x.out; op = x.op; op_there = x.op_there; by_is = x.by_is; no_drop = x.no_drop; no_failure = λ h. h });
  fresh = free_fresh s log 0 (AskStep b) tt;
  own = tt;
}

pub may_look : (s : Start) (log : List Moment) (snapshots : List RootSnap) (safe next : ℕ) → snapshots ≡ (world_of s log).root.snapshots → safe ≡ (world_of s log).safe → next ≡ (world_of s log).next_id
    → MayNote s log 0 LookStep (Looked snapshots safe) None next
may_look s log snapshots safe next listed safe_is next_is = record {
  plain = refl;
  allows = λ image tells same. subst (λ (x : List RootSnap). Allows (formats_of s) s.part_size (world_of s log) 0 LookStep (Looked x safe) image) (sym listed)
      (subst (λ (n : ℕ). Allows (formats_of s) s.part_size (world_of s log) 0 LookStep (Looked (world_of s log).root.snapshots n) image) (sym safe_is) (Looking image same));
  plan_is = λ image old h. h;
  next_is = λ image. next_is;
}
