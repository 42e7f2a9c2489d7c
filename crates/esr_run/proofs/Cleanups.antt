-- What a cleanup that comes to its end leaves in the container.
use Rattle.std.proofs.Common.{ℕ, Bool, List, ◌∷◌, ◌++◌, sym, subst}
use Rattle.esr_model.specs.Values.{Formats}
use Rattle.esr_core.specs.World.{World}
use Rattle.esr_core.specs.Entry.{Entry, Moment}
use Rattle.esr_core.specs.History.{world_from, IsLegal, AreTold}
use Rattle.esr_depot.specs.Look.{Look}
use Rattle.esr_opening.specs.Opening.{image_of, Kept, IsOpening}
use Rattle.esr_repo.specs.Log.{log_of}
use Rattle.esr_repo.specs.Past.{IsPast}
use Rattle.esr_law.specs.Exact.{HoldsExactly}
use Rattle.esr_run.specs.Start.{Telling, formats_by, LegalRun}
use Rattle.esr_run.specs.Cleaned.{IsCleaned, CleanupsLeaveReach}
use Rattle.esr_run.specs.Laws.{Laws}
use Rattle.esr_run.proofs.Keeping.{Ran, world_at, start_at, ran}
use Rattle.esr_run.proofs.Unlisted.{refuses_unlisted}

-- what reads as a root has no unlisted snapshots, so all that it reaches is there
cleaned_by : (files : Telling) (w : World) → HoldsExactly (formats_by files) w → IsCleaned (formats_by files) w
cleaned_by files w exact = record { reach = exact.all (refuses_unlisted files); alone = exact.alone; latest = exact.latest; listed = exact.listed }

pub cleanups_leave_reach : (laws : Laws) (files : Telling) (size : ℕ) (quiet : Bool) (before mid after : Look) (k : Kept) (history : List Entry) (o : IsOpening before mid k)
    → LegalRun (start_at files size quiet before mid k o) mid.clock after history → IsPast (start_at files size quiet before mid k o) mid.clock mid.since after history
    → CleanupsLeaveReach (formats_by files) (world_at before mid k o) (log_of after mid.clock history) before
cleanups_leave_reach laws files size quiet before mid after k history o run past shelf h front back last ticket split ended =
    let f : Formats = formats_by files in
    let w : World = world_at before mid k o in
    let r : Ran f size (image_of h.image) shelf w (log_of after mid.clock history) = ran files size quiet before mid after k history o run past shelf h in
    let left = laws.cleaned f size (image_of h.image) shelf w front back last ticket r.kept r.opened o.order.tracked (subst (IsLegal f size w) split r.legal) (subst AreTold split r.told) ended in
    (left.0, λ untested unchanged. subst (λ (l : List Moment). IsCleaned f (world_from f w l)) (sym split) (cleaned_by files (world_from f w (front ++ last ∷ back)) (left.1 untested unchanged)))
