-- From the settle of a delete or cleanup to its end.
use Rattle.std.proofs.Common.{◌≡◌, ◌≤◌, ◌↔◌, ⊎_elim, ℕ, Bool, true, false, List, map, Some, Result, Ok, Err, OnOk, OnErr, refl, sym, ap, ◌∙◌, subst}
use Rattle.std.specs.List.{AllByRecursion}
use Rattle.esr_model.specs.Lists.{Has-mapped, Has-map, all_has}
use Rattle.esr_names.specs.declared.blob.BlobName.{BlobName as CodeName}
use Rattle.esr_names.specs.Layout.{IsName}
use Rattle.esr_model.specs.Names.{BlobName}
use Rattle.esr_model.specs.Values.{Has, RootData, Formats}
use Rattle.esr_core.specs.World.{Ticket, Work, Swap, Deleting}
use Rattle.esr_core.specs.Pruning.{doomed_as, doomed_by, dooms}
use Rattle.esr_core.specs.Past.{IsRemoval}
use Rattle.esr_core.specs.Allowed.{HasPutLatest}
use Rattle.esr_core.specs.Entry.{SettlePruned, RemoveDoomed, EndDelete, DroppedStep, PruneStep, Reply, HasEnded, Moment}
use Rattle.esr_formats.specs.Names.{name_of}
use Rattle.esr_desk.specs.declared.refusal.StepRefusal.{StepRefusal}
use Rattle.esr_desk.specs.Start.{Start, formats_of, ticket_of, world_of}
use Rattle.esr_desk.specs.Own.{made_of}
use Rattle.esr_desk.specs.Outcome.{Stepped, Outcome}
use Rattle.esr_desk.specs.Taken.{HasEndedAs}
use Rattle.esr_desk.specs.Told.{TellsAll, none_removed, drop_fresh}
use Rattle.esr_desk.specs.Made.{stepped_made, fresh_after}
use Rattle.esr_desk.specs.Once.{IsFresh}
use Rattle.esr_desk.specs.Delete.Conditions.{CanSettleDelete, CanEndDelete, CanEndCleanup}
use Rattle.esr_desk.specs.Delete.Named.{AreNamed, ended_named}
use Rattle.esr_desk.specs.Delete.Cleaned.{AreGone, NoneFailed, none_failed_yet, none_failed_on}
use Rattle.esr_delete.specs.Ticket.{IsOver}
use Rattle.esr_delete.specs.Removed.{NoneRemoved, AreUnnamed, IsSettledPlan, MayRemove, HasRemoved, IsCleared}

-- ---- what it dooms

-- it is the same after the settle
as_settled : (f : Formats) (t : Ticket) (uuids : List ℕ) (s : Swap) (clean : Bool) → doomed_as f (record t { settled = true }) uuids s clean ≡ doomed_as f t uuids s clean
as_settled f t uuids s false = refl
as_settled f t uuids s true = refl

doomed_settled : (f : Formats) (t : Ticket) (w : Work) → doomed_by f (record t { settled = true }) w ≡ doomed_by f t w
doomed_settled f t (Deleting uuids (Some s)) = as_settled f t uuids s t.clean
doomed_settled f t w = refl

pub dooms_settled : (f : Formats) (old new : Ticket) (names : List BlobName) → new ≡ record old { settled = true } → names ≡ dooms f old → names ≡ dooms f new
dooms_settled f old new names is names_are = names_are ∙ sym (doomed_settled f old old.work) ∙ ap (dooms f) (sym is)

-- ---- after the settle

pub over_settled : (s : Start) (old new : Ticket) (root : RootData) → CanSettleDelete s old root → new ≡ record old { settled = true } → IsSettledPlan new
over_settled s old new root may is = record {
  out = ap (λ (t : Ticket). t.out) is ∙ may.settle.put.out;
  settled = ap (λ (t : Ticket). t.settled) is;
  uuids = may.uuids;
  plan = may.settle.change;
  work = ap (λ (t : Ticket). t.work) is ∙ may.work;
}

-- it has removed nothing so far
no_removal : (was : List BlobName) → PruneStep SettlePruned ≡ PruneStep (RemoveDoomed was) → ⊥
no_removal was e = cc

pub none_yet : (s : Start) (old new : List Moment) (who : ℕ) (reply : Reply) → 1 ≤ who → TellsAll s old who → (ticket_of s old who).settled ≡ false → Stepped s old new who (PruneStep SettlePruned) reply → NoneRemoved s new who
none_yet s old new who reply ticket tells unsettled h e has was is =
    ⊎_elim
    (λ (before : Has (made_of s old who) e). none_removed s old who e was tells unsettled before is)
    (λ (here : e.step ≡ PruneStep SettlePruned). no_removal was (sym here ∙ is))
    (stepped_made s old new who (PruneStep SettlePruned) reply ticket h e has)

-- and none of its removals has failed
no_removal_step : IsRemoval (PruneStep SettlePruned) → ⊥
no_removal_step is = is

pub none_failed : (s : Start) (old new : List Moment) (who : ℕ) (reply : Reply) → 1 ≤ who → TellsAll s old who → (ticket_of s old who).settled ≡ false → Stepped s old new who (PruneStep SettlePruned) reply → NoneFailed s new who
none_failed s old new who reply ticket tells unsettled h = none_failed_on s old new who (PruneStep SettlePruned) reply ticket (none_failed_yet s old who tells unsettled) (λ is. absurd (no_removal_step is)) h

-- it has not asked to drop its op
pub still_undropped : (s : Start) (old new : List Moment) (who : ℕ) (reply : Reply) → 1 ≤ who → TellsAll s old who → Stepped s old new who (PruneStep SettlePruned) reply → IsFresh s new who DroppedStep
still_undropped s old new who reply ticket tells h = fresh_after s old new who DroppedStep (PruneStep SettlePruned) reply ticket (λ same. same) (drop_fresh s old who tells) h

pub none_named : (s : Start) (log : List Moment) (who : ℕ) (names : List BlobName) → NoneRemoved s log who → AreUnnamed s log who names
none_named s log who names none e has was is name mine gone = none e has was is

-- ---- the names, each once

-- what is doomed is among them
pub may_remove : (s : Start) (t : Ticket) (names once : List CodeName) → IsSettledPlan t → (s.tells ≡ true → map name_of names ≡ dooms (formats_of s) t) → ((name : CodeName) → Has once name ↔ Has names name)
    → MayRemove s t (map name_of once)
may_remove s t names once over are same = record {
  over = over;
  doomed = λ tells name has.
      let found = Has-mapped name_of once name has in
      subst (λ (l : List BlobName). Has l name) (are tells)
      (subst (Has (map name_of names)) found.2 (Has-map name_of names found.0 ((same found.0).0 found.1)));
}

pub once_layout : (items once : List CodeName) → ((name : CodeName) → Has once name ↔ Has items name) → AllByRecursion IsName items → (name : CodeName) → Has once name → IsName name
once_layout items once same laid name has = all_has IsName items name laid ((same name).0 has)

-- all of it was named
module _ (s : Start) (old log : List Moment) (who : ℕ) (names : List BlobName) (kept : ticket_of s log who ≡ ticket_of s old who) (over : IsSettledPlan (ticket_of s old who)) where
  kept_plan : IsSettledPlan (ticket_of s log who)
  kept_plan = subst IsSettledPlan (sym kept) over

  pub can_end : (ticket_of s old who).clean ≡ false → (s.tells ≡ true → names ≡ dooms (formats_of s) (ticket_of s old who)) → HasRemoved false s old log who names → CanEndDelete s log who
  can_end mode are removed = record {
    out = kept_plan.out;
    settled = kept_plan.settled;
    uuids = kept_plan.uuids;
    plan = kept_plan.plan;
    work = kept_plan.work;
    deletes = ap (λ (t : Ticket). t.clean) kept ∙ mode;
    removed = λ tells. subst (AreNamed s log who) (are tells ∙ ap (dooms (formats_of s)) (sym kept)) removed.named;
  }

  -- or taken away
  pub can_end_cleanup : (ticket_of s old who).clean ≡ true → (s.tells ≡ true → names ≡ dooms (formats_of s) (ticket_of s old who)) → NoneFailed s old who → HasPutLatest (world_of s old) who → HasRemoved true s old log who names
      → CanEndCleanup s log who
  can_end_cleanup mode are well put removed = record {
    out = kept_plan.out;
    settled = kept_plan.settled;
    uuids = kept_plan.uuids;
    plan = kept_plan.plan;
    work = kept_plan.work;
    cleans = ap (λ (t : Ticket). t.clean) kept ∙ mode;
    latest = removed.put put;
    removals = removed.well refl well;
    removed = λ tells. subst (AreGone s log who) (are tells ∙ ap (dooms (formats_of s)) (sym kept)) (removed.gone refl);
  }

-- ---- the end

-- by its answer
pub ended_ok : (s : Start) (old mid new : List Moment) (who : ℕ) (result : Result (Unit {0}) StepRefusal) → 1 ≤ who → ticket_of s mid who ≡ ticket_of s old who → CanEndDelete s mid who
    → OnOk result (HasEndedAs (ticket_of s mid who) (ticket_of s new who))
    → Outcome s mid new who (PruneStep EndDelete) (λ x. HasEnded) result → OnOk result (IsCleared false s old new who)
ended_ok s old mid new who (Ok x) ticket kept can own step = record {
  own = own ∙ ap (λ (t : Ticket). record t { out = false }) kept;
  done = ended_named s mid new who ticket can step;
}
ended_ok s old mid new who (Err e) ticket kept can own step = tt

pub ended_kept : (a b c : Ticket) (result : Result (Unit {0}) StepRefusal) → b ≡ a → OnErr result (c ≡ b) → OnErr result (c ≡ a)
ended_kept a b c (Ok x) kept h = tt
ended_kept a b c (Err e) kept h = h ∙ kept

-- what went before left the ticket as it was
pub cleared_on : (clean : Bool) (s : Start) (old mid new : List Moment) (who : ℕ) → ticket_of s mid who ≡ ticket_of s old who → IsCleared clean s mid new who → IsCleared clean s old new who
cleared_on clean s old mid new who kept cleared = record { own = cleared.own ∙ ap (λ (t : Ticket). record t { out = false }) kept; done = cleared.done }

-- after the settle
pub over_cleared : (clean : Bool) (s : Start) (old mid new : List Moment) (who : ℕ) → ticket_of s mid who ≡ record (ticket_of s old who) { settled = true } → IsCleared clean s mid new who → IsOver clean s old new who
over_cleared clean s old mid new who settled cleared = record {
  is = cleared.own ∙ ap (λ (t : Ticket). record t { out = false }) settled;
  done = cleared.done;
}
