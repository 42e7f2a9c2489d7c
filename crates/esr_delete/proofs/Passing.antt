-- What a removal, the settle and the end of a ticket were answered, and where the unit stops then.
use Rattle.std.proofs.Common.{◌≡◌, ◌⊎◌, ◌≤◌, inl, inr, ⊎_elim, ℕ, Bool, true, false, List, ◌++◌, Option, Some, Result, Ok, Err, IfErr, OnErr, refl, sym, ap, ◌∙◌, subst, true≢false}
use Rattle.esr_model.specs.Lists.{Has-either}
use Rattle.esr_model.specs.Names.{BlobName}
use Rattle.esr_model.specs.Values.{Has}
use Rattle.esr_core.specs.World.{World, Ticket, Deleting, Swap}
use Rattle.esr_core.specs.Past.{is_counted, removal_names}
use Rattle.esr_core.specs.Entry.{SettlePruned, RemoveDoomed, EndDelete, DroppedStep, Step, PruneStep, Reply, WasRemoved, HasEnded, Refusal, DepotFault, Refused, Moment}
use Rattle.esr_core.specs.Allowed.{ByFailedSwap, ByDelete}
use Rattle.esr_core.specs.Refusing.{MayRefuse, RemoveDoomedFault, RefusedSo}
use Rattle.esr_desk.specs.declared.refusal.EntryRefusal.{EntryRefusal}
use Rattle.esr_desk.specs.declared.refusal.EntryRefusal.TheVariants as refusals
use Rattle.esr_desk.specs.declared.refusal.StepRefusal.{StepRefusal}
use Rattle.esr_desk.specs.declared.refusal.StepRefusal.TheVariants as steps
use Rattle.esr_desk.specs.declared.hand.Hand.TheVariants as hands
use Rattle.esr_desk.specs.Refusals.{refusal_of, told_refusal}
use Rattle.esr_desk.specs.Start.{Start, world_of, ticket_of}
use Rattle.esr_desk.specs.Own.{made_of}
use Rattle.esr_desk.specs.Outcome.{Stepped, Refusing, Outcome, Grounds}
use Rattle.esr_desk.specs.Taken.{LeftBy, IsSettled, HasEndedAs}
use Rattle.esr_desk.specs.Last.{IsLast}
use Rattle.esr_desk.specs.Halts.{Halts}
use Rattle.esr_desk.specs.Evidence.{Evidence}
use Rattle.esr_desk.specs.Delete.Named.{AreNamed, removal_named, still_named}
use Rattle.esr_unit.specs.declared.trouble.Trouble.TheVariants as troubles
use Rattle.esr_unit.specs.Fetch.{IsRefusedBy}
use Rattle.esr_unit.specs.Shown.{Shown}
use Rattle.esr_unit.specs.Refusals.{RefusesSo, last_refused, delete_refused}
use Rattle.esr_finish.specs.Refused.{is_fault}
use Rattle.esr_finish.specs.Stops.{IsBlock}
use Rattle.esr_delete.specs.Refused.{Stops, IsRemovalRefused, IsStillOrEnded, IsLeftAt}
use Rattle.esr_delete.specs.Removed.{IsSettledPlan, Removed, passed_by}
use Rattle.esr_delete.proofs.Going.{prune_shown, master_out}

-- ---- where it halts

so_blocked : (w : World) (who : ℕ) (step : Step) (refusal : Refusal) → (MayRefuse step refusal → ⊥) → RefusedSo w who step refusal → IsBlock refusal
so_blocked w who step refusal never (inl (ByFailedSwap place deposed)) = tt
so_blocked w who step refusal never (inl (ByDelete op deposed aborted)) = tt
so_blocked w who step refusal never (inr may) = absurd (never may)

-- the ticket is a delete's, which no delete aborts
abbrev pub IsDeletes : Ticket → Type 0
IsDeletes t = (uuids : List ℕ) × (plan : Option Swap) × (t.work ≡ Deleting uuids plan)

block_halts : (s : Start) (old new : List Moment) (who : ℕ) (step : Step) (x : EntryRefusal) → IsBlock (refusal_of x) → IsDeletes (ticket_of s new who) → Stepped s old new who step (Refused (refusal_of x))
    → Grounds s new who (steps.Refused x)
    → Halts s new who (steps.Refused x)
block_halts s old new who step (refusals.Deposed entry) block deletes h grounds = (step, record { front = h.front; image = h.image; is = h.is })
block_halts s old new who step (refusals.Aborted op) block deletes h grounds = absurd (grounds.no_delete deletes.0 deletes.1 deletes.2)
block_halts s old new who step x block deletes h grounds = absurd block

-- a step was refused that may be refused for nothing else
step_halts : (s : Start) (old new : List Moment) (who : ℕ) (step : Step) (x : EntryRefusal) → RefusesSo → (MayRefuse step (refusal_of x) → ⊥) → IsDeletes (ticket_of s new who) → Stepped s old new who step (Refused (refusal_of x))
    → Grounds s new who (steps.Refused x) → Halts s new who (steps.Refused x)
step_halts s old new who step x law never deletes h grounds =
    block_halts s old new who step x (so_blocked (world_of s h.front) who step (refusal_of x) never (last_refused law s old new who step (refusal_of x) h)) deletes h grounds

none_end : (refusal : Refusal) → MayRefuse (PruneStep EndDelete) refusal → ⊥
none_end refusal may = elim may [ ]

-- the end
end_halts : (s : Start) (old new : List Moment) (who : ℕ) (refusal : StepRefusal) → RefusesSo → IsDeletes (ticket_of s new who) → IsRefusedBy s old new who (PruneStep EndDelete) refusal → Halts s new who refusal
end_halts s old new who steps.Memory law deletes h = tt
end_halts s old new who steps.TurnsSpent law deletes h = h.1
end_halts s old new who (steps.Refused x) law deletes h = step_halts s old new who (PruneStep EndDelete) x law (none_end (refusal_of x)) deletes h.0 h.1

-- by its answer; the ticket stays where it was refused
pub ended_halts : (s : Start) (old new : List Moment) (who : ℕ) (result : Result (Unit {0}) StepRefusal) → RefusesSo → IsDeletes (ticket_of s old who) → OnErr result (ticket_of s new who ≡ ticket_of s old who)
    → Outcome s old new who (PruneStep EndDelete) (λ x. HasEnded) result → IfErr result (λ e. Halts s new who e)
ended_halts s old new who (Ok x) law deletes kept h = tt
ended_halts s old new who (Err e) law deletes kept h = end_halts s old new who e law (subst IsDeletes (sym kept) deletes) h

-- ---- where it stops

-- what halts it is no record swap that failed
pub halts_stops : (clean : Bool) (s : Start) (log : List Moment) (who : ℕ) (refusal : StepRefusal) → Halts s log who refusal → Stops clean s log who refusal
halts_stops clean s log who (steps.Refused refusals.DepotFault) h = absurd h
halts_stops clean s log who refusal h = h

-- the record swap of the settle failed; the ticket may have settled
pub settle_stops : (clean : Bool) (s : Start) (old new : List Moment) (who : ℕ) (refusal : StepRefusal) → is_fault refusal ≡ true
    → LeftBy {X = Unit {0}} (IsSettled (ticket_of s old who)) (Err refusal) (ticket_of s old who) (ticket_of s new who)
    → Refusing s old new who (PruneStep SettlePruned) (told_refusal refusal) → IsLeftAt clean new who refusal (ticket_of s old who) (ticket_of s new who) × Stops clean s new who refusal
settle_stops clean s old new who (steps.Refused refusals.DepotFault) fault left h = (inl left, inl (record { front = h.front; image = h.image; is = h.is }))
settle_stops clean s old new who refusal fault left h = absurd (true≢false (sym fault))

-- that of the drop; the ticket may have ended
left_by_drop : (log : List Moment) (who : ℕ) (old new : Ticket) → IsLast log who DroppedStep (Refused DepotFault) → (new ≡ old) ⊎ HasEndedAs old new → IsStillOrEnded log who (steps.Refused refusals.DepotFault) old new
left_by_drop log who old new last (inl same) = inl same
left_by_drop log who old new last (inr ended) = inr (ended, last)

pub drop_stops : (s : Start) (old new : List Moment) (who : ℕ) (refusal : StepRefusal) → is_fault refusal ≡ true → LeftBy {X = Unit {0}} (HasEndedAs (ticket_of s old who)) (Err refusal) (ticket_of s old who) (ticket_of s new who)
    → Refusing s old new who DroppedStep (told_refusal refusal) → IsStillOrEnded new who refusal (ticket_of s old who) (ticket_of s new who) × Stops true s new who refusal
drop_stops s old new who (steps.Refused refusals.DepotFault) fault left h =
    let last : IsLast new who DroppedStep (Refused DepotFault) = record { front = h.front; image = h.image; is = h.is } in
    (left_by_drop new who (ticket_of s old who) (ticket_of s new who) last left, inr (refl, last))
drop_stops s old new who refusal fault left h = absurd (true≢false (sym fault))

-- ---- a removal, in which the container may have failed

-- its answer: well, or a failure of the container, or another refusal, which is passed on
data Passing : Result (Unit {0}) StepRefusal → Type 0 where
  Well : (x : Unit {0}) → Passing (Ok x)
  Failing : Passing (Err (steps.Refused refusals.DepotFault))
  Halting : (e : StepRefusal) → passed_by false (Err e) ≡ Err e → (e ≡ steps.Refused refusals.DepotFault → ⊥) → Passing (Err e)

passing : (r : Result (Unit {0}) StepRefusal) → Passing r
passing (Ok x) = Well x
passing (Err steps.Memory) = Halting steps.Memory refl (λ e. cc)
passing (Err steps.TurnsSpent) = Halting steps.TurnsSpent refl (λ e. cc)
passing (Err (steps.Refused refusals.DepotFault)) = Failing
passing (Err (steps.Refused (refusals.CleanupRunning op))) = Halting (steps.Refused (refusals.CleanupRunning op)) refl (λ e. cc)
passing (Err (steps.Refused (refusals.NameInUse uuid))) = Halting (steps.Refused (refusals.NameInUse uuid)) refl (λ e. cc)
passing (Err (steps.Refused (refusals.TooMany limit))) = Halting (steps.Refused (refusals.TooMany limit)) refl (λ e. cc)
passing (Err (steps.Refused (refusals.Deposed entry))) = Halting (steps.Refused (refusals.Deposed entry)) refl (λ e. cc)
passing (Err (steps.Refused (refusals.Aborted by))) = Halting (steps.Refused (refusals.Aborted by)) refl (λ e. cc)
passing (Err (steps.Refused (refusals.StaleTerm own now))) = Halting (steps.Refused (refusals.StaleTerm own now)) refl (λ e. cc)
passing (Err (steps.Refused (refusals.GenerationsSpent number))) = Halting (steps.Refused (refusals.GenerationsSpent number)) refl (λ e. cc)
passing (Err (steps.Refused (refusals.TermsSpent number))) = Halting (steps.Refused (refusals.TermsSpent number)) refl (λ e. cc)
passing (Err (steps.Refused (refusals.IdsSpent next))) = Halting (steps.Refused (refusals.IdsSpent next)) refl (λ e. cc)
passing (Err (steps.Refused (refusals.NameTaken name))) = Halting (steps.Refused (refusals.NameTaken name)) refl (λ e. cc)
passing (Err (steps.Refused (refusals.NoSnapshot place))) = Halting (steps.Refused (refusals.NoSnapshot place)) refl (λ e. cc)
passing (Err (steps.Refused (refusals.NoIndex place))) = Halting (steps.Refused (refusals.NoIndex place)) refl (λ e. cc)
passing (Err (steps.Refused (refusals.BeingDeleted op))) = Halting (steps.Refused (refusals.BeingDeleted op)) refl (λ e. cc)
passing (Err (steps.Refused (refusals.CloneRunning op))) = Halting (steps.Refused (refusals.CloneRunning op)) refl (λ e. cc)
passing (Err (steps.Refused (refusals.RestoreRunning op))) = Halting (steps.Refused (refusals.RestoreRunning op)) refl (λ e. cc)
passing (Err (steps.Refused (refusals.BusyOp op))) = Halting (steps.Refused (refusals.BusyOp op)) refl (λ e. cc)
passing (Err (steps.Refused (refusals.BusyTicket ticket))) = Halting (steps.Refused (refusals.BusyTicket ticket)) refl (λ e. cc)

ok_err : (x : Unit {0}) (e : StepRefusal) → ◌≡◌ {A = Result (Unit {0}) StepRefusal} (Ok x) (Err e) → ⊥
ok_err x e is = cc

same_err : (d e : StepRefusal) → ◌≡◌ {A = Result (Unit {0}) StepRefusal} (Err d) (Err e) → d ≡ e
same_err d e is = cc

-- these are named, and what was named before still is
more : (s : Start) (old new : List Moment) (who : ℕ) (names : List BlobName) (reply : Reply) → 1 ≤ who → is_counted reply ≡ true → Stepped s old new who (PruneStep (RemoveDoomed names)) reply
    → AreNamed s new who (names ++ removal_names (made_of s old who))
more s old new who names reply ticket counted h name has = ⊎_elim
    (λ (here : Has names name). removal_named s old new who names reply counted h name here)
    (λ (before : Has (removal_names (made_of s old who)) name). still_named s old new who (RemoveDoomed names) reply ticket h name before)
    (Has-either names (removal_names (made_of s old who)) name has)

removed_as : (s : Start) (old new : List Moment) (who : ℕ) (names : List BlobName) (r : Result (Unit {0}) StepRefusal) (y : Unit {0}) → Passing r → passed_by false r ≡ Ok y → 1 ≤ who
    → Outcome s old new who (PruneStep (RemoveDoomed names)) (λ x. WasRemoved) r
    → Removed false s old new who names
removed_as s old new who names r y (Well x) is ticket h = record { reply = WasRemoved; step = h; more = more s old new who names WasRemoved ticket refl h; well = λ cleans. absurd (true≢false (sym cleans)) }
removed_as s old new who names r y Failing is ticket h = record { reply = Refused DepotFault; step = h.0; more = more s old new who names (Refused DepotFault) ticket refl h.0; well = λ cleans. absurd (true≢false (sym cleans)) }
removed_as s old new who names r y (Halting e same other) is ticket h = absurd (ok_err y e (sym is ∙ same))

-- where it counts as made its names were named
pub passed_removed : (clean : Bool) (s : Start) (old new : List Moment) (who : ℕ) (names : List BlobName) (r : Result (Unit {0}) StepRefusal) (y : Unit {0}) → 1 ≤ who → Ok y ≡ passed_by clean r
    → Outcome s old new who (PruneStep (RemoveDoomed names)) (λ x. WasRemoved) r
    → Removed clean s old new who names
passed_removed false s old new who names r y ticket is h = removed_as s old new who names r y (passing r) (sym is) ticket h
passed_removed true s old new who names (Ok x) y ticket is h = record { reply = WasRemoved; step = h; more = more s old new who names WasRemoved ticket refl h; well = λ cleans. refl }
passed_removed true s old new who names (Err e) y ticket is h = absurd (ok_err y e is)

removal_fault : (names : List BlobName) (refusal : Refusal) → MayRefuse (PruneStep (RemoveDoomed names)) refusal → refusal ≡ DepotFault
removal_fault names refusal (RemoveDoomedFault ns) = refl

fault_is : (refusal : EntryRefusal) → refusal_of refusal ≡ DepotFault → refusal ≡ refusals.DepotFault
fault_is refusals.DepotFault is = refl
fault_is refusal is = absurd cc

removal_halts : (s : Start) (old new : List Moment) (who : ℕ) (names : List BlobName) (e : StepRefusal) → RefusesSo → IsDeletes (ticket_of s new who) → (e ≡ steps.Refused refusals.DepotFault → ⊥)
    → IsRefusedBy s old new who (PruneStep (RemoveDoomed names)) e → Halts s new who e
removal_halts s old new who names steps.Memory law deletes other h = tt
removal_halts s old new who names steps.TurnsSpent law deletes other h = h.1
removal_halts s old new who names (steps.Refused refusal) law deletes other h =
    step_halts s old new who (PruneStep (RemoveDoomed names)) refusal law
    (λ may. other (ap (λ (r : EntryRefusal). steps.Refused r) (fault_is refusal (removal_fault names (refusal_of refusal) may))))
    deletes h.0 h.1

halted_as : (s : Start) (old new : List Moment) (who : ℕ) (names : List BlobName) (r : Result (Unit {0}) StepRefusal) (e : StepRefusal) → RefusesSo → IsDeletes (ticket_of s new who) → Passing r → passed_by false r ≡ Err e
    → Outcome s old new who (PruneStep (RemoveDoomed names)) (λ x. WasRemoved) r → Halts s new who e
halted_as s old new who names r e law deletes (Well x) is h = absurd (ok_err x e is)
halted_as s old new who names r e law deletes Failing is h = absurd (ok_err tt e is)
halted_as s old new who names r e law deletes (Halting d same other) is h = subst (Halts s new who) (same_err d e (sym same ∙ is)) (removal_halts s old new who names d law deletes other h)

-- where it doesn't a delete halts, and a removal of a cleanup was refused so
halts_refused : (s : Start) (log : List Moment) (who : ℕ) (e : StepRefusal) → Halts s log who e → IsRemovalRefused false s log who e
halts_refused s log who steps.Memory h = tt
halts_refused s log who steps.TurnsSpent h = h
halts_refused s log who (steps.Refused x) h = inl (refl, h)

was_refused : (s : Start) (old new : List Moment) (who : ℕ) (names : List BlobName) (e : StepRefusal) → IsRefusedBy s old new who (PruneStep (RemoveDoomed names)) e → IsRemovalRefused true s new who e
was_refused s old new who names steps.Memory h = tt
was_refused s old new who names steps.TurnsSpent h = h.1
was_refused s old new who names (steps.Refused x) h = inr (refl, (old, names, h))

pub passed_refused : (clean : Bool) (s : Start) (old new : List Moment) (who : ℕ) (names : List BlobName) (r : Result (Unit {0}) StepRefusal) (e : StepRefusal) → RefusesSo → IsSettledPlan (ticket_of s old who)
    → ticket_of s new who ≡ ticket_of s old who
    → Err e ≡ passed_by clean r → Outcome s old new who (PruneStep (RemoveDoomed names)) (λ x. WasRemoved) r → IsRemovalRefused clean s new who e
passed_refused false s old new who names r e law over same is h =
    halts_refused s new who e (halted_as s old new who names r e law (subst IsDeletes (sym same) (over.uuids, Some over.plan, over.work)) (passing r) (sym is) h)
passed_refused true s old new who names (Ok x) e law over same is h = absurd (ok_err x e (sym is))
passed_refused true s old new who names (Err d) e law over same is h = was_refused s old new who names e (subst (λ (x : StepRefusal). IsRefusedBy s old new who (PruneStep (RemoveDoomed names)) x) (same_err d e (sym is)) h)

-- so a delete halts
pub removal_stops : (s : Start) (log : List Moment) (who : ℕ) (e : StepRefusal) → IsRemovalRefused false s log who e → Halts s log who e
removal_stops s log who steps.Memory h = tt
removal_stops s log who steps.TurnsSpent h = h
removal_stops s log who (steps.Refused x) (inl deletes) = deletes.1
removal_stops s log who (steps.Refused x) (inr cleans) = absurd (true≢false (sym cleans.0))

-- and it is shown how a cleanup ends
pub removal_shown : {S F H T : Type 0} (e : Evidence S F H T) (s : Start) (log : List Moment) (who : ℕ) (refusal : StepRefusal) → RefusesSo → IsSettledPlan (ticket_of s log who) → IsRemovalRefused true s log who refusal
    → Shown {S = S} {F = F} {H = H} {T = T} hands.Delete e ⊥ s log who (troubles.Step refusal)
removal_shown e s log who steps.Memory law over h = tt
removal_shown e s log who steps.TurnsSpent law over h = h
removal_shown e s log who (steps.Refused x) law over (inl deletes) = absurd (true≢false deletes.0)
removal_shown e s log who (steps.Refused x) law over (inr cleans) = prune_shown e s cleans.1.0 log who (RemoveDoomed cleans.1.1) (steps.Refused x) over.uuids (Some over.plan) law over.out over.work cleans.1.2

-- ---- the drop of a cleanup

pub drop_shown : {S F H T : Type 0} (e : Evidence S F H T) (s : Start) (old new : List Moment) (who : ℕ) (refusal : StepRefusal) → RefusesSo → IsSettledPlan (ticket_of s new who) → IsRefusedBy s old new who DroppedStep refusal
    → Shown {S = S} {F = F} {H = H} {T = T} hands.Delete e ⊥ s new who (troubles.Step refusal)
drop_shown {S} {F} {H} {T} e s old new who refusal law over h =
    delete_refused {S = S} {F = F} {H = H} {T = T} e ⊥ s old new who DroppedStep law refusal tt (λ deletes. refl) over.uuids (Some over.plan) over.work (master_out s new who over.uuids (Some over.plan) over.out over.work) h
