-- Which refusals end a finalization, and which stop it.
use Rattle.std.proofs.Common.{◌≡◌, ◌≢◌, inl, inr, ℕ, true, false, List, refl, sym, ap, ◌∙◌, true≢false}
use Rattle.esr_model.specs.Names.{BlobName, Latest}
use Rattle.esr_core.specs.World.{World, Work, Shard, Finalize}
use Rattle.esr_core.specs.Entry.{Step, FinishStep, Refusal, DeposedAt, AbortedBy, DepotFault, NameTaken, GenerationsSpent, StaleTerm, Refused, Moment}
use Rattle.esr_core.specs.After.{is_latest}
use Rattle.esr_core.specs.Allowed.{ByFailedSwap, ByDelete}
use Rattle.esr_core.specs.Refusing.{MayRefuse, BeginFault, CommitFault, CommitTaken, LatestFault, RaiseFault, RaiseStale, RaiseSpent, SettleFault, SettleStale, RefusedSo}
use Rattle.esr_desk.specs.declared.hand.Hand.{Hand}
use Rattle.esr_desk.specs.declared.hand.Hand.TheVariants as hands
use Rattle.esr_desk.specs.declared.refusal.EntryRefusal.{EntryRefusal}
use Rattle.esr_desk.specs.declared.refusal.EntryRefusal.TheVariants as refusals
use Rattle.esr_desk.specs.declared.refusal.StepRefusal.{StepRefusal}
use Rattle.esr_desk.specs.declared.refusal.StepRefusal.TheVariants as steps
use Rattle.esr_desk.specs.Refusals.{refusal_of}
use Rattle.esr_desk.specs.Start.{Start, world_of, ticket_of}
use Rattle.esr_desk.specs.Outcome.{Stepped, Grounds, IsOfOp}
use Rattle.esr_desk.specs.Halts.{Halts}
use Rattle.esr_desk.specs.Evidence.{Evidence}
use Rattle.esr_desk.specs.Unit.Shown.{Matters, is_of_latest}
use Rattle.esr_unit.specs.declared.trouble.Trouble.{Trouble}
use Rattle.esr_unit.specs.declared.trouble.Trouble.TheVariants as troubles
use Rattle.esr_unit.specs.declared.ending.Ending.{Ending}
use Rattle.esr_unit.specs.declared.ending.Ending.TheVariants as endings
use Rattle.esr_unit.specs.Ending.{ending_at, ending_by}
use Rattle.esr_unit.specs.Fetch.{IsRefusedBy}
use Rattle.esr_unit.specs.Shown.{Shown}
use Rattle.esr_unit.specs.Refusals.{RefusesSo, IsMasterOut, last_refused, stepped_had, unit_refused_in}
use Rattle.esr_finish.specs.Ticket.{IsUnsettledMaster}
use Rattle.esr_finish.specs.Refused.{IsWriting, IsPutRefused, EndsAsMaster, CanGiveUp, Stops, is_fault}
use Rattle.esr_finish.specs.Stops.{writing_works, IsBlock}
use Rattle.esr_finish.proofs.Swaps.{no_master_shard}

-- ---- a step that writes

pub other_than_latest : (name : BlobName) → name ≢ Latest → is_latest name ≡ false
other_than_latest Latest other = absurd (other refl)
other_than_latest name other = refl

-- it was refused, and for another reason than the container where it is one on `index.latest`
pub writing_refused : {S : Type 0} (F : Type 0) (s : Start) (faults : S → ℕ) (old new : List Moment) (who : ℕ) (step : Step) (refusal : StepRefusal) → IsWriting step
    → (refusal ≡ steps.Refused refusals.DepotFault → is_of_latest step ≡ false)
    → IsRefusedBy s old new who step refusal → IsPutRefused {S = S} {F = F} s faults new who (troubles.Step refusal)
writing_refused F s faults old new who step steps.Memory writes matters h = (tt, h.1)
writing_refused F s faults old new who step steps.TurnsSpent writes matters h = (tt, h.1)
writing_refused F s faults old new who step (steps.Refused x) writes matters h = ((old, step, h.0, (λ fault. matters (ap (λ (e : EntryRefusal). steps.Refused e) (fault_only x fault))), writes), h.1)
  where
    fault_only : (e : EntryRefusal) → refusal_of e ≡ DepotFault → e ≡ refusals.DepotFault
    fault_only refusals.DepotFault same = refl
    fault_only e same = absurd cc

-- ---- what ends the unit

pub matters_any : (work : Work) (step : Step) → is_of_latest step ≡ false → Matters work step
matters_any (Shard index number) step other = tt
matters_any (Finalize info shards made) step other = other
matters_any work step other = other

-- a blob wasn't put, which shows how a finalization ends
pub put_shown : {S F H T : Type 0} (e : Evidence S F H T) (s : Start) (log : List Moment) (who : ℕ) (trouble : Trouble S F) → RefusesSo → IsMasterOut s log who → IsPutRefused s e.stage_faults log who trouble
    → Shown {S = S} {F = F} {H = H} {T = T} hands.Unit e ⊥ s log who trouble
put_shown e s log who (troubles.Step steps.Memory) law master h = tt
put_shown e s log who (troubles.Step steps.TurnsSpent) law master h = h.1
put_shown {S} {F} {H} {T} e s log who (troubles.Step (steps.Refused x)) law master h =
    let (before, step, stepped, matters, writes) = h.0 in
    unit_refused_in {S = S} {F = F} {H = H} {T = T} e ⊥ s before log who step law x (writing_works step writes) (λ fault. matters_any (ticket_of s log who).work step (matters fault)) (λ swaps. master) (stepped, h.1)
put_shown e s log who (troubles.Stage stage) law master h = h
put_shown e s log who trouble law master h = absurd h

-- since a record swap had failed, as its op was aborted, as the container failed, as the name is taken, as no generation is left, or as
-- its term is over
abbrev MayRefuseWriting : Refusal → Type 0
MayRefuseWriting (DeposedAt place) = Unit {0}
MayRefuseWriting (AbortedBy op) = Unit {0}
MayRefuseWriting DepotFault = Unit {0}
MayRefuseWriting (NameTaken name) = Unit {0}
MayRefuseWriting (GenerationsSpent pending) = Unit {0}
MayRefuseWriting (StaleTerm own now) = Unit {0}
MayRefuseWriting refusal = ⊥

writing_refusal : (step : Step) (refusal : Refusal) → IsWriting step → MayRefuse step refusal → MayRefuseWriting refusal
writing_refusal step refusal writes (BeginFault name) = tt
writing_refusal step refusal writes (CommitFault name) = tt
writing_refusal step refusal writes (CommitTaken name) = tt
writing_refusal step refusal writes LatestFault = tt
writing_refusal step refusal writes RaiseFault = tt
writing_refusal step refusal writes (RaiseSpent pending) = tt
writing_refusal step refusal writes (RaiseStale own now) = tt
writing_refusal step refusal writes SettleFault = tt
writing_refusal step refusal writes (SettleStale own now) = tt
writing_refusal step refusal writes may = absurd writes

writes_so : (w : World) (who : ℕ) (step : Step) (refusal : Refusal) → IsWriting step → RefusedSo w who step refusal → MayRefuseWriting refusal
writes_so w who step refusal writes (inl (ByFailedSwap place deposed)) = tt
writes_so w who step refusal writes (inl (ByDelete op deposed aborted)) = tt
writes_so w who step refusal writes (inr may) = writing_refusal step refusal writes may

ends_so : (S F H T : Type 0) (x : EntryRefusal) → MayRefuseWriting (refusal_of x) → EndsAsMaster {S = S} {F = F} {H = H} {T = T} (ending_at (steps.Refused x))
ends_so S F H T (refusals.Deposed entry) may = tt
ends_so S F H T (refusals.Aborted op) may = tt
ends_so S F H T refusals.DepotFault may = tt
ends_so S F H T (refusals.NameTaken name) may = tt
ends_so S F H T (refusals.GenerationsSpent number) may = tt
ends_so S F H T (refusals.StaleTerm own now) may = tt
ends_so S F H T x may = absurd may

-- it fails for no other reason than a finalization may
pub put_ends : {S F : Type 0} (H T : Type 0) (s : Start) (faults : S → ℕ) (log : List Moment) (who : ℕ) (trouble : Trouble S F) → RefusesSo → IsPutRefused s faults log who trouble
    → EndsAsMaster {S = S} {F = F} {H = H} {T = T} (ending_by trouble)
put_ends H T s faults log who (troubles.Step steps.Memory) law h = tt
put_ends H T s faults log who (troubles.Step steps.TurnsSpent) law h = tt
put_ends {S} {F} H T s faults log who (troubles.Step (steps.Refused x)) law h =
    let (before, step, stepped, matters, writes) = h.0 in
    ends_so S F H T x (writes_so (world_of s stepped.front) who step (refusal_of x) writes (last_refused law s before log who step (refusal_of x) stepped))
put_ends H T s faults log who (troubles.Stage stage) law h = tt
put_ends H T s faults log who trouble law h = absurd h

pub master_out : (s : Start) (log : List Moment) (who : ℕ) → IsUnsettledMaster (ticket_of s log who) → IsMasterOut s log who
master_out s log who t = record { out = t.fails.out; no_shard = no_master_shard (ticket_of s log who).work t.master }

-- ---- the end was refused

finish_block : (w : World) (who : ℕ) (refusal : Refusal) → RefusedSo w who FinishStep refusal → IsBlock refusal
finish_block w who refusal (inl (ByFailedSwap place deposed)) = tt
finish_block w who refusal (inl (ByDelete op deposed aborted)) = tt
finish_block w who refusal (inr may) = elim may [ ]

-- since a record swap had failed, or as a delete has aborted the op
pub finish_refused : RefusesSo → (s : Start) (old new : List Moment) (who : ℕ) (refusal : Refusal) → Stepped s old new who FinishStep (Refused refusal) → IsBlock refusal
finish_refused law s old new who refusal h = finish_block (world_of s h.front) who refusal (last_refused law s old new who FinishStep refusal h)

-- a delete has aborted the op; it aborts none of a delete or cleanup
finish_aborted : {S F H T : Type 0} (hand : Hand) (e : Evidence S F H T) (s : Start) (old new : List Moment) (who op : ℕ) → CanGiveUp hand (ticket_of s new who) → Stepped s old new who FinishStep (Refused (AbortedBy op)) → IsOfOp s new who
    → Shown {S = S} {F = F} {H = H} {T = T} hand e ⊥ s new who (troubles.Step (steps.Refused (refusals.Aborted op)))
finish_aborted hands.Unit e s old new who op may h of = (FinishStep, stepped_had s old new who FinishStep (Refused (AbortedBy op)) h)
finish_aborted hands.Delete e s old new who op may h of = absurd (of.no_delete may.uuids may.plan may.work)
finish_aborted hand e s old new who op may h of = absurd may

-- that ends a unit whose term is over
finish_entry : {S F H T : Type 0} (hand : Hand) (e : Evidence S F H T) (s : Start) (old new : List Moment) (who : ℕ) (x : EntryRefusal) → CanGiveUp hand (ticket_of s new who) → IsBlock (refusal_of x)
    → Stepped s old new who FinishStep (Refused (refusal_of x)) → Grounds s new who (steps.Refused x)
    → Shown {S = S} {F = F} {H = H} {T = T} hand e ⊥ s new who (troubles.Step (steps.Refused x))
finish_entry hand e s old new who (refusals.Deposed entry) may block h grounds = (FinishStep, record { front = h.front; image = h.image; is = h.is })
finish_entry {S} {F} {H} {T} hand e s old new who (refusals.Aborted op) may block h grounds = finish_aborted {S = S} {F = F} {H = H} {T = T} hand e s old new who op may h grounds
finish_entry hand e s old new who x may block h grounds = absurd block

pub finish_shown : {S F H T : Type 0} (hand : Hand) (e : Evidence S F H T) (s : Start) (old new : List Moment) (who : ℕ) (refusal : StepRefusal) → RefusesSo → CanGiveUp hand (ticket_of s new who) → IsRefusedBy s old new who FinishStep refusal
    → Shown {S = S} {F = F} {H = H} {T = T} hand e ⊥ s new who (troubles.Step refusal)
finish_shown hand e s old new who steps.Memory law may h = tt
finish_shown hand e s old new who steps.TurnsSpent law may h = h.1
finish_shown {S} {F} {H} {T} hand e s old new who (steps.Refused x) law may h = finish_entry {S = S} {F = F} {H = H} {T = T} hand e s old new who x may (finish_refused law s old new who (refusal_of x) h.0) h.0 h.1

-- no finish is refused as its term is over, and it fails as a finalization may
finish_entry_ends : {S F H T : Type 0} (x : EntryRefusal) → IsBlock (refusal_of x)
    → (◌≡◌ {A = Ending S F H T} (ending_at (steps.Refused x)) endings.Stale → ⊥) × EndsAsMaster {S = S} {F = F} {H = H} {T = T} (ending_at (steps.Refused x))
finish_entry_ends (refusals.Deposed entry) block = ((λ same. cc), tt)
finish_entry_ends (refusals.Aborted op) block = ((λ same. cc), tt)
finish_entry_ends x block = absurd block

pub finish_ends : {S F H T : Type 0} (s : Start) (old new : List Moment) (who : ℕ) (refusal : StepRefusal) → RefusesSo → IsRefusedBy s old new who FinishStep refusal
    → (◌≡◌ {A = Ending S F H T} (ending_at refusal) endings.Stale → ⊥) × EndsAsMaster {S = S} {F = F} {H = H} {T = T} (ending_at refusal)
finish_ends s old new who steps.Memory law h = ((λ same. cc), tt)
finish_ends s old new who steps.TurnsSpent law h = ((λ same. cc), tt)
finish_ends {S} {F} {H} {T} s old new who (steps.Refused x) law h = finish_entry_ends {S = S} {F = F} {H = H} {T = T} x (finish_refused law s old new who (refusal_of x) h.0)

-- a ticket that has settled is aborted by no delete
settled_entry : (s : Start) (old new : List Moment) (who : ℕ) (x : EntryRefusal) → IsBlock (refusal_of x) → (ticket_of s new who).settled ≡ true → Stepped s old new who FinishStep (Refused (refusal_of x))
    → Grounds s new who (steps.Refused x)
    → Stops s new who (steps.Refused x)
settled_entry s old new who (refusals.Deposed entry) block settled h grounds = (FinishStep, record { front = h.front; image = h.image; is = h.is })
settled_entry s old new who (refusals.Aborted op) block settled h grounds = absurd (true≢false (sym settled ∙ grounds.unsettled))
settled_entry s old new who x block settled h grounds = absurd block

-- so the end of a settled ticket stops it
pub finish_stops : (s : Start) (old new : List Moment) (who : ℕ) (refusal : StepRefusal) → RefusesSo → (ticket_of s new who).settled ≡ true → IsRefusedBy s old new who FinishStep refusal → Stops s new who refusal
finish_stops s old new who steps.Memory law settled h = tt
finish_stops s old new who steps.TurnsSpent law settled h = h.1
finish_stops s old new who (steps.Refused x) law settled h = settled_entry s old new who x (finish_refused law s old new who (refusal_of x) h.0) settled h.0 h.1

-- ---- the settle was refused

-- what halts it is no failure of its settle
pub halts_stops : (s : Start) (log : List Moment) (who : ℕ) (refusal : StepRefusal) → Halts s log who refusal → Stops s log who refusal
halts_stops s log who (steps.Refused refusals.DepotFault) h = absurd h
halts_stops s log who refusal h = h

-- ---- whether the container failed

pub fault_only : (refusal : StepRefusal) → is_fault refusal ≡ true → refusal ≡ steps.Refused refusals.DepotFault
fault_only (steps.Refused refusals.DepotFault) fault = refl
fault_only refusal fault = absurd (true≢false (sym fault))

pub no_fault : (refusal : StepRefusal) → is_fault refusal ≡ false → refusal ≡ steps.Refused refusals.DepotFault → ⊥
no_fault refusal other same = true≢false (sym (ap is_fault same) ∙ other)
