-- How the steps of units are refused, and what a refusal shows.
use Rattle.std.specs.Prelude.{◌≡◌, ℕ, zero, suc, true, false, List, [], ◌∷◌, ◌++◌, Option}
use Rattle.std.specs.Result.{IsErrAnd}
use Rattle.std.proofs.Common.{refl, sym, ◌∙◌, subst, inl, inr, true≢false, Result, Ok, Err, IfErr, OnErr}
use Rattle.esr_model.specs.Names.{BlobName}
use Rattle.esr_model.specs.Values.{Has, Formats}
use Rattle.esr_core.specs.World.{World, Deleting, Swap}
use Rattle.esr_core.specs.Ready.{IsShard}
use Rattle.esr_core.specs.Entry.{Read, ReadBlob, Step, DrawStep, BeginStep, CommitStep, LatestStep, FetchStep, ListStep, RaiseStep, SettleStep, DroppedStep, ReadStep, PruneStep, Prune, SettlePruned, Reply, Refusal, Refused, DeposedAt, AbortedBy, StaleTerm, GenerationsSpent, IdsSpent, NameTaken, DepotFault, Moment}
use Rattle.esr_core.specs.After.{after}
use Rattle.esr_core.specs.Allowed.{Allowed, Blocks, ByFailedSwap, ByDelete}
use Rattle.esr_core.specs.History.{world_from, IsLegal}
use Rattle.esr_core.specs.Past.{begins_anew}
use Rattle.esr_core.specs.Refusing.{MayRefuse, NoIds, BeginFault, CommitFault, CommitTaken, LatestFault, FetchFault, ListFault, RaiseFault, RaiseStale, RaiseSpent, SettleFault, SettleStale, DropFault, DropStale, ReadFault, FetchShardFault, NoPlanIds, SettleDeleteFault, SettleDeleteStale, RemoveDoomedFault, RefusedSo}
use Rattle.esr_desk.specs.declared.hand.Hand.TheVariants as hands
use Rattle.esr_desk.specs.declared.refusal.EntryRefusal.{EntryRefusal}
use Rattle.esr_desk.specs.declared.refusal.EntryRefusal.TheVariants as refusals
use Rattle.esr_desk.specs.declared.refusal.StepRefusal.{StepRefusal}
use Rattle.esr_desk.specs.declared.refusal.StepRefusal.TheVariants as steps
use Rattle.esr_desk.specs.Refusals.{refusal_of}
use Rattle.esr_desk.specs.Start.{Start, Legal, formats_of, world_of, ticket_of}
use Rattle.esr_desk.specs.Own.{reader_of}
use Rattle.esr_desk.specs.Outcome.{Stepped, Grounds}
use Rattle.esr_desk.specs.Made.{own_made, made_last}
use Rattle.esr_desk.specs.Conditions.{CanFinish}
use Rattle.esr_desk.specs.Evidence.{Evidence, HadReply}
use Rattle.esr_desk.specs.Unit.Shown.{Matters}
use Rattle.esr_desk.specs.Delete.Shown.{MattersTo}
use Rattle.esr_unit.specs.declared.trouble.Trouble.TheVariants as troubles
use Rattle.esr_unit.specs.Fetch.{IsRefusedBy}
use Rattle.esr_unit.specs.Shown.{Shown}

-- a step of a legal history is refused as it may be
abbrev pub RefusesSo : Type 0
RefusesSo = (f : Formats) (part_size : ℕ) (w : World) (m : Moment) (refusal : Refusal) → Allowed f part_size w m → m.entry.reply ≡ Refused refusal → RefusedSo w m.entry.who m.entry.step refusal

-- ---- which refusals

abbrev pub IsFetch : Read → Type 0
IsFetch (ReadBlob name) = Unit {0}
IsFetch read = ⊥

-- a step of a unit but its end
abbrev pub IsWork : Step → Type 0
IsWork (DrawStep count) = Unit {0}
IsWork (BeginStep name) = Unit {0}
IsWork (CommitStep name) = Unit {0}
IsWork LatestStep = Unit {0}
IsWork (FetchStep name) = Unit {0}
IsWork (ListStep after) = Unit {0}
IsWork RaiseStep = Unit {0}
IsWork SettleStep = Unit {0}
IsWork DroppedStep = Unit {0}
IsWork (ReadStep read) = IsFetch read
IsWork (PruneStep prune) = Unit {0}
IsWork step = ⊥

-- a record swap of a unit
abbrev pub IsSwapPrune : Prune → Type 0
IsSwapPrune SettlePruned = Unit {0}
IsSwapPrune prune = ⊥

abbrev pub IsSwap : Step → Type 0
IsSwap RaiseStep = Unit {0}
IsSwap SettleStep = Unit {0}
IsSwap DroppedStep = Unit {0}
IsSwap (PruneStep prune) = IsSwapPrune prune
IsSwap step = ⊥

-- before a step is looked at: since a record swap had failed, or as a delete aborted the op
abbrev pub IsBlock : Refusal → Type 0
IsBlock (DeposedAt place) = Unit {0}
IsBlock (AbortedBy op) = Unit {0}
IsBlock refusal = ⊥

pub block_is : (w : World) (who : ℕ) (step : Step) (refusal : Refusal) → Blocks w who step refusal → IsBlock refusal
block_is w who step refusal (ByFailedSwap place deposed) = tt
block_is w who step refusal (ByDelete op deposed aborted) = tt

-- since a record swap had failed, as its op was aborted, as the container failed, as the name is taken, as numbers are spent, or as its term is over
abbrev pub MayRefuseWork : Step → Refusal → Type 0
MayRefuseWork step (DeposedAt place) = Unit {0}
MayRefuseWork step (AbortedBy op) = Unit {0}
MayRefuseWork step DepotFault = Unit {0}
MayRefuseWork step (NameTaken name) = Unit {0}
MayRefuseWork step (IdsSpent next) = Unit {0}
MayRefuseWork step (GenerationsSpent pending) = Unit {0}
MayRefuseWork step (StaleTerm own now) = IsSwap step
MayRefuseWork step refusal = ⊥

work_refusal : (step : Step) (refusal : Refusal) → MayRefuse step refusal → IsWork step → MayRefuseWork step refusal
work_refusal step refusal (NoIds count next) is = tt
work_refusal step refusal (BeginFault name) is = tt
work_refusal step refusal (CommitFault name) is = tt
work_refusal step refusal (CommitTaken name) is = tt
work_refusal step refusal LatestFault is = tt
work_refusal step refusal (FetchFault name) is = tt
work_refusal step refusal (ListFault from) is = tt
work_refusal step refusal RaiseFault is = tt
work_refusal step refusal (RaiseStale own now) is = tt
work_refusal step refusal (RaiseSpent pending) is = tt
work_refusal step refusal SettleFault is = tt
work_refusal step refusal (SettleStale own now) is = tt
work_refusal step refusal DropFault is = tt
work_refusal step refusal (DropStale own now) is = tt
work_refusal step refusal (ReadFault name) is = tt
work_refusal step refusal (FetchShardFault name) is = tt
work_refusal step refusal (NoPlanIds shards next) is = tt
work_refusal step refusal SettleDeleteFault is = tt
work_refusal step refusal (SettleDeleteStale own now) is = tt
work_refusal step refusal (RemoveDoomedFault names) is = tt
work_refusal step refusal may is = absurd is

block_refusal : (w : World) (who : ℕ) (step : Step) (refusal : Refusal) → Blocks w who step refusal → MayRefuseWork step refusal
block_refusal w who step refusal (ByFailedSwap place deposed) = tt
block_refusal w who step refusal (ByDelete op deposed aborted) = tt

so_refused : (w : World) (who : ℕ) (step : Step) (refusal : Refusal) → IsWork step → RefusedSo w who step refusal → MayRefuseWork step refusal
so_refused w who step refusal is (inl blocks) = block_refusal w who step refusal blocks
so_refused w who step refusal is (inr may) = work_refusal step refusal may is

-- the last moment of a legal history is a step from the world of those before it
last_allowed : (f : Formats) (size : ℕ) (log : List Moment) (w : World) (m : Moment) → IsLegal f size w (log ++ m ∷ []) → Allowed f size (world_from f w log) m
last_allowed f size [] w m legal = legal.0
last_allowed f size (x ∷ log) w m legal = last_allowed f size log (after f w x) m legal.1

pub last_refused : RefusesSo → (s : Start) (old new : List Moment) (who : ℕ) (step : Step) (refusal : Refusal) → (h : Stepped s old new who step (Refused refusal)) → RefusedSo (world_of s h.front) who step refusal
last_refused law s old new who step refusal h =
    let last : Moment = record { entry = record { who = who; step = step; reply = Refused refusal }; image = h.image } in
    law (formats_of s) s.part_size (world_of s h.front) last refusal (last_allowed (formats_of s) s.part_size h.front s.world last (subst (λ (log : List Moment). Legal s log) h.is h.legal)) refl

pub work_refused : RefusesSo → (s : Start) (old new : List Moment) (who : ℕ) (step : Step) (refusal : Refusal) → IsWork step → Stepped s old new who step (Refused refusal) → MayRefuseWork step refusal
work_refused law s old new who step refusal is h = so_refused (world_of s h.front) who step refusal is (last_refused law s old new who step refusal h)

-- ---- what it shows

pub has_last : (front : List Moment) (m : Moment) → Has (front ++ m ∷ []) m
has_last [] m = inl refl
has_last (x ∷ front) m = inr (has_last front m)

-- a step that was made is in the history
pub stepped_had : (s : Start) (old new : List Moment) (who : ℕ) (step : Step) (reply : Reply) → Stepped s old new who step reply → HadReply new who step reply
stepped_had s old new who step reply h =
    let last : Moment = record { entry = record { who = who; step = step; reply = reply }; image = h.image } in
    record { image = h.image; there = subst (λ (log : List Moment). Has log last) (sym h.is) (has_last h.front last) }

never_anew : (who : ℕ) (step : Step) → IsWork step → begins_anew who step ≡ false
never_anew (suc k) step is = refl
never_anew zero (DrawStep count) is = refl
never_anew zero (BeginStep name) is = refl
never_anew zero (CommitStep name) is = refl
never_anew zero LatestStep is = refl
never_anew zero (FetchStep name) is = refl
never_anew zero (ListStep after) is = refl
never_anew zero RaiseStep is = refl
never_anew zero SettleStep is = refl
never_anew zero DroppedStep is = refl
never_anew zero (ReadStep (ReadBlob name)) is = refl
never_anew zero (PruneStep prune) is = refl
never_anew zero step is = absurd is

-- the ticket is out, and no shard's
pub record IsMasterOut (s : Start) (log : List Moment) (who : ℕ) : Type 0 where
  pub out : (ticket_of s log who).out ≡ true
  pub no_shard : IsShard (ticket_of s log who).work → ⊥

-- its term is over
pub over : (s : Start) (old new : List Moment) (who : ℕ) (step : Step) (own now : ℕ) → IsWork step → IsMasterOut s new who → Stepped s old new who step (Refused (StaleTerm own now)) → CanFinish s new who
over s old new who step own now is master h = record {
  out = master.out;
  no_shard = master.no_shard;
  done = inr (record {
    entry = record { who = who; step = step; reply = Refused (StaleTerm own now) };
    there = own_made s old new who step (Refused (StaleTerm own now)) refl (never_anew who step is) h;
    own = own;
    now = now;
    refused = refl;
  });
}

module _ {S F H T : Type 0} (e : Evidence S F H T) (own : Type 0) (s : Start) (old new : List Moment) (who : ℕ) (step : Step) where
  unit_entry : (x : EntryRefusal) → IsWork step → MayRefuseWork step (refusal_of x) → Stepped s old new who step (Refused (refusal_of x)) → Grounds s new who (steps.Refused x)
      → (refusal_of x ≡ DepotFault → Matters (ticket_of s new who).work step) → (IsSwap step → IsMasterOut s new who)
      → Shown {S = S} {F = F} {H = H} {T = T} hands.Unit e own s new who (troubles.Step (steps.Refused x))
  unit_entry (refusals.Deposed entry) is may h grounds matters master = (step, record { front = h.front; image = h.image; is = h.is })
  unit_entry (refusals.Aborted op) is may h grounds matters master = (step, stepped_had s old new who step (Refused (AbortedBy op)) h)
  unit_entry refusals.DepotFault is may h grounds matters master = ((step, stepped_had s old new who step (Refused DepotFault) h, made_last s old new who step (Refused DepotFault) refl (never_anew who step is) h, matters refl), grounds)
  unit_entry (refusals.NameTaken name) is may h grounds matters master = (step, stepped_had s old new who step (Refused (refusal_of (refusals.NameTaken name))) h)
  unit_entry (refusals.IdsSpent next) is may h grounds matters master = (step, stepped_had s old new who step (Refused (refusal_of (refusals.IdsSpent next))) h)
  unit_entry (refusals.GenerationsSpent number) is may h grounds matters master = (step, stepped_had s old new who step (Refused (refusal_of (refusals.GenerationsSpent number))) h)
  unit_entry (refusals.StaleTerm of at) is may h grounds matters master = over s old new who step of at is (master may) h
  unit_entry x is may h grounds matters master = absurd may

  -- a step of a snapshot's or a clone's unit was refused; it matters, where the container failed in it
  pub unit_refused_in : RefusesSo → (x : EntryRefusal) → IsWork step → (refusal_of x ≡ DepotFault → Matters (ticket_of s new who).work step) → (IsSwap step → IsMasterOut s new who) → IsRefusedBy s old new who step (steps.Refused x)
      → Shown {S = S} {F = F} {H = H} {T = T} hands.Unit e own s new who (troubles.Step (steps.Refused x))
  unit_refused_in law x is matters master h = unit_entry x is (work_refused law s old new who step (refusal_of x) is h.0) h.0 h.1 matters master

  -- a step that matters, whatever it was refused for
  pub unit_refused : RefusesSo → (refusal : StepRefusal) → IsWork step → Matters (ticket_of s new who).work step → (IsSwap step → IsMasterOut s new who) → IsRefusedBy s old new who step refusal
      → Shown {S = S} {F = F} {H = H} {T = T} hands.Unit e own s new who (troubles.Step refusal)
  unit_refused law steps.Memory is matters master h = tt
  unit_refused law steps.TurnsSpent is matters master h = h.1
  unit_refused law (steps.Refused x) is matters master h = unit_refused_in law x is (λ fault. matters) master h

  -- the ticket is of a delete or cleanup
  delete_entry : (x : EntryRefusal) → IsWork step → MayRefuseWork step (refusal_of x) → Stepped s old new who step (Refused (refusal_of x)) → Grounds s new who (steps.Refused x)
      → (refusal_of x ≡ DepotFault → MattersTo (ticket_of s new who) step)
      → (uuids : List ℕ) (plan : Option Swap) → (ticket_of s new who).work ≡ Deleting uuids plan → IsMasterOut s new who → Shown {S = S} {F = F} {H = H} {T = T} hands.Delete e own s new who (troubles.Step (steps.Refused x))
  delete_entry (refusals.Deposed entry) is may h grounds matters uuids plan work master = (step, record { front = h.front; image = h.image; is = h.is })
  delete_entry (refusals.Aborted op) is may h grounds matters uuids plan work master = absurd (grounds.no_delete uuids plan work)
  delete_entry refusals.DepotFault is may h grounds matters uuids plan work master =
      ((step, stepped_had s old new who step (Refused DepotFault) h, made_last s old new who step (Refused DepotFault) refl (never_anew who step is) h, matters refl), grounds)
  delete_entry (refusals.NameTaken name) is may h grounds matters uuids plan work master = (step, stepped_had s old new who step (Refused (refusal_of (refusals.NameTaken name))) h)
  delete_entry (refusals.IdsSpent next) is may h grounds matters uuids plan work master = (step, stepped_had s old new who step (Refused (refusal_of (refusals.IdsSpent next))) h)
  delete_entry (refusals.GenerationsSpent number) is may h grounds matters uuids plan work master = (step, stepped_had s old new who step (Refused (refusal_of (refusals.GenerationsSpent number))) h)
  delete_entry (refusals.StaleTerm of at) is may h grounds matters uuids plan work master = over s old new who step of at is master h
  delete_entry x is may h grounds matters uuids plan work master = absurd may

  -- a step of such a ticket was refused; it matters, where the container failed in it
  pub delete_refused_in : RefusesSo → (x : EntryRefusal) → IsWork step → (refusal_of x ≡ DepotFault → MattersTo (ticket_of s new who) step) → (uuids : List ℕ) (plan : Option Swap) → (ticket_of s new who).work ≡ Deleting uuids plan
      → IsMasterOut s new who → IsRefusedBy s old new who step (steps.Refused x) → Shown {S = S} {F = F} {H = H} {T = T} hands.Delete e own s new who (troubles.Step (steps.Refused x))
  delete_refused_in law x is matters uuids plan work master h = delete_entry x is (work_refused law s old new who step (refusal_of x) is h.0) h.0 h.1 matters uuids plan work master

  -- a step that matters, whatever it was refused for
  pub delete_refused : RefusesSo → (refusal : StepRefusal) → IsWork step → MattersTo (ticket_of s new who) step → (uuids : List ℕ) (plan : Option Swap) → (ticket_of s new who).work ≡ Deleting uuids plan → IsMasterOut s new who
      → IsRefusedBy s old new who step refusal → Shown {S = S} {F = F} {H = H} {T = T} hands.Delete e own s new who (troubles.Step refusal)
  delete_refused law steps.Memory is matters uuids plan work master h = tt
  delete_refused law steps.TurnsSpent is matters uuids plan work master h = h.1
  delete_refused law (steps.Refused x) is matters uuids plan work master h = delete_refused_in law x is (λ fault. matters) uuids plan work master h

-- ---- the fetch of a restore's ticket

-- since a record swap had failed, as the container failed in it, or as its op was aborted
abbrev pub MayRefuseFetch : Refusal → Type 0
MayRefuseFetch (DeposedAt place) = Unit {0}
MayRefuseFetch (AbortedBy op) = Unit {0}
MayRefuseFetch DepotFault = Unit {0}
MayRefuseFetch refusal = ⊥

fetch_refusal : (name : BlobName) (step : Step) (refusal : Refusal) → MayRefuse step refusal → step ≡ ReadStep (ReadBlob name) → MayRefuseFetch refusal
fetch_refusal name step refusal (ReadFault other) is = tt
fetch_refusal name step refusal may is = absurd cc

so_fetched : (w : World) (who : ℕ) (name : BlobName) (refusal : Refusal) → RefusedSo w who (ReadStep (ReadBlob name)) refusal → MayRefuseFetch refusal
so_fetched w who name refusal (inl (ByFailedSwap place deposed)) = tt
so_fetched w who name refusal (inl (ByDelete op deposed aborted)) = tt
so_fetched w who name refusal (inr may) = fetch_refusal name (ReadStep (ReadBlob name)) refusal may refl

pub fetch_refused : RefusesSo → (s : Start) (old new : List Moment) (who : ℕ) (name : BlobName) (refusal : Refusal) → Stepped s old new who (ReadStep (ReadBlob name)) (Refused refusal) → MayRefuseFetch refusal
fetch_refused law s old new who name refusal h =
    so_fetched (world_of s h.front) who name refusal (last_refused law s old new who (ReadStep (ReadBlob name)) refusal h)

module _ {S F H T : Type 0} (e : Evidence S F H T) (own : Type 0) (s : Start) (old new : List Moment) (who : ℕ) (name : BlobName) where
  reader_entry : (x : EntryRefusal) → MayRefuseFetch (refusal_of x) → Stepped s old new who (ReadStep (ReadBlob name)) (Refused (refusal_of x)) → Grounds s new who (steps.Refused x) → (reader_of s new who).out ≡ true
      → Shown {S = S} {F = F} {H = H} {T = T} hands.Restore e own s new who (troubles.Step (steps.Refused x))
  reader_entry (refusals.Deposed entry) may h grounds out = (ReadStep (ReadBlob name), record { front = h.front; image = h.image; is = h.is })
  reader_entry (refusals.Aborted op) may h grounds out = absurd (true≢false (sym out ∙ grounds.no_reader))
  reader_entry refusals.DepotFault may h grounds out = ((name, stepped_had s old new who (ReadStep (ReadBlob name)) (Refused DepotFault) h), grounds)
  reader_entry x may h grounds out = absurd may

  pub reader_refused : RefusesSo → (refusal : StepRefusal) → (reader_of s new who).out ≡ true → IsRefusedBy s old new who (ReadStep (ReadBlob name)) refusal
      → Shown {S = S} {F = F} {H = H} {T = T} hands.Restore e own s new who (troubles.Step refusal)
  reader_refused law steps.Memory out h = tt
  reader_refused law steps.TurnsSpent out h = h.1
  reader_refused law (steps.Refused x) out h = reader_entry x (fetch_refused law s old new who name (refusal_of x) h.0) h.0 h.1 out

pub passed_on : {T E : Type 0} (result : Result T E) (P : E → Type 0) (e : E) → IsErrAnd result (λ x. x ≡ e) → P e → IfErr result P
passed_on (Ok x) P e is holds = tt
passed_on (Err y) P e is holds = subst P (sym is) holds

pub on_err : {T E : Type 0} (result : Result T E) (P : Type 0) → P → OnErr result P
on_err (Ok x) P holds = tt
on_err (Err e) P holds = holds
