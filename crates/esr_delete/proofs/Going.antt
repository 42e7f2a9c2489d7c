-- What the steps before the settle make of the ticket of a delete or cleanup.
use Rattle.std.proofs.Common.{◌≡◌, ℕ, Bool, true, true≢false, List, ◌∷◌, Option, Some, None, refl, sym, ap, ◌∙◌, subst}
use Rattle.esr_model.specs.Names.{BlobName}
use Rattle.esr_model.specs.Values.{Bytes, Formats}
use Rattle.esr_model.specs.Delete.{PrunedShard, kept_count}
use Rattle.esr_model.specs.Cleanup.{BlobSize}
use Rattle.esr_core.specs.World.{Ticket, Work, Deleting, Swap}
use Rattle.esr_core.specs.Ready.{IsShard}
use Rattle.esr_core.specs.Entry.{Prune, PruneStep, ListStep, Moment}
use Rattle.esr_core.specs.After.{fetching}
use Rattle.esr_core.specs.Pruning.{delete_swap, planned_work, planned}
use Rattle.esr_desk.specs.declared.refusal.StepRefusal.{StepRefusal}
use Rattle.esr_desk.specs.declared.refusal.StepRefusal.TheVariants as steps
use Rattle.esr_desk.specs.declared.refusal.EntryRefusal.TheVariants as refusals
use Rattle.esr_desk.specs.declared.hand.Hand.TheVariants as hands
use Rattle.esr_desk.specs.Start.{Start, ticket_of}
use Rattle.esr_desk.specs.Evidence.{Evidence}
use Rattle.esr_unit.specs.declared.trouble.Trouble.{Trouble}
use Rattle.esr_unit.specs.declared.trouble.Trouble.TheVariants as troubles
use Rattle.esr_unit.specs.Fetch.{IsRefusedBy}
use Rattle.esr_unit.specs.Shown.{Shown}
use Rattle.esr_unit.specs.Refusals.{RefusesSo, IsMasterOut, delete_refused, delete_refused_in}
use Rattle.esr_finish.specs.Refused.{IsPutRefused, HadLatestFault}
use Rattle.esr_finish.specs.Went.{Worked as PutWorked}
use Rattle.esr_finish.specs.Stops.{writing_works}
use Rattle.esr_delete.specs.Gathered.{HasRead}
use Rattle.esr_delete.specs.Planned.{IsPruner}
use Rattle.esr_delete.specs.Went.{Worked}

-- ---- the ticket

-- it drew and planned nothing
worked_as : (old new : Ticket) (uuids : List ℕ) (plan : Option Swap) (noted : List BlobName) (wrote read : List (BlobName × Bytes)) (raised : Option ℕ) (tried : Bool) (listed : List BlobSize) (whole : Bool) → old.work ≡ Deleting uuids plan
    → new ≡ record old { noted = noted; wrote = wrote; read = read; raised = raised; tried_latest = tried; listed = listed; whole = whole } → Worked old new
worked_as old new uuids plan noted wrote read raised tried listed whole work is = record {
  uuids = uuids;
  before = plan;
  was = work;
  plan = plan;
  first = old.first;
  drawn = old.drawn;
  noted = noted;
  wrote = wrote;
  read = read;
  raised = raised;
  tried = tried;
  listed = listed;
  whole = whole;
  is = is ∙ ap (λ (w : Work). record old { work = w; noted = noted; wrote = wrote; read = read; raised = raised; tried_latest = tried; listed = listed; whole = whole }) work;
}

pub worked_read : (old new : Ticket) (uuids : List ℕ) (plan : Option Swap) → old.work ≡ Deleting uuids plan → HasRead old new → Worked old new
worked_read old new uuids plan work h = worked_as old new uuids plan old.noted old.wrote h.read old.raised old.tried_latest old.listed old.whole work h.is

pub worked_put : (old new : Ticket) (uuids : List ℕ) (plan : Option Swap) → old.work ≡ Deleting uuids plan → PutWorked old new → Worked old new
worked_put old new uuids plan work h = worked_as old new uuids plan h.noted h.wrote old.read h.raised h.tried old.listed old.whole work h.is

pub worked_listed : (old new : Ticket) (uuids : List ℕ) (plan : Option Swap) (listed : List BlobSize) (whole : Bool) → old.work ≡ Deleting uuids plan → new ≡ record old { listed = listed; whole = whole } → Worked old new
worked_listed old new uuids plan listed whole work is = worked_as old new uuids plan old.noted old.wrote old.read old.raised old.tried_latest listed whole work is

pub worked_same : (t : Ticket) (uuids : List ℕ) (plan : Option Swap) → t.work ≡ Deleting uuids plan → Worked t t
worked_same t uuids plan work = worked_listed t t uuids plan t.listed t.whole work refl

-- the work of a ticket that has planned
pub planned_is : (f : Formats) (shards : List PrunedShard) (first : ℕ) (t : Ticket) (uuids : List ℕ) → t.work ≡ Deleting uuids None
    → planned f shards first t ≡ record t { first = first; drawn = kept_count shards; work = Deleting uuids (Some (delete_swap f t.clean t.root t.read uuids shards first)) }
planned_is f shards first t uuids work = ap (λ (w : Work). record t { first = first; drawn = kept_count shards; work = planned_work f t shards first w }) work

pub worked_planned : (f : Formats) (shards : List PrunedShard) (first : ℕ) (old new : Ticket) (uuids : List ℕ) → old.work ≡ Deleting uuids None → new ≡ planned f shards first old → Worked old new
worked_planned f shards first old new uuids work is = record {
  uuids = uuids;
  before = None;
  was = work;
  plan = Some (delete_swap f old.clean old.root old.read uuids shards first);
  first = first;
  drawn = kept_count shards;
  noted = old.noted;
  wrote = old.wrote;
  read = old.read;
  raised = old.raised;
  tried = old.tried_latest;
  listed = old.listed;
  whole = old.whole;
  is = is ∙ planned_is f shards first old uuids work;
}

pub uuids_same : (us vs : List ℕ) (p q : Option Swap) → Deleting us p ≡ Deleting vs q → us ≡ vs
uuids_same us vs p q e = cc

pub worked_on : (a b c : Ticket) → Worked a b → Worked b c → Worked a c
worked_on a b c first second =
    let same : first.uuids ≡ second.uuids = uuids_same first.uuids second.uuids first.plan second.before (sym (ap (λ (t : Ticket). t.work) first.is) ∙ second.was) in record {
      uuids = second.uuids;
      before = first.before;
      was = first.was ∙ ap (λ (us : List ℕ). Deleting us first.before) same;
      plan = second.plan;
      first = second.first;
      drawn = second.drawn;
      noted = second.noted;
      wrote = second.wrote;
      read = second.read;
      raised = second.raised;
      tried = second.tried;
      listed = second.listed;
      whole = second.whole;
      is =
          second.is
          ∙ ap (λ (t : Ticket). record t {
            work = Deleting second.uuids second.plan;
            first = second.first;
            drawn = second.drawn;
            noted = second.noted;
            wrote = second.wrote;
            read = second.read;
            raised = second.raised;
            tried_latest = second.tried;
            listed = second.listed;
            whole = second.whole;
          })
          first.is;
    }

pub read_on : (a b c : Ticket) → HasRead a b → HasRead b c → HasRead a c
read_on a b c first second = record { read = second.read; is = second.is ∙ ap (λ (t : Ticket). record t { read = second.read }) first.is }

pub read_same : (a b : Ticket) → b ≡ a → HasRead a b
read_same a b same = record { read = a.read; is = same }

pub read_fetched : (a b : Ticket) (name : BlobName) (left : Option Bytes) → b ≡ fetching name left a → HasRead a b
read_fetched a b name None same = record { read = a.read; is = same }
read_fetched a b name (Some bytes) same = record { read = (name, bytes) ∷ a.read; is = same }

-- ---- a refusal

pub master_out : (s : Start) (log : List Moment) (who : ℕ) (uuids : List ℕ) (plan : Option Swap) → (ticket_of s log who).out ≡ true → (ticket_of s log who).work ≡ Deleting uuids plan → IsMasterOut s log who
master_out s log who uuids plan out work = record { out = out; no_shard = λ shard. subst IsShard work shard }

-- a step of its own was refused, which shows how it ends
pub prune_shown : {S F H T : Type 0} (e : Evidence S F H T) (s : Start) (old new : List Moment) (who : ℕ) (prune : Prune) (refusal : StepRefusal) (uuids : List ℕ) (plan : Option Swap) → RefusesSo → (ticket_of s new who).out ≡ true
    → (ticket_of s new who).work ≡ Deleting uuids plan → IsRefusedBy s old new who (PruneStep prune) refusal → Shown {S = S} {F = F} {H = H} {T = T} hands.Delete e ⊥ s new who (troubles.Step refusal)
prune_shown {S} {F} {H} {T} e s old new who prune refusal uuids plan law out work h =
    delete_refused {S = S} {F = F} {H = H} {T = T} e ⊥ s old new who (PruneStep prune) law refusal tt (λ deletes. refl) uuids plan work (master_out s new who uuids plan out work) h

-- a page wasn't listed
pub list_shown : {S F H T : Type 0} (e : Evidence S F H T) (s : Start) (old new : List Moment) (who : ℕ) (after : Option Bytes) (refusal : StepRefusal) → RefusesSo → (t : IsPruner (ticket_of s new who) true)
    → IsRefusedBy s old new who (ListStep after) refusal
    → Shown {S = S} {F = F} {H = H} {T = T} hands.Delete e ⊥ s new who (troubles.Step refusal)
list_shown {S} {F} {H} {T} e s old new who after refusal law t h =
    delete_refused {S = S} {F = F} {H = H} {T = T} e ⊥ s old new who (ListStep after) law refusal tt (λ deletes. refl) t.uuids t.plan t.work (master_out s new who t.uuids t.plan t.out t.work) h

-- `index.latest` wasn't put, which a cleanup fails for
pub latest_shown : {S F H T : Type 0} (e : Evidence S F H T) (s : Start) (log : List Moment) (who : ℕ) → RefusesSo → (t : IsPruner (ticket_of s log who) true) → HadLatestFault s log who
    → Shown {S = S} {F = F} {H = H} {T = T} hands.Delete e ⊥ s log who (troubles.Step (steps.Refused refusals.DepotFault))
latest_shown {S} {F} {H} {T} e s log who law t h =
    let (before, step, stepped, writes, unquiet) = h in
    delete_refused_in {S = S} {F = F} {H = H} {T = T} e ⊥ s before log who step law refusals.DepotFault (writing_works step writes) (λ fault deletes. absurd (true≢false (sym t.mode ∙ deletes))) t.uuids t.plan t.work
    (master_out s log who t.uuids t.plan t.out t.work) (stepped, unquiet)

-- a blob wasn't put
pub put_shown : {S F H T : Type 0} (e : Evidence S F H T) (s : Start) (log : List Moment) (who : ℕ) (trouble : Trouble S F) (uuids : List ℕ) (plan : Option Swap) → RefusesSo → (ticket_of s log who).out ≡ true
    → (ticket_of s log who).work ≡ Deleting uuids plan → IsPutRefused s e.stage_faults log who trouble → Shown {S = S} {F = F} {H = H} {T = T} hands.Delete e ⊥ s log who trouble
put_shown e s log who (troubles.Step steps.Memory) uuids plan law out work h = tt
put_shown e s log who (troubles.Step steps.TurnsSpent) uuids plan law out work h = h.1
put_shown {S} {F} {H} {T} e s log who (troubles.Step (steps.Refused x)) uuids plan law out work h =
    let (before, step, stepped, matters, writes) = h.0 in
    delete_refused_in {S = S} {F = F} {H = H} {T = T} e ⊥ s before log who step law x (writing_works step writes) (λ fault deletes. matters fault) uuids plan work (master_out s log who uuids plan out work) (stepped, h.1)
put_shown e s log who (troubles.Stage stage) uuids plan law out work h = h
put_shown e s log who trouble uuids plan law out work h = absurd h
