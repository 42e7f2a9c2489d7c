-- The infos of the listed snapshots stay right over each step that is no settle, and with one more over the settle of a finalization.
--
-- What is kept:
--   WorksStay w v         each ticket of w but one of a delete or cleanup is in v under its number, with the same work
--   InfosThere f w v      each blob of w that is the info of a snapshot is in v with the same bytes
--   LeavesInfos step reply  the step settles nothing. It computes to Unit at each step but a settle, whatever the reply, and at a settle with each refusal but DepotFault.
--   SparesInfos f w infos what a delete or cleanup that has settled dooms is none of these infos' blobs, but of a snapshot that a finalization made
--   AreListed root infos  each info is of a snapshot that the root lists. AreInfosOf doesn't say so, and a settle needs it: an info of no index under the uuid of an open op would pass before the settle, and not after it.
-- Over any two worlds:
--   infos_stay : v.root ≡ w.root → WorksStay w v → (NoDeleting v → NoDeleting w) → InfosKept f w v infos → AreInfosOf f w tells infos → AreInfosOf f v tells infos
-- Over a step:
--   infos_step : Tracked w → AreTests w.caller → SparesInfos f w infos → Allowed f size w m → LeavesInfos m.entry.step m.entry.reply → AreInfosOf f w tells infos → AreInfosOf f (after f w m) tells infos
--   root_step, works_step, none_step, blobs_step : what these take of the step
-- Over the settle of a finalization, in any world in which it HasSettled:
--   infos_settled, listed_settled
-- What these ask of the info:
--   final_info : info_of x r ≡ info, for the open op x of the ticket and results r of all its shards
--   info_apart : IsInfo i → AreApart (map ref_of_code i.indices)
use Rattle.std.proofs.Common.{◌≡◌, ◌≢◌, ◌⊎◌, ℕ, zero, suc, ◌+◌, ◌<◌, Bool, true, false, List, [], ◌∷◌, ◌++◌, Option, Some, None, map, refl, sym, ap, ◌∙◌, subst, inl, inr, arith, nat_cmp, true≢false, eq-eqb}
use Rattle.std.specs.Prelude.{if◌then◌else◌}
use Rattle.std.specs.List.{IsDistinct}
use Rattle.std.specs.Cmp.{nat_cmp_total}
use Rattle.std.specs.Cmp.Lexicographic.{nat_list_cmp_total}
use Rattle.std.specs.FinMap.{FinMap, nat_cmp-IsAntisymmetric}
use Rattle.std.specs.FinMap as fin
use Rattle.std.proofs.lemmas.Option.{same_Some}
use Rattle.esr_model.specs.Names.{BlobName, Latest, Snap}
use Rattle.esr_model.specs.Values.{Bytes, Has, IndexRef, RootSnap, RootData, SnapInfo, ShardResult, ReadsBack, Formats}
use Rattle.esr_model.specs.Shelf.{Command}
use Rattle.esr_model.specs.Places.{numbered, places}
use Rattle.esr_model.specs.Finalize.{Finalizes, finalized_root, done_at}
use Rattle.esr_model.specs.Delete.{PrunedShard}
use Rattle.esr_model.specs.Image.{Blobs, Image, At, Generation, index_at, at_shard_of}
use Rattle.esr_core.specs.World.{World, Op, Deletion, ShardWork, Work, Finalize, Deleting, Drop, Swap, swap_of, AllDone, info_of, metadata, Ticket, ReadState, Restored, NotRestored, RestoreShard, Restoring, Reader, record_of}
use Rattle.esr_core.specs.Steps.{Removes, IsOut, noting, listing, with_ticket, shard_ticket, final_ticket, plain_ticket}
use Rattle.esr_core.specs.Turns.{cleaning_ticket}
use Rattle.esr_core.specs.Pruning.{delete_swap, planned_work, planned, dooms}
use Rattle.esr_core.specs.Restores.{AreApart, restore_shard}
use Rattle.esr_core.specs.Deletes.{asked_delete}
use Rattle.esr_core.specs.Tracked.{Named, FinalTracked, Tracked}
use Rattle.esr_core.specs.Entry.{CloneOf, Snapshot, Restore, Clone, DeleteSnapshots, Cleanup, Given, GivenShard, GivenFinalize, GivenDrop, GivenRestore, GivenClone, GivenDelete, GivenCleanup, Read, ReadBlob, RestoredShard, DrawTest, CommitTest, ReadFails, Prune, FetchShard, PlanShards, SettlePruned, RemoveDoomed, EndDelete, DeleteFails, Step, AskStep, TakeStep, DrawStep, BeginStep, CommitStep, LatestStep, FetchStep, ListStep, RaiseStep, SettleStep, DoneStep, FailedStep, FinishStep, DroppedStep, ElectStep, ReadStep, PruneStep, DepotFault, Reply, Gave, DrawnFrom, WasDone, WasThere, WasFetched, WasListed, HasEnded, Refused, AcceptedRestore, Moment}
use Rattle.esr_core.specs.After.{asked, taken_shard, taken_by, taken_restore, taken_restore_shard, shard_of, with_given, committing, told_blob, fetching, settled_by, settled_of, done_by, done_of, is_stale, failed_by, failed_of, dropped_of, delete_failed_by, delete_failed, read_told, read_over, shard_over, read_step, read_by, prune_step, done_step, swaps_record, has_text, fallen, is_latest, tried, test_left, faulted, answered, blobs_in, after}
use Rattle.esr_core.specs.Allowed as allowed
use Rattle.esr_core.specs.Allowed.{FetchingShard, ShardMissing, FetchShardFails, Planning, PlanSpent, SettlingDelete, SettleDeleteStale, SettleDeleteFails, RemovingDoomed, RemoveDoomedFails, EndingDelete, FailingDelete, PruneAllows, NoDeleting, HaveGenerations, RemovesDoomed, MayRemoveTests, Told, SameBlobs, Adds, WasMade, IsInInfo, AreIndicesIn, VerifyAllows, Allows, Allowed}
use Rattle.esr_core.specs.Laws.DeleteAsks.{delete_leaves}
use Rattle.esr_core.specs.Laws.PruneFrames.{SameTickets, prune_stays}
use Rattle.esr_core.specs.Laws.Maps.{get_same, get_other, get_kept, split, texts_same}
use Rattle.esr_core.specs.Laws.BlobFrames.{text_one}
use Rattle.esr_model.specs.Lists.{Has-mapped, Has-append, Has-left, Has-right}
use Rattle.esr_core.specs.Laws.DoneShards.{done_of as result_of, done_found, done_same}
use Rattle.esr_core.specs.Laws.NewRoots.{larger_old, larger_new, Suits, finalized_is}
use Rattle.esr_names.specs.declared.index_ref.IndexRef.{IndexRef as CodeRef}
use Rattle.esr_meta.specs.Info.{Info, IsInfo}
use Rattle.esr_core.specs.Laws.RootAgreement.{numbered_has}
use Rattle.esr_formats.specs.Refs.{ref_of_code}
use Rattle.esr_formats.specs.Infos.{info_of_code}
use Rattle.esr_newroot.specs.RefLists.{one_id, ids_distinct, other_later}
use Rattle.esr_progress.specs.Infos.{HasIndices, AreInfosOf}
use Rattle.esr_repo.specs.Repo.{AreTests}
use Rattle.esr_repo.specs.InfosAfter.{LeavesInfos}
use Rattle.esr_repo.proofs.Frames.{rests_prune}

-- ---- over any two worlds

-- the work is no delete's
abbrev pub IsNoDelete : Work → Type 0
IsNoDelete work = (uuids : List ℕ) (plan : Option Swap) → work ≡ Deleting uuids plan → ⊥

-- each ticket but a delete's is there under its number, with the same work
abbrev pub KeepsWork : FinMap nat_cmp Ticket → FinMap nat_cmp Ticket → Type 0
KeepsWork was now = (k : ℕ) (t : Ticket) → fin.get was k ≡ Some t → IsNoDelete t.work → (u : Ticket) × (fin.get now k ≡ Some u) × (u.work ≡ t.work)

abbrev pub WorksStay : World → World → Type 0
WorksStay w v = KeepsWork w.tickets v.tickets

-- the blob of each info is there with the same bytes
abbrev pub KeepsInfos : Formats → Blobs → Blobs → Type 0
KeepsInfos f was now = (uuid : ℕ) (bytes : Bytes) → At f was (Snap uuid) bytes → At f now (Snap uuid) bytes

abbrev pub InfosThere : Formats → World → World → Type 0
InfosThere f w v = KeepsInfos f w.blobs v.blobs

final_other : (work : Work) (info : SnapInfo) (results : List ShardResult) (made : Command) → work ≡ Finalize info results made → IsNoDelete work
final_other work info results made is uuids plan e = apart (sym is ∙ e)
  where
    apart : Finalize info results made ≡ Deleting uuids plan → ⊥
    apart h = cc

pub made_stays : (f : Formats) (w v : World) (uuid : ℕ) (indices : List IndexRef) → WorksStay w v → WasMade f w uuid indices → WasMade f v uuid indices
made_stays f w v uuid indices works m =
    let (u, there, same) = works m.number m.t m.there (final_other m.t.work m.info m.results m.made m.work) in
    record { number = m.number; t = u; there = there; info = m.info; results = m.results; made = m.made; work = same ∙ m.work; uuid_is = m.uuid_is; indices_is = m.indices_is; back = m.back }

-- the blob of this info is there with the same bytes
abbrev pub KeepsInfo : Formats → World → World → ℕ → Type 0
KeepsInfo f w v uuid = (bytes : Bytes) → At f w.blobs (Snap uuid) bytes → At f v.blobs (Snap uuid) bytes

-- and so is that of each of these, unless a finalization made its snapshot
abbrev pub InfosKept : Formats → World → World → List Info → Type 0
InfosKept f w v infos = (i : Info) → Has infos i → WasMade f w i.uuid.number (map ref_of_code i.indices) ⊎ KeepsInfo f w v i.uuid.number

pub info_stays : (f : Formats) (w v : World) (uuid : ℕ) (indices : List IndexRef) → KeepsInfo f w v uuid → IsInInfo f w uuid indices → IsInInfo f v uuid indices
info_stays f w v uuid indices blobs i = (i.0, record { bytes = i.1.bytes; there = blobs i.1.bytes i.1.there; reads = i.1.reads }, i.2)

pub told_at : (f : Formats) (w v : World) (tells : Bool) (uuid : ℕ) (indices : List IndexRef) → WorksStay w v → WasMade f w uuid indices ⊎ KeepsInfo f w v uuid
    → WasMade f w uuid indices ⊎ (tells ≡ true → IsInInfo f w uuid indices) → WasMade f v uuid indices ⊎ (tells ≡ true → IsInInfo f v uuid indices)
told_at f w v tells uuid indices works blobs (inl m) = inl (made_stays f w v uuid indices works m)
told_at f w v tells uuid indices works (inl m) (inr i) = inl (made_stays f w v uuid indices works m)
told_at f w v tells uuid indices works (inr keeps) (inr i) = inr (λ t. info_stays f w v uuid indices keeps (i t))

pub told_stays : (f : Formats) (w v : World) (tells : Bool) (uuid : ℕ) (indices : List IndexRef) → WorksStay w v → (tells ≡ true → InfosThere f w v)
    → WasMade f w uuid indices ⊎ (tells ≡ true → IsInInfo f w uuid indices) → WasMade f v uuid indices ⊎ (tells ≡ true → IsInInfo f v uuid indices)
told_stays f w v tells uuid indices works blobs (inl m) = inl (made_stays f w v uuid indices works m)
told_stays f w v tells uuid indices works blobs (inr i) = inr (λ t. info_stays f w v uuid indices (blobs t uuid) (i t))

pub indices_stay : (f : Formats) (w v : World) (tells : Bool) (uuid : ℕ) (indices : List IndexRef) → v.root ≡ w.root → WorksStay w v → (NoDeleting v → NoDeleting w) → WasMade f w uuid indices ⊎ KeepsInfo f w v uuid
    → HasIndices f w tells uuid indices → HasIndices f v tells uuid indices
indices_stay f w v tells uuid indices root works none blobs h =
    record {
      within = subst (λ (r : RootData). AreIndicesIn r uuid indices) (sym root) h.within;
      generations = λ n. subst (λ (r : RootData). HaveGenerations r indices) (sym root) (h.generations (none n));
      told = told_at f w v tells uuid indices works blobs h.told;
    }

pub infos_stay : (f : Formats) (w v : World) (tells : Bool) (infos : List Info) → v.root ≡ w.root → WorksStay w v → (NoDeleting v → NoDeleting w) → InfosKept f w v infos
    → AreInfosOf f w tells infos → AreInfosOf f v tells infos
infos_stay f w v tells infos root works none blobs a =
    record {
      there = λ snap m. a.there snap (subst (λ (r : RootData). Has r.snapshots snap) root m);
      each = λ i m. indices_stay f w v tells i.uuid.number (map ref_of_code i.indices) root works none (blobs i m) (a.each i m);
    }

-- ---- what keeps the works of tickets

works_same : (m : FinMap nat_cmp Ticket) → KeepsWork m m
works_same m k t e other = (t, e, refl)

-- a ticket given anew, with its work
works_again : (m : FinMap nat_cmp Ticket) (j : ℕ) (old v : Ticket) → fin.get m j ≡ Some old → v.work ≡ old.work → KeepsWork m (fin.insert m j v)
works_again m j old v there same k t e no_delete = elim (split nat_cmp_total nat_cmp-IsAntisymmetric k j) [
  | inl is ↦
      let one : t ≡ old = same_Some t old (sym e ∙ ap (fin.get m) is ∙ there) in
      (v, ap (fin.get (fin.insert m j v)) is ∙ get_same nat_cmp_total nat_cmp-IsAntisymmetric m j v, same ∙ ap (λ (x : Ticket). x.work) (sym one))
  | inr other ↦ (t, get_other nat_cmp_total nat_cmp-IsAntisymmetric m j v k other.0 ∙ e, refl)
]

-- one more under a number that none has
works_more : (m : FinMap nat_cmp Ticket) (next : ℕ) (v : Ticket) → ((k : ℕ) (t : Ticket) → fin.get m k ≡ Some t → k < next) → KeepsWork m (fin.insert m next v)
works_more m next v below k t e other = (t, get_other nat_cmp_total nat_cmp-IsAntisymmetric m next v k apart ∙ e, refl)
  where
    apart : k ≢ next
    apart is = let b : k < next = below k t e in absurd (omega (arith, is, b))

-- the ticket of a delete given anew
works_given : (was now : FinMap nat_cmp Ticket) (j : ℕ) → SameTickets was now j → KeepsWork was now
works_given was now j (inl same) k t e other = (t, ap (λ (m : FinMap nat_cmp Ticket). fin.get m k) same ∙ e, refl)
works_given was now j (inr a) k t e other =
    let at : fin.get now k ≡ fin.get (fin.insert was j a.v) k = ap (λ (m : FinMap nat_cmp Ticket). fin.get m k) a.is in
    elim (split nat_cmp_total nat_cmp-IsAntisymmetric k j) [
      | inl is ↦
          let one : t ≡ a.t = same_Some t a.t (sym e ∙ ap (fin.get was) is ∙ a.there) in
          let work : t.work ≡ a.t.work = ap (λ (x : Ticket). x.work) one in
          (a.v, at ∙ ap (fin.get (fin.insert was j a.v)) is ∙ get_same nat_cmp_total nat_cmp-IsAntisymmetric was j a.v, a.other (λ uuids plan q. other uuids plan (work ∙ q)) ∙ sym work)
      | inr apart ↦ (t, at ∙ get_other nat_cmp_total nat_cmp-IsAntisymmetric was j a.v k apart.0 ∙ e, refl)
    ]

-- no ticket is of a delete
abbrev NoneOf : FinMap nat_cmp Ticket → Type 0
NoneOf tickets = (k : ℕ) (t : Ticket) (uuids : List ℕ) (plan : Option Swap) → fin.get tickets k ≡ Some t → t.work ≡ Deleting uuids plan → ⊥

-- so none was, where a delete's ticket stays one
none_put : (m : FinMap nat_cmp Ticket) (j : ℕ) (old v : Ticket) → fin.get m j ≡ Some old → ((uuids : List ℕ) (plan : Option Swap) → old.work ≡ Deleting uuids plan → (p : Option Swap) × (v.work ≡ Deleting uuids p))
    → NoneOf (fin.insert m j v) → NoneOf m
none_put m j old v there stays none k t uuids plan e work = elim (split nat_cmp_total nat_cmp-IsAntisymmetric k j) [
  | inl is ↦
      let one : t ≡ old = same_Some t old (sym e ∙ ap (fin.get m) is ∙ there) in
      let now = stays uuids plan (ap (λ (x : Ticket). x.work) (sym one) ∙ work) in
      none j v uuids now.0 (get_same nat_cmp_total nat_cmp-IsAntisymmetric m j v) now.1
  | inr other ↦ none k t uuids plan (get_other nat_cmp_total nat_cmp-IsAntisymmetric m j v k other.0 ∙ e) work
]

none_again : (m : FinMap nat_cmp Ticket) (j : ℕ) (old v : Ticket) → fin.get m j ≡ Some old → v.work ≡ old.work → NoneOf (fin.insert m j v) → NoneOf m
none_again m j old v there same none = none_put m j old v there (λ uuids plan e. (plan, same ∙ e)) none

none_more : (m : FinMap nat_cmp Ticket) (next : ℕ) (v : Ticket) → ((k : ℕ) (t : Ticket) → fin.get m k ≡ Some t → k < next) → NoneOf (fin.insert m next v) → NoneOf m
none_more m next v below none k t uuids plan e work = none k t uuids plan (get_other nat_cmp_total nat_cmp-IsAntisymmetric m next v k apart ∙ e) work
  where
    apart : k ≢ next
    apart is = let b : k < next = below k t e in absurd (omega (arith, is, b))

none_given : (w : World) (k : ℕ) (g : Ticket → Ticket) (o : Option Ticket) → fin.get w.tickets k ≡ o
    → ((t : Ticket) (uuids : List ℕ) (plan : Option Swap) → t.work ≡ Deleting uuids plan → (p : Option Swap) × ((g t).work ≡ Deleting uuids p))
    → NoneOf (with_given w k g o).tickets → NoneOf w.tickets
none_given w k g None is stays none = none
none_given w k g (Some t) is stays none = none_put w.tickets k t (g t) is (stays t) none

planned_stays : (f : Formats) (shards : List PrunedShard) (first : ℕ) (t : Ticket) (uuids : List ℕ) (plan : Option Swap) → t.work ≡ Deleting uuids plan → (p : Option Swap) × ((planned f shards first t).work ≡ Deleting uuids p)
planned_stays f shards first t uuids plan work = (Some (delete_swap f t.clean t.root t.read uuids shards first), ap (planned_work f t shards first) work)

-- what is kept of a world: its root, and the works of its tickets
pub record Keeps (w new : World) : Type 0 where
  pub root : new.root ≡ w.root
  pub works : WorksStay w new
  pub none : NoDeleting new → NoDeleting w

-- no ticket has the next number, or a higher one
abbrev pub AreBelow : World → Type 0
AreBelow w = (k : ℕ) (t : Ticket) → fin.get w.tickets k ≡ Some t → k < w.next_ticket

keeps_same : (w : World) → Keeps w w
keeps_same w = record { root = refl; works = works_same w.tickets; none = λ h. h }

keeps_ticket : (w : World) (k : ℕ) (old t : Ticket) → fin.get w.tickets k ≡ Some old → t.work ≡ old.work → Keeps w (with_ticket w k t)
keeps_ticket w k old t there same = record { root = refl; works = works_again w.tickets k old t there same; none = none_again w.tickets k old t there same }

keeps_change : (w : World) (k : ℕ) (g : Ticket → Ticket) → ((t : Ticket) → (g t).work ≡ t.work) → (o : Option Ticket) → fin.get w.tickets k ≡ o → Keeps w (with_given w k g o)
keeps_change w k g same None is = keeps_same w
keeps_change w k g same (Some t) is = keeps_ticket w k t (g t) is (same t)

keeps_either : (w a b : World) (first : Bool) → Keeps w a → Keeps w b → Keeps w (if first then a else b)
keeps_either w a b true p q = p
keeps_either w a b false p q = q

committing_work : (name : BlobName) (bytes : Option Bytes) (t : Ticket) → (committing name bytes t).work ≡ t.work
committing_work name None t = refl
committing_work name (Some bytes) t = refl

fetching_work : (name : BlobName) (bytes : Option Bytes) (t : Ticket) → (fetching name bytes t).work ≡ t.work
fetching_work name None t = refl
fetching_work name (Some bytes) t = refl

-- ---- ask

keeps_delete : (w : World) (names : List Bytes) → Keeps w (asked_delete w names)
keeps_delete w names = subst (Keeps w) (sym (delete_leaves w names)) (record { root = refl; works = works_same w.tickets; none = λ h. h })

keeps_clone : (w : World) (source name : Bytes) (indices : List Bytes) (moment : ℕ) (taken : Option CloneOf) → Keeps w (asked w (Clone source name indices moment taken))
keeps_clone w source name indices moment None = keeps_same w
keeps_clone w source name indices moment (Some taken) = record { root = refl; works = works_same w.tickets; none = λ h. h }

-- ---- take

keeps_shard : (w : World) → AreBelow w → (o : ℕ) (op : Op) (base : Option ℕ) (s : Option ShardWork) → Keeps w (taken_shard w o op base s)
keeps_shard w below o op base None = keeps_same w
keeps_shard w below o op base (Some s) = record { root = refl; works = works_more w.tickets w.next_ticket (shard_ticket w o op s base) below; none = none_more w.tickets w.next_ticket (shard_ticket w o op s base) below }

keeps_restore_shard : (w : World) (o : ℕ) (r : Restoring) (s : Option RestoreShard) → Keeps w (taken_restore_shard w o r s)
keeps_restore_shard w o r None = keeps_same w
keeps_restore_shard w o r (Some s) = record { root = refl; works = works_same w.tickets; none = λ h. h }

keeps_restore : (w : World) (o index number : ℕ) (r : Option Restoring) → Keeps w (taken_restore w o index number r)
keeps_restore w o index number None = keeps_same w
keeps_restore w o index number (Some r) = keeps_restore_shard w o r (restore_shard r.shards index number)

keeps_taken : (f : Formats) (w : World) → AreBelow w → (o : ℕ) (unit : Given) (op : Option Op) → Keeps w (taken_by f w o unit op)
keeps_taken f w below o (GivenShard index number base) (Some op) = keeps_shard w below o op base (shard_of op.shards index number)
keeps_taken f w below o (GivenClone index number source base) (Some op) = keeps_shard w below o op base (shard_of op.shards index number)
keeps_taken f w below o (GivenFinalize info results) (Some op) = record { root = refl; works = works_more w.tickets w.next_ticket (final_ticket f w o op results) below; none = none_more w.tickets w.next_ticket (final_ticket f w o op results) below }
keeps_taken f w below o GivenDrop op = record { root = refl; works = works_more w.tickets w.next_ticket (plain_ticket w o Drop) below; none = none_more w.tickets w.next_ticket (plain_ticket w o Drop) below }
keeps_taken f w below o (GivenRestore index number uuid) op = keeps_restore w o index number (fin.get w.restores o)
keeps_taken f w below o (GivenDelete uuids) op =
    record { root = refl; works = works_more w.tickets w.next_ticket (plain_ticket w o (Deleting uuids None)) below; none = none_more w.tickets w.next_ticket (plain_ticket w o (Deleting uuids None)) below }
keeps_taken f w below o GivenCleanup op = record { root = refl; works = works_more w.tickets w.next_ticket (cleaning_ticket w o) below; none = none_more w.tickets w.next_ticket (cleaning_ticket w o) below }
keeps_taken f w below o unit op = keeps_same w

-- ---- ends

keeps_done_by : (w : World) (k : ℕ) (r : ShardResult) (t : Ticket) (op : Option Op) → fin.get w.tickets k ≡ Some t → Keeps w (done_by w k r t op)
keeps_done_by w k r t None is = keeps_same w
keeps_done_by w k r t (Some op) is = record { root = refl; works = works_again w.tickets k t (record t { out = false }) is refl; none = none_again w.tickets k t (record t { out = false }) is refl }

keeps_done : (w : World) (k : ℕ) (r : ShardResult) (o : Option Ticket) → fin.get w.tickets k ≡ o → Keeps w (done_of w k r o)
keeps_done w k r None is = keeps_same w
keeps_done w k r (Some t) is = keeps_done_by w k r t (fin.get w.ops t.op) is

keeps_failed_by : (w : World) (k : ℕ) (t : Ticket) (op : Option Op) → fin.get w.tickets k ≡ Some t → Keeps w (failed_by w k t op)
keeps_failed_by w k t None is = keeps_same w
keeps_failed_by w k t (Some op) is = record { root = refl; works = works_again w.tickets k t (record t { out = false }) is refl; none = none_again w.tickets k t (record t { out = false }) is refl }

keeps_failed : (w : World) (k : ℕ) (o : Option Ticket) → fin.get w.tickets k ≡ o → Keeps w (failed_of w k o)
keeps_failed w k None is = keeps_same w
keeps_failed w k (Some t) is =
    keeps_either w (with_ticket w k (record t { out = false })) (failed_by w k t (fin.get w.ops t.op)) (is_stale w t t.work) (keeps_ticket w k t (record t { out = false }) is refl) (keeps_failed_by w k t (fin.get w.ops t.op) is)

keeps_dropped : (w : World) (k : ℕ) (o : Option Ticket) → fin.get w.tickets k ≡ o → Keeps w (dropped_of w k o)
keeps_dropped w k None is = keeps_same w
keeps_dropped w k (Some t) is = record { root = refl; works = works_again w.tickets k t (record t { out = false }) is refl; none = none_again w.tickets k t (record t { out = false }) is refl }

-- ---- steps that read

keeps_told : (w : World) (k : ℕ) (name : BlobName) (bytes : Option Bytes) (q : Option Reader) → Keeps w (read_told w k name bytes q)
keeps_told w k name bytes None = keeps_same w
keeps_told w k name None (Some q) = keeps_same w
keeps_told w k name (Some bytes) (Some q) = record { root = refl; works = works_same w.tickets; none = λ h. h }

keeps_shard_over : (w : World) (k : ℕ) (state : ReadState) (q : Reader) (r : Option Restoring) → Keeps w (shard_over w k state q r)
keeps_shard_over w k state q None = keeps_same w
keeps_shard_over w k state q (Some r) = record { root = refl; works = works_same w.tickets; none = λ h. h }

keeps_over : (w : World) (k : ℕ) (state : ReadState) (q : Option Reader) → Keeps w (read_over w k state q)
keeps_over w k state None = keeps_same w
keeps_over w k state (Some q) = keeps_shard_over w k state q (fin.get w.restores q.op)

keeps_read_step : (f : Formats) (w : World) (k : ℕ) (read : Read) (reply : Reply) (image : Option Image) → Keeps w (read_step f w k read reply image)
keeps_read_step f w k (ReadBlob name) WasFetched image = keeps_told w k name (told_blob f image name) (fin.get w.readers k)
keeps_read_step f w k (RestoredShard files bytes) reply image = keeps_over w k (Restored files bytes) (fin.get w.readers k)
keeps_read_step f w k (ReadFails why) reply image = keeps_over w k (NotRestored why) (fin.get w.readers k)
keeps_read_step f w k read reply image = keeps_same w

keeps_read : (f : Formats) (w : World) (k : ℕ) (read : Read) (reply : Reply) (image : Option Image) → Keeps w (read_by f w k read reply image)
keeps_read f w zero DrawTest (DrawnFrom first) image = record { root = refl; works = works_same w.tickets; none = λ h. h }
keeps_read f w zero (CommitTest name) WasDone image = record { root = refl; works = works_same w.tickets; none = λ h. h }
keeps_read f w zero read reply image = keeps_same w
keeps_read f w (suc k) read reply image = keeps_read_step f w (suc k) read reply image

-- ---- all steps

abbrev IsNoSettle : Step → Type 0
IsNoSettle SettleStep = ⊥
IsNoSettle (PruneStep SettlePruned) = ⊥
IsNoSettle step = Unit {0}

none_either : (a b : World) (first : Bool) (tickets : FinMap nat_cmp Ticket) → (NoneOf a.tickets → NoneOf tickets) → (NoneOf b.tickets → NoneOf tickets) → NoneOf (if first then a else b).tickets → NoneOf tickets
none_either a b true tickets p q = p
none_either a b false tickets p q = q

none_unpruned_by : (w : World) (k : ℕ) (t : Ticket) (x : Option Deletion) → fin.get w.tickets k ≡ Some t → NoneOf (delete_failed_by w k t x).tickets → NoneOf w.tickets
none_unpruned_by w k t None is none = none
none_unpruned_by w k t (Some x) is none = none_again w.tickets k t (record t { out = false }) is refl none

none_unpruned : (w : World) (k : ℕ) (o : Option Ticket) → fin.get w.tickets k ≡ o → NoneOf (delete_failed w k o).tickets → NoneOf w.tickets
none_unpruned w k None is = λ none. none
none_unpruned w k (Some t) is =
    none_either (with_ticket w k (record t { out = false })) (delete_failed_by w k t (fin.get w.deletes t.op)) (is_stale w t t.work) w.tickets
    (none_again w.tickets k t (record t { out = false }) is refl) (none_unpruned_by w k t (fin.get w.deletes t.op) is)

none_prune : (f : Formats) (w : World) (k : ℕ) (prune : Prune) (reply : Reply) (image : Option Image) → swaps_record (PruneStep prune) ≡ false → NoneOf (prune_step f w k prune reply image).tickets → NoneOf w.tickets
none_prune f w k (FetchShard name) WasFetched image e none =
    none_given w k (fetching name (told_blob f image name)) (fin.get w.tickets k) refl (λ t uuids plan work. (plan, fetching_work name (told_blob f image name) t ∙ work)) none
none_prune f w k (PlanShards shards) reply image e none =
    none_given w k (planned f shards w.next_id) (fin.get w.tickets k) refl (planned_stays f shards w.next_id) none
none_prune f w k SettlePruned reply image e none = absurd (true≢false e)
none_prune f w k EndDelete reply image e none = none_given w k (λ t. record t { out = false }) (fin.get w.tickets k) refl (λ t uuids plan work. (plan, work)) none
none_prune f w k (DeleteFails why) reply image e none = none_unpruned w k (fin.get w.tickets k) refl none
none_prune f w k prune reply image e none = none

keeps_prune : (f : Formats) (w : World) (k : ℕ) (prune : Prune) (reply : Reply) (image : Option Image) → swaps_record (PruneStep prune) ≡ false → Keeps w (prune_step f w k prune reply image)
keeps_prune f w k prune reply image e =
    record {
      root = (rests_prune f w k prune reply image e).root;
      works = works_given w.tickets (prune_step f w k prune reply image).tickets k (prune_stays f w k prune reply image).tickets;
      none = none_prune f w k prune reply image e;
    }

keeps_done_step : (f : Formats) (w : World) → AreBelow w → (k : ℕ) (step : Step) (reply : Reply) (image : Option Image) → IsNoSettle step → Keeps w (done_step f w k step reply image)
keeps_done_step f w below k (AskStep (Snapshot name indices moment)) reply image no_settle = record { root = refl; works = works_same w.tickets; none = λ h. h }
keeps_done_step f w below k (AskStep (Clone source name indices moment taken)) reply image no_settle = keeps_clone w source name indices moment taken
keeps_done_step f w below k (AskStep (DeleteSnapshots names)) reply image no_settle = keeps_delete w names
keeps_done_step f w below k (AskStep (Restore name place)) (AcceptedRestore o uuid indices) image no_settle = record { root = refl; works = works_same w.tickets; none = λ h. h }
keeps_done_step f w below k (AskStep Cleanup) reply image no_settle = record { root = refl; works = works_same w.tickets; none = λ h. h }
keeps_done_step f w below k TakeStep (Gave ticket op unit) image no_settle = keeps_taken f w below op unit (fin.get w.ops op)
keeps_done_step f w below k (DrawStep n) reply image no_settle =
    let h = keeps_change w k (λ t. record t { first = w.next_id; drawn = n }) (λ t. refl) (fin.get w.tickets k) refl in record { root = h.root; works = h.works; none = h.none }
keeps_done_step f w below k (CommitStep name) WasDone image no_settle = keeps_change w k (committing name (told_blob f image name)) (committing_work name (told_blob f image name)) (fin.get w.tickets k) refl
keeps_done_step f w below k (CommitStep name) WasThere image no_settle = keeps_change w k (λ t. noting t name) (λ t. refl) (fin.get w.tickets k) refl
keeps_done_step f w below k LatestStep reply image no_settle = keeps_change w k (λ t. record t { tried_latest = true }) (λ t. refl) (fin.get w.tickets k) refl
keeps_done_step f w below k (FetchStep name) WasFetched image no_settle = keeps_change w k (fetching name (told_blob f image name)) (fetching_work name (told_blob f image name)) (fin.get w.tickets k) refl
keeps_done_step f w below k (ListStep from) (WasListed page) image no_settle = keeps_change w k (λ t. listing t page) (λ t. refl) (fin.get w.tickets k) refl
keeps_done_step f w below k RaiseStep reply image no_settle =
    let h = keeps_change w k (λ t. record t { raised = Some w.pending }) (λ t. refl) (fin.get w.tickets k) refl in record { root = h.root; works = h.works; none = h.none }
keeps_done_step f w below k SettleStep reply image no_settle = absurd no_settle
keeps_done_step f w below k (DoneStep result) reply image no_settle = keeps_done w k result (fin.get w.tickets k) refl
keeps_done_step f w below k (FailedStep why) reply image no_settle = keeps_failed w k (fin.get w.tickets k) refl
keeps_done_step f w below k FinishStep reply image no_settle = keeps_change w k (λ t. record t { out = false }) (λ t. refl) (fin.get w.tickets k) refl
keeps_done_step f w below k DroppedStep reply image no_settle = keeps_dropped w k (fin.get w.tickets k) refl
keeps_done_step f w below k ElectStep reply image no_settle = record { root = refl; works = works_same w.tickets; none = λ h. h }
keeps_done_step f w below k (ReadStep read) reply image no_settle = keeps_read f w k read reply image
keeps_done_step f w below k (PruneStep SettlePruned) reply image no_settle = absurd no_settle
keeps_done_step f w below k (PruneStep prune) reply image no_settle = keeps_prune f w k prune reply image refl
keeps_done_step f w below k step reply image no_settle = keeps_same w

keeps_fallen : (f : Formats) (w up : World) (image : Option Image) → Keeps w up → Keeps w (fallen f w up image)
keeps_fallen f w up image h =
    let g = keeps_either w up w (has_text image (f.cluster.text (record_of up))) h (keeps_same w) in record { root = g.root; works = g.works; none = g.none }

keeps_left : (w : World) (name : BlobName) (was now : Option Bytes) → Keeps w (test_left w name was now)
keeps_left w name None (Some bytes) = record { root = refl; works = works_same w.tickets; none = λ h. h }
keeps_left w name was now = keeps_same w

keeps_fault : (f : Formats) (w : World) → AreBelow w → (k : ℕ) (step : Step) (image : Option Image) → IsNoSettle step → Keeps w (faulted f w k step image)
keeps_fault f w below k LatestStep image no_settle = keeps_change w k (λ t. record t { tried_latest = true }) (λ t. refl) (fin.get w.tickets k) refl
keeps_fault f w below k (BeginStep name) image no_settle = keeps_either w (tried w k) w (is_latest name) (keeps_change w k (λ t. record t { tried_latest = true }) (λ t. refl) (fin.get w.tickets k) refl) (keeps_same w)
keeps_fault f w below k (AskStep (Restore name place)) image no_settle = keeps_same w
keeps_fault f w below k (AskStep command) image no_settle = keeps_fallen f w (done_step f w k (AskStep command) HasEnded image) image (keeps_done_step f w below k (AskStep command) HasEnded image tt)
keeps_fault f w below k RaiseStep image no_settle = keeps_fallen f w _ image (keeps_done_step f w below k RaiseStep HasEnded image tt)
keeps_fault f w below k SettleStep image no_settle = absurd no_settle
keeps_fault f w below k DroppedStep image no_settle = keeps_fallen f w _ image (keeps_done_step f w below k DroppedStep HasEnded image tt)
keeps_fault f w below k ElectStep image no_settle = keeps_fallen f w _ image (keeps_done_step f w below k ElectStep HasEnded image tt)
keeps_fault f w below k (ReadStep (CommitTest name)) image no_settle = keeps_left w name (fin.get w.blobs (f.names.text name)) (told_blob f image name)
keeps_fault f w below k (PruneStep SettlePruned) image no_settle = absurd no_settle
keeps_fault f w below k (PruneStep (RemoveDoomed names)) image no_settle = record { root = refl; works = works_same w.tickets; none = λ h. h }
keeps_fault f w below k step image no_settle = keeps_same w

keeps_answered : (f : Formats) (w : World) → AreBelow w → (k : ℕ) (step : Step) (reply : Reply) (image : Option Image) → LeavesInfos step reply → Keeps w (answered f w k step reply image)
keeps_answered f w below k SettleStep (Refused DepotFault) image is_plain = absurd is_plain
keeps_answered f w below k SettleStep (Refused refusal) image is_plain = keeps_same w
keeps_answered f w below k SettleStep reply image is_plain = absurd is_plain
keeps_answered f w below k (PruneStep SettlePruned) (Refused DepotFault) image is_plain = absurd is_plain
keeps_answered f w below k (PruneStep SettlePruned) (Refused refusal) image is_plain = keeps_same w
keeps_answered f w below k (PruneStep SettlePruned) reply image is_plain = absurd is_plain
keeps_answered f w below k step (Refused DepotFault) image is_plain = keeps_fault f w below k step image tt
keeps_answered f w below k step (Refused refusal) image is_plain = keeps_same w
keeps_answered f w below k step reply image is_plain = keeps_done_step f w below k step reply image tt

pub root_step : (f : Formats) (w : World) (m : Moment) → Tracked w → LeavesInfos m.entry.step m.entry.reply → (after f w m).root ≡ w.root
root_step f w m t is_plain = (keeps_answered f w (λ k u e. (t.tickets k u e).0) m.entry.who m.entry.step m.entry.reply m.image is_plain).root

pub works_step : (f : Formats) (w : World) (m : Moment) → Tracked w → LeavesInfos m.entry.step m.entry.reply → WorksStay w (after f w m)
works_step f w m t is_plain = (keeps_answered f w (λ k u e. (t.tickets k u e).0) m.entry.who m.entry.step m.entry.reply m.image is_plain).works

pub none_step : (f : Formats) (w : World) (m : Moment) → Tracked w → LeavesInfos m.entry.step m.entry.reply → NoDeleting (after f w m) → NoDeleting w
none_step f w m t is_plain = (keeps_answered f w (λ k u e. (t.tickets k u e).0) m.entry.who m.entry.step m.entry.reply m.image is_plain).none

-- ---- what keeps the infos

-- the step settles nothing, and removes nothing that a delete doomed
abbrev LeavesAll : Step → Reply → Type 0
LeavesAll SettleStep (Refused DepotFault) = ⊥
LeavesAll SettleStep (Refused refusal) = Unit {0}
LeavesAll SettleStep reply = ⊥
LeavesAll (PruneStep SettlePruned) (Refused DepotFault) = ⊥
LeavesAll (PruneStep SettlePruned) (Refused refusal) = Unit {0}
LeavesAll (PruneStep SettlePruned) reply = ⊥
LeavesAll (PruneStep (RemoveDoomed names)) reply = ⊥
LeavesAll step reply = Unit {0}

leaves_all : (step : Step) (reply : Reply) → LeavesInfos step reply → LeavesAll step reply ⊎ ((names : List BlobName) × (step ≡ PruneStep (RemoveDoomed names)))
leaves_all SettleStep (Refused DepotFault) plain = absurd plain
leaves_all SettleStep (Refused refusal) plain = inl tt
leaves_all SettleStep reply plain = absurd plain
leaves_all (PruneStep SettlePruned) (Refused DepotFault) plain = absurd plain
leaves_all (PruneStep SettlePruned) (Refused refusal) plain = inl tt
leaves_all (PruneStep SettlePruned) reply plain = absurd plain
leaves_all (PruneStep (RemoveDoomed names)) reply plain = inr (names, refl)
leaves_all step reply plain = inl tt

blobs_same : (f : Formats) (was now : Blobs) → now ≡ was → KeepsInfos f was now
blobs_same f was now same m b h = subst (λ (x : Blobs). At f x (Snap m) b) (sym same) h

-- a blob is added under a free name
pub blobs_added : (f : Formats) (w : World) (name : BlobName) (bytes : Bytes) (now : Blobs) → Adds f w name bytes now → KeepsInfos f w.blobs now
blobs_added f w name bytes now adds m b h = subst (λ (x : Blobs). At f x (Snap m) b) (sym adds.1) (get_kept nat_list_cmp_total texts_same w.blobs (f.names.text name) bytes (f.names.text (Snap m)) b adds.0 h.0, h.1)

-- `index.latest` is replaced
pub blobs_latest : (f : Formats) (was now : Blobs) (bytes : Bytes) → ReadsBack f.names Latest → now ≡ fin.insert was (f.names.text Latest) bytes → KeepsInfos f was now
blobs_latest f was now bytes named is m b h =
    subst (λ (x : Blobs). At f x (Snap m) b) (sym is) (get_other nat_list_cmp_total texts_same was (f.names.text Latest) bytes (f.names.text (Snap m)) (λ same. h.1.1 (text_one f (Snap m) Latest h.1.0 named same)) ∙ h.0, h.1)

-- test blobs are removed
pub blobs_left : (f : Formats) (w : World) (names : List BlobName) (now : Blobs) → AreTests w.caller → MayRemoveTests w names → Removes f w.blobs now names → KeepsInfos f w.blobs now
blobs_left f w names now tests may left m b h = left.stays (Snap m) b h (λ named. (tests (Snap m) (may.committed (Snap m) named)).1)

module _ (f : Formats) (size : ℕ) (w : World) where
  abbrev Kept : Option Image → Type 0
  Kept image = KeepsInfos f w.blobs (blobs_in image w.blobs)

  told_kept : (image : Option Image) (P : Blobs → Type 0) → ((now : Blobs) → P now → KeepsInfos f w.blobs now) → Told image P → Kept image
  told_kept None P keeps told = λ m b h. h
  told_kept (Some image) P keeps told = keeps image.blobs told

  same_kept : (image : Option Image) → SameBlobs w image → Kept image
  same_kept image same = told_kept image (λ blobs. blobs ≡ w.blobs) (λ now is. blobs_same f w.blobs now is) same

  added_kept : (image : Option Image) (name : BlobName) (bytes : Bytes) → Told image (Adds f w name bytes) → Kept image
  added_kept image name bytes adds = told_kept image (Adds f w name bytes) (blobs_added f w name bytes) adds

  left_kept : (image : Option Image) (name : BlobName) (bytes : Bytes) → Told image (λ blobs. (blobs ≡ w.blobs) ⊎ Adds f w name bytes blobs) → Kept image
  left_kept image name bytes left =
      told_kept image (λ blobs. (blobs ≡ w.blobs) ⊎ Adds f w name bytes blobs) (λ now is. elim is [ inl e ↦ blobs_same f w.blobs now e | inr adds ↦ blobs_added f w name bytes now adds ]) left

  verified_kept : (read : Read) (reply : Reply) (image : Option Image) → AreTests w.caller → VerifyAllows f w read reply image → Kept image
  verified_kept read reply image tests (allowed.DrawingTest im idle fits same) = same_kept im same
  verified_kept read reply image tests (allowed.TestSpent im idle spent same) = same_kept im same
  verified_kept read reply image tests (allowed.BeginningTest name im own same) = same_kept im same
  verified_kept read reply image tests (allowed.BeginTestFails name im own same) = same_kept im same
  verified_kept read reply image tests (allowed.CommittingTest name bytes im own new adds) = added_kept im name bytes adds
  verified_kept read reply image tests (allowed.TestTaken name im own there) = told_kept im _ (λ now is. blobs_same f w.blobs now is.1) there
  verified_kept read reply image tests (allowed.CommitTestFails name bytes im own leaves) = left_kept im name bytes leaves
  verified_kept read reply image tests (allowed.RemovingTests names im may left) = told_kept im _ (λ now is. blobs_left f w names now tests may is.0) left
  verified_kept read reply image tests (allowed.RemoveTestsFails names im may left) = told_kept im _ (λ now is. blobs_left f w names now tests may is) left
  verified_kept read reply image tests (allowed.VerifyingAll im done same) = same_kept im same
  verified_kept read reply image tests (allowed.VerifyFailing why im begun same) = same_kept im same

  pruned_kept : (who : ℕ) (prune : Prune) (reply : Reply) (image : Option Image) → PruneAllows f w who prune reply image → LeavesAll (PruneStep prune) reply → Kept image
  pruned_kept who prune reply image (FetchingShard k name im g there) plain = told_kept im _ (λ now is. blobs_same f w.blobs now is.2) there
  pruned_kept who prune reply image (ShardMissing k name im g none) plain = told_kept im _ (λ now is. blobs_same f w.blobs now is.1) none
  pruned_kept who prune reply image (FetchShardFails k name im g same) plain = same_kept im same
  pruned_kept who prune reply image (Planning k shards im p fits back same) plain = same_kept im same
  pruned_kept who prune reply image (PlanSpent k shards im p spent same) plain = same_kept im same
  pruned_kept who prune reply image (SettlingDelete k im s present same) plain = same_kept im same
  pruned_kept who prune reply image (SettleDeleteStale k im s apart same) plain = same_kept im same
  pruned_kept who prune reply image (SettleDeleteFails k im s present same) plain = same_kept im same
  pruned_kept who prune reply image (EndingDelete k im e same) plain = same_kept im same
  pruned_kept who prune reply image (FailingDelete k why im c same) plain = same_kept im same
  pruned_kept who prune reply image other plain = absurd plain

  pub allowed_kept : (who : ℕ) (step : Step) (reply : Reply) (image : Option Image) → AreTests w.caller → Allows f size w who step reply image → LeavesAll step reply → Kept image
  allowed_kept who step reply image tests (allowed.Accepting name indices moment o im a same) plain = same_kept im same
  allowed_kept who step reply image tests (allowed.GivingNothing im none same) plain = same_kept im same
  allowed_kept who step reply image tests (allowed.Giving k o unit im is first gives same) plain = same_kept im same
  allowed_kept who step reply image tests (allowed.Drawing k n first im draws same) plain = same_kept im same
  allowed_kept who step reply image tests (allowed.Beginning k name im c same) plain = same_kept im same
  allowed_kept who step reply image tests (allowed.BeginningLatest k im p same) plain = same_kept im same
  allowed_kept who step reply image tests (allowed.Committing k name im c adds) plain = added_kept im name c.bytes adds
  allowed_kept who step reply image tests (allowed.Finding k name im c there) plain = told_kept im _ (λ now is. blobs_same f w.blobs now is.1) there
  allowed_kept who step reply image tests (allowed.Replacing k im p named put) plain = told_kept im _ (λ now is. blobs_latest f w.blobs now _ named is) put
  allowed_kept who step reply image tests (allowed.Fetching k name im c there) plain = told_kept im _ (λ now is. blobs_same f w.blobs now is.2) there
  allowed_kept who step reply image tests (allowed.Missing k name im c none) plain = told_kept im _ (λ now is. blobs_same f w.blobs now is.1) none
  allowed_kept who step reply image tests (allowed.Listing k from page im lists shape told) plain = told_kept im _ (λ now is. blobs_same f w.blobs now is.1) told
  allowed_kept who step reply image tests (allowed.Raising k n im r same) plain = same_kept im same
  allowed_kept who step reply image tests (allowed.Settling k im s same) plain = same_kept im same
  allowed_kept who step reply image tests (allowed.Doing k r im d same) plain = same_kept im same
  allowed_kept who step reply image tests (allowed.Failing k why im h same) plain = same_kept im same
  allowed_kept who step reply image tests (allowed.Finishing k im h same) plain = same_kept im same
  allowed_kept who step reply image tests (allowed.Dropping k im h same) plain = same_kept im same
  allowed_kept who step reply image tests (allowed.Electing im room same) plain = same_kept im same
  allowed_kept who step reply image tests (allowed.Looking im same) plain = same_kept im same
  allowed_kept who step reply image tests (allowed.OpeningRestore name place o uuid indices im a same) plain = same_kept im same
  allowed_kept who step reply image tests (allowed.OpeningClone source name names moment o taken im a same) plain = same_kept im same
  allowed_kept who step reply image tests (allowed.GoingInto names im a same) plain = same_kept im same
  allowed_kept who step reply image tests (allowed.OpeningCleanup im a same) plain = same_kept im same
  allowed_kept who step reply image tests (allowed.Verifying read r im h) plain = verified_kept read r im tests h
  allowed_kept who step reply image tests (allowed.Reading k read r im h same) plain = same_kept im same
  allowed_kept who step reply image tests (allowed.Ruled command refusal im rule same) plain = same_kept im same
  allowed_kept who step reply image tests (allowed.DrawSpent k n im may spent same) plain = same_kept im same
  allowed_kept who step reply image tests (allowed.RaiseStale k im may stale same) plain = same_kept im same
  allowed_kept who step reply image tests (allowed.SettleStale k n t s im may stale same) plain = same_kept im same
  allowed_kept who step reply image tests (allowed.DropStale k im may stale same) plain = same_kept im same
  allowed_kept who step reply image tests (allowed.RaiseSpent k im may present spent same) plain = same_kept im same
  allowed_kept who step reply image tests (allowed.ElectSpent im spent same) plain = same_kept im same
  allowed_kept who step reply image tests (allowed.Taken k name im c other there) plain = told_kept im _ (λ now is. blobs_same f w.blobs now is.1) there
  allowed_kept who step reply image tests (allowed.BeginFails k name im c same) plain = same_kept im same
  allowed_kept who step reply image tests (allowed.BeginLatestFails k im p same) plain = same_kept im same
  allowed_kept who step reply image tests (allowed.CommitFails k name im c left) plain = left_kept im name c.bytes left
  allowed_kept who step reply image tests (allowed.ReplaceFails k im p named left) plain =
      told_kept im _ (λ now is. elim is [ inl e ↦ blobs_same f w.blobs now e | inr put ↦ blobs_latest f w.blobs now _ named put ]) left
  allowed_kept who step reply image tests (allowed.FetchFails k name im c same) plain = same_kept im same
  allowed_kept who step reply image tests (allowed.ListFails k from im lists same) plain = same_kept im same
  allowed_kept who step reply image tests (allowed.AskFails name indices moment im a same) plain = same_kept im same
  allowed_kept who step reply image tests (allowed.AskCloneFails source name names moment taken im a same) plain = same_kept im same
  allowed_kept who step reply image tests (allowed.AskDeleteFails names im a same) plain = same_kept im same
  allowed_kept who step reply image tests (allowed.AskCleanupFails im a same) plain = same_kept im same
  allowed_kept who step reply image tests (allowed.RaiseFails k im r same) plain = same_kept im same
  allowed_kept who step reply image tests (allowed.SettleFails k im s same) plain = same_kept im same
  allowed_kept who step reply image tests (allowed.DropFails k im h same) plain = same_kept im same
  allowed_kept who step reply image tests (allowed.ElectFails im room same) plain = same_kept im same
  allowed_kept who step reply image tests (allowed.Pruning k prune r im p) plain = pruned_kept k prune r im p plain

pub blobs_step : (f : Formats) (size : ℕ) (w : World) (m : Moment) → AreTests w.caller → Allowed f size w m → LeavesAll m.entry.step m.entry.reply → InfosThere f w (after f w m)
blobs_step f size w m tests a plain = elim a.answered [
  | inl alive ↦ allowed_kept f size w m.entry.who m.entry.step m.entry.reply m.image tests alive.1 plain
  | inr dead ↦ same_kept f size w m.image dead.same
]

-- ---- what a delete doomed is removed

-- what a delete or cleanup that has settled dooms is none of these infos' blobs, but of a snapshot that a finalization made
abbrev pub SparesInfos : Formats → World → List Info → Type 0
SparesInfos f w infos = (k : ℕ) (t : Ticket) (uuids : List ℕ) (s : Swap) (i : Info) → fin.get w.tickets k ≡ Some t → t.settled ≡ true → t.work ≡ Deleting uuids (Some s) → Has infos i
    → WasMade f w i.uuid.number (map ref_of_code i.indices) ⊎ (Has (dooms f t) (Snap i.uuid.number) → ⊥)

-- some doomed names were removed, and nothing else
abbrev Removal : Formats → World → ℕ → List BlobName → Option Image → Type 0
Removal f w who names image = RemovesDoomed f w who names image × Told image (λ blobs. Removes f w.blobs blobs names)

all_gone : (f : Formats) (w : World) (names : List BlobName) (image : Option Image) → Told image (λ blobs. Removes f w.blobs blobs names × ((name : BlobName) → Has names name → fin.get blobs (f.names.text name) ≡ None))
    → Told image (λ blobs. Removes f w.blobs blobs names)
all_gone f w names None told = tt
all_gone f w names (Some image) told = told.0

pruned_removal : (f : Formats) (w : World) (who : ℕ) (names : List BlobName) (reply : Reply) (image : Option Image) → PruneAllows f w who (RemoveDoomed names) reply image → Removal f w who names image
pruned_removal f w who names reply image (RemovingDoomed k doomed im r removed) = (r, all_gone f w doomed im removed)
pruned_removal f w who names reply image (RemoveDoomedFails k doomed im r removes) = (r, removes)

removal_of : (f : Formats) (size : ℕ) (w : World) (who : ℕ) (names : List BlobName) (reply : Reply) (image : Option Image) → Allows f size w who (PruneStep (RemoveDoomed names)) reply image → Removal f w who names image
removal_of f size w who names reply image (allowed.Pruning k prune r im p) = pruned_removal f w k names r im p

removal_kept : (f : Formats) (w : World) (infos : List Info) → SparesInfos f w infos → (who : ℕ) (names : List BlobName) (image : Option Image) → Removal f w who names image
    → (i : Info) → Has infos i → WasMade f w i.uuid.number (map ref_of_code i.indices) ⊎ ((bytes : Bytes) → At f w.blobs (Snap i.uuid.number) bytes → At f (blobs_in image w.blobs) (Snap i.uuid.number) bytes)
removal_kept f w infos spares who names None h i m = inr (λ bytes at. at)
removal_kept f w infos spares who names (Some image) h i m = elim (spares who h.0.t h.0.uuids h.0.s i h.0.deleting.out.there h.0.settled h.0.deleting.work m) [
  | inl made ↦ inl made
  | inr spared ↦ inr (λ bytes at. h.1.stays (Snap i.uuid.number) bytes at (λ named. spared (h.0.doomed (Snap i.uuid.number) named)))
]

-- ---- the infos over a step that is no settle

kept_step : (f : Formats) (size : ℕ) (w : World) (m : Moment) (infos : List Info) → AreTests w.caller → SparesInfos f w infos → Allowed f size w m → LeavesInfos m.entry.step m.entry.reply → InfosKept f w (after f w m) infos
kept_step f size w m infos tests spares a is_plain = elim (leaves_all m.entry.step m.entry.reply is_plain) [
  | inl plain ↦ λ i has. inr (blobs_step f size w m tests a plain i.uuid.number)
  | inr removal ↦ elim a.answered [
    | inl alive ↦ removal_kept f w infos spares m.entry.who removal.0 m.image (removal_of f size w m.entry.who removal.0 m.entry.reply m.image (subst (λ (s : Step). Allows f size w m.entry.who s m.entry.reply m.image) removal.1 alive.1))
    | inr dead ↦ λ i has. inr (same_kept f size w m.image dead.same i.uuid.number)
  ]
]

pub infos_step : (f : Formats) (size : ℕ) (w : World) (m : Moment) (tells : Bool) (infos : List Info) → Tracked w → AreTests w.caller → SparesInfos f w infos → Allowed f size w m → LeavesInfos m.entry.step m.entry.reply
    → AreInfosOf f w tells infos → AreInfosOf f (after f w m) tells infos
infos_step f size w m tells infos t tests spares a is_plain h =
    infos_stay f w (after f w m) tells infos (root_step f w m t is_plain) (works_step f w m t is_plain) (none_step f w m t is_plain) (kept_step f size w m infos tests spares a is_plain) h

-- ---- the root with a snapshot more

-- each info is of a snapshot that is listed
abbrev pub AreListed : RootData → List Info → Type 0
AreListed root infos = (i : Info) → Has infos i → (snap : RootSnap) × Has root.snapshots snap × (i.uuid.number ≡ snap.uuid)

-- a shard with a generation keeps one, and one that is done has one
generation_kept : (root new : RootData) (info : SnapInfo) (results : List ShardResult) → Finalizes root info results new → (index shard g : ℕ) → Generation root index shard g → (h : ℕ) × Generation new index shard h
generation_kept root new info results fins index shard g at = let now = larger_old (at_shard_of (index_at root.indices index) shard) (done_at results index shard) g at in (now.0, fins.generations index shard ∙ now.1)

generation_made : (root new : RootData) (info : SnapInfo) (results : List ShardResult) → Finalizes root info results new → (index shard g : ℕ) → done_at results index shard ≡ Some g → (h : ℕ) × Generation new index shard h
generation_made root new info results fins index shard g at = let now = larger_new (at_shard_of (index_at root.indices index) shard) (done_at results index shard) g at in (now.0, fins.generations index shard ∙ now.1)

-- the indices of another snapshot stay
pub indices_kept : (root new : RootData) (info : SnapInfo) (results : List ShardResult) → Finalizes root info results new → (uuid : ℕ) (indices : List IndexRef) → uuid ≢ info.uuid
    → AreIndicesIn root uuid indices → AreIndicesIn new uuid indices
indices_kept root new info results fins uuid indices apart a =
    record {
      listed = λ r m. let (x, xm, name, id, has) = a.listed r m in let (y, ym, y_name, y_id, more) = fins.kept x xm in (y, ym, y_name ∙ name, y_id ∙ id, more uuid has);
      exact = λ y ym has. elim (fins.from y ym uuid has) [
        | inl e ↦ absurd (apart e.0)
        | inr e ↦ let (x, xm, name, id, was) = e in let (r, rm, r_name, r_id) = a.exact x xm was in (r, rm, r_name ∙ name, r_id ∙ id)
      ];
      apart = a.apart;
    }

pub generations_kept : (root new : RootData) (info : SnapInfo) (results : List ShardResult) → Finalizes root info results new → (indices : List IndexRef) → HaveGenerations root indices → HaveGenerations new indices
generations_kept root new info results fins indices h r k m below = let (g, at) = h r k m below in generation_kept root new info results fins r.id k g at

-- a shard of an index is a place
places_has : (refs : List IndexRef) (r : IndexRef) (k : ℕ) → Has refs r → k < r.shards → Has (places refs) (r, k)
places_has [] r k m below = absurd m
places_has (q ∷ refs) r k (inl e) below =
    Has-left (numbered q 0 q.shards) (places refs) (r, k) (subst (λ (z : IndexRef). Has (numbered z 0 z.shards) (r, k)) (sym e) (numbered_has r 0 r.shards k (omega arith) (omega (arith, below))))
places_has (q ∷ refs) r k (inr m) below = Has-right (numbered q 0 q.shards) (places refs) (r, k) (places_has refs r k m below)

-- what holds of an open op suits the root
suits : (root : RootData) (ops : FinMap nat_cmp Op) (next o : ℕ) (op : Op) → Named root ops next → fin.get ops o ≡ Some op → Suits root op
suits root ops next o op n there =
    record {
      places = n.shards o op there;
      results = λ s r m state. n.results o op s r there m state;
      one_id = λ r q rm qm e. n.once o op r q there rm qm e;
      same_name = λ r x rm xm e. (n.rooted o op r x there rm xm).one_name e;
    }

pub finalized : (root : RootData) (ops : FinMap nat_cmp Op) (next o : ℕ) (op : Op) (results : List ShardResult) → Named root ops next → fin.get ops o ≡ Some op → AllDone op.shards results
    → Finalizes root (info_of op results) results (finalized_root root (info_of op results) results)
finalized root ops next o op results n there done = finalized_is root op results (suits root ops next o op n there) (λ x y xm ym e. (n.root_indices x y xm ym).one_name e) done

found_at : (results : List ShardResult) (s : ShardWork) (r : IndexRef) (k g : ℕ) → ◌≡◌ {A = IndexRef × ℕ} (s.ref, s.number) (r, k) → done_at results s.ref.id s.number ≡ Some g → done_at results r.id k ≡ Some g
found_at results s r k g same found = subst (λ (p : IndexRef × ℕ). done_at results p.0.id p.1 ≡ Some g) same found

-- the new snapshot has those of its op
pub indices_made : (root new : RootData) (ops : FinMap nat_cmp Op) (next o : ℕ) (op : Op) (results : List ShardResult) → Named root ops next → fin.get ops o ≡ Some op → AllDone op.shards results
    → AreApart op.indices → Finalizes root (info_of op results) results new → AreIndicesIn new op.uuid op.indices
indices_made root new ops next o op results n there done apart fins =
    record {
      listed = fins.made;
      exact = λ y ym has. elim (fins.from y ym op.uuid has) [
        | inl e ↦ e.1
        | inr e ↦ let (x, xm, name, id, was) = e in absurd (n.unused o op x there xm was)
      ];
      apart = apart;
    }

pub generations_made : (root new : RootData) (ops : FinMap nat_cmp Op) (next o : ℕ) (op : Op) (results : List ShardResult) → Named root ops next → fin.get ops o ≡ Some op → AllDone op.shards results
    → Finalizes root (info_of op results) results new → HaveGenerations new op.indices
generations_made root new ops next o op results n there done fins r k m below =
    let member : Has (map (λ (s : ShardWork). (s.ref, s.number)) op.shards) (r, k) = subst (λ (xs : List (IndexRef × ℕ)). Has xs (r, k)) (sym (n.shards o op there)) (places_has op.indices r k m below) in
    let (s, sm, e) = Has-mapped (λ (s : ShardWork). (s.ref, s.number)) op.shards (r, k) member in
    let (q, state, qm) = result_of op.shards results done s sm in
    let found : done_at results s.ref.id s.number ≡ Some q.generation = done_found op.shards results done (λ z x zm st. n.results o op z x there zm st) (λ a b am bm ids nums. n.distinct o op a b there am bm ids nums) s q sm state in
    let at : done_at results r.id k ≡ Some q.generation = found_at results s r k q.generation e found in
    generation_made root new (info_of op results) results fins r.id k q.generation at

-- ---- a settle

-- From w the finalization under k has settled in v, which made the snapshot of this info.
pub record HasSettled (f : Formats) (w v : World) (k : ℕ) (i : Info) : Type 0 where
  pub t : Ticket
  pub out : IsOut w k t
  pub unsettled : t.settled ≡ false
  pub present : t.term ≡ w.term
  pub info : SnapInfo
  pub results : List ShardResult
  pub made : Command
  pub work : t.work ≡ Finalize info results made
  pub root : v.root ≡ finalized_root t.root info results
  pub works : WorksStay w v
  pub none : NoDeleting v → NoDeleting w
  pub code : info_of_code i ≡ info
  pub apart : AreApart (map ref_of_code i.indices)
  pub back : ReadsBack f.info info

module _ (f : Formats) (w v : World) (k : ℕ) (i : Info) (tr : Tracked w) (h : HasSettled f w v k i) where
  law : FinalTracked w.root w.ops h.t h.info h.results
  law = tr.finals k h.t h.info h.results h.made h.out.there h.out.out h.unsettled h.present h.work

  code : info_of_code i ≡ info_of law.op h.results
  code = h.code ∙ law.info_is

  fins : Finalizes w.root (info_of law.op h.results) h.results v.root
  fins =
      let root : v.root ≡ finalized_root w.root (info_of law.op h.results) h.results = h.root ∙ (λ j. finalized_root (law.root_is j) (law.info_is j) h.results) in
      subst (Finalizes w.root (info_of law.op h.results) h.results) (sym root) (finalized w.root w.ops w.next_id h.t.op law.op h.results tr.named law.op_there law.done)

  uuid : i.uuid.number ≡ law.op.uuid
  uuid = ap (λ (x : SnapInfo). x.uuid) code

  refs : map ref_of_code i.indices ≡ law.op.indices
  refs = ap (λ (x : SnapInfo). x.indices) code

  new_within : AreIndicesIn v.root i.uuid.number (map ref_of_code i.indices)
  new_within =
      subst (λ (xs : List IndexRef). AreIndicesIn v.root i.uuid.number xs) (sym refs) (subst (λ (u : ℕ). AreIndicesIn v.root u law.op.indices) (sym uuid)
      (indices_made w.root v.root w.ops w.next_id h.t.op law.op h.results tr.named law.op_there law.done (subst AreApart refs h.apart) fins))

  new_generations : HaveGenerations v.root (map ref_of_code i.indices)
  new_generations = subst (λ (xs : List IndexRef). HaveGenerations v.root xs) (sym refs) (generations_made w.root v.root w.ops w.next_id h.t.op law.op h.results tr.named law.op_there law.done fins)

  pub new_made : WasMade f v i.uuid.number (map ref_of_code i.indices)
  new_made =
      let (u, there, same) = h.works k h.t h.out.there (final_other h.t.work h.info h.results h.made h.work) in
      record {
        number = k;
        t = u;
        there = there;
        info = h.info;
        results = h.results;
        made = h.made;
        work = same ∙ h.work;
        uuid_is = ap (λ (x : SnapInfo). x.uuid) (sym h.code);
        indices_is = ap (λ (x : SnapInfo). x.indices) (sym h.code);
        back = h.back;
      }

  -- the snapshots are one more
  snapshot_was : (snap : RootSnap) → Has v.root.snapshots snap → Has w.root.snapshots snap ⊎ (i.uuid.number ≡ snap.uuid)
  snapshot_was snap m = elim (Has-append w.root.snapshots _ snap (subst (λ (xs : List RootSnap). Has xs snap) fins.snapshots m)) [ inl old ↦ inl old | inr e ↦ inr (uuid ∙ ap (λ (x : RootSnap). x.uuid) e) ]

  -- its uuid is that of none that was listed
  uuid_new : (infos : List Info) → AreListed w.root infos → (j : Info) → Has infos j → j.uuid.number ≢ law.op.uuid
  uuid_new infos listed j m same = let (snap, there, e) = listed j m in (tr.named.unlisted h.t.op law.op snap law.op_there there).1 (sym e ∙ same)

  pub infos_settled : (tells : Bool) (infos : List Info) → (tells ≡ true → InfosThere f w v) → AreListed w.root infos → AreInfosOf f w tells infos → AreInfosOf f v tells (infos ++ i ∷ [])
  infos_settled tells infos blobs listed a =
      record {
        there = λ snap m. elim (snapshot_was snap m) [
          | inl old ↦ let (j, jm, e) = a.there snap old in (j, Has-left infos (i ∷ []) j jm, e)
          | inr new ↦ (i, Has-right infos (i ∷ []) i (inl refl), new)
        ];
        each = λ j m. elim (Has-append infos i j m) [
          | inl old ↦
              let was : HasIndices f w tells j.uuid.number (map ref_of_code j.indices) = a.each j old in
              record {
                within = indices_kept w.root v.root (info_of law.op h.results) h.results fins j.uuid.number (map ref_of_code j.indices) (uuid_new infos listed j old) was.within;
                generations = λ n. generations_kept w.root v.root (info_of law.op h.results) h.results fins (map ref_of_code j.indices) (was.generations (h.none n));
                told = told_stays f w v tells j.uuid.number (map ref_of_code j.indices) h.works blobs was.told;
              }
          | inr new ↦ subst (λ (x : Info). HasIndices f v tells x.uuid.number (map ref_of_code x.indices)) new (record { within = new_within; generations = λ n. new_generations; told = inl new_made })
        ];
      }

  pub listed_settled : (infos : List Info) → AreListed w.root infos → AreListed v.root (infos ++ i ∷ [])
  listed_settled infos listed j m =
      let add : RootSnap = record { name = law.op.name; uuid = law.op.uuid; state = 1 } in
      elim (Has-append infos i j m) [
        | inl old ↦ let (snap, there, e) = listed j old in (snap, subst (λ (xs : List RootSnap). Has xs snap) (sym fins.snapshots) (Has-left w.root.snapshots (add ∷ []) snap there), e)
        | inr new ↦ (add, subst (λ (xs : List RootSnap). Has xs add) (sym fins.snapshots) (Has-right w.root.snapshots (add ∷ []) add (inl refl)), ap (λ (x : Info). x.uuid.number) (sym new) ∙ uuid)
      ]

-- ---- the settle of a finalization, as a step

-- its world
settled_is : (f : Formats) (w : World) (k n : ℕ) (t : Ticket) (info : SnapInfo) (results : List ShardResult) (made : Command) → t.work ≡ Finalize info results made → t.raised ≡ Some n
    → settled_of f w k (Some t) ≡ settled_by f w k t (Some (record { root = finalized_root t.root info results; own = metadata f info; commands = made ∷ [] })) (Some n)
settled_is f w k n t info results made work raised = λ j. settled_by f w k t (swap_of f (work j) t.root) (raised j)

pub settled_root : (f : Formats) (w : World) (k n : ℕ) (t : Ticket) (info : SnapInfo) (results : List ShardResult) (made : Command) → t.work ≡ Finalize info results made → t.raised ≡ Some n
    → (settled_of f w k (Some t)).root ≡ finalized_root t.root info results
settled_root f w k n t info results made work raised = ap (λ (x : World). x.root) (settled_is f w k n t info results made work raised)

pub settled_tickets : (f : Formats) (w : World) (k n : ℕ) (t : Ticket) (info : SnapInfo) (results : List ShardResult) (made : Command) → t.work ≡ Finalize info results made → t.raised ≡ Some n
    → (settled_of f w k (Some t)).tickets ≡ fin.insert w.tickets k (record t { settled = true })
settled_tickets f w k n t info results made work raised = ap (λ (x : World). x.tickets) (settled_is f w k n t info results made work raised)

pub settled_works : (f : Formats) (w : World) (k n : ℕ) (t : Ticket) (info : SnapInfo) (results : List ShardResult) (made : Command) → fin.get w.tickets k ≡ Some t → t.work ≡ Finalize info results made → t.raised ≡ Some n
    → WorksStay w (settled_of f w k (Some t))
settled_works f w k n t info results made there work raised =
    subst (WorksStay w) (sym (settled_is f w k n t info results made work raised)) (works_again w.tickets k t (record t { settled = true }) there refl)

settled_none : (f : Formats) (w : World) (k n : ℕ) (t : Ticket) (info : SnapInfo) (results : List ShardResult) (made : Command) → fin.get w.tickets k ≡ Some t → t.work ≡ Finalize info results made → t.raised ≡ Some n
    → NoDeleting (settled_of f w k (Some t)) → NoDeleting w
settled_none f w k n t info results made there work raised none =
    none_again w.tickets k t (record t { settled = true }) there refl (subst (λ (x : World). NoneOf x.tickets) (settled_is f w k n t info results made work raised) none)

-- the world of a settle, where its ticket is told
pub of_ticket : (f : Formats) (w : World) (k n : ℕ) (i : Info) (t : Ticket) (info : SnapInfo) (results : List ShardResult) (made : Command) → IsOut w k t → t.settled ≡ false → t.term ≡ w.term
    → t.work ≡ Finalize info results made → t.raised ≡ Some n → info_of_code i ≡ info → AreApart (map ref_of_code i.indices) → ReadsBack f.info info
    → HasSettled f w (settled_of f w k (Some t)) k i
of_ticket f w k n i t info results made out unsettled present work raised code apart back =
    record {
      t = t;
      out = out;
      unsettled = unsettled;
      present = present;
      info = info;
      results = results;
      made = made;
      work = work;
      root = settled_root f w k n t info results made work raised;
      works = settled_works f w k n t info results made out.there work raised;
      none = settled_none f w k n t info results made out.there work raised;
      code = code;
      apart = apart;
      back = back;
    }

-- ---- what is known of the info

done_one : (shards : List ShardWork) (a b : List ShardResult) → AllDone shards a → AllDone shards b → a ≡ b
done_one [] [] [] p q = refl
done_one [] (x ∷ a) b p q = absurd p
done_one (s ∷ shards) [] b p q = absurd p
done_one (s ∷ shards) (x ∷ a) (y ∷ b) p q = λ j. done_same x y (sym p.0 ∙ q.0) j ∷ done_one shards a b p.1 q.1 j
done_one shards a b p q = absurd q

-- the info of a finalization that is out is that of its op
pub final_info : (w : World) (k : ℕ) (t : Ticket) (info : SnapInfo) (results : List ShardResult) (made : Command) → Tracked w → IsOut w k t → t.settled ≡ false → t.term ≡ w.term → t.work ≡ Finalize info results made
    → (x : Op) (r : List ShardResult) → fin.get w.ops t.op ≡ Some x → AllDone x.shards r → info_of x r ≡ info
final_info w k t info results made tr out unsettled present work x r there done =
    let law : FinalTracked w.root w.ops t info results = tr.finals k t info results made out.there out.out unsettled present work in
    let one : x ≡ law.op = same_Some x law.op (sym there ∙ law.op_there) in
    let same : r ≡ results = done_one law.op.shards r results (subst (λ (o : Op). AllDone o.shards r) one done) law.done in
    (λ j. info_of (one j) (same j)) ∙ sym law.info_is

-- the indices of an info are apart
apart_by : (qs : List CodeRef) → IsDistinct one_id qs → AreApart (map ref_of_code qs)
unfolding IsDistinct
apart_by [] d = tt
apart_by (q ∷ qs) d = (other q qs (λ p has. other_later one_id q qs p has d.0), apart_by qs d.1)
  where
    other : (q : CodeRef) (qs : List CodeRef) → ((p : CodeRef) → Has qs p → one_id q p ≡ false) → (r : IndexRef) → Has (map ref_of_code qs) r → q.id.number ≢ r.id
    other q qs differ r has same =
        let p = Has-mapped ref_of_code qs r has in
        let ids : q.id.number ≡ p.0.id.number = same ∙ sym (ap (λ (x : IndexRef). x.id) p.2) in
        true≢false (sym (eq-eqb q.id.number p.0.id.number ids) ∙ differ p.0 p.1)

pub info_apart : (i : Info) → IsInfo i → AreApart (map ref_of_code i.indices)
info_apart i h = apart_by i.indices (ids_distinct i.indices h.indices)
