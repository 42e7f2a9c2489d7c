-- The steps that call the container for a blob.
use Rattle.std.proofs.Common.{◌≡◌, ℕ, Bool, true, false, List, [], Option, Some, None, Result, Ok, Err, IfOk, OnErr, refl, sym, ap, ◌∙◌, subst, inl, inr}
use Rattle.std.specs.Prelude.{if◌then◌else◌}
use Rattle.std.specs.FinMap as fin
use Rattle.esr_model.specs.Image.{Image}
use Rattle.esr_model.specs.Names.{BlobName, Root, Latest, IndexMeta, ShardSnap, ShardIndex}
use Rattle.esr_model.specs.Values.{Bytes, Has, Formats}
use Rattle.esr_core.specs.World.{World, Ticket, Work, Finalize, Deleting, Swap, swap, swap_of, metadata}
use Rattle.esr_core.specs.Entry.{Step, BeginStep, CommitStep, LatestStep, FetchStep, WasBegun, WasDone, WasThere, WasReplaced, WasFetched, WasAbsent, Refused, DepotFault, Moment}
use Rattle.esr_core.specs.Steps.{noting, IsOut, SwapCommits, ShardCommits, MayCommit, IsToFetch}
use Rattle.esr_core.specs.Texts.{IsMetaOf}
use Rattle.esr_core.specs.After.{change, committing, fetching, told_blob, is_latest, tried as tried_in}
use Rattle.esr_core.specs.Allowed.{Commits, Refinds, Fetches, Puts, IsMetadata, Told, latest_text, Beginning, BeginningLatest, Committing, Finding, Replacing, Fetching, Missing, Taken, BeginFails, BeginLatestFails, CommitFails, ReplaceFails, FetchFails}
use Rattle.esr_depot.specs.declared.depot.Commit.{Commit}
use Rattle.esr_depot.specs.declared.depot.Commit.TheVariants as commits
use Rattle.esr_desk.specs.Conditions.{CanCommit, CanPut, CanBegin, CanFetch, Holds}
use Rattle.esr_desk.specs.Outcome.{fetch_reply}
use Rattle.esr_desk.specs.Refusals.{refusal_of}
use Rattle.esr_desk.specs.Taken.{committed_by, begun_by, tried, tried_by, fetched_by}
use Rattle.esr_desk.specs.declared.refusal.StepRefusal.{StepRefusal}
use Rattle.esr_desk.specs.declared.refusal.StepRefusal.TheVariants as steps
use Rattle.esr_desk.specs.declared.refusal.EntryRefusal.TheVariants as code
use Rattle.esr_desk.specs.Start.{Start, formats_of, world_of, or_no_ticket, ticket_of}
use Rattle.esr_repo.specs.Next.{Did}
use Rattle.esr_repo.specs.May.{MayBegin, MayReplace, MayFetch, IsNamed, MayCommit as StepMayCommit}
use Rattle.esr_repo.specs.Repo.{OwnIndices}
use Rattle.esr_repo.specs.Tickets.{AreOfOps}
use Rattle.esr_repo.specs.Calls.{CommitDid, FetchDid}
use Rattle.esr_repo.specs.Grown.{out_is, added_ticket, changed_ticket}
use Rattle.esr_repo.specs.Stepping.{commit_from}
use Rattle.esr_steps.proofs.Stepping.{kept_by}

-- a blob of this name and these bytes may be committed
abbrev committable : (s : Start) (log : List Moment) (k : ℕ) (name : BlobName) (bytes : Bytes) → AreOfOps (world_of s log) → CanCommit s (ticket_of s log k) name bytes → IsNamed s name
    → Commits (formats_of s) s.part_size (world_of s log) k name
committable s log k name bytes of_ops can named = record {
  t = ticket_of s log k;
  out = out_is s log k can.out;
  unsettled = can.unsettled;
  bytes = bytes;
  named = (named, can.stored);
  may = can.may;
  numbered = can.numbered;
  late = λ cleans. let bare = of_ops.bare k (ticket_of s log k) (out_is s log k can.out).there cleans in can.late [] bare.0 bare.1 cleans;
}

abbrev putting : (s : Start) (log : List Moment) (k n : ℕ) → CanPut s (ticket_of s log k) n → Puts (formats_of s) (world_of s log) k
putting s log k n can = record { t = ticket_of s log k; out = out_is s log k can.out; s = can.change; is = can.is; unsettled = can.unsettled; n = n; raised = can.raised; written = can.written }

-- ---- begin

begin_latest : (s : Start) (log : List Moment) (k n : ℕ) → CanPut s (ticket_of s log k) n → MayBegin s log k (BeginStep Latest) Latest
begin_latest s log k n can = record { is = refl; begins = λ named image tells same. BeginningLatest k image (putting s log k n can) same; fails = λ named image tells same. BeginLatestFails k image (putting s log k n can) same }

begin_by : (s : Start) (log : List Moment) (k : ℕ) (name : BlobName) → AreOfOps (world_of s log) → CanBegin s (ticket_of s log k) name → MayBegin s log k (BeginStep name) name
begin_by s log k name of_ops (inl h) =
    record { is = refl; begins = λ named image tells same. Beginning k name image (committable s log k name h.0 of_ops h.1 named) same; fails = λ named image tells same. BeginFails k name image (committable s log k name h.0 of_ops h.1 named) same }
begin_by s log k name of_ops (inr h) = subst (λ (n : BlobName). MayBegin s log k (BeginStep n) n) (sym h.0) (begin_latest s log k h.1.0 h.1.1)

pub may_begin : (s : Start) (old log : List Moment) (k : ℕ) (name : BlobName) → log ≡ old → AreOfOps (world_of s log) → CanBegin s (ticket_of s old k) name → MayBegin s log k (BeginStep name) name
may_begin s old log k name e of_ops can = begin_by s log k name of_ops (subst (λ (l : List Moment). CanBegin s (ticket_of s l k) name) (sym e) can)

out_begin : (s : Start) (t : Ticket) (name : BlobName) → CanBegin s t name → t.out ≡ true
out_begin s t name (inl h) = h.1.out
out_begin s t name (inr h) = h.1.1.out

tried_if : (s : Start) (log : List Moment) (k : ℕ) (b : Bool) → (ticket_of s log k).out ≡ true
    → or_no_ticket (fin.get (if b then tried_in (world_of s log) k else world_of s log).tickets k) ≡ (if b then tried (ticket_of s log k) else ticket_of s log k)
tried_if s log k true out = changed_ticket s log k tried out
tried_if s log k false out = refl

begun : {X : Type 0} (s : Start) (old new : List Moment) (k : ℕ) (name : BlobName) (r : Result X StepRefusal) → (ticket_of s old k).out ≡ true → Did s old new k (BeginStep name) (λ x. WasBegun) r
    → ticket_of s new k ≡ begun_by name r (ticket_of s old k)
begun s old new k name (Ok x) out did = added_ticket s old new k (BeginStep name) WasBegun did k
begun s old new k name (Err steps.Memory) out did = ap (λ (l : List Moment). ticket_of s l k) did
begun s old new k name (Err steps.TurnsSpent) out never = absurd never
begun s old new k name (Err (steps.Refused code.DepotFault)) out did = added_ticket s old new k (BeginStep name) (Refused DepotFault) did k ∙ tried_if s old k (is_latest name) out
begun s old new k name (Err (steps.Refused x)) out did = added_ticket s old new k (BeginStep name) (Refused (refusal_of x)) did k

pub begun_ticket : {X : Type 0} (s : Start) (old mid new : List Moment) (k : ℕ) (name : BlobName) (r : Result X StepRefusal) → mid ≡ old → CanBegin s (ticket_of s old k) name → Did s mid new k (BeginStep name) (λ x. WasBegun) r
    → ticket_of s new k ≡ begun_by name r (ticket_of s old k)
begun_ticket s old mid new k name r e can did = begun s old new k name r (out_begin s (ticket_of s old k) name can) (subst (λ (l : List Moment). Did s l new k (BeginStep name) (λ x. WasBegun) r) e did)

-- ---- latest

replace_by : (s : Start) (log : List Moment) (k n : ℕ) → CanPut s (ticket_of s log k) n → MayReplace s log k (latest_text n)
replace_by s log k n can = record { out = can.out; puts = λ named image tells put. Replacing k image (putting s log k n can) named put; fails = λ named image tells put. ReplaceFails k image (putting s log k n can) named put }

-- what a ticket may put, and how the stage holds it
abbrev PutsSo : Start → List Moment → ℕ → Option Bytes → Type 0
PutsSo s log k contents = (n : ℕ) × CanPut s (ticket_of s log k) n × Holds s contents (latest_text n)

pub may_replace : (s : Start) (old log : List Moment) (k : ℕ) (contents : Option Bytes) → log ≡ old → PutsSo s old k contents → (bytes : Bytes) × Holds s contents bytes × MayReplace s log k bytes
may_replace s old log k contents e can =
    let here : PutsSo s log k contents = subst (λ (l : List Moment). PutsSo s l k contents) (sym e) can in
    (latest_text here.0, here.2, replace_by s log k here.0 here.1)

replaced : {X : Type 0} (s : Start) (old new : List Moment) (k : ℕ) (r : Result X StepRefusal) → (ticket_of s old k).out ≡ true → Did s old new k LatestStep (λ x. WasReplaced) r → ticket_of s new k ≡ tried_by r (ticket_of s old k)
replaced s old new k (Ok x) out did = added_ticket s old new k LatestStep WasReplaced did k ∙ changed_ticket s old k tried out
replaced s old new k (Err steps.Memory) out did = ap (λ (l : List Moment). ticket_of s l k) did
replaced s old new k (Err steps.TurnsSpent) out never = absurd never
replaced s old new k (Err (steps.Refused code.DepotFault)) out did = added_ticket s old new k LatestStep (Refused DepotFault) did k ∙ changed_ticket s old k tried out
replaced s old new k (Err (steps.Refused x)) out did = added_ticket s old new k LatestStep (Refused (refusal_of x)) did k

pub replaced_ticket : {X : Type 0} (s : Start) (old mid new : List Moment) (k : ℕ) (contents : Option Bytes) (r : Result X StepRefusal) → mid ≡ old → PutsSo s old k contents → Did s mid new k LatestStep (λ x. WasReplaced) r
    → ticket_of s new k ≡ tried_by r (ticket_of s old k)
replaced_ticket s old mid new k contents r e can did = replaced s old new k r can.1.out (subst (λ (l : List Moment). Did s l new k LatestStep (λ x. WasReplaced) r) e did)

-- ---- fetch

-- what a ticket fetches is an index or a snapshot of a shard
fetched_stored : (t : Ticket) (name : BlobName) → IsToFetch t name → name ≡ Latest → ⊥
fetched_stored t name to_fetch e = elim to_fetch.3 [ inl of_base ↦ no_index to_fetch.0 to_fetch.1 of_base.0 (sym of_base.2 ∙ e) | inr of_source ↦ no_snap to_fetch.0 to_fetch.1 of_source.0 (sym of_source.2 ∙ e) ]
  where
    no_index : (index shard base : ℕ) → ShardIndex index shard base ≡ Latest → ⊥
    no_index index shard base q = cc

    no_snap : (index shard source : ℕ) → ShardSnap index shard source ≡ Latest → ⊥
    no_snap index shard source q = cc

fetched_so : (s : Start) (log : List Moment) (k : ℕ) (name : BlobName) → CanFetch (ticket_of s log k) name → IsNamed s name → Fetches (formats_of s) (world_of s log) k name
fetched_so s log k name can named =
    record { t = ticket_of s log k; out = out_is s log k can.out; stored = (named, fetched_stored (ticket_of s log k) name can.to_fetch); to_fetch = can.to_fetch }

-- a fetch that found its blob
pub told_found : (s : Start) (log : List Moment) (name : BlobName) (image : Option Image)
    → Told image (λ blobs. (bytes : Bytes) × ((fin.get (world_of s log).blobs ((formats_of s).names.text name) ≡ Some bytes) × (blobs ≡ (world_of s log).blobs)))
    → Told image (λ blobs. (bytes : Bytes) × (fin.get (world_of s log).blobs ((formats_of s).names.text name) ≡ Some bytes) × (blobs ≡ (world_of s log).blobs))
told_found s log name None h = tt
told_found s log name (Some image) h = (h.0, h.1.0, h.1.1)

fetch_by : (s : Start) (log : List Moment) (k : ℕ) (name : BlobName) → CanFetch (ticket_of s log k) name → MayFetch s log k (FetchStep name) name
fetch_by s log k name can = record {
  is = refl;
  fetches = λ named image tells found. Fetching k name image (fetched_so s log k name can named) (told_found s log name image found);
  misses = λ named image tells found. Missing k name image (fetched_so s log k name can named) found;
  fails = λ named image tells same. FetchFails k name image (fetched_so s log k name can named) same;
}

pub may_fetch : (s : Start) (old log : List Moment) (k : ℕ) (name : BlobName) → log ≡ old → CanFetch (ticket_of s old k) name → MayFetch s log k (FetchStep name) name
may_fetch s old log k name e can = fetch_by s log k name (subst (λ (l : List Moment). CanFetch (ticket_of s l k) name) (sym e) can)

fetched : {F : Type 0} (left : F → Option Bytes) (s : Start) (old new : List Moment) (k : ℕ) (name : BlobName) (r : Result (Option F) StepRefusal) → (ticket_of s old k).out ≡ true → FetchDid left s old new k (FetchStep name) name r
    → IfOk r (λ o. ticket_of s new k ≡ fetched_by left name o (ticket_of s old k))
fetched left s old new k name (Ok None) out did = added_ticket s old new k (FetchStep name) WasAbsent did k
fetched left s old new k name (Ok (Some f)) out did =
    added_ticket s old new k (FetchStep name) WasFetched did.0 k
    ∙ changed_ticket s old k (fetching name (told_blob (formats_of s) did.0.image name)) out
    ∙ ap (λ (o : Option Bytes). fetching name o (ticket_of s old k)) did.1
fetched left s old new k name (Err e) out did = tt

pub fetch_from : {F : Type 0} (left : F → Option Bytes) (s : Start) (old mid new : List Moment) (k : ℕ) (step : Step) (name : BlobName) (r : Result (Option F) StepRefusal) → mid ≡ old → FetchDid left s mid new k step name r
    → FetchDid left s old new k step name r
fetch_from left s old mid new k step name r e did = subst (λ (l : List Moment). FetchDid left s l new k step name r) e did

pub fetched_ticket : {F : Type 0} (left : F → Option Bytes) (s : Start) (old mid new : List Moment) (k : ℕ) (name : BlobName) (r : Result (Option F) StepRefusal) → mid ≡ old → CanFetch (ticket_of s old k) name
    → FetchDid left s mid new k (FetchStep name) name r
    → IfOk r (λ o. ticket_of s new k ≡ fetched_by left name o (ticket_of s old k))
fetched_ticket left s old mid new k name r e can did = fetched left s old new k name r can.out (fetch_from left s old mid new k (FetchStep name) name r e did)

fetch_step : {F : Type 0} (left : F → Option Bytes) (s : Start) (old new : List Moment) (k : ℕ) (step : Step) (name : BlobName) (r : Result (Option F) StepRefusal) → FetchDid left s old new k step name r → Did s old new k step fetch_reply r
fetch_step left s old new k step name (Ok (Some f)) did = did.0
fetch_step left s old new k step name r did = did

pub fetch_did : {F : Type 0} (left : F → Option Bytes) (s : Start) (old mid new : List Moment) (k : ℕ) (step : Step) (name : BlobName) (r : Result (Option F) StepRefusal) → mid ≡ old → FetchDid left s mid new k step name r
    → Did s old new k step fetch_reply r
fetch_did left s old mid new k step name r e did = fetch_step left s old new k step name r (fetch_from left s old mid new k step name r e did)

-- ---- commit

abbrev CommitsSo : Start → List Moment → ℕ → BlobName → Option Bytes → Type 0
CommitsSo s log k name contents = (bytes : Bytes) × Holds s contents bytes × CanCommit s (ticket_of s log k) name bytes

-- a finalization's metadata may be there already
refinding : (f : Formats) (w : World) (k : ℕ) (t : Ticket) (name : BlobName) (bytes : Bytes) → OwnIndices w → IsOut w k t → t.settled ≡ false → MayCommit f t name bytes → IsMetadata name → Refinds f w k name
refinding f w k t name bytes pruning out unsettled may meta = go may
  where
    no_shard : (n : BlobName) → IsMetaOf meta.0 n → ShardCommits t n → ⊥
    no_shard n (inl e) h = subst (ShardCommits t) e h
    no_shard n (inr (inl e)) h = subst (ShardCommits t) e h
    no_shard n (inr (inr e)) h = subst (ShardCommits t) e.1 h

    no_root : (n : ℕ) → IsMetaOf meta.0 (Root n) → ⊥
    no_root n (inl e) = cc
    no_root n (inr (inl e)) = cc
    no_root n (inr (inr e)) = differ e.0 e.1
      where
        differ : (i : ℕ) → Root n ≡ IndexMeta i meta.0 → ⊥
        differ i q = cc

    no_index : (index number generation : ℕ) → IsMetaOf meta.0 (ShardIndex index number generation) → ⊥
    no_index index number generation (inl e) = cc
    no_index index number generation (inr (inl e)) = cc
    no_index index number generation (inr (inr e)) = differ e.0 e.1
      where
        differ : (i : ℕ) → ShardIndex index number generation ≡ IndexMeta i meta.0 → ⊥
        differ i q = cc

    some_same : (a b : Swap) → Some a ≡ Some b → a ≡ b
    some_same a b q = cc

    none_some : (b : Swap) → None ≡ Some b → ⊥
    none_some b q = cc

    own : (change : Swap) (work : Work) → t.work ≡ work → swap_of f work t.root ≡ Some change → Has change.own (name, bytes) → Refinds f w k name
    own change (Finalize info results made) is e h =
        let same : metadata f info ≡ change.own = ap (λ (x : Swap). x.own) (some_same _ change e) in
        record { t = t; out = out; unsettled = unsettled; info = info; results = results; made = made; work = is; bytes = bytes; own = subst (λ (x : List (BlobName × Bytes)). Has x (name, bytes)) (sym same) h }
    own change (Deleting uuids plan) is e h =
        let it = (pruning k t uuids change out.there (is ∙ ap (Deleting uuids) e)).own name bytes h in
        absurd (no_index it.0 it.1 it.2 (subst (IsMetaOf meta.0) it.3 meta.1))
    own change work is e h = absurd (none_some change e)

    by_swap : (change : Swap) → swap f t ≡ Some change → SwapCommits f change t name bytes → Refinds f w k name
    by_swap change is (inl h) = own change t.work refl is h
    by_swap change is (inr h) = absurd (no_root h.0 (subst (IsMetaOf meta.0) h.1 meta.1))

    go : MayCommit f t name bytes → Refinds f w k name
    go (inl h) = by_swap h.0 h.1 h.2
    go (inr h) = absurd (no_shard name meta.1 h.1)

commit_by : (s : Start) (log : List Moment) (k : ℕ) (name : BlobName) (bytes : Bytes) → OwnIndices (world_of s log) → AreOfOps (world_of s log) → CanCommit s (ticket_of s log k) name bytes
    → StepMayCommit s log k (CommitStep name) name bytes
commit_by s log k name bytes pruning of_ops can = record {
  is = refl;
  stored = can.stored;
  commits = λ named image tells adds. Committing k name image (committable s log k name bytes of_ops can named) adds;
  finds = λ named meta image tells there. Finding k name image (refinding (formats_of s) (world_of s log) k (ticket_of s log k) name bytes pruning (out_is s log k can.out) can.unsettled can.may meta) there;
  taken = λ named no_meta image tells there. Taken k name image (committable s log k name bytes of_ops can named) no_meta there;
  fails = λ named image tells left. CommitFails k name image (committable s log k name bytes of_ops can named) left;
}

pub may_commit : (s : Start) (old log : List Moment) (k : ℕ) (name : BlobName) (contents : Option Bytes) → log ≡ old → OwnIndices (world_of s log) → AreOfOps (world_of s log) → CommitsSo s old k name contents
    → (bytes : Bytes) × Holds s contents bytes × StepMayCommit s log k (CommitStep name) name bytes
may_commit s old log k name contents e pruning of_ops can =
    let here : CommitsSo s log k name contents = subst (λ (l : List Moment). CommitsSo s l k name contents) (sym e) can in
    (here.0, here.1, commit_by s log k name here.0 pruning of_ops here.2)

committed : (s : Start) (old new : List Moment) (k : ℕ) (name : BlobName) (contents : Option Bytes) (r : Result Commit StepRefusal) → (ticket_of s old k).out ≡ true → CommitDid s old new k (CommitStep name) name contents r
    → IfOk r (λ c. ticket_of s new k ≡ committed_by name contents c (ticket_of s old k))
committed s old new k name contents (Ok commits.Done) out did =
    added_ticket s old new k (CommitStep name) WasDone did.0 k
    ∙ changed_ticket s old k (committing name (told_blob (formats_of s) did.0.image name)) out
    ∙ ap (λ (o : Option Bytes). committing name o (ticket_of s old k)) did.1
committed s old new k name contents (Ok commits.Exists) out did = added_ticket s old new k (CommitStep name) WasThere did.0 k ∙ changed_ticket s old k (λ t. noting t name) out
committed s old new k name contents (Err e) out did = tt

pub committed_ticket : (s : Start) (old mid new : List Moment) (k : ℕ) (name : BlobName) (contents : Option Bytes) (r : Result Commit StepRefusal) → mid ≡ old → CommitsSo s old k name contents
    → CommitDid s mid new k (CommitStep name) name contents r
    → IfOk r (λ c. ticket_of s new k ≡ committed_by name contents c (ticket_of s old k))
committed_ticket s old mid new k name contents r e can did = committed s old new k name contents r can.2.out (commit_from s old mid new k (CommitStep name) name contents r e did)

pub commit_kept : (s : Start) (old mid new : List Moment) (k : ℕ) (name : BlobName) (contents : Option Bytes) (r : Result Commit StepRefusal) → mid ≡ old → CommitDid s mid new k (CommitStep name) name contents r
    → OnErr r (ticket_of s new k ≡ ticket_of s old k)
commit_kept s old mid new k name contents r e did = go r (commit_from s old mid new k (CommitStep name) name contents r e did)
  where
    go : (q : Result Commit StepRefusal) → CommitDid s old new k (CommitStep name) name contents q → OnErr q (ticket_of s new k ≡ ticket_of s old k)
    go (Ok c) d = tt
    go (Err x) d = kept_by s old new k (CommitStep name) x (λ image. refl) d
