-- The steps of a verification.
use Rattle.std.proofs.Common.{◌≡◌, ℕ, suc, ◌+◌, ◌<◌, ◌≤◌, List, ◌++◌, map, Option, Some, None, Result, Ok, Err, refl, sym, ap, ◌∙◌, subst, inl, inr, ⊎_elim, true≢false}
use Rattle.esr_model.specs.Names.{BlobName, TestNode}
use Rattle.esr_model.specs.Values.{Bytes, Has}
use Rattle.esr_model.specs.Kept.{first_id}
use Rattle.esr_core.specs.World.{World, Caller, no_caller}
use Rattle.esr_core.specs.Restores.{IsTestOf}
use Rattle.esr_core.specs.Texts.{IsMetaOf}
use Rattle.esr_core.specs.ReadTracked.{ReadTracked}
use Rattle.esr_core.specs.Entry.{ReadBlob, DrawTest, BeginTest, CommitTest, RemoveTests, VerifiedAll, Step, ReadStep, DrawnFrom, WasBegun, WasDone, WasRemoved, HasEnded, Refused, DepotFault, IdsSpent, NameTaken, Moment, Read, Entry}
use Rattle.esr_core.specs.After.{caller_wrote}
use Rattle.esr_core.specs.Allowed.{Allows, IsMetadata, MayDrawTest, IsOwnTest, MayRemoveTests, Verifies, Verifying, DrawingTest, TestSpent, BeginningTest, BeginTestFails, CommittingTest, TestTaken, CommitTestFails, RemovingTests, RemoveTestsFails, VerifyingAll}
use Rattle.esr_core.specs.Past.{entries_by, RepeatsRead, Repeats}
use Rattle.esr_depot.specs.declared.depot.Commit.{Commit}
use Rattle.esr_depot.specs.declared.depot.Commit.TheVariants as commits
use Rattle.esr_names.specs.declared.blob.BlobName.{BlobName as CodeName}
use Rattle.esr_names.specs.declared.blob.BlobName.TheVariants as code
use Rattle.esr_names.specs.Layout.{IsName}
use Rattle.esr_names.specs.declared.ids.Id.{Id}
use Rattle.esr_formats.specs.Names.{name_of}
use Rattle.esr_ops.specs.Plan.{Plan, IsPlanOf}
use Rattle.esr_desk.specs.Conditions.{Holds}
use Rattle.esr_desk.specs.declared.refusal.StepRefusal.{StepRefusal}
use Rattle.esr_desk.specs.Start.{Start, formats_of, world_of}
use Rattle.esr_desk.specs.Own.{caller_of, made_of}
use Rattle.esr_desk.specs.Caller.{drawn_by}
use Rattle.esr_desk.specs.Verify.Conditions.{CanDrawTest, IsOwn, CanCommitTest, CanRemoveTests, CanEndVerification, IsOnTests, HasTestedNone}
use Rattle.esr_desk.specs.Made.{counted_or_before}
use Rattle.esr_desk.specs.Once.{IsFresh}
use Rattle.esr_repo.specs.Next.{Added, CallersTold, AddedOr, Did}
use Rattle.esr_repo.specs.May.{IsNamed, MayNote, MayRefuse, MayBegin, MayCommit, MayRemove}
use Rattle.esr_repo.specs.Calls.{CommitDid}
use Rattle.esr_repo.specs.Stepping.{refused_caller, did_from, commit_from, drawn_is, test_stored}
use Rattle.esr_repo.specs.Client.{TellsRead, TellsStep, TellsClient}
use Rattle.esr_repo.specs.Grown.{added_entries}
use Rattle.esr_client.proofs.CallerSteps.{undrawn_caller}
use Rattle.esr_client.proofs.Clones.{one_more}

-- ---- an id is drawn

-- the first draw of a verification
pub first_draw : (s : Start) (log : List Moment) → TellsClient (world_of s log) → CanDrawTest (caller_of s log) → IsFresh s log 0 (ReadStep DrawTest)
first_draw s log tells can e has same = by e.step (tells.made e has) same
  where
    by_read : (read : Read) → TellsStep (caller_of s log) (ReadStep read) → RepeatsRead read DrawTest → ⊥
    by_read DrawTest (inl drew) same = drew can.undrawn
    by_read DrawTest (inr spent) same = true≢false (sym spent ∙ can.unspent)
    by_read read told same = same

    by : (step : Step) → TellsStep (caller_of s log) step → Repeats step (ReadStep DrawTest) → ⊥
    by (ReadStep read) told same = by_read read told same
    by step told same = same

-- no step on test blobs was made before a verification
none_on : (c : Caller) (id : ℕ) (read : Read) → CanDrawTest c → TellsRead c read → IsOnTests id read → ⊥
none_on c id (BeginTest name) can told on = told can.undrawn
none_on c id (CommitTest name) can told on = told can.undrawn
none_on c id (RemoveTests names) can told on = told on.0 on.1 can.undrawn
none_on c id (ReadBlob name) can told on = told id on can.undrawn
none_on c id read can told on = absurd on

pub tested_none : (s : Start) (old mid new : List Moment) (id : ℕ) → mid ≡ old → TellsClient (world_of s old) → CanDrawTest (caller_of s old) → Added s mid new 0 (ReadStep DrawTest) (DrawnFrom id) → HasTestedNone s new id
tested_none s old mid new id same tells can a e read has is on =
    let last : Entry = record { who = 0; step = ReadStep DrawTest; reply = DrawnFrom id } in
    ⊎_elim
    (λ (here : last ≡ e). subst (IsOnTests id) (same_read read DrawTest (sym is ∙ ap (λ (x : Entry). x.step) (sym here))) on)
    (λ (before : Has (made_of s mid 0) e).
    none_on (caller_of s old) id read can (subst (TellsStep (caller_of s old)) is (tells.made e (subst (λ (log : List Moment). Has (made_of s log 0) e) same before))) on)
    (counted_or_before (world_of s mid).entries last 0 e (subst (λ (entries : List Entry). Has (entries_by entries 0) e) (added_entries s mid new 0 (ReadStep DrawTest) (DrawnFrom id) a) has))
  where
    same_read : (a b : Read) → ReadStep a ≡ ReadStep b → a ≡ b
    same_read a b e = cc

drawn_plan : (w : World) (next : ℕ) (p : Plan) → IsPlanOf w p → IsPlanOf (record w { next_id = next }) p
drawn_plan w next p h = record { ops = h.ops; deletes = h.deletes; completed = h.completed; seats = h.seats; next_op = h.next_op; next_ticket = h.next_ticket; restores = h.restores; restore_count = h.restore_count; readers = h.readers }

may_draw_test : (s : Start) (old log : List Moment) → log ≡ old → CanDrawTest (caller_of s old) → MayDrawTest (world_of s log)
may_draw_test s old log e before = let can : CanDrawTest (caller_of s log) = subst (λ (l : List Moment). CanDrawTest (caller_of s l)) (sym e) before in record { undrawn = can.undrawn; unspent = can.unspent }

pub may_note_draw_test : (s : Start) (old log : List Moment) (first next : ℕ) → log ≡ old → CanDrawTest (caller_of s old) → first ≡ (world_of s log).next_id → next ≡ (world_of s log).next_id + 1
    → next < first_id (suc (world_of s log).term)
    → MayNote s log 0 (ReadStep DrawTest) (DrawnFrom first) None next
may_note_draw_test s old log first next e before first_is next_is below =
    let idle = may_draw_test s old log e before in
    let is : next ≡ suc (world_of s log).next_id = one_more (world_of s log).next_id next next_is in
    record {
      plain = refl;
      allows = λ image tells same. subst (λ (n : ℕ). Allows (formats_of s) s.part_size (world_of s log) 0 (ReadStep DrawTest) (DrawnFrom n) image) (sym first_is)
          (Verifying DrawTest (DrawnFrom (world_of s log).next_id) image (DrawingTest image idle (subst (λ (n : ℕ). n < first_id (suc (world_of s log).term)) is below) same));
      plan_is = λ image p h. drawn_plan (world_of s log) (suc (world_of s log).next_id) p h;
      next_is = λ image. is;
    }

pub may_refuse_draw_test : (s : Start) (old log : List Moment) (next : ℕ) → log ≡ old → CanDrawTest (caller_of s old) → next ≡ (world_of s log).next_id → first_id (suc (world_of s log).term) ≤ (world_of s log).next_id + 1
    → MayRefuse s log 0 (ReadStep DrawTest) (IdsSpent next)
may_refuse_draw_test s old log next e before next_is spent =
    let idle = may_draw_test s old log e before in
    record {
      plain = refl;
      allows = λ image tells same. subst (λ (n : ℕ). Allows (formats_of s) s.part_size (world_of s log) 0 (ReadStep DrawTest) (Refused (IdsSpent n)) image) (sym next_is)
          (Verifying DrawTest (Refused (IdsSpent (world_of s log).next_id)) image
          (TestSpent image idle (subst (λ (n : ℕ). first_id (suc (world_of s log).term) ≤ n) (one_more (world_of s log).next_id ((world_of s log).next_id + 1) refl) spent) same));
    }

pub drawn_caller : (law : CallersTold) (s : Start) (old mid new : List Moment) (first : ℕ) → mid ≡ old → Added s mid new 0 (ReadStep DrawTest) (DrawnFrom first) → caller_of s new ≡ record (caller_of s old) { drawn = Some first }
drawn_caller law s old mid new first e a = law s mid new 0 (ReadStep DrawTest) (DrawnFrom first) a ∙ ap (λ (l : List Moment). record (caller_of s l) { drawn = Some first }) e

pub refused_draw : (law : CallersTold) (s : Start) (old mid new : List Moment) (x : StepRefusal) → mid ≡ old → AddedOr s mid new 0 (ReadStep DrawTest) x → caller_of s new ≡ drawn_by (Err x) (caller_of s old)
refused_draw law s old mid new x e d = undrawn_caller law s mid new x d ∙ ap (λ (l : List Moment). drawn_by (Err x) (caller_of s l)) e

pub drew_caller : (law : CallersTold) (s : Start) (old new : List Moment) (r : Result Id StepRefusal) → Did s old new 0 (ReadStep DrawTest) (λ id. DrawnFrom id.number) r → caller_of s new ≡ drawn_by r (caller_of s old)
drew_caller law s old new (Ok id) did = law s old new 0 (ReadStep DrawTest) (DrawnFrom id.number) did
drew_caller law s old new (Err x) did = undrawn_caller law s old new x did

-- ---- test blobs

-- none is of a finalization's metadata
pub no_metadata : (id : ℕ) (name : BlobName) → IsTestOf id name → IsMetadata name → ⊥
no_metadata id name test meta = go meta.1
  where
    go : IsMetaOf meta.0 name → ⊥
    go (inl e) = subst (IsTestOf id) e test
    go (inr (inl e)) = subst (IsTestOf id) e test
    go (inr (inr e)) = subst (IsTestOf id) e.1 test

-- it is of one of 64 workers, if it is of one
abbrev AreWorkers : BlobName → Type 0
AreWorkers name = (v n : ℕ) → name ≡ TestNode v n → n < 64

-- as a name of the layout is
pub workers_of : (name : CodeName) → IsName name → AreWorkers (name_of name)
unfolding IsName
workers_of (code.TestNode id worker) layout v n is = subst (λ (k : ℕ). k < 64) (same id.number worker v n is) layout
  where
    same : (i w v n : ℕ) → TestNode i w ≡ TestNode v n → w ≡ n
    same i w v n e = cc
workers_of name layout v n is = absurd cc

own_test : (s : Start) (log : List Moment) (name : BlobName) → ReadTracked (world_of s log) → IsOwn (caller_of s log) name → AreWorkers name → IsNamed s name → IsOwnTest (formats_of s) (world_of s log) name
own_test s log name tracked own workers named = record { id = own.id; drawn = own.drawn; below = tracked.drawn own.id own.drawn; test = own.test; worker = workers; stored = (named, test_stored own.id name own.test) }

-- ---- begin

pub may_begin_test : (s : Start) (old log : List Moment) (name : BlobName) → log ≡ old → ReadTracked (world_of s log) → IsOwn (caller_of s old) name → AreWorkers name → MayBegin s log 0 (ReadStep (BeginTest name)) name
may_begin_test s old log name e tracked before workers =
    let own : IsOwn (caller_of s log) name = subst (λ (l : List Moment). IsOwn (caller_of s l) name) (sym e) before in
    record {
      is = refl;
      begins = λ named image tells same. Verifying (BeginTest name) WasBegun image (BeginningTest name image (own_test s log name tracked own workers named) same);
      fails = λ named image tells same. Verifying (BeginTest name) (Refused DepotFault) image (BeginTestFails name image (own_test s log name tracked own workers named) same);
    }

pub begun_caller : {X : Type 0} (law : CallersTold) (s : Start) (old mid new : List Moment) (name : BlobName) (r : Result X StepRefusal) → mid ≡ old → Did s mid new 0 (ReadStep (BeginTest name)) (λ x. WasBegun) r
    → caller_of s new ≡ caller_of s old
begun_caller law s old mid new name (Ok x) e did = law s mid new 0 (ReadStep (BeginTest name)) WasBegun did ∙ ap (caller_of s) e
begun_caller law s old mid new name (Err x) e did = refused_caller law s mid new 0 (BeginTest name) x (λ is. cc) did ∙ ap (caller_of s) e

-- ---- commit

pub may_commit_test : (s : Start) (old log : List Moment) (name : BlobName) (contents : Option Bytes) → log ≡ old → ReadTracked (world_of s log) → CanCommitTest (caller_of s old) name → AreWorkers name
    → (bytes : Bytes) × Holds s contents bytes
    → (bytes : Bytes) × Holds s contents bytes × MayCommit s log 0 (ReadStep (CommitTest name)) name bytes
may_commit_test s old log name contents e tracked before workers holds =
    let can : CanCommitTest (caller_of s log) name = subst (λ (l : List Moment). CanCommitTest (caller_of s l) name) (sym e) before in (
      holds.0,
      holds.1,
      record {
        is = refl;
        stored = test_stored can.own.id name can.own.test;
        commits = λ named image tells adds. Verifying (CommitTest name) WasDone image (CommittingTest name holds.0 image (own_test s log name tracked can.own workers named) can.once adds);
        finds = λ named meta image tells there. absurd (no_metadata can.own.id name can.own.test meta);
        taken = λ named other image tells there. Verifying (CommitTest name) (Refused (NameTaken name)) image (TestTaken name image (own_test s log name tracked can.own workers named) there);
        fails = λ named image tells left. Verifying (CommitTest name) (Refused DepotFault) image (CommitTestFails name holds.0 image (own_test s log name tracked can.own workers named) left);
      },
    )

-- one that is there is refused
pub committed_test : (s : Start) (old mid new : List Moment) (name : BlobName) (contents : Option Bytes) (c : Commit) → mid ≡ old → CanCommitTest (caller_of s old) name
    → CommitDid s mid new 0 (ReadStep (CommitTest name)) name contents (Ok c) → Added s old new 0 (ReadStep (CommitTest name)) WasDone
committed_test s old mid new name contents commits.Done e can did = (commit_from s old mid new 0 (ReadStep (CommitTest name)) name contents (Ok commits.Done) e did).0
committed_test s old mid new name contents commits.Exists e can did = absurd (no_metadata can.own.id name can.own.test did.1)

-- what it held is noted, where the container tells
pub committed_caller : (law : CallersTold) (s : Start) (old mid new : List Moment) (name : BlobName) (contents : Option Bytes) (c : Commit) → mid ≡ old → CanCommitTest (caller_of s old) name
    → CommitDid s mid new 0 (ReadStep (CommitTest name)) name contents (Ok c)
    → caller_of s new ≡ caller_wrote (caller_of s old) name contents
committed_caller law s old mid new name contents commits.Done e can did =
    let from = commit_from s old mid new 0 (ReadStep (CommitTest name)) name contents (Ok commits.Done) e did in
    law s old new 0 (ReadStep (CommitTest name)) WasDone from.0 ∙ ap (caller_wrote (caller_of s old) name) from.1
committed_caller law s old mid new name contents commits.Exists e can did = absurd (no_metadata can.own.id name can.own.test did.1)

-- ---- remove

pub may_remove_tests : (s : Start) (old log : List Moment) (names : List BlobName) → log ≡ old → ReadTracked (world_of s log) → CanRemoveTests (caller_of s old) names → MayRemove s log 0 (ReadStep (RemoveTests names)) names
may_remove_tests s old log names e tracked before =
    let can : CanRemoveTests (caller_of s log) names = subst (λ (l : List Moment). CanRemoveTests (caller_of s l) names) (sym e) before in
    let may : MayRemoveTests (world_of s log) names = record { few = can.few; committed = can.committed; doomed = λ name has. tracked.doomed name (can.committed name has) } in
    record {
      is = refl;
      removes = λ image tells gone. Verifying (RemoveTests names) WasRemoved image (RemovingTests names image may gone);
      fails = λ image tells less. Verifying (RemoveTests names) (Refused DepotFault) image (RemoveTestsFails names image may less);
    }

pub removed_did : (s : Start) (old mid new : List Moment) (step : Step) (slice names : List CodeName) (r : Result Unit StepRefusal) → mid ≡ old → step ≡ ReadStep (RemoveTests (map name_of slice)) → slice ≡ names
    → Did s mid new 0 step (λ _. WasRemoved) r
    → Did s old new 0 (ReadStep (RemoveTests (map name_of names))) (λ _. WasRemoved) r
removed_did s old mid new step slice names r e is same did =
    did_from s old mid new 0 (ReadStep (RemoveTests (map name_of names))) (λ _. WasRemoved) r e
    (subst (λ (y : Step). Did s mid new 0 y (λ _. WasRemoved) r) (is ∙ ap (λ (xs : List CodeName). ReadStep (RemoveTests (map name_of xs))) same) did)

pub removed_caller : (law : CallersTold) (s : Start) (old new : List Moment) (names : List BlobName) → Added s old new 0 (ReadStep (RemoveTests names)) WasRemoved
    → caller_of s new ≡ record (caller_of s old) { removed = names ++ (caller_of s old).removed }
removed_caller law s old new names a = law s old new 0 (ReadStep (RemoveTests names)) WasRemoved a

-- ---- it ends

verifies : (w : World) → CanEndVerification w.caller → Verifies w
verifies w can = let drew = drawn_is w.caller can.drawn in record { id = drew.0; drawn = drew.1; master = can.master drew.0 drew.1; found = can.found; removed = can.removed }

pub may_note_verified : (s : Start) (old log : List Moment) (next : ℕ) → log ≡ old → CanEndVerification (caller_of s old) → next ≡ (world_of s log).next_id → MayNote s log 0 (ReadStep VerifiedAll) HasEnded None next
may_note_verified s old log next e before next_is =
    let can : CanEndVerification (caller_of s log) = subst (λ (l : List Moment). CanEndVerification (caller_of s l)) (sym e) before in
    record {
      plain = refl;
      allows = λ image tells same. Verifying VerifiedAll HasEnded image (VerifyingAll image (verifies (world_of s log) can) same);
      plan_is = λ image p h. h;
      next_is = λ image. next_is;
    }

pub verified_caller : (law : CallersTold) (s : Start) (old new : List Moment) → Added s old new 0 (ReadStep VerifiedAll) HasEnded → caller_of s new ≡ no_caller
verified_caller law s old new a = law s old new 0 (ReadStep VerifiedAll) HasEnded a
