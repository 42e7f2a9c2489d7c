-- Entries of steps that call the container for a blob.
use Rattle.std.proofs.Common.{◌≡◌, ◌⊎◌, ℕ, zero, suc, ◌≤◌, Bool, true, false, cond, List, [], ◌∷◌, ◌++◌, Option, Some, None, Result, Ok, Err, IsSome, IfSome, refl, sym, ap, ◌∙◌, subst, inl, inr, nat_cmp}
use Rattle.std.specs.Prelude.{option_map, if◌then◌else◌}
use Rattle.std.specs.Ordering.{eq_by_cmp}
use Rattle.std.specs.Cmp.{nat_cmp_total, eq_by_cmp_equiv}
use Rattle.std.specs.Cmp.Lexicographic.{nat_list_cmp_total}
use Rattle.std.specs.FinMap.{FinMap, nat_cmp-IsAntisymmetric}
use Rattle.std.specs.FinMap as fin
use Rattle.std.proofs.lemmas.Option.{same_Some}
use Rattle.esr_core.specs.Laws.NumberMaps.{some_none, tied}
use Rattle.esr_model.specs.Names.{BlobName, Latest}
use Rattle.esr_model.specs.Values.{Bytes, ReadsBack, Formats}
use Rattle.esr_model.specs.Image.{Blobs, Image}
use Rattle.esr_core.specs.World.{World, Ticket, Reader, record_of}
use Rattle.esr_core.specs.Steps.{noting}
use Rattle.esr_core.specs.Entry.{ReadBlob, BeginTest, CommitTest, FetchShard, Step, Reply, BeginStep, CommitStep, LatestStep, FetchStep, ReadStep, PruneStep, WasBegun, WasDone, WasThere, WasReplaced, WasFetched, WasAbsent, Refused, DepotFault, NameTaken, Entry, Moment}
use Rattle.esr_core.specs.After.{with_given, change, told_blob, committing, fetching, read_told, swaps_record, is_latest, tried, test_left, faulted, answered, blobs_in, after}
use Rattle.esr_core.specs.Allowed.{Allows, Told, IsMetadata, Allowed}
use Rattle.esr_core.specs.Left.{Leaves}
use Rattle.esr_depot.specs.declared.error.CallError.{CallError}
use Rattle.esr_depot.specs.declared.error.CallError.TheVariants.{Memory, Failed}
use Rattle.esr_depot.specs.declared.depot.Commit.{Commit}
use Rattle.esr_depot.specs.declared.depot.Commit.TheVariants as commits
use Rattle.esr_depot.specs.Image.{Image as Held, blob, with_blob, put_known, blob_known, IsFree, IsTaken}
use Rattle.esr_depot.specs.Look.{Look, now}
use Rattle.esr_depot.specs.Calls.{Change, Passed, SameImage, Called}
use Rattle.esr_depot.specs.Changes.{Committed, CommitMay, Replaced, ReplaceMay}
use Rattle.esr_formats.specs.Clusters.{cluster_kind}
use Rattle.esr_formats.specs.Names.{name_of, name_kind}
use Rattle.esr_formats.specs.ReadBack.{name_reads_back}
use Rattle.esr_names.specs.Layout.{IsName, HasIds}
use Rattle.esr_names.specs.declared.blob.BlobName.{BlobName as CodeName}
use Rattle.esr_names.specs.declared.blob.BlobName.TheVariants as code
use Rattle.esr_ops.specs.Plan.{Plan, seat_out, reader_out, IsPlanOf}
use Rattle.esr_desk.specs.Start.{Start, formats_of, world_of, Legal}
use Rattle.esr_desk.specs.Own.{caller_of}
use Rattle.esr_desk.specs.Conditions.{Holds}
use Rattle.esr_repo.specs.Log.{image_of, asks_container, calls, log_of}
use Rattle.esr_repo.specs.Repo.{Kept, TellsSo, IsSteady, IsRepo}
use Rattle.esr_repo.specs.Client.{ReadsOwn}
use Rattle.esr_repo.specs.Next.{Added, IsLive, GoesOn}
use Rattle.esr_repo.specs.May.{CanTell, IsBegin, IsCommit, IsFetch, Same, IsNamed, MayBegin, IsThere, IsAdded, MayCommit, IsPut, MayReplace, IsFound, MayFetch}
use Rattle.esr_repo.specs.Laws.{Laws}
use Rattle.esr_repo.specs.Grown.{legal_step}
use Rattle.esr_repo.specs.InfosAfter.{LeavesInfos}
use Rattle.esr_repo.proofs.Frames.{rests_answered}
use Rattle.esr_repo.proofs.Logs.{Goes, goes_passed, image_now, log_goes, log_stays}
use Rattle.esr_repo.proofs.Repos.{cluster_is, names_are, plan_aside, infos_over, kept_now, steady_now, can_tell, text_same, added_repo, repo_stays}

-- what was put is there
put_there : (m : Blobs) (k v : Bytes) → fin.get (fin.insert m k v) k ≡ Some v
put_there m k v = fin.get-insert nat_list_cmp_total m k v k ∙ ap (λ (b : Bool). cond b (Some v) (fin.get m k)) ((eq_by_cmp_equiv nat_list_cmp_total).refl k)

-- ---- before and after a step

-- what holds before a step
pub record Before (old : Look) (s : Start) (clock : ℕ) (es : List Entry) (k : Kept) (d : Option ℕ) (seen : List Moment) : Type 0 where
  pub laws : Laws
  pub repo : IsRepo old s clock es k d
  pub view : log_of old clock es ≡ seen
  pub live : IsLive s seen

pub before_step : {old : Look} {s : Start} {clock : ℕ} {es : List Entry} {k : Kept} {d : Option ℕ} {seen : List Moment} → Laws → IsRepo old s clock es k d → log_of old clock es ≡ seen → IsLive s seen → Before old s clock es k d seen
before_step laws repo view live = record { laws = laws; repo = repo; view = view; live = live }

-- the entries, after room was made and one was pushed
pub record Pushed (es mid es' : List Entry) (e : Entry) : Type 0 where
  pub reserved : mid ≡ es
  pub pushed : es' ≡ mid ++ e ∷ []

-- the same, of an entry that was made apart
pub pushed_as : {es : List Entry} {e : Entry} (mid es' : List Entry) (given : Entry) → mid ≡ es → es' ≡ mid ++ given ∷ [] → given ≡ e → Pushed es mid es' e
pushed_as mid es' given reserved pushed is = record { reserved = reserved; pushed = pushed ∙ ap (λ (x : Entry). mid ++ x ∷ []) is }

-- a call was made that the history may tell
pub record IsCall (old new : Look) (s : Start) (seen : List Moment) (e : Entry) : Type 0 where
  pub goes : Goes old new e
  pub tells : TellsSo new s.tells
  pub allowed : Allowed (formats_of s) s.part_size (world_of s seen) (record { entry = e; image = image_now new })
  pub own : ReadsOwn (caller_of s seen) e.who e.step
  -- a crash might have left what it might have left before, or what this entry leaves
  pub left : (t : ℕ) (i : Held) → t ≤ old.clock → new.since t i → old.since t i ⊎ Leaves (formats_of s) s.part_size (world_of s seen) (record { entry = e; image = image_now new } ∷ []) (image_of i)

-- one entry was added, with what is kept then
pub record Made (old new : Look) (s : Start) (clock : ℕ) (es es' : List Entry) (k : Kept) (d : Option ℕ) (seen : List Moment) (e : Entry) : Type 0 where
  pub more : es' ≡ es ++ e ∷ []
  pub call : IsCall old new s seen e
  pub added : Added s seen (log_of new clock es') e.who e.step e.reply
  pub image_is : added.image ≡ image_now new
  pub repo : IsRepo new s clock es' k d

pub more_is : (es mid es' : List Entry) (e : Entry) → Pushed es mid es' e → es' ≡ es ++ e ∷ []
more_is es mid es' e p = p.pushed ∙ ap (λ (x : List Entry). x ++ e ∷ []) p.reserved

-- the entry is added to the history
pub made : (old new : Look) (s : Start) (clock : ℕ) (es es' : List Entry) (k k' : Kept) (d d' : Option ℕ) (seen : List Moment) (e : Entry)
    → Before old s clock es k d seen → es' ≡ es ++ e ∷ [] → IsCall old new s seen e → IsRepo new s clock es' k' d' → Made old new s clock es es' k' d' seen e
made old new s clock es es' k k' d d' seen e b more c repo =
    let m : Moment = record { entry = e; image = image_now new } in
    let grown : log_of new clock es' ≡ seen ++ m ∷ [] =
    ap (log_of new clock) more ∙ log_goes old new clock es e b.repo.bounded b.repo.clock_is c.goes ∙ ap (λ (l : List Moment). l ++ m ∷ []) b.view in
    record {
      more = more;
      call = c;
      added =
          record {
            image = image_now new;
            is = grown;
            legal = subst (Legal s) (sym grown) (legal_step s seen m (steady_now old s clock es k d seen b.repo b.view).legal c.allowed);
          };
      image_is = refl;
      repo = repo;
    }

-- out of memory: nothing changed
pub wanting : {T : Type 0} {old : Look} {s : Start} {clock : ℕ} {es : List Entry} {k : Kept} {d : Option ℕ} {seen : List Moment} (b : Before old s clock es k d seen) (new : Look) (mid : List Entry) → mid ≡ es
    → (ok : T → Change) (may : Change) (error : CallError) → error ≡ Memory → Called old new ok may (Err error) → (log_of new clock mid ≡ seen) × IsRepo new s clock mid k d
wanting {T} {old} {s} {clock} {es} {k} {d} {seen} b new mid reserved ok may error is c =
    let stays = (subst (λ x. Called old new ok may (Err x)) is c).stays refl in (
      ap (log_of new clock) reserved ∙ log_stays old new clock es b.repo.bounded stays ∙ b.view,
      subst (λ (x : List Entry). IsRepo new s clock x k d) (sym reserved) (repo_stays old new s clock es k d b.repo stays),
    )

-- ---- what a step leaves of the plan

-- the plan and the next id stay
pub record Idles (w new : World) : Type 0 where
  pub plan : (p : Plan) → IsPlanOf w p → IsPlanOf new p
  pub next : new.next_id ≡ w.next_id

pub idles_same : (w : World) → Idles w w
idles_same w = record { plan = λ p h. h; next = refl }

seats_stay : (tickets : FinMap nat_cmp Ticket) (k : ℕ) (t v : Ticket) → fin.get tickets k ≡ Some t → seat_out (Some v) ≡ seat_out (Some t) → (q : ℕ)
    → seat_out (fin.get (fin.insert tickets k v) q) ≡ seat_out (fin.get tickets q)
seats_stay tickets k t v there same q = ap seat_out (fin.get-insert nat_cmp_total tickets k v q) ∙ go (eq_by_cmp nat_cmp q k) refl
  where
    go : (b : Bool) → eq_by_cmp nat_cmp q k ≡ b → seat_out (cond b (Some v) (fin.get tickets q)) ≡ seat_out (fin.get tickets q)
    go true e = same ∙ sym (ap seat_out (ap (fin.get tickets) (nat_cmp-IsAntisymmetric q k (tied (nat_cmp q k) e)) ∙ there))
    go false e = refl

idles_given : (w : World) (k : ℕ) (g : Ticket → Ticket) (o : Option Ticket) → fin.get w.tickets k ≡ o → ((t : Ticket) → seat_out (Some (g t)) ≡ seat_out (Some t)) → Idles w (with_given w k g o)
idles_given w k g None there same = idles_same w
idles_given w k g (Some t) there same =
    record {
      plan = λ p h. record {
        ops = h.ops;
        deletes = h.deletes;
        completed = h.completed;
        seats = λ q. h.seats q ∙ sym (seats_stay w.tickets k t (g t) there (same t) q);
        next_op = h.next_op;
        next_ticket = h.next_ticket;
        restores = h.restores;
        restore_count = h.restore_count;
        readers = h.readers;
      };
      next = refl;
    }

pub idles_change : (w : World) (k : ℕ) (g : Ticket → Ticket) → ((t : Ticket) → seat_out (Some (g t)) ≡ seat_out (Some t)) → Idles w (change w k g)
idles_change w k g same = idles_given w k g (fin.get w.tickets k) refl same

seat_committing : (name : BlobName) (o : Option Bytes) (t : Ticket) → seat_out (Some (committing name o t)) ≡ seat_out (Some t)
seat_committing name None t = refl
seat_committing name (Some bytes) t = refl

seat_fetching : (name : BlobName) (o : Option Bytes) (t : Ticket) → seat_out (Some (fetching name o t)) ≡ seat_out (Some t)
seat_fetching name None t = refl
seat_fetching name (Some bytes) t = refl

idles_tried : (w : World) (k : ℕ) → Idles w (tried w k)
idles_tried w k = idles_change w k (λ t. record t { tried_latest = true }) (λ t. refl)

idles_either : (w a : World) (first : Bool) → Idles w a → Idles w (if first then a else w)
idles_either w a true h = h
idles_either w a false h = idles_same w

-- ---- a step that begins or commits a blob

begin_no_swap : (step : Step) (name : BlobName) → IsBegin step name → swaps_record step ≡ false
begin_no_swap (BeginStep it) name h = refl
begin_no_swap (ReadStep (BeginTest it)) name h = refl
begin_no_swap step name h = absurd h

begin_asks : (step : Step) (name : BlobName) → IsBegin step name → asks_container step ≡ true
begin_asks (BeginStep it) name h = refl
begin_asks (ReadStep (BeginTest it)) name h = refl
begin_asks step name h = absurd h

begin_leaves : (step : Step) (name : BlobName) (reply : Reply) → IsBegin step name → LeavesInfos step reply
begin_leaves (BeginStep it) name reply h = tt
begin_leaves (ReadStep (BeginTest it)) name reply h = tt
begin_leaves step name reply h = absurd h

idles_begun : (f : Formats) (w : World) (k : ℕ) (step : Step) (name : BlobName) (image : Option Image) → IsBegin step name → Idles w (answered f w k step WasBegun image)
idles_begun f w k (BeginStep it) name image h = idles_same w
idles_begun f w zero (ReadStep (BeginTest it)) name image h = idles_same w
idles_begun f w (suc k) (ReadStep (BeginTest it)) name image h = idles_same w
idles_begun f w k step name image h = absurd h

idles_unbegun : (f : Formats) (w : World) (k : ℕ) (step : Step) (name : BlobName) (image : Option Image) → IsBegin step name → Idles w (faulted f w k step image)
idles_unbegun f w k (BeginStep it) name image h = idles_either w (tried w k) (is_latest it) (idles_tried w k)
idles_unbegun f w k (ReadStep (BeginTest it)) name image h = idles_same w
idles_unbegun f w k step name image h = absurd h

commit_no_swap : (step : Step) (name : BlobName) → IsCommit step name → swaps_record step ≡ false
commit_no_swap (CommitStep it) name h = refl
commit_no_swap (ReadStep (CommitTest it)) name h = refl
commit_no_swap step name h = absurd h

commit_asks : (step : Step) (name : BlobName) → IsCommit step name → asks_container step ≡ true
commit_asks (CommitStep it) name h = refl
commit_asks (ReadStep (CommitTest it)) name h = refl
commit_asks step name h = absurd h

commit_leaves : (step : Step) (name : BlobName) (reply : Reply) → IsCommit step name → LeavesInfos step reply
commit_leaves (CommitStep it) name reply h = tt
commit_leaves (ReadStep (CommitTest it)) name reply h = tt
commit_leaves step name reply h = absurd h

-- the names that may be removed are in no plan
idles_doomed : (w : World) (doomed : List BlobName) → Idles w (record w { doomed = doomed })
idles_doomed w doomed =
    record {
      plan = λ p h. record { ops = h.ops; deletes = h.deletes; completed = h.completed; seats = h.seats; next_op = h.next_op; next_ticket = h.next_ticket; restores = h.restores; restore_count = h.restore_count; readers = h.readers };
      next = refl;
    }

idles_left : (w : World) (name : BlobName) (was now : Option Bytes) → Idles w (test_left w name was now)
idles_left w name None (Some bytes) = idles_doomed w (name ∷ w.doomed)
idles_left w name was now = idles_same w

idles_committed : (f : Formats) (w : World) (k : ℕ) (step : Step) (name : BlobName) (image : Option Image) → IsCommit step name → Idles w (answered f w k step WasDone image)
idles_committed f w k (CommitStep it) name image h = idles_change w k (committing it (told_blob f image it)) (seat_committing it (told_blob f image it))
idles_committed f w zero (ReadStep (CommitTest it)) name image h = idles_doomed w (it ∷ w.doomed)
idles_committed f w (suc k) (ReadStep (CommitTest it)) name image h = idles_same w
idles_committed f w k step name image h = absurd h

idles_there : (f : Formats) (w : World) (k : ℕ) (step : Step) (name : BlobName) (image : Option Image) → IsCommit step name → Idles w (answered f w k step WasThere image)
idles_there f w k (CommitStep it) name image h = idles_change w k (λ t. noting t it) (λ t. refl)
idles_there f w zero (ReadStep (CommitTest it)) name image h = idles_same w
idles_there f w (suc k) (ReadStep (CommitTest it)) name image h = idles_same w
idles_there f w k step name image h = absurd h

idles_uncommitted : (f : Formats) (w : World) (k : ℕ) (step : Step) (name : BlobName) (image : Option Image) → IsCommit step name → Idles w (faulted f w k step image)
idles_uncommitted f w k (CommitStep it) name image h = idles_same w
idles_uncommitted f w k (ReadStep (CommitTest it)) name image h = idles_left w it (fin.get w.blobs (f.names.text it)) (told_blob f image it)
idles_uncommitted f w k step name image h = absurd h

-- ---- a step that fetches a blob

fetch_no_swap : (step : Step) (name : BlobName) → IsFetch step name → swaps_record step ≡ false
fetch_no_swap (FetchStep it) name h = refl
fetch_no_swap (PruneStep (FetchShard it)) name h = refl
fetch_no_swap (ReadStep (ReadBlob it)) name h = refl
fetch_no_swap step name h = absurd h

fetch_asks : (step : Step) (name : BlobName) → IsFetch step name → asks_container step ≡ true
fetch_asks (FetchStep it) name h = refl
fetch_asks (PruneStep (FetchShard it)) name h = refl
fetch_asks (ReadStep (ReadBlob it)) name h = refl
fetch_asks step name h = absurd h

fetch_leaves : (step : Step) (name : BlobName) (reply : Reply) → IsFetch step name → LeavesInfos step reply
fetch_leaves (FetchStep it) name reply h = tt
fetch_leaves (PruneStep (FetchShard it)) name reply h = tt
fetch_leaves (ReadStep (ReadBlob it)) name reply h = tt
fetch_leaves step name reply h = absurd h

readers_stay : (readers : FinMap nat_cmp Reader) (k : ℕ) (q v : Reader) → fin.get readers k ≡ Some q → reader_out (Some v) ≡ reader_out (Some q) → (j : ℕ)
    → reader_out (fin.get (fin.insert readers k v) j) ≡ reader_out (fin.get readers j)
readers_stay readers k q v there same j = ap reader_out (fin.get-insert nat_cmp_total readers k v j) ∙ go (eq_by_cmp nat_cmp j k) refl
  where
    go : (b : Bool) → eq_by_cmp nat_cmp j k ≡ b → reader_out (cond b (Some v) (fin.get readers j)) ≡ reader_out (fin.get readers j)
    go true e = same ∙ sym (ap reader_out (ap (fin.get readers) (nat_cmp-IsAntisymmetric j k (tied (nat_cmp j k) e)) ∙ there))
    go false e = refl

idles_told : (w : World) (k : ℕ) (name : BlobName) (bytes : Option Bytes) (o : Option Reader) → fin.get w.readers k ≡ o → Idles w (read_told w k name bytes o)
idles_told w k name bytes None there = idles_same w
idles_told w k name None (Some q) there = idles_same w
idles_told w k name (Some bytes) (Some q) there =
    record {
      plan = λ p h. record {
        ops = h.ops;
        deletes = h.deletes;
        completed = h.completed;
        seats = h.seats;
        next_op = h.next_op;
        next_ticket = h.next_ticket;
        restores = h.restores;
        restore_count = h.restore_count;
        readers = λ j. h.readers j ∙ sym (readers_stay w.readers k q _ there refl j);
      };
      next = refl;
    }

idles_fetched : (f : Formats) (w : World) (k : ℕ) (step : Step) (name : BlobName) (image : Option Image) → IsFetch step name → Idles w (answered f w k step WasFetched image)
idles_fetched f w k (FetchStep it) name image h = idles_change w k (fetching it (told_blob f image it)) (seat_fetching it (told_blob f image it))
idles_fetched f w k (PruneStep (FetchShard it)) name image h = idles_change w k (fetching it (told_blob f image it)) (seat_fetching it (told_blob f image it))
idles_fetched f w zero (ReadStep (ReadBlob it)) name image h = idles_same w
idles_fetched f w (suc k) (ReadStep (ReadBlob it)) name image h = idles_told w (suc k) it (told_blob f image it) (fin.get w.readers (suc k)) refl
idles_fetched f w k step name image h = absurd h

idles_absent : (f : Formats) (w : World) (k : ℕ) (step : Step) (name : BlobName) (image : Option Image) → IsFetch step name → Idles w (answered f w k step WasAbsent image)
idles_absent f w k (FetchStep it) name image h = idles_same w
idles_absent f w k (PruneStep (FetchShard it)) name image h = idles_same w
idles_absent f w zero (ReadStep (ReadBlob it)) name image h = idles_same w
idles_absent f w (suc k) (ReadStep (ReadBlob it)) name image h = idles_same w
idles_absent f w k step name image h = absurd h

idles_unfetched : (f : Formats) (w : World) (k : ℕ) (step : Step) (name : BlobName) (image : Option Image) → IsFetch step name → Idles w (faulted f w k step image)
idles_unfetched f w k (FetchStep it) name image h = idles_same w
idles_unfetched f w k (PruneStep (FetchShard it)) name image h = idles_same w
idles_unfetched f w k (ReadStep (ReadBlob it)) name image h = idles_same w
idles_unfetched f w k step name image h = absurd h

-- ---- the image

-- the image stays told or untold, and the record's text stays
pub record TextStays (old new : Option Held) : Type 0 where
  pub untold : old ≡ None → new ≡ None
  pub told : (i : Held) → old ≡ Some i → (j : Held) × (new ≡ Some j) × (j.text ≡ i.text)

pub text_same_image : (old new : Option Held) → new ≡ old → TextStays old new
text_same_image old new e = record { untold = λ n. e ∙ n; told = λ i is. (i, e ∙ is, refl) }

-- a told image was told before
was_told : (old new : Option Held) → TextStays old new → (j : Held) → new ≡ Some j → (i : Held) × (old ≡ Some i) × (j.text ≡ i.text)
was_told old new h j e = go old refl
  where
    go : (o : Option Held) → old ≡ o → (i : Held) × (old ≡ Some i) × (j.text ≡ i.text)
    go None n = absurd (some_none j (sym e ∙ h.untold n))
    go (Some i) n =
        let x = h.told i n in
        (i, n, ap (λ (y : Held). y.text) (same_Some j x.0 (sym e ∙ x.1)) ∙ x.2)

tells_stay : (old new : Look) (tells : Bool) → TellsSo old tells → TextStays (now old) (now new) → TellsSo new tells
tells_stay old new tells t h = record { untold = λ n. go (now old) refl n; told = λ j e. let x = was_told (now old) (now new) h j e in t.told x.0 x.1 }
  where
    go : (o : Option Held) → now old ≡ o → now new ≡ None → tells ≡ false
    go None e n = t.untold e
    go (Some i) e n = absurd (some_none (h.told i e).0 (sym (h.told i e).1 ∙ n))

pub held_of : (o : Option Held) (image : Image) → option_map image_of o ≡ Some image → (j : Held) × (o ≡ Some j) × (image_of j ≡ image)
held_of None image q = absurd (some_none image (sym q))
held_of (Some j) image q = (j, refl, same_Some (image_of j) image q)

pub told_of : (o : Option Held) (P : Blobs → Type 0) → ((i : Held) → o ≡ Some i → P i.blobs) → Told (option_map image_of o) P
told_of None P h = tt
told_of (Some i) P h = h i refl

-- the text of a name, and that it reads back
pub names_text : (s : Start) (nm : BlobName) → name_kind.text nm ≡ (formats_of s).names.text nm
names_text s nm = ap (λ kind. kind.text nm) (sym (names_are s))

pub named_of : (s : Start) (nm : BlobName) → ReadsBack name_kind nm → IsNamed s nm
named_of s nm back = subst (λ kind. ReadsBack kind nm) (sym (names_are s)) back

-- `index.latest` reads back
pub latest_back : ReadsBack name_kind Latest
unfolding HasIds IsName
latest_back = name_reads_back code.Latest tt tt

pub latest_named : (name : CodeName) (text : Bytes) → text ≡ name_kind.text (name_of name) → name_of name ≡ Latest → text ≡ name_kind.text Latest
latest_named name text named is = named ∙ ap (λ n. name_kind.text n) is

-- a call that failed
pub failed_is : {T : Type 0} (old new : Look) (ok : T → Change) (may : Change) (error : CallError) → error ≡ Failed → Called old new ok may (Err error) → Passed old new may × may (now old) (now new)
failed_is old new ok may error is c = let f = subst (λ x. Called old new ok may (Err x)) is c in (f.passed refl, f.failed refl)

some_of : {A : Type 0} (o : Option A) → IsSome o → (x : A) × (o ≡ Some x)
some_of None h = absurd cc
some_of (Some x) h = (x, refl)

-- the bytes under a name are told as they are
told_known : (f : Formats) (o : Option Held) (nm : BlobName) → told_blob f (option_map image_of o) nm ≡ blob_known o (f.names.text nm)
told_known f None nm = refl
told_known f (Some i) nm = refl

-- ---- a call of a step that doesn't swap the record

module _ {old : Look} {s : Start} {clock : ℕ} {es : List Entry} {k : Kept} {d : Option ℕ} {seen : List Moment} (b : Before old s clock es k d seen) where
  steady : IsSteady s seen old
  steady = steady_now old s clock es k d seen b.repo b.view

  pub blobs_are : (i : Held) → now old ≡ Some i → i.blobs ≡ (world_of s seen).blobs
  blobs_are i e = ap (λ (x : Image). x.blobs) (steady.image i e)

  contents_told : (contents : Option Bytes) (bytes : Bytes) → Holds s contents bytes → (i : Held) → now old ≡ Some i → contents ≡ Some bytes
  contents_told contents bytes h i e = h ∙ ap (λ (t : Bool). if t then Some bytes else None) (b.repo.tells.told i e)

  contents_untold : (contents : Option Bytes) (bytes : Bytes) → Holds s contents bytes → now old ≡ None → contents ≡ None
  contents_untold contents bytes h e = h ∙ ap (λ (t : Bool). if t then Some bytes else None) (b.repo.tells.untold e)

  pub tell_of : (o : Option Held) → TextStays (now old) o → CanTell s (option_map image_of o)
  tell_of o h = can_tell s o (λ j e. let x = was_told (now old) o h j e in b.repo.tells.told x.0 x.1)

  -- ---- the image that the call leaves, answered or not

  module _ (o : Option Held) where
    module _ (e : Entry) (noswap : swaps_record e.step ≡ false) where
      abbrev left_then : Moment
      left_then = record { entry = e; image = option_map image_of o }

      same_record : record_of (after (formats_of s) (world_of s seen) left_then) ≡ record_of (world_of s seen)
      same_record = b.laws.record_stays (formats_of s) (world_of s seen) left_then noswap

      text_then : TextStays (now old) o → (image : Image) → option_map image_of o ≡ Some image → image.text ≡ Some ((formats_of s).cluster.text (record_of (after (formats_of s) (world_of s seen) left_then)))
      text_then h image is =
          let x = held_of o image is in
          let y = was_told (now old) o h x.0 x.1 in
          ap (λ (z : Image). z.text) (sym x.2) ∙ y.2
          ∙ text_same s seen old steady (image_of y.0) (ap (option_map image_of) y.1)
          ∙ ap (λ r. Some ((formats_of s).cluster.text r)) (sym same_record)

      pub allowed_is : GoesOn s seen e.who e.step → TextStays (now old) o → Allows (formats_of s) s.part_size (world_of s seen) e.who e.step e.reply (option_map image_of o) → Allowed (formats_of s) s.part_size (world_of s seen) left_then
      allowed_is goes text allows =
          record {
            answered = inl (b.live, allows);
            aborted = λ by live x. absurd (goes.unaborted by x);
            once = λ live. goes.fresh;
            record_back = subst (λ kind. ReadsBack kind (record_of (after (formats_of s) (world_of s seen) left_then))) (sym (cluster_is s)) (subst (λ r. ReadsBack cluster_kind r) (sym same_record) steady.record_back);
            text = text_then text;
          }

    module _ (name : Bytes) (contents : Option Bytes) (bytes : Bytes) (h : Holds s contents bytes) (is : o ≡ put_known (now old) name contents) where
      put_told : (i : Held) → now old ≡ Some i → o ≡ Some (with_blob i name bytes)
      put_told i e = let full = contents_told contents bytes h i e in is ∙ (λ j. put_known (e j) name (full j))

      text_put : TextStays (now old) o
      text_put = record { untold = λ n. is ∙ ap (λ (x : Option Held). put_known x name contents) n; told = λ i e. (with_blob i name bytes, put_told i e, refl) }

      blobs_put : (j : Held) → o ≡ Some j → j.blobs ≡ fin.insert (world_of s seen).blobs name bytes
      blobs_put j e =
          let x = was_told (now old) o text_put j e in
          ap (λ (y : Held). y.blobs) (same_Some j (with_blob x.0 name bytes) (sym e ∙ put_told x.0 x.1)) ∙ ap (λ (m : Blobs). fin.insert m name bytes) (blobs_are x.0 x.1)

      name_free : IsFree (now old) name → (j : Held) → o ≡ Some j → fin.get (world_of s seen).blobs name ≡ None
      name_free free j e =
          let x = was_told (now old) o text_put j e in
          ap (λ (m : Blobs). fin.get m name) (sym (blobs_are x.0 x.1)) ∙ free x.0 x.1

    blob_put : (nm : BlobName) (contents : Option Bytes) (bytes : Bytes) → Holds s contents bytes → o ≡ put_known (now old) ((formats_of s).names.text nm) contents
        → told_blob (formats_of s) (option_map image_of o) nm ≡ contents
    blob_put nm contents bytes h is = go (now old) refl
      where
        go : (was : Option Held) → now old ≡ was → told_blob (formats_of s) (option_map image_of o) nm ≡ contents
        go None e =
            ap (λ (x : Option Held). told_blob (formats_of s) (option_map image_of x) nm) (is ∙ ap (λ (x : Option Held). put_known x ((formats_of s).names.text nm) contents) e)
            ∙ sym (contents_untold contents bytes h e)
        go (Some i) e =
            ap (λ (x : Option Held). told_blob (formats_of s) (option_map image_of x) nm) (put_told ((formats_of s).names.text nm) contents bytes h is i e)
            ∙ put_there i.blobs ((formats_of s).names.text nm) bytes
            ∙ sym (contents_told contents bytes h i e)

    told_same : o ≡ now old → Told (option_map image_of o) (Same s seen)
    told_same same = told_of o (Same s seen) (λ i e. blobs_are i (sym same ∙ e))

  -- a call that changes nothing leaves the image of the world, also where it is cut off
  pub same_cut : (m : Moment) (i : Held) → SameImage (now old) (Some i) → Leaves (formats_of s) s.part_size (world_of s seen) (m ∷ []) (image_of i)
  same_cut m i same = inl (steady.image i (sym same))

  module _ (new : Look) where
    module _ (e : Entry) (noswap : swaps_record e.step ≡ false) where
      abbrev here : Moment
      here = record { entry = e; image = image_now new }

      pub call_is : (may : Change) → GoesOn s seen e.who e.step → Passed old new may → calls e.step e.reply ≡ true → TextStays (now old) (now new)
          → Allows (formats_of s) s.part_size (world_of s seen) e.who e.step e.reply (image_now new)
          → ((i : Held) → may (now old) (Some i) → Leaves (formats_of s) s.part_size (world_of s seen) (here ∷ []) (image_of i)) → IsCall old new s seen e
      call_is may goes passed called text allows cut =
          record {
            goes = goes_passed old new may e called passed;
            tells = tells_stay old new s.tells b.repo.tells text;
            allowed = allowed_is (now new) e noswap goes text allows;
            own = goes.own;
            left = λ t i le h. elim (passed.since t i le h) [ inl was ↦ inl was | inr m ↦ inr (cut i m) ];
          }

      -- what is kept stays
      pub call_made : LeavesInfos e.step e.reply → (mid es' : List Entry) → Pushed es mid es' e → IsCall old new s seen e → Idles (world_of s seen) (answered (formats_of s) (world_of s seen) e.who e.step e.reply (image_now new))
          → Made old new s clock es es' k d seen e
      call_made leaves mid es' p c idles =
          let more = more_is es mid es' e p in
          let kept = kept_now old s clock es k d seen b.repo b.view b.live in
          let w : World = answered (formats_of s) (world_of s seen) e.who e.step e.reply (image_now new) in
          let rests = rests_answered (formats_of s) (world_of s seen) e.who e.step e.reply (image_now new) noswap in
          made old new s clock es es' k k d d seen e b more c
          (added_repo old new s clock es es' k k d d seen e b.laws b.repo b.view c.goes c.tells more c.allowed c.own
          (λ none. (
            rests.deposed ∙ b.live,
            record {
              cluster = kept.1.cluster ∙ sym (same_record (now new) e noswap);
              root = kept.1.root ∙ sym rests.root;
              plan = plan_aside w (blobs_in (image_now new) (world_of s seen).blobs) w.deposed (after (formats_of s) (world_of s seen) here).caller (after (formats_of s) (world_of s seen) here).entries k.plan (idles.plan k.plan kept.1.plan);
              next = kept.1.next ∙ sym idles.next;
            },
            infos_over s (world_of s seen) here k.infos steady.tracked steady.tests steady.pruning steady.of_ops steady.gone c.allowed leaves kept.2,
          ))
          (λ place n. absurd (some_none place (sym n ∙ kept.0))))

    -- ---- a new stage

    module _ (who : ℕ) (step : Step) (nm : BlobName) (m : MayBegin s seen who step nm) (goes : GoesOn s seen who step) (back : ReadsBack name_kind nm) where
      no_begin_swap : swaps_record step ≡ false
      no_begin_swap = begin_no_swap step nm m.is

      pub begin_ok : {T : Type 0} (x : T) → Called old new (λ _. SameImage) SameImage (Ok x) → (mid es' : List Entry) → Pushed es mid es' (record { who = who; step = step; reply = WasBegun })
          → Made old new s clock es es' k d seen (record { who = who; step = step; reply = WasBegun })
      begin_ok x c mid es' p =
          let e : Entry = record { who = who; step = step; reply = WasBegun } in
          let same : now new ≡ now old = c.done in
          call_made e no_begin_swap (begin_leaves step nm e.reply m.is) mid es' p (call_is e no_begin_swap SameImage goes (c.passed refl) (begin_asks step nm m.is) (text_same_image (now old) (now new) same)
          (m.begins (named_of s nm back) (image_now new) (tell_of (now new) (text_same_image (now old) (now new) same)) (told_same (now new) same)) (same_cut (here e no_begin_swap)))
          (idles_begun (formats_of s) (world_of s seen) who step nm (image_now new) m.is)

      pub begin_fault : {T : Type 0} (error : CallError) → error ≡ Failed → Called {T = T} old new (λ _. SameImage) SameImage (Err error) → (mid es' : List Entry)
          → Pushed es mid es' (record { who = who; step = step; reply = Refused DepotFault }) → Made old new s clock es es' k d seen (record { who = who; step = step; reply = Refused DepotFault })
      begin_fault {T} error is c mid es' p =
          let e : Entry = record { who = who; step = step; reply = Refused DepotFault } in
          let g = failed_is {T = T} old new (λ _. SameImage) SameImage error is c in
          let same : now new ≡ now old = g.1 in
          call_made e no_begin_swap (begin_leaves step nm e.reply m.is) mid es' p (call_is e no_begin_swap SameImage goes g.0 refl (text_same_image (now old) (now new) same)
          (m.fails (named_of s nm back) (image_now new) (tell_of (now new) (text_same_image (now old) (now new) same)) (told_same (now new) same)) (same_cut (here e no_begin_swap)))
          (idles_unbegun (formats_of s) (world_of s seen) who step nm (image_now new) m.is)

    -- ---- a blob that is committed

    module _ (who : ℕ) (step : Step) (nm : BlobName) (contents : Option Bytes) (bytes : Bytes) (h : Holds s contents bytes) (m : MayCommit s seen who step nm bytes)
        (goes : GoesOn s seen who step) (back : ReadsBack name_kind nm) (text : Bytes) (named : text ≡ name_kind.text nm) where
      no_commit_swap : swaps_record step ≡ false
      no_commit_swap = commit_no_swap step nm m.is

      abbrev name_text : Bytes
      name_text = (formats_of s).names.text nm

      text_is : text ≡ name_text
      text_is = named ∙ names_text s nm

      of_name : (r : Result Commit CallError) → Called old new (Committed text contents) (CommitMay text contents) r → Called old new (Committed name_text contents) (CommitMay name_text contents) r
      of_name r c = subst (λ t. Called old new (Committed t contents) (CommitMay t contents) r) text_is c

      told_added : (o : Option Held) → o ≡ put_known (now old) name_text contents → IsFree (now old) name_text → (i : Held) → o ≡ Some i → IsAdded s seen nm bytes i.blobs
      told_added o is free i e = (name_free o name_text contents bytes h is free i e, blobs_put o name_text contents bytes h is i e)

      abbrev Left : Blobs → Type 0
      Left blobs = Same s seen blobs ⊎ IsAdded s seen nm bytes blobs

      commit_left : (o : Option Held) → CommitMay name_text contents (now old) o → TextStays (now old) o × Told (option_map image_of o) Left
      commit_left o (inl same) = (text_same_image (now old) o same, told_of o Left (λ i e. inl (blobs_are i (sym same ∙ e))))
      commit_left o (inr put) = (text_put o name_text contents bytes h put.0, told_of o Left (λ i e. inr (told_added o put.0 put.1 i e)))

      -- a commit that is cut off
      commit_cut : (reply : Reply) (image : Option Image) (i : Held) → CommitMay name_text contents (now old) (Some i)
          → Leaves (formats_of s) s.part_size (world_of s seen) (record { entry = record { who = who; step = step; reply = reply }; image = image } ∷ []) (image_of i)
      commit_cut reply image i may =
          let left = commit_left (Some i) may in
          inr (inl (allowed_is (Some i) (record { who = who; step = step; reply = Refused DepotFault }) no_commit_swap goes left.0 (m.fails (named_of s nm back) (Some (image_of i)) (tell_of (Some i) left.0) left.1)))

      pub commit_done : (found : Commit) → found ≡ commits.Done → Called old new (Committed text contents) (CommitMay text contents) (Ok found) → (mid es' : List Entry)
          → Pushed es mid es' (record { who = who; step = step; reply = WasDone })
          → Made old new s clock es es' k d seen (record { who = who; step = step; reply = WasDone }) × (told_blob (formats_of s) (image_now new) nm ≡ contents)
      commit_done found what c mid es' p =
          let e : Entry = record { who = who; step = step; reply = WasDone } in
          let c' = of_name (Ok commits.Done) (subst (λ x. Called old new (Committed text contents) (CommitMay text contents) (Ok x)) what c) in
          let is : now new ≡ put_known (now old) name_text contents = c'.done.0 in (
            call_made e no_commit_swap (commit_leaves step nm e.reply m.is) mid es' p
                (call_is e no_commit_swap (CommitMay name_text contents) goes (c'.passed refl) (commit_asks step nm m.is) (text_put (now new) name_text contents bytes h is) (m.commits (named_of s nm back) (image_now new)
                (tell_of (now new) (text_put (now new) name_text contents bytes h is)) (told_of (now new) (IsAdded s seen nm bytes) (told_added (now new) is c'.done.1))) (commit_cut WasDone (image_now new)))
                (idles_committed (formats_of s) (world_of s seen) who step nm (image_now new) m.is),
            blob_put (now new) nm contents bytes h is,
          )

      told_there : now new ≡ now old → IsTaken (now old) name_text → (i : Held) → now new ≡ Some i → IsThere s seen nm i.blobs
      told_there same taken i e =
          let was : now old ≡ Some i = sym same ∙ e in
          let found = some_of (blob i name_text) (taken i was) in (
            (found.0, (ap (λ (x : Blobs). fin.get x name_text) (sym (blobs_are i was)) ∙ found.1, (named_of s nm back, m.stored))),
            blobs_are i was,
          )

      pub commit_found : (found : Commit) → found ≡ commits.Exists → Called old new (Committed text contents) (CommitMay text contents) (Ok found) → IsMetadata nm → (mid es' : List Entry)
          → Pushed es mid es' (record { who = who; step = step; reply = WasThere })
          → Made old new s clock es es' k d seen (record { who = who; step = step; reply = WasThere })
      commit_found found what c metadata mid es' p =
          let e : Entry = record { who = who; step = step; reply = WasThere } in
          let c' = of_name (Ok commits.Exists) (subst (λ x. Called old new (Committed text contents) (CommitMay text contents) (Ok x)) what c) in
          let same : now new ≡ now old = c'.done.0 in
          call_made e no_commit_swap (commit_leaves step nm e.reply m.is) mid es' p
          (call_is e no_commit_swap (CommitMay name_text contents) goes (c'.passed refl) (commit_asks step nm m.is) (text_same_image (now old) (now new) same)
          (m.finds (named_of s nm back) metadata (image_now new) (tell_of (now new) (text_same_image (now old) (now new) same)) (told_of (now new) (IsThere s seen nm) (told_there same c'.done.1))) (commit_cut WasThere (image_now new)))
          (idles_there (formats_of s) (world_of s seen) who step nm (image_now new) m.is)

      pub commit_taken : (found : Commit) → found ≡ commits.Exists → Called old new (Committed text contents) (CommitMay text contents) (Ok found) → (IsMetadata nm → ⊥) → (mid es' : List Entry)
          → Pushed es mid es' (record { who = who; step = step; reply = Refused (NameTaken nm) }) → Made old new s clock es es' k d seen (record { who = who; step = step; reply = Refused (NameTaken nm) })
      commit_taken found what c other mid es' p =
          let e : Entry = record { who = who; step = step; reply = Refused (NameTaken nm) } in
          let c' = of_name (Ok commits.Exists) (subst (λ x. Called old new (Committed text contents) (CommitMay text contents) (Ok x)) what c) in
          let same : now new ≡ now old = c'.done.0 in
          call_made e no_commit_swap (commit_leaves step nm e.reply m.is) mid es' p
          (call_is e no_commit_swap (CommitMay name_text contents) goes (c'.passed refl) refl (text_same_image (now old) (now new) same) (m.taken (named_of s nm back) other (image_now new)
          (tell_of (now new) (text_same_image (now old) (now new) same)) (told_of (now new) (IsThere s seen nm) (told_there same c'.done.1))) (commit_cut (Refused (NameTaken nm)) (image_now new)))
          (idles_same (world_of s seen))

      pub commit_fault : (error : CallError) → error ≡ Failed → Called old new (Committed text contents) (CommitMay text contents) (Err error) → (mid es' : List Entry)
          → Pushed es mid es' (record { who = who; step = step; reply = Refused DepotFault })
          → Made old new s clock es es' k d seen (record { who = who; step = step; reply = Refused DepotFault })
      commit_fault error is c mid es' p =
          let e : Entry = record { who = who; step = step; reply = Refused DepotFault } in
          let g = failed_is old new (Committed name_text contents) (CommitMay name_text contents) error is (of_name (Err error) c) in
          let left = commit_left (now new) g.1 in
          call_made e no_commit_swap (commit_leaves step nm e.reply m.is) mid es' p
          (call_is e no_commit_swap (CommitMay name_text contents) goes g.0 refl left.0 (m.fails (named_of s nm back) (image_now new) (tell_of (now new) left.0) left.1) (commit_cut (Refused DepotFault) (image_now new)))
          (idles_uncommitted (formats_of s) (world_of s seen) who step nm (image_now new) m.is)

    -- ---- `index.latest` is replaced

    module _ (who : ℕ) (contents : Option Bytes) (bytes : Bytes) (h : Holds s contents bytes) (m : MayReplace s seen who bytes)
        (goes : GoesOn s seen who LatestStep) (back : ReadsBack name_kind Latest) (text : Bytes) (named : text ≡ name_kind.text Latest) where
      abbrev latest_text : Bytes
      latest_text = (formats_of s).names.text Latest

      of_latest : (r : Result (Unit {0}) CallError) → Called old new (λ _. Replaced text contents) (ReplaceMay text contents) r → Called old new (λ _. Replaced latest_text contents) (ReplaceMay latest_text contents) r
      of_latest r c = subst (λ t. Called old new (λ _. Replaced t contents) (ReplaceMay t contents) r) (named ∙ names_text s Latest) c

      idles_latest : Idles (world_of s seen) (tried (world_of s seen) who)
      idles_latest = idles_tried (world_of s seen) who

      abbrev Rest : Blobs → Type 0
      Rest blobs = Same s seen blobs ⊎ IsPut s seen Latest bytes blobs

      replace_left : (o : Option Held) → ReplaceMay latest_text contents (now old) o → TextStays (now old) o × Told (option_map image_of o) Rest
      replace_left o (inl same) = (text_same_image (now old) o same, told_of o Rest (λ i e. inl (blobs_are i (sym same ∙ e))))
      replace_left o (inr put) = (text_put o latest_text contents bytes h put, told_of o Rest (λ i e. inr (blobs_put o latest_text contents bytes h put i e)))

      -- a replacement that is cut off
      replace_cut : (reply : Reply) (image : Option Image) (i : Held) → ReplaceMay latest_text contents (now old) (Some i)
          → Leaves (formats_of s) s.part_size (world_of s seen) (record { entry = record { who = who; step = LatestStep; reply = reply }; image = image } ∷ []) (image_of i)
      replace_cut reply image i may =
          let left = replace_left (Some i) may in
          inr (inl (allowed_is (Some i) (record { who = who; step = LatestStep; reply = Refused DepotFault }) refl goes left.0 (m.fails (named_of s Latest back) (Some (image_of i)) (tell_of (Some i) left.0) left.1)))

      pub replace_ok : (x : Unit {0}) → Called old new (λ _. Replaced text contents) (ReplaceMay text contents) (Ok x) → (mid es' : List Entry) → Pushed es mid es' (record { who = who; step = LatestStep; reply = WasReplaced })
          → Made old new s clock es es' k d seen (record { who = who; step = LatestStep; reply = WasReplaced })
      replace_ok x c mid es' p =
          let e : Entry = record { who = who; step = LatestStep; reply = WasReplaced } in
          let c' = of_latest (Ok x) c in
          let is : now new ≡ put_known (now old) latest_text contents = c'.done in
          call_made e refl tt mid es' p
          (call_is e refl (ReplaceMay latest_text contents) goes (c'.passed refl) refl (text_put (now new) latest_text contents bytes h is) (m.puts (named_of s Latest back) (image_now new)
          (tell_of (now new) (text_put (now new) latest_text contents bytes h is)) (told_of (now new) (IsPut s seen Latest bytes) (blobs_put (now new) latest_text contents bytes h is))) (replace_cut WasReplaced (image_now new)))
          idles_latest

      pub replace_fault : (error : CallError) → error ≡ Failed → Called {T = Unit {0}} old new (λ _. Replaced text contents) (ReplaceMay text contents) (Err error) → (mid es' : List Entry)
          → Pushed es mid es' (record { who = who; step = LatestStep; reply = Refused DepotFault }) → Made old new s clock es es' k d seen (record { who = who; step = LatestStep; reply = Refused DepotFault })
      replace_fault error is c mid es' p =
          let e : Entry = record { who = who; step = LatestStep; reply = Refused DepotFault } in
          let g = failed_is {T = Unit {0}} old new (λ _. Replaced latest_text contents) (ReplaceMay latest_text contents) error is (of_latest (Err error) c) in
          let left = replace_left (now new) g.1 in
          call_made e refl tt mid es' p
          (call_is e refl (ReplaceMay latest_text contents) goes g.0 refl left.0 (m.fails (named_of s Latest back) (image_now new) (tell_of (now new) left.0) left.1) (replace_cut (Refused DepotFault) (image_now new))) idles_latest

    -- ---- a blob that is fetched

    module _ (who : ℕ) (step : Step) (nm : BlobName) (m : MayFetch s seen who step nm) (goes : GoesOn s seen who step) (back : ReadsBack name_kind nm) (text : Bytes) (named : text ≡ name_kind.text nm) where
      abbrev fetched_text : Bytes
      fetched_text = (formats_of s).names.text nm

      noswap : swaps_record step ≡ false
      noswap = fetch_no_swap step nm m.is

      told_found : (found : Option Bytes) → now new ≡ now old → ((i : Held) → now old ≡ Some i → blob i fetched_text ≡ found) → (i : Held) → now new ≡ Some i → IsFound s seen nm found i.blobs
      told_found found same is i e =
          let was : now old ≡ Some i = sym same ∙ e in
          (ap (λ (x : Blobs). fin.get x fetched_text) (sym (blobs_are i was)) ∙ is i was, blobs_are i was)

      pub fetch_found : {F : Type 0} (o : Option F) (x : F) → o ≡ Some x → IfSome o (λ _. IsTaken (now old) text) → Called old new (λ _. SameImage) SameImage (Ok o) → (mid es' : List Entry)
          → Pushed es mid es' (record { who = who; step = step; reply = WasFetched })
          → Made old new s clock es es' k d seen (record { who = who; step = step; reply = WasFetched })
      fetch_found o x is taken c mid es' p =
          let e : Entry = record { who = who; step = step; reply = WasFetched } in
          let c' = subst (λ o. Called old new (λ _. SameImage) SameImage (Ok o)) is c in
          let same : now new ≡ now old = c'.done in
          let there : IsTaken (now old) fetched_text = subst (λ t. IsTaken (now old) t) (named ∙ names_text s nm) (subst (λ o. IfSome o (λ _. IsTaken (now old) text)) is taken) in
          call_made e noswap (fetch_leaves step nm e.reply m.is) mid es' p
          (call_is e noswap SameImage goes (c'.passed refl) (fetch_asks step nm m.is) (text_same_image (now old) (now new) same)
          (m.fetches (named_of s nm back) (image_now new) (tell_of (now new) (text_same_image (now old) (now new) same))
          (told_of (now new) (λ blobs. (bytes : Bytes) × IsFound s seen nm (Some bytes) blobs) (λ i q.
          let was : now old ≡ Some i = sym same ∙ q in
          let found = some_of (blob i fetched_text) (there i was) in
          (found.0, (ap (λ (y : Blobs). fin.get y fetched_text) (sym (blobs_are i was)) ∙ found.1, blobs_are i was))))) (same_cut (here e noswap)))
          (idles_fetched (formats_of s) (world_of s seen) who step nm (image_now new) m.is)

      -- what can be read is what is told
      pub fetch_told : now new ≡ now old → (left : Option Bytes) → left ≡ blob_known (now old) text → told_blob (formats_of s) (image_now new) nm ≡ left
      fetch_told same left is =
          ap (λ (o : Option Held). told_blob (formats_of s) (option_map image_of o) nm) same
          ∙ told_known (formats_of s) (now old) nm
          ∙ ap (blob_known (now old)) (sym (named ∙ names_text s nm))
          ∙ sym is

      pub fetch_left : {F : Type 0} (left : F → Option Bytes) (o : Option F) (x : F) → o ≡ Some x → IfSome o (λ f. left f ≡ blob_known (now old) text) → left x ≡ blob_known (now old) text
      fetch_left left o x is h = subst (λ o. IfSome o (λ f. left f ≡ blob_known (now old) text)) is h

      pub fetch_bytes : {F : Type 0} (o : Option F) (x : F) → o ≡ Some x → IfSome o (λ _. IsTaken (now old) text) → (left : Option Bytes) → left ≡ blob_known (now old) text
          → (bytes : Bytes) × (left ≡ (if s.tells then Some bytes else None))
      fetch_bytes o x what there left is = go (now old) refl
        where
          taken : IsTaken (now old) text
          taken = subst (λ o. IfSome o (λ _. IsTaken (now old) text)) what there

          go : (o : Option Held) → now old ≡ o → (bytes : Bytes) × (left ≡ (if s.tells then Some bytes else None))
          go None e = ([], is ∙ ap (λ (x : Option Held). blob_known x text) e ∙ sym (ap (λ (t : Bool). if t then Some [] else None) (b.repo.tells.untold e)))
          go (Some i) e =
              let found = some_of (blob i text) (taken i e) in
              (found.0, is ∙ ap (λ (x : Option Held). blob_known x text) e ∙ found.1 ∙ sym (ap (λ (t : Bool). if t then Some found.0 else None) (b.repo.tells.told i e)))

      pub fetch_absent : {F : Type 0} (o : Option F) → o ≡ None → IsFree (now old) text → Called old new (λ _. SameImage) SameImage (Ok o) → (mid es' : List Entry)
          → Pushed es mid es' (record { who = who; step = step; reply = WasAbsent })
          → Made old new s clock es es' k d seen (record { who = who; step = step; reply = WasAbsent })
      fetch_absent {F} o is free c mid es' p =
          let e : Entry = record { who = who; step = step; reply = WasAbsent } in
          let c' = subst (λ (o : Option F). Called old new (λ _. SameImage) SameImage (Ok o)) is c in
          let same : now new ≡ now old = c'.done in
          let free' : IsFree (now old) fetched_text = subst (λ t. IsFree (now old) t) (named ∙ names_text s nm) free in
          call_made e noswap (fetch_leaves step nm e.reply m.is) mid es' p
          (call_is e noswap SameImage goes (c'.passed refl) (fetch_asks step nm m.is) (text_same_image (now old) (now new) same)
          (m.misses (named_of s nm back) (image_now new) (tell_of (now new) (text_same_image (now old) (now new) same)) (told_of (now new) (IsFound s seen nm None) (told_found None same free'))) (same_cut (here e noswap)))
          (idles_absent (formats_of s) (world_of s seen) who step nm (image_now new) m.is)

      pub fetch_fault : {T : Type 0} (error : CallError) → error ≡ Failed → Called {T = T} old new (λ _. SameImage) SameImage (Err error) → (mid es' : List Entry)
          → Pushed es mid es' (record { who = who; step = step; reply = Refused DepotFault }) → Made old new s clock es es' k d seen (record { who = who; step = step; reply = Refused DepotFault })
      fetch_fault {T} error is c mid es' p =
          let e : Entry = record { who = who; step = step; reply = Refused DepotFault } in
          let g = failed_is {T = T} old new (λ _. SameImage) SameImage error is c in
          let same : now new ≡ now old = g.1 in
          call_made e noswap (fetch_leaves step nm e.reply m.is) mid es' p (call_is e noswap SameImage goes g.0 refl (text_same_image (now old) (now new) same)
          (m.fails (named_of s nm back) (image_now new) (tell_of (now new) (text_same_image (now old) (now new) same)) (told_same (now new) same)) (same_cut (here e noswap)))
          (idles_unfetched (formats_of s) (world_of s seen) who step nm (image_now new) m.is)
