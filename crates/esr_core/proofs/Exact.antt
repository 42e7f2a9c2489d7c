-- A cleanup that comes to its end leaves nothing but what the safe root reaches, and `index.latest`.
use Rattle.std.proofs.Common.{◌≡◌, ◌≢◌, ◌⊎◌, ℕ, suc, ◌≤◌, ◌<◌, List, [], ◌∷◌, ◌++◌, Bool, true, false, true≢false, Option, Some, None, refl, sym, ap, ◌∙◌, subst, inl, inr, arith}
use Rattle.std.specs.Prelude.{if◌then◌else◌}
use Rattle.std.proofs.lemmas.Bool.Decides.{eqb_tells}
use Rattle.std.specs.FinMap as fin
use Rattle.std.specs.Cmp.Lexicographic.{nat_list_cmp_total}
use Rattle.std.proofs.lemmas.Option.{same_Some, none-some}
use Rattle.std.proofs.lemmas.Bool.{cases_Bool}
use Rattle.esr_core.specs.Laws.NumberMaps.{same_in}
use Rattle.esr_core.proofs.TidyHistories.{at_one}
use Rattle.esr_model.specs.Names.{BlobName, Root, Latest, ShardIndex, File, Part}
use Rattle.esr_model.specs.Values.{Bytes, Has, RootSnap, RootData, SnapInfo, ShardResult, SnapList, ShardFiles, ReadsBack, Formats}
use Rattle.esr_model.specs.Shelf.{Shelved, Command}
use Rattle.esr_model.specs.Cleanup.{BlobSize, IsAfter, last_text, is_short, IsListed, IsPageOf, reaches}
use Rattle.esr_model.specs.Image.{Blobs, Image, At, Present, Reads, Generation, RootIs}
use Rattle.esr_model.specs.Kept.{Kept}
use Rattle.esr_model.specs.Reach.{Reached, ReachPart}
use Rattle.esr_core.specs.World.{World, Deletion, Deleting, Drop, Finalize, Ticket, Swap, HeldIn, record_of, no_record, no_root, Opened, OpenedEmpty, OpenedRecord}
use Rattle.esr_core.specs.Ready.{IsMaster, IsShard}
use Rattle.esr_core.specs.Steps.{IsOut, listing, settled, with_ticket, MayCommit, MaySettle, Removes}
use Rattle.esr_core.specs.Pruning.{planned, dooms}
use Rattle.esr_core.specs.Swaps.{IsUnsettled}
use Rattle.esr_core.specs.Ids.{Law}
use Rattle.esr_core.specs.Past.{is_counted, with_entry, begins_anew, entries_by, batch_gone, gone_names}
use Rattle.esr_core.specs.Tracked.{CleanTracked, Tracked}
use Rattle.esr_core.specs.ReadTracked.{ReadTracked}
use Rattle.esr_core.specs.Changes.{SameUnit, BlobsChange, NoBlobChange, NewBlob, NewLatest, Removal, Maker, ClientStep, ReaderStep, UnitStep, IsUnits}
use Rattle.esr_core.specs.Entry.{Prune, SettlePruned, RemoveDoomed, DeleteFails, Step, DrawStep, BeginStep, CommitStep, LatestStep, FetchStep, ListStep, RaiseStep, SettleStep, DoneStep, FailedStep, FinishStep, DroppedStep, ElectStep, PruneStep, DepotFault, Refusal, Reply, WasListed, WasRemoved, HasEnded, Refused, Entry, Moment}
use Rattle.esr_core.specs.After.{with_given, committing, fetching, told_blob, delete_settled, delete_failed, delete_failed_by, is_stale, has_text, is_latest, tried, done_step, answered, after, dropped_of, raised, blobs_in}
use Rattle.esr_core.specs.Allowed as allowed
use Rattle.esr_core.specs.Allowed.{Told, SameBlobs, Adds, IsUnlisted, IsStale, ListsPage, SettlesDeletion, PruneAllows, Allows, IsBlocked, Allowed, InReach}
use Rattle.esr_core.specs.History.{world_from, IsLegal, AreTold, is_settle}
use Rattle.esr_core.specs.Cleaned.{HoldsReachAlone, ListsListedAlone, IsTestCommit, ChangesBlobs, NoneOf, IsFirstPage, IsLastDrop}
use Rattle.esr_core.specs.Laws.UnitSteps.{other_unit, settle_unit}
use Rattle.esr_model.specs.Lists.{Has-left, Has-right, Has-either}
use Rattle.esr_core.specs.Laws.OneValue.{reads_one}
use Rattle.esr_core.proofs.DeletionLaws.{cleans_is}
use Rattle.esr_core.specs.Laws.Maps.{get_was, texts_same, nothing}
use Rattle.esr_core.specs.Laws.Moments.{delete_settled_plain}
use Rattle.esr_core.specs.Laws.Tests.{same_number}
use Rattle.esr_core.specs.Laws.CleanupReach.{IsHeldNow, reached_by}
use Rattle.esr_core.proofs.Cleaning.{cleaned_has}
use Rattle.esr_core.proofs.Paging.{listed_has}
use Rattle.esr_core.proofs.PruneTurns.{held_now}
use Rattle.esr_core.proofs.CleanLists.{lists_now}
use Rattle.esr_core.proofs.Past.{entry_or_before, entry_among}
use Rattle.esr_core.specs.Laws.StepFrames.{step_frame}
use Rattle.esr_core.proofs.StepFrames.{entries_apart}
use Rattle.esr_core.proofs.BlobChanges.{blobs_change}
use Rattle.esr_core.specs.Laws.Makers.{maker}
use Rattle.esr_core.specs.Laws.Asides.{blocked_stays}
use Rattle.esr_core.proofs.Histories.{Stepped, step_law}
use Rattle.esr_core.specs.Laws.PartNames.{in_parts}
use Rattle.esr_core.proofs.TrackingSteps.{tracked_step}
use Rattle.esr_core.proofs.ReadSteps.{read_step_tracked, read_opened_tracked}
use Rattle.esr_core.proofs.Lists.{opening_law}

-- ---- terms rise

either_term : (w a b : World) (c : Bool) → w.term ≤ a.term → w.term ≤ b.term → w.term ≤ (if c then a else b).term
either_term w a b true p q = p
either_term w a b false p q = q

elect_term : (f : Formats) (w : World) (k : ℕ) (reply : Reply) (image : Option Image) → w.term ≤ (answered f w k ElectStep reply image).term
elect_term f w k (Refused DepotFault) image =
    let up : World = done_step f w k ElectStep HasEnded image in either_term w up w (has_text image (f.cluster.text (record_of up))) (omega arith) (omega arith)
elect_term f w k (Refused refusal) image = omega arith
elect_term f w k reply image = omega arith

term_rises : (f : Formats) (w : World) (m : Moment) → w.term ≤ (after f w m).term
term_rises f w m = elim (step_frame f w m).term [
  | inl same ↦ let e : (after f w m).term ≡ w.term = same in omega (arith, e)
  | inr is ↦ subst (λ (s : Step). w.term ≤ (answered f w m.entry.who s m.entry.reply m.image).term) (sym is) (elect_term f w m.entry.who m.entry.reply m.image)
]

-- ---- what is known along a history

record Here (f : Formats) (w : World) : Type 0 where
  shelf : List Shelved
  law : Law f w shelf
  tracked : Tracked w
  reads : ReadTracked w

record Step1 (f : Formats) (size : ℕ) (w : World) (m : Moment) : Type 0 where
  here : Here f w
  image : Image
  told : m.image ≡ Some image
  legal : Allowed f size w m

step_of : {f : Formats} {size : ℕ} {w : World} {m : Moment} (s : Step1 f size w m) → Stepped f w s.here.shelf m (after f w m)
step_of {f} {size} {w} {m} s = step_law f size w s.here.shelf s.here.law m s.image s.told s.legal

here_after : {f : Formats} {size : ℕ} {w : World} {m : Moment} → Step1 f size w m → Here f (after f w m)
here_after {f} {size} {w} {m} s =
    record {
      shelf = _;
      law = (step_of s).law;
      tracked = tracked_step f size w m s.here.tracked s.legal;
      reads = read_step_tracked f size w m s.here.tracked s.here.reads s.legal;
    }

-- each step of a list of moments
abbrev Steps1 : Formats → ℕ → World → List Moment → Type 0
Steps1 f size w log = Here f w × IsLegal f size w log × AreTold log

first_step : (f : Formats) (size : ℕ) (w : World) (m : Moment) (log : List Moment) → Steps1 f size w (m ∷ log) → Step1 f size w m
first_step f size w m log (here, legal, told) = record { here = here; image = told.0.0; told = told.0.1; legal = legal.0 }

later_steps : (f : Formats) (size : ℕ) (w : World) (m : Moment) (log : List Moment) → Steps1 f size w (m ∷ log) → Steps1 f size (after f w m) log
later_steps f size w m log (here, legal, told) = (here_after (first_step f size w m log (here, legal, told)), legal.1, told.1)

-- ---- the ticket stays as it is at the end

-- the ticket is out, of the present term, in a world that isn't deposed
record IsLive (w : World) (k : ℕ) (t : Ticket) : Type 0 where
  there : fin.get w.tickets k ≡ Some t
  out : t.out ≡ true
  present : t.term ≡ w.term
  alive : w.deposed ≡ false

fresh_ticket : {f : Formats} {w : World} → Here f w → (k : ℕ) (t : Ticket) → fin.get w.tickets k ≡ Some t → k ≢ w.next_ticket
fresh_ticket {f} {w} h k t there same = let b : k < w.next_ticket = h.law.lawful.sound.fresh k t there in omega (arith, b, same)

stays : (f : Formats) (size : ℕ) (w : World) (m : Moment) → Step1 f size w m → (k : ℕ) (t : Ticket) → fin.get w.tickets k ≡ Some t → (v : Ticket) × (fin.get (after f w m).tickets k ≡ Some v) × SameUnit t v
stays f size w m s k t there = (step_frame f w m).stay k t (fresh_ticket s.here k t there) there

-- it was so before
live_before : (f : Formats) (size : ℕ) (w : World) (m : Moment) → Step1 f size w m → (k : ℕ) (t v : Ticket) → fin.get w.tickets k ≡ Some t → SameUnit t v → IsLive (after f w m) k v → IsLive w k t
live_before f size w m s k t v there same live =
    let below : t.term ≤ w.term = (s.here.law.lawful.sound.rooted.tickets k t there).term in
    let rises : w.term ≤ (after f w m).term = term_rises f w m in
    let now : v.term ≡ (after f w m).term = live.present in
    let kept : v.term ≡ t.term = same.term in
    record {
      there = there;
      out = same.out live.out;
      present = omega (arith, below, rises, now, kept);
      alive = elim (cases_Bool w.deposed) [ inl dead ↦ absurd (true≢false (sym ((step_of s).alone dead).0 ∙ live.alive)) | inr alive ↦ alive ];
    }

live_from : (f : Formats) (size : ℕ) (log : List Moment) (w : World) → Steps1 f size w log → (k : ℕ) (t : Ticket) → fin.get w.tickets k ≡ Some t
    → ((v : Ticket) → fin.get (world_from f w log).tickets k ≡ Some v → IsLive (world_from f w log) k v) → IsLive w k t
live_from f size [] w s k t there end = end t there
live_from f size (m ∷ log) w s k t there end =
    let one = first_step f size w m log s in
    let v = stays f size w m one k t there in
    live_before f size w m one k t v.0 there v.2 (live_from f size log (after f w m) (later_steps f size w m log s) k v.0 v.1 end)

-- ---- the steps of a cleanup's ticket

-- nothing but what it noted, wrote, read and planned has changed of it, and it may have raised
record KeptOn (w : World) (who : ℕ) (t : Ticket) (up : World) : Type 0 where
  v : Ticket
  at : fin.get up.tickets who ≡ Some v
  listed : v.listed ≡ t.listed
  whole : v.whole ≡ t.whole
  raised : (v.raised ≡ t.raised) ⊎ (t.raised ≡ None)
  settled : v.settled ≡ t.settled
  same : (v ≡ t) ⊎ (t.settled ≡ false)
  safe : up.safe ≡ w.safe
  root : up.root ≡ w.root

data Own (f : Formats) (w : World) (who : ℕ) (t : Ticket) (i : Image) (step : Step) (reply : Reply) (up : World) : Type 0 where
  OnPlain : batch_gone step reply ≡ [] → KeptOn w who t up → i.blobs ≡ w.blobs → Own f w who t i step reply up
  OnCommit : KeptOn w who t up → t.settled ≡ false → (name : BlobName) (bytes : Bytes) → i.blobs ≡ fin.insert w.blobs (f.names.text name) bytes → ReadsBack f.names name
      → IsUnlisted t ⊎ ((n : ℕ) × (name ≡ Root n) × (t.raised ≡ Some n)) → Own f w who t i step reply up
  OnLatest : KeptOn w who t up → t.settled ≡ false → (bytes : Bytes) → i.blobs ≡ fin.insert w.blobs (f.names.text Latest) bytes → ReadsBack f.names Latest → Own f w who t i step reply up
  OnPage : (page : List BlobSize) → fin.get up.tickets who ≡ Some (listing t page) → t.settled ≡ false → IsPageOf w.blobs (last_text t.listed) page → i.blobs ≡ w.blobs → Own f w who t i step reply up
  OnSettle : (s : SettlesDeletion f w who) → s.t.term ≡ w.term → (batch_gone step reply ≡ []) → up ≡ delete_settled f w who (fin.get w.tickets who) → i.blobs ≡ w.blobs → Own f w who t i step reply up
  OnRemoval : (names : List BlobName) → step ≡ PruneStep (RemoveDoomed names) → up ≡ w → t.settled ≡ true → Removes f w.blobs i.blobs names
      → (reply ≡ WasRemoved → (name : BlobName) → Has names name → fin.get i.blobs (f.names.text name) ≡ None) → Own f w who t i step reply up
  OnOver : (v : Ticket) → fin.get up.tickets who ≡ Some v → v.out ≡ false → Own f w who t i step reply up
  OnDepose : up.deposed ≡ true → Own f w who t i step reply up

module _ (f : Formats) (size : ℕ) (w : World) (i : Image) where
  -- a cleanup's ticket
  record Cleans (who : ℕ) : Type 0 where
    shelf : List Shelved
    law : Law f w shelf
    t : Ticket
    live : IsLive w who t
    clean : t.clean ≡ true
    uuids : List ℕ
    plan : Option Swap
    work : t.work ≡ Deleting uuids plan

  told_at : (image : Option Image) → image ≡ Some i → (P : Blobs → Type 0) → Told image P → P i.blobs
  told_at image told P h = subst (λ x. Told x P) told h

  module _ (who : ℕ) (c : Cleans who) where
    -- it is this ticket
    same_out : (u : Ticket) → IsOut w who u → u ≡ c.t
    same_out u out = same_Some u c.t (sym out.there ∙ c.live.there)

    no_shard : IsShard c.t.work → ⊥
    no_shard h = subst IsShard c.work h

    no_final : (u : Ticket) → IsOut w who u → (info : SnapInfo) (results : List ShardResult) (made : Command) → u.work ≡ Finalize info results made → ⊥
    no_final u out info results made is = clash (sym is ∙ ap (λ (x : Ticket). x.work) (same_out u out) ∙ c.work)
      where
        clash : Finalize info results made ≡ Deleting c.uuids c.plan → ⊥
        clash e = cc

    -- the world as it was
    kept : KeptOn w who c.t w
    kept = record { v = c.t; at = c.live.there; listed = refl; whole = refl; raised = inl refl; settled = refl; same = inl refl; safe = refl; root = refl }

    -- its ticket given anew before its settle
    kept_by : (g : Ticket → Ticket) → c.t.settled ≡ false → (g c.t).listed ≡ c.t.listed → (g c.t).whole ≡ c.t.whole → ((g c.t).raised ≡ c.t.raised) ⊎ (c.t.raised ≡ None) → (g c.t).settled ≡ c.t.settled
        → (o : Option Ticket) → o ≡ Some c.t → KeptOn w who c.t (with_given w who g o)
    kept_by g uns listed whole raised settled None is = absurd (none-some c.t is)
    kept_by g uns listed whole raised settled (Some u) is =
        subst (λ (x : Ticket). KeptOn w who c.t (with_given w who g (Some x))) (sym (same_Some u c.t is))
        (record { v = g c.t; at = same_in w.tickets who (g c.t); listed = listed; whole = whole; raised = raised; settled = settled; same = inr uns; safe = refl; root = refl })

    kept_with : (up : World) → KeptOn w who c.t up → (next pending : ℕ) → KeptOn w who c.t (record up { next_id = next; pending = pending })
    kept_with up h next pending = record { v = h.v; at = h.at; listed = h.listed; whole = h.whole; raised = h.raised; settled = h.settled; same = h.same; safe = h.safe; root = h.root }

    tried_kept : c.t.settled ≡ false → KeptOn w who c.t (tried w who)
    tried_kept uns = kept_by (λ (x : Ticket). record x { tried_latest = true }) uns refl refl (inl refl) refl (fin.get w.tickets who) c.live.there

    own_settled : (u : Ticket) → IsOut w who u → u.settled ≡ false → c.t.settled ≡ false
    own_settled u out uns = ap (λ (x : Ticket). x.settled) (sym (same_out u out)) ∙ uns

    -- what a commit's name is
    root_of : (name : BlobName) (p : allowed.Commits f size w who name) → IsUnlisted c.t ⊎ ((n : ℕ) × (name ≡ Root n) × (c.t.raised ≡ Some n))
    root_of name p = elim (p.late (ap (λ (x : Ticket). x.clean) (same_out p.t p.out) ∙ c.clean)) [
      | inl none ↦ inl (subst IsUnlisted (same_out p.t p.out) none)
      | inr root ↦ inr (root.0, root.1, raised_by root.0 root.1 p.may)
    ]
      where
        of_root : (n m : ℕ) → Root n ≡ Root m → n ≡ m
        of_root n m e = cc

        raised_by : (n : ℕ) → name ≡ Root n → MayCommit f p.t name p.bytes → c.t.raised ≡ Some n
        raised_by n is (inl (s, sw, inl own)) = absurd (((c.law.lawful.sound.rooted.tickets who p.t p.out.there).shape s sw).no_root n p.bytes (subst (λ (x : BlobName). Has s.own (x, p.bytes)) is own))
        raised_by n is (inl (s, sw, inr (m, root, new))) = ap (λ (x : Ticket). x.raised) (sym (same_out p.t p.out)) ∙ new.raised ∙ ap (λ (x : ℕ). Some x) (of_root m n (sym root ∙ is))
        raised_by n is (inr (none, commits, shard)) = absurd (no_shard (subst (λ (x : Ticket). IsShard x.work) (same_out p.t p.out) shard))

    either_kept : (a b : World) (first : Bool) → KeptOn w who c.t a → KeptOn w who c.t b → KeptOn w who c.t (if first then a else b)
    either_kept a b true p q = p
    either_kept a b false p q = q

  deleting_step : (who : ℕ) (e : Cleans who) (prune : Prune) (reply : Reply) (image : Option Image) → image ≡ Some i → PruneAllows f w who prune reply image
      → Own f w who e.t i (PruneStep prune) reply (answered f w who (PruneStep prune) reply image)
  deleting_step who e prune reply image told (allowed.FetchingShard k name im g found) =
      OnPlain refl (kept_by who e (fetching name (told_blob f im name)) (own_settled who e g.t g.deleting.out g.unsettled) (read_listed (told_blob f im name))
      (read_whole (told_blob f im name)) (inl (read_raised (told_blob f im name))) (read_settled (told_blob f im name)) (fin.get w.tickets who) e.live.there)
      (told_at im told (λ blobs. (bytes : Bytes) × (fin.get w.blobs (f.names.text name) ≡ Some bytes) × (blobs ≡ w.blobs)) found).2
    where
      read_listed : (b : Option Bytes) → (fetching name b e.t).listed ≡ e.t.listed
      read_listed None = refl
      read_listed (Some b) = refl

      read_whole : (b : Option Bytes) → (fetching name b e.t).whole ≡ e.t.whole
      read_whole None = refl
      read_whole (Some b) = refl

      read_raised : (b : Option Bytes) → (fetching name b e.t).raised ≡ e.t.raised
      read_raised None = refl
      read_raised (Some b) = refl

      read_settled : (b : Option Bytes) → (fetching name b e.t).settled ≡ e.t.settled
      read_settled None = refl
      read_settled (Some b) = refl
  deleting_step who e prune reply image told (allowed.ShardMissing k name im g gone) = OnPlain refl (kept who e) (told_at im told (λ blobs. (fin.get w.blobs (f.names.text name) ≡ None) × (blobs ≡ w.blobs)) gone).1
  deleting_step who e prune reply image told (allowed.FetchShardFails k name im g same) = OnPlain refl (kept who e) (told_at im told (λ blobs. blobs ≡ w.blobs) same)
  deleting_step who e prune reply image told (allowed.Planning k shards im p fits back same) =
      OnPlain refl (kept_with who e _ (kept_by who e (planned f shards w.next_id) (own_settled who e p.t p.deleting.out p.unsettled) refl refl (inl refl) refl (fin.get w.tickets who) e.live.there) _ _)
      (told_at im told (λ blobs. blobs ≡ w.blobs) same)
  deleting_step who e prune reply image told (allowed.PlanSpent k shards im p spent same) = OnPlain refl (kept who e) (told_at im told (λ blobs. blobs ≡ w.blobs) same)
  deleting_step who e prune reply image told (allowed.SettlingDelete k im s present same) = OnSettle s present refl refl (told_at im told (λ blobs. blobs ≡ w.blobs) same)
  deleting_step who e prune reply image told (allowed.SettleDeleteStale k im s apart same) = OnPlain refl (kept who e) (told_at im told (λ blobs. blobs ≡ w.blobs) same)
  deleting_step who e prune reply image told (allowed.SettleDeleteFails k im s present same) = OnDepose refl
  deleting_step who e prune reply image told (allowed.RemovingDoomed k names im r removed) =
      let h = told_at im told (λ blobs. Removes f w.blobs blobs names × ((name : BlobName) → Has names name → fin.get blobs (f.names.text name) ≡ None)) removed in
      OnRemoval names refl refl (ap (λ (x : Ticket). x.settled) (sym (same_out who e r.t r.deleting.out)) ∙ r.settled) h.0 (λ is. h.1)
  deleting_step who e prune reply image told (allowed.RemoveDoomedFails k names im r removes) =
      OnRemoval names refl refl (ap (λ (x : Ticket). x.settled) (sym (same_out who e r.t r.deleting.out)) ∙ r.settled) (told_at im told (λ blobs. Removes f w.blobs blobs names) removes) (λ is. absurd (not_removed is))
    where
      not_removed : Refused DepotFault ≡ WasRemoved → ⊥
      not_removed e = cc
  deleting_step who e prune reply image told (allowed.EndingDelete k im d same) = absurd (true≢false (sym e.clean ∙ ap (λ (x : Ticket). x.clean) (sym (same_out who e d.t d.deleting.out)) ∙ d.deletes))
  deleting_step who e prune reply image told (allowed.FailingDelete k why im c same) = failed_over (fin.get w.tickets who) e.live.there
    where
      by_op : (o : Option Deletion) → (x : Ticket) × (fin.get (delete_failed_by w who e.t o).tickets who ≡ Some x) × ((x.out ≡ false) ⊎ ((o ≡ None) × (x ≡ e.t)))
      by_op None = (e.t, e.live.there, inr (refl, refl))
      by_op (Some x) = (record e.t { out = false }, same_in w.tickets who (record e.t { out = false }), inl refl)

      unchanged : (o : Option Deletion) → o ≡ None → KeptOn w who e.t (delete_failed_by w who e.t o)
      unchanged None is = kept who e
      unchanged (Some x) is = absurd (none-some x (sym is))

      failed_over : (o : Option Ticket) → o ≡ Some e.t → Own f w who e.t i (PruneStep (DeleteFails why)) HasEnded (delete_failed w who o)
      failed_over None is = absurd (none-some e.t is)
      failed_over (Some u) is = subst (λ (x : Ticket). Own f w who e.t i (PruneStep (DeleteFails why)) HasEnded (delete_failed w who (Some x))) (sym (same_Some u e.t is)) (by_stale (is_stale w e.t e.t.work))
        where
          by_stale : (b : Bool) → Own f w who e.t i (PruneStep (DeleteFails why)) HasEnded (if b then with_ticket w who (record e.t { out = false }) else delete_failed_by w who e.t (fin.get w.deletes e.t.op))
          by_stale true = OnOver (record e.t { out = false }) (same_in w.tickets who (record e.t { out = false })) refl
          by_stale false =
              let h = by_op (fin.get w.deletes e.t.op) in
              elim h.2 [ inl over ↦ OnOver h.0 h.1 over | inr none ↦ OnPlain refl (unchanged (fin.get w.deletes e.t.op) none.0) (told_at im told (λ blobs. blobs ≡ w.blobs) same) ]

  own_step : (who : ℕ) (e : Cleans who) (step : Step) (reply : Reply) (image : Option Image) → image ≡ Some i → IsUnits step → Allows f size w who step reply image → Own f w who e.t i step reply (answered f w who step reply image)
  own_step who e (PruneStep prune) reply image told unit (allowed.Pruning k p rep im h) = deleting_step who e p rep im told h
  own_step who e (DrawStep n) reply image told unit (allowed.Drawing k m first im d same) = absurd (no_shard who e (subst (λ (x : Ticket). IsShard x.work) (same_out who e d.may.t d.may.out) d.may.shard))
  own_step who e (DrawStep n) reply image told unit (allowed.DrawSpent k m im d spent same) = OnPlain refl (kept who e) (told_at im told (λ blobs. blobs ≡ w.blobs) same)
  own_step who e (BeginStep name) reply image told unit (allowed.Beginning k n im c same) = OnPlain refl (kept who e) (told_at im told (λ blobs. blobs ≡ w.blobs) same)
  own_step who e (BeginStep name) reply image told unit (allowed.BeginningLatest k im c same) = OnPlain refl (kept who e) (told_at im told (λ blobs. blobs ≡ w.blobs) same)
  own_step who e (BeginStep name) reply image told unit (allowed.BeginFails k n im c same) =
      OnPlain refl (either_kept who e (tried w who) w (is_latest n) (tried_kept who e (own_settled who e c.t c.out c.unsettled)) (kept who e)) (told_at im told (λ blobs. blobs ≡ w.blobs) same)
  own_step who e (BeginStep name) reply image told unit (allowed.BeginLatestFails k im c same) = OnPlain refl (tried_kept who e (own_settled who e c.t c.out c.unsettled)) (told_at im told (λ blobs. blobs ≡ w.blobs) same)
  own_step who e (CommitStep name) reply image told unit (allowed.Committing k n im c adds) =
      OnCommit (kept_by who e (committing n (told_blob f im n)) (own_settled who e c.t c.out c.unsettled) (put_listed (told_blob f im n))
      (put_whole (told_blob f im n)) (inl (put_raised (told_blob f im n))) (put_settled (told_blob f im n)) (fin.get w.tickets who) e.live.there)
      (own_settled who e c.t c.out c.unsettled) n c.bytes (told_at im told (Adds f w n c.bytes) adds).1 c.named.0 (root_of who e n c)
    where
      put_listed : (b : Option Bytes) → (committing n b e.t).listed ≡ e.t.listed
      put_listed None = refl
      put_listed (Some b) = refl

      put_whole : (b : Option Bytes) → (committing n b e.t).whole ≡ e.t.whole
      put_whole None = refl
      put_whole (Some b) = refl

      put_raised : (b : Option Bytes) → (committing n b e.t).raised ≡ e.t.raised
      put_raised None = refl
      put_raised (Some b) = refl

      put_settled : (b : Option Bytes) → (committing n b e.t).settled ≡ e.t.settled
      put_settled None = refl
      put_settled (Some b) = refl
  own_step who e (CommitStep name) reply image told unit (allowed.Finding k n im c found) = absurd (no_final who e c.t c.out c.info c.results c.made c.work)
  own_step who e (CommitStep name) reply image told unit (allowed.Taken k n im c aside found) = OnPlain refl (kept who e) (told_at im told (λ blobs. Present f w.blobs n × (blobs ≡ w.blobs)) found).1
  own_step who e (CommitStep name) reply image told unit (allowed.CommitFails k n im c leaves) = elim (told_at im told (λ blobs. (blobs ≡ w.blobs) ⊎ Adds f w n c.bytes blobs) leaves) [
    | inl same ↦ OnPlain refl (kept who e) same
    | inr adds ↦ OnCommit (kept who e) (own_settled who e c.t c.out c.unsettled) n c.bytes adds.1 c.named.0 (root_of who e n c)
  ]
  own_step who e LatestStep reply image told unit (allowed.Replacing k im p named put) =
      OnLatest (tried_kept who e (own_settled who e p.t p.out p.unsettled)) (own_settled who e p.t p.out p.unsettled) (allowed.latest_text p.n)
      (told_at im told (λ blobs. blobs ≡ fin.insert w.blobs (f.names.text Latest) (allowed.latest_text p.n)) put) named
  own_step who e LatestStep reply image told unit (allowed.ReplaceFails k im p named puts) = elim (told_at im told (λ blobs. (blobs ≡ w.blobs) ⊎ (blobs ≡ fin.insert w.blobs (f.names.text Latest) (allowed.latest_text p.n))) puts) [
    | inl same ↦ OnPlain refl (tried_kept who e (own_settled who e p.t p.out p.unsettled)) same
    | inr put ↦ OnLatest (tried_kept who e (own_settled who e p.t p.out p.unsettled)) (own_settled who e p.t p.out p.unsettled) (allowed.latest_text p.n) put named
  ]
  own_step who e (FetchStep name) reply image told unit (allowed.Fetching k n im g found) = absurd (no_shard who e (subst IsShard (sym (ap (λ (x : Ticket). x.work) (sym (same_out who e g.t g.out)) ∙ g.to_fetch.2)) tt))
  own_step who e (FetchStep name) reply image told unit (allowed.Missing k n im g gone) = OnPlain refl (kept who e) (told_at im told (λ blobs. (fin.get w.blobs (f.names.text n) ≡ None) × (blobs ≡ w.blobs)) gone).1
  own_step who e (FetchStep name) reply image told unit (allowed.FetchFails k n im g same) = OnPlain refl (kept who e) (told_at im told (λ blobs. blobs ≡ w.blobs) same)
  own_step who e (ListStep from) reply image told unit (allowed.Listing k after page im g shape here) =
      let h = told_at im told (λ blobs. IsPageOf w.blobs after page × (blobs ≡ w.blobs)) here in
      let mine : g.t ≡ e.t = same_out who e g.t g.out in
      OnPage page (paged page (fin.get w.tickets who) e.live.there) (own_settled who e g.t g.out g.unsettled) (subst (λ (x : Option Bytes). IsPageOf w.blobs x page) (g.from_is ∙ ap (λ (x : Ticket). last_text x.listed) mine) h.0) h.1
    where
      paged : (page : List BlobSize) (o : Option Ticket) → o ≡ Some e.t → fin.get (with_given w who (λ (x : Ticket). listing x page) o).tickets who ≡ Some (listing e.t page)
      paged page None is = absurd (none-some e.t is)
      paged page (Some u) is = same_in w.tickets who (listing u page) ∙ ap (λ (x : Ticket). Some (listing x page)) (same_Some u e.t is)
  own_step who e (ListStep from) reply image told unit (allowed.ListFails k after im g same) = OnPlain refl (kept who e) (told_at im told (λ blobs. blobs ≡ w.blobs) same)
  own_step who e RaiseStep reply image told unit (allowed.Raising k n im r same) =
      OnPlain refl (kept_with who e _ (kept_by who e (λ (x : Ticket). record x { raised = Some w.pending }) (own_settled who e r.may.t r.may.out r.may.unsettled) refl refl
      (inr (ap (λ (x : Ticket). x.raised) (sym (same_out who e r.may.t r.may.out)) ∙ r.may.once)) refl (fin.get w.tickets who) e.live.there) _ _)
      (told_at im told (λ blobs. blobs ≡ w.blobs) same)
  own_step who e RaiseStep reply image told unit (allowed.RaiseStale k im r apart same) = OnPlain refl (kept who e) (told_at im told (λ blobs. blobs ≡ w.blobs) same)
  own_step who e RaiseStep reply image told unit (allowed.RaiseSpent k im r present spent same) = OnPlain refl (kept who e) (told_at im told (λ blobs. blobs ≡ w.blobs) same)
  own_step who e RaiseStep reply image told unit (allowed.RaiseFails k im r same) = OnDepose refl
  own_step who e SettleStep reply image told unit (allowed.Settling k im s same) = absurd (no_final who e s.t s.may.out s.info s.results s.made s.work)
  own_step who e SettleStep reply image told unit (allowed.SettleStale k n u s im may apart same) = OnPlain refl (kept who e) (told_at im told (λ blobs. blobs ≡ w.blobs) same)
  own_step who e SettleStep reply image told unit (allowed.SettleFails k im s same) = absurd (no_final who e s.t s.may.out s.info s.results s.made s.work)
  own_step who e (DoneStep result) reply image told unit (allowed.Doing k r im d same) = absurd (no_shard who e (subst IsShard (sym (ap (λ (x : Ticket). x.work) (sym (same_out who e d.t d.out)) ∙ d.is)) tt))
  own_step who e (FailedStep why) reply image told unit (allowed.Failing k y im c same) =
      let mine : c.t ≡ e.t = same_out who e c.t c.out in
      let uns : e.t.settled ≡ false = own_settled who e c.t c.out c.unsettled in
      let law = e.law.lawful.queue.deleting who e.t e.live.there e.live.out uns e.live.present e.uuids e.plan e.work in
      absurd (e.law.lawful.queue.apart e.t.op c.op law.deletion (ap (λ (x : Ticket). fin.get w.ops x.op) (sym mine) ∙ c.op_there (inr (ap (λ (x : Ticket). x.term) mine ∙ e.live.present))) law.there)
  own_step who e FinishStep reply image told unit (allowed.Finishing k im c same) = absurd (finish c.t c.out c.done)
    where
      finish : (u : Ticket) (out : IsOut w who u) → ((u.settled ≡ true) × ((us : List ℕ) (p : Option Swap) → u.work ≡ Deleting us p → ⊥)) ⊎ IsStale w who u → ⊥
      finish u out (inl (done, none)) = absurd (none e.uuids e.plan (ap (λ (x : Ticket). x.work) (same_out who e u out) ∙ e.work))
      finish u out (inr (stale, was)) = absurd (stale (ap (λ (x : Ticket). x.term) (same_out who e u out) ∙ e.live.present))
  own_step who e DroppedStep reply image told unit (allowed.Dropping k im d same) = dropped (fin.get w.tickets who) e.live.there
    where
      dropped : (o : Option Ticket) → o ≡ Some e.t → Own f w who e.t i DroppedStep HasEnded (dropped_of w who o)
      dropped None is = absurd (none-some e.t is)
      dropped (Some u) is = OnOver (record u { out = false }) (same_in w.tickets who (record u { out = false })) refl
  own_step who e DroppedStep reply image told unit (allowed.DropStale k im may apart same) = OnPlain refl (kept who e) (told_at im told (λ blobs. blobs ≡ w.blobs) same)
  own_step who e DroppedStep reply image told unit (allowed.DropFails k im d same) = OnDepose refl
  own_step who e step reply image told unit a = absurd unit

-- ---- what was listed

-- a text that the ticket has listed, or will list; or that it wrote after its listing began
abbrev IsCovered : Formats → Ticket → Bytes → Type 0
IsCovered f t text = IsListed t.listed text
    ⊎ (((t.whole ≡ false) × IsAfter (last_text t.listed) text) ⊎ (((text ≡ f.names.text Latest) × ReadsBack f.names Latest) ⊎ ((n : ℕ) × (t.raised ≡ Some n) × (text ≡ f.names.text (Root n)) × ReadsBack f.names (Root n))))

last_append : (xs : List BlobSize) (b : BlobSize) (rest : List BlobSize) → last_text (xs ++ b ∷ rest) ≡ last_text (b ∷ rest)
last_append (x ∷ y ∷ xs) b rest = last_append (y ∷ xs) b rest
last_append xs b rest = refl

-- a page that doesn't end the listing has a last name
last_page : (xs page : List BlobSize) → is_short page ≡ false → last_text (xs ++ page) ≡ last_text page
last_page xs [] long = absurd (true≢false long)
last_page xs (b ∷ rest) long = last_append xs b rest

covered_page : (f : Formats) (blobs : Blobs) (t : Ticket) (page : List BlobSize) → IsPageOf blobs (last_text t.listed) page → (text bytes : Bytes) → fin.get blobs text ≡ Some bytes → IsCovered f t text → IsCovered f (listing t page) text
covered_page f blobs t page h text bytes there (inl (b, listed, is)) = inl (b, Has-left t.listed page b listed, is)
covered_page f blobs t page h text bytes there (inr (inl (unended, behind))) = elim (h.all text bytes there behind) [
  | inl now ↦ inl (now.0, Has-right t.listed page now.0 now.1, now.2)
  | inr later ↦ inr (inl (later.0, subst (λ (o : Option Bytes). IsAfter o text) (sym (last_page t.listed page later.0)) later.1))
]
covered_page f blobs t page h text bytes there (inr (inr own)) = inr (inr own)

-- a ticket that has listed nothing will list all
covered_none : (f : Formats) (t : Ticket) → IsUnlisted t → (text : Bytes) → IsCovered f t text
covered_none f t none text = inr (inl (none.whole, subst (λ (xs : List BlobSize). IsAfter (last_text xs) text) (sym none.listed) tt))

covered_kept : (f : Formats) (t v : Ticket) → v.listed ≡ t.listed → v.whole ≡ t.whole → (v.raised ≡ t.raised) ⊎ (t.raised ≡ None) → (text : Bytes) → IsCovered f t text → IsCovered f v text
covered_kept f t v listed whole raised text (inl h) = inl (subst (λ (xs : List BlobSize). IsListed xs text) (sym listed) h)
covered_kept f t v listed whole raised text (inr (inl h)) = inr (inl (whole ∙ h.0, subst (λ (xs : List BlobSize). IsAfter (last_text xs) text) (sym listed) h.1))
covered_kept f t v listed whole raised text (inr (inr (inl h))) = inr (inr (inl h))
covered_kept f t v listed whole (inl same) text (inr (inr (inr (n, is, at, back)))) = inr (inr (inr (n, same ∙ is, at, back)))
covered_kept f t v listed whole (inr none) text (inr (inr (inr (n, is, at, back)))) = absurd (none-some n (sym none ∙ is))

-- ---- what is left of it

-- the removals of the ticket that were answered Ok came after its settle
abbrev IsGone : Step → Reply → Type 0
IsGone step reply = (names : List BlobName) × (step ≡ PruneStep (RemoveDoomed names)) × (reply ≡ WasRemoved)

gone_is : (step : Step) (reply : Reply) (name : BlobName) → Has (batch_gone step reply) name → IsGone step reply
gone_is (PruneStep (RemoveDoomed names)) WasRemoved name m = (names, refl, refl)
gone_is step reply name m = absurd m

abbrev RemovedLate : World → ℕ → Type 0
RemovedLate w k = (e : Entry) → Has (entries_by w.entries k) e → IsGone e.step e.reply → (t : Ticket) × (fin.get w.tickets k ≡ Some t) × (t.settled ≡ true)

-- the new root reaches the name, or it is doomed and not removed so far
abbrev IsLeft : Formats → World → ℕ → Ticket → Swap → Bytes → Type 0
IsLeft f w k t s text =
    (name : BlobName) × (f.names.text name ≡ text) × ReadsBack f.names name × ((reaches f t.raised s.root (s.own ++ t.read) name ≡ true) ⊎ (Has (dooms f t) name × (Has (gone_names (entries_by w.entries k)) name → ⊥)))

-- the indices of the root's shards list its snapshots alone
abbrev IsListedAlone : Formats → Blobs → RootData → Type 0
IsListedAlone f blobs root = (i j g : ℕ) → Generation root i j g → (h : ShardFiles) → Reads (At f blobs) (ShardIndex i j g) f.shard_index h → (x : SnapList) → Has h.snapshots x
    → (z : RootSnap) × Has root.snapshots z × (z.uuid ≡ x.uuid)

record HasSettled (f : Formats) (w : World) (k : ℕ) (t : Ticket) : Type 0 where
  settled : t.settled ≡ true
  uuids : List ℕ
  s : Swap
  work : t.work ≡ Deleting uuids (Some s)
  n : ℕ
  raised : t.raised ≡ Some n
  safe : w.safe ≡ suc n
  root : w.root ≡ s.root
  held : IsHeldNow f (At f w.blobs) s.root (s.own ++ t.read)
  lists : IsListedAlone f w.blobs s.root
  left : (text bytes : Bytes) → fin.get w.blobs text ≡ Some bytes → IsLeft f w k t s text

data Stage (f : Formats) (w : World) (k : ℕ) (t : Ticket) : Type 0 where
  IsListing : t.settled ≡ false → ((text bytes : Bytes) → fin.get w.blobs text ≡ Some bytes → IsCovered f t text) → Stage f w k t
  IsRemoving : HasSettled f w k t → Stage f w k t

-- the blobs of each shard index that the root has are as they were, where no text is new
held_on : (f : Formats) (w new : World) (shelf : List Shelved) → Law f new shelf → (root : RootData) (read : List (BlobName × Bytes)) → new.root ≡ root
    → ((text bytes : Bytes) → fin.get new.blobs text ≡ Some bytes → fin.get w.blobs text ≡ Some bytes) → IsHeldNow f (At f w.blobs) root read → IsHeldNow f (At f new.blobs) root read
held_on f w new shelf l root read same back held i k g gen =
    let (was, found, reads) = held i k g gen in
    let there = (l.lawful.sound.carried.carries i k g (inl (subst (λ (r : RootData). Generation r i k g) (sym same) gen))).stands.held_reads in
    let one : there.bytes ≡ reads.bytes = same_Some there.bytes reads.bytes (sym (back (f.names.text (ShardIndex i k g)) there.bytes there.there.0.0) ∙ reads.there.0) in
    (was, found, record { bytes = reads.bytes; there = (there.there.0.0 ∙ ap (λ (b : Bytes). Some b) one, there.there.0.1); reads = reads.reads })

-- a step that adds no text and leaves the ticket keeps what is left
settled_on : (f : Formats) (w new : World) (shelf : List Shelved) → Law f new shelf → (k : ℕ) (t : Ticket) → HasSettled f w k t → new.safe ≡ w.safe → new.root ≡ w.root
    → ((text bytes : Bytes) → fin.get new.blobs text ≡ Some bytes → fin.get w.blobs text ≡ Some bytes)
    → ((text bytes : Bytes) (name : BlobName) → fin.get new.blobs text ≡ Some bytes → f.names.text name ≡ text → Has (gone_names (entries_by new.entries k)) name → Has (gone_names (entries_by w.entries k)) name) → HasSettled f new k t
settled_on f w new shelf l k t h safe root back gone =
    record {
      settled = h.settled;
      uuids = h.uuids;
      s = h.s;
      work = h.work;
      n = h.n;
      raised = h.raised;
      safe = safe ∙ h.safe;
      root = root ∙ h.root;
      held = held_on f w new shelf l h.s.root (h.s.own ++ t.read) (root ∙ h.root) back h.held;
      lists = λ i j g gen x reads y m. h.lists i j g gen x (record { bytes = reads.bytes; there = (back (f.names.text (ShardIndex i j g)) reads.bytes reads.there.0, reads.there.1); reads = reads.reads }) y m;
      left = λ text bytes there. let named = h.left text bytes (back text bytes there) in (named.0, named.1, named.2, still text bytes named.0 there named.1 named.3);
    }
  where
    still : (text bytes : Bytes) (name : BlobName) → fin.get new.blobs text ≡ Some bytes → f.names.text name ≡ text
        → (reaches f t.raised h.s.root (h.s.own ++ t.read) name ≡ true) ⊎ (Has (dooms f t) name × (Has (gone_names (entries_by w.entries k)) name → ⊥))
        → (reaches f t.raised h.s.root (h.s.own ++ t.read) name ≡ true) ⊎ (Has (dooms f t) name × (Has (gone_names (entries_by new.entries k)) name → ⊥))
    still text bytes name there is (inl reached) = inl reached
    still text bytes name there is (inr (doomed, none)) = inr (doomed, λ g. none (gone text bytes name there is g))

-- ---- the settle

-- what a ticket that has settled makes of what it listed
settles : (f : Formats) (w new : World) (shelf : List Shelved) → Law f w shelf → (k : ℕ) (s : SettlesDeletion f w k) (t : Ticket) → s.t ≡ t → s.t.term ≡ w.term → t.clean ≡ true → RemovedLate w k
    → ((text bytes : Bytes) → fin.get w.blobs text ≡ Some bytes → IsCovered f t text)
    → new.safe ≡ suc s.n → new.root ≡ s.s.root → new.blobs ≡ w.blobs → ((name : BlobName) → Has (gone_names (entries_by new.entries k)) name → Has (gone_names (entries_by w.entries k)) name)
    → HasSettled f new k (record t { settled = true })
settles f w new shelf l k s t mine present clean late covered safe root same_blobs same_gone =
    record {
      settled = refl;
      uuids = s.uuids;
      s = s.s;
      work = ap (λ (x : Ticket). x.work) (sym mine) ∙ s.deleting.work;
      n = s.n;
      raised = raised;
      safe = safe;
      root = root;
      held = subst (λ (b : Blobs). IsHeldNow f (At f b) s.s.root (s.s.own ++ t.read)) (sym same_blobs) held;
      lists = subst (λ (b : Blobs). IsListedAlone f b s.s.root) (sym same_blobs) lists;
      left = λ text bytes there. left text bytes (ap (λ (b : Blobs). fin.get b text) (sym same_blobs) ∙ there);
    }
  where
    raised : t.raised ≡ Some s.n
    raised = ap (λ (x : Ticket). x.raised) (sym mine) ∙ s.may.raised

    its_clean : s.t.clean ≡ true
    its_clean = ap (λ (x : Ticket). x.clean) mine ∙ clean

    held : IsHeldNow f (At f w.blobs) s.s.root (s.s.own ++ t.read)
    held = subst (λ (x : Ticket). IsHeldNow f (At f w.blobs) s.s.root (s.s.own ++ x.read)) mine (at_of (held_now f w shelf l k s present its_clean))
      where
        at_of : IsHeldNow f (HeldIn f w) s.s.root (s.s.own ++ s.t.read) → IsHeldNow f (At f w.blobs) s.s.root (s.s.own ++ s.t.read)
        at_of h i j g gen = let (was, found, reads) = h i j g gen in (was, found, record { bytes = reads.bytes; there = reads.there.0; reads = reads.reads })

    lists : IsListedAlone f w.blobs s.s.root
    lists i j g gen h reads x m =
        let (was, found, held_reads) = held_now f w shelf l k s present its_clean i j g gen in
        let at : Reads (At f w.blobs) (ShardIndex i j g) f.shard_index was = record { bytes = held_reads.bytes; there = held_reads.there.0; reads = held_reads.reads } in
        let one : h ≡ was = reads_one (At f w.blobs) (at_one f w.blobs) (ShardIndex i j g) f.shard_index h was reads at in
        lists_now f w shelf l k s present its_clean i j g gen was held_reads x (subst (λ (y : ShardFiles). Has y.snapshots x) one m)

    -- nothing was removed so far
    none_gone : (name : BlobName) → Has (gone_names (entries_by new.entries k)) name → ⊥
    none_gone name h = walk (entries_by w.entries k) (λ e m. m) (same_gone name h)
      where
        batch : (e : Entry) → Has (entries_by w.entries k) e → Has (batch_gone e.step e.reply) name → ⊥
        batch e there m = let (u, at, done) = late e there (gone_is e.step e.reply name m) in true≢false (sym done ∙ ap (λ (x : Ticket). x.settled) (same_Some u s.t (sym at ∙ s.may.out.there)) ∙ s.may.unsettled)

        walk : (entries : List Entry) → ((e : Entry) → Has entries e → Has (entries_by w.entries k) e) → Has (gone_names entries) name → ⊥
        walk [] all m = absurd m
        walk (e ∷ entries) all m = elim (Has-either (batch_gone e.step e.reply) (gone_names entries) name m) [ inl own ↦ batch e (all e (inl refl)) own | inr later ↦ walk entries (λ x h. all x (inr h)) later ]

    left : (text bytes : Bytes) → fin.get w.blobs text ≡ Some bytes → IsLeft f new k (record t { settled = true }) s.s text
    left text bytes there = by (covered text bytes there)
      where
        by : IsCovered f t text → IsLeft f new k (record t { settled = true }) s.s text
        by (inl (b, listed, is)) =
            let (name, text_is, reads) = l.lawful.sound.rooted.kept.named text bytes there in (
              name,
              text_is,
              reads,
              elim (cases_Bool (reaches f t.raised s.s.root (s.s.own ++ t.read) name)) [
                | inl reached ↦ inl reached
                | inr not ↦ inr (
                  subst (λ (ns : List BlobName). Has ns name) (sym (cleans_is f (record t { settled = true }) s.uuids s.s (ap (λ (x : Ticket). x.work) (sym mine) ∙ s.deleting.work) clean))
                      (cleaned_has f t.raised s.s.root (s.s.own ++ t.read) t.listed name (listed_has f t.listed b name listed (ap f.names.read (is ∙ sym text_is) ∙ reads)) not),
                  none_gone name,
                )
              ],
            )
        by (inr (inl (unended, behind))) = absurd (true≢false (sym (s.listed its_clean) ∙ ap (λ (x : Ticket). x.whole) mine ∙ unended))
        by (inr (inr (inl (is, back)))) = (Latest, sym is, back, inl refl)
        by (inr (inr (inr (n, is, at, back)))) = (Root n, sym at, back, inl (ap (λ (o : Option ℕ). reaches f o s.s.root (s.s.own ++ t.read) (Root n)) is ∙ same_number n))

-- ---- entries

-- what is gone after a step was so before, or is of this step
gone_or : (f : Formats) (w : World) (m : Moment) (k : ℕ) (name : BlobName) → Has (gone_names (entries_by (after f w m).entries k)) name
    → ((m.entry.who ≡ k) × Has (batch_gone m.entry.step m.entry.reply) name) ⊎ Has (gone_names (entries_by w.entries k)) name
gone_or f w m k name h = counted (is_counted m.entry.reply) h
  where
    anew : (b : Bool) → m.entry.who ≡ k → Has (gone_names (if b then [] else m.entry ∷ entries_by w.entries k)) name
        → ((m.entry.who ≡ k) × Has (batch_gone m.entry.step m.entry.reply) name) ⊎ Has (gone_names (entries_by w.entries k)) name
    anew true mine h = absurd h
    anew false mine h = elim (Has-either (batch_gone m.entry.step m.entry.reply) (gone_names (entries_by w.entries k)) name h) [ inl own ↦ inl (mine, own) | inr before ↦ inr before ]

    counted : (b : Bool) → Has (gone_names (entries_by (if b then m.entry ∷ w.entries else w.entries) k)) name → ((m.entry.who ≡ k) × Has (batch_gone m.entry.step m.entry.reply) name) ⊎ Has (gone_names (entries_by w.entries k)) name
    counted false h = inr h
    counted true h = elim (eqb_tells m.entry.who k) [
      | inl mine ↦ anew (begins_anew k m.entry.step) mine.1 (subst (λ (b : Bool). Has (gone_names (if b then (if begins_anew k m.entry.step then [] else m.entry ∷ entries_by w.entries k) else entries_by w.entries k)) name) mine.0 h)
      | inr other ↦ inr (subst (λ (b : Bool). Has (gone_names (if b then (if begins_anew k m.entry.step then [] else m.entry ∷ entries_by w.entries k) else entries_by w.entries k)) name) other.0 h)
    ]

removal_settled : {f : Formats} {size : ℕ} {w : World} {who : ℕ} {names : List BlobName} {image : Option Image} → Allows f size w who (PruneStep (RemoveDoomed names)) WasRemoved image
    → (t : Ticket) × (fin.get w.tickets who ≡ Some t) × (t.settled ≡ true)
removal_settled (allowed.Pruning k prune rep im (allowed.RemovingDoomed j names image r removed)) = (r.t, r.deleting.out.there, r.settled)

not_refused : (refusal : Refusal) → WasRemoved ≡ Refused refusal → ⊥
not_refused refusal e = cc

late_step : (f : Formats) (size : ℕ) (w : World) (m : Moment) → Step1 f size w m → (k : ℕ) → RemovedLate w k → RemovedLate (after f w m) k
late_step f size w m s k late e h gone = counted (is_counted m.entry.reply) h
  where
    before : (t : Ticket) → fin.get w.tickets k ≡ Some t → t.settled ≡ true → (v : Ticket) × (fin.get (after f w m).tickets k ≡ Some v) × (v.settled ≡ true)
    before t there settled = let v = stays f size w m s k t there in (v.0, v.1, v.2.settled settled)

    own : m.entry ≡ e → m.entry.who ≡ k → (v : Ticket) × (fin.get (after f w m).tickets k ≡ Some v) × (v.settled ≡ true)
    own is mine =
        let (names, step, reply) = gone in
        let replied : m.entry.reply ≡ WasRemoved = ap (λ (x : Entry). x.reply) is ∙ reply in
        elim s.legal.answered [
          | inl alive ↦
              let a : Allows f size w m.entry.who (PruneStep (RemoveDoomed names)) WasRemoved m.image =
              subst (λ (x : Reply). Allows f size w m.entry.who (PruneStep (RemoveDoomed names)) x m.image) replied (subst (λ (x : Step). Allows f size w m.entry.who x m.entry.reply m.image) (ap (λ (x : Entry). x.step) is ∙ step) alive.1) in
              let (t, there, settled) = removal_settled a in
              before t (ap (fin.get w.tickets) (sym mine) ∙ there) settled
          | inr dead ↦ absurd (not_refused dead.refusal (sym replied ∙ dead.refused))
        ]

    earlier : Has (entries_by w.entries k) e → (v : Ticket) × (fin.get (after f w m).tickets k ≡ Some v) × (v.settled ≡ true)
    earlier was = let (t, there, settled) = late e was gone in before t there settled

    counted : (b : Bool) → Has (entries_by (if b then m.entry ∷ w.entries else w.entries) k) e → (v : Ticket) × (fin.get (after f w m).tickets k ≡ Some v) × (v.settled ≡ true)
    counted false h = earlier h
    counted true h = elim (entry_or_before m.entry w.entries k e h) [
      | inl is ↦ own is (ap (λ (x : Entry). x.who) is ∙ (entry_among (m.entry ∷ w.entries) k e h).1)
      | inr was ↦ earlier was
    ]

-- ---- a step of another

-- the ticket settles a cleanup
abbrev SettlesAs : Formats → World → World → ℕ → Type 0
SettlesAs f w up k = (d : SettlesDeletion f w k) × (d.t.term ≡ w.term) × (up ≡ delete_settled f w k (fin.get w.tickets k))

module _ (f : Formats) (size : ℕ) (w : World) (m : Moment) (s : Step1 f size w m) (k : ℕ) (t : Ticket) (live : IsLive w k t) (clean : t.clean ≡ true) (late : RemovedLate w k) (no_test : IsTestCommit m.entry.step → ⊥) where
  new_law : Law f (after f w m) (here_after s).shelf
  new_law = (here_after s).law

  image_blobs : (image : Option Image) → image ≡ Some s.image → blobs_in image w.blobs ≡ s.image.blobs
  image_blobs image told = ap (λ (x : Option Image). blobs_in x w.blobs) told

  now_blobs : (after f w m).blobs ≡ s.image.blobs
  now_blobs = image_blobs m.image s.told

  -- nothing of the ticket has changed, and no text is new
  stage_same : fin.get (after f w m).tickets k ≡ Some t → (after f w m).safe ≡ w.safe → (after f w m).root ≡ w.root → ((text bytes : Bytes) → fin.get (after f w m).blobs text ≡ Some bytes → fin.get w.blobs text ≡ Some bytes)
      → ((text bytes : Bytes) (name : BlobName) → fin.get (after f w m).blobs text ≡ Some bytes → f.names.text name ≡ text → Has (gone_names (entries_by (after f w m).entries k)) name → Has (gone_names (entries_by w.entries k)) name)
      → Stage f w k t → Stage f (after f w m) k t
  stage_same there safe root back gone (IsListing uns covered) = IsListing uns (λ text bytes at. covered text bytes (back text bytes at))
  stage_same there safe root back gone (IsRemoving h) = IsRemoving (settled_on f w (after f w m) (here_after s).shelf new_law k t h safe root back gone)

  no_gone : batch_gone m.entry.step m.entry.reply ≡ [] → (name : BlobName) → Has (gone_names (entries_by (after f w m).entries k)) name → Has (gone_names (entries_by w.entries k)) name
  no_gone none name h = elim (gone_or f w m k name h) [ inl own ↦ absurd (subst (λ (ns : List BlobName). Has ns name) none own.1) | inr before ↦ before ]

  same_blobs_back : s.image.blobs ≡ w.blobs → (text bytes : Bytes) → fin.get (after f w m).blobs text ≡ Some bytes → fin.get w.blobs text ≡ Some bytes
  same_blobs_back same text bytes at = ap (λ (b : Blobs). fin.get b text) (sym (now_blobs ∙ same)) ∙ at

  other_step : k ≢ m.entry.who → (IsUnits m.entry.step → ⊥) → Stage f w k t → Stage f (after f w m) k t
  other_step apart no_unit stage =
      let frame = step_frame f w m in
      let roots : ((after f w m).safe ≡ w.safe) × ((after f w m).root ≡ w.root) = elim frame.root [ inl same ↦ same | inr settle ↦ absurd (no_unit (settle_unit m.entry.step settle)) ] in
      stage_same (frame.others k apart (fresh_ticket s.here k t live.there) ∙ live.there) roots.0 roots.1
      (λ text bytes at. back (blobs_change f size w m s.image s.told s.legal) text bytes (ap (λ (b : Blobs). fin.get b text) (sym now_blobs) ∙ at))
      (λ text bytes name at is h. subst (λ (es : List Entry). Has (gone_names es) name) (entries_apart w.entries m.entry k apart) h) stage
    where
      back : BlobsChange f w m.entry.step s.image.blobs → (text bytes : Bytes) → fin.get s.image.blobs text ≡ Some bytes → fin.get w.blobs text ≡ Some bytes
      back (NoBlobChange same) text bytes at = ap (λ (b : Blobs). fin.get b text) (sym same) ∙ at
      back (NewBlob name b (inl is) named absent now) text bytes at = absurd (no_unit (subst IsUnits (sym is) tt))
      back (NewBlob name b (inr is) named absent now) text bytes at = absurd (no_test (subst IsTestCommit (sym is) tt))
      back (NewLatest b is named now) text bytes at = absurd (no_unit (subst IsUnits (sym is) tt))
      back (Removal names is removes) text bytes at = removes.left text bytes at

  -- what a put leaves covered
  put_covered : (v : Ticket) → v.listed ≡ t.listed → v.whole ≡ t.whole → (v.raised ≡ t.raised) ⊎ (t.raised ≡ None) → (put bytes : Bytes) → s.image.blobs ≡ fin.insert w.blobs put bytes → IsCovered f v put
      → ((text b : Bytes) → fin.get w.blobs text ≡ Some b → IsCovered f t text) → (text b : Bytes) → fin.get (after f w m).blobs text ≡ Some b → IsCovered f v text
  put_covered v listed whole raised put bytes now own covered text b at = elim (get_was nat_list_cmp_total texts_same w.blobs put bytes text b (ap (λ (x : Blobs). fin.get x text) (sym (now_blobs ∙ now)) ∙ at)) [
    | inl mine ↦ subst (IsCovered f v) (sym mine.0) own
    | inr before ↦ covered_kept f t v listed whole raised text (covered text b before.1)
  ]

  unit_step : (v : Ticket) → fin.get (after f w m).tickets k ≡ Some v → IsLive (after f w m) k v → m.entry.who ≡ k → Own f w m.entry.who t s.image m.entry.step m.entry.reply (answered f w m.entry.who m.entry.step m.entry.reply m.image)
      → Stage f w k t → Stage f (after f w m) k v
  unit_step v there after_live mine (OnPlain none h same) (IsListing uns covered) =
      let is : h.v ≡ v = same_Some h.v v (sym h.at ∙ ap (fin.get (after f w m).tickets) mine ∙ there) in
      subst (Stage f (after f w m) k) is
      (IsListing (h.settled ∙ uns) (λ text bytes at. covered_kept f t h.v h.listed h.whole h.raised text (covered text bytes (same_blobs_back same text bytes at))))
  unit_step v there after_live mine (OnPlain none h same) (IsRemoving r) =
      let is : h.v ≡ v = same_Some h.v v (sym h.at ∙ ap (fin.get (after f w m).tickets) mine ∙ there) in
      let kept : h.v ≡ t = elim h.same [ inl e ↦ e | inr uns ↦ absurd (true≢false (sym r.settled ∙ uns)) ] in
      subst (Stage f (after f w m) k) (sym kept ∙ is)
      (stage_same (there ∙ ap (λ (x : Ticket). Some x) (sym is ∙ kept)) h.safe h.root (same_blobs_back same) (λ text bytes name at e g. no_gone none name g) (IsRemoving r))
  unit_step v there after_live mine (OnCommit h uns name bytes now back which) (IsListing also covered) =
      let is : h.v ≡ v = same_Some h.v v (sym h.at ∙ ap (fin.get (after f w m).tickets) mine ∙ there) in
      subst (Stage f (after f w m) k) is
      (IsListing (h.settled ∙ uns) (put_covered h.v h.listed h.whole h.raised (f.names.text name) bytes now (own h.v h.listed h.whole h.raised which) covered))
    where
      own : (v : Ticket) → v.listed ≡ t.listed → v.whole ≡ t.whole → (v.raised ≡ t.raised) ⊎ (t.raised ≡ None) → IsUnlisted t ⊎ ((n : ℕ) × (name ≡ Root n) × (t.raised ≡ Some n)) → IsCovered f v (f.names.text name)
      own v listed whole raised (inl none) = covered_none f v (record { listed = listed ∙ none.listed; whole = whole ∙ none.whole }) (f.names.text name)
      own v listed whole raised (inr (n, is, at)) = covered_kept f t v listed whole raised (f.names.text name) (inr (inr (inr (n, at, ap f.names.text is, subst (λ (x : BlobName). ReadsBack f.names x) is back))))
  unit_step v there after_live mine (OnCommit h uns name bytes now back which) (IsRemoving r) = absurd (true≢false (sym r.settled ∙ uns))
  unit_step v there after_live mine (OnLatest h uns bytes now back) (IsListing also covered) =
      let is : h.v ≡ v = same_Some h.v v (sym h.at ∙ ap (fin.get (after f w m).tickets) mine ∙ there) in
      subst (Stage f (after f w m) k) is
      (IsListing (h.settled ∙ uns) (put_covered h.v h.listed h.whole h.raised (f.names.text Latest) bytes now (inr (inr (inl (refl, back)))) covered))
  unit_step v there after_live mine (OnLatest h uns bytes now back) (IsRemoving r) = absurd (true≢false (sym r.settled ∙ uns))
  unit_step v there after_live mine (OnPage page at uns h same) (IsListing also covered) =
      let is : listing t page ≡ v = same_Some (listing t page) v (sym at ∙ ap (fin.get (after f w m).tickets) mine ∙ there) in
      subst (Stage f (after f w m) k) is
      (IsListing uns (λ text bytes got. let was = same_blobs_back same text bytes got in covered_page f w.blobs t page h text bytes was (covered text bytes was)))
  unit_step v there after_live mine (OnPage page at uns h same) (IsRemoving r) = absurd (true≢false (sym r.settled ∙ uns))
  unit_step v there after_live mine (OnSettle d present none up same) (IsListing uns covered) = settled (subst (SettlesAs f w (answered f w m.entry.who m.entry.step m.entry.reply m.image)) mine (d, present, up))
    where
      settled : SettlesAs f w (answered f w m.entry.who m.entry.step m.entry.reply m.image) k → Stage f (after f w m) k v
      settled (d, present, up) =
          let one : d.t ≡ t = same_Some d.t t (sym d.may.out.there ∙ live.there) in
          let plain = up ∙ delete_settled_plain f w k d.n d.t d.s d.may in
          let is : record t { settled = true } ≡ v =
          same_Some (record t { settled = true }) v (sym (ap (λ (x : World). fin.get x.tickets k) plain ∙ same_in w.tickets k (record d.t { settled = true }) ∙ ap (λ (x : Ticket). Some (record x { settled = true })) one) ∙ there) in
          subst (Stage f (after f w m) k) is
          (IsRemoving (settles f w (after f w m) s.here.shelf s.here.law k d t one present clean late covered (ap (λ (x : World). x.safe) plain) (ap (λ (x : World). x.root) plain) (now_blobs ∙ same) (no_gone none)))
  unit_step v there after_live mine (OnSettle d present none up same) (IsRemoving r) =
      let one : d.t ≡ t = same_Some d.t t (sym d.may.out.there ∙ ap (fin.get w.tickets) mine ∙ live.there) in absurd (true≢false (sym r.settled ∙ ap (λ (x : Ticket). x.settled) (sym one) ∙ d.may.unsettled))
  unit_step v there after_live mine (OnRemoval names is up done removes gone) (IsListing uns covered) = absurd (true≢false (sym done ∙ uns))
  unit_step v there after_live mine (OnRemoval names is up done removes gone) (IsRemoving r) =
      let at : fin.get (after f w m).tickets k ≡ Some t = ap (λ (x : World). fin.get x.tickets k) up ∙ live.there in
      subst (Stage f (after f w m) k) (same_Some t v (sym at ∙ there))
      (stage_same at (ap (λ (x : World). x.safe) up) (ap (λ (x : World). x.root) up) (λ text bytes got. removes.left text bytes (ap (λ (b : Blobs). fin.get b text) (sym now_blobs) ∙ got)) its_gone (IsRemoving r))
    where
      its_gone : (text bytes : Bytes) (name : BlobName) → fin.get (after f w m).blobs text ≡ Some bytes → f.names.text name ≡ text → Has (gone_names (entries_by (after f w m).entries k)) name
          → Has (gone_names (entries_by w.entries k)) name
      its_gone text bytes name got text_is h = elim (gone_or f w m k name h) [
        | inl own ↦
            let (ns, step, reply) = gone_is m.entry.step m.entry.reply name own.1 in
            let among : Has names name = subst (λ (p : Step × Reply). Has (batch_gone p.0 p.1) name) (λ j. (is j, reply j)) own.1 in
            absurd (none-some bytes (sym (gone reply name among) ∙ ap (fin.get s.image.blobs) text_is ∙ ap (λ (b : Blobs). fin.get b text) (sym now_blobs) ∙ got))
        | inr before ↦ before
      ]
  unit_step v there after_live mine (OnOver u at over) stage =
      let is : u ≡ v = same_Some u v (sym at ∙ ap (fin.get (after f w m).tickets) mine ∙ there) in absurd (true≢false (sym after_live.out ∙ ap (λ (x : Ticket). x.out) (sym is) ∙ over))
  unit_step v there after_live mine (OnDepose dead) stage = absurd (true≢false (sym dead ∙ after_live.alive))

  -- a step that was refused before it was looked at
  refused_none : (step : Step) (refusal : Refusal) → batch_gone step (Refused refusal) ≡ []
  refused_none (PruneStep (RemoveDoomed names)) refusal = refl
  refused_none step refusal = refl

  blocked_step : IsBlocked w m → (v : Ticket) → fin.get (after f w m).tickets k ≡ Some v → Stage f w k t → Stage f (after f w m) k v
  blocked_step blocked v there stage =
      let same : after f w m ≡ record w { entries = with_entry w.entries m.entry } = blocked_stays f w m blocked in
      let at : fin.get (after f w m).tickets k ≡ Some t = ap (λ (x : World). fin.get x.tickets k) same ∙ live.there in
      subst (Stage f (after f w m) k) (same_Some t v (sym at ∙ there))
      (stage_same at (ap (λ (x : World). x.safe) same) (ap (λ (x : World). x.root) same) (λ text bytes got. ap (λ (x : World). fin.get x.blobs text) (sym same) ∙ got)
      (λ text bytes name got is h. no_gone (ap (batch_gone m.entry.step) blocked.refused ∙ refused_none m.entry.step blocked.refusal) name h) stage)

  others_step : (v : Ticket) → fin.get (after f w m).tickets k ≡ Some v → k ≢ m.entry.who → (IsUnits m.entry.step → ⊥) → Stage f w k t → Stage f (after f w m) k v
  others_step v there apart no_unit stage =
      subst (Stage f (after f w m) k) (same_Some t v (sym ((step_frame f w m).others k apart (fresh_ticket s.here k t live.there) ∙ live.there) ∙ there)) (other_step apart no_unit stage)

  step_stage : (v : Ticket) → fin.get (after f w m).tickets k ≡ Some v → IsLive (after f w m) k v → (uuids : List ℕ) (plan : Option Swap) → t.work ≡ Deleting uuids plan → k ≢ 0 → Stage f w k t → Stage f (after f w m) k v
  step_stage v there after_live uuids plan work first stage = elim s.legal.answered [
    | inl alive ↦ elim (maker f size w m s.legal) [ inl made ↦ by alive.1 made | inr blocked ↦ blocked_step blocked v there stage ]
    | inr blocked ↦ blocked_step blocked v there stage
  ]
    where
      its : CleanTracked w.term w.deletes w.tickets k t
      its = s.here.tracked.deletions.cleaning k t live.there live.out live.present clean

      by : Allows f size w m.entry.who m.entry.step m.entry.reply m.image → Maker w m.entry.who m.entry.step → Stage f (after f w m) k v
      by a (ClientStep who own) = others_step v there (λ e. first (e ∙ who)) (other_unit m.entry.step (inl own)) stage
      by a (ReaderStep q reading own) = others_step v there (λ e. s.here.reads.apart.tickets m.entry.who q t reading.there (ap (fin.get w.tickets) (sym e) ∙ live.there)) (other_unit m.entry.step (inr own)) stage
      by a (UnitStep u out unit) =
          let mine : m.entry.who ≡ k = s.here.law.lawful.queue.sole k t live.there live.out (subst IsMaster (sym work) tt) live.present its.x its.there its.cleans m.entry.who u out.there out.out in
          let own_live : IsLive w m.entry.who t = record { there = ap (fin.get w.tickets) mine ∙ live.there; out = live.out; present = live.present; alive = live.alive } in
          unit_step v there after_live mine
          (own_step f size w s.image m.entry.who (record { shelf = s.here.shelf; law = s.here.law; t = t; live = own_live; clean = clean; uuids = uuids; plan = plan; work = work }) m.entry.step m.entry.reply m.image s.told unit a) stage

-- ---- from the first page to the end

-- a cleanup's ticket
record IsCleaning (t : Ticket) : Type 0 where
  clean : t.clean ≡ true
  uuids : List ℕ
  plan : Option Swap
  work : t.work ≡ Deleting uuids plan

cleaning_on : (t v : Ticket) → SameUnit t v → IsCleaning t → IsCleaning v
cleaning_on t v same c = elim same.work [
  | inl is ↦ record { clean = same.clean ∙ c.clean; uuids = c.uuids; plan = c.plan; work = is ∙ c.work }
  | inr h ↦ record { clean = same.clean ∙ c.clean; uuids = h.0; plan = Some h.2; work = h.4 }
]

record AtTheEnd (f : Formats) (w : World) (k : ℕ) : Type 0 where
  t : Ticket
  there : fin.get w.tickets k ≡ Some t
  cleaning : IsCleaning t
  stage : Stage f w k t

stages : (f : Formats) (size : ℕ) (log : List Moment) (w : World) → Steps1 f size w log → (k : ℕ) → k ≢ 0 → (t : Ticket) → fin.get w.tickets k ≡ Some t → IsCleaning t → RemovedLate w k → NoneOf IsTestCommit log
    → ((v : Ticket) → fin.get (world_from f w log).tickets k ≡ Some v → IsLive (world_from f w log) k v) → Stage f w k t → AtTheEnd f (world_from f w log) k
stages f size [] w s k first t there cleaning late none end stage = record { t = t; there = there; cleaning = cleaning; stage = stage }
stages f size (m ∷ log) w s k first t there cleaning late none end stage =
    let one = first_step f size w m log s in
    let later = later_steps f size w m log s in
    let v = stays f size w m one k t there in
    let after_live : IsLive (after f w m) k v.0 = live_from f size log (after f w m) later k v.0 v.1 end in
    let live : IsLive w k t = live_before f size w m one k t v.0 there v.2 after_live in
    stages f size log (after f w m) later k first v.0 v.1 (cleaning_on t v.0 v.2 cleaning) (late_step f size w m one k late) none.1 end
    (step_stage f size w m one k t live cleaning.clean late none.0 v.0 v.1 after_live cleaning.uuids cleaning.plan cleaning.work first stage)

-- tickets have numbers from 1 on, and their removals come after their settle
record SinceOpened (w : World) (k : ℕ) : Type 0 where
  next : 1 ≤ w.next_ticket
  first : (t : Ticket) → fin.get w.tickets k ≡ Some t → k ≢ 0
  late : RemovedLate w k

since : (f : Formats) (size : ℕ) (log : List Moment) (w : World) → Steps1 f size w log → (k : ℕ) → SinceOpened w k → SinceOpened (world_from f w log) k
since f size [] w s k h = h
since f size (m ∷ log) w s k h =
    let frame = step_frame f w m in
    let up : w.next_ticket ≤ (after f w m).next_ticket = frame.next_ticket in
    let next : 1 ≤ w.next_ticket = h.next in
    since f size log (after f w m) (later_steps f size w m log s) k (record {
      next = omega (arith, up, next);
      first = λ t there. elim (frame.come k t there) [ inl was ↦ h.first was.0 was.1 | inr new ↦ (λ zero. let a : k ≡ w.next_ticket = new.0 in omega (arith, a, zero, next)) ];
      late = late_step f size w m (first_step f size w m log s) k h.late;
    })

-- what is in reach depends on the safe root's number and the blobs alone
in_reach : (f : Formats) (w new : World) → new.safe ≡ w.safe → new.blobs ≡ w.blobs → (name : BlobName) → InReach f w name → InReach f new name
in_reach f w new safe blobs name (n, is, h) = (
  n,
  safe ∙ is,
  elim h [
    | inl root ↦ inl root
    | inr far ↦ inr (far.0, subst (λ (b : Blobs). Reads (At f b) (Root n) f.root far.0) (sym blobs) far.1, subst (λ (b : Blobs). Reached f (At f b) far.0 name) (sym blobs) far.2)
  ],
)

lists_on : (f : Formats) (w new : World) → new.root ≡ w.root → new.blobs ≡ w.blobs → ListsListedAlone f w → ListsListedAlone f new
lists_on f w new root blobs h = subst (IsListedAlone f new.blobs) (sym root) (subst (λ (b : Blobs). IsListedAlone f b w.root) (sym blobs) h)

-- ---- the drop

drops_by : {f : Formats} {size : ℕ} {w : World} {who : ℕ} {image : Option Image} → Allows f size w who DroppedStep HasEnded image → (d : allowed.Drops f w who image) × SameBlobs w image
drops_by (allowed.Dropping k image d same) = (d, same)

no_drop_settles : is_settle DroppedStep ≡ true → ⊥
no_drop_settles e = true≢false (sym e)

module _ (f : Formats) (size : ℕ) (w : World) (m : Moment) (s : Step1 f size w m) (k : ℕ) (last : IsLastDrop m k) where
  not_ended : (refusal : Refusal) → HasEnded ≡ Refused refusal → ⊥
  not_ended refusal e = cc

  -- the step is this ticket's drop
  record Dropping : Type 0 where
    alive : w.deposed ≡ false
    d : allowed.Drops f w k (Some s.image)
    same : s.image.blobs ≡ w.blobs

  dropping : Dropping
  dropping = elim s.legal.answered [
    | inl alive ↦
        let a = drops_by (subst (λ (x : Option Image). Allows f size w k DroppedStep HasEnded x) s.told (subst (λ (x : Reply). Allows f size w k DroppedStep x m.image) last.reply
        (subst (λ (x : Step). Allows f size w k x m.entry.reply m.image) last.step (subst (λ (x : ℕ). Allows f size w x m.entry.step m.entry.reply m.image) last.who alive.1)))) in
        record { alive = alive.0; d = a.0; same = a.1 }
    | inr dead ↦ absurd (not_ended dead.refusal (sym last.reply ∙ dead.refused))
  ]

  -- so the ticket was live
  live_last : (v : Ticket) → fin.get w.tickets k ≡ Some v → IsLive w k v
  live_last v there =
      let d = dropping.d in
      let one : d.may.t ≡ v = same_Some d.may.t v (sym d.may.out.there ∙ there) in
      record { there = there; out = ap (λ (x : Ticket). x.out) (sym one) ∙ d.may.out.out; present = ap (λ (x : Ticket). x.term) (sym one) ∙ d.present; alive = dropping.alive }

  -- nothing is left but what the root reaches
  exact : AtTheEnd f w k → HoldsReachAlone f (after f w m) × ListsListedAlone f (after f w m)
  exact h = by dropping.d.may.unit
    where
      one : dropping.d.may.t ≡ h.t
      one = same_Some dropping.d.may.t h.t (sym dropping.d.may.out.there ∙ h.there)

      blobs : (after f w m).blobs ≡ w.blobs
      blobs = ap (λ (x : Option Image). blobs_in x w.blobs) s.told ∙ dropping.same

      roots : ((after f w m).safe ≡ w.safe) × ((after f w m).root ≡ w.root)
      roots = elim (step_frame f w m).root [ inl same ↦ same | inr settle ↦ absurd (no_drop_settles (sym (ap is_settle last.step) ∙ settle)) ]

      reached : (r : HasSettled f w k h.t) (name : BlobName) → reaches f h.t.raised r.s.root (r.s.own ++ h.t.read) name ≡ true → (name ≡ Latest) ⊎ InReach f w name
      reached r name e = elim (reached_by f (At f w.blobs) r.s.root h.t.raised (r.s.own ++ h.t.read) r.held name e) [
        | inl latest ↦ inl latest
        | inr (inl root) ↦ inr (r.n, r.safe, inl (root.2 ∙ ap Root (same_Some root.0 r.n (sym root.1 ∙ r.raised))))
        | inr (inr reach) ↦
            inr (r.n, r.safe, inr (w.root, root_reads (subst (λ (n : ℕ). RootIs f (HeldIn f w) n w.root) r.safe s.here.law.lawful.sound.carried.root_is), subst (λ (x : RootData). Reached f (At f w.blobs) x name) (sym r.root) reach))
      ]
        where
          root_reads : Reads (HeldIn f w) (Root r.n) f.root w.root → Reads (At f w.blobs) (Root r.n) f.root w.root
          root_reads reads = record { bytes = reads.bytes; there = reads.there.0; reads = reads.reads }

      by : (dropping.d.may.t.work ≡ Drop) ⊎ allowed.HasCleaned f w k dropping.d.may.t (Some s.image) → HoldsReachAlone f (after f w m) × ListsListedAlone f (after f w m)
      by (inl drop) = absurd (no_drop (sym h.cleaning.work ∙ ap (λ (x : Ticket). x.work) (sym one) ∙ drop))
        where
          no_drop : Deleting h.cleaning.uuids h.cleaning.plan ≡ Drop → ⊥
          no_drop e = cc
      by (inr cleaned) = both h.stage
        where
          holds : HasSettled f w k h.t → HoldsReachAlone f (after f w m)
          holds r text bytes there =
              let left = r.left text bytes (ap (λ (b : Blobs). fin.get b text) (sym blobs) ∙ there) in (
                left.0,
                left.1,
                left.2,
                elim left.3 [
                  | inl reach ↦ elim (reached r left.0 reach) [ inl latest ↦ inl latest | inr now ↦ inr (in_reach f w (after f w m) roots.0 blobs left.0 now) ]
                  | inr doomed ↦ absurd (doomed.1 (cleaned.removed left.0 (subst (λ (x : Ticket). Has (dooms f x) left.0) (sym one) doomed.0)))
                ],
              )

          both : Stage f w k h.t → HoldsReachAlone f (after f w m) × ListsListedAlone f (after f w m)
          both (IsListing uns covered) = absurd (true≢false (sym cleaned.settled ∙ ap (λ (x : Ticket). x.settled) one ∙ uns))
          both (IsRemoving r) = (holds r, lists_on f w (after f w m) roots.1 blobs (subst (IsListedAlone f w.blobs) (sym r.root) r.lists))

-- ---- and afterwards

module _ (f : Formats) (size : ℕ) (w : World) where
  settle_or : (who : ℕ) (step : Step) (reply : Reply) (image : Option Image) → is_settle step ≡ true → Allows f size w who step reply image
      → (((answered f w who step reply image).safe ≡ w.safe) × ((answered f w who step reply image).root ≡ w.root)) ⊎ ((n : ℕ) × (t : Ticket) × (s : Swap) × MaySettle f w who n t s × (t.term ≡ w.term))
  settle_or who SettleStep reply image e (allowed.Settling k im s same) = inr (s.n, s.t, s.s, s.may, s.present)
  settle_or who SettleStep reply image e (allowed.SettleStale k n t s im may apart same) = inl (refl, refl)
  settle_or who SettleStep reply image e (allowed.SettleFails k im s same) = inr (s.n, s.t, s.s, s.may, s.present)
  settle_or who (PruneStep SettlePruned) reply image e (allowed.Pruning k p rep im (allowed.SettlingDelete j i s present same)) = inr (s.n, s.t, s.s, s.may, present)
  settle_or who (PruneStep SettlePruned) reply image e (allowed.Pruning k p rep im (allowed.SettleDeleteStale j i s apart same)) = inl (refl, refl)
  settle_or who (PruneStep SettlePruned) reply image e (allowed.Pruning k p rep im (allowed.SettleDeleteFails j i s present same)) = inr (s.n, s.t, s.s, s.may, present)
  settle_or who step reply image e a = absurd (true≢false (sym e))

  -- no root is there but the safe one, so none can be settled
  no_settle : (shelf : List Shelved) → Law f w shelf → HoldsReachAlone f w → (who n : ℕ) (t : Ticket) (s : Swap) → MaySettle f w who n t s → t.term ≡ w.term → ⊥
  no_settle shelf l alone who n t s may present =
      let law = l.lawful.sound.rooted.tickets who t may.out.there in
      let un : IsUnsettled f t s = record { is = may.is; out = may.out.out; unsettled = may.unsettled } in
      let above : w.safe ≤ n = (law.last s un present n may.raised).1 in
      let there = (law.swaps s un (inl present)).root_noted n may.written in
      let found = alone (f.names.text (Root n)) (f.root.text s.root) there.0.0 in
      let is : found.0 ≡ Root n = same_Some found.0 (Root n) (sym found.2 ∙ ap f.names.read found.1 ∙ there.0.1.0) in
      elim found.3 [
        | inl latest ↦ no_latest (sym is ∙ latest)
        | inr reach ↦ elim reach.2 [
          | inl root ↦ let same : n ≡ reach.0 = root_number n reach.0 (sym is ∙ root) in let safe : w.safe ≡ suc reach.0 = reach.1 in omega (arith, above, same, safe)
          | inr far ↦ no_root (At f w.blobs) far.0 n found.0 far.2 is
        ]
      ]
    where
      no_latest : Root n ≡ Latest → ⊥
      no_latest e = cc

      root_number : (a b : ℕ) → Root a ≡ Root b → a ≡ b
      root_number a b e = cc

      no_root : (has : BlobName → Bytes → Type 0) (root : RootData) (n : ℕ) (name : BlobName) → Reached f has root name → name ≡ Root n → ⊥
      no_root has root n name (ReachPart i j g h x part gen reads m p) e = elim (in_parts i j x part p) [ inl is ↦ no_file i j x.name n (sym is ∙ e) | inr is ↦ no_part i j x.name is.0 n (sym is.1 ∙ e) ]
        where
          no_file : (i j x n : ℕ) → File i j x ≡ Root n → ⊥
          no_file i j x n e = cc

          no_part : (i j x p n : ℕ) → Part i j x p ≡ Root n → ⊥
          no_part i j x p n e = cc
      no_root has root n name other e = cc

  rest_step : (m : Moment) → Step1 f size w m → (ChangesBlobs m.entry.step → ⊥) → HoldsReachAlone f w × ListsListedAlone f w → HoldsReachAlone f (after f w m) × ListsListedAlone f (after f w m)
  rest_step m s none (alone, lists) = (holds, lists_on f w (after f w m) same.1 blobs lists)
    where
      same_by : BlobsChange f w m.entry.step s.image.blobs → s.image.blobs ≡ w.blobs
      same_by (NoBlobChange same) = same
      same_by (NewBlob name b (inl is) named absent now) = absurd (none (subst ChangesBlobs (sym is) tt))
      same_by (NewBlob name b (inr is) named absent now) = absurd (none (subst ChangesBlobs (sym is) tt))
      same_by (NewLatest b is named now) = absurd (none (subst ChangesBlobs (sym is) tt))
      same_by (Removal names (inl is) removes) = absurd (none (subst ChangesBlobs (sym is) tt))
      same_by (Removal names (inr is) removes) = absurd (none (subst ChangesBlobs (sym is) tt))

      blobs : (after f w m).blobs ≡ w.blobs
      blobs = ap (λ (x : Option Image). blobs_in x w.blobs) s.told ∙ same_by (blobs_change f size w m s.image s.told s.legal)

      same : ((after f w m).safe ≡ w.safe) × ((after f w m).root ≡ w.root)
      same = elim (step_frame f w m).root [
        | inl is ↦ is
        | inr settle ↦ elim s.legal.answered [
          | inl alive ↦ elim (settle_or m.entry.who m.entry.step m.entry.reply m.image settle alive.1) [
            | inl is ↦ is
            | inr may ↦ absurd (no_settle s.here.shelf s.here.law alone m.entry.who may.0 may.1 may.2 may.3 may.4)
          ]
          | inr dead ↦ (ap (λ (x : World). x.safe) (blocked_stays f w m dead), ap (λ (x : World). x.root) (blocked_stays f w m dead))
        ]
      ]

      holds : HoldsReachAlone f (after f w m)
      holds text bytes there =
          let found = alone text bytes (ap (λ (b : Blobs). fin.get b text) (sym blobs) ∙ there) in
          (found.0, found.1, found.2, elim found.3 [ inl latest ↦ inl latest | inr reach ↦ inr (in_reach f w (after f w m) same.0 blobs found.0 reach) ])

rest_holds : (f : Formats) (size : ℕ) (log : List Moment) (w : World) → Steps1 f size w log → NoneOf ChangesBlobs log → HoldsReachAlone f w × ListsListedAlone f w
    → HoldsReachAlone f (world_from f w log) × ListsListedAlone f (world_from f w log)
rest_holds f size [] w s none alone = alone
rest_holds f size (m ∷ log) w s none alone = rest_holds f size log (after f w m) (later_steps f size w m log s) none.1 (rest_step f size w m (first_step f size w m log s) none.0 alone)

-- ---- the whole history

-- the steps of a part, and those after it
steps_parts : (f : Formats) (size : ℕ) (xs ys : List Moment) (w : World) → Steps1 f size w (xs ++ ys) → Steps1 f size w xs × Steps1 f size (world_from f w xs) ys
steps_parts f size [] ys w s = ((s.0, tt, tt), s)
steps_parts f size (x ∷ xs) ys w s =
    let r = steps_parts f size xs ys (after f w x) (later_steps f size w x (xs ++ ys) s) in
    let own = first_step f size w x (xs ++ ys) s in
    ((s.0, (own.legal, r.0.1), ((own.image, own.told), r.0.2)), r.1)

lists_by : {f : Formats} {size : ℕ} {w : World} {who : ℕ} {page : List BlobSize} {image : Option Image} → Allows f size w who (ListStep None) (WasListed page) image → ListsPage w who None
lists_by (allowed.Listing k from page image g shape here) = g

not_listed : (page : List BlobSize) (refusal : Refusal) → WasListed page ≡ Refused refusal → ⊥
not_listed page refusal e = cc

-- nothing was listed before the first page
none_listed : (xs : List BlobSize) → None ≡ last_text xs → xs ≡ []
none_listed [] e = refl
none_listed (x ∷ []) e = absurd (none-some x.text e)
none_listed (x ∷ y ∷ xs) e = absurd (no_none y xs e)
  where
    no_none : (y : BlobSize) (xs : List BlobSize) → None ≡ last_text (y ∷ xs) → ⊥
    no_none y [] e = none-some y.text e
    no_none y (z ∷ xs) e = no_none z xs e

pub reach_alone : (f : Formats) (size : ℕ) (w : World) (shelf : List Shelved) (before between rest : List Moment) (first last : Moment) (k : ℕ) → Law f w shelf → Tracked w → ReadTracked w → w.entries ≡ []
    → ((t : Ticket) → fin.get w.tickets k ≡ Some t → ⊥) → IsLegal f size w (before ++ first ∷ (between ++ last ∷ rest)) → AreTold (before ++ first ∷ (between ++ last ∷ rest))
    → IsFirstPage first k → IsLastDrop last k → NoneOf IsTestCommit between → NoneOf ChangesBlobs rest
    → HoldsReachAlone f (world_from f w (before ++ first ∷ (between ++ last ∷ rest))) × ListsListedAlone f (world_from f w (before ++ first ∷ (between ++ last ∷ rest)))
reach_alone f size w shelf before between rest first last k l tracked reads no_entry no_ticket legal told page drop no_test no_change =
    let all : Steps1 f size w (before ++ first ∷ (between ++ last ∷ rest)) = (record { shelf = shelf; law = l; tracked = tracked; reads = reads }, legal, told) in
    let a = steps_parts f size before (first ∷ (between ++ last ∷ rest)) w all in
    let b = steps_parts f size (first ∷ between) (last ∷ rest) (world_from f w before) a.1 in
    let one = first_step f size (world_from f (world_from f w before) (first ∷ between)) last rest b.1 in
    let opened = since f size before w a.0 k (record { next = tracked.first_ticket; first = λ t at. absurd (no_ticket t at); late = λ e h g. absurd (subst (λ (es : List Entry). Has (entries_by es k) e) no_entry h) }) in
    let g = page_by (world_from f w before) (first_step f size (world_from f w before) first (between ++ last ∷ rest) a.1) in
    let end = stages f size (first ∷ between) (world_from f w before) b.0 k (opened.first g.t g.out.there) g.t g.out.there (record { clean = g.clean; uuids = g.uuids; plan = g.plan; work = g.work }) opened.late (no_page page, no_test)
    (live_last f size (world_from f (world_from f w before) (first ∷ between)) last one k drop)
    (IsListing g.unsettled (λ text bytes at. covered_none f g.t (record { listed = none_listed g.t.listed g.from_is; whole = g.unended }) text)) in
    subst (λ (x : World). HoldsReachAlone f x × ListsListedAlone f x) (sym (world_parts f before (first ∷ (between ++ last ∷ rest)) w ∙ world_parts f between (last ∷ rest) (after f (world_from f w before) first)))
    (rest_holds f size rest (after f (world_from f (world_from f w before) (first ∷ between)) last) (later_steps f size (world_from f (world_from f w before) (first ∷ between)) last rest b.1) no_change
    (exact f size (world_from f (world_from f w before) (first ∷ between)) last one k drop end))
  where
    no_page : IsFirstPage first k → IsTestCommit first.entry.step → ⊥
    no_page p h = subst IsTestCommit p.step h

    page_by : (w : World) → Step1 f size w first → ListsPage w k None
    page_by w s = elim s.legal.answered [
      | inl alive ↦ lists_by (subst (λ (x : Reply). Allows f size w k (ListStep None) x first.image) page.reply
          (subst (λ (x : Step). Allows f size w k x first.entry.reply first.image) page.step (subst (λ (x : ℕ). Allows f size w x first.entry.step first.entry.reply first.image) page.who alive.1)))
      | inr dead ↦ absurd (not_listed page.page dead.refusal (sym page.reply ∙ dead.refused))
    ]

    world_parts : (f : Formats) (xs ys : List Moment) (w : World) → world_from f w (xs ++ ys) ≡ world_from f (world_from f w xs) ys
    world_parts f [] ys w = refl
    world_parts f (x ∷ xs) ys w = world_parts f xs ys (after f w x)

-- from an opened image on
pub opened_reach_alone : (f : Formats) (size : ℕ) (image : Image) (shelf : List Shelved) (w : World) (before between rest : List Moment) (first last : Moment) (k : ℕ) → Kept f image shelf → Opened f image w → Tracked w
    → IsLegal f size w (before ++ first ∷ (between ++ last ∷ rest)) → AreTold (before ++ first ∷ (between ++ last ∷ rest))
    → IsFirstPage first k → IsLastDrop last k → NoneOf IsTestCommit between → NoneOf ChangesBlobs rest
    → HoldsReachAlone f (world_from f w (before ++ first ∷ (between ++ last ∷ rest))) × ListsListedAlone f (world_from f w (before ++ first ∷ (between ++ last ∷ rest)))
opened_reach_alone f size image shelf w before between rest first last k is_kept opens tracked =
    reach_alone f size w shelf before between rest first last k (opening_law f image shelf w is_kept opens) tracked (by w opens) (none w opens) (λ t at. no_ticket w opens t at)
  where
    by : (w : World) → Opened f image w → ReadTracked w
    by w (OpenedEmpty e) = read_opened_tracked image.blobs no_record no_root
    by w (OpenedRecord cluster text root is reads safe) = read_opened_tracked image.blobs cluster root

    none : (w : World) → Opened f image w → w.entries ≡ []
    none w (OpenedEmpty e) = refl
    none w (OpenedRecord cluster text root is reads safe) = refl

    no_ticket : (w : World) → Opened f image w → (t : Ticket) → fin.get w.tickets k ≡ Some t → ⊥
    no_ticket w (OpenedEmpty e) t at = nothing k t at
    no_ticket w (OpenedRecord cluster text root is reads safe) t at = nothing k t at
