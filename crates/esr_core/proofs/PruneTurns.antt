-- The steps of a delete's ticket are turns of the law.
use Rattle.std.proofs.Common.{◌≡◌, ◌≢◌, ◌⊎◌, ℕ, suc, ◌+◌, ◌≤◌, List, [], ◌++◌, Bool, true, false, true≢false, Option, Some, None, refl, sym, ap, ◌∙◌, subst, inl, inr, arith}
use Rattle.std.specs.Prelude.{if◌then◌else◌, nat_lt}
use Rattle.std.proofs.lemmas.Bool.Decides.{eqb_tells}
use Rattle.std.proofs.lemmas.Bool.{lt-ltb, le-ltb}
use Rattle.std.specs.FinMap as fin
use Rattle.esr_model.specs.Names.{BlobName, Root}
use Rattle.esr_model.specs.Values.{Bytes, Has, RootIndex, RootData, IsOneEach, Formats}
use Rattle.esr_model.specs.Shelf.{Shelved}
use Rattle.esr_model.specs.Image.{Blobs, Image, Generation, at_shard_of}
use Rattle.esr_model.specs.Reach.{Reached}
use Rattle.esr_model.specs.Cleanup.{names_listed, is_generation}
use Rattle.esr_model.specs.Delete.{PrunedShard, kept_count, left_uuids, uuids_of, pruned_blobs, deleted_root, doomed_names}
use Rattle.esr_core.specs.World.{World, Deletion, Deleting, Ticket, Swap, HeldIn}
use Rattle.esr_core.specs.Ready.{IsMaster, IsShard}
use Rattle.esr_core.specs.Steps.{settled, with_ticket, Removes}
use Rattle.esr_core.specs.Swaps.{IsUnsettled}
use Rattle.esr_core.specs.Pruning.{pruned_shards, planned_work, planned, IsPlanned, dooms, PruneLaw}
use Rattle.esr_core.specs.Queue.{DeleteLaw}
use Rattle.esr_core.specs.Ids.{Law}
use Rattle.esr_core.specs.Entry.{Why, Prune, FetchShard, PlanShards, SettlePruned, RemoveDoomed, EndDelete, DeleteFails, PruneStep, DepotFault, Reply, DrawnFrom, WasFetched, WasAbsent, WasSettled, WasRemoved, HasEnded, Refused}
use Rattle.esr_core.specs.After.{with_given, change, fetching, told_blob, is_stale, deletes_left, delete_settled, delete_failed, delete_failed_by, stepped}
use Rattle.esr_core.specs.History.{command_of, command_by}
use Rattle.esr_core.specs.Turns.{IsOfPast, SettleDelete, Fetches, DrawsPlan, SettlesDelete, Removing, Ending, FailsDelete}
use Rattle.esr_core.specs.Allowed.{FetchesShard, SettlesDeletion, RemovesDoomed, EndsDelete, FailsDeletion, PruneAllows, FetchingShard, ShardMissing, FetchShardFails, Planning, PlanSpent, SettlingDelete, SettleDeleteStale, SettleDeleteFails, RemovingDoomed, RemoveDoomedFails, EndingDelete, FailingDelete}
use Rattle.esr_core.specs.Laws.OneValue.{held_one}
use Rattle.esr_core.specs.Laws.NewRoots.{root_one_each}
use Rattle.esr_core.specs.Laws.DeleteRoots.{one_found}
use Rattle.esr_core.specs.Laws.DoomNames.{dooms_is}
use Rattle.esr_core.proofs.DeletionLaws.{cleans_is}
use Rattle.esr_core.specs.Laws.Tests.{same_number}
use Rattle.esr_core.specs.Laws.CleanupReach.{IsHeldNow, reaches_has, cleaned_was}
use Rattle.esr_core.proofs.Cleaning.{cleaned_held}
use Rattle.esr_core.proofs.Plans.{plan_draw}
use Rattle.esr_core.proofs.DoomedNames.{doomed_reached, doomed_aside, doomed_root_is}
use Rattle.esr_core.specs.Laws.Moments.{delete_settled_plain, moment}
use Rattle.esr_core.proofs.Moments.{Turned, plain, stays, falls, falls_commands, fault_stays, master_stale}

plan_none : (us vs : List ℕ) (plan : Option Swap) → Deleting us None ≡ Deleting vs plan → plan ≡ None
plan_none us vs plan e = cc

module _ (f : Formats) (w : World) (shelf : List Shelved) (l : Law f w shelf) where
  root_once : IsOneEach w.root.indices
  root_once = root_one_each f (HeldIn f w) w.safe w.root l.lawful.sound.carried.root_is

  -- of a delete of the present term, before its settle
  law_of : (k : ℕ) (t : Ticket) (uuids : List ℕ) (plan : Option Swap) → fin.get w.tickets k ≡ Some t → t.out ≡ true → t.settled ≡ false → t.term ≡ w.term → t.work ≡ Deleting uuids plan
      → DeleteLaw w.root w.ops w.deletes t plan
  law_of k t uuids plan there out uns pres work = l.lawful.queue.deleting k t there out uns pres uuids plan work

  -- ---- it fetches

  -- what it is to read nobody may remove
  not_doomed : (k : ℕ) (name : BlobName) (g : FetchesShard f w k name) → g.t.settled ≡ false → g.t.term ≡ w.term → Has w.doomed name → ⊥
  not_doomed k name g uns pres doomed =
      let law = law_of k g.t g.uuids None g.deleting.out.there g.deleting.out.out uns pres g.deleting.work in
      let there : Has w.root.indices g.to_read.x = subst (λ (r : RootData). Has r.indices g.to_read.x) law.root_is g.to_read.there in
      let gen : Generation w.root g.index g.number g.generation =
      ap (λ (z : Option RootIndex). at_shard_of z g.number) (one_found w.root.indices root_once g.to_read.x there g.index g.to_read.id) ∙ g.to_read.at in
      (l.lawful.sound.carried.carries g.index g.number g.generation (inl gen)).stands.held_reads.there.1 (subst (Has w.doomed) g.name_is doomed)

  fetch_turn : (k : ℕ) (name : BlobName) (i : Image) (g : FetchesShard f w k name) → (bytes : Bytes) → fin.get w.blobs (f.names.text name) ≡ Some bytes → i.blobs ≡ w.blobs
      → Turned f w k (PruneStep (FetchShard name)) WasFetched (record (change w k (fetching name (told_blob f (Some i) name))) { blobs = i.blobs })
  fetch_turn k name i g bytes found same =
      let told : fin.get i.blobs (f.names.text name) ≡ Some bytes = ap (λ (b : Blobs). fin.get b (f.names.text name)) same ∙ found in
      plain f w k (PruneStep (FetchShard name)) WasFetched _
      (Fetches _ k name (record {
        t = g.t;
        out = g.deleting.out;
        aside = λ uuids plan e. (plan_none g.uuids uuids plan (sym g.deleting.work ∙ e), λ uns pres. not_doomed k name g uns pres);
        bytes = bytes;
        there = (found, g.stored);
        new_is = λ j. record (with_given w k (fetching name (told j)) (g.deleting.out.there j)) { blobs = same j };
      })) refl refl

  -- ---- it settles

  module _ (k : ℕ) (s : SettlesDeletion f w k) (present : s.t.term ≡ w.term) where
    pub law : DeleteLaw w.root w.ops w.deletes s.t (Some s.s)
    law = law_of k s.t s.uuids (Some s.s) s.may.out.there s.may.out.out s.may.unsettled present s.deleting.work

    pub pruned : PruneLaw f (HeldIn f w) w.safe s.t s.uuids (Some s.s)
    pruned = l.pruned.unsettled k s.t s.uuids (Some s.s) s.may.out.there s.may.out.out s.may.unsettled present s.deleting.work

    pub plan : IsPlanned f s.t.clean s.t.root s.t.read s.t.first s.uuids s.s
    plan = pruned.follows s.s refl

    unsettled : IsUnsettled f s.t s.s
    unsettled = record { is = s.may.is; out = s.may.out.out; unsettled = s.may.unsettled }

    abbrev shards : List PrunedShard
    shards = pruned_shards f s.t.clean s.t.root s.uuids s.t.read

    pub root_is : s.s.root ≡ deleted_root s.t.root s.uuids (pruned_shards f s.t.clean s.t.root s.uuids s.t.read) s.t.first
    root_is = ap (λ (x : Swap). x.root) plan.swap_is

    pub once : IsOneEach s.t.root.indices
    once = subst (λ (r : RootData). IsOneEach r.indices) (sym law.root_is) root_once

    -- its new shard indices are there
    pub written : (name : BlobName) (bytes : Bytes) → Has (pruned_blobs f s.t.read (left_uuids s.uuids (uuids_of s.t.root)) s.t.first (pruned_shards f s.t.clean s.t.root s.uuids s.t.read)) (name, bytes) → HeldIn f w name bytes
    written name bytes m =
        let own : Has s.s.own (name, bytes) = subst (λ (x : Swap). Has x.own (name, bytes)) (sym plan.swap_is) m in
        ((l.lawful.sound.rooted.tickets k s.t s.may.out.there).swaps s.s unsettled (inl present)).noted name bytes own (s.may.ready name bytes own)

    -- what a delete dooms, by the new root
    named : s.t.clean ≡ false → (name : BlobName) → Has (dooms f s.t) name → Has (doomed_names f s.t.safe s.t.root (deleted_root s.t.root s.uuids (pruned_shards f s.t.clean s.t.root s.uuids s.t.read) s.t.first) s.uuids s.t.read) name
    named deletes name m =
        subst (λ (ns : List BlobName). Has ns name) (dooms_is f s.t s.uuids s.s s.deleting.work deletes ∙ ap (λ (r : RootData). doomed_names f s.t.safe s.t.root r s.uuids s.t.read) root_is) m

    -- it was reached, or is the old root's name, and the new root doesn't reach it
    pub was_reached : s.t.clean ≡ false → (name : BlobName) → Has (dooms f s.t) name → Reached f (HeldIn f w) w.root name ⊎ ((m : ℕ) × (name ≡ Root m) × (w.safe ≡ suc m))
    was_reached deletes name m = elim (doomed_reached f (HeldIn f w) (held_one f w) s.t.safe s.t.root once s.uuids s.t.read s.t.first shards pruned.held plan.of_root plan.writable written name (named deletes name m)) [
      | inl r ↦ inl (subst (λ (x : RootData). Reached f (HeldIn f w) x name) law.root_is r)
      | inr h ↦ inr (h.0, h.1, sym pruned.safe_is ∙ h.2)
    ]

    delete_left : s.t.clean ≡ false → (name : BlobName) → Has (dooms f s.t) name → Reached f (HeldIn f w) s.s.root name → ⊥
    delete_left deletes name m r =
        doomed_aside f (HeldIn f w) (held_one f w) s.t.safe s.t.root once s.uuids s.t.read s.t.first shards pruned.held plan.of_root plan.writable written name (named deletes name m)
        (subst (λ (x : RootData). Reached f (HeldIn f w) x name) root_is r)

    -- ---- what a cleanup dooms

    -- each index of the new root reads, by what was read and written of it
    pub held_now : s.t.clean ≡ true → IsHeldNow f (HeldIn f w) s.s.root (s.s.own ++ s.t.read)
    held_now clean =
        subst (λ (x : Swap). IsHeldNow f (HeldIn f w) x.root (x.own ++ s.t.read)) (sym plan.swap_is)
        (cleaned_held f (HeldIn f w) (held_one f w) s.t.root once s.uuids s.t.read s.t.first s.t.clean clean
        pruned.held plan.are_read plan.of_root plan.writable written)

    clean_left : s.t.clean ≡ true → (name : BlobName) → Has (dooms f s.t) name → Reached f (HeldIn f w) s.s.root name → ⊥
    clean_left clean name m r =
        let it = cleaned_was f s.t.raised s.s.root (s.s.own ++ s.t.read) s.t.listed name (subst (λ (ns : List BlobName). Has ns name) (cleans_is f s.t s.uuids s.s s.deleting.work clean) m) in
        true≢false (sym (reaches_has f (HeldIn f w) s.s.root s.t.raised (s.s.own ++ s.t.read) (held_now clean) (held_one f w) name r) ∙ it.1)

    clean_past : s.t.clean ≡ true → (name : BlobName) → Has (dooms f s.t) name → IsOfPast w name
    clean_past clean name m =
        let it = cleaned_was f s.t.raised s.s.root (s.s.own ++ s.t.read) s.t.listed name (subst (λ (ns : List BlobName). Has ns name) (cleans_is f s.t s.uuids s.s s.deleting.work clean) m) in
        record {
          below = (l.ids.tickets k s.t s.may.out.there).listed name it.0;
          begun = λ n e. (l.lawful.sound.rooted.tickets k s.t s.may.out.there).listed n (subst (Has (names_listed f s.t.listed)) e it.0);
        }

    -- ---- of both

    pub is_left : (name : BlobName) → Has (dooms f s.t) name → Reached f (HeldIn f w) s.s.root name → ⊥
    is_left name m r = by s.t.clean refl
      where
        by : (b : Bool) → s.t.clean ≡ b → ⊥
        by false e = delete_left e name m r
        by true e = clean_left e name m r

    above : w.safe ≤ s.n
    above = ((l.lawful.sound.rooted.tickets k s.t s.may.out.there).last s.s unsettled present s.n s.may.raised).1

    settle_deletion : (new : World) → new ≡ record (settled w k s.t s.n s.s.root) { deletes = deletes_left w s.t; doomed = dooms f s.t ++ w.doomed } → SettleDelete f w k s.n s.t s.s new
    settle_deletion new is =
        record {
          uuids = s.uuids;
          work = s.deleting.work;
          may = s.may;
          present = present;
          names = dooms f s.t;
          cleans = s.t.clean;
          deletion = law.deletion;
          there = law.there;
          cleans_is = s.deleting.mode law.deletion law.there;
          root_aside = not_root;
          reach = λ name m. reach_by s.t.clean refl name m;
          reach_aside = is_left;
          gives = λ name m. m;
          new_is = is;
        }
      where
        not_root : Has (dooms f s.t) (Root s.n) → ⊥
        not_root m = by s.t.clean refl
          where
            by : (b : Bool) → s.t.clean ≡ b → ⊥
            by false e =
                let own : s.t.safe ≡ suc s.n = doomed_root_is f (HeldIn f w) (held_one f w) s.t.safe s.t.root once s.uuids s.t.read s.t.first shards pruned.held plan.of_root plan.writable written s.n (named e (Root s.n) m) in
                let safe : s.t.safe ≡ w.safe = pruned.safe_is in
                omega (arith, own, safe, above)
            by true e =
                let it = cleaned_was f s.t.raised s.s.root (s.s.own ++ s.t.read) s.t.listed (Root s.n) (subst (λ (ns : List BlobName). Has ns (Root s.n)) (cleans_is f s.t s.uuids s.s s.deleting.work e) m) in
                true≢false (sym (ap (λ (o : Option ℕ). is_generation o s.n) s.may.raised ∙ same_number s.n) ∙ it.1)

        reach_by : (b : Bool) → s.t.clean ≡ b → (name : BlobName) → Has (dooms f s.t) name → Reached f (HeldIn f w) w.root name ⊎ (((m : ℕ) × (name ≡ Root m) × (w.safe ≡ suc m)) ⊎ ((s.t.clean ≡ true) × IsOfPast w name))
        reach_by false e name m = elim (was_reached e name m) [ inl r ↦ inl r | inr h ↦ inr (inl h) ]
        reach_by true e name m = inr (inr (e, clean_past e name m))

    -- the command of its ticket, where the image's safe root isn't below it
    command_is : (safe : ℕ) → command_of f safe (fin.get w.tickets k) ≡ (if nat_lt s.n safe then s.s.commands else [])
    command_is safe = ap (command_of f safe) s.may.out.there ∙ (λ j. command_by safe (s.may.is j) (s.may.raised j))

    counted : (safe : ℕ) → suc s.n ≤ safe → (if nat_lt s.n safe then s.s.commands else []) ≡ s.s.commands
    counted safe le = ap (λ (b : Bool). if b then s.s.commands else []) (lt-ltb s.n safe (omega (arith, le)))

    uncounted : (safe : ℕ) → safe ≤ s.n → (if nat_lt s.n safe then s.s.commands else []) ≡ []
    uncounted safe le = ap (λ (b : Bool). if b then s.s.commands else []) (le-ltb s.n safe le)

    early : (safe : ℕ) → safe ≤ w.safe → command_of f safe (fin.get w.tickets k) ≡ []
    early safe below = command_is safe ∙ uncounted safe (omega (arith, below, above))

    abbrev up : World
    up = record (settled w k s.t s.n s.s.root) { deletes = deletes_left w s.t; doomed = dooms f s.t ++ w.doomed }

    settle_turn : (blobs : Blobs) → blobs ≡ w.blobs → Turned f w k (PruneStep SettlePruned) WasSettled (record (delete_settled f w k (fin.get w.tickets k)) { blobs = blobs })
    settle_turn blobs same =
        subst (λ (x : World). Turned f w k (PruneStep SettlePruned) WasSettled (record x { blobs = blobs })) (sym (delete_settled_plain f w k s.n s.t s.s s.may))
        (record {
          turn = SettlesDelete _ k s.n s.t s.s (settle_deletion _ (λ j. record (settled w k s.t s.n s.s.root) { deletes = deletes_left w s.t; doomed = dooms f s.t ++ w.doomed; blobs = same j }));
          commands = λ safe above alone. command_is safe ∙ counted safe above;
          early = early;
        })

    -- where its call failed it counts if the new record stands
    settle_fails : (b : Bool) (blobs : Blobs) → blobs ≡ w.blobs
        → Turned f w k (PruneStep SettlePruned) (Refused DepotFault) (record (if b then delete_settled f w k (fin.get w.tickets k) else w) { deposed = true; blobs = blobs })
    settle_fails b blobs same =
        subst (λ (x : World). Turned f w k (PruneStep SettlePruned) (Refused DepotFault) (record (if b then x else w) { deposed = true; blobs = blobs })) (sym (delete_settled_plain f w k s.n s.t s.s s.may))
        (record {
          turn = falls f w up (SettlesDelete _ k s.n s.t s.s (settle_deletion _ refl)) b blobs same refl;
          commands = λ safe above alone. command_is safe ∙ chosen b safe above (alone refl) ∙ sym (falls_commands f w up (SettlesDelete _ k s.n s.t s.s (settle_deletion _ refl)) b blobs same refl);
          early = early;
        })
      where
        chosen : (b : Bool) (safe : ℕ) → (if b then up else w).safe ≤ safe → safe ≡ (if b then up else w).safe → (if nat_lt s.n safe then s.s.commands else []) ≡ (if b then s.s.commands else [])
        chosen true safe le is = counted safe le
        chosen false safe le is = let e : safe ≡ w.safe = is in uncounted safe (omega (arith, e, above))

  -- ---- it removes, and ends

  remove_turn : (k : ℕ) (names : List BlobName) (i : Image) (reply : Reply) → RemovesDoomed f w k names (Some i) → Removes f w.blobs i.blobs names → Turned f w k (PruneStep (RemoveDoomed names)) reply (record w { blobs = i.blobs })
  remove_turn k names i reply r removes =
      plain f w k (PruneStep (RemoveDoomed names)) reply _
      (Removing _ k names (record {
        t = r.t;
        out = r.deleting.out;
        settled = r.settled;
        doomed = λ name m. l.pruned.settled k r.t r.uuids r.s r.deleting.out.there r.settled r.deleting.work name (r.doomed name m);
        now = i.blobs;
        removes = removes;
        new_is = refl;
      })) refl refl

  end_turn : (k : ℕ) (i : Image) → EndsDelete f w k (Some i) → i.blobs ≡ w.blobs → Turned f w k (PruneStep EndDelete) HasEnded (record (change w k (λ (t : Ticket). record t { out = false })) { blobs = i.blobs })
  end_turn k i e same =
      plain f w k (PruneStep EndDelete) HasEnded _
      (Ending _ k (record {
        t = e.t;
        out = e.deleting.out;
        no_shard = λ shard. subst IsShard e.deleting.work shard;
        done = inl e.settled;
        new_is = λ j. record (with_given w k (λ (t : Ticket). record t { out = false }) (e.deleting.out.there j)) { blobs = same j };
      })) refl refl

  -- ---- it fails

  module _ (k : ℕ) (why : Why) (i : Image) (c : FailsDeletion w k) (same : i.blobs ≡ w.blobs) where
    master : IsMaster c.t.work
    master = subst IsMaster (sym c.deleting.work) tt

    -- its op is open
    op_of : c.t.term ≡ w.term → (x : Deletion) × (fin.get w.deletes c.t.op ≡ Some x) × ((c.t.settled ≡ false) ⊎ (x.clean ≡ true))
    op_of pres = elim c.may [
      | inl uns ↦ let law = law_of k c.t c.uuids c.plan c.deleting.out.there c.deleting.out.out uns pres c.deleting.work in (law.deletion, law.there, inl uns)
      | inr h ↦ let (x, there) = h.1 pres in (x, there, inr (c.deleting.mode x there ∙ h.0))
    ]

    fails_present : c.t.term ≡ w.term → is_stale w c.t c.t.work ≡ false → Turned f w k (PruneStep (DeleteFails why)) HasEnded (record (delete_failed w k (fin.get w.tickets k)) { blobs = i.blobs })
    fails_present pres fresh =
        let (x, there, may) = op_of pres in
        plain f w k (PruneStep (DeleteFails why)) HasEnded _
        (FailsDelete _ k (record {
          t = c.t;
          out = c.deleting.out;
          present = pres;
          uuids = c.uuids;
          plan = c.plan;
          work = c.deleting.work;
          x = x;
          there = there;
          may = may;
          new_is = (λ j. record (delete_failed w k (c.deleting.out.there j)) { blobs = i.blobs })
              ∙ (λ j. record (if fresh j then with_ticket w k (record c.t { out = false }) else delete_failed_by w k c.t (fin.get w.deletes c.t.op)) { blobs = i.blobs })
              ∙ (λ j. record (delete_failed_by w k c.t (there j)) { blobs = same j });
        })) refl refl

    fails_stale : c.t.term ≢ w.term → is_stale w c.t c.t.work ≡ true → Turned f w k (PruneStep (DeleteFails why)) HasEnded (record (delete_failed w k (fin.get w.tickets k)) { blobs = i.blobs })
    fails_stale apart stale =
        plain f w k (PruneStep (DeleteFails why)) HasEnded _
        (Ending _ k (record {
          t = c.t;
          out = c.deleting.out;
          no_shard = λ shard. subst IsShard c.deleting.work shard;
          done = inr apart;
          new_is = (λ j. record (delete_failed w k (c.deleting.out.there j)) { blobs = i.blobs })
              ∙ (λ j. record (if stale j then with_ticket w k (record c.t { out = false }) else delete_failed_by w k c.t (fin.get w.deletes c.t.op)) { blobs = same j });
        })) refl refl

    fail_turn : Turned f w k (PruneStep (DeleteFails why)) HasEnded (record (delete_failed w k (fin.get w.tickets k)) { blobs = i.blobs })
    fail_turn = elim (eqb_tells c.t.term w.term) [
      | inl e ↦ fails_present e.1 (master_stale f w c.t c.t.work master ∙ ap (λ (b : Bool). if b then false else true) e.0)
      | inr e ↦ fails_stale e.1 (master_stale f w c.t c.t.work master ∙ ap (λ (b : Bool). if b then false else true) e.0)
    ]

-- ---- each answer

pub prune_turn : (f : Formats) (w : World) (shelf : List Shelved) → Law f w shelf → (i : Image) (who : ℕ) (prune : Prune) (reply : Reply) → PruneAllows f w who prune reply (Some i)
    → Turned f w who (PruneStep prune) reply (stepped f w (moment who (PruneStep prune) reply (Some i)))
prune_turn f w shelf l i who prune reply (FetchingShard k name im g found) = fetch_turn f w shelf l k name i g found.0 found.1 found.2
prune_turn f w shelf l i who prune reply (ShardMissing k name im g found) = stays f w k (PruneStep (FetchShard name)) WasAbsent (Some i) found.1 refl
prune_turn f w shelf l i who prune reply (FetchShardFails k name im g same) = fault_stays f w k (PruneStep (FetchShard name)) (Some i) same refl
prune_turn f w shelf l i who prune reply (Planning k shards im p fits back same) =
    let kept : i.blobs ≡ w.blobs = same in
    plain f w k (PruneStep (PlanShards shards)) (DrawnFrom w.next_id) _
    (DrawsPlan _ k (kept_count shards) (plan_draw f w shelf l k shards i p fits back _
    ((λ j. record (record (with_given w k (planned f shards w.next_id) (p.deleting.out.there j)) { next_id = w.next_id + kept_count shards }) { blobs = i.blobs })
    ∙ (λ j. record w { next_id = w.next_id + kept_count shards; tickets = fin.insert w.tickets k (record p.t { first = w.next_id; drawn = kept_count shards; work = planned_work f p.t shards w.next_id (p.deleting.work j) }); blobs = kept j }))))
    refl refl
prune_turn f w shelf l i who prune reply (PlanSpent k shards im p spent same) = stays f w k (PruneStep (PlanShards shards)) _ (Some i) same refl
prune_turn f w shelf l i who prune reply (SettlingDelete k im s present same) = settle_turn f w shelf l k s present i.blobs same
prune_turn f w shelf l i who prune reply (SettleDeleteStale k im s apart same) = stays f w k (PruneStep SettlePruned) _ (Some i) same refl
prune_turn f w shelf l i who prune reply (SettleDeleteFails k im s present same) = settle_fails f w shelf l k s present _ i.blobs same
prune_turn f w shelf l i who prune reply (RemovingDoomed k names im r removed) = remove_turn f w shelf l k names i WasRemoved r removed.0
prune_turn f w shelf l i who prune reply (RemoveDoomedFails k names im r removes) = remove_turn f w shelf l k names i (Refused DepotFault) r removes
prune_turn f w shelf l i who prune reply (EndingDelete k im e same) = end_turn f w shelf l k i e same
prune_turn f w shelf l i who prune reply (FailingDelete k why im c same) = fail_turn f w shelf l k why i c same
