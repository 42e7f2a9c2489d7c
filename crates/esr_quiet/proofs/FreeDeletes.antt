-- A delete or a cleanup that is asked for, and each step of its ticket, keeps what is to be written free, where no call of the container fails.
use Rattle.std.proofs.Common.{◌≡◌, ◌≢◌, ◌⊎◌, ℕ, suc, ◌+◌, List, [], ◌∷◌, ◌++◌, Bool, true, false, Option, Some, None, refl, sym, ap, ◌∙◌, subst, inl, inr, le_refl}
use Rattle.std.specs.Prelude.{if◌then◌else◌, filter}
use Rattle.std.specs.Ordering.{nat_cmp}
use Rattle.std.specs.FinMap.{FinMap}
use Rattle.std.specs.FinMap as fin
use Rattle.std.proofs.lemmas.Bool.{cases_Bool, cond-true, cond-false}
use Rattle.std.proofs.lemmas.Option.{none-some, same_Some}
use Rattle.esr_core.specs.Laws.NumberMaps.{left_in}
use Rattle.esr_model.specs.Names.{BlobName, ShardIndex}
use Rattle.esr_model.specs.Values.{Bytes, Has, RootSnap, RootData, SnapList, ShardFiles, Formats}
use Rattle.esr_model.specs.Shelf.{Shelved, names_uuid}
use Rattle.esr_model.specs.Image.{Image, Blobs, At, Reads}
use Rattle.esr_model.specs.Delete.{PrunedShard, kept_count, left_uuids, uuids_of, surviving, files_by, files_read, left_text, pruned_blobs}
use Rattle.esr_core.specs.World.{World, Op, Deletion, ShardWork, Ticket, Swap, no_caller}
use Rattle.esr_core.specs.Generations.{IsLive, IsNewIndex}
use Rattle.esr_core.specs.Ready.{Waits}
use Rattle.esr_core.specs.Restores.{IsTestOf}
use Rattle.esr_core.specs.Steps.{Removes, with_ticket, settled}
use Rattle.esr_core.specs.Pruning.{bare_shard, pruned_shards, IsPlanned, planned, dooms}
use Rattle.esr_core.specs.Deletes.{named_uuids, aborted_ops, with_named, delete_merged, delete_by}
use Rattle.esr_core.specs.Ids.{Law}
use Rattle.esr_core.specs.Turns.{Aborts}
use Rattle.esr_core.specs.Entry.{Prune, RemoveDoomed, PruneStep, DepotFault, Reply, WasRemoved, Refused}
use Rattle.esr_core.specs.After.{with_given, change, told_blob, is_stale, deletes_left, delete_settled, delete_failed_by, delete_failed, blobs_in}
use Rattle.esr_core.specs.Allowed.{Told, SameBlobs, MayPlan, SettlesDeletion, RemovesDoomed, PruneAllows, FetchingShard, ShardMissing, Planning, PlanSpent, SettlingDelete, SettleDeleteStale, RemovingDoomed, EndingDelete, FailingDelete}
use Rattle.esr_core.specs.Laws.DeleteAsks.{aborts}
use Rattle.esr_core.specs.Laws.DeleteRoots.{uuid_was, names_has, bytes_same}
use Rattle.esr_core.specs.Laws.DoomNames.{dooms_is, IsDoomed, APart, doomed_is}
use Rattle.esr_core.specs.Laws.Moments.{moment, delete_settled_plain}
use Rattle.esr_core.specs.Laws.PartNames.{in_parts}
use Rattle.esr_core.specs.Laws.PruneShards.{of_indices}
use Rattle.esr_model.specs.Lists.{Has-mapped}
use Rattle.esr_quiet.proofs.Alone.{IsAlone}
use Rattle.esr_quiet.proofs.FreeFrame.{IsFree, own_all, Tests, Follows, Waited, IsNewShard, ListsDone, framed, heard_after}
use Rattle.esr_quiet.proofs.FreeNames.{one_place}
use Rattle.esr_quiet.specs.QuietWorlds.{was_shards}
use Rattle.esr_quiet.proofs.FreeParts.{Were, Back, at_same, told_same, own_were, tests_was, tests_none, follows_same, came_all, came_put, own_put, own_drawn, waited_left, live_left}
use Rattle.esr_quiet.proofs.PlanNames.{plan_no_shard, new_plan}
use Rattle.esr_quiet.proofs.FreeTickets.{waited, kept, called, changed, ended, fetches, ends}

-- ---- what a delete dooms

-- no test blob
doomed_no_test : (f : Formats) (safe : ℕ) (old new : RootData) (uuids : List ℕ) (read : List (BlobName × Bytes)) (id : ℕ) (name : BlobName) → IsDoomed f safe old new uuids read name → IsTestOf id name → ⊥
doomed_no_test f safe old new uuids read id name (APart p was e part gone reads m left of) test = elim (in_parts p.index p.number e part of) [ inl is ↦ subst (IsTestOf id) is test | inr is ↦ subst (IsTestOf id) is.1 test ]
doomed_no_test f safe old new uuids read id name other test = test

-- ---- the texts of a plan

-- each is that of what is left of one of the shards
own_text : (f : Formats) (read : List (BlobName × Bytes)) (left : List ℕ) (shards : List PrunedShard) (next : ℕ) (name : BlobName) (b : Bytes) → Has (pruned_blobs f read left next shards) (name, b)
    → (p : PrunedShard) × Has shards p × (b ≡ left_text f left (files_read f read p))
own_text f read left [] next name b m = absurd m
own_text f read left (p ∷ shards) next name b m = elim (cases_Bool p.kept) [
  | inl t ↦ elim (subst (λ (l : List (BlobName × Bytes)). Has l (name, b)) (cond-true _ _ _ t) m) [
    | inl e ↦ (p, inl refl, ap (λ (x : BlobName × Bytes). x.1) (sym e))
    | inr later ↦ let r = own_text f read left shards (suc next) name b later in (r.0, inr r.1, r.2)
  ]
  | inr t ↦ let r = own_text f read left shards next name b (subst (λ (l : List (BlobName × Bytes)). Has l (name, b)) (cond-false _ _ _ t) m) in (r.0, inr r.1, r.2)
]

passed : {A : Type 0} (test : A → Bool) (xs : List A) (x : A) → Has (filter test xs) x → test x ≡ true
passed {A} test [] x m = absurd m
passed {A} test (y ∷ ys) x m = elim (cases_Bool (test y)) [
  | inl b ↦ elim (subst (λ (l : List A). Has l x) (cond-true _ _ _ b) m) [ inl same ↦ ap test (sym same) ∙ b | inr later ↦ passed test ys x later ]
  | inr b ↦ passed test ys x (subst (λ (l : List A). Has l x) (cond-false _ _ _ b) m)
]

-- what is left of a shard lists left snapshots alone
left_alone : (left : List ℕ) (was : ShardFiles) (l : SnapList) → Has (surviving left was).snapshots l → Has left l.uuid
left_alone left was l m = names_has left l.uuid (passed (λ (x : SnapList). names_uuid left x.uuid) was.snapshots l m)

-- ---- a delete that is asked for

module _ (f : Formats) (w : World) (shelf : List Shelved) (law : Law f w shelf) (l : IsFree f w) where
  -- ops that a delete aborts have their shards
  aborted : (ops : FinMap nat_cmp Op) (by : ℕ) → Aborts w.ops ops by → (deletes : FinMap nat_cmp Deletion) (next_op : ℕ) (blobs : Blobs) → Back f blobs w.blobs
      → IsFree f (record w { ops = ops; deletes = deletes; next_op = next_op; blobs = blobs; caller = no_caller })
  aborted ops by a deletes next_op blobs back =
      framed f w (record w { ops = ops; deletes = deletes; next_op = next_op; blobs = blobs; caller = no_caller }) l (came_all f w) (own_all f w l) on live back.were (tests_none f blobs no_caller refl refl)
    where
      on : (o : ℕ) (op : Op) (s : ShardWork) → fin.get ops o ≡ Some op → Has op.shards s → Waits s.state → Waited w op s ⊎ IsNewShard f w op s
      on o op s e m waits =
          let (old, there, how) = a.was o op e in
          let same = was_shards op old by how in
          inl (record { number = o; old = old; there = there; z = s; z_there = subst (λ (ss : List ShardWork). Has ss s) same.0 m; uuid = sym same.1; index = refl; shard = refl; waits = waits; pending = λ p. p })

      live : (i n g : ℕ) → IsLive w.root ops i n g → IsLive w.root w.ops i n g ⊎ ListsDone f w (record w { ops = ops; deletes = deletes; next_op = next_op; blobs = blobs; caller = no_caller }) i n g
      live i n g (inl h) = inl (inl h)
      live i n g (inr (uuid, d)) =
          let (old, there, how) = a.was d.number d.op d.there in
          let same = was_shards d.op old by how in
          inl (inr (
            uuid,
            record {
              number = d.number;
              op = old;
              there = there;
              uuid_is = sym same.1 ∙ d.uuid_is;
              s = d.s;
              s_there = subst (λ (ss : List ShardWork). Has ss d.s) same.0 d.s_there;
              r = d.r;
              state = d.state;
              index_is = d.index_is;
              shard_is = d.shard_is;
              generation_is = d.generation_is;
            },
          ))

  -- who 0 begins anew
  anew : (blobs : Blobs) → Back f blobs w.blobs → IsFree f (record w { blobs = blobs; caller = no_caller })
  anew blobs back = called f w shelf law l blobs back.were no_caller (tests_none f blobs no_caller refl refl)

  pub goes_into : (names : List Bytes) (waiting running : Option ℕ) (blobs : Blobs) → Back f blobs w.blobs → IsFree f (record (delete_by w names waiting running) { blobs = blobs; caller = no_caller })
  goes_into names (Some d) running blobs back = merged (fin.get w.deletes d)
    where
      merged : (found : Option Deletion) → IsFree f (record (delete_merged w names d found) { blobs = blobs; caller = no_caller })
      merged None = anew blobs back
      merged (Some x) = aborted (aborted_ops w (named_uuids w names) d) d (aborts w (named_uuids w names) d) (fin.insert w.deletes d (record x { uuids = with_named w x.uuids names })) w.next_op blobs back
  goes_into names None (Some d) blobs back = anew blobs back
  goes_into names None None blobs back =
      aborted (aborted_ops w (named_uuids w names) w.next_op) w.next_op (aborts w (named_uuids w names) w.next_op) (fin.insert w.deletes w.next_op (record { uuids = named_uuids w names; clean = false; failed = false })) (suc w.next_op) blobs back

  -- ---- a cleanup that is asked for

  pub opens_cleanup : (blobs : Blobs) → Back f blobs w.blobs → IsFree f (record w { deletes = fin.insert w.deletes w.next_op (record { uuids = []; clean = true; failed = false }); next_op = suc w.next_op; blobs = blobs; caller = no_caller })
  opens_cleanup blobs back =
      framed f w (record w { deletes = fin.insert w.deletes w.next_op (record { uuids = []; clean = true; failed = false }); next_op = suc w.next_op; blobs = blobs; caller = no_caller }) l
      (came_all f w) (own_all f w l) (waited f w shelf law l) (λ i n g h. inl h) back.were
      (tests_none f blobs no_caller refl refl)

  -- ---- its ticket has a plan

  module _ (k : ℕ) (shards : List PrunedShard) (image : Option Image) (p : MayPlan f w k shards image) where
    abbrev next : Ticket
    next = planned f shards w.next_id p.t

    like : Follows f w p.t (planned f shards w.next_id p.t)
    like =
        record {
          work = λ i n e. absurd (plan_no_shard f w shelf law k shards image p i n e);
          plans = λ uuids s e. inr (new_plan f w shelf law k shards image p uuids s e);
          base = refl;
          out = λ e. e;
          noted = λ name h. h;
          commits = λ name c. let (i, n, work, same) = one_place (planned f shards w.next_id p.t) (planned f shards w.next_id p.t) name c c in absurd (plan_no_shard f w shelf law k shards image p i n work);
          raised = λ n e. inl e;
        }

    plans : (blobs : Blobs) → Back f blobs w.blobs → IsFree f (record (change w k (planned f shards w.next_id)) { next_id = w.next_id + kept_count shards; blobs = blobs })
    plans blobs back =
        subst (λ o. IsFree f (record (with_given w k (planned f shards w.next_id) o) { next_id = w.next_id + kept_count shards; blobs = blobs })) (sym p.deleting.out.there)
        (framed f w (record w { tickets = fin.insert w.tickets k next; next_id = w.next_id + kept_count shards; blobs = blobs }) l (came_put f w k p.t next p.deleting.out.there like)
        (own_drawn w.tickets (own_all f w l) k p.t next w.next_id p.deleting.out.there refl (le_refl w.next_id) (λ j u e. (law.ids.tickets j u e).drawn)) (waited f w shelf law l) (λ i n g h. inl h) back.were (tests_was f w l blobs back))

  -- ---- it settles

  module _ (k : ℕ) (s : SettlesDeletion f w k) (present : s.t.term ≡ w.term) where
    abbrev left : List ℕ
    left = left_uuids s.uuids (uuids_of s.t.root)

    plan : IsPlanned f s.t.clean s.t.root s.t.read s.t.first s.uuids s.s
    plan = (law.pruned.unsettled k s.t s.uuids (Some s.s) s.may.out.there s.may.out.out s.may.unsettled present s.deleting.work).follows s.s refl

    root_is : s.t.root ≡ w.root
    root_is = (law.lawful.queue.deleting k s.t s.may.out.there s.may.out.out s.may.unsettled present s.uuids (Some s.s) s.deleting.work).root_is

    written : (name : BlobName) (bytes : Bytes) → Has s.s.own (name, bytes) → At f w.blobs name bytes
    written name bytes own =
        (((law.lawful.sound.rooted.tickets k s.t s.may.out.there).swaps s.s (record { is = s.may.is; out = s.may.out.out; unsettled = s.may.unsettled }) (inl present)).noted name bytes own (s.may.ready name bytes own)).0

    -- what was read of a shard that it prunes
    was_read : (p : PrunedShard) → Has (pruned_shards f s.t.clean s.t.root s.uuids s.t.read) p → (was : ShardFiles) × (files_read f s.t.read p ≡ Some was)
    was_read p m =
        let h = (of_indices f s.t.read s.t.clean s.uuids (uuids_of s.t.root) s.t.root.indices p m).is in
        (h.was, ap (files_by f) (bytes_same s.t.read p (bare_shard _ _ p.base) h.index_is h.number_is refl) ∙ h.reads)

    -- a new index lists listed snapshots alone
    lists_listed : (i n g : ℕ) → IsNewIndex f w.ops s.s.own i n g → (held : ShardFiles) → Reads (At f w.blobs) (ShardIndex i n g) f.shard_index held → (list : SnapList) → Has held.snapshots list
        → (snap : RootSnap) × Has w.root.snapshots snap × (snap.uuid ≡ list.uuid)
    lists_listed i n g x held reads list m =
        let text : Bytes = f.shard_index.text x.index_of in
        let own : Has (pruned_blobs f s.t.read (left_uuids s.uuids (uuids_of s.t.root)) s.t.first (pruned_shards f s.t.clean s.t.root s.uuids s.t.read)) (ShardIndex i n g, text) =
        subst (λ (y : Swap). Has y.own (ShardIndex i n g, text)) plan.swap_is x.there in
        let (p, there, is) = own_text f s.t.read (left_uuids s.uuids (uuids_of s.t.root)) (pruned_shards f s.t.clean s.t.root s.uuids s.t.read) s.t.first (ShardIndex i n g) text own in
        let (was, read) = was_read p there in
        let bytes : reads.bytes ≡ f.shard_index.text (surviving left was) = same_Some reads.bytes text (sym reads.there.0 ∙ (written (ShardIndex i n g) text x.there).0) ∙ is ∙ ap (left_text f left) read in
        let same : held ≡ surviving left was = same_Some held (surviving left was) (sym reads.reads ∙ ap f.shard_index.read bytes ∙ plan.writable p was there read) in
        let listed : Has (uuids_of s.t.root) list.uuid = uuid_was s.uuids (uuids_of s.t.root) list.uuid (left_alone left was list (subst (λ (y : ShardFiles). Has y.snapshots list) same m)) in
        Has-mapped (λ (y : RootSnap). y.uuid) w.root.snapshots list.uuid (subst (λ (y : RootData). Has (uuids_of y) list.uuid) root_is listed)

    abbrev new : World
    new = record (settled w k s.t s.n s.s.root) { deletes = deletes_left w s.t; doomed = dooms f s.t ++ w.doomed }

    -- so none that is still to be made
    live : (i n g : ℕ) → IsLive s.s.root (fin.remove w.ops s.t.op) i n g → IsLive w.root w.ops i n g ⊎ ListsDone f w new i n g
    live i n g (inr h) = inl (live_left w.root w.ops s.t.op i n g (inr h))
    live i n g (inl h) = elim (law.lawful.sound.carried.plans k s.t s.may.out.there s.may.out.out s.may.unsettled present s.uuids s.s s.deleting.work i n g h) [
      | inl old ↦ inl (inl old)
      | inr x ↦ inr (λ o op z held list there m waits index number reads in_list same.
          let (snap, listed, is) = lists_listed i n g x held reads list in_list in
          (law.lawful.sound.carried.ops o op (left_in w.ops s.t.op o op there).1).unlisted snap listed (is ∙ same))
    ]

    settles : (blobs : Blobs) → Back f blobs w.blobs → IsFree f (record (delete_settled f w k (fin.get w.tickets k)) { blobs = blobs })
    settles blobs back =
        subst (λ (x : World). IsFree f (record x { blobs = blobs })) (sym (delete_settled_plain f w k s.n s.t s.s s.may))
        (framed f w (record (settled w k s.t s.n s.s.root) { deletes = deletes_left w s.t; doomed = dooms f s.t ++ w.doomed; blobs = blobs }) l
        (came_put f w k s.t (record s.t { settled = true }) s.may.out.there (follows_same f w s.t (record s.t { settled = true }) refl refl (λ e. e) (λ name h. h) refl refl refl refl))
        (own_put w.tickets (own_all f w l) k s.t (record s.t { settled = true }) s.may.out.there refl refl refl)
        (λ p q z h z_there waits. inl (waited_left w s.t.op p q z h z_there waits))
        live back.were (tests_was f w l blobs back))

  -- ---- it removes, and ends

  removes : IsAlone w → (k : ℕ) (names : List BlobName) (x : Image) → RemovesDoomed f w k names (Some x) → Removes f w.blobs x.blobs names → IsFree f (record w { blobs = x.blobs })
  removes alone k names x r away =
      framed f w (record w { blobs = x.blobs }) l (came_all f w) (own_all f w l) (waited f w shelf law l) (λ i n g h. inl h) were tests
    where
      were : Were f x.blobs w.blobs
      were name b h = (away.left (f.names.text name) b h.0, h.1)

      -- a cleanup's would, but it isn't worked while a verification is open
      unnamed : (id : ℕ) (name : BlobName) → IsTestOf id name → w.caller.drawn ≡ Some id → Has names name → ⊥
      unnamed id name test drawn m = elim (cases_Bool r.t.clean) [
        | inl clean ↦ alone id k r.t drawn r.deleting.out.there clean r.deleting.out.out
        | inr deletes ↦
            doomed_no_test f r.t.safe r.t.root r.s.root r.uuids r.t.read id name
            (doomed_is f r.t.safe r.t.root r.s.root r.uuids r.t.read name (subst (λ (ns : List BlobName). Has ns name) (dooms_is f r.t r.uuids r.s r.deleting.work deletes) (r.doomed name m))) test
      ]

      tests : Tests f x.blobs w.caller
      tests = (own_were f w l x.blobs were, λ name b h unremoved. let t = l.wrote_tests name b h in away.stays name b (l.free.wrote name b h unremoved) (unnamed t.0 name t.1 t.2), l.wrote_tests)

  fails_by : (k : ℕ) (t : Ticket) → fin.get w.tickets k ≡ Some t → (x : Option Deletion) (blobs : Blobs) → Back f blobs w.blobs → IsFree f (record (delete_failed_by w k t x) { blobs = blobs })
  fails_by k t there None blobs back = kept f w shelf law l blobs back
  fails_by k t there (Some x) blobs back =
      framed f w (record w { deletes = fin.insert w.deletes t.op (record x { failed = true }); tickets = fin.insert w.tickets k (record t { out = false }); blobs = blobs }) l
      (came_put f w k t (record t { out = false }) there (ended f w shelf law l t)) (own_put w.tickets (own_all f w l) k t (record t { out = false }) there refl refl refl)
      (waited f w shelf law l) (λ i n g h. inl h) back.were (tests_was f w l blobs back)

  fails : (k : ℕ) (t : Ticket) → fin.get w.tickets k ≡ Some t → (blobs : Blobs) → Back f blobs w.blobs → IsFree f (record (delete_failed w k (fin.get w.tickets k)) { blobs = blobs })
  fails k t there blobs back = subst (λ o. IsFree f (record (delete_failed w k o) { blobs = blobs })) (sym there) (by (is_stale w t t.work))
    where
      by : (b : Bool) → IsFree f (record (if b then with_ticket w k (record t { out = false }) else delete_failed_by w k t (fin.get w.deletes t.op)) { blobs = blobs })
      by true = ends f w shelf law l k t there blobs back
      by false = fails_by k t there (fin.get w.deletes t.op) blobs back

  -- ---- each answer, where the image is told

  removes_told : IsAlone w → (k : ℕ) (names : List BlobName) (image : Option Image) (i : Image) → image ≡ Some i → RemovesDoomed f w k names image
      → Told image (λ blobs. Removes f w.blobs blobs names × ((name : BlobName) → Has names name → fin.get blobs (f.names.text name) ≡ None))
      → IsFree f (heard_after f w (moment k (PruneStep (RemoveDoomed names)) WasRemoved image))
  removes_told alone k names None i told r away = absurd (none-some i told)
  removes_told alone k names (Some x) i told r away = removes alone k names x r away.0

  still : (image : Option Image) → SameBlobs w image → IsFree f (record w { blobs = blobs_in image w.blobs })
  still image same = kept f w shelf law l (blobs_in image w.blobs) (at_same f w image same)

  pub prunes : IsAlone w → (k : ℕ) (prune : Prune) (reply : Reply) (image : Option Image) → reply ≢ Refused DepotFault → (i : Image) → image ≡ Some i → PruneAllows f w k prune reply image
      → IsFree f (heard_after f w (moment k (PruneStep prune) reply image))
  prunes alone k prune reply image calm i told (FetchingShard j name im g found) =
      fetches f w shelf law l j g.t g.deleting.out.there name (told_blob f im name) (blobs_in im w.blobs)
      (at_same f w im (told_same w im (λ blobs. (bytes : Bytes) × (fin.get w.blobs (f.names.text name) ≡ Some bytes) × (blobs ≡ w.blobs)) (λ blobs h. h.2) found))
  prunes alone k prune reply image calm i told (ShardMissing j name im g found) = still im (told_same w im (λ blobs. (fin.get w.blobs (f.names.text name) ≡ None) × (blobs ≡ w.blobs)) (λ blobs h. h.1) found)
  prunes alone k prune reply image calm i told (Planning j shards im p fits back same) = plans j shards im p (blobs_in im w.blobs) (at_same f w im same)
  prunes alone k prune reply image calm i told (PlanSpent j shards im p spent same) = still im same
  prunes alone k prune reply image calm i told (SettlingDelete j im s present same) = settles j s present (blobs_in im w.blobs) (at_same f w im same)
  prunes alone k prune reply image calm i told (SettleDeleteStale j im s apart same) = still im same
  prunes alone k prune reply image calm i told (RemovingDoomed j names im r away) = removes_told alone j names im i told r away
  prunes alone k prune reply image calm i told (EndingDelete j im e same) =
      changed f w shelf law l j e.t e.deleting.out.there (λ (t : Ticket). record t { out = false }) (ended f w shelf law l e.t) refl refl refl (blobs_in im w.blobs) (at_same f w im same)
  prunes alone k prune reply image calm i told (FailingDelete j why im c same) = fails j c.t c.deleting.out.there (blobs_in im w.blobs) (at_same f w im same)
  prunes alone k prune reply image calm i told other = absurd (calm refl)
