-- Each step keeps what is to be written free, where no call of the container fails.
use Rattle.std.proofs.Common.{◌≡◌, ◌≢◌, ◌⊎◌, ℕ, zero, suc, ◌+◌, ◌<◌, List, [], ◌∷◌, ◌++◌, Bool, true, false, Option, Some, None, map, refl, sym, ap, ◌∙◌, subst, inl, inr, arith}
use Rattle.std.specs.Prelude.{if◌then◌else◌}
use Rattle.std.specs.FinMap as fin
use Rattle.esr_model.specs.Names.{BlobName, Latest, ShardSnap}
use Rattle.esr_model.specs.Values.{Bytes, Has, ShardResult, ReadsBack, Formats}
use Rattle.esr_model.specs.Shelf.{Shelved}
use Rattle.esr_model.specs.Places.{places}
use Rattle.esr_model.specs.Cleanup.{IsPageOf}
use Rattle.esr_model.specs.Image.{Image, Blobs, At, Present}
use Rattle.esr_core.specs.World.{World, Op, ShardWork, ShardState, Pending, Shard, Deleting, Drop, Ticket, Swap, ReadState, Restored, NotRestored, Restoring, Reader, Caller, no_caller, HeldIn}
use Rattle.esr_core.specs.Restores as restoring
use Rattle.esr_core.specs.Restores.{IsTestOf, put_restore, read_more, restore_of, shard_handed}
use Rattle.esr_core.specs.Generations.{IsLive}
use Rattle.esr_core.specs.Ready.{Waits}
use Rattle.esr_core.specs.Steps.{Largest, Removes, with_ticket, settled, given, completing, shard_ticket, final_ticket, plain_ticket}
use Rattle.esr_core.specs.Turns.{cleaning_ticket, fails}
use Rattle.esr_core.specs.Past.{with_entry}
use Rattle.esr_core.specs.Ids.{Law}
use Rattle.esr_core.specs.Entry.{AskedIndex, CloneOf, Snapshot, Clone, Given, GivenShard, GivenFinalize, GivenDrop, GivenRestore, GivenClone, GivenDelete, GivenCleanup, Why, Read, ReadBlob, RestoredShard, CommitTest, RemoveTests, ReadFails, Step, CommitStep, LatestStep, ReadStep, DepotFault, Reply, WasDone, WasReplaced, WasFetched, WasAbsent, WasRemoved, HasEnded, Refused, Moment}
use Rattle.esr_core.specs.After.{new_names, asked, asked_op, cloned_op, taken_by, taken_shard, taken_restore, taken_restore_shard, read_told, shard_over, read_over, caller_told, caller_wrote, with_given, committing, told_blob, done_of, done_by, failed_of, failed_by, is_stale, settled_of, dropped_of, blobs_in, after}
use Rattle.esr_core.specs.Allowed as allowed
use Rattle.esr_core.specs.Allowed.{latest_text, Told, SameBlobs, Adds, Gives, Commits, Settles, Fails, Dones, Drops, MayDrawTest, IsOwnTest, ReadAllows, ReadFound, ReadMissing, ReadFault, RestoringShard, ReaderFailing, VerifyAllows, DrawingTest, TestSpent, BeginningTest, CommittingTest, TestTaken, RemovingTests, VerifyingAll, VerifyFailing, Allows, Allowed}
use Rattle.esr_core.specs.Laws.SnapshotOps.{in_all}
use Rattle.esr_core.specs.Laws.CloneOps.{copied_pending}
use Rattle.std.specs.Cmp.Lexicographic.{nat_list_cmp_total}
use Rattle.std.proofs.lemmas.Option.{none-some, same_Some}
use Rattle.esr_core.specs.Laws.NumberMaps.{was_in}
use Rattle.esr_core.specs.Laws.BlobFrames.{text_one, at_kept, at_new, at_was, at_back}
use Rattle.esr_core.specs.Laws.ShardStates.{out_pending, failed_is, failed_goes, live_was, given_is, goes_on, pending_done}
use Rattle.esr_core.specs.Laws.Asides.{blocked_stays}
use Rattle.esr_core.specs.Laws.Maps.{get_other, texts_same}
use Rattle.esr_core.specs.Laws.Moments.{moment, settled_plain}
use Rattle.esr_model.specs.Lists.{Has-left, Has-right}
use Rattle.esr_quiet.specs.Free.{AreOwnTests}
use Rattle.esr_quiet.proofs.FreeFrame.{IsFree, own_all, Tests, IsNewTicket, Waited, IsNewShard, ListsDone, framed, framed_aside, heard_after, with_entries}
use Rattle.esr_quiet.proofs.FreeNames.{one_place, snap_alone, test_id_below}
use Rattle.esr_quiet.proofs.FreeParts.{Were, Back, at_same, told_same, own_were, tests_was, tests_none, follows_same, came_all, came_put, came_new, own_put, own_new, WaitedBy, waited_as, waited_map, waited_left, live_left}
use Rattle.esr_quiet.proofs.FreeBlobs.{used_below, free_committed}
use Rattle.esr_quiet.proofs.FreeEnds.{has_indexed, free_done, live_settled}
use Rattle.esr_quiet.proofs.FreeTickets.{waited, kept, beside, called, elected, changed, ended, noted, finds, fetches, lists, tries, ends, draws, raises}
use Rattle.esr_quiet.proofs.FreeDeletes.{prunes, goes_into, opens_cleanup}
use Rattle.esr_quiet.proofs.Alone.{IsAlone}
use Rattle.esr_core.specs.Deletes.{named_uuids, waiting_delete, running_delete}

-- the blobs after `index.latest` is replaced
latest_back : (f : Formats) (blobs now : Blobs) (bytes : Bytes) → now ≡ fin.insert blobs (f.names.text Latest) bytes → ReadsBack f.names Latest → Back f now blobs
latest_back f blobs now bytes is named = record {
  were = at_back f blobs now (inr (bytes, is, named));
  tests = λ id name b test h.
      (ap (λ (x : Blobs). fin.get x (f.names.text name)) is ∙ get_other nat_list_cmp_total texts_same blobs (f.names.text Latest) bytes (f.names.text name) (λ same. h.1.1 (text_one f name Latest h.1.0 named same)) ∙ h.0, h.1);
}

-- a shard that waits after a failure is as it was
fails_waits : (k : ℕ) (z : ShardWork) → Waits (fails k z).state → WaitedBy z (fails k z)
fails_waits k z waits = elim (failed_is k z) [
  | inl h ↦ absurd (subst (λ (x : ShardWork). Waits x.state) h.1 waits)
  | inr h ↦ waited_as z (fails k z) h.2 waits
]

-- a plan that isn't there yet
pub unplanned : (uuids us : List ℕ) (s : Swap) → Deleting uuids None ≡ Deleting us (Some s) → ⊥
unplanned uuids us s e = none-some s (same_plan e)
  where
    same_plan : {a b : List ℕ} {p q : Option Swap} → Deleting a p ≡ Deleting b q → p ≡ q
    same_plan h = cc

-- a ticket of no shard is new
plain_new : (f : Formats) (w : World) (v : Ticket) → ((i n : ℕ) → v.work ≡ Shard i n → ⊥) → v.raised ≡ None → ((uuids : List ℕ) (s : Swap) → v.work ≡ Deleting uuids (Some s) → ⊥) → IsNewTicket f w v
plain_new f w v no_shard unraised no_plan =
    record { commits = λ name c p. let (i, n, work, same) = one_place v v name c c in no_shard i n work; unraised = unraised; base = λ i n g work e. absurd (no_shard i n work); no_plan = no_plan }

module _ (f : Formats) (w : World) (shelf : List Shelved) (law : Law f w shelf) (l : IsFree f w) where
  -- ---- ops

  -- the shards of a new op are pending, under an id that is next
  opens : (new : Op) → new.uuid ≡ w.next_id → ((s : ShardWork) → Has new.shards s → s.state ≡ Pending) → (completed : List ℕ) (next_id : ℕ) (blobs : Blobs) → Back f blobs w.blobs
      → IsFree f (record w { ops = fin.insert w.ops w.next_op new; next_op = suc w.next_op; completed = completed; next_id = next_id; blobs = blobs; caller = no_caller })
  opens new uuid_is pending completed next_id blobs back =
      framed f w (record w { ops = fin.insert w.ops w.next_op new; next_op = suc w.next_op; completed = completed; next_id = next_id; blobs = blobs; caller = no_caller }) l
      (came_all f w) (own_all f w l) ops live back.were (tests_none f blobs no_caller refl refl)
    where
      new_shard : (s : ShardWork) → IsNewShard f w new s
      new_shard s =
          record {
            absent = λ p. let b : new.uuid < w.next_id = (law.ids.blobs (ShardSnap s.ref.id s.number new.uuid) p).1 in let e : new.uuid ≡ w.next_id = uuid_is in omega (arith, b, e);
            unlisted = λ g held list used reads m same. let b : list.uuid < w.next_id = used_below f w shelf law s.ref.id s.number g held list used reads m in let e : list.uuid ≡ w.next_id = same ∙ uuid_is in omega (arith, b, e);
          }

      ops : (o : ℕ) (op : Op) (s : ShardWork) → fin.get (fin.insert w.ops w.next_op new) o ≡ Some op → Has op.shards s → Waits s.state → Waited w op s ⊎ IsNewShard f w op s
      ops o op s e m waits = elim (was_in w.ops w.next_op new o op e) [
        | inl h ↦ inr (subst (λ (x : Op). IsNewShard f w x s) h.1 (new_shard s))
        | inr h ↦ waited f w shelf law l o op s h.1 m waits
      ]

      live : (i n g : ℕ) → IsLive w.root (fin.insert w.ops w.next_op new) i n g
          → IsLive w.root w.ops i n g ⊎ ListsDone f w (record w { ops = fin.insert w.ops w.next_op new; next_op = suc w.next_op; completed = completed; next_id = next_id; blobs = blobs; caller = no_caller }) i n g
      live i n g (inl h) = inl (inl h)
      live i n g (inr (uuid, d)) = elim (was_in w.ops w.next_op new d.number d.op d.there) [
        | inl h ↦ absurd (pending_done (sym (pending d.s (subst (λ (x : Op). Has x.shards d.s) (sym h.1) d.s_there)) ∙ d.state))
        | inr h ↦ inl (inr (uuid, record { number = d.number; op = d.op; there = h.1; uuid_is = d.uuid_is; s = d.s; s_there = d.s_there; r = d.r; state = d.state; index_is = d.index_is; shard_is = d.shard_is; generation_is = d.generation_is }))
      ]

  asks : (name : Bytes) (indices : List AskedIndex) (time : ℕ) (blobs : Blobs) → Back f blobs w.blobs → IsFree f (record (asked w (Snapshot name indices time)) { blobs = blobs; caller = no_caller })
  asks name indices time blobs back =
      opens (asked_op w name indices time) refl (λ s m. (in_all w indices (suc w.next_id) s m).0) (completing w.completed w.next_op (asked_op w name indices time).shards) (w.next_id + suc (new_names w indices)) blobs back

  clones : (source name : Bytes) (names : List Bytes) (time : ℕ) (taken : CloneOf) (blobs : Blobs) → Back f blobs w.blobs → IsFree f (record (asked w (Clone source name names time (Some taken))) { blobs = blobs; caller = no_caller })
  clones source name names time taken blobs back = opens (cloned_op w name time taken) refl (λ s m. copied_pending (places taken.indices) s m) (completing w.completed w.next_op (cloned_op w name time taken).shards) (suc w.next_id) blobs back

  -- a new ticket of no shard
  gives_plain : (v : Ticket) → IsNewTicket f w v → v.drawn ≡ 0 → (blobs : Blobs) → Back f blobs w.blobs → IsFree f (record w { tickets = fin.insert w.tickets w.next_ticket v; next_ticket = suc w.next_ticket; blobs = blobs })
  gives_plain v new undrawn blobs back =
      framed f w (record w { tickets = fin.insert w.tickets w.next_ticket v; next_ticket = suc w.next_ticket; blobs = blobs }) l (came_new f w w.next_ticket v new)
      (own_new w.tickets (own_all f w l) w.next_ticket v new.unraised undrawn) (waited f w shelf law l) (λ i n g h. inl h) back.were (tests_was f w l blobs back)

  -- a pending shard is given, on the largest live generation
  gives_shard : (o : ℕ) (op : Op) (s : ShardWork) (base : Option ℕ) → fin.get w.ops o ≡ Some op → Has op.shards s → s.state ≡ Pending → Largest w s.ref.id s.number base → (blobs : Blobs) → Back f blobs w.blobs
      → IsFree f (record w {
        ops = fin.insert w.ops o (record op { shards = map (given w.next_ticket s.ref.id s.number) op.shards });
        tickets = fin.insert w.tickets w.next_ticket (shard_ticket w o op s base);
        next_ticket = suc w.next_ticket;
        blobs = blobs;
      })
  gives_shard o op s base there m pending largest blobs back =
      framed f w (record w { ops = fin.insert w.ops o (record op { shards = map g op.shards }); tickets = fin.insert w.tickets w.next_ticket (shard_ticket w o op s base); next_ticket = suc w.next_ticket; blobs = blobs }) l
      (came_new f w w.next_ticket (shard_ticket w o op s base) new) (own_new w.tickets (own_all f w l) w.next_ticket (shard_ticket w o op s base) refl refl)
      (λ p q z e z_there waits. inl (waited_map w o op (record op { shards = map g op.shards }) g there refl refl by p q z e z_there waits))
      (λ i n gen h. inl (live_was f (HeldIn f w) w.root w.ops o op there g (goes_on w.next_ticket s.ref.id s.number) op.failed i n gen h))
      back.were (tests_was f w l blobs back)
    where
      g : ShardWork → ShardWork
      g = given w.next_ticket s.ref.id s.number

      by : (z : ShardWork) → Has op.shards z → Waits (given w.next_ticket s.ref.id s.number z).state → WaitedBy z (given w.next_ticket s.ref.id s.number z)
      by z z_there waits = elim (given_is w.next_ticket s.ref.id s.number z) [
        | inr h ↦ waited_as z (given w.next_ticket s.ref.id s.number z) h.1 waits
        | inl h ↦
            let same : s ≡ z = (law.lawful.sound.carried.ops o op there).distinct s z m z_there (sym h.0) (sym h.1) in
            record {
              ref = ap (λ (x : ShardWork). x.ref) h.2;
              number = ap (λ (x : ShardWork). x.number) h.2;
              waits = subst (λ (x : ShardState). Waits x) (sym pending ∙ ap (λ (x : ShardWork). x.state) same) tt;
              pending = λ e. absurd (out_pending (ap (λ (x : ShardWork). x.state) (sym h.2) ∙ e));
            }
      ]

      shard_same : {i n j k : ℕ} → Shard i n ≡ Shard j k → (i ≡ j) × (n ≡ k)
      shard_same e = (cc, cc)

      on : (b : Option ℕ) → Largest w s.ref.id s.number b → (gen : ℕ) → b ≡ Some gen → IsLive w.root w.ops s.ref.id s.number gen
      on None h gen e = absurd (none-some gen e)
      on (Some x) h gen e = subst (IsLive w.root w.ops s.ref.id s.number) (same_Some _ _ e) h.0

      never : (uuids : List ℕ) (plan : Swap) → Shard s.ref.id s.number ≡ Deleting uuids (Some plan) → ⊥
      never uuids plan e = cc

      new : IsNewTicket f w (shard_ticket w o op s base)
      new =
          record {
            commits = λ name c p.
                let (i, n, work, is) = snap_alone (shard_ticket w o op s base) refl name c in
                let same = shard_same work in
                l.free.pending o op s there m pending (subst (Present f w.blobs) (is ∙ (λ j. ShardSnap (sym same.0 j) (sym same.1 j) op.uuid)) p);
            unraised = refl;
            base = λ i n gen work e. let same = shard_same work in subst (λ (p : ℕ × ℕ). IsLive w.root w.ops p.0 p.1 gen) (λ j. (same.0 j, same.1 j)) (on base largest gen e);
            no_plan = never;
          }

  gives : (o : ℕ) (unit : Given) → Gives f w o unit → (blobs : Blobs) → Back f blobs w.blobs → IsFree f (record (taken_by f w o unit (fin.get w.ops o)) { blobs = blobs })
  gives o (GivenShard index number base) g blobs back =
      subst (λ x. IsFree f (record (taken_by f w o (GivenShard index number base) x) { blobs = blobs })) (sym g.ready.op_there)
      (subst (λ x. IsFree f (record (taken_shard w o g.op base x) { blobs = blobs })) (sym g.found) (gives_shard o g.op g.s base g.ready.op_there g.ready.s_there g.ready.pending g.largest blobs back))
  gives o (GivenFinalize info results) g blobs back =
      subst (λ x. IsFree f (record (taken_by f w o (GivenFinalize info results) x) { blobs = blobs })) (sym g.ready.op_there)
      (gives_plain (final_ticket f w o g.op results) (plain_new f w (final_ticket f w o g.op results) (λ i n e. cc) refl (λ uuids plan e. cc)) refl blobs back)
  gives o (GivenRestore index number uuid) g blobs back =
      subst (λ x. IsFree f (record (taken_restore w o index number x) { blobs = blobs })) (sym g.ready.there)
      (subst (λ x. IsFree f (record (taken_restore_shard w o g.r x) { blobs = blobs })) (sym g.found)
      (beside f w shelf law l (shard_handed w o g.r g.s).restores (shard_handed w o g.r g.s).readers w.next_op (suc w.next_ticket) blobs back.were w.caller (tests_was f w l blobs back)))
  gives o (GivenClone index number source base) g blobs back =
      subst (λ x. IsFree f (record (taken_by f w o (GivenClone index number source base) x) { blobs = blobs })) (sym g.ready.op_there)
      (subst (λ x. IsFree f (record (taken_shard w o g.op base x) { blobs = blobs })) (sym g.found) (gives_shard o g.op g.s base g.ready.op_there g.ready.s_there g.ready.pending g.largest blobs back))
  gives o (GivenDelete uuids) g blobs back = gives_plain (plain_ticket w o (Deleting uuids None)) (plain_new f w (plain_ticket w o (Deleting uuids None)) (λ i n e. cc) refl (unplanned uuids)) refl blobs back
  gives o GivenCleanup g blobs back = gives_plain (cleaning_ticket w o) (plain_new f w (cleaning_ticket w o) (λ i n e. cc) refl (unplanned [])) refl blobs back
  gives o GivenDrop g blobs back = dropping (fin.get w.ops o)
    where
      dropping : (found : Option Op) → IsFree f (record (taken_by f w o GivenDrop found) { blobs = blobs })
      dropping None = gives_plain (plain_ticket w o Drop) (plain_new f w (plain_ticket w o Drop) (λ i n e. cc) refl (λ uuids plan e. cc)) refl blobs back
      dropping (Some op) = gives_plain (plain_ticket w o Drop) (plain_new f w (plain_ticket w o Drop) (λ i n e. cc) refl (λ uuids plan e. cc)) refl blobs back

  -- ---- ends

  fails_op : (k : ℕ) (t : Ticket) → fin.get w.tickets k ≡ Some t → (o : Option Op) → fin.get w.ops t.op ≡ o → (blobs : Blobs) → Back f blobs w.blobs → IsFree f (record (failed_by w k t o) { blobs = blobs })
  fails_op k t there None e blobs back = kept f w shelf law l blobs back
  fails_op k t there (Some op) e blobs back =
      framed f w (record w { ops = fin.insert w.ops t.op (record op { shards = map (fails k) op.shards; failed = true }); tickets = fin.insert w.tickets k (record t { out = false }); blobs = blobs }) l
      (came_put f w k t (record t { out = false }) there (ended f w shelf law l t)) (own_put w.tickets (own_all f w l) k t (record t { out = false }) there refl refl refl)
      (λ p q z h z_there waits. inl (waited_map w t.op op (record op { shards = map (fails k) op.shards; failed = true }) (fails k) e refl refl (λ x x_there x_waits. fails_waits k x x_waits) p q z h z_there waits))
      (λ i n g h. inl (live_was f (HeldIn f w) w.root w.ops t.op op e (fails k) (failed_goes k) true i n g h))
      back.were (tests_was f w l blobs back)

  fails_step : (k : ℕ) (c : Fails w k) (blobs : Blobs) → Back f blobs w.blobs → IsFree f (record (failed_of w k (fin.get w.tickets k)) { blobs = blobs })
  fails_step k c blobs back = subst (λ x. IsFree f (record (failed_of w k x) { blobs = blobs })) (sym c.out.there) (by (is_stale w c.t c.t.work))
    where
      by : (b : Bool) → IsFree f (record (if b then with_ticket w k (record c.t { out = false }) else failed_by w k c.t (fin.get w.ops c.t.op)) { blobs = blobs })
      by true = ends f w shelf law l k c.t c.out.there blobs back
      by false = fails_op k c.t c.out.there (fin.get w.ops c.t.op) refl blobs back

  settles_step : (k : ℕ) (s : Settles f w k) (blobs : Blobs) → Back f blobs w.blobs → IsFree f (record (settled_of f w k (fin.get w.tickets k)) { blobs = blobs })
  settles_step k s blobs back =
      subst (λ (x : World). IsFree f (record x { blobs = blobs })) (sym (settled_plain f w k s))
      (framed f w (record (settled w k s.t s.n s.s.root) { deletes = fin.remove w.deletes s.t.op; blobs = blobs }) l
      (came_put f w k s.t (record s.t { settled = true }) s.may.out.there (follows_same f w s.t (record s.t { settled = true }) refl refl (λ e. e) (λ name h. h) refl refl refl refl))
      (own_put w.tickets (own_all f w l) k s.t (record s.t { settled = true }) s.may.out.there refl refl refl)
      (λ p q z h z_there waits. inl (waited_left w s.t.op p q z h z_there waits))
      (λ i n g h. inl (live_settled f w shelf law k s i n g h))
      back.were (tests_was f w l blobs back))

  drops_step : (k : ℕ) (image : Option Image) (d : Drops f w k image) (blobs : Blobs) → Back f blobs w.blobs → IsFree f (record (dropped_of w k (fin.get w.tickets k)) { blobs = blobs })
  drops_step k image d blobs back =
      subst (λ x. IsFree f (record (dropped_of w k x) { blobs = blobs })) (sym d.may.out.there)
      (framed f w (record w { ops = fin.remove w.ops d.may.t.op; deletes = fin.remove w.deletes d.may.t.op; tickets = fin.insert w.tickets k (record d.may.t { out = false }); blobs = blobs }) l
      (came_put f w k d.may.t (record d.may.t { out = false }) d.may.out.there (ended f w shelf law l d.may.t)) (own_put w.tickets (own_all f w l) k d.may.t (record d.may.t { out = false }) d.may.out.there refl refl refl)
      (λ p q z h z_there waits. inl (waited_left w d.may.t.op p q z h z_there waits))
      (λ i n g h. inl (live_left w.root w.ops d.may.t.op i n g h))
      back.were (tests_was f w l blobs back))

  -- ---- what is read

  tells : (k : ℕ) (name : BlobName) (bytes : Option Bytes) (q : Option Reader) (blobs : Blobs) → Back f blobs w.blobs → IsFree f (record (read_told w k name bytes q) { blobs = blobs })
  tells k name bytes None blobs back = kept f w shelf law l blobs back
  tells k name None (Some q) blobs back = kept f w shelf law l blobs back
  tells k name (Some b) (Some q) blobs back = beside f w shelf law l w.restores (fin.insert w.readers k (read_more q name b)) w.next_op w.next_ticket blobs back.were w.caller (tests_was f w l blobs back)

  ends_shard : (k : ℕ) (state : ReadState) (q : Reader) (r : Option Restoring) (blobs : Blobs) → Back f blobs w.blobs → IsFree f (record (shard_over w k state q r) { blobs = blobs })
  ends_shard k state q None blobs back = kept f w shelf law l blobs back
  ends_shard k state q (Some r) blobs back =
      beside f w shelf law l (put_restore w.restores q.op (record r { shards = map (restoring.ended k state) r.shards }))
      (fin.insert w.readers k (record q { out = false })) w.next_op w.next_ticket blobs back.were w.caller (tests_was f w l blobs back)

  ends_read : (k : ℕ) (state : ReadState) (q : Option Reader) (blobs : Blobs) → Back f blobs w.blobs → IsFree f (record (read_over w k state q) { blobs = blobs })
  ends_read k state None blobs back = kept f w shelf law l blobs back
  ends_read k state (Some q) blobs back = ends_shard k state q (fin.get w.restores q.op) blobs back

  -- ---- a verification

  -- no blob has the id that it draws
  draws_test : MayDrawTest w → (blobs : Blobs) → Back f blobs w.blobs → IsFree f (record w { next_id = suc w.next_id; blobs = blobs; caller = record w.caller { drawn = Some w.next_id } })
  draws_test idle blobs back =
      framed f w (record w { next_id = suc w.next_id; blobs = blobs; caller = record w.caller { drawn = Some w.next_id } }) l (came_all f w) (own_all f w l) (waited f w shelf law l)
      (λ i n g h. inl h) back.were (new, (tests_was f w l blobs back).1, λ name b h. let t = l.wrote_tests name b h in absurd (none-some t.0 (sym idle.undrawn ∙ t.2)))
    where
      new : AreOwnTests f blobs (record w.caller { drawn = Some w.next_id })
      new id name drawn test p =
          let below : id < w.next_id = test_id_below id name w.next_id test (law.ids.blobs name (p.0, back.were name p.0 p.1)) in
          let same : w.next_id ≡ id = same_Some _ _ drawn in
          absurd (omega (arith, below, same))

  commits_test : (name : BlobName) (bytes : Bytes) → IsOwnTest f w name → (blobs : Blobs) → Adds f w name bytes blobs
      → IsFree f (record w { doomed = name ∷ w.doomed; blobs = blobs; caller = record w.caller { committed = name ∷ w.caller.committed; wrote = (name, bytes) ∷ w.caller.wrote } })
  commits_test name bytes own blobs adds =
      framed_aside f w (record w { doomed = name ∷ w.doomed; blobs = blobs; caller = record w.caller { committed = name ∷ w.caller.committed; wrote = (name, bytes) ∷ w.caller.wrote } }) l
      (came_all f w) (own_all f w l) (waited f w shelf law l) (λ i n g h. inl h)
      (λ m b no_test h. elim (was m b h) [ inl e ↦ absurd (no_test own.id (subst (IsTestOf own.id) (sym e) own.test)) | inr old ↦ old ]) (
        λ id m drawn test p. elim (was m p.0 p.1) [ inl e ↦ inl (sym e) | inr old ↦ inr (l.free.tests id m drawn test (p.0, old)) ],
        λ m b h left. elim h [
          | inl e ↦ subst (λ (x : BlobName × Bytes). At f blobs x.0 x.1) e (now name bytes (at_new f w.blobs name bytes own.stored adds.0 []))
          | inr old ↦ now m b (at_kept f w.blobs name bytes own.stored adds.0 [] m b (l.free.wrote m b old left))
        ],
        λ m b h. elim h [ inl e ↦ (own.id, subst (λ (x : BlobName × Bytes). IsTestOf own.id x.0) e own.test, own.drawn) | inr old ↦ l.wrote_tests m b old ],
      )
    where
      was : (m : BlobName) (b : Bytes) → At f blobs m b → (m ≡ name) ⊎ At f w.blobs m b
      was m b h = elim (at_was f w.blobs name bytes own.stored adds.0 [] m b (subst (λ (x : Blobs). At f x m b) adds.1 h)) [ inl e ↦ inl e.0 | inr e ↦ inr e ]

      now : (m : BlobName) (b : Bytes) → At f (fin.insert w.blobs (f.names.text name) bytes) m b → At f blobs m b
      now m b h = subst (λ (x : Blobs). At f x m b) (sym adds.1) h

-- ---- each answer, where the image is told

module _ (f : Formats) (size : ℕ) (w : World) (shelf : List Shelved) (law : Law f w shelf) (l : IsFree f w) (alone : IsAlone w) where
  commits : (k : ℕ) (name : BlobName) (image : Option Image) (c : Commits f size w k name) → Told image (Adds f w name c.bytes) → (i : Image) → image ≡ Some i → IsFree f (heard_after f w (moment k (CommitStep name) WasDone image))
  commits k name None c adds i told = absurd (none-some i told)
  commits k name (Some x) c adds i told =
      let o : Option Bytes = fin.get x.blobs (f.names.text name) in
      let n = noted f w shelf law l c.t name o in
      subst (λ found. IsFree f (record (with_given w k (committing name (fin.get x.blobs (f.names.text name))) found) { blobs = x.blobs })) (sym c.out.there)
      (subst (λ b. IsFree f (record w { blobs = b; tickets = fin.insert w.tickets k (committing name (fin.get x.blobs (f.names.text name)) c.t) })) (sym adds.1)
      (free_committed f w shelf law l k c.t c.out name c.bytes c.may c.named adds.0 (committing name (fin.get x.blobs (f.names.text name)) c.t) n.0 n.1 n.2 n.3 n.4))

  replaces : (k : ℕ) (image : Option Image) (t : Ticket) → fin.get w.tickets k ≡ Some t → (n : ℕ) → ReadsBack f.names Latest → Told image (λ blobs. blobs ≡ fin.insert w.blobs (f.names.text Latest) (latest_text n)) → (i : Image)
      → image ≡ Some i
      → IsFree f (heard_after f w (moment k LatestStep WasReplaced image))
  replaces k None t there n named puts i told = absurd (none-some i told)
  replaces k (Some x) t there n named puts i told = tries f w shelf law l k t there x.blobs (latest_back f w.blobs x.blobs (latest_text n) puts named)

  does : (k : ℕ) (r : ShardResult) (image : Option Image) → Dones f size w k r image → SameBlobs w image → (i : Image) → image ≡ Some i → IsFree f (record (done_of w k r (fin.get w.tickets k)) { blobs = blobs_in image w.blobs })
  does k r None d same i told = absurd (none-some i told)
  does k r (Some x) d same i told =
      subst (λ o. IsFree f (record (done_of w k r o) { blobs = x.blobs })) (sym d.out.there)
      (subst (λ o. IsFree f (record (done_by w k r d.t o) { blobs = x.blobs })) (sym d.op_there)
      (free_done f w shelf law l k d.t d.out r d.is d.op d.op_there (has_indexed f size d.t r d.t.source d.done) x.blobs (at_same f w (Some x) same)))

  still : (image : Option Image) → SameBlobs w image → IsFree f (record w { blobs = blobs_in image w.blobs })
  still image same = kept f w shelf law l (blobs_in image w.blobs) (at_same f w image same)

  -- what who 0 has done begins anew
  anew : (image : Option Image) → SameBlobs w image → (caller : Caller) → caller.drawn ≡ None → caller.wrote ≡ [] → IsFree f (record w { blobs = blobs_in image w.blobs; caller = caller })
  anew image same caller none empty = called f w shelf law l (blobs_in image w.blobs) (at_same f w image same).were caller (tests_none f (blobs_in image w.blobs) caller none empty)

  -- it goes on
  goes : (image : Option Image) → SameBlobs w image → (caller : Caller) → Tests f (blobs_in image w.blobs) caller → IsFree f (record w { blobs = blobs_in image w.blobs; caller = caller })
  goes image same caller tests = called f w shelf law l (blobs_in image w.blobs) (at_same f w image same).were caller tests

  told_own : (blobs : Blobs) (name : BlobName) (bytes : Option Bytes) → Tests f blobs w.caller → Tests f blobs (caller_told w.caller name bytes)
  told_own blobs name None own = own
  told_own blobs name (Some b) own = own

  read_found : (k : ℕ) (name : BlobName) (image : Option Image) → SameBlobs w image → IsFree f (heard_after f w (moment k (ReadStep (ReadBlob name)) WasFetched image))
  read_found zero name image same = goes image same (caller_told w.caller name (told_blob f image name)) (told_own (blobs_in image w.blobs) name (told_blob f image name) (tests_was f w l (blobs_in image w.blobs) (at_same f w image same)))
  read_found (suc k) name image same = tells f w shelf law l (suc k) name (told_blob f image name) (fin.get w.readers (suc k)) (blobs_in image w.blobs) (at_same f w image same)

  read_missing : (k : ℕ) (name : BlobName) (image : Option Image) → SameBlobs w image → IsFree f (heard_after f w (moment k (ReadStep (ReadBlob name)) WasAbsent image))
  read_missing zero name image same = goes image same (record w.caller { fetched = name ∷ w.caller.fetched }) (tests_was f w l (blobs_in image w.blobs) (at_same f w image same))
  read_missing (suc k) name image same = still image same

  read_done : (k files bytes : ℕ) (image : Option Image) → SameBlobs w image → IsFree f (heard_after f w (moment k (ReadStep (RestoredShard files bytes)) HasEnded image))
  read_done zero files bytes image same = still image same
  read_done (suc k) files bytes image same = ends_read f w shelf law l (suc k) (Restored files bytes) (fin.get w.readers (suc k)) (blobs_in image w.blobs) (at_same f w image same)

  read_failed : (k : ℕ) (why : Why) (image : Option Image) → SameBlobs w image → IsFree f (heard_after f w (moment k (ReadStep (ReadFails why)) HasEnded image))
  read_failed zero why image same = anew image same no_caller refl refl
  read_failed (suc k) why image same = ends_read f w shelf law l (suc k) (NotRestored why) (fin.get w.readers (suc k)) (blobs_in image w.blobs) (at_same f w image same)

  reads : (k : ℕ) (read : Read) (reply : Reply) (image : Option Image) → reply ≢ Refused DepotFault → ReadAllows f w k read reply image → SameBlobs w image → IsFree f (heard_after f w (moment k (ReadStep read) reply image))
  reads k read reply image calm (ReadFound j name im stored by found) same = read_found j name im same
  reads k read reply image calm (ReadMissing j name im stored by none) same = read_missing j name im same
  reads k read reply image calm (ReadFault j name im stored by) same = absurd (calm refl)
  reads k read reply image calm (RestoringShard j files bytes im q out done) same = read_done j files bytes im same
  reads k read reply image calm (ReaderFailing j why im q out) same = read_failed j why im same
  reads k read reply image calm other same = anew image same no_caller refl refl

  adds_test : (name : BlobName) (bytes : Bytes) (image : Option Image) (i : Image) → image ≡ Some i → IsOwnTest f w name → Told image (Adds f w name bytes) → IsFree f (heard_after f w (moment 0 (ReadStep (CommitTest name)) WasDone image))
  adds_test name bytes None i told own adds = absurd (none-some i told)
  adds_test name bytes (Some x) i told own adds =
      let there : fin.get x.blobs (f.names.text name) ≡ Some bytes = ap (λ (blobs : Blobs). fin.get blobs (f.names.text name)) adds.1 ∙ (at_new f w.blobs name bytes own.stored adds.0 []).0 in
      subst (λ (o : Option Bytes). IsFree f (record w { doomed = name ∷ w.doomed; blobs = x.blobs; caller = caller_wrote w.caller name o })) (sym there) (commits_test f w shelf law l name bytes own x.blobs adds)

  removes_tests : (names : List BlobName) (image : Option Image) (i : Image) → image ≡ Some i → Told image (λ blobs. Removes f w.blobs blobs names × ((name : BlobName) → Has names name → fin.get blobs (f.names.text name) ≡ None))
      → IsFree f (heard_after f w (moment 0 (ReadStep (RemoveTests names)) WasRemoved image))
  removes_tests names None i told left = absurd (none-some i told)
  removes_tests names (Some x) i told left =
      let were : Were f x.blobs w.blobs = λ name b h. (left.0.left (f.names.text name) b h.0, h.1) in
      called f w shelf law l x.blobs were (record w.caller { removed = names ++ w.caller.removed }) (
        own_were f w l x.blobs were,
        λ m b h unremoved. left.0.stays m b (l.free.wrote m b h (λ gone. unremoved (Has-right names w.caller.removed m gone))) (λ now. unremoved (Has-left names w.caller.removed m now)),
        l.wrote_tests,
      )

  verifies : (read : Read) (reply : Reply) (image : Option Image) → reply ≢ Refused DepotFault → (i : Image) → image ≡ Some i → VerifyAllows f w read reply image → IsFree f (heard_after f w (moment 0 (ReadStep read) reply image))
  verifies read reply image calm i told (DrawingTest im idle fits same) = draws_test f w shelf law l idle (blobs_in im w.blobs) (at_same f w im same)
  verifies read reply image calm i told (TestSpent im idle spent same) = goes im same (record w.caller { spent = true }) (tests_was f w l (blobs_in im w.blobs) (at_same f w im same))
  verifies read reply image calm i told (BeginningTest name im own same) = still im same
  verifies read reply image calm i told (CommittingTest name bytes im own new adds) = adds_test name bytes im i told own adds
  verifies read reply image calm i told (TestTaken name im own found) = still im (told_same w im (λ blobs. Present f w.blobs name × (blobs ≡ w.blobs)) (λ blobs h. h.1) found)
  verifies read reply image calm i told (RemovingTests names im may left) = removes_tests names im i told left
  verifies read reply image calm i told (VerifyingAll im done same) = anew im same no_caller refl refl
  verifies read reply image calm i told (VerifyFailing why im begun same) = anew im same no_caller refl refl
  verifies read reply image calm i told other = absurd (calm refl)

  free_by : (who : ℕ) (step : Step) (reply : Reply) (image : Option Image) → reply ≢ Refused DepotFault → (i : Image) → image ≡ Some i → Allows f size w who step reply image → IsFree f (heard_after f w (moment who step reply image))
  free_by who step reply image calm i told (allowed.Accepting name indices time o im acc same) = asks f w shelf law l name indices time (blobs_in im w.blobs) (at_same f w im same)
  free_by who step reply image calm i told (allowed.GivingNothing im none same) = still im same
  free_by who step reply image calm i told (allowed.Giving k o unit im is lowest g same) = gives f w shelf law l o unit g (blobs_in im w.blobs) (at_same f w im same)
  free_by who step reply image calm i told (allowed.Drawing k n first im d same) = draws f w shelf law l k n d.may.t d.may.out.there d.may.shard (blobs_in im w.blobs) (at_same f w im same)
  free_by who step reply image calm i told (allowed.Beginning k name im c same) = still im same
  free_by who step reply image calm i told (allowed.BeginningLatest k im c same) = still im same
  free_by who step reply image calm i told (allowed.Committing k name im c adds) = commits k name im c adds i told
  free_by who step reply image calm i told (allowed.Finding k name im c found) =
      finds f w shelf law l k c.t c.out.there name (blobs_in im w.blobs) (at_same f w im (told_same w im (λ blobs. Present f w.blobs name × (blobs ≡ w.blobs)) (λ blobs h. h.1) found))
  free_by who step reply image calm i told (allowed.Replacing k im c named puts) = replaces k im c.t c.out.there c.n named puts i told
  free_by who step reply image calm i told (allowed.Fetching k name im g found) =
      fetches f w shelf law l k g.t g.out.there name (told_blob f im name) (blobs_in im w.blobs)
      (at_same f w im (told_same w im (λ blobs. (bytes : Bytes) × (fin.get w.blobs (f.names.text name) ≡ Some bytes) × (blobs ≡ w.blobs)) (λ blobs h. h.2) found))
  free_by who step reply image calm i told (allowed.Missing k name im g found) = still im (told_same w im (λ blobs. (fin.get w.blobs (f.names.text name) ≡ None) × (blobs ≡ w.blobs)) (λ blobs h. h.1) found)
  free_by who step reply image calm i told (allowed.Listing k from page im g shape here) =
      lists f w shelf law l k g.t g.out.there page (blobs_in im w.blobs) (at_same f w im (told_same w im (λ blobs. IsPageOf w.blobs from page × (blobs ≡ w.blobs)) (λ blobs h. h.1) here))
  free_by who step reply image calm i told (allowed.Raising k n im r same) = raises f w shelf law l k n r (blobs_in im w.blobs) (at_same f w im same)
  free_by who step reply image calm i told (allowed.Settling k im s same) = settles_step f w shelf law l k s (blobs_in im w.blobs) (at_same f w im same)
  free_by who step reply image calm i told (allowed.Doing k r im d same) = does k r im d same i told
  free_by who step reply image calm i told (allowed.Failing k why im c same) = fails_step f w shelf law l k c (blobs_in im w.blobs) (at_same f w im same)
  free_by who step reply image calm i told (allowed.Finishing k im c same) =
      changed f w shelf law l k c.t c.out.there (λ (t : Ticket). record t { out = false }) (ended f w shelf law l c.t) refl refl refl (blobs_in im w.blobs) (at_same f w im same)
  free_by who step reply image calm i told (allowed.Dropping k im c same) = drops_step f w shelf law l k im c (blobs_in im w.blobs) (at_same f w im same)
  free_by who step reply image calm i told (allowed.Electing im room same) = elected f w shelf law l (blobs_in im w.blobs) (at_same f w im same)
  free_by who step reply image calm i told (allowed.Looking im same) = anew im same (record no_caller { looked = true }) refl refl
  free_by who step reply image calm i told (allowed.OpeningRestore name place o uuid indices im acc same) =
      beside f w shelf law l (put_restore w.restores w.next_op (restore_of uuid place indices)) w.readers (suc w.next_op) w.next_ticket
      (blobs_in im w.blobs) (at_same f w im same).were no_caller (tests_none f (blobs_in im w.blobs) no_caller refl refl)
  free_by who step reply image calm i told (allowed.OpeningClone source name names time o t im acc same) = clones f w shelf law l source name names time t (blobs_in im w.blobs) (at_same f w im same)
  free_by who step reply image calm i told (allowed.GoingInto names im acc same) = goes_into f w shelf law l names (waiting_delete w) (running_delete w (named_uuids w names)) (blobs_in im w.blobs) (at_same f w im same)
  free_by who step reply image calm i told (allowed.OpeningCleanup im acc same) = opens_cleanup f w shelf law l (blobs_in im w.blobs) (at_same f w im same)
  free_by who step reply image calm i told (allowed.Reading k read rep im h same) = reads k read rep im calm h same
  free_by who step reply image calm i told (allowed.Verifying read rep im h) = verifies read rep im calm i told h
  free_by who step reply image calm i told (allowed.Pruning k prune rep im h) = prunes f w shelf law l alone k prune rep im calm i told h
  free_by who step reply image calm i told (allowed.Ruled command refusal im (allowed.Cleaning c d x recorded untaken there clean) same) = anew im same no_caller refl refl
  free_by who step reply image calm i told (allowed.Ruled command refusal im rule same) = anew im same no_caller refl refl
  free_by who step reply image calm i told (allowed.DrawSpent k n im may spent same) = still im same
  free_by who step reply image calm i told (allowed.RaiseStale k im may apart same) = still im same
  free_by who step reply image calm i told (allowed.SettleStale k n t s im may apart same) = still im same
  free_by who step reply image calm i told (allowed.DropStale k im may apart same) = still im same
  free_by who step reply image calm i told (allowed.RaiseSpent k im may present spent same) = still im same
  free_by who step reply image calm i told (allowed.ElectSpent im spent same) = still im same
  free_by who step reply image calm i told (allowed.Taken k name im c aside found) = still im (told_same w im (λ blobs. Present f w.blobs name × (blobs ≡ w.blobs)) (λ blobs h. h.1) found)
  free_by who step reply image calm i told other = absurd (calm refl)

pub step_free : (f : Formats) (size : ℕ) (w : World) (shelf : List Shelved) → Law f w shelf → IsFree f w → IsAlone w → (m : Moment) → m.entry.reply ≢ Refused DepotFault → (i : Image) → m.image ≡ Some i → Allowed f size w m
    → IsFree f (after f w m)
step_free f size w shelf law l alone m calm i told a = elim a.answered [
  | inl alive ↦ with_entries f (heard_after f w m) (after f w m).entries (free_by f size w shelf law l alone m.entry.who m.entry.step m.entry.reply m.image calm i told alive.1)
  | inr dead ↦ subst (IsFree f) (sym (blocked_stays f w m dead)) (with_entries f w (with_entry w.entries m.entry) l)
]
