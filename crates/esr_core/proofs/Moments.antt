-- Each moment of a legal history is a turn of the law.
use Rattle.std.proofs.Common.{◌≡◌, ◌≢◌, ◌⊎◌, ℕ, suc, ◌+◌, ◌<◌, ◌≤◌, List, [], Bool, true, false, Option, Some, None, refl, sym, ap, ◌∙◌, subst, inl, inr, arith, zero, ◌∷◌}
use Rattle.std.specs.Prelude.{if◌then◌else◌, ◌&&◌, ◌==◌, nat_lt}
use Rattle.std.proofs.lemmas.Bool.Decides.{eqb_tells}
use Rattle.std.proofs.lemmas.Bool.{lt-ltb, le-ltb}
use Rattle.std.specs.Cmp.Lexicographic.{nat_list_cmp_total}
use Rattle.std.specs.FinMap as fin
use Rattle.std.proofs.lemmas.Option.{same_Some}
use Rattle.esr_core.specs.Laws.Asides.{blobs_stay}
use Rattle.esr_model.specs.Names.{BlobName, Latest, ShardSnap}
use Rattle.esr_model.specs.Values.{Bytes, ShardResult, Formats, Has}
use Rattle.esr_model.specs.Shelf.{Shelved}
use Rattle.esr_model.specs.Kept.{first_id}
use Rattle.esr_model.specs.Cleanup.{BlobSize, IsPageOf}
use Rattle.esr_model.specs.Image.{Blobs, Image, At, Present}
use Rattle.esr_core.specs.World.{World, Op, Work, Shard, Finalize, Deleting, Drop, Ticket, ReadState, Restored, NotRestored, Restoring, Reader}
use Rattle.esr_core.specs.Ready.{IsShard, IsMaster}
use Rattle.esr_core.specs.Restores.{IsReading, ListsPiece, waits, restore_opened, shard_ended}
use Rattle.esr_core.specs.Steps.{IsOut, PutsLatest, Raise, with_ticket, noting, listing, settled, Removes, plain_ticket}
use Rattle.esr_core.specs.Ids.{Law}
use Rattle.esr_core.specs.Queue.{Lists}
use Rattle.esr_core.specs.Entry.{CloneOf, Snapshot, DeleteSnapshots, Given, GivenShard, GivenFinalize, GivenDrop, Why, Step, AskStep, TakeStep, DrawStep, BeginStep, CommitStep, LatestStep, FetchStep, ListStep, RaiseStep, SettleStep, DoneStep, FailedStep, FinishStep, DroppedStep, ElectStep, LookStep, DepotFault, Reply, WasSettled, HasEnded, Refused, Restore, Cleanup, Read, ReadBlob, RestoredShard, CheckedAll, ReadFails, ReadStep, AcceptedRestore, GivenRestore, DrawTest, BeginTest, CommitTest, RemoveTests, VerifiedAll, GivenClone, GivenDelete, GivenCleanup, Prune, PruneStep}
use Rattle.esr_core.specs.Past.{with_entry}
use Rattle.esr_core.specs.After.{asked, asked_op, cleanup_opened, cloned_op, clone_opened, taken_by, taken_shard, with_given, change, committing, fetching, told_blob, settled_of, settled_by, failed_of, failed_by, is_stale, dropped_of, is_latest, tried, blobs_in, after, stepped, caller_after, read_told, read_over, shard_over, taken_restore, taken_restore_shard, test_left}
use Rattle.esr_core.specs.Allowed as allowed
use Rattle.esr_core.specs.Allowed.{PruneAllows, latest_text, Told, SameBlobs, Adds, Accepts, Gives, Commits, Refinds, Puts, Raises, Settles, Fails, Finishes, Drops, Dones, Allows, MayRead, Fetcher, ByReader, MayDelete, AcceptsCleanup, ListsPage, AcceptsClone, ReadAllows, ReadFound, ReadMissing, ReadFault, RestoringShard, ReaderFailing, CheckingAll, CheckFailing, IsOwnTest, MayRemoveTests, VerifyAllows, DrawingTest, TestSpent, BeginningTest, BeginTestFails, CommittingTest, TestTaken, CommitTestFails, RemovingTests, RemoveTestsFails, VerifyingAll, VerifyFailing}
use Rattle.esr_core.specs.History.{counts, is_settle, command_of, command_by, commands_at}
use Rattle.esr_core.specs.Turns.{AskCreate, AsksCreate, AskCleanup, AsksCleanup, TakesCleanup, CleanDrops, Pages, cleaning_ticket, Turn, Stays, Latests, Fetches, Raises as RaisesTurn, Finds, SettlesFinal, Elects, TakesShard, TakesFinal, TakesDrop, DrawsShard, Ending, Fails as FailsTurn, Drops as DropsTurn, Deposes, commands_of, Besides, OpensRestore, HandsShard, ReadsMore, EndsShard, Calls, Tests, DrawsTest, AddsTest, RemovesTests, TakesDelete}
use Rattle.esr_core.specs.Turns as turns
use Rattle.esr_core.specs.Entry as entry
use Rattle.esr_core.specs.Deletes.{delete_number, asked_delete}
use Rattle.esr_core.specs.Laws.DeleteAsks.{delete_leaves}
use Rattle.esr_core.specs.Laws.Moments.{settled_plain as law-settled_plain, moment}
use Rattle.esr_core.proofs.AskedDeletes.{delete_turn}
use Rattle.esr_core.proofs.AskedClones.{accepted_clone}
use Rattle.esr_core.specs.Laws.Maps.{get_same, texts_same}
use Rattle.esr_core.proofs.ListedInfo.{made_info}

-- a step with the commands that count in an image with so many roots, by what the world after it says of them
pub record Turned (f : Formats) (w : World) (who : ℕ) (step : Step) (reply : Reply) (new : World) : Type 0 where
  pub turn : Turn f w new
  pub commands : (safe : ℕ) → new.safe ≤ safe → (new.deposed ≡ true → safe ≡ new.safe) → commands_at f safe w who step reply ≡ commands_of f w new turn
  -- in an image before it none counts
  pub early : (safe : ℕ) → safe ≤ w.safe → commands_at f safe w who step reply ≡ []

-- a step that is no settle
pub plain : (f : Formats) (w : World) (who : ℕ) (step : Step) (reply : Reply) (new : World) (turn : Turn f w new) → is_settle step ≡ false → commands_of f w new turn ≡ [] → Turned f w who step reply new
plain f w who step reply new turn no_settle none =
    record {
      turn = turn;
      commands = λ safe a b. ap (λ (x : Bool). if counts reply && x then command_of f safe (fin.get w.tickets who) else []) no_settle ∙ both (counts reply) safe ∙ sym none;
      early = λ safe a. ap (λ (x : Bool). if counts reply && x then command_of f safe (fin.get w.tickets who) else []) no_settle ∙ both (counts reply) safe;
    }
  where
    both : (x : Bool) (safe : ℕ) → (if x && false then command_of f safe (fin.get w.tickets who) else []) ≡ []
    both true safe = refl
    both false safe = refl

-- a step that leaves the world
pub stays : (f : Formats) (w : World) (who : ℕ) (step : Step) (reply : Reply) (image : Option Image) → SameBlobs w image → counts reply ≡ false → Turned f w who step reply (record w { blobs = blobs_in image w.blobs })
stays f w who step reply image same no_count =
    record {
      turn = Stays (record w { blobs = blobs_in image w.blobs }) (λ j. record w { blobs = blobs_stay w image same j });
      commands = λ safe a b. ap (λ (x : Bool). if x && is_settle step then command_of f safe (fin.get w.tickets who) else []) no_count;
      early = λ safe a. ap (λ (x : Bool). if x && is_settle step then command_of f safe (fin.get w.tickets who) else []) no_count;
    }

module _ (f : Formats) (w : World) where
  raise_turn : (k n : ℕ) (image : Option Image) → Raises f w k n → SameBlobs w image
      → Raise f w k (record (record (change w k (λ (t : Ticket). record t { raised = Some w.pending })) { pending = suc w.pending }) { blobs = blobs_in image w.blobs })
  raise_turn k n image r same =
      record {
        t = r.may.t;
        out = r.may.out;
        swapped = r.may.s;
        is = r.may.is;
        unsettled = r.may.unsettled;
        present = r.present;
        once = r.may.once;
        new_is = λ j. record (record (with_given w k (λ (t : Ticket). record t { raised = Some w.pending }) (r.may.out.there j)) { pending = suc w.pending }) { blobs = blobs_stay w image same j };
      }

  -- a record swap that failed leaves the world as before, or as where Ok, and deposed
  pub falls : (up : World) → Turn f w up → (b : Bool) (blobs : Blobs) → blobs ≡ w.blobs → up.blobs ≡ w.blobs → Turn f w (record (if b then up else w) { deposed = true; blobs = blobs })
  falls up turn true blobs same kept = Deposes (record up { deposed = true; blobs = blobs }) up turn (λ j. record up { deposed = true; blobs = (same ∙ sym kept) j })
  falls up turn false blobs same kept = Deposes (record w { deposed = true; blobs = blobs }) w (Stays w refl) (λ j. record w { deposed = true; blobs = same j })

  -- its commands are those of the swap where the new record stands
  pub falls_commands : (up : World) (turn : Turn f w up) (b : Bool) (blobs : Blobs) (same : blobs ≡ w.blobs) (kept : up.blobs ≡ w.blobs)
      → commands_of f w (record (if b then up else w) { deposed = true; blobs = blobs }) (falls up turn b blobs same kept) ≡ (if b then commands_of f w up turn else [])
  unfolding falls
  falls_commands up turn true blobs same kept = refl
  falls_commands up turn false blobs same kept = refl

  -- a swap that is no settle
  falls_plain : (k : ℕ) (step : Step) (up0 up : World) (turn : Turn f w up) (b : Bool) (image : Option Image) → SameBlobs w image → up0 ≡ up → up.blobs ≡ w.blobs → is_settle step ≡ false → commands_of f w up turn ≡ []
      → Turned f w k step (Refused DepotFault) (record (if b then up0 else w) { deposed = true; blobs = blobs_in image w.blobs })
  falls_plain k step up0 up turn b image same is kept no_settle none =
      subst (λ (x : World). Turned f w k step (Refused DepotFault) (record (if b then x else w) { deposed = true; blobs = blobs_in image w.blobs })) (sym is)
      (plain f w k step (Refused DepotFault) _ (falls up turn b (blobs_in image w.blobs) (blobs_stay w image same) kept) no_settle
      (falls_commands up turn b (blobs_in image w.blobs) (blobs_stay w image same) kept ∙ neither b))
    where
      neither : (b : Bool) → (if b then commands_of f w up turn else []) ≡ []
      neither true = none
      neither false = refl

  -- ---- take

  gives_turn : (k o : ℕ) (unit : Given) (image : Option Image) → Gives f w o unit → SameBlobs w image → Turned f w 0 TakeStep (entry.Gave k o unit) (record (taken_by f w o unit (fin.get w.ops o)) { blobs = blobs_in image w.blobs })
  gives_turn k o (GivenShard index number base) image g same =
      plain f w 0 TakeStep (entry.Gave k o (GivenShard index number base)) _
      (TakesShard _ o g.op g.s base (record {
        ready = g.ready;
        largest = g.largest;
        new_is = (λ j. record (taken_by f w o (GivenShard index number base) (g.ready.op_there j)) { blobs = blobs_in image w.blobs }) ∙ (λ j. record (taken_shard w o g.op base (g.found j)) { blobs = blobs_stay w image same j });
      })) refl refl
  gives_turn k o (GivenFinalize info results) image g same =
      plain f w 0 TakeStep (entry.Gave k o (GivenFinalize info results)) _
      (TakesFinal _ o g.op results (record {
        ready = g.ready;
        root_back = g.root_back;
        new_is = λ j. record (taken_by f w o (GivenFinalize info results) (g.ready.op_there j)) { blobs = blobs_stay w image same j };
      })) refl refl
  gives_turn k o (GivenClone index number source base) image g same =
      plain f w 0 TakeStep (entry.Gave k o (GivenClone index number source base)) _
      (TakesShard _ o g.op g.s base (record {
        ready = g.ready;
        largest = g.largest;
        new_is = (λ j. record (taken_by f w o (GivenClone index number source base) (g.ready.op_there j)) { blobs = blobs_in image w.blobs }) ∙ (λ j. record (taken_shard w o g.op base (g.found j)) { blobs = blobs_stay w image same j });
      })) refl refl
  gives_turn k o (GivenDelete uuids) image g same =
      plain f w 0 TakeStep (entry.Gave k o (GivenDelete uuids)) _ (TakesDelete _ o g.0 (record { ready = g.1; new_is = deleting (fin.get w.ops o) })) refl refl
    where
      deleting : (found : Option Op)
          → record (taken_by f w o (GivenDelete uuids) found) { blobs = blobs_in image w.blobs } ≡ record w { tickets = fin.insert w.tickets w.next_ticket (plain_ticket w o (Deleting g.0.uuids None)); next_ticket = suc w.next_ticket }
      deleting None = λ j. record w { tickets = fin.insert w.tickets w.next_ticket (plain_ticket w o (Deleting (g.2 j) None)); next_ticket = suc w.next_ticket; blobs = blobs_stay w image same j }
      deleting (Some op) = λ j. record w { tickets = fin.insert w.tickets w.next_ticket (plain_ticket w o (Deleting (g.2 j) None)); next_ticket = suc w.next_ticket; blobs = blobs_stay w image same j }
  gives_turn k o GivenCleanup image g same =
      plain f w 0 TakeStep (entry.Gave k o GivenCleanup) _ (TakesCleanup _ o g.0 (record { ready = g.1; new_is = cleaning (fin.get w.ops o) })) refl refl
    where
      cleaning : (found : Option Op) → record (taken_by f w o GivenCleanup found) { blobs = blobs_in image w.blobs } ≡ record w { tickets = fin.insert w.tickets w.next_ticket (cleaning_ticket w o); next_ticket = suc w.next_ticket }
      cleaning None = λ j. record w { tickets = fin.insert w.tickets w.next_ticket (cleaning_ticket w o); next_ticket = suc w.next_ticket; blobs = blobs_stay w image same j }
      cleaning (Some op) = λ j. record w { tickets = fin.insert w.tickets w.next_ticket (cleaning_ticket w o); next_ticket = suc w.next_ticket; blobs = blobs_stay w image same j }
  gives_turn k o (GivenRestore index number uuid) image g same =
      plain f w 0 TakeStep (entry.Gave k o (GivenRestore index number uuid)) _
      (Besides _ w (Stays w refl) (HandsShard _ o g.r g.s (record {
        ready = g.ready;
        new_is = (λ j. record (taken_restore w o index number (g.ready.there j)) { blobs = blobs_in image w.blobs }) ∙ (λ j. record (taken_restore_shard w o g.r (g.found j)) { blobs = blobs_stay w image same j });
      }))) refl refl
  gives_turn k o GivenDrop image g same =
      plain f w 0 TakeStep (entry.Gave k o GivenDrop) _ (TakesDrop _ o (record { ready = g; new_is = dropping (fin.get w.ops o) })) refl refl
    where
      dropping : (found : Option Op) → record (taken_by f w o GivenDrop found) { blobs = blobs_in image w.blobs } ≡ record w { tickets = fin.insert w.tickets w.next_ticket (plain_ticket w o Drop); next_ticket = suc w.next_ticket }
      dropping None = λ j. record w { tickets = fin.insert w.tickets w.next_ticket (plain_ticket w o Drop); next_ticket = suc w.next_ticket; blobs = blobs_stay w image same j }
      dropping (Some op) = λ j. record w { tickets = fin.insert w.tickets w.next_ticket (plain_ticket w o Drop); next_ticket = suc w.next_ticket; blobs = blobs_stay w image same j }

  -- ---- blobs

  commit_turn : (size k : ℕ) (name : BlobName) (i : Image) (c : Commits f size w k name) → Adds f w name c.bytes i.blobs
      → Turned f w k (CommitStep name) entry.WasDone (record (change w k (committing name (told_blob f (Some i) name))) { blobs = i.blobs })
  commit_turn size k name i c adds =
      let told : fin.get i.blobs (f.names.text name) ≡ Some c.bytes = ap (λ (b : Blobs). fin.get b (f.names.text name)) adds.1 ∙ get_same nat_list_cmp_total texts_same w.blobs (f.names.text name) c.bytes in
      plain f w k (CommitStep name) entry.WasDone _
      (turns.Commits _ k name (record { t = c.t; out = c.out; bytes = c.bytes; named = c.named; may = c.may; absent = adds.0; new_is = λ j. record (with_given w k (committing name (told j)) (c.out.there j)) { blobs = adds.1 j } })) refl refl

  commit_fails : (size k : ℕ) (name : BlobName) (i : Image) (c : Commits f size w k name) → (i.blobs ≡ w.blobs) ⊎ Adds f w name c.bytes i.blobs → Turned f w k (CommitStep name) (Refused DepotFault) (record w { blobs = i.blobs })
  commit_fails size k name i c leaves =
      plain f w k (CommitStep name) (Refused DepotFault) _
      (turns.CommitFails _ k name
      (record { t = c.t; out = c.out; bytes = c.bytes; named = c.named; may = c.may; leaves = elim leaves [ inl e ↦ inl (λ j. record w { blobs = e j }) | inr adds ↦ inr (adds.0, λ j. record w { blobs = adds.1 j }) ] })) refl refl

  find_turn : (k : ℕ) (name : BlobName) (image : Option Image) → Refinds f w k name → (bytes : Bytes) → At f w.blobs name bytes → SameBlobs w image
      → Turned f w k (CommitStep name) entry.WasThere (record (change w k (λ (t : Ticket). noting t name)) { blobs = blobs_in image w.blobs })
  find_turn k name image c bytes there same =
      plain f w k (CommitStep name) entry.WasThere _
      (Finds _ k name (record {
        t = c.t;
        out = c.out;
        info = c.info;
        results = c.results;
        made = c.made;
        work = c.work;
        bytes = c.bytes;
        own = c.own;
        there = (bytes, there);
        new_is = λ j. record (with_given w k (λ (t : Ticket). noting t name) (c.out.there j)) { blobs = blobs_stay w image same j };
      })) refl refl

  latest_turn : (k : ℕ) (step : Step) (reply : Reply) (image : Option Image) → Puts f w k → is_settle step ≡ false → (blobs : Blobs) → PutsLatest f w.blobs blobs
      → Turned f w k step reply (record (change w k (λ (t : Ticket). record t { tried_latest = true })) { blobs = blobs })
  latest_turn k step reply image c no_settle blobs puts =
      plain f w k step reply _
      (Latests _ k (record {
        now = blobs;
        puts = puts;
        tries = record {
          t = c.t;
          out = record { there = c.out.there; out = c.out.out };
          s = c.s;
          is = c.is;
          unsettled = c.unsettled;
          new_is = λ j. record (with_given w k (λ (t : Ticket). record t { tried_latest = true }) (c.out.there j)) { blobs = blobs };
        };
      })) no_settle refl

  fetch_turn : (k : ℕ) (name : BlobName) (i : Image) (t : Ticket) → IsOut w k t → IsShard t.work → (bytes : Bytes) → At f w.blobs name bytes → i.blobs ≡ w.blobs
      → Turned f w k (FetchStep name) entry.WasFetched (record (change w k (fetching name (told_blob f (Some i) name))) { blobs = i.blobs })
  fetch_turn k name i t out shard bytes at same =
      let told : fin.get i.blobs (f.names.text name) ≡ Some bytes = ap (λ (b : Blobs). fin.get b (f.names.text name)) same ∙ at.0 in
      plain f w k (FetchStep name) entry.WasFetched _
      (Fetches _ k name (record { t = t; out = out; aside = λ uuids plan e. absurd (subst IsShard e shard); bytes = bytes; there = at; new_is = λ j. record (with_given w k (fetching name (told j)) (out.there j)) { blobs = same j } })) refl refl

  -- ---- settle

  settled_is : (k : ℕ) (s : Settles f w k) (blobs : Blobs) → record (settled_of f w k (fin.get w.tickets k)) { blobs = blobs } ≡ record (settled w k s.t s.n s.s.root) { deletes = fin.remove w.deletes s.t.op; blobs = blobs }
  settled_is k s blobs = (λ j. record (settled_of f w k (s.may.out.there j)) { blobs = blobs }) ∙ (λ j. record (settled_by f w k s.t (s.may.is j) (s.may.raised j)) { blobs = blobs })

  settled_plain : (k : ℕ) (s : Settles f w k) → settled_of f w k (fin.get w.tickets k) ≡ record (settled w k s.t s.n s.s.root) { deletes = fin.remove w.deletes s.t.op }
  settled_plain = law-settled_plain f w

  abbrev settle_final : (k : ℕ) (s : Settles f w k) (new : World) → new ≡ record (settled w k s.t s.n s.s.root) { deletes = fin.remove w.deletes s.t.op } → Turn f w new
  settle_final k s new e = SettlesFinal new k s.n s.t s.s (record { info = s.info; results = s.results; made = s.made; work = s.work; may = s.may; present = s.present; new_is = e })

  -- the command of its ticket, where the image's safe root isn't below it
  command_is : (k : ℕ) (s : Settles f w k) (safe : ℕ) → command_of f safe (fin.get w.tickets k) ≡ (if nat_lt s.n safe then s.s.commands else [])
  command_is k s safe = ap (command_of f safe) s.may.out.there ∙ (λ j. command_by safe (s.may.is j) (s.may.raised j))

  less_true : (a b : ℕ) → a < b → nat_lt a b ≡ true
  less_true a b h = lt-ltb a b h

  less_false : (a b : ℕ) → b ≤ a → nat_lt a b ≡ false
  less_false a b h = le-ltb a b h

  not_before : (shelf : List Shelved) → Law f w shelf → (k : ℕ) (s : Settles f w k) → w.safe ≤ s.n
  not_before shelf l k s = ((l.lawful.sound.rooted.tickets k s.t s.may.out.there).last s.s (record { is = s.may.is; out = s.may.out.out; unsettled = s.may.unsettled }) s.present s.n s.may.raised).1

  settle_turn : (shelf : List Shelved) → Law f w shelf → (k : ℕ) (image : Option Image) → Settles f w k → SameBlobs w image
      → Turned f w k SettleStep WasSettled (record (settled_of f w k (fin.get w.tickets k)) { blobs = blobs_in image w.blobs })
  settle_turn shelf l k image s same =
      subst (λ (x : World). Turned f w k SettleStep WasSettled x) (sym (settled_is k s (blobs_in image w.blobs)))
      (record {
        turn = settle_final k s _ (λ j. record (settled w k s.t s.n s.s.root) { deletes = fin.remove w.deletes s.t.op; blobs = blobs_stay w image same j });
        commands = λ safe above alone. command_is k s safe ∙ ap (λ b. if b then s.s.commands else []) (less_true s.n safe (let h : suc s.n ≤ safe = above in omega (arith, h)));
        early = λ safe below. command_is k s safe ∙ ap (λ b. if b then s.s.commands else []) (less_false s.n safe (let h : w.safe ≤ s.n = not_before shelf l k s in omega (arith, h, below)));
      })

  -- a settle that failed counts where the new record stands
  settle_fails : (shelf : List Shelved) → Law f w shelf → (k : ℕ) (s : Settles f w k) (b : Bool) (image : Option Image) → SameBlobs w image
      → Turned f w k SettleStep (Refused DepotFault) (record (if b then settled_of f w k (fin.get w.tickets k) else w) { deposed = true; blobs = blobs_in image w.blobs })
  settle_fails shelf l k s b image same =
      subst (λ (x : World). Turned f w k SettleStep (Refused DepotFault) (record (if b then x else w) { deposed = true; blobs = blobs_in image w.blobs })) (sym (settled_plain k s))
      (record {
        turn = falls (record (settled w k s.t s.n s.s.root) { deletes = fin.remove w.deletes s.t.op }) (settle_final k s _ refl) b (blobs_in image w.blobs) (blobs_stay w image same) refl;
        commands = λ safe above alone. command_is k s safe ∙ chosen b safe above (alone refl)
            ∙ sym (falls_commands (record (settled w k s.t s.n s.s.root) { deletes = fin.remove w.deletes s.t.op }) (settle_final k s _ refl) b (blobs_in image w.blobs) (blobs_stay w image same) refl);
        early = λ safe below. command_is k s safe ∙ ap (λ c. if c then s.s.commands else []) (less_false s.n safe (omega (arith, below, not_below)));
      })
    where
      not_below : w.safe ≤ s.n
      not_below = not_before shelf l k s

      chosen : (b : Bool) (safe : ℕ) → (if b then record (settled w k s.t s.n s.s.root) { deletes = fin.remove w.deletes s.t.op } else w).safe ≤ safe
          → safe ≡ (if b then record (settled w k s.t s.n s.s.root) { deletes = fin.remove w.deletes s.t.op } else w).safe → (if nat_lt s.n safe then s.s.commands else []) ≡ (if b then s.s.commands else [])
      chosen true safe above is = ap (λ c. if c then s.s.commands else []) (less_true s.n safe (let h : suc s.n ≤ safe = above in omega (arith, h)))
      chosen false safe above is = let e : safe ≡ w.safe = is in ap (λ c. if c then s.s.commands else []) (less_false s.n safe (omega (arith, e, not_below)))

  -- ---- failed

  pub shard_stale : (t : Ticket) (work : Work) → IsShard work → is_stale w t work ≡ false
  shard_stale t (Shard i n) h = refl
  shard_stale t (Finalize info rs made) h = absurd h
  shard_stale t work h = absurd h

  pub master_stale : (t : Ticket) (work : Work) → IsMaster work → is_stale w t work ≡ (if t.term == w.term then false else true)
  master_stale t (Finalize info rs made) h = refl
  master_stale t (Deleting uuids plan) h = refl
  master_stale t work h = absurd h

  pub no_shard : (work : Work) → IsMaster work → IsShard work → ⊥
  no_shard (Shard i n) m h = m
  no_shard (Finalize info rs made) m h = h
  no_shard work m h = h

  fails_op : (k : ℕ) (why : Why) (image : Option Image) → SameBlobs w image → (c : Fails w k) → (IsShard c.t.work ⊎ ((c.t.term ≡ w.term) × IsMaster c.t.work)) → fin.get w.ops c.t.op ≡ Some c.op → is_stale w c.t c.t.work ≡ false
      → Turned f w k (FailedStep why) HasEnded (record (failed_of w k (fin.get w.tickets k)) { blobs = blobs_in image w.blobs })
  fails_op k why image same c counts there fresh =
      plain f w k (FailedStep why) HasEnded _
      (FailsTurn _ k (record {
        t = c.t;
        out = c.out;
        unsettled = c.unsettled;
        counts = counts;
        op = c.op;
        op_there = there;
        new_is = (λ j. record (failed_of w k (c.out.there j)) { blobs = blobs_in image w.blobs })
            ∙ (λ j. record (if fresh j then with_ticket w k (record c.t { out = false }) else failed_by w k c.t (fin.get w.ops c.t.op)) { blobs = blobs_in image w.blobs })
            ∙ (λ j. record (failed_by w k c.t (there j)) { blobs = blobs_stay w image same j });
      })) refl refl

  fails_stale : (k : ℕ) (why : Why) (image : Option Image) → SameBlobs w image → (c : Fails w k) → IsMaster c.t.work → c.t.term ≢ w.term → is_stale w c.t c.t.work ≡ true
      → Turned f w k (FailedStep why) HasEnded (record (failed_of w k (fin.get w.tickets k)) { blobs = blobs_in image w.blobs })
  fails_stale k why image same c master apart stale =
      plain f w k (FailedStep why) HasEnded _
      (Ending _ k (record {
        t = c.t;
        out = c.out;
        no_shard = no_shard c.t.work master;
        done = inr apart;
        new_is = (λ j. record (failed_of w k (c.out.there j)) { blobs = blobs_in image w.blobs })
            ∙ (λ j. record (if stale j then with_ticket w k (record c.t { out = false }) else failed_by w k c.t (fin.get w.ops c.t.op)) { blobs = blobs_stay w image same j });
      })) refl refl

  fails_turn : (k : ℕ) (why : Why) (image : Option Image) → Fails w k → SameBlobs w image → Turned f w k (FailedStep why) HasEnded (record (failed_of w k (fin.get w.tickets k)) { blobs = blobs_in image w.blobs })
  fails_turn k why image c same = elim c.unit [
    | inl shard ↦ fails_op k why image same c (inl shard) (c.op_there (inl shard)) (shard_stale c.t c.t.work shard)
    | inr master ↦ elim (eqb_tells c.t.term w.term) [
      | inl e ↦ fails_op k why image same c (inr (e.1, master)) (c.op_there (inr e.1)) (master_stale c.t c.t.work master ∙ ap (λ (b : Bool). if b then false else true) e.0)
      | inr e ↦ fails_stale k why image same c master e.1 (master_stale c.t c.t.work master ∙ ap (λ (b : Bool). if b then false else true) e.0)
    ]
  ]

  ends_turn : (k : ℕ) (image : Option Image) → Finishes w k → SameBlobs w image → Turned f w k FinishStep HasEnded (record (change w k (λ (t : Ticket). record t { out = false })) { blobs = blobs_in image w.blobs })
  ends_turn k image c same =
      plain f w k FinishStep HasEnded _ (Ending _ k (record {
        t = c.t;
        out = c.out;
        no_shard = c.no_shard;
        done = elim c.done [ inl h ↦ inl h.0 | inr h ↦ inr h.0 ];
        new_is = λ j. record (with_given w k (λ (t : Ticket). record t { out = false }) (c.out.there j)) { blobs = blobs_stay w image same j };
      })) refl refl

  -- an op leaves: by its drop, or with the end of a cleanup
  drop_turn : (k : ℕ) (image : Option Image) (c : Drops f w k image) (new : World)
      → new ≡ record w { ops = fin.remove w.ops c.may.t.op; deletes = fin.remove w.deletes c.may.t.op; tickets = fin.insert w.tickets k (record c.may.t { out = false }) } → (turn : Turn f w new) × (commands_of f w new turn ≡ [])
  drop_turn k image c new e = elim c.may.unit [
    | inl drop ↦ (DropsTurn new k (record { t = c.may.t; out = c.may.out; work = drop; present = c.present; new_is = e }), refl)
    | inr own ↦
        let (x, there, cleans) = own.open_op c.present in
        (CleanDrops new k (record { t = c.may.t; out = c.may.out; uuids = own.uuids; plan = Some own.s; work = own.work; settled = own.settled; present = c.present; x = x; there = there; cleans = cleans; new_is = e }), refl)
  ]

  -- a page is listed
  page_turn : (k : ℕ) (from : Option Bytes) (page : List BlobSize) (i : Image) (g : ListsPage w k from) → IsPageOf w.blobs from page → i.blobs ≡ w.blobs
      → Turned f w k (ListStep from) (entry.WasListed page) (record (change w k (λ (t : Ticket). listing t page)) { blobs = i.blobs })
  page_turn k from page i g here same =
      plain f w k (ListStep from) (entry.WasListed page) _
      (Pages _ k page (record { t = g.t; out = g.out; unsettled = g.unsettled; there = λ b m. let x = here.there b m in (x.0, x.1); new_is = λ j. record (with_given w k (λ (t : Ticket). listing t page) (g.out.there j)) { blobs = same j } })) refl
      refl

-- the blobs of an image that is told
blobs_told : (w : World) (i : Image) (image : Option Image) → image ≡ Some i → blobs_in image w.blobs ≡ i.blobs
blobs_told w i None e = absurd (cc)
blobs_told w i (Some x) e = ap (λ (y : Image). y.blobs) (same_Some _ _ e)

pub not_latest : (name : BlobName) → name ≢ Latest → is_latest name ≡ false
not_latest Latest h = absurd (h refl)
not_latest (ShardSnap i s u) h = refl
not_latest name h = refl

-- a begin that failed, of another name than `index.latest`
begin_fails : (f : Formats) (w : World) (k : ℕ) (name : BlobName) (image : Option Image) → is_latest name ≡ false → SameBlobs w image
    → Turned f w k (BeginStep name) (Refused DepotFault) (record (if is_latest name then tried w k else w) { blobs = blobs_in image w.blobs })
begin_fails f w k name image no_latest same =
    subst (λ (b : Bool). Turned f w k (BeginStep name) (Refused DepotFault) (record (if b then tried w k else w) { blobs = blobs_in image w.blobs })) (sym no_latest)
    (plain f w k (BeginStep name) (Refused DepotFault) _ (Stays _ (λ j. record w { blobs = blobs_stay w image same j })) refl refl)

-- a call that failed and leaves all but the record as it was
pub fault_stays : (f : Formats) (w : World) (who : ℕ) (step : Step) (image : Option Image) → SameBlobs w image → is_settle step ≡ false → Turned f w who step (Refused DepotFault) (record w { blobs = blobs_in image w.blobs })
fault_stays f w who step image same no_settle = plain f w who step (Refused DepotFault) _ (Stays _ (λ j. record w { blobs = blobs_stay w image same j })) no_settle refl

-- a told condition, of the image that is told
pub of_told : (i : Image) (image : Option Image) (P : Blobs → Type 0) → image ≡ Some i → Told image P → P i.blobs
of_told i None P e h = absurd (cc)
of_told i (Some x) P e h = subst (λ (y : Image). P y.blobs) (same_Some _ _ e) h

module _ (f : Formats) (size : ℕ) (w : World) (shelf : List Shelved) (l : Law f w shelf) (i : Image)
    (doing : (k : ℕ) (r : ShardResult) → Dones f size w k r (Some i) → i.blobs ≡ w.blobs → Turned f w k (DoneStep r) HasEnded (stepped f w (moment k (DoneStep r) HasEnded (Some i))))
    (asking : (name : Bytes) (indices : List entry.AskedIndex) (time o : ℕ) → Accepts f w name indices time o → AskCreate f w (asked_op w name indices time) (asked w (Snapshot name indices time)))
    (pruning : (k : ℕ) (prune : Prune) (reply : Reply) → PruneAllows f w k prune reply (Some i) → Turned f w k (PruneStep prune) reply (stepped f w (moment k (PruneStep prune) reply (Some i)))) where
  ask_turn : (name : Bytes) (indices : List entry.AskedIndex) (time o : ℕ) (image : Option Image) → Accepts f w name indices time o → SameBlobs w image
      → Turned f w 0 (AskStep (Snapshot name indices time)) (entry.Accepted o) (stepped f w (moment 0 (AskStep (Snapshot name indices time)) (entry.Accepted o) image))
  ask_turn name indices time o image acc same =
      plain f w 0 _ _ _
      (AsksCreate _ (asked_op w name indices time) (subst (AskCreate f w (asked_op w name indices time)) (λ j. record (asked w (Snapshot name indices time)) { blobs = sym (blobs_stay w image same) j }) (asking name indices time o acc)))
      refl refl

  ask_fails : (name : Bytes) (indices : List entry.AskedIndex) (time : ℕ) (image : Option Image) → Accepts f w name indices time w.next_op → SameBlobs w image
      → Turned f w 0 (AskStep (Snapshot name indices time)) (Refused DepotFault) (stepped f w (moment 0 (AskStep (Snapshot name indices time)) (Refused DepotFault) image))
  ask_fails name indices time image acc same =
      falls_plain f w 0 (AskStep (Snapshot name indices time)) (asked w (Snapshot name indices time)) (asked w (Snapshot name indices time))
      (AsksCreate _ (asked_op w name indices time) (asking name indices time w.next_op acc)) _ image same refl refl refl refl

  -- ---- a clone that is asked

  -- the indices of its source are those of the info that is there
  clone_info : (source name : Bytes) (names : List Bytes) (time o : ℕ) (taken : CloneOf) (image : Option Image) → image ≡ Some i → (acc : AcceptsClone f w source name names time o taken image) → allowed.IsInInfo f w taken.source acc.all
  clone_info source name names time o taken image told acc =
      let listed : Lists w.root taken.source = (acc.may.copies.listed.0, acc.may.copies.listed.1, acc.may.copies.listed.3) in
      elim acc.all_of.told [
        | inl made ↦ made_info f w shelf l taken.source acc.all listed made
        | inr there ↦ of_told i image (λ blobs. allowed.IsInInfo f w taken.source acc.all) told there
      ]

  clone_asked : (source name : Bytes) (names : List Bytes) (time o : ℕ) (taken : CloneOf) (image : Option Image) → image ≡ Some i → AcceptsClone f w source name names time o taken image
      → AskCreate f w (cloned_op w name time taken) (clone_opened w name time taken)
  clone_asked source name names time o taken image told acc = accepted_clone f w source name names time o taken image acc shelf l (clone_info source name names time o taken image told acc)

  -- ---- a delete that is asked

  going_into : (names : List Bytes) (image : Option Image) → MayDelete w names → SameBlobs w image
      → Turned f w 0 (AskStep (DeleteSnapshots names)) (entry.Accepted (delete_number w names)) (stepped f w (moment 0 (AskStep (DeleteSnapshots names)) (entry.Accepted (delete_number w names)) image))
  going_into names image may same =
      let kept : (asked_delete w names).blobs ≡ blobs_in image w.blobs = ap (λ (x : World). x.blobs) (delete_leaves w names) ∙ sym (blobs_stay w image same) in
      let turn = subst (λ (x : World). (t : Turn f w x) × (commands_of f w x t ≡ [])) (λ j. record (asked_delete w names) { blobs = kept j }) (delete_turn f w names may) in
      plain f w 0 (AskStep (DeleteSnapshots names)) (entry.Accepted (delete_number w names)) _ turn.0 refl turn.1

  -- ---- a cleanup that is asked

  asked_cleanup : AcceptsCleanup w → (new : World) → new ≡ cleanup_opened w → AskCleanup w new
  asked_cleanup acc new e =
      record { no_op = λ o op h. acc.none_open o (inl (op, h)); no_delete = λ d x h. acc.none_open d (inr (x, h)); no_ticket = λ k t h out. acc.no_ticket k (t, record { there = h; out = out }); new_is = e }

  -- ---- restores and reading

  -- a blob that a restore's ticket fetched
  reads_by : (k : ℕ) (name : BlobName) (image : Option Image) → image ≡ Some i → (q : Reader) → IsReading w k q → MayRead f q name image → (bytes : Bytes) → At f w.blobs name bytes → told_blob f image name ≡ Some bytes
      → SameBlobs w image → Turned f w k (ReadStep (ReadBlob name)) entry.WasFetched (stepped f w (moment k (ReadStep (ReadBlob name)) entry.WasFetched image))
  reads_by zero name image told q out may bytes at is same = stays f w 0 (ReadStep (ReadBlob name)) entry.WasFetched image same refl
  reads_by (suc k) name image told q out may bytes at is same =
      plain f w (suc k) (ReadStep (ReadBlob name)) entry.WasFetched _
      (Besides _ w (Stays w refl) (ReadsMore _ (suc k) name bytes (record {
        q = q;
        reading = out;
        there = at;
        may = elim may [ inl e ↦ inl e | inr piece ↦ inr (of_told i image (λ blobs. ListsPiece f q name) told piece.1) ];
        new_is = λ j. record (read_told w (suc k) name (is j) (out.there j)) { blobs = blobs_stay w image same j };
      }))) refl refl

  found_by : (k : ℕ) (name : BlobName) (image : Option Image) → image ≡ Some i → Fetcher f w name image k → (bytes : Bytes) → At f w.blobs name bytes → told_blob f image name ≡ Some bytes → SameBlobs w image
      → Turned f w k (ReadStep (ReadBlob name)) entry.WasFetched (stepped f w (moment k (ReadStep (ReadBlob name)) entry.WasFetched image))
  found_by who name image told (ByReader k q out may) bytes at is same = reads_by k name image told q out may bytes at is same
  found_by who name image told other bytes at is same = stays f w 0 (ReadStep (ReadBlob name)) entry.WasFetched image same refl

  missing_by : (k : ℕ) (name : BlobName) (image : Option Image) → SameBlobs w image → Turned f w k (ReadStep (ReadBlob name)) entry.WasAbsent (stepped f w (moment k (ReadStep (ReadBlob name)) entry.WasAbsent image))
  missing_by zero name image same = stays f w 0 (ReadStep (ReadBlob name)) entry.WasAbsent image same refl
  missing_by (suc k) name image same = stays f w (suc k) (ReadStep (ReadBlob name)) entry.WasAbsent image same refl

  -- a ticket of a restore that ended: where its restore is open, the shard has gone on
  over_by : (k : ℕ) (step : Step) (state : ReadState) (image : Option Image) (q : Reader) → IsReading w k q → waits state ≡ false → SameBlobs w image → is_settle step ≡ false → (r : Option Restoring) → fin.get w.restores q.op ≡ r
      → Turned f w k step HasEnded (record (shard_over w k state q r) { blobs = blobs_in image w.blobs })
  over_by k step state image q out over same no_settle None there = plain f w k step HasEnded _ (Stays _ (λ j. record w { blobs = blobs_stay w image same j })) no_settle refl
  over_by k step state image q out over same no_settle (Some r) there =
      plain f w k step HasEnded _
      (Besides _ w (Stays w refl) (EndsShard _ k state (record { q = q; reading = out; r = r; there = there; over = over; new_is = λ j. record (shard_ended w k q r state) { blobs = blobs_stay w image same j } }))) no_settle refl

  restored_by : (k files bytes : ℕ) (image : Option Image) (q : Reader) → IsReading w k q → SameBlobs w image
      → Turned f w k (ReadStep (RestoredShard files bytes)) HasEnded (stepped f w (moment k (ReadStep (RestoredShard files bytes)) HasEnded image))
  restored_by zero files bytes image q out same = stays f w 0 (ReadStep (RestoredShard files bytes)) HasEnded image same refl
  restored_by (suc k) files bytes image q out same =
      subst (λ x. Turned f w (suc k) (ReadStep (RestoredShard files bytes)) HasEnded (record (read_over w (suc k) (Restored files bytes) x) { blobs = blobs_in image w.blobs })) (sym out.there)
      (over_by (suc k) (ReadStep (RestoredShard files bytes)) (Restored files bytes) image q out refl same refl (fin.get w.restores q.op) refl)

  unrestored_by : (k : ℕ) (why : Why) (image : Option Image) (q : Reader) → IsReading w k q → SameBlobs w image → Turned f w k (ReadStep (ReadFails why)) HasEnded (stepped f w (moment k (ReadStep (ReadFails why)) HasEnded image))
  unrestored_by zero why image q out same = stays f w 0 (ReadStep (ReadFails why)) HasEnded image same refl
  unrestored_by (suc k) why image q out same =
      subst (λ x. Turned f w (suc k) (ReadStep (ReadFails why)) HasEnded (record (read_over w (suc k) (NotRestored why) x) { blobs = blobs_in image w.blobs })) (sym out.there)
      (over_by (suc k) (ReadStep (ReadFails why)) (NotRestored why) image q out refl same refl (fin.get w.restores q.op) refl)

  -- what an image tells that has these blobs
  told_here : (name : BlobName) (image : Option Image) → image ≡ Some i → SameBlobs w image → told_blob f image name ≡ fin.get w.blobs (f.names.text name)
  told_here name None told same = absurd (cc)
  told_here name (Some x) told same = ap (λ (b : Blobs). fin.get b (f.names.text name)) same

  reads : (k : ℕ) (read : Read) (reply : Reply) (image : Option Image) → image ≡ Some i → ReadAllows f w k read reply image → SameBlobs w image → Turned f w k (ReadStep read) reply (stepped f w (moment k (ReadStep read) reply image))
  reads k read reply image told (ReadFound j name im stored by found) same =
      let here = of_told i im (λ blobs. (bytes : Bytes) × (fin.get w.blobs (f.names.text name) ≡ Some bytes)) told found in
      found_by j name im told by here.0 (here.1, stored) (told_here name im told same ∙ here.1) same
  reads k read reply image told (ReadMissing j name im stored by none) same = missing_by j name im same
  reads k read reply image told (ReadFault j name im stored by) same = fault_stays f w j (ReadStep (ReadBlob name)) im same refl
  reads k read reply image told (RestoringShard j files bytes im q out done) same = restored_by j files bytes im q out same
  reads k read reply image told (ReaderFailing j why im q out) same = unrestored_by j why im q out same
  reads k read reply image told (CheckingAll snapshots blobs im checks) same = stays f w 0 (ReadStep (CheckedAll snapshots blobs)) HasEnded im same refl
  reads k read reply image told (CheckFailing why im looked) same = stays f w 0 (ReadStep (ReadFails why)) HasEnded im same refl

  -- ---- a verification

  left_same : (name : BlobName) (o : Option Bytes) → test_left w name o o ≡ w
  left_same name None = refl
  left_same name (Some b) = refl

  commits_test : (name : BlobName) (bytes : Bytes) → IsOwnTest f w name → Adds f w name bytes i.blobs → Turned f w 0 (ReadStep (CommitTest name)) entry.WasDone (stepped f w (moment 0 (ReadStep (CommitTest name)) entry.WasDone (Some i)))
  commits_test name bytes own adds =
      plain f w 0 (ReadStep (CommitTest name)) entry.WasDone _
      (Tests _ (AddsTest _ name bytes (record { named = own.stored; id = own.id; test = own.test; drawn = own.below; absent = adds.0; new_is = λ j. record w { doomed = name ∷ w.doomed; blobs = adds.1 j } }))) refl refl

  fails_test : (name : BlobName) (bytes : Bytes) → IsOwnTest f w name → (i.blobs ≡ w.blobs) ⊎ Adds f w name bytes i.blobs
      → Turned f w 0 (ReadStep (CommitTest name)) (Refused DepotFault) (stepped f w (moment 0 (ReadStep (CommitTest name)) (Refused DepotFault) (Some i)))
  fails_test name bytes own (inl e) =
      let was : Option Bytes = fin.get w.blobs (f.names.text name) in
      plain f w 0 (ReadStep (CommitTest name)) (Refused DepotFault) _
      (Stays _ ((λ j. record (test_left w name was (fin.get (e j) (f.names.text name))) { blobs = e j }) ∙ (λ j. record (left_same name was j) { blobs = w.blobs }))) refl refl
  fails_test name bytes own (inr adds) =
      let now : fin.get i.blobs (f.names.text name) ≡ Some bytes = ap (λ (b : Blobs). fin.get b (f.names.text name)) adds.1 ∙ get_same nat_list_cmp_total texts_same w.blobs (f.names.text name) bytes in
      plain f w 0 (ReadStep (CommitTest name)) (Refused DepotFault) _
      (Tests _ (AddsTest _ name bytes (record {
        named = own.stored;
        id = own.id;
        test = own.test;
        drawn = own.below;
        absent = adds.0;
        new_is = λ j. record (test_left w name (adds.0 j) (now j)) { blobs = adds.1 j };
      }))) refl refl

  removes_tests : (names : List BlobName) (reply : Reply) → MayRemoveTests w names → Removes f w.blobs i.blobs names → Turned f w 0 (ReadStep (RemoveTests names)) reply (record w { blobs = i.blobs })
  removes_tests names reply may removes =
      plain f w 0 (ReadStep (RemoveTests names)) reply _ (Tests _ (RemovesTests _ names (record { doomed = may.doomed; now = i.blobs; removes = removes; new_is = refl }))) refl refl

  verifies : (read : Read) (reply : Reply) (image : Option Image) → image ≡ Some i → VerifyAllows f w read reply image → Turned f w 0 (ReadStep read) reply (stepped f w (moment 0 (ReadStep read) reply image))
  verifies read reply image told (DrawingTest im idle fits same) =
      plain f w 0 (ReadStep DrawTest) (entry.DrawnFrom w.next_id) _ (Tests _ (DrawsTest _ (record { fits = fits; new_is = λ j. record w { next_id = suc w.next_id; blobs = blobs_stay w im same j } }))) refl refl
  verifies read reply image told (TestSpent im idle spent same) = stays f w 0 (ReadStep DrawTest) _ im same refl
  verifies read reply image told (BeginningTest name im own same) = stays f w 0 (ReadStep (BeginTest name)) entry.WasBegun im same refl
  verifies read reply image told (BeginTestFails name im own same) = fault_stays f w 0 (ReadStep (BeginTest name)) im same refl
  verifies read reply image told (CommittingTest name bytes im own new adds) =
      subst (λ x. Turned f w 0 (ReadStep (CommitTest name)) entry.WasDone (stepped f w (moment 0 (ReadStep (CommitTest name)) entry.WasDone x))) (sym told) (commits_test name bytes own (of_told i im (Adds f w name bytes) told adds))
  verifies read reply image told (TestTaken name im own found) =
      stays f w 0 (ReadStep (CommitTest name)) _ im (subst (SameBlobs w) (sym told) (of_told i im (λ blobs. Present f w.blobs name × (blobs ≡ w.blobs)) told found).1) refl
  verifies read reply image told (CommitTestFails name bytes im own leaves) =
      subst (λ x. Turned f w 0 (ReadStep (CommitTest name)) (Refused DepotFault) (stepped f w (moment 0 (ReadStep (CommitTest name)) (Refused DepotFault) x))) (sym told)
      (fails_test name bytes own (of_told i im (λ blobs. (blobs ≡ w.blobs) ⊎ Adds f w name bytes blobs) told leaves))
  verifies read reply image told (RemovingTests names im may left) =
      subst (λ x. Turned f w 0 (ReadStep (RemoveTests names)) entry.WasRemoved (stepped f w (moment 0 (ReadStep (RemoveTests names)) entry.WasRemoved x))) (sym told)
      (removes_tests names entry.WasRemoved may (of_told i im (λ blobs. Removes f w.blobs blobs names × ((name : BlobName) → Has names name → fin.get blobs (f.names.text name) ≡ None)) told left).0)
  verifies read reply image told (RemoveTestsFails names im may left) =
      subst (λ x. Turned f w 0 (ReadStep (RemoveTests names)) (Refused DepotFault) (stepped f w (moment 0 (ReadStep (RemoveTests names)) (Refused DepotFault) x))) (sym told)
      (removes_tests names (Refused DepotFault) may (of_told i im (λ blobs. Removes f w.blobs blobs names) told left))
  verifies read reply image told (VerifyingAll im done same) = stays f w 0 (ReadStep VerifiedAll) HasEnded im same refl
  verifies read reply image told (VerifyFailing why im begun same) = stays f w 0 (ReadStep (ReadFails why)) HasEnded im same refl

  -- each answer is a turn, what who 0 has done aside
  turn_of : (who : ℕ) (step : Step) (reply : Reply) (image : Option Image) → image ≡ Some i → Allows f size w who step reply image → Turned f w who step reply (stepped f w (moment who step reply image))
  turn_of who step reply image told (allowed.Accepting name indices time o im acc same) = ask_turn name indices time o im acc same
  turn_of who step reply image told (allowed.GivingNothing im none same) = stays f w 0 TakeStep entry.NothingReady im same refl
  turn_of who step reply image told (allowed.Giving k o unit im is lowest g same) = gives_turn f w k o unit im g same
  turn_of who step reply image told (allowed.Drawing k n first im d same) =
      plain f w k (DrawStep n) (entry.DrawnFrom first) _
      (DrawsShard _ k n (record {
        t = d.may.t;
        out = d.may.out;
        shard = d.may.shard;
        once = d.may.once;
        fits = d.fits;
        new_is = λ j. record (record (with_given w k (λ (t : Ticket). record t { first = w.next_id; drawn = n }) (d.may.out.there j)) { next_id = w.next_id + n }) { blobs = blobs_stay w im same j };
      })) refl refl
  turn_of who step reply image told (allowed.Beginning k name im c same) = stays f w k (BeginStep name) entry.WasBegun im same refl
  turn_of who step reply image told (allowed.BeginningLatest k im c same) = stays f w k (BeginStep Latest) entry.WasBegun im same refl
  turn_of who step reply image told (allowed.Committing k name im c adds) =
      subst (λ x. Turned f w k (CommitStep name) entry.WasDone (stepped f w (moment k (CommitStep name) entry.WasDone x))) (sym told) (commit_turn f w size k name i c (of_told i im (Adds f w name c.bytes) told adds))
  turn_of who step reply image told (allowed.Finding k name im c found) =
      let here = of_told i im (λ blobs. Present f w.blobs name × (blobs ≡ w.blobs)) told found in
      find_turn f w k name im c here.0.0 here.0.1 (subst (SameBlobs w) (sym told) here.1)
  turn_of who step reply image told (allowed.Replacing k im c named puts) =
      let here = of_told i im (λ blobs. blobs ≡ fin.insert w.blobs (f.names.text Latest) (latest_text c.n)) told puts in
      latest_turn f w k LatestStep entry.WasReplaced im c refl (blobs_in im w.blobs) (inr (latest_text c.n, blobs_told w i im told ∙ here, named))
  turn_of who step reply image told (allowed.Fetching k name im g found) =
      let here = of_told i im (λ blobs. (bytes : Bytes) × (fin.get w.blobs (f.names.text name) ≡ Some bytes) × (blobs ≡ w.blobs)) told found in
      subst (λ x. Turned f w k (FetchStep name) entry.WasFetched (stepped f w (moment k (FetchStep name) entry.WasFetched x))) (sym told) (fetch_turn f w k name i g.t g.out (subst IsShard (sym g.to_fetch.2) tt) here.0 (here.1, g.stored) here.2)
  turn_of who step reply image told (allowed.Missing k name im g found) =
      let here = of_told i im (λ blobs. (fin.get w.blobs (f.names.text name) ≡ None) × (blobs ≡ w.blobs)) told found in
      stays f w k (FetchStep name) entry.WasAbsent im (subst (SameBlobs w) (sym told) here.1) refl
  turn_of who step reply image told (allowed.Listing k from page im g shape here) =
      let now = of_told i im (λ blobs. IsPageOf w.blobs from page × (blobs ≡ w.blobs)) told here in
      subst (λ x. Turned f w k (ListStep from) (entry.WasListed page) (stepped f w (moment k (ListStep from) (entry.WasListed page) x))) (sym told) (page_turn f w k from page i g now.0 now.1)
  turn_of who step reply image told (allowed.Raising k n im r same) = plain f w k RaiseStep (entry.RaisedTo n) _ (RaisesTurn _ k (raise_turn f w k n im r same)) refl refl
  turn_of who step reply image told (allowed.Settling k im s same) = settle_turn f w shelf l k im s same
  turn_of who step reply image told (allowed.Doing k r im d same) =
      subst (λ x. Turned f w k (DoneStep r) HasEnded (stepped f w (moment k (DoneStep r) HasEnded x))) (sym told)
      (doing k r (subst (Dones f size w k r) told d) (subst (SameBlobs w) told same))
  turn_of who step reply image told (allowed.Failing k why im c same) = fails_turn f w k why im c same
  turn_of who step reply image told (allowed.Finishing k im c same) = ends_turn f w k im c same
  turn_of who step reply image told (allowed.Dropping k im c same) =
      let turn = drop_turn f w k im c _ (λ j. record (dropped_of w k (c.may.out.there j)) { blobs = blobs_stay w im same j }) in
      plain f w k DroppedStep HasEnded _ turn.0 refl turn.1
  turn_of who step reply image told (allowed.Electing im room same) = plain f w 0 ElectStep _ _ (Elects _ (record { new_is = λ j. record w { term = suc w.term; next_id = first_id (suc w.term); blobs = blobs_stay w im same j } })) refl refl
  turn_of who step reply image told (allowed.Looking im same) = stays f w 0 LookStep _ im same refl
  turn_of who step reply image told (allowed.OpeningRestore name place o uuid indices im acc same) =
      let listed : Lists w.root uuid = (acc.listed.0, acc.listed.1, acc.listed.3) in
      let info : allowed.IsInInfo f w uuid indices = elim acc.indices_of.told [
        | inl made ↦ made_info f w shelf l uuid indices listed made
        | inr there ↦ of_told i im (λ blobs. allowed.IsInInfo f w uuid indices) told there
      ] in
      plain f w 0 (AskStep (Restore name place)) (AcceptedRestore o uuid indices) _
      (Besides _ w (Stays w refl) (OpensRestore _ uuid place indices (record {
        listed = listed;
        spared = acc.spared;
        info = info.0;
        info_reads = info.1;
        indices_is = info.2;
        apart = acc.indices_of.within.apart;
        new_is = λ j. record (restore_opened w uuid place indices) { blobs = blobs_stay w im same j };
      }))) refl refl
  turn_of who step reply image told (allowed.OpeningClone source name names time o t im acc same) =
      plain f w 0 _ _ _
      (AsksCreate _ (cloned_op w name time t) (subst (AskCreate f w (cloned_op w name time t)) (λ j. record (clone_opened w name time t) { blobs = sym (blobs_stay w im same) j }) (clone_asked source name names time o t im told acc))) refl refl
  turn_of who step reply image told (allowed.GoingInto names im acc same) = going_into names im acc.may same
  turn_of who step reply image told (allowed.OpeningCleanup im acc same) = plain f w 0 (AskStep Cleanup) _ _ (AsksCleanup _ (asked_cleanup acc _ (λ j. record (cleanup_opened w) { blobs = blobs_stay w im same j }))) refl refl
  turn_of who step reply image told (allowed.Reading k read rep im h same) = reads k read rep im told h same
  turn_of who step reply image told (allowed.Verifying read rep im h) = verifies read rep im told h
  turn_of who step reply image told (allowed.Pruning k prune rep im h) =
      subst (λ x. Turned f w k (PruneStep prune) rep (stepped f w (moment k (PruneStep prune) rep x))) (sym told) (pruning k prune rep (subst (PruneAllows f w k prune rep) told h))
  turn_of who step reply image told (allowed.Ruled command refusal im (allowed.Cleaning c d x recorded untaken there clean) same) = stays f w 0 (AskStep c) _ im same refl
  turn_of who step reply image told (allowed.Ruled command refusal im rule same) = stays f w 0 (AskStep command) _ im same refl
  turn_of who step reply image told (allowed.DrawSpent k n im may spent same) = stays f w k (DrawStep n) _ im same refl
  turn_of who step reply image told (allowed.RaiseStale k im may apart same) = stays f w k RaiseStep _ im same refl
  turn_of who step reply image told (allowed.SettleStale k n t s im may apart same) = stays f w k SettleStep _ im same refl
  turn_of who step reply image told (allowed.DropStale k im may apart same) = stays f w k DroppedStep _ im same refl
  turn_of who step reply image told (allowed.RaiseSpent k im may present spent same) = stays f w k RaiseStep _ im same refl
  turn_of who step reply image told (allowed.ElectSpent im spent same) = stays f w 0 ElectStep _ im same refl
  turn_of who step reply image told (allowed.Taken k name im c aside found) =
      stays f w k (CommitStep name) _ im (subst (SameBlobs w) (sym told) (of_told i im (λ blobs. Present f w.blobs name × (blobs ≡ w.blobs)) told found).1) refl
  turn_of who step reply image told (allowed.BeginFails k name im c same) = begin_fails f w k name im (not_latest name c.named.1) same
  turn_of who step reply image told (allowed.BeginLatestFails k im c same) = latest_turn f w k (BeginStep Latest) (Refused DepotFault) im c refl (blobs_in im w.blobs) (inl (blobs_stay w im same))
  turn_of who step reply image told (allowed.CommitFails k name im c leaves) =
      subst (λ x. Turned f w k (CommitStep name) (Refused DepotFault) (stepped f w (moment k (CommitStep name) (Refused DepotFault) x))) (sym told)
      (commit_fails f w size k name i c (of_told i im (λ blobs. (blobs ≡ w.blobs) ⊎ Adds f w name c.bytes blobs) told leaves))
  turn_of who step reply image told (allowed.ReplaceFails k im c named puts) =
      latest_turn f w k LatestStep (Refused DepotFault) im c refl (blobs_in im w.blobs) (elim (of_told i im (λ blobs. (blobs ≡ w.blobs) ⊎ (blobs ≡ fin.insert w.blobs (f.names.text Latest) (latest_text c.n))) told puts) [
        | inl e ↦ inl (blobs_told w i im told ∙ e)
        | inr e ↦ inr (latest_text c.n, blobs_told w i im told ∙ e, named)
      ])
  turn_of who step reply image told (allowed.FetchFails k name im g same) = fault_stays f w k (FetchStep name) im same refl
  turn_of who step reply image told (allowed.ListFails k from im g same) = fault_stays f w k (ListStep from) im same refl
  turn_of who step reply image told (allowed.AskFails name indices time im acc same) = ask_fails name indices time im acc same
  turn_of who step reply image told (allowed.AskCloneFails source name names time t im acc same) =
      falls_plain f w 0 (AskStep (entry.Clone source name names time (Some t))) (clone_opened w name time t) (clone_opened w name time t)
      (AsksCreate _ (cloned_op w name time t) (clone_asked source name names time w.next_op t im told acc)) _ im same refl refl refl refl
  turn_of who step reply image told (allowed.AskDeleteFails names im acc same) =
      let turn = delete_turn f w names acc.may in
      falls_plain f w 0 (AskStep (DeleteSnapshots names)) (asked_delete w names) (asked_delete w names) turn.0 _ im same refl (ap (λ (x : World). x.blobs) (delete_leaves w names)) refl turn.1
  turn_of who step reply image told (allowed.AskCleanupFails im acc same) = falls_plain f w 0 (AskStep Cleanup) (cleanup_opened w) (cleanup_opened w) (AsksCleanup _ (asked_cleanup acc _ refl)) _ im same refl refl refl refl
  turn_of who step reply image told (allowed.RaiseFails k im r same) =
      falls_plain f w k RaiseStep _ (record w { pending = suc w.pending; tickets = fin.insert w.tickets k (record r.may.t { raised = Some w.pending }) })
      (RaisesTurn _ k (record { t = r.may.t; out = r.may.out; swapped = r.may.s; is = r.may.is; unsettled = r.may.unsettled; present = r.present; once = r.may.once; new_is = refl })) _ im same
      (λ j. record (with_given w k (λ (t : Ticket). record t { raised = Some w.pending }) (r.may.out.there j)) { pending = suc w.pending }) refl refl refl
  turn_of who step reply image told (allowed.SettleFails k im s same) = settle_fails f w shelf l k s _ im same
  turn_of who step reply image told (allowed.DropFails k im c same) =
      let turn = drop_turn f w k im c _ refl in
      falls_plain f w k DroppedStep _ (record w { ops = fin.remove w.ops c.may.t.op; deletes = fin.remove w.deletes c.may.t.op; tickets = fin.insert w.tickets k (record c.may.t { out = false }) })
      turn.0 _ im same (λ j. dropped_of w k (c.may.out.there j)) refl refl turn.1
  turn_of who step reply image told (allowed.ElectFails im room same) = falls_plain f w 0 ElectStep _ _ (Elects _ (record { new_is = refl })) _ im same refl refl refl refl

  pub turn_by : (who : ℕ) (step : Step) (reply : Reply) (image : Option Image) → image ≡ Some i → Allows f size w who step reply image → Turned f w who step reply (after f w (moment who step reply image))
  turn_by who step reply image told a =
      let t = turn_of who step reply image told a in
      record {
        turn = Besides _ (stepped f w (moment who step reply image)) t.turn (Calls _ (caller_after f (stepped f w (moment who step reply image)).caller who step reply image) (with_entry w.entries (moment who step reply image).entry) refl);
        commands = t.commands;
        early = t.early;
      }
