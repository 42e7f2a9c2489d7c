-- From a lawful world each turn leads to a lawful one.
use Rattle.std.proofs.Common.{◌≡◌, ℕ, suc, ◌<◌, ◌≤◌, List, true, false, true≢false, Some, map, refl, sym, ap, ◌∙◌, subst, inl, inr, arith, nat_cmp}
use Rattle.std.specs.FinMap.{FinMap}
use Rattle.std.specs.FinMap as fin
use Rattle.esr_core.specs.Laws.NumberMaps.{was_in}
use Rattle.esr_model.specs.Names.{BlobName}
use Rattle.esr_model.specs.Values.{Formats, ShardResult}
use Rattle.esr_model.specs.Shelf.{Shelved, shelf_after}
use Rattle.esr_model.specs.Cleanup.{BlobSize}
use Rattle.esr_model.specs.Image.{Has}
use Rattle.esr_core.specs.World.{World, Op, ShardWork, Done, Ticket, AllDone, marked}
use Rattle.esr_core.specs.Ready.{IsMaster, IsShard}
use Rattle.esr_core.specs.Steps.{CommitDone, CommitFault, Raise, TriesLatest, FetchFound, reading, listing, ListMore, noting, CommitExists, DoneShard, Ends, Elect, Remove, writing, completing}
use Rattle.esr_core.specs.Queue.{Queue, QueueIn, Lawful}
use Rattle.esr_core.specs.Turns.{Turn, Stays, Commits, CommitFails, Finds, Raises, Latests, Fetches, SettlesFinal, SettlesDelete, Elects, TakesShard, TakesFinal, TakesDrop, TakesDelete, TakesCleanup, AsksCleanup, CleanDrops, DrawsShard, DrawsPlan, Dones, Ending, Fails, FailsDelete, Drops, AsksCreate, AsksDelete, Merges, Removing, Pages, Deposes, commands_of, Besides, Tests}
use Rattle.esr_core.proofs.Law.{raise_law, commit_law, commit_fault_law, latest_sound, fetch_sound, finish_sound, done_sound, elect_law, deposed_same}
use Rattle.esr_core.proofs.Besides.{aside_of, lawful_aside}
use Rattle.esr_core.proofs.Testing.{tests_lawful}
use Rattle.esr_core.proofs.Removes.{remove_sound}
use Rattle.esr_core.proofs.Queues.{Like, Evolves, queue_ticket, queue_ops, queued_back, queue_elect}
use Rattle.esr_core.proofs.Evolving.{marked_grows, marked_outs, evolve_map, one_back, one_forth, one_outs, outs_map, completing_has, completing_more, completing_was, results_of, all_done_on, marked_leaves}
use Rattle.esr_core.proofs.Paging.{page_sound}
use Rattle.esr_core.proofs.Taking.{shard_lawful, final_lawful, drop_lawful, delete_lawful, cleanup_lawful}
use Rattle.esr_core.proofs.Leaving.{dropped_lawful, clean_dropped_lawful, like_ended}
use Rattle.esr_core.proofs.Settling.{settle_final_lawful, settle_delete_lawful}
use Rattle.esr_core.proofs.Failing.{failed_lawful, failed_delete_lawful}
use Rattle.esr_core.proofs.Asking.{create_lawful, cleanup_asked_lawful, delete_asked_lawful, merge_lawful}
use Rattle.esr_core.specs.Ids.{Law}
use Rattle.esr_core.proofs.TurningIds.{turn_ids}
use Rattle.esr_core.proofs.Numbers.{turn_deletions, turn_in_term}
use Rattle.esr_core.proofs.LatestPut.{put_law}
use Rattle.esr_core.proofs.Writing.{turn_written}
use Rattle.esr_core.proofs.Exists.{exists_sound, turn_texted}
use Rattle.esr_core.proofs.Founding.{found}
use Rattle.esr_core.proofs.Below.{final_clean, draw_above, plan_clean, is_apart, one_id}
use Rattle.esr_core.proofs.Drawing.{draw_shard_lawful, draw_plan_lawful}
use Rattle.esr_core.proofs.DeletionLaws.{turn_pruned}

module _ (f : Formats) (w : World) (shelf : List Shelved) (l : Lawful f w shelf) where
  -- a ticket that the queue sees as it was
  seen_same : (k : ℕ) (t v : Ticket) → fin.get w.tickets k ≡ Some t → Like t v → v.work ≡ t.work → v.root ≡ t.root → v.clean ≡ t.clean → Queue w.term w.root w.ops w.deletes w.completed w.next_op (fin.insert w.tickets k v)
  seen_same k t v there like work root clean =
      queue_ticket w.term w.tickets k t v there like w.root w.ops w.deletes w.completed w.next_op
      (λ out uns pres uuids plan is.
      let h = l.queue.deleting k t there (like.out out) (like.settled uns) (sym like.term ∙ pres) uuids plan (sym work ∙ is) in
      record {
        deletion = h.deletion;
        there = ap (fin.get w.deletes) like.op ∙ h.there;
        unfailed = h.unfailed;
        first = λ p q lt e. h.first p q (subst (λ x. p < x) like.op lt) e;
        root_is = root ∙ h.root_is;
        planned = h.planned;
        named = λ c u p e. h.named (sym clean ∙ c) u p (sym work ∙ e);
        keeps = h.keeps;
      }) l.queue

  like_of : (t v : Ticket) → v.op ≡ t.op → v.term ≡ t.term → v.out ≡ t.out → v.settled ≡ t.settled → v.work ≡ t.work → Like t v
  like_of t v op term out settled work =
      record {
        op = op;
        term = term;
        out = λ e. sym out ∙ e;
        settled = λ e. sym settled ∙ e;
        master = λ m. subst IsMaster work m;
        shard = λ s. subst IsShard work s;
        drop = λ d. sym work ∙ d;
      }

  commit_lawful : (k : ℕ) (name : BlobName) (new : World) → CommitDone f w k name new → Lawful f new shelf
  commit_lawful k name new c =
      record { sound = commit_law f w shelf l.sound k name new c; queue = subst QueueIn (sym c.new_is) (seen_same k c.t (writing c.t name c.bytes) c.out.there (like_of c.t (writing c.t name c.bytes) refl refl refl refl refl) refl refl refl) }

  commit_fault_lawful : (k : ℕ) (name : BlobName) (new : World) → CommitFault f w k name new → Lawful f new shelf
  commit_fault_lawful k name new c = record {
    sound = commit_fault_law f w shelf l.sound k name new c;
    queue = elim c.leaves [ inl e ↦ subst QueueIn (sym e) l.queue | inr e ↦ subst QueueIn (sym e.1) l.queue ];
  }

  raise_lawful : (k : ℕ) (new : World) → Raise f w k new → Lawful f new shelf
  raise_lawful k new r = record {
    sound = raise_law f w shelf l.sound k new r;
    queue = subst QueueIn (sym r.new_is) (seen_same k r.t (record r.t { raised = Some w.pending }) r.out.there (like_of r.t (record r.t { raised = Some w.pending }) refl refl refl refl refl) refl refl refl);
  }

  latest_lawful : (k : ℕ) (new : World) → TriesLatest f w k new → Lawful f new shelf
  latest_lawful k new h = record {
    sound = latest_sound f w shelf l.sound k new h;
    queue = subst QueueIn (sym h.new_is) (seen_same k h.t (record h.t { tried_latest = true }) h.out.there (like_of h.t (record h.t { tried_latest = true }) refl refl refl refl refl) refl refl refl);
  }

  fetch_lawful : (k : ℕ) (name : BlobName) (new : World) → FetchFound f w k name new → Lawful f new shelf
  fetch_lawful k name new h =
      record { sound = fetch_sound f w shelf l.sound k name new h; queue = subst QueueIn (sym h.new_is) (seen_same k h.t (reading h.t name h.bytes) h.out.there (like_of h.t (reading h.t name h.bytes) refl refl refl refl refl) refl refl refl) }

  exists_lawful : (x : Law f w shelf) (k : ℕ) (name : BlobName) (new : World) → CommitExists f w k name new → Lawful f new shelf
  exists_lawful x k name new h =
      record { sound = exists_sound f w shelf x x.texts k name new h; queue = subst QueueIn (sym h.new_is) (seen_same k h.t (noting h.t name) h.out.there (like_of h.t (noting h.t name) refl refl refl refl refl) refl refl refl) }

  ends_lawful : (k : ℕ) (new : World) → Ends w k new → Lawful f new shelf
  ends_lawful k new h = record { sound = finish_sound f w shelf l.sound k new h; queue = subst QueueIn (sym h.new_is) (seen_same k h.t (record h.t { out = false }) h.out.there (like_ended h.t) refl refl refl) }

  elect_lawful : (new : World) → Elect w new → Lawful f new shelf
  elect_lawful new h = record {
    sound = elect_law f w shelf l.sound new h;
    queue = subst QueueIn (sym h.new_is) (queue_elect w.term w.root w.ops w.deletes w.completed w.next_op w.tickets l.queue (suc w.term) (λ k t e same. let b : t.term ≤ w.term = (l.sound.rooted.tickets k t e).term in omega (arith, same)));
  }

  remove_lawful : (k : ℕ) (names : List BlobName) (new : World) → Remove f w k names new → Lawful f new shelf
  remove_lawful k names new r = record { sound = remove_sound f w new shelf k names l.sound r; queue = subst QueueIn (sym r.new_is) l.queue }

  page_lawful : (k : ℕ) (page : List BlobSize) (new : World) → ListMore w k page new → Lawful f new shelf
  page_lawful k page new h = record { sound = page_sound f w shelf l.sound k page new h; queue = subst QueueIn (sym h.new_is) (seen_same k h.t (listing h.t page) h.out.there (like_of h.t (listing h.t page) refl refl refl refl refl) refl refl refl) }

  deposed_lawful : Lawful f (record w { deposed = true }) shelf
  deposed_lawful = record { sound = deposed_same f w shelf true l.sound; queue = l.queue }

  done_lawful : (k : ℕ) (r : ShardResult) (new : World) → DoneShard f w k r new → Lawful f new shelf
  done_lawful k r new d = record {
    sound = done_sound f w shelf l.sound k r new d;
    queue = subst QueueIn (sym d.new_is) (queue_ticket w.term w.tickets k d.t (record d.t { out = false }) d.out.there (like_ended d.t) w.root ops w.deletes done_ops w.next_op (λ e. absurd (true≢false (sym e))) ops_queue);
  }
    where
      g : ShardWork → ShardWork
      g = marked k (Done r)

      now : Op
      now = record d.op { shards = map (marked k (Done r)) d.op.shards }

      ops : FinMap nat_cmp Op
      ops = fin.insert w.ops d.t.op (record d.op { shards = map (marked k (Done r)) d.op.shards })

      done_ops : List ℕ
      done_ops = completing w.completed d.t.op (map (marked k (Done r)) d.op.shards)

      ev : Evolves d.op (record d.op { shards = map (marked k (Done r)) d.op.shards })
      ev = evolve_map d.op (marked k (Done r)) d.op.failed (marked_grows k r d.op.failed) (λ e. e)

      ops_queue : Queue w.term w.root (fin.insert w.ops d.t.op (record d.op { shards = map (marked k (Done r)) d.op.shards })) w.deletes (completing w.completed d.t.op (map (marked k (Done r)) d.op.shards)) w.next_op w.tickets
      ops_queue =
          let o = d.t.op in
          let x : Op = record d.op { shards = map (marked k (Done r)) d.op.shards } in
          queue_ops w.term w.root w.ops w.deletes w.completed w.next_op w.tickets l.queue (fin.insert w.ops o x) (completing w.completed o x.shards) (one_back w.ops o d.op x d.op_there ev) (one_forth w.ops o d.op x d.op_there ev)
          (queued_back w.term w.root w.ops w.deletes w.completed w.next_op w.tickets l.queue (fin.insert w.ops o x)
          (one_back w.ops o d.op x d.op_there ev) (one_outs w.ops o d.op x d.op_there ev (outs_map (marked k (Done r)) (marked_outs k r) d.op.shards)))
          (λ p y results e all. elim (was_in w.ops o x p y e) [
            | inr h ↦ completing_more w.completed o x.shards p (l.queue.completes p y results h.1 all)
            | inl h ↦ subst (Has (completing w.completed o x.shards)) (sym h.0) (completing_has w.completed o x.shards results (subst (λ (z : Op). AllDone z.shards results) (sym h.1) all))
          ])
          (λ p h. elim (completing_was w.completed o x.shards p h) [ inl m ↦ l.queue.completed_numbers p m | inr m ↦ subst (λ c. c < w.next_op) (sym m.0) (l.queue.numbers o d.op d.op_there) ])
          (λ p y h e. elim (was_in w.ops o x p y e) [
            | inr z ↦ elim (completing_was w.completed o x.shards p h) [ inl m ↦ l.queue.completed_done p y m z.1 | inr m ↦ absurd (z.0 m.0) ]
            | inl z ↦ subst (λ (u : Op). (results : List ShardResult) × AllDone u.shards results) z.1 (elim (completing_was w.completed o x.shards p h) [
              | inl m ↦ let (results, all) = l.queue.completed_done o d.op (subst (Has w.completed) z.0 m) d.op_there in (results, all_done_on (marked k (Done r)) (marked_leaves k r) d.op.shards results all)
              | inr m ↦ results_of x.shards m.1
            ])
          ])

pub turn_lawful : (f : Formats) (w new : World) (shelf : List Shelved) → Law f w shelf → w.deposed ≡ false → (turn : Turn f w new) → Lawful f new (shelf_after shelf (commands_of f w new turn))
turn_lawful f w new shelf law d (Stays m e) = subst (λ v. Lawful f v shelf) (sym e) law.lawful
turn_lawful f w new shelf law d (Commits m k name h) = commit_lawful f w shelf law.lawful k name m h
turn_lawful f w new shelf law d (CommitFails m k name h) = commit_fault_lawful f w shelf law.lawful k name m h
turn_lawful f w new shelf law d (Finds m k name h) = exists_lawful f w shelf law.lawful law k name m h
turn_lawful f w new shelf law d (Raises m k h) = raise_lawful f w shelf law.lawful k m h
turn_lawful f w new shelf law d (Latests m k h) = latest_lawful f (record w { blobs = h.now }) shelf (put_law f w shelf law h.now h.puts).lawful k m h.tries
turn_lawful f w new shelf law d (Fetches m k name h) = fetch_lawful f w shelf law.lawful k name m h
turn_lawful f w new shelf law d (SettlesFinal m k n t s h) = settle_final_lawful f w shelf law.lawful k n t s m h
turn_lawful f w new shelf law d (SettlesDelete m k n t s h) = settle_delete_lawful f w shelf law.lawful k n t s m h
turn_lawful f w new shelf law d (Elects m h) = elect_lawful f w shelf law.lawful m h
turn_lawful f w new shelf law d (TakesShard m o op s base h) = shard_lawful f w shelf law.lawful o op s base m h
turn_lawful f w new shelf law d (TakesFinal m o op results h) = final_lawful f w shelf law.lawful o op results m h (final_clean f w shelf law o op results h.ready.op_there)
turn_lawful f w new shelf law d (TakesDrop m o h) = drop_lawful f w shelf law.lawful o m h
turn_lawful f w new shelf law d (TakesDelete m n x h) = delete_lawful f w shelf law.lawful n x m h
turn_lawful f w new shelf law d (DrawsShard m k n h) = draw_shard_lawful f w shelf law.lawful k n m h (draw_above f w shelf law k h.t h.out.there h.shard)
turn_lawful f w new shelf law d (DrawsPlan m k n h) = draw_plan_lawful f w shelf law.lawful k n m h (λ name b own. let z = h.own_drawn name b own in plan_clean f w shelf law z.0 z.1 z.2 name z.3 z.4)
turn_lawful f w new shelf law d (Dones m k r h) = done_lawful f w shelf law.lawful k r m (found f w shelf law k r m h)
turn_lawful f w new shelf law d (Ending m k h) = ends_lawful f w shelf law.lawful k m h
turn_lawful f w new shelf law d (Fails m k h) = failed_lawful f w shelf law.lawful k m h
turn_lawful f w new shelf law d (FailsDelete m k h) = failed_delete_lawful f w shelf law.lawful k m h
turn_lawful f w new shelf law d (Drops m k h) = dropped_lawful f w shelf law.lawful k m h
turn_lawful f w new shelf law d (TakesCleanup m n x h) = cleanup_lawful f w shelf law.lawful n x m h
turn_lawful f w new shelf law d (AsksCleanup m h) = cleanup_asked_lawful f w shelf law.lawful m h
turn_lawful f w new shelf law d (CleanDrops m k h) = clean_dropped_lawful f w shelf law.lawful k m h
turn_lawful f w new shelf law d (AsksCreate m op h) = create_lawful f w shelf law.lawful op m h (is_apart f w shelf law op m h) (one_id f w shelf law op m h) law.ids
turn_lawful f w new shelf law d (AsksDelete m uuids h) = delete_asked_lawful f w shelf law.lawful uuids m h
turn_lawful f w new shelf law d (Merges m uuids n h) = merge_lawful f w shelf law.lawful uuids n m h
turn_lawful f w new shelf law d (Removing m k names h) = remove_lawful f w shelf law.lawful k names m h
turn_lawful f w new shelf law d (Pages m k page h) = page_lawful f w shelf law.lawful k page m h
turn_lawful f w new shelf law d (Deposes m up h e) =
    subst (λ v. Lawful f v (shelf_after shelf (commands_of f w up h))) (sym e) (deposed_lawful f up (shelf_after shelf (commands_of f w up h)) (turn_lawful f w up shelf law d h))
turn_lawful f w new shelf law d (Tests m t) = tests_lawful f w shelf law m t
turn_lawful f w new shelf law d (Besides m up h r) = lawful_aside f up m (shelf_after shelf (commands_of f w up h)) (aside_of f up m r) (turn_lawful f w up shelf law d h)

pub turn_law : (f : Formats) (w new : World) (shelf : List Shelved) → Law f w shelf → w.deposed ≡ false → (turn : Turn f w new) → Law f new (shelf_after shelf (commands_of f w new turn))
turn_law f w new shelf law d turn = record {
  lawful = turn_lawful f w new shelf law d turn;
  ids = turn_ids f w new shelf law d turn;
  deletions = turn_deletions f w new shelf law turn;
  in_term = turn_in_term f w new law.in_term turn;
  written = turn_written f w new shelf law turn;
  texts = turn_texted f w new shelf law turn;
  pruned = turn_pruned f w new shelf law turn;
}
