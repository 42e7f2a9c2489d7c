-- Each turn keeps ids below the counter, and doomed names apart.
use Rattle.std.proofs.Common.{◌≡◌, ◌⊎◌, ℕ, suc, ◌+◌, ◌<◌, ◌≤◌, List, ◌∷◌, ◌++◌, Bool, true, false, true≢false, Option, Some, None, map, refl, sym, ap, ◌∙◌, subst, inl, inr, arith, le_refl}
use Rattle.std.specs.FinMap as fin
use Rattle.std.proofs.lemmas.Option.{same_Some, none-some}
use Rattle.esr_core.specs.Laws.NumberMaps.{was_in, left_in}
use Rattle.esr_model.specs.Parts.{part_names}
use Rattle.esr_model.specs.Names.{BlobName, Snap, Meta, IndexMeta, ShardSnap, ShardIndex, File, Part}
use Rattle.esr_model.specs.Values.{Bytes, IndexRef, RootSnap, RootData, ShardResult, Formats}
use Rattle.esr_model.specs.Shelf.{Shelved}
use Rattle.esr_model.specs.Image.{IsStored, Has, Present, Generation, RootStands}
use Rattle.esr_model.specs.Finalize.{Finalizes, finalized_root, done_at}
use Rattle.esr_model.specs.Reach.{Reached, ReachSnap, ReachMeta, ReachIndexMeta, ReachIndex, ReachShardSnap, ReachPart}
use Rattle.esr_core.specs.World.{World, Op, ShardWork, Pending, Done, Work, Shard, Finalize, Deleting, Drop, Ticket, Swap, AllDone, swap, HeldIn, info_of, marked}
use Rattle.esr_core.specs.Ready.{IsShard}
use Rattle.esr_core.specs.Steps.{IsOut, reading, listing, Largest, given, shard_ticket, final_ticket, noting, writing, plain_ticket}
use Rattle.esr_core.specs.Turns.{cleaning_ticket, Turn, Stays, Commits, CommitFails, Finds, Raises, Latests, Fetches, SettlesFinal, SettlesDelete, Elects, TakesShard, TakesFinal, TakesDrop, TakesDelete, TakesCleanup, AsksCleanup, CleanDrops, DrawsShard, DrawsPlan, Dones, Ending, Fails, FailsDelete, Drops, AsksCreate, AsksDelete, Merges, Removing, Pages, Deposes, SettleDelete, DrawPlan, AskCreate, Aborts, fails, Besides, Tests}
use Rattle.esr_core.specs.Generations.{DoneAt, OpLaw}
use Rattle.esr_core.specs.Ids.{OfUuid, OfId, TicketIds, OpIds, DoomedIds, Ids, IdsIn, Law}
use Rattle.esr_model.specs.Kept.{first_id, IdsBelow, RootIds}
use Rattle.esr_model.specs.Lists.{pairs_has, Has-append, Has-mapped, Has-either}
use Rattle.esr_core.proofs.Testing.{tests_ids}
use Rattle.esr_core.proofs.Besides.{aside_of, kept_aside}
use Rattle.esr_core.proofs.LatestPut.{put_law}
use Rattle.esr_core.specs.Laws.PartNames.{in_parts}
use Rattle.esr_core.specs.Laws.OneValue.{generation_index, reads_one, held_one, safe_root_stands}
use Rattle.esr_core.specs.Laws.BlobFrames.{at_was}
use Rattle.esr_core.specs.Laws.DoneShards.{found_done}
use Rattle.esr_core.specs.Laws.NewRoots.{larger_is, finalizes, root_one_each}
use Rattle.esr_core.specs.Laws.Metadata.{Kinds, IsSnap, IsMeta, IsIndex, kinds}
use Rattle.esr_core.specs.Laws.ShardStates.{marked_is, given_is, out_done, failed_is, up_done}
use Rattle.esr_core.specs.Laws.DeleteRoots.{left_has}
use Rattle.esr_core.proofs.Settling.{no_shard}
use Rattle.esr_core.proofs.Paging.{page_ids}
use Rattle.esr_core.proofs.Below.{ticket_up, ids_up, ids_put, ids_again, ids_new, ids_ops, ids_add, ids_blobs, ids_root, commits_below}
use Rattle.esr_core.specs.Laws.SortedLists.{shard_ref}
use Rattle.esr_core.specs.Laws.Maps.{Ops}

uuid_below : (name : BlobName) (id c : ℕ) → OfUuid name id → IdsBelow name c → id < c
uuid_below (Snap u) id c of b = subst (λ y. y < c) of b
uuid_below (Meta u) id c of b = subst (λ y. y < c) of b
uuid_below (IndexMeta i u) id c of b = subst (λ y. y < c) of b.1
uuid_below (ShardSnap i s u) id c of b = subst (λ y. y < c) of b.1
uuid_below name id c of b = absurd of

id_below : (name : BlobName) (id c : ℕ) → OfId name id → IdsBelow name c → id < c
id_below (ShardIndex i s g) id c of b = subst (λ y. y < c) of b.1
id_below (File i s x) id c of b = subst (λ y. y < c) of b.1
id_below (Part i s x p) id c of b = subst (λ y. y < c) of b.1
id_below name id c of b = absurd of

module _ (f : Formats) (w : World) (shelf : List Shelved) (l : Law f w shelf) where
  x : IdsIn f w
  x = l.ids

  -- a ticket given anew, which changes nothing that ids are read from
  again : (k : ℕ) (t v : Ticket) → fin.get w.tickets k ≡ Some t → TicketIds f w.next_id v → v.first ≡ t.first → v.drawn ≡ t.drawn → (v.out ≡ true → t.out ≡ true) → (IsShard v.work → IsShard t.work)
      → Ids f w.next_id w.blobs w.doomed w.root w.ops (fin.insert w.tickets k v)
  again = ids_again f w.next_id w.blobs w.doomed w.root w.ops w.tickets l.ids

  -- the op's shards go on, none newly done
  op_on : (g : ShardWork → ShardWork) (op : Op) (o : ℕ) (failed : Bool) → fin.get w.ops o ≡ Some op → ((s : ShardWork) (r : ShardResult) → (g s).state ≡ Done r → (s.state ≡ Done r) ⊎ (r.generation < w.next_id))
      → OpIds w.next_id (record op { shards = map g op.shards; failed = failed })
  op_on g op o failed there done =
      let h = l.ids.ops o op there in
      record {
        uuid = h.uuid;
        indices = h.indices;
        done = λ s r m e. let (z, zm, same) = Has-mapped g op.shards s m in elim (done z r (ap (λ (y : ShardWork). y.state) same ∙ e)) [ inl was ↦ h.done z r zm was | inr below ↦ below ];
      }

  ops_on : (o : ℕ) (op now : Op) → fin.get w.ops o ≡ Some op → now.uuid ≡ op.uuid → OpIds w.next_id now → Ids f w.next_id w.blobs w.doomed w.root (fin.insert w.ops o now) w.tickets
  ops_on o op now there same ids = ids_ops f w.next_id w.blobs w.doomed w.root w.ops w.tickets l.ids (fin.insert w.ops o now)
      (λ p q e. elim (was_in w.ops o now p q e) [
        | inl h ↦ (subst (OpIds w.next_id) h.1 ids, (o, op, there, sym same ∙ ap (λ (y : Op). y.uuid) h.1))
        | inr h ↦ (l.ids.ops p q h.1, (p, q, h.1, refl))
      ])

  given_done : (k i n : ℕ) (s : ShardWork) (r : ShardResult) → (given k i n s).state ≡ Done r → s.state ≡ Done r
  given_done k i n s r e = elim (given_is k i n s) [ inl h ↦ absurd (out_done (ap (λ (y : ShardWork). y.state) (sym h.2) ∙ e)) | inr h ↦ sym (ap (λ (y : ShardWork). y.state) h.1) ∙ e ]

  failed_done : (k : ℕ) (s : ShardWork) (r : ShardResult) → (fails k s).state ≡ Done r → s.state ≡ Done r
  failed_done k s r e = elim (failed_is k s) [ inr h ↦ sym (ap (λ (y : ShardWork). y.state) h.2) ∙ e | inl h ↦ absurd (up_done (sym (ap (λ (y : ShardWork). y.state) h.1) ∙ e)) ]

  marked_done : (k : ℕ) (q : ShardResult) → q.generation < w.next_id → (s : ShardWork) (r : ShardResult) → (marked k (Done q) s).state ≡ Done r → (s.state ≡ Done r) ⊎ (r.generation < w.next_id)
  marked_done k q below s r e = elim (marked_is k (Done q) s) [
    | inr h ↦ inl (sym (ap (λ (y : ShardWork). y.state) h.is) ∙ e)
    | inl h ↦ inr (subst (λ (z : ShardResult). z.generation < w.next_id) (done_same (sym (ap (λ (y : ShardWork). y.state) h.is) ∙ e)) below)
  ]
    where
      done_same : {a b : ShardResult} → Done a ≡ Done b → a ≡ b
      done_same e = cc

  blob_was : (name : BlobName) (bytes : Bytes) (valid : IsStored f name) (absent : fin.get w.blobs (f.names.text name) ≡ None) → IdsBelow name w.next_id → (m : BlobName) → Present f (fin.insert w.blobs (f.names.text name) bytes) m
      → Present f w.blobs m ⊎ IdsBelow m w.next_id
  blob_was name bytes valid absent below m p = elim (at_was f w.blobs name bytes valid absent w.doomed m p.0 p.1) [
    | inr was ↦ inl (p.0, was)
    | inl is ↦ inr (subst (λ n. IdsBelow n w.next_id) (sym is.0) below)
  ]

  live_below : (i k g : ℕ) → (Generation w.root i k g) ⊎ ((uuid : ℕ) × DoneAt w.ops uuid i k g) → g < w.next_id
  live_below i k g (inl h) = l.ids.root.generations i k g h
  live_below i k g (inr (u, a)) = subst (λ n. n < w.next_id) a.generation_is ((l.ids.ops a.number a.op a.there).done a.s a.r a.s_there a.state)

  -- a ticket without a swap, and of no shard
  plain_ids : (o : ℕ) (work : Work) → (IsShard work → ⊥) → ((s : Swap) → swap f (plain_ticket w o work) ≡ Some s → ⊥) → TicketIds f w.next_id (plain_ticket w o work)
  plain_ids o work not none =
      record {
        drawn = omega arith;
        uuid = λ s. absurd (not s);
        index = λ i j e. absurd (not (subst IsShard (sym e) tt));
        base = λ b e. absurd (none-some b e);
        copy = l.ids.root;
        own = λ s e. absurd (none s e);
        root = λ s e. absurd (none s e);
        listed = λ name m. absurd m;
      }

  cleaning_ids : (o : ℕ) → TicketIds f w.next_id (cleaning_ticket w o)
  cleaning_ids o =
      record {
        drawn = omega arith;
        uuid = λ s. absurd s;
        index = λ i j e. absurd (subst IsShard (sym e) tt);
        base = λ b e. absurd (none-some b e);
        copy = l.ids.root;
        own = λ s e. absurd (none-some s e);
        root = λ s e. absurd (none-some s e);
        listed = λ name m. absurd m;
      }

  shard_ids : (o : ℕ) (op : Op) (s : ShardWork) (base : Option ℕ) → fin.get w.ops o ≡ Some op → Has op.shards s → Largest w s.ref.id s.number base → TicketIds f w.next_id (shard_ticket w o op s base)
  shard_ids o op s base there m largest =
      record {
        drawn = omega arith;
        uuid = λ h. (l.ids.ops o op there).uuid;
        index = λ i k e. subst (λ y. y < w.next_id) (shard_index e) ((l.ids.ops o op there).indices s.ref (shard_ref op s m (l.lawful.sound.carried.ops o op there).places));
        base = λ b e. live_below s.ref.id s.number b (subst (Largest w s.ref.id s.number) e largest).0;
        copy = l.ids.root;
        own = λ z e. absurd (none-some z e);
        root = λ z e. absurd (none-some z e);
        listed = λ name m. absurd m;
      }
    where
      shard_index : {i k : ℕ} → Shard s.ref.id s.number ≡ Shard i k → s.ref.id ≡ i
      shard_index e = cc

  -- the ids of a finalization's root and blobs
  module _ (o : ℕ) (op : Op) (results : List ShardResult) (there : fin.get w.ops o ≡ Some op) (done : AllDone op.shards results) where
    law : OpLaw f (HeldIn f w) w.root op
    law = l.lawful.sound.carried.ops o op there

    new : RootData
    new = finalized_root w.root (info_of op results) results

    fins : Finalizes w.root (info_of op results) results (finalized_root w.root (info_of op results) results)
    fins = finalizes f (HeldIn f w) w.root op results law (root_one_each f (HeldIn f w) w.safe w.root l.lawful.sound.carried.root_is) done

    result_below : (i k g : ℕ) → done_at results i k ≡ Some g → g < w.next_id
    result_below i k g e =
        let (s, m, (r, state, is, ns, gen)) = found_done op.shards results done (λ s r m e. let y = law.done s r m e in (y.index_is, y.shard_is)) i k g e in
        subst (λ n. n < w.next_id) gen ((l.ids.ops o op there).done s r m state)

    final_root : RootIds (finalized_root w.root (info_of op results) results) w.next_id
    final_root =
        record {
          generations = λ i k g gen. elim (larger_is _ (done_at results i k) g (sym (fins.generations i k) ∙ gen)) [ inl e ↦ l.ids.root.generations i k g e | inr e ↦ result_below i k g e ];
          snapshots = λ s m. elim (Has-append w.root.snapshots _ s (subst (λ xs. Has xs s) fins.snapshots m)) [ inl old ↦ l.ids.root.snapshots s old | inr e ↦ subst (λ (y : RootSnap). y.uuid < w.next_id) e (l.ids.ops o op there).uuid ];
          ids = λ y m. elim (fins.names y m) [ inl h ↦ subst (λ n. n < w.next_id) h.3 (l.ids.root.ids h.0 h.1) | inr h ↦ subst (λ n. n < w.next_id) h.3 ((l.ids.ops o op there).indices h.0 h.1) ];
          uuids = λ y u m has. elim (fins.from y m u has) [ inl h ↦ subst (λ n. n < w.next_id) (sym h.0) (l.ids.ops o op there).uuid | inr h ↦ l.ids.root.uuids h.0 u h.1 h.4 ];
          one_name = λ y z ym zm e. elim (fins.names y ym) [
            | inl a ↦ elim (fins.names z zm) [
              | inl b ↦ sym a.2 ∙ l.ids.root.one_name a.0 b.0 a.1 b.1 (a.3 ∙ e ∙ sym b.3) ∙ b.2
              | inr b ↦ sym a.2 ∙ sym (law.same_name b.0 a.0 b.1 a.1 (b.3 ∙ sym e ∙ sym a.3)) ∙ b.2
            ]
            | inr a ↦ elim (fins.names z zm) [
              | inl b ↦ sym a.2 ∙ law.same_name a.0 b.0 a.1 b.1 (a.3 ∙ e ∙ sym b.3) ∙ b.2
              | inr b ↦ sym a.2 ∙ ap (λ (r : IndexRef). r.name) (law.one_id a.0 b.0 a.1 b.1 (a.3 ∙ e ∙ sym b.3)) ∙ b.2
            ]
          ];
        }

    own_below : (name : BlobName) (b : Bytes) → Kinds f (info_of op results) name b → IdsBelow name w.next_id
    own_below name b (IsSnap e t) = subst (λ n. IdsBelow n w.next_id) (sym e) (l.ids.ops o op there).uuid
    own_below name b (IsMeta e t) = subst (λ n. IdsBelow n w.next_id) (sym e) (l.ids.ops o op there).uuid
    own_below name b (IsIndex r m e t) = subst (λ n. IdsBelow n w.next_id) (sym e) ((l.ids.ops o op there).indices r m, (l.ids.ops o op there).uuid)

    pub final_ids : TicketIds f w.next_id (final_ticket f w o op results)
    final_ids =
        record {
          drawn = omega arith;
          uuid = λ h. absurd h;
          index = λ i j e. absurd (subst IsShard (sym e) tt);
          base = λ b e. absurd (none-some b e);
          copy = l.ids.root;
          own = λ s e name b m. own_below name b (kinds f (info_of op results) name b (subst (λ (y : Swap). Has y.own (name, b)) (sym (same_Some _ _ e)) m));
          root = λ s e. subst (λ (y : Swap). RootIds y.root w.next_id) (same_Some _ _ e) final_root;
          listed = λ name m. absurd m;
        }

  -- a plan's
  plan_ids : (k n : ℕ) (new : World) (d : DrawPlan f w k n new) → TicketIds f (w.next_id + n) (record d.t { first = w.next_id; drawn = n; work = Deleting d.named (Some (record { root = d.root; own = d.own; commands = d.commands })) })
  plan_ids k n new d =
      let old = ticket_up f d.t w.next_id (w.next_id + n) (omega arith) (l.ids.tickets k d.t d.out.there) in
      record {
        drawn = le_refl (w.next_id + n);
        uuid = λ s. absurd s;
        index = λ i j e. absurd (subst IsShard (sym e) tt);
        base = old.base;
        copy = old.copy;
        listed = old.listed;
        own = λ s e name b m.
            let z = d.own_drawn name b (subst (λ (y : Swap). Has y.own (name, b)) (sym (same_Some _ _ e)) m) in
            subst (λ q. IdsBelow q (w.next_id + n)) (sym z.3) (subst (λ q. q < w.next_id + n) z.6.2 (old.copy.ids z.6.0 z.6.1), z.5);
        root = λ s e. subst (λ (y : Swap). RootIds y.root (w.next_id + n)) (same_Some _ _ e) (record {
          generations = λ i x g gen. elim (d.without.generations i x g gen) [ inl was ↦ old.copy.generations i x g was | inr fresh ↦ (d.fresh_drawn i x g fresh).1 ];
          snapshots = λ s m. old.copy.snapshots s (left_has d.uuids d.t.root.snapshots s (subst (λ xs. Has xs s) d.without.snapshots m));
          ids = λ y m. let h = d.without.from y m in subst (λ q. q < w.next_id + n) h.3 (old.copy.ids h.0 h.1);
          uuids = λ y u m has. let h = d.without.from y m in old.copy.uuids h.0 u h.1 (h.4 u has);
          one_name = λ y z ym zm e. let a = d.without.from y ym in let b = d.without.from z zm in sym a.2 ∙ old.copy.one_name a.0 b.0 a.1 b.1 (a.3 ∙ e ∙ sym b.3) ∙ b.2;
        });
      }

  -- a ticket given anew in what isn't an id
  quiet_ids : (k : ℕ) (t : Ticket) → fin.get w.tickets k ≡ Some t → (noted : List BlobName) (wrote read : List (BlobName × Bytes)) (raised : Option ℕ) (tried settled out : Bool)
      → TicketIds f w.next_id (record t { noted = noted; wrote = wrote; read = read; raised = raised; tried_latest = tried; settled = settled; out = out })
  quiet_ids k t there noted wrote read raised tried settled out = let h = l.ids.tickets k t there in record { drawn = h.drawn; uuid = h.uuid; index = h.index; base = h.base; copy = h.copy; own = h.own; root = h.root; listed = h.listed }

  -- a ticket that ends draws nothing more
  ended_ids : (ops : Ops) (tickets_ids : Ids f w.next_id w.blobs w.doomed w.root ops w.tickets) (k : ℕ) (t : Ticket) → fin.get w.tickets k ≡ Some t
      → Ids f w.next_id w.blobs w.doomed w.root ops (fin.insert w.tickets k (record t { out = false }))
  ended_ids ops h k t there =
      ids_again f w.next_id w.blobs w.doomed w.root ops w.tickets h k t (record t { out = false }) there (quiet_ids k t there t.noted t.wrote t.read t.raised t.tried_latest t.settled false) refl refl (λ e. absurd (true≢false (sym e))) (λ i. i)

  removed_ids : (o : ℕ) → Ids f w.next_id w.blobs w.doomed w.root (fin.remove w.ops o) w.tickets
  removed_ids o = ids_ops f w.next_id w.blobs w.doomed w.root w.ops w.tickets l.ids (fin.remove w.ops o) (λ p q e. let was = (left_in w.ops o p q e).1 in (l.ids.ops p q was, (p, q, was, refl)))

  aborted_ids : (now : Ops) (by : ℕ) → Aborts w.ops now by → Ids f w.next_id w.blobs w.doomed w.root now w.tickets
  aborted_ids now by a = ids_ops f w.next_id w.blobs w.doomed w.root w.ops w.tickets l.ids now (λ o op e.
      let (old, there, how) = a.was o op e in
      let h = l.ids.ops o old there in
      elim how [
        | inl same ↦ (subst (OpIds w.next_id) (sym same) h, (o, old, there, ap (λ (y : Op). y.uuid) (sym same)))
        | inr same ↦ (subst (OpIds w.next_id) (sym same) (record { uuid = h.uuid; indices = h.indices; done = h.done }), (o, old, there, ap (λ (y : Op). y.uuid) (sym same)))
      ])

  -- a new snapshot's
  created_ids : (op : Op) (new : World) (d : AskCreate f w op new) → Ids f (w.next_id + d.drawn) w.blobs w.doomed w.root (fin.insert w.ops w.next_op op) w.tickets
  created_ids op new d =
      let le : w.next_id ≤ w.next_id + d.drawn = omega arith in
      ids_add f (w.next_id + d.drawn) w.blobs w.doomed w.root w.ops w.tickets (ids_up f w.next_id (w.next_id + d.drawn) le w.blobs w.doomed w.root w.ops w.tickets l.ids) w.next_op op
      (record {
        uuid = omega (arith, d.uuid_is, d.some_drawn);
        indices = λ r m. elim (d.ids r m) [
          | inl h ↦ let b : h.0.id < w.next_id = l.ids.root.ids h.0 h.1 in omega (arith, h.3)
          | inr (inl h) ↦ let b : h.2.id < w.next_id = (l.ids.ops h.0 h.1 h.3).indices h.2 h.4 in omega (arith, h.6)
          | inr (inr h) ↦ h.1
        ];
        done = λ s r m e. absurd (pending_done (sym (d.pending s m) ∙ e));
      })
      (λ name m of. let b : op.uuid < w.next_id = uuid_below name op.uuid w.next_id of (l.ids.doomed name m).below in omega (arith, d.uuid_is))
    where
      pending_done : {r : ShardResult} → Pending ≡ Done r → ⊥
      pending_done e = cc

  -- what a delete dooms, at its settle
  module _ (k n : ℕ) (t : Ticket) (s : Swap) (new : World) (d : SettleDelete f w k n t s new) where
    stands : RootStands f (HeldIn f w) w.root shelf
    stands = safe_root_stands f (HeldIn f w) (held_one f w) w.safe w.root shelf l.lawful.sound.rooted.kept.picked l.lawful.sound.carried.root_is

    index_below : (i q g : ℕ) → Generation w.root i q g → i < w.next_id
    index_below i q g gen = let h = generation_index w.root i q g gen in subst (λ y. y < w.next_id) h.2 (l.ids.root.ids h.0 h.1)

    reached_below : (name : BlobName) → Reached f (HeldIn f w) w.root name → IdsBelow name w.next_id
    reached_below name (ReachSnap z there) = l.ids.root.snapshots z there
    reached_below name (ReachMeta z there) = l.ids.root.snapshots z there
    reached_below name (ReachIndexMeta y u there has) = (l.ids.root.ids y there, l.ids.root.uuids y u there has)
    reached_below name (ReachIndex i q g gen) = (index_below i q g gen, l.ids.root.generations i q g gen)
    reached_below name (ReachShardSnap i q g z held list gen reads has there same) = (index_below i q g gen, l.ids.root.snapshots z there)
    reached_below name (ReachPart i q g held e piece gen reads m part) =
        let index = stands.indices i q g gen in
        let same = reads_one (HeldIn f w) (held_one f w) (ShardIndex i q g) f.shard_index held index.held reads index.held_reads in
        let (bytes, file) = index.files e (subst (λ h. Has h.files e) same m) in
        let (part_bytes, at) = pairs_has (HeldIn f w) (part_names i q e) file.parts piece file.there part in
        l.ids.blobs piece (part_bytes, at.0)

    unused : (name : BlobName) → Reached f (HeldIn f w) w.root name → (o : ℕ) (op : Op) → fin.get w.ops o ≡ Some op → OfUuid name op.uuid → ⊥
    unused name (ReachSnap z there) o op e of = (l.lawful.sound.carried.ops o op e).unlisted z there of
    unused name (ReachMeta z there) o op e of = (l.lawful.sound.carried.ops o op e).unlisted z there of
    unused name (ReachIndexMeta y u there has) o op e of = (l.lawful.sound.carried.ops o op e).unused y there (subst (Has y.snapshots) of has)
    unused name (ReachIndex i q g gen) o op e of = of
    unused name (ReachShardSnap i q g z held list gen reads has there same) o op e of = (l.lawful.sound.carried.ops o op e).unlisted z there of
    unused name (ReachPart i q g held en piece gen reads m part) o op e of = elim (in_parts i q en piece part) [
      | inl h ↦ subst (λ y. OfUuid y op.uuid) h of
      | inr h ↦ subst (λ y. OfUuid y op.uuid) h.1 of
    ]

    settled_doomed : (name : BlobName) → Has (d.names ++ w.doomed) name → DoomedIds w.next_id (fin.remove w.ops t.op) (fin.insert w.tickets k (record t { settled = true })) name
    settled_doomed name m =
        record {
          below = elim (Has-either d.names w.doomed name m) [
            | inl h ↦ elim (d.reach name h) [ inl r ↦ reached_below name r | inr (inl z) ↦ subst (λ y. IdsBelow y w.next_id) (sym z.1) tt | inr (inr z) ↦ z.1.below ]
            | inr h ↦ (l.ids.doomed name h).below
          ];
          uuids = λ o op e of. let was = (left_in w.ops t.op o op e).1 in elim (Has-either d.names w.doomed name m) [
            | inl h ↦ elim (d.reach name h) [ inl r ↦ unused name r o op was of | inr (inl z) ↦ subst (λ y. OfUuid y op.uuid) z.1 of | inr (inr z) ↦ (l.lawful.queue.lone t.op d.deletion d.there (d.cleans_is ∙ z.0)).0 o op was ]
            | inr h ↦ (l.ids.doomed name h).uuids o op was of
          ];
          ids = λ j u e out shard id drew of. let work = shard_of u.work shard in no_shard f w shelf l.lawful k n t s new d j u e out work.0 work.1 work.2;
        }
      where
        shard_of : (work : Work) → IsShard work → (i : ℕ) × (q : ℕ) × (work ≡ Shard i q)
        shard_of (Shard i q) h = (i, q, refl)
        shard_of (Finalize info results made) h = absurd h
        shard_of work h = absurd h

    pub settled_delete_ids : Ids f w.next_id w.blobs (d.names ++ w.doomed) s.root (fin.remove w.ops t.op) (fin.insert w.tickets k (record t { settled = true }))
    settled_delete_ids =
        record {
          blobs = l.ids.blobs;
          doomed = settled_doomed;
          root = (l.ids.tickets k t d.may.out.there).root s d.may.is;
          ops = λ o op e. l.ids.ops o op (left_in w.ops t.op o op e).1;
          tickets = λ j u e.
              elim (was_in w.tickets k (record t { settled = true }) j u e) [ inl h ↦ subst (TicketIds f w.next_id) h.1 (quiet_ids k t d.may.out.there t.noted t.wrote t.read t.raised t.tried_latest true t.out) | inr h ↦ l.ids.tickets j u h.1 ];
        }

  settled_ids : (k n : ℕ) (t : Ticket) (s : Swap) → IsOut w k t → swap f t ≡ Some s → Ids f w.next_id w.blobs w.doomed s.root (fin.remove w.ops t.op) (fin.insert w.tickets k (record t { settled = true }))
  settled_ids k n t s out is =
      ids_root f w.next_id w.blobs w.doomed w.root (fin.remove w.ops t.op) (fin.insert w.tickets k (record t { settled = true }))
      (ids_again f w.next_id w.blobs w.doomed w.root (fin.remove w.ops t.op) w.tickets (removed_ids t.op) k t (record t { settled = true }) out.there
      (quiet_ids k t out.there t.noted t.wrote t.read t.raised t.tried_latest true t.out) refl refl (λ e. e) (λ i. i))
      s.root ((l.ids.tickets k t out.there).root s is)

pub turn_ids : (f : Formats) (w new : World) (shelf : List Shelved) → Law f w shelf → w.deposed ≡ false → Turn f w new → IdsIn f new
turn_ids f w new shelf l d (Stays m e) = subst (IdsIn f) (sym e) l.ids
turn_ids f w new shelf l d (Commits m k name h) = subst (IdsIn f) (sym h.new_is)
    (ids_again f w.next_id (fin.insert w.blobs (f.names.text name) h.bytes) w.doomed w.root w.ops w.tickets
    (ids_blobs f w.next_id w.blobs w.doomed w.root w.ops w.tickets l.ids (fin.insert w.blobs (f.names.text name) h.bytes)
    (blob_was f w shelf l name h.bytes h.named h.absent (commits_below f w.next_id h.t (l.ids.tickets k h.t h.out.there) name h.bytes h.may)))
    k h.t (writing h.t name h.bytes) h.out.there (quiet_ids f w shelf l k h.t h.out.there (name ∷ h.t.noted) ((name, h.bytes) ∷ h.t.wrote) h.t.read h.t.raised h.t.tried_latest h.t.settled h.t.out) refl refl (λ e. e) (λ i. i))
turn_ids f w new shelf l d (CommitFails m k name h) = elim h.leaves [
  | inl e ↦ subst (IdsIn f) (sym e) l.ids
  | inr e ↦ subst (IdsIn f) (sym e.1) (ids_blobs f w.next_id w.blobs w.doomed w.root w.ops w.tickets l.ids (fin.insert w.blobs (f.names.text name) h.bytes)
      (blob_was f w shelf l name h.bytes h.named e.0 (commits_below f w.next_id h.t (l.ids.tickets k h.t h.out.there) name h.bytes h.may)))
]
turn_ids f w new shelf l d (Raises m k h) = subst (IdsIn f) (sym h.new_is)
    (again f w shelf l k h.t (record h.t { raised = Some w.pending }) h.out.there (quiet_ids f w shelf l k h.t h.out.there h.t.noted h.t.wrote h.t.read (Some w.pending) h.t.tried_latest h.t.settled h.t.out) refl refl (λ e. e) (λ i. i))
turn_ids f w new shelf l d (Latests m k h) = subst (IdsIn f) (sym h.tries.new_is) (again f (record w { blobs = h.now }) shelf (put_law f w shelf l h.now h.puts) k h.tries.t (record h.tries.t { tried_latest = true }) h.tries.out.there
    (quiet_ids f (record w { blobs = h.now }) shelf (put_law f w shelf l h.now h.puts) k h.tries.t h.tries.out.there h.tries.t.noted h.tries.t.wrote h.tries.t.read h.tries.t.raised true h.tries.t.settled h.tries.t.out) refl refl (λ e. e) (λ i. i))
turn_ids f w new shelf l d (Finds m k name h) =
    subst (IdsIn f) (sym h.new_is) (again f w shelf l k h.t (noting h.t name) h.out.there (quiet_ids f w shelf l k h.t h.out.there (name ∷ h.t.noted) h.t.wrote h.t.read h.t.raised h.t.tried_latest h.t.settled h.t.out) refl refl (λ e. e) (λ i. i))
turn_ids f w new shelf l d (Fetches m k name h) = subst (IdsIn f) (sym h.new_is)
    (again f w shelf l k h.t (reading h.t name h.bytes) h.out.there (quiet_ids f w shelf l k h.t h.out.there h.t.noted h.t.wrote ((name, h.bytes) ∷ h.t.read) h.t.raised h.t.tried_latest h.t.settled h.t.out) refl refl (λ e. e) (λ i. i))
turn_ids f w new shelf l d (SettlesFinal m k n t s h) = subst (IdsIn f) (sym h.new_is) (settled_ids f w shelf l k n t s h.may.out h.may.is)
turn_ids f w new shelf l d (SettlesDelete m k n t s h) = subst (IdsIn f) (sym h.new_is) (settled_delete_ids f w shelf l k n t s m h)
turn_ids f w new shelf l d (Elects m h) = subst (IdsIn f) (sym h.new_is) (ids_up f w.next_id (first_id (suc w.term)) (let b : w.next_id < first_id (suc w.term) = l.in_term.below in omega (arith, b)) w.blobs w.doomed w.root w.ops w.tickets l.ids)
turn_ids f w new shelf l d (TakesShard m o op s base h) = subst (IdsIn f) (sym h.new_is)
    (let now : Op = record op { shards = map (given w.next_ticket s.ref.id s.number) op.shards } in
    ids_new f w.next_id w.blobs w.doomed w.root (fin.insert w.ops o now) w.tickets
    (ops_on f w shelf l o op now h.ready.op_there refl (op_on f w shelf l (given w.next_ticket s.ref.id s.number) op o op.failed h.ready.op_there (λ z r e. inl (given_done f w shelf l w.next_ticket s.ref.id s.number z r e))))
    w.next_ticket (shard_ticket w o op s base) (shard_ids f w shelf l o op s base h.ready.op_there h.ready.s_there h.largest) refl)
turn_ids f w new shelf l d (TakesFinal m o op results h) =
    subst (IdsIn f) (sym h.new_is) (ids_new f w.next_id w.blobs w.doomed w.root w.ops w.tickets l.ids w.next_ticket (final_ticket f w o op results) (final_ids f w shelf l o op results h.ready.op_there h.ready.done) refl)
turn_ids f w new shelf l d (TakesDrop m o h) =
    subst (IdsIn f) (sym h.new_is) (ids_new f w.next_id w.blobs w.doomed w.root w.ops w.tickets l.ids w.next_ticket (plain_ticket w o Drop) (plain_ids f w shelf l o Drop (λ s. s) (λ s e. none-some s e)) refl)
turn_ids f w new shelf l d (TakesDelete m n y h) =
    subst (IdsIn f) (sym h.new_is) (ids_new f w.next_id w.blobs w.doomed w.root w.ops w.tickets l.ids w.next_ticket (plain_ticket w n (Deleting y.uuids None)) (plain_ids f w shelf l n (Deleting y.uuids None) (λ s. s) (λ s e. none-some s e)) refl)
turn_ids f w new shelf l d (DrawsShard m k n h) = subst (IdsIn f) (sym h.new_is)
    (let le : w.next_id ≤ w.next_id + n = omega arith in
    let old = ticket_up f h.t w.next_id (w.next_id + n) le (l.ids.tickets k h.t h.out.there) in
    ids_put f (w.next_id + n) w.blobs w.doomed w.root w.ops w.tickets (ids_up f w.next_id (w.next_id + n) le w.blobs w.doomed w.root w.ops w.tickets l.ids) k (record h.t { first = w.next_id; drawn = n })
    (record { drawn = le_refl (w.next_id + n); uuid = old.uuid; index = old.index; base = old.base; copy = old.copy; own = old.own; root = old.root; listed = old.listed })
    (λ name q o s id drew of. let a : w.next_id ≤ id = drew.from in let b : id < w.next_id = id_below name id w.next_id of (l.ids.doomed name q).below in omega arith))
turn_ids f w new shelf l d (DrawsPlan m k n h) = subst (IdsIn f) (sym h.new_is)
    (ids_put f (w.next_id + n) w.blobs w.doomed w.root w.ops w.tickets (ids_up f w.next_id (w.next_id + n) (omega arith) w.blobs w.doomed w.root w.ops w.tickets l.ids) k
    (record h.t { first = w.next_id; drawn = n; work = Deleting h.named (Some (record { root = h.root; own = h.own; commands = h.commands })) }) (plan_ids f w shelf l k n m h) (λ name q o s id drew of. s))
turn_ids f w new shelf l d (Dones m k r h) = subst (IdsIn f) (sym h.new_is)
    (let now : Op = record h.op { shards = map (marked k (Done r)) h.op.shards } in
    let below : r.generation < w.next_id = (let a : r.generation < h.t.first + h.t.drawn = h.drew.below in let b : h.t.first + h.t.drawn ≤ w.next_id = (l.ids.tickets k h.t h.out.there).drawn in omega arith) in
    ended_ids f w shelf l (fin.insert w.ops h.t.op now) (ops_on f w shelf l h.t.op h.op now h.op_there refl (op_on f w shelf l (marked k (Done r)) h.op h.t.op h.op.failed h.op_there (marked_done f w shelf l k r below))) k h.t h.out.there)
turn_ids f w new shelf l d (Ending m k h) = subst (IdsIn f) (sym h.new_is) (ended_ids f w shelf l w.ops l.ids k h.t h.out.there)
turn_ids f w new shelf l d (Fails m k h) = subst (IdsIn f) (sym h.new_is)
    (let now : Op = record h.op { shards = map (fails k) h.op.shards; failed = true } in
    ended_ids f w shelf l (fin.insert w.ops h.t.op now) (ops_on f w shelf l h.t.op h.op now h.op_there refl (op_on f w shelf l (fails k) h.op h.t.op true h.op_there (λ z r e. inl (failed_done f w shelf l k z r e)))) k h.t h.out.there)
turn_ids f w new shelf l d (FailsDelete m k h) = subst (IdsIn f) (sym h.new_is) (ended_ids f w shelf l w.ops l.ids k h.t h.out.there)
turn_ids f w new shelf l d (Drops m k h) = subst (IdsIn f) (sym h.new_is) (ended_ids f w shelf l (fin.remove w.ops h.t.op) (removed_ids f w shelf l h.t.op) k h.t h.out.there)
turn_ids f w new shelf l d (TakesCleanup m n y h) = subst (IdsIn f) (sym h.new_is) (ids_new f w.next_id w.blobs w.doomed w.root w.ops w.tickets l.ids w.next_ticket (cleaning_ticket w n) (cleaning_ids f w shelf l n) refl)
turn_ids f w new shelf l d (AsksCleanup m h) = subst (IdsIn f) (sym h.new_is) l.ids
turn_ids f w new shelf l d (CleanDrops m k h) = subst (IdsIn f) (sym h.new_is) (ended_ids f w shelf l (fin.remove w.ops h.t.op) (removed_ids f w shelf l h.t.op) k h.t h.out.there)
turn_ids f w new shelf l d (AsksCreate m op h) = subst (IdsIn f) (sym h.new_is) (created_ids f w shelf l op m h)
turn_ids f w new shelf l d (AsksDelete m uuids h) = subst (IdsIn f) (sym h.new_is) (aborted_ids f w shelf l h.ops w.next_op h.aborts)
turn_ids f w new shelf l d (Merges m uuids n h) = subst (IdsIn f) (sym h.new_is) (aborted_ids f w shelf l h.ops n h.aborts)
turn_ids f w new shelf l d (Pages m k page h) = subst (IdsIn f) (sym h.new_is) (again f w shelf l k h.t (listing h.t page) h.out.there (page_ids f w shelf l k page m h) refl refl (λ e. e) (λ i. i))
turn_ids f w new shelf l d (Removing m k names h) = subst (IdsIn f) (sym h.new_is) (ids_blobs f w.next_id w.blobs w.doomed w.root w.ops w.tickets l.ids h.now (λ name p. inl (p.0, (h.removes.left (f.names.text name) p.0 p.1.0, p.1.1))))
turn_ids f w new shelf l d (Deposes m up h e) = subst (IdsIn f) (sym e) (turn_ids f w up shelf l d h)
turn_ids f w new shelf l d (Besides m up h r) = kept_aside (IdsIn f) up m (aside_of f up m r) (turn_ids f w up shelf l d h)
turn_ids f w new shelf l d (Tests m t) = tests_ids f w shelf l m t
