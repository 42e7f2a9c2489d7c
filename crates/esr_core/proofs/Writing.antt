-- Each turn keeps what the tickets of shards have committed.
use Rattle.std.proofs.Common.{◌≡◌, ℕ, ◌+◌, ◌<◌, ◌≤◌, List, [], true, false, true≢false, Some, None, refl, sym, ap, ◌∙◌, subst, inl, inr, arith}
use Rattle.std.specs.FinMap as fin
use Rattle.std.proofs.lemmas.Option.{none-some, same_Some}
use Rattle.esr_core.specs.Laws.NumberMaps.{was_in}
use Rattle.esr_model.specs.Names.{BlobName, ShardSnap, ShardIndex, File, Part}
use Rattle.esr_model.specs.Values.{Bytes, Has, FileEntry, ShardFiles, RootData, Formats}
use Rattle.esr_model.specs.Shelf.{Shelved}
use Rattle.esr_model.specs.Image.{IsStored, Blobs, Reads, IndexStands, At}
use Rattle.esr_core.specs.World.{World, Work, Shard, Finalize, Deleting, Drop, Ticket, Swap, swap_of, HeldIn}
use Rattle.esr_core.specs.Ready.{IsShard}
use Rattle.esr_core.specs.Steps.{Drew, ShardCommits, MayCommit, CommitDone, Remove, FetchFound, reading, listing, writing, noting, shard_ticket, final_ticket, Removes, plain_ticket}
use Rattle.esr_core.specs.Generations.{Base}
use Rattle.esr_core.specs.Ids.{OfId, Law}
use Rattle.esr_core.specs.Written.{WroteLaw, Written}
use Rattle.esr_core.specs.Turns.{DrawShard, cleaning_ticket, Turn, Stays, Commits, CommitFails, Finds, Raises, Latests, Fetches, SettlesFinal, SettlesDelete, Elects, TakesShard, TakesFinal, TakesDrop, TakesDelete, TakesCleanup, AsksCleanup, CleanDrops, DrawsShard, DrawsPlan, Dones, Ending, Fails, FailsDelete, Drops, AsksCreate, AsksDelete, Merges, Removing, Pages, Deposes, Besides, Tests, TestTurn, DrawsTest, AddsTest, RemovesTests}
use Rattle.esr_core.proofs.Besides.{aside_of, kept_aside}
use Rattle.esr_core.specs.Laws.BlobFrames.{at_kept, at_new}
use Rattle.esr_core.proofs.Pieces.{file_below}
use Rattle.esr_core.proofs.LatestPut.{put_law}
use Rattle.esr_core.specs.Laws.CloneSources.{source_stands}
use Rattle.esr_core.specs.Laws.Maps.{Tickets}

-- another ticket of the same unit that drew as much
again : (t v : Ticket) → v.work ≡ t.work → v.uuid ≡ t.uuid → v.first ≡ t.first → v.drawn ≡ t.drawn → (name : BlobName) → ShardCommits t name → ShardCommits v name
again t v w u f d (ShardSnap i k x) h = (w ∙ h.0, h.1 ∙ sym u)
again t v w u f d (ShardIndex i k g) h = (w ∙ h.0, record { from = subst (λ n. n ≤ g) (sym f) h.1.from; below = subst (λ n. g < n) (sym (λ j. f j + d j)) h.1.below })
again t v w u f d (File i k x) h = (w ∙ h.0, record { from = subst (λ n. n ≤ x) (sym f) h.1.from; below = subst (λ n. x < n) (sym (λ j. f j + d j)) h.1.below })
again t v w u f d (Part i k x p) h = (w ∙ h.0, record { from = subst (λ n. n ≤ x) (sym f) h.1.from; below = subst (λ n. x < n) (sym (λ j. f j + d j)) h.1.below })
again t v w u f d name h = h

-- before its draw a ticket commits its snapshot alone
early : (t v : Ticket) → v.work ≡ t.work → v.uuid ≡ t.uuid → t.drawn ≡ 0 → (name : BlobName) → ShardCommits t name → ShardCommits v name
early t v w u none (ShardSnap i k x) h = (w ∙ h.0, h.1 ∙ sym u)
early t v w u none (ShardIndex i k g) h = absurd (let a : t.first ≤ g = h.1.from in let b : g < t.first + t.drawn = h.1.below in omega (arith, none))
early t v w u none (File i k x) h = absurd (let a : t.first ≤ x = h.1.from in let b : x < t.first + t.drawn = h.1.below in omega (arith, none))
early t v w u none (Part i k x p) h = absurd (let a : t.first ≤ x = h.1.from in let b : x < t.first + t.drawn = h.1.below in omega (arith, none))
early t v w u none name h = h

module _ (f : Formats) (blobs : Blobs) (tickets : Tickets) (h : Written f blobs tickets) where
  -- a ticket
  put : (k : ℕ) (v : Ticket) → (v.out ≡ true → IsShard v.work → WroteLaw f blobs v) → Written f blobs (fin.insert tickets k v)
  put k v mine j u e out shard = elim (was_in tickets k v j u e) [
    | inl z ↦ subst (WroteLaw f blobs) z.1 (mine (ap (λ (x : Ticket). x.out) z.1 ∙ out) (subst (λ (x : Ticket). IsShard x.work) (sym z.1) shard))
    | inr z ↦ h j u z.1 out shard
  ]

  -- one given anew in what its blobs don't read
  same : (k : ℕ) (t v : Ticket) → fin.get tickets k ≡ Some t → (v.out ≡ true → t.out ≡ true) → v.wrote ≡ t.wrote → v.read ≡ t.read → v.base ≡ t.base → v.source ≡ t.source → v.work ≡ t.work → v.uuid ≡ t.uuid
      → v.first ≡ t.first → v.drawn ≡ t.drawn → Written f blobs (fin.insert tickets k v)
  same k t v there out wrote read base source work uuid first drawn = put k v (λ o s.
      let old = h k t there (out o) (subst IsShard work s) in
      record {
        there = λ name b m. old.there name b (subst (λ xs. Has xs (name, b)) wrote m);
        own = λ name b m. again t v work uuid first drawn name (old.own name b (subst (λ xs. Has xs (name, b)) wrote m));
        base = λ i s g b is at m. old.base i s g b (sym work ∙ is) (sym base ∙ at) (subst (λ xs. Has xs (ShardIndex i s g, b)) read m);
        source = λ i s u b is at m. old.source i s u b (sym work ∙ is) (sym source ∙ at) (subst (λ xs. Has xs (ShardSnap i s u, b)) read m);
        fresh = λ i s g held is at reads e m id drew.
            old.fresh i s g held (sym work ∙ is) (sym base ∙ at) reads e m id (record { from = subst (λ n. n ≤ id) first drew.from; below = subst (λ n. id < n) (λ j. first j + drawn j) drew.below });
      })

  -- one that has ended
  ended : (k : ℕ) (v : Ticket) → v.out ≡ false → Written f blobs (fin.insert tickets k v)
  ended k v e = put k v (λ o s. absurd (true≢false (sym o ∙ e)))

  -- a new one
  new_one : (k : ℕ) (v : Ticket) → v.wrote ≡ [] → v.read ≡ [] → v.drawn ≡ 0 → Written f blobs (fin.insert tickets k v)
  new_one k v none unread undrawn =
      put k v (λ o s. record {
        there = λ name b m. absurd (subst (λ xs. Has xs (name, b)) none m);
        own = λ name b m. absurd (subst (λ xs. Has xs (name, b)) none m);
        base = λ i x g b is at m. absurd (subst (λ xs. Has xs (ShardIndex i x g, b)) unread m);
        source = λ i x u b is at m. absurd (subst (λ xs. Has xs (ShardSnap i x u, b)) unread m);
        fresh = λ i x g held is at reads e m id drew. absurd (let a : v.first ≤ id = drew.from in let b : id < v.first + v.drawn = drew.below in omega (arith, undrawn, a, b));
      })

no_swap : (f : Formats) (work : Work) (root : RootData) (s : Swap) → swap_of f work root ≡ Some s → IsShard work → ⊥
no_swap f (Shard i k) root s e h = none-some s e
no_swap f (Finalize info results made) root s e h = h
no_swap f work root s e h = h

module _ (f : Formats) (w : World) (shelf : List Shelved) (l : Law f w shelf) (h : Written f w.blobs w.tickets) where
  -- a base is there, and is one
  base_stands : (k : ℕ) (t : Ticket) → fin.get w.tickets k ≡ Some t → t.out ≡ true → (i s g : ℕ) → t.work ≡ Shard i s → t.base ≡ Some g → IndexStands f (HeldIn f w) w.root i s g
  base_stands k t there out i s g is at =
      let law = l.lawful.sound.carried.shards k t there out i s is in
      (subst (Base f (HeldIn f w) w.root w.ops i s) at law.base).1.stands

  pub base_was : (k : ℕ) (t : Ticket) → fin.get w.tickets k ≡ Some t → t.out ≡ true → (i s g : ℕ) (held : ShardFiles) → t.work ≡ Shard i s → t.base ≡ Some g → (now : Blobs)
      → ((m : BlobName) (b : Bytes) → At f w.blobs m b → At f now m b) → Reads (At f now) (ShardIndex i s g) f.shard_index held → Reads (At f w.blobs) (ShardIndex i s g) f.shard_index held
  base_was k t there out i s g held is at now kept reads =
      let old = (base_stands k t there out i s g is at).held_reads in
      let same : reads.bytes ≡ old.bytes = same_Some _ _ (sym reads.there.0 ∙ (kept (ShardIndex i s g) old.bytes old.there.0).0) in
      record { bytes = old.bytes; there = old.there.0; reads = ap f.shard_index.read (sym same) ∙ reads.reads }

  -- its files have ids that were drawn
  base_below : (k : ℕ) (t : Ticket) → fin.get w.tickets k ≡ Some t → t.out ≡ true → (i s g : ℕ) (held : ShardFiles) → t.work ≡ Shard i s → t.base ≡ Some g → Reads (At f w.blobs) (ShardIndex i s g) f.shard_index held
      → (e : FileEntry) → Has held.files e → (id : ℕ) → w.next_id ≤ id → e.name < id
  base_below k t there out i s g held is at reads e m id le =
      let stands = base_stands k t there out i s g is at in
      let same : held ≡ stands.held = same_Some _ _ (sym reads.reads ∙ ap f.shard_index.read (same_Some _ _ (sym reads.there.0 ∙ stands.held_reads.there.0.0)) ∙ stands.held_reads.reads) in
      let (bytes, file) = stands.files e (subst (λ (x : ShardFiles). Has x.files e) same m) in
      let b : e.name < w.next_id = file_below f w.next_id (HeldIn f w) (λ name b h. l.ids.blobs name (b, h.0)) i s e bytes file in
      omega (arith, b, le)

  -- with a blob more
  pub grown : (name : BlobName) (bytes : Bytes) → IsStored f name → fin.get w.blobs (f.names.text name) ≡ None → Written f (fin.insert w.blobs (f.names.text name) bytes) w.tickets
  grown name bytes named absent j u e out shard =
      let old = h j u e out shard in
      record {
        there = λ m b has. at_kept f w.blobs name bytes named absent [] m b (old.there m b has);
        own = old.own;
        base = λ i s g b is at has. at_kept f w.blobs name bytes named absent [] (ShardIndex i s g) b (old.base i s g b is at has);
        source = λ i s u b is at has. at_kept f w.blobs name bytes named absent [] (ShardSnap i s u) b (old.source i s u b is at has);
        fresh = λ i s g held is at reads. old.fresh i s g held is at (base_was j u e out i s g held is at _ (at_kept f w.blobs name bytes named absent []) reads);
      }

  committed : (k : ℕ) (name : BlobName) (new : World) → CommitDone f w k name new → Written f new.blobs new.tickets
  committed k name new c = subst (λ (x : World). Written f x.blobs x.tickets) (sym c.new_is)
      (put f (fin.insert w.blobs (f.names.text name) c.bytes) w.tickets (grown name c.bytes c.named c.absent) k (writing c.t name c.bytes) mine)
    where
      mine : c.t.out ≡ true → IsShard c.t.work → WroteLaw f (fin.insert w.blobs (f.names.text name) c.bytes) (writing c.t name c.bytes)
      mine out shard =
          let old = grown name c.bytes c.named c.absent k c.t c.out.there out shard in
          record {
            there = λ m b has. elim has [
              | inl e ↦
                  let names : name ≡ m = ap (λ (p : BlobName × Bytes). p.0) e in
                  let texts : c.bytes ≡ b = ap (λ (p : BlobName × Bytes). p.1) e in
                  subst (λ n. At f (fin.insert w.blobs (f.names.text name) c.bytes) n b) names (subst (At f (fin.insert w.blobs (f.names.text name) c.bytes) name) texts (at_new f w.blobs name c.bytes c.named c.absent []))
              | inr was ↦ old.there m b was
            ];
            own = λ m b has. again c.t (writing c.t name c.bytes) refl refl refl refl m (elim has [
              | inl e ↦ subst (ShardCommits c.t) (ap (λ (p : BlobName × Bytes). p.0) e) (allowed c.may)
              | inr was ↦ old.own m b was
            ]);
            base = old.base;
            source = old.source;
            fresh = λ i s g held is at reads e m id drew. old.fresh i s g held is at reads e m id (record { from = drew.from; below = drew.below });
          }
        where
          allowed : MayCommit f c.t name c.bytes → ShardCommits c.t name
          allowed (inl s) = absurd (no_swap f c.t.work c.t.root s.0 s.1 shard)
          allowed (inr m) = m.1

  -- what a shard's ticket commits is not doomed
  pub not_doomed : (k : ℕ) (t : Ticket) → fin.get w.tickets k ≡ Some t → t.out ≡ true → (name : BlobName) → ShardCommits t name → Has w.doomed name → ⊥
  not_doomed k t there out name may doomed = go name may doomed
    where
      drawn : (n : BlobName) (id : ℕ) → IsShard t.work → Drew t id → OfId n id → Has w.doomed n → ⊥
      drawn n id shard drew of m = (l.ids.doomed n m).ids k t there out shard id drew of

      is_shard : (i s : ℕ) → t.work ≡ Shard i s → IsShard t.work
      is_shard i s e = subst IsShard (sym e) tt

      go : (n : BlobName) → ShardCommits t n → Has w.doomed n → ⊥
      go (ShardSnap i s u) m d =
          let law = l.lawful.sound.carried.shards k t there out i s m.0 in
          (l.ids.doomed (ShardSnap i s u) d).uuids t.op law.op law.op_there (m.1 ∙ sym law.uuid_is)
      go (ShardIndex i s g) m d = drawn (ShardIndex i s g) g (is_shard i s m.0) m.1 refl d
      go (File i s x) m d = drawn (File i s x) x (is_shard i s m.0) m.1 refl d
      go (Part i s x p) m d = drawn (Part i s x p) x (is_shard i s m.0) m.1 refl d
      go n m d = m

  -- nor its base
  base_held : (k : ℕ) (t : Ticket) → fin.get w.tickets k ≡ Some t → t.out ≡ true → (i s g : ℕ) → t.work ≡ Shard i s → t.base ≡ Some g → Has w.doomed (ShardIndex i s g) → ⊥
  base_held k t there out i s g is at =
      let law = l.lawful.sound.carried.shards k t there out i s is in
      let base : Base f (HeldIn f w) w.root w.ops i s (Some g) = subst (Base f (HeldIn f w) w.root w.ops i s) at law.base in
      base.1.stands.held_reads.there.1

  -- nor the snapshot of the shard that a clone's copies
  source_held : (k : ℕ) (t : Ticket) → fin.get w.tickets k ≡ Some t → t.out ≡ true → (i s u : ℕ) → t.work ≡ Shard i s → t.source ≡ Some u → Has w.doomed (ShardSnap i s u) → ⊥
  source_held k t there out i s u is at = (source_stands f w shelf l k t (record { there = there; out = out }) i s is u at).lists.snap_reads.there.1

  fetched : (k : ℕ) (name : BlobName) (new : World) → FetchFound f w k name new → Written f new.blobs new.tickets
  fetched k name new c = subst (λ (x : World). Written f x.blobs x.tickets) (sym c.new_is) (put f w.blobs w.tickets h k (reading c.t name c.bytes) mine)
    where
      mine : c.t.out ≡ true → IsShard c.t.work → WroteLaw f w.blobs (reading c.t name c.bytes)
      mine out shard =
          let old = h k c.t c.out.there out shard in
          record {
            there = old.there;
            own = λ m b has. again c.t (reading c.t name c.bytes) refl refl refl refl m (old.own m b has);
            base = λ i s g b is at has. elim has [
              | inl e ↦ subst (λ (p : BlobName × Bytes). At f w.blobs p.0 p.1) e c.there
              | inr was ↦ old.base i s g b is at was
            ];
            source = λ i s u b is at has. elim has [
              | inl e ↦ subst (λ (p : BlobName × Bytes). At f w.blobs p.0 p.1) e c.there
              | inr was ↦ old.source i s u b is at was
            ];
            fresh = λ i s g held is at reads e m id drew. old.fresh i s g held is at reads e m id (record { from = drew.from; below = drew.below });
          }

  -- without names that may be removed
  pub removed_doomed : (names : List BlobName) → ((name : BlobName) → Has names name → Has w.doomed name) → (now : Blobs) → Removes f w.blobs now names → Written f now w.tickets
  removed_doomed names doomed now removes j u e out shard =
      let old = h j u e out shard in
      record {
        there = λ m b has. removes.stays m b (old.there m b has) (λ named. not_doomed j u e out m (old.own m b has) (doomed m named));
        own = old.own;
        base = λ i s g b is at has. removes.stays (ShardIndex i s g) b (old.base i s g b is at has) (λ named. base_held j u e out i s g is at (doomed (ShardIndex i s g) named));
        source = λ i s x b is at has. removes.stays (ShardSnap i s x) b (old.source i s x b is at has) (λ named. source_held j u e out i s x is at (doomed (ShardSnap i s x) named));
        fresh = λ i s g held is at reads. old.fresh i s g held is at (record { bytes = reads.bytes; there = (removes.left _ _ reads.there.0, reads.there.1); reads = reads.reads });
      }

  removed : (k : ℕ) (names : List BlobName) (new : World) → Remove f w k names new → Written f new.blobs new.tickets
  removed k names new r = subst (λ (x : World). Written f x.blobs x.tickets) (sym r.new_is) (removed_doomed names r.doomed r.now r.removes)

  drawn_shard : (k n : ℕ) (new : World) → DrawShard w k n new → Written f new.blobs new.tickets
  drawn_shard k n new d = subst (λ (x : World). Written f x.blobs x.tickets) (sym d.new_is)
      (put f w.blobs w.tickets h k (record d.t { first = w.next_id; drawn = n }) (λ o s.
      let old = h k d.t d.out.there d.out.out s in
      record {
        there = old.there;
        own = λ m b has. early d.t (record d.t { first = w.next_id; drawn = n }) refl refl d.once m (old.own m b has);
        base = old.base;
        source = old.source;
        fresh = λ i s g held is at reads e m id drew. base_below k d.t d.out.there d.out.out i s g held is at reads e m id drew.from;
      }))

tested : (f : Formats) (w : World) (shelf : List Shelved) → Law f w shelf → Written f w.blobs w.tickets → (new : World) → TestTurn f w new → Written f new.blobs new.tickets
tested f w shelf l h new (DrawsTest m d) = subst (λ (x : World). Written f x.blobs x.tickets) (sym d.new_is) h
tested f w shelf l h new (AddsTest m name bytes a) = subst (λ (x : World). Written f x.blobs x.tickets) (sym a.new_is) (grown f w shelf l h name bytes a.named a.absent)
tested f w shelf l h new (RemovesTests m names r) = subst (λ (x : World). Written f x.blobs x.tickets) (sym r.new_is) (removed_doomed f w shelf l h names r.doomed r.now r.removes)

turned : (f : Formats) (w new : World) (shelf : List Shelved) → Law f w shelf → Written f w.blobs w.tickets → Turn f w new → Written f new.blobs new.tickets
turned f w new shelf l h (Stays m e) = subst (λ (x : World). Written f x.blobs x.tickets) (sym e) h
turned f w new shelf l h (Commits m k name c) = committed f w shelf l h k name m c
turned f w new shelf l h (CommitFails m k name c) = elim c.leaves [
  | inl e ↦ subst (λ (x : World). Written f x.blobs x.tickets) (sym e) h
  | inr e ↦ subst (λ (x : World). Written f x.blobs x.tickets) (sym e.1) (grown f w shelf l h name c.bytes c.named e.0)
]
turned f w new shelf l h (Finds m k name d) = subst (λ (x : World). Written f x.blobs x.tickets) (sym d.new_is) (same f w.blobs w.tickets h k d.t (noting d.t name) d.out.there (λ o. o) refl refl refl refl refl refl refl refl)
turned f w new shelf l h (Raises m k d) = subst (λ (x : World). Written f x.blobs x.tickets) (sym d.new_is) (same f w.blobs w.tickets h k d.t (record d.t { raised = Some w.pending }) d.out.there (λ o. o) refl refl refl refl refl refl refl refl)
turned f w new shelf l h (Latests m k d) = subst (λ (x : World). Written f x.blobs x.tickets) (sym d.tries.new_is)
    (same f d.now w.tickets (put_law f w shelf l d.now d.puts).written k d.tries.t (record d.tries.t { tried_latest = true }) d.tries.out.there (λ o. o) refl refl refl refl refl refl refl refl)
turned f w new shelf l h (Fetches m k name c) = fetched f w shelf l h k name m c
turned f w new shelf l h (SettlesFinal m k n t s d) = subst (λ (x : World). Written f x.blobs x.tickets) (sym d.new_is) (same f w.blobs w.tickets h k t (record t { settled = true }) d.may.out.there (λ o. o) refl refl refl refl refl refl refl refl)
turned f w new shelf l h (SettlesDelete m k n t s d) = subst (λ (x : World). Written f x.blobs x.tickets) (sym d.new_is) (same f w.blobs w.tickets h k t (record t { settled = true }) d.may.out.there (λ o. o) refl refl refl refl refl refl refl refl)
turned f w new shelf l h (Elects m d) = subst (λ (x : World). Written f x.blobs x.tickets) (sym d.new_is) h
turned f w new shelf l h (TakesShard m o op s base d) = subst (λ (x : World). Written f x.blobs x.tickets) (sym d.new_is) (new_one f w.blobs w.tickets h w.next_ticket (shard_ticket w o op s base) refl refl refl)
turned f w new shelf l h (TakesFinal m o op results d) = subst (λ (x : World). Written f x.blobs x.tickets) (sym d.new_is) (new_one f w.blobs w.tickets h w.next_ticket (final_ticket f w o op results) refl refl refl)
turned f w new shelf l h (TakesDrop m o d) = subst (λ (x : World). Written f x.blobs x.tickets) (sym d.new_is) (new_one f w.blobs w.tickets h w.next_ticket (plain_ticket w o Drop) refl refl refl)
turned f w new shelf l h (TakesDelete m n x d) = subst (λ (x : World). Written f x.blobs x.tickets) (sym d.new_is) (new_one f w.blobs w.tickets h w.next_ticket (plain_ticket w n (Deleting x.uuids None)) refl refl refl)
turned f w new shelf l h (TakesCleanup m n x d) = subst (λ (x : World). Written f x.blobs x.tickets) (sym d.new_is) (new_one f w.blobs w.tickets h w.next_ticket (cleaning_ticket w n) refl refl refl)
turned f w new shelf l h (DrawsShard m k n d) = drawn_shard f w shelf l h k n m d
turned f w new shelf l h (DrawsPlan m k n d) = subst (λ (x : World). Written f x.blobs x.tickets) (sym d.new_is)
    (put f w.blobs w.tickets h k (record d.t { first = w.next_id; drawn = n; work = Deleting d.named (Some (record { root = d.root; own = d.own; commands = d.commands })) }) (λ o s. absurd s))
turned f w new shelf l h (Dones m k r d) = subst (λ (x : World). Written f x.blobs x.tickets) (sym d.new_is) (ended f w.blobs w.tickets h k (record d.t { out = false }) refl)
turned f w new shelf l h (Ending m k d) = subst (λ (x : World). Written f x.blobs x.tickets) (sym d.new_is) (ended f w.blobs w.tickets h k (record d.t { out = false }) refl)
turned f w new shelf l h (Fails m k d) = subst (λ (x : World). Written f x.blobs x.tickets) (sym d.new_is) (ended f w.blobs w.tickets h k (record d.t { out = false }) refl)
turned f w new shelf l h (FailsDelete m k d) = subst (λ (x : World). Written f x.blobs x.tickets) (sym d.new_is) (ended f w.blobs w.tickets h k (record d.t { out = false }) refl)
turned f w new shelf l h (Drops m k d) = subst (λ (x : World). Written f x.blobs x.tickets) (sym d.new_is) (ended f w.blobs w.tickets h k (record d.t { out = false }) refl)
turned f w new shelf l h (AsksCleanup m d) = subst (λ (x : World). Written f x.blobs x.tickets) (sym d.new_is) h
turned f w new shelf l h (CleanDrops m k d) = subst (λ (x : World). Written f x.blobs x.tickets) (sym d.new_is) (ended f w.blobs w.tickets h k (record d.t { out = false }) refl)
turned f w new shelf l h (AsksCreate m op d) = subst (λ (x : World). Written f x.blobs x.tickets) (sym d.new_is) h
turned f w new shelf l h (AsksDelete m uuids d) = subst (λ (x : World). Written f x.blobs x.tickets) (sym d.new_is) h
turned f w new shelf l h (Merges m uuids n d) = subst (λ (x : World). Written f x.blobs x.tickets) (sym d.new_is) h
turned f w new shelf l h (Pages m k page d) = subst (λ (x : World). Written f x.blobs x.tickets) (sym d.new_is) (same f w.blobs w.tickets h k d.t (listing d.t page) d.out.there (λ o. o) refl refl refl refl refl refl refl refl)
turned f w new shelf l h (Removing m k names d) = removed f w shelf l h k names m d
turned f w new shelf l h (Deposes m up d e) = subst (λ (x : World). Written f x.blobs x.tickets) (sym e) (turned f w up shelf l h d)
turned f w new shelf l h (Tests m t) = tested f w shelf l h m t
turned f w new shelf l h (Besides m up d r) = kept_aside (λ (x : World). Written f x.blobs x.tickets) up m (aside_of f up m r) (turned f w up shelf l h d)

pub turn_written : (f : Formats) (w new : World) (shelf : List Shelved) → Law f w shelf → Turn f w new → Written f new.blobs new.tickets
turn_written f w new shelf l turn = turned f w new shelf l l.written turn
