-- A blob that a ticket commits is its own: what else is to be written stays free.
use Rattle.std.proofs.Common.{◌≡◌, ◌⊎◌, ℕ, ◌<◌, List, [], true, Some, None, sym, ap, ◌∙◌, subst, inl, inr, arith}
use Rattle.std.specs.FinMap as fin
use Rattle.std.proofs.lemmas.Option.{same_Some, none-some}
use Rattle.esr_core.specs.Laws.NumberMaps.{was_in}
use Rattle.esr_model.specs.Names.{BlobName, Root, ShardSnap, ShardIndex}
use Rattle.esr_model.specs.Values.{Bytes, Has, SnapList, ShardFiles, Formats}
use Rattle.esr_model.specs.Shelf.{Shelved}
use Rattle.esr_model.specs.Image.{IsStored, Blobs, At, Present, Reads, IndexStands}
use Rattle.esr_core.specs.World.{World, Op, ShardWork, Pending, Deleting, Ticket, Swap, HeldIn}
use Rattle.esr_core.specs.Generations.{Base}
use Rattle.esr_core.specs.Restores.{IsTestOf}
use Rattle.esr_core.specs.Steps.{IsOut, ShardCommits, MayCommit}
use Rattle.esr_core.specs.Ids.{Law}
use Rattle.esr_core.specs.Laws.BlobFrames.{at_kept, at_was}
use Rattle.esr_quiet.specs.Free.{IsInUse}
use Rattle.esr_quiet.proofs.CommitNames.{plan_one, as_root, only_one, no_snap}
use Rattle.esr_quiet.proofs.FreeFrame.{IsFree, Own, own_all, Follows}
use Rattle.esr_quiet.proofs.FreeNames.{IsDrawnIndex, drawn_like, commits_no_test}
use Rattle.esr_quiet.proofs.FreeParts.{own_put}

-- ---- generations in use

module _ (f : Formats) (w : World) (shelf : List Shelved) (law : Law f w shelf) where
  -- they stand
  pub used_stands : (index number g : ℕ) → IsInUse w index number g → IndexStands f (HeldIn f w) w.root index number g
  used_stands index number g (inl live) = (law.lawful.sound.carried.carries index number g live).stands
  used_stands index number g (inr b) = (subst (Base f (HeldIn f w) w.root w.ops index number) b.base_is (law.lawful.sound.carried.shards b.ticket b.t b.there b.out index number b.work).base).1.stands

  -- and list no uuid from the next id on
  pub used_below : (index number g : ℕ) (held : ShardFiles) (l : SnapList) → IsInUse w index number g → Reads (At f w.blobs) (ShardIndex index number g) f.shard_index held → Has held.snapshots l → l.uuid < w.next_id
  used_below index number g held l used reads m =
      let stands = used_stands index number g used in
      let same : held ≡ stands.held = same_Some _ _ (sym reads.reads ∙ ap f.shard_index.read (same_Some _ _ (sym reads.there.0 ∙ stands.held_reads.there.0.0)) ∙ stands.held_reads.reads) in
      let a : l.uuid < g = stands.below l (subst (λ (x : ShardFiles). Has x.snapshots l) same m) in
      let b : g < w.next_id = (law.ids.blobs (ShardIndex index number g) (reads.bytes, reads.there)).1 in
      omega (arith, a, b)

-- no test blob is committed
module _ (f : Formats) (w : World) (shelf : List Shelved) (law : Law f w shelf) (k : ℕ) (t : Ticket) (out : IsOut w k t) (name : BlobName) (bytes : Bytes) (may : MayCommit f t name bytes) where
  no_test : (id : ℕ) → IsTestOf id name → ⊥
  no_test id test = elim may [
    | inl h ↦ elim h.2 [
      | inl own ↦ ((law.lawful.sound.rooted.tickets k t out.there).shape h.0 h.1).no_test id name bytes own test
      | inr r ↦ subst (IsTestOf id) r.1 test
    ]
    | inr h ↦ commits_no_test t name h.1 id test
  ]

module _ (f : Formats) (w : World) (shelf : List Shelved) (law : Law f w shelf) (l : IsFree f w) (k : ℕ) (t : Ticket) (out : IsOut w k t) (name : BlobName) (bytes : Bytes) (may : MayCommit f t name bytes)
    (named : IsStored f name) (absent : fin.get w.blobs (f.names.text name) ≡ None) (v : Ticket) (like : Follows f w t v)
    (mine : Has v.noted name) (raised_same : v.raised ≡ t.raised) (first_same : v.first ≡ t.first) (drawn_same : v.drawn ≡ t.drawn) where
  abbrev added : Blobs
  added = fin.insert w.blobs (f.names.text name) bytes

  at_old : (m : BlobName) (b : Bytes) → At f added m b → (m ≡ name) ⊎ At f w.blobs m b
  at_old m b h = elim (at_was f w.blobs name bytes named absent [] m b h) [ inl e ↦ inl e.0 | inr e ↦ inr e ]

  shards_on : (j : ℕ) (u : Ticket) (m : BlobName) → fin.get (fin.insert w.tickets k v) j ≡ Some u → u.out ≡ true → ShardCommits u m → Present f added m → Has u.noted m
  shards_on j u m e u_out c p = elim (was_in w.tickets k v j u e) [
    | inl x ↦ subst (λ (y : Ticket). Has y.noted m) x.1 (elim (at_old m p.0 p.1) [
      | inl is ↦ subst (Has v.noted) (sym is) mine
      | inr old ↦ elim (like.commits m (subst (λ (y : Ticket). ShardCommits y m) (sym x.1) c)) [
        | inl was ↦ like.noted m (l.free.shards k t m out.there out.out was (p.0, old))
        | inr none ↦ absurd (none (p.0, old))
      ]
    ])
    | inr x ↦ elim (at_old m p.0 p.1) [
      | inl is ↦ absurd (x.0 (only_one f w shelf law l.drawn (own_all f w l) k t out name bytes may j u x.1 u_out (subst (ShardCommits u) is c)))
      | inr old ↦ l.free.shards j u m x.1 u_out c (p.0, old)
    ]
  ]

  drawn_on : (j : ℕ) (u : Ticket) (uuids : List ℕ) (s : Swap) (m : BlobName) (b : Bytes) → fin.get (fin.insert w.tickets k v) j ≡ Some u → u.work ≡ Deleting uuids (Some s) → Has s.own (m, b) → IsDrawnIndex u m
  drawn_on j u uuids s m b e work own = elim (was_in w.tickets k v j u e) [
    | inl x ↦ subst (λ (y : Ticket). IsDrawnIndex y m) x.1 (elim (like.plans uuids s (ap (λ (y : Ticket). y.work) x.1 ∙ work)) [
      | inl same ↦ drawn_like t v m (l.drawn k t uuids s m b out.there same.work own) same.drew
      | inr new ↦ (new m b own).0
    ])
    | inr x ↦ l.drawn j u uuids s m b x.1 work own
  ]

  plans_on : (j : ℕ) (u : Ticket) (uuids : List ℕ) (s : Swap) (m : BlobName) (b : Bytes) → fin.get (fin.insert w.tickets k v) j ≡ Some u → u.work ≡ Deleting uuids (Some s) → Has s.own (m, b) → Present f added m → Has u.noted m
  plans_on j u uuids s m b e work own p = elim (was_in w.tickets k v j u e) [
    | inl x ↦ subst (λ (y : Ticket). Has y.noted m) x.1 (elim (at_old m p.0 p.1) [
      | inl is ↦ subst (Has v.noted) (sym is) mine
      | inr old ↦ elim (like.plans uuids s (ap (λ (y : Ticket). y.work) x.1 ∙ work)) [
        | inl same ↦ like.noted m (l.free.plans k t uuids s m b out.there same.work own (p.0, old))
        | inr new ↦ absurd ((new m b own).1 (p.0, old))
      ]
    ])
    | inr x ↦ elim (at_old m p.0 p.1) [
      | inl is ↦ absurd (x.0 (plan_one f w shelf law l.drawn (own_all f w l) k t out name bytes may j u uuids s b x.1 work (subst (λ (n : BlobName). Has s.own (n, b)) is own)))
      | inr old ↦ l.free.plans j u uuids s m b x.1 work own (p.0, old)
    ]
  ]

  pending_on : (o : ℕ) (op : Op) (s : ShardWork) → fin.get w.ops o ≡ Some op → Has op.shards s → s.state ≡ Pending → Present f added (ShardSnap s.ref.id s.number op.uuid) → ⊥
  pending_on o op s there m state p = elim (at_old (ShardSnap s.ref.id s.number op.uuid) p.0 p.1) [
    | inl is ↦ no_snap f w shelf law l.drawn (own_all f w l) k t out name bytes may o op s there m state is
    | inr old ↦ l.free.pending o op s there m state (p.0, old)
  ]

  roots_on : (j n : ℕ) (u : Ticket) → fin.get (fin.insert w.tickets k v) j ≡ Some u → u.raised ≡ Some n → Present f added (Root n) → Has u.noted (Root n)
  roots_on j n u e raised p = elim (was_in w.tickets k v j u e) [
    | inl x ↦ subst (λ (y : Ticket). Has y.noted (Root n)) x.1 (elim (at_old (Root n) p.0 p.1) [
      | inl is ↦ subst (Has v.noted) (sym is) mine
      | inr old ↦ like.noted (Root n) (l.free.roots k n t out.there (sym raised_same ∙ ap (λ (y : Ticket). y.raised) x.1 ∙ raised) (p.0, old))
    ])
    | inr x ↦ elim (at_old (Root n) p.0 p.1) [
      | inl is ↦ absurd (x.0 (l.free.own_root j k n u t x.1 out.there raised (as_root f w shelf law l.drawn (own_all f w l) k t out name bytes may n (sym is))))
      | inr old ↦ l.free.roots j n u x.1 raised (p.0, old)
    ]
  ]

  used_was : (index number g : ℕ) → IsInUse (record w { blobs = added; tickets = fin.insert w.tickets k v }) index number g → IsInUse w index number g
  used_was index number g (inl live) = inl live
  used_was index number g (inr b) = elim (was_in w.tickets k v b.ticket b.t b.there) [
    | inl x ↦ inr (record { ticket = k; t = t; there = out.there; out = out.out; work = like.work index number (ap (λ (y : Ticket). y.work) x.1 ∙ b.work); base_is = sym like.base ∙ ap (λ (y : Ticket). y.base) x.1 ∙ b.base_is })
    | inr x ↦ inr (record { ticket = b.ticket; t = b.t; there = x.1; out = b.out; work = b.work; base_is = b.base_is })
  ]

  -- a generation in use was there
  reads_was : (index number g : ℕ) (held : ShardFiles) → IsInUse w index number g → Reads (At f added) (ShardIndex index number g) f.shard_index held → Reads (At f w.blobs) (ShardIndex index number g) f.shard_index held
  reads_was index number g held used reads = elim (at_old (ShardIndex index number g) reads.bytes reads.there) [
    | inl is ↦
        let stands = used_stands f w shelf law index number g used in
        absurd (none-some stands.held_reads.bytes (sym absent ∙ ap (λ n. fin.get w.blobs (f.names.text n)) (sym is) ∙ stands.held_reads.there.0.0))
    | inr old ↦ record { bytes = reads.bytes; there = old; reads = reads.reads }
  ]

  own : Own (fin.insert w.tickets k v)
  own = own_put w.tickets (own_all f w l) k t v out.there raised_same first_same drawn_same

  pub free_committed : IsFree f (record w { blobs = fin.insert w.blobs (f.names.text name) bytes; tickets = fin.insert w.tickets k v })
  free_committed =
      record {
        free = record {
          shards = shards_on;
          plans = plans_on;
          pending = pending_on;
          roots = roots_on;
          own_root = own.0;
          unlisted = λ o op s g held list there m waits used reads in_list.
              let was = used_was s.ref.id s.number g used in
              l.free.unlisted o op s g held list there m waits was (reads_was s.ref.id s.number g held was reads) in_list;
          tests = λ id m drawn test p. elim (at_old m p.0 p.1) [ inl is ↦ absurd (no_test f w shelf law k t out name bytes may id (subst (IsTestOf id) is test)) | inr old ↦ l.free.tests id m drawn test (p.0, old) ];
          wrote = λ m b h left. at_kept f w.blobs name bytes named absent [] m b (l.free.wrote m b h left);
        };
        own_ids = own.1;
        drawn = drawn_on;
        wrote_tests = l.wrote_tests;
      }
