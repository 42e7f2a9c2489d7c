-- From a tidy world each turn leads to a tidy one.
use Rattle.std.proofs.Common.{◌≡◌, ℕ, suc, ◌==◌, ◌&&◌, true, false, true≢false, List, [], ◌∷◌, ◌++◌, map, Option, Some, None, refl, sym, ap, ◌∙◌, subst, inl, inr, nat_cmp}
use Rattle.std.specs.FinMap.{FinMap}
use Rattle.std.specs.FinMap as fin
use Rattle.std.proofs.lemmas.Option.{same_Some}
use Rattle.std.proofs.lemmas.Bool.{cond-true, cond-false, cases_Bool}
use Rattle.esr_core.specs.Laws.NumberMaps.{was_in, left_in}
use Rattle.esr_model.specs.Names.{BlobName, ShardIndex}
use Rattle.esr_model.specs.Values.{Bytes, IndexRef, RootSnap, RootIndex, RootData, SnapList, SnapInfo, ShardResult, IsOneEach, Formats}
use Rattle.esr_model.specs.Shelf.{Shelved, Command}
use Rattle.esr_model.specs.Places.{places}
use Rattle.esr_model.specs.Image.{Blobs, Has, IsOne, IsStored, Generation, IndexStands, RootStands}
use Rattle.esr_model.specs.Finalize.{Finalizes, finalized_root, done_at}
use Rattle.esr_model.specs.Delete.{left_uuids, uuids_of, pruned_blobs}
use Rattle.esr_core.specs.World.{World, Op, ShardWork, ShardState, Pending, Out, Done, GivenUp, Shard, Finalize, Deleting, Drop, Ticket, Swap, HeldIn, Safely, info_of}
use Rattle.esr_core.specs.Ready.{IsShard}
use Rattle.esr_core.specs.Steps.{DoneShard, Largest, ExtendsBase, given, shard_ticket, final_ticket, reading, listing, noting, writing, plain_ticket}
use Rattle.esr_core.specs.Generations.{DoneAt, IsLive, IsOwn, OpLaw, Base, ShardLaw, FinalLaw, Carried}
use Rattle.esr_core.specs.Queue.{DeleteLaw}
use Rattle.esr_core.specs.Pruning.{IsPlanned, PruneLaw, pruned_shards}
use Rattle.esr_core.specs.Ids.{Law}
use Rattle.esr_core.specs.Turns.{Aborts, TakeReadyShard, SettleFinal, SettleDelete, Failed, AddTest, TestTurn, DrawsTest, AddsTest, RemovesTests, fails, fails_by, cleaning_ticket, Turn, Stays, Commits, CommitFails, Finds, Raises, Latests, Fetches, SettlesFinal, SettlesDelete, Elects, TakesShard, TakesFinal, TakesDrop, TakesDelete, TakesCleanup, AsksCleanup, CleanDrops, DrawsShard, DrawsPlan, Dones, Ending, Fails, FailsDelete, Drops, AsksCreate, AsksDelete, Merges, Removing, Pages, Deposes, Besides, Tests}
use Rattle.esr_core.specs.Tidy.{IsInIndex, ListsListed, IsTidy, TidyRoot, Tidy, TidyIn}
use Rattle.esr_model.specs.Lists.{Has-map, Has-mapped, Has-append, Has-right}
use Rattle.esr_core.specs.Laws.OneValue.{reads_one, held_one, safe_root_stands}
use Rattle.esr_core.proofs.Reading.{safely_one}
use Rattle.esr_core.specs.Laws.DoneShards.{found_done}
use Rattle.esr_core.proofs.Results.{done_out}
use Rattle.esr_core.specs.Laws.BlobFrames.{reads_kept, at_kept}
use Rattle.esr_core.proofs.Adds.{safe_kept}
use Rattle.esr_core.specs.Laws.SortedLists.{in_places}
use Rattle.esr_core.specs.Laws.NewRoots.{finalizes, root_one_each, larger_is, of_swap}
use Rattle.esr_core.proofs.Law.{settle_law}
use Rattle.esr_core.proofs.LatestPut.{keeps}
use Rattle.esr_core.proofs.Founding.{found}
use Rattle.esr_core.proofs.DoneShard.{done_was}
use Rattle.esr_core.proofs.Settling.{done_left, no_shard}
use Rattle.esr_core.proofs.Besides.{aside_of, kept_aside}
use Rattle.esr_core.proofs.DoomsAll.{left_tidy}

-- ---- over other blobs

-- an index that stands and lists so goes on so where blobs are only added
pub listed_kept : (f : Formats) (has now : BlobName → Bytes → Type 0) → IsOne now → ((name : BlobName) (bytes : Bytes) → has name bytes → now name bytes) → (root : RootData) (i k g : ℕ)
    → IndexStands f has root i k g → IsTidy f has root i k g → IsTidy f now root i k g
listed_kept f has now func keeps root i k g s h = λ held reads.
    let same : s.held ≡ held = reads_one now func (ShardIndex i k g) f.shard_index s.held held (reads_kept f has now keeps (ShardIndex i k g) f.shard_index s.held s.held_reads) reads in
    subst (ListsListed root i) same (h s.held s.held_reads)

listed_less : (f : Formats) (has now : BlobName → Bytes → Type 0) → ((name : BlobName) (bytes : Bytes) → now name bytes → has name bytes) → (root : RootData) (i k g : ℕ) → IsTidy f has root i k g → IsTidy f now root i k g
listed_less f has now less root i k g h = λ held reads. h held (reads_kept f now has less (ShardIndex i k g) f.shard_index held reads)

pub root_less : (f : Formats) (has now : BlobName → Bytes → Type 0) → ((name : BlobName) (bytes : Bytes) → now name bytes → has name bytes) → (root : RootData) → TidyRoot f has root → TidyRoot f now root
root_less f has now less root t = record { used = t.used; lists = λ i k g gen. listed_less f has now less root i k g (t.lists i k g gen) }

-- where blobs are taken away
lessened : (f : Formats) (has now : BlobName → Bytes → Type 0) → ((name : BlobName) (bytes : Bytes) → now name bytes → has name bytes) → (root : RootData) (ops : FinMap nat_cmp Op) (tickets : FinMap nat_cmp Ticket)
    → Tidy f has root ops tickets → Tidy f now root ops tickets
lessened f has now less root ops tickets t = record {
  rooted = root_less f has now less root t.rooted;
  done = λ u i k g a. listed_less f has now less root i k g (t.done u i k g a);
  bases = λ j u e out i k b is at. listed_less f has now less root i k b (t.bases j u e out i k b is at);
}

-- where they are added
grown : (f : Formats) (has now : BlobName → Bytes → Type 0) → IsOne now → ((name : BlobName) (bytes : Bytes) → has name bytes → now name bytes)
    → (safe term : ℕ) (root : RootData) (ops : FinMap nat_cmp Op) (tickets : FinMap nat_cmp Ticket) → Carried f has safe term root ops tickets → Tidy f has root ops tickets → Tidy f now root ops tickets
grown f has now func keeps safe term root ops tickets c t = record {
  rooted = record { used = t.rooted.used; lists = λ i k g gen. on i k g (c.carries i k g (inl gen)).stands (t.rooted.lists i k g gen) };
  done = λ u i k g a. on i k g (c.carries i k g (inr (u, a))).stands (t.done u i k g a);
  bases = λ j u e out i k b is at.
      let law : Base f has root ops i k (Some b) = subst (λ (o : Option ℕ). Base f has root ops i k o) at (c.shards j u e out i k is).base in
      on i k b law.1.stands (t.bases j u e out i k b is at);
}
  where
    on : (i k g : ℕ) → IndexStands f has root i k g → IsTidy f has root i k g → IsTidy f now root i k g
    on i k g s h = listed_kept f has now func keeps root i k g s h

-- ---- over other tickets and ops

-- a ticket of a shard that is out was so, with its base
record WasShard (tickets : FinMap nat_cmp Ticket) (u : Ticket) : Type 0 where
  k : ℕ
  t : Ticket
  there : fin.get tickets k ≡ Some t
  out : t.out ≡ true
  work : t.work ≡ u.work
  base : t.base ≡ u.base

abbrev TicketsWere : FinMap nat_cmp Ticket → FinMap nat_cmp Ticket → Type 0
TicketsWere tickets now = (j : ℕ) (u : Ticket) → fin.get now j ≡ Some u → u.out ≡ true → IsShard u.work → WasShard tickets u

abbrev DonesWere : FinMap nat_cmp Op → FinMap nat_cmp Op → Type 0
DonesWere ops now = (uuid index shard g : ℕ) → DoneAt now uuid index shard g → DoneAt ops uuid index shard g

moved : (f : Formats) (has : BlobName → Bytes → Type 0) (root : RootData) (ops ops_now : FinMap nat_cmp Op) (tickets tickets_now : FinMap nat_cmp Ticket) → DonesWere ops ops_now → TicketsWere tickets tickets_now
    → Tidy f has root ops tickets → Tidy f has root ops_now tickets_now
moved f has root ops ops_now tickets tickets_now dones were t = record {
  rooted = t.rooted;
  done = λ u i k g a. t.done u i k g (dones u i k g a);
  bases = λ j u e out i k b is at. let x = were j u e out (subst IsShard (sym is) tt) in t.bases x.k x.t x.there x.out i k b (x.work ∙ is) (x.base ∙ at);
}

same_dones : (ops : FinMap nat_cmp Op) → DonesWere ops ops
same_dones ops = λ u i k g a. a

same_tickets : (tickets : FinMap nat_cmp Ticket) → TicketsWere tickets tickets
same_tickets tickets = λ j u e out shard. record { k = j; t = u; there = e; out = out; work = refl; base = refl }

put_like : (tickets : FinMap nat_cmp Ticket) (k : ℕ) (t v : Ticket) → fin.get tickets k ≡ Some t → (v.out ≡ true → t.out ≡ true) → t.work ≡ v.work → t.base ≡ v.base → TicketsWere tickets (fin.insert tickets k v)
put_like tickets k t v there out work base = λ j u e is_out shard. elim (was_in tickets k v j u e) [
  | inl h ↦ record { k = k; t = t; there = there; out = out (ap (λ (x : Ticket). x.out) h.1 ∙ is_out); work = work ∙ ap (λ (x : Ticket). x.work) h.1; base = base ∙ ap (λ (x : Ticket). x.base) h.1 }
  | inr h ↦ record { k = j; t = u; there = h.1; out = is_out; work = refl; base = refl }
]

put_over : (tickets : FinMap nat_cmp Ticket) (k : ℕ) (v : Ticket) → v.out ≡ false → TicketsWere tickets (fin.insert tickets k v)
put_over tickets k v over = λ j u e is_out shard. elim (was_in tickets k v j u e) [
  | inl h ↦ absurd (true≢false (sym is_out ∙ sym (ap (λ (x : Ticket). x.out) h.1) ∙ over))
  | inr h ↦ record { k = j; t = u; there = h.1; out = is_out; work = refl; base = refl }
]

put_other : (tickets : FinMap nat_cmp Ticket) (k : ℕ) (v : Ticket) → (IsShard v.work → ⊥) → TicketsWere tickets (fin.insert tickets k v)
put_other tickets k v other = λ j u e is_out shard. elim (was_in tickets k v j u e) [
  | inl h ↦ absurd (other (subst IsShard (sym (ap (λ (x : Ticket). x.work) h.1)) shard))
  | inr h ↦ record { k = j; t = u; there = h.1; out = is_out; work = refl; base = refl }
]

done_put : (ops : FinMap nat_cmp Op) (o : ℕ) (op v : Op) → fin.get ops o ≡ Some op → op.uuid ≡ v.uuid → ((z : ShardWork) (r : ShardResult) → Has v.shards z → z.state ≡ Done r → Has op.shards z)
    → DonesWere ops (fin.insert ops o v)
done_put ops o op v there uuid back = λ u i k g a. elim (was_in ops o v a.number a.op a.there) [
  | inl h ↦ record {
    number = o;
    op = op;
    there = there;
    uuid_is = uuid ∙ ap (λ (x : Op). x.uuid) h.1 ∙ a.uuid_is;
    s = a.s;
    s_there = back a.s a.r (subst (λ (x : Op). Has x.shards a.s) (sym h.1) a.s_there) a.state;
    r = a.r;
    state = a.state;
    index_is = a.index_is;
    shard_is = a.shard_is;
    generation_is = a.generation_is;
  }
  | inr h ↦ record { number = a.number; op = a.op; there = h.1; uuid_is = a.uuid_is; s = a.s; s_there = a.s_there; r = a.r; state = a.state; index_is = a.index_is; shard_is = a.shard_is; generation_is = a.generation_is }
]

-- what is done after a change of shards was so before it
back_mapped : (g : ShardWork → ShardWork) → ((x : ShardWork) (r : ShardResult) → (g x).state ≡ Done r → g x ≡ x) → (shards : List ShardWork) (z : ShardWork) (r : ShardResult) → Has (map g shards) z → z.state ≡ Done r
    → Has shards z
back_mapped g same shards z r m state =
    let (x, there, e) = Has-mapped g shards z m in
    subst (Has shards) (sym (same x r (ap (λ (y : ShardWork). y.state) e ∙ state)) ∙ e) there

given_done : (k i n : ℕ) (x : ShardWork) (r : ShardResult) → (given k i n x).state ≡ Done r → given k i n x ≡ x
given_done k i n x r state = elim (cases_Bool ((x.ref.id == i) && (x.number == n))) [
  | inl b ↦
      let now : given k i n x ≡ record x { state = Out k } = cond-true _ _ _ b in
      absurd (done_out r k (sym state ∙ ap (λ (y : ShardWork). y.state) now))
  | inr b ↦ cond-false _ _ _ b
]

up_done : (r : ShardResult) → GivenUp ≡ Done r → ⊥
up_done r e = cc

pending_done : (r : ShardResult) → Pending ≡ Done r → ⊥
pending_done r e = cc

fails_done : (k : ℕ) (x : ShardWork) (st : ShardState) (r : ShardResult) → (fails_by k x st).state ≡ Done r → fails_by k x st ≡ x
fails_done k x Pending r state = absurd (up_done r state)
fails_done k x (Out j) r state = elim (cases_Bool (j == k)) [
  | inl b ↦
      let now : fails_by k x (Out j) ≡ record x { state = GivenUp } = cond-true _ _ _ b in
      absurd (up_done r (sym (ap (λ (y : ShardWork). y.state) now) ∙ state))
  | inr b ↦ cond-false _ _ _ b
]
fails_done k x st r state = refl

done_removed : (ops : FinMap nat_cmp Op) (o : ℕ) → DonesWere ops (fin.remove ops o)
done_removed ops o = λ u i k g a.
    record { number = a.number; op = a.op; there = (left_in ops o a.number a.op a.there).1; uuid_is = a.uuid_is; s = a.s; s_there = a.s_there; r = a.r; state = a.state; index_is = a.index_is; shard_is = a.shard_is; generation_is = a.generation_is }

done_new : (ops : FinMap nat_cmp Op) (o : ℕ) (v : Op) → ((s : ShardWork) → Has v.shards s → s.state ≡ Pending) → DonesWere ops (fin.insert ops o v)
done_new ops o v pending = λ u i k g a. elim (was_in ops o v a.number a.op a.there) [
  | inl h ↦ absurd (pending_done a.r (sym (pending a.s (subst (λ (x : Op). Has x.shards a.s) (sym h.1) a.s_there)) ∙ a.state))
  | inr h ↦ record { number = a.number; op = a.op; there = h.1; uuid_is = a.uuid_is; s = a.s; s_there = a.s_there; r = a.r; state = a.state; index_is = a.index_is; shard_is = a.shard_is; generation_is = a.generation_is }
]

done_aborted : (ops now : FinMap nat_cmp Op) (by : ℕ) → Aborts ops now by → DonesWere ops now
done_aborted ops now by ab = λ u i k g a.
    let (old, there, same) = ab.was a.number a.op a.there in
    let uuid : old.uuid ≡ a.op.uuid = elim same [ inl e ↦ ap (λ (x : Op). x.uuid) (sym e) | inr e ↦ ap (λ (x : Op). x.uuid) (sym e) ] in
    let shards : a.op.shards ≡ old.shards = elim same [ inl e ↦ ap (λ (x : Op). x.shards) e | inr e ↦ ap (λ (x : Op). x.shards) e ] in
    record {
      number = a.number;
      op = old;
      there = there;
      uuid_is = uuid ∙ a.uuid_is;
      s = a.s;
      s_there = subst (λ (xs : List ShardWork). Has xs a.s) shards a.s_there;
      r = a.r;
      state = a.state;
      index_is = a.index_is;
      shard_is = a.shard_is;
      generation_is = a.generation_is;
    }

places_same : (a b x y : ℕ) → Shard a b ≡ Shard x y → (a ≡ x) × (b ≡ y)
places_same a b x y e = (cc, cc)

final_shard : (info : SnapInfo) (results : List ShardResult) (made : Command) (i k : ℕ) → Finalize info results made ≡ Shard i k → ⊥
final_shard info results made i k e = cc

module _ (f : Formats) (w : World) (shelf : List Shelved) (l : Law f w shelf) (tidy : TidyIn f w) where
  c : Carried f (HeldIn f w) w.safe w.term w.root w.ops w.tickets
  c = l.lawful.sound.carried

  -- what is live lists so
  live_listed : (i k g : ℕ) → IsLive w.root w.ops i k g → IsTidy f (HeldIn f w) w.root i k g
  live_listed i k g (inl gen) = tidy.rooted.lists i k g gen
  live_listed i k g (inr (u, a)) = tidy.done u i k g a

  more : (blobs : Blobs) (doomed : List BlobName) → ((name : BlobName) (bytes : Bytes) → HeldIn f w name bytes → Safely f blobs doomed name bytes) → Tidy f (Safely f blobs doomed) w.root w.ops w.tickets
  more blobs doomed kept = grown f (HeldIn f w) (Safely f blobs doomed) (safely_one f blobs doomed) kept w.safe w.term w.root w.ops w.tickets c tidy

  added : (name : BlobName) (bytes : Bytes) → IsStored f name → fin.get w.blobs (f.names.text name) ≡ None → Tidy f (Safely f (fin.insert w.blobs (f.names.text name) bytes) w.doomed) w.root w.ops w.tickets
  added name bytes named absent = more (fin.insert w.blobs (f.names.text name) bytes) w.doomed (safe_kept f w.blobs name bytes named absent w.doomed)

  removed : (now : Blobs) → ((text bytes : Bytes) → fin.get now text ≡ Some bytes → fin.get w.blobs text ≡ Some bytes) → Tidy f (Safely f now w.doomed) w.root w.ops w.tickets
  removed now left = lessened f (HeldIn f w) (Safely f now w.doomed) (λ name bytes h. ((left (f.names.text name) bytes h.0.0, h.0.1), h.1)) w.root w.ops w.tickets tidy

  -- ---- a shard is taken, and done

  taken : (o : ℕ) (op : Op) (s : ShardWork) (base : Option ℕ) (new : World) → TakeReadyShard w o op s base new → TidyIn f new
  taken o op s base new d = subst (TidyIn f) (sym d.new_is) (record {
    rooted = tidy.rooted;
    done = λ u i k g a. tidy.done u i k g
        (done_put w.ops o op (record op { shards = map (given w.next_ticket s.ref.id s.number) op.shards }) d.ready.op_there refl (back_mapped (given w.next_ticket s.ref.id s.number) (given_done w.next_ticket s.ref.id s.number) op.shards) u i k g a);
    bases = λ j u e out i k b is at. elim (was_in w.tickets w.next_ticket (shard_ticket w o op s base) j u e) [
      | inl h ↦
          let place = places_same s.ref.id s.number i k (ap (λ (x : Ticket). x.work) h.1 ∙ is) in
          let b_is : base ≡ Some b = ap (λ (x : Ticket). x.base) h.1 ∙ at in
          let largest : Largest w s.ref.id s.number (Some b) = subst (λ (x : Option ℕ). Largest w s.ref.id s.number x) b_is d.largest in
          subst (λ (x : ℕ × ℕ). IsTidy f (HeldIn f w) w.root x.0 x.1 b) (λ p. (place.0 p, place.1 p)) (live_listed s.ref.id s.number b largest.0)
      | inr h ↦ tidy.bases j u h.1 out i k b is at
    ];
  })

  module _ (k : ℕ) (r : ShardResult) (new : World) (d : DoneShard f w k r new) where
    law : ShardLaw f (HeldIn f w) w.root w.ops k d.t r.index r.shard
    law = c.shards k d.t d.out.there d.out.out r.index r.shard d.is

    stands : RootStands f (HeldIn f w) w.root shelf
    stands = safe_root_stands f (HeldIn f w) (held_one f w) w.safe w.root shelf l.lawful.sound.rooted.kept.picked c.root_is

    -- the op's own snapshot isn't listed
    own_unlisted : (u : SnapList) (z : RootSnap) → u.uuid ≡ d.t.uuid → Has w.root.snapshots z → u.uuid ≡ z.uuid → ⊥
    own_unlisted u z own there e =
        let uuid : d.op.uuid ≡ d.t.uuid = ap (λ (x : Op). x.uuid) (same_Some _ _ (sym d.op_there ∙ law.op_there)) ∙ law.uuid_is in
        (c.ops d.t.op d.op d.op_there).unlisted z there (sym e ∙ own ∙ sym uuid)

    by_base : (base : Option ℕ) → d.t.base ≡ base → ExtendsBase f (HeldIn f w) r.index r.shard base d.held d.t.uuid d.snap.files → ListsListed w.root r.index d.held
    by_base None at ext = λ u m z there e. elim (ext.lists_from u m) [ inl none ↦ absurd none | inr own ↦ absurd (own_unlisted u z own there e) ]
    by_base (Some base) at (was, was_reads, ext) = λ u m z there e. elim (ext.lists_from u m) [
      | inl old ↦ tidy.bases k d.t d.out.there d.out.out r.index r.shard base d.is at was was_reads u old z there e
      | inr own ↦ absurd (own_unlisted u z own there e)
    ]

    new_listed : IsTidy f (HeldIn f w) w.root r.index r.shard r.generation
    new_listed = λ held reads.
        let same : d.held ≡ held = reads_one (HeldIn f w) (held_one f w) (ShardIndex r.index r.shard r.generation) f.shard_index d.held held d.held_reads reads in
        subst (ListsListed w.root r.index) same (by_base d.t.base refl d.extends)

    done_tidy : TidyIn f new
    done_tidy = subst (TidyIn f) (sym d.new_is) (record {
      rooted = tidy.rooted;
      done = λ u i x g a. elim (done_was f w k r new d c law shelf stands u i x g a) [
        | inl was ↦ tidy.done u i x g was
        | inr is ↦ subst (λ (v : ℕ × ℕ × ℕ). IsTidy f (HeldIn f w) w.root v.0 v.1 v.2) (λ p. (sym is.index_new p, sym is.shard_new p, sym is.g_new p)) new_listed
      ];
      bases = (moved f (HeldIn f w) w.root w.ops w.ops w.tickets (fin.insert w.tickets k (record d.t { out = false })) (same_dones w.ops) (put_over w.tickets k (record d.t { out = false }) refl) tidy).bases;
    })

  -- ---- a finalization settles

  module _ (k n : ℕ) (t : Ticket) (s : Swap) (new : World) (d : SettleFinal f w k n t s new) where
    final_law : FinalLaw f w.root w.ops t d.info d.results d.made
    final_law = c.finals k t d.may.out.there d.may.out.out d.may.unsettled d.present d.info d.results d.made d.work

    op_law : OpLaw f (HeldIn f w) w.root final_law.op
    op_law = c.ops t.op final_law.op final_law.op_there

    new_root : finalized_root w.root (info_of final_law.op d.results) d.results ≡ s.root
    new_root = (λ i. finalized_root (sym final_law.root_is i) (sym final_law.info_is i) d.results) ∙ ap (λ (x : Swap). x.root) (of_swap f t.work t.root s d.may.is d.info d.results d.made d.work)

    fins : Finalizes w.root (info_of final_law.op d.results) d.results s.root
    fins = subst (Finalizes w.root (info_of final_law.op d.results) d.results) new_root (finalizes f (HeldIn f w) w.root final_law.op d.results op_law (root_one_each f (HeldIn f w) w.safe w.root c.root_is) final_law.done)

    one_new : IsOneEach s.root.indices
    one_new = root_one_each f (HeldIn f w) (suc n) s.root (settle_law f w shelf l.lawful.sound k n t s d.may d.present d.info d.results d.made d.work).carried.root_is

    -- what listed so lists so in the new root: the new snapshot, too, as its own shards alone list it
    listed_now : (i x g : ℕ) → IsOwn f (HeldIn f w) w.ops i x g → IsTidy f (HeldIn f w) w.root i x g → IsTidy f (HeldIn f w) s.root i x g
    listed_now i x g own old = λ held reads u m z there e. elim (Has-append w.root.snapshots _ z (subst (λ xs. Has xs z) fins.snapshots there)) [
      | inl was ↦
          let y : IsInIndex w.root i z.uuid = old held reads u m z was e in
          let (v, v_there, name, id, all) = fins.kept y.x y.there in
          record { x = v; there = v_there; id = id ∙ y.id; mine = all z.uuid y.mine }
      | inr is ↦
          let uuid : final_law.op.uuid ≡ z.uuid = ap (λ (y : RootSnap). y.uuid) is in
          let (q, q_there, q_index, q_number) = own held reads u m t.op final_law.op final_law.op_there (uuid ∙ sym e) in
          let place : Has (places final_law.op.indices) (q.ref, q.number) = subst (λ (ps : List (IndexRef × ℕ)). Has ps (q.ref, q.number)) op_law.places (Has-map (λ (y : ShardWork). (y.ref, y.number)) final_law.op.shards q q_there) in
          let (v, v_there, name, id, mine) = fins.made q.ref (in_places final_law.op.indices (q.ref, q.number) place).0 in
          record { x = v; there = v_there; id = id ∙ q_index; mine = subst (Has v.snapshots) uuid mine }
    ]

    used_now : (y : RootIndex) → Has s.root.indices y → (u : ℕ) × Has y.snapshots u
    used_now y there = elim (fins.names y there) [
      | inl h ↦
          let (x, x_there, name, id) = h in
          let (u, mine) = tidy.rooted.used x x_there in
          let (v, v_there, v_name, v_id, all) = fins.kept x x_there in
          (u, subst (λ (z : RootIndex). Has z.snapshots u) (one_new v y v_there there (v_id ∙ id)) (all u mine))
      | inr h ↦
          let (q, q_there, name, id) = h in
          let (v, v_there, v_name, v_id, mine) = fins.made q q_there in
          (final_law.op.uuid, subst (λ (z : RootIndex). Has z.snapshots final_law.op.uuid) (one_new v y v_there there (v_id ∙ id)) mine)
    ]

    live_now : (i x g : ℕ) → IsLive w.root w.ops i x g → IsTidy f (HeldIn f w) s.root i x g
    live_now i x g live = listed_now i x g (c.carries i x g live).own (live_listed i x g live)

    root_live : (i x g : ℕ) → Generation s.root i x g → IsLive w.root w.ops i x g
    root_live i x g gen = elim (larger_is _ (done_at d.results i x) g (sym (fins.generations i x) ∙ gen)) [
      | inl e ↦ inl e
      | inr e ↦
          let (z, m, (r, state, index, number, at)) = found_done final_law.op.shards d.results final_law.done (λ q r q_there st. let stood = op_law.done q r q_there st in (stood.index_is, stood.shard_is)) i x g e in
          inr (final_law.op.uuid, record { number = t.op; op = final_law.op; there = final_law.op_there; uuid_is = refl; s = z; s_there = m; r = r; state = state; index_is = index; shard_is = number; generation_is = at })
    ]

    final_tidy : TidyIn f new
    final_tidy = subst (TidyIn f) (sym d.new_is) (record {
      rooted = record { used = used_now; lists = λ i x g gen. live_now i x g (root_live i x g gen) };
      done = λ u i x g a. live_now i x g (inr (u, done_removed w.ops t.op u i x g a));
      bases = λ j u e out i x b is at. elim (was_in w.tickets k (record t { settled = true }) j u e) [
        | inl h ↦ absurd (final_shard d.info d.results d.made i x (sym d.work ∙ ap (λ (y : Ticket). y.work) h.1 ∙ is))
        | inr h ↦
            let based : Base f (HeldIn f w) w.root w.ops i x (Some b) = subst (λ (o : Option ℕ). Base f (HeldIn f w) w.root w.ops i x o) at (c.shards j u h.1 out i x is).base in
            listed_now i x b based.1.own (tidy.bases j u h.1 out i x b is at)
      ];
    })

  -- ---- a delete settles

  module _ (k n : ℕ) (t : Ticket) (s : Swap) (new : World) (d : SettleDelete f w k n t s new) where
    delete_law : DeleteLaw w.root w.ops w.deletes t (Some s)
    delete_law = l.lawful.queue.deleting k t d.may.out.there d.may.out.out d.may.unsettled d.present d.uuids (Some s) d.work

    prune : PruneLaw f (HeldIn f w) w.safe t d.uuids (Some s)
    prune = l.pruned.unsettled k t d.uuids (Some s) d.may.out.there d.may.out.out d.may.unsettled d.present d.work

    plan : IsPlanned f t.clean t.root t.read t.first d.uuids s
    plan = prune.follows s refl

    once : IsOneEach t.root.indices
    once = subst (λ (r : RootData). IsOneEach r.indices) (sym delete_law.root_is) (root_one_each f (HeldIn f w) w.safe w.root c.root_is)

    written : (name : BlobName) (bytes : Bytes) → Has (pruned_blobs f t.read (left_uuids d.uuids (uuids_of t.root)) t.first (pruned_shards f t.clean t.root d.uuids t.read)) (name, bytes) → HeldIn f w name bytes
    written name bytes m =
        let own : Has s.own (name, bytes) = subst (λ (x : Swap). Has x.own (name, bytes)) (sym plan.swap_is) m in
        ((l.lawful.sound.rooted.tickets k t d.may.out.there).swaps s (record { is = d.may.is; out = d.may.out.out; unsettled = d.may.unsettled }) (inl d.present)).noted name bytes own (d.may.ready name bytes own)

    deleted_tidy : TidyRoot f (HeldIn f w) s.root
    deleted_tidy =
        subst (λ (r : RootData). TidyRoot f (HeldIn f w) r) (sym (ap (λ (x : Swap). x.root) plan.swap_is))
        (left_tidy f (HeldIn f w) (held_one f w) w.safe t.clean t.root once d.uuids t.read t.first prune.held plan.are_read plan.of_root plan.writable written
        (subst (λ (r : RootData). TidyRoot f (HeldIn f w) r) (sym delete_law.root_is) tidy.rooted))

    delete_tidy : TidyIn f new
    delete_tidy = subst (TidyIn f) (sym d.new_is) (record {
      rooted = root_less f (HeldIn f w) (Safely f w.blobs (d.names ++ w.doomed)) (λ name bytes h. (h.0, λ m. h.1 (Has-right d.names w.doomed name m))) s.root deleted_tidy;
      done = λ u i x g a. absurd (done_left f w shelf l.lawful k n t s new d u i x g a);
      bases = λ j u e out i x b is at. absurd (no_shard f w shelf l.lawful k n t s new d j u e out i x is);
    })

  -- ---- the others

  ticket_put : (blobs : Blobs) (k : ℕ) (t v : Ticket) → Tidy f (Safely f blobs w.doomed) w.root w.ops w.tickets → fin.get w.tickets k ≡ Some t → (v.out ≡ true → t.out ≡ true) → t.work ≡ v.work → t.base ≡ v.base
      → Tidy f (Safely f blobs w.doomed) w.root w.ops (fin.insert w.tickets k v)
  ticket_put blobs k t v h there out work base = moved f (Safely f blobs w.doomed) w.root w.ops w.ops w.tickets (fin.insert w.tickets k v) (same_dones w.ops) (put_like w.tickets k t v there out work base) h

  ticket_over : (ops : FinMap nat_cmp Op) (k : ℕ) (v : Ticket) → DonesWere w.ops ops → v.out ≡ false → Tidy f (HeldIn f w) w.root ops (fin.insert w.tickets k v)
  ticket_over ops k v dones over = moved f (HeldIn f w) w.root w.ops ops w.tickets (fin.insert w.tickets k v) dones (put_over w.tickets k v over) tidy

  ticket_other : (k : ℕ) (v : Ticket) → (IsShard v.work → ⊥) → Tidy f (HeldIn f w) w.root w.ops (fin.insert w.tickets k v)
  ticket_other k v other = moved f (HeldIn f w) w.root w.ops w.ops w.tickets (fin.insert w.tickets k v) (same_dones w.ops) (put_other w.tickets k v other) tidy

  ops_put : (ops : FinMap nat_cmp Op) → DonesWere w.ops ops → Tidy f (HeldIn f w) w.root ops w.tickets
  ops_put ops dones = moved f (HeldIn f w) w.root w.ops ops w.tickets w.tickets dones (same_tickets w.tickets) tidy

  failed_dones : (k : ℕ) (new : World) (d : Failed w k new) → DonesWere w.ops (fin.insert w.ops d.t.op (record d.op { shards = map (fails k) d.op.shards; failed = true }))
  failed_dones k new d = done_put w.ops d.t.op d.op (record d.op { shards = map (fails k) d.op.shards; failed = true }) d.op_there refl (back_mapped (fails k) (λ x r state. fails_done k x x.state r state) d.op.shards)

  tested : (name : BlobName) (bytes : Bytes) (new : World) (a : AddTest f w name bytes new) → Tidy f (Safely f (fin.insert w.blobs (f.names.text name) bytes) (name ∷ w.doomed)) w.root w.ops w.tickets
  tested name bytes new a =
      more (fin.insert w.blobs (f.names.text name) bytes) (name ∷ w.doomed)
      (λ m b h. (
        at_kept f w.blobs name bytes a.named a.absent [] m b h.0,
        λ d. elim d [ inl e ↦ some_none b (sym h.0.0 ∙ ap (λ (n : BlobName). fin.get w.blobs (f.names.text n)) (sym e) ∙ a.absent) | inr was ↦ h.1 was ],
      ))
    where
      some_none : (b : Bytes) → ◌≡◌ {A = Option Bytes} (Some b) None → ⊥
      some_none b e = cc

  tests_tidy : (new : World) → TestTurn f w new → TidyIn f new
  tests_tidy new (DrawsTest m d) = subst (TidyIn f) (sym d.new_is) tidy
  tests_tidy new (AddsTest m name bytes a) = subst (TidyIn f) (sym a.new_is) (tested name bytes m a)
  tests_tidy new (RemovesTests m names r) = subst (TidyIn f) (sym r.new_is) (removed r.now r.removes.left)

pub turn_tidy : (f : Formats) (w new : World) (shelf : List Shelved) → Law f w shelf → TidyIn f w → Turn f w new → TidyIn f new
turn_tidy f w new shelf l t (Stays m e) = subst (TidyIn f) (sym e) t
turn_tidy f w new shelf l t (Commits m k name d) = subst (TidyIn f) (sym d.new_is)
    (ticket_put f w shelf l t (fin.insert w.blobs (f.names.text name) d.bytes) k d.t (writing d.t name d.bytes) (added f w shelf l t name d.bytes d.named d.absent) d.out.there (λ o. o) refl refl)
turn_tidy f w new shelf l t (CommitFails m k name d) = elim d.leaves [
  | inl e ↦ subst (TidyIn f) (sym e) t
  | inr e ↦ subst (TidyIn f) (sym e.1) (added f w shelf l t name d.bytes d.named e.0)
]
turn_tidy f w new shelf l t (Finds m k name d) = subst (TidyIn f) (sym d.new_is) (ticket_put f w shelf l t w.blobs k d.t (noting d.t name) t d.out.there (λ o. o) refl refl)
turn_tidy f w new shelf l t (Raises m k d) = subst (TidyIn f) (sym d.new_is) (ticket_put f w shelf l t w.blobs k d.t (record d.t { raised = Some w.pending }) t d.out.there (λ o. o) refl refl)
turn_tidy f w new shelf l t (Latests m k d) = subst (TidyIn f) (sym d.tries.new_is)
    (ticket_put f w shelf l t d.now k d.tries.t (record d.tries.t { tried_latest = true }) (more f w shelf l t d.now w.doomed (keeps f w shelf l d.now d.puts)) d.tries.out.there (λ o. o) refl refl)
turn_tidy f w new shelf l t (Fetches m k name d) = subst (TidyIn f) (sym d.new_is) (ticket_put f w shelf l t w.blobs k d.t (reading d.t name d.bytes) t d.out.there (λ o. o) refl refl)
turn_tidy f w new shelf l t (SettlesFinal m k n u s d) = final_tidy f w shelf l t k n u s m d
turn_tidy f w new shelf l t (SettlesDelete m k n u s d) = delete_tidy f w shelf l t k n u s m d
turn_tidy f w new shelf l t (Elects m d) = subst (TidyIn f) (sym d.new_is) t
turn_tidy f w new shelf l t (TakesShard m o op s base d) = taken f w shelf l t o op s base m d
turn_tidy f w new shelf l t (TakesFinal m o op results d) = subst (TidyIn f) (sym d.new_is) (ticket_other f w shelf l t w.next_ticket (final_ticket f w o op results) (λ e. e))
turn_tidy f w new shelf l t (TakesDrop m o d) = subst (TidyIn f) (sym d.new_is) (ticket_other f w shelf l t w.next_ticket (plain_ticket w o Drop) (λ e. e))
turn_tidy f w new shelf l t (TakesDelete m n x d) = subst (TidyIn f) (sym d.new_is) (ticket_other f w shelf l t w.next_ticket (plain_ticket w n (Deleting x.uuids None)) (λ e. e))
turn_tidy f w new shelf l t (TakesCleanup m n x d) = subst (TidyIn f) (sym d.new_is) (ticket_other f w shelf l t w.next_ticket (cleaning_ticket w n) (λ e. e))
turn_tidy f w new shelf l t (DrawsShard m k n d) = subst (TidyIn f) (sym d.new_is) (ticket_put f w shelf l t w.blobs k d.t (record d.t { first = w.next_id; drawn = n }) t d.out.there (λ o. o) refl refl)
turn_tidy f w new shelf l t (DrawsPlan m k n d) = subst (TidyIn f) (sym d.new_is)
    (ticket_other f w shelf l t k (record d.t { first = w.next_id; drawn = n; work = Deleting d.named (Some (record { root = d.root; own = d.own; commands = d.commands })) }) (λ e. e))
turn_tidy f w new shelf l t (Dones m k r d) = done_tidy f w shelf l t k r m (found f w shelf l k r m d)
turn_tidy f w new shelf l t (Ending m k d) = subst (TidyIn f) (sym d.new_is) (ticket_over f w shelf l t w.ops k (record d.t { out = false }) (same_dones w.ops) refl)
turn_tidy f w new shelf l t (Fails m k d) = subst (TidyIn f) (sym d.new_is)
    (ticket_over f w shelf l t (fin.insert w.ops d.t.op (record d.op { shards = map (fails k) d.op.shards; failed = true })) k (record d.t { out = false }) (failed_dones f w shelf l t k m d) refl)
turn_tidy f w new shelf l t (FailsDelete m k d) = subst (TidyIn f) (sym d.new_is) (ticket_over f w shelf l t w.ops k (record d.t { out = false }) (same_dones w.ops) refl)
turn_tidy f w new shelf l t (Drops m k d) = subst (TidyIn f) (sym d.new_is) (ticket_over f w shelf l t (fin.remove w.ops d.t.op) k (record d.t { out = false }) (done_removed w.ops d.t.op) refl)
turn_tidy f w new shelf l t (AsksCleanup m d) = subst (TidyIn f) (sym d.new_is) t
turn_tidy f w new shelf l t (CleanDrops m k d) = subst (TidyIn f) (sym d.new_is) (ticket_over f w shelf l t (fin.remove w.ops d.t.op) k (record d.t { out = false }) (done_removed w.ops d.t.op) refl)
turn_tidy f w new shelf l t (AsksCreate m op d) = subst (TidyIn f) (sym d.new_is) (ops_put f w shelf l t (fin.insert w.ops w.next_op op) (done_new w.ops w.next_op op d.pending))
turn_tidy f w new shelf l t (AsksDelete m uuids d) = subst (TidyIn f) (sym d.new_is) (ops_put f w shelf l t d.ops (done_aborted w.ops d.ops w.next_op d.aborts))
turn_tidy f w new shelf l t (Merges m uuids n d) = subst (TidyIn f) (sym d.new_is) (ops_put f w shelf l t d.ops (done_aborted w.ops d.ops n d.aborts))
turn_tidy f w new shelf l t (Removing m k names d) = subst (TidyIn f) (sym d.new_is) (removed f w shelf l t d.now d.removes.left)
turn_tidy f w new shelf l t (Pages m k page d) = subst (TidyIn f) (sym d.new_is) (ticket_put f w shelf l t w.blobs k d.t (listing d.t page) t d.out.there (λ o. o) refl refl)
turn_tidy f w new shelf l t (Deposes m up d e) = subst (TidyIn f) (sym e) (turn_tidy f w up shelf l t d)
turn_tidy f w new shelf l t (Tests m d) = tests_tidy f w shelf l t m d
turn_tidy f w new shelf l t (Besides m up d r) = kept_aside (TidyIn f) up m (aside_of f up m r) (turn_tidy f w up shelf l t d)
