-- What is live after a shard is done, and after a settle.
use Rattle.std.proofs.Common.{◌≡◌, ◌≢◌, ◌⊎◌, ℕ, List, [], ◌∷◌, false, true≢false, Option, Some, None, map, refl, sym, ap, ◌∙◌, subst, inl, inr}
use Rattle.std.specs.FinMap as fin
use Rattle.std.proofs.lemmas.Option.{same_Some}
use Rattle.esr_core.specs.Laws.NumberMaps.{was_in}
use Rattle.esr_model.specs.Names.{ShardIndex}
use Rattle.esr_model.specs.Values.{Has, FileEntry, SnapList, ShardFiles, ShardResult, ReadsBack, Formats}
use Rattle.esr_model.specs.Shelf.{Shelved}
use Rattle.esr_model.specs.Finalize.{Finalizes, finalized_root, done_at}
use Rattle.esr_model.specs.Image.{Blobs, At, Reads}
use Rattle.esr_model.specs.Uploads.{entries_from, id_after, new_blobs, with_snap}
use Rattle.esr_core.specs.World.{World, Op, ShardWork, Out, Done, Shard, Ticket, Swap, marked, metadata, info_of, HeldIn}
use Rattle.esr_core.specs.Generations.{IsLive, FinalLaw, ShardLaw}
use Rattle.esr_core.specs.Ready.{Waits, IsShard}
use Rattle.esr_core.specs.Steps.{IsOut, completing}
use Rattle.esr_core.specs.Ids.{Law}
use Rattle.esr_core.specs.Written.{WroteLaw}
use Rattle.esr_core.specs.Allowed.{Based, DoneAs, Settles}
use Rattle.esr_core.specs.Laws.NewRoots.{finalizes, root_one_each, of_swap, larger_is}
use Rattle.esr_core.specs.Laws.ShardStates.{marked_is}
use Rattle.esr_model.specs.Lists.{Has-append, Has-mapped, Has-right}
use Rattle.esr_core.specs.Laws.DoneShards.{done_same, found_done}
use Rattle.esr_quiet.proofs.FreeFrame.{IsFree, own_all, ListsDone, Waited, framed}
use Rattle.esr_quiet.proofs.FreeParts.{Back, tests_was, follows_same, came_put, own_put, WaitedBy, waited_as, waited_map, live_left}

-- ---- a shard is done

-- a shard that waits after it is another
pub marked_waits : (k : ℕ) (r : ShardResult) (z : ShardWork) → Waits (marked k (Done r) z).state → WaitedBy z (marked k (Done r) z)
marked_waits k r z waits = elim (marked_is k (Done r) z) [
  | inl h ↦ absurd (subst (λ (x : ShardWork). Waits x.state) h.is waits)
  | inr h ↦ waited_as z (marked k (Done r) z) h.is waits
]

-- the index that the ticket wrote is its base with the snapshot of these files more
pub record HasIndexed (f : Formats) (t : Ticket) (r : ShardResult) : Type 0 where
  base : ShardFiles
  based : Based f t r.index r.shard t.base base
  files : List FileEntry
  wrote : Has t.wrote (ShardIndex r.index r.shard r.generation, f.shard_index.text (with_snap base t.uuid files))
  index_back : ReadsBack f.shard_index (with_snap base t.uuid files)

-- of a shard that is done, of a clone's too
pub has_indexed : (f : Formats) (size : ℕ) (t : Ticket) (r : ShardResult) (source : Option ℕ) → DoneAs f size t r source → HasIndexed f t r
has_indexed f size t r None by =
    record {
      base = by.base;
      based = by.based;
      files = entries_from f size by.base t.first by.files;
      wrote =
          subst (λ g. Has t.wrote (ShardIndex r.index r.shard g, f.shard_index.text (with_snap by.base t.uuid (entries_from f size by.base t.first by.files)))) (sym by.generation)
          (by.wrote (ShardIndex r.index r.shard (id_after f by.base t.first by.files)) (f.shard_index.text (with_snap by.base t.uuid (entries_from f size by.base t.first by.files)))
          (Has-right (new_blobs f size by.base r.index r.shard t.first by.files) _ _ (inr (inl refl))));
      index_back = by.index_back;
    }
has_indexed f size t r (Some source) by =
    record {
      base = by.base;
      based = by.based;
      files = by.was.files;
      wrote =
          subst (λ g. Has t.wrote (ShardIndex r.index r.shard g, f.shard_index.text (with_snap by.base t.uuid by.was.files))) (sym by.generation)
          (by.wrote (ShardIndex r.index r.shard t.first) (f.shard_index.text (with_snap by.base t.uuid by.was.files)) (inr (inl refl)));
      index_back = by.index_back;
    }

module _ (f : Formats) (w : World) (shelf : List Shelved) (law : Law f w shelf) (l : IsFree f w) (k : ℕ) (t : Ticket) (out : IsOut w k t) (r : ShardResult) (is : t.work ≡ Shard r.index r.shard)
    (op : Op) (op_there : fin.get w.ops t.op ≡ Some op) (by : HasIndexed f t r) where
  wrote : WroteLaw f w.blobs t
  wrote = law.written k t out.there out.out (subst IsShard (sym is) tt)

  abbrev held_now : ShardFiles
  held_now = with_snap by.base t.uuid by.files

  -- the index that it wrote
  index_there : At f w.blobs (ShardIndex r.index r.shard r.generation) (f.shard_index.text held_now)
  index_there = wrote.there (ShardIndex r.index r.shard r.generation) (f.shard_index.text held_now) by.wrote

  held_is : (held : ShardFiles) → Reads (At f w.blobs) (ShardIndex r.index r.shard r.generation) f.shard_index held → held ≡ held_now
  held_is held reads = same_Some _ _ (sym reads.reads ∙ ap f.shard_index.read (same_Some _ _ (sym reads.there.0 ∙ index_there.0)) ∙ by.index_back)

  -- what its base lists is of no shard that waits
  of_base : (op_w : Op) (s : ShardWork) (list : SnapList) (o : ℕ) → fin.get w.ops o ≡ Some op_w → Has op_w.shards s → Waits s.state → s.ref.id ≡ r.index → s.number ≡ r.shard → Has by.base.snapshots list → list.uuid ≢ op_w.uuid
  of_base op_w s list o there m waits i n in_list = go t.base refl by.based
    where
      go : (base : Option ℕ) → t.base ≡ base → Based f t r.index r.shard base by.base → list.uuid ≢ op_w.uuid
      go None e based = absurd (subst (λ (x : ShardFiles). Has x.snapshots list) based in_list)
      go (Some g) e based =
          l.free.unlisted o op_w s g by.base list there m waits
          (inr (record { ticket = k; t = t; there = out.there; out = out.out; work = is ∙ (λ j. Shard (sym i j) (sym n j)); base_is = e }))
          (subst (λ (p : ℕ × ℕ). Reads (At f w.blobs) (ShardIndex p.0 p.1 g) f.shard_index by.base) (λ j. (sym i j, sym n j))
          (record { bytes = based.0; there = wrote.base r.index r.shard g based.0 is e based.1; reads = based.2 }))
          in_list

  abbrev op_now : Op
  op_now = record op { shards = map (marked k (Done r)) op.shards }

  abbrev new : World
  new = record w { ops = fin.insert w.ops t.op op_now; tickets = fin.insert w.tickets k (record t { out = false }); completed = completing w.completed t.op (map (marked k (Done r)) op.shards) }

  -- the shard that the ticket holds is its own
  own_shard : (z : ShardWork) → Has op.shards z → z.state ≡ Out k → (z.ref.id ≡ r.index) × (z.number ≡ r.shard)
  own_shard z m state =
      let h = law.lawful.sound.carried.held t.op op z k op_there m state in
      let same : h.t ≡ t = same_Some _ _ (sym h.there ∙ out.there) in
      one_shard (sym h.work ∙ ap (λ (x : Ticket). x.work) same ∙ is)
    where
      one_shard : {i n j m : ℕ} → Shard i n ≡ Shard j m → (i ≡ j) × (n ≡ m)
      one_shard e = (cc, cc)

  -- the new index lists no snapshot for which the shard is still to be done
  lists_done : (z : ShardWork) → Has op.shards z → z.state ≡ Out k → ListsDone f w new r.index r.shard r.generation
  lists_done z z_there z_state o q s held list there m waits i n reads in_list =
      elim (Has-append by.base.snapshots _ list (subst (λ (x : ShardFiles). Has x.snapshots list) (held_is held reads) in_list)) [
        | inl old ↦
            let h : Waited w q s = waited_map w t.op op op_now (marked k (Done r)) op_there refl refl (λ x x_there x_waits. marked_waits k r x x_waits) o q s there m waits in
            λ same. of_base h.old h.z list h.number h.there h.z_there h.waits (h.index ∙ i) (h.shard ∙ n) old (same ∙ sym h.uuid)
        | inr own ↦ λ same. apart (sym same ∙ ap (λ (x : SnapList). x.uuid) (sym own))
      ]
    where
      its : ShardLaw f (HeldIn f w) w.root w.ops k t r.index r.shard
      its = law.lawful.sound.carried.shards k t out.there out.out r.index r.shard is

      op_uuid : op.uuid ≡ t.uuid
      op_uuid = ap (λ (x : Op). x.uuid) (same_Some _ _ (sym op_there ∙ its.op_there)) ∙ its.uuid_is

      apart : q.uuid ≡ t.uuid → ⊥
      apart e = elim (was_in w.ops t.op op_now o q there) [
        | inr h ↦ (law.lawful.sound.carried.together o t.op q op h.0 h.1 op_there).uuids (e ∙ sym op_uuid)
        | inl h ↦
            let (x, x_there, same) = Has-mapped (marked k (Done r)) op.shards s (subst (λ (y : Op). Has y.shards s) (sym h.1) m) in
            elim (marked_is k (Done r) x) [
              | inl held ↦ subst (λ (y : ShardWork). Waits y.state) (sym same ∙ held.is) waits
              | inr other ↦
                  let was : s ≡ x = sym same ∙ other.is in
                  let z_own = own_shard z z_there z_state in
                  let one : x ≡ z =
                  (law.lawful.sound.carried.ops t.op op op_there).distinct x z x_there z_there (ap (λ (y : ShardWork). y.ref.id) (sym was) ∙ i ∙ sym z_own.0) (ap (λ (y : ShardWork). y.number) (sym was) ∙ n ∙ sym z_own.1) in
                  other.not_held (ap (λ (y : ShardWork). y.state) one ∙ z_state)
            ]
      ]

  live_done : (index number g : ℕ) → IsLive new.root new.ops index number g → IsLive w.root w.ops index number g ⊎ ListsDone f w new index number g
  live_done index number g (inl h) = inl (inl h)
  live_done index number g (inr (uuid, d)) = elim (was_in w.ops t.op op_now d.number d.op d.there) [
    | inr h ↦ inl (inr (uuid, record { number = d.number; op = d.op; there = h.1; uuid_is = d.uuid_is; s = d.s; s_there = d.s_there; r = d.r; state = d.state; index_is = d.index_is; shard_is = d.shard_is; generation_is = d.generation_is }))
    | inl h ↦
        let (z, z_there, same) = Has-mapped (marked k (Done r)) op.shards d.s (subst (λ (y : Op). Has y.shards d.s) (sym h.1) d.s_there) in
        elim (marked_is k (Done r) z) [
          | inr other ↦
              let e : z ≡ d.s = sym other.is ∙ same in
              inl (inr (
                uuid,
                record {
                  number = t.op;
                  op = op;
                  there = op_there;
                  uuid_is = ap (λ (y : Op). y.uuid) h.1 ∙ d.uuid_is;
                  s = z;
                  s_there = z_there;
                  r = d.r;
                  state = ap (λ (y : ShardWork). y.state) e ∙ d.state;
                  index_is = ap (λ (y : ShardWork). y.ref.id) e ∙ d.index_is;
                  shard_is = ap (λ (y : ShardWork). y.number) e ∙ d.shard_is;
                  generation_is = d.generation_is;
                },
              ))
          | inl held ↦
              let e : record z { state = Done r } ≡ d.s = sym held.is ∙ same in
              let own = own_shard z z_there held.state in
              let one : r ≡ d.r = done_same r d.r (ap (λ (y : ShardWork). y.state) e ∙ d.state) in
              inr (subst (λ (p : ℕ × ℕ × ℕ). ListsDone f w new p.0 p.1 p.2)
              (λ j. ((sym own.0 ∙ ap (λ (y : ShardWork). y.ref.id) e ∙ d.index_is) j, (sym own.1 ∙ ap (λ (y : ShardWork). y.number) e ∙ d.shard_is) j, (ap (λ (y : ShardResult). y.generation) one ∙ d.generation_is) j))
              (lists_done z z_there held.state))
        ]
  ]

  pub free_done : (blobs : Blobs) → Back f blobs w.blobs
      → IsFree f (record w {
        blobs = blobs;
        ops = fin.insert w.ops t.op (record op { shards = map (marked k (Done r)) op.shards });
        tickets = fin.insert w.tickets k (record t { out = false });
        completed = completing w.completed t.op (map (marked k (Done r)) op.shards);
      })
  free_done blobs back =
      framed f w (record new { blobs = blobs }) l
      (came_put f w k t (record t { out = false }) out.there (follows_same f w t (record t { out = false }) refl refl (λ e. absurd (true≢false (sym e))) (λ name h. h) refl refl refl refl))
      (own_put w.tickets (own_all f w l) k t (record t { out = false }) out.there refl refl refl)
      (λ p q s e m waits. inl (waited_map w t.op op op_now (marked k (Done r)) op_there refl refl (λ x x_there x_waits. marked_waits k r x x_waits) p q s e m waits))
      live_done back.were (tests_was f w l blobs back)

-- ---- a settle

module _ (f : Formats) (w : World) (shelf : List Shelved) (law : Law f w shelf) (k : ℕ) (s : Settles f w k) where
  its_law : FinalLaw f w.root w.ops s.t s.info s.results s.made
  its_law = law.lawful.sound.carried.finals k s.t s.may.out.there s.may.out.out s.may.unsettled s.present s.info s.results s.made s.work

  finalizes_it : Finalizes w.root (info_of its_law.op s.results) s.results s.s.root
  finalizes_it =
      let x : FinalLaw f w.root w.ops s.t s.info s.results s.made = its_law in
      let same : record { root = finalized_root s.t.root s.info s.results; own = metadata f s.info; commands = s.made ∷ [] } ≡ s.s = of_swap f s.t.work s.t.root s.s s.may.is s.info s.results s.made s.work in
      subst (Finalizes w.root (info_of x.op s.results) s.results) ((λ i. finalized_root (sym x.root_is i) (sym x.info_is i) s.results) ∙ ap (λ (y : Swap). y.root) same)
      (finalizes f (HeldIn f w) w.root x.op s.results (law.lawful.sound.carried.ops s.t.op x.op x.op_there) (root_one_each f (HeldIn f w) w.safe w.root law.lawful.sound.carried.root_is) x.done)

  -- what is live was live
  pub live_settled : (index number g : ℕ) → IsLive s.s.root (fin.remove w.ops s.t.op) index number g → IsLive w.root w.ops index number g
  live_settled index number g (inr h) = live_left w.root w.ops s.t.op index number g (inr h)
  live_settled index number g (inl h) = elim (larger_is _ (done_at s.results index number) g (sym (finalizes_it.generations index number) ∙ h)) [
    | inl e ↦ inl e
    | inr e ↦
        let x : FinalLaw f w.root w.ops s.t s.info s.results s.made = its_law in
        let (z, m, (r, state, i, n, gen)) = found_done x.op.shards s.results x.done (λ y q there done. let d = (law.lawful.sound.carried.ops s.t.op x.op x.op_there).done y q there done in (d.index_is, d.shard_is)) index number g e in
        inr (x.op.uuid, record { number = s.t.op; op = x.op; there = x.op_there; uuid_is = refl; s = z; s_there = m; r = r; state = state; index_is = i; shard_is = n; generation_is = gen })
  ]
