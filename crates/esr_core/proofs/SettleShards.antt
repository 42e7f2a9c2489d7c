-- After a settle the generations of shards serve the new root.
use Rattle.std.proofs.Common.{◌≡◌, ℕ, ◌≤◌, List, Option, Some, None, map, refl, sym, ap, ◌∙◌, subst, inl, inr, arith, nat_cmp}
use Rattle.std.specs.Cmp.{nat_cmp_total}
use Rattle.std.specs.FinMap.{FinMap, nat_cmp-IsAntisymmetric}
use Rattle.std.specs.FinMap as fin
use Rattle.esr_model.specs.Places.{shelf_places}
use Rattle.esr_model.specs.Names.{BlobName, Snap}
use Rattle.esr_model.specs.Values.{Bytes, IndexRef, RootSnap, RootData, SnapInfo, ShardResult, Formats}
use Rattle.esr_model.specs.Image.{Has, IsOne, Reads, Generation, ListsAs, index_at, at_shard_of}
use Rattle.esr_model.specs.Finalize.{Finalizes, done_at}
use Rattle.esr_core.specs.World.{Op, ShardWork, Done, AllDone, info_of}
use Rattle.esr_core.specs.Generations.{DoneAt, IsLive, IsOfShard, Carries, OpLaw, Together, Base}
use Rattle.esr_core.specs.Laws.Maps.{get_left}
use Rattle.esr_core.proofs.Ordered.{in_shelf_places}
use Rattle.esr_model.specs.Lists.{Has-left, Has-append, Has-mapped}
use Rattle.esr_core.specs.Laws.OneValue.{reads_one}
use Rattle.esr_core.specs.Laws.DoneShards.{done_of, found_done, done_found}
use Rattle.esr_core.proofs.Owning.{OnWith, own_on, stands_on}
use Rattle.esr_core.specs.Laws.NewRoots.{larger_is, larger_old, larger_new}

module _ (f : Formats) (has : BlobName → Bytes → Type 0) (root new : RootData) (ops : FinMap nat_cmp Op) (o : ℕ) (op : Op) (results : List ShardResult)
    (there : fin.get ops o ≡ Some op) (law : OpLaw f has root op) (done : AllDone op.shards results)
    (fins : Finalizes root (info_of op results) results new)
    (noted : Reads has (Snap op.uuid) f.info (info_of op results)) (func : IsOne has) where
  ids : (s : ShardWork) (r : ShardResult) → Has op.shards s → s.state ≡ Done r → (r.index ≡ s.ref.id) × (r.shard ≡ s.number)
  ids s r m e = let d = law.done s r m e in (d.index_is, d.shard_is)

  -- what the op's results have is live
  result_live : (index shard g : ℕ) → done_at results index shard ≡ Some g → DoneAt ops op.uuid index shard g
  result_live index shard g e = let (s, m, (r, state, i, n, gen)) = found_done op.shards results done ids index shard g e in
      record { number = o; op = op; there = there; uuid_is = refl; s = s; s_there = m; r = r; state = state; index_is = i; shard_is = n; generation_is = gen }

  pub done_was : (uuid index shard g : ℕ) → DoneAt (fin.remove ops o) uuid index shard g → DoneAt ops uuid index shard g
  done_was uuid index shard g d = record {
    number = d.number;
    op = d.op;
    there = (get_left nat_cmp_total nat_cmp-IsAntisymmetric ops o d.number d.op d.there).1;
    uuid_is = d.uuid_is;
    s = d.s;
    s_there = d.s_there;
    r = d.r;
    state = d.state;
    index_is = d.index_is;
    shard_is = d.shard_is;
    generation_is = d.generation_is;
  }

  -- what is live was live
  pub live_was : (index shard g : ℕ) → IsLive new (fin.remove ops o) index shard g → IsLive root ops index shard g
  live_was index shard g (inl h) = elim (larger_is _ (done_at results index shard) g (sym (fins.generations index shard) ∙ h)) [
    | inl e ↦ inl e
    | inr e ↦ inr (op.uuid, result_live index shard g e)
  ]
  live_was index shard g (inr h) = inr (h.0, done_was h.0 index shard g h.1)

  on_with : OnWith ops (fin.remove ops o)
  on_with = λ p q e. (q, (get_left nat_cmp_total nat_cmp-IsAntisymmetric ops o p q e).1, refl, (λ index shard has_it. has_it))

  pub carried : (index shard g : ℕ) → Carries f has root ops index shard g → Carries f has new (fin.remove ops o) index shard g
  carried index shard g c =
      record {
        stands = stands_on f has root new ops o op results there law done fins index shard g c;
        own = own_on ops (fin.remove ops o) on_with f has index shard g c.own;
        done = λ uuid h d below. c.done uuid h (done_was uuid index shard h d) below;
        listed = λ above snap m shard_of. elim (Has-append root.snapshots _ snap (subst (λ xs. Has xs snap) fins.snapshots m)) [
          | inl old ↦ c.listed (λ h is. let now = larger_old _ (done_at results index shard) h is in let b : now.0 ≤ g = above now.0 (fins.generations index shard ∙ now.1) in elim now.2 [
            | inl e ↦ omega (arith, e, b)
            | inr e ↦ omega (arith, e.0, b)
          ]) snap old shard_of
          | inr e ↦ subst (λ (x : RootSnap). ListsAs f has index shard g x.uuid) e (new_listed above (subst (λ (x : RootSnap). IsOfShard f has x.uuid index shard) (sym e) shard_of))
        ];
      }
    where
      new_listed : ((h : ℕ) → Generation new index shard h → h ≤ g) → IsOfShard f has op.uuid index shard → ListsAs f has index shard g op.uuid
      new_listed above is =
          let same : is.info ≡ info_of op results = reads_one has func (Snap op.uuid) f.info is.info (info_of op results) is.info_reads noted in
          let member : Has (map (λ (s : ShardWork). (s.ref, s.number)) op.shards) is.place =
          subst (λ xs. Has xs is.place) (sym law.places) (in_shelf_places op.indices is.place (subst (λ xs. Has xs is.place) (ap (λ (x : SnapInfo). shelf_places x.indices) same) is.there)) in
          let (s, m, e) = Has-mapped (λ (s : ShardWork). (s.ref, s.number)) op.shards is.place member in
          let (r, state, r_there) = done_of op.shards results done s m in
          let i : s.ref.id ≡ index = ap (λ (p : IndexRef × ℕ). p.0.id) e ∙ is.index_is in
          let n : s.number ≡ shard = ap (λ (p : IndexRef × ℕ). p.1) e ∙ is.shard_is in
          let at : done_at results index shard ≡ Some r.generation = (λ j. done_at results (sym i j) (sym n j)) ∙ done_found op.shards results done ids law.distinct s r m state in
          let now = larger_new (at_shard_of (index_at root.indices index) shard) _ r.generation at in
          let b : now.0 ≤ g = above now.0 (fins.generations index shard ∙ now.1) in
          c.done op.uuid r.generation (result_live index shard r.generation at) (elim now.2 [ inl e ↦ omega (arith, e, b) | inr e ↦ omega (arith, e.0, b) ])

  pub based : (index shard : ℕ) (base : Option ℕ) → Base f has root ops index shard base → Base f has new (fin.remove ops o) index shard base
  based index shard None h = λ g live. h g (live_was index shard g live)
  based index shard (Some base) h = (λ g live. h.0 g (live_was index shard g live), carried index shard base h.1)

-- the law of an open op, in the new root
pub op_law : (f : Formats) (has : BlobName → Bytes → Type 0) (root new : RootData) (op : Op) (results : List ShardResult) (other : Op)
    → Finalizes root (info_of op results) results new → Together other op → OpLaw f has root other → OpLaw f has new other
op_law f has root new op results other fins t l =
    record {
      places = l.places;
      done = l.done;
      copies = λ u e. let c = l.copies u e in let (z, m, uuid) = c.listed in record { listed = (z, subst (λ xs. Has xs z) (sym fins.snapshots) (Has-left root.snapshots _ z m), uuid); by_info = c.by_info };
      texts = l.texts;
      one_id = l.one_id;
      distinct = l.distinct;
      unlisted = λ snap m e. elim (Has-append root.snapshots _ snap (subst (λ xs. Has xs snap) fins.snapshots m)) [
        | inl old ↦ l.unlisted snap old e
        | inr new ↦ t.uuids (sym (ap (λ (x : RootSnap). x.uuid) new ∙ e))
      ];
      unused = λ y m has. elim (fins.from y m other.uuid has) [
        | inl e ↦ t.uuids e.0
        | inr e ↦ let (x, x_there, name, id, was) = e in l.unused x x_there was
      ];
      same_name = λ r y m y_there e. elim (fins.names y y_there) [
        | inl h ↦ let (x, x_there, name, id) = h in l.same_name r x m x_there (e ∙ sym id) ∙ name
        | inr h ↦ let (q, q_there, name, id) = h in t.same_name r q m q_there (e ∙ sym id) ∙ name
      ];
    }
