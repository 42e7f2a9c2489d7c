-- A shard that is done keeps what holds of shards and ops.
use Rattle.std.proofs.Common.{◌≡◌, ◌≢◌, ◌⊎◌, ℕ, ◌<◌, ◌≤◌, List, true, false, true≢false, Option, Some, None, map, refl, sym, ap, ◌∙◌, subst, inl, inr, arith, nat_cmp}
use Rattle.std.specs.Cmp.{nat_cmp_total}
use Rattle.std.specs.FinMap.{FinMap, nat_cmp-IsAntisymmetric}
use Rattle.std.specs.FinMap as fin
use Rattle.std.proofs.lemmas.Option.{same_Some}
use Rattle.esr_model.specs.Places.{shelf_places}
use Rattle.esr_model.specs.Names.{Snap, ShardSnap, ShardIndex}
use Rattle.esr_model.specs.Values.{IndexRef, RootSnap, SnapInfo, ShardSnapshot, ShardFiles, ShardResult, Formats}
use Rattle.esr_model.specs.Shelf.{Shelved}
use Rattle.esr_model.specs.Image.{Has, Reads, Generation, Lists, ListsAs, IndexStands, RootStands}
use Rattle.esr_core.specs.World.{World, Op, ShardWork, Shard, Ticket, Done, Out, marked, HeldIn}
use Rattle.esr_core.specs.Steps.{DoneShard, Extends, ExtendsBase}
use Rattle.esr_core.specs.Generations.{DoneAt, IsLive, IsOfShard, HasShard, IsOwn, Carries, AreFilesOf, DoneStands, OpLaw, Together, Base, BaseBelow, ShardLaw, Carried}
use Rattle.esr_core.specs.Laws.Maps.{get_was, get_other}
use Rattle.esr_model.specs.Lists.{Has-map, Has-mapped}
use Rattle.esr_core.specs.Laws.OneValue.{held_one as func_of, reads_one}
use Rattle.esr_core.specs.Laws.DoneShards.{done_same, done_of}
use Rattle.esr_core.specs.Laws.ShardStates.{place_has, marked_is}
use Rattle.esr_core.proofs.Results.{done_out}
use Rattle.esr_core.proofs.Marked.{marked_ref, marked_number}
use Rattle.esr_core.specs.Laws.BlobFrames.{info_there}
use Rattle.esr_core.proofs.Ops.{shard_law_given, op_law_given}
use Rattle.esr_core.proofs.Owning.{OnWith, own_on, plan_on}

module _ (f : Formats) (w : World) (k : ℕ) (r : ShardResult) (new : World) (d : DoneShard f w k r new)
    (c : Carried f (HeldIn f w) w.safe w.term w.root w.ops w.tickets) (law : ShardLaw f (HeldIn f w) w.root w.ops k d.t r.index r.shard)
    (shelf : List Shelved) (stands : RootStands f (HeldIn f w) w.root shelf) where
  abbrev op_now : Op
  op_now = record d.op { shards = map (marked k (Done r)) d.op.shards }

  abbrev ops_now : FinMap nat_cmp Op
  ops_now = fin.insert w.ops d.t.op op_now

  -- the shard that the ticket holds
  held_one : (z : ShardWork) → Has d.op.shards z → z.state ≡ Out k → (z.ref.id ≡ r.index) × (z.number ≡ r.shard) × (z ≡ d.s)
  held_one z m e =
      let place : (q : ShardWork) → Has d.op.shards q → q.state ≡ Out k → (q.ref.id ≡ r.index) × (q.number ≡ r.shard) = λ q n st.
      let h = c.held d.t.op d.op q k d.op_there n st in
      let same : h.t ≡ d.t = same_Some _ _ (sym h.there ∙ d.out.there) in
      places_same _ _ _ _ (sym h.work ∙ ap (λ (x : Ticket). x.work) same ∙ d.is) in
      let a = place z m e in
      let b = place d.s d.s_there d.state in
      (a.0, a.1, (c.ops d.t.op d.op d.op_there).distinct z d.s m d.s_there (a.0 ∙ sym b.0) (a.1 ∙ sym b.1))
    where
      places_same : (a b x y : ℕ) → Shard a b ≡ Shard x y → (a ≡ x) × (b ≡ y)
      places_same a b x y e = (cc, cc)

  uuid_is : d.op.uuid ≡ d.t.uuid
  uuid_is = ap (λ (x : Op). x.uuid) (same_Some _ _ (sym d.op_there ∙ law.op_there)) ∙ law.uuid_is

  pub record IsNew (uuid index shard g : ℕ) : Type 0 where
    pub uuid_new : uuid ≡ d.t.uuid
    pub index_new : index ≡ r.index
    pub shard_new : shard ≡ r.shard
    pub g_new : g ≡ r.generation

  -- what is done was done, or is the new one
  pub done_was : (uuid index shard g : ℕ) → DoneAt ops_now uuid index shard g → DoneAt w.ops uuid index shard g ⊎ IsNew uuid index shard g
  done_was uuid index shard g a = elim (get_was nat_cmp_total nat_cmp-IsAntisymmetric w.ops d.t.op op_now a.number a.op a.there) [
    | inr h ↦ inl (record { number = a.number; op = a.op; there = h.1; uuid_is = a.uuid_is; s = a.s; s_there = a.s_there; r = a.r; state = a.state; index_is = a.index_is; shard_is = a.shard_is; generation_is = a.generation_is })
    | inl h ↦
        let member : Has (map (marked k (Done r)) d.op.shards) a.s = subst (λ (x : Op). Has x.shards a.s) (sym h.1) a.s_there in
        let (z, m, same) = Has-mapped (marked k (Done r)) d.op.shards a.s member in
        let uuid_of : d.op.uuid ≡ uuid = ap (λ (x : Op). x.uuid) h.1 ∙ a.uuid_is in
        elim (marked_is k (Done r) z) [
          | inl was ↦
              let one = held_one z m was.state in
              let z_is : a.s ≡ record z { state = Done r } = sym same ∙ was.is in
              let r_is : r ≡ a.r = done_same _ _ (ap (λ (x : ShardWork). x.state) (sym z_is) ∙ a.state) in
              inr (record {
                uuid_new = sym uuid_of ∙ uuid_is;
                index_new = sym a.index_is ∙ ap (λ (x : ShardWork). x.ref.id) z_is ∙ one.0;
                shard_new = sym a.shard_is ∙ ap (λ (x : ShardWork). x.number) z_is ∙ one.1;
                g_new = sym a.generation_is ∙ ap (λ (x : ShardResult). x.generation) (sym r_is);
              })
          | inr was ↦
              let z_is : z ≡ a.s = sym was.is ∙ same in
              inl (record {
                number = d.t.op;
                op = d.op;
                there = d.op_there;
                uuid_is = uuid_of;
                s = z;
                s_there = m;
                r = a.r;
                state = ap (λ (x : ShardWork). x.state) z_is ∙ a.state;
                index_is = ap (λ (x : ShardWork). x.ref.id) z_is ∙ a.index_is;
                shard_is = ap (λ (x : ShardWork). x.number) z_is ∙ a.shard_is;
                generation_is = a.generation_is;
              })
        ]
  ]

  has_still : (index shard : ℕ) → HasShard d.op index shard → HasShard op_now index shard
  has_still index shard h = (
    marked k (Done r) h.0,
    Has-map (marked k (Done r)) d.op.shards h.0 h.1,
    ap (λ (v : IndexRef). v.id) (marked_ref k (Done r) h.0) ∙ h.2,
    marked_number k (Done r) h.0 ∙ h.3,
  )

  on_with : OnWith w.ops ops_now
  on_with = λ o op e. elim (get_was nat_cmp_total nat_cmp-IsAntisymmetric w.ops d.t.op op_now o op e) [
    | inl h ↦ (d.op, ap (fin.get w.ops) h.0 ∙ d.op_there, ap (λ (x : Op). x.uuid) h.1, (λ index shard has. subst (λ (x : Op). HasShard x index shard) h.1 (has_still index shard has)))
    | inr h ↦ (op, h.1, refl, (λ index shard has. has))
  ]

  -- the op whose shard was done has it
  own_has : (o : ℕ) (op : Op) → fin.get ops_now o ≡ Some op → op.uuid ≡ d.t.uuid → HasShard op r.index r.shard
  own_has o op e same = elim (get_was nat_cmp_total nat_cmp-IsAntisymmetric w.ops d.t.op op_now o op e) [
    | inl h ↦
        let one = held_one d.s d.s_there d.state in
        subst (λ (x : Op). HasShard x r.index r.shard) h.1 (has_still r.index r.shard (d.s, d.s_there, one.0, one.1))
    | inr h ↦ absurd ((c.together o d.t.op op d.op h.0 h.1 d.op_there).uuids (same ∙ sym uuid_is))
  ]

  -- a generation that can't serve the new one goes on as it did
  carries_on : (index shard g : ℕ) → (index ≡ r.index → shard ≡ r.shard → r.generation ≤ g → ⊥) → Carries f (HeldIn f w) w.root w.ops index shard g → Carries f (HeldIn f w) w.root ops_now index shard g
  carries_on index shard g not_new h =
      record {
        stands = h.stands;
        own = own_on w.ops ops_now on_with f (HeldIn f w) index shard g h.own;
        done = λ uuid g' a below. elim (done_was uuid index shard g' a) [ inl was ↦ h.done uuid g' was below | inr is ↦ absurd (not_new is.index_new is.shard_new (subst (λ x. x ≤ g) is.g_new below)) ];
        listed = h.listed;
      }

  -- the new generation is above all live ones of its shard
  above : (base : Option ℕ) → Base f (HeldIn f w) w.root w.ops r.index r.shard base → BaseBelow base r.generation → (g : ℕ) → IsLive w.root w.ops r.index r.shard g → g < r.generation
  above None h below g live = absurd (h g live)
  above (Some base) h below g live = let b : g ≤ base = h.0 g live in let q : base < r.generation = below in omega arith

  below_new : (d.t.uuid < r.generation) × BaseBelow d.t.base r.generation
  below_new = law.ids r.generation d.drew.from d.drew.below

  new_serves : (u : ℕ) → u ≡ d.t.uuid → Lists d.held d.t.uuid d.snap.files → ListsAs f (HeldIn f w) r.index r.shard r.generation u
  new_serves u e l = subst (ListsAs f (HeldIn f w) r.index r.shard r.generation) (sym e) (record { snap = d.snap; snap_reads = d.snap_reads; held = d.held; held_reads = d.held_reads; lists = l })

  lifted : (base : ℕ) (was : ShardFiles) → Reads (HeldIn f w) (ShardIndex r.index r.shard base) f.shard_index was → Extends was d.held d.t.uuid d.snap.files
      → (u : ℕ) → ListsAs f (HeldIn f w) r.index r.shard base u → ListsAs f (HeldIn f w) r.index r.shard r.generation u
  lifted base was reads ext u l =
      let same : l.held ≡ was = reads_one (HeldIn f w) (func_of f w) (ShardIndex r.index r.shard base) f.shard_index l.held was l.held_reads reads in
      record { snap = l.snap; snap_reads = l.snap_reads; held = d.held; held_reads = d.held_reads; lists = ext.keeps u l.snap.files (subst (λ x. Lists x u l.snap.files) same l.lists) }

  new_snap : (u : ℕ) → d.t.uuid ≡ u → (v : ShardSnapshot) × Reads (HeldIn f w) (ShardSnap r.index r.shard u) f.shard_snap v
  new_snap u e = (d.snap, subst (λ x. Reads (HeldIn f w) (ShardSnap r.index r.shard x) f.shard_snap d.snap) e d.snap_reads)

  new_stands : (base : Option ℕ) → Base f (HeldIn f w) w.root w.ops r.index r.shard base → BaseBelow base r.generation → ExtendsBase f (HeldIn f w) r.index r.shard base d.held d.t.uuid d.snap.files
      → IndexStands f (HeldIn f w) w.root r.index r.shard r.generation
  new_stands None h below ext =
      record {
        held = d.held;
        held_reads = d.held_reads;
        files = λ e m. elim (ext.files_from e m) [ inl no_file ↦ absurd no_file | inr m' ↦ d.stand e m' ];
        snaps = λ l snap m n e. elim (ext.lists_from l m) [ inl no_list ↦ absurd no_list | inr z ↦ new_snap snap.uuid (sym z ∙ e) ];
        below = λ l m. elim (ext.lists_from l m) [ inl no_list ↦ absurd no_list | inr e ↦ subst (λ x. x < r.generation) (sym e) below_new.0 ];
      }
  new_stands (Some base) h below (was, reads, ext) =
      let same : h.1.stands.held ≡ was = reads_one (HeldIn f w) (func_of f w) (ShardIndex r.index r.shard base) f.shard_index h.1.stands.held was h.1.stands.held_reads reads in
      record {
        held = d.held;
        held_reads = d.held_reads;
        files = λ e m. elim (ext.files_from e m) [ inl old ↦ h.1.stands.files e (subst (λ x. Has x.files e) (sym same) old) | inr m' ↦ d.stand e m' ];
        snaps = λ l snap m n e. elim (ext.lists_from l m) [
          | inl old ↦ h.1.stands.snaps l snap (subst (λ (x : ShardFiles). Has x.snapshots l) (sym same) old) n e
          | inr z ↦ new_snap snap.uuid (sym z ∙ e)
        ];
        below = λ l m. elim (ext.lists_from l m) [
          | inl old ↦ let a : l.uuid < base = h.1.stands.below l (subst (λ x. Has x.snapshots l) (sym same) old) in let b : base < r.generation = below in omega arith
          | inr e ↦ subst (λ x. x < r.generation) (sym e) below_new.0
        ];
      }

  new_done : (base : Option ℕ) → Base f (HeldIn f w) w.root w.ops r.index r.shard base → ExtendsBase f (HeldIn f w) r.index r.shard base d.held d.t.uuid d.snap.files
      → (u g : ℕ) → DoneAt w.ops u r.index r.shard g → ListsAs f (HeldIn f w) r.index r.shard r.generation u
  new_done None h ext u g a = absurd (h g (inr (u, a)))
  new_done (Some base) h (was, reads, ext) u g a = lifted base was reads ext u (h.1.done u g a (h.0 g (inr (u, a))))

  own_lists : (base : Option ℕ) → ExtendsBase f (HeldIn f w) r.index r.shard base d.held d.t.uuid d.snap.files → Lists d.held d.t.uuid d.snap.files
  own_lists None ext = ext.lists
  own_lists (Some base) (was, reads, ext) = ext.lists

  new_own : (base : Option ℕ) → Base f (HeldIn f w) w.root w.ops r.index r.shard base → ExtendsBase f (HeldIn f w) r.index r.shard base d.held d.t.uuid d.snap.files → IsOwn f (HeldIn f w) ops_now r.index r.shard r.generation
  new_own None h ext = λ held reads l m o op e same.
      let is : held ≡ d.held = reads_one (HeldIn f w) (func_of f w) (ShardIndex r.index r.shard r.generation) f.shard_index held d.held reads d.held_reads in
      elim (ext.lists_from l (subst (λ (x : ShardFiles). Has x.snapshots l) is m)) [ inl no_list ↦ absurd no_list | inr z ↦ own_has o op e (same ∙ z) ]
  new_own (Some base) h (was, was_reads, ext) = λ held reads l m o op e same.
      let is : held ≡ d.held = reads_one (HeldIn f w) (func_of f w) (ShardIndex r.index r.shard r.generation) f.shard_index held d.held reads d.held_reads in
      elim (ext.lists_from l (subst (λ (x : ShardFiles). Has x.snapshots l) is m)) [
        | inl old ↦ own_on w.ops ops_now on_with f (HeldIn f w) r.index r.shard base h.1.own was was_reads l old o op e same
        | inr z ↦ own_has o op e (same ∙ z)
      ]

  new_listed : (base : Option ℕ) → Base f (HeldIn f w) w.root w.ops r.index r.shard base → ExtendsBase f (HeldIn f w) r.index r.shard base d.held d.t.uuid d.snap.files
      → (snap : RootSnap) → Has w.root.snapshots snap → IsOfShard f (HeldIn f w) snap.uuid r.index r.shard → ListsAs f (HeldIn f w) r.index r.shard r.generation snap.uuid
  new_listed None h ext snap m is =
      let (shelved, s) = info_there f (HeldIn f w) w.root w.root.snapshots shelf stands.snapshots snap m in
      let same : is.info ≡ s.info = reads_one (HeldIn f w) (func_of f w) (Snap snap.uuid) f.info is.info s.info is.info_reads s.info_reads in
      let (g, gen) = place_has f (HeldIn f w) w.root snap.uuid (shelf_places s.info.indices) shelved.shards s.shards is.place (subst (λ (x : SnapInfo). Has (shelf_places x.indices) is.place) same is.there) in
      absurd (h g (inl (subst (λ i. Generation w.root i r.shard g) is.index_is (subst (λ n. Generation w.root is.place.0.id n g) is.shard_is gen))))
  new_listed (Some base) h (was, reads, ext) snap m is = lifted base was reads ext snap.uuid (h.1.listed (λ g gen. h.0 g (inl gen)) snap m is)

  new_carries : Carries f (HeldIn f w) w.root ops_now r.index r.shard r.generation
  new_carries =
      record {
        stands = new_stands d.t.base law.base below_new.1 d.extends;
        own = new_own d.t.base law.base d.extends;
        done = λ u g a below. elim (done_was u r.index r.shard g a) [ inl was ↦ new_done d.t.base law.base d.extends u g was | inr is ↦ new_serves u is.uuid_new (own_lists d.t.base d.extends) ];
        listed = λ below snap m is. new_listed d.t.base law.base d.extends snap m is;
      }

  -- live now: live before, or the new one
  live_was : (index shard g : ℕ) → IsLive w.root ops_now index shard g → IsLive w.root w.ops index shard g ⊎ ((index ≡ r.index) × (shard ≡ r.shard) × (g ≡ r.generation))
  live_was index shard g (inl h) = inl (inl h)
  live_was index shard g (inr (u, a)) = elim (done_was u index shard g a) [ inl was ↦ inl (inr (u, was)) | inr is ↦ inr (is.index_new, is.shard_new, is.g_new) ]

  not_below : (index shard g : ℕ) → IsLive w.root w.ops index shard g → index ≡ r.index → shard ≡ r.shard → r.generation ≤ g → ⊥
  not_below index shard g live i n le =
      let b : g < r.generation = above d.t.base law.base below_new.1 g (subst (λ x. IsLive w.root w.ops x r.shard g) i (subst (λ x. IsLive w.root w.ops index x g) n live)) in omega arith

  carries_now : (index shard g : ℕ) → IsLive w.root ops_now index shard g → Carries f (HeldIn f w) w.root ops_now index shard g
  carries_now index shard g live = elim (live_was index shard g live) [
    | inl was ↦ carries_on index shard g (not_below index shard g was) (c.carries index shard g was)
    | inr is ↦ subst (λ x. Carries f (HeldIn f w) w.root ops_now x shard g) (sym is.0)
        (subst (λ x. Carries f (HeldIn f w) w.root ops_now r.index x g) (sym is.1) (subst (λ x. Carries f (HeldIn f w) w.root ops_now r.index r.shard x) (sym is.2) new_carries))
  ]

  -- another ticket's shard is another
  other_place : (j : ℕ) (u : Ticket) → j ≢ k → fin.get w.tickets j ≡ Some u → u.out ≡ true → (index shard : ℕ) → u.work ≡ Shard index shard → index ≡ r.index → shard ≡ r.shard → ⊥
  other_place j u apart e out index shard is i n =
      apart (c.one_shard j k u d.t e d.out.there out d.out.out r.index r.shard (is ∙ (λ p. Shard (i p) (n p))) d.is)

  base_now : (index shard : ℕ) → (index ≡ r.index → shard ≡ r.shard → ⊥) → (base : Option ℕ) → Base f (HeldIn f w) w.root w.ops index shard base → Base f (HeldIn f w) w.root ops_now index shard base
  base_now index shard apart None h = λ g live. elim (live_was index shard g live) [ inl was ↦ h g was | inr is ↦ apart is.0 is.1 ]
  base_now index shard apart (Some base) h =
      (λ g live. elim (live_was index shard g live) [ inl was ↦ h.0 g was | inr is ↦ absurd (apart is.0 is.1) ], carries_on index shard base (λ i n le. apart i n) h.1)

  op_law_now : OpLaw f (HeldIn f w) w.root op_now
  op_law_now = op_law_given f (HeldIn f w) w.root d.op (marked k (Done r)) d.op.failed (marked_ref k (Done r)) (marked_number k (Done r)) l (λ z q m state.
      let (x, x_there, same) = Has-mapped (marked k (Done r)) d.op.shards z m in
      elim (marked_is k (Done r) x) [
        | inl was ↦
            let one = held_one x x_there was.state in
            let z_is : record d.s { state = Done r } ≡ z = ap (λ (y : ShardWork). record y { state = Done r }) (sym one.2) ∙ sym was.is ∙ same in
            let r_is : r ≡ q = done_same _ _ (ap (λ (y : ShardWork). y.state) z_is ∙ state) in
            let i : d.s.ref.id ≡ r.index = ap (λ (y : ShardWork). y.ref.id) (sym one.2) ∙ one.0 in
            let n : d.s.number ≡ r.shard = ap (λ (y : ShardWork). y.number) (sym one.2) ∙ one.1 in
            subst (λ (y : ShardWork). DoneStands f (HeldIn f w) d.op.source d.op.uuid y q) z_is (subst (DoneStands f (HeldIn f w) d.op.source d.op.uuid (record d.s { state = Done r })) r_is (new_done_stands i n))
        | inr was ↦
            let z_is : x ≡ z = sym was.is ∙ same in
            subst (λ (y : ShardWork). DoneStands f (HeldIn f w) d.op.source d.op.uuid y q) z_is (l.done x q x_there (ap (λ (y : ShardWork). y.state) z_is ∙ state))
      ])
    where
      l : OpLaw f (HeldIn f w) w.root d.op
      l = c.ops d.t.op d.op d.op_there

      new_done_stands : d.s.ref.id ≡ r.index → d.s.number ≡ r.shard → DoneStands f (HeldIn f w) d.op.source d.op.uuid (record d.s { state = Done r }) r
      new_done_stands i n =
          record {
            index_is = sym i;
            shard_is = sym n;
            snap = d.snap;
            snap_reads = subst (λ x. Reads (HeldIn f w) (ShardSnap x d.s.number d.op.uuid) f.shard_snap d.snap) (sym i)
                (subst (λ x. Reads (HeldIn f w) (ShardSnap r.index x d.op.uuid) f.shard_snap d.snap) (sym n) (subst (λ x. Reads (HeldIn f w) (ShardSnap r.index r.shard x) f.shard_snap d.snap) (sym uuid_is) d.snap_reads));
            files = subst (λ x. AreFilesOf f (HeldIn f w) d.op.source x d.s.number d.snap.files) (sym i) (subst (λ x. AreFilesOf f (HeldIn f w) d.op.source r.index x d.snap.files) (sym n) d.files);
          }

  abbrev tickets_now : FinMap nat_cmp Ticket
  tickets_now = fin.insert w.tickets k (record d.t { out = false })

  -- a ticket that is out is another
  out_was : (j : ℕ) (u : Ticket) → fin.get tickets_now j ≡ Some u → u.out ≡ true → (j ≢ k) × (fin.get w.tickets j ≡ Some u)
  out_was j u e out = elim (get_was nat_cmp_total nat_cmp-IsAntisymmetric w.tickets k (record d.t { out = false }) j u e) [
    | inl h ↦ absurd (true≢false (sym out ∙ ap (λ (x : Ticket). x.out) (sym h.1)))
    | inr h ↦ h
  ]

  op_was : (o : ℕ) (op : Op) → fin.get ops_now o ≡ Some op → ((o ≡ d.t.op) × (op_now ≡ op)) ⊎ ((o ≢ d.t.op) × (fin.get w.ops o ≡ Some op))
  op_was o op e = get_was nat_cmp_total nat_cmp-IsAntisymmetric w.ops d.t.op op_now o op e

  shard_now : (j : ℕ) (u : Ticket) → j ≢ k → fin.get w.tickets j ≡ Some u → u.out ≡ true → (index shard : ℕ) → u.work ≡ Shard index shard → ShardLaw f (HeldIn f w) w.root w.ops j u index shard
      → ShardLaw f (HeldIn f w) w.root ops_now j u index shard
  shard_now j u apart e out index shard is l =
      shard_law_given f (HeldIn f w) w.root w.ops d.t.op d.op d.op_there (marked k (Done r)) d.op.failed j u index shard l (λ z m state. stays z state)
      (base_now index shard (other_place j u apart e out index shard is) u.base l.base)
    where
      out_same : {a b : ℕ} → Out a ≡ Out b → a ≡ b
      out_same e = cc

      stays : (z : ShardWork) → z.state ≡ Out j → marked k (Done r) z ≡ z
      stays z state = elim (marked_is k (Done r) z) [ inl was ↦ absurd (apart (out_same (sym state ∙ was.state))) | inr was ↦ was.is ]

  pub done_shard : Carried f (HeldIn f w) w.safe w.term w.root ops_now tickets_now
  done_shard =
      record {
        root_is = c.root_is;
        ops = λ o op e. elim (op_was o op e) [ inl h ↦ subst (OpLaw f (HeldIn f w) w.root) h.1 op_law_now | inr h ↦ c.ops o op h.1 ];
        together = λ o p a b apart e h. elim (op_was o a e) [
          | inl x ↦ elim (op_was p b h) [
            | inl y ↦ absurd (apart (x.0 ∙ sym y.0))
            | inr y ↦ let was = c.together d.t.op p d.op b (λ q. apart (x.0 ∙ q)) d.op_there y.1 in subst (λ z. Together z b) x.1 (record { uuids = was.uuids; same_name = was.same_name })
          ]
          | inr x ↦ elim (op_was p b h) [
            | inl y ↦ let was = c.together o d.t.op a d.op x.0 x.1 d.op_there in subst (λ z. Together a z) y.1 (record { uuids = was.uuids; same_name = was.same_name })
            | inr y ↦ c.together o p a b apart x.1 y.1
          ]
        ];
        carries = carries_now;
        plans = λ j u e out uns pres uuids s is. plan_on w.ops ops_now on_with f w.root s (c.plans j u (out_was j u e out).1 out uns pres uuids s is);
        shards = λ j u e out index shard is. let (apart, was) = out_was j u e out in shard_now j u apart was out index shard is (c.shards j u was out index shard is);
        one_shard = λ i j u v a b ao bo index shard ai bi. c.one_shard i j u v (out_was i u a ao).1 (out_was j v b bo).1 ao bo index shard ai bi;
        finals = λ j u e out uns pres info results made is.
            let (apart, was) = out_was j u e out in
            let l = c.finals j u was out uns pres info results made is in
            let not_it : u.op ≢ d.t.op = λ same.
            let one : l.op ≡ d.op = same_Some _ _ (sym l.op_there ∙ ap (fin.get w.ops) same ∙ d.op_there) in
            let (q, state, there) = done_of l.op.shards results l.done d.s (subst (λ (x : Op). Has x.shards d.s) (sym one) d.s_there) in
            done_out q k (sym state ∙ d.state) in
            record { op = l.op; op_there = get_other nat_cmp_total nat_cmp-IsAntisymmetric w.ops d.t.op op_now u.op not_it ∙ l.op_there; done = l.done; info_is = l.info_is; made_is = l.made_is; root_is = l.root_is };
        held = λ o op z j e m state. elim (op_was o op e) [
          | inl h ↦
              let (x, x_there, same) = Has-mapped (marked k (Done r)) d.op.shards z (subst (λ (y : Op). Has y.shards z) (sym h.1) m) in
              elim (marked_is k (Done r) x) [
                | inl was ↦ absurd (done_out r j (ap (λ (y : ShardWork). y.state) (sym was.is ∙ same) ∙ state))
                | inr was ↦
                    let z_is : x ≡ z = sym was.is ∙ same in
                    let x_state : x.state ≡ Out j = ap (λ (y : ShardWork). y.state) z_is ∙ state in
                    let old = c.held d.t.op d.op x j d.op_there x_there x_state in
                    let apart : j ≢ k = λ q. was.not_held (x_state ∙ ap Out q) in
                    record {
                      t = old.t;
                      there = get_other nat_cmp_total nat_cmp-IsAntisymmetric w.tickets k (record d.t { out = false }) j apart ∙ old.there;
                      out = old.out;
                      op_is = old.op_is ∙ sym h.0;
                      work = old.work ∙ ap (λ (y : ShardWork). Shard y.ref.id y.number) z_is;
                    }
              ]
          | inr h ↦
              let old = c.held o op z j h.1 m state in
              let apart : j ≢ k = λ q. h.0 (sym old.op_is ∙ ap (λ (x : Ticket). x.op) (same_Some _ _ (sym old.there ∙ ap (fin.get w.tickets) q ∙ d.out.there))) in
              record { t = old.t; there = get_other nat_cmp_total nat_cmp-IsAntisymmetric w.tickets k (record d.t { out = false }) j apart ∙ old.there; out = old.out; op_is = old.op_is; work = old.work }
        ];
      }
