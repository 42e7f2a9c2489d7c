-- While a restore is open its snapshot stays on the shelf as it was.
use Rattle.std.proofs.Common.{◌≡◌, ℕ, ◌<◌, ◌≤◌, List, [], ◌∷◌, ◌++◌, false, Some, map, refl, sym, ap, ◌∙◌, subst, inl, inr, arith, nat_cmp}
use Rattle.std.specs.FinMap.{FinMap}
use Rattle.std.specs.FinMap as fin
use Rattle.std.proofs.lemmas.Option.{same_Some}
use Rattle.esr_core.specs.Laws.NumberMaps.{was_in}
use Rattle.esr_model.specs.Names.{Snap, ShardSnap}
use Rattle.esr_model.specs.Values.{Bytes, Has, IndexRef, SnapInfo, FileEntry, ShardSnapshot, Formats}
use Rattle.esr_model.specs.Shelf.{Shelved, ShelfShard, shelf_after}
use Rattle.esr_model.specs.Parts.{part_names}
use Rattle.esr_model.specs.Places.{shelf_places}
use Rattle.esr_model.specs.Image.{AllPairs, concat, FileStands, ShardStands, SnapStands, RootStands}
use Rattle.esr_model.specs.Lists.{pairs_one}
use Rattle.esr_core.specs.World.{World, Restoring, HeldIn}
use Rattle.esr_core.specs.Restores.{restore_of, handed, ended}
use Rattle.esr_core.specs.Ids.{Law}
use Rattle.esr_core.specs.Entry.{Moment}
use Rattle.esr_core.specs.After.{after}
use Rattle.esr_core.specs.Turns.{ReadTurn, OpensRestore, HandsShard, ReadsMore, EndsShard, Calls, Turn, Deposes, Besides, commands_of}
use Rattle.esr_core.specs.ReadLaw.{ReadLaw, ReadsShelved}
use Rattle.esr_core.specs.History.{world_from, IsLegal, AreTold, commands_at, committed}
use Rattle.esr_core.specs.Laws.OneValue.{held_one, safe_root_stands}
use Rattle.esr_core.specs.Laws.RestoreMaps.{put_was}
use Rattle.esr_core.proofs.Turning.{turn_law}
use Rattle.esr_core.proofs.ReadFrames.{OneContent, Frame, frame}
use Rattle.esr_core.proofs.ListedInfo.{IsListedAs, listed_as, listed_info}
use Rattle.esr_core.proofs.ReadLaws.{turn_read}
use Rattle.esr_core.proofs.Histories.{Stepped, step_law, lasts}
use Rattle.esr_core.proofs.ReadHistories.{read_step_law}
use Rattle.esr_core.proofs.Lists.{shelf_after-append}

-- ---- the shelf by its blobs

pairs_back : {A B : Type 0} (R : A → B → Type 0) (xs : List A) (ys : List B) (y : B) → AllPairs R xs ys → Has ys y → (x : A) × R x y
pairs_back R [] [] y h m = absurd m
pairs_back R [] (z ∷ ys) y h m = absurd h
pairs_back R (x ∷ xs) [] y h m = absurd m
pairs_back R (x ∷ xs) (z ∷ ys) y h (inl e) = (x, subst (R x) e h.0)
pairs_back R (x ∷ xs) (z ∷ ys) y h (inr m) = pairs_back R xs ys y h.1 m

-- a snapshot of the shelf is listed
pub shelved_as : (f : Formats) (w : World) (shelf : List Shelved) → Law f w shelf → (x : Shelved) → Has shelf x → (a : IsListedAs f w shelf x.uuid) × (a.shelved ≡ x)
shelved_as f w shelf l x m =
    let stands : RootStands f (HeldIn f w) w.root shelf = safe_root_stands f (HeldIn f w) (held_one f w) w.safe w.root shelf l.lawful.sound.rooted.kept.picked l.lawful.sound.carried.root_is in
    let (z, s) = pairs_back (SnapStands f (HeldIn f w) w.root) w.root.snapshots shelf x stands.snapshots m in
    (record { snap = z; uuid_is = sym s.uuid_is; shelved = x; there = m; stands = s }, refl)

module _ (f : Formats) (w new : World) (one : OneContent f w.blobs new.blobs) where
  -- what reads in both reads as one value
  file_same : (index number : ℕ) (e : FileEntry) (a b : Bytes) → FileStands f (HeldIn f w) index number e a → FileStands f (HeldIn f new) index number e b → a ≡ b
  file_same index number e a b p q =
      sym p.joined ∙ ap concat (pairs_one (HeldIn f w) (HeldIn f new) (λ name x y h k. one name x y h.0 k.0) (part_names index number e) p.parts q.parts p.there q.there) ∙ q.joined

  shard_same : (u : ℕ) (place : IndexRef × ℕ) (a b : ShelfShard) → ShardStands f (HeldIn f w) w.root u place a → ShardStands f (HeldIn f new) new.root u place b → a ≡ b
  shard_same u place a b p q =
      let bytes : p.snap_reads.bytes ≡ q.snap_reads.bytes = one (ShardSnap place.0.id place.1 u) p.snap_reads.bytes q.snap_reads.bytes p.snap_reads.there.0 q.snap_reads.there.0 in
      let same : p.snap ≡ q.snap = same_Some _ _ (sym p.snap_reads.reads ∙ ap f.shard_snap.read bytes ∙ q.snap_reads.reads) in
      let files : a.files ≡ b.files = pairs_one _ _ (λ e (x : Bytes × Bytes) (y : Bytes × Bytes) h k. λ i. ((sym h.0 ∙ k.0) i, file_same place.0.id place.1 e x.1 y.1 h.1 k.1 i)) q.snap.files a.files b.files
      (subst (λ (s : ShardSnapshot). AllPairs (λ e file. (e.physical ≡ file.0) × FileStands f (HeldIn f w) place.0.id place.1 e file.1) s.files a.files) same p.files) q.files in
      λ i. record { index = (p.name_is ∙ sym q.name_is) i; number = (p.number_is ∙ sym q.number_is) i; files = files i }

  shelved_same : (shelf now : List Shelved) (u : ℕ) (a : IsListedAs f w shelf u) (b : IsListedAs f new now u) → a.shelved ≡ b.shelved
  shelved_same shelf now u a b =
      let p = listed_info f w shelf u a in
      let q = listed_info f new now u b in
      let bytes : p.bytes ≡ q.bytes = one (Snap u) p.bytes q.bytes p.there.0 q.there.0 in
      let same : a.stands.info ≡ b.stands.info = same_Some _ _ (sym p.reads ∙ ap f.info.read bytes ∙ q.reads) in
      let name : a.shelved.name ≡ b.shelved.name = a.stands.name_is ∙ sym a.stands.info_name ∙ ap (λ (x : SnapInfo). x.name) same ∙ b.stands.info_name ∙ sym b.stands.name_is in
      let shards : a.shelved.shards ≡ b.shelved.shards = pairs_one (ShardStands f (HeldIn f w) w.root u) (ShardStands f (HeldIn f new) new.root u) (shard_same u) (shelf_places b.stands.info.indices) a.shelved.shards b.shelved.shards
      (subst (λ (x : SnapInfo). AllPairs (ShardStands f (HeldIn f w) w.root u) (shelf_places x.indices) a.shelved.shards) same
      (subst (λ y. AllPairs (ShardStands f (HeldIn f w) w.root y) (shelf_places a.stands.info.indices) a.shelved.shards) a.uuid_is a.stands.shards))
      (subst (λ y. AllPairs (ShardStands f (HeldIn f new) new.root y) (shelf_places b.stands.info.indices) b.shelved.shards) b.uuid_is b.stands.shards) in
      λ i. record { name = name i; uuid = (a.stands.uuid_is ∙ a.uuid_is ∙ sym b.uuid_is ∙ sym b.stands.uuid_is) i; shards = shards i }

one_same : (f : Formats) (w : World) → OneContent f w.blobs w.blobs
one_same f w name a b p q = same_Some a b (sym p.0 ∙ q.0)

-- two of the shelf with one uuid are one
pub shelved_one : (f : Formats) (w : World) (shelf : List Shelved) → Law f w shelf → (x y : Shelved) → Has shelf x → Has shelf y → x.uuid ≡ y.uuid → x ≡ y
shelved_one f w shelf l x y xm ym e =
    let (a, ax) = shelved_as f w shelf l x xm in
    let (b, by) = shelved_as f w shelf l y ym in
    let moved : IsListedAs f w shelf y.uuid = record { snap = a.snap; uuid_is = a.uuid_is ∙ e; shelved = a.shelved; there = a.there; stands = a.stands } in
    sym ax ∙ shelved_same f w w (one_same f w) shelf shelf y.uuid moved b ∙ by

-- ---- over a turn

module _ (f : Formats) (o : ℕ) (x : Shelved) where
  -- the restore is or was open, and reads the snapshot
  pub record Follows (w : World) (shelf : List Shelved) : Type 0 where
    pub begun : o < w.next_op
    pub reads : ReadsShelved w shelf o x

  framed : (w new : World) (shelf now : List Shelved) → Law f w shelf → Law f new now → ReadLaw f new → Frame f w new → Follows w shelf → Follows new now
  framed w new shelf now l l2 r fr h =
      record {
        begun = let a : o < w.next_op = h.begun in let b : w.next_op ≤ new.next_op = fr.next_op in omega (arith, a, b);
        reads = λ y e.
            let (uuid, on) = h.reads y (ap (λ (m : FinMap nat_cmp Restoring). fin.get m o) (sym fr.restores) ∙ e) in
            let (a, is) = shelved_as f w shelf l x on in
            let b : IsListedAs f new now x.uuid = subst (IsListedAs f new now) (sym uuid) (listed_as f new now l2 y.uuid (r.restores o y e).listed) in
            (uuid, subst (Has now) (sym (shelved_same f w new fr.blobs shelf now x.uuid a b) ∙ is) b.there);
      }

  read_on : (w new : World) (shelf : List Shelved) → ReadTurn f w new → Follows w shelf → Follows new shelf
  read_on w new shelf (OpensRestore m uuid place indices t) h =
      record {
        begun = later;
        reads = λ y e. elim (put_was w.restores w.next_op (restore_of uuid place indices) o y (subst (λ (v : World). fin.get v.restores o ≡ Some y) t.new_is e)) [
          | inl is ↦ absurd (let a : o < w.next_op = h.begun in let b : o ≡ w.next_op = is.0 in omega (arith, a, b))
          | inr is ↦ h.reads y is.1
        ];
      }
    where
      later : o < m.next_op
      later = subst (λ (v : World). o < v.next_op) (sym t.new_is) (let a : o < w.next_op = h.begun in omega (arith, a))
  read_on w new shelf (HandsShard m p r s t) h =
      record {
        begun = subst (λ (v : World). o < v.next_op) (sym t.new_is) h.begun;
        reads = λ y e. elim (was_in w.restores p (record r { shards = map (handed w.next_ticket s.ref.id s.number) r.shards }) o y (subst (λ (v : World). fin.get v.restores o ≡ Some y) t.new_is e)) [
          | inl is ↦ let it = h.reads r (ap (fin.get w.restores) is.0 ∙ t.ready.there) in (it.0 ∙ ap (λ (z : Restoring). z.uuid) is.1, it.1)
          | inr is ↦ h.reads y is.1
        ];
      }
  read_on w new shelf (ReadsMore m k name bytes t) h =
      record { begun = subst (λ (v : World). o < v.next_op) (sym t.new_is) h.begun; reads = λ y e. h.reads y (subst (λ (v : World). fin.get v.restores o ≡ Some y) t.new_is e) }
  read_on w new shelf (EndsShard m k state t) h =
      record {
        begun = subst (λ (v : World). o < v.next_op) (sym t.new_is) h.begun;
        reads = λ y e. elim (put_was w.restores t.q.op (record t.r { shards = map (ended k state) t.r.shards }) o y (subst (λ (v : World). fin.get v.restores o ≡ Some y) t.new_is e)) [
          | inl is ↦ let it = h.reads t.r (ap (fin.get w.restores) is.0 ∙ t.there) in (it.0 ∙ ap (λ (z : Restoring). z.uuid) is.1, it.1)
          | inr is ↦ h.reads y is.1
        ];
      }
  read_on w new shelf (Calls m caller entries e) h =
      record { begun = subst (λ (v : World). o < v.next_op) (sym e) h.begun; reads = λ y is. h.reads y (subst (λ (v : World). fin.get v.restores o ≡ Some y) e is) }

  turn_follows : (w new : World) (shelf : List Shelved) → Law f w shelf → ReadLaw f w → w.deposed ≡ false → (turn : Turn f w new) → Follows w shelf → Follows new (shelf_after shelf (commands_of f w new turn))
  turn_follows w new shelf l r d (Deposes m up t e) h =
      let was = turn_follows w up shelf l r d t h in
      record { begun = subst (λ (v : World). o < v.next_op) (sym e) was.begun; reads = λ y is. was.reads y (subst (λ (v : World). fin.get v.restores o ≡ Some y) e is) }
  turn_follows w new shelf l r d (Besides m up t step) h = read_on up m (shelf_after shelf (commands_of f w up t)) step (turn_follows w up shelf l r d t h)
  turn_follows w new shelf l r d turn h = framed w new shelf (shelf_after shelf (commands_of f w new turn)) l (turn_law f w new shelf l d turn) (turn_read f w new shelf l r d turn) (frame f w new shelf l turn tt) h

-- ---- over a history

pub follows_legal : (f : Formats) (size : ℕ) (o : ℕ) (x : Shelved) (log : List Moment) (w : World) (shelf : List Shelved) → Law f w shelf → ReadLaw f w → Follows f o x w shelf → IsLegal f size w log → AreTold log
    → Follows f o x (world_from f w log) (shelf_after shelf (committed f (world_from f w log).safe w log))
follows_legal f size o x [] w shelf l r h legal told = h
follows_legal f size o x (m ∷ log) w shelf l r h legal told =
    let s = step_law f size w shelf l m told.0.0 told.0.1 legal.0 in
    let now : World = after f w m in
    let read : ReadLaw f now = read_step_law f size w shelf l r m now s in
    let next : Follows f o x now (shelf_after shelf s.commands) = stepped m now s l r h in
    let rest = lasts f size log now (shelf_after shelf s.commands) s.law legal.1 told.1 in
    let last : World = world_from f now log in
    let mine : commands_at f last.safe w m.entry.who m.entry.step m.entry.reply ≡ s.commands = s.counted last.safe rest.rises rest.alone in
    let later : Follows f o x last (shelf_after (shelf_after shelf s.commands) (committed f last.safe now log)) = follows_legal f size o x log now (shelf_after shelf s.commands) s.law read next legal.1 told.1 in
    subst (Follows f o x last) (sym (shelf_after-append shelf s.commands (committed f last.safe now log)) ∙ ap (λ cs. shelf_after shelf (cs ++ committed f last.safe now log)) (sym mine)) later
  where
    stepped : (m : Moment) (now : World) (s : Stepped f w shelf m now) → Law f w shelf → ReadLaw f w → Follows f o x w shelf → Follows f o x now (shelf_after shelf s.commands)
    stepped m now s l r h = elim s.made [
      | inl t ↦ subst (λ cs. Follows f o x now (shelf_after shelf cs)) (sym t.1.1) (turn_follows f o x w now shelf l r t.0 t.1.0 h)
      | inr same ↦ subst (λ (v : World). Follows f o x v (shelf_after shelf s.commands)) (sym same.0) (subst (λ cs. Follows f o x w (shelf_after shelf cs)) (sym same.1) h)
    ]

pub reads_on : (f : Formats) (size : ℕ) (shelf : List Shelved) (w : World) (log : List Moment) (o : ℕ) (x : Shelved) → Law f w shelf → ReadLaw f w → o < w.next_op → ReadsShelved w shelf o x → IsLegal f size w log → AreTold log
    → ReadsShelved (world_from f w log) (shelf_after shelf (committed f (world_from f w log).safe w log)) o x
reads_on f size shelf w log o x l r begun reads legal told = (follows_legal f size o x log w shelf l r (record { begun = begun; reads = reads }) legal told).reads
