-- The plan of a delete is one of the law: of the shards that it read, with the ids that it draws.
use Rattle.std.proofs.Common.{◌≡◌, ◌⊎◌, ℕ, suc, ◌+◌, ◌<◌, ◌≤◌, Bool, true, false, List, [], ◌∷◌, ◌++◌, Option, Some, None, refl, sym, ap, ◌∙◌, subst, inl, inr, arith}
use Rattle.std.specs.Prelude.{◌==◌, ◌&&◌}
use Rattle.std.specs.FinMap as fin
use Rattle.std.proofs.lemmas.Bool.{and_parts, eqb-true, cond-true, cond-false, cases_Bool}
use Rattle.std.proofs.lemmas.Option.{same_Some, none-some}
use Rattle.esr_model.specs.Names.{BlobName, Root, ShardIndex}
use Rattle.esr_model.specs.Values.{Bytes, Has, RootSnap, RootData, ShardFiles, ReadsBack, IsOneEach, Formats}
use Rattle.esr_model.specs.Shelf.{Shelved, Delete, names_uuid}
use Rattle.esr_model.specs.Kept.{RootIds, first_id}
use Rattle.esr_model.specs.Image.{Image, Reads}
use Rattle.esr_model.specs.Delete.{Deletes, PrunedShard, kept_count, fresh_from, left_uuids, uuids_of, is_index, index_bytes, files_by, files_read, left_text, pruned_blobs, deleted_root}
use Rattle.esr_core.specs.World.{World, Deleting, HeldIn}
use Rattle.esr_core.specs.Restores.{IsTestOf}
use Rattle.esr_core.specs.Pruning.{bare_shard, IsToRead, AreOfRoot, AreWritable, commands_by, delete_swap, PruneLaw}
use Rattle.esr_core.specs.Swaps.{SwapShape}
use Rattle.esr_core.specs.Tracked.{IsWithin}
use Rattle.esr_core.specs.Ids.{Law}
use Rattle.esr_core.specs.Turns.{Without, DrawPlan}
use Rattle.esr_core.specs.Allowed.{MayPlan}
use Rattle.esr_core.specs.Laws.OneValue.{held_one, generation_index}
use Rattle.esr_core.specs.Laws.DeleteRoots.{left_has, AreApart, deleted_snapshots, deleted_generations}
use Rattle.esr_core.specs.Laws.DeletePlans.{of_root_apart, in_root, own_is}
use Rattle.esr_core.proofs.DeletedRoots.{deleted_from}
use Rattle.esr_core.specs.Laws.Tests.{clash}
use Rattle.esr_core.proofs.DeletesHold.{unlisted_read, none_of_listed, same_named, snaps_same, fresh_is, deletes_hold}

-- ---- what was read

-- the name that is looked for
is_index_name : (i k g : ℕ) (name : BlobName) → is_index i k g name ≡ true → name ≡ ShardIndex i k g
is_index_name i k g (ShardIndex a b c) e =
    let outer = and_parts ((a == i) && (b == k)) (c == g) e in
    let inner = and_parts (a == i) (b == k) outer.0 in
    λ j. ShardIndex (eqb-true a i inner.0 j) (eqb-true b k inner.1 j) (eqb-true c g outer.1 j)
is_index_name i k g name e = absurd (clash false e refl)

-- the bytes that are found are among what was read
pub bytes_there : (read : List (BlobName × Bytes)) (p : PrunedShard) (b : Bytes) → index_bytes read p ≡ Some b → Has read (ShardIndex p.index p.number p.base, b)
bytes_there [] p b e = absurd (none-some b e)
bytes_there (blob ∷ read) p b e = elim (cases_Bool (is_index p.index p.number p.base blob.0)) [
  | inl t ↦
      let bytes : Some blob.1 ≡ Some b = sym (cond-true _ _ _ t) ∙ e in
      let name : blob.0 ≡ ShardIndex p.index p.number p.base = is_index_name p.index p.number p.base blob.0 t in
      inl (λ j. (name j, same_Some blob.1 b bytes j))
  | inr t ↦ inr (bytes_there read p b (sym (cond-false _ _ _ t) ∙ e))
]

-- what was read of a shard reads so where all that was read is there
pub shard_reads : (f : Formats) (has : BlobName → Bytes → Type 0) (read : List (BlobName × Bytes)) → ((name : BlobName) (bytes : Bytes) → Has read (name, bytes) → has name bytes) → (p : PrunedShard) (was : ShardFiles)
    → files_read f read p ≡ Some was → Reads has (ShardIndex p.index p.number p.base) f.shard_index was
shard_reads f has read held p was e = go (index_bytes read p) refl e
  where
    go : (o : Option Bytes) → index_bytes read p ≡ o → files_by f o ≡ Some was → Reads has (ShardIndex p.index p.number p.base) f.shard_index was
    go None is e = absurd (none-some was e)
    go (Some b) is e = record { bytes = b; there = held (ShardIndex p.index p.number p.base) b (bytes_there read p b is); reads = e }

-- ---- the shards

index_id_is : {a b c i k g : ℕ} → ShardIndex a b c ≡ ShardIndex i k g → c ≡ g
index_id_is e = cc

-- the first of some blobs, whose name none of the others has, has one text
first_text : (name own : BlobName) (text a b : Bytes) (rest : List (BlobName × Bytes)) → ((x : Bytes) → own ≡ name → Has rest (name, x) → ⊥) → (Has rest (name, a) → Has rest (name, b) → a ≡ b)
    → Has ((own, text) ∷ rest) (name, a) → Has ((own, text) ∷ rest) (name, b) → a ≡ b
first_text name own text a b rest apart later (inl e) (inl h) = sym (ap (λ (x : BlobName × Bytes). x.1) e) ∙ ap (λ (x : BlobName × Bytes). x.1) h
first_text name own text a b rest apart later (inl e) (inr n) = absurd (apart b (ap (λ (x : BlobName × Bytes). x.0) e) n)
first_text name own text a b rest apart later (inr m) (inl h) = absurd (apart a (ap (λ (x : BlobName × Bytes). x.0) h) m)
first_text name own text a b rest apart later (inr m) (inr n) = later m n

-- the id of the first lies below those of the rest
first_apart : (f : Formats) (read : List (BlobName × Bytes)) (left : List ℕ) (shards : List PrunedShard) (next i k : ℕ) (name : BlobName) (x : Bytes) → ShardIndex i k next ≡ name → Has (pruned_blobs f read left (suc next) shards) (name, x)
    → ⊥
first_apart f read left shards next i k name x is m =
    let r = own_is f read left shards (suc next) name x m in
    let same : next ≡ r.id = index_id_is (is ∙ r.name_is) in
    let le : suc next ≤ r.id = r.from in
    omega (arith, same, le)

-- each has one text: their ids rise
own_one_text : (f : Formats) (read : List (BlobName × Bytes)) (left : List ℕ) (shards : List PrunedShard) (next : ℕ) (name : BlobName) (a b : Bytes)
    → Has (pruned_blobs f read left next shards) (name, a) → Has (pruned_blobs f read left next shards) (name, b) → a ≡ b
own_one_text f read left [] next name a b m n = absurd m
own_one_text f read left (p ∷ shards) next name a b m n = elim (cases_Bool p.kept) [
  | inl t ↦
      first_text name (ShardIndex p.index p.number next) (left_text f left (files_read f read p)) a b (pruned_blobs f read left (suc next) shards)
      (first_apart f read left shards next p.index p.number name)
      (own_one_text f read left shards (suc next) name a b)
      (subst (λ (l : List (BlobName × Bytes)). Has l (name, a)) (cond-true _ _ _ t) m) (subst (λ (l : List (BlobName × Bytes)). Has l (name, b)) (cond-true _ _ _ t) n)
  | inr t ↦ own_one_text f read left shards next name a b (subst (λ (l : List (BlobName × Bytes)). Has l (name, a)) (cond-false _ _ _ t) m) (subst (λ (l : List (BlobName × Bytes)). Has l (name, b)) (cond-false _ _ _ t) n)
]

-- it is no root, and no test blob
index_no_root : (i k g n : ℕ) → Root n ≡ ShardIndex i k g → ⊥
index_no_root i k g n e = cc

-- a fresh generation is an id of the draw
fresh_in_draw : (f : Formats) (read : List (BlobName × Bytes)) (left : List ℕ) (shards : List PrunedShard) (next i k g : ℕ) → fresh_from next shards i k ≡ Some (Some g) → (next ≤ g) × (g < next + kept_count shards)
fresh_in_draw f read left shards next i k g e =
    let r = fresh_is f read left shards next i k g e in
    let o = own_is f read left shards next (ShardIndex i k g) _ r.own in
    let same : g ≡ o.id = index_id_is o.name_is in
    let le : next ≤ o.id = o.from in
    let lt : o.id < next + kept_count shards = o.below in
    (omega (arith, same, le), omega (arith, same, lt))

-- ---- the new root is within the old one

below_more : (n first c : ℕ) → n < first → n < first + c
below_more n first c lt = omega (arith, lt)

pub plan_within : (f : Formats) (root : RootData) → IsOneEach root.indices → (uuids : List ℕ) (shards : List PrunedShard) (first : ℕ) → AreOfRoot root shards → RootIds root first
    → IsWithin root (deleted_root root uuids shards first) (first + kept_count shards)
plan_within f root one uuids shards first of_root ids =
    record {
      shrinks = record {
        snapshots = λ s m. left_has uuids root.snapshots s (subst (λ (ss : List RootSnap). Has ss s) (deleted_snapshots root one uuids shards first apart) m);
        indices = deleted_from root one uuids shards first apart;
      };
      below = record {
        generations = λ i k g gen. elim (deleted_generations root one uuids shards first apart i k g gen) [ inl old ↦ up g (ids.generations i k g old.1) | inr now ↦ (fresh_in_draw f [] [] shards first i k g now).1 ];
        snapshots = λ s m. up s.uuid (ids.snapshots s (left_has uuids root.snapshots s (subst (λ (ss : List RootSnap). Has ss s) (deleted_snapshots root one uuids shards first apart) m)));
        ids = λ y m. let (x, there, name, id, was) = deleted_from root one uuids shards first apart y m in subst (λ (n : ℕ). n < first + kept_count shards) id (up x.id (ids.ids x there));
        uuids = λ y u m has. let (x, there, name, id, was) = deleted_from root one uuids shards first apart y m in up u (ids.uuids x u there (was u has));
        one_name = λ y z ym zm e.
            let (x, there, name, id, was) = deleted_from root one uuids shards first apart y ym in
            let (v, v_there, v_name, v_id, v_was) = deleted_from root one uuids shards first apart z zm in
            sym name ∙ ids.one_name x v there v_there (id ∙ e ∙ sym v_id) ∙ v_name;
      };
    }
  where
    apart : AreApart shards
    apart = of_root_apart root shards of_root

    up : (n : ℕ) → n < first → n < first + kept_count shards
    up n lt = below_more n first (kept_count shards) lt

-- ---- the plan

module _ (f : Formats) (w : World) (shelf : List Shelved) (l : Law f w shelf) (k : ℕ) (shards : List PrunedShard) (i : Image) (p : MayPlan f w k shards (Some i)) (fits : w.next_id + kept_count shards < first_id (suc w.term))
    (back : ReadsBack f.root (deleted_root p.t.root p.uuids shards w.next_id)) where
  abbrev left : List ℕ
  left = left_uuids p.uuids (uuids_of p.t.root)

  abbrev unlisted : List ℕ
  unlisted = unlisted_read f (uuids_of p.t.root) p.t.read

  apart : AreApart shards
  apart = of_root_apart p.t.root shards p.of_root

  -- of the present term what it read is there
  law : p.t.term ≡ w.term → PruneLaw f (HeldIn f w) w.safe p.t p.uuids None
  law pres = l.pruned.unsettled k p.t p.uuids None p.deleting.out.there p.deleting.out.out p.unsettled pres p.deleting.work

  held : p.t.term ≡ w.term → (index number generation : ℕ) → IsToRead p.t.clean p.t.root p.uuids index number generation
      → (was : ShardFiles) × (files_read f p.t.read (bare_shard index number generation) ≡ Some was) × Reads (HeldIn f w) (ShardIndex index number generation) f.shard_index was
  held pres index number generation to_read =
      let (was, e) = p.are_read index number generation to_read in
      (was, e, shard_reads f (HeldIn f w) p.t.read (law pres).held (bare_shard index number generation) was e)

  deletes : p.t.term ≡ w.term → Deletes f (HeldIn f w) p.t.root (p.uuids ++ unlisted_read f (uuids_of p.t.root) p.t.read) (fresh_from w.next_id shards) (pruned_blobs f p.t.read (left_uuids p.uuids (uuids_of p.t.root)) w.next_id shards)
      (deleted_root p.t.root p.uuids shards w.next_id)
  deletes pres =
      subst (λ (ss : List PrunedShard). Deletes f (HeldIn f w) p.t.root (p.uuids ++ unlisted_read f (uuids_of p.t.root) p.t.read) (fresh_from w.next_id ss) (pruned_blobs f p.t.read (left_uuids p.uuids (uuids_of p.t.root)) w.next_id ss)
      (deleted_root p.t.root p.uuids ss w.next_id)) (sym p.exact)
      (deletes_hold f (HeldIn f w) (held_one f w) p.t.clean p.t.root p.one_each p.uuids p.t.read w.next_id (held pres) (subst (AreWritable f p.t.root p.uuids p.t.read) p.exact p.writable)
      (λ index number generation gen. (l.ids.tickets k p.t p.deleting.out.there).copy.generations index number generation gen) (subst AreApart p.exact apart))

  shape : SwapShape f (delete_swap f p.t.clean p.t.root p.t.read p.uuids shards w.next_id)
  shape =
      record {
        root_back = back;
        no_root = λ n b m. let o = own_is f p.t.read left shards w.next_id (Root n) b m in index_no_root o.q.index o.q.number o.id n o.name_is;
        no_test = λ v name b m test. let o = own_is f p.t.read left shards w.next_id name b m in subst (IsTestOf v) o.name_is test;
        one_text = own_one_text f p.t.read left shards w.next_id;
      }

  without : Without p.t.root (p.uuids ++ unlisted_read f (uuids_of p.t.root) p.t.read) (fresh_from w.next_id shards) (deleted_root p.t.root p.uuids shards w.next_id)
  without =
      record {
        snapshots = deleted_snapshots p.t.root p.one_each p.uuids shards w.next_id apart ∙ sym (snaps_same p.uuids unlisted p.t.root.snapshots (none_of_listed f p.t.root p.t.read));
        from = deleted_from p.t.root p.one_each p.uuids shards w.next_id apart;
        generations = λ index number generation gen. elim (deleted_generations p.t.root p.one_each p.uuids shards w.next_id apart index number generation gen) [ inl old ↦ inl old.1 | inr now ↦ inr now ];
      }

  pub plan_draw : (new : World)
      → new ≡ record w {
        next_id = w.next_id + kept_count shards;
        tickets = fin.insert w.tickets k (record p.t { first = w.next_id; drawn = kept_count shards; work = Deleting p.uuids (Some (delete_swap f p.t.clean p.t.root p.t.read p.uuids shards w.next_id)) });
      }
      → DrawPlan f w k (kept_count shards) new
  plan_draw new is =
      record {
        t = p.t;
        out = p.deleting.out;
        named = p.uuids;
        work = p.deleting.work;
        uuids = p.uuids ++ unlisted_read f (uuids_of p.t.root) p.t.read;
        commands = commands_by p.t.clean p.uuids;
        prunes = by_mode p.t.clean refl;
        fits = fits;
        unsettled = p.unsettled;
        unraised = p.unraised;
        unnoted = p.unnoted;
        root = deleted_root p.t.root p.uuids shards w.next_id;
        own = pruned_blobs f p.t.read (left_uuids p.uuids (uuids_of p.t.root)) w.next_id shards;
        fresh = fresh_from w.next_id shards;
        deletes = deletes;
        shape = shape;
        planned = record {
          are_read = p.are_read;
          of_root = subst (AreOfRoot p.t.root) p.exact p.of_root;
          writable = subst (AreWritable f p.t.root p.uuids p.t.read) p.exact p.writable;
          swap_is = ap (λ (ss : List PrunedShard). delete_swap f p.t.clean p.t.root p.t.read p.uuids ss w.next_id) p.exact;
        };
        without = without;
        fresh_drawn = λ index number g e. fresh_in_draw f p.t.read left shards w.next_id index number g e;
        own_drawn = λ name b m.
            let o = own_is f p.t.read left shards w.next_id name b m in
            (o.q.index, o.q.number, o.id, o.name_is, o.from, o.below, generation_index p.t.root o.q.index o.q.number o.q.base (in_root p.t.root shards o.q p.of_root o.there));
        new_is = is;
      }
    where
      by_mode : (b : Bool) → p.t.clean ≡ b
          → ((p.t.clean ≡ false) × ((s : RootSnap) → Has p.t.root.snapshots s → names_uuid (p.uuids ++ unlisted_read f (uuids_of p.t.root) p.t.read) s.uuid ≡ names_uuid p.uuids s.uuid)
          × (commands_by p.t.clean p.uuids ≡ Delete p.uuids ∷ []))
          ⊎ ((p.t.clean ≡ true) × (commands_by p.t.clean p.uuids ≡ []) × ((s : RootSnap) → Has p.t.root.snapshots s → names_uuid (p.uuids ++ unlisted_read f (uuids_of p.t.root) p.t.read) s.uuid ≡ false))
      by_mode false is = inl (is, (λ s m. same_named f p.t.root p.uuids p.t.read s m), ap (λ (b : Bool). commands_by b p.uuids) is)
      by_mode true is = inr (is, ap (λ (b : Bool). commands_by b p.uuids) is, (λ s m. same_named f p.t.root p.uuids p.t.read s m ∙ ap (λ (us : List ℕ). names_uuid us s.uuid) (p.deleting.bare is)))
