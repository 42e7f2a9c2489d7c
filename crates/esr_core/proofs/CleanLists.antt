-- The indices of shards that a cleanup leaves list listed snapshots alone.
use Rattle.std.proofs.Common.{◌≡◌, ℕ, Bool, true, false, List, Option, Some, None, refl, sym, ap, ◌∙◌, subst, inl, inr}
use Rattle.std.specs.List.{list_any}
use Rattle.std.proofs.lemmas.Bool.{cond-false, cases_Bool}
use Rattle.esr_core.proofs.Drawing.{left_stays}
use Rattle.esr_model.specs.Names.{BlobName, ShardIndex}
use Rattle.esr_model.specs.Values.{Bytes, Has, RootSnap, RootIndex, RootData, SnapList, ShardFiles, IsOneEach, Formats}
use Rattle.esr_model.specs.Shelf.{Shelved, names_uuid}
use Rattle.esr_model.specs.Image.{IsOne, Reads, Generation, at_shard, at_shard_of}
use Rattle.esr_model.specs.Delete.{PrunedShard, left_snaps, own_id, fresh_from, left_uuids, uuids_of, surviving, files_by, files_read, left_text, pruned_blobs, deleted_root}
use Rattle.esr_core.specs.Pruning.{is_left, is_victim, has_none, is_touched, bare_shard, pruned_shards, AreRead, AreOfRoot, AreWritable, IsPlanned}
use Rattle.esr_core.specs.World.{World, HeldIn}
use Rattle.esr_core.specs.Ids.{Law}
use Rattle.esr_core.specs.Allowed.{SettlesDeletion}
use Rattle.esr_model.specs.Lists.{Has-mapped}
use Rattle.esr_core.specs.Laws.OneValue.{reads_one, held_one, generation_index}
use Rattle.esr_core.specs.Laws.DeleteRoots.{AreApart, one_found, deleted_snapshots, deleted_generations, uuid_was, has_names, names_has, bytes_same}
use Rattle.esr_core.specs.Laws.Tests.{clash, any_of}
use Rattle.esr_core.proofs.DeletesHold.{fresh_is, fresh_has, not_none}
use Rattle.esr_core.proofs.DoomedNames.{passed}
use Rattle.esr_core.proofs.DoomsAll.{IsLeftOf, deleted_used, none_fresh}
use Rattle.esr_core.proofs.PruneTurns.{plan, root_is, once, pruned, written}
use Rattle.esr_core.specs.Laws.DeletePlans.{in_root, of_root_apart}
use Rattle.esr_core.proofs.Plans.{shard_reads}
use Rattle.esr_core.proofs.PrunedShards.{has_of_indices}

module _ (f : Formats) (has : BlobName → Bytes → Type 0) (func : IsOne has) (root : RootData) (one : IsOneEach root.indices) (uuids : List ℕ) (read : List (BlobName × Bytes)) (first : ℕ) (clean : Bool) (cleans : clean ≡ true)
    (held : (name : BlobName) (bytes : Bytes) → Has read (name, bytes) → has name bytes) (are_read : AreRead f clean root uuids read) (of_root : AreOfRoot root (pruned_shards f clean root uuids read))
    (writable : AreWritable f root uuids read (pruned_shards f clean root uuids read))
    (written : (name : BlobName) (bytes : Bytes) → Has (pruned_blobs f read (left_uuids uuids (uuids_of root)) first (pruned_shards f clean root uuids read)) (name, bytes) → has name bytes) where
  abbrev shards : List PrunedShard
  shards = pruned_shards f clean root uuids read

  abbrev left : List ℕ
  left = left_uuids uuids (uuids_of root)

  abbrev new : RootData
  new = deleted_root root uuids shards first

  apart : AreApart shards
  apart = of_root_apart root shards of_root

  generation_in : (x : RootIndex) → Has root.indices x → (i k g : ℕ) → x.id ≡ i → Generation root i k g → at_shard x.generations k ≡ Some g
  generation_in x there i k g id gen = sym (ap (λ (z : Option RootIndex). at_shard_of z k) (one_found root.indices one x there i id)) ∙ gen

  touched : (x : RootIndex) → is_touched clean uuids x.snapshots ≡ true
  touched x = ap (λ (c : Bool). is_touched c uuids x.snapshots) cleans

  was_read : (x : RootIndex) → Has root.indices x → (i k g : ℕ) → x.id ≡ i → Generation root i k g → (was : ShardFiles) × (files_read f read (bare_shard i k g) ≡ Some was)
  was_read x there i k g id gen = are_read i k g (record { x = x; there = there; id = id; victim = touched x; at = generation_in x there i k g id gen })

  -- where no list goes each is of a listed snapshot
  listed_of : (l : SnapList) (lists : List SnapList) → list_any (is_victim clean uuids (uuids_of root)) lists ≡ false → Has lists l → names_uuid (uuids_of root) l.uuid ≡ true
  listed_of l lists none m = elim (cases_Bool (names_uuid (uuids_of root) l.uuid)) [
    | inl listed ↦ listed
    | inr not ↦ absurd (clash (list_any (is_victim clean uuids (uuids_of root)) lists) (any_of (is_victim clean uuids (uuids_of root)) lists l m (ap (λ (c : Bool). is_victim c uuids (uuids_of root) l) cleans ∙ cond-false _ _ _ not)) none)
  ]

  -- a shard of which a list goes has another generation
  victim_goes : (x : RootIndex) → Has root.indices x → (i k g : ℕ) → x.id ≡ i → Generation root i k g → (was : ShardFiles) → files_read f read (bare_shard i k g) ≡ Some was
      → list_any (is_victim clean uuids (uuids_of root)) was.snapshots ≡ true → Generation (deleted_root root uuids shards first) i k g → fresh_from first shards i k ≡ None → ⊥
  victim_goes x there i k g id gen was e any stays old = elim (cases_Bool (has_none (left_uuids uuids x.snapshots))) [
    | inl leaves ↦
        let (y, y_there, y_id) = generation_index new i k g stays in
        let z : IsLeftOf root uuids y = deleted_used root uuids shards first y y_there in
        let x_is : z.x ≡ x = one z.x x z.there there (z.id ∙ y_id ∙ sym id) in
        let (u, mine) = z.used in
        let u_left : Has (left_uuids uuids x.snapshots) u = subst (λ (v : RootIndex). Has (left_uuids uuids v.snapshots) u) x_is (subst (λ (us : List ℕ). Has us u) (sym z.snapshots) mine) in
        clash (has_none (left_uuids uuids x.snapshots)) leaves (not_none (left_uuids uuids x.snapshots) u u_left)
    | inr on ↦
        let p : PrunedShard = record { index = x.id; number = k; base = g; kept = list_any (is_left left) was.snapshots } in
        let p_there : Has shards p =
        has_of_indices f read clean uuids (uuids_of root) root.indices x there (touched x) on k g was (generation_in x there i k g id gen) (ap (λ (n : ℕ). files_read f read (bare_shard n k g)) id ∙ e) any in
        let (n, fresh) = fresh_has shards first p apart p_there in
        none_fresh (own_id n p) (sym old ∙ ap (λ (v : ℕ). fresh_from first shards v k) (sym id) ∙ fresh)
  ]

  pub cleaned_lists : (i k g : ℕ) → Generation (deleted_root root uuids shards first) i k g → (h : ShardFiles) → Reads has (ShardIndex i k g) f.shard_index h → (l : SnapList) → Has h.snapshots l
      → names_uuid (uuids_of root) l.uuid ≡ true
  cleaned_lists i k g gen h reads l m = elim (deleted_generations root one uuids shards first apart i k g gen) [
    | inl old ↦
        let (x, there, id) = generation_index root i k g old.1 in
        let (was, e) = was_read x there i k g id old.1 in
        let is : h ≡ was = reads_one has func (ShardIndex i k g) f.shard_index h was reads (shard_reads f has read held (bare_shard i k g) was e) in
        elim (cases_Bool (list_any (is_victim clean uuids (uuids_of root)) was.snapshots)) [
          | inl any ↦ absurd (victim_goes x there i k g id old.1 was e any gen old.0)
          | inr none ↦ listed_of l was.snapshots none (subst (λ (z : ShardFiles). Has z.snapshots l) is m)
        ]
    | inr fresh ↦
        let r = fresh_is f read left shards first i k g fresh in
        let base : Generation root i k r.p.base = subst (λ (y : ℕ × ℕ). Generation root y.0 y.1 r.p.base) (λ j. (r.index_is j, r.number_is j)) (in_root root shards r.p of_root r.there) in
        let (x, there, id) = generation_index root i k r.p.base base in
        let (was, e) = was_read x there i k r.p.base id base in
        let its : files_read f read r.p ≡ Some was = ap (files_by f) (bytes_same read r.p (bare_shard i k r.p.base) r.index_is r.number_is refl) ∙ e in
        let text : Has (pruned_blobs f read left first shards) (ShardIndex i k g, f.shard_index.text (surviving left was)) =
        subst (λ (o : Option ShardFiles). Has (pruned_blobs f read left first shards) (ShardIndex i k g, left_text f left o)) its r.own in
        let now : Reads has (ShardIndex i k g) f.shard_index (surviving left was) = record {
          bytes = f.shard_index.text (surviving left was);
          there = written (ShardIndex i k g) (f.shard_index.text (surviving left was)) text;
          reads = writable r.p was r.there its;
        } in
        let is : h ≡ surviving left was = reads_one has func (ShardIndex i k g) f.shard_index h (surviving left was) reads now in
        let l_left : names_uuid left l.uuid ≡ true = passed (λ (z : SnapList). names_uuid left z.uuid) was.snapshots l (subst (λ (z : ShardFiles). Has z.snapshots l) is m) in
        has_names (uuids_of root) l.uuid (uuid_was uuids (uuids_of root) l.uuid (names_has left l.uuid l_left))
  ]

-- each index of the root of a cleanup that may settle lists listed snapshots alone
pub lists_now : (f : Formats) (w : World) (shelf : List Shelved) → Law f w shelf → (k : ℕ) (s : SettlesDeletion f w k) → s.t.term ≡ w.term → s.t.clean ≡ true → (i j g : ℕ) → Generation s.s.root i j g → (h : ShardFiles)
    → Reads (HeldIn f w) (ShardIndex i j g) f.shard_index h → (x : SnapList) → Has h.snapshots x → (z : RootSnap) × Has s.s.root.snapshots z × (z.uuid ≡ x.uuid)
lists_now f w shelf l k s present clean i j g gen h reads x m =
    let p : IsPlanned f s.t.clean s.t.root s.t.read s.t.first s.uuids s.s = plan f w shelf l k s present in
    let at = root_is f w shelf l k s present in
    let named = cleaned_lists f (HeldIn f w) (held_one f w) s.t.root (once f w shelf l k s present) s.uuids s.t.read s.t.first s.t.clean clean
    (pruned f w shelf l k s present).held p.are_read p.of_root p.writable (written f w shelf l k s present) i j g (subst (λ (r : RootData). Generation r i j g) at gen) h reads x m in
    let (z, there, same) = Has-mapped (λ (y : RootSnap). y.uuid) s.t.root.snapshots x.uuid (names_has (uuids_of s.t.root) x.uuid named) in
    let all : (deleted_root s.t.root s.uuids (pruned_shards f s.t.clean s.t.root s.uuids s.t.read) s.t.first).snapshots ≡ left_snaps s.uuids s.t.root.snapshots =
    deleted_snapshots s.t.root (once f w shelf l k s present) s.uuids (pruned_shards f s.t.clean s.t.root s.uuids s.t.read) s.t.first (of_root_apart s.t.root (pruned_shards f s.t.clean s.t.root s.uuids s.t.read) p.of_root) in
    let stays : Has (left_snaps s.uuids s.t.root.snapshots) z = left_stays s.uuids s.t.root.snapshots z there (ap (λ (us : List ℕ). names_uuid us z.uuid) (s.deleting.bare clean)) in
    (z, subst (λ (r : RootData). Has r.snapshots z) (sym at) (subst (λ (ss : List RootSnap). Has ss z) (sym all) stays), same)
