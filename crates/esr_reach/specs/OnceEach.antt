-- What types say of the roots and the shard indices that there are: nothing stands twice.
use Rattle.std.proofs.Common.{◌≡◌, ℕ, ◌<◌, ◌==◌, ◌||◌, Bool, true, false, List, [], ◌∷◌, ◌++◌, map, inl, inr, refl, sym, ap, ◌∙◌, subst, arith, eq-eqb}
use Rattle.std.proofs.lemmas.Bool.{true≢false}
use Rattle.std.proofs.lemmas.Simd.{map-map}
use Rattle.std.specs.List.{list_any}
use Rattle.std.specs.Str.{bytes_eq}
use Rattle.esr_model.specs.Lists.{Has-right, Has-mapped, Has-map, Has-left, all_has}
use Rattle.esr_root.specs.Ids.{same_id}
use Rattle.esr_root.specs.Snaps.{AreSnaps, clashes}
use Rattle.esr_root.specs.Indices.{AreIndices, same_index}
use Rattle.esr_root.specs.declared.snaps.RootSnap.{RootSnap as CodeSnap}
use Rattle.esr_root.specs.declared.indices.RootIndex.{RootIndex as CodeIndex}
use Rattle.esr_shardidx.specs.declared.entry.FileEntry.{FileEntry as CodeEntry}
use Rattle.esr_shardidx.specs.declared.index.SnapList.{SnapList as CodeList}
use Rattle.esr_shardidx.specs.Indices.{IndexValue, IsShardIndex, Rises, AreLists, has_uuid}
use Rattle.esr_formats.specs.Roots.{root_snap_of, root_index_of}
use Rattle.esr_formats.specs.Shards.{entry_of, snap_list_of, shard_index_of}
use Rattle.esr_model.specs.Values.{Has, IsOneEach, RootSnap, RootIndex, FileEntry, SnapList}
use Rattle.esr_reach.specs.Names.{AreOnce}
use Rattle.esr_reach.specs.Members.{once_distinct}
use Rattle.esr_reach.specs.Held.{IsApart}

-- ---- roots

second_false : (x y : Bool) → (x || y) ≡ false → y ≡ false
second_false true y h = absurd (cc)
second_false false y h = h

pub tests_apart : (m n : ℕ) → (m == n) ≡ false → m ≡ n → ⊥
tests_apart m n apart same = true≢false (sym (eq-eqb m n same) ∙ apart)

pub snaps_once : (ss : List CodeSnap) → AreSnaps ss → AreOnce (map (λ (s : RootSnap). s.uuid) (map root_snap_of ss))
snaps_once ss rule =
    subst AreOnce (sym (map-map (λ (s : RootSnap). s.uuid) root_snap_of ss))
    (once_distinct clashes (λ (s : CodeSnap). s.uuid.number) (λ s t apart. tests_apart s.uuid.number t.uuid.number (second_false (bytes_eq s.name t.name) (same_id s.uuid t.uuid) apart)) ss rule.distinct)

pub indices_once : (is : List CodeIndex) → AreIndices is → AreOnce (map (λ (x : RootIndex). x.id) (map root_index_of is))
indices_once is rule =
    subst AreOnce (sym (map-map (λ (x : RootIndex). x.id) root_index_of is)) (once_distinct same_index (λ (i : CodeIndex). i.id.number) (λ i j apart. tests_apart i.id.number j.id.number apart) is rule.distinct)

-- each index of such a root is listed once
pub one_each : (xs : List RootIndex) → AreOnce (map (λ (x : RootIndex). x.id) xs) → IsOneEach xs
one_each [] once x y none other same = absurd none
one_each (z ∷ xs) once x y (inl here) (inl there) same = sym here ∙ there
one_each (z ∷ xs) once x y (inl here) (inr later) same =
    let key : y.id ≡ z.id = sym same ∙ ap (λ (w : RootIndex). w.id) (sym here) in
    absurd (once.0 (subst (λ (n : ℕ). Has (map (λ (w : RootIndex). w.id) xs) n) key (Has-map (λ (w : RootIndex). w.id) xs y later)))
one_each (z ∷ xs) once x y (inr later) (inl there) same =
    let key : x.id ≡ z.id = same ∙ ap (λ (w : RootIndex). w.id) (sym there) in
    absurd (once.0 (subst (λ (n : ℕ). Has (map (λ (w : RootIndex). w.id) xs) n) key (Has-map (λ (w : RootIndex). w.id) xs x later)))
one_each (z ∷ xs) once x y (inr later) (inr other) same = one_each xs once.1 x y later other same

-- ---- shard indices

files_once : (es : List CodeEntry) → Rises es → AreOnce (map (λ (e : CodeEntry). e.name.number) es)
files_once [] rises = tt
files_once (e ∷ es) rises = (
  λ has.
      let found = Has-mapped (λ (f : CodeEntry). f.name.number) es e.name.number has in
      let above : e.name.number < found.0.name.number = all_has (λ (f : CodeEntry). e.name.number < f.name.number) es found.0 rises.0 found.1 in
      absurd (omega (arith, above, found.2)),
  files_once es rises.1,
)

any_false : {A : Type 0} (p : A → Bool) (xs : List A) (x : A) → list_any p xs ≡ false → Has xs x → p x ≡ false
any_false p [] x none has = absurd has
any_false p (y ∷ ys) x none (inl here) = ap p (sym here) ∙ first_false (p y) (list_any p ys) none
  where
    first_false : (b c : Bool) → (b || c) ≡ false → b ≡ false
    first_false true c h = absurd (cc)
    first_false false c h = refl
any_false p (y ∷ ys) x none (inr later) = any_false p ys x (second_false (p y) (list_any p ys) none) later

lists_aside : (files : List CodeEntry) (before ls : List CodeList) → AreLists files before ls → (b l : CodeList) → Has before b → Has ls l → b.uuid.number ≡ l.uuid.number → ⊥
lists_aside files before [] rule b l has none same = none
lists_aside files before (x ∷ ls) rule b l has (inl here) same =
    let apart = any_false (has_uuid x.uuid) before b rule.2 has in
    tests_apart b.uuid.number x.uuid.number apart (same ∙ ap (λ (m : CodeList). m.uuid.number) (sym here))
lists_aside files before (x ∷ ls) rule b l has (inr later) same = lists_aside files (before ++ x ∷ []) ls rule.5 b l (Has-left before (x ∷ []) b has) later same

lists_once : (files : List CodeEntry) (before ls : List CodeList) → AreLists files before ls → AreOnce (map (λ (l : CodeList). l.uuid.number) ls)
lists_once files before [] rule = tt
lists_once files before (x ∷ ls) rule = (
  λ has.
      let found = Has-mapped (λ (l : CodeList). l.uuid.number) ls x.uuid.number has in
      lists_aside files (before ++ x ∷ []) ls rule.5 x found.0 (Has-right before (x ∷ []) x (inl refl)) found.1 (sym found.2),
  lists_once files (before ++ x ∷ []) ls rule.5,
)

pub shard_apart : (v : IndexValue) → IsShardIndex v → IsApart (shard_index_of v)
shard_apart v rule = record {
  files = subst AreOnce (sym (map-map (λ (e : FileEntry). e.name) entry_of v.files)) (files_once v.files rule.rises);
  snapshots = subst AreOnce (sym (map-map (λ (l : SnapList). l.uuid) snap_list_of v.snapshots)) (lists_once v.files [] v.snapshots rule.lists);
}
