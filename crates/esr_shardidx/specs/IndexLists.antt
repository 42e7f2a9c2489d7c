-- The lists of an index, with the files that some of them has.
use Rattle.std.proofs.Common.{◌≡◌, ◌==◌, Bool, true, false, cond, List, [], ◌∷◌, ◌++◌, filter, refl, ap, ◌∙◌, subst, inl, inr}
use Rattle.std.specs.List.{list_any, list_all, AllByRecursion}
use Rattle.std.proofs.lemmas.Bool.{cases_Bool, eqb-true, eq-eqb, or_left, or_right, or_parts, and_parts}
use Rattle.std.proofs.lemmas.List.{append-nil}
use Rattle.std.proofs.lemmas.List.Elements.{filter-append}
use Rattle.esr_names.specs.declared.ids.Id.{Id}
use Rattle.esr_shardidx.specs.declared.entry.FileEntry.{FileEntry}
use Rattle.esr_shardidx.specs.declared.index.SnapList.{SnapList}
use Rattle.esr_shardidx.specs.Entries.{IsEntry}
use Rattle.esr_shardidx.specs.Snapshots.{has_name}
use Rattle.esr_shardidx.specs.Indices.{IndexValue, is_id, has_uuid, names_file, is_named, named_by, has_file, Rises, AreLists, IsShardIndex, listed_of, survivors_of}
use Rattle.esr_shardidx.specs.FileOrder.{all_filter, filter_passes, or_cases, same_id, Rises-filter}

all_true : (p : Id → Bool) (u : Id) (us : List Id) → p u ≡ true → list_all p us ≡ true → list_all p (u ∷ us) ≡ true
all_true p u us here later = rw (here, later) refl

-- a test that passes where another one does, at the elements of the list
pub all_where : (p q : Id → Bool) (us : List Id) → ((u : Id) → list_any (is_id u) us ≡ true → p u ≡ true → q u ≡ true) → list_all p us ≡ true → list_all q us ≡ true
all_where p q [] h all = refl
all_where p q (u ∷ us) h all =
    let parts = and_parts (p u) (list_all p us) all in
    all_true q u us (h u (or_left (u.number == u.number) _ (eq-eqb u.number u.number refl)) parts.0)
    (all_where p q us (λ v here. h v (or_right (u.number == v.number) _ here)) parts.1)

-- the files are there for other entries that have them
pub AreLists-where : (files more : List FileEntry) (before ls : List SnapList)
    → ((u : Id) → list_any (names_file u) ls ≡ true → has_file files u ≡ true → has_file more u ≡ true) → AreLists files before ls → AreLists more before ls
AreLists-where files more before [] h lists = tt
AreLists-where files more before (l ∷ ls) h lists = (
  lists.0,
  lists.1,
  lists.2,
  lists.3,
  all_where (has_file files) (has_file more) l.files (λ u here. h u (or_left (names_file u l) _ here)) lists.4,
  AreLists-where files more (before ++ l ∷ []) ls
      (λ u later. h u (or_right (names_file u l) _ later)) lists.5,
)

kept_has : (u : Id) (t : Bool) (e : FileEntry) (es : List FileEntry) → has_file es u ≡ true → has_file (cond t (e ∷ es) es) u ≡ true
kept_has u true e es has = or_right (has_name u e) _ has
kept_has u false e es has = has

-- a file that some list has is kept
named_has : (ls : List SnapList) (files : List FileEntry) (u : Id) → list_any (names_file u) ls ≡ true → has_file files u ≡ true → has_file (named_by ls files) u ≡ true
named_has ls [] u named has = cc
named_has ls (e ∷ es) u named has = or_cases (has_name u e) (has_file es u) has
    (λ here.
    let same : e.name ≡ u = same_id e.name u (eqb-true e.name.number u.number here) in
    let kept : is_named ls e ≡ true = ap (λ (v : Id). list_any (names_file v) ls) same ∙ named in
    rw kept (or_left (has_name u e) _ here))
    (λ later. kept_has u (is_named ls e) e (named_by ls es) (named_has ls es u named later))

pub AreLists-named : (files : List FileEntry) (before ls : List SnapList) → AreLists files before ls → AreLists (named_by ls files) before ls
AreLists-named files before ls lists = AreLists-where files (named_by ls files) before ls (λ u named has. named_has ls files u named has) lists

-- what is read of files and lists, with the files that some list has
pub IsShardIndex-named : (files : List FileEntry) (ls : List SnapList) → AllByRecursion IsEntry files → Rises files → AreLists files [] ls
    → IsShardIndex (record { files = named_by ls files; snapshots = ls })
IsShardIndex-named files ls entries rises lists = record {
  entries = all_filter IsEntry (is_named ls) files entries;
  rises = Rises-filter (is_named ls) files rises;
  lists = AreLists-named files [] ls lists;
  named = filter_passes (is_named ls) files;
}

-- ---- survivors

none_kept : (u : Id) (t : Bool) (l : SnapList) (ls : List SnapList) → has_uuid u l ≡ false → list_any (has_uuid u) ls ≡ false → list_any (has_uuid u) (cond t (l ∷ ls) ls) ≡ false
none_kept u true l ls here later = rw (here, later) refl
none_kept u false l ls here later = later

filter_none : (q : SnapList → Bool) (u : Id) (ls : List SnapList) → list_any (has_uuid u) ls ≡ false → list_any (has_uuid u) (filter q ls) ≡ false
filter_none q u [] none = refl
filter_none q u (l ∷ ls) none =
    let parts = or_parts (has_uuid u l) (list_any (has_uuid u) ls) none in
    none_kept u (q l) l (filter q ls) parts.0 (filter_none q u ls parts.1)

AreLists-filter : (files : List FileEntry) (q : SnapList → Bool) (before ls : List SnapList) → AreLists files before ls → AreLists files (filter q before) (filter q ls)
AreLists-filter files q before [] lists = tt
AreLists-filter files q before (l ∷ ls) lists =
    let later = AreLists-filter files q (before ++ l ∷ []) ls lists.5 in
    let split = filter-append q before (l ∷ []) in
    elim (cases_Bool (q l)) [
      | inl kept ↦
          let front : filter q (before ++ l ∷ []) ≡ filter q before ++ l ∷ [] = rw kept at split in
          rw kept (lists.0, lists.1, filter_none q l.uuid before lists.2, lists.3, lists.4, subst (λ (xs : List SnapList). AreLists files xs (filter q ls)) front later)
      | inr left ↦
          let front : filter q (before ++ l ∷ []) ≡ filter q before = rw (left, append-nil) at split in
          rw left (subst (λ (xs : List SnapList). AreLists files xs (filter q ls)) front later)
    ]

pub survivors_of-is : (v : IndexValue) (listed : List Id) → IsShardIndex v → IsShardIndex (survivors_of v listed)
survivors_of-is v listed h =
    IsShardIndex-named v.files (listed_of listed v.snapshots) h.entries h.rises (AreLists-filter v.files (λ l. list_any (is_id l.uuid) listed) [] v.snapshots h.lists)
