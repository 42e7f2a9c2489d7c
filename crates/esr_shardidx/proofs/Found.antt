-- Which entry is found under an id.
use Rattle.std.proofs.Common.{◌≡◌, ◌<◌, ◌==◌, nat_lt, Bool, true, false, cond, List, [], ◌∷◌, ◌++◌, ◌-◌, map, filter, find, Option, Some, None, refl, sym, ap, ◌∙◌, arith, inl, inr}
use Rattle.std.specs.List.{list_any, AllByRecursion}
use Rattle.std.proofs.lemmas.Bool.{cases_Bool, eq-eqb, eqb-true, eqb-false, ltb-true, ltb-false, or_parts}
use Rattle.std.proofs.lemmas.List.Folds.{list_any-append}
use Rattle.esr_names.specs.declared.ids.Id.{Id}
use Rattle.esr_shardidx.specs.declared.entry.FileEntry.{FileEntry}
use Rattle.esr_shardidx.specs.Snapshots.{SnapValue, has_name, AreSnapFiles, IsShardSnap}
use Rattle.esr_shardidx.specs.Indices.{IndexValue, is_id, names_file, is_named, has_uuid, Rises, insert_file, insert_files, name_of, listed_of, with_snap_of, survivors_of, IsShardIndex, HasEntry, Agrees}
use Rattle.esr_shardidx.specs.FileOrder.{all_map, same_id, not_equal, Above, insert_file-rises}
use Rattle.esr_shardidx.proofs.Added.{later_differ, differs}

-- ---- one more entry

pub find-insert_own : (e : FileEntry) (fs : List FileEntry) → Agrees fs e → find (has_name e.name) (insert_file e fs) ≡ Some e
find-insert_own e [] agrees = let own = eq-eqb e.name.number e.name.number refl in rw own refl
find-insert_own e (f ∷ fs) agrees = elim (cases_Bool (nat_lt f.name.number e.name.number)) [
  | inl less ↦
      let other = not_equal f.name.number e.name.number (ltb-true f.name.number e.name.number less) in
      rw (less, other) (find-insert_own e fs (λ g h. agrees g (rw other h)))
  | inr least ↦ elim (cases_Bool (f.name.number == e.name.number)) [
    | inl same ↦ let is : f ≡ e = agrees f (rw same refl) in rw (least, same, same) (ap Some is)
    | inr other ↦ let own = eq-eqb e.name.number e.name.number refl in rw (least, other, own) refl
  ]
]

pub find-insert_other : (u : Id) (e : FileEntry) (fs : List FileEntry) → (e.name.number == u.number) ≡ false → find (has_name u) (insert_file e fs) ≡ find (has_name u) fs
find-insert_other u e [] apart = rw apart refl
find-insert_other u e (f ∷ fs) apart = elim (cases_Bool (nat_lt f.name.number e.name.number)) [
  | inl less ↦ rw less (ap (λ (o : Option FileEntry). cond (has_name u f) (Some f) o) (find-insert_other u e fs apart))
  | inr least ↦ elim (cases_Bool (f.name.number == e.name.number)) [
    | inl same ↦ rw (least, same) refl
    | inr other ↦ rw (least, other, apart) refl
  ]
]

find-insert_files_other : (u : Id) (fs es : List FileEntry) → list_any (is_id u) (map name_of es) ≡ false → find (has_name u) (insert_files fs es) ≡ find (has_name u) fs
find-insert_files_other u fs [] apart = refl
find-insert_files_other u fs (e ∷ es) apart =
    let parts = or_parts (e.name.number == u.number) (list_any (is_id u) (map name_of es)) apart in
    find-insert_files_other u (insert_file e fs) es parts.1 ∙ find-insert_other u e fs parts.0

pub none_above : (u : Id) (es : List FileEntry) → AllByRecursion (Above u) es → find (has_name u) es ≡ None
none_above u [] all = refl
none_above u (e ∷ es) all = elim (cases_Bool (e.name.number == u.number)) [
  | inl same ↦ let is = eqb-true e.name.number u.number same in absurd (omega (arith, all.0, is))
  | inr other ↦ rw other (none_above u es all.1)
]

some_found : (u : Id) (f g : FileEntry) (t : Bool) (o p : Option FileEntry) → (o ≡ Some f → p ≡ Some f) → cond t (Some g) o ≡ Some f → cond t (Some g) p ≡ Some f
some_found u f g true o p later h = h
some_found u f g false o p later h = later h

pub find-insert_kept : (u : Id) (e f : FileEntry) (fs : List FileEntry) → Rises fs → find (has_name u) fs ≡ Some f → find (has_name u) (insert_file e fs) ≡ Some f
find-insert_kept u e f [] rises h = cc
find-insert_kept u e f (g ∷ fs) rises h = elim (cases_Bool (nat_lt g.name.number e.name.number)) [
  | inl less ↦ rw less (some_found u f g (has_name u g) (find (has_name u) fs) (find (has_name u) (insert_file e fs)) (λ later. find-insert_kept u e f fs rises.1 later) h)
  | inr least ↦ elim (cases_Bool (g.name.number == e.name.number)) [
    | inl same ↦ rw (least, same) h
    | inr other ↦ elim (cases_Bool (e.name.number == u.number)) [
      | inl own ↦
          let is = eqb-true e.name.number u.number own in
          let low = ltb-false g.name.number e.name.number least in
          let apart = eqb-false g.name.number e.name.number other in
          let first : u.number < g.name.number = omega (arith, low, apart, is) in
          let rest = all_map (λ (x : FileEntry) (k : Above g.name x). let more : Above u x = omega (arith, k, first) in more) fs rises.0 in
          let none = none_above u (g ∷ fs) (first, rest) in
          absurd (not_some (find (has_name u) (g ∷ fs)) f none h)
      | inr apart ↦ rw (least, other, apart) h
    ]
  ]
] where
  not_some : (o : Option FileEntry) (x : FileEntry) → o ≡ None → o ≡ Some x → ⊥
  not_some o x none some = cc (none, some)

find-insert_files_kept : (u : Id) (f : FileEntry) (fs es : List FileEntry) → Rises fs → find (has_name u) fs ≡ Some f → find (has_name u) (insert_files fs es) ≡ Some f
find-insert_files_kept u f fs [] rises h = h
find-insert_files_kept u f fs (e ∷ es) rises h = find-insert_files_kept u f (insert_file e fs) es (insert_file-rises e fs rises) (find-insert_kept u e f fs rises h)

pub with_snap_of-kept : (v : IndexValue) (s : SnapValue) (u : Id) (e : FileEntry) → IsShardIndex v → find (has_name u) v.files ≡ Some e → find (has_name u) (with_snap_of v s).files ≡ Some e
with_snap_of-kept v s u e index h = elim (cases_Bool (list_any (has_uuid s.uuid) v.snapshots)) [
  | inl there ↦ rw there h
  | inr fresh ↦ rw fresh (find-insert_files_kept u e v.files s.files index.rises h)
]

-- ---- the entries of a snapshot

agrees_more : (e : FileEntry) (fs before es : List FileEntry) → ((w : Id) → list_any (has_name w) before ≡ false → (e.name.number == w.number) ≡ false) → AreSnapFiles before es
    → AllByRecursion (Agrees fs) es → AllByRecursion (Agrees (insert_file e fs)) es
agrees_more e fs before [] apart h agrees = tt
agrees_more e fs before (f ∷ es) apart h agrees =
    let same = find-insert_other f.name e fs (apart f.name h.2) in (
      λ g found. agrees.0 g (sym same ∙ found),
      agrees_more e fs (before ++ f ∷ []) es (λ w none. apart w (or_parts (list_any (has_name w) before) _ (sym (list_any-append (has_name w) before (f ∷ [])) ∙ none)).0) h.3 agrees.1,
    )

entries_there : (fs before es : List FileEntry) → AreSnapFiles before es → AllByRecursion (Agrees fs) es → AllByRecursion (HasEntry (insert_files fs es)) es
entries_there fs before [] h agrees = tt
entries_there fs before (e ∷ es) h agrees =
    let later = later_differ e.name (before ++ e ∷ []) es (λ w none. differs w before e none) h.3 in
    let after = agrees_more e fs (before ++ e ∷ []) es
    (λ w none. (or_parts (e.name.number == w.number) false (or_parts (list_any (has_name w) before) _ (sym (list_any-append (has_name w) before (e ∷ [])) ∙ none)).1).0) h.3 agrees.1 in
    (find-insert_files_other e.name (insert_file e fs) es later ∙ find-insert_own e fs agrees.0, entries_there (insert_file e fs) (before ++ e ∷ []) es h.3 after)

pub with_snap_of-files : (v : IndexValue) (s : SnapValue) → IsShardSnap s → list_any (has_uuid s.uuid) v.snapshots ≡ false → AllByRecursion (Agrees v.files) s.files
    → AllByRecursion (HasEntry (with_snap_of v s).files) s.files
with_snap_of-files v s snap fresh agrees = rw fresh (entries_there v.files [] s.files snap.files agrees)

-- ---- the entries that are kept

pub find-filter : (p : FileEntry → Bool) (u : Id) (es : List FileEntry) → ((e : FileEntry) → has_name u e ≡ true → p e ≡ true) → find (has_name u) (filter p es) ≡ find (has_name u) es
find-filter p u [] h = refl
find-filter p u (e ∷ es) h = elim (cases_Bool (p e)) [
  | inl kept ↦ rw kept (ap (λ (o : Option FileEntry). cond (has_name u e) (Some e) o) (find-filter p u es h))
  | inr left ↦ elim (cases_Bool (has_name u e)) [
    | inl here ↦ let kept = h e here in absurd (both (p e) kept left)
    | inr other ↦ rw (left, other) (find-filter p u es h)
  ]
] where
  both : (t : Bool) → t ≡ true → t ≡ false → ⊥
  both t yes_is no_is = cc (yes_is, no_is)

pub survivors_of-files : (v : IndexValue) (listed : List Id) (u : Id) → list_any (names_file u) (listed_of listed v.snapshots) ≡ true → find (has_name u) (survivors_of v listed).files ≡ find (has_name u) v.files
survivors_of-files v listed u named =
    find-filter (is_named (listed_of listed v.snapshots)) u v.files
    (λ e here. let same : e.name ≡ u = same_id e.name u (eqb-true e.name.number u.number here) in ap (λ (w : Id). list_any (names_file w) (listed_of listed v.snapshots)) same ∙ named)
