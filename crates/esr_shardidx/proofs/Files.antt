-- Entries that rise by id, and what is kept of them.
use Rattle.std.proofs.Common.{◌≡◌, suc, ◌-◌, ◌≤◌, ◌==◌, nat_lt, true, false, List, [], ◌∷◌, ◌++◌, length, refl, arith, inl, inr}
use Rattle.std.specs.List.{list_any, AllByRecursion}
use Rattle.std.proofs.lemmas.Bool.{cases_Bool, ltb-false, eqb-false, eq-eqb, or_left, or_right, or_parts}
use Rattle.esr_names.specs.declared.ids.Id.{Id}
use Rattle.esr_shardidx.specs.declared.entry.FileEntry.{FileEntry}
use Rattle.esr_shardidx.specs.Entries.{last_of, id_falls}
use Rattle.esr_shardidx.specs.Snapshots.{has_name}
use Rattle.esr_shardidx.specs.Indices.{Rises, insert_file, insert_files, has_file}
use Rattle.esr_shardidx.specs.FileOrder.{all_push, or_cases, Below, Above, insert_file-all, insert_file-rises}

-- ---- entries that rise

-- an id that is not below the last, and that none of them has, is above all of them
pub all_below : (u : Id) (es : List FileEntry) → Rises es → id_falls (last_of es) u ≡ false → list_any (has_name u) es ≡ false → AllByRecursion (Below u) es
all_below u [] rises stays none = tt
all_below u (e ∷ []) rises stays none =
    let least : e.name.number ≤ u.number = ltb-false u.number e.name.number stays in
    let other = eqb-false e.name.number u.number (or_parts (e.name.number == u.number) false none).0 in
    (omega (arith, least, other), tt)
all_below u (e ∷ f ∷ es) rises stays none =
    let place : length (e ∷ f ∷ es) - 1 ≡ suc (length (f ∷ es) - 1) = omega arith in
    let later = all_below u (f ∷ es) rises.1 (rw place at stays) (or_parts (e.name.number == u.number) _ none).1 in
    (omega (arith, rises.0.0, later.0), later)

pub Rises-push : (es : List FileEntry) (e : FileEntry) → Rises es → AllByRecursion (Below e.name) es → Rises (es ++ e ∷ [])
Rises-push [] e rises below = (tt, tt)
Rises-push (f ∷ es) e rises below = (all_push (Above f.name) es e rises.0 below.0, Rises-push es e rises.1 below.1)

-- ---- one more entry

pub insert_files-all : (P : FileEntry → Type 0) (fs es : List FileEntry) → AllByRecursion P fs → AllByRecursion P es → AllByRecursion P (insert_files fs es)
insert_files-all P fs [] all more = all
insert_files-all P fs (e ∷ es) all more = insert_files-all P (insert_file e fs) es (insert_file-all P e fs more.0 all) more.1

pub insert_files-rises : (fs es : List FileEntry) → Rises fs → Rises (insert_files fs es)
insert_files-rises fs [] rises = rises
insert_files-rises fs (e ∷ es) rises = insert_files-rises (insert_file e fs) es (insert_file-rises e fs rises)

pub insert_file-keeps : (e : FileEntry) (fs : List FileEntry) (u : Id) → has_file fs u ≡ true → has_file (insert_file e fs) u ≡ true
insert_file-keeps e [] u has = cc
insert_file-keeps e (f ∷ fs) u has = elim (cases_Bool (nat_lt f.name.number e.name.number)) [
  | inl less ↦ rw less (or_cases (has_name u f) (has_file fs u) has (λ here. or_left (has_name u f) _ here) (λ later. or_right (has_name u f) _ (insert_file-keeps e fs u later)))
  | inr least ↦ elim (cases_Bool (f.name.number == e.name.number)) [
    | inl same ↦ rw (least, same) has
    | inr other ↦ rw (least, other) (or_right (has_name u e) _ has)
  ]
]

pub insert_file-own : (e : FileEntry) (fs : List FileEntry) → has_file (insert_file e fs) e.name ≡ true
insert_file-own e [] = or_left (has_name e.name e) _ (eq-eqb e.name.number e.name.number refl)
insert_file-own e (f ∷ fs) = elim (cases_Bool (nat_lt f.name.number e.name.number)) [
  | inl less ↦ rw less (or_right (has_name e.name f) _ (insert_file-own e fs))
  | inr least ↦ elim (cases_Bool (f.name.number == e.name.number)) [
    | inl same ↦ rw (least, same) (or_left (has_name e.name f) _ same)
    | inr other ↦ rw (least, other) (or_left (has_name e.name e) _ (eq-eqb e.name.number e.name.number refl))
  ]
]

pub insert_files-keeps : (fs es : List FileEntry) (u : Id) → has_file fs u ≡ true → has_file (insert_files fs es) u ≡ true
insert_files-keeps fs [] u has = has
insert_files-keeps fs (e ∷ es) u has = insert_files-keeps (insert_file e fs) es u (insert_file-keeps e fs u has)
