-- What reads as a root has in its indices listed snapshots alone: others are refused.
use Rattle.std.specs.Prelude.{◌≡◌, ℕ, Bool, true, false, ◌==◌, ◌||◌, List, [], ◌∷◌, ◌++◌, length, Some, option_map, Result, Ok, Err}
use Rattle.std.specs.Result.{result_ok}
use Rattle.std.specs.List.{list_all}
use Rattle.std.proofs.Common.{◌⊎◌, inl, inr, refl, sym, ◌∙◌, subst, cond, eqb-true, ⊎_elim}
use Rattle.std.proofs.lemmas.Bool.{cases_Bool, and_parts, or_cases}
use Rattle.esr_model.specs.Lists.{Has-append, Has-map, Has-mapped}
use Rattle.serde_json.specs.Data.{Data}
use Rattle.esr_names.specs.declared.ids.Id.{Id}
use Rattle.esr_json.specs.declared.key.Key.TheVariants as keys
use Rattle.esr_json.specs.declared.refusal.Reason.{Reason}
use Rattle.esr_json.specs.Access.{parsed, items_at, members_at}
use Rattle.esr_root.specs.Ids.{same_id, has_id, repeats}
use Rattle.esr_root.specs.Snaps.{lists}
use Rattle.esr_root.specs.Root.{Root}
use Rattle.esr_root.specs.Reading as reading
use Rattle.esr_root.specs.Reading.{snaps_from, index_of, checked, kept, indices_from, root_from}
use Rattle.esr_root.specs.declared.snaps.RootSnap.{RootSnap as CodeSnap}
use Rattle.esr_root.specs.declared.indices.RootIndex.{RootIndex as CodeIndex}
use Rattle.esr_root.specs.ReadRoots.{bind_ok, unless_ok}
use Rattle.esr_model.specs.Values.{Bytes, Has, RootIndex, RootData}
use Rattle.esr_formats.specs.Ids.{number_of}
use Rattle.esr_formats.specs.Roots.{root_snap_of, root_index_of, root_of, root_kind}
use Rattle.esr_formats.specs.Formats.{formats}
use Rattle.esr_law.specs.Reach.{IndexesListed, RefusesUnlisted}
use Rattle.esr_run.specs.Start.{Telling, formats_by}

-- ---- steps that were Ok

guard_ok : {A : Type 0} (b : Bool) (e : Reason) (r : Result A Reason) (y : A) → cond b (Err e) r ≡ Ok y → r ≡ Ok y
guard_ok true e r y h = absurd cc
guard_ok false e r y h = h

-- ---- lists

all_pass : (test : Id → Bool) (us : List Id) → list_all test us ≡ true → (u : Id) → Has us u → test u ≡ true
all_pass test [] h u none = absurd none
all_pass test (v ∷ us) h u (inl here) = subst (λ (w : Id). test w ≡ true) here (and_parts (test v) (list_all test us) h).0
all_pass test (v ∷ us) h u (inr later) = all_pass test us (and_parts (test v) (list_all test us) h).1 u later

-- ---- each snapshot of an index is listed

abbrev AreListed : List CodeSnap → CodeIndex → Type 0
AreListed snaps i = (u : Id) → Has i.snapshots u → lists snaps u ≡ true

abbrev EachListed : List CodeSnap → List CodeIndex → Type 0
EachListed snaps is = (i : CodeIndex) → Has is i → AreListed snaps i

checked_listed : (snaps : List CodeSnap) (ids : List Id) (i j : CodeIndex) → checked snaps ids i ≡ Ok j → (i ≡ j) × AreListed snaps i
checked_listed snaps ids i j h =
    let one = unless_ok (list_all (lists snaps) i.snapshots) _ i j (guard_ok (has_id i.id ids || repeats i.snapshots) _ _ j h) in
    (one.1, all_pass (lists snaps) i.snapshots one.0)

push_listed : (snaps : List CodeSnap) (is : List CodeIndex) (x : CodeIndex) → EachListed snaps is → AreListed snaps x → EachListed snaps (is ++ x ∷ [])
push_listed snaps is x each listed i has_i = ⊎_elim (λ before. each i before) (λ last. subst (AreListed snaps) last listed) (Has-append is x i has_i)

kept_listed : (snaps : List CodeSnap) (is : List CodeIndex) (x : CodeIndex) → EachListed snaps is → AreListed snaps x → EachListed snaps (kept is x)
kept_listed snaps is x each listed = elim (cases_Bool (length x.snapshots == 0)) [
  | inl none ↦ rw none each
  | inr some ↦ rw some (push_listed snaps is x each listed)
]

indices_listed : (snaps : List CodeSnap) (ids : List Id) (before : List CodeIndex) (es : List (List ℕ × Data)) (is : List CodeIndex) → EachListed snaps before → indices_from snaps ids before es ≡ Ok is → EachListed snaps is
unfolding indices_from
indices_listed snaps ids before [] is each read = let same : before ≡ is = cc in subst (EachListed snaps) same each
indices_listed snaps ids before (e ∷ es) is each read =
    let one = bind_ok (index_of e) _ is read in
    let two = bind_ok (checked snaps ids one.0) _ is one.2 in
    let listed = checked_listed snaps ids one.0 two.0 two.1 in
    indices_listed snaps (ids ++ two.0.id ∷ []) (kept before two.0) es is (kept_listed snaps before two.0 each (subst (AreListed snaps) listed.0 listed.1)) two.2

read_listed : (bytes : Bytes) (r : Root) → root_from bytes ≡ Ok r → EachListed r.snapshots r.indices
unfolding reading.root_of
read_listed bytes r h =
    let d = bind_ok (parsed bytes) _ r h in
    let items = bind_ok (items_at keys.Snapshots d.0) _ r d.2 in
    let members = bind_ok (members_at keys.Indices d.0) _ r items.2 in
    let snaps = bind_ok (snaps_from [] items.0) _ r members.2 in
    let indices = bind_ok (indices_from snaps.0 [] [] members.0) _ r snaps.2 in
    let made : Root = record { snapshots = snaps.0; indices = indices.0 } in
    let whole : made ≡ r = cc (indices.2) in
    subst (λ (q : Root). EachListed q.snapshots q.indices) whole (indices_listed snaps.0 [] [] members.0 indices.0 (λ i none. absurd none) indices.1)

-- ---- as the definitions say it

snap_listed : (snaps : List CodeSnap) (u : Id) → lists snaps u ≡ true → (s : CodeSnap) × Has snaps s × (s.uuid.number ≡ u.number)
snap_listed [] u h = absurd cc
snap_listed (s ∷ snaps) u h = elim (or_cases (same_id s.uuid u) (lists snaps u) h) [
  | inl here ↦ (s, inl refl, eqb-true s.uuid.number u.number here)
  | inr later ↦ let found = snap_listed snaps u later in (found.0, inr found.1, found.2)
]

indexes_listed : (root : Root) → EachListed root.snapshots root.indices → IndexesListed (root_of root)
indexes_listed root each x n has_x has_n =
    let i = Has-mapped root_index_of root.indices x has_x in
    let u = Has-mapped number_of i.0.snapshots n (subst (λ (y : RootIndex). Has y.snapshots n) (sym i.2) has_n) in
    let s = snap_listed root.snapshots u.0 (each i.0 i.1 u.0 u.1) in
    (root_snap_of s.0, Has-map root_snap_of root.snapshots s.0 s.1, s.2 ∙ u.2)

read_indexes : (read : Result Root Reason) (r : RootData) → ((root : Root) → read ≡ Ok root → EachListed root.snapshots root.indices) → option_map root_of (result_ok read) ≡ Some r → IndexesListed r
read_indexes (Err why) r each h = absurd cc
read_indexes (Ok root) r each h = let same : root_of root ≡ r = cc in subst IndexesListed same (indexes_listed root (each root refl))

root_listed : (bytes : Bytes) (r : RootData) → root_kind.read bytes ≡ Some r → IndexesListed r
unfolding root_kind
root_listed bytes r h = read_indexes (root_from bytes) r (read_listed bytes) h

pub refuses_unlisted : (files : Telling) → RefusesUnlisted (formats_by files)
unfolding formats
refuses_unlisted files bytes root read = root_listed bytes root read
