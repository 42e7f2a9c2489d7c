-- The root that the code makes is the one that a finalization writes.
use Rattle.std.proofs.Common.{◌≡◌, ◌≢◌, ℕ, ◌-◌, Bool, true, false, ◌==◌, List, [], ◌∷◌, ◌++◌, length, map, replicate, Option, Some, None, option_map, refl, sym, ap, ◌∙◌, subst, inl, inr}
use Rattle.std.specs.Prelude.{if◌then◌else◌}
use Rattle.std.specs.Option.{option_or}
use Rattle.std.specs.List.{AllByRecursion, IsDistinct}
use Rattle.std.specs.Str.{bytes_eq}
use Rattle.std.proofs.lemmas.Bool.{cases_Bool, eqb-true, eq-eqb, false_from_ne_true}
use Rattle.std.proofs.lemmas.List.{map-append}
use Rattle.esr_names.specs.declared.index_ref.IndexRef.{IndexRef as CodeRef}
use Rattle.esr_names.specs.Indices.{AreRefs}
use Rattle.esr_meta.specs.Info.{Info}
use Rattle.esr_root.specs.Indices.{AreIndices}
use Rattle.esr_root.specs.Root.{Root}
use Rattle.esr_root.specs.Changes.{add_of}
use Rattle.esr_root.specs.declared.snaps.RootSnap.{RootSnap as CodeSnap}
use Rattle.esr_root.specs.Lists.{all_weaken}
use Rattle.esr_formats.specs.Refs.{ref_of_code}
use Rattle.esr_formats.specs.Infos.{info_of_code}
use Rattle.esr_formats.specs.Roots.{root_of, root_snap_of}
use Rattle.esr_core.specs.Tracked.{IsOneIndex}
use Rattle.esr_model.specs.Values.{Bytes, Has, IndexRef, RootSnap, RootIndex, RootData, ShardResult}
use Rattle.esr_model.specs.Places.{sorted_by}
use Rattle.esr_model.specs.Finalize.{merged, ref_of, with_ref, has_id, new_indices, finalized_indices, named_first, finalized_root}
use Rattle.esr_model.specs.Lists.{Has-map}
use Rattle.esr_newroot.specs.NewRoot.{MayFinalize}
use Rattle.esr_newroot.specs.Named.{index_named, ref_named, done_in, Becomes}
use Rattle.esr_newroot.specs.ByteTests.{differ}
use Rattle.esr_newroot.proofs.Choices.{chosen, passed, same_names, other_names}
use Rattle.esr_newroot.proofs.Named.{named_has, has_named, named-append, named-map, named-sorted}
use Rattle.esr_newroot.proofs.Rising.{AreApart, apart_rising, same_rising, rises-sorted}
use Rattle.esr_newroot.proofs.Merged.{merged-missing, merged-padded}
use Rattle.esr_newroot.proofs.Added.{added, rises_of}
use Rattle.esr_newroot.specs.RefLists.{one_name, names_distinct, ids_distinct}
use Rattle.esr_newroot.proofs.Refs.{at_ref, ref_has, ref_none, ref_apart, id_none, id_some}
use Rattle.esr_newroot.proofs.Growing.{olds, snap_is, grown_named}

-- ---- the indices that come in

id_there : (old : List RootIndex) (x : RootIndex) → Has old x → has_id old x.id ≡ true
id_there [] x h = absurd h
id_there (y ∷ old) x (inl e) = chosen true (has_id old x.id) (eq-eqb y.id x.id (ap (λ (z : RootIndex). z.id) e))
id_there (y ∷ old) x (inr h) = elim (cases_Bool (y.id == x.id)) [
  | inl same ↦ chosen true (has_id old x.id) same
  | inr other ↦ passed true (has_id old x.id) other ∙ id_there old x h
]

id_elsewhere : (old : List RootIndex) (id : ℕ) → ((x : RootIndex) → Has old x → x.id ≢ id) → has_id old id ≡ false
id_elsewhere [] id h = refl
id_elsewhere (y ∷ old) id h = passed true (has_id old id) (false_from_ne_true (y.id == id) (λ e. h y (inl refl) (eqb-true y.id id e))) ∙ id_elsewhere old id (λ x there. h x (inr there))

-- a new index of the snapshot
abbrev new_of : Info → List ShardResult → CodeRef → RootIndex
new_of info results q = record { name = q.name; id = q.id.number; snapshots = info.uuid.number ∷ []; generations = merged results q.id.number 0 [] q.shards }

-- what comes in under a name
abbrev new_in : Info → List ShardResult → List RootIndex → Option CodeRef → Option RootIndex
new_in info results old None = None
new_in info results old (Some q) = if has_id old q.id.number then None else Some (new_of info results q)

news : Info → List ShardResult → List RootIndex → List CodeRef → List RootIndex
news info results old qs = new_indices (info_of_code info) results old (map ref_of_code qs)

later_names : (q : CodeRef) (qs : List CodeRef) → AllByRecursion (λ r. one_name q r ≡ false) qs → AllByRecursion (λ r. bytes_eq r.name q.name ≡ false) qs
later_names q qs h = all_weaken (λ r. one_name q r ≡ false) (λ r. bytes_eq r.name q.name ≡ false) (λ r e. other_names r.name q.name (λ d. differ q.name r.name e (sym d))) qs h

new_named : (info : Info) (results : List ShardResult) (old : List RootIndex) (qs : List CodeRef) (name : Bytes) → IsDistinct one_name qs
    → index_named name (news info results old qs) ≡ new_in info results old (ref_named name qs)
unfolding IsDistinct news
new_named info results old [] name d = refl
new_named info results old (q ∷ qs) name d = by_case (bytes_eq q.name name) (has_id old q.id.number) refl refl (new_named info results old qs name d.1)
  where
    rest : List RootIndex
    rest = new_indices (info_of_code info) results old (map ref_of_code qs)

    none_later : bytes_eq q.name name ≡ true → ref_named name qs ≡ None
    none_later same = subst (λ (n : Bytes). ref_named n qs ≡ None) (same_names q.name name same) (ref_apart q.name qs (later_names q qs d.0))

    by_case : (b h : Bool) → bytes_eq q.name name ≡ b → has_id old q.id.number ≡ h → index_named name rest ≡ new_in info results old (ref_named name qs)
        → index_named name (if h then rest else new_of info results q ∷ rest) ≡ new_in info results old (if b then Some q else ref_named name qs)
    by_case true true same known step = step ∙ ap (new_in info results old) (none_later same) ∙ sym (chosen None (Some (new_of info results q)) known)
    by_case true false same new step = chosen (Some (new_of info results q)) (index_named name rest) same ∙ sym (passed None (Some (new_of info results q)) new)
    by_case false true other known step = step
    by_case false false other new step = passed (Some (new_of info results q)) (index_named name rest) other ∙ step

-- ---- no name stands twice

apart_new : (info : Info) (results : List ShardResult) (old : List RootIndex) (qs : List CodeRef) → IsDistinct one_name qs → AreApart (news info results old qs)
unfolding IsDistinct news
apart_new info results old [] d = tt
apart_new info results old (q ∷ qs) d = by_test (has_id old q.id.number) (apart_new info results old qs d.1)
  where
    rest : List RootIndex
    rest = new_indices (info_of_code info) results old (map ref_of_code qs)

    none : index_named q.name rest ≡ None
    none = new_named info results old qs q.name d.1 ∙ ap (new_in info results old) (ref_apart q.name qs (later_names q qs d.0))

    by_test : (h : Bool) → AreApart rest → AreApart (if h then rest else new_of info results q ∷ rest)
    by_test true apart = apart
    by_test false apart = (none, apart)

-- the list of some, changed, and others
apart_both : (f : RootIndex → RootIndex) → ((x : RootIndex) → (f x).name ≡ x.name) → (xs ys : List RootIndex) → AreApart xs → AreApart ys → ((x : RootIndex) → Has xs x → index_named x.name ys ≡ None)
    → AreApart (map f xs ++ ys)
apart_both f keeps [] ys hx hy new = hy
apart_both f keeps (x ∷ xs) ys hx hy new =
    let none : index_named x.name (map f xs ++ ys) ≡ None =
    named-append x.name (map f xs) ys ∙ ap (λ (o : Option RootIndex). option_or o (index_named x.name ys)) (named-map f keeps x.name xs ∙ ap (option_map f) hx.0) ∙ new x (inl refl) in
    (ap (λ (n : Bytes). index_named n (map f xs ++ ys)) (keeps x) ∙ none, apart_both f keeps xs ys hx.1 hy (λ y there. new y (inr there)))

-- ---- what each name finds

-- an old index, with the snapshot where that has it
abbrev with_snap : Info → List ShardResult → RootIndex → RootIndex
with_snap info results x = with_ref (info_of_code info) results x (ref_of (map ref_of_code info.indices) x.id)

keeps_name : (info : Info) (results : List ShardResult) (x : RootIndex) → (with_snap info results x).name ≡ x.name
keeps_name info results x = by_case (ref_of (map ref_of_code info.indices) x.id)
  where
    by_case : (o : Option IndexRef) → (with_ref (info_of_code info) results x o).name ≡ x.name
    by_case None = refl
    by_case (Some r) = refl

abbrev Agrees : Info → List RootIndex → Type 0
Agrees info old = (r : IndexRef) (x : RootIndex) → Has (map ref_of_code info.indices) r → Has old x → IsOneIndex r.name r.id x.name x.id

new_none : (info : Info) (results : List ShardResult) (old : List RootIndex) → AreRefs [] info.indices → Agrees info old → (x : RootIndex) → Has old x → index_named x.name (news info results old info.indices) ≡ None
new_none info results old refs agrees x there = new_named info results old info.indices x.name (names_distinct info.indices refs) ∙ by_case (ref_named x.name info.indices) refl
  where
    by_case : (o : Option CodeRef) → ref_named x.name info.indices ≡ o → new_in info results old o ≡ None
    by_case None e = refl
    by_case (Some q) e =
        let found = ref_has x.name info.indices q e in
        let one : q.id.number ≡ x.id = (agrees (ref_of_code q) x (Has-map ref_of_code info.indices q found.1) there).one_id found.0 in
        chosen None (Some (new_of info results q)) (subst (λ (id : ℕ). has_id old id ≡ true) (sym one) (id_there old x there))

found_same : (info : Info) (results : List ShardResult) (old : List RootIndex) → AreRefs [] info.indices → Agrees info old → (name : Bytes) (r : Option CodeRef) (y : Option RootIndex)
    → ref_named name info.indices ≡ r → index_named name old ≡ y
    → done_in results r (at_ref (added info.uuid) r y) ≡ option_or (option_map (with_snap info results) y) (new_in info results old r)
found_same info results old refs agrees name None None er ey = refl
found_same info results old refs agrees name None (Some x) er ey = ap Some (sym (ap (with_ref (info_of_code info) results x) none))
  where
    other : (q : CodeRef) → Has info.indices q → q.id.number ≢ x.id
    other q there e =
        let found = named_has name old x ey in
        ref_none name info.indices q er there ((agrees (ref_of_code q) x (Has-map ref_of_code info.indices q there) found.1).one_name e ∙ found.0)

    none : ref_of (map ref_of_code info.indices) x.id ≡ None
    none = id_none x.id info.indices other
found_same info results old refs agrees name (Some q) None er ey = ap with_numbers (merged-missing results q.id.number 0 q.shards) ∙ sym (passed None (Some (new_of info results q)) (id_elsewhere old q.id.number other))
  where
    with_numbers : List (Option ℕ) → Option RootIndex
    with_numbers gs = Some (record { name = q.name; id = q.id.number; snapshots = info.uuid.number ∷ []; generations = gs })

    other : (x : RootIndex) → Has old x → x.id ≢ q.id.number
    other x there e =
        let found = ref_has name info.indices q er in
        let same : x.name ≡ name = sym ((agrees (ref_of_code q) x (Has-map ref_of_code info.indices q found.1) there).one_name (sym e)) ∙ found.0 in
        has_named old x there (ap (λ (n : Bytes). index_named n old) same ∙ ey)
found_same info results old refs agrees name (Some q) (Some x) er ey =
    ap Some (ap with_numbers numbers ∙ sym (ap (with_ref (info_of_code info) results x) own))
  where
    with_numbers : List (Option ℕ) → RootIndex
    with_numbers gs = record { name = x.name; id = x.id; snapshots = x.snapshots ++ info.uuid.number ∷ []; generations = gs }

    one : q.id.number ≡ x.id
    one =
        let found = ref_has name info.indices q er in
        let there = named_has name old x ey in
        (agrees (ref_of_code q) x (Has-map ref_of_code info.indices q found.1) there.1).one_id (found.0 ∙ sym there.0)

    numbers : merged results q.id.number 0 (x.generations ++ replicate (q.shards - length x.generations) None) 0 ≡ merged results x.id 0 x.generations q.shards
    numbers = merged-padded results q.id.number 0 q.shards x.generations ∙ ap (λ (id : ℕ). merged results id 0 x.generations q.shards) one

    own : ref_of (map ref_of_code info.indices) x.id ≡ Some (ref_of_code q)
    own = subst (λ (id : ℕ). ref_of (map ref_of_code info.indices) id ≡ Some (ref_of_code q)) one (id_some info.indices q (ids_distinct info.indices refs) (ref_has name info.indices q er).1)

-- ---- the whole

pub is_finalized : (root grown new : Root) (info : Info) (results : List ShardResult) (snap : CodeSnap) → AreIndices root.indices → AreIndices new.indices → AreRefs [] info.indices
    → MayFinalize (root_of root) (info_of_code info) results → snap ≡ snap_is info → grown ≡ add_of root snap info.indices
    → Becomes (root_of grown) (root_of new) (λ name. done_in results (ref_named name info.indices) (index_named name (root_of grown).indices))
    → root_of new ≡ finalized_root (root_of root) (info_of_code info) results
unfolding finalized_root news
is_finalized root grown new info results snap are still refs may is grows b =
    ap (λ (ss : List RootSnap). pair ss (root_of new).indices) snaps ∙ ap (pair (finalized_root (root_of root) (info_of_code info) results).snapshots) indices
  where
    pair : List RootSnap → List RootIndex → RootData
    pair ss is = record { snapshots = ss; indices = is }

    snaps : (root_of new).snapshots ≡ (finalized_root (root_of root) (info_of_code info) results).snapshots
    snaps =
        b.snapshots ∙ ap (λ (r : Root). (root_of r).snapshots) (grows ∙ ap (λ (s : CodeSnap). add_of root s info.indices) is)
        ∙ map-append root_snap_of root.snapshots (snap_is info ∷ [])

    whole : List RootIndex
    whole = finalized_indices (root_of root) (info_of_code info) results

    old_apart : AreApart (olds root)
    old_apart = apart_rising (olds root) (rises_of root.indices are.rises)

    apart : AreApart whole
    apart =
        apart_both (with_snap info results) (keeps_name info results) (olds root) (news info results (olds root) info.indices) old_apart
        (apart_new info results (olds root) info.indices (names_distinct info.indices refs)) (new_none info results (olds root) refs may.indices)

    finds : (name : Bytes) → index_named name (root_of new).indices ≡ index_named name (sorted_by named_first whole)
    finds name =
        b.indices name
        ∙ ap (done_in results (ref_named name info.indices)) (grown_named root grown info snap are refs is grows name)
        ∙ found_same info results (olds root) refs may.indices name (ref_named name info.indices) (index_named name (olds root)) refl refl
        ∙ sym (named-sorted name whole ∙ named-append name (map (with_snap info results) (olds root)) (news info results (olds root) info.indices)
        ∙ ap (λ (o : Option RootIndex). option_or o (index_named name (news info results (olds root) info.indices))) (named-map (with_snap info results) (keeps_name info results) name (olds root))
        ∙ ap (option_or (option_map (with_snap info results) (index_named name (olds root)))) (new_named info results (olds root) info.indices name (names_distinct info.indices refs)))

    indices : (root_of new).indices ≡ sorted_by named_first whole
    indices = same_rising (root_of new).indices (sorted_by named_first whole) (rises_of new.indices still.rises) (rises-sorted whole apart) finds
