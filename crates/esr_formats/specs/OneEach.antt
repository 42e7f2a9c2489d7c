-- What reads as a root lists each index once: an id that stood before is refused.
use Rattle.std.specs.Prelude.{◌≡◌, ℕ, Bool, true, false, ◌==◌, ◌||◌, List, [], ◌∷◌, ◌++◌, map, length, Some, option_map, Result, Ok, Err}
use Rattle.std.specs.Result.{result_ok}
use Rattle.std.specs.List.{list_all}
use Rattle.std.proofs.Common.{◌⊎◌, inl, inr, refl, sym, ap, ◌∙◌, subst, cond, eq-eqb, ⊎_elim}
use Rattle.std.proofs.lemmas.Bool.{cases_Bool, true≢false, or_left, or_right}
use Rattle.std.proofs.lemmas.List.Folds.{list_any-append}
use Rattle.esr_model.specs.Lists.{Has-append, Has-mapped}
use Rattle.serde_json.specs.Data.{Data}
use Rattle.esr_names.specs.declared.ids.Id.{Id}
use Rattle.esr_json.specs.declared.key.Key.TheVariants as keys
use Rattle.esr_json.specs.declared.refusal.Reason.{Reason}
use Rattle.esr_json.specs.Steps.{◌>>=◌}
use Rattle.esr_json.specs.Access.{parsed, items_at, members_at}
use Rattle.esr_root.specs.Ids.{same_id, has_id, repeats}
use Rattle.esr_root.specs.Snaps.{lists}
use Rattle.esr_root.specs.Root.{Root}
use Rattle.esr_root.specs.Reading as reading
use Rattle.esr_root.specs.Reading.{snaps_from, index_of, checked, kept, indices_from, root_from}
use Rattle.esr_root.specs.declared.snaps.RootSnap.{RootSnap as CodeSnap}
use Rattle.esr_root.specs.declared.indices.RootIndex.{RootIndex as CodeIndex}
use Rattle.esr_model.specs.Values.{Bytes, Has, RootIndex, RootData, IsOneEach}
use Rattle.esr_formats.specs.Roots.{root_index_of, root_of, root_kind}

-- ---- steps that were Ok

bind_ok : {A B : Type 0} (r : Result A Reason) (f : A → Result B Reason) (y : B) → (r >>= f) ≡ Ok y → (x : A) × (r ≡ Ok x) × (f x ≡ Ok y)
bind_ok (Ok x) f y h = (x, refl, h)
bind_ok (Err e) f y h = absurd cc

guard_ok : {A : Type 0} (b : Bool) (e : Reason) (r : Result A Reason) (y : A) → cond b (Err e) r ≡ Ok y → (b ≡ false) × (r ≡ Ok y)
guard_ok true e r y h = absurd cc
guard_ok false e r y h = (refl, h)

unless_ok : {A : Type 0} (b : Bool) (e : Reason) (x y : A) → cond b (Ok x) (Err e) ≡ Ok y → x ≡ y
unless_ok true e x y h = cc
unless_ok false e x y h = absurd cc

neither : (x y : Bool) → (x || y) ≡ false → x ≡ false
neither true y h = absurd cc
neither false y h = refl

-- an index whose id is none of those before
checked_fresh : (snaps : List CodeSnap) (ids : List Id) (i j : CodeIndex) → checked snaps ids i ≡ Ok j → (i ≡ j) × (has_id i.id ids ≡ false)
checked_fresh snaps ids i j h =
    let single = guard_ok (has_id i.id ids || repeats i.snapshots) _ _ j h in
    (unless_ok (list_all (lists snaps) i.snapshots) _ i j single.1, neither (has_id i.id ids) (repeats i.snapshots) single.0)

-- ---- one index to each id

abbrev AreOnce : List CodeIndex → Type 0
AreOnce is = (i j : CodeIndex) → Has is i → Has is j → i.id ≡ j.id → i ≡ j

-- the ids of the indices are among these
abbrev AreSeen : List Id → List CodeIndex → Type 0
AreSeen ids is = (i : CodeIndex) → Has is i → has_id i.id ids ≡ true

seen_more : (ids : List Id) (u v : Id) → has_id u ids ≡ true → has_id u (ids ++ v ∷ []) ≡ true
seen_more ids u v h = list_any-append (λ w. same_id w u) ids (v ∷ []) ∙ or_left (has_id u ids) (has_id u (v ∷ [])) h

seen_last : (ids : List Id) (u : Id) → has_id u (ids ++ u ∷ []) ≡ true
seen_last ids u =
    list_any-append (λ w. same_id w u) ids (u ∷ []) ∙ or_right (has_id u ids) (has_id u (u ∷ [])) (or_left (same_id u u) false (eq-eqb u.number u.number refl))

once_push : (ids : List Id) (is : List CodeIndex) (x : CodeIndex) → AreSeen ids is → AreOnce is → has_id x.id ids ≡ false → AreOnce (is ++ x ∷ [])
once_push ids is x seen once fresh i j has_i has_j same =
    ⊎_elim
    (λ i_before. ⊎_elim (λ j_before. once i j i_before j_before same)
    (λ j_last. absurd (true≢false (sym (seen i i_before) ∙ ap (λ u. has_id u ids) (same ∙ sym (ap (λ (k : CodeIndex). k.id) j_last)) ∙ fresh)))
    (Has-append is x j has_j))
    (λ i_last. ⊎_elim (λ j_before. absurd (true≢false (sym (seen j j_before) ∙ ap (λ u. has_id u ids) (sym same ∙ sym (ap (λ (k : CodeIndex). k.id) i_last)) ∙ fresh)))
    (λ j_last. sym i_last ∙ j_last)
    (Has-append is x j has_j))
    (Has-append is x i has_i)

seen_push : (ids : List Id) (is : List CodeIndex) (x : CodeIndex) → AreSeen ids is → AreSeen (ids ++ x.id ∷ []) (is ++ x ∷ [])
seen_push ids is x seen i has_i =
    ⊎_elim (λ before. seen_more ids i.id x.id (seen i before)) (λ last. subst (λ (k : CodeIndex). has_id k.id (ids ++ x.id ∷ []) ≡ true) last (seen_last ids x.id)) (Has-append is x i has_i)

kept_once : (ids : List Id) (is : List CodeIndex) (x : CodeIndex) → AreSeen ids is → AreOnce is → has_id x.id ids ≡ false → AreSeen (ids ++ x.id ∷ []) (kept is x) × AreOnce (kept is x)
kept_once ids is x seen once fresh = elim (cases_Bool (length x.snapshots == 0)) [
  | inl none ↦ rw none ((λ i has_i. seen_more ids i.id x.id (seen i has_i)), once)
  | inr some ↦ rw some (seen_push ids is x seen, once_push ids is x seen once fresh)
]

indices_once : (snaps : List CodeSnap) (ids : List Id) (before : List CodeIndex) (es : List (List ℕ × Data)) (is : List CodeIndex)
    → AreSeen ids before → AreOnce before → indices_from snaps ids before es ≡ Ok is → AreOnce is
unfolding indices_from
indices_once snaps ids before [] is seen once read = let same : before ≡ is = cc in subst AreOnce same once
indices_once snaps ids before (e ∷ es) is seen once read =
    let one = bind_ok (index_of e) _ is read in
    let two = bind_ok (checked snaps ids one.0) _ is one.2 in
    let fresh = checked_fresh snaps ids one.0 two.0 two.1 in
    let next = kept_once ids before two.0 seen once (subst (λ (j : CodeIndex). has_id j.id ids ≡ false) fresh.0 fresh.1) in
    indices_once snaps (ids ++ two.0.id ∷ []) (kept before two.0) es is next.0 next.1 two.2

read_once : (bytes : Bytes) (r : Root) → root_from bytes ≡ Ok r → AreOnce r.indices
unfolding reading.root_of
read_once bytes r h =
    let d = bind_ok (parsed bytes) _ r h in
    let items = bind_ok (items_at keys.Snapshots d.0) _ r d.2 in
    let members = bind_ok (members_at keys.Indices d.0) _ r items.2 in
    let snaps = bind_ok (snaps_from [] items.0) _ r members.2 in
    let indices = bind_ok (indices_from snaps.0 [] [] members.0) _ r snaps.2 in
    let made : Root = record { snapshots = snaps.0; indices = indices.0 } in
    let whole : made ≡ r = cc (indices.2) in
    subst (λ (q : Root). AreOnce q.indices) whole (indices_once snaps.0 [] [] members.0 indices.0 (λ i none. absurd none) (λ i j none more same. absurd none) indices.1)

-- ---- as the definitions say it

one_each : (is : List CodeIndex) → AreOnce is → IsOneEach (map root_index_of is)
one_each is once x y has_x has_y same =
    let i = Has-mapped root_index_of is x has_x in
    let j = Has-mapped root_index_of is y has_y in
    let number : i.0.id.number ≡ j.0.id.number = ap (λ (z : RootIndex). z.id) i.2 ∙ same ∙ sym (ap (λ (z : RootIndex). z.id) j.2) in
    let id : i.0.id ≡ j.0.id = ap (λ (n : ℕ). let u : Id = record { number = n } in u) number in
    sym i.2 ∙ ap root_index_of (once i.0 j.0 i.1 j.1 id) ∙ j.2

read_one_each : (read : Result Root Reason) (r : RootData) → ((root : Root) → read ≡ Ok root → AreOnce root.indices) → option_map root_of (result_ok read) ≡ Some r → IsOneEach r.indices
read_one_each (Err why) r once h = absurd cc
read_one_each (Ok root) r once h = let same : root_of root ≡ r = cc in subst (λ (q : RootData). IsOneEach q.indices) same (one_each root.indices (once root refl))

-- what reads as a root lists each index once
pub root_one_each : (bytes : Bytes) (r : RootData) → root_kind.read bytes ≡ Some r → IsOneEach r.indices
unfolding root_kind
root_one_each bytes r h = read_one_each (root_from bytes) r (read_once bytes) h
