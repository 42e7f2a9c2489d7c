-- What is read keeps the rules of a root.
use Rattle.std.proofs.Common.{◌≡◌, ℕ, ◌+◌, ◌<◌, ◌≤◌, ◌^◌, ◌==◌, nat_lt, Bool, true, false, cond, ◌||◌, List, [], ◌∷◌, ◌++◌, map, length, String, Global, Option, Some, None, is_none, option_map, Result, Ok, Err, codes, ℤ, pos, negsuc, int_lt, unsigned_abs, refl, sym, ap, ◌∙◌, subst, arith, inl, inr}
use Rattle.std.specs.Prelude.{option_and_then}
use Rattle.serde_json.specs.Find.{get, as_number, as_integer}
use Rattle.std.specs.List.{list_any, list_all, AllByRecursion}
use Rattle.std.specs.List.Sorted.{IsStrictlySortedBy}
use Rattle.std.specs.Option.{ok_or}
use Rattle.std.specs.Str.{bytes_eq}
use Rattle.std.specs.Ordering.{nat_cmp}
use Rattle.std.specs.Cmp.Lexicographic.{slice_cmp}
use Rattle.std.specs.declared.cmp.Ordering.{Ordering}
use Rattle.std.specs.declared.cmp.Ordering.TheVariants.{Less, Greater}
use Rattle.std.proofs.lemmas.Bool.{cases_Bool, ltb-false, true≢false, or_parts}
use Rattle.std.proofs.lemmas.List.{length-append}
use Rattle.serde_json.specs.Data.{Data, null, boolean, number, string, array, object}
use Rattle.std.specs.String.{string_cmp}
use Rattle.std.specs.Map.{keys_of}
use Rattle.serde_json.specs.declared.value.Value.{Value}
use Rattle.esr_json.specs.declared.key.Key.TheVariants as keys
use Rattle.esr_names.specs.IdText.{read_id}
use Rattle.esr_names.specs.NameRule.{snap_name_fault, index_name_fault}
use Rattle.esr_names.specs.declared.ids.Id.{Id}
use Rattle.esr_names.specs.IdTextLaws.{read_id_fits}
use Rattle.esr_json.specs.declared.key.Key.{Key}
use Rattle.esr_json.specs.declared.refusal.Reason.{Reason}
use Rattle.esr_json.specs.declared.refusal.Reason.TheVariants.{WrongKind}
use Rattle.esr_json.specs.Named.{Rising}
use Rattle.esr_json.specs.InOrder.{IsInOrder-parsed, Rising-members_at}
use Rattle.esr_json.specs.Steps.{◌>>=◌}
use Rattle.esr_json.specs.Access.{entry_view, parsed, member_at, text_at, number_at, number_or, or_absent, items_at, items_or_none, members_at, text_item}
use Rattle.esr_root.specs.Ids.{same_id, has_id, repeats}
use Rattle.esr_root.specs.Generations.{AreGenerations, IsGeneration}
use Rattle.esr_root.specs.Indices.{IsIndex, AreIndices, IsListed, same_index, by_name}
use Rattle.esr_root.specs.Snaps.{IsSnap, AreSnaps, clashes, lists}
use Rattle.esr_root.specs.Root.{Root, IsRoot}
use Rattle.esr_root.specs.Reading.{name_of, id_of, state_of, snap_of, snaps_from, root_of, root_from, index_name_of, id_item, ids_from, generation_text, generation_of, generations_from, generations_of, index_of, checked, kept, indices_from}
use Rattle.esr_root.specs.declared.snaps.RootSnap.{RootSnap}
use Rattle.esr_root.specs.declared.indices.RootIndex.{RootIndex}
use Rattle.esr_root.specs.IdLaws.{has_id-later, distinct_from_repeats}
use Rattle.esr_root.specs.Lists.{all_push, all_weaken, any_from_none}
use Rattle.esr_root.specs.NameOrder.{flipped}
use Rattle.esr_root.specs.RootLists.{AreSnaps-none, AreSnaps-push, AreIndices-none, AreIndices-push}

-- ---- steps that were Ok

pub bind_ok : {A B : Type 0} (r : Result A Reason) (f : A → Result B Reason) (y : B) → (r >>= f) ≡ Ok y → (x : A) × (r ≡ Ok x) × (f x ≡ Ok y)
bind_ok (Ok x) f y h = (x, refl, h)
bind_ok (Err e) f y h = cc

pub guard_ok : {A : Type 0} (b : Bool) (e : Reason) (r : Result A Reason) (y : A) → cond b (Err e) r ≡ Ok y → (b ≡ false) × (r ≡ Ok y)
guard_ok true e r y h = cc
guard_ok false e r y h = (refl, h)

pub unless_ok : {A : Type 0} (b : Bool) (e : Reason) (x y : A) → cond b (Ok x) (Err e) ≡ Ok y → (b ≡ true) × (x ≡ y)
unless_ok true e x y h = (refl, cc)
unless_ok false e x y h = cc

none_from : {A : Type 0} (o : Option A) → is_none o ≡ true → o ≡ None
none_from None h = refl
none_from (Some x) h = cc

value_or : {A : Type 0} → A → Result A Reason → A
value_or x (Ok y) = y
value_or x (Err e) = x

ok_same : {A : Type 0} {x y : A} → let r : Result A Reason = Ok x in r ≡ Ok y → x ≡ y
unfolding value_or
ok_same {A} {x} {y} h = ap (value_or x) h

some_from : {A : Type 0} (o : Option A) (e : Reason) (x : A) → ok_or o e ≡ Ok x → o ≡ Some x
some_from None e x h = cc
some_from (Some y) e x h = cc

-- ---- the parts of an index

fits : (text : List ℕ) (e : Reason) (u : Id) → ok_or (read_id text) e ≡ Ok u → u.number < 2 ^ 128
fits text e u h = read_id_fits text u (some_from (read_id text) e u h)

id_fits : (key : Key) (d : Data) (u : Id) → id_of key d ≡ Ok u → u.number < 2 ^ 128
unfolding id_of
id_fits key d u h = let text = bind_ok (text_at key d) _ u h in fits text.0 _ u text.2

ids_fit : (before : List Id) (ds : List Data) (us : List Id) → AllByRecursion (λ u. u.number < 2 ^ 128) before → ids_from before ds ≡ Ok us → AllByRecursion (λ u. u.number < 2 ^ 128) us
unfolding ids_from id_item
ids_fit before [] us good h = subst (λ (xs : List Id). AllByRecursion (λ u. u.number < 2 ^ 128) xs) (ok_same h) good
ids_fit before (d ∷ ds) us good h =
    let one = bind_ok (id_item d) _ us h in
    let text = bind_ok (text_item keys.Snapshots d) _ one.0 one.1 in
    ids_fit (before ++ one.0 ∷ []) ds us (all_push (λ u. u.number < 2 ^ 128) before one.0 good (fits text.0 _ one.0 text.2)) one.2

generation_read : (o : Option Id) (e : Reason) (g : Option Id) → ((u : Id) → o ≡ Some u → u.number < 2 ^ 128) → ok_or (option_map Some o) e ≡ Ok g → IsGeneration g
generation_read None e g small h = cc
generation_read (Some u) e g small h = subst IsGeneration (ok_same h) (small u refl)

generation_text_fits : (s : List ℕ) (g : Option Id) → generation_text s ≡ Ok g → IsGeneration g
generation_text_fits s g h = elim (cases_Bool (bytes_eq s (codes "_new") || bytes_eq s (codes "_deleted"))) [
  | inl none ↦ let same = rw none at h in subst IsGeneration (ok_same same) tt
  | inr some ↦ let read = rw some at h in generation_read (read_id s) _ g (read_id_fits s) read
]

generation_fits : (d : Data) (g : Option Id) → generation_of d ≡ Ok g → IsGeneration g
generation_fits null g h = subst IsGeneration (ok_same h) tt
generation_fits (boolean b) g h = cc
generation_fits (number n) g h = cc
generation_fits (string s) g h = generation_text_fits s g h
generation_fits (array ds) g h = cc
generation_fits (object ms) g h = cc

generations_fit : (before : List (Option Id)) (ds : List Data) (gs : List (Option Id)) → AllByRecursion IsGeneration before → generations_from before ds ≡ Ok gs
    → AllByRecursion IsGeneration gs × (length gs ≡ length before + length ds)
unfolding generations_from
generations_fit before [] gs good h =
    let same : before ≡ gs = ok_same h in
    (subst (AllByRecursion IsGeneration) same good, omega (arith, ap length same))
generations_fit before (d ∷ ds) gs good h =
    let one = bind_ok (generation_of d) _ gs h in
    let rest = generations_fit (before ++ one.0 ∷ []) ds gs (all_push IsGeneration before one.0 good (generation_fits d one.0 one.1)) one.2 in
    (rest.0, omega (arith, rest.1, length-append before (one.0 ∷ [])))

pub generations_are : (ds : List Data) (gs : List (Option Id)) → length ds ≤ 1024 → generations_from [] ds ≡ Ok gs → AreGenerations gs
generations_are ds gs few h = let all = generations_fit [] ds gs tt h in record { few = omega (arith, all.1); each = all.0 }

pub generations_of_are : (d : Data) (gs : List (Option Id)) → generations_of d ≡ Ok gs → AreGenerations gs
unfolding generations_of
generations_of_are d gs h =
    let ds = bind_ok (items_or_none keys.ShardGenerations d) _ gs h in
    let few = guard_ok (nat_lt 1024 (length ds.0)) _ (generations_from [] ds.0) gs ds.2 in
    let short : length ds.0 ≤ 1024 = ltb-false 1024 (length ds.0) few.0 in
    generations_are ds.0 gs short few.1

-- ---- an index

pub record IsRead (e : List ℕ × Data) (i : RootIndex) : Type 0 where
  pub same_name : i.name ≡ e.0
  pub name : index_name_fault i.name ≡ None
  pub id : i.id.number < 2 ^ 128
  pub snapshots : AllByRecursion (λ u. u.number < 2 ^ 128) i.snapshots
  pub generations : AreGenerations i.generations

index_is_read : (e : List ℕ × Data) (i : RootIndex) → index_of e ≡ Ok i → IsRead e i
unfolding index_of
index_is_read e i h =
    let name = bind_ok (index_name_of e.0) _ i h in
    let tested = unless_ok (is_none (index_name_fault e.0)) _ e.0 name.0 name.1 in
    let id = bind_ok (id_of keys.Id e.1) _ i name.2 in
    let items = bind_ok (items_at keys.Snapshots e.1) _ i id.2 in
    let snapshots = bind_ok (ids_from [] items.0) _ i items.2 in
    let generations = bind_ok (generations_of e.1) _ i snapshots.2 in
    let whole : _ ≡ i = ok_same generations.2 in
    subst (IsRead e) whole (record {
      same_name = sym tested.1;
      name = rw (← tested.1) (none_from (index_name_fault e.0) tested.0);
      id = id_fits keys.Id e.1 id.0 id.1;
      snapshots = ids_fit [] items.0 snapshots.0 tt snapshots.1;
      generations = generations_of_are e.1 generations.0 generations.1;
    })

pub record IsChecked (snaps : List RootSnap) (ids : List Id) (i : RootIndex) : Type 0 where
  pub fresh : has_id i.id ids ≡ false
  pub once : repeats i.snapshots ≡ false
  pub listed : IsListed snaps i

index_is_checked : (snaps : List RootSnap) (ids : List Id) (i j : RootIndex) → checked snaps ids i ≡ Ok j → (i ≡ j) × IsChecked snaps ids i
index_is_checked snaps ids i j h =
    let single = guard_ok (has_id i.id ids || repeats i.snapshots) _ _ j h in
    let parts = or_parts (has_id i.id ids) (repeats i.snapshots) single.0 in
    let all = unless_ok (list_all (lists snaps) i.snapshots) _ i j single.1 in
    (all.1, record { fresh = parts.0; once = parts.1; listed = all.0 })

-- ---- the indices

-- the order of two members: of the bytes of their names
abbrev pub by_key : List ℕ × Data → List ℕ × Data → Ordering
by_key e f = slice_cmp nat_cmp e.0 f.0

-- the index has none of the ids that aren't in the list
abbrev HasOneOf : List Id → RootIndex → Type 0
HasOneOf ids i = (u : Id) → has_id u ids ≡ false → same_id i.id u ≡ false

-- the index's name is below those of the members
abbrev IsBelow : List (List ℕ × Data) → RootIndex → Type 0
IsBelow es i = AllByRecursion (λ e. slice_cmp nat_cmp i.name e.0 ≡ Less) es

-- the indices read so far, of which these ids are no longer free, before some members
record AreBefore (snaps : List RootSnap) (ids : List Id) (is : List RootIndex) (es : List (List ℕ × Data)) : Type 0 where
  indices : AreIndices is
  listed : AllByRecursion (IsListed snaps) is
  known : AllByRecursion (HasOneOf ids) is
  below : AllByRecursion (IsBelow es) is

more_ids : (ids : List Id) (u : Id) (i : RootIndex) → HasOneOf ids i → HasOneOf (ids ++ u ∷ []) i
more_ids ids u i h v none = h v (has_id-later v ids (u ∷ []) none).0

own_id : (ids : List Id) (i : RootIndex) → HasOneOf (ids ++ i.id ∷ []) i
own_id ids i v none = (or_parts (same_id i.id v) false (has_id-later v ids (i.id ∷ []) none).1).0

before_skip : (snaps : List RootSnap) (ids : List Id) (is : List RootIndex) (e : List ℕ × Data) (es : List (List ℕ × Data)) (u : Id)
    → AreBefore snaps ids is (e ∷ es) → AreBefore snaps (ids ++ u ∷ []) is es
before_skip snaps ids is e es u h = record {
  indices = h.indices;
  listed = h.listed;
  known = all_weaken (HasOneOf ids) (HasOneOf (ids ++ u ∷ [])) (more_ids ids u) is h.known;
  below = all_weaken (IsBelow (e ∷ es)) (IsBelow es) (λ i below. below.1) is h.below;
}

before_push : (snaps : List RootSnap) (ids : List Id) (is : List RootIndex) (e : List ℕ × Data) (es : List (List ℕ × Data)) (i : RootIndex)
    → AreBefore snaps ids is (e ∷ es) → AllByRecursion (λ f. by_key e f ≡ Less) es → IsRead e i → IsChecked snaps ids i → (length i.snapshots == 0) ≡ false
    → AreBefore snaps (ids ++ i.id ∷ []) (is ++ i ∷ []) es
before_push snaps ids is e es i h rises read checks some =
    let skipped = before_skip snaps ids is e es i.id h in
    let one : IsIndex i = record {
      name = read.name;
      id = read.id;
      generations = read.generations;
      snapshots = record { each = read.snapshots; some = some; distinct = distinct_from_repeats i.snapshots checks.once };
    } in
    let fresh : list_any (λ j. same_index j i) is ≡ false =
    any_from_none (λ j. same_index j i) is (all_weaken (HasOneOf ids) (λ j. same_index j i ≡ false) (λ j own. own i.id checks.fresh) is h.known) in
    let above : AllByRecursion (λ j. by_name j i ≡ Less) is =
    all_weaken (IsBelow (e ∷ es)) (λ j. by_name j i ≡ Less) (λ j below. rw read.same_name below.0) is h.below in
    record {
      indices = AreIndices-push is i h.indices one fresh above;
      listed = all_push (IsListed snaps) is i h.listed checks.listed;
      known = all_push (HasOneOf (ids ++ i.id ∷ [])) is i skipped.known (own_id ids i);
      below = all_push (IsBelow es) is i skipped.below (subst (λ (name : List ℕ). AllByRecursion (λ f. slice_cmp nat_cmp name f.0 ≡ Less) es) (sym read.same_name) rises);
    }

after : (snaps : List RootSnap) (ids : List Id) (is : List RootIndex) (e : List ℕ × Data) (es : List (List ℕ × Data)) (i : RootIndex)
    → AreBefore snaps ids is (e ∷ es) → AllByRecursion (λ f. by_key e f ≡ Less) es → IsRead e i → IsChecked snaps ids i
    → AreBefore snaps (ids ++ i.id ∷ []) (kept is i) es
after snaps ids is e es i h rises read checks = elim (cases_Bool (length i.snapshots == 0)) [
  | inl none ↦ rw none (before_skip snaps ids is e es i.id h)
  | inr some ↦ rw some (before_push snaps ids is e es i h rises read checks some)
]

are_before : (snaps : List RootSnap) (ids : List Id) (before : List RootIndex) (es : List (List ℕ × Data)) (is : List RootIndex)
    → AreBefore snaps ids before es → IsStrictlySortedBy by_key es → indices_from snaps ids before es ≡ Ok is → AreIndices is × AllByRecursion (IsListed snaps) is
unfolding indices_from IsStrictlySortedBy
are_before snaps ids before [] is h rises read =
    subst (λ (js : List RootIndex). AreIndices js × AllByRecursion (IsListed snaps) js) (ok_same read) (h.indices, h.listed)
are_before snaps ids before (e ∷ es) is h rises read =
    let one = bind_ok (index_of e) _ is read in
    let two = bind_ok (checked snaps ids one.0) _ is one.2 in
    let checks = index_is_checked snaps ids one.0 two.0 two.1 in
    let good = index_is_read e one.0 one.1 in
    let next = after snaps ids before e es one.0 h rises.0 good checks.1 in
    are_before snaps (ids ++ two.0.id ∷ []) (kept before two.0) es is
    (subst (λ (j : RootIndex). AreBefore snaps (ids ++ j.id ∷ []) (kept before j) es) checks.0 next) rises.1 two.2

-- the members of an object stand in byte order of their names
entries_rise : (es : List (String Global × Value)) → IsStrictlySortedBy (string_cmp {Z = Global}) (keys_of es) → IsStrictlySortedBy by_key (map entry_view es)
unfolding IsStrictlySortedBy
entries_rise [] h = tt
entries_rise (e ∷ es) h = (later e es h.0, entries_rise es h.1)
  where
    later : (e : String Global × Value) (es : List (String Global × Value)) → AllByRecursion (λ k. string_cmp {Z = Global} e.0 k ≡ Less) (keys_of es) → AllByRecursion (λ f. by_key (entry_view e) f ≡ Less) (map entry_view es)
    later e [] h = tt
    later e (f ∷ es) h = (h.0, later e es h.1)

-- the indices that members with rising names are read as
indices_are : (snaps : List RootSnap) (es : List (List ℕ × Data)) (is : List RootIndex)
    → IsStrictlySortedBy by_key es → indices_from snaps [] [] es ≡ Ok is → AreIndices is × AllByRecursion (IsListed snaps) is
indices_are snaps es is rises read = are_before snaps [] [] es is (record { indices = AreIndices-none; listed = tt; known = tt; below = tt }) rises read

-- the indices, once all members of an object are read
pub all_read : (snaps : List RootSnap) (es : List (String Global × Value)) (ids : List Id) (is : List RootIndex) (rest : List (String Global × Value))
    → IsStrictlySortedBy (string_cmp {Z = Global}) (keys_of es) → indices_from snaps [] [] (map entry_view es) ≡ indices_from snaps ids is (map entry_view rest) → rest ≡ []
    → AreIndices is × AllByRecursion (IsListed snaps) is
unfolding indices_from
all_read snaps es ids is rest rises same none =
    indices_are snaps (map entry_view es) is (entries_rise es rises) (same ∙ ap (λ (more : List (String Global × Value)). indices_from snaps ids is (map entry_view more)) none)

-- ---- the snapshots

named : (d : Data) (name : List ℕ) → name_of d ≡ Ok name → snap_name_fault name ≡ None
unfolding name_of
named d name h =
    let text = bind_ok (text_at keys.Name d) _ name h in
    let tested = unless_ok (is_none (snap_name_fault text.0)) _ text.0 name text.2 in
    rw (← tested.1) (none_from (snap_name_fault text.0) tested.0)

within : (z : ℤ) → int_lt z (pos 0) ≡ false → int_lt (pos 255) z ≡ false → unsigned_abs z < 256
within (pos n) low high = let most : n ≤ 255 = ltb-false 255 n high in omega arith
within (negsuc n) low high = absurd (true≢false low)

number_within : (d : Data) (z : ℤ) → number_at keys.State (pos 0) (pos 255) d ≡ Ok z → unsigned_abs z < 256
unfolding number_at
number_within d z h =
    let e = bind_ok (member_at keys.State d) _ z h in
    let n = bind_ok (ok_or (option_and_then as_integer (as_number e.0)) (WrongKind keys.State)) _ z e.2 in
    let low = guard_ok (int_lt n.0 (pos 0)) _ _ z n.2 in
    let high = guard_ok (int_lt (pos 255) n.0) _ _ z low.1 in
    let same : n.0 ≡ z = ok_same high.1 in
    subst (λ (y : ℤ). unsigned_abs y < 256) same (within n.0 low.0 high.0)

absent_within : (e : Option Data) (found : Result ℤ Reason) (z : ℤ) → ((y : ℤ) → found ≡ Ok y → unsigned_abs y < 256) → or_absent (pos 1) e found ≡ Ok z → unsigned_abs z < 256
absent_within None found z h is = subst (λ (y : ℤ). unsigned_abs y < 256) (ok_same is) (omega arith)
absent_within (Some e) found z h is = h z is

stated : (d : Data) (n : ℕ) → state_of d ≡ Ok n → n < 256
unfolding state_of number_or
stated d n h =
    let z = bind_ok (number_or keys.State (pos 0) (pos 255) (pos 1) d) _ n h in
    let same : unsigned_abs z.0 ≡ n = ok_same z.2 in
    subst (λ (k : ℕ). k < 256) same (absent_within (get (codes "state") d) (number_at keys.State (pos 0) (pos 255) d) z.0 (number_within d) z.1)

snap_is : (d : Data) (s : RootSnap) → snap_of d ≡ Ok s → IsSnap s
unfolding snap_of
snap_is d s h =
    let name = bind_ok (name_of d) _ s h in
    let uuid = bind_ok (id_of keys.Uuid d) _ s name.2 in
    let state = bind_ok (state_of d) _ s uuid.2 in
    let whole : _ ≡ s = ok_same state.2 in
    subst IsSnap whole (record { name = named d name.0 name.1; uuid = id_fits keys.Uuid d uuid.0 uuid.1; state = stated d state.0 state.1 })

snaps_are : (before : List RootSnap) (ds : List Data) (ss : List RootSnap) → AreSnaps before → snaps_from before ds ≡ Ok ss → AreSnaps ss
unfolding snaps_from
snaps_are before [] ss good h = subst AreSnaps (ok_same h) good
snaps_are before (d ∷ ds) ss good h =
    let one = bind_ok (snap_of d) _ ss h in
    let fresh = guard_ok (list_any (λ old. clashes old one.0) before) _ _ ss one.2 in
    snaps_are (before ++ one.0 ∷ []) ds ss (AreSnaps-push before one.0 good (snap_is d one.0 one.1) fresh.0) fresh.1

-- ---- the root

rises_by_key : (es : List (List ℕ × Data)) → Rising (map (λ e. e.0) es) → IsStrictlySortedBy by_key es
unfolding IsStrictlySortedBy
rises_by_key [] h = tt
rises_by_key (e ∷ es) h = (later e es h.0, rises_by_key es h.1)
  where
    later : (e : List ℕ × Data) (es : List (List ℕ × Data)) → AllByRecursion (λ name. slice_cmp nat_cmp name e.0 ≡ Greater) (map (λ f. f.0) es) → AllByRecursion (λ f. by_key e f ≡ Less) es
    later e [] h = tt
    later e (f ∷ es) h = (flipped f.0 e.0 Greater h.0, later e es h.1)

-- what is read as a root keeps the rules of one
pub root_is : (bytes : List ℕ) (r : Root) → root_from bytes ≡ Ok r → IsRoot r
unfolding root_of
root_is bytes r h =
    let d = bind_ok (parsed bytes) _ r h in
    let items = bind_ok (items_at keys.Snapshots d.0) _ r d.2 in
    let members = bind_ok (members_at keys.Indices d.0) _ r items.2 in
    let snapshots = bind_ok (snaps_from [] items.0) _ r members.2 in
    let indices = bind_ok (indices_from snapshots.0 [] [] members.0) _ r snapshots.2 in
    let whole : _ ≡ r = ok_same indices.2 in
    let rises = rises_by_key members.0 (Rising-members_at keys.Indices d.0 members.0 (IsInOrder-parsed bytes d.0 d.1) members.1) in
    let good = indices_are snapshots.0 members.0 indices.0 rises indices.1 in
    subst IsRoot whole (record { snapshots = snaps_are [] items.0 snapshots.0 AreSnaps-none snapshots.1; indices = good.0; listed = good.1 })
