-- A clone has no more shards and indices than there are: those of the first root, and those of the snapshots that were asked.
use Rattle.std.proofs.Common.{◌≡◌, ◌⊎◌, ℕ, suc, ◌+◌, ◌*◌, ◌<◌, ◌≤◌, List, [], ◌∷◌, ◌++◌, append-nil, append_assoc, length, map, Option, Some, None, refl, sym, ap, ◌∙◌, subst, inl, inr, ⊎_elim, arith}
use Rattle.std.proofs.Math.Nat.{mul-le-mul_left, mul-add, add-mul}
use Rattle.std.proofs.lemmas.List.{length-append, length-map, map-append}
use Rattle.esr_model.specs.Lists.{Has-left, Has-right, Has-either, Has-mapped}
use Rattle.esr_model.specs.Values.{Bytes, Has, IndexRef, IsOneEach, Formats}
use Rattle.esr_model.specs.Shelf.{Shelved}
use Rattle.esr_model.specs.Places.{places}
use Rattle.esr_model.specs.Image.{Image, Generation}
use Rattle.esr_core.specs.World.{World, ShardWork}
use Rattle.esr_core.specs.Ids.{Law}
use Rattle.esr_core.specs.Restores.{AreOnce, AreApart}
use Rattle.esr_core.specs.Entry.{AskedIndex, CloneOf, Snapshot, Clone, DeleteSnapshots, Restore, Cleanup, Step, AskStep, Reply, Moment}
use Rattle.esr_core.specs.After.{ref_by_name, and_ref, named_refs, chosen_refs, known_id, next_by, refs_from, copied_shard, after}
use Rattle.esr_core.specs.Allowed as allowed
use Rattle.esr_core.specs.Allowed.{AcceptsClone, Allows}
use Rattle.esr_core.specs.History.{world_from, IsLegal, AllKnown, AreTold}
use Rattle.esr_core.specs.Laws.CloneOps.{by_name, named_is, chosen_among}
use Rattle.esr_core.specs.Laws.Histories.{legal_parts, told_parts}
use Rattle.esr_core.specs.Laws.RestoreMaps.{apart_one}
use Rattle.esr_bounds.specs.Keys.{IsUnheard, IsHeard}
use Rattle.esr_bounds.specs.Most.{most_of_final, most_of_drop}
use Rattle.esr_bounds.specs.Units.{shards_by, shards_in}
use Rattle.esr_bounds.specs.Work.{count_of_shards, most_of_copy, work_of_step, work_of, asks_by, asks_in}
use Rattle.esr_bounds.specs.Others.{generation_names}
use Rattle.esr_bounds.specs.Clones.{bare_step, bare_steps, indices_by, sum_of, clone_shards, clone_indices, clone_work, most_asked_shards, most_asked_work}
use Rattle.esr_bounds.specs.Laws.{StepLaws, MasterLaws}
use Rattle.esr_bounds.proofs.Few.{zero_le, few_once}
use Rattle.esr_bounds.proofs.Once.{looked_at}
use Rattle.esr_bounds.proofs.Items.{Item, item_of, asked_items, all_items}
use Rattle.esr_bounds.proofs.RootShards.{by_generation, item_place, places_of, name_place, first_places, placed_last}
use Rattle.esr_bounds.proofs.FewShards.{length_items}
use Rattle.esr_bounds.proofs.RestoredShards.{front_heard}
use Rattle.esr_bounds.proofs.ListedShards.{places_in, listed_generations, shards_few}
use Rattle.esr_bounds.proofs.RootIndices.{ref_id, asked_ids, all_ids, index_id, first_ids, indexed_last}

-- ---- the indices that a clone takes

apart_and : (all : List IndexRef) (name : Bytes) (names : List Bytes) → AreApart all → (Has names name → ⊥) → (o : Option IndexRef) → ref_by_name all name ≡ o
    → AreApart (named_refs all names) → AreApart (and_ref o (named_refs all names))
apart_and all name names apart once None is rest = rest
apart_and all name names apart once (Some r) is rest = (
  (λ q m same.
      let found = by_name all name r is in
      let h = named_is all names q m in
      once (subst (Has names) (ap (λ (x : IndexRef). x.name) (sym (apart_one all apart r q found.0 h.0 same)) ∙ found.1) h.1)),
  rest,
)

named_apart : (all : List IndexRef) (names : List Bytes) → AreApart all → AreOnce names → AreApart (named_refs all names)
named_apart all [] apart once = tt
named_apart all (name ∷ names) apart once = apart_and all name names apart once.0 (ref_by_name all name) refl (named_apart all names apart once.1)

chosen_apart : (all : List IndexRef) (names : List Bytes) → AreApart all → AreOnce names → AreApart (chosen_refs all names)
chosen_apart all [] apart once = apart
chosen_apart all (name ∷ names) apart once = named_apart all (name ∷ names) apart once

ids_once : (refs : List IndexRef) → AreApart refs → AreOnce (map ref_id refs)
ids_once [] h = tt
ids_once (r ∷ refs) h = ((λ had. let q = Has-mapped ref_id refs r.id had in h.0 q.0 q.1 (sym q.2)), ids_once refs h.1)

-- ---- a clone that takes was accepted

by_ask : (f : Formats) (size : ℕ) (w : World) (who : ℕ) (source name : Bytes) (names : List Bytes) (moment : ℕ) (taken : CloneOf) (reply : Reply) (image : Option Image)
    → Allows f size w who (AskStep (Clone source name names moment (Some taken))) reply image → (o : ℕ) × AcceptsClone f w source name names moment o taken image
by_ask f size w who source name names moment taken reply image (allowed.OpeningClone s n ns time o t im acc same) = (o, acc)
by_ask f size w who source name names moment taken reply image (allowed.AskCloneFails s n ns time t im acc same) = (w.next_op, acc)
by_ask f size w who source name names moment taken reply image (allowed.Ruled command refusal im (allowed.Cleaning c d x recorded untaken there clean) same) = absurd untaken

-- ---- what is asked is among what there was first and what snapshots ask for

module _ {A : Type 0} (f : Formats) (of : World → Step → List A) where
  abbrev pub all_of : World → List Moment → List A
  all_of w [] = []
  all_of w (m ∷ log) = of w m.entry.step ++ all_of (after f w m) log

  abbrev pub bare_of : World → List Moment → List A
  bare_of w [] = []
  bare_of w (m ∷ log) = of w (bare_step m.entry.step) ++ bare_of (after f w m) log

  all_append : (w : World) (front rest : List Moment) → all_of w (front ++ rest) ≡ all_of w front ++ all_of (world_from f w front) rest
  all_append w [] rest = refl
  all_append w (m ∷ front) rest =
      ap (λ (l : List A). of w m.entry.step ++ l) (all_append (after f w m) front rest) ∙ sym (append_assoc (of w m.entry.step) (all_of (after f w m) front) (all_of (world_from f (after f w m) front) rest))

  bare_append : (w : World) (front rest : List Moment) → bare_of w (front ++ rest) ≡ bare_of w front ++ bare_of (world_from f w front) rest
  bare_append w [] rest = refl
  bare_append w (m ∷ front) rest =
      ap (λ (l : List A). of w (bare_step m.entry.step) ++ l) (bare_append (after f w m) front rest)
      ∙ sym (append_assoc (of w (bare_step m.entry.step)) (bare_of (after f w m) front) (bare_of (world_from f (after f w m) front) rest))

  module _ (first : List A) (w : World) where
    abbrev pub Among : List Moment → Type 0
    Among front = (x : A) → Has (all_of w front) x → Has (first ++ bare_of w front) x

    -- all of these, too
    pub both_among : (front : List Moment) → Among front → (x : A) → Has (first ++ all_of w front) x → Has (first ++ bare_of w front) x
    both_among front among x had = ⊎_elim (λ (here : Has first x). Has-left first (bare_of w front) x here) (λ (asked : Has (all_of w front) x). among x asked) (Has-either first (all_of w front) x had)

    more_bare : (front : List Moment) (m : Moment) (x : A) → Has (first ++ bare_of w front) x → Has (first ++ bare_of w (front ++ m ∷ [])) x
    more_bare front m x had = ⊎_elim
        (λ (here : Has first x). Has-left first (bare_of w (front ++ m ∷ [])) x here)
        (λ (asked : Has (bare_of w front) x).
        Has-right first (bare_of w (front ++ m ∷ [])) x
        (subst (λ (l : List A). Has l x) (sym (bare_append w front (m ∷ []))) (Has-left (bare_of w front) (bare_of (world_from f w front) (m ∷ [])) x asked)))
        (Has-either first (bare_of w front) x had)

    new_bare : (front : List Moment) (m : Moment) (x : A) → Has (of (world_from f w front) (bare_step m.entry.step)) x → Has (first ++ bare_of w (front ++ m ∷ [])) x
    new_bare front m x had =
        Has-right first (bare_of w (front ++ m ∷ [])) x
        (subst (λ (l : List A). Has l x) (sym (bare_append w front (m ∷ [])))
        (Has-right (bare_of w front) (bare_of (world_from f w front) (m ∷ [])) x (Has-left (of (world_from f w front) (bare_step m.entry.step)) [] x had)))

    -- the step is as lines ask for it, or all of it was there
    abbrev pub IsOld : List Moment → Moment → Type 0
    IsOld front m = (m.entry.step ≡ bare_step m.entry.step) ⊎ ((x : A) → Has (of (world_from f w front) m.entry.step) x → Has (first ++ all_of w front) x)

    new_among : (front : List Moment) (m : Moment) → Among front → IsOld front m → (x : A) → Has (of (world_from f w front) m.entry.step) x → Has (first ++ bare_of w (front ++ m ∷ [])) x
    new_among front m among (inl bare) x had = new_bare front m x (subst (λ (s : Step). Has (of (world_from f w front) s) x) bare had)
    new_among front m among (inr was) x had = more_bare front m x (both_among front among x (was x had))

    pub among_on : (front : List Moment) (m : Moment) → Among front → IsOld front m → Among (front ++ m ∷ [])
    among_on front m among old x had = ⊎_elim
        (λ (before : Has (all_of w front) x). more_bare front m x (among x before))
        (λ (now : Has (of (world_from f w front) m.entry.step ++ []) x).
        new_among front m among old x (subst (λ (l : List A). Has l x) (append-nil (of (world_from f w front) m.entry.step)) now))
        (Has-either (all_of w front) (of (world_from f w front) m.entry.step ++ []) x (subst (λ (l : List A). Has l x) (all_append w front (m ∷ [])) had))

  -- it weighs as much as the steps
  pub length_bare : (weight : Step → ℕ) → ((w : World) (step : Step) → length (of w (bare_step step)) ≡ weight (bare_step step)) → (w : World) (log : List Moment) → length (bare_of w log) ≡ sum_of weight (bare_steps log)
  length_bare weight one w [] = refl
  length_bare weight one w (m ∷ log) =
      length-append (of w (bare_step m.entry.step)) (bare_of (after f w m) log) ∙ ap (λ (n : ℕ). n + length (bare_of (after f w m) log)) (one w m.entry.step)
      ∙ ap (λ (n : ℕ). weight (bare_step m.entry.step) + n) (length_bare weight one (after f w m) log)

-- ---- places and ids

abbrev asked_places : World → Step → List (ℕ × ℕ)
asked_places w step = map item_place (asked_items w step)

place_by : (q : IndexRef × ℕ) (s : ShardWork) (i : Item) (p : ℕ × ℕ) (o : ℕ) (source : Option ℕ) → copied_shard q ≡ s → item_of o source s ≡ i → item_place i ≡ p → (q.0.id, q.1) ≡ p
place_by q s i p o source copied item place = ap (λ (z : ShardWork). (z.ref.id, z.number)) copied ∙ ap item_place item ∙ place

taken_place : (o : ℕ) (source : Option ℕ) (refs : List IndexRef) (p : ℕ × ℕ) → Has (map item_place (map (item_of o source) (map copied_shard (places refs)))) p
    → (r : IndexRef) × (k : ℕ) × Has refs r × (k < r.shards) × ((r.id, k) ≡ p)
taken_place o source refs p had =
    let i = Has-mapped item_place (map (item_of o source) (map copied_shard (places refs))) p had in
    let s = Has-mapped (item_of o source) (map copied_shard (places refs)) i.0 i.1 in
    let q = Has-mapped copied_shard (places refs) s.0 s.1 in
    let there = places_in refs q.0 q.1 in
    (q.0.0, q.0.1, there.0, there.1, place_by q.0 s.0 i.0 p o source q.2 s.2 i.2)

same_places : (f : Formats) (w : World) (log : List Moment) → map item_place (all_items f w log) ≡ all_of f asked_places w log
same_places f w [] = refl
same_places f w (m ∷ log) =
    map-append item_place (asked_items w m.entry.step) (all_items f (after f w m) log) ∙ ap (λ (l : List (ℕ × ℕ)). asked_places w m.entry.step ++ l) (same_places f (after f w m) log)

same_ids : (f : Formats) (w : World) (log : List Moment) → all_ids f w log ≡ all_of f asked_ids w log
same_ids f w [] = refl
same_ids f w (m ∷ log) = ap (λ (l : List ℕ). asked_ids w m.entry.step ++ l) (same_ids f (after f w m) log)

length_asked_places : (w : World) (step : Step) → length (asked_places w (bare_step step)) ≡ shards_by (bare_step step)
length_asked_places w step = length-map (asked_items w (bare_step step)) item_place ∙ length_items w (bare_step step)

length_refs : (w : World) (next : ℕ) (indices : List AskedIndex) → length (refs_from w next indices) ≡ length indices
length_refs w next [] = refl
length_refs w next (a ∷ indices) = ap suc (length_refs w (next_by (known_id w a.name) next) indices)

length_asked_ids : (w : World) (step : Step) → length (asked_ids w (bare_step step)) ≡ indices_by (bare_step step)
length_asked_ids w (AskStep (Snapshot name indices moment)) = length-map (refs_from w (suc w.next_id) indices) ref_id ∙ length_refs w (suc w.next_id) indices
length_asked_ids w step = refl

-- ---- sums

sum_front : (weight : Step → ℕ) (front back : List Moment) → sum_of weight (bare_steps front) ≤ sum_of weight (bare_steps (front ++ back))
sum_front weight [] back = zero_le (sum_of weight (bare_steps back))
sum_front weight (m ∷ front) back = more (weight (bare_step m.entry.step)) (sum_of weight (bare_steps front)) (sum_of weight (bare_steps (front ++ back))) (sum_front weight front back)
  where
    more : (a b c : ℕ) → b ≤ c → a + b ≤ a + c
    more a b c p = let less : b ≤ c = p in omega (arith, less)

up_to : (a b c d e : ℕ) → a ≤ b → b ≡ c + d → d ≤ e → a ≤ c + e
up_to a b c d e p q r =
    let first : a ≤ b = p in
    let second : b ≡ c + d = q in
    let third : d ≤ e = r in
    omega (arith, first, second, third)

sum_more : (one rest bare more asks others most : ℕ) → one ≤ bare + asks * most → rest ≤ more + others * most → one + rest ≤ (bare + more) + (asks + others) * most
sum_more one rest bare more asks others most p q =
    subst (λ (n : ℕ). one + rest ≤ (bare + more) + n) (sym (add-mul asks others most)) (plain one rest bare more (asks * most) (others * most) p q)
  where
    plain : (a b c d x y : ℕ) → a ≤ c + x → b ≤ d + y → a + b ≤ (c + d) + (x + y)
    plain a b c d x y first second = let here : a ≤ c + x = first in let later : b ≤ d + y = second in omega (arith, here, later)

no_more : (n x : ℕ) → n ≤ n + x
no_more n x = omega arith

few_more : (n x : ℕ) → n ≤ x → n ≤ 0 + 1 * x
few_more n x p = let less : n ≤ x = p in omega (arith, less)

once_more : (n d x : ℕ) → n ≤ d + x → n ≤ (0 + d) + 1 * x
once_more n d x p = let less : n ≤ d + x = p in omega (arith, less)

-- the step of a clone makes no more than that of its line, and what its shards and finalizations may make
clone_few : (terms count most indices all : ℕ) → count ≤ most → indices ≤ all
    → count * most_of_copy + terms * (suc (most_of_final indices) + suc most_of_drop) ≤ (0 + terms * suc most_of_drop) + 1 * (most * most_of_copy + terms * suc (most_of_final all))
clone_few terms count most indices all few fewer =
    once_more (count * most_of_copy + terms * (suc (most_of_final indices) + suc most_of_drop)) (terms * suc most_of_drop) (most * most_of_copy + terms * suc (most_of_final all))
    (subst (λ (n : ℕ). count * most_of_copy + n ≤ terms * suc most_of_drop + (most * most_of_copy + terms * suc (most_of_final all))) (sym (mul-add terms (suc (most_of_final indices)) (suc most_of_drop)))
    (plain count most (terms * suc (most_of_final indices)) (terms * suc (most_of_final all)) (terms * suc most_of_drop) few (mul-le-mul_left terms (final_few indices all fewer))))
  where
    final_few : (a b : ℕ) → a ≤ b → suc (most_of_final a) ≤ suc (most_of_final b)
    final_few a b p = let less : a ≤ b = p in let is : suc (12 + 2 * (3 + a)) ≤ suc (12 + 2 * (3 + b)) = omega (arith, less) in is

    plain : (a b x y d : ℕ) → a ≤ b → x ≤ y → a * 21 + (x + d) ≤ d + (b * 21 + y)
    plain a b x y d p q = let less : a ≤ b = p in let also : x ≤ y = q in omega (arith, less, also)

module _ (f : Formats) (size : ℕ) (known : AllKnown f) (laws : StepLaws f size) (masters : MasterLaws f size) (w : World) (log : List Moment) (h : IsHeard f size w log) (tells : AreTold log)
    (lawful : (before rest : List Moment) → before ++ rest ≡ log → (now : List Shelved) × Law f (world_from f w before) now) (one_each : IsOneEach w.root.indices) where
  -- ---- the world at a step

  abbrev PlacesAmong : List Moment → Type 0
  PlacesAmong front = Among f asked_places (first_places w.root) w front

  abbrev IdsAmong : List Moment → Type 0
  IdsAmong front = Among f asked_ids (first_ids w.root) w front

  module _ (front back : List Moment) (m : Moment) (is : front ++ m ∷ back ≡ log) (source name : Bytes) (names : List Bytes) (moment : ℕ) (taken : CloneOf)
      (step : m.entry.step ≡ AskStep (Clone source name names moment (Some taken))) where
    abbrev now : World
    now = world_from f w front

    accepted : (o : ℕ) × AcceptsClone f now source name names moment o taken m.image
    accepted =
        let legal = (legal_parts f size front (m ∷ back) w (subst (IsLegal f size w) (sym is) h.legal)).1 in
        let heard : IsUnheard m.entry.reply → ⊥ = h.heard m (subst (λ (l : List Moment). Has l m) is (Has-right front (m ∷ back) m (inl refl))) in
        by_ask f size now m.entry.who source name names moment taken m.entry.reply m.image
        (subst (λ (s : Step). Allows f size now m.entry.who s m.entry.reply m.image) step (looked_at f size laws now m legal.0 heard).1)

    among_all : (r : IndexRef) → Has taken.indices r → Has accepted.1.all r
    among_all r had = chosen_among accepted.1.all names r (subst (λ (l : List IndexRef). Has l r) accepted.1.chosen_is had)

    apart : AreApart taken.indices
    apart = subst AreApart (sym accepted.1.chosen_is) (chosen_apart accepted.1.all names accepted.1.all_of.within.apart accepted.1.once)

    -- each of its shards has a generation in the root
    generation : (r : IndexRef) (k : ℕ) → Has taken.indices r → k < r.shards → (g : ℕ) × Generation now.root r.id k g
    generation r k had below =
        let image = (told_parts front (m ∷ back) (subst AreTold (sym is) tells)).1.0 in
        let law = lawful front (m ∷ back) is in
        let listed = accepted.1.may.copies.listed in
        listed_generations f now law.0 law.1 taken.source (listed.0, listed.1, listed.3) accepted.1.all m.image image.0 image.1 accepted.1.all_of r k (among_all r had) below

    place_was : (r : IndexRef) (k : ℕ) → Has taken.indices r → k < r.shards → Has (first_places w.root ++ all_of f asked_places w front) (r.id, k)
    place_was r k had below =
        let placed = placed_last f size laws masters known w front (front_heard f size w log h front (m ∷ back) is) (told_parts front (m ∷ back) (subst AreTold (sym is) tells)).0 one_each in
        let g = generation r k had below in
        subst (λ (l : List (ℕ × ℕ)). Has (first_places w.root ++ l) (r.id, k)) (same_places f w front)
        (by_generation (places_of (first_places w.root) (all_items f w front)) now.root placed.root r.id k g.0 g.1)

    id_was : (r : IndexRef) → Has taken.indices r → Has (first_ids w.root ++ all_of f asked_ids w front) r.id
    id_was r had =
        let indexed = indexed_last f size laws masters known w front (front_heard f size w log h front (m ∷ back) is) (told_parts front (m ∷ back) (subst AreTold (sym is) tells)).0 in
        let x = accepted.1.all_of.within.listed r (among_all r had) in
        subst (Has (first_ids w.root ++ all_of f asked_ids w front)) x.3 (subst (λ (l : List ℕ). Has (first_ids w.root ++ l) x.0.id) (same_ids f w front) (indexed.root x.0 x.1))

    places_were : (p : ℕ × ℕ) → Has (asked_places now m.entry.step) p → Has (first_places w.root ++ all_of f asked_places w front) p
    places_were p had =
        let r = taken_place now.next_op (Some taken.source) taken.indices p (subst (λ (s : Step). Has (asked_places now s) p) step had) in
        subst (Has (first_places w.root ++ all_of f asked_places w front)) r.4 (place_was r.0 r.1 r.2 r.3)

    ids_were : (n : ℕ) → Has (asked_ids now m.entry.step) n → Has (first_ids w.root ++ all_of f asked_ids w front) n
    ids_were n had =
        let r = Has-mapped ref_id taken.indices n (subst (λ (s : Step). Has (asked_ids now s) n) step had) in
        subst (Has (first_ids w.root ++ all_of f asked_ids w front)) r.2 (id_was r.0 r.1)

    -- how many it has
    shards_taken : PlacesAmong front → count_of_shards taken.indices ≤ clone_shards w (bare_steps log)
    shards_taken among =
        let few : count_of_shards taken.indices ≤ length (first_places w.root ++ bare_of f asked_places w front) =
        shards_few (first_places w.root ++ bare_of f asked_places w front) taken.indices apart
        (λ r k had below. both_among f asked_places (first_places w.root) w front among (r.id, k) (place_was r k had below)) in
        up_to (count_of_shards taken.indices) (length (first_places w.root ++ bare_of f asked_places w front)) (length (generation_names w.root.indices)) (sum_of shards_by (bare_steps front)) (sum_of shards_by (bare_steps log)) few
        (length-append (first_places w.root) (bare_of f asked_places w front) ∙ ap (λ (n : ℕ). n + length (bare_of f asked_places w front)) (length-map (generation_names w.root.indices) name_place)
        ∙ ap (λ (n : ℕ). length (generation_names w.root.indices) + n) (length_bare f asked_places shards_by length_asked_places w front))
        (subst (λ (l : List Moment). sum_of shards_by (bare_steps front) ≤ sum_of shards_by (bare_steps l)) is (sum_front shards_by front (m ∷ back)))

    indices_taken : IdsAmong front → length taken.indices ≤ clone_indices w (bare_steps log)
    indices_taken among =
        let few : length (map ref_id taken.indices) ≤ length (first_ids w.root ++ bare_of f asked_ids w front) =
        few_once (map ref_id taken.indices) (first_ids w.root ++ bare_of f asked_ids w front) (ids_once taken.indices apart)
        (λ n had.
        let r = Has-mapped ref_id taken.indices n had in
        both_among f asked_ids (first_ids w.root) w front among n (subst (Has (first_ids w.root ++ all_of f asked_ids w front)) r.2 (id_was r.0 r.1))) in
        up_to (length taken.indices) (length (first_ids w.root ++ bare_of f asked_ids w front)) (length w.root.indices) (sum_of indices_by (bare_steps front)) (sum_of indices_by (bare_steps log))
        (subst (λ (n : ℕ). n ≤ length (first_ids w.root ++ bare_of f asked_ids w front)) (length-map taken.indices ref_id) few)
        (length-append (first_ids w.root) (bare_of f asked_ids w front) ∙ ap (λ (n : ℕ). n + length (bare_of f asked_ids w front)) (length-map w.root.indices index_id)
        ∙ ap (λ (n : ℕ). length w.root.indices + n) (length_bare f asked_ids indices_by length_asked_ids w front))
        (subst (λ (l : List Moment). sum_of indices_by (bare_steps front) ≤ sum_of indices_by (bare_steps l)) is (sum_front indices_by front (m ∷ back)))

  -- ---- each step

  places_old : (front back : List Moment) (m : Moment) → front ++ m ∷ back ≡ log → (step : Step) → m.entry.step ≡ step → IsOld f asked_places (first_places w.root) w front m
  places_old front back m is (AskStep (Clone source name names moment (Some taken))) step = inr (places_were front back m is source name names moment taken step)
  places_old front back m is other step = inl (step ∙ ap bare_step (sym step))

  ids_old : (front back : List Moment) (m : Moment) → front ++ m ∷ back ≡ log → (step : Step) → m.entry.step ≡ step → IsOld f asked_ids (first_ids w.root) w front m
  ids_old front back m is (AskStep (Clone source name names moment (Some taken))) step = inr (ids_were front back m is source name names moment taken step)
  ids_old front back m is other step = inl (step ∙ ap bare_step (sym step))

  abbrev most : ℕ
  most = clone_shards w (bare_steps log)

  abbrev StepFew : Step → Type 0
  StepFew step = shards_by step ≤ shards_by (bare_step step) + asks_by step * most

  step_few : (front back : List Moment) (m : Moment) → front ++ m ∷ back ≡ log → PlacesAmong front → (step : Step) → m.entry.step ≡ step → StepFew step
  step_few front back m is among (AskStep (Clone source name names moment (Some taken))) step =
      few_more (count_of_shards taken.indices) most (shards_taken front back m is source name names moment taken step among)
  step_few front back m is among (AskStep (Snapshot name indices moment)) step = no_more (shards_by (AskStep (Snapshot name indices moment))) (1 * most)
  step_few front back m is among (AskStep other) step = no_more 0 (1 * most)
  step_few front back m is among other step = no_more 0 (0 * most)

  abbrev WorkFew : ℕ → Step → Type 0
  WorkFew terms step = work_of_step f size terms step ≤ work_of_step f size terms (bare_step step) + asks_by step * clone_work terms w (bare_steps log)

  work_few : (terms : ℕ) (front back : List Moment) (m : Moment) → front ++ m ∷ back ≡ log → PlacesAmong front → IdsAmong front → (step : Step) → m.entry.step ≡ step → WorkFew terms step
  work_few terms front back m is among ids (AskStep (Clone source name names moment (Some taken))) step =
      clone_few terms (count_of_shards taken.indices) most (length taken.indices) (clone_indices w (bare_steps log)) (shards_taken front back m is source name names moment taken step among)
      (indices_taken front back m is source name names moment taken step ids)
  work_few terms front back m is among ids (AskStep (Clone source name names moment None)) step = no_more (work_of_step f size terms (AskStep (Clone source name names moment None))) (1 * clone_work terms w (bare_steps log))
  work_few terms front back m is among ids (AskStep (Snapshot name indices moment)) step = no_more (work_of_step f size terms (AskStep (Snapshot name indices moment))) (1 * clone_work terms w (bare_steps log))
  work_few terms front back m is among ids (AskStep (DeleteSnapshots names)) step = no_more (work_of_step f size terms (AskStep (DeleteSnapshots names))) (1 * clone_work terms w (bare_steps log))
  work_few terms front back m is among ids (AskStep (Restore name place)) step = no_more (work_of_step f size terms (AskStep (Restore name place))) (1 * clone_work terms w (bare_steps log))
  work_few terms front back m is among ids (AskStep Cleanup) step = no_more (work_of_step f size terms (AskStep Cleanup)) (1 * clone_work terms w (bare_steps log))
  work_few terms front back m is among ids other step = no_more (work_of_step f size terms other) (0 * clone_work terms w (bare_steps log))

  -- ---- all of them

  abbrev ShardsFew : List Moment → Type 0
  ShardsFew rest = shards_in rest ≤ sum_of shards_by (bare_steps rest) + asks_in rest * most

  shards_from : (front rest : List Moment) → front ++ rest ≡ log → PlacesAmong front → ShardsFew rest
  shards_from front [] is among = no_more 0 (0 * most)
  shards_from front (m ∷ rest) is among =
      sum_more (shards_by m.entry.step) (shards_in rest) (shards_by (bare_step m.entry.step)) (sum_of shards_by (bare_steps rest)) (asks_by m.entry.step) (asks_in rest) most (step_few front rest m is among m.entry.step refl)
      (shards_from (front ++ m ∷ []) rest (append_assoc front (m ∷ []) rest ∙ is) (among_on f asked_places (first_places w.root) w front m among (places_old front rest m is m.entry.step refl)))

  abbrev AllWorkFew : ℕ → List Moment → Type 0
  AllWorkFew terms rest = work_of f size terms rest ≤ sum_of (work_of_step f size terms) (bare_steps rest) + asks_in rest * clone_work terms w (bare_steps log)

  work_from : (terms : ℕ) (front rest : List Moment) → front ++ rest ≡ log → PlacesAmong front → IdsAmong front → AllWorkFew terms rest
  work_from terms front [] is among ids = no_more 0 (0 * clone_work terms w (bare_steps log))
  work_from terms front (m ∷ rest) is among ids =
      sum_more (work_of_step f size terms m.entry.step) (work_of f size terms rest) (work_of_step f size terms (bare_step m.entry.step)) (sum_of (work_of_step f size terms) (bare_steps rest)) (asks_by m.entry.step) (asks_in rest)
      (clone_work terms w (bare_steps log)) (work_few terms front rest m is among ids m.entry.step refl)
      (work_from terms (front ++ m ∷ []) rest (append_assoc front (m ∷ []) rest ∙ is) (among_on f asked_places (first_places w.root) w front m among (places_old front rest m is m.entry.step refl))
      (among_on f asked_ids (first_ids w.root) w front m ids (ids_old front rest m is m.entry.step refl)))

  pub shards_asked : shards_in log ≤ most_asked_shards (asks_in log) w (bare_steps log)
  shards_asked = shards_from [] log refl (λ p had. absurd had)

  pub work_asked : (terms : ℕ) → work_of f size terms log ≤ most_asked_work f size terms (asks_in log) w (bare_steps log)
  work_asked terms = work_from terms [] log refl (λ p had. absurd had) (λ n had. absurd had)
