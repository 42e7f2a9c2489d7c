-- What a removal does to the past.
use Rattle.std.proofs.Common.{◌≡◌, ◌⊎◌, inl, inr, ℕ, suc, ◌+◌, ◌-◌, ◌^◌, ◌<◌, ◌≤◌, Bool, true, false, ◌&&◌, if◌then◌else◌, List, [], ◌∷◌, ◌++◌, Option, Some, None, map, take, drop, get_or, length, take-append-drop, nat_le, nat_lt, ◌==◌, refl, sym, ◌∙◌, ap, subst, arith, min}
use Rattle.std.proofs.lemmas.Bool.Decides.{nat_tests}
use Rattle.std.proofs.lemmas.List.{length-take, take_all}
use Rattle.std.specs.Prelude.{All, Contains}
use Rattle.std.specs.List.{list_all}
use Rattle.std.specs.Option.{is_none}
use Rattle.std.specs.FinMap.{empty, insert, remove}
use Rattle.std.proofs.lemmas.Bool.{and_parts, cases_Bool}
use Rattle.esr_depot.specs.Image.{Blobs, Image, without_names, without, drop_known}
use Rattle.esr_depot.specs.Look.{now}
use Rattle.esr_depot.specs.Calls.{up, Passed}
use Rattle.esr_depot.specs.Changes.{Removed, RemoveMay}
use Rattle.esr_memdepot.specs.MemDepot.{look_of}
use Rattle.esr_memdepot.specs.Past.{is_named, is_there, held, marked, last_text, image_now, gone_later, left_blob, left_text, image_left, gone_by, is_dated, is_text_dated, all_dated, mark_each}
use Rattle.esr_memdepot.proofs.Names.{remove-empty, remove-put_same, remove-put_other, among, of_first}
use Rattle.esr_memdepot.proofs.Dates.{Earlier, text_same, left_text_as_now, blobs_later, texts_later, gone_as_now, came_before}
use Rattle.esr_memdepot.proofs.Passing.{changes, passes}
use Rattle.esr_memdepot.specs.declared.blob.Gone.{Gone}
use Rattle.esr_memdepot.specs.declared.blob.KeptBlob.{KeptBlob}
use Rattle.esr_memdepot.specs.declared.text.KeptText.{KeptText}
use Rattle.esr_memdepot.specs.declared.plan.Leaves.{Leaves}
use Rattle.esr_memdepot.specs.declared.plan.Leaves.TheVariants.{Old, New, First}

-- ---- one blob

module _ (n : List ℕ) (g : Gone) (k : KeptBlob) where
  marked_yes : is_there k ≡ true → is_named n k ≡ true → marked n g k ≡ record k { gone = Some g }
  marked_yes a b = rw (a, b) refl

  marked_no : is_there k ≡ false → marked n g k ≡ k
  marked_no a = rw a refl

  marked_other : is_named n k ≡ false → marked n g k ≡ k
  marked_other b = elim (is_there k) as (λ t. (if t && is_named n k then record k { gone = Some g } else k) ≡ k) [ true ↦ rw b refl | false ↦ refl ]

-- a fact of the blob as it was and as it is when it is gone
marked_has : (P : KeptBlob → Type 0) (n : List ℕ) (g : Gone) (k : KeptBlob) → P k → (is_there k ≡ true → P (record k { gone = Some g })) → P (marked n g k)
marked_has P n g k old new = elim (cases_Bool (is_there k)) [
  | inl a ↦ elim (cases_Bool (is_named n k)) [
    | inl b ↦ subst P (sym (marked_yes n g k a b)) (new a)
    | inr b ↦ subst P (sym (marked_other n g k b)) old
  ]
  | inr a ↦ subst P (sym (marked_no n g k a)) old
]

-- ---- now

-- one blob of a map from which the name is gone
step_now : (n : List ℕ) (g : Gone) (k : KeptBlob) (m : Blobs)
    → (if is_there (marked n g k) then insert (remove m n) (marked n g k).name (marked n g k).bytes else remove m n)
    ≡ remove (if is_there k then insert m k.name k.bytes else m) n
step_now n g k m = elim (cases_Bool (is_there k)) [
  | inl a ↦ elim (cases_Bool (is_named n k)) [
    | inl b ↦ rw (marked_yes n g k a b, a) (sym (remove-put_same m n k.name k.bytes b))
    | inr b ↦ rw (marked_other n g k b, a) (sym (remove-put_other m n k.name k.bytes b))
  ]
  | inr a ↦ rw (marked_no n g k a, a) refl
]

held-marked : (n : List ℕ) (g : Gone) (ks : List KeptBlob) (m : Blobs) → held is_there (map (marked n g) ks) (remove m n) ≡ remove (held is_there ks m) n
held-marked n g [] m = refl
held-marked n g (k ∷ ks) m = ap (held is_there (map (marked n g) ks)) (step_now n g k m) ∙ held-marked n g ks _

marked_now : (n : List ℕ) (g : Gone) (ks : List KeptBlob) → held is_there (map (marked n g) ks) empty ≡ remove (held is_there ks empty) n
marked_now n g ks = ap (held is_there (map (marked n g) ks)) (sym (remove-empty n)) ∙ held-marked n g ks empty

each_now : (names : List (List ℕ)) (at place : ℕ) (ks : List KeptBlob) → held is_there (mark_each names at place ks) empty ≡ without_names names (held is_there ks empty)
each_now [] at place ks = refl
each_now (n ∷ names) at place ks = each_now names at (place + 1) _ ∙ ap (without_names names) (marked_now n (record { at = at; place = place }) ks)

-- ---- tests that don't see the mark

same_put : (p : KeptBlob → Bool) (n : List ℕ) (g : Gone) (k : KeptBlob) (m : Blobs) → p (marked n g k) ≡ p k
    → (if p (marked n g k) then insert m (marked n g k).name (marked n g k).bytes else m) ≡ (if p k then insert m k.name k.bytes else m)
same_put p n g k m is = rw is (marked_has (λ x. (if p k then insert m x.name x.bytes else m) ≡ (if p k then insert m k.name k.bytes else m)) n g k refl (λ _. refl))

unseen : (p : KeptBlob → Bool) (n : List ℕ) (g : Gone) (ks : List KeptBlob) (m : Blobs) → ((k : KeptBlob) → p (marked n g k) ≡ p k) → held p (map (marked n g) ks) m ≡ held p ks m
unseen p n g [] m is = refl
unseen p n g (k ∷ ks) m is = ap (held p (map (marked n g) ks)) (same_put p n g k m (is k)) ∙ unseen p n g ks _ is

each_unseen : (p : KeptBlob → Bool) (names : List (List ℕ)) (at place : ℕ) (ks : List KeptBlob) → ((n : List ℕ) (i : ℕ) (k : KeptBlob) → place ≤ i → p (marked n (record { at = at; place = i }) k) ≡ p k)
    → held p (mark_each names at place ks) empty ≡ held p ks empty
each_unseen p [] at place ks is = refl
each_unseen p (n ∷ names) at place ks is =
    each_unseen p names at (place + 1) _ (λ m i k le. is m i k (omega arith)) ∙ unseen p n (record { at = at; place = place }) ks empty (λ k. is n place k (omega arith))

is_missing : (o : Option Gone) → is_none o ≡ true → o ≡ None
is_missing None is = refl
is_missing (Some g) is = absurd cc

-- a mark of which a test says what it says of none
blind : (t : ℕ) (how : Leaves) (n : List ℕ) (g : Gone) (k : KeptBlob) → gone_later t how (Some g) ≡ true → left_blob t how (marked n g k) ≡ left_blob t how k
blind t Old n g k is = marked_has (λ x. left_blob t Old x ≡ left_blob t Old k) n g k refl (λ a. rw (is_missing k.gone a, is) refl)
blind t New n g k is = marked_has (λ x. left_blob t New x ≡ left_blob t New k) n g k refl (λ a. rw (is_missing k.gone a, is) refl)
blind t (First m) n g k is = marked_has (λ x. left_blob t (First m) x ≡ left_blob t (First m) k) n g k refl (λ a. rw (is_missing k.gone a, is) refl)

-- a mark of a later call
later : (r t i : ℕ) (how : Leaves) → Earlier r how t → gone_later r how (Some (record { at = t + 1; place = i })) ≡ true
later r t i (First m) lt = let b : nat_lt (r + 1) (t + 1) ≡ true = grind (arith, nat_tests) in rw b refl
later r t i how le = grind (arith, nat_tests)

-- ---- tests that see it

-- a blob of before the call, of which a crash in it leaves what is there
record Seen (t : ℕ) (how : Leaves) (k : KeptBlob) : Type 0 where
  came : nat_le k.came t ≡ true
  same : gone_later t how k.gone ≡ is_none k.gone

AllSeen : ℕ → Leaves → List KeptBlob → Type 0
AllSeen t how [] = Unit {0}
AllSeen t how (k ∷ ks) = Seen t how k × AllSeen t how ks

left_seen : (t : ℕ) (how : Leaves) (k : KeptBlob) → Seen t how k → left_blob t how k ≡ is_there k
left_seen t Old k s = rw s.came s.same
left_seen t New k s = rw (came_before k.came t s.came, s.came) s.same
left_seen t (First m) k s = rw s.came s.same

held_seen : (t : ℕ) (how : Leaves) (ks : List KeptBlob) (m : Blobs) → AllSeen t how ks → held (left_blob t how) ks m ≡ held is_there ks m
unfolding AllSeen
held_seen t how [] m all = refl
held_seen t how (k ∷ ks) m all = rw (left_seen t how k all.0) (held_seen t how ks _ all.1)

seen_marked : (t : ℕ) (how : Leaves) (n : List ℕ) (i : ℕ) (ks : List KeptBlob) → gone_later t how (Some (record { at = t + 1; place = i })) ≡ false → AllSeen t how ks
    → AllSeen t how (map (marked n (record { at = t + 1; place = i })) ks)
unfolding AllSeen
seen_marked t how n i [] is all = tt
seen_marked t how n i (k ∷ ks) is all =
    (marked_has (Seen t how) n (record { at = t + 1; place = i }) k all.0 (λ a. record { came = all.0.came; same = is }), seen_marked t how n i ks is all.1)

each_seen : (t : ℕ) (how : Leaves) (names : List (List ℕ)) (place : ℕ) (ks : List KeptBlob)
    → ((i : ℕ) → i < place + length names → gone_later t how (Some (record { at = t + 1; place = i })) ≡ false)
    → AllSeen t how ks → AllSeen t how (mark_each names (t + 1) place ks)
each_seen t how [] place ks is all = all
each_seen t how (n ∷ names) place ks is all =
    each_seen t how names (place + 1) _ (λ i lt. is i (omega arith)) (seen_marked t how n place ks (is place (omega arith)) all)

seen_dated : (t : ℕ) (how : Leaves) (ks : List KeptBlob) → list_all (is_dated t) ks ≡ true → AllSeen t how ks
unfolding AllSeen
seen_dated t how [] all = tt
seen_dated t how (k ∷ ks) all =
    let b = and_parts (is_dated t k) (list_all (is_dated t) ks) all in
    let d = and_parts (nat_le k.came t) (gone_by t k.gone) b.0 in
    (record { came = d.0; same = gone_as_now t how k.gone d.1 }, seen_dated t how ks b.1)

mark_each-append : (xs ys : List (List ℕ)) (at place : ℕ) (ks : List KeptBlob) → mark_each (xs ++ ys) at place ks ≡ mark_each ys at (place + length xs) (mark_each xs at place ks)
mark_each-append [] ys at place ks = let e : place ≡ place + 0 = omega arith in ap (λ (p : ℕ). mark_each ys at p ks) e
mark_each-append (x ∷ xs) ys at place ks =
    let ls = map (marked x (record { at = at; place = place })) ks in
    let e : place + 1 + length xs ≡ place + suc (length xs) = omega arith in
    mark_each-append xs ys at (place + 1) ls ∙ ap (λ (p : ℕ). mark_each ys at p (mark_each xs at (place + 1) ls)) e

-- ---- a crash within the removal

nat_cases : (m n : ℕ) → (m ≤ n) ⊎ (n ≤ m)
nat_cases m n = grind arith

min_left : (m n : ℕ) → m ≤ n → min m n ≡ m
min_left m n le = omega arith

first_sees : (t m i : ℕ) → i < m → gone_later t (First m) (Some (record { at = t + 1; place = i })) ≡ false
first_sees t m i lt = let a : nat_lt (t + 1) (t + 1) ≡ false = grind (arith, nat_tests) in let b : nat_le m i ≡ false = grind (arith, nat_tests) in let e : (t + 1 == t + 1) ≡ true = grind (arith, nat_tests) in rw (a, e, b) refl

first_blind : (t m i : ℕ) → m ≤ i → gone_later t (First m) (Some (record { at = t + 1; place = i })) ≡ true
first_blind t m i le = let a : nat_lt (t + 1) (t + 1) ≡ false = grind (arith, nat_tests) in let b : nat_le m i ≡ true = grind (arith, nat_tests) in let e : (t + 1 == t + 1) ≡ true = grind (arith, nat_tests) in rw (a, e, b) refl

new_sees : (t i : ℕ) → gone_later t New (Some (record { at = t + 1; place = i })) ≡ false
new_sees t i = grind (arith, nat_tests)

old_blind : (t i : ℕ) → gone_later t Old (Some (record { at = t + 1; place = i })) ≡ true
old_blind t i = grind (arith, nat_tests)

module _ (t : ℕ) (names : List (List ℕ)) (ks : List KeptBlob) (all : list_all (is_dated t) ks ≡ true) where
  none_gone : held (left_blob t Old) (mark_each names (t + 1) 0 ks) empty ≡ held is_there ks empty
  none_gone = each_unseen (left_blob t Old) names (t + 1) 0 ks (λ n i k le. blind t Old n (record { at = t + 1; place = i }) k (old_blind t i))
      ∙ held_seen t Old ks empty (seen_dated t Old ks all)

  all_gone : held (left_blob t New) (mark_each names (t + 1) 0 ks) empty ≡ without_names names (held is_there ks empty)
  all_gone = held_seen t New _ empty (each_seen t New names 0 ks (λ i lt. new_sees t i) (seen_dated t New ks all)) ∙ each_now names (t + 1) 0 ks

  first_gone : (m : ℕ) → held (left_blob t (First m)) (mark_each names (t + 1) 0 ks) empty ≡ without_names (take m names) (held is_there ks empty)
  first_gone m = elim (nat_cases m (length names)) [
    | inl le ↦
        let front = take m names in
        let back = drop m names in
        let size : length front ≡ m = length-take m names ∙ min_left m (length names) le in
        let split = ap (λ (l : List (List ℕ)). held (left_blob t (First m)) (mark_each l (t + 1) 0 ks) empty) (sym (take-append-drop m names))
        ∙ ap (λ (l : List KeptBlob). held (left_blob t (First m)) l empty) (mark_each-append front back (t + 1) 0 ks) in
        let rest = each_unseen (left_blob t (First m)) back (t + 1) (0 + length front) (mark_each front (t + 1) 0 ks)
        (λ n i k past. blind t (First m) n (record { at = t + 1; place = i }) k (first_blind t m i (omega arith))) in
        let seen = held_seen t (First m) (mark_each front (t + 1) 0 ks) empty
        (each_seen t (First m) front 0 ks (λ i lt. first_sees t m i (omega arith)) (seen_dated t (First m) ks all)) in
        split ∙ rest ∙ seen ∙ each_now front (t + 1) 0 ks
    | inr le ↦
        let seen = held_seen t (First m) (mark_each names (t + 1) 0 ks) empty
        (each_seen t (First m) names 0 ks (λ i lt. first_sees t m i (omega arith)) (seen_dated t (First m) ks all)) in
        let whole : take m names ≡ names = take_all m names le in
        rw whole (seen ∙ each_now names (t + 1) 0 ks)
  ]

-- ---- a call at t that takes names away

module _ (t u s s' : ℕ) (ks ls : List KeptBlob) (xs : List KeptText) (names : List (List ℕ)) (n : ℕ) (is : ls ≡ mark_each (take n names) u 0 ks) where
  pub removed_now : image_now ls xs ≡ without (image_now ks xs) (take n names)
  removed_now = ap (λ (l : List KeptBlob). image_now l xs) is ∙ ap (λ (m : Blobs). record { blobs = m; text = last_text (λ x. x.stands) xs None }) (each_now (take n names) u 0 ks)

  of_names : (gone : List (List ℕ)) → All (Contains (take n names)) gone → All (Contains names) gone
  of_names gone has k d lt = of_first names n (get_or gone k d) (has k d lt)

  removed_may : RemoveMay names (Some (image_now ks xs)) (Some (image_now ls xs))
  removed_may = (take n names, among names n, ap Some removed_now)

  module _ (below : t < 2 ^ 64 - 1) (same : u ≡ up t) (all : all_dated t ks xs ≡ true) where
    next : u ≡ t + 1
    next = omega arith

    made : ls ≡ mark_each (take n names) (t + 1) 0 ks
    made = is ∙ ap (λ (m : ℕ). mark_each (take n names) m 0 ks) next

    parts : (list_all (is_dated t) ks ≡ true) × (list_all (is_text_dated t) xs ≡ true)
    parts = and_parts (list_all (is_dated t) ks) (list_all (is_text_dated t) xs) all

    texts : (how : Leaves) → last_text (left_text t how) xs None ≡ last_text (λ x. x.stands) xs None
    texts how = text_same (left_text t how) (λ x. x.stands) (is_text_dated t) xs None (left_text_as_now t how) parts.1

    left_with : (how : Leaves) (gone : List (List ℕ)) → held (left_blob t how) (mark_each (take n names) (t + 1) 0 ks) empty ≡ without_names gone (held is_there ks empty)
        → Some (image_left t how ls xs) ≡ drop_known (Some (image_now ks xs)) gone
    left_with how gone blobs =
        ap (λ (l : List KeptBlob). Some (image_left t how l xs)) made ∙ (λ i. Some (record { blobs = blobs i; text = texts how i }))

    within : (how : Leaves) → RemoveMay names (Some (image_now ks xs)) (Some (image_left t how ls xs))
    within Old = ([], (λ k d lt. absurd (omega arith)), left_with Old [] (none_gone t (take n names) ks parts.0))
    within New = (take n names, among names n, left_with New (take n names) (all_gone t (take n names) ks parts.0))
    within (First m) = (take m (take n names), of_names (take m (take n names)) (among (take n names) m), left_with (First m) (take m (take n names)) (first_gone t (take n names) ks parts.0 m))

    past : (r : ℕ) (how : Leaves) → Earlier r how t → image_left r how ls xs ≡ image_left r how ks xs
    past r how e = ap (λ (l : List KeptBlob). image_left r how l xs) made
        ∙ ap (λ (m : Blobs). record { blobs = m; text = last_text (left_text r how) xs None })
        (each_unseen (left_blob r how) (take n names) (t + 1) 0 ks (λ name i k le. blind r how name (record { at = t + 1; place = i }) k (later r t i how e)))

    dated_marked : (name : List ℕ) (i : ℕ) (k : KeptBlob) → is_dated u k ≡ true → is_dated u (marked name (record { at = u; place = i }) k) ≡ true
    dated_marked name i k d =
        let b = and_parts (nat_le k.came u) (gone_by u k.gone) d in
        let here : nat_le u u ≡ true = grind (arith, nat_tests) in
        marked_has (λ x. is_dated u x ≡ true) name (record { at = u; place = i }) k d (λ _. rw (b.0, here) refl)

    all_marked : (name : List ℕ) (i : ℕ) (l : List KeptBlob) → list_all (is_dated u) l ≡ true → list_all (is_dated u) (map (marked name (record { at = u; place = i })) l) ≡ true
    all_marked name i [] d = refl
    all_marked name i (k ∷ l) d = let b = and_parts (is_dated u k) (list_all (is_dated u) l) d in rw (dated_marked name i k b.0) (all_marked name i l b.1)

    each_dated : (ns : List (List ℕ)) (i : ℕ) (l : List KeptBlob) → list_all (is_dated u) l ≡ true → list_all (is_dated u) (mark_each ns u i l) ≡ true
    each_dated [] i l d = d
    each_dated (name ∷ ns) i l d = each_dated ns (i + 1) _ (all_marked name i l d)

    pub removed_dated : all_dated u ls xs ≡ true
    removed_dated = rw is (rw (each_dated (take n names) 0 ks (blobs_later t u ks (omega arith) parts.0)) (texts_later t u xs (omega arith) parts.1))

    pub removed : Passed (look_of t s ks xs) (look_of u s' ls xs) (RemoveMay names)
    removed = passes t u s s' ks ls xs xs (RemoveMay names) below same all removed_dated past removed_may within

    pub removed_done : length names ≤ n → Removed names (now (look_of t s ks xs)) (now (look_of u s' ls xs))
    removed_done whole =
        changes t u s s' ks ls xs xs (Removed names) all removed_dated (ap Some (removed_now ∙ ap (without (image_now ks xs)) (take_all n names whole)))

    pub removed_left : RemoveMay names (now (look_of t s ks xs)) (now (look_of u s' ls xs))
    removed_left = changes t u s s' ks ls xs xs (RemoveMay names) all removed_dated removed_may

-- a removal may take away no name
pub removes_none : (names : List (List ℕ)) (o : Option Image) → RemoveMay names o o
removes_none names None = ([], (λ k d lt. absurd (omega arith)), refl)
removes_none names (Some i) = ([], (λ k d lt. absurd (omega arith)), refl)
