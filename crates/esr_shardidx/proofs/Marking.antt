-- Marks of the files that lists have.
use Rattle.std.proofs.Common.{◌≡◌, ◌≢◌, ℕ, zero, suc, ◌+◌, ◌<◌, ◌==◌, ◌||◌, not, Bool, true, false, cond, List, [], ◌∷◌, ◌++◌, length, filter, drop, get_or, get_or-set_same, get_or-set_other, slice_get, set, replicate, Option, Some, None, Ok, Err, refl, sym, ap, ◌∙◌, subst, arith, inl, inr}
use Rattle.std.specs.List.{list_any, list_all}
use Rattle.std.proofs.lemmas.List.{append_assoc, drop_more, length-set}
use Rattle.std.proofs.lemmas.Bool.{cases_Bool, cases_eq, eqb-true, eq-eqb, ne_eqb, and_parts, not-true, or_right}
use Rattle.std.proofs.lemmas.List.Folds.{list_any-append}
use Rattle.esr_names.specs.declared.ids.Id.{Id}
use Rattle.esr_json.specs.declared.refusal.Reason.TheVariants.{Duplicate, Unlisted}
use Rattle.esr_shardidx.specs.declared.entry.FileEntry.{FileEntry}
use Rattle.esr_shardidx.specs.declared.index.SnapList.{SnapList}
use Rattle.esr_shardidx.specs.Indices.{is_id, repeats, has_uuid, names_file, is_named, named_by, has_file, checked, Rises, is_at}
use Rattle.esr_shardidx.specs.Marks.{AreMarked, marked_of, is_among, AreMarks, files_checked}
use Rattle.esr_shardidx.proofs.Rising.{same_place, there_at}

-- ---- tests

AreMarked-same : (p q : FileEntry → Bool) (files : List FileEntry) (marks : List ℕ) → ((e : FileEntry) → p e ≡ q e) → AreMarked p files marks → AreMarked q files marks
AreMarked-same p q files marks same h = record { len = h.len; at = λ i e at. h.at i e at ∙ ap not (same e) }

or_false_of : (a b : Bool) → b ≡ false → (a || b) ≡ a
or_false_of true b h = refl
or_false_of false b h = h

among_push : (us : List Id) (u : Id) (e : FileEntry) → is_among (us ++ u ∷ []) e ≡ (is_among us e || is_id e.name u)
among_push us u e = list_any-append (is_id e.name) us (u ∷ []) ∙ ap (λ (b : Bool). is_among us e || b) (or_false_of (is_id e.name u) false refl)

among_other : (us : List Id) (u : Id) (e : FileEntry) → is_id e.name u ≡ false → is_among (us ++ u ∷ []) e ≡ is_among us e
among_other us u e apart = among_push us u e ∙ or_false_of (is_among us e) (is_id e.name u) apart

among_own : (us : List Id) (u : Id) (e : FileEntry) → is_id e.name u ≡ true → is_among (us ++ u ∷ []) e ≡ true
among_own us u e own = among_push us u e ∙ or_right (is_among us e) (is_id e.name u) own

-- ---- the entry at a place

some_at : (u : Id) (o : Option FileEntry) → is_at u o ≡ true → (f : FileEntry) × (o ≡ Some f) × (f.name.number ≡ u.number)
some_at u None at = cc
some_at u (Some f) at = (f, refl, eqb-true f.name.number u.number at)

own_place : (files : List FileEntry) (u : Id) (i : ℕ) (e : FileEntry) → is_at u (slice_get files i) ≡ true → slice_get files i ≡ Some e → is_id e.name u ≡ true
own_place files u i e at is =
    let found = some_at u (slice_get files i) at in
    let same : found.0 ≡ e = cc (found.1, is) in
    let number = ap (λ (x : FileEntry). x.name.number) same in
    eq-eqb u.number e.name.number (sym found.2 ∙ number)

other_place : (files : List FileEntry) (u : Id) (i j : ℕ) (e : FileEntry) → Rises files → is_at u (slice_get files i) ≡ true → slice_get files j ≡ Some e → j ≢ i → is_id e.name u ≡ false
other_place files u i j e rises at is apart =
    let found = some_at u (slice_get files i) at in
    ne_eqb u.number e.name.number (λ same. apart (same_place files j i e found.0 rises is found.1 (sym same ∙ sym found.2)))

absent_place : (files : List FileEntry) (u : Id) (j : ℕ) (e : FileEntry) → has_file files u ≡ false → slice_get files j ≡ Some e → is_id e.name u ≡ false
absent_place files u j e none is = elim (cases_Bool (is_id e.name u)) [
  | inl same ↦
      let number : u.number ≡ e.name.number = eqb-true u.number e.name.number same in
      let there : is_at u (slice_get files j) ≡ true = ap (is_at u) is ∙ eq-eqb e.name.number u.number (sym number) in
      let has : has_file files u ≡ true = there_at u files j there in
      cc
  | inr other ↦ other
]

-- ---- one more file of a list

pub AreMarked-mark : (p : FileEntry → Bool) (files : List FileEntry) (us : List Id) (u : Id) (i m : ℕ) (marks : List ℕ) → Rises files → 0 < m → i < length files → is_at u (slice_get files i) ≡ true
    → AreMarked (λ e. p e || is_among us e) files marks → AreMarked (λ e. p e || is_among (us ++ u ∷ []) e) files (set marks i m)
AreMarked-mark p files us u i m marks rises some within at h = record {
  len = length-set marks i m ∙ h.len;
  at = λ j e is. elim (cases_eq j i) [
    | inl same ↦
        let here : slice_get files i ≡ Some e = subst (λ (k : ℕ). slice_get files k ≡ Some e) same is in
        let bound : i < length marks = omega (arith, h.len) in
        let mark : get_or (set marks i m) j 0 ≡ m = ap (λ (k : ℕ). get_or (set marks i m) k 0) same ∙ get_or-set_same marks i m 0 bound in
        let ne : m ≡ 0 → ⊥ = λ (z : m ≡ 0). omega (arith, z) in
        rw (mark, ne_eqb m 0 ne, or_right (p e) _ (among_own us u e (own_place files u i e at here))) refl
    | inr apart ↦
        rw (get_or-set_other marks i j m 0 apart, among_other us u e (other_place files u i j e rises at is apart)) (h.at j e is)
  ];
}

pub AreMarked-absent : (p : FileEntry → Bool) (files : List FileEntry) (us : List Id) (u : Id) (marks : List ℕ) → has_file files u ≡ false
    → AreMarked (λ e. p e || is_among us e) files marks → AreMarked (λ e. p e || is_among (us ++ u ∷ []) e) files marks
AreMarked-absent p files us u marks none h = record {
  len = h.len;
  at = λ j e is. rw (among_other us u e (absent_place files u j e none is)) (h.at j e is);
}

pub AreMarks-mark : (files : List FileEntry) (lists : List SnapList) (us : List Id) (turn : ℕ) (u : Id) (i : ℕ) (marks : List ℕ) → Rises files → 0 < turn → i < length files → is_at u (slice_get files i) ≡ true
    → AreMarks files lists us turn marks → AreMarks files lists (us ++ u ∷ []) turn (set marks i turn)
AreMarks-mark files lists us turn u i marks rises some within at h = record {
  any = AreMarked-mark (is_named lists) files us u i turn marks rises some within at h.any;
  now = λ j e is. elim (cases_eq j i) [
    | inl same ↦
        let here : slice_get files i ≡ Some e = subst (λ (k : ℕ). slice_get files k ≡ Some e) same is in
        let bound : i < length marks = omega (arith, h.any.len) in
        let mark : get_or (set marks i turn) j 0 ≡ turn = ap (λ (k : ℕ). get_or (set marks i turn) k 0) same ∙ get_or-set_same marks i turn 0 bound in
        rw (mark, eq-eqb turn turn refl) (sym (among_own us u e (own_place files u i e at here)))
    | inr apart ↦
        rw (get_or-set_other marks i j turn 0 apart, among_other us u e (other_place files u i j e rises at is apart)) (h.now j e is)
  ];
  most = λ j. elim (cases_eq j i) [
    | inl same ↦
        let bound : i < length marks = omega (arith, h.any.len) in
        let mark : get_or (set marks i turn) j 0 ≡ turn = ap (λ (k : ℕ). get_or (set marks i turn) k 0) same ∙ get_or-set_same marks i turn 0 bound in
        omega (arith, mark)
    | inr apart ↦ rw (get_or-set_other marks i j turn 0 apart) (h.most j)
  ];
}

-- the mark of this turn tells whether the file stood in the list before
pub turn_tells : (files : List FileEntry) (lists : List SnapList) (us : List Id) (turn : ℕ) (u : Id) (i : ℕ) (marks : List ℕ) → is_at u (slice_get files i) ≡ true → AreMarks files lists us turn marks
    → (get_or marks i 0 == turn) ≡ list_any (is_id u) us
turn_tells files lists us turn u i marks at h =
    let found = some_at u (slice_get files i) at in
    let numbered : ℕ → Bool = λ n. list_any (λ (v : Id). v.number == n) us in
    h.now i found.0 found.1 ∙ ap numbered found.2

-- ---- the first list, and the next one

zeros : (n i : ℕ) → get_or {A = ℕ} (replicate n 0) i 0 ≡ 0
zeros (suc n) (suc i) = zeros n i
zeros n i = refl

length_zeros : (n : ℕ) → length {A = ℕ} (replicate n 0) ≡ n
length_zeros zero = refl
length_zeros (suc n) = ap suc (length_zeros n)

pub AreMarked-none : (files : List FileEntry) (n : ℕ) → length files ≡ n → AreMarked (λ e. false) files (replicate n 0)
AreMarked-none files n len = record {
  len = length_zeros n ∙ sym len;
  at = λ i e is. rw (zeros n i) refl;
}

pub AreMarks-none : (files : List FileEntry) (n : ℕ) → length files ≡ n → AreMarks files [] [] 1 (replicate n 0)
AreMarks-none files n len = record {
  any = AreMarked-none files n len;
  now = λ i e is. rw (zeros n i) refl;
  most = λ i. rw (zeros n i) (omega arith);
}

named_push : (lists : List SnapList) (l : SnapList) (e : FileEntry) → is_named (lists ++ l ∷ []) e ≡ (is_named lists e || is_among l.files e)
named_push lists l e = list_any-append (names_file e.name) lists (l ∷ []) ∙ ap (λ (b : Bool). is_named lists e || b) (or_false_of (names_file e.name l) false refl)

pub AreMarked-list : (files : List FileEntry) (lists : List SnapList) (l : SnapList) (marks : List ℕ) → AreMarked (λ e. is_named lists e || is_among l.files e) files marks → AreMarked (is_named (lists ++ l ∷ [])) files marks
AreMarked-list files lists l marks h =
    AreMarked-same (λ e. is_named lists e || is_among l.files e) (is_named (lists ++ l ∷ [])) files marks (λ e. sym (named_push lists l e)) h

pub AreMarked-named : (files : List FileEntry) (lists : List SnapList) (marks : List ℕ) → AreMarked (λ e. is_named lists e || is_among [] e) files marks → AreMarked (is_named lists) files marks
AreMarked-named files lists marks h = AreMarked-same (λ e. is_named lists e || is_among [] e) (is_named lists) files marks (λ e. or_false_of (is_named lists e) false refl) h

pub AreMarked-start : (p : FileEntry → Bool) (files : List FileEntry) (marks : List ℕ) → AreMarked p files marks → AreMarked (λ e. p e || is_among [] e) files marks
AreMarked-start p files marks h = AreMarked-same p (λ e. p e || is_among [] e) files marks (λ e. sym (or_false_of (p e) false refl)) h

pub AreMarks-next : (files : List FileEntry) (lists : List SnapList) (l : SnapList) (turn : ℕ) (marks : List ℕ) → AreMarks files lists l.files turn marks → AreMarks files (lists ++ l ∷ []) [] (turn + 1) marks
AreMarks-next files lists l turn marks h = record {
  any = AreMarked-start (is_named (lists ++ l ∷ [])) files marks (AreMarked-list files lists l marks h.any);
  now = λ i e is.
      let most = h.most i in
      let ne : get_or marks i 0 ≡ turn + 1 → ⊥ = λ (same : get_or marks i 0 ≡ turn + 1). omega (arith, same, most) in
      ne_eqb (get_or marks i 0) (turn + 1) ne;
  most = λ i. let most = h.most i in omega (arith, most);
}

-- ---- the files with a mark

pub marked_of-is : (p : FileEntry → Bool) (files : List FileEntry) (marks : List ℕ) → AreMarked p files marks → marked_of files marks ≡ filter p files
marked_of-is p [] marks h = refl
marked_of-is p (e ∷ es) [] h = absurd (omega (arith, h.len))
marked_of-is p (e ∷ es) (m ∷ ms) h =
    let first : (m == 0) ≡ not (p e) = h.at 0 e refl in
    let rest : marked_of es ms ≡ filter p es = marked_of-is p es ms (record { len = omega (arith, h.len); at = λ i f is. h.at (suc i) f is }) in
    elim (cases_Bool (p e)) [
      | inl kept ↦ let some : (m == 0) ≡ false = first ∙ ap not kept in rw (some, kept) (ap (λ (xs : List FileEntry). e ∷ xs) rest)
      | inr left ↦ let none : (m == 0) ≡ true = first ∙ ap not left in rw (none, left) rest
    ]

-- the files that some list has, by what each step gave
pub kept_files : (own es more files : List FileEntry) (ls seen : List SnapList) (marks ms : List ℕ) → AreMarked (is_named seen) es marks → es ≡ own → seen ≡ ls → files ≡ marked_of more ms → more ≡ own → ms ≡ marks
    → files ≡ named_by ls own
kept_files own es more files ls seen marks ms marked same lists made again read =
    let here = subst (λ (xs : List FileEntry). AreMarked (is_named seen) xs marks) same marked in
    let kept = subst (λ (xs : List SnapList). AreMarked (is_named xs) own marks) lists here in
    made ∙ ap (λ (xs : List FileEntry). marked_of xs ms) again ∙ ap (marked_of own) read ∙ marked_of-is (is_named ls) own marks kept

-- all of them, where no mark is 0
pub marked_all : (es : List FileEntry) (ms : List ℕ) → length ms ≡ length es → list_all (λ m. not (m == 0)) ms ≡ true → marked_of es ms ≡ es
marked_all [] ms len all = refl
marked_all (e ∷ es) [] len all = absurd (omega (arith, len))
marked_all (e ∷ es) (m ∷ ms) len all =
    let parts = and_parts (not (m == 0)) (list_all (λ m. not (m == 0)) ms) all in
    let some : (m == 0) ≡ false = not-true (m == 0) parts.0 in
    rw some (ap (λ (xs : List FileEntry). e ∷ xs) (marked_all es ms (omega (arith, len)) parts.1))

-- one more entry that was looked at
pub marked_next : (es : List FileEntry) (ms : List ℕ) (copies : List FileEntry) (i : ℕ) (e : FileEntry) → i < length es → length ms ≡ length es → e ≡ get_or es i e
    → marked_of es ms ≡ copies ++ marked_of (drop i es) (drop i ms)
    → ((get_or ms i 0 ≡ 0 → ⊥) → marked_of es ms ≡ (copies ++ e ∷ []) ++ marked_of (drop (i + 1) es) (drop (i + 1) ms))
    × (get_or ms i 0 ≡ 0 → marked_of es ms ≡ copies ++ marked_of (drop (i + 1) es) (drop (i + 1) ms))
marked_next es ms copies i e within len is before =
    let bound : i < length ms = omega (arith, len) in
    let rest : List FileEntry = drop (i + 1) es in
    let first : drop i es ≡ e ∷ rest = drop_more es i e within ∙ ap (λ (x : FileEntry). x ∷ rest) (sym is) in
    let step : marked_of (drop i es) (drop i ms) ≡ marked_of (e ∷ rest) (get_or ms i 0 ∷ drop (i + 1) ms) =
    ap (λ (xs : List FileEntry). marked_of xs (drop i ms)) first ∙ ap (marked_of (e ∷ rest)) (drop_more ms i 0 bound) in (
      λ some. before ∙ ap (λ (xs : List FileEntry). copies ++ xs) (step ∙ kept (get_or ms i 0 == 0) (marked_of rest (drop (i + 1) ms)) (ne_eqb (get_or ms i 0) 0 some)) ∙ sym (append_assoc copies (e ∷ []) _),
      λ none. before ∙ ap (λ (xs : List FileEntry). copies ++ xs) (step ∙ left (get_or ms i 0 == 0) (marked_of rest (drop (i + 1) ms)) (eq-eqb (get_or ms i 0) 0 none)),
    ) where
      kept : (b : Bool) (xs : List FileEntry) → b ≡ false → cond b xs (e ∷ xs) ≡ e ∷ xs
      kept b xs h = rw h refl

      left : (b : Bool) (xs : List FileEntry) → b ≡ true → cond b xs (e ∷ xs) ≡ xs
      left b xs h = rw h refl

-- ---- a list that was read

pub checked_ok : (files : List FileEntry) (before : List SnapList) (l : SnapList) → list_any (has_uuid l.uuid) before ≡ false → files_checked files l.files ≡ Ok l.files → checked files before l ≡ Ok l
checked_ok files before l fresh h = elim (cases_Bool (repeats l.files)) [
  | inl twice ↦ let bad : Err Duplicate ≡ Ok l.files = (rw twice at h) in cc
  | inr once ↦ elim (cases_Bool (list_all (has_file files) l.files)) [
    | inl there ↦ rw (fresh, once, there) refl
    | inr absent ↦ let bad : Err Unlisted ≡ Ok l.files = (rw (once, absent) at h) in cc
  ]
]
