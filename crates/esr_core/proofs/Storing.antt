-- What a shard's ticket wrote is the shard: its parts are the files, its index has the base's snapshots and its own.
use Rattle.std.proofs.Common.{◌≡◌, ◌⊎◌, ℕ, zero, suc, ◌+◌, ◌-◌, ◌*◌, ◌/◌, ◌<◌, ◌≤◌, List, [], ◌∷◌, ◌++◌, length, true, false, true≢false, Option, Some, None, map, take, drop, refl, sym, ap, ◌∙◌, subst, inl, inr, arith}
use Rattle.std.specs.Prelude.{if◌then◌else◌, leb}
use Rattle.std.proofs.lemmas.Bool.Decides.{eqb_tells}
use Rattle.std.proofs.lemmas.Bool.{eqb-true, le-leb, cases_Bool, and_parts, cond-true, cond-false}
use Rattle.std.proofs.lemmas.List.{take-append-drop, length-take-le, length-drop}
use Rattle.std.proofs.Math.Nat.{div-mul-le_self, le-div_iff_mul-le}
use Rattle.std.specs.Cmp.Lexicographic.{nat_list_cmp_total}
use Rattle.std.specs.FinMap as fin
use Rattle.std.proofs.lemmas.Option.{same_Some, none-some}
use Rattle.esr_core.specs.Laws.Tests.{told}
use Rattle.esr_model.specs.Names.{BlobName, ShardSnap, ShardIndex}
use Rattle.esr_model.specs.Values.{Bytes, Has, FileEntry, SnapList, ShardFiles, ShardResult, Formats, or_no_files, files_told}
use Rattle.esr_model.specs.Shelf.{Shelved}
use Rattle.esr_model.specs.Parts.{part_count, parts_from, part_names, AreFull}
use Rattle.esr_model.specs.Places.{put_by}
use Rattle.esr_model.specs.Image.{AllPairs, At, Reads, FileStands, concat}
use Rattle.esr_model.specs.Uploads.{same_bytes, matches, reused, reused_file, entry_by, next_by, entries_from, id_after, pieces, pairs, file_blobs, blobs_by, new_blobs, has_entry, id_first, with_entries, with_snap, no_files, shard_blobs}
use Rattle.esr_core.specs.World.{World, Op, ShardWork, Out, Done, Shard, Ticket, HeldIn, marked}
use Rattle.esr_core.specs.Generations.{AreFilesOf, Base}
use Rattle.esr_core.specs.Ready.{IsShard}
use Rattle.esr_core.specs.Steps.{IsOut, Drew, Extends, ExtendsBase, completing}
use Rattle.esr_core.specs.Turns.{InBase, DoneFound}
use Rattle.esr_core.specs.Ids.{Law}
use Rattle.esr_core.specs.Written.{WroteLaw}
use Rattle.esr_core.specs.Allowed.{Based, DoneBy}
use Rattle.esr_core.specs.History.{IsHonest}
use Rattle.esr_model.specs.Lists.{AllPairs-map, Has-left, Has-right, Has-either}
use Rattle.esr_core.specs.Laws.BlobFrames.{file_kept}
use Rattle.esr_core.specs.Laws.Maps.{split, texts_same}
use Rattle.esr_core.specs.Laws.SortedLists.{put_by-Has, Has-put_by}
use Rattle.esr_core.proofs.Stored.{StandsAs}

same_is : (a b : Bytes) → same_bytes a b ≡ true → a ≡ b
same_is a b e = elim (split nat_list_cmp_total texts_same a b) [ inl h ↦ h | inr h ↦ absurd (true≢false (sym e ∙ h.1)) ]

-- ---- pieces

-- all pieces but the last have the size where the bytes are so long
pieces_full : (size n : ℕ) (bytes : Bytes) → n * size ≤ length bytes → AreFull size (pieces size (suc n) bytes)
pieces_full size zero bytes long = tt
pieces_full size (suc zero) bytes long = (length-take-le size bytes (omega (arith, long)), tt)
pieces_full size (suc (suc n)) bytes long =
    let enough : size ≤ length bytes = grow size n (length bytes) long in
    let rest : suc n * size ≤ length (drop size bytes) = subst (λ x. suc n * size ≤ x) (sym (length-drop size bytes)) (less size n (length bytes) long) in
    (length-take-le size bytes enough, pieces_full size (suc n) (drop size bytes) rest)
  where
    grow : (size n len : ℕ) → suc (suc n) * size ≤ len → size ≤ len
    grow size n len long = let e : suc (suc n) * size ≡ size + suc n * size = grind arith in omega (arith, e, long)

    less : (size n len : ℕ) → suc (suc n) * size ≤ len → suc n * size ≤ len - size
    less size n len long = let e : suc (suc n) * size ≡ size + suc n * size = grind arith in omega (arith, e, long)

-- their join is the bytes
pieces_joined : (size n : ℕ) (bytes : Bytes) → concat (pieces size (suc n) bytes) ≡ bytes
pieces_joined size zero bytes = append-nil bytes
  where
    append-nil : (xs : Bytes) → xs ++ [] ≡ xs
    append-nil [] = refl
    append-nil (x ∷ xs) = ap (λ ys. x ∷ ys) (append-nil xs)
pieces_joined size (suc n) bytes = ap (λ ys. take size bytes ++ ys) (pieces_joined size n (drop size bytes)) ∙ take-append-drop size bytes

pieces_length : (size n : ℕ) (bytes : Bytes) → length (pieces size n bytes) ≡ n
pieces_length size (suc (suc n)) bytes = ap suc (pieces_length size (suc n) (drop size bytes))
pieces_length size n bytes = refl

-- there is a part, and all but the last are full
count_part : (len size : ℕ) → 0 < size → (n : ℕ) × (part_count len size ≡ suc n) × (n * size ≤ len)
count_part len size some = elim (cases_Bool (leb len size)) [
  | inl t ↦ (0, cond-true _ _ _ t, omega arith)
  | inr t ↦
      let more : size < len = above len size t in
      let one : 1 ≤ (len + (size - 1)) / size = (le-div_iff_mul-le some).1 (omega (arith, more)) in
      let whole : (len + (size - 1)) / size * size ≤ len + (size - 1) = div-mul-le_self (len + (size - 1)) size in
      split_count ((len + (size - 1)) / size) refl one whole t
]
  where
    above : (len size : ℕ) → leb len size ≡ false → size < len
    above len size t = elim (le_or len size) [ inl h ↦ absurd (true≢false (sym (le-leb len size h) ∙ t)) | inr h ↦ h ]
      where
        le_or : (a b : ℕ) → (a ≤ b) ⊎ (b < a)
        le_or a b = grind arith

    split_count : (q : ℕ) → (len + (size - 1)) / size ≡ q → 1 ≤ q → q * size ≤ len + (size - 1) → leb len size ≡ false → (n : ℕ) × (part_count len size ≡ suc n) × (n * size ≤ len)
    split_count zero e one whole t = absurd (omega (arith, one))
    split_count (suc n) e one whole t = let m : suc n * size ≡ size + n * size = grind arith in (n, cond-false _ _ _ t ∙ e, omega (arith, m, whole, some))

names_length : (i k x p n : ℕ) → length (parts_from i k x p n) ≡ n
names_length i k x p zero = refl
names_length i k x p (suc n) = ap suc (names_length i k x (suc p) n)

part_names_length : (i k : ℕ) (e : FileEntry) → length (part_names i k e) ≡ part_count e.len e.part_size
part_names_length i k e = elim (cases_Bool (leb e.len e.part_size)) [
  | inl t ↦ ap length (cond-true _ _ _ t) ∙ sym (cond-true _ _ _ t)
  | inr t ↦ ap length (cond-false _ _ _ t) ∙ names_length i k e.name 0 (part_count e.len e.part_size)
]

-- what holds of each pair of two lists that are equally long
all_pairs : {A B : Type 0} (R : A → B → Type 0) (xs : List A) (ys : List B) → length xs ≡ length ys → ((x : A) (y : B) → Has (pairs xs ys) (x, y) → R x y) → AllPairs R xs ys
all_pairs R [] [] e h = tt
all_pairs R [] (y ∷ ys) e h = absurd (omega (arith, e))
all_pairs R (x ∷ xs) [] e h = absurd (omega (arith, e))
all_pairs R (x ∷ xs) (y ∷ ys) e h = (h x y (inl refl), all_pairs R xs ys (omega (arith, e)) (λ a b m. h a b (inr m)))

-- a new file stands where its blobs are there
new_stands : (f : Formats) (has : BlobName → Bytes → Type 0) (i k size next : ℕ) (file : Bytes × Bytes) → 0 < size
    → ((name : BlobName) (b : Bytes) → Has (file_blobs i k (entry_by f size next file None) file.1) (name, b) → has name b) → FileStands f has i k (entry_by f size next file None) file.1
new_stands f has i k size next file some there =
    let e : FileEntry = entry_by f size next file None in
    let (n, count, long) = count_part (length file.1) size some in
    record {
      parts = pieces size (part_count (length file.1) size) file.1;
      there = all_pairs has (part_names i k e) (pieces size (part_count (length file.1) size) file.1) (part_names_length i k e ∙ sym (pieces_length size (part_count (length file.1) size) file.1)) there;
      full = subst (λ c. AreFull size (pieces size c file.1)) (sym count) (pieces_full size n file.1 long);
      joined = ap (λ c. concat (pieces size c file.1)) count ∙ pieces_joined size n file.1;
      len = refl;
      digest = refl;
    }

-- ---- entries

-- a reused entry is one of the base, and matches
reused_is : (es : List FileEntry) (physical : Bytes) (len : ℕ) (digest : Bytes) (e : FileEntry) → reused es physical len digest ≡ Some e → Has es e × (e.physical ≡ physical) × (e.len ≡ len) × (e.digest ≡ digest)
reused_is [] physical len digest e is = absurd (none-some e is)
reused_is (x ∷ es) physical len digest e is = elim (cases_Bool (matches x physical len digest)) [
  | inl t ↦
      let same : x ≡ e = same_Some _ _ (sym (cond-true _ _ _ t) ∙ is) in
      let h = and_parts _ _ t in
      let g = and_parts _ _ h.1 in
      (inl same, ap (λ (y : FileEntry). y.physical) (sym same) ∙ same_is _ _ h.0, ap (λ (y : FileEntry). y.len) (sym same) ∙ eqb-true _ _ g.0, ap (λ (y : FileEntry). y.digest) (sym same) ∙ same_is _ _ g.1)
  | inr t ↦ let (m, a, b, c) = reused_is es physical len digest e (sym (cond-false _ _ _ t) ∙ is) in (inr m, a, b, c)
]

next_up : (o : Option FileEntry) (next : ℕ) → next ≤ next_by o next
next_up None next = omega arith
next_up (Some e) next = omega arith

after_up : (f : Formats) (base : ShardFiles) (files : List (Bytes × Bytes)) (next : ℕ) → next ≤ id_after f base next files
after_up f base [] next = omega arith
after_up f base (file ∷ files) next = let a = next_up (reused_file f base file) next in let b = after_up f base files (next_by (reused_file f base file) next) in omega (arith, a, b)

-- an entry is the base's, or has one of the ids
pub entry_from : (f : Formats) (size : ℕ) (base : ShardFiles) (files : List (Bytes × Bytes)) (next : ℕ) (e : FileEntry) → Has (entries_from f size base next files) e
    → Has base.files e ⊎ ((next ≤ e.name) × (e.name < id_after f base next files))
entry_from f size base [] next e m = absurd m
entry_from f size base (file ∷ files) next e m = go (reused_file f base file) refl m (entry_from f size base files)
  where
    go : (o : Option FileEntry) → reused_file f base file ≡ o → Has (entry_by f size next file (reused_file f base file) ∷ entries_from f size base (next_by (reused_file f base file) next) files) e
        → ((n : ℕ) (x : FileEntry) → Has (entries_from f size base n files) x → Has base.files x ⊎ ((n ≤ x.name) × (x.name < id_after f base n files)))
        → Has base.files e ⊎ ((next ≤ e.name) × (e.name < id_after f base (next_by (reused_file f base file) next) files))
    go None is (inl same) rest =
        let name : next ≡ e.name = (λ j. (entry_by f size next file (sym is j)).name) ∙ ap (λ (x : FileEntry). x.name) same in
        let up : suc next ≤ id_after f base (suc next) files = after_up f base files (suc next) in
        inr (omega (arith, name), subst (λ o. e.name < id_after f base (next_by o next) files) (sym is) (omega (arith, name, up)))
    go (Some x) is (inl same) rest =
        let it : x ≡ e = (λ j. entry_by f size next file (sym is j)) ∙ same in
        inl (subst (Has base.files) it (reused_is base.files file.0 (length file.1) (f.digest file.1) x is).0)
    go o is (inr m) rest = elim (rest (next_by (reused_file f base file) next) e m) [
      | inl h ↦ inl h
      | inr h ↦ let a = next_up (reused_file f base file) next in inr (omega (arith, a, h.0), h.1)
    ]

-- ---- the index

has_false : (es : List FileEntry) (id : ℕ) → ((e : FileEntry) → Has es e → e.name < id) → has_entry es id ≡ false
has_false [] id below = refl
has_false (x ∷ es) id below = elim (eqb_tells x.name id) [
  | inl h ↦ absurd (let b : x.name < id = below x (inl refl) in omega (arith, b, h.1))
  | inr h ↦ cond-false _ _ _ h.0 ∙ has_false es id (λ e m. below e (inr m))
]

more_has : (have : List FileEntry) (e x : FileEntry) → Has have x → Has (if has_entry have e.name then have else put_by id_first e have) x
more_has have e x m = elim (cases_Bool (has_entry have e.name)) [
  | inl t ↦ subst (λ l. Has l x) (sym (cond-true _ _ _ t)) m
  | inr t ↦ subst (λ l. Has l x) (sym (cond-false _ _ _ t)) (put_by-Has id_first e x have (inr m))
]

more_from : (have : List FileEntry) (e x : FileEntry) → Has (if has_entry have e.name then have else put_by id_first e have) x → (e ≡ x) ⊎ Has have x
more_from have e x m = elim (cases_Bool (has_entry have e.name)) [
  | inl t ↦ inr (subst (λ l. Has l x) (cond-true _ _ _ t) m)
  | inr t ↦ Has-put_by id_first e x have (subst (λ l. Has l x) (cond-false _ _ _ t) m)
]

entries_keep : (es have : List FileEntry) (x : FileEntry) → Has have x → Has (with_entries have es) x
entries_keep [] have x m = m
entries_keep (e ∷ es) have x m = entries_keep es (if has_entry have e.name then have else put_by id_first e have) x (more_has have e x m)

entries_source : (es have : List FileEntry) (x : FileEntry) → Has (with_entries have es) x → Has have x ⊎ Has es x
entries_source [] have x m = inl m
entries_source (e ∷ es) have x m = elim (entries_source es (if has_entry have e.name then have else put_by id_first e have) x m) [
  | inl h ↦ elim (more_from have e x h) [ inl same ↦ inr (inl same) | inr was ↦ inl was ]
  | inr h ↦ inr (inr h)
]

-- each entry is there afterwards
entries_there : (f : Formats) (size : ℕ) (base : ShardFiles) (files : List (Bytes × Bytes)) (next : ℕ) (have : List FileEntry) → ((x : FileEntry) → Has base.files x → Has have x) → ((x : FileEntry) → Has have x → x.name < next)
    → (e : FileEntry) → Has (entries_from f size base next files) e → Has (with_entries have (entries_from f size base next files)) e
entries_there f size base [] next have keeps below e m = absurd m
entries_there f size base (file ∷ files) next have keeps below e m =
    go (reused_file f base file) refl m (entries_there f size base files)
  where
    go : (o : Option FileEntry) → reused_file f base file ≡ o → Has (entry_by f size next file (reused_file f base file) ∷ entries_from f size base (next_by (reused_file f base file) next) files) e
        → ((n : ℕ) (hs : List FileEntry) → ((x : FileEntry) → Has base.files x → Has hs x) → ((x : FileEntry) → Has hs x → x.name < n)
        → (x : FileEntry) → Has (entries_from f size base n files) x → Has (with_entries hs (entries_from f size base n files)) x)
        → Has (with_entries have (entry_by f size next file (reused_file f base file) ∷ entries_from f size base (next_by (reused_file f base file) next) files)) e
    go None is m rest =
        subst (λ o. Has (with_entries have (entry_by f size next file o ∷ entries_from f size base (next_by o next) files)) e) (sym is)
        (added (subst (λ o. Has (entry_by f size next file o ∷ entries_from f size base (next_by o next) files) e) is m))
      where
        added : Has (entry_by f size next file None ∷ entries_from f size base (suc next) files) e
            → Has (with_entries (if has_entry have next then have else put_by id_first (entry_by f size next file None) have) (entries_from f size base (suc next) files)) e
        added (inl same) = entries_keep (entries_from f size base (suc next) files) (if has_entry have next then have else put_by id_first (entry_by f size next file None) have) e
            (subst (λ l. Has l e) (sym (cond-false _ _ _ (has_false have next below))) (put_by-Has id_first (entry_by f size next file None) e have (inl same)))
        added (inr later) = rest (suc next) (if has_entry have next then have else put_by id_first (entry_by f size next file None) have) (λ x h. more_has have (entry_by f size next file None) x (keeps x h))
            (λ x h. elim (more_from have (entry_by f size next file None) x h) [
              | inl same ↦ let n : next ≡ x.name = ap (λ (y : FileEntry). y.name) same in omega (arith, n)
              | inr was ↦ let b : x.name < next = below x was in omega (arith, b)
            ]) e later
    go (Some b) is m rest =
        subst (λ o. Has (with_entries have (entry_by f size next file o ∷ entries_from f size base (next_by o next) files)) e) (sym is)
        (kept (subst (λ o. Has (entry_by f size next file o ∷ entries_from f size base (next_by o next) files) e) is m))
      where
        kept : Has (b ∷ entries_from f size base next files) e → Has (with_entries (if has_entry have b.name then have else put_by id_first b have) (entries_from f size base next files)) e
        kept (inl same) = entries_keep (entries_from f size base next files) (if has_entry have b.name then have else put_by id_first b have) e
            (more_has have b e (subst (Has have) same (keeps b (reused_is base.files file.0 (length file.1) (f.digest file.1) b is).0)))
        kept (inr later) = rest next (if has_entry have b.name then have else put_by id_first b have) (λ x h. more_has have b x (keeps x h))
            (λ x h. elim (more_from have b x h) [ inl same ↦ subst (λ (y : FileEntry). y.name < next) same (below b (keeps b (reused_is base.files file.0 (length file.1) (f.digest file.1) b is).0)) | inr was ↦ below x was ]) e later

-- the index with a snapshot more has what the base had, and the snapshot
extended_by : (base : ShardFiles) (uuid : ℕ) (entries : List FileEntry) → ((e : FileEntry) → Has entries e → Has (with_entries base.files entries) e) → Extends base (with_snap base uuid entries) uuid entries
extended_by base uuid entries have =
    let list : SnapList = record { uuid = uuid; files = map (λ (e : FileEntry). e.name) entries } in
    record {
      keeps = λ u fs h. record { list = h.list; there = Has-left base.snapshots (list ∷ []) h.list h.there; uuid_is = h.uuid_is; entries = AllPairs-map (λ id e p. (p.0, entries_keep entries base.files e p.1)) h.list.files fs h.entries };
      lists = record {
        list = list;
        there = Has-right base.snapshots (list ∷ []) list (inl refl);
        uuid_is = refl;
        entries = named entries have;
      };
      files_from = λ e m. entries_source entries base.files e m;
      lists_from = λ l m. elim (Has-either base.snapshots (list ∷ []) l m) [ inl h ↦ inl h | inr h ↦ inr (only l h) ];
    }
  where
    named : (es : List FileEntry) → ((e : FileEntry) → Has es e → Has (with_entries base.files entries) e)
        → AllPairs (λ (id : ℕ) (e : FileEntry). (e.name ≡ id) × Has (with_entries base.files entries) e) (map (λ (e : FileEntry). e.name) es) es
    named [] all = tt
    named (e ∷ es) all = ((refl, all e (inl refl)), named es (λ x m. all x (inr m)))

    only : (l : SnapList) → Has (record { uuid = uuid; files = map (λ (e : FileEntry). e.name) entries } ∷ []) l → l.uuid ≡ uuid
    only l (inl e) = ap (λ (x : SnapList). x.uuid) (sym e)
    only l (inr h) = absurd h

pub extended : (f : Formats) (size : ℕ) (base : ShardFiles) (uuid first : ℕ) (files : List (Bytes × Bytes)) → ((x : FileEntry) → Has base.files x → x.name < first)
    → Extends base (with_snap base uuid (entries_from f size base first files)) uuid (entries_from f size base first files)
extended f size base uuid first files below = extended_by base uuid (entries_from f size base first files) (λ e m. entries_there f size base files first base.files (λ x h. h) below e m)

-- so has that with a snapshot of files that are there
pub extended_old : (base : ShardFiles) (uuid : ℕ) (files : List FileEntry) → ((e : FileEntry) → Has files e → Has base.files e) → Extends base (with_snap base uuid files) uuid files
extended_old base uuid files old = extended_by base uuid files (λ e m. entries_keep files base.files e (old e m))

-- each file stands: a new one by its blobs, a reused one in the base
pub files_stand : (f : Formats) (has : BlobName → Bytes → Type 0) (i k size : ℕ) → 0 < size → (base : ShardFiles)
    → (files : List (Bytes × Bytes)) → ((e : FileEntry) (file : Bytes × Bytes) → Has files file → Has base.files e → e.len ≡ length file.1 → e.digest ≡ f.digest file.1 → FileStands f has i k e file.1)
    → (next : ℕ) → ((name : BlobName) (b : Bytes) → Has (new_blobs f size base i k next files) (name, b) → has name b)
    → AllPairs (λ (e : FileEntry) (file : Bytes × Bytes). (e.physical ≡ file.0) × FileStands f has i k e file.1) (entries_from f size base next files) files
files_stand f has i k size some base [] old next there = tt
files_stand f has i k size some base (file ∷ files) old next there = (
  one (reused_file f base file) refl,
  files_stand f has i k size some base files (λ e x m. old e x (inr m)) (next_by (reused_file f base file) next)
      (λ name b m. there name b (Has-right (blobs_by i k (entry_by f size next file (reused_file f base file)) file.1 (reused_file f base file)) _ (name, b) m)),
)
  where
    one : (o : Option FileEntry) → reused_file f base file ≡ o → ((entry_by f size next file (reused_file f base file)).physical ≡ file.0) × FileStands f has i k (entry_by f size next file (reused_file f base file)) file.1
    one None is =
        subst (λ o. ((entry_by f size next file o).physical ≡ file.0) × FileStands f has i k (entry_by f size next file o) file.1) (sym is) (
          refl,
          new_stands f has i k size next file some (λ name b m. there name b (Has-left (blobs_by i k (entry_by f size next file (reused_file f base file)) file.1 (reused_file f base file)) _ (name, b)
              (subst (λ o. Has (blobs_by i k (entry_by f size next file o) file.1 o) (name, b)) (sym is) m))),
        )
    one (Some e) is =
        let (m, physical, len, digest) = reused_is base.files file.0 (length file.1) (f.digest file.1) e is in
        subst (λ o. ((entry_by f size next file o).physical ≡ file.0) × FileStands f has i k (entry_by f size next file o) file.1) (sym is) (physical, old e file (inl refl) m len digest)

-- the entry of a file stands, with some bytes
abbrev EntryStands : Formats → (BlobName → Bytes → Type 0) → ℕ → ℕ → ℕ → ℕ → Bytes × Bytes → Option FileEntry → Type 0
EntryStands f has i k size next file o = (content : Bytes × Bytes) × (((entry_by f size next file o).physical ≡ content.0) × FileStands f has i k (entry_by f size next file o) content.1)

-- each file stands with some bytes: a new one with its own, a reused one with those that stand in the base
pub files_found : (f : Formats) (has : BlobName → Bytes → Type 0) (i k size : ℕ) → 0 < size → (base : ShardFiles) → ((e : FileEntry) → Has base.files e → (bytes : Bytes) × FileStands f has i k e bytes)
    → (files : List (Bytes × Bytes)) (next : ℕ) → ((name : BlobName) (b : Bytes) → Has (new_blobs f size base i k next files) (name, b) → has name b)
    → (stored : List (Bytes × Bytes)) × AllPairs (λ (e : FileEntry) (file : Bytes × Bytes). (e.physical ≡ file.0) × FileStands f has i k e file.1) (entries_from f size base next files) stored
files_found f has i k size some base old [] next there = ([], tt)
files_found f has i k size some base old (file ∷ files) next there =
    let first : EntryStands f has i k size next file (reused_file f base file) = one (reused_file f base file) refl in
    let rest = files_found f has i k size some base old files (next_by (reused_file f base file) next)
    (λ name b m. there name b (Has-right (blobs_by i k (entry_by f size next file (reused_file f base file)) file.1 (reused_file f base file)) _ (name, b) m)) in
    (first.0 ∷ rest.0, (first.1, rest.1))
  where
    one : (o : Option FileEntry) → reused_file f base file ≡ o → EntryStands f has i k size next file (reused_file f base file)
    one None is =
        subst (EntryStands f has i k size next file) (sym is) (
          file,
          (
            refl,
            new_stands f has i k size next file some (λ name b m. there name b (Has-left (blobs_by i k (entry_by f size next file (reused_file f base file)) file.1 (reused_file f base file)) _ (name, b)
                (subst (λ o. Has (blobs_by i k (entry_by f size next file o) file.1 o) (name, b)) (sym is) m))),
          ),
        )
    one (Some e) is =
        let (bytes, stands) = old e (reused_is base.files file.0 (length file.1) (f.digest file.1) e is).0 in
        subst (EntryStands f has i k size next file) (sym is) ((e.physical, bytes), (refl, stands))

module _ (f : Formats) (size : ℕ) (w : World) (shelf : List Shelved) (l : Law f w shelf) (k : ℕ) (t : Ticket) (out : IsOut w k t) (r : ShardResult) (is : t.work ≡ Shard r.index r.shard)
    (op : Op) (op_there : fin.get w.ops t.op ≡ Some op) (s : ShardWork) (s_there : Has op.shards s) (state : s.state ≡ Out k) (no_source : op.source ≡ None) (b : DoneBy f size t r) where
  abbrev files : List (Bytes × Bytes)
  files = b.files

  abbrev entries : List FileEntry
  entries = entries_from f size b.base t.first files

  law : WroteLaw f w.blobs t
  law = l.written k t out.there out.out (subst IsShard (sym is) tt)

  there : (name : BlobName) (bytes : Bytes) → Has (shard_blobs f size b.base r.index r.shard t.uuid t.first files) (name, bytes) → At f w.blobs name bytes
  there name bytes m = law.there name bytes (b.wrote name bytes m)

  drew : Drew t r.generation
  drew = let up : t.first ≤ id_after f b.base t.first files = after_up f b.base files t.first in let e : r.generation ≡ id_after f b.base t.first files = b.generation in let d : t.first + t.drawn ≡ suc r.generation = b.drew in
      record { from = omega (arith, up, e); below = omega (arith, d) }

  drew_first : Drew t t.first
  drew_first = let up : t.first ≤ r.generation = drew.from in let d : t.first + t.drawn ≡ suc r.generation = b.drew in record { from = omega arith; below = omega (arith, up, d) }

  -- the base that was fetched is the one that is there
  base_read : (g : ℕ) → t.base ≡ Some g → Reads (At f w.blobs) (ShardIndex r.index r.shard g) f.shard_index b.base
  base_read g e =
      let based : Based f t r.index r.shard (Some g) b.base = subst (λ o. Based f t r.index r.shard o b.base) e b.based in
      record { bytes = based.0; there = law.base r.index r.shard g based.0 is e based.1; reads = based.2 }

  none_base : t.base ≡ None → b.base ≡ no_files
  none_base e = subst (λ o. Based f t r.index r.shard o b.base) e b.based

  below_first : (x : FileEntry) → Has b.base.files x → x.name < t.first
  below_first x m = elim (told t.base) [
    | inl e ↦ absurd (subst (λ (h : ShardFiles). Has h.files x) (none_base e) m)
    | inr g ↦ law.fresh r.index r.shard g.0 b.base is g.1 (base_read g.0 g.1) x m t.first drew_first
  ]

  -- a file of the base stands
  base_file : (g : ℕ) → t.base ≡ Some g → (e : FileEntry) → Has b.base.files e → (bytes : Bytes) × FileStands f (At f w.blobs) r.index r.shard e bytes
  base_file g at e m =
      let ticket = l.lawful.sound.carried.shards k t out.there out.out r.index r.shard is in
      let stands = (subst (Base f (HeldIn f w) w.root w.ops r.index r.shard) at ticket.base).1.stands in
      let reads = base_read g at in
      let same : b.base ≡ stands.held = same_Some _ _ (sym reads.reads ∙ ap f.shard_index.read (same_Some _ _ (sym reads.there.0 ∙ stands.held_reads.there.0.0)) ∙ stands.held_reads.reads) in
      let (bytes, file) = stands.files e (subst (λ (h : ShardFiles). Has h.files e) same m) in
      (bytes, file_kept f (HeldIn f w) (At f w.blobs) (λ n c h. h.0) r.index r.shard e bytes file)

  old_file : (e : FileEntry) → Has b.base.files e → (bytes : Bytes) × FileStands f (At f w.blobs) r.index r.shard e bytes
  old_file e m = elim (told t.base) [
    | inl none ↦ absurd (subst (λ (h : ShardFiles). Has h.files e) (none_base none) m)
    | inr g ↦ base_file g.0 g.1 e m
  ]

  -- the new ones are there
  new_there : (name : BlobName) (bytes : Bytes) → Has (new_blobs f size b.base r.index r.shard t.first files) (name, bytes) → At f w.blobs name bytes
  new_there name bytes m = there name bytes (Has-left (new_blobs f size b.base r.index r.shard t.first files) _ (name, bytes) m)

  extends : (o : Option ℕ) → t.base ≡ o → ExtendsBase f (At f w.blobs) r.index r.shard o (with_snap b.base t.uuid entries) t.uuid entries
  extends None e = subst (λ (h : ShardFiles). Extends h (with_snap b.base t.uuid entries) t.uuid entries) (none_base e) (extended f size b.base t.uuid t.first files below_first)
  extends (Some g) e = (b.base, base_read g e, extended f size b.base t.uuid t.first files below_first)

  in_base : (o : Option ℕ) → t.base ≡ o → (e : FileEntry) → Has b.base.files e → InBase f (At f w.blobs) r.index r.shard o e
  in_base None at e m = subst (λ (h : ShardFiles). Has h.files e) (none_base at) m
  in_base (Some g) at e m = (b.base, base_read g at, m)

  snap_there : Reads (At f w.blobs) (ShardSnap r.index r.shard t.uuid) f.shard_snap (record { uuid = t.uuid; files = entries })
  snap_there = record { bytes = f.shard_snap.text (record { uuid = t.uuid; files = entries }); there = there _ _ (Has-right (new_blobs f size b.base r.index r.shard t.first files) _ _ (inl refl)); reads = b.snap_back }

  pub done_found : (new : World) → new
      ≡ record w { ops = fin.insert w.ops t.op (record op { shards = map (marked k (Done r)) op.shards }); tickets = fin.insert w.tickets k (record t { out = false }); completed = completing w.completed t.op (map (marked k (Done r)) op.shards) }
      → DoneFound f w k r new
  done_found new e =
      record {
        t = t;
        out = out;
        is = is;
        op = op;
        op_there = op_there;
        drew = drew;
        snap = record { uuid = t.uuid; files = entries };
        snap_reads = snap_there;
        held = with_snap b.base t.uuid entries;
        held_reads = record {
          bytes = f.shard_index.text (with_snap b.base t.uuid entries);
          there = subst (λ g. At f w.blobs (ShardIndex r.index r.shard g) (f.shard_index.text (with_snap b.base t.uuid entries))) (sym b.generation)
              (there _ _ (Has-right (new_blobs f size b.base r.index r.shard t.first files) _ _ (inr (inl refl))));
          reads = b.index_back;
        };
        extends = extends t.base refl;
        reused = λ x m. elim (entry_from f size b.base files t.first x m) [
          | inl base ↦ inr (in_base t.base refl x base)
          | inr new_one ↦
              let g : r.generation ≡ id_after f b.base t.first files = b.generation in
              let d : t.first + t.drawn ≡ suc r.generation = b.drew in
              let up : x.name < id_after f b.base t.first files = new_one.1 in
              inl (record { from = new_one.0; below = omega (arith, g, d, up) })
        ];
        s = s;
        s_there = s_there;
        state = state;
        files = subst (λ o. AreFilesOf f (At f w.blobs) o r.index r.shard entries) (sym no_source) (files_found f (At f w.blobs) r.index r.shard size b.size b.base old_file files t.first new_there);
        new_is = e;
      }

  number_is : s.number ≡ r.shard
  number_is =
      let held = l.lawful.sound.carried.held t.op op s k op_there s_there state in
      let same : held.t ≡ t = same_Some _ _ (sym held.there ∙ out.there) in
      number_same _ _ _ _ (sym held.work ∙ ap (λ (x : Ticket). x.work) same ∙ is)
    where
      number_same : (a b c d : ℕ) → Shard a b ≡ Shard c d → b ≡ d
      number_same a b c d e = cc

  -- where digests are honest it stands with the files that the source tells
  pub done_told : IsHonest f w.blobs → s.place ≡ t.place → s.ref.name ≡ t.name → f.told t.place t.name r.shard ≡ Some b.files → StandsAs f (At f w.blobs) r.index r.shard t.uuid (files_told f s.place s.ref.name s.number)
  done_told honest place_is name_is told_is =
      record {
        snap = record { uuid = t.uuid; files = entries };
        reads = snap_there;
        stand = subst (λ (fs : List (Bytes × Bytes)). AllPairs (λ (e : FileEntry) (file : Bytes × Bytes). (e.physical ≡ file.0) × FileStands f (At f w.blobs) r.index r.shard e file.1) entries fs)
            (of_place ∙ (λ j. files_told f (sym place_is j) (sym name_is j) (sym number_is j)))
            (files_stand f (At f w.blobs) r.index r.shard size b.size b.base files same_file t.first new_there);
      }
    where
      of_place : files ≡ files_told f t.place t.name r.shard
      of_place = λ j. or_no_files (sym told_is j)

      same_file : (e : FileEntry) (file : Bytes × Bytes) → Has files file → Has b.base.files e → e.len ≡ length file.1 → e.digest ≡ f.digest file.1 → FileStands f (At f w.blobs) r.index r.shard e file.1
      same_file e file fm m len digest =
          let (bytes, stands) = old_file e m in
          let same : bytes ≡ file.1 = honest t.place t.name r.shard file r.index r.shard e bytes (subst (λ fs. Has fs file) of_place fm) stands (stands.len ∙ len) (stands.digest ∙ digest) in
          subst (FileStands f (At f w.blobs) r.index r.shard e) same stands
