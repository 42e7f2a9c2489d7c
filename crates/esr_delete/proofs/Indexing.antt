-- The shard indices that a delete or cleanup writes, one after another.
use Rattle.std.proofs.Common.{◌≡◌, ◌⊎◌, ◌<◌, ◌≤◌, ◌^◌, inl, inr, ⊎_elim, ℕ, zero, suc, ◌+◌, Bool, true, false, List, [], ◌∷◌, ◌++◌, map, length, take, get_or, Option, Some, None, refl, sym, ap, ◌∙◌, subst, arith}
use Rattle.std.specs.Prelude.{if◌then◌else◌}
use Rattle.std.proofs.lemmas.List.{length-map, length-take-le}
use Rattle.std.proofs.lemmas.Bool.{cond-true, cond-false, cases_Bool}
use Rattle.esr_model.specs.Lists.{Has-left, Has-right}
use Rattle.esr_model.specs.Names.{BlobName, Latest, ShardIndex}
use Rattle.esr_model.specs.Values.{Bytes, Has, RootSnap, RootData, ShardFiles, Formats}
use Rattle.esr_model.specs.Delete.{PrunedShard, names_uuid, next_after, kept_count, left_snaps, left_uuids, uuids_of, surviving, is_index, index_bytes, files_by, files_read, left_text, pruned_blobs}
use Rattle.esr_core.specs.World.{Ticket, Work, Swap, swap_of, swap}
use Rattle.esr_core.specs.Pruning.{bare_shard, delete_swap}
use Rattle.esr_core.specs.Allowed.{IsUnlisted}
use Rattle.esr_core.specs.Laws.DeleteRoots.{deleted_snapshots}
use Rattle.esr_core.specs.Laws.DeletePlans.{of_root_apart, in_root, own_is}
use Rattle.esr_shardidx.specs.Indices.{IndexValue}
use Rattle.esr_formats.specs.Formats.{formats}
use Rattle.esr_formats.specs.Shards.{shard_index_of, shard_index_kind}
use Rattle.esr_results.specs.declared.pruned.PrunedShard.{PrunedShard as CodePruned}
use Rattle.esr_results.specs.Pruned.{pruned_of, no_shard}
use Rattle.esr_reach.specs.Held.{HeldShard, held_at}
use Rattle.esr_desk.specs.Start.{Start, formats_of}
use Rattle.esr_desk.specs.Conditions.{CanCommit}
use Rattle.esr_finish.specs.Ticket.{MayStore, noted_with, Wrote}
use Rattle.esr_finish.specs.SwapBlobs.{noted_before, swaps_no_shard}
use Rattle.esr_delete.specs.Planned.{IsDraft, Notes, NotesOwn, IsUnwritten, IsIndexOf}

-- ---- one index

files_bare : (blobs : List (BlobName × Bytes)) (p : PrunedShard) → index_bytes blobs p ≡ index_bytes blobs (bare_shard p.index p.number p.base)
files_bare [] p = refl
files_bare (b ∷ blobs) p = ap (λ (o : Option Bytes). if is_index p.index p.number p.base b.0 then Some b.1 else o) (files_bare blobs p)

pub read_bare : (f : Formats) (blobs : List (BlobName × Bytes)) (p : PrunedShard) → files_read f blobs p ≡ files_read f blobs (bare_shard p.index p.number p.base)
read_bare f blobs p = ap (files_by f) (files_bare blobs p)

-- the blobs of one shard
kept_blobs : (f : Formats) (read : List (BlobName × Bytes)) (left : List ℕ) (id : ℕ) (p : PrunedShard) → p.kept ≡ true
    → pruned_blobs f read left id (p ∷ []) ≡ (ShardIndex p.index p.number id, left_text f left (files_read f read p)) ∷ []
kept_blobs f read left id p kept = ap (λ (b : Bool). if b then (ShardIndex p.index p.number id, left_text f left (files_read f read p)) ∷ [] else []) kept

no_blobs : (f : Formats) (read : List (BlobName × Bytes)) (left : List ℕ) (id : ℕ) (p : PrunedShard) → p.kept ≡ false → pruned_blobs f read left id (p ∷ []) ≡ []
no_blobs f read left id p gone = ap (λ (b : Bool). if b then (ShardIndex p.index p.number id, left_text f left (files_read f read p)) ∷ [] else []) gone

-- the text of what is left, where the index was told
left_told : (s : Start) (left : List ℕ) (o : Option ShardFiles) (files : ShardFiles) → o ≡ Some files → left_text (formats_of s) left o ≡ shard_index_kind.text (surviving left files)
unfolding formats
left_told s left o files is = ap (left_text (formats_of s) left) is

by_tells : (tells : Bool) (a b : Bytes) → (tells ≡ true → b ≡ a) → (if tells then Some a else None) ≡ (if tells then Some b else None)
by_tells true a b same = ap (λ (x : Bytes). Some x) (sym (same refl))
by_tells false a b same = refl

some_files : (x y : ShardFiles) → ◌≡◌ {A = Option ShardFiles} (Some x) (Some y) → x ≡ y
some_files x y e = cc

-- the index that is held is that of the shard
pub is_own : (s : Start) (t : Ticket) (held : List HeldShard) (left : List ℕ) (p : PrunedShard) (id : ℕ) (is : IsIndexOf s t held left p id) (index : IndexValue)
    → ◌≡◌ {A = Option ShardFiles} (Some (shard_index_of index)) (held_at held p.index p.number) → shard_index_of index ≡ is.files
is_own s t held left p id is index found = some_files (shard_index_of index) is.files (found ∙ is.is_held)

pub may_store : (s : Start) (t : Ticket) (held : List HeldShard) (left : List ℕ) (p : PrunedShard) (id : ℕ) (files : ShardFiles) → (is : IsIndexOf s t held left p id) → files ≡ is.files → p.kept ≡ true
    → MayStore s t (ShardIndex p.index p.number id) (shard_index_kind.text (surviving left files))
may_store s t held left p id files is same kept =
    let text : ShardFiles → Bytes = λ (v : ShardFiles). shard_index_kind.text (surviving left v) in
    let told = left_text (formats_of s) left (files_read (formats_of s) t.read p) in
    (told, by_tells s.tells (text files) told (λ tells. left_told s left (files_read (formats_of s) t.read p) is.files (is.told tells) ∙ sym (ap text same)), is.may kept)

-- and so it was committed
pub notes_one : (s : Start) (old new : Ticket) (held : List HeldShard) (left : List ℕ) (p : PrunedShard) (id : ℕ) (files : ShardFiles) (is : IsIndexOf s old held left p id) → files ≡ is.files → p.kept ≡ true
    → Wrote old new ((ShardIndex p.index p.number id, shard_index_kind.text (surviving left files)) ∷ []) → Notes s old new (pruned_blobs (formats_of s) old.read left id (p ∷ []))
notes_one s old new held left p id files is same kept wrote =
    let name = ShardIndex p.index p.number id in
    let text : ShardFiles → Bytes = λ (v : ShardFiles). shard_index_kind.text (surviving left v) in
    let own = left_text (formats_of s) left (files_read (formats_of s) old.read p) in
    subst (Notes s old new) (sym (kept_blobs (formats_of s) old.read left id p kept)) (record {
      wrote = wrote.wrote;
      from = λ tells b has.
          let told : text files ≡ own = ap text same ∙ sym (left_told s left (files_read (formats_of s) old.read p) is.files (is.told tells)) in
          subst (λ (bytes : Bytes). Has old.wrote b ⊎ Has ((name, bytes) ∷ []) b) told (wrote.from b has);
      is = wrote.is;
    })

pub notes_not : (s : Start) (t : Ticket) (left : List ℕ) (p : PrunedShard) (id : ℕ) → p.kept ≡ false → Notes s t t (pruned_blobs (formats_of s) t.read left id (p ∷ []))
notes_not s t left p id gone = subst (Notes s t t) (sym (no_blobs (formats_of s) t.read left id p gone)) (record { wrote = t.wrote; from = λ tells b has. inl has; is = refl })

pub next_kept : (p : PrunedShard) (id : ℕ) → p.kept ≡ true → id + 1 ≡ next_after id p
next_kept p id kept = plus_one id ∙ sym (ap (λ (b : Bool). if b then suc id else id) kept)
  where
    plus_one : (n : ℕ) → n + 1 ≡ suc n
    plus_one n = omega arith

pub next_gone : (p : PrunedShard) (id : ℕ) → p.kept ≡ false → id ≡ next_after id p
next_gone p id gone = sym (ap (λ (b : Bool). if b then suc id else id) gone)

-- ---- one after another

noted_with-append : (xs ys : List (BlobName × Bytes)) (noted : List BlobName) → noted_with (xs ++ ys) noted ≡ noted_with ys (noted_with xs noted)
noted_with-append [] ys noted = refl
noted_with-append (x ∷ xs) ys noted = noted_with-append xs ys (x.0 ∷ noted)

pub notes_on : (s : Start) (a b c : Ticket) (xs ys : List (BlobName × Bytes)) → Notes s a b xs → Notes s b c ys → Notes s a c (xs ++ ys)
notes_on s a b c xs ys first second = record {
  wrote = second.wrote;
  from = λ tells x has. ⊎_elim
      (λ before. ⊎_elim (λ old. inl old) (λ one. inr (Has-left xs ys x one)) (first.from tells x (subst (λ (t : Ticket). Has t.wrote x) first.is before)))
      (λ one. inr (Has-right xs ys x one))
      (second.from tells x has);
  is =
      second.is
      ∙ ap (λ (t : Ticket). record t { noted = noted_with ys t.noted; wrote = second.wrote }) first.is
      ∙ ap (λ (noted : List BlobName). record a { noted = noted; wrote = second.wrote }) (sym (noted_with-append xs ys a.noted));
}

-- of the same snapshots
pub notes_none : (s : Start) (t : Ticket) → Notes s t t []
notes_none s t = record { wrote = t.wrote; from = λ tells b has. inl has; is = refl }

shifted : (a b : ℕ) → suc a + b ≡ a + suc b
shifted a b = omega arith

more_if : {A : Type 0} (b : Bool) (x : A) (first count : ℕ) (here after one : ℕ → List A) → ((n : ℕ) → after n ≡ here n ++ one (n + count))
    → (if b then x ∷ after (suc first) else after first) ≡ (if b then x ∷ here (suc first) else here first) ++ one (first + (if b then suc count else count))
more_if {A} true x first count here after one h = ap (λ (l : List A). x ∷ l) (h (suc first)) ∙ ap (λ (n : ℕ). x ∷ (here (suc first) ++ one n)) (shifted first count)
more_if false x first count here after one h = h first

plus_none : (n : ℕ) → n ≡ n + 0
plus_none n = omega arith

-- the blobs of one shard more
blobs_more : (f : Formats) (read : List (BlobName × Bytes)) (left : List ℕ) (first : ℕ) (xs : List PrunedShard) (p : PrunedShard)
    → pruned_blobs f read left first (xs ++ p ∷ []) ≡ pruned_blobs f read left first xs ++ pruned_blobs f read left (first + kept_count xs) (p ∷ [])
blobs_more f read left first [] p = ap (λ (n : ℕ). pruned_blobs f read left n (p ∷ [])) (plus_none first)
blobs_more f read left first (x ∷ xs) p =
    more_if x.kept (ShardIndex x.index x.number first, left_text f left (files_read f read x)) first (kept_count xs)
    (λ n. pruned_blobs f read left n xs) (λ n. pruned_blobs f read left n (xs ++ p ∷ [])) (λ n. pruned_blobs f read left n (p ∷ []))
    (λ n. blobs_more f read left n xs p)

if_both : (a b : Bool) (n : ℕ) → (if a then suc (if b then suc n else n) else (if b then suc n else n)) ≡ (if b then suc (if a then suc n else n) else (if a then suc n else n))
if_both true true n = refl
if_both false true n = refl
if_both a b n = refl

count_more : (xs : List PrunedShard) (p : PrunedShard) → kept_count (xs ++ p ∷ []) ≡ next_after (kept_count xs) p
count_more [] p = refl
count_more (x ∷ xs) p = ap (λ (n : ℕ). next_after n x) (count_more xs p) ∙ if_both x.kept p.kept (kept_count xs)

suc_plus : (m n : ℕ) → suc (m + n) ≡ m + suc n
suc_plus m n = omega arith

plus_if : (b : Bool) (m n : ℕ) → (if b then suc (m + n) else m + n) ≡ m + (if b then suc n else n)
plus_if true m n = suc_plus m n
plus_if false m n = refl

pub next_more : (first : ℕ) (xs : List PrunedShard) (p : PrunedShard) → next_after (first + kept_count xs) p ≡ first + kept_count (xs ++ p ∷ [])
next_more first xs p = plus_if p.kept first (kept_count xs) ∙ ap (λ (n : ℕ). first + n) (sym (count_more xs p))

count_le : (xs : List PrunedShard) → kept_count xs ≤ length xs
count_le [] = omega arith
count_le (x ∷ xs) = one_le x.kept (kept_count xs) (length xs) (count_le xs)
  where
    one_le : (b : Bool) (n m : ℕ) → n ≤ m → (if b then suc n else n) ≤ suc m
    one_le true n m le = omega (arith, le)
    one_le false n m le = omega (arith, le)

pub first_next : (first : ℕ) → first ≡ first + kept_count []
first_next first = plus_none first

-- there is room for one id more
pub has_room : (items shards : List CodePruned) (first k id : ℕ) → items ≡ shards → k < length items → id ≡ first + kept_count (map pruned_of (take k items)) → first + length (map pruned_of shards) < 2 ^ 128 → id + 1 < 2 ^ 128
has_room items shards first k id same less is range =
    let before = map pruned_of (take k items) in
    let count : kept_count before ≤ length before = count_le before in
    let len : length before ≡ k = length-map (take k items) pruned_of ∙ length-take-le k items (omega (arith, less)) in
    let whole : length (map pruned_of shards) ≡ length items = length-map shards pruned_of ∙ ap (λ (xs : List CodePruned). length xs) (sym same) in
    omega (arith, count, len, whole, less, is, range)

-- ---- the next index is one of the plan

has_if : {A : Type 0} (b : Bool) (x : A) (first count : ℕ) (here : ℕ → List A) (y : ℕ → A) → ((n : ℕ) → Has (here n) (y (n + count)))
    → Has (if b then x ∷ here (suc first) else here first) (y (first + (if b then suc count else count)))
has_if {A} true x first count here y h = inr (subst (λ (n : ℕ). Has (here (suc first)) (y n)) (shifted first count) (h (suc first)))
has_if false x first count here y h = h first

own_at : (f : Formats) (read : List (BlobName × Bytes)) (left : List ℕ) (items : List CodePruned) (k first : ℕ) → k < length items → (pruned_of (get_or items k no_shard)).kept ≡ true
    → Has (pruned_blobs f read left first (map pruned_of items))
    (ShardIndex (pruned_of (get_or items k no_shard)).index (pruned_of (get_or items k no_shard)).number (first + kept_count (map pruned_of (take k items))), left_text f left (files_read f read (pruned_of (get_or items k no_shard))))
own_at f read left [] k first less kept = absurd (omega arith)
own_at f read left (x ∷ items) zero first less kept =
    let p = pruned_of x in
    let blob : ℕ → BlobName × Bytes = λ (n : ℕ). (ShardIndex p.index p.number n, left_text f left (files_read f read p)) in
    subst (λ (b : Bool). Has (if b then blob first ∷ pruned_blobs f read left (suc first) (map pruned_of items) else pruned_blobs f read left first (map pruned_of items)) (blob (first + 0))) (sym kept) (inl (ap blob (plus_none first)))
own_at f read left (x ∷ items) (suc k) first less kept =
    let p = pruned_of (get_or items k no_shard) in
    has_if (pruned_of x).kept (ShardIndex (pruned_of x).index (pruned_of x).number first, left_text f left (files_read f read (pruned_of x))) first (kept_count (map pruned_of (take k items))) (λ n. pruned_blobs f read left n (map pruned_of items))
    (λ n. (ShardIndex p.index p.number n, left_text f left (files_read f read p))) (λ n. own_at f read left items k n (omega arith) kept)

own_there : (f : Formats) (read : List (BlobName × Bytes)) (left us : List ℕ) (items shards : List CodePruned) (k first id : ℕ) → left ≡ us → items ≡ shards → id ≡ first + kept_count (map pruned_of (take k items))
    → k < length items → (pruned_of (get_or items k no_shard)).kept ≡ true
    → Has (pruned_blobs f read us first (map pruned_of shards)) (ShardIndex (pruned_of (get_or items k no_shard)).index (pruned_of (get_or items k no_shard)).number id, left_text f left (files_read f read (pruned_of (get_or items k no_shard))))
own_there f read left us items shards k first id left_is same id_is less kept =
    let p = pruned_of (get_or items k no_shard) in
    subst (λ (n : ℕ). Has (pruned_blobs f read us first (map pruned_of shards)) (ShardIndex p.index p.number n, left_text f left (files_read f read p))) (sym id_is)
    (subst (λ (xs : List CodePruned). Has (pruned_blobs f read us first (map pruned_of xs)) (ShardIndex p.index p.number (first + kept_count (map pruned_of (take k items))), left_text f left (files_read f read p))) same
    (subst (λ (vs : List ℕ). Has (pruned_blobs f read vs first (map pruned_of items)) (ShardIndex p.index p.number (first + kept_count (map pruned_of (take k items))), left_text f left (files_read f read p))) left_is
    (own_at f read left items k first less kept)))

-- ---- its name is new

same_number : (i k g j l h : ℕ) → ShardIndex i k g ≡ ShardIndex j l h → g ≡ h
same_number i k g j l h e = cc

pub unnoted_next : (f : Formats) (read : List (BlobName × Bytes)) (left : List ℕ) (before : List PrunedShard) (first index number : ℕ)
    → Has (noted_with (pruned_blobs f read left first before) []) (ShardIndex index number (first + kept_count before)) → ⊥
unnoted_next f read left before first index number has =
    let name = ShardIndex index number (first + kept_count before) in
    noted_before (pruned_blobs f read left first before) [] name
    (λ b one same.
    let own = own_is f read left before first b.0 b.1 one in
    let id : own.id ≡ first + kept_count before = same_number own.q.index own.q.number own.id index number (first + kept_count before) (sym own.name_is ∙ same) in
    let below = own.below in
    omega (arith, id, below))
    has

-- ---- the snapshots that are left

left_listed : (uuids : List ℕ) (ss : List RootSnap) → map (λ (s : RootSnap). s.uuid) (left_snaps uuids ss) ≡ left_uuids uuids (map (λ (s : RootSnap). s.uuid) ss)
left_listed uuids [] = refl
left_listed uuids (x ∷ ss) = elim (cases_Bool (names_uuid uuids x.uuid)) [
  | inl b ↦ ap (map (λ (s : RootSnap). s.uuid)) (cond-true _ _ _ b) ∙ left_listed uuids ss ∙ sym (cond-true _ _ _ b)
  | inr b ↦ ap (map (λ (s : RootSnap). s.uuid)) (cond-false _ _ _ b) ∙ ap (λ (us : List ℕ). x.uuid ∷ us) (left_listed uuids ss) ∙ sym (cond-false _ _ _ b)
]

pub left_of_draft : (s : Start) (t : Ticket) (uuids : List ℕ) (held : List HeldShard) (shards : List PrunedShard) (first : ℕ) (root : RootData) → IsDraft s t uuids held shards first root → uuids_of root ≡ left_uuids uuids (uuids_of t.root)
left_of_draft s t uuids held shards first root d =
    ap uuids_of d.root_is ∙ ap (map (λ (x : RootSnap). x.uuid)) (deleted_snapshots t.root d.one_each uuids shards first (of_root_apart t.root shards d.of_root)) ∙ left_listed uuids t.root.snapshots

-- ---- what the next shard may do

not_latest : (i k g : ℕ) → ShardIndex i k g ≡ Latest → ⊥
not_latest i k g e = cc

-- the plan is its swap, and stays it
pub plan_is : (s : Start) (t : Ticket) (held : List HeldShard) (shards : List PrunedShard) (first : ℕ) (root : RootData) (free : IsUnwritten s t held shards first root)
    → swap (formats_of s) t ≡ Some (delete_swap (formats_of s) t.clean t.root t.read free.uuids shards first)
plan_is s t held shards first root free = ap (λ (w : Work). swap_of (formats_of s) w t.root) free.work

-- the next one may be committed, where it is among the blobs of the plan and isn't noted
can_commit : (s : Start) (t : Ticket) (change : Swap) (index number id : ℕ) (text : Bytes) → t.out ≡ true → t.settled ≡ false → IsUnlisted t → swap (formats_of s) t ≡ Some change → Has change.own (ShardIndex index number id, text)
    → (Has t.noted (ShardIndex index number id) → ⊥)
    → CanCommit s t (ShardIndex index number id) text
can_commit s t change index number id text out unsettled unlisted is own unnoted = record {
  out = out;
  unsettled = unsettled;
  may = inl (change, is, inl own);
  stored = not_latest index number id;
  once = λ other. unnoted;
  numbered = λ i k shard. absurd (swaps_no_shard (formats_of s) t.work t.root change is i k shard);
  late = λ us plan deletes clean. inl unlisted;
}

-- so it is of the ticket that has noted those before it
index_at : (s : Start) (old : Ticket) (held : List HeldShard) (items shards : List CodePruned) (k first id : ℕ) (root : RootData) (left : List ℕ) (wrote : List (BlobName × Bytes)) (free : IsUnwritten s old held (map pruned_of shards) first root)
    → items ≡ shards → k < length items → left ≡ left_uuids free.uuids (uuids_of old.root) → id ≡ first + kept_count (map pruned_of (take k items)) → Has (map pruned_of shards) (pruned_of (get_or items k no_shard))
    → IsIndexOf s (record old { noted = noted_with (pruned_blobs (formats_of s) old.read left first (map pruned_of (take k items))) old.noted; wrote = wrote }) held left (pruned_of (get_or items k no_shard)) id
index_at s old held items shards k first id root left wrote free same less left_is id_is there =
    let f = formats_of s in
    let p = pruned_of (get_or items k no_shard) in
    let d = free.draft in
    let before = map pruned_of (take k items) in
    let some = d.some_held p there in
    let of_p : held_at held p.index p.number ≡ files_read f d.blobs p = d.are_held p.index p.number p.base (in_root old.root (map pruned_of shards) p d.of_root there) ∙ sym (read_bare f d.blobs p) in
    let change = delete_swap f old.clean old.root old.read free.uuids (map pruned_of shards) first in
    let noted = noted_with (pruned_blobs f old.read left first before) old.noted in
    let mid : Ticket = record old { noted = noted; wrote = wrote } in
    let unnoted : Has noted (ShardIndex p.index p.number id) → ⊥ =
    λ has. unnoted_next f old.read left before first p.index p.number
    (subst (λ (n : ℕ). Has (noted_with (pruned_blobs f old.read left first before) []) (ShardIndex p.index p.number n)) id_is
    (subst (λ (ns : List BlobName). Has (noted_with (pruned_blobs f old.read left first before) ns) (ShardIndex p.index p.number id)) free.unnoted has)) in
    record {
      files = some.0;
      is_held = some.1;
      told = λ tells. ap (λ (blobs : List (BlobName × Bytes)). files_read f blobs p) (d.told tells) ∙ sym of_p ∙ some.1;
      may = λ kept. can_commit s mid change p.index p.number id (left_text f left (files_read f old.read p)) free.out free.unsettled
          (record { listed = free.unlisted.listed; whole = free.unlisted.whole }) (plan_is s old held (map pruned_of shards) first root free)
          (own_there f old.read left (left_uuids free.uuids (uuids_of old.root)) items shards k first id left_is same id_is less kept) unnoted;
      new = λ kept. unnoted;
    }

pub index_of : (s : Start) (old mid : Ticket) (held : List HeldShard) (items shards : List CodePruned) (k first id : ℕ) (root : RootData) (left : List ℕ) (free : IsUnwritten s old held (map pruned_of shards) first root) → items ≡ shards
    → k < length items
    → left ≡ left_uuids free.uuids (uuids_of old.root) → id ≡ first + kept_count (map pruned_of (take k items)) → Notes s old mid (pruned_blobs (formats_of s) old.read left first (map pruned_of (take k items)))
    → Has (map pruned_of shards) (pruned_of (get_or items k no_shard)) → IsIndexOf s mid held left (pruned_of (get_or items k no_shard)) id
index_of s old mid held items shards k first id root left free same less left_is id_is notes there =
    subst (λ (t : Ticket). IsIndexOf s t held left (pruned_of (get_or items k no_shard)) id) (sym notes.is) (index_at s old held items shards k first id root left notes.wrote free same less left_is id_is there)

-- ---- all of them

-- one more of them was committed
pub notes_more : (s : Start) (old mid new : Ticket) (items : List CodePruned) (k first id : ℕ) (left : List ℕ) (item : CodePruned) → map pruned_of (take (k + 1) items) ≡ map pruned_of (take k items) ++ pruned_of item ∷ []
    → id ≡ first + kept_count (map pruned_of (take k items))
    → Notes s old mid (pruned_blobs (formats_of s) old.read left first (map pruned_of (take k items))) → Notes s mid new (pruned_blobs (formats_of s) mid.read left id (pruned_of item ∷ []))
    → Notes s old new (pruned_blobs (formats_of s) old.read left first (map pruned_of (take (k + 1) items)))
notes_more s old mid new items k first id left item more id_is first_notes second =
    let f = formats_of s in
    let before = map pruned_of (take k items) in
    let p = pruned_of item in
    let read : mid.read ≡ old.read = ap (λ (t : Ticket). t.read) first_notes.is in
    let next : Notes s mid new (pruned_blobs f old.read left (first + kept_count before) (p ∷ [])) =
    subst (λ (n : ℕ). Notes s mid new (pruned_blobs f old.read left n (p ∷ []))) id_is (subst (λ (r : List (BlobName × Bytes)). Notes s mid new (pruned_blobs f r left id (p ∷ []))) read second) in
    subst (Notes s old new) (sym (blobs_more f old.read left first before p) ∙ ap (pruned_blobs f old.read left first) (sym more))
    (notes_on s old mid new (pruned_blobs f old.read left first before) (pruned_blobs f old.read left (first + kept_count before) (p ∷ [])) first_notes next)

pub notes_all : (s : Start) (old new : Ticket) (held : List HeldShard) (shards : List PrunedShard) (first : ℕ) (root : RootData) (left : List ℕ) (free : IsUnwritten s old held shards first root)
    → left ≡ left_uuids free.uuids (uuids_of old.root)
    → Notes s old new (pruned_blobs (formats_of s) old.read left first shards) → NotesOwn s old new
notes_all s old new held shards first root left free left_is notes = record {
  change = delete_swap (formats_of s) old.clean old.root old.read free.uuids shards first;
  is = plan_is s old held shards first root free;
  notes = subst (λ (us : List ℕ). Notes s old new (pruned_blobs (formats_of s) old.read us first shards)) left_is notes;
}
