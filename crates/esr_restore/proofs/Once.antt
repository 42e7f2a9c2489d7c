-- No blob is read twice.
use Rattle.std.proofs.Common.{◌≡◌, inl, inr, ℕ, zero, suc, ◌+◌, ◌-◌, ◌<◌, nat_le, true, false, List, [], ◌∷◌, ◌++◌, length, take, get_or, append-nil, append_assoc, refl, sym, ap, ◌∙◌, subst, true≢false, arith}
use Rattle.std.specs.Prelude.{if◌then◌else◌}
use Rattle.std.specs.List.{list_any}
use Rattle.std.proofs.lemmas.Bool.{eq-eqb, or_parts}
use Rattle.std.proofs.lemmas.List.{take_more}
use Rattle.esr_model.specs.Lists.{Has-left}
use Rattle.esr_names.specs.declared.blob.ShardId.{ShardId}
use Rattle.esr_names.specs.declared.blob.BlobName.TheVariants as code
use Rattle.esr_model.specs.Names.{BlobName, ShardSnap, File, Part}
use Rattle.esr_model.specs.Values.{Has}
use Rattle.esr_core.specs.Entry.{ReadBlob, ReadStep, Moment}
use Rattle.esr_shardidx.specs.declared.entry.FileEntry.{FileEntry as CodeEntry}
use Rattle.esr_shardidx.specs.Parts.{part_count, part_name}
use Rattle.esr_shardidx.specs.Snapshots.{SnapValue, has_name, AreSnapFiles, IsShardSnap}
use Rattle.esr_formats.specs.Names.{name_of}
use Rattle.esr_desk.specs.Start.{Start}
use Rattle.esr_desk.specs.Once.{IsFresh}
use Rattle.esr_desk.specs.Made.{ReadsOnly, reads_on, reads_more, still_unread}
use Rattle.esr_restore.specs.Unread.{AreUnread, IsPartOf, IsPartBefore, IsPartOfAny}
use Rattle.esr_restore.specs.PartsApart.{parts_differ}

-- ---- parts

-- the next part is unread
pub part_unread : (s : Start) (old now : List Moment) (who : ℕ) (at : ShardId) (e : CodeEntry) (k : ℕ) → AreUnread s old who (IsPartOf at e) → k < part_count e.print.len e.part_size → ReadsOnly s old now who (IsPartBefore at e k)
    → IsFresh s now who (ReadStep (ReadBlob (name_of (part_name at e k))))
part_unread s old now who at e k unread within reads =
    let name = name_of (part_name at e k) in
    still_unread s old now who name (IsPartBefore at e k) (unread name (k, refl)) reads (λ before. parts_differ at e before.0 k before.1 within before.2)

pub part_more : (s : Start) (old mid new : List Moment) (who : ℕ) (at : ShardId) (e : CodeEntry) (k : ℕ) → ReadsOnly s old mid who (IsPartBefore at e k) → ReadsOnly s mid new who (λ n. n ≡ name_of (part_name at e k))
    → ReadsOnly s old new who (IsPartBefore at e (k + 1))
part_more s old mid new who at e k first second =
    reads_on s old mid new who (IsPartBefore at e (k + 1))
    (reads_more s old mid who (IsPartBefore at e k) (IsPartBefore at e (k + 1)) (λ name before. let less : before.0 < k = before.1 in (before.0, omega (arith, less), before.2)) first)
    (reads_more s mid new who (λ n. n ≡ name_of (part_name at e k)) (IsPartBefore at e (k + 1)) (λ name same. (k, omega arith, sym same)) second)

pub parts_all : (s : Start) (old new : List Moment) (who : ℕ) (at : ShardId) (e : CodeEntry) (k : ℕ) → ReadsOnly s old new who (IsPartBefore at e k) → ReadsOnly s old new who (IsPartOf at e)
parts_all s old new who at e k reads = reads_more s old new who (IsPartBefore at e k) (IsPartOf at e) (λ name before. (before.0, before.2)) reads

-- ---- files

-- the id under which a blob of a file is stored, 0 for any other
abbrev file_of : BlobName → ℕ
file_of (File index number file) = file
file_of (Part index number file part) = file
file_of name = 0

file_is : (at : ShardId) (e : CodeEntry) (k : ℕ) → file_of (name_of (part_name at e k)) ≡ e.name.number
file_is at e k = elim (nat_le e.print.len e.part_size) as (λ b. file_of (name_of (if b then code.Whole at e.name else code.Part at e.name k)) ≡ e.name.number) [ true ↦ refl | false ↦ refl ]

ids_at : (before es : List CodeEntry) (k : ℕ) (d : CodeEntry) → AreSnapFiles before es → k < length es → list_any (has_name (get_or es k d).name) (before ++ take k es) ≡ false
ids_at before [] k d are less = absurd (omega arith)
ids_at before (e ∷ es) zero d are less = ap (list_any (has_name e.name)) (append-nil before) ∙ are.2
ids_at before (e ∷ es) (suc k) d are less = ap (list_any (has_name (get_or es k d).name)) (sym (append_assoc before (e ∷ []) (take k es))) ∙ ids_at (before ++ e ∷ []) es k d are.3 (omega arith)

no_twin : (e : CodeEntry) (before : List CodeEntry) (b : CodeEntry) → list_any (has_name e.name) before ≡ false → Has before b → b.name.number ≡ e.name.number → ⊥
no_twin e [] b free none same = none
no_twin e (x ∷ before) b free (inl here) same =
    let id = subst (λ (y : CodeEntry). has_name e.name y ≡ false) here (or_parts (has_name e.name x) (list_any (has_name e.name) before) free).0 in
    true≢false (sym (eq-eqb b.name.number e.name.number same) ∙ id)
no_twin e (x ∷ before) b free (inr later) same = no_twin e before b (or_parts (has_name e.name x) (list_any (has_name e.name) before) free).1 later same

has_at : (es : List CodeEntry) (k : ℕ) (e : CodeEntry) → k < length es → e ≡ get_or es k e → Has es e
has_at [] k e less is = absurd (omega (arith, less))
has_at (x ∷ es) zero e less is = inl (sym is)
has_at (x ∷ es) (suc k) e less is = let fewer : k < length es = omega (arith, less) in inr (has_at es k e fewer is)

-- a part of this file is one of no file before it
one_file : (at : ShardId) (snap : SnapValue) (k : ℕ) (e : CodeEntry) (name : BlobName) → IsShardSnap snap → k < length snap.files → e ≡ get_or snap.files k e → IsPartOf at e name → IsPartOfAny at (take k snap.files) name → ⊥
one_file at snap k e name whole less is (j, own) (r, has, (i, old)) =
    let id : r.name.number ≡ e.name.number = sym (file_is at r i) ∙ ap file_of (old ∙ sym own) ∙ file_is at e j in
    no_twin e (take k snap.files) r (subst (λ (x : CodeEntry). list_any (has_name x.name) (take k snap.files) ≡ false) (sym is) (ids_at [] snap.files k e whole.files less)) has id

-- the parts of the next file are unread
pub file_unread : (s : Start) (old now : List Moment) (who : ℕ) (at : ShardId) (snap : SnapValue) (k : ℕ) (e : CodeEntry) → IsShardSnap snap → k < length snap.files → e ≡ get_or snap.files k e
    → AreUnread s old who (IsPartOfAny at snap.files) → ReadsOnly s old now who (IsPartOfAny at (take k snap.files)) → AreUnread s now who (IsPartOf at e)
file_unread s old now who at snap k e whole less is unread reads name part =
    still_unread s old now who name (IsPartOfAny at (take k snap.files)) (unread name (e, has_at snap.files k e less is, part)) reads
    (one_file at snap k e name whole less is part)

has_last : {A : Type 0} (xs : List A) (y : A) → Has (xs ++ y ∷ []) y
has_last [] y = inl refl
has_last (x ∷ xs) y = inr (has_last xs y)

any_left : (at : ShardId) (xs ys : List CodeEntry) (name : BlobName) → IsPartOfAny at xs name → IsPartOfAny at (xs ++ ys) name
any_left at xs ys name (r, has, part) = (r, Has-left xs ys r has, part)

pub file_more : (s : Start) (old mid new : List Moment) (who : ℕ) (at : ShardId) (es : List CodeEntry) (k : ℕ) (e : CodeEntry) → k < length es → e ≡ get_or es k e
    → ReadsOnly s old mid who (IsPartOfAny at (take k es)) → ReadsOnly s mid new who (IsPartOf at e) → ReadsOnly s old new who (IsPartOfAny at (take (k + 1) es))
file_more s old mid new who at es k e less is first second =
    let more : take (k + 1) es ≡ take k es ++ e ∷ [] = take_more es k e less ∙ ap (λ (x : CodeEntry). take k es ++ x ∷ []) (sym is) in
    let all = IsPartOfAny at (take k es ++ e ∷ []) in
    subst (λ (xs : List CodeEntry). ReadsOnly s old new who (IsPartOfAny at xs)) (sym more)
    (reads_on s old mid new who all
    (reads_more s old mid who (IsPartOfAny at (take k es)) all (λ name before. any_left at (take k es) (e ∷ []) name before) first)
    (reads_more s mid new who (IsPartOf at e) all (λ name part. (e, has_last (take k es) e, part)) second))

-- ---- after the snapshot of the shard

not_snap : (at : ShardId) (uuid : ℕ) (e : CodeEntry) (k : ℕ) → name_of (part_name at e k) ≡ ShardSnap at.index.number at.number uuid → ⊥
not_snap at uuid e k =
    elim (nat_le e.print.len e.part_size) as (λ b. name_of (if b then code.Whole at e.name else code.Part at e.name k) ≡ ShardSnap at.index.number at.number uuid → ⊥) [
      | true ↦ λ same. whole same
      | false ↦ λ same. part same
    ]
  where
    whole : File at.index.number at.number e.name.number ≡ ShardSnap at.index.number at.number uuid → ⊥
    whole same = cc

    part : Part at.index.number at.number e.name.number k ≡ ShardSnap at.index.number at.number uuid → ⊥
    part same = cc

not_any : (at : ShardId) (uuid : ℕ) (es : List CodeEntry) (name : BlobName) → IsPartOfAny at es name → name ≡ ShardSnap at.index.number at.number uuid → ⊥
not_any at uuid es name (r, has, (i, part)) same = not_snap at uuid r i (part ∙ same)

pub files_unread : (s : Start) (old now : List Moment) (who : ℕ) (at : ShardId) (uuid : ℕ) (es : List CodeEntry) → ((name : BlobName) → IsFresh s old who (ReadStep (ReadBlob name)))
    → ReadsOnly s old now who (λ n. n ≡ ShardSnap at.index.number at.number uuid) → AreUnread s now who (IsPartOfAny at es)
files_unread s old now who at uuid es unread reads name part = still_unread s old now who name (λ n. n ≡ ShardSnap at.index.number at.number uuid) (unread name) reads (not_any at uuid es name part)
