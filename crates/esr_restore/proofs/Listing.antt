-- The files of a shard, one after another.
use Rattle.std.proofs.Common.{◌≡◌, inl, inr, ℕ, zero, suc, ◌+◌, ◌<◌, ◌≤◌, true, List, [], ◌∷◌, ◌++◌, length, take, map, get_or, slice_index_or, Option, Some, None, IfSome, option_map, refl, sym, ap, ◌∙◌, subst, arith}
use Rattle.std.proofs.lemmas.List.{take_all, take_more}
use Rattle.std.proofs.lemmas.Map.Text.{is_eq-slice_cmp}
use Rattle.std.proofs.lemmas.Slice.Eq.{bytes_eq-Decides}
use Rattle.std.specs.List.{AllByRecursion, Contains}
use Rattle.std.specs.Ordering.{nat_cmp, is_lt, is_eq}
use Rattle.std.specs.declared.cmp.Ordering.{Ordering}
use Rattle.std.specs.declared.cmp.Ordering.TheVariants.{Less, Equal, Greater}
use Rattle.std.specs.Cmp.Lexicographic.{slice_cmp}
use Rattle.esr_names.specs.declared.blob.ShardId.{ShardId}
use Rattle.esr_model.specs.Values.{Bytes, Has}
use Rattle.esr_model.specs.Parts.{part_names}
use Rattle.esr_model.specs.Image.{AllPairs}
use Rattle.esr_core.specs.World.{Reader}
use Rattle.esr_core.specs.Restores.{WasRead}
use Rattle.esr_shardidx.specs.declared.entry.FileEntry.{FileEntry as CodeEntry}
use Rattle.esr_shardidx.specs.Entries.{is_below, IsEntry}
use Rattle.esr_shardidx.specs.Snapshots.{SnapValue, IsShardSnap, NamesRise}
use Rattle.esr_shardidx.specs.NamesRise.{snap_names_rise}
use Rattle.esr_shardidx.specs.RoundTrip.{entries_of}
use Rattle.esr_model.specs.Lists.{AllPairs-snoc}
use Rattle.esr_formats.specs.Shards.{entry_of, shard_snap_of}
use Rattle.esr_desk.specs.Start.{Start}
use Rattle.esr_restore.specs.Worked.{Worked}
use Rattle.esr_restore.specs.Snapped.{HasSnap, IsListed}
use Rattle.esr_restore.specs.Files.{IsFile, RestoredFile, RestoredAll}
use Rattle.esr_restore.specs.Pairs.{pairs_map}

-- ---- the entries of a snapshot

all_at : (P : CodeEntry → Type 0) (es : List CodeEntry) (k : ℕ) (e : CodeEntry) → AllByRecursion P es → k < length es → e ≡ get_or es k e → P e
all_at P [] k e all less is = absurd (omega (arith, less))
all_at P (x ∷ es) zero e all less is = subst P (sym is) all.0
all_at P (x ∷ es) (suc k) e all less is = let fewer : k < length es = omega (arith, less) in all_at P es k e all.1 fewer is

has_at : (es : List CodeEntry) (k : ℕ) (e : CodeEntry) → k < length es → e ≡ get_or es k e → Has (map entry_of es) (entry_of e)
has_at [] k e less is = absurd (omega (arith, less))
has_at (x ∷ es) zero e less is = inl (ap entry_of (sym is))
has_at (x ∷ es) (suc k) e less is = let fewer : k < length es = omega (arith, less) in inr (has_at es k e fewer is)

pub entry_at : (snap : SnapValue) (k : ℕ) (e : CodeEntry) → IsShardSnap snap → k < length snap.files → e ≡ get_or snap.files k e → IsEntry e
entry_at snap k e whole less is = all_at IsEntry snap.files k e (entries_of [] snap.files whole.files) less is

pub listed_at : (s : Start) (q : Reader) (snap : SnapValue) (k : ℕ) (e : CodeEntry) → HasSnap s q snap → k < length snap.files → e ≡ get_or snap.files k e → IsListed s q e
listed_at s q snap k e read less is = record { snap = shard_snap_of snap; snap_read = read; listed = has_at snap.files k e less is }

-- ---- no name stands twice

no_lt : (o : Ordering) → is_eq o ≡ true → is_lt o ≡ true → ⊥
no_lt Less same less = cc
no_lt Equal same less = cc
no_lt Greater same less = cc

not_below : (name : List ℕ) → is_below name name ≡ true → ⊥
not_below name less = no_lt (slice_cmp nat_cmp name name) (is_eq-slice_cmp name name ∙ (bytes_eq-Decides name name).1 refl) less

rises_take : (es : List CodeEntry) (k : ℕ) (e : CodeEntry) → NamesRise es → k < length es → e ≡ get_or es k e → AllByRecursion (λ f. is_below f.physical e.physical ≡ true) (take k es)
rises_take [] k e rises less is = absurd (omega (arith, less))
rises_take (x ∷ es) zero e rises less is = tt
rises_take (x ∷ es) (suc k) e rises less is =
    let fewer : k < length es = omega (arith, less) in
    (all_at (λ f. is_below x.physical f.physical ≡ true) es k e rises.0 fewer is, rises_take es k e rises.1 fewer is)

not_in : (s : Start) (q : Reader) (at : ShardId) (name : Bytes) (es : List CodeEntry) (held : List (Bytes × Bytes)) → AllPairs (IsFile s q at) es held → AllByRecursion (λ f. is_below f.physical name ≡ true) es
    → (k : ℕ) → k < length (map (λ (f : Bytes × Bytes). f.0) held) → slice_index_or (map (λ (f : Bytes × Bytes). f.0) held) k name ≡ name → ⊥
not_in s q at name [] [] each below k less is = omega (arith, less)
not_in s q at name (e ∷ es) (h ∷ held) each below zero less is = not_below name (subst (λ (n : Bytes). is_below n name ≡ true) (each.0.0 ∙ is) below.0)
not_in s q at name (e ∷ es) (h ∷ held) each below (suc k) less is = let fewer : k < length (map (λ (f : Bytes × Bytes). f.0) held) = omega (arith, less) in not_in s q at name es held each.1 below.1 k fewer is
not_in s q at name es held each below k less is = each

-- ---- one file after another

-- the files of the first k entries are those of the target
pub record FirstFiles (s : Start) (q : Reader) (at : ShardId) (es : List CodeEntry) (k : ℕ) (files_old files_new : Option (List (Bytes × Bytes))) : Type 0 where
  pub held : List (Bytes × Bytes)
  pub each : AllPairs (IsFile s q at) (take k es) held
  pub are : files_new ≡ option_map (λ _. held) files_old

pub files_none : (s : Start) (q : Reader) (at : ShardId) (es : List CodeEntry) (files : Option (List (Bytes × Bytes))) → IfSome files (λ fs. fs ≡ []) → FirstFiles s q at es 0 files files
files_none s q at es files empty = record { held = []; each = tt; are = none files empty }
  where
    none : (o : Option (List (Bytes × Bytes))) → IfSome o (λ fs. fs ≡ []) → o ≡ option_map (λ _. []) o
    none None h = refl
    none (Some fs) h = ap (λ (l : List (Bytes × Bytes)). Some l) h

free_of : (held : List (Bytes × Bytes)) (name : Bytes) (o files : Option (List (Bytes × Bytes))) → files ≡ option_map (λ _. held) o → (Contains (map (λ (f : Bytes × Bytes). f.0) held) name → ⊥)
    → IfSome files (λ fs. Contains (map (λ (f : Bytes × Bytes). f.0) fs) name → ⊥)
free_of held name None files is h = subst (λ (x : Option (List (Bytes × Bytes))). IfSome x (λ fs. Contains (map (λ (f : Bytes × Bytes). f.0) fs) name → ⊥)) (sym is) tt
free_of held name (Some old) files is h = subst (λ (x : Option (List (Bytes × Bytes))). IfSome x (λ fs. Contains (map (λ (f : Bytes × Bytes). f.0) fs) name → ⊥)) (sym is) h

-- the name of the next one is free
pub next_free : (s : Start) (q : Reader) (at : ShardId) (snap : SnapValue) (k : ℕ) (e : CodeEntry) (files_old files_new : Option (List (Bytes × Bytes))) → IsShardSnap snap → k < length snap.files → e ≡ get_or snap.files k e
    → FirstFiles s q at snap.files k files_old files_new → IfSome files_new (λ fs. Contains (map (λ (f : Bytes × Bytes). f.0) fs) e.physical → ⊥)
next_free s q at snap k e files_old files_new whole less is so =
    let below = rises_take snap.files k e (snap_names_rise snap whole) less is in
    free_of so.held e.physical files_old files_new so.are (λ has. not_in s q at e.physical (take k snap.files) so.held so.each below has.0 has.1 has.2)

pub stands_more : (s : Start) (a b : Reader) (at : ShardId) → Worked a b → (e : CodeEntry) (file : Bytes × Bytes) → IsFile s a at e file → IsFile s b at e file
stands_more s a b at worked e file h = (
  h.0,
  λ tells. let one = h.1 tells in record {
    parts = one.parts;
    there = pairs_map (WasRead a.read) (WasRead b.read) (λ name bytes has. worked.more (name, bytes) has) (part_names at.index.number at.number (entry_of e)) one.parts one.there;
    full = one.full;
    joined = one.joined;
    len = one.len;
    digest = one.digest;
  },
)

added_twice : (held : List (Bytes × Bytes)) (file : Bytes × Bytes) (o : Option (List (Bytes × Bytes))) → option_map (λ fs. fs ++ file ∷ []) (option_map (λ _. held) o) ≡ option_map (λ _. held ++ file ∷ []) o
added_twice held file None = refl
added_twice held file (Some fs) = refl

pub files_next : (s : Start) (a b : Reader) (at : ShardId) (es : List CodeEntry) (k : ℕ) (e : CodeEntry) (files_old files_mid files_new : Option (List (Bytes × Bytes))) → Worked a b → k < length es → e ≡ get_or es k e
    → FirstFiles s a at es k files_old files_mid → RestoredFile s b at e files_mid files_new → FirstFiles s b at es (k + 1) files_old files_new
files_next s a b at es k e files_old files_mid files_new worked less is so one =
    let more : take (k + 1) es ≡ take k es ++ e ∷ [] = take_more es k e less ∙ ap (λ (x : CodeEntry). take k es ++ x ∷ []) (sym is) in
    let before = pairs_map (IsFile s a at) (IsFile s b at) (stands_more s a b at worked) (take k es) so.held so.each in
    record {
      held = so.held ++ (e.physical, one.bytes) ∷ [];
      each = subst (λ (l : List CodeEntry). AllPairs (IsFile s b at) l (so.held ++ (e.physical, one.bytes) ∷ [])) (sym more) (AllPairs-snoc (IsFile s b at) (take k es) so.held e (e.physical, one.bytes) before one.stands);
      are = one.added ∙ ap (λ (o : Option (List (Bytes × Bytes))). option_map (λ fs. fs ++ (e.physical, one.bytes) ∷ []) o) so.are ∙ added_twice so.held (e.physical, one.bytes) files_old;
    }

pub files_all : (s : Start) (q : Reader) (at : ShardId) (es : List CodeEntry) (k : ℕ) (files_old files_new : Option (List (Bytes × Bytes))) → length es ≤ k → FirstFiles s q at es k files_old files_new
    → RestoredAll s q at es files_old files_new
files_all s q at es k files_old files_new all so = record {
  held = so.held;
  each = subst (λ (l : List CodeEntry). AllPairs (IsFile s q at) l so.held) (take_all k es all) so.each;
  are = so.are;
}

-- a place in a list that is another one
pub at_same : (xs es : List CodeEntry) (k : ℕ) (e : CodeEntry) → xs ≡ es → k < length xs → e ≡ get_or xs k e → (k < length es) × (e ≡ get_or es k e)
at_same xs es k e same less is = (subst (λ (l : List CodeEntry). k < length l) same less, subst (λ (l : List CodeEntry). e ≡ get_or l k e) same is)
