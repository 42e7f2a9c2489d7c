-- Which lists of indices a root holds.
use Rattle.std.specs.Prelude.{◌≡◌, ℕ, ◌+◌, ◌<◌, ◌^◌, ◌==◌, Bool, false, true, List, [], ◌∷◌, length, None, Result, Ok, Err}
use Rattle.std.specs.List.{list_all, AllByRecursion, IsDistinct}
use Rattle.std.specs.List.Sorted.{IsStrictlySortedBy}
use Rattle.std.specs.Ordering.{nat_cmp, match_ordering}
use Rattle.std.specs.Str.{bytes_eq}
use Rattle.std.specs.Cmp.Lexicographic.{slice_cmp}
use Rattle.std.specs.declared.cmp.Ordering.{Ordering}
use Rattle.esr_root.specs.Ids.{same_id}
use Rattle.esr_root.specs.Generations.{AreGenerations}
use Rattle.esr_root.specs.Snaps.{lists}
use Rattle.esr_root.specs.declared.snaps.RootSnap.{RootSnap}
use Rattle.esr_root.specs.declared.indices.RootIndex.{RootIndex}
use Rattle.esr_names.specs.declared.index_ref.IndexRef.{IndexRef}
use Rattle.esr_names.specs.NameRule.{index_name_fault}
use Rattle.esr_names.specs.declared.ids.Id.{Id}

-- the snapshots of an index: one at least, and none twice
pub record AreListed (us : List Id) : Type 0 where
  pub each : AllByRecursion (λ u. u.number < 2 ^ 128) us
  pub some : (length us == 0) ≡ false
  pub distinct : IsDistinct same_id us

-- its name keeps the rules, and its lists those of theirs
pub record IsIndex (i : RootIndex) : Type 0 where
  pub name : index_name_fault i.name ≡ None
  pub id : i.id.number < 2 ^ 128
  pub snapshots : AreListed i.snapshots
  pub generations : AreGenerations i.generations

-- whether two indices have one id
abbrev pub same_index : RootIndex → RootIndex → Bool
same_index i j = same_id i.id j.id

-- the order of two indices: of the bytes of their names
abbrev pub by_name : RootIndex → RootIndex → Ordering
by_name i j = slice_cmp nat_cmp i.name j.name

-- no two indices have one id, and their names rise
pub record AreIndices (is : List RootIndex) : Type 0 where
  pub each : AllByRecursion IsIndex is
  pub distinct : IsDistinct same_index is
  pub rises : IsStrictlySortedBy by_name is

-- whether an index has this name
abbrev pub is_named : List ℕ → RootIndex → Bool
is_named name i = bytes_eq i.name name

-- each snapshot of an index is listed
abbrev pub IsListed : List RootSnap → RootIndex → Type 0
IsListed ss i = list_all (lists ss) i.snapshots ≡ true

-- where a name stands among the indices, which rise, or where it belongs: at place k or after it
abbrev pub place_from : ℕ → List ℕ → List RootIndex → Result ℕ ℕ
place_from k name [] = Err k
place_from k name (i ∷ is) = match_ordering (slice_cmp nat_cmp name i.name) (Err k) (Ok k) (place_from (k + 1) name is)

-- an index that a command names has a name that keeps the rules
pub record IsRef (x : IndexRef) : Type 0 where
  pub name : index_name_fault x.name ≡ None
  pub id : x.id.number < 2 ^ 128
