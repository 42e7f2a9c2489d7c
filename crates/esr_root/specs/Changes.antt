-- The roots that a finalization and a delete make, and what a shard's generation is.
use Rattle.std.specs.Prelude.{◌≡◌, ℕ, ◌≤◌, ◌==◌, Bool, false, not, List, [], ◌∷◌, ◌++◌, length, map, filter, Option, None, if◌then◌else◌}
use Rattle.std.specs.List.{list_any, AllByRecursion, IsDistinct}
use Rattle.std.specs.Ordering.{nat_cmp, match_ordering}
use Rattle.std.specs.Str.{bytes_eq}
use Rattle.std.specs.Cmp.Lexicographic.{slice_cmp}
use Rattle.esr_names.specs.declared.ids.Id.{Id}
use Rattle.esr_names.specs.declared.index_ref.IndexRef.{IndexRef}
use Rattle.esr_root.specs.Ids.{same_id, has_id}
use Rattle.esr_root.specs.Generations.{generation_in, padded, with_generation}
use Rattle.esr_root.specs.Snaps.{clashes}
use Rattle.esr_root.specs.Indices.{is_named}
use Rattle.esr_root.specs.Root.{Root}
use Rattle.esr_root.specs.declared.snaps.RootSnap.{RootSnap}
use Rattle.esr_root.specs.declared.indices.RootIndex.{RootIndex}

-- ---- a shard's generation

-- the generation that the index of a name has for a shard, none where there is no such index
abbrev pub generation_among : List RootIndex → List ℕ → ℕ → Option Id
generation_among [] name k = None
generation_among (i ∷ is) name k = if is_named name i then generation_in i.generations k else generation_among is name k

-- the generation that a root has for a shard of the index of a name
abbrev pub generation_at : Root → List ℕ → ℕ → Option Id
generation_at r name k = generation_among r.indices name k

-- an index with another generation of a shard, where it has the name
abbrev pub set_generation_in : List ℕ → ℕ → Option Id → RootIndex → RootIndex
set_generation_in name k g i =
    record i { generations = if is_named name i then with_generation i.generations k g else i.generations }

-- the root with another generation of a shard
abbrev pub set_generation_of : Root → List ℕ → ℕ → Option Id → Root
set_generation_of r name k g = record r { indices = map (set_generation_in name k g) r.indices }

-- ---- one snapshot more

-- the index with a snapshot at the end of its list, and a place for each of so many shards
abbrev pub grown : Id → ℕ → RootIndex → RootIndex
grown uuid shards i = record i { snapshots = i.snapshots ++ uuid ∷ []; generations = padded shards i.generations }

-- the index of a first snapshot
abbrev pub first : Id → IndexRef → RootIndex
first uuid x = record { name = x.name; id = x.id; snapshots = uuid ∷ []; generations = padded x.shards [] }

-- the indices with one more snapshot of an index, which comes to its place where there is none of its name
abbrev pub with_index : Id → IndexRef → List RootIndex → List RootIndex
with_index uuid x [] = first uuid x ∷ []
with_index uuid x (i ∷ is) =
    match_ordering (slice_cmp nat_cmp x.name i.name) (first uuid x ∷ i ∷ is) (grown uuid x.shards i ∷ is) (i ∷ with_index uuid x is)

-- the indices with one more snapshot of each of some
abbrev pub with_each : Id → List IndexRef → List RootIndex → List RootIndex
with_each uuid [] is = is
with_each uuid (x ∷ xs) is = with_each uuid xs (with_index uuid x is)

-- the root with a snapshot at its end
abbrev pub add_of : Root → RootSnap → List IndexRef → Root
add_of r s xs = record { snapshots = r.snapshots ++ s ∷ []; indices = with_each s.uuid xs r.indices }

-- an index of the root has its name exactly where it has its id
abbrev pub Fits : List RootIndex → IndexRef → Type 0
Fits is x = AllByRecursion (λ i. is_named x.name i ≡ same_id i.id x.id) is

-- what a snapshot and its indices need to come into a root
pub record MayAdd (r : Root) (s : RootSnap) (xs : List IndexRef) : Type 0 where
  -- the root lists neither the name nor the uuid
  pub fresh : list_any (λ old. clashes old s) r.snapshots ≡ false
  -- no name and no id stands twice
  pub names : IsDistinct (λ x y. bytes_eq x.name y.name) xs
  pub ids : IsDistinct (λ x y. same_id x.id y.id) xs
  pub known : AllByRecursion (Fits r.indices) xs
  pub few : AllByRecursion (λ x. x.shards ≤ 1024) xs

-- ---- fewer snapshots

-- the index with the snapshots that are not taken out
abbrev pub thinned : List Id → RootIndex → RootIndex
thinned uuids i = record i { snapshots = filter (λ u. not (has_id u uuids)) i.snapshots }

-- whether an index has a snapshot
abbrev pub has_some : RootIndex → Bool
has_some i = not (length i.snapshots == 0)

-- the root without some snapshots, and without the indices that have no other
abbrev pub without_of : Root → List Id → Root
without_of r uuids = record {
  snapshots = filter (λ s. not (has_id s.uuid uuids)) r.snapshots;
  indices = filter has_some (map (thinned uuids) r.indices);
}
