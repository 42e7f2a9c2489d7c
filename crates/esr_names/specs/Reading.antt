-- The one name that a text may be that of: what its front says, whatever follows.
use Rattle.std.specs.Prelude.{ℕ, ◌+◌, ◌*◌, ◌-◌, ◌^◌, ◌==◌, nat_lt, nat_le, ◌&&◌, List, [], ◌∷◌, codes, take, drop, length, Option, Some, None, if◌then◌else◌}
use Rattle.esr_names.specs.IdText.{read_id}
use Rattle.esr_names.specs.declared.ids.Id.{Id}
use Rattle.esr_names.specs.declared.blob.ShardId.{ShardId}
use Rattle.esr_names.specs.declared.blob.BlobName.{BlobName}
use Rattle.esr_names.specs.declared.blob.BlobName.TheVariants.{Root, Latest, Snap, Meta, IndexMeta, ShardSnap, ShardIndex, Whole, Part, TestMaster, TestNode}

-- what f makes of a value, if there is one
infixl 10 ◌>>=◌
abbrev pub ◌>>=◌ : {A B : Type 0} → Option A → (A → Option B) → Option B
None >>= f = None
(Some x) >>= f = f x

-- the rest after a prefix
abbrev pub strip : List ℕ → List ℕ → Option (List ℕ)
strip [] s = Some s
strip (p ∷ ps) [] = None
strip (p ∷ ps) (x ∷ s) = if x == p then strip ps s else None

-- a number and the rest, after the digits of n
unfoldable pub number_from : ℕ → List ℕ → Option (ℕ × List ℕ)
number_from n [] = Some (n, [])
number_from n (c ∷ cs) =
    if nat_le 48 c && nat_le c 57 then (if nat_lt (n * 10 + (c - 48)) (2 ^ 64) then number_from (n * 10 + (c - 48)) cs else None)
    else Some (n, c ∷ cs)

-- the number at the front, and the rest
abbrev pub number_at : List ℕ → Option (ℕ × List ℕ)
number_at s = number_from 0 s

-- an id and the rest
unfoldable pub id_at : List ℕ → Option (Id × List ℕ)
id_at s = if nat_lt (length s) 22 then None else (do
  u ← read_id (take 22 s)
  Some (u, drop 22 s))

-- f of what stands there, or else the other
abbrev pub on : {A B : Type 0} → Option A → (A → Option B) → Option B → Option B
on None f other = other
on (Some x) f other = f x

-- a part of a file: the number after its id
abbrev pub part_name : ShardId → Id → List ℕ → Option BlobName
part_name shard x s = number_at s >>= λ k. Some (Part shard x k.0)

-- after the folder of a shard
unfoldable pub shard_name : ShardId → List ℕ → Option BlobName
shard_name shard s =
    on (strip (codes "snap-") s) (λ rest. id_at rest >>= λ u. Some (ShardSnap shard u.0))
    (on (strip (codes "index-") s) (λ rest. id_at rest >>= λ g. Some (ShardIndex shard g.0))
    (strip (codes "__") s >>= λ rest. id_at rest >>= λ x.
    on (strip (codes ".part") x.1) (part_name shard x.0) (Some (Whole shard x.0))))

-- after `indices/`
unfoldable pub index_name : List ℕ → Option BlobName
index_name s = do
  index ← id_at s
  rest ← strip (codes "/") index.1
  number ← number_at rest
  on (strip (codes "/") number.1)
      (λ last. if nat_lt number.0 1024 then shard_name (record { index = index.0; number = number.0 }) last else None)
      (strip (codes "meta-") rest >>= λ more. id_at more >>= λ u. Some (IndexMeta index.0 u.0))

-- after `tests-`
unfoldable pub test_name : List ℕ → Option BlobName
test_name s = do
  test ← id_at s
  on (strip (codes "/data-w") test.1) (λ rest. number_at rest >>= λ w. if nat_lt w.0 64 then Some (TestNode test.0 w.0) else None) (Some (TestMaster test.0))

-- by the front of the whole
unfoldable pub name_of : List ℕ → Option BlobName
name_of s =
    on (strip (codes "index-") s) (λ rest. number_at rest >>= λ n. Some (Root n.0))
    (on (strip (codes "snap-") s) (λ rest. id_at rest >>= λ u. Some (Snap u.0))
    (on (strip (codes "meta-") s) (λ rest. id_at rest >>= λ u. Some (Meta u.0))
    (on (strip (codes "tests-") s) test_name
    (on (strip (codes "indices/") s) index_name (Some Latest)))))
