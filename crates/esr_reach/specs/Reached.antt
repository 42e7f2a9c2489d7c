-- The listed names are those that the root reaches, and none stands twice.
use Rattle.std.specs.Prelude.{◌≡◌, ℕ, zero, suc, ◌+◌, ◌≤◌, ◌||◌, leb, Bool, true, if◌then◌else◌, List, [], ◌∷◌, map, flat_map, Option, Some, None, IsSome}
use Rattle.std.proofs.Common.{inl, inr, refl, sym, ap, ◌∙◌, subst, arith}
use Rattle.std.proofs.lemmas.Bool.{cases_Bool}
use Rattle.std.proofs.lemmas.Bool.Decides.{eqb_tells}
use Rattle.esr_model.specs.Lists.{Has-left, Has-right, Has-either}
use Rattle.esr_model.specs.Names.{BlobName, Root, Latest, Snap, Meta, IndexMeta, ShardSnap, ShardIndex, File, Part, TestMaster, TestNode}
use Rattle.esr_model.specs.Values.{Bytes, Has, IsOneEach, RootSnap, RootIndex, RootData, FileEntry, SnapList, ShardFiles, Formats}
use Rattle.esr_model.specs.Parts.{part_count, parts_from, part_names}
use Rattle.esr_model.specs.Image.{IsOne, Reads, Generation, index_at, at_shard, at_shard_of}
use Rattle.esr_model.specs.Reach.{Reached, ReachSnap, ReachMeta, ReachIndexMeta, ReachIndex, ReachShardSnap, ReachPart}
use Rattle.esr_reach.specs.Names.{AreOnce}
use Rattle.esr_reach.specs.Members.{has_only, has_if, in_then, has_flat, in_flat, once_both, once_flat}
use Rattle.esr_reach.specs.Held.{HeldShard, held_at, IsApart, AreApart}
use Rattle.esr_reach.specs.Listing.{is_listed, snap_names, meta_names, list_names, held_names, known_names, shard_names, place_names, shards_names, index_names, root_names}
use Rattle.esr_reach.specs.Reading.{HasEach, ReadsAsHeld}

-- ---- where a name stands

abbrev index_of : BlobName → Option ℕ
index_of (Root n) = None
index_of Latest = None
index_of (Snap u) = None
index_of (Meta u) = None
index_of (IndexMeta i u) = Some i
index_of (ShardSnap i k u) = Some i
index_of (ShardIndex i k g) = Some i
index_of (File i k x) = Some i
index_of (Part i k x p) = Some i
index_of (TestMaster v) = None
index_of (TestNode v w) = None

abbrev shard_of : BlobName → Option ℕ
shard_of (Root n) = None
shard_of Latest = None
shard_of (Snap u) = None
shard_of (Meta u) = None
shard_of (IndexMeta i u) = None
shard_of (ShardSnap i k u) = Some k
shard_of (ShardIndex i k g) = Some k
shard_of (File i k x) = Some k
shard_of (Part i k x p) = Some k
shard_of (TestMaster v) = None
shard_of (TestNode v w) = None

abbrev file_of : BlobName → Option ℕ
file_of (Root n) = None
file_of Latest = None
file_of (Snap u) = None
file_of (Meta u) = None
file_of (IndexMeta i u) = None
file_of (ShardSnap i k u) = None
file_of (ShardIndex i k g) = None
file_of (File i k x) = Some x
file_of (Part i k x p) = Some x
file_of (TestMaster v) = None
file_of (TestNode v w) = None

-- a name of a shard
record IsUnder (index shard : ℕ) (name : BlobName) : Type 0 where
  index_is : index_of name ≡ Some index
  shard_is : shard_of name ≡ Some shard

some_same : {A : Type 0} (x y : A) → ◌≡◌ {A = Option A} (Some x) (Some y) → x ≡ y
some_same x y e = cc

-- ---- the snapshots that are listed

listed_has : (snaps : List RootSnap) (u : ℕ) → is_listed snaps u ≡ true → (s : RootSnap) × Has snaps s × (u ≡ s.uuid)
listed_has [] u e = absurd (cc)
listed_has (s ∷ snaps) u e = elim (eqb_tells s.uuid u) [
  | inl same ↦ (s, inl refl, sym same.1)
  | inr other ↦
      let later = listed_has snaps u (subst (λ (b : Bool). (b || is_listed snaps u) ≡ true) other.0 e) in
      (later.0, inr later.1, later.2)
]

has_listed : (snaps : List RootSnap) (s : RootSnap) → Has snaps s → is_listed snaps s.uuid ≡ true
has_listed [] s none = absurd none
has_listed (r ∷ snaps) s has = elim (eqb_tells r.uuid s.uuid) [
  | inl same ↦ subst (λ (b : Bool). (b || is_listed snaps s.uuid) ≡ true) (sym same.0) refl
  | inr other ↦ subst (λ (b : Bool). (b || is_listed snaps s.uuid) ≡ true) (sym other.0) (elim has [
    | inl here ↦ absurd (other.1 (ap (λ (t : RootSnap). t.uuid) here))
    | inr later ↦ has_listed snaps s later
  ])
]

-- ---- the names of each part: where they stand, and that none stands twice

snap_aside : (s : RootSnap) (z : BlobName) → Has (snap_names s) z → index_of z ≡ None
snap_aside s z (inl here) = ap index_of (sym here)
snap_aside s z (inr (inl here)) = ap index_of (sym here)
snap_aside s z (inr (inr none)) = absurd none

snap_key : (s t : RootSnap) (z : BlobName) → Has (snap_names s) z → Has (snap_names t) z → s.uuid ≡ t.uuid
snap_key s t z (inl h) (inl k) = cc
snap_key s t z (inl h) (inr (inl k)) = absurd (cc)
snap_key s t z (inl h) (inr (inr none)) = absurd none
snap_key s t z (inr (inl h)) (inl k) = absurd (cc)
snap_key s t z (inr (inl h)) (inr (inl k)) = cc
snap_key s t z (inr (inl h)) (inr (inr none)) = absurd none
snap_key s t z (inr (inr none)) has = absurd none

snap_once : (s : RootSnap) → AreOnce (snap_names s)
snap_once s = (λ has. elim has [ inl here ↦ absurd (cc) | inr none ↦ none ], (λ none. none, tt))

metas_under : (i u : ℕ) (z : BlobName) → Has (meta_names i u) z → (index_of z ≡ Some i) × (shard_of z ≡ None)
metas_under i u z has = let is = has_only (IndexMeta i u) z has in (ap index_of is, ap shard_of is)

list_is : (listed : ℕ → Bool) (i k : ℕ) (l : SnapList) (z : BlobName) → Has (list_names listed i k l) z → (listed l.uuid ≡ true) × (z ≡ ShardSnap i k l.uuid)
list_is listed i k l z has = elim (has_if (listed l.uuid) (ShardSnap i k l.uuid ∷ []) [] z has) [
  | inl told ↦ (told.0, has_only (ShardSnap i k l.uuid) z told.1)
  | inr no_list ↦ absurd no_list.1
]

list_once : (listed : ℕ → Bool) (i k : ℕ) (l : SnapList) → AreOnce (list_names listed i k l)
list_once listed i k l =
    let P : Bool → Type 0 = λ b. AreOnce (if b then ShardSnap i k l.uuid ∷ [] else []) in
    elim (cases_Bool (listed l.uuid)) [
      | inl told ↦ subst P (sym told) (λ none. none, tt)
      | inr other ↦ subst P (sym other) tt
    ]

from_is : (i k x first n : ℕ) (z : BlobName) → Has (parts_from i k x first n) z → (p : ℕ) × (first ≤ p) × (z ≡ Part i k x p)
from_is i k x first zero z none = absurd none
from_is i k x first (suc n) z (inl here) = (first, omega arith, sym here)
from_is i k x first (suc n) z (inr later) = let found = from_is i k x (suc first) n z later in (found.0, omega (arith, found.1), found.2)

from_once : (i k x first n : ℕ) → AreOnce (parts_from i k x first n)
from_once i k x first zero = tt
from_once i k x first (suc n) = (
  λ has.
      let found = from_is i k x (suc first) n (Part i k x first) has in
      let is = found.2 in
      let same : first ≡ found.0 = cc in
      absurd (omega (arith, same, found.1)),
  from_once i k x (suc first) n,
)

part_under : (i k : ℕ) (e : FileEntry) (z : BlobName) → Has (part_names i k e) z → IsUnder i k z × (file_of z ≡ Some e.name)
part_under i k e z has = elim (has_if (leb e.len e.part_size) (File i k e.name ∷ []) (parts_from i k e.name 0 (part_count e.len e.part_size)) z has) [
  | inl whole ↦ let is = has_only (File i k e.name) z whole.1 in (record { index_is = ap index_of is; shard_is = ap shard_of is }, ap file_of is)
  | inr cut ↦ let is = (from_is i k e.name 0 (part_count e.len e.part_size) z cut.1).2 in (record { index_is = ap index_of is; shard_is = ap shard_of is }, ap file_of is)
]

part_once : (i k : ℕ) (e : FileEntry) → AreOnce (part_names i k e)
part_once i k e =
    let parts = parts_from i k e.name 0 (part_count e.len e.part_size) in
    let P : Bool → Type 0 = λ b. AreOnce (if b then File i k e.name ∷ [] else parts) in
    elim (cases_Bool (leb e.len e.part_size)) [
      | inl whole ↦ subst P (sym whole) (λ none. none, tt)
      | inr cut ↦ subst P (sym cut) (from_once i k e.name 0 (part_count e.len e.part_size))
    ]

-- what a shard's index has: a shard snapshot or a part
data IsHeld (listed : ℕ → Bool) (i k : ℕ) (held : ShardFiles) (z : BlobName) : Type 0 where
  OfList : (l : SnapList) → Has held.snapshots l → listed l.uuid ≡ true → z ≡ ShardSnap i k l.uuid → IsHeld listed i k held z
  OfFile : (e : FileEntry) → Has held.files e → Has (part_names i k e) z → IsHeld listed i k held z

held_is : (listed : ℕ → Bool) (i k : ℕ) (held : ShardFiles) (z : BlobName) → Has (held_names listed i k held) z → IsHeld listed i k held z
held_is listed i k held z has = elim (Has-either (flat_map (list_names listed i k) held.snapshots) (flat_map (part_names i k) held.files) z has) [
  | inl list ↦ let found = has_flat (list_names listed i k) held.snapshots z list in let is = list_is listed i k found.0 z found.2 in OfList found.0 found.1 is.0 is.1
  | inr part ↦ let found = has_flat (part_names i k) held.files z part in OfFile found.0 found.1 found.2
]

of_held : (listed : ℕ → Bool) (i k : ℕ) (held : ShardFiles) (z : BlobName) → IsHeld listed i k held z → Has (held_names listed i k held) z
of_held listed i k held z (OfList l has told is) =
    Has-left (flat_map (list_names listed i k) held.snapshots) (flat_map (part_names i k) held.files) z
    (in_flat (list_names listed i k) held.snapshots l z has (in_then (listed l.uuid) (ShardSnap i k l.uuid ∷ []) [] z told (inl (sym is))))
of_held listed i k held z (OfFile e has part) =
    Has-right (flat_map (list_names listed i k) held.snapshots) (flat_map (part_names i k) held.files) z (in_flat (part_names i k) held.files e z has part)

held_under : (listed : ℕ → Bool) (i k : ℕ) (held : ShardFiles) (z : BlobName) → IsHeld listed i k held z → IsUnder i k z
held_under listed i k held z (OfList l has told is) = record { index_is = ap index_of is; shard_is = ap shard_of is }
held_under listed i k held z (OfFile e has part) = (part_under i k e z part).0

-- it is no shard index
held_apart : (listed : ℕ → Bool) (i k g : ℕ) (held : ShardFiles) → IsHeld listed i k held (ShardIndex i k g) → ⊥
held_apart listed i k g held (OfList l has told is) = cc
held_apart listed i k g held (OfFile e has part) = let is = (part_under i k e (ShardIndex i k g) part).1 in cc

held_once : (listed : ℕ → Bool) (i k : ℕ) (held : ShardFiles) → IsApart held → AreOnce (held_names listed i k held)
held_once listed i k held apart =
    once_both (flat_map (list_names listed i k) held.snapshots) (flat_map (part_names i k) held.files)
    (once_flat (λ (l : SnapList). l.uuid) (list_names listed i k) held.snapshots apart.snapshots (λ l has. list_once listed i k l)
    (λ l m z here there. let a = (list_is listed i k l z here).1 in let b = (list_is listed i k m z there).1 in cc))
    (once_flat (λ (e : FileEntry). e.name) (part_names i k) held.files apart.files (λ e has. part_once i k e)
    (λ e d z here there. some_same e.name d.name (sym (part_under i k e z here).1 ∙ (part_under i k d z there).1)))
    (λ z list part.
    let a = has_flat (list_names listed i k) held.snapshots z list in
    let b = has_flat (part_names i k) held.files z part in
    let is = (list_is listed i k a.0 z a.2).1 in
    let file = (part_under i k b.0 z b.2).1 in
    let none : file_of z ≡ None = ap file_of is in
    cc)

-- of a shard with a generation: its index, or what that has
data IsOfShard (listed : ℕ → Bool) (held : List HeldShard) (i k g : ℕ) (z : BlobName) : Type 0 where
  OfIndex : z ≡ ShardIndex i k g → IsOfShard listed held i k g z
  OfHeld : (v : ShardFiles) → held_at held i k ≡ Some v → IsHeld listed i k v z → IsOfShard listed held i k g z

-- of the shards of an index, numbered from a number on
record IsOfShards (listed : ℕ → Bool) (held : List HeldShard) (i first : ℕ) (gs : List (Option ℕ)) (z : BlobName) : Type 0 where
  number : ℕ
  generation : ℕ
  in_list : at_shard gs number ≡ Some generation
  is : IsOfShard listed held i (first + number) generation z

module _ (listed : ℕ → Bool) (held : List HeldShard) (i : ℕ) where
  known_is : (k g : ℕ) (o : Option ShardFiles) (z : BlobName) → held_at held i k ≡ o → Has (known_names listed i k o) z → IsOfShard listed held i k g z
  known_is k g None z is none = absurd none
  known_is k g (Some v) z is has = OfHeld v is (held_is listed i k v z has)

  shard_is : (k g : ℕ) (z : BlobName) → Has (shard_names listed held i k g) z → IsOfShard listed held i k g z
  shard_is k g z (inl own) = OfIndex (sym own)
  shard_is k g z (inr below) = known_is k g (held_at held i k) z refl below

  of_shard : (k g : ℕ) (z : BlobName) → IsOfShard listed held i k g z → Has (shard_names listed held i k g) z
  of_shard k g z (OfIndex own) = inl (sym own)
  of_shard k g z (OfHeld v is below) = inr (subst (λ (o : Option ShardFiles). Has (known_names listed i k o) z) (sym is) (of_held listed i k v z below))

  shard_under : (k g : ℕ) (z : BlobName) → IsOfShard listed held i k g z → IsUnder i k z
  shard_under k g z (OfIndex own) = record { index_is = ap index_of own; shard_is = ap shard_of own }
  shard_under k g z (OfHeld v is below) = held_under listed i k v z below

  known_once : (k g : ℕ) (o : Option ShardFiles) → held_at held i k ≡ o → AreApart held → (Has (known_names listed i k o) (ShardIndex i k g) → ⊥) × AreOnce (known_names listed i k o)
  known_once k g None is apart = (λ none. none, tt)
  known_once k g (Some v) is apart = (λ has. held_apart listed i k g v (held_is listed i k v (ShardIndex i k g) has), held_once listed i k v (apart i k v is))

  place_once : (k : ℕ) (g : Option ℕ) → AreApart held → AreOnce (place_names listed held i k g)
  place_once k None apart = tt
  place_once k (Some g) apart = known_once k g (held_at held i k) refl apart

  place_under : (k : ℕ) (g : Option ℕ) (z : BlobName) → Has (place_names listed held i k g) z → IsUnder i k z
  place_under k None z none = absurd none
  place_under k (Some g) z has = shard_under k g z (shard_is k g z has)

  shards_is : (first : ℕ) (gs : List (Option ℕ)) (z : BlobName) → Has (shards_names listed held i first gs) z → IsOfShards listed held i first gs z
  shards_is first [] z none = absurd none
  shards_is first (None ∷ gs) z has =
      let later = shards_is (suc first) gs z has in
      let same : suc first + later.number ≡ first + suc later.number = omega arith in
      record { number = suc later.number; generation = later.generation; in_list = later.in_list; is = subst (λ (n : ℕ). IsOfShard listed held i n later.generation z) same later.is }
  shards_is first (Some g ∷ gs) z has = elim (Has-either (shard_names listed held i first g) (shards_names listed held i (suc first) gs) z has) [
    | inl here ↦
        let same : first ≡ first + 0 = omega arith in
        record { number = 0; generation = g; in_list = refl; is = subst (λ (n : ℕ). IsOfShard listed held i n g z) same (shard_is first g z here) }
    | inr there ↦
        let later = shards_is (suc first) gs z there in
        let same : suc first + later.number ≡ first + suc later.number = omega arith in
        record { number = suc later.number; generation = later.generation; in_list = later.in_list; is = subst (λ (n : ℕ). IsOfShard listed held i n later.generation z) same later.is }
  ]

  of_shards : (first k g : ℕ) (gs : List (Option ℕ)) (z : BlobName) → at_shard gs k ≡ Some g → IsOfShard listed held i (first + k) g z → Has (shards_names listed held i first gs) z
  of_shards first k g [] z e is = absurd (cc)
  of_shards first zero g (h ∷ gs) z e is =
      let same : first + 0 ≡ first = omega arith in
      Has-left (place_names listed held i first h) (shards_names listed held i (suc first) gs) z
      (subst (λ (o : Option ℕ). Has (place_names listed held i first o) z) (sym e) (of_shard first g z (subst (λ (n : ℕ). IsOfShard listed held i n g z) same is)))
  of_shards first (suc k) g (h ∷ gs) z e is =
      let same : first + suc k ≡ suc first + k = omega arith in
      Has-right (place_names listed held i first h) (shards_names listed held i (suc first) gs) z (of_shards (suc first) k g gs z e (subst (λ (n : ℕ). IsOfShard listed held i n g z) same is))

  shards_once : (first : ℕ) (gs : List (Option ℕ)) → AreApart held → AreOnce (shards_names listed held i first gs)
  shards_once first [] apart = tt
  shards_once first (g ∷ gs) apart =
      once_both (place_names listed held i first g) (shards_names listed held i (suc first) gs) (place_once first g apart) (shards_once (suc first) gs apart)
      (λ z here there.
      let later = shards_is (suc first) gs z there in
      let same = some_same first (suc first + later.number) (sym (place_under first g z here).shard_is ∙ (shard_under (suc first + later.number) later.generation z later.is).shard_is) in
      absurd (omega (arith, same)))

  shards_under : (gs : List (Option ℕ)) (z : BlobName) → Has (shards_names listed held i 0 gs) z → (index_of z ≡ Some i) × ((k : ℕ) × (shard_of z ≡ Some k))
  shards_under gs z has =
      let found = shards_is 0 gs z has in
      let under = shard_under (0 + found.number) found.generation z found.is in
      (under.index_is, (0 + found.number, under.shard_is))

index_under : (listed : ℕ → Bool) (held : List HeldShard) (x : RootIndex) (z : BlobName) → Has (index_names listed held x) z → index_of z ≡ Some x.id
index_under listed held x z has = elim (Has-either (flat_map (meta_names x.id) x.snapshots) (shards_names listed held x.id 0 x.generations) z has) [
  | inl metas ↦ let found = has_flat (meta_names x.id) x.snapshots z metas in (metas_under x.id found.0 z found.2).0
  | inr shards ↦ (shards_under listed held x.id x.generations z shards).0
]

index_once : (listed : ℕ → Bool) (held : List HeldShard) (x : RootIndex) → AreOnce x.snapshots → AreApart held → AreOnce (index_names listed held x)
index_once listed held x metas apart =
    once_both (flat_map (meta_names x.id) x.snapshots) (shards_names listed held x.id 0 x.generations)
    (once_flat (λ (u : ℕ). u) (meta_names x.id) x.snapshots (subst AreOnce (sym (map_same x.snapshots)) metas) (λ u has. (λ none. none, tt))
    (λ u w z here there. let a = has_only (IndexMeta x.id u) z here in let b = has_only (IndexMeta x.id w) z there in cc))
    (shards_once listed held x.id 0 x.generations apart)
    (λ z here there.
    let found = has_flat (meta_names x.id) x.snapshots z here in
    let none = (metas_under x.id found.0 z found.2).1 in
    let some = (shards_under listed held x.id x.generations z there).1.1 in
    cc)
  where
    map_same : (us : List ℕ) → map (λ (u : ℕ). u) us ≡ us
    map_same [] = refl
    map_same (u ∷ us) = ap (λ (vs : List ℕ). u ∷ vs) (map_same us)

-- what keeps names of a root apart: no snapshot, no index and no snapshot of an index stands twice
pub record IsSingle (root : RootData) : Type 0 where
  pub snapshots : AreOnce (map (λ s. s.uuid) root.snapshots)
  pub indices : AreOnce (map (λ x. x.id) root.indices)
  pub metas : (x : RootIndex) → Has root.indices x → AreOnce x.snapshots

-- no name of a root is listed twice
pub root_once : (root : RootData) (held : List HeldShard) → IsSingle root → AreApart held → AreOnce (root_names root held)
root_once root held single apart =
    let listed = is_listed root.snapshots in
    once_both (flat_map snap_names root.snapshots) (flat_map (index_names listed held) root.indices)
    (once_flat (λ (s : RootSnap). s.uuid) snap_names root.snapshots single.snapshots (λ s has. snap_once s) snap_key)
    (once_flat (λ (x : RootIndex). x.id) (index_names listed held) root.indices single.indices (λ x has. index_once listed held x (single.metas x has) apart)
    (λ x y z here there. some_same x.id y.id (sym (index_under listed held x z here) ∙ index_under listed held y z there)))
    (λ z here there.
    let snap = has_flat snap_names root.snapshots z here in
    let index = has_flat (index_names listed held) root.indices z there in
    let none = snap_aside snap.0 z snap.2 in
    let some = index_under listed held index.0 z index.2 in
    cc)

-- ---- the indices of a root

pub index_found : (xs : List RootIndex) (id k g : ℕ) → at_shard_of (index_at xs id) k ≡ Some g → (x : RootIndex) × Has xs x × (x.id ≡ id) × (at_shard x.generations k ≡ Some g)
index_found [] id k g e = absurd (cc)
index_found (x ∷ xs) id k g e = elim (eqb_tells x.id id) [
  | inl same ↦ (x, inl refl, same.1, subst (λ (o : Option RootIndex). at_shard_of o k ≡ Some g) (ap (λ (b : Bool). if b then Some x else index_at xs id) same.0) e)
  | inr other ↦
      let later = index_found xs id k g (subst (λ (o : Option RootIndex). at_shard_of o k ≡ Some g) (ap (λ (b : Bool). if b then Some x else index_at xs id) other.0) e) in
      (later.0, inr later.1, later.2, later.3)
]

pub index_there : (xs : List RootIndex) → IsOneEach xs → (x : RootIndex) → Has xs x → index_at xs x.id ≡ Some x
index_there [] once x none = absurd none
index_there (y ∷ ys) once x has = elim (eqb_tells y.id x.id) [
  | inl same ↦ ap (λ (b : Bool). if b then Some y else index_at ys x.id) same.0 ∙ ap Some (once y x (inl refl) has same.1)
  | inr other ↦ ap (λ (b : Bool). if b then Some y else index_at ys x.id) other.0 ∙ elim has [
    | inl here ↦ absurd (other.1 (ap (λ (z : RootIndex). z.id) here))
    | inr later ↦ index_there ys (λ a b ha hb. once a b (inr ha) (inr hb)) x later
  ]
]

-- a shard of a listed index has the generation that the root gives it
pub generation_at : (root : RootData) → IsOneEach root.indices → (x : RootIndex) → Has root.indices x → (k g : ℕ) → at_shard x.generations k ≡ Some g → Generation root x.id k g
generation_at root once x there k g is = ap (λ (o : Option RootIndex). at_shard_of o k) (index_there root.indices once x there) ∙ is

-- ---- the names are those that the root reaches

held_some : {A : Type 0} (o : Option A) → IsSome o → (x : A) × (o ≡ Some x)
held_some None e = absurd (cc)
held_some (Some x) e = (x, refl)

module _ (f : Formats) (has : BlobName → Bytes → Type 0) (root : RootData) (held : List HeldShard) (once : IsOneEach root.indices) (each : HasEach root held) (reads : ReadsAsHeld f has root held) where
  shard_reached : (i k g : ℕ) → Generation root i k g → (z : BlobName) → IsOfShard (is_listed root.snapshots) held i k g z → Reached f has root z
  shard_reached i k g is z (OfIndex own) = subst (Reached f has root) (sym own) (ReachIndex i k g is)
  shard_reached i k g is z (OfHeld v at (OfList l has_l told own)) =
      let s = listed_has root.snapshots l.uuid told in
      subst (Reached f has root) (sym (own ∙ ap (λ (u : ℕ). ShardSnap i k u) s.2)) (ReachShardSnap i k g s.0 v l is (reads i k g v is at) has_l s.1 s.2)
  shard_reached i k g is z (OfHeld v at (OfFile e has_e part)) = ReachPart i k g v e z is (reads i k g v is at) has_e part

  snap_reached : (s : RootSnap) → Has root.snapshots s → (z : BlobName) → Has (snap_names s) z → Reached f has root z
  snap_reached s there z (inl here) = subst (Reached f has root) here (ReachSnap s there)
  snap_reached s there z (inr (inl here)) = subst (Reached f has root) here (ReachMeta s there)
  snap_reached s there z (inr (inr none)) = absurd none

  index_reached : (x : RootIndex) → Has root.indices x → (z : BlobName) → Has (index_names (is_listed root.snapshots) held x) z → Reached f has root z
  index_reached x there z has_z = elim (Has-either (flat_map (meta_names x.id) x.snapshots) (shards_names (is_listed root.snapshots) held x.id 0 x.generations) z has_z) [
    | inl metas ↦
        let found = has_flat (meta_names x.id) x.snapshots z metas in
        subst (Reached f has root) (sym (has_only (IndexMeta x.id found.0) z found.2)) (ReachIndexMeta x found.0 there found.1)
    | inr shards ↦
        let found = shards_is (is_listed root.snapshots) held x.id 0 x.generations z shards in
        let same : 0 + found.number ≡ found.number = omega arith in
        shard_reached x.id found.number found.generation (generation_at root once x there found.number found.generation found.in_list) z
        (subst (λ (n : ℕ). IsOfShard (is_listed root.snapshots) held x.id n found.generation z) same found.is)
  ]

  -- each listed name is reached
  pub names_reached : (z : BlobName) → Has (root_names root held) z → Reached f has root z
  names_reached z has_z = elim (Has-either (flat_map snap_names root.snapshots) (flat_map (index_names (is_listed root.snapshots) held) root.indices) z has_z) [
    | inl snaps ↦ let found = has_flat snap_names root.snapshots z snaps in snap_reached found.0 found.1 z found.2
    | inr indices ↦ let found = has_flat (index_names (is_listed root.snapshots) held) root.indices z indices in index_reached found.0 found.1 z found.2
  ]

  of_snap : (s : RootSnap) → Has root.snapshots s → (z : BlobName) → Has (snap_names s) z → Has (root_names root held) z
  of_snap s there z has_z = Has-left (flat_map snap_names root.snapshots) (flat_map (index_names (is_listed root.snapshots) held) root.indices) z (in_flat snap_names root.snapshots s z there has_z)

  of_index : (x : RootIndex) → Has root.indices x → (z : BlobName) → Has (index_names (is_listed root.snapshots) held x) z → Has (root_names root held) z
  of_index x there z has_z =
      Has-right (flat_map snap_names root.snapshots) (flat_map (index_names (is_listed root.snapshots) held) root.indices) z (in_flat (index_names (is_listed root.snapshots) held) root.indices x z there has_z)

  of_root_shard : (i k g : ℕ) → Generation root i k g → (z : BlobName) → IsOfShard (is_listed root.snapshots) held i k g z → Has (root_names root held) z
  of_root_shard i k g is z p =
      let found = index_found root.indices i k g is in
      let x = found.0 in
      let same : k ≡ 0 + k = omega arith in
      let at : IsOfShard (is_listed root.snapshots) held x.id (0 + k) g z =
      subst (λ (n : ℕ). IsOfShard (is_listed root.snapshots) held n (0 + k) g z) (sym found.2) (subst (λ (n : ℕ). IsOfShard (is_listed root.snapshots) held i n g z) same p) in
      of_index x found.1 z (Has-right (flat_map (meta_names x.id) x.snapshots) (shards_names (is_listed root.snapshots) held x.id 0 x.generations) z (of_shards (is_listed root.snapshots) held x.id 0 k g x.generations z found.3 at))

  module _ (one : IsOne has) where
    -- what is held is what the index reads as
    held_is_read : (i k g : ℕ) (v : ShardFiles) → Generation root i k g → Reads has (ShardIndex i k g) f.shard_index v → held_at held i k ≡ Some v
    held_is_read i k g v is read =
        let at = held_some (held_at held i k) (each i k g is) in
        let own = reads i k g at.0 is at.1 in
        let bytes = one (ShardIndex i k g) own.bytes read.bytes own.there read.there in
        let same = some_same at.0 v (sym own.reads ∙ ap f.shard_index.read bytes ∙ read.reads) in
        at.1 ∙ ap Some same

    -- each name that is reached is listed
    pub reached_names : (z : BlobName) → Reached f has root z → Has (root_names root held) z
    reached_names z (ReachSnap s there) = of_snap s there (Snap s.uuid) (inl refl)
    reached_names z (ReachMeta s there) = of_snap s there (Meta s.uuid) (inr (inl refl))
    reached_names z (ReachIndexMeta x u there has_u) =
        of_index x there (IndexMeta x.id u)
        (Has-left (flat_map (meta_names x.id) x.snapshots) (shards_names (is_listed root.snapshots) held x.id 0 x.generations) (IndexMeta x.id u) (in_flat (meta_names x.id) x.snapshots u (IndexMeta x.id u) has_u (inl refl)))
    reached_names z (ReachIndex i k g is) = of_root_shard i k g is (ShardIndex i k g) (OfIndex refl)
    reached_names z (ReachShardSnap i k g s v l is read has_l there same) =
        let told = ap (is_listed root.snapshots) same ∙ has_listed root.snapshots s there in
        of_root_shard i k g is (ShardSnap i k s.uuid) (OfHeld v (held_is_read i k g v is read) (OfList l has_l told (ap (λ (u : ℕ). ShardSnap i k u) (sym same))))
    reached_names z (ReachPart i k g v e name is read has_e part) = of_root_shard i k g is name (OfHeld v (held_is_read i k g v is read) (OfFile e has_e part))
