-- Names that are joined: which they are.
use Rattle.std.proofs.Common.{◌≡◌, ◌⊎◌, ◌↔◌, ℕ, zero, suc, ◌+◌, ◌<◌, ◌≤◌, List, [], ◌∷◌, ◌++◌, map, length, take, get_or, Option, Some, refl, sym, ap, ◌∙◌, subst, inl, inr, append_assoc}
use Rattle.std.proofs.lemmas.List.{map-append}
use Rattle.esr_model.specs.Lists.{Has-append, Has-left, Has-right, Has-either}
use Rattle.esr_model.specs.Loops.{next, all, item_is}
use Rattle.esr_names.specs.declared.blob.BlobName.{BlobName as CodeName}
use Rattle.esr_formats.specs.Names.{name_of}
use Rattle.esr_model.specs.Names.{BlobName, ShardSnap, ShardIndex}
use Rattle.esr_model.specs.Values.{Bytes, Has, IsOneEach, RootSnap, RootIndex, RootData, ShardFiles, Formats}
use Rattle.esr_model.specs.Image.{IsOne, Reads, Generation, at_shard, at_shard_of}
use Rattle.esr_model.specs.Reach.{Reached, ReachSnap, ReachMeta, ReachIndexMeta, ReachIndex, ReachShardSnap, ReachPart}
use Rattle.esr_plain.specs.Reach.{AreNames, AreOnce, HasList, OfSome, OfList, OfHeld, OfShard, OfPlace, OfShards, OfRoot}
use Rattle.esr_plain.proofs.Blobs.{reads_one}
use Rattle.esr_plain.proofs.Standing.{index_found, index_there}

-- these are the names of which it holds
abbrev pub Are : List BlobName → (BlobName → Type 0) → Type 0
Are names P = (name : BlobName) → Has names name ↔ P name

pub are_none : (P : BlobName → Type 0) → ((name : BlobName) → P name → ⊥) → Are [] P
are_none P none name = (λ has. absurd has, λ p. none name p)

pub are_one : (n : BlobName) → Are (n ∷ []) (λ name. name ≡ n)
are_one n name = (λ has. elim has [ inl here ↦ sym here | inr none ↦ absurd none ], λ is. inl (sym is))

pub are_two : (n m : BlobName) → Are (n ∷ m ∷ []) (λ name. (name ≡ n) ⊎ (name ≡ m))
are_two n m name = (
  λ has. elim has [ inl here ↦ inl (sym here) | inr later ↦ elim later [ inl here ↦ inr (sym here) | inr none ↦ absurd none ] ],
  λ is. elim is [ inl here ↦ inl (sym here) | inr later ↦ inr (inl (sym later)) ],
)

pub are_both : (P Q : BlobName → Type 0) (first more : List BlobName) → Are first P → Are more Q → Are (first ++ more) (λ name. P name ⊎ Q name)
are_both P Q first more ps qs name = (
  λ has. elim (Has-either first more name has) [ inl left ↦ inl ((ps name).0 left) | inr right ↦ inr ((qs name).0 right) ],
  λ is. elim is [ inl p ↦ Has-left first more name ((ps name).1 p) | inr q ↦ Has-right first more name ((qs name).1 q) ],
)

pub are_as : (P Q : BlobName → Type 0) (names : List BlobName) → Are names P → ((name : BlobName) → P name → Q name) → ((name : BlobName) → Q name → P name) → Are names Q
are_as P Q names are to back name = (λ has. to name ((are name).0 has), λ q. (are name).1 (back name q))

-- ---- of one more

some_push : {A : Type 0} (P : A → BlobName → Type 0) (xs : List A) (x : A) (old more : List BlobName) → Are old (OfSome P xs) → Are more (P x) → Are (old ++ more) (OfSome P (xs ++ x ∷ []))
some_push {A} P xs x old more olds mores name = (
  λ has. elim (Has-either old more name has) [
    | inl left ↦ let p = (olds name).0 left in (p.0, Has-left xs (x ∷ []) p.0 p.1, p.2)
    | inr right ↦ (x, Has-right xs (x ∷ []) x (inl refl), (mores name).0 right)
  ],
  λ p. elim (Has-append xs x p.0 p.1) [
    | inl before ↦ Has-left old more name ((olds name).1 (p.0, before, p.2))
    | inr last ↦ Has-right old more name ((mores name).1 (subst (λ (y : A). P y name) (sym last) p.2))
  ],
)

pub some_more : {A B : Type 0} (P : B → BlobName → Type 0) (f : A → B) (xs : List A) (i : ℕ) (x : A) (old new : List CodeName) (more : List BlobName) → i < length xs → x ≡ get_or xs i x
    → map name_of new ≡ map name_of old ++ more → AreNames old (OfSome P (map f (take i xs))) → Are more (P (f x)) → AreNames new (OfSome P (map f (take (i + 1) xs)))
some_more {A} {B} P f xs i x old new more less is made olds mores =
    subst (λ (names : List BlobName). Are names (OfSome P (map f (take (i + 1) xs)))) (sym made)
    (subst (λ (ys : List B). Are (map name_of old ++ more) (OfSome P ys)) (sym (next f xs i x less is)) (some_push P (map f (take i xs)) (f x) (map name_of old) more olds mores))

pub some_all : {A B : Type 0} (P : B → BlobName → Type 0) (f : A → B) (xs : List A) (i : ℕ) (names : List CodeName) → length xs ≤ i → AreNames names (OfSome P (map f (take i xs))) → AreNames names (OfSome P (map f xs))
some_all {A} {B} P f xs i names past are = subst (λ (ys : List B). AreNames names (OfSome P ys)) (all f xs i past) are

-- what was appended
pub joined_by : (old new more : List CodeName) → new ≡ old ++ more → map name_of new ≡ map name_of old ++ map name_of more
joined_by old new more is = ap (map name_of) is ∙ map-append name_of old more

pub two_pushed : (old mid new : List CodeName) (a b : CodeName) → mid ≡ old ++ a ∷ [] → new ≡ mid ++ b ∷ [] → map name_of new ≡ map name_of old ++ name_of a ∷ name_of b ∷ []
two_pushed old mid new a b first second =
    joined_by mid new (b ∷ []) second ∙ ap (λ (l : List BlobName). l ++ name_of b ∷ []) (joined_by old mid (a ∷ []) first) ∙ append_assoc (map name_of old) (name_of a ∷ []) (name_of b ∷ [])

pub names_both : (P Q : BlobName → Type 0) (first new more : List CodeName) → new ≡ first ++ more → AreNames first P → AreNames more Q → AreNames new (λ name. P name ⊎ Q name)
names_both P Q first new more is ps qs =
    subst (λ (names : List BlobName). Are names (λ name. P name ⊎ Q name)) (sym (joined_by first new more is)) (are_both P Q (map name_of first) (map name_of more) ps qs)

-- ---- of one more shard

at_push_some : (gs : List (Option ℕ)) (g : Option ℕ) (k v : ℕ) → at_shard gs k ≡ Some v → at_shard (gs ++ g ∷ []) k ≡ Some v
at_push_some [] g k v e = absurd (cc)
at_push_some (h ∷ gs) g zero v e = e
at_push_some (h ∷ gs) g (suc k) v e = at_push_some gs g k v e

at_push_last : (gs : List (Option ℕ)) (g : Option ℕ) → at_shard (gs ++ g ∷ []) (length gs) ≡ g
at_push_last [] g = refl
at_push_last (h ∷ gs) g = at_push_last gs g

at_push_cases : (gs : List (Option ℕ)) (g : Option ℕ) (k v : ℕ) → at_shard (gs ++ g ∷ []) k ≡ Some v → (at_shard gs k ≡ Some v) ⊎ ((k ≡ length gs) × (g ≡ Some v))
at_push_cases [] g zero v e = inr (refl, e)
at_push_cases [] g (suc k) v e = absurd (cc)
at_push_cases (h ∷ gs) g zero v e = inl e
at_push_cases (h ∷ gs) g (suc k) v e = elim (at_push_cases gs g k v e) [ inl before ↦ inl before | inr last ↦ inr (ap suc last.0, last.1) ]

module _ (f : Formats) (has : BlobName → Bytes → Type 0) (snaps : List RootSnap) (index : ℕ) where
  shards_push : (gs : List (Option ℕ)) (g : Option ℕ) (old more : List BlobName) → Are old (OfShards f has snaps index gs) → Are more (OfPlace f has snaps index (length gs) g)
      → Are (old ++ more) (OfShards f has snaps index (gs ++ g ∷ []))
  shards_push gs g old more olds mores name = (
    λ there. elim (Has-either old more name there) [
      | inl left ↦ let p = (olds name).0 left in (p.0, (p.1.0, at_push_some gs g p.0 p.1.0 p.1.1, p.1.2))
      | inr right ↦ let p = (mores name).0 right in (length gs, (p.0, at_push_last gs g ∙ p.1, p.2))
    ],
    λ p. elim (at_push_cases gs g p.0 p.1.0 p.1.1) [
      | inl before ↦ Has-left old more name ((olds name).1 (p.0, (p.1.0, before, p.1.2)))
      | inr last ↦ Has-right old more name ((mores name).1 (p.1.0, last.1, subst (λ (k : ℕ). OfShard f has snaps index k p.1.0 name) last.0 p.1.2))
    ],
  )

  pub shards_more : {A : Type 0} (h : A → Option ℕ) (xs : List A) (i : ℕ) (x : A) (old new more : List CodeName) → i < length xs → x ≡ get_or xs i x → length (map h (take i xs)) ≡ i
      → new ≡ old ++ more → AreNames old (OfShards f has snaps index (map h (take i xs))) → AreNames more (OfPlace f has snaps index i (h x)) → AreNames new (OfShards f has snaps index (map h (take (i + 1) xs)))
  shards_more {A} h xs i x old new more less is len made olds mores =
      subst (λ (names : List BlobName). Are names (OfShards f has snaps index (map h (take (i + 1) xs)))) (sym (joined_by old new more made))
      (subst (λ (gs : List (Option ℕ)). Are (map name_of old ++ map name_of more) (OfShards f has snaps index gs)) (sym (next h xs i x less is))
      (shards_push (map h (take i xs)) (h x) (map name_of old) (map name_of more) olds (subst (λ (n : ℕ). Are (map name_of more) (OfPlace f has snaps index n (h x))) (sym len) mores)))

  pub shards_all : {A : Type 0} (h : A → Option ℕ) (xs : List A) (i : ℕ) (names : List CodeName) → length xs ≤ i → AreNames names (OfShards f has snaps index (map h (take i xs))) → AreNames names (OfShards f has snaps index (map h xs))
  shards_all {A} h xs i names past are = subst (λ (gs : List (Option ℕ)). AreNames names (OfShards f has snaps index gs)) (all h xs i past) are

  -- a shard that has a generation
  pub place_some : (shard g : ℕ) (names : List CodeName) → AreNames names (OfShard f has snaps index shard g) → AreNames names (OfPlace f has snaps index shard (Some g))
  place_some shard g names are =
      are_as (OfShard f has snaps index shard g) (OfPlace f has snaps index shard (Some g)) (map name_of names) are (λ name p. (g, refl, p))
      (λ name p. let is : ◌≡◌ {A = Option ℕ} (Some g) (Some p.0) = p.1 in let same : p.0 ≡ g = cc in subst (λ (n : ℕ). OfShard f has snaps index shard n name) same p.2)

  -- a shard's index that reads
  pub shard_read : IsOne has → (shard g : ℕ) (held : ShardFiles) (names : List BlobName) → Reads has (ShardIndex index shard g) f.shard_index held
      → Are names (λ name. OfHeld snaps held index shard name ⊎ (name ≡ ShardIndex index shard g))
      → Are names (OfShard f has snaps index shard g)
  shard_read one shard g held names reads are =
      are_as (λ name. OfHeld snaps held index shard name ⊎ (name ≡ ShardIndex index shard g)) (OfShard f has snaps index shard g) names are
      (λ name p. elim p [ inl below ↦ inr (held, reads, below) | inr own ↦ inl own ])
      (λ name p. elim p [
        | inl own ↦ inr own
        | inr other ↦ inl (subst (λ (v : ShardFiles). OfHeld snaps v index shard name) (reads_one has one (ShardIndex index shard g) f.shard_index other.0 held other.1 reads) other.2)
      ])

  -- a shard's index that doesn't
  pub shard_unread : (shard g : ℕ) (names : List BlobName) → ((v : ShardFiles) → Reads has (ShardIndex index shard g) f.shard_index v → ⊥) → Are names (λ name. name ≡ ShardIndex index shard g)
      → Are names (OfShard f has snaps index shard g)
  shard_unread shard g names none are =
      are_as (λ name. name ≡ ShardIndex index shard g) (OfShard f has snaps index shard g) names are (λ name own. inl own)
      (λ name p. elim p [ inl own ↦ own | inr other ↦ absurd (none other.0 other.1) ])

-- ---- of what a shard's index lists

pub list_new : (held : ShardFiles) (index shard : ℕ) (s : RootSnap) → HasList held.snapshots s.uuid → Are (ShardSnap index shard s.uuid ∷ []) (OfList held index shard s)
list_new held index shard s has = are_as (λ name. name ≡ ShardSnap index shard s.uuid) (OfList held index shard s) (ShardSnap index shard s.uuid ∷ []) (are_one (ShardSnap index shard s.uuid)) (λ name is. (has, is)) (λ name p. p.1)

pub list_none : (held : ShardFiles) (index shard : ℕ) (s : RootSnap) → (HasList held.snapshots s.uuid → ⊥) → Are [] (OfList held index shard s)
list_none held index shard s none = are_none (OfList held index shard s) (λ name p. none p.0)

-- ---- of a root

module _ (f : Formats) (has : BlobName → Bytes → Type 0) (root : RootData) (once : IsOneEach root.indices) where
  generation_at : (x : RootIndex) → Has root.indices x → (k g : ℕ) → at_shard x.generations k ≡ Some g → Generation root x.id k g
  generation_at x there k g is = ap (λ (o : Option RootIndex). at_shard_of o k) (index_there root.indices once x there) ∙ is

  shard_reached : (x : RootIndex) → Has root.indices x → (k g : ℕ) → at_shard x.generations k ≡ Some g → (name : BlobName) → OfShard f has root.snapshots x.id k g name → Reached f has root name
  shard_reached x there k g is name (inl own) = subst (Reached f has root) (sym own) (ReachIndex x.id k g (generation_at x there k g is))
  shard_reached x there k g is name (inr (held, reads, inl (s, listed, ((l, has_l, same), named)))) =
      subst (Reached f has root) (sym named) (ReachShardSnap x.id k g s held l (generation_at x there k g is) reads has_l listed same)
  shard_reached x there k g is name (inr (held, reads, inr (e, has_e, part))) = ReachPart x.id k g held e name (generation_at x there k g is) reads has_e part

  reached_of : (name : BlobName) → OfRoot f has root name → Reached f has root name
  reached_of name (inl (s, listed, inl own)) = subst (Reached f has root) (sym own) (ReachSnap s listed)
  reached_of name (inl (s, listed, inr own)) = subst (Reached f has root) (sym own) (ReachMeta s listed)
  reached_of name (inr (x, there, inl (u, has_u, own))) = subst (Reached f has root) (sym own) (ReachIndexMeta x u there has_u)
  reached_of name (inr (x, there, inr (k, (g, is, p)))) = shard_reached x there k g is name p

  of_shard : (i k g : ℕ) → Generation root i k g → (name : BlobName) → OfShard f has root.snapshots i k g name → OfRoot f has root name
  of_shard i k g is name p =
      let found = index_found root.indices i k g is in
      inr (found.0, found.1, inr (k, (g, found.3, subst (λ (n : ℕ). OfShard f has root.snapshots n k g name) (sym found.2) p)))

  of_reached : (name : BlobName) → Reached f has root name → OfRoot f has root name
  of_reached name (ReachSnap s listed) = inl (s, listed, inl refl)
  of_reached name (ReachMeta s listed) = inl (s, listed, inr refl)
  of_reached name (ReachIndexMeta x u there has_u) = inr (x, there, inl (u, has_u, refl))
  of_reached name (ReachIndex i k g is) = of_shard i k g is (ShardIndex i k g) (inl refl)
  of_reached name (ReachShardSnap i k g s held l is reads has_l listed same) = of_shard i k g is (ShardSnap i k s.uuid) (inr (held, reads, inl (s, listed, ((l, has_l, same), refl))))
  of_reached name (ReachPart i k g held e part is reads has_e has_part) = of_shard i k g is part (inr (held, reads, inr (e, has_e, has_part)))

  pub reached_exactly : (names : List CodeName) → AreNames names (OfRoot f has root) → AreNames names (Reached f has root)
  reached_exactly names are = are_as (OfRoot f has root) (Reached f has root) (map name_of names) are reached_of of_reached

-- ---- each once

once_push : (names : List BlobName) (n : BlobName) → AreOnce names → (Has names n → ⊥) → AreOnce (names ++ n ∷ [])
once_push [] n once new = (λ none. none, tt)
once_push (m ∷ names) n once new = (
  λ has. elim (Has-append names n m has) [ inl before ↦ once.0 before | inr last ↦ new (inl (sym last)) ],
  once_push names n once.1 (λ has. new (inr has)),
)

pub once_more : (old new : List CodeName) (n : CodeName) → new ≡ old ++ n ∷ [] → AreOnce (map name_of old) → (Has (map name_of old) (name_of n) → ⊥) → AreOnce (map name_of new)
once_more old new n is once other = subst AreOnce (sym (joined_by old new (n ∷ []) is)) (once_push (map name_of old) (name_of n) once other)

-- a new one is kept
kept_new : (xs : List CodeName) (i : ℕ) (x : CodeName) (old new : List CodeName) → i < length xs → x ≡ get_or xs i x → new ≡ old ++ x ∷ [] → AreNames old (Has (map name_of (take i xs)))
    → AreNames new (Has (map name_of (take (i + 1) xs)))
kept_new xs i x old new less is made are name =
    let front = next name_of xs i x less is in
    let joined = joined_by old new (x ∷ []) made in (
      λ has. subst (λ (ns : List BlobName). Has ns name) (sym front)
          (elim (Has-either (map name_of old) (name_of x ∷ []) name (subst (λ (ns : List BlobName). Has ns name) joined has)) [
            | inl before ↦ Has-left (map name_of (take i xs)) (name_of x ∷ []) name ((are name).0 before)
            | inr last ↦ Has-right (map name_of (take i xs)) (name_of x ∷ []) name last
          ]),
      λ has. subst (λ (ns : List BlobName). Has ns name) (sym joined)
          (elim (Has-either (map name_of (take i xs)) (name_of x ∷ []) name (subst (λ (ns : List BlobName). Has ns name) front has)) [
            | inl before ↦ Has-left (map name_of old) (name_of x ∷ []) name ((are name).1 before)
            | inr last ↦ Has-right (map name_of old) (name_of x ∷ []) name last
          ]),
    )

-- one that stood before is left out
kept_old : (xs : List CodeName) (i : ℕ) (x : CodeName) (old : List CodeName) → i < length xs → x ≡ get_or xs i x → Has (map name_of old) (name_of x) → AreNames old (Has (map name_of (take i xs)))
    → AreNames old (Has (map name_of (take (i + 1) xs)))
kept_old xs i x old less is there are name =
    let front = next name_of xs i x less is in (
      λ has. subst (λ (ns : List BlobName). Has ns name) (sym front) (Has-left (map name_of (take i xs)) (name_of x ∷ []) name ((are name).0 has)),
      λ has. elim (Has-append (map name_of (take i xs)) (name_of x) name (subst (λ (ns : List BlobName). Has ns name) front has)) [
        | inl before ↦ (are name).1 before
        | inr last ↦ subst (λ (n : BlobName). Has (map name_of old) n) last there
      ],
    )

-- the same of a name that is read at a place, at any default
pub read_new : (xs : List CodeName) (i : ℕ) (d : CodeName) (old new : List CodeName) → i < length xs → new ≡ old ++ get_or xs i d ∷ [] → AreNames old (Has (map name_of (take i xs))) → AreNames new (Has (map name_of (take (i + 1) xs)))
read_new xs i d old new less made are = kept_new xs i (get_or xs i d) old new less (item_is xs i d less) made are

pub read_old : (xs : List CodeName) (i : ℕ) (d : CodeName) (old : List CodeName) → i < length xs → Has (map name_of old) (name_of (get_or xs i d)) → AreNames old (Has (map name_of (take i xs)))
    → AreNames old (Has (map name_of (take (i + 1) xs)))
read_old xs i d old less there are = kept_old xs i (get_or xs i d) old less (item_is xs i d less) there are

-- seen of an equal list
pub has_moved : (before now : List CodeName) (x : CodeName) → before ≡ now → Has (map name_of before) (name_of x) → Has (map name_of now) (name_of x)
has_moved before now x same has = subst (λ (ns : List CodeName). Has (map name_of ns) (name_of x)) same has

pub none_moved : (before now : List CodeName) (x : CodeName) → before ≡ now → (Has (map name_of before) (name_of x) → ⊥) → Has (map name_of now) (name_of x) → ⊥
none_moved before now x same none has = none (subst (λ (ns : List CodeName). Has (map name_of ns) (name_of x)) (sym same) has)

-- the same names, of which it holds
pub names_kept : (P : BlobName → Type 0) (names kept : List CodeName) → AreNames names P → AreNames kept (Has (map name_of names)) → AreNames kept P
names_kept P names kept are same name = (λ has. (are name).0 ((same name).0 has), λ p. (same name).1 ((are name).1 p))
