-- The shards that are pushed for the indices of a root: each is one of the root, once, with its generation.
use Rattle.std.proofs.Common.{◌≡◌, ◌⊎◌, ℕ, zero, suc, ◌+◌, ◌<◌, ◌≤◌, Bool, true, false, List, [], ◌∷◌, ◌++◌, map, flat_map, length, Option, Some, None, option_map, refl, sym, ap, ◌∙◌, subst, inl, inr, arith}
use Rattle.std.specs.Prelude.{if◌then◌else◌}
use Rattle.std.proofs.lemmas.List.{length-map}
use Rattle.esr_model.specs.Lists.{Has-left, Has-right, Has-either, Has-mapped, Has-map, all_has}
use Rattle.esr_names.specs.declared.ids.Id.{Id}
use Rattle.esr_root.specs.Root.{Root}
use Rattle.esr_root.specs.Indices.{AreIndices, IsIndex}
use Rattle.esr_root.specs.declared.indices.RootIndex.{RootIndex as CodeIndex}
use Rattle.esr_shardidx.specs.Indices.{IndexValue, IsShardIndex, survivors_of}
use Rattle.esr_shardidx.specs.IndexLists.{survivors_of-is}
use Rattle.esr_formats.specs.Ids.{number_of, id_of}
use Rattle.esr_formats.specs.Formats.{formats}
use Rattle.esr_formats.specs.Roots.{root_of, root_index_of}
use Rattle.esr_formats.specs.Shards.{shard_index_of, shard_index_kind}
use Rattle.esr_formats.specs.ReadBack.{shard_index_reads_back}
use Rattle.esr_model.specs.Names.{BlobName}
use Rattle.esr_model.specs.Values.{Bytes, Has, RootIndex, RootData, ShardFiles, ReadsBack}
use Rattle.esr_model.specs.Image.{Generation, at_shard, at_shard_of}
use Rattle.esr_model.specs.Delete.{PrunedShard, names_uuid, left_uuids, uuids_of, index_bytes, is_index, files_by, surviving, gone_shards}
use Rattle.esr_core.specs.Pruning.{is_touched, bare_shard, AreOfRoot, AreWritable}
use Rattle.esr_core.specs.Laws.DeleteRoots.{AreApart, one_found}
use Rattle.esr_core.specs.Laws.DoomNames.{of_indices}
use Rattle.esr_reach.specs.Held.{HeldShard, held_at, AreWhole}
use Rattle.esr_reach.specs.Names.{AreOnce}
use Rattle.esr_reach.specs.Members.{has_if, in_then, has_flat, in_flat}
use Rattle.esr_reach.specs.OnceEach.{indices_once, one_each}
use Rattle.esr_results.specs.declared.pruned.PrunedShard.{PrunedShard as CodePruned}
use Rattle.esr_results.specs.Pruned.{pruned_of}
use Rattle.esr_dooming.specs.declared.prune.Loss.{Loss}
use Rattle.esr_dooming.specs.Pieces.{Added, is_one, one_shard, of_places, touches, loss_of, kept_by, one_piece, read_piece, place_piece, loses_all, index_piece, read_place, read_index}
use Rattle.esr_dooming.specs.Reading.{IsHeld, AreToRead, HasToRead, AreHeldSome, AreFew}
use Rattle.esr_dooming.proofs.Numbers.{of_ids}
use Rattle.esr_dooming.proofs.Pruning.{touched_same}
use Rattle.esr_dooming.proofs.Surviving.{left_same}

none_some : (n : ℕ) → ◌≡◌ {A = Option ℕ} None (Some n) → ⊥
none_some n e = cc

plus_zero : (n : ℕ) → n ≡ n + 0
plus_zero n = omega arith

from_zero : (n : ℕ) → 0 + n ≡ n
from_zero n = omega arith

-- ---- one place

-- nothing, or one shard of the index, with its generation
abbrev IsPiece : ℕ → ℕ → Option ℕ → List PrunedShard → Type 0
IsPiece index number g ps = (ps ≡ []) ⊎ ((p : PrunedShard) × (ps ≡ p ∷ []) × (p.index ≡ index) × (p.number ≡ number) × (g ≡ Some p.base))

abbrev ArePieces : ℕ → (ℕ → Option ℕ → List PrunedShard) → Type 0
ArePieces index piece = (number : ℕ) (g : Option ℕ) → IsPiece index number g (piece number g)

read_places : (index : ℕ) → ArePieces index (read_place index)
read_places index number None = inl refl
read_places index number (Some base) = inr (one_shard index number base false, refl, refl, refl, refl)

one_pieces : (index number base : ℕ) (kept : Option Bool) → IsPiece index number (Some base) (one_piece index number base kept)
one_pieces index number base None = inl refl
one_pieces index number base (Some kept) = inr (one_shard index number base kept, refl, refl, refl, refl)

known_pieces : (named listed : ℕ → Bool) (loss : Loss) (index number base : ℕ) (o : Option ShardFiles) → IsPiece index number (Some base) (read_piece named listed loss index number base o)
known_pieces named listed loss index number base None = inl refl
known_pieces named listed loss index number base (Some was) = one_pieces index number base (kept_by named listed loss was.snapshots)

place_pieces : (named listed : ℕ → Bool) (loss : Loss) (held : List HeldShard) (index : ℕ) → ArePieces index (place_piece named listed loss held index)
place_pieces named listed loss held index number None = inl refl
place_pieces named listed loss held index number (Some base) = known_pieces named listed loss index number base (held_at held index number)

piece_has : (index number : ℕ) (g : Option ℕ) (ps : List PrunedShard) (p : PrunedShard) → IsPiece index number g ps → Has ps p → (p.index ≡ index) × (p.number ≡ number) × (g ≡ Some p.base)
piece_has index number g ps p (inl none) m = absurd (subst (λ (l : List PrunedShard). Has l p) none m)
piece_has index number g ps p (inr one) m = elim (subst (λ (l : List PrunedShard). Has l p) one.1 m) [
  | inl same ↦ (sym (ap (λ (q : PrunedShard). q.index) same) ∙ one.2, sym (ap (λ (q : PrunedShard). q.number) same) ∙ one.3, one.4 ∙ ap (λ (q : PrunedShard). Some q.base) same)
  | inr none ↦ absurd none
]

piece_apart : (index number : ℕ) (g : Option ℕ) (ps : List PrunedShard) → IsPiece index number g ps → AreApart ps
piece_apart index number g ps (inl none) = subst AreApart (sym none) tt
piece_apart index number g ps (inr one) = subst AreApart (sym one.1) ((λ q none. absurd none), tt)

-- ---- the places of an index

-- a shard of the index, with its generation
pub record IsAt (index number : ℕ) (gs : List (Option ℕ)) (p : PrunedShard) : Type 0 where
  pub index_is : p.index ≡ index
  pub place : ℕ
  pub number_is : p.number ≡ number + place
  pub at : at_shard gs place ≡ Some p.base

places_has : (index : ℕ) (piece : ℕ → Option ℕ → List PrunedShard) → ArePieces index piece → (number : ℕ) (gs : List (Option ℕ)) (p : PrunedShard) → Has (of_places piece number gs) p → IsAt index number gs p
places_has index piece are number [] p m = absurd m
places_has index piece are number (g ∷ gs) p m = elim (Has-either (piece number g) (of_places piece (suc number) gs) p m) [
  | inl here ↦
      let own = piece_has index number g (piece number g) p (are number g) here in
      record { index_is = own.0; place = 0; number_is = own.1 ∙ plus_zero number; at = own.2 }
  | inr later ↦
      let rest = places_has index piece are (suc number) gs p later in
      let next : number + suc rest.place ≡ suc number + rest.place = omega arith in
      record { index_is = rest.index_is; place = suc rest.place; number_is = rest.number_is ∙ sym next; at = rest.at }
]

apart_both : (xs ys : List PrunedShard) → AreApart xs → AreApart ys → ((p q : PrunedShard) → Has xs p → Has ys q → p.index ≡ q.index → p.number ≡ q.number → ⊥) → AreApart (xs ++ ys)
apart_both [] ys a b cross = b
apart_both (x ∷ xs) ys a b cross = (
  λ q m same number. elim (Has-either xs ys q m) [ inl here ↦ a.0 q here same number | inr later ↦ cross x q (inl refl) later same number ],
  apart_both xs ys a.1 b (λ p q m n. cross p q (inr m) n),
)

places_apart : (index : ℕ) (piece : ℕ → Option ℕ → List PrunedShard) → ArePieces index piece → (number : ℕ) (gs : List (Option ℕ)) → AreApart (of_places piece number gs)
places_apart index piece are number [] = tt
places_apart index piece are number (g ∷ gs) =
    apart_both (piece number g) (of_places piece (suc number) gs) (piece_apart index number g (piece number g) (are number g)) (places_apart index piece are (suc number) gs)
    (λ p q m n same number_same.
    let own : p.number ≡ number = (piece_has index number g (piece number g) p (are number g) m).1 in
    let rest = places_has index piece are (suc number) gs q n in
    let there : q.number ≡ suc number + rest.place = rest.number_is in
    omega (arith, own, there, number_same))

-- what holds of each piece holds of all
all_places : (P : PrunedShard → Type 0) (piece : ℕ → Option ℕ → List PrunedShard) → ((number : ℕ) (g : Option ℕ) (p : PrunedShard) → Has (piece number g) p → P p) → (number : ℕ) (gs : List (Option ℕ)) (p : PrunedShard)
    → Has (of_places piece number gs) p → P p
all_places P piece each number [] p m = absurd m
all_places P piece each number (g ∷ gs) p m = elim (Has-either (piece number g) (of_places piece (suc number) gs) p m) [
  | inl here ↦ each number g p here
  | inr later ↦ all_places P piece each (suc number) gs p later
]

-- a place with a generation gives its shard
in_read : (index number place base : ℕ) (gs : List (Option ℕ)) → at_shard gs place ≡ Some base → Has (of_places (read_place index) number gs) (one_shard index (number + place) base false)
in_read index number place base [] at = absurd (none_some base at)
in_read index number zero base (g ∷ gs) at =
    let here : one_shard index number base false ≡ one_shard index (number + 0) base false = ap (λ (n : ℕ). one_shard index n base false) (plus_zero number) in
    Has-left (read_place index number g) (of_places (read_place index) (suc number) gs) (one_shard index (number + 0) base false)
    (subst (λ (o : Option ℕ). Has (read_place index number o) (one_shard index (number + 0) base false)) (sym at) (inl here))
in_read index number (suc place) base (g ∷ gs) at =
    let next : suc number + place ≡ number + suc place = omega arith in
    Has-right (read_place index number g) (of_places (read_place index) (suc number) gs) (one_shard index (number + suc place) base false)
    (subst (λ (n : ℕ). Has (of_places (read_place index) (suc number) gs) (one_shard index n base false)) next (in_read index (suc number) place base gs at))

-- ---- all indices

-- what an index gives: shards of it, apart, each with its generation; and nothing where the test of its snapshots fails
pub record AreOfIndex (test : List ℕ → Bool) (of : RootIndex → List PrunedShard) : Type 0 where
  pub at : (x : RootIndex) (p : PrunedShard) → Has (of x) p → (test x.snapshots ≡ true) × IsAt x.id 0 x.generations p
  pub apart : (x : RootIndex) → AreApart (of x)

apart_if : (b : Bool) (ps : List PrunedShard) → AreApart ps → AreApart (if b then ps else [])
apart_if true ps h = h
apart_if false ps h = tt

of_pieces : (test : List ℕ → Bool) (piece : RootIndex → ℕ → Option ℕ → List PrunedShard) → ((x : RootIndex) → ArePieces x.id (piece x)) → AreOfIndex test (λ x. if test x.snapshots then of_places (piece x) 0 x.generations else [])
of_pieces test piece are = record {
  at = λ x p m. elim (has_if (test x.snapshots) (of_places (piece x) 0 x.generations) [] p m) [
    | inl here ↦ (here.0, places_has x.id (piece x) (are x) 0 x.generations p here.1)
    | inr none ↦ absurd none.1
  ];
  apart = λ x. apart_if (test x.snapshots) (of_places (piece x) 0 x.generations) (places_apart x.id (piece x) (are x) 0 x.generations);
}

pub read_of_index : (clean : Bool) (named : ℕ → Bool) → AreOfIndex (touches clean named) (read_index clean named)
read_of_index clean named = of_pieces (touches clean named) (λ x. read_place x.id) (λ x. read_places x.id)

pub pruned_of_index : (clean : Bool) (named listed : ℕ → Bool) (held : List HeldShard) → AreOfIndex (touches clean named) (index_piece clean named listed held)
pruned_of_index clean named listed held =
    of_pieces (touches clean named) (λ x. place_piece named listed (loss_of clean (loses_all named x.snapshots)) held x.id) (λ x. place_pieces named listed (loss_of clean (loses_all named x.snapshots)) held x.id)

flat_apart : (test : List ℕ → Bool) (of : RootIndex → List PrunedShard) → AreOfIndex test of → (xs : List RootIndex) → AreOnce (map (λ (x : RootIndex). x.id) xs) → AreApart (flat_map of xs)
flat_apart test of are [] once = tt
flat_apart test of are (x ∷ xs) once =
    apart_both (of x) (flat_map of xs) (are.apart x) (flat_apart test of are xs once.1)
    (λ p q m n same number.
    let own : p.index ≡ x.id = (are.at x p m).1.index_is in
    let later = has_flat of xs q n in
    let other : q.index ≡ later.0.id = (are.at later.0 q later.2).1.index_is in
    once.0 (subst (λ (i : ℕ). Has (map (λ (y : RootIndex). y.id) xs) i) (sym other ∙ sym same ∙ own) (Has-map (λ (y : RootIndex). y.id) xs later.0 later.1)))

-- each with its generation, and apart
of_root_by : (root : RootData) (ps : List PrunedShard) → ((p : PrunedShard) → Has ps p → Generation root p.index p.number p.base) → AreApart ps → AreOfRoot root ps
of_root_by root [] each apart = tt
of_root_by root (p ∷ ps) each apart = (each p (inl refl), apart.0, of_root_by root ps (λ q m. each q (inr m)) apart.1)

module _ (test : List ℕ → Bool) (of : RootIndex → List PrunedShard) (are : AreOfIndex test of) (root : RootData) (once : AreOnce (map (λ (x : RootIndex). x.id) root.indices)) where
  generation : (p : PrunedShard) → Has (flat_map of root.indices) p → Generation root p.index p.number p.base
  generation p m =
      let found = has_flat of root.indices p m in
      let at = (are.at found.0 p found.2).1 in
      let there = one_found root.indices (one_each root.indices once) found.0 found.1 p.index (sym at.index_is) in
      let number : p.number ≡ at.place = at.number_is ∙ from_zero at.place in
      ap (λ (o : Option RootIndex). at_shard_of o p.number) there ∙ ap (at_shard found.0.generations) number ∙ at.at

  pub to_read : (clean : Bool) (uuids : List ℕ) → ((us : List ℕ) → is_touched clean uuids us ≡ test us) → AreToRead clean root uuids (flat_map of root.indices)
  to_read clean uuids touched p m =
      let found = has_flat of root.indices p m in
      let own = are.at found.0 p found.2 in
      let number : p.number ≡ own.1.place = own.1.number_is ∙ from_zero own.1.place in
      record {
        x = found.0;
        there = found.1;
        id = sym own.1.index_is;
        victim = touched found.0.snapshots ∙ own.0;
        at = ap (at_shard found.0.generations) number ∙ own.1.at;
      }

  pub of_root : AreOfRoot root (flat_map of root.indices)
  of_root = of_root_by root (flat_map of root.indices) generation (flat_apart test of are root.indices once)

-- an index is read where the test of its snapshots holds
pub touched_by : (clean : Bool) (named : ℕ → Bool) (uuids : List ℕ) → named ≡ names_uuid uuids → (us : List ℕ) → is_touched clean uuids us ≡ touches clean named us
touched_by clean named uuids names us = touched_same clean uuids us ∙ ap (λ (t : ℕ → Bool). touches clean t us) (sym names)

-- each that is to be read is given
pub has_to_read : (clean : Bool) (named : ℕ → Bool) (root : RootData) (uuids : List ℕ) → named ≡ names_uuid uuids → HasToRead clean root uuids (flat_map (read_index clean named) root.indices)
has_to_read clean named root uuids names index number base h =
    let place : one_shard h.x.id (0 + number) base false ≡ bare_shard index number base = (λ j. one_shard (h.id j) (from_zero number j) base false) in
    let passes : touches clean named h.x.snapshots ≡ true = sym (touched_by clean named uuids names h.x.snapshots) ∙ h.victim in
    in_flat (read_index clean named) root.indices h.x (bare_shard index number base) h.there
    (in_then (touches clean named h.x.snapshots) (of_places (read_place h.x.id) 0 h.x.generations) [] (bare_shard index number base) passes
    (subst (λ (p : PrunedShard). Has (of_places (read_place h.x.id) 0 h.x.generations) p) place (in_read h.x.id 0 number base h.x.generations h.at)))

-- ---- what is held of those that are pruned

known_held : (named listed : ℕ → Bool) (loss : Loss) (index number base : ℕ) (o : Option ShardFiles) (p : PrunedShard) → Has (read_piece named listed loss index number base o) p → (v : ShardFiles) × (o ≡ Some v)
known_held named listed loss index number base None p m = absurd m
known_held named listed loss index number base (Some was) p m = (was, refl)

place_held : (named listed : ℕ → Bool) (loss : Loss) (held : List HeldShard) (index number : ℕ) (g : Option ℕ) (p : PrunedShard) → Has (place_piece named listed loss held index number g) p
    → (v : ShardFiles) × (held_at held p.index p.number ≡ Some v)
place_held named listed loss held index number None p m = absurd m
place_held named listed loss held index number (Some base) p m =
    let own = piece_has index number (Some base) (place_piece named listed loss held index number (Some base)) p (place_pieces named listed loss held index number (Some base)) m in
    let some = known_held named listed loss index number base (held_at held index number) p m in
    (some.0, (λ j. held_at held (own.0 j) (own.1 j)) ∙ some.1)

pub pruned_held : (clean : Bool) (named listed : ℕ → Bool) (held : List HeldShard) (xs : List RootIndex) → AreHeldSome held (flat_map (index_piece clean named listed held) xs)
pruned_held clean named listed held xs p m =
    let found = has_flat (index_piece clean named listed held) xs p m in
    let x = found.0 in
    let loss = loss_of clean (loses_all named x.snapshots) in
    elim (has_if (touches clean named x.snapshots) (of_places (place_piece named listed loss held x.id) 0 x.generations) [] p found.2) [
      | inl here ↦ all_places (λ (q : PrunedShard). (v : ShardFiles) × (held_at held q.index q.number ≡ Some v)) (place_piece named listed loss held x.id) (place_held named listed loss held x.id) 0 x.generations p here.1
      | inr none ↦ absurd none.1
    ]

-- ---- numbers of shards

at_below : (gs : List (Option ℕ)) (k g : ℕ) → at_shard gs k ≡ Some g → k < length gs
at_below [] k g at = absurd (none_some g at)
at_below (x ∷ gs) zero g at = omega arith
at_below (x ∷ gs) (suc k) g at = let below = at_below gs k g at in omega (arith, below)

pub place_few : (is : List CodeIndex) → AreIndices is → (x : RootIndex) → Has (map root_index_of is) x → (k g : ℕ) → at_shard x.generations k ≡ Some g → k < 1024
place_few is rule x m k g at =
    let found = Has-mapped root_index_of is x m in
    let each : IsIndex found.0 = all_has IsIndex is found.0 rule.each found.1 in
    let few : length found.0.generations ≤ 1024 = each.generations.few in
    let len : length x.generations ≡ length found.0.generations = ap (λ (y : RootIndex). length y.generations) (sym found.2) ∙ length-map found.0.generations (option_map number_of) in
    let below : k < length x.generations = at_below x.generations k g at in
    omega (arith, few, len, below)

pub read_few : (is : List CodeIndex) → AreIndices is → (clean : Bool) (root : RootData) (uuids : List ℕ) (shards : List PrunedShard) → map root_index_of is ≡ root.indices → AreToRead clean root uuids shards → AreFew shards
read_few is rule clean root uuids shards same are p m =
    let h = are p m in
    place_few is rule h.x (subst (λ (xs : List RootIndex). Has xs h.x) (sym same) h.there) p.number p.base h.at

pub gone_few : (root next : Root) → AreIndices root.indices → AreFew (gone_shards (root_of next) (root_of root).indices)
gone_few root next rule p m =
    let (x, there, h) = of_indices (root_of next) (root_of root).indices p m in
    let few : h.place < 1024 = place_few root.indices rule x there h.place p.base h.at in
    let number : p.number ≡ 0 + h.place = h.number_is in
    omega (arith, few, number)

-- ---- of the code

-- what was pushed for all indices
pub pushed_are : (of : RootIndex → List PrunedShard) (root : Root) (indices : List CodeIndex) (start end : List CodePruned) → start ≡ [] → indices ≡ root.indices → Added start end (flat_map of (map root_index_of indices))
    → map pruned_of end ≡ flat_map of (root_of root).indices
pushed_are of root indices start end none same added = added ∙ (λ j. map pruned_of (none j) ++ flat_map of (map root_index_of (same j)))

-- they are shards of the root that are to be read
pub record AreChosen (clean : Bool) (root : RootData) (uuids : List ℕ) (shards : List PrunedShard) : Type 0 where
  pub each : AreToRead clean root uuids shards
  pub of_root : AreOfRoot root shards
  pub few : AreFew shards

pub named_by : (uuids ids : List Id) (named : ℕ → Bool) → ids ≡ uuids → named ≡ is_one (map number_of ids) → named ≡ names_uuid (map number_of uuids)
named_by uuids ids named same is = is ∙ ap (λ (us : List Id). is_one (map number_of us)) same ∙ of_ids (map number_of uuids)

pub chosen : (clean : Bool) (test : List ℕ → Bool) (of : RootIndex → List PrunedShard) → AreOfIndex test of → (root : Root) (uuids : List ℕ) (shards : List PrunedShard) → ((us : List ℕ) → is_touched clean uuids us ≡ test us)
    → AreIndices root.indices
    → shards ≡ flat_map of (root_of root).indices → AreChosen clean (root_of root) uuids shards
chosen clean test of are root uuids shards touched rule same =
    let once = indices_once root.indices rule in
    let each = to_read test of are (root_of root) once clean uuids touched in
    subst (AreChosen clean (root_of root) uuids) (sym same) (record {
      each = each;
      of_root = of_root test of are (root_of root) once;
      few = read_few root.indices rule clean (root_of root) uuids (flat_map of (root_of root).indices) refl each;
    })

-- ---- what is left can be written

ids_back : (us : List ℕ) → map number_of (map id_of us) ≡ us
ids_back [] = refl
ids_back (u ∷ us) = ap (λ (vs : List ℕ). u ∷ vs) (ids_back us)

left_reads : (v : IndexValue) (us : List ℕ) → IsShardIndex v → ReadsBack shard_index_kind (surviving us (shard_index_of v))
left_reads v us whole =
    subst (λ (ws : List ℕ). ReadsBack shard_index_kind (surviving ws (shard_index_of v))) (ids_back us)
    (subst (ReadsBack shard_index_kind) (left_same v (map id_of us)) (shard_index_reads_back (survivors_of v (map id_of us)) (survivors_of-is v (map id_of us) whole)))

bare_bytes : (blobs : List (BlobName × Bytes)) (p : PrunedShard) → index_bytes blobs p ≡ index_bytes blobs (bare_shard p.index p.number p.base)
bare_bytes [] p = refl
bare_bytes (b ∷ blobs) p = ap (λ (o : Option Bytes). if is_index p.index p.number p.base b.0 then Some b.1 else o) (bare_bytes blobs p)

pub writable : (known : Bytes → Bytes → ℕ → Bool) (told : Bytes → Bytes → ℕ → Option (List (Bytes × Bytes)))
    (clean : Bool) (root : RootData) (uuids : List ℕ) (blobs : List (BlobName × Bytes)) (held : List HeldShard) (shards : List PrunedShard)
    → AreWhole held → AreToRead clean root uuids shards → IsHeld (formats known told) clean root uuids blobs held → AreWritable (formats known told) root uuids blobs shards
unfolding formats
writable known told clean root uuids blobs held shards whole are is_held p was m read =
    let f = formats known told in
    let own : held_at held p.index p.number ≡ Some was = is_held p.index p.number p.base (are p m) ∙ ap (files_by f) (sym (bare_bytes blobs p)) ∙ read in
    let (v, rule, same) = whole p.index p.number was own in
    subst (λ (files : ShardFiles). ReadsBack shard_index_kind (surviving (left_uuids uuids (uuids_of root)) files)) (sym same) (left_reads v (left_uuids uuids (uuids_of root)) rule)
