-- The shards that a delete prunes by what is held are those that it prunes by what was read.
use Rattle.std.proofs.Common.{◌≡◌, ℕ, suc, ◌+◌, ◌==◌, ◌&&◌, ◌||◌, Bool, true, false, List, [], ◌∷◌, ◌++◌, map, flat_map, Option, Some, None, refl, sym, ap, ◌∙◌, subst, inl, inr, arith, append_assoc, true≢false}
use Rattle.std.specs.Prelude.{not, if◌then◌else◌}
use Rattle.std.specs.List.{list_any}
use Rattle.std.proofs.lemmas.Bool.{cases_Bool, eqb-true}
use Rattle.std.proofs.Math.Bool.{and-true, and-false}
use Rattle.esr_names.specs.declared.ids.Id.{Id}
use Rattle.esr_root.specs.Root.{Root}
use Rattle.esr_root.specs.declared.snaps.RootSnap.{RootSnap as CodeSnap}
use Rattle.esr_root.specs.declared.indices.RootIndex.{RootIndex as CodeIndex}
use Rattle.esr_formats.specs.Ids.{number_of}
use Rattle.esr_formats.specs.Roots.{root_of, root_snap_of, root_index_of}
use Rattle.esr_model.specs.Names.{BlobName}
use Rattle.esr_model.specs.Values.{Bytes, Has, RootIndex, SnapList, ShardFiles, Formats}
use Rattle.esr_model.specs.Image.{at_shard}
use Rattle.esr_model.specs.Delete.{PrunedShard, names_uuid, left_uuids, uuids_of, files_read}
use Rattle.esr_core.specs.Pruning.{is_left, is_victim, has_none, has_named, is_touched, pruned_by, bare_shard, pruned_of_index, pruned_of_indices, pruned_shards}
use Rattle.esr_reach.specs.Held.{HeldShard, held_at}
use Rattle.esr_reach.specs.Listing.{is_listed}
use Rattle.esr_results.specs.declared.pruned.PrunedShard.{PrunedShard as CodePruned}
use Rattle.esr_results.specs.Pruned.{pruned_of}
use Rattle.esr_dooming.specs.Pieces.{Added, is_one, of_places, one_shard, touches, has_unlisted, has_left, loss_of, one_piece, read_piece, place_piece, loses_all, index_piece}
use Rattle.esr_dooming.specs.Reading.{IsHeld}
use Rattle.esr_dooming.proofs.Numbers.{of_ids, of_snaps}

-- ---- what is left of some uuids

leave_one : (v u : ℕ) (ls : List ℕ) (a b : Bool) → (a ≡ false → b ≡ true → ⊥) → (v == u) ≡ b → names_uuid ls u ≡ false → names_uuid (if a then ls else v ∷ ls) u ≡ false
leave_one v u ls true b apart same none = none
leave_one v u ls false true apart same none = absurd (apart refl refl)
leave_one v u ls false false apart same none = ap (λ (c : Bool). if c then true else names_uuid ls u) same ∙ none

-- one that is named is none of those that are left
named_leaves : (uuids us : List ℕ) (u : ℕ) → names_uuid uuids u ≡ true → names_uuid (left_uuids uuids us) u ≡ false
named_leaves uuids [] u named = refl
named_leaves uuids (v ∷ us) u named =
    leave_one v u (left_uuids uuids us) (names_uuid uuids v) (v == u) (λ other same. true≢false (sym named ∙ ap (names_uuid uuids) (sym (eqb-true v u same)) ∙ other)) refl (named_leaves uuids us u named)

stay_one : (v u : ℕ) (ls us : List ℕ) (a b : Bool) → (a ≡ true → b ≡ true → ⊥) → (v == u) ≡ b → names_uuid ls u ≡ names_uuid us u → names_uuid (if a then ls else v ∷ ls) u ≡ names_uuid (v ∷ us) u
stay_one v u ls us true true apart same alike = absurd (apart refl refl)
stay_one v u ls us true false apart same alike = alike ∙ ap (λ (c : Bool). if c then true else names_uuid us u) (sym same)
stay_one v u ls us false b apart same alike = ap (λ (c : Bool). if v == u then true else c) alike

-- any other is one where it was
other_stays : (uuids us : List ℕ) (u : ℕ) → names_uuid uuids u ≡ false → names_uuid (left_uuids uuids us) u ≡ names_uuid us u
other_stays uuids [] u other = refl
other_stays uuids (v ∷ us) u other =
    stay_one v u (left_uuids uuids us) us (names_uuid uuids v) (v == u) (λ named same. true≢false (sym named ∙ ap (names_uuid uuids) (eqb-true v u same) ∙ other)) refl (other_stays uuids us u other)

left_names : (uuids us : List ℕ) (u : ℕ) → names_uuid (left_uuids uuids us) u ≡ (names_uuid us u && not (names_uuid uuids u))
left_names uuids us u = elim (cases_Bool (names_uuid uuids u)) [
  | inl named ↦ named_leaves uuids us u named ∙ sym (ap (λ (a : Bool). names_uuid us u && not a) named ∙ and-false (names_uuid us u))
  | inr other ↦ other_stays uuids us u other ∙ sym (ap (λ (a : Bool). names_uuid us u && not a) other ∙ and-true (names_uuid us u))
]

none_one : (a : Bool) (u : ℕ) (ls : List ℕ) (r : Bool) → has_none ls ≡ not r → has_none (if a then ls else u ∷ ls) ≡ not (not a || r)
none_one true u ls r e = e
none_one false u ls r e = refl

loses_same : (uuids us : List ℕ) → has_none (left_uuids uuids us) ≡ loses_all (names_uuid uuids) us
loses_same uuids [] = refl
loses_same uuids (u ∷ us) = none_one (names_uuid uuids u) u (left_uuids uuids us) (list_any (λ (v : ℕ). not (names_uuid uuids v)) us) (loses_same uuids us)

if_or : (a b c : Bool) → b ≡ c → (if a then true else b) ≡ (a || c)
if_or true b c e = refl
if_or false b c e = e

named_same : (uuids us : List ℕ) → has_named uuids us ≡ list_any (names_uuid uuids) us
named_same uuids [] = refl
named_same uuids (u ∷ us) = if_or (names_uuid uuids u) (has_named uuids us) (list_any (names_uuid uuids) us) (named_same uuids us)

pub touched_same : (clean : Bool) (uuids us : List ℕ) → is_touched clean uuids us ≡ touches clean (names_uuid uuids) us
touched_same false uuids us = named_same uuids us
touched_same true uuids us = refl

-- ---- of a shard

kept_same : (uuids listed : List ℕ) (lists : List SnapList) → list_any (is_left (left_uuids uuids listed)) lists ≡ has_left (names_uuid uuids) (names_uuid listed) lists
kept_same uuids listed lists = λ j. list_any (λ (l : SnapList). left_names uuids listed l.uuid j) lists

victim_one : (b k q : Bool) → k ≡ q → (index number base : ℕ) (more : List PrunedShard) → (if b then one_shard index number base k ∷ more else more) ≡ one_piece index number base (if b then Some q else None) ++ more
victim_one true k q e index number base more = ap (λ (c : Bool). one_shard index number base c ∷ more) e
victim_one false k q e index number base more = refl

not_if : (b : Bool) → (if b then false else true) ≡ not b
not_if true = refl
not_if false = refl

unlisted_same : (listed : List ℕ) (lists : List SnapList) → list_any (λ (l : SnapList). if names_uuid listed l.uuid then false else true) lists ≡ has_unlisted (names_uuid listed) lists
unlisted_same listed lists = λ j. list_any (λ (l : SnapList). not_if (names_uuid listed l.uuid) j) lists

read_same : (clean : Bool) (uuids listed : List ℕ) (leaves : Bool) (index number base : ℕ) (o : Option ShardFiles) (more : List PrunedShard)
    → pruned_by clean uuids listed leaves index number base o more ≡ read_piece (names_uuid uuids) (names_uuid listed) (loss_of clean leaves) index number base o ++ more
read_same clean uuids listed true index number base None more = refl
read_same false uuids listed false index number base (Some was) more =
    victim_one (list_any (is_victim false uuids listed) was.snapshots) (list_any (is_left (left_uuids uuids listed)) was.snapshots)
    (has_left (names_uuid uuids) (names_uuid listed) was.snapshots) (kept_same uuids listed was.snapshots) index number base more
read_same true uuids listed false index number base (Some was) more =
    let left : Bool = list_any (is_left (left_uuids uuids listed)) was.snapshots in
    ap (λ (b : Bool). if b then one_shard index number base left ∷ more else more) (unlisted_same listed was.snapshots)
    ∙ victim_one (has_unlisted (names_uuid listed) was.snapshots) left (has_left (names_uuid uuids) (names_uuid listed) was.snapshots) (kept_same uuids listed was.snapshots) index number base more
read_same clean uuids listed leaves index number base o more = refl

-- ---- of indices

module _ (f : Formats) (blobs : List (BlobName × Bytes)) (clean : Bool) (uuids listed : List ℕ) (held : List HeldShard) where
  places_same : (leaves : Bool) (index number : ℕ) (gs : List (Option ℕ)) (rest : List PrunedShard)
      → ((k j g : ℕ) → j ≡ number + k → at_shard gs k ≡ Some g → held_at held index j ≡ files_read f blobs (bare_shard index j g))
      → pruned_of_index f blobs clean uuids listed leaves index number gs rest ≡ of_places (place_piece (names_uuid uuids) (names_uuid listed) (loss_of clean leaves) held index) number gs ++ rest
  places_same leaves index number [] rest h = refl
  places_same leaves index number (None ∷ gs) rest h = places_same leaves index (suc number) gs rest (λ k j g e at. h (suc k) j g (let place : j ≡ number + suc k = omega (arith, e) in place) at)
  places_same leaves index number (Some g ∷ gs) rest h =
      let own : held_at held index number ≡ files_read f blobs (bare_shard index number g) = h 0 number g (let place : number ≡ number + 0 = omega arith in place) refl in
      let later : pruned_of_index f blobs clean uuids listed leaves index (suc number) gs rest ≡ of_places (place_piece (names_uuid uuids) (names_uuid listed) (loss_of clean leaves) held index) (suc number) gs ++ rest =
      places_same leaves index (suc number) gs rest (λ k j b e at. h (suc k) j b (let place : j ≡ number + suc k = omega (arith, e) in place) at) in
      read_same clean uuids listed leaves index number g (files_read f blobs (bare_shard index number g)) (pruned_of_index f blobs clean uuids listed leaves index (suc number) gs rest)
      ∙ (λ i. read_piece (names_uuid uuids) (names_uuid listed) (loss_of clean leaves) index number g (sym own i) ++ later i)
      ∙ sym (append_assoc (read_piece (names_uuid uuids) (names_uuid listed) (loss_of clean leaves) index number g (held_at held index number))
      (of_places (place_piece (names_uuid uuids) (names_uuid listed) (loss_of clean leaves) held index) (suc number) gs) rest)

  -- what is held of the shards of an index is what was read of them
  abbrev IsOf : RootIndex → Type 0
  IsOf x = (k g : ℕ) → at_shard x.generations k ≡ Some g → held_at held x.id k ≡ files_read f blobs (bare_shard x.id k g)

  abbrev places : RootIndex → List PrunedShard
  places x = of_places (place_piece (names_uuid uuids) (names_uuid listed) (loss_of clean (loses_all (names_uuid uuids) x.snapshots)) held x.id) 0 x.generations

  index_same : (x : RootIndex) (rest more : List PrunedShard) (b : Bool) → is_touched clean uuids x.snapshots ≡ b → (b ≡ true → IsOf x) → rest ≡ more
      → (if b then pruned_of_index f blobs clean uuids listed (has_none (left_uuids uuids x.snapshots)) x.id 0 x.generations rest else rest) ≡ index_piece clean (names_uuid uuids) (names_uuid listed) held x ++ more
  index_same x rest more true e h later =
      ap (λ (v : Bool). pruned_of_index f blobs clean uuids listed v x.id 0 x.generations rest) (loses_same uuids x.snapshots)
      ∙ places_same (loses_all (names_uuid uuids) x.snapshots) x.id 0 x.generations rest
      (λ k j g is at. let same : k ≡ j = omega (arith, is) in subst (λ (m : ℕ). held_at held x.id m ≡ files_read f blobs (bare_shard x.id m g)) same (h refl k g at))
      ∙ ap (λ (l : List PrunedShard). places x ++ l) later
      ∙ ap (λ (c : Bool). (if c then places x else []) ++ more) (sym (sym (touched_same clean uuids x.snapshots) ∙ e))
  index_same x rest more false e h later = later ∙ ap (λ (c : Bool). (if c then places x else []) ++ more) (sym (sym (touched_same clean uuids x.snapshots) ∙ e))

  indices_same : (xs : List RootIndex) → ((x : RootIndex) → Has xs x → is_touched clean uuids x.snapshots ≡ true → IsOf x)
      → pruned_of_indices f blobs clean uuids listed xs ≡ flat_map (index_piece clean (names_uuid uuids) (names_uuid listed) held) xs
  indices_same [] h = refl
  indices_same (x ∷ xs) h =
      index_same x (pruned_of_indices f blobs clean uuids listed xs) (flat_map (index_piece clean (names_uuid uuids) (names_uuid listed) held) xs) (is_touched clean uuids x.snapshots) refl (h x (inl refl)) (indices_same xs (λ y m. h y (inr m)))

-- ---- of the root

pub pruned_are : (f : Formats) (blobs : List (BlobName × Bytes)) (clean : Bool) (root : Root) (uuids ids : List Id)
    (snaps : List CodeSnap) (indices : List CodeIndex) (held : List HeldShard) (named listed : ℕ → Bool) (start end : List CodePruned)
    → start ≡ [] → ids ≡ uuids → snaps ≡ root.snapshots → indices ≡ root.indices → named ≡ is_one (map number_of ids) → listed ≡ is_listed (map root_snap_of snaps)
    → Added start end (flat_map (index_piece clean named listed held) (map root_index_of indices)) → IsHeld f clean (root_of root) (map number_of uuids) blobs held
    → map pruned_of end ≡ pruned_shards f clean (root_of root) (map number_of uuids) blobs
pruned_are f blobs clean root uuids ids snaps indices held named listed start end none ids_is snaps_is indices_is named_is listed_is added h =
    let us : List ℕ = map number_of uuids in
    let all : List ℕ = uuids_of (root_of root) in
    let names : named ≡ names_uuid us = named_is ∙ ap (λ (is : List Id). is_one (map number_of is)) ids_is ∙ of_ids us in
    let lists : listed ≡ names_uuid all = listed_is ∙ ap (λ (ss : List CodeSnap). is_listed (map root_snap_of ss)) snaps_is ∙ of_snaps (map root_snap_of root.snapshots) in
    added
    ∙ (λ j. map pruned_of (none j) ++ flat_map (index_piece clean (names j) (lists j) held) (map root_index_of (indices_is j)))
    ∙ sym (indices_same f blobs clean us all held (root_of root).indices (λ x m victim k g at. h x.id k g (record { x = x; there = m; id = refl; victim = victim; at = at })))
