-- Shards with their lists, and what disagrees with their indices.
use Rattle.std.proofs.Common.{◌≡◌, inl, inr, ℕ, zero, suc, ◌+◌, ◌<◌, List, [], ◌∷◌, map, take, length, get_or, Option, Some, None, option_map, Result, Ok, Err, OnOk, IfErr, refl, sym, ap, ◌∙◌, subst, arith}
use Rattle.std.specs.Prelude.{MatchOption}
use Rattle.std.specs.Result.{IsErrAnd}
use Rattle.std.proofs.lemmas.List.{length-map, length-take-le}
use Rattle.esr_model.specs.Loops.{next}
use Rattle.esr_names.specs.declared.ids.Id.{Id}
use Rattle.esr_formats.specs.Ids.{number_of}
use Rattle.esr_model.specs.Names.{BlobName, Snap, ShardSnap, ShardIndex}
use Rattle.esr_model.specs.Values.{Has, RootIndex, RootData, SnapInfo, ShardSnapshot, ShardFiles}
use Rattle.esr_model.specs.Image.{AllPairs, Lists, at_shard}
use Rattle.esr_core.specs.World.{Caller}
use Rattle.esr_core.specs.Entry.{Moment}
use Rattle.esr_desk.specs.Start.{Start, formats_of}
use Rattle.esr_desk.specs.Own.{caller_of}
use Rattle.esr_desk.specs.Check.Shown.{ReadAs, Disagree, IndexBeside, SnapBeside}
use Rattle.esr_unit.specs.declared.trouble.Trouble.{Trouble}
use Rattle.esr_reach.specs.ShardPlaces.{at_push, at_place}
use Rattle.esr_agreement.specs.Lists.{HaveShard, IsUnlisted}
use Rattle.esr_check.specs.Went.{Grown, Went}
use Rattle.esr_check.specs.Pieces.{HasInfo, HasInfos, HasHeld, HasSnap, HasShard, HasPlace}
use Rattle.esr_check.specs.First.{TellsOne, FirstOfPlace, FirstOfShards}
use Rattle.esr_check.proofs.Going.{infos_more, held_more, shard_more}
use Rattle.esr_check.proofs.Telling.{passes}

-- ---- what is ensured of an answer

pub match_none : {A : Type 0} (o : Option A) (P : Type 0) (Q : A → Type 0) → o ≡ None → MatchOption o P Q → P
match_none None P Q is h = h
match_none (Some x) P Q is h = absurd cc

pub match_some : {A : Type 0} (o : Option A) (x : A) (P : Type 0) (Q : A → Type 0) → o ≡ Some x → MatchOption o P Q → Q x
match_some None x P Q is h = absurd cc
match_some (Some y) x P Q is h = let same : y ≡ x = cc in subst Q same h

pub ok_map : {X E : Type 0} (result : Result X E) (P Q : Type 0) → (P → Q) → OnOk result P → OnOk result Q
ok_map (Ok x) P Q each h = each h
ok_map (Err e) P Q each h = tt

-- ---- the infos

pairs_back : {A B : Type 0} (R : A → B → Type 0) (xs : List A) (ys : List B) (y : B) → AllPairs R xs ys → Has ys y → (x : A) × Has xs x × R x y
pairs_back R [] [] y pairs none = absurd none
pairs_back R [] (b ∷ ys) y pairs has = absurd pairs
pairs_back R (a ∷ xs) [] y pairs none = absurd none
pairs_back {A} {B} R (a ∷ xs) (b ∷ ys) y pairs (inl here) = (a, inl refl, subst (λ (z : B). R a z) here pairs.0)
pairs_back R (a ∷ xs) (b ∷ ys) y pairs (inr later) = let found = pairs_back R xs ys y pairs.1 later in (found.0, inr found.1, found.2)

-- each was read under the name of its snapshot
info_read : (s : Start) (c : Caller) (root : RootData) (infos : List SnapInfo) (info : SnapInfo) → HasInfos s c root infos → Has infos info → ReadAs s c (Snap info.uuid) (formats_of s).info info
info_read s c root infos info h has =
    let found = pairs_back (HasInfo s c root) root.snapshots infos info h has in
    subst (λ (u : ℕ). ReadAs s c (Snap u) (formats_of s).info info) (sym found.2.agrees.uuid_is) found.2.read

-- ---- what disagrees

module _ (s : Start) (old new : List Moment) (P : BlobName → Type 0) (root : RootData) (infos : List SnapInfo) (index shard generation : ℕ)
    (held : ShardFiles) (uuid : ℕ) (went : Went s old new P) (has_infos : HasInfos s (caller_of s old) root infos) where
  read_then : HasInfos s (caller_of s new) root infos
  read_then = infos_more s (caller_of s old) (caller_of s new) went.grown root root.snapshots infos has_infos

  -- the index of the shard doesn't list a snapshot that has it
  pub index_beside : HasHeld s (caller_of s new) index shard generation held → IsUnlisted infos index shard held uuid → Disagree s (caller_of s new) (ShardIndex index shard generation) (Snap uuid)
  index_beside read un =
      let of = un.lost.of in
      subst (λ (u : ℕ). Disagree s (caller_of s new) (ShardIndex index shard generation) (Snap u)) un.uuid_is
      (IndexBeside un.info.uuid un.info of.0 index shard generation held (info_read s (caller_of s new) root infos un.info read_then un.there) of.1 of.2 of.3 read un.lost.unlisted)

  -- it lists other files
  pub snap_beside : (snap : ShardSnapshot) → HasHeld s (caller_of s old) index shard generation held → ReadAs s (caller_of s new) (ShardSnap index shard uuid) (formats_of s).shard_snap snap → HaveShard infos uuid index shard
      → (Lists held uuid snap.files → ⊥)
      → Disagree s (caller_of s new) (ShardSnap index shard uuid) (ShardIndex index shard generation)
  snap_beside snap was read have differ =
      let info = have.0 in
      let own = have.2 in
      let of = own.1 in
      let told = subst (λ (u : ℕ). ReadAs s (caller_of s new) (Snap u) (formats_of s).info info) own.0 (info_read s (caller_of s new) root infos info read_then have.1) in
      SnapBeside uuid info of.0 index shard generation held snap told of.1 of.2 of.3 (held_more s (caller_of s old) (caller_of s new) went.grown index shard generation held was) read differ

-- ---- a list

pub as_listed : (s : Start) (c : Caller) (infos : List SnapInfo) (index shard : ℕ) (held : ShardFiles) (u uuid : ℕ) → u ≡ uuid → HasSnap s c infos index shard held u → HasSnap s c infos index shard held uuid
as_listed s c infos index shard held u uuid same h = subst (λ (v : ℕ). HasSnap s c infos index shard held v) same h

-- ---- shards by number

-- of the first shards each that has a generation was read
abbrev pub HasFirst : Start → Caller → RootData → List SnapInfo → ℕ → List (Option ℕ) → Type 0
HasFirst s c root infos index places = (k g : ℕ) → at_shard places k ≡ Some g → HasShard s c root infos index k g

pub has_place : (s : Start) (c : Caller) (root : RootData) (infos : List SnapInfo) (index shard : ℕ) (place : Option Id) (id : Id) → place ≡ Some id → HasShard s c root infos index shard id.number
    → HasPlace s c root infos index shard (option_map number_of place)
has_place s c root infos index shard place id is h generation told =
    let number : Some id.number ≡ Some generation = sym (ap (λ (o : Option Id). option_map number_of o) is) ∙ told in
    let same : id.number ≡ generation = cc in
    subst (λ (g : ℕ). HasShard s c root infos index shard g) same h

pub no_place : (s : Start) (c : Caller) (root : RootData) (infos : List SnapInfo) (index shard : ℕ) (place : Option Id) → place ≡ None → HasPlace s c root infos index shard (option_map number_of place)
no_place s c root infos index shard place is generation told =
    let none : ◌≡◌ {A = Option ℕ} None (Some generation) = sym (ap (λ (o : Option Id). option_map number_of o) is) ∙ told in
    absurd cc

pub first_next : (s : Start) (c d : Caller) (root : RootData) (infos : List SnapInfo) (index : ℕ) (gens : List (Option Id)) (n : ℕ) (x : Option Id) → Grown c d → n < length gens → x ≡ get_or gens n x
    → HasFirst s c root infos index (map (option_map number_of) (take n gens))
    → HasPlace s d root infos index n (option_map number_of x) → HasFirst s d root infos index (map (option_map number_of) (take (n + 1) gens))
first_next s c d root infos index gens n x grown less is before own k g at =
    let h : Option Id → Option ℕ = option_map number_of in
    let more = next h gens n x less is in
    elim (at_push (map h (take n gens)) (h x) k g (subst (λ (gs : List (Option ℕ)). at_shard gs k ≡ Some g) more at)) [
      | inl earlier ↦ shard_more s c d grown root infos index k g (before k g earlier)
      | inr last ↦
          let len : length (map h (take n gens)) ≡ n = length-map (take n gens) h ∙ length-take-le n gens (omega arith) in
          subst (λ (m : ℕ). HasShard s d root infos index m g) (sym (last.0 ∙ len)) (own g last.1)
    ]

-- the first ones stand where they stand in the whole list
place_before : {A : Type 0} (h : A → Option ℕ) (xs : List A) (n k : ℕ) → k < n → n < length xs → at_shard (map h (take n xs)) k ≡ at_shard (map h xs) k
place_before h [] n k less within = absurd (omega (arith, within))
place_before h (x ∷ xs) zero k less within = absurd (omega (arith, less))
place_before h (x ∷ xs) (suc n) zero less within = refl
place_before h (x ∷ xs) (suc n) (suc k) less within =
    let fewer : k < n = omega (arith, less) in
    let inner : n < length xs = omega (arith, within) in
    place_before h xs n k fewer inner

module _ (s : Start) (c d : Caller) (root : RootData) (infos : List SnapInfo) (x : RootIndex) (gens : List (Option Id)) (n : ℕ) (g : Option Id)
    (grown : Grown c d) (less : n < length gens) (is : g ≡ get_or gens n g) (same : x.generations ≡ map (option_map number_of) gens) (before : HasFirst s c root infos x.id (map (option_map number_of) (take n gens))) where
  place_first : (name : BlobName) → FirstOfPlace s d root infos x.id n (option_map number_of g) name → FirstOfShards s d root infos x name
  place_first name own =
      let h : Option Id → Option ℕ = option_map number_of in
      let place : at_shard x.generations n ≡ h g = ap (λ (gs : List (Option ℕ)). at_shard gs n) same ∙ at_place h gens n g less ∙ ap h (sym is) in
      record {
        shard = n;
        agree = λ k v lower at. shard_more s c d grown root infos x.id k v (before k v (place_before h gens n k lower less ∙ sym (ap (λ (gs : List (Option ℕ)). at_shard gs k) same) ∙ at));
        first = subst (λ (o : Option ℕ). FirstOfPlace s d root infos x.id n o name) (sym place) own;
      }

  -- what is found of the next one is told of the index
  pub place_passes : {X S F : Type 0} (result : Result X (Trouble S F)) (trouble : Trouble S F) → IsErrAnd result (λ t. t ≡ trouble) → TellsOne (FirstOfPlace s d root infos x.id n (option_map number_of g)) trouble
      → IfErr result (TellsOne (FirstOfShards s d root infos x))
  place_passes result trouble passed told = passes (FirstOfPlace s d root infos x.id n (option_map number_of g)) (FirstOfShards s d root infos x) result trouble passed place_first told
