-- The shards whose generation the new root hasn't are those of the definitions.
use Rattle.std.proofs.Common.{◌≡◌, ℕ, suc, ◌+◌, ◌<◌, ◌≤◌, ◌==◌, Bool, true, false, List, [], ◌∷◌, ◌++◌, map, flat_map, length, drop, get_or, drop-cons, add-one, Option, Some, None, option_map, refl, sym, ap, ◌∙◌}
use Rattle.std.specs.Prelude.{if◌then◌else◌}
use Rattle.std.proofs.lemmas.List.{drop_all}
use Rattle.esr_names.specs.declared.ids.Id.{Id}
use Rattle.esr_root.specs.Generations.{generation_in}
use Rattle.esr_root.specs.Root.{Root}
use Rattle.esr_root.specs.declared.indices.RootIndex.{RootIndex as CodeIndex}
use Rattle.esr_formats.specs.Ids.{number_of}
use Rattle.esr_formats.specs.Roots.{root_of, root_index_of}
use Rattle.esr_model.specs.Values.{RootIndex, RootData}
use Rattle.esr_model.specs.Image.{index_at, at_shard, at_shard_of}
use Rattle.esr_model.specs.Delete.{PrunedShard, gone_by, gone_from, gone_shards}
use Rattle.esr_results.specs.declared.pruned.PrunedShard.{PrunedShard as CodePruned}
use Rattle.esr_results.specs.Pruned.{pruned_of}
use Rattle.esr_dooming.specs.Pieces.{Added, one_shard, gone_place, gone_index, of_places}

-- ---- the generation of a shard

generation_is : (gs : List (Option Id)) (k : ℕ) → at_shard (map (option_map number_of) gs) k ≡ option_map number_of (generation_in gs k)
generation_is (g ∷ gs) (suc k) = generation_is gs k
generation_is gs k = refl

-- none of the indices before has the id
abbrev pub IsAhead : List CodeIndex → ℕ → ℕ → Type 0
IsAhead xs id k = index_at (map root_index_of (drop k xs)) id ≡ index_at (map root_index_of xs) id

split_at : (xs : List CodeIndex) (k : ℕ) (x : CodeIndex) → k < length xs → x ≡ get_or xs k x → drop k xs ≡ x ∷ drop (k + 1) xs
split_at xs k x less is = let split : drop k xs ≡ get_or xs k x ∷ drop (k + 1) xs = rw add-one (drop-cons xs k x less) in split ∙ ap (λ (y : CodeIndex). y ∷ drop (k + 1) xs) (sym is)

one_or : (xs : List CodeIndex) (id k : ℕ) (x : CodeIndex) (b : Bool) → k < length xs → x ≡ get_or xs k x → (x.id.number == id) ≡ b
    → index_at (map root_index_of (drop k xs)) id ≡ (if b then Some (root_index_of x) else index_at (map root_index_of (drop (k + 1) xs)) id)
one_or xs id k x b less is same =
    ap (λ (ys : List CodeIndex). index_at (map root_index_of ys) id) (split_at xs k x less is)
    ∙ ap (λ (a : Bool). if a then Some (root_index_of x) else index_at (map root_index_of (drop (k + 1) xs)) id) same

pub ahead_more : (xs : List CodeIndex) (id k : ℕ) (x : CodeIndex) → k < length xs → x ≡ get_or xs k x → (x.id.number == id) ≡ false → IsAhead xs id k → IsAhead xs id (k + 1)
ahead_more xs id k x less is other ahead = sym (one_or xs id k x false less is other) ∙ ahead

pub generation_here : (xs : List CodeIndex) (id number k : ℕ) (x : CodeIndex) (g : Option Id) → k < length xs → x ≡ get_or xs k x → (x.id.number == id) ≡ true → IsAhead xs id k → g ≡ generation_in x.generations number
    → option_map number_of g ≡ at_shard_of (index_at (map root_index_of xs) id) number
generation_here xs id number k x g less is same ahead found =
    ap (option_map number_of) found ∙ sym (generation_is x.generations number)
    ∙ ap (λ (o : Option RootIndex). at_shard_of o number) (sym (one_or xs id k x true less is same) ∙ ahead)

pub generation_none : (xs : List CodeIndex) (id number k : ℕ) → length xs ≤ k → IsAhead xs id k → ◌≡◌ {A = Option ℕ} None (at_shard_of (index_at (map root_index_of xs) id) number)
generation_none xs id number k past ahead =
    let none : ◌≡◌ {A = Option RootIndex} None (index_at (map root_index_of (drop k xs)) id) = sym (ap (λ (ys : List CodeIndex). index_at (map root_index_of ys) id) (drop_all k xs past)) in
    ap (λ (o : Option RootIndex). at_shard_of o number) (none ∙ ahead)

-- ---- the shards

one_before : (b : Bool) (x : PrunedShard) (rest : List PrunedShard) → (if b then [] else x ∷ []) ++ rest ≡ (if b then rest else x ∷ rest)
one_before true x rest = refl
one_before false x rest = refl

gone_one : (base : ℕ) (o : Option ℕ) (index number : ℕ) (rest : List PrunedShard) → gone_by base o index number [] ++ rest ≡ gone_by base o index number rest
gone_one base None index number rest = refl
gone_one base (Some now) index number rest = one_before (now == base) (one_shard index number base true) rest

gone_places : (new : RootData) (index number : ℕ) (gs : List (Option ℕ)) → of_places (gone_place new.indices index) number gs ≡ gone_from new index number gs
gone_places new index number [] = refl
gone_places new index number (None ∷ gs) = gone_places new index (suc number) gs
gone_places new index number (Some base ∷ gs) =
    let now : Option ℕ = at_shard_of (index_at new.indices index) number in
    ap (λ (l : List PrunedShard). gone_by base now index number [] ++ l) (gone_places new index (suc number) gs) ∙ gone_one base now index number (gone_from new index (suc number) gs)

gone_same : (new : RootData) (xs : List RootIndex) → flat_map (gone_index new.indices) xs ≡ gone_shards new xs
gone_same new [] = refl
gone_same new (x ∷ xs) = λ j. gone_places new x.id 0 x.generations j ++ gone_same new xs j

pub gone_are : (root next : Root) (before after : List CodeIndex) (start end : List CodePruned) → start ≡ [] → before ≡ root.indices → after ≡ next.indices
    → Added start end (flat_map (gone_index (map root_index_of after)) (map root_index_of before)) → map pruned_of end ≡ gone_shards (root_of next) (root_of root).indices
gone_are root next before after start end none before_is after_is added =
    added ∙ (λ j. map pruned_of (none j) ++ flat_map (gone_index (map root_index_of (after_is j))) (map root_index_of (before_is j))) ∙ gone_same (root_of next) (root_of root).indices
