-- One piece after another is appended.
use Rattle.std.proofs.Common.{◌≡◌, ℕ, suc, ◌+◌, ◌<◌, List, [], ◌∷◌, ◌++◌, map, length, take, get_or, Option, option_map, sym, ap, ◌∙◌, arith, append_assoc}
use Rattle.std.proofs.lemmas.List.{append-nil, length-map, length-take-le}
use Rattle.esr_model.specs.Loops.{next, item_is}
use Rattle.esr_names.specs.declared.ids.Id.{Id}
use Rattle.esr_model.specs.Delete.{PrunedShard}
use Rattle.esr_formats.specs.Ids.{number_of}
use Rattle.esr_results.specs.declared.pruned.PrunedShard.{PrunedShard as CodePruned}
use Rattle.esr_results.specs.Pruned.{pruned_of}
use Rattle.esr_dooming.specs.Pieces.{Added, of_places}

-- one place more at the end
places_push : {A : Type 0} (piece : ℕ → Option ℕ → List A) (first : ℕ) (gs : List (Option ℕ)) (g : Option ℕ) → of_places piece first (gs ++ g ∷ []) ≡ of_places piece first gs ++ piece (first + length gs) g
places_push piece first [] g =
    let same : first ≡ first + 0 = omega arith in
    append-nil (piece first g) ∙ ap (λ (n : ℕ). piece n g) same
places_push {A} piece first (h ∷ gs) g =
    let same : suc first + length gs ≡ first + suc (length gs) = omega arith in
    ap (λ (l : List A). piece first h ++ l) (places_push piece (suc first) gs g)
    ∙ sym (append_assoc (piece first h) (of_places piece (suc first) gs) (piece (suc first + length gs) g))
    ∙ ap (λ (n : ℕ). (piece first h ++ of_places piece (suc first) gs) ++ piece n g) same

-- ---- shards

pub added_more : (first old new : List CodePruned) (xs ys : List PrunedShard) → Added first old xs → Added old new ys → Added first new (xs ++ ys)
added_more first old new xs ys before more = more ∙ ap (λ (l : List PrunedShard). l ++ ys) before ∙ append_assoc (map pruned_of first) xs ys

-- those of one place more
added_place : {A : Type 0} (piece : ℕ → Option ℕ → List PrunedShard) (v : A → Option ℕ) (xs : List A) (i : ℕ) (x : A) (first old new : List CodePruned) → i < length xs → x ≡ get_or xs i x → length (map v (take i xs)) ≡ i
    → Added first old (of_places piece 0 (map v (take i xs))) → Added old new (piece i (v x)) → Added first new (of_places piece 0 (map v (take (i + 1) xs)))
added_place {A} piece v xs i x first old new less is len before more =
    let so_far : List (Option ℕ) = map v (take i xs) in
    let place : i ≡ 0 + length so_far = omega (arith, len) in
    let pieces : of_places piece 0 so_far ++ piece i (v x) ≡ of_places piece 0 (map v (take (i + 1) xs)) =
    ap (λ (n : ℕ). of_places piece 0 so_far ++ piece n (v x)) place ∙ sym (places_push piece 0 so_far (v x)) ∙ ap (of_places piece 0) (sym (next v xs i x less is)) in
    added_more first old new (of_places piece 0 so_far) (piece i (v x)) before more ∙ ap (λ (l : List PrunedShard). map pruned_of first ++ l) pieces

-- those of the next shard of an index
pub added_shard : (piece : ℕ → Option ℕ → List PrunedShard) (xs : List (Option Id)) (k : ℕ) (d : Option Id) (first old new : List CodePruned) → k < length xs → Added first old (of_places piece 0 (map (option_map number_of) (take k xs)))
    → Added old new (piece k (option_map number_of (get_or xs k d))) → Added first new (of_places piece 0 (map (option_map number_of) (take (k + 1) xs)))
added_shard piece xs k d first old new less before more =
    let h : Option Id → Option ℕ = option_map number_of in
    let len : length (map h (take k xs)) ≡ k = length-map (take k xs) h ∙ length-take-le k xs (omega arith) in
    added_place piece h xs k (get_or xs k d) first old new less (item_is xs k d less) len before more
