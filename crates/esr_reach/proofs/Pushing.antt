-- One piece of names after another is appended.
use Rattle.std.proofs.Common.{◌≡◌, ℕ, suc, ◌+◌, ◌<◌, Bool, List, [], ◌∷◌, ◌++◌, map, length, take, get_or, Option, sym, ap, ◌∙◌, arith, append_assoc}
use Rattle.std.proofs.lemmas.List.{append-nil}
use Rattle.esr_model.specs.Loops.{next}
use Rattle.esr_names.specs.declared.blob.BlobName.{BlobName as CodeName}
use Rattle.esr_model.specs.Names.{BlobName}
use Rattle.esr_reach.specs.Names.{Pushed}
use Rattle.esr_reach.specs.Held.{HeldShard}
use Rattle.esr_reach.specs.Listing.{place_names, shards_names}
use Rattle.esr_reach.specs.NamePieces.{pushed_more, pushed_as}

-- ---- the shards of an index

shards_push : (listed : ℕ → Bool) (held : List HeldShard) (index first : ℕ) (gs : List (Option ℕ)) (g : Option ℕ)
    → shards_names listed held index first (gs ++ g ∷ []) ≡ shards_names listed held index first gs ++ place_names listed held index (first + length gs) g
shards_push listed held index first [] g =
    let same : first ≡ first + 0 = omega arith in
    append-nil (place_names listed held index first g) ∙ ap (λ (n : ℕ). place_names listed held index n g) same
shards_push listed held index first (h ∷ gs) g =
    let same : suc first + length gs ≡ first + suc (length gs) = omega arith in
    ap (λ (l : List BlobName). place_names listed held index first h ++ l) (shards_push listed held index (suc first) gs g)
    ∙ sym (append_assoc (place_names listed held index first h) (shards_names listed held index (suc first) gs) (place_names listed held index (suc first + length gs) g))
    ∙ ap (λ (n : ℕ). place_names listed held index first h ++ shards_names listed held index (suc first) gs ++ place_names listed held index n g) same

pub pushed_shard : (listed : ℕ → Bool) (held : List HeldShard) (index : ℕ) {A : Type 0} (v : A → Option ℕ) (xs : List A) (i : ℕ) (x : A) (first old new : List CodeName) → i < length xs → x ≡ get_or xs i x
    → length (map v (take i xs)) ≡ i
    → Pushed first old (shards_names listed held index 0 (map v (take i xs))) → Pushed old new (place_names listed held index i (v x)) → Pushed first new (shards_names listed held index 0 (map v (take (i + 1) xs)))
pushed_shard listed held index v xs i x first old new less is len before more =
    let place : i ≡ 0 + length (map v (take i xs)) = omega (arith, len) in
    let pieces : shards_names listed held index 0 (map v (take i xs)) ++ place_names listed held index i (v x) ≡ shards_names listed held index 0 (map v (take (i + 1) xs)) =
    ap (λ (n : ℕ). shards_names listed held index 0 (map v (take i xs)) ++ place_names listed held index n (v x)) place
    ∙ sym (shards_push listed held index 0 (map v (take i xs)) (v x)) ∙ ap (shards_names listed held index 0) (sym (next v xs i x less is)) in
    pushed_as first new (shards_names listed held index 0 (map v (take i xs)) ++ place_names listed held index i (v x)) (shards_names listed held index 0 (map v (take (i + 1) xs))) pieces
    (pushed_more first old new (shards_names listed held index 0 (map v (take i xs))) (place_names listed held index i (v x)) before more)
