-- The shards of a restore, and how they ended.
use Rattle.std.proofs.Common.{◌≡◌, ℕ, zero, suc, ◌+◌, ◌<◌, List, [], ◌∷◌, ◌++◌, map, length, take, drop, get_or, Option, Some, None, option_map, refl, sym, ap, ◌∙◌, append_assoc, append-nil, arith}
use Rattle.std.proofs.lemmas.List.{drop_more, map-append}
use Rattle.esr_model.specs.Loops.{next}
use Rattle.esr_names.specs.declared.ids.Id.{Id}
use Rattle.esr_names.specs.declared.index_ref.IndexRef.{IndexRef as CodeRef}
use Rattle.esr_formats.specs.Refs.{ref_of_code}
use Rattle.esr_model.specs.Values.{IndexRef}
use Rattle.esr_model.specs.Places.{numbered, places}
use Rattle.esr_core.specs.Entry.{Entry}
use Rattle.esr_report.specs.declared.restores.ReadShard.{ReadShard as CodeShard}
use Rattle.esr_report.specs.declared.restores.ShardEnd.{ShardEnd as CodeEnd}
use Rattle.esr_report.specs.Replies.{ReadShard, ShardEnd, and_ends, ends_of, shard_end, read_shard, restore_shards}
use Rattle.esr_report.specs.Ends.{shard_of_code, end_of_code}

-- ---- one more shard, one more index

numbered_from : (r : IndexRef) (first n : ℕ) → numbered r first (suc n) ≡ numbered r first n ++ (r, first + n) ∷ []
numbered_from r first zero = let same : first ≡ first + 0 = omega arith in ap (λ (k : ℕ). (r, k) ∷ []) same
numbered_from r first (suc n) =
    let same : suc first + n ≡ first + suc n = omega arith in
    ap (λ (l : List (IndexRef × ℕ)). (r, first) ∷ l) (numbered_from r (suc first) n) ∙ ap (λ (k : ℕ). (r, first) ∷ (numbered r (suc first) n ++ (r, k) ∷ [])) same

numbered_more : (r : IndexRef) (n : ℕ) → numbered r 0 (n + 1) ≡ numbered r 0 n ++ (r, n) ∷ []
numbered_more r n =
    let more : n + 1 ≡ suc n = omega arith in
    let same : 0 + n ≡ n = omega arith in
    ap (numbered r 0) more ∙ numbered_from r 0 n ∙ ap (λ (k : ℕ). numbered r 0 n ++ (r, k) ∷ []) same

places_push : (refs : List IndexRef) (r : IndexRef) → places (refs ++ r ∷ []) ≡ places refs ++ numbered r 0 r.shards
places_push [] r = append-nil (numbered r 0 r.shards)
places_push (q ∷ refs) r = ap (λ (l : List (IndexRef × ℕ)). numbered q 0 q.shards ++ l) (places_push refs r) ∙ sym (append_assoc (numbered q 0 q.shards) (places refs) (numbered r 0 r.shards))

-- the next shard of an index was appended
pub numbered_push : (old now new : List CodeShard) (op : ℕ) (uuid : Id) (own : CodeRef) (n : ℕ) → new ≡ now ++ record { op = op; shard = record { index = own.id; number = n }; uuid = uuid } ∷ []
    → map shard_of_code now ≡ map shard_of_code old ++ map (read_shard op uuid.number) (numbered (ref_of_code own) 0 n)
    → map shard_of_code new ≡ map shard_of_code old ++ map (read_shard op uuid.number) (numbered (ref_of_code own) 0 (n + 1))
numbered_push old now new op uuid own n is so_far =
    let s : CodeShard = record { op = op; shard = record { index = own.id; number = n }; uuid = uuid } in
    let ref : IndexRef = ref_of_code own in
    let f : IndexRef × ℕ → ReadShard = read_shard op uuid.number in
    let more : map f (numbered ref 0 (n + 1)) ≡ map f (numbered ref 0 n) ++ f (ref, n) ∷ [] = ap (map f) (numbered_more ref n) ∙ map-append f (numbered ref 0 n) ((ref, n) ∷ []) in
    ap (map shard_of_code) is ∙ map-append shard_of_code now (s ∷ []) ∙ ap (λ (l : List ReadShard). l ++ f (ref, n) ∷ []) so_far
    ∙ append_assoc (map shard_of_code old) (map f (numbered ref 0 n)) (f (ref, n) ∷ []) ∙ ap (λ (l : List ReadShard). map shard_of_code old ++ l) (sym more)

-- the shards of the next index were appended
pub shards_more : (refs : List CodeRef) (i : ℕ) (r : CodeRef) (op : ℕ) (uuid : Id) (old new : List CodeShard) → i < length refs → r ≡ get_or refs i r
    → map shard_of_code new ≡ map shard_of_code old ++ map (read_shard op uuid.number) (numbered (ref_of_code r) 0 r.shards)
    → map shard_of_code old ≡ restore_shards op uuid.number (map ref_of_code (take i refs)) → map shard_of_code new ≡ restore_shards op uuid.number (map ref_of_code (take (i + 1) refs))
shards_more refs i r op uuid old new less is made so_far =
    let f : IndexRef × ℕ → ReadShard = read_shard op uuid.number in
    let shards : List (IndexRef × ℕ) = numbered (ref_of_code r) 0 r.shards in
    let before : List IndexRef = map ref_of_code (take i refs) in
    made ∙ ap (λ (l : List ReadShard). l ++ map f shards) so_far ∙ sym (map-append f (places before) shards)
    ∙ ap (map f) (sym (places_push before (ref_of_code r)) ∙ ap places (sym (next ref_of_code refs i r less is)))

-- ---- one more end

kept_more : (kept new : List CodeEnd) (end : CodeEnd) (rest : Option (List ShardEnd)) → new ≡ kept ++ end ∷ []
    → option_map (λ (es : List ShardEnd). map end_of_code kept ++ es) (and_ends (Some (end_of_code end)) rest) ≡ option_map (λ (es : List ShardEnd). map end_of_code new ++ es) rest
kept_more kept new end None is = refl
kept_more kept new end (Some ends) is =
    let more : map end_of_code new ≡ map end_of_code kept ++ end_of_code end ∷ [] = ap (map end_of_code) is ∙ map-append end_of_code kept (end ∷ []) in
    ap (λ (l : List ShardEnd). Some l) (sym (append_assoc (map end_of_code kept) (end_of_code end ∷ []) ends) ∙ ap (λ (l : List ShardEnd). l ++ ends) (sym more))

ends_here : (all : List Entry) (shards : List CodeShard) (i : ℕ) (d : CodeShard) → i < length shards
    → ends_of all (map shard_of_code (drop i shards)) ≡ and_ends (shard_end all (shard_of_code (get_or shards i d))) (ends_of all (map shard_of_code (drop (i + 1) shards)))
ends_here all shards i d less = ap (λ (l : List CodeShard). ends_of all (map shard_of_code l)) (drop_more shards i d less)

-- the next shard has ended
pub ends_more : (all : List Entry) (shards : List CodeShard) (i : ℕ) (d : CodeShard) (kept new : List CodeEnd) (end : CodeEnd) → i < length shards
    → Some (end_of_code end) ≡ shard_end all (shard_of_code (get_or shards i d)) → new ≡ kept ++ end ∷ []
    → ends_of all (map shard_of_code shards) ≡ option_map (λ (es : List ShardEnd). map end_of_code kept ++ es) (ends_of all (map shard_of_code (drop i shards)))
    → ends_of all (map shard_of_code shards) ≡ option_map (λ (es : List ShardEnd). map end_of_code new ++ es) (ends_of all (map shard_of_code (drop (i + 1) shards)))
ends_more all shards i d kept new end less ended more so_far =
    let rest : Option (List ShardEnd) = ends_of all (map shard_of_code (drop (i + 1) shards)) in
    let put : Option (List ShardEnd) → Option (List ShardEnd) = option_map (λ (es : List ShardEnd). map end_of_code kept ++ es) in
    so_far ∙ ap put (ends_here all shards i d less ∙ ap (λ (o : Option ShardEnd). and_ends o rest) (sym ended)) ∙ kept_more kept new end rest more

-- the next shard hasn't ended
pub ends_none : (all : List Entry) (shards : List CodeShard) (i : ℕ) (d : CodeShard) (kept : List CodeEnd) → i < length shards → None ≡ shard_end all (shard_of_code (get_or shards i d))
    → ends_of all (map shard_of_code shards) ≡ option_map (λ (es : List ShardEnd). map end_of_code kept ++ es) (ends_of all (map shard_of_code (drop i shards)))
    → None ≡ ends_of all (map shard_of_code shards)
ends_none all shards i d kept less none so_far =
    let rest : Option (List ShardEnd) = ends_of all (map shard_of_code (drop (i + 1) shards)) in
    let put : Option (List ShardEnd) → Option (List ShardEnd) = option_map (λ (es : List ShardEnd). map end_of_code kept ++ es) in
    sym (so_far ∙ ap put (ends_here all shards i d less ∙ ap (λ (o : Option ShardEnd). and_ends o rest) (sym none)))
