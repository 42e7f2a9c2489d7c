-- The results of a snapshot's shards, one each: those of an index are of its shards, and no two of one.
use Rattle.std.proofs.Common.{◌≡◌, ◌≢◌, ℕ, zero, suc, ◌+◌, ◌<◌, false, List, [], ◌∷◌, ◌++◌, map, None, refl, sym, ◌∙◌, subst, arith, inl, inr}
use Rattle.std.specs.List.{AllByRecursion, IsDistinct}
use Rattle.std.proofs.lemmas.Bool.{eq-eqb, true≢false}
use Rattle.std.proofs.lemmas.List.{map-append}
use Rattle.esr_names.specs.declared.index_ref.IndexRef.{IndexRef as CodeRef}
use Rattle.esr_formats.specs.Refs.{ref_of_code}
use Rattle.esr_model.specs.Values.{Has, IndexRef, ShardResult}
use Rattle.esr_model.specs.Places.{numbered, places}
use Rattle.esr_model.specs.Finalize.{done_at}
use Rattle.esr_newroot.specs.Named.{AreShardsOf}
use Rattle.esr_newroot.proofs.Merged.{done_elsewhere}
use Rattle.esr_newroot.specs.RefLists.{one_id, other_later}

-- an index and a shard
abbrev pub Key : Type 0
Key = ℕ × ℕ

abbrev pub result_key : ShardResult → Key
result_key r = (r.index, r.shard)

abbrev pub place_key : IndexRef × ℕ → Key
place_key p = (p.0.id, p.1)

abbrev IsAbsent : ℕ → ℕ → List Key → Type 0
IsAbsent id shard ks = AllByRecursion (λ (k : Key). k.0 ≡ id → k.1 ≡ shard → ⊥) ks

abbrev AreOther : ℕ → List Key → Type 0
AreOther id ks = AllByRecursion (λ (k : Key). k.0 ≢ id) ks

-- the keys of an index are of its shards, and no two are one
abbrev AreKeysOf : ℕ → ℕ → List Key → Type 0
AreKeysOf id shards [] = Unit {0}
AreKeysOf id shards (k ∷ ks) = (k.0 ≡ id → (k.1 < shards) × IsAbsent id k.1 ks) × AreKeysOf id shards ks

-- ---- of the places of a snapshot

other_absent : (id shard : ℕ) (ks : List Key) → AreOther id ks → IsAbsent id shard ks
other_absent id shard [] h = tt
other_absent id shard (k ∷ ks) h = ((λ e s. h.0 e), other_absent id shard ks h.1)

other_keys : (id shards : ℕ) (ks : List Key) → AreOther id ks → AreKeysOf id shards ks
other_keys id shards [] h = tt
other_keys id shards (k ∷ ks) h = ((λ e. absurd (h.0 e)), other_keys id shards ks h.1)

numbered_other : (id : ℕ) (r : IndexRef) (first n : ℕ) (ks : List Key) → r.id ≢ id → AreOther id ks → AreOther id (map place_key (numbered r first n) ++ ks)
numbered_other id r first zero ks other h = h
numbered_other id r first (suc n) ks other h = (other, numbered_other id r (suc first) n ks other h)

numbered_absent : (r : IndexRef) (shard first n : ℕ) (ks : List Key) → shard < first → AreOther r.id ks → IsAbsent r.id shard (map place_key (numbered r first n) ++ ks)
numbered_absent r shard first zero ks low h = other_absent r.id shard ks h
numbered_absent r shard first (suc n) ks low h = ((λ e s. absurd (omega arith)), numbered_absent r shard (suc first) n ks (omega arith) h)

numbered_own : (r : IndexRef) (shards first n : ℕ) (ks : List Key) → first + n ≡ shards → AreOther r.id ks → AreKeysOf r.id shards (map place_key (numbered r first n) ++ ks)
numbered_own r shards first zero ks sum h = other_keys r.id shards ks h
numbered_own r shards first (suc n) ks sum h = ((λ e. (omega arith, numbered_absent r first (suc first) n ks (omega arith) h)), numbered_own r shards (suc first) n ks (omega arith) h)

numbered_skip : (id shards : ℕ) (r : IndexRef) (first n : ℕ) (ks : List Key) → r.id ≢ id → AreKeysOf id shards ks → AreKeysOf id shards (map place_key (numbered r first n) ++ ks)
numbered_skip id shards r first zero ks other h = h
numbered_skip id shards r first (suc n) ks other h = ((λ e. absurd (other e)), numbered_skip id shards r (suc first) n ks other h)

keys : List CodeRef → List Key
keys qs = map place_key (places (map ref_of_code qs))

ids_differ : (p q : CodeRef) → one_id p q ≡ false → p.id.number ≢ q.id.number
ids_differ p q h e = true≢false (sym (eq-eqb p.id.number q.id.number e) ∙ h)

places_other : (p : CodeRef) (qs : List CodeRef) → AllByRecursion (λ q. one_id p q ≡ false) qs → AreOther p.id.number (keys qs)
unfolding keys
places_other p [] h = tt
places_other p (q ∷ qs) h =
    subst (AreOther p.id.number) (sym (map-append place_key (numbered (ref_of_code q) 0 q.shards) (places (map ref_of_code qs))))
    (numbered_other p.id.number (ref_of_code q) 0 q.shards (keys qs) (λ e. ids_differ p q h.0 (sym e)) (places_other p qs h.1))

places_keys : (qs : List CodeRef) (q : CodeRef) → IsDistinct one_id qs → Has qs q → AreKeysOf q.id.number q.shards (keys qs)
unfolding keys IsDistinct
places_keys [] q d h = absurd h
places_keys (p ∷ qs) q d (inl e) =
    subst (λ (r : CodeRef). AreKeysOf r.id.number r.shards (keys (p ∷ qs))) e
    (subst (AreKeysOf p.id.number p.shards) (sym (map-append place_key (numbered (ref_of_code p) 0 p.shards) (places (map ref_of_code qs))))
    (numbered_own (ref_of_code p) p.shards 0 p.shards (keys qs) (omega arith) (places_other p qs d.0)))
places_keys (p ∷ qs) q d (inr h) =
    subst (AreKeysOf q.id.number q.shards) (sym (map-append place_key (numbered (ref_of_code p) 0 p.shards) (places (map ref_of_code qs))))
    (numbered_skip q.id.number q.shards (ref_of_code p) 0 p.shards (keys qs) (ids_differ p q (other_later one_id p qs q h d.0)) (places_keys qs q d.1 h))

-- ---- of the results

none_done : (id shard : ℕ) (results : List ShardResult) → IsAbsent id shard (map result_key results) → done_at results id shard ≡ None
none_done id shard [] h = refl
none_done id shard (r ∷ results) h = done_elsewhere r results id shard h.0 ∙ none_done id shard results h.1

shards_of_keys : (id shards : ℕ) (results : List ShardResult) → AreKeysOf id shards (map result_key results) → AreShardsOf id shards results
shards_of_keys id shards [] h = tt
shards_of_keys id shards (r ∷ results) h = ((λ e. let own = h.0 e in (own.0, none_done id r.shard results own.1)), shards_of_keys id shards results h.1)

pub each_shard : (qs : List CodeRef) (results : List ShardResult) → IsDistinct one_id qs → map result_key results ≡ map place_key (places (map ref_of_code qs))
    → (q : CodeRef) → Has qs q → AreShardsOf q.id.number q.shards results
unfolding keys
each_shard qs results d each q h = shards_of_keys q.id.number q.shards results (subst (AreKeysOf q.id.number q.shards) (sym each) (places_keys qs q d h))
