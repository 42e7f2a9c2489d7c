-- The shards of an op as it begins.
use Rattle.std.proofs.Common.{◌≡◌, ℕ, zero, suc, ◌+◌, ◌<◌, List, [], ◌∷◌, ◌++◌, Some, map, length, refl, sym, ap, ◌∙◌, subst, arith, slice_get}
use Rattle.std.specs.List.{AllByRecursion}
use Rattle.std.proofs.lemmas.List.{map-append, length-map}
use Rattle.esr_names.specs.declared.ids.Id.{Id}
use Rattle.esr_names.specs.declared.index_ref.IndexRef.{IndexRef as CodeRef}
use Rattle.esr_root.specs.Lists.{all_append}
use Rattle.esr_record.specs.declared.op.Making.{Making}
use Rattle.esr_record.specs.Op.{IsMaking}
use Rattle.esr_model.specs.Values.{Bytes}
use Rattle.esr_core.specs.World.{Pending}
use Rattle.esr_core.specs.After.{pending_shards, all_pending}
use Rattle.esr_formats.specs.Refs.{ref_of_code, AreApart}
use Rattle.esr_ops.specs.declared.command.AskedIndex.{AskedIndex as CodeAsked}
use Rattle.esr_ops.specs.declared.shard.ShardState.TheVariants as states
use Rattle.esr_ops.specs.declared.shard.OpenShard.{OpenShard}
use Rattle.esr_ops.specs.Shards.{work_of_shard, name_or_none, count_or_none, place_or_none}
use Rattle.esr_ops.specs.Ops.{IsOpenOp, Within}
use Rattle.esr_ops.specs.Asked.{asked_index_of}
use Rattle.esr_accept.specs.Asking.{shards_from, shards_of}
use Rattle.esr_ops.specs.Lists.{all_member}

-- ---- what holds of each

module _ (P : OpenShard → Type 0) where
  all_from : (at : ℕ) (index : Id) (first n : ℕ) → ((k : ℕ) → k < first + n → P (record { at = at; shard = record { index = index; number = k }; state = states.Pending })) → AllByRecursion P (shards_from at index first n)
  all_from at index first zero h = tt
  all_from at index first (suc n) h = (h first (omega arith), all_from at index (suc first) n (λ k lt. h k (omega arith)))

  pub all_of : (at : ℕ) (refs : List CodeRef) → AreApart (map ref_of_code refs) → ((j k : ℕ) (index : Id) → j < at + length refs → k < 1024 → P (record { at = j; shard = record { index = index; number = k }; state = states.Pending }))
      → AllByRecursion P (shards_of at refs)
  all_of at [] apart h = tt
  all_of at (r ∷ refs) apart h =
      let most = apart.1 in
      all_append P (shards_from at r.id 0 r.shards) (shards_of (suc at) refs) (all_from at r.id 0 r.shards (λ k lt. h at k r.id (omega arith) (omega arith))) (all_of (suc at) refs apart.3 (λ j k index lt. h j k index (omega arith)))

pub begun_open : (m : Making) (places : List Bytes) (shards : List OpenShard) → IsMaking m → AreApart (map ref_of_code m.indices) → length places ≡ length m.indices → shards ≡ shards_of 0 m.indices → IsOpenOp m places shards
begun_open m places shards valid apart placed is =
    let pending : AllByRecursion (λ (s : OpenShard). s.state ≡ states.Pending) shards =
    subst (AllByRecursion (λ (s : OpenShard). s.state ≡ states.Pending)) (sym is) (all_of (λ (s : OpenShard). s.state ≡ states.Pending) 0 m.indices apart (λ j k index lt few. refl)) in
    record {
      making = valid;
      placed = placed;
      within = subst (AllByRecursion (Within places)) (sym is) (all_of (Within places) 0 m.indices apart (λ j k index lt few. (omega (arith, lt, placed), few)));
      alike = λ a b ha hb i n. all_member _ shards pending a ha ∙ sym (all_member _ shards pending b hb);
    }

pub open_begun : (m : Making) (asked : List CodeAsked) (places : List Bytes) (shards : List OpenShard) → IsMaking m → AreApart (map ref_of_code m.indices) → length m.indices ≡ length asked
    → places ≡ map (λ (a : CodeAsked). a.place) asked → shards ≡ shards_of 0 m.indices → IsOpenOp m places shards
open_begun m asked places shards valid apart same are is = begun_open m places shards valid apart (ap length are ∙ length-map asked (λ (a : CodeAsked). a.place) ∙ sym same) is

-- ---- as the definitions see them

module _ (refs : List CodeRef) (places : List Bytes) where
  works-from : (at : ℕ) (r : CodeRef) (a : CodeAsked) → slice_get refs at ≡ Some r → slice_get places at ≡ Some a.place → (first n : ℕ)
      → map (work_of_shard refs places) (shards_from at r.id first n) ≡ pending_shards (asked_index_of a) (ref_of_code r) first n
  works-from at r a is place first zero = refl
  works-from at r a is place first (suc n) =
      λ j. record { ref = record { id = r.id.number; name = name_or_none (is j); shards = count_or_none (is j) }; number = first; place = place_or_none (place j); state = Pending } ∷ works-from at r a is place (suc first) n j

  pub works-of : (at : ℕ) (rs : List CodeRef) (asked : List CodeAsked) → length rs ≡ length asked → ((i : ℕ) → slice_get refs (at + i) ≡ slice_get rs i)
      → ((i : ℕ) → slice_get places (at + i) ≡ slice_get (map (λ (a : CodeAsked). a.place) asked) i) → map (work_of_shard refs places) (shards_of at rs) ≡ all_pending (map asked_index_of asked) (map ref_of_code rs)
  works-of at [] [] same are at_places = refl
  works-of at [] (a ∷ asked) same are at_places = refl
  works-of at (r ∷ rs) [] same are at_places = absurd (omega arith)
  works-of at (r ∷ rs) (a ∷ asked) same are at_places =
      let here : at + 0 ≡ at = omega arith in
      map-append (work_of_shard refs places) (shards_from at r.id 0 r.shards) (shards_of (suc at) rs)
      ∙ (λ j. works-from at r a (ap (slice_get refs) (sym here) ∙ are 0) (ap (slice_get places) (sym here) ∙ at_places 0) 0 r.shards j
      ++ works-of (suc at) rs asked (omega arith) (λ i. let past : suc at + i ≡ at + suc i = omega arith in ap (slice_get refs) past ∙ are (suc i))
      (λ i. let past : suc at + i ≡ at + suc i = omega arith in ap (slice_get places) past ∙ at_places (suc i)) j)

pub works-begun : (refs : List CodeRef) (asked : List CodeAsked) (places : List Bytes) (shards : List OpenShard) → length refs ≡ length asked → places ≡ map (λ (a : CodeAsked). a.place) asked → shards ≡ shards_of 0 refs
    → map (work_of_shard refs places) shards ≡ all_pending (map asked_index_of asked) (map ref_of_code refs)
works-begun refs asked places shards same are is =
    ap (map (work_of_shard refs places)) is
    ∙ works-of refs places 0 refs asked same (λ i. let z : 0 + i ≡ i = omega arith in ap (slice_get refs) z) (λ i. let z : 0 + i ≡ i = omega arith in ap (slice_get places) z ∙ ap (λ (ps : List Bytes). slice_get ps i) are)
