-- The metadata of the indices of an info, one after another.
use Rattle.std.proofs.Common.{◌≡◌, inl, inr, ℕ, zero, suc, ◌+◌, ◌<◌, List, [], ◌∷◌, ◌++◌, map, length, take, get_or, refl, sym, ap, ◌∙◌, subst, arith}
use Rattle.std.proofs.lemmas.List.{take_more, map-append}
use Rattle.esr_model.specs.Names.{BlobName}
use Rattle.esr_model.specs.Values.{Bytes, Has}
use Rattle.esr_model.specs.Values as values
use Rattle.esr_core.specs.World.{Ticket}
use Rattle.esr_names.specs.declared.ids.Id.{Id}
use Rattle.esr_names.specs.declared.index_ref.IndexRef.{IndexRef}
use Rattle.esr_meta.specs.Info.{Info}
use Rattle.esr_names.specs.Indices.{IsRef, AreRefs}
use Rattle.esr_formats.specs.Infos.{info_of_code}
use Rattle.esr_formats.specs.Refs.{ref_of_code}
use Rattle.esr_desk.specs.Start.{Start, formats_of}
use Rattle.esr_finish.specs.Blobs.{index_blob, index_blobs}
use Rattle.esr_finish.specs.Ticket.{MayPut, Wrote}
use Rattle.esr_finish.specs.Went.{Worked}
use Rattle.esr_finish.proofs.Writing.{may_put_some, may_put_on, wrote_on}

-- each index of an info has its number of shards
refs_at : (before refs : List IndexRef) (k : ℕ) (d : IndexRef) → AreRefs before refs → k < length refs → IsRef (get_or refs k d)
refs_at before [] k d are less = absurd (omega arith)
refs_at before (r ∷ refs) zero d are less = are.0
refs_at before (r ∷ refs) (suc k) d are less = refs_at (before ++ r ∷ []) refs k d are.2 (omega arith)

pub ref_at : (refs items : List IndexRef) (k : ℕ) (item : IndexRef) → AreRefs [] refs → items ≡ refs → k < length items → item ≡ get_or items k item → IsRef item
ref_at refs items k item are same less is = subst IsRef (sym is) (refs_at [] items k item (subst (AreRefs []) (sym same) are) less)

has_blob : {A B C : Type 0} (f : A → B) (h : B → C) (xs : List A) (k : ℕ) (d : A) → k < length xs → Has (map h (map f xs)) (h (f (get_or xs k d)))
has_blob f h [] k d less = absurd (omega arith)
has_blob f h (x ∷ xs) zero d less = inl refl
has_blob f h (x ∷ xs) (suc k) d less = inr (has_blob f h xs k d (omega arith))

-- the blob of an index, with its uuid as it is read
abbrev pub blob_of : Start → Id → IndexRef → BlobName × Bytes
blob_of s uuid item = index_blob (formats_of s) uuid.number (ref_of_code item)

-- the blobs of some indices
abbrev pub blobs_of : Start → Id → List IndexRef → List (BlobName × Bytes)
blobs_of s uuid items = map (λ (r : values.IndexRef). index_blob (formats_of s) uuid.number r) (map ref_of_code items)

pub index_may : (s : Start) (a b : Ticket) (info : Info) (uuid : Id) (items : List IndexRef) (k : ℕ) (item : IndexRef) → MayPut s a (index_blobs (formats_of s) (info_of_code info)) → Worked a b
    → uuid ≡ info.uuid → items ≡ info.indices → k < length items → item ≡ get_or items k item → MayPut s b (blob_of s uuid item ∷ [])
index_may s a b info uuid items k item may worked uuid_is items_are less is =
    let all = index_blobs (formats_of s) (info_of_code info) in
    let all_are : blobs_of s uuid items ≡ all = ap (λ (u : Id). blobs_of s u items) uuid_is ∙ ap (λ (l : List IndexRef). blobs_of s info.uuid l) items_are in
    let here = has_blob ref_of_code (λ (r : values.IndexRef). index_blob (formats_of s) uuid.number r) items k item less in
    let one : Has all (blob_of s uuid item) = subst (λ (bs : List (BlobName × Bytes)). Has bs (blob_of s uuid item)) all_are (subst (λ (r : IndexRef). Has (blobs_of s uuid items) (blob_of s uuid r)) (sym is) here) in
    may_put_some s b all (blob_of s uuid item ∷ []) (may_put_on s a b all worked may) (only all (blob_of s uuid item) one)
  where
    only : (all : List (BlobName × Bytes)) (x : BlobName × Bytes) → Has all x → (y : BlobName × Bytes) → Has (x ∷ []) y → Has all y
    only all x has y (inl same) = subst (Has all) same has
    only all x has y (inr none) = absurd none

pub index_more : (s : Start) (a b c : Ticket) (uuid : Id) (items : List IndexRef) (k : ℕ) (item : IndexRef) → Wrote a b (blobs_of s uuid (take k items)) → Wrote b c (blob_of s uuid item ∷ [])
    → k < length items → item ≡ get_or items k item → Wrote a c (blobs_of s uuid (take (k + 1) items))
index_more s a b c uuid items k item first second less is =
    let f = λ (r : values.IndexRef). index_blob (formats_of s) uuid.number r in
    let more : take (k + 1) items ≡ take k items ++ item ∷ [] = take_more items k item less ∙ ap (λ (r : IndexRef). take k items ++ r ∷ []) (sym is) in
    let blobs : blobs_of s uuid (take (k + 1) items) ≡ blobs_of s uuid (take k items) ++ blob_of s uuid item ∷ [] =
    ap (λ (l : List IndexRef). blobs_of s uuid l) more ∙ ap (λ (l : List values.IndexRef). map f l) (map-append ref_of_code (take k items) (item ∷ [])) ∙ map-append f (map ref_of_code (take k items)) (ref_of_code item ∷ []) in
    subst (Wrote a c) (sym blobs) (wrote_on a b c (blobs_of s uuid (take k items)) (blob_of s uuid item ∷ []) first second)
