-- The names of a finalization's metadata are apart.
use Rattle.std.proofs.Common.{◌≡◌, ◌≢◌, inl, inr, ℕ, zero, suc, ◌<◌, ◌==◌, false, List, [], ◌∷◌, ◌++◌, length, take, get_or, append-nil, append_assoc, refl, sym, ap, ◌∙◌, subst, true≢false, arith}
use Rattle.std.specs.List.{list_any}
use Rattle.std.proofs.lemmas.Bool.{eq-eqb, or_parts}
use Rattle.esr_model.specs.Names.{BlobName, Snap, Meta, IndexMeta}
use Rattle.esr_model.specs.Values.{Bytes, Has}
use Rattle.esr_model.specs.Values as values
use Rattle.esr_core.specs.World.{Ticket}
use Rattle.esr_names.specs.declared.ids.Id.{Id}
use Rattle.esr_names.specs.declared.index_ref.IndexRef.{IndexRef}
use Rattle.esr_names.specs.Indices.{clashes, AreRefs}
use Rattle.esr_core.specs.Entry.{Moment}
use Rattle.esr_desk.specs.Start.{Start, formats_of, ticket_of}
use Rattle.esr_finish.specs.Blobs.{info_blob, global_blob}
use Rattle.esr_finish.specs.Ticket.{IsUnnoted, Puts, Wrote}
use Rattle.esr_finish.proofs.Indices.{blobs_of}
use Rattle.esr_finish.specs.SwapBlobs.{noted_before}

-- ---- ids

no_clash : (r : IndexRef) (before : List IndexRef) (b : IndexRef) → list_any (clashes r) before ≡ false → Has before b → b.id.number ≡ r.id.number → ⊥
no_clash r [] b free none same = none
no_clash r (x ∷ before) b free (inl here) same =
    let id : (b.id.number == r.id.number) ≡ false = subst (λ (y : IndexRef). (y.id.number == r.id.number) ≡ false) here (or_parts _ (x.id.number == r.id.number) (or_parts (clashes r x) (list_any (clashes r) before) free).0).1 in
    true≢false (sym (eq-eqb b.id.number r.id.number same) ∙ id)
no_clash r (x ∷ before) b free (inr later) same = no_clash r before b (or_parts (clashes r x) (list_any (clashes r) before) free).1 later same

apart_at : (before refs : List IndexRef) (k : ℕ) (d : IndexRef) → AreRefs before refs → k < length refs → list_any (clashes (get_or refs k d)) (before ++ take k refs) ≡ false
apart_at before [] k d are less = absurd (omega arith)
apart_at before (r ∷ refs) zero d are less = ap (list_any (clashes r)) (append-nil before) ∙ are.1
apart_at before (r ∷ refs) (suc k) d are less =
    ap (list_any (clashes (get_or refs k d))) (sym (append_assoc before (r ∷ []) (take k refs))) ∙ apart_at (before ++ r ∷ []) refs k d are.2 (omega arith)

-- no index before it has its id
ids_apart : (refs items : List IndexRef) (k : ℕ) (item b : IndexRef) → AreRefs [] refs → items ≡ refs → k < length items → item ≡ get_or items k item → Has (take k items) b → b.id.number ≡ item.id.number → ⊥
ids_apart refs items k item b are same less is has id =
    no_clash item (take k items) b
    (subst (λ (r : IndexRef). list_any (clashes r) (take k items) ≡ false) (sym is) (apart_at [] items k item (subst (AreRefs []) (sym same) are) less))
    has id

-- ---- names

same_id : (i j u v : ℕ) → IndexMeta i u ≡ IndexMeta j v → i ≡ j
same_id i j u v e = cc

-- a blob of these indices is that of one of them
blob_from : (s : Start) (uuid : Id) (items : List IndexRef) (b : BlobName × Bytes) → Has (blobs_of s uuid items) b → (r : IndexRef) × Has items r × (b.0 ≡ IndexMeta r.id.number uuid.number)
blob_from s uuid [] b none = absurd none
blob_from s uuid (r ∷ items) b (inl here) = (r, inl refl, ap (λ (x : BlobName × Bytes). x.0) (sym here))
blob_from s uuid (r ∷ items) b (inr later) = let rest = blob_from s uuid items b later in (rest.0, inr rest.1, rest.2)

-- the next index is new after those before it
pub index_new : (s : Start) (a b : Ticket) (uuid : Id) (refs items : List IndexRef) (k : ℕ) (item : IndexRef) → AreRefs [] refs → items ≡ refs → k < length items → item ≡ get_or items k item
    → ((id : ℕ) → IsUnnoted a (IndexMeta id uuid.number)) → Wrote a b (blobs_of s uuid (take k items)) → IsUnnoted b (IndexMeta item.id.number uuid.number)
index_new s a b uuid refs items k item are same less is unnoted wrote has =
    let name = IndexMeta item.id.number uuid.number in
    let blobs = blobs_of s uuid (take k items) in
    unnoted item.id.number (noted_before blobs a.noted name
    (λ x one named. let from = blob_from s uuid (take k items) x one in
    ids_apart refs items k item from.0 are same less is from.1 (same_id from.0.id.number item.id.number uuid.number uuid.number (sym from.2 ∙ named)))
    (subst (λ (t : Ticket). Has t.noted name) wrote.is has))

-- what one blob leaves unnoted
pub one_unnoted : (a b : Ticket) (x : BlobName × Bytes) (name : BlobName) → Wrote a b (x ∷ []) → x.0 ≢ name → IsUnnoted a name → IsUnnoted b name
one_unnoted a b x name wrote other unnoted has = both (subst (λ (t : Ticket). Has t.noted name) wrote.is has)
  where
    both : Has (x.0 ∷ a.noted) name → ⊥
    both (inl here) = other here
    both (inr before) = unnoted before

pub none_unnoted : (a : Ticket) (name : BlobName) → a.noted ≡ [] → IsUnnoted a name
none_unnoted a name none has = subst (λ (noted : List BlobName). Has noted name) none has

pub global_new : (s : Start) (old new : List Moment) (who : ℕ) (info : values.SnapInfo) → (ticket_of s old who).noted ≡ [] → Puts s old new who (info_blob (formats_of s) info ∷ []) → IsUnnoted (ticket_of s new who) (Meta info.uuid)
global_new s old new who info none wrote =
    one_unnoted (ticket_of s old who) (ticket_of s new who) (info_blob (formats_of s) info) (Meta info.uuid) wrote (apart info.uuid) (none_unnoted (ticket_of s old who) (Meta info.uuid) none)
  where
    apart : (u : ℕ) → Snap u ≡ Meta u → ⊥
    apart u e = cc

pub indices_new : (s : Start) (old mid new : List Moment) (who : ℕ) (info : values.SnapInfo) → (ticket_of s old who).noted ≡ [] → Puts s old mid who (info_blob (formats_of s) info ∷ [])
    → Puts s mid new who (global_blob (formats_of s) info ∷ [])
    → (id : ℕ) → IsUnnoted (ticket_of s new who) (IndexMeta id info.uuid)
indices_new s old mid new who info none first second id =
    let name = IndexMeta id info.uuid in
    one_unnoted (ticket_of s mid who) (ticket_of s new who) (global_blob (formats_of s) info) name second (meta_apart id info.uuid)
    (one_unnoted (ticket_of s old who) (ticket_of s mid who) (info_blob (formats_of s) info) name first (snap_apart id info.uuid) (none_unnoted (ticket_of s old who) name none))
  where
    meta_apart : (i u : ℕ) → Meta u ≡ IndexMeta i u → ⊥
    meta_apart i u e = cc

    snap_apart : (i u : ℕ) → Snap u ≡ IndexMeta i u → ⊥
    snap_apart i u e = cc
