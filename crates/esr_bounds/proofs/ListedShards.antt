-- The shards of the indices of a listed snapshot are among those of the root.
use Rattle.std.proofs.Common.{◌≡◌, ◌⊎◌, ℕ, zero, suc, ◌+◌, ◌<◌, ◌≤◌, List, [], ◌∷◌, length, map, Option, Some, refl, sym, ap, ◌∙◌, subst, inl, inr, ⊎_elim, arith}
use Rattle.std.proofs.lemmas.List.{length-map}
use Rattle.std.proofs.lemmas.Option.{same_Some}
use Rattle.esr_model.specs.Lists.{Has-mapped, Has-either}
use Rattle.esr_model.specs.Names.{BlobName, Snap, Meta, IndexMeta}
use Rattle.esr_model.specs.Values.{Bytes, Has, IndexRef, SnapInfo, Formats}
use Rattle.esr_model.specs.Shelf.{Shelved}
use Rattle.esr_model.specs.Places.{numbered, places, comes_first, shelf_places}
use Rattle.esr_model.specs.Image.{Image, Blobs, IsOne, At, Reads, Generation, SnapStands, RootStands}
use Rattle.esr_core.specs.World.{World, HeldIn, metadata}
use Rattle.esr_core.specs.Restores.{AreOnce, AreApart}
use Rattle.esr_core.specs.Queue.{Lists}
use Rattle.esr_core.specs.Ids.{Law}
use Rattle.esr_core.specs.Allowed.{Told, WasMade, IsInInfo, AreIndicesOf}
use Rattle.esr_core.specs.Laws.BlobFrames.{info_there}
use Rattle.esr_core.specs.Laws.OneValue.{reads_one, held_one, safe_root_stands}
use Rattle.esr_core.specs.Laws.RestoreMaps.{apart_one}
use Rattle.esr_core.specs.Laws.RootAgreement.{places_has}
use Rattle.esr_core.specs.Laws.ShardStates.{place_has}
use Rattle.esr_core.specs.Laws.SortedLists.{sorted-Has}
use Rattle.esr_bounds.specs.Work.{count_of_shards}
use Rattle.esr_bounds.proofs.Few.{few_once}
use Rattle.esr_bounds.proofs.Totals.{once_append, length_places}

-- ---- what a finalization wrote as its info

no_index_meta : (f : Formats) (uuid u : ℕ) (refs : List IndexRef) (b : Bytes) → Has {A = BlobName × Bytes} (map (λ (r : IndexRef). (IndexMeta r.id uuid, f.index_meta.text (record { index = r; uuid = uuid }))) refs) (Snap u, b) → ⊥
no_index_meta f uuid u refs b h =
    let r = Has-mapped {B = BlobName × Bytes} (λ (r : IndexRef). (IndexMeta r.id uuid, f.index_meta.text (record { index = r; uuid = uuid }))) refs (Snap u, b) h in
    other r.0.id (ap (λ (p : BlobName × Bytes). p.0) r.2)
  where
    other : (i : ℕ) → IndexMeta i uuid ≡ Snap u → ⊥
    other i e = cc

info_text : (f : Formats) (info : SnapInfo) (b : Bytes) → Has (metadata f info) (Snap info.uuid, b) → b ≡ f.info.text info
info_text f info b (inl e) = sym (ap (λ (p : BlobName × Bytes). p.1) e)
info_text f info b (inr (inl e)) = absurd (other (ap (λ (p : BlobName × Bytes). p.0) e))
  where
    other : Meta info.uuid ≡ Snap info.uuid → ⊥
    other x = cc
info_text f info b (inr (inr m)) = absurd (no_index_meta f info.uuid info.uuid info.indices b m)

at_one : (f : Formats) (blobs : Blobs) → IsOne (At f blobs)
at_one f blobs name a b p q = same_Some a b (sym p.0 ∙ q.0)

-- ---- each shard has a generation in the root

module _ (f : Formats) (w : World) (shelf : List Shelved) (law : Law f w shelf) (uuid : ℕ) (listed : Lists w.root uuid) where
  stands : RootStands f (HeldIn f w) w.root shelf
  stands = safe_root_stands f (HeldIn f w) (held_one f w) w.safe w.root shelf law.lawful.sound.rooted.kept.picked law.lawful.sound.carried.root_is

  snap_there : (shelved : Shelved) × SnapStands f (HeldIn f w) w.root listed.0 shelved
  snap_there = info_there f (HeldIn f w) w.root w.root.snapshots shelf stands.snapshots listed.0 listed.1

  abbrev info : SnapInfo
  info = snap_there.1.info

  info_reads : Reads (HeldIn f w) (Snap uuid) f.info info
  info_reads = subst (λ (u : ℕ). Reads (HeldIn f w) (Snap u) f.info info) listed.2 snap_there.1.info_reads

  generations : (r : IndexRef) (k : ℕ) → Has info.indices r → k < r.shards → (g : ℕ) × Generation w.root r.id k g
  generations r k m below =
      let place : Has (shelf_places info.indices) (r, k) = sorted-Has comes_first (places info.indices) (r, k) (places_has info.indices r k m below) in
      place_has f (HeldIn f w) w.root listed.0.uuid (shelf_places info.indices) snap_there.0.shards snap_there.1.shards (r, k) place

  made_info : (indices : List IndexRef) → WasMade f w uuid indices → IsInInfo f w uuid indices
  made_info indices m =
      let own : Has (metadata f m.info) (Snap m.info.uuid, info_reads.bytes) =
      law.texts.swaps m.number m.t m.info m.results m.made m.there m.work (Snap m.info.uuid) info_reads.bytes (inl refl) (subst (λ (u : ℕ). At f w.blobs (Snap u) info_reads.bytes) (sym m.uuid_is) info_reads.there.0) in
      let bytes : info_reads.bytes ≡ f.info.text m.info = info_text f m.info info_reads.bytes own in
      (m.info, record { bytes = info_reads.bytes; there = info_reads.there.0; reads = ap f.info.read bytes ∙ m.back }, m.indices_is)

  told_info : (indices : List IndexRef) (image : Option Image) (im : Image) → image ≡ Some im → WasMade f w uuid indices ⊎ Told image (λ blobs. IsInInfo f w uuid indices) → IsInInfo f w uuid indices
  told_info indices image im is (inl made) = made_info indices made
  told_info indices image im is (inr told) = subst (λ (o : Option Image). Told o (λ blobs. IsInInfo f w uuid indices)) is told

  same_indices : (indices : List IndexRef) → IsInInfo f w uuid indices → info.indices ≡ indices
  same_indices indices h =
      let held : Reads (At f w.blobs) (Snap uuid) f.info info = record { bytes = info_reads.bytes; there = info_reads.there.0; reads = info_reads.reads } in
      ap (λ (i : SnapInfo). i.indices) (reads_one (At f w.blobs) (at_one f w.blobs) (Snap uuid) f.info info h.0 held h.1) ∙ h.2

  pub listed_generations : (indices : List IndexRef) (image : Option Image) (im : Image) → image ≡ Some im → AreIndicesOf f w uuid indices image → (r : IndexRef) (k : ℕ) → Has indices r → k < r.shards
      → (g : ℕ) × Generation w.root r.id k g
  listed_generations indices image im is of r k m below =
      generations r k (subst (λ (l : List IndexRef). Has l r) (sym (same_indices indices (told_info indices image im is of.told))) m) below

-- ---- indices whose ids are distinct have no more shards than there are places, if each is one

abbrev ref_place : IndexRef × ℕ → ℕ × ℕ
ref_place p = (p.0.id, p.1)

numbered_in : (r : IndexRef) (first n : ℕ) (p : IndexRef × ℕ) → Has (numbered r first n) p → (p.0 ≡ r) × (first ≤ p.1) × (p.1 < first + n)
numbered_in r first zero p h = absurd h
numbered_in r first (suc n) p (inl e) =
    let same : first ≡ p.1 = ap (λ (x : IndexRef × ℕ). x.1) e in
    (ap (λ (x : IndexRef × ℕ). x.0) (sym e), omega (arith, same), omega (arith, same))
numbered_in r first (suc n) p (inr h) =
    let q = numbered_in r (suc first) n p h in
    let low : suc first ≤ p.1 = q.1 in
    let high : p.1 < suc first + n = q.2 in
    (q.0, omega (arith, low), omega (arith, high))

pub places_in : (refs : List IndexRef) (p : IndexRef × ℕ) → Has (places refs) p → Has refs p.0 × (p.1 < p.0.shards)
places_in [] p h = absurd h
places_in (r ∷ refs) p h = ⊎_elim
    (λ (here : Has (numbered r 0 r.shards) p).
    let q = numbered_in r 0 r.shards p here in
    let high : p.1 < 0 + r.shards = q.2 in
    let below : p.1 < r.shards = omega (arith, high) in
    (inl (sym q.0), subst (λ (x : IndexRef). p.1 < x.shards) (sym q.0) below))
    (λ (later : Has (places refs) p). let q = places_in refs p later in (inr q.0, q.1))
    (Has-either (numbered r 0 r.shards) (places refs) p h)

numbered_once : (r : IndexRef) (first n : ℕ) → AreOnce (numbered r first n)
numbered_once r first zero = tt
numbered_once r first (suc n) = ((λ h. let low : suc first ≤ first = (numbered_in r (suc first) n (r, first) h).1 in omega (arith, low)), numbered_once r (suc first) n)

places_once : (refs : List IndexRef) → AreApart refs → AreOnce (places refs)
places_once [] h = tt
places_once (r ∷ refs) h = once_append (numbered r 0 r.shards) (places refs) (numbered_once r 0 r.shards) (places_once refs h.1)
    (λ p here later. h.0 p.0 (places_in refs p later).0 (ap (λ (x : IndexRef). x.id) (sym (numbered_in r 0 r.shards p here).0)))

once_mapped : {A B : Type 0} (g : A → B) (xs : List A) → AreOnce xs → ((x y : A) → Has xs x → Has xs y → g x ≡ g y → x ≡ y) → AreOnce (map g xs)
once_mapped g [] once one = tt
once_mapped g (x ∷ xs) once one =
    ((λ h. let r = Has-mapped g xs (g x) h in once.0 (subst (Has xs) (one r.0 x (inr r.1) (inl refl) r.2) r.1)), once_mapped g xs once.1 (λ y z at to e. one y z (inr at) (inr to) e))

one_place : (refs : List IndexRef) → AreApart refs → (x y : IndexRef × ℕ) → Has (places refs) x → Has (places refs) y → ref_place x ≡ ref_place y → x ≡ y
one_place refs h (r, k) (q, n) at to e =
    let same : r ≡ q = apart_one refs h r q (places_in refs (r, k) at).0 (places_in refs (q, n) to).0 (ap (λ (p : ℕ × ℕ). p.0) e) in
    ap (λ (z : IndexRef). (z, k)) same ∙ ap (λ (z : ℕ). (q, z)) (ap (λ (p : ℕ × ℕ). p.1) e)

pub shards_few : (among : List (ℕ × ℕ)) (refs : List IndexRef) → AreApart refs → ((r : IndexRef) (k : ℕ) → Has refs r → k < r.shards → Has among (r.id, k)) → count_of_shards refs ≤ length among
shards_few among refs apart all =
    subst (λ (n : ℕ). n ≤ length among) (length-map (places refs) ref_place ∙ length_places refs)
    (few_once (map ref_place (places refs)) among (once_mapped ref_place (places refs) (places_once refs apart) (one_place refs apart))
    (λ x h. let r = Has-mapped ref_place (places refs) x h in let p = places_in refs r.0 r.1 in subst (Has among) r.2 (all r.0.0 r.0.1 p.0 p.1)))
