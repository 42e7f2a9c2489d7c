-- What stands of a listed snapshot, and its info. The info of one that a finalization made is the one that is there.
use Rattle.std.proofs.Common.{◌≡◌, ℕ, List, map, refl, sym, ap, ◌∙◌, subst, inl, inr}
use Rattle.esr_model.specs.Names.{BlobName, Snap, Meta, IndexMeta}
use Rattle.esr_model.specs.Values.{Bytes, Has, IndexRef, RootSnap, SnapInfo, Formats}
use Rattle.esr_model.specs.Shelf.{Shelved}
use Rattle.esr_model.specs.Image.{At, Reads, SnapStands, RootStands}
use Rattle.esr_core.specs.World.{World, HeldIn, metadata}
use Rattle.esr_core.specs.Queue.{Lists}
use Rattle.esr_core.specs.Ids.{Law}
use Rattle.esr_core.specs.Allowed.{WasMade, IsInInfo}
use Rattle.esr_model.specs.Lists.{Has-mapped, pairs_both}
use Rattle.esr_core.specs.Laws.OneValue.{held_one, safe_root_stands}

-- a snapshot on the shelf, as it is listed
pub record IsListedAs (f : Formats) (w : World) (shelf : List Shelved) (u : ℕ) : Type 0 where
  pub snap : RootSnap
  pub uuid_is : snap.uuid ≡ u
  pub shelved : Shelved
  pub there : Has shelf shelved
  pub stands : SnapStands f (HeldIn f w) w.root snap shelved

pub listed_as : (f : Formats) (w : World) (shelf : List Shelved) → Law f w shelf → (u : ℕ) → Lists w.root u → IsListedAs f w shelf u
listed_as f w shelf l u has =
    let stands : RootStands f (HeldIn f w) w.root shelf = safe_root_stands f (HeldIn f w) (held_one f w) w.safe w.root shelf l.lawful.sound.rooted.kept.picked l.lawful.sound.carried.root_is in
    let (z, m, uuid) = has in
    let (y, there, s) = pairs_both (SnapStands f (HeldIn f w) w.root) w.root.snapshots shelf z stands.snapshots m in
    record { snap = z; uuid_is = uuid; shelved = y; there = there; stands = s }

-- it is listed as that
pub listed_snap : (f : Formats) (w : World) (shelf : List Shelved) (l : Law f w shelf) (u : ℕ) (has : Lists w.root u) → (listed_as f w shelf l u has).snap ≡ has.0
unfolding listed_as
listed_snap f w shelf l u has = refl

-- its info, which nobody may remove
pub listed_info : (f : Formats) (w : World) (shelf : List Shelved) (u : ℕ) (a : IsListedAs f w shelf u) → Reads (HeldIn f w) (Snap u) f.info a.stands.info
listed_info f w shelf u a = subst (λ x. Reads (HeldIn f w) (Snap x) f.info a.stands.info) a.uuid_is a.stands.info_reads

-- ---- of one that a finalization made

-- no metadata of an index has the name of an info
not_of_index : (f : Formats) (uuid : ℕ) (u : ℕ) (refs : List IndexRef) (b : Bytes) → Has {A = BlobName × Bytes} (map (λ (r : IndexRef). (IndexMeta r.id uuid, f.index_meta.text (record { index = r; uuid = uuid }))) refs) (Snap u, b) → ⊥
not_of_index f uuid u refs b h =
    let (r, m, e) = Has-mapped {B = BlobName × Bytes} (λ (r : IndexRef). (IndexMeta r.id uuid, f.index_meta.text (record { index = r; uuid = uuid }))) refs (Snap u, b) h in
    cc_names r.id (ap (λ (p : BlobName × Bytes). p.0) e)
  where
    cc_names : (i : ℕ) → IndexMeta i uuid ≡ Snap u → ⊥
    cc_names i e = cc

snap_text : (f : Formats) (info : SnapInfo) (b : Bytes) → Has (metadata f info) (Snap info.uuid, b) → b ≡ f.info.text info
snap_text f info b (inl e) = sym (ap (λ (p : BlobName × Bytes). p.1) e)
snap_text f info b (inr (inl e)) = absurd (other (ap (λ (p : BlobName × Bytes). p.0) e))
  where
    other : Meta info.uuid ≡ Snap info.uuid → ⊥
    other x = cc
snap_text f info b (inr (inr m)) = absurd (not_of_index f info.uuid info.uuid info.indices b m)

pub made_info : (f : Formats) (w : World) (shelf : List Shelved) → Law f w shelf → (uuid : ℕ) (indices : List IndexRef) → Lists w.root uuid → WasMade f w uuid indices
    → IsInInfo f w uuid indices
made_info f w shelf l uuid indices listed m =
    let a : IsListedAs f w shelf uuid = listed_as f w shelf l uuid listed in
    let reads : Reads (HeldIn f w) (Snap uuid) f.info a.stands.info = listed_info f w shelf uuid a in
    let own : Has (metadata f m.info) (Snap m.info.uuid, reads.bytes) =
    l.texts.swaps m.number m.t m.info m.results m.made m.there m.work (Snap m.info.uuid) reads.bytes (inl refl)
    (subst (λ u. At f w.blobs (Snap u) reads.bytes) (sym m.uuid_is) reads.there.0) in
    let bytes : reads.bytes ≡ f.info.text m.info = snap_text f m.info reads.bytes own in
    (m.info, record { bytes = reads.bytes; there = reads.there.0; reads = ap f.info.read bytes ∙ m.back }, m.indices_is)
