-- A name that a ticket may commit is that of no blob, where the world is free.
use Rattle.std.proofs.Common.{◌≡◌, ◌⊎◌, ℕ, List, [], ◌∷◌, Option, Some, None, map, sym, ap, subst, inl, inr}
use Rattle.std.proofs.lemmas.Option.{same_Some}
use Rattle.esr_model.specs.Names.{BlobName, IndexMeta}
use Rattle.esr_model.specs.Values.{Bytes, Has, IndexRef, RootData, SnapInfo, Formats}
use Rattle.esr_model.specs.Image.{Present}
use Rattle.esr_core.specs.World.{World, Work, Finalize, Deleting, Swap, swap_of, metadata}
use Rattle.esr_core.specs.Allowed.{Commits, IsMetadata}
use Rattle.esr_quiet.specs.Free.{Free}

-- the name of a blob among a finalization's metadata
named_metadata : (f : Formats) (info : SnapInfo) (name : BlobName) (bytes : Bytes) → Has (metadata f info) (name, bytes) → IsMetadata name
named_metadata f info name bytes (inl e) = (info.uuid, inl (ap (λ (x : BlobName × Bytes). x.0) (sym e)))
named_metadata f info name bytes (inr (inl e)) = (info.uuid, inr (inl (ap (λ (x : BlobName × Bytes). x.0) (sym e))))
named_metadata f info name bytes (inr (inr h)) = go info.indices h
  where
    go : (refs : List IndexRef) → Has (map {B = BlobName × Bytes} (λ (r : IndexRef). (IndexMeta r.id info.uuid, f.index_meta.text (record { index = r; uuid = info.uuid }))) refs) (name, bytes) → IsMetadata name
    go [] m = absurd m
    go (r ∷ refs) (inl e) = (info.uuid, inr (inr (r.id, ap (λ (x : BlobName × Bytes). x.0) (sym e))))
    go (r ∷ refs) (inr m) = go refs m

no_swap : (s : Swap) → None ≡ Some s → ⊥
no_swap s e = cc

-- what a swap writes beside its root is metadata, where it is no delete's plan
pub own_metadata : (f : Formats) (work : Work) (root : RootData) (s : Swap) → swap_of f work root ≡ Some s → (name : BlobName) (bytes : Bytes) → Has s.own (name, bytes)
    → IsMetadata name ⊎ ((uuids : List ℕ) × (work ≡ Deleting uuids (Some s)))
own_metadata f (Finalize info results made) root s e name bytes h = inl (named_metadata f info name bytes (subst (λ (x : Swap). Has x.own (name, bytes)) (sym (same_Some _ s e)) h))
own_metadata f (Deleting uuids plan) root s e name bytes h = inr (uuids, ap (λ (p : Option Swap). Deleting uuids p) e)
own_metadata f work root s e name bytes h = absurd (no_swap s e)

module _ (f : Formats) (w : World) (free : Free f w) where
  -- a name that may be committed is free
  pub taken : (size k : ℕ) (name : BlobName) (c : Commits f size w k name) → (IsMetadata name → ⊥) → Present f w.blobs name → (Has c.t.noted name → ⊥) → ⊥
  taken size k name c aside present new = elim c.may [
    | inl h ↦ elim h.2 [
      | inl own ↦ elim (own_metadata f c.t.work c.t.root h.0 h.1 name c.bytes own) [
        | inl metadata_name ↦ aside metadata_name
        | inr plan ↦ new (free.plans k c.t plan.0 h.0 name c.bytes c.out.there plan.1 own present)
      ]
      | inr root ↦ new (subst (Has c.t.noted) (sym root.1) (free.roots k root.0 c.t c.out.there root.2.raised (subst (Present f w.blobs) root.1 present)))
    ]
    | inr h ↦ new (free.shards k c.t name c.out.there c.out.out h.1 present)
  ]
