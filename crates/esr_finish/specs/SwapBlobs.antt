-- A ticket whose swap's blobs are put one after another.
use Rattle.std.proofs.Common.{◌≡◌, ℕ, Option, Some, None, subst, inl, inr, List, [], ◌∷◌, refl}
use Rattle.esr_model.specs.Names.{BlobName}
use Rattle.esr_model.specs.Values.{RootData, Formats, Bytes, Has}
use Rattle.esr_core.specs.World.{Work, Shard, Swap, swap_of}
use Rattle.esr_finish.specs.Ticket.{noted_with}

-- what has a swap is no shard
pub swaps_no_shard : (f : Formats) (work : Work) (root : RootData) (change : Swap) → swap_of f work root ≡ Some change → (index number : ℕ) → work ≡ Shard index number → ⊥
swaps_no_shard f work root change is index number shard = none change (subst (λ (w : Work). swap_of f w root ≡ Some change) shard is)
  where
    none : (x : Swap) → ◌≡◌ {A = Option Swap} None (Some x) → ⊥
    none x same = cc

-- a name of none of the blobs was noted before
pub noted_before : (blobs : List (BlobName × Bytes)) (noted : List BlobName) (name : BlobName) → ((b : BlobName × Bytes) → Has blobs b → b.0 ≡ name → ⊥) → Has (noted_with blobs noted) name → Has noted name
noted_before [] noted name other has = has
noted_before (x ∷ blobs) noted name other has = before (noted_before blobs (x.0 ∷ noted) name (λ b later. other b (inr later)) has)
  where
    before : Has (x.0 ∷ noted) name → Has noted name
    before (inl here) = absurd (other x (inl refl) here)
    before (inr later) = later
