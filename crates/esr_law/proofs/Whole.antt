-- The safe root of a kept image is whole by its digests.
use Rattle.std.proofs.Common.{ℕ, zero, suc, List, sym, ap, ◌∙◌, subst, inl, inr}
use Rattle.esr_model.specs.Values.{Formats}
use Rattle.esr_model.specs.Shelf.{Shelved}
use Rattle.esr_model.specs.Image.{Image, Blobs, At, Picked}
use Rattle.esr_model.specs.Kept.{Kept}
use Rattle.esr_core.specs.Allowed.{IsWhole}
use Rattle.esr_core.specs.Left.{safe_of, safe_by}
use Rattle.esr_core.specs.Laws.RootAgreement.{stands_agrees}
use Rattle.esr_law.specs.Digests.{IsWholeByDigests}

picked_whole : (f : Formats) (blobs : Blobs) (safe : ℕ) (shelf : List Shelved) → Picked f (At f blobs) safe shelf → IsWhole f blobs safe
picked_whole f blobs zero shelf picked = tt
picked_whole f blobs (suc n) shelf picked = stands_agrees f (At f blobs) n shelf picked

pub kept_whole : (f : Formats) (i : Image) (shelf : List Shelved) → Kept f i shelf → IsWholeByDigests f i
kept_whole f i shelf (inl empty) = subst (IsWhole f i.blobs) (sym (ap (safe_by f) empty.no_record)) tt
kept_whole f i shelf (inr r) = subst (IsWhole f i.blobs) (sym (ap (safe_by f) r.there ∙ ap safe_of r.reads)) (picked_whole f i.blobs r.cluster.ledger.safe shelf r.kept.picked)
