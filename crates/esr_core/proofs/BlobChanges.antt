-- What a step makes of the blobs, where the container tells.
use Rattle.std.proofs.Common.{◌≡◌, ◌⊎◌, ℕ, Option, Some, None, refl, subst, inl, inr}
use Rattle.std.specs.FinMap as fin
use Rattle.esr_model.specs.Names.{BlobName, Latest}
use Rattle.esr_model.specs.Values.{Bytes, Has, Formats}
use Rattle.esr_model.specs.Cleanup.{IsPageOf}
use Rattle.esr_model.specs.Image.{Blobs, Image, IsStored, Present}
use Rattle.esr_core.specs.World.{World}
use Rattle.esr_core.specs.Steps.{Removes}
use Rattle.esr_core.specs.Entry.{Read, ReadStep, CommitTest, Prune, PruneStep, Step, CommitStep, Reply, Moment}
use Rattle.esr_core.specs.Allowed as allowed
use Rattle.esr_core.specs.Allowed.{Told, SameBlobs, Adds, latest_text, ReadAllows, VerifyAllows, PruneAllows, Allows, Allowed}
use Rattle.esr_core.specs.Changes.{BlobsChange, NoBlobChange, NewBlob, NewLatest, Removal}

module _ (f : Formats) (w : World) (i : Image) where
  told_at : (image : Option Image) → image ≡ Some i → (P : Blobs → Type 0) → Told image P → P i.blobs
  told_at image told P h = subst (λ x. Told x P) told h

  stay : (step : Step) (image : Option Image) → image ≡ Some i → SameBlobs w image → BlobsChange f w step i.blobs
  stay step image told same = NoBlobChange (told_at image told (λ blobs. blobs ≡ w.blobs) same)

  adds : (name : BlobName) (bytes : Bytes) (step : Step) → (step ≡ CommitStep name) ⊎ (step ≡ ReadStep (CommitTest name)) → IsStored f name → Adds f w name bytes i.blobs → BlobsChange f w step i.blobs
  adds name bytes step is stored h = NewBlob name bytes is stored h.0 h.1

  -- nothing or the whole blob
  may_add : (name : BlobName) (bytes : Bytes) (step : Step) → (step ≡ CommitStep name) ⊎ (step ≡ ReadStep (CommitTest name)) → IsStored f name → (i.blobs ≡ w.blobs) ⊎ Adds f w name bytes i.blobs → BlobsChange f w step i.blobs
  may_add name bytes step is stored (inl same) = NoBlobChange same
  may_add name bytes step is stored (inr h) = adds name bytes step is stored h

  verifies : (read : Read) (reply : Reply) (image : Option Image) → image ≡ Some i → VerifyAllows f w read reply image → BlobsChange f w (ReadStep read) i.blobs
  verifies read reply image told (allowed.DrawingTest im idle fits same) = stay _ im told same
  verifies read reply image told (allowed.TestSpent im idle spent same) = stay _ im told same
  verifies read reply image told (allowed.BeginningTest name im own same) = stay _ im told same
  verifies read reply image told (allowed.BeginTestFails name im own same) = stay _ im told same
  verifies read reply image told (allowed.CommittingTest name bytes im own new h) = adds name bytes _ (inr refl) own.stored (told_at im told (Adds f w name bytes) h)
  verifies read reply image told (allowed.TestTaken name im own found) = NoBlobChange (told_at im told (λ blobs. Present f w.blobs name × (blobs ≡ w.blobs)) found).1
  verifies read reply image told (allowed.CommitTestFails name bytes im own leaves) = may_add name bytes _ (inr refl) own.stored (told_at im told (λ blobs. (blobs ≡ w.blobs) ⊎ Adds f w name bytes blobs) leaves)
  verifies read reply image told (allowed.RemovingTests names im may left) =
      Removal names (inr refl) (told_at im told (λ blobs. Removes f w.blobs blobs names × ((name : BlobName) → Has names name → fin.get blobs (f.names.text name) ≡ None)) left).0
  verifies read reply image told (allowed.RemoveTestsFails names im may left) = Removal names (inr refl) (told_at im told (λ blobs. Removes f w.blobs blobs names) left)
  verifies read reply image told (allowed.VerifyingAll im done same) = stay _ im told same
  verifies read reply image told (allowed.VerifyFailing why im begun same) = stay _ im told same

  prunes : (k : ℕ) (prune : Prune) (reply : Reply) (image : Option Image) → image ≡ Some i → PruneAllows f w k prune reply image → BlobsChange f w (PruneStep prune) i.blobs
  prunes who prune reply image told (allowed.FetchingShard k name im g found) = NoBlobChange (told_at im told (λ blobs. (bytes : Bytes) × (fin.get w.blobs (f.names.text name) ≡ Some bytes) × (blobs ≡ w.blobs)) found).2
  prunes who prune reply image told (allowed.ShardMissing k name im g found) = NoBlobChange (told_at im told (λ blobs. (fin.get w.blobs (f.names.text name) ≡ None) × (blobs ≡ w.blobs)) found).1
  prunes who prune reply image told (allowed.FetchShardFails k name im g same) = stay _ im told same
  prunes who prune reply image told (allowed.Planning k shards im p fits back same) = stay _ im told same
  prunes who prune reply image told (allowed.PlanSpent k shards im p spent same) = stay _ im told same
  prunes who prune reply image told (allowed.SettlingDelete k im s present same) = stay _ im told same
  prunes who prune reply image told (allowed.SettleDeleteStale k im s apart same) = stay _ im told same
  prunes who prune reply image told (allowed.SettleDeleteFails k im s present same) = stay _ im told same
  prunes who prune reply image told (allowed.RemovingDoomed k names im r removed) =
      Removal names (inl refl) (told_at im told (λ blobs. Removes f w.blobs blobs names × ((name : BlobName) → Has names name → fin.get blobs (f.names.text name) ≡ None)) removed).0
  prunes who prune reply image told (allowed.RemoveDoomedFails k names im r removes) = Removal names (inl refl) (told_at im told (λ blobs. Removes f w.blobs blobs names) removes)
  prunes who prune reply image told (allowed.EndingDelete k im e same) = stay _ im told same
  prunes who prune reply image told (allowed.FailingDelete k why im c same) = stay _ im told same

  allows : (size who : ℕ) (step : Step) (reply : Reply) (image : Option Image) → image ≡ Some i → Allows f size w who step reply image → BlobsChange f w step i.blobs
  allows size who step reply image told (allowed.Accepting name indices time o im acc same) = stay _ im told same
  allows size who step reply image told (allowed.GivingNothing im none same) = stay _ im told same
  allows size who step reply image told (allowed.Giving k o unit im is lowest g same) = stay _ im told same
  allows size who step reply image told (allowed.Drawing k n first im d same) = stay _ im told same
  allows size who step reply image told (allowed.Beginning k name im c same) = stay _ im told same
  allows size who step reply image told (allowed.BeginningLatest k im c same) = stay _ im told same
  allows size who step reply image told (allowed.Committing k name im c h) = adds name c.bytes _ (inl refl) c.named (told_at im told (Adds f w name c.bytes) h)
  allows size who step reply image told (allowed.Finding k name im c found) = NoBlobChange (told_at im told (λ blobs. Present f w.blobs name × (blobs ≡ w.blobs)) found).1
  allows size who step reply image told (allowed.Replacing k im c named puts) = NewLatest (latest_text c.n) refl named (told_at im told (λ blobs. blobs ≡ fin.insert w.blobs (f.names.text Latest) (latest_text c.n)) puts)
  allows size who step reply image told (allowed.Fetching k name im g found) = NoBlobChange (told_at im told (λ blobs. (bytes : Bytes) × (fin.get w.blobs (f.names.text name) ≡ Some bytes) × (blobs ≡ w.blobs)) found).2
  allows size who step reply image told (allowed.Missing k name im g found) = NoBlobChange (told_at im told (λ blobs. (fin.get w.blobs (f.names.text name) ≡ None) × (blobs ≡ w.blobs)) found).1
  allows size who step reply image told (allowed.Listing k from page im g shape here) = NoBlobChange (told_at im told (λ blobs. IsPageOf w.blobs from page × (blobs ≡ w.blobs)) here).1
  allows size who step reply image told (allowed.Raising k n im r same) = stay _ im told same
  allows size who step reply image told (allowed.Settling k im s same) = stay _ im told same
  allows size who step reply image told (allowed.Doing k r im d same) = stay _ im told same
  allows size who step reply image told (allowed.Failing k why im c same) = stay _ im told same
  allows size who step reply image told (allowed.Finishing k im c same) = stay _ im told same
  allows size who step reply image told (allowed.Dropping k im c same) = stay _ im told same
  allows size who step reply image told (allowed.Electing im room same) = stay _ im told same
  allows size who step reply image told (allowed.Looking im same) = stay _ im told same
  allows size who step reply image told (allowed.OpeningRestore name place o uuid indices im acc same) = stay _ im told same
  allows size who step reply image told (allowed.OpeningClone source name names time o t im acc same) = stay _ im told same
  allows size who step reply image told (allowed.GoingInto names im acc same) = stay _ im told same
  allows size who step reply image told (allowed.OpeningCleanup im acc same) = stay _ im told same
  allows size who step reply image told (allowed.Verifying read rep im h) = verifies read rep im told h
  allows size who step reply image told (allowed.Reading k read rep im h same) = stay _ im told same
  allows size who step reply image told (allowed.Pruning k prune rep im h) = prunes k prune rep im told h
  allows size who step reply image told (allowed.Ruled command refusal im rule same) = stay _ im told same
  allows size who step reply image told (allowed.DrawSpent k n im may spent same) = stay _ im told same
  allows size who step reply image told (allowed.RaiseStale k im may apart same) = stay _ im told same
  allows size who step reply image told (allowed.SettleStale k n t s im may apart same) = stay _ im told same
  allows size who step reply image told (allowed.DropStale k im may apart same) = stay _ im told same
  allows size who step reply image told (allowed.RaiseSpent k im may present spent same) = stay _ im told same
  allows size who step reply image told (allowed.ElectSpent im spent same) = stay _ im told same
  allows size who step reply image told (allowed.Taken k name im c aside found) = NoBlobChange (told_at im told (λ blobs. Present f w.blobs name × (blobs ≡ w.blobs)) found).1
  allows size who step reply image told (allowed.BeginFails k name im c same) = stay _ im told same
  allows size who step reply image told (allowed.BeginLatestFails k im c same) = stay _ im told same
  allows size who step reply image told (allowed.CommitFails k name im c leaves) = may_add name c.bytes _ (inl refl) c.named (told_at im told (λ blobs. (blobs ≡ w.blobs) ⊎ Adds f w name c.bytes blobs) leaves)
  allows size who step reply image told (allowed.ReplaceFails k im c named puts) =
      elim (told_at im told (λ blobs. (blobs ≡ w.blobs) ⊎ (blobs ≡ fin.insert w.blobs (f.names.text Latest) (latest_text c.n))) puts) [ inl same ↦ NoBlobChange same | inr put ↦ NewLatest (latest_text c.n) refl named put ]
  allows size who step reply image told (allowed.FetchFails k name im g same) = stay _ im told same
  allows size who step reply image told (allowed.ListFails k from im g same) = stay _ im told same
  allows size who step reply image told (allowed.AskFails name indices time im acc same) = stay _ im told same
  allows size who step reply image told (allowed.AskCloneFails source name names time t im acc same) = stay _ im told same
  allows size who step reply image told (allowed.AskDeleteFails names im acc same) = stay _ im told same
  allows size who step reply image told (allowed.AskCleanupFails im acc same) = stay _ im told same
  allows size who step reply image told (allowed.RaiseFails k im r same) = stay _ im told same
  allows size who step reply image told (allowed.SettleFails k im s same) = stay _ im told same
  allows size who step reply image told (allowed.DropFails k im c same) = stay _ im told same
  allows size who step reply image told (allowed.ElectFails im room same) = stay _ im told same

pub blobs_change : (f : Formats) (size : ℕ) (w : World) (m : Moment) (i : Image) → m.image ≡ Some i → Allowed f size w m → BlobsChange f w m.entry.step i.blobs
blobs_change f size w m i told a = elim a.answered [
  | inl alive ↦ allows f w i size m.entry.who m.entry.step m.entry.reply m.image told alive.1
  | inr blocked ↦ NoBlobChange (subst (SameBlobs w) told blocked.same)
]
