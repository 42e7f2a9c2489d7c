-- Who makes a step: who 0, the ticket of a restore or that of another unit, which is out.
use Rattle.std.proofs.Common.{◌⊎◌, ℕ, Option, refl, inl, inr}
use Rattle.esr_core.specs.Allowed as allowed
use Rattle.esr_model.specs.Values.{Formats}
use Rattle.esr_model.specs.Image.{Image}
use Rattle.esr_core.specs.World.{World}
use Rattle.esr_core.specs.Entry.{Read, ReadStep, Prune, PruneStep, ReadBlob, Step, Reply, Moment}
use Rattle.esr_core.specs.Allowed.{Fetcher, ByReader, ReadAllows, VerifyAllows, PruneAllows, Allows, IsBlocked, Allowed}
use Rattle.esr_core.specs.Changes.{Maker, ClientStep, ReaderStep, UnitStep}

module _ (f : Formats) (w : World) where
  fetches : (k : ℕ) (name : _) (image : Option Image) → Fetcher f w name image k → Maker w k (ReadStep (ReadBlob name))
  fetches k name image (ByReader j q reading may) = ReaderStep q reading tt
  fetches k name image other = ClientStep refl tt

  reads : (k : ℕ) (read : Read) (reply : Reply) (image : Option Image) → ReadAllows f w k read reply image → Maker w k (ReadStep read)
  reads who read reply image (allowed.ReadFound k name im stored by there) = fetches k name im by
  reads who read reply image (allowed.ReadMissing k name im stored by gone) = fetches k name im by
  reads who read reply image (allowed.ReadFault k name im stored by) = fetches k name im by
  reads who read reply image (allowed.RestoringShard k files bytes im q reading done) = ReaderStep q reading tt
  reads who read reply image (allowed.ReaderFailing k why im q reading) = ReaderStep q reading tt
  reads who read reply image other = ClientStep refl tt

  verifies : (read : Read) (reply : Reply) (image : Option Image) → VerifyAllows f w read reply image → Maker w 0 (ReadStep read)
  verifies read reply image (allowed.DrawingTest im idle fits same) = ClientStep refl tt
  verifies read reply image other = ClientStep refl tt

  prunes : (k : ℕ) (prune : Prune) (reply : Reply) (image : Option Image) → PruneAllows f w k prune reply image → Maker w k (PruneStep prune)
  prunes who prune reply image (allowed.FetchingShard k name im g found) = UnitStep g.t g.deleting.out tt
  prunes who prune reply image (allowed.ShardMissing k name im g found) = UnitStep g.t g.deleting.out tt
  prunes who prune reply image (allowed.FetchShardFails k name im g same) = UnitStep g.t g.deleting.out tt
  prunes who prune reply image (allowed.Planning k shards im p fits back same) = UnitStep p.t p.deleting.out tt
  prunes who prune reply image (allowed.PlanSpent k shards im p spent same) = UnitStep p.t p.deleting.out tt
  prunes who prune reply image (allowed.SettlingDelete k im s present same) = UnitStep s.t s.deleting.out tt
  prunes who prune reply image (allowed.SettleDeleteStale k im s apart same) = UnitStep s.t s.deleting.out tt
  prunes who prune reply image (allowed.SettleDeleteFails k im s present same) = UnitStep s.t s.deleting.out tt
  prunes who prune reply image (allowed.RemovingDoomed k names im r removed) = UnitStep r.t r.deleting.out tt
  prunes who prune reply image (allowed.RemoveDoomedFails k names im r removes) = UnitStep r.t r.deleting.out tt
  prunes who prune reply image (allowed.EndingDelete k im e same) = UnitStep e.t e.deleting.out tt
  prunes who prune reply image (allowed.FailingDelete k why im c same) = UnitStep c.t c.deleting.out tt

  makes : (size who : ℕ) (step : Step) (reply : Reply) (image : Option Image) → Allows f size w who step reply image → Maker w who step
  makes size who step reply image (allowed.Drawing k n first im d same) = UnitStep d.may.t d.may.out tt
  makes size who step reply image (allowed.Beginning k name im c same) = UnitStep c.t c.out tt
  makes size who step reply image (allowed.BeginningLatest k im c same) = UnitStep c.t c.out tt
  makes size who step reply image (allowed.Committing k name im c adds) = UnitStep c.t c.out tt
  makes size who step reply image (allowed.Finding k name im c found) = UnitStep c.t c.out tt
  makes size who step reply image (allowed.Replacing k im c named puts) = UnitStep c.t c.out tt
  makes size who step reply image (allowed.Fetching k name im g found) = UnitStep g.t g.out tt
  makes size who step reply image (allowed.Missing k name im g found) = UnitStep g.t g.out tt
  makes size who step reply image (allowed.Listing k from page im g shape here) = UnitStep g.t g.out tt
  makes size who step reply image (allowed.Raising k n im r same) = UnitStep r.may.t r.may.out tt
  makes size who step reply image (allowed.Settling k im s same) = UnitStep s.t s.may.out tt
  makes size who step reply image (allowed.Doing k r im d same) = UnitStep d.t d.out tt
  makes size who step reply image (allowed.Failing k why im c same) = UnitStep c.t c.out tt
  makes size who step reply image (allowed.Finishing k im c same) = UnitStep c.t c.out tt
  makes size who step reply image (allowed.Dropping k im c same) = UnitStep c.may.t c.may.out tt
  makes size who step reply image (allowed.Verifying read rep im h) = verifies read rep im h
  makes size who step reply image (allowed.Reading k read rep im h same) = reads k read rep im h
  makes size who step reply image (allowed.Pruning k prune rep im h) = prunes k prune rep im h
  makes size who step reply image (allowed.DrawSpent k n im may spent same) = UnitStep may.t may.out tt
  makes size who step reply image (allowed.RaiseStale k im may apart same) = UnitStep may.t may.out tt
  makes size who step reply image (allowed.SettleStale k n t s im may apart same) = UnitStep t may.out tt
  makes size who step reply image (allowed.DropStale k im may apart same) = UnitStep may.t may.out tt
  makes size who step reply image (allowed.RaiseSpent k im may present spent same) = UnitStep may.t may.out tt
  makes size who step reply image (allowed.Taken k name im c aside found) = UnitStep c.t c.out tt
  makes size who step reply image (allowed.BeginFails k name im c same) = UnitStep c.t c.out tt
  makes size who step reply image (allowed.BeginLatestFails k im c same) = UnitStep c.t c.out tt
  makes size who step reply image (allowed.CommitFails k name im c leaves) = UnitStep c.t c.out tt
  makes size who step reply image (allowed.ReplaceFails k im c named puts) = UnitStep c.t c.out tt
  makes size who step reply image (allowed.FetchFails k name im g same) = UnitStep g.t g.out tt
  makes size who step reply image (allowed.ListFails k from im g same) = UnitStep g.t g.out tt
  makes size who step reply image (allowed.RaiseFails k im r same) = UnitStep r.may.t r.may.out tt
  makes size who step reply image (allowed.SettleFails k im s same) = UnitStep s.t s.may.out tt
  makes size who step reply image (allowed.DropFails k im c same) = UnitStep c.may.t c.may.out tt
  makes size who step reply image other = ClientStep refl tt

pub maker : (f : Formats) (size : ℕ) (w : World) (m : Moment) → Allowed f size w m → Maker w m.entry.who m.entry.step ⊎ IsBlocked w m
maker f size w m a = elim a.answered [ inl alive ↦ inl (makes f w size m.entry.who m.entry.step m.entry.reply m.image alive.1) | inr blocked ↦ inr blocked ]
