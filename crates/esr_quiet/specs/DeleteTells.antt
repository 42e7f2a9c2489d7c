-- What the step of a delete that fails tells.
use Rattle.std.proofs.Common.{◌≡◌, ℕ, false, Option, None, sym, subst, inl, inr}
use Rattle.std.specs.FinMap as fin
use Rattle.esr_core.specs.Allowed as allowed
use Rattle.esr_model.specs.Values.{Formats}
use Rattle.esr_model.specs.Image.{Image}
use Rattle.esr_core.specs.World.{World}
use Rattle.esr_core.specs.Entry.{Why, Prune, FetchShard, DeleteFails, Step, PruneStep, Reply, WasAbsent, HasEnded, Moment, Refusal, Refused}
use Rattle.esr_core.specs.Allowed.{Told, FetchesShard, FailsDeletion, PruneAllows, ShardMissing, FailingDelete, Allows, Allowed}

-- of a fetch that found nothing, and of a report
abbrev pub Tells : Formats → World → ℕ → Step → Reply → Option Image → Type 0
Tells f w who (PruneStep (FetchShard name)) WasAbsent image = FetchesShard f w who name × Told image (λ blobs. (fin.get w.blobs (f.names.text name) ≡ None) × (blobs ≡ w.blobs))
Tells f w who (PruneStep (DeleteFails why)) HasEnded image = FailsDeletion w who
Tells f w who step reply image = Unit {0}

prune_tells : (f : Formats) (w : World) (who : ℕ) (prune : Prune) (reply : Reply) (image : Option Image) → PruneAllows f w who prune reply image → Tells f w who (PruneStep prune) reply image
prune_tells f w who prune reply image (ShardMissing k name im g found) = (g, found)
prune_tells f w who prune reply image (FailingDelete k why im c same) = c
prune_tells f w who prune reply image a = tt

tells : (f : Formats) (size : ℕ) (w : World) (who : ℕ) (step : Step) (reply : Reply) (image : Option Image) → Allows f size w who step reply image → Tells f w who step reply image
tells f size w who step reply image (allowed.Pruning k prune rep im a) = prune_tells f w k prune rep im a
tells f size w who step reply image a = tt

-- a refusal tells nothing
refused_tells : (f : Formats) (w : World) (who : ℕ) (step : Step) (refusal : Refusal) (image : Option Image) → Tells f w who step (Refused refusal) image
refused_tells f w who (PruneStep (FetchShard name)) refusal image = tt
refused_tells f w who step refusal image = tt

pub told_by : (f : Formats) (size : ℕ) (w : World) (m : Moment) → w.deposed ≡ false → Allowed f size w m → Tells f w m.entry.who m.entry.step m.entry.reply m.image
told_by f size w m present a = elim a.answered [
  | inl alive ↦ tells f size w m.entry.who m.entry.step m.entry.reply m.image alive.1
  | inr dead ↦ subst (λ (r : Reply). Tells f w m.entry.who m.entry.step r m.image) (sym dead.refused) (refused_tells f w m.entry.who m.entry.step dead.refusal m.image)
]

pub fails_at : (f : Formats) (size : ℕ) (w : World) (m : Moment) (why : Why) → w.deposed ≡ false → Allowed f size w m → m.entry.step ≡ PruneStep (DeleteFails why) → m.entry.reply ≡ HasEnded → FailsDeletion w m.entry.who
fails_at f size w m why present a step reply =
    subst (λ st. Tells f w m.entry.who st HasEnded m.image) step (subst (λ r. Tells f w m.entry.who m.entry.step r m.image) reply (told_by f size w m present a))
