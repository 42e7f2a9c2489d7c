-- What the ticket of a clone's shard copies is there, and reads, in a lawful world.
use Rattle.std.proofs.Common.{◌≡◌, ℕ, List, Some, None, sym, ap, ◌∙◌, subst}
use Rattle.std.specs.FinMap as fin
use Rattle.std.proofs.lemmas.Option.{same_Some}
use Rattle.esr_model.specs.Names.{ShardSnap}
use Rattle.esr_model.specs.Values.{Bytes, Has, Formats}
use Rattle.esr_model.specs.Shelf.{Shelved}
use Rattle.esr_model.specs.Image.{At}
use Rattle.esr_core.specs.World.{World, Shard, Ticket}
use Rattle.esr_core.specs.Ready.{IsShard}
use Rattle.esr_core.specs.Steps.{IsOut}
use Rattle.esr_core.specs.Ids.{Law}
use Rattle.esr_core.specs.Laws.CloneSources.{SourceStands, source_stands}
use Rattle.esr_core.specs.Laws.NumberMaps.{some_none}

module _ (f : Formats) (w : World) (shelf : List Shelved) (l : Law f w shelf) (k : ℕ) (t : Ticket) (out : IsOut w k t) (index number source : ℕ) (work : t.work ≡ Shard index number) (copies : t.source ≡ Some source) where
  stands : SourceStands f w t index number source
  stands = source_stands f w shelf l k t out index number work source copies

  -- the snapshot of the shard is there
  pub source_there : fin.get w.blobs (f.names.text (ShardSnap index number source)) ≡ None → ⊥
  source_there none = some_none stands.lists.snap_reads.bytes (sym stands.lists.snap_reads.there.0.0 ∙ none)

  -- what was read of it reads
  pub source_reads : (bytes : Bytes) → Has t.read (ShardSnap index number source, bytes) → f.shard_snap.read bytes ≡ None → ⊥
  source_reads bytes read none =
      let there : At f w.blobs (ShardSnap index number source) bytes = (l.written k t out.there out.out (subst IsShard (sym work) tt)).source index number source bytes work copies read in
      some_none stands.lists.snap (sym stands.lists.snap_reads.reads ∙ ap f.shard_snap.read (same_Some _ _ (sym stands.lists.snap_reads.there.0.0 ∙ there.0)) ∙ none)
