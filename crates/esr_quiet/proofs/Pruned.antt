-- Nothing of a lawful world is at fault in the indices of shards that a delete or cleanup reads.
use Rattle.std.proofs.Common.{◌≡◌, ℕ, true, false, List, Option, Some, None, sym, ap, ◌∙◌, subst, inl}
use Rattle.std.specs.FinMap as fin
use Rattle.std.proofs.lemmas.Option.{same_Some}
use Rattle.esr_model.specs.Names.{ShardIndex}
use Rattle.esr_model.specs.Values.{Bytes, Has, RootIndex, RootData, Formats}
use Rattle.esr_model.specs.Shelf.{Shelved}
use Rattle.esr_model.specs.Image.{At, Generation, IndexStands, at_shard_of}
use Rattle.esr_core.specs.World.{World, Deleting, Ticket, Swap, HeldIn}
use Rattle.esr_core.specs.Pruning.{IsToRead}
use Rattle.esr_core.specs.Ids.{Law}
use Rattle.esr_core.specs.Laws.DeleteRoots.{one_found}
use Rattle.esr_core.specs.Laws.NewRoots.{root_one_each}
use Rattle.esr_core.specs.Laws.NumberMaps.{some_none}

module _ (f : Formats) (w : World) (shelf : List Shelved) (l : Law f w shelf) (k : ℕ) (t : Ticket) (uuids : List ℕ) (plan : Option Swap)
    (there : fin.get w.tickets k ≡ Some t) (out : t.out ≡ true) (unsettled : t.settled ≡ false) (present : t.term ≡ w.term)
    (work : t.work ≡ Deleting uuids plan) (index number base : ℕ) (to_read : IsToRead t.clean t.root uuids index number base) where
  -- it copied the safe root
  root_is : t.root ≡ w.root
  root_is = (l.lawful.queue.deleting k t there out unsettled present uuids plan work).root_is

  of_root : Generation w.root index number base
  of_root =
      let x : Has w.root.indices to_read.x = subst (λ (r : RootData). Has r.indices to_read.x) root_is to_read.there in
      ap (λ (z : Option RootIndex). at_shard_of z number) (one_found w.root.indices (root_one_each f (HeldIn f w) w.safe w.root l.lawful.sound.carried.root_is) to_read.x x index to_read.id) ∙ to_read.at

  stands : IndexStands f (HeldIn f w) w.root index number base
  stands = (l.lawful.sound.carried.carries index number base (inl of_root)).stands

  -- each is there
  pub is_there : fin.get w.blobs (f.names.text (ShardIndex index number base)) ≡ None → ⊥
  is_there none = some_none stands.held_reads.bytes (sym stands.held_reads.there.0.0 ∙ none)

  -- and reads
  pub does_read : (bytes : Bytes) → Has t.read (ShardIndex index number base, bytes) → f.shard_index.read bytes ≡ None → ⊥
  does_read bytes read none =
      let at : At f w.blobs (ShardIndex index number base) bytes = ((l.pruned.unsettled k t uuids plan there out unsettled present work).held (ShardIndex index number base) bytes read).0 in
      some_none stands.held (sym stands.held_reads.reads ∙ ap f.shard_index.read (same_Some stands.held_reads.bytes bytes (sym stands.held_reads.there.0.0 ∙ at.0)) ∙ none)
