-- Nothing of a lawful and free world is at fault in the base of a shard's ticket.
use Rattle.std.proofs.Common.{◌≡◌, ◌⊎◌, ℕ, ◌<◌, ◌≤◌, List, Some, None, sym, ap, ◌∙◌, subst, inl, inr, arith}
use Rattle.std.specs.FinMap as fin
use Rattle.std.proofs.lemmas.Option.{same_Some}
use Rattle.esr_model.specs.Names.{BlobName, ShardIndex}
use Rattle.esr_model.specs.Values.{Bytes, Has, FileEntry, SnapList, ShardFiles, Formats}
use Rattle.esr_model.specs.Shelf.{Shelved}
use Rattle.esr_model.specs.Image.{At, IndexStands}
use Rattle.esr_core.specs.World.{World, Shard, Ticket, HeldIn}
use Rattle.esr_core.specs.Generations.{Base, ShardLaw}
use Rattle.esr_core.specs.Ready.{IsShard, Waits}
use Rattle.esr_core.specs.Steps.{IsOut}
use Rattle.esr_core.specs.Written.{WroteLaw}
use Rattle.esr_core.specs.Ids.{Law}
use Rattle.esr_desk.specs.Unit.Shown.{HasSnapshot, HasDrawn}
use Rattle.esr_quiet.specs.Free.{Free}
use Rattle.esr_core.specs.Laws.NumberMaps.{some_none}

module _ (f : Formats) (w : World) (shelf : List Shelved) (l : Law f w shelf) (k : ℕ) (t : Ticket) (out : IsOut w k t) (index number base : ℕ) (work : t.work ≡ Shard index number) (base_is : t.base ≡ Some base) where
  held_law : ShardLaw f (HeldIn f w) w.root w.ops k t index number
  held_law = l.lawful.sound.carried.shards k t out.there out.out index number work

  stands : IndexStands f (HeldIn f w) w.root index number base
  stands = (subst (Base f (HeldIn f w) w.root w.ops index number) base_is held_law.base).1.stands

  -- its index is there
  pub is_there : fin.get w.blobs (f.names.text (ShardIndex index number base)) ≡ None → ⊥
  is_there none = some_none stands.held_reads.bytes (sym stands.held_reads.there.0.0 ∙ none)

  wrote : WroteLaw f w.blobs t
  wrote = l.written k t out.there out.out (subst IsShard (sym work) tt)

  -- what was read of it reads as what stands
  reads_as : (bytes : Bytes) → Has t.read (ShardIndex index number base, bytes) → f.shard_index.read bytes ≡ Some stands.held
  reads_as bytes read =
      let there : At f w.blobs (ShardIndex index number base) bytes = wrote.base index number base bytes work base_is read in
      ap f.shard_index.read (same_Some _ _ (sym there.0 ∙ stands.held_reads.there.0.0)) ∙ stands.held_reads.reads

  -- so it reads
  pub does_read : (bytes : Bytes) → Has t.read (ShardIndex index number base, bytes) → f.shard_index.read bytes ≡ None → ⊥
  does_read bytes read none = some_none stands.held (sym (reads_as bytes read) ∙ none)

  -- it lists no snapshot of the op that has the shard
  unlisted : Free f w → (x : SnapList) → Has stands.held.snapshots x → x.uuid ≡ t.uuid → ⊥
  unlisted free x there is =
      let h = held_law in
      free.unlisted t.op h.op h.s base stands.held x h.op_there h.s_there (subst Waits (sym h.state) tt)
      (inr (record { ticket = k; t = t; there = out.there; out = out.out; work = work ∙ (λ j. Shard (sym h.index_is j) (sym h.shard_is j)); base_is = base_is }))
      (record {
        bytes = stands.held_reads.bytes;
        there = subst (λ (name : BlobName). At f w.blobs name stands.held_reads.bytes) (λ j. ShardIndex (sym h.index_is j) (sym h.shard_is j) base) stands.held_reads.there.0;
        reads = stands.held_reads.reads;
      })
      there (is ∙ sym h.uuid_is)

  -- nor a file under an id that the ticket drew
  drawn_above : (e : FileEntry) → Has stands.held.files e → 1 ≤ t.drawn → t.first ≤ e.name → ⊥
  drawn_above e there drew above =
      let below : e.name < t.first =
      wrote.fresh index number base stands.held work base_is (record { bytes = stands.held_reads.bytes; there = stands.held_reads.there.0; reads = stands.held_reads.reads }) e there t.first
      (record { from = omega arith; below = omega (arith, drew) }) in
      omega (arith, below, above)

  -- and isn't ahead of the ticket
  pub not_ahead : Free f w → (bytes : Bytes) → Has t.read (ShardIndex index number base, bytes) → (v : ShardFiles) → f.shard_index.read bytes ≡ Some v → (id : ℕ) → HasSnapshot t v id ⊎ HasDrawn t v id → ⊥
  not_ahead free bytes read v reads id ahead =
      let same : v ≡ stands.held = same_Some v stands.held (sym reads ∙ reads_as bytes read) in
      elim (subst (λ (u : ShardFiles). HasSnapshot t u id ⊎ HasDrawn t u id) same ahead) [
        | inl x ↦ unlisted free x.0 x.1 (x.2 ∙ x.3)
        | inr x ↦ drawn_above x.0 x.1 x.3 (subst (λ (n : ℕ). t.first ≤ n) (sym x.2) x.4)
      ]
