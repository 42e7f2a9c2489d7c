-- What stands of the shard that a clone's ticket copies: its base lists it, with the files that the source has of the shard.
use Rattle.std.proofs.Common.{◌≡◌, ℕ, List, Some, None, sym, ◌∙◌, subst, inl, inr}
use Rattle.esr_model.specs.Names.{Snap}
use Rattle.esr_model.specs.Values.{Has, IndexRef, SnapInfo, Formats}
use Rattle.esr_model.specs.Shelf.{Shelved}
use Rattle.esr_model.specs.Places.{shelf_places}
use Rattle.esr_model.specs.Image.{Reads, Generation, ListsAs, IndexStands, RootStands}
use Rattle.esr_core.specs.World.{World, ShardWork, Shard, Ticket, HeldIn}
use Rattle.esr_core.specs.Steps.{IsOut}
use Rattle.esr_core.specs.Generations.{IsOfShard, CopiesFrom, OpLaw, Base, ShardLaw}
use Rattle.esr_core.specs.Ids.{Law}
use Rattle.esr_core.specs.Laws.BlobFrames.{info_there}
use Rattle.esr_core.specs.Laws.OneValue.{reads_one, held_one, safe_root_stands}
use Rattle.esr_core.specs.Laws.RootAgreement.{places_has}
use Rattle.esr_core.specs.Laws.ShardStates.{place_has}
use Rattle.esr_core.specs.Laws.SortedLists.{in_places, to_shelf_places}
use Rattle.esr_core.specs.Laws.Tests.{told}
use Rattle.esr_model.specs.Lists.{Has-map}

-- the base is there, stands, and lists the snapshot
pub record SourceStands (f : Formats) (w : World) (t : Ticket) (index shard source : ℕ) : Type 0 where
  pub base : ℕ
  pub base_is : t.base ≡ Some base
  pub stands : IndexStands f (HeldIn f w) w.root index shard base
  pub lists : ListsAs f (HeldIn f w) index shard base source

module _ (f : Formats) (w : World) (shelf : List Shelved) (l : Law f w shelf) (k : ℕ) (t : Ticket) (out : IsOut w k t) (index shard : ℕ) (is : t.work ≡ Shard index shard) (source : ℕ) (copies : t.source ≡ Some source) where
  law : ShardLaw f (HeldIn f w) w.root w.ops k t index shard
  law = l.lawful.sound.carried.shards k t out.there out.out index shard is

  op_law : OpLaw f (HeldIn f w) w.root law.op
  op_law = l.lawful.sound.carried.ops t.op law.op law.op_there

  from : CopiesFrom f (HeldIn f w) w.root source law.op.indices
  from = op_law.copies source (sym law.source_is ∙ copies)

  stands : RootStands f (HeldIn f w) w.root shelf
  stands = safe_root_stands f (HeldIn f w) (held_one f w) w.safe w.root shelf l.lawful.sound.rooted.kept.picked l.lawful.sound.carried.root_is

  -- the source has the shard
  of_shard : IsOfShard f (HeldIn f w) from.listed.0.uuid index shard
  of_shard =
      let s : ShardWork = law.s in
      let place = in_places law.op.indices (s.ref, s.number) (subst (λ (list : List (IndexRef × ℕ)). Has list (s.ref, s.number)) op_law.places (Has-map (λ (z : ShardWork). (z.ref, z.number)) law.op.shards s law.s_there)) in
      record {
        info = from.by_info.info;
        info_reads = subst (λ u. Reads (HeldIn f w) (Snap u) f.info from.by_info.info) (sym from.listed.2) from.by_info.info_reads;
        place = (s.ref, s.number);
        there = to_shelf_places from.by_info.info.indices (s.ref, s.number) (places_has from.by_info.info.indices s.ref s.number (from.by_info.among s.ref place.0) place.1);
        index_is = law.index_is;
        shard_is = law.shard_is;
      }

  -- so the root has a generation of it
  in_root : (g : ℕ) × Generation w.root index shard g
  in_root =
      let (shelved, s) = info_there f (HeldIn f w) w.root w.root.snapshots shelf stands.snapshots from.listed.0 from.listed.1 in
      let same : of_shard.info ≡ s.info = reads_one (HeldIn f w) (held_one f w) (Snap from.listed.0.uuid) f.info of_shard.info s.info of_shard.info_reads s.info_reads in
      let (g, gen) = place_has f (HeldIn f w) w.root from.listed.0.uuid (shelf_places s.info.indices) shelved.shards s.shards of_shard.place (subst (λ (x : SnapInfo). Has (shelf_places x.indices) of_shard.place) same of_shard.there) in
      (g, subst (λ i. Generation w.root i shard g) of_shard.index_is (subst (λ n. Generation w.root of_shard.place.0.id n g) of_shard.shard_is gen))

  pub source_stands : SourceStands f w t index shard source
  source_stands = elim (told t.base) [
    | inl none ↦
        let base : Base f (HeldIn f w) w.root w.ops index shard None = subst (Base f (HeldIn f w) w.root w.ops index shard) none law.base in
        absurd (base in_root.0 (inl in_root.1))
    | inr some ↦
        let base : Base f (HeldIn f w) w.root w.ops index shard (Some some.0) = subst (Base f (HeldIn f w) w.root w.ops index shard) some.1 law.base in
        record {
          base = some.0;
          base_is = some.1;
          stands = base.1.stands;
          lists = subst (ListsAs f (HeldIn f w) index shard some.0) from.listed.2 (base.1.listed (λ g gen. base.0 g (inl gen)) from.listed.0 from.listed.1 of_shard);
        }
  ]
