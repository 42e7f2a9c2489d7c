-- The shards of an info that stands with its root.
use Rattle.esr_model.specs.Names.{BlobName}
use Rattle.esr_model.specs.Values.{Bytes, RootSnap, RootData, Formats}
use Rattle.esr_model.specs.Shelf.{Shelved}
use Rattle.esr_model.specs.Places.{places, comes_first, shelf_places}
use Rattle.esr_model.specs.Image.{SnapStands}
use Rattle.esr_core.specs.Laws.ShardStates.{place_has}
use Rattle.esr_core.specs.Laws.RootAgreement.{places_has}
use Rattle.esr_core.specs.Laws.SortedLists.{sorted-Has}
use Rattle.esr_agreement.specs.Agreement.{Agrees}

-- ---- generations

-- the info of a snapshot that stands agrees with the root
pub standing_agrees : (f : Formats) (has : BlobName → Bytes → Type 0) (root : RootData) (snap : RootSnap) (shelved : Shelved) (s : SnapStands f has root snap shelved) → Agrees root snap s.info
standing_agrees f has root snap shelved s = record {
  name_is = s.info_name;
  uuid_is = s.info_uuid;
  state_is = s.info_state;
  listed = s.listed;
  exact = s.exact;
  generations = λ r k there less.
      place_has f has root snap.uuid (shelf_places s.info.indices) shelved.shards s.shards (r, k) (sorted-Has comes_first (places s.info.indices) (r, k) (places_has s.info.indices r k there less));
}
