-- The world of an opened image.
use Rattle.std.proofs.Common.{◌≡◌, [], refl}
use Rattle.esr_model.specs.Values.{RootData, ClusterRecord, Formats}
use Rattle.esr_model.specs.Image.{Blobs, Image}
use Rattle.esr_core.specs.World.{World, Opened, OpenedEmpty, OpenedRecord, opened, no_record, no_root}
use Rattle.esr_core.specs.ReadTracked.{ReadTracked}
use Rattle.esr_law.proofs.Callers.{TestsStored}

-- no restore is open
pub opened_reads : (f : Formats) (image : Image) → ((blobs : Blobs) (cluster : ClusterRecord) (root : RootData) → ReadTracked (opened blobs cluster root)) → (w : World) → Opened f image w → ReadTracked w
opened_reads f image opens w (OpenedEmpty none) = opens image.blobs no_record no_root
opened_reads f image opens w (OpenedRecord cluster text root is reads safe) = opens image.blobs cluster root

-- nothing was done
pub no_entries : (f : Formats) (image : Image) (w : World) → Opened f image w → w.entries ≡ []
no_entries f image w (OpenedEmpty none) = refl
no_entries f image w (OpenedRecord cluster text root is reads safe) = refl

pub no_tests : (f : Formats) (image : Image) (w : World) → Opened f image w → TestsStored f w
no_tests f image w (OpenedEmpty none) name h = absurd h
no_tests f image w (OpenedRecord cluster text root is reads safe) name h = absurd h
