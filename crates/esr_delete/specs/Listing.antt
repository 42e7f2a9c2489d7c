-- What a cleanup's ticket lists, and the names that are found in it.
use Rattle.std.specs.Prelude.{◌≡◌, ℕ, Bool, true, false, List, map, flat_map, Option}
use Rattle.esr_names.specs.declared.blob.BlobName.{BlobName as CodeName}
use Rattle.esr_depot.specs.declared.listing.Listed.{Listed}
use Rattle.esr_core.specs.World.{Ticket, Deleting, Swap}
use Rattle.esr_core.specs.Allowed.{IsUnlisted}
use Rattle.esr_formats.specs.Names.{name_of}
use Rattle.esr_desk.specs.Listing.{page_of}
use Rattle.esr_dooming.specs.Unreached.{blob_piece}

-- the ticket of a cleanup may list, and hasn't so far
pub record IsLister (t : Ticket) : Type 0 where
  pub out : t.out ≡ true
  pub unsettled : t.settled ≡ false
  pub uuids : List ℕ
  pub plan : Option Swap
  pub work : t.work ≡ Deleting uuids plan
  pub cleans : t.clean ≡ true
  pub unlisted : IsUnlisted t

-- it has listed these pages, of which the last ended the listing; of their blobs these names are of the layout, and among none that
-- are reached
pub record IsWhole (has : CodeName → Bool) (old new : Ticket) (names : List CodeName) : Type 0 where
  pub pages : List Listed
  pub is : new ≡ record old { listed = page_of pages; whole = true }
  pub found : map name_of names ≡ flat_map (blob_piece has) pages
