-- The pages of a listing, as the definitions see them.
use Rattle.std.specs.Prelude.{List, map}
use Rattle.esr_model.specs.Cleanup.{BlobSize}
use Rattle.esr_depot.specs.declared.listing.Listed.{Listed}

-- a listed blob: the text of its name, and its length
abbrev pub blob_size_of : Listed → BlobSize
blob_size_of l = record { text = l.name; size = l.length }

abbrev pub page_of : List Listed → List BlobSize
page_of page = map blob_size_of page
