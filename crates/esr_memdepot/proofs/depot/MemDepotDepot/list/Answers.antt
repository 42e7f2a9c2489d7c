use Rattle.std.proofs.Common.{◌∙◌, ap, List}
use Rattle.std.specs.FinMap.{empty}
use Rattle.std.specs.Option.{option_copied}
use Rattle.esr_depot.specs.Image.{sizes_of}
use Rattle.esr_depot.specs.Listing.{Size, page_from}
use Rattle.esr_memdepot.specs.Past.{held, is_there}
use Rattle.esr_memdepot.specs.declared.blob.KeptBlob.{KeptBlob}
use Rattle.esr_memdepot.proofs.Told.{shown_sizes}
use Rattle.esr_memdepot.proofs.depot.MemDepotDepot.list.Goals as goal

pub returns-clause-listing : goal.returns-clause-listing
returns-clause-listing c i is =
    let d = c.args.self.now in
    let after = option_copied c.args.after in
    c.in_ok-pages.ensures.listing ∙ ap (λ (l : List KeptBlob). page_from after (sizes_of (held is_there l empty))) c.deref.ensures.value
    ∙ ap (λ (l : List Size). page_from after l) (shown_sizes d.meter.clock d.blobs.items d.texts.items d.dated i is)
