use Rattle.std.proofs.Common.{sym, ◌∙◌}
use Rattle.esr_formats.specs.Roots.{root_of}
use Rattle.esr_formats.specs.Formats.{formats}
use Rattle.esr_model.specs.Image.{At}
use Rattle.esr_plain.specs.Joined.{HasFiles}
use Rattle.esr_plain.specs.Places.{place_of}
use Rattle.esr_plain.proofs.Loops.{exact_some, exact_none}
use Rattle.esr_plain.proofs.Shards.{no_files, shard_stands}
use Rattle.esr_plain.proofs.shard.shelf_shard.Goals as goal

pub returns-in_default-2 : goal.returns-in_default-2
returns-in_default-2 c = λ known told.
    let f = formats known told in
    let has = At f c.args.image.now in
    let place = c.args.place.now in
    let g = c.in-Some.generation.number in
    let u = c.args.uuid.number in
    no_files f has (root_of c.args.root.now) u (place_of place) g (sym c.in-Some.ensures) (exact_none (HasFiles f has place.index.id.number place.number g u) c.in_ok-files.field-0 c.in_default-2.is (c.in_ok-files.ensures known told))

pub returns : goal.returns
returns c = λ known told.
    let f = formats known told in
    let has = At f c.args.image.now in
    let place = c.args.place.now in
    let g = c.in-Some.generation.number in
    let u = c.args.uuid.number in
    shard_stands f has (root_of c.args.root.now) u (place_of place) g c.in_ok-index.index c.in-Some-2.files (sym c.in-Some.ensures) (c.in_ok-index.ensures ∙ c.as_str.ensures.text)
    (exact_some (HasFiles f has place.index.id.number place.number g u) c.in_ok-files.field-0 c.in-Some-2.files c.in-Some-2.is (c.in_ok-files.ensures known told))
