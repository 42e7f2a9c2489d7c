use Rattle.std.proofs.Common.{◌++◌, List, map, ap, ◌∙◌}
use Rattle.esr_names.specs.declared.blob.BlobName.{BlobName as CodeName}
use Rattle.esr_formats.specs.Roots.{root_snap_of, root_index_of}
use Rattle.esr_formats.specs.Formats.{formats}
use Rattle.esr_model.specs.Image.{At}
use Rattle.esr_plain.specs.Reach.{OfSome, OfMeta, OfShards}
use Rattle.esr_plain.proofs.Reaching.{names_both}
use Rattle.esr_plain.proofs.reached.index_names.Goals as goal

pub returns : goal.returns
returns c = λ known told.
    let f = formats known told in
    let snaps = map root_snap_of c.args.snaps.now in
    let x = root_index_of c.args.index.now in
    names_both (OfSome (OfMeta x.id) x.snapshots) (OfShards f (At f c.args.image.now) snaps x.id x.generations) c.in_ok-names.names c.extend_from_slice.new.self c.in_ok-more.more
    (c.in_ok-extend_from_slice.ensures.ok ∙ ap (λ (more : List CodeName). c.in_ok-names.names ++ more) c.as_slice.ensures) c.in_ok-names.ensures (c.in_ok-more.ensures known told)
