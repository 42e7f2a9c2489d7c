use Rattle.std.proofs.Common.{◌++◌, List, map, ap, ◌∙◌}
use Rattle.esr_names.specs.declared.blob.BlobName.{BlobName as CodeName}
use Rattle.esr_formats.specs.Names.{name_of}
use Rattle.esr_formats.specs.Roots.{root_snap_of, root_index_of}
use Rattle.esr_formats.specs.Formats.{formats}
use Rattle.esr_model.specs.Image.{At}
use Rattle.esr_plain.specs.Reach.{OfIndex}
use Rattle.esr_plain.proofs.Reaching.{some_more, some_all, joined_by}
use Rattle.esr_plain.proofs.reached.indices_names.Goals as goal

pub loop-index-preserved : goal.loop-index-preserved
loop-index-preserved c = λ known told.
    let f = formats known told in
    let of = OfIndex f (At f c.args.image.now) (map root_snap_of c.args.snaps.now) in
    let made = joined_by c.loop-index.names c.extend_from_slice.new.self c.in_ok-more.more (c.in_ok-extend_from_slice.ensures.ok ∙ ap (λ (more : List CodeName). c.loop-index.names ++ more) c.as_slice.ensures) in
    some_more of root_index_of c.args.indices.now c.loop-index.index-index c.index-item.result c.loop-index.names c.extend_from_slice.new.self
    (map name_of c.in_ok-more.more) c.loop-index-test.true c.index-item.is made (c.loop-index.invariant known told)
    (c.in_ok-more.ensures known told)

pub returns : goal.returns
returns c = λ known told.
    let f = formats known told in
    some_all (OfIndex f (At f c.args.image.now) (map root_snap_of c.args.snaps.now)) root_index_of c.args.indices.now c.loop-index.index-index c.loop-index.names c.loop-index-test.false (c.loop-index.invariant known told)
