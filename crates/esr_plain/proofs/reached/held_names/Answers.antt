use Rattle.std.proofs.Common.{◌++◌, List, map, ap, ◌∙◌}
use Rattle.esr_names.specs.declared.blob.BlobName.{BlobName as CodeName}
use Rattle.esr_formats.specs.Roots.{root_snap_of}
use Rattle.esr_formats.specs.Shards.{shard_index_of}
use Rattle.esr_plain.specs.Reach.{OfSome, OfList, OfFile}
use Rattle.esr_plain.proofs.Reaching.{names_both}
use Rattle.esr_plain.proofs.reached.held_names.Goals as goal

pub returns : goal.returns
returns c =
    let i = c.args.shard.index.number in
    let s = c.args.shard.number in
    let snaps = map root_snap_of c.args.snaps.now in
    let held = shard_index_of c.args.held.now in
    names_both (OfSome (OfList held i s) snaps) (OfSome (OfFile i s) held.files) c.in_ok-names.names c.extend_from_slice.new.self c.in_ok-files.files
    (c.in_ok-extend_from_slice.ensures.ok ∙ ap (λ (more : List CodeName). c.in_ok-names.names ++ more) c.as_slice.ensures) c.in_ok-names.ensures c.in_ok-files.ensures
