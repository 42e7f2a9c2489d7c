use Rattle.std.proofs.Common.{◌<◌, ◌≤◌, length, subst, arith}
use Rattle.esr_shardidx.specs.Indices.{file_data}
use Rattle.esr_shardidx.specs.Written.{tokens_of, Adds}
use Rattle.esr_shardidx.proofs.Pieces.{one_added, item_added, items_added}
use Rattle.esr_shardidx.proofs.writing.put_files.Goals as goal

pub loop-file-preserved : goal.loop-file-preserved
loop-file-preserved c =
    let within : c.loop-file.file-index < length c.args.files.now = omega arith in
    let put = c.in_ok-put_file.ensures in
    item_added file_data c.args.files.now c.loop-file.file-index _ c.args.out.now c.loop-file.out c.put_file.new.out within c.loop-file.invariant put

pub returns : goal.returns
returns c =
    let past : length c.args.files.now ≤ c.loop-file.file-index = omega arith in
    let last = one_added _ _ _ c.in_ok-end_array.ensures.room.0 c.in_ok-end_array.ensures.ok in
    items_added file_data c.args.files.now c.loop-file.file-index c.args.out.now c.loop-file.out c.end_array.new.self past c.loop-file.invariant last
