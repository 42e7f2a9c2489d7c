use Rattle.std.proofs.Common.{◌<◌, ◌≤◌, length, subst, arith}
use Rattle.esr_shardidx.specs.declared.index.SnapList.{SnapList}
use Rattle.esr_shardidx.specs.Indices.{list_data}
use Rattle.esr_shardidx.specs.Written.{tokens_of, Adds}
use Rattle.esr_shardidx.proofs.Pieces.{one_added, item_added, items_added}
use Rattle.esr_shardidx.proofs.writing.put_lists.Goals as goal

pub loop-list-preserved : goal.loop-list-preserved
loop-list-preserved c =
    let within : c.loop-list.list-index < length c.args.lists.now = omega arith in
    let put = subst (λ (x : SnapList). Adds c.loop-list.out c.put_list.new.out (tokens_of (list_data x))) c.list-item.is c.in_ok-put_list.ensures in
    item_added list_data c.args.lists.now c.loop-list.list-index _ c.args.out.now c.loop-list.out c.put_list.new.out within c.loop-list.invariant put

pub returns : goal.returns
returns c =
    let past : length c.args.lists.now ≤ c.loop-list.list-index = omega arith in
    let last = one_added _ _ _ c.in_ok-end_array.ensures.room.0 c.in_ok-end_array.ensures.ok in
    items_added list_data c.args.lists.now c.loop-list.list-index c.args.out.now c.loop-list.out c.end_array.new.self past c.loop-list.invariant last
