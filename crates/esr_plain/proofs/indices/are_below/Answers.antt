use Rattle.std.proofs.Common.{◌<◌, List, map, subst, arith}
use Rattle.esr_model.specs.Loops.{has_at, every_more}
use Rattle.esr_shardidx.specs.declared.index.SnapList.{SnapList as CodeList}
use Rattle.esr_formats.specs.Shards.{snap_list_of}
use Rattle.esr_model.specs.Values.{Has, SnapList}
use Rattle.esr_plain.proofs.Loops.{fails}
use Rattle.esr_plain.proofs.indices.are_below.Goals as goal

pub returns-then-list-generation : goal.returns-then-list-generation
returns-then-list-generation c =
    let own = snap_list_of c.list-item.result in
    let there = subst (λ (ls : List CodeList). Has (map snap_list_of ls) own) c.snapshots-list-items.ensures (has_at snap_list_of c.snapshots-list-items.result.now c.loop-list.list-index c.list-item.result c.loop-list-test.true c.list-item.is) in
    let above = c.if-list-generation.true in
    fails (λ each. let below = each own there in omega arith)

pub loop-list-preserved : goal.loop-list-preserved
loop-list-preserved c =
    every_more (λ (l : SnapList). l.uuid < c.args.generation.number) snap_list_of c.snapshots-list-items.result.now c.loop-list.list-index c.list-item.result c.loop-list-test.true c.list-item.is c.loop-list.invariant c.if-list-generation.false
