use Rattle.std.proofs.Common.{◌≡◌}
use Rattle.esr_model.specs.Loops.{has_at, every_more}
use Rattle.esr_formats.specs.Shards.{snap_list_of}
use Rattle.esr_model.specs.Values.{SnapList}
use Rattle.esr_plain.proofs.Loops.{holds}
use Rattle.esr_plain.proofs.reached.has_list.Goals as goal

pub returns-then-list-uuid : goal.returns-then-list-uuid
returns-then-list-uuid c =
    let there = has_at snap_list_of c.args.lists.now c.loop-list.list-index c.list-item.result c.loop-list-test.true c.list-item.is in
    holds (snap_list_of c.list-item.result, there, c.if-list-uuid.true)

pub loop-list-preserved : goal.loop-list-preserved
loop-list-preserved c =
    every_more (λ (l : SnapList). l.uuid ≡ c.args.uuid.number → ⊥) snap_list_of c.args.lists.now c.loop-list.list-index c.list-item.result c.loop-list-test.true c.list-item.is c.loop-list.invariant c.if-list-uuid.false
