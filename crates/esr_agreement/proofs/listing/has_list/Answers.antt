use Rattle.std.proofs.Common.{◌≡◌, List, map, subst}
use Rattle.esr_model.specs.Loops.{has_at, every_more}
use Rattle.esr_shardidx.specs.declared.index.SnapList.{SnapList as CodeList}
use Rattle.esr_formats.specs.Shards.{snap_list_of}
use Rattle.esr_model.specs.Values.{Has, SnapList}
use Rattle.esr_agreement.specs.AgreementTests.{so, not_so}
use Rattle.esr_agreement.proofs.Loops.{holds}
use Rattle.esr_agreement.proofs.listing.has_list.Goals as goal

pub returns-then-is_for : goal.returns-then-is_for
returns-then-is_for c =
    let own = snap_list_of c.list-item.result in
    let there = subst (λ (ls : List CodeList). Has (map snap_list_of ls) own) c.snapshots-list-items.ensures (has_at snap_list_of c.snapshots-list-items.result.now c.loop-list.list-index c.list-item.result c.loop-list-test.true c.list-item.is) in
    holds (own, there, so c.is_for.result c.is_for.ensures c.if-is_for.true)

pub loop-list-preserved : goal.loop-list-preserved
loop-list-preserved c =
    every_more (λ (l : SnapList). l.uuid ≡ c.args.uuid.number → ⊥) snap_list_of c.snapshots-list-items.result.now c.loop-list.list-index c.list-item.result c.loop-list-test.true c.list-item.is c.loop-list.invariant
    (not_so c.is_for.result c.is_for.ensures c.if-is_for.false)
