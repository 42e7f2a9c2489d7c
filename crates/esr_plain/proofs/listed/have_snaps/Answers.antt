use Rattle.std.proofs.Common.{List, map, subst}
use Rattle.esr_model.specs.Loops.{has_at, every_more, every_all}
use Rattle.esr_shardidx.specs.declared.index.SnapList.{SnapList as CodeList}
use Rattle.esr_formats.specs.Roots.{root_of}
use Rattle.esr_formats.specs.Shards.{snap_list_of}
use Rattle.esr_formats.specs.Formats.{formats}
use Rattle.esr_model.specs.Values.{Has, SnapList}
use Rattle.esr_model.specs.Image.{At}
use Rattle.esr_plain.specs.Listed.{HasSnap}
use Rattle.esr_plain.proofs.Loops.{holds, fails, so, not_so}
use Rattle.esr_plain.proofs.listed.have_snaps.Goals as goal

pub returns-then-not-branch : goal.returns-then-not-branch
returns-then-not-branch c = λ known told.
    let own = snap_list_of c.list-item.result in
    let there = subst (λ (ls : List CodeList). Has (map snap_list_of ls) own) c.snapshots-list-items.ensures (has_at snap_list_of c.snapshots-list-items.result.now c.loop-list.list-index c.list-item.result c.loop-list-test.true c.list-item.is) in
    fails (λ all. not_so c.in_ok-has_snap.field-0 (c.in_ok-has_snap.ensures known told) c.if-not-branch.true (all own there))

pub loop-list-preserved : goal.loop-list-preserved
loop-list-preserved c = λ known told.
    let f = formats known told in
    every_more (λ (x : SnapList). HasSnap f (At f c.args.image.now) (root_of c.args.root.now) c.args.shard.index.number c.args.shard.number x.uuid) snap_list_of
    c.snapshots-list-items.result.now c.loop-list.list-index c.list-item.result c.loop-list-test.true c.list-item.is (c.loop-list.invariant known told)
    (so c.in_ok-has_snap.field-0 (c.in_ok-has_snap.ensures known told) c.if-not-branch.false)

pub returns : goal.returns
returns c = λ known told.
    let f = formats known told in
    let each = every_all (λ (x : SnapList). HasSnap f (At f c.args.image.now) (root_of c.args.root.now) c.args.shard.index.number c.args.shard.number x.uuid)
    snap_list_of c.snapshots-list-items.result.now c.loop-list.list-index c.loop-list-test.false (c.loop-list.invariant known told) in
    holds (subst (λ (ls : List CodeList). (x : SnapList) → Has (map snap_list_of ls) x → HasSnap f (At f c.args.image.now) (root_of c.args.root.now) c.args.shard.index.number c.args.shard.number x.uuid) c.snapshots-list-items.ensures each)
