use Rattle.std.proofs.Common.{ℕ, ◌+◌, ◌<◌, ◌^◌, List, length, map, get_or, Option, sym, ap, ◌∙◌, subst, arith}
use Rattle.esr_model.specs.Loops.{item_is}
use Rattle.esr_formats.specs.Ids.{number_of}
use Rattle.esr_formats.specs.Roots.{root_of}
use Rattle.esr_model.specs.Delete.{set_fresh, deleted_root}
use Rattle.esr_results.specs.declared.pruned.PrunedShard.{PrunedShard as CodePruned}
use Rattle.esr_results.specs.Pruned.{pruned_of, ArePlaced, no_shard}
use Rattle.esr_newroot.proofs.Pruning.{renews_none, renews_one, renews_all, placed_here}
use Rattle.esr_newroot.proofs.pruned_root.deleted.Goals as goal

pub loop-shard-init : goal.loop-shard-init
loop-shard-init c =
    renews_none c.args.root.now c.args.uuids.now c.as_slice-shard-items.result.now c.args.first.number c.in_ok-new.new
    (subst (λ (shards : List CodePruned). ArePlaced (root_of c.args.root.now) (map pruned_of shards)) (sym c.as_slice-shard-items.ensures) c.requires.placed) c.in_ok-new.ensures.value

pub renewed_shard-requires : goal.renewed_shard-requires
renewed_shard-requires c =
    placed_here (root_of c.args.root.now) (map number_of c.args.uuids.now) c.as_slice-shard-items.result.now c.args.first.number c.loop-shard.shard-index c.loop-shard.next.number
    (root_of c.loop-shard.new) (get_or c.as_slice-shard-items.result.now c.loop-shard.shard-index no_shard) c.loop-shard-test.true
    (item_is c.as_slice-shard-items.result.now c.loop-shard.shard-index no_shard c.loop-shard-test.true) c.loop-shard.invariant

pub next_after-next-requires : goal.next_after-next-requires
next_after-next-requires c =
    let most = c.loop-shard.invariant.most in
    let low : c.loop-shard.shard-index < length c.as_slice-shard-items.result.now = c.loop-shard-test.true in
    let room : c.args.first.number + length c.as_slice-shard-items.result.now < 2 ^ 128 = subst (λ (shards : List CodePruned). c.args.first.number + length shards < 2 ^ 128) (sym c.as_slice-shard-items.ensures) c.requires.room in
    omega (arith, most, low, room)

pub loop-shard-preserved : goal.loop-shard-preserved
loop-shard-preserved c =
    let items = c.as_slice-shard-items.result.now in
    let x : CodePruned = get_or items c.loop-shard.shard-index no_shard in
    renews_one (root_of c.args.root.now) (map number_of c.args.uuids.now) items c.args.first.number c.loop-shard.shard-index c.loop-shard.next.number (root_of c.loop-shard.new) (root_of c.in_ok-new-2.new) x
    c.next_after-next.result.number c.loop-shard-test.true (item_is items c.loop-shard.shard-index no_shard c.loop-shard-test.true)
    (c.in_ok-new-2.ensures ∙ ap (λ (to : Option ℕ). set_fresh x.shard.index.number x.shard.number to (root_of c.loop-shard.new)) c.own_id.ensures) c.next_after-next.ensures c.loop-shard.invariant

pub returns : goal.returns
returns c =
    renews_all (root_of c.args.root.now) (map number_of c.args.uuids.now) c.as_slice-shard-items.result.now c.args.first.number c.loop-shard.shard-index c.loop-shard.next.number
    (root_of c.loop-shard.new) c.loop-shard-test.false c.loop-shard.invariant
    ∙ ap (λ (shards : List CodePruned). deleted_root (root_of c.args.root.now) (map number_of c.args.uuids.now) (map pruned_of shards) c.args.first.number) c.as_slice-shard-items.ensures
