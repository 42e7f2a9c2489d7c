use Rattle.std.proofs.Common.{◌≡◌, ◌∷◌, [], true, List, map, sym, subst}
use Rattle.esr_names.specs.declared.blob.BlobName.TheVariants as code
use Rattle.esr_shardidx.specs.declared.index.SnapList.{SnapList as CodeList}
use Rattle.esr_formats.specs.Names.{name_of}
use Rattle.esr_formats.specs.Roots.{root_snap_of}
use Rattle.esr_formats.specs.Shards.{snap_list_of, shard_index_of}
use Rattle.esr_model.specs.Names.{ShardSnap}
use Rattle.esr_plain.specs.Reach.{HasList, OfList}
use Rattle.esr_plain.proofs.Loops.{so, not_so}
use Rattle.esr_plain.proofs.Reaching.{some_more, joined_by, list_new, list_none}
use Rattle.esr_plain.proofs.reached.list_names.Goals as goal
use Rattle.std.proofs.lemmas.List.{append-nil}
use Rattle.esr_plain.proofs.reached.list_names.Goals.{then-has_list+in_ok-push, else-has_list}

pub loop-snap-preserved : goal.loop-snap-preserved
loop-snap-preserved c =
    let i = c.args.shard.index.number in
    let s = c.args.shard.number in
    let held = shard_index_of c.args.held.now in
    let item = c.snap-item.result in
    let own = root_snap_of item in
    let test = subst (λ (ls : List CodeList). (c.has_list.result ≡ true → HasList (map snap_list_of ls) own.uuid) × (HasList (map snap_list_of ls) own.uuid → c.has_list.result ≡ true)) c.snapshots.ensures c.has_list.ensures in
    elim c.if-has_list.branch [
      | then-has_list+in_ok-push w ↦
          rw w.names-is (some_more (OfList held i s) root_snap_of c.args.snaps.now c.loop-snap.snap-index item c.loop-snap.names w.push.new.self (ShardSnap i s own.uuid ∷ []) c.loop-snap-test.true c.snap-item.is
          (joined_by c.loop-snap.names w.push.new.self (code.ShardSnap c.args.shard item.uuid ∷ []) w.in_ok-push.ensures.ok) c.loop-snap.invariant (list_new held i s own (so c.has_list.result test w.if-has_list.true)))
      | else-has_list w ↦
          rw w.names-is (some_more (OfList held i s) root_snap_of c.args.snaps.now c.loop-snap.snap-index item c.loop-snap.names c.loop-snap.names [] c.loop-snap-test.true c.snap-item.is
          (sym (append-nil (map name_of c.loop-snap.names))) c.loop-snap.invariant (list_none held i s own (not_so c.has_list.result test w.if-has_list.false)))
    ]
