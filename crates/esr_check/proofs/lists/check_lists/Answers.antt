use Rattle.std.proofs.Common.{List, map, take, sym, subst}
use Rattle.esr_model.specs.Loops.{has_at, every_more, every_all}
use Rattle.esr_shardidx.specs.declared.index.SnapList.{SnapList as CodeList}
use Rattle.esr_model.specs.Values.{Has, SnapList}
use Rattle.esr_formats.specs.Infos.{info_of_code}
use Rattle.esr_formats.specs.Roots.{root_of}
use Rattle.esr_formats.specs.Shards.{shard_index_of, snap_list_of}
use Rattle.esr_desk.specs.Own.{caller_of}
use Rattle.esr_reach.specs.Names.{AreOnce}
use Rattle.esr_reach.specs.OnceEach.{shard_apart}
use Rattle.esr_check.specs.Names.{IsSnapOf, Just}
use Rattle.esr_check.specs.Pieces.{HasListed, HasLists}
use Rattle.esr_check.proofs.Going.{went_none, some_new, held_more, lists_more, shard_on}
use Rattle.esr_check.proofs.Listing.{Any, next_new, any_next, any_all, any_then}
use Rattle.esr_check.proofs.Naming.{ListOf, list_key, list_in}
use Rattle.esr_model.specs.Names.{ShardSnap}
use Rattle.esr_check.specs.First.{IsNext, FirstOfLists}
use Rattle.esr_check.proofs.Telling.{passes, next_at}
use Rattle.esr_check.proofs.lists.check_lists.Goals as goal

pub loop-list-init : goal.loop-list-init
loop-list-init g c = record {
  lists = λ l has. absurd has;
  so_far = c.requires.so_far;
  went = went_none g.Q.Desk.start (g.Q.Desk.seen c.args.desk.now) (Any (ListOf c.args.shard.at.index.number c.args.shard.at.number) (map snap_list_of (take 0 c.snapshots-list-items.result.now)));
}

pub check_listed-requires-clause-shard : goal.check_listed-requires-clause-shard
check_listed-requires-clause-shard g c κs within =
    shard_on g.Q.Desk.start (g.Q.Desk.seen c.args.desk.now) (g.Q.Desk.seen c.loop-list.desk) (Any (ListOf c.args.shard.at.index.number c.args.shard.at.number) (map snap_list_of (take c.loop-list.list-index c.snapshots-list-items.result.now)))
    (root_of c.args.shard.root.now) (map info_of_code c.args.shard.infos.now) c.args.shard.at.index.number c.args.shard.at.number c.args.shard.generation.number c.loop-list.invariant.went c.requires.shard

pub check_listed-requires-clause-held : goal.check_listed-requires-clause-held
check_listed-requires-clause-held g c κs within =
    let s = g.Q.Desk.start in
    held_more s (caller_of s (g.Q.Desk.seen c.args.desk.now)) (caller_of s (g.Q.Desk.seen c.loop-list.desk)) c.loop-list.invariant.went.grown
    c.args.shard.at.index.number c.args.shard.at.number c.args.shard.generation.number (shard_index_of c.args.held.now) c.requires.held

pub check_listed-requires-clause-list : goal.check_listed-requires-clause-list
check_listed-requires-clause-list g c κs within =
    let own = snap_list_of c.list-item.result in
    subst (λ (ls : List CodeList). Has (map snap_list_of ls) own) c.snapshots-list-items.ensures (has_at snap_list_of c.snapshots-list-items.result.now c.loop-list.list-index c.list-item.result c.loop-list-test.true c.list-item.is)

pub check_listed-requires-clause-new : goal.check_listed-requires-clause-new
check_listed-requires-clause-new g c κs within =
    let s = g.Q.Desk.start in
    let old = g.Q.Desk.seen c.args.desk.now in
    let own = c.list-item.result in
    let index = c.args.shard.at.index.number in
    let shard = c.args.shard.at.number in
    let xs = c.snapshots-list-items.result.now in
    let once = subst (λ (ls : List CodeList). AreOnce (map (λ (l : SnapList). l.uuid) (map snap_list_of ls))) (sym c.snapshots-list-items.ensures) (shard_apart c.args.held.now c.index_rule.ensures).snapshots in
    next_new s old (g.Q.Desk.seen c.loop-list.desk) (λ (l : SnapList). l.uuid) (ListOf index shard) snap_list_of xs c.loop-list.list-index own (λ a b name one two. list_key index shard a b name one two) once c.loop-list-test.true c.list-item.is
    (some_new (caller_of s old) (IsSnapOf index shard) (ListOf index shard (snap_list_of own)) (λ name of. list_in index shard (snap_list_of own) name of) c.requires.new) c.loop-list.invariant.went

pub returns-in_err-check_listed-clause-went : goal.returns-in_err-check_listed-clause-went
returns-in_err-check_listed-clause-went g c =
    let index = c.args.shard.at.index.number in
    let shard = c.args.shard.at.number in
    any_then g.Q.Desk.start (g.Q.Desk.seen c.args.desk.now) (g.Q.Desk.seen c.loop-list.desk) (g.Q.Desk.seen c.check_listed.new.desk) (ListOf index shard)
    (IsSnapOf index shard) (map snap_list_of (take c.loop-list.list-index c.snapshots-list-items.result.now)) (snap_list_of c.list-item.result)
    (λ l name own. list_in index shard l name own) c.loop-list.invariant.went c.check_listed.ensures.went

pub loop-list-preserved : goal.loop-list-preserved
loop-list-preserved g c =
    let s = g.Q.Desk.start in
    let mid = g.Q.Desk.seen c.loop-list.desk in
    let new = g.Q.Desk.seen c.check_listed.new.desk in
    let root = root_of c.args.shard.root.now in
    let infos = map info_of_code c.args.shard.infos.now in
    let index = c.args.shard.at.index.number in
    let shard = c.args.shard.at.number in
    let held = shard_index_of c.args.held.now in
    let xs = c.snapshots-list-items.result.now in
    let i = c.loop-list.list-index in
    let own = c.list-item.result in
    let inv = c.loop-list.invariant in
    let went = c.check_listed.ensures.went in
    record {
      lists = every_more (HasListed s (caller_of s new) root infos index shard held) snap_list_of xs i own c.loop-list-test.true c.list-item.is
          (lists_more s (caller_of s mid) (caller_of s new) went.grown root infos index shard held (map snap_list_of (take i xs)) inv.lists) c.in_ok-check_listed.ensures.snap;
      so_far = c.in_ok-check_listed.ensures.so_far;
      went = any_next s (g.Q.Desk.seen c.args.desk.now) mid new (ListOf index shard) snap_list_of xs i own c.loop-list-test.true c.list-item.is inv.went went;
    }

pub returns-clause-snaps : goal.returns-clause-snaps
returns-clause-snaps g c =
    let s = g.Q.Desk.start in
    let now = caller_of s (g.Q.Desk.seen c.loop-list.desk) in
    let root = root_of c.args.shard.root.now in
    let infos = map info_of_code c.args.shard.infos.now in
    let index = c.args.shard.at.index.number in
    let shard = c.args.shard.at.number in
    let held = shard_index_of c.args.held.now in
    subst (λ (ls : List CodeList). HasLists s now root infos index shard held (map snap_list_of ls)) c.snapshots-list-items.ensures
    (every_all (HasListed s now root infos index shard held) snap_list_of c.snapshots-list-items.result.now c.loop-list.list-index c.loop-list-test.false c.loop-list.invariant.lists)

pub returns-clause-went : goal.returns-clause-went
returns-clause-went g c =
    let index = c.args.shard.at.index.number in
    let shard = c.args.shard.at.number in
    any_all g.Q.Desk.start (g.Q.Desk.seen c.args.desk.now) (g.Q.Desk.seen c.loop-list.desk) (ListOf index shard) (IsSnapOf index shard)
    (map snap_list_of (take c.loop-list.list-index c.snapshots-list-items.result.now)) (λ l name own. list_in index shard l name own) c.loop-list.invariant.went

pub returns-in_err-check_listed-clause-first : goal.returns-in_err-check_listed-clause-first
returns-in_err-check_listed-clause-first g c =
    let s = g.Q.Desk.start in
    let mid = caller_of s (g.Q.Desk.seen c.loop-list.desk) in
    let new = caller_of s (g.Q.Desk.seen c.check_listed.new.desk) in
    let root = root_of c.args.shard.root.now in
    let infos = map info_of_code c.args.shard.infos.now in
    let index = c.args.shard.at.index.number in
    let shard = c.args.shard.at.number in
    let held = shard_index_of c.args.held.now in
    let own = snap_list_of c.list-item.result in
    let before = map snap_list_of (take c.loop-list.list-index c.snapshots-list-items.result.now) in
    let next =
    subst (λ (ls : List CodeList). IsNext (map snap_list_of ls) before own) c.snapshots-list-items.ensures (next_at snap_list_of c.snapshots-list-items.result.now c.loop-list.list-index c.list-item.result c.loop-list-test.true c.list-item.is) in
    passes (Just (ShardSnap index shard own.uuid)) (FirstOfLists s new root infos index shard held) c.from_residual.result c.in_err-check_listed.field-0.0 c.from_residual.ensures.1
    (λ name is. record { before = before; l = own; next = next; agree = lists_more s mid new c.check_listed.ensures.went.grown root infos index shard held before c.loop-list.invariant.lists; names = is })
    c.in_err-check_listed.ensures.first
