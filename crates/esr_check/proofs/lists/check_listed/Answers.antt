use Rattle.std.proofs.Common.{map, sym}
use Rattle.esr_model.specs.Names.{ShardSnap}
use Rattle.esr_formats.specs.Infos.{info_of_code}
use Rattle.esr_formats.specs.Roots.{root_of}
use Rattle.esr_formats.specs.Shards.{shard_index_of, snap_list_of}
use Rattle.esr_desk.specs.Own.{caller_of}
use Rattle.esr_agreement.specs.AgreementTests.{so, not_so}
use Rattle.esr_check.specs.Names.{Just}
use Rattle.esr_check.specs.Pieces.{HasSnap, HasListed}
use Rattle.esr_check.proofs.Going.{went_none}
use Rattle.esr_check.proofs.Sharding.{ok_map, as_listed}
use Rattle.esr_check.proofs.lists.check_listed.Goals as goal

pub returns-then-not-is_listed-clause-snap : goal.returns-then-not-is_listed-clause-snap
returns-then-not-is_listed-clause-snap g c = λ snap has same. absurd (not_so c.is_listed.result c.is_listed.ensures c.if-not-is_listed.true (snap, has, sym same))

pub returns-then-not-is_listed-clause-went : goal.returns-then-not-is_listed-clause-went
returns-then-not-is_listed-clause-went g c = went_none g.Q.Desk.start (g.Q.Desk.seen c.args.desk.now) (Just (ShardSnap c.args.shard.at.index.number c.args.shard.at.number c.args.list.now.uuid.number))

pub check_list-requires-clause-shard : goal.check_list-requires-clause-shard
check_list-requires-clause-shard g c κs within = c.requires.shard

pub check_list-requires-clause-listed : goal.check_list-requires-clause-listed
check_list-requires-clause-listed g c κs within = so c.is_listed.result c.is_listed.ensures c.if-not-is_listed.false

pub returns-clause-snap : goal.returns-clause-snap
returns-clause-snap g c =
    let s = g.Q.Desk.start in
    let now = caller_of s (g.Q.Desk.seen c.check_list.new.desk) in
    let root = root_of c.args.shard.root.now in
    let infos = map info_of_code c.args.shard.infos.now in
    let index = c.args.shard.at.index.number in
    let shard = c.args.shard.at.number in
    let held = shard_index_of c.args.held.now in
    let l = snap_list_of c.args.list.now in
    ok_map c.check_list.result (HasSnap s now infos index shard held l.uuid) (HasListed s now root infos index shard held l)
    (λ (h : HasSnap s now infos index shard held l.uuid) snap has same. as_listed s now infos index shard held l.uuid snap.uuid same h)
    c.check_list.ensures.snap
