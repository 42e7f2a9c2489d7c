use Rattle.std.proofs.Common.{List, map, subst}
use Rattle.esr_model.specs.Names.{ShardSnap}
use Rattle.esr_model.specs.Image.{Lists}
use Rattle.esr_shardidx.specs.declared.entry.FileEntry.{FileEntry as CodeEntry}
use Rattle.esr_formats.specs.Infos.{info_of_code}
use Rattle.esr_formats.specs.Roots.{root_of}
use Rattle.esr_formats.specs.Shards.{entry_of, shard_index_of, shard_snap_of, snap_list_of}
use Rattle.esr_agreement.specs.AgreementTests.{so, not_so}
use Rattle.esr_check.specs.Names.{Just}
use Rattle.esr_check.proofs.Reaching.{can_list}
use Rattle.esr_check.proofs.Sharding.{snap_beside}
use Rattle.esr_check.proofs.lists.check_list.Goals as goal

pub fetch_list-requires-clause-few : goal.fetch_list-requires-clause-few
fetch_list-requires-clause-few g c κs within = c.requires.shard.few

pub fetch_list-requires-clause-may : goal.fetch_list-requires-clause-may
fetch_list-requires-clause-may g c κs within =
    can_list g.Q.Desk.start (g.Q.Desk.seen c.args.desk.now) c.args.count.now (root_of c.args.shard.root.now) c.args.shard.at.index.number c.args.shard.at.number
    c.args.shard.generation.number c.requires.so_far c.requires.shard.safe c.requires.shard.there (shard_index_of c.args.held.now) (snap_list_of c.args.list.now)
    c.requires.held c.requires.list c.requires.listed c.requires.new

pub returns-then-not-has_shard-clause-snap : goal.returns-then-not-has_shard-clause-snap
returns-then-not-has_shard-clause-snap g c = record {
  snap = shard_snap_of c.in_ok-snap.snap;
  read = c.in_ok-snap.ensures.read;
  lists = λ info there same of. absurd (not_so c.has_shard.result c.has_shard.ensures c.if-not-has_shard.true (info, there, (same, of)));
}

pub returns-then-lists-clause-snap : goal.returns-then-lists-clause-snap
returns-then-lists-clause-snap g c = record {
  snap = shard_snap_of c.in_ok-snap.snap;
  read = c.in_ok-snap.ensures.read;
  lists = λ info there same of.
      subst (λ (es : List CodeEntry). Lists (shard_index_of c.args.held.now) c.args.list.now.uuid.number (map entry_of es)) c.files.ensures.files (so c.lists.result c.lists.ensures c.if-lists.true);
}

pub returns-clause-trouble : goal.returns-clause-trouble
returns-clause-trouble g c =
    let s = g.Q.Desk.start in
    let held = shard_index_of c.args.held.now in
    let uuid = c.args.list.now.uuid.number in
    let differ = not_so c.lists.result c.lists.ensures c.if-lists.false in
    snap_beside s (g.Q.Desk.seen c.args.desk.now) (g.Q.Desk.seen c.fetch_list.new.desk) (Just (ShardSnap c.args.shard.at.index.number c.args.shard.at.number uuid))
    (root_of c.args.shard.root.now) (map info_of_code c.args.shard.infos.now) c.args.shard.at.index.number c.args.shard.at.number c.args.shard.generation.number held uuid
    c.fetch_list.ensures.went c.requires.shard.listed (shard_snap_of c.in_ok-snap.snap) c.requires.held c.in_ok-snap.ensures.read (so c.has_shard.result c.has_shard.ensures c.if-not-has_shard.false)
    (subst (λ (es : List CodeEntry). Lists held uuid (map entry_of es) → ⊥) c.files.ensures.files differ)
