use Rattle.std.proofs.Common.{map}
use Rattle.esr_names.specs.declared.ids.Id.{Id}
use Rattle.esr_model.specs.Names.{ShardIndex}
use Rattle.esr_formats.specs.Infos.{info_of_code}
use Rattle.esr_formats.specs.Roots.{root_of}
use Rattle.esr_formats.specs.Shards.{shard_index_of}
use Rattle.esr_agreement.specs.Lists.{AreKept, IsUnlisted}
use Rattle.esr_check.specs.Names.{Just}
use Rattle.esr_check.proofs.Reaching.{can_held}
use Rattle.esr_check.proofs.Sharding.{match_none, match_some, index_beside}
use Rattle.esr_check.proofs.shard.check_held.Goals as goal

pub fetch_held-requires-clause-few : goal.fetch_held-requires-clause-few
fetch_held-requires-clause-few g c κs within = c.requires.shard.few

pub fetch_held-requires-clause-may : goal.fetch_held-requires-clause-may
fetch_held-requires-clause-may g c κs within =
    can_held g.Q.Desk.start (g.Q.Desk.seen c.args.desk.now) c.args.count.now
    (root_of c.args.shard.root.now) c.args.shard.at.index.number c.args.shard.at.number c.args.shard.generation.number c.requires.so_far c.requires.shard.safe c.requires.shard.there c.requires.new

pub returns-in-None-clause-kept : goal.returns-in-None-clause-kept
returns-in-None-clause-kept g c =
    let infos = map info_of_code c.args.shard.infos.now in
    let held = shard_index_of c.in_ok-held.held in
    match_none c.unlisted.result (AreKept infos c.args.shard.at.index.number c.args.shard.at.number held) (λ (u : Id). IsUnlisted infos c.args.shard.at.index.number c.args.shard.at.number held u.number) c.in-None.is c.unlisted.ensures

pub returns-in-Some-clause-trouble : goal.returns-in-Some-clause-trouble
returns-in-Some-clause-trouble g c =
    let infos = map info_of_code c.args.shard.infos.now in
    let held = shard_index_of c.in_ok-held.held in
    let index = c.args.shard.at.index.number in
    let shard = c.args.shard.at.number in
    index_beside g.Q.Desk.start (g.Q.Desk.seen c.args.desk.now) (g.Q.Desk.seen c.fetch_held.new.desk) (Just (ShardIndex index shard c.args.shard.generation.number))
    (root_of c.args.shard.root.now) infos index shard c.args.shard.generation.number held c.in-Some.uuid.number
    c.fetch_held.ensures.went c.requires.shard.listed c.in_ok-held.ensures.read
    (match_some c.unlisted.result c.in-Some.uuid (AreKept infos index shard held) (λ (u : Id). IsUnlisted infos index shard held u.number) c.in-Some.is c.unlisted.ensures)
