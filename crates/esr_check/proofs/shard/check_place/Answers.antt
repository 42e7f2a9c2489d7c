use Rattle.std.proofs.Common.{Option, map, option_map, ap}
use Rattle.esr_names.specs.declared.ids.Id.{Id}
use Rattle.esr_formats.specs.Ids.{number_of}
use Rattle.esr_formats.specs.Infos.{info_of_code}
use Rattle.esr_formats.specs.Roots.{root_of}
use Rattle.esr_desk.specs.Own.{caller_of}
use Rattle.esr_check.specs.Names.{IsOfShard}
use Rattle.esr_check.specs.Pieces.{HasShard, HasPlace}
use Rattle.esr_check.proofs.Going.{went_none}
use Rattle.esr_check.proofs.Sharding.{ok_map, has_place, no_place}
use Rattle.esr_check.specs.First.{FirstOfShard, FirstOfPlace}
use Rattle.esr_check.proofs.Telling.{if_tells}
use Rattle.esr_check.proofs.shard.check_place.Goals as goal

pub check_shard-requires-clause-shard : goal.check_shard-requires-clause-shard
check_shard-requires-clause-shard g c κs within = record {
  safe = c.requires.root;
  listed = c.requires.infos;
  few = c.requires.few;
  there = c.requires.generation c.in-Some.generation.number (ap (λ (o : Option Id). option_map number_of o) c.in-Some.is);
}

pub returns-in-Some-clause-place : goal.returns-in-Some-clause-place
returns-in-Some-clause-place g c =
    let s = g.Q.Desk.start in
    let now = caller_of s (g.Q.Desk.seen c.check_shard.new.desk) in
    let root = root_of c.args.root.now in
    let infos = map info_of_code c.args.infos.now in
    let index = c.args.place.at.index.number in
    let shard = c.args.place.at.number in
    let id = c.in-Some.generation in
    ok_map c.check_shard.result (HasShard s now root infos index shard id.number) (HasPlace s now root infos index shard (option_map number_of c.args.place.generation))
    (λ (h : HasShard s now root infos index shard id.number). has_place s now root infos index shard c.args.place.generation id c.in-Some.is h) c.check_shard.ensures.shard

pub returns-in-None-clause-place : goal.returns-in-None-clause-place
returns-in-None-clause-place g c =
    let s = g.Q.Desk.start in
    no_place s (caller_of s (g.Q.Desk.seen c.args.desk.now)) (root_of c.args.root.now) (map info_of_code c.args.infos.now) c.args.place.at.index.number c.args.place.at.number c.args.place.generation c.in-None.is

pub returns-in-None-clause-went : goal.returns-in-None-clause-went
returns-in-None-clause-went g c = went_none g.Q.Desk.start (g.Q.Desk.seen c.args.desk.now) (IsOfShard c.args.place.at.index.number c.args.place.at.number)

pub returns-in-Some-clause-first : goal.returns-in-Some-clause-first
returns-in-Some-clause-first g c =
    let s = g.Q.Desk.start in
    let root = root_of c.args.root.now in
    let infos = map info_of_code c.args.infos.now in
    let index = c.args.place.at.index.number in
    let shard = c.args.place.at.number in
    if_tells (FirstOfShard s (caller_of s (g.Q.Desk.seen c.check_shard.new.desk)) root infos index shard c.in-Some.generation.number)
    (FirstOfPlace s (caller_of s (g.Q.Desk.seen c.check_shard.new.desk)) root infos index shard (option_map number_of c.args.place.generation))
    (λ name first. record { generation = c.in-Some.generation.number; is = ap (λ (o : Option Id). option_map number_of o) c.in-Some.is; first = first }) c.check_shard.result c.check_shard.ensures.first
