use Rattle.std.proofs.Common.{List, option_map, sym, ◌∙◌, subst}
use Rattle.esr_formats.specs.Ids.{number_of}
use Rattle.esr_desk.specs.Calls.{Call, HasTaken}
use Rattle.esr_desk.specs.Evidence.{evidence}
use Rattle.esr_desk.specs.Start.{ticket_of}
use Rattle.esr_desk.specs.Grew.{grew_by_on}
use Rattle.esr_upload.specs.Ends.{may_end}
use Rattle.esr_clone.specs.Copied.{IsCopy}
use Rattle.esr_clone.proofs.Copying.{took_copy, took_few, still_on, can_fail}
use Rattle.esr_clone.proofs.Causing.{end_shown, end_present, unit_ended}
use Rattle.esr_clone.proofs.unit.run_unit.Goals as goal
use Rattle.esr_clone.proofs.unit.run_unit.Goals.{In-CloneShard}

copy_at : (g : _) (c : In-CloneShard g)
    → IsCopy c.in-CloneShard.at.index.number c.in-CloneShard.at.number c.in-CloneShard.uuid.number c.in-CloneShard.source.number
    (option_map number_of c.args.unit.now.ready.copy.base) (ticket_of g.Q.Desk.start (g.Q.Desk.seen c.args.desk.now) c.args.unit.now.ready.ticket)
copy_at g c =
    let unit = c.args.unit.now in
    took_copy unit.ready.work unit.new_root unit.ready.op unit.ready.copy
    (ticket_of g.Q.Desk.start (g.Q.Desk.seen c.args.desk.now) unit.ready.ticket) c.in-CloneShard.source c.in-CloneShard.uuid c.in-CloneShard.at c.in-CloneShard.index c.in-CloneShard.is
    c.requires.fresh

pub work-requires-clause-unit : goal.work-requires-clause-unit
work-requires-clause-unit g c κs within = copy_at g (goal.at.work-requires-clause-unit g c).In-CloneShard

pub work-requires-clause-few : goal.work-requires-clause-few
work-requires-clause-few g c κs within =
    let unit = c.args.unit.now in
    took_few unit.ready.work unit.new_root unit.ready.op unit.ready.copy
    (ticket_of g.Q.Desk.start (g.Q.Desk.seen c.args.desk.now) unit.ready.ticket) c.in-CloneShard.source c.in-CloneShard.uuid c.in-CloneShard.at c.in-CloneShard.index c.in-CloneShard.is
    c.requires.fresh

pub give_up-requires-clause-mine : goal.give_up-requires-clause-mine
give_up-requires-clause-mine g c κs within = subst (λ (calls : List Call). HasTaken calls c.args.unit.now.ready.ticket) (sym c.work.ensures.calls) c.requires.mine

pub give_up-requires-clause-may : goal.give_up-requires-clause-may
give_up-requires-clause-may g c κs within =
    let s = g.Q.Desk.start in
    let ready = c.args.unit.now.ready in
    let on = still_on c.in-CloneShard.at.index.number c.in-CloneShard.at.number c.in-CloneShard.uuid.number c.in-CloneShard.source.number (option_map number_of ready.copy.base)
    (ticket_of s (g.Q.Desk.seen c.args.desk.now) ready.ticket) (ticket_of s (g.Q.Desk.seen c.work.new.desk) ready.ticket) (copy_at g (goal.at.give_up-requires-clause-may g c).In-CloneShard) c.in-Err.ensures.went.worked in
    may_end s (g.Q.Desk.seen c.work.new.desk) ready.ticket c.ending_of.result (can_fail c.in-CloneShard.at.index.number c.in-CloneShard.at.number (option_map number_of ready.copy.base) (ticket_of s (g.Q.Desk.seen c.work.new.desk) ready.ticket) on)

pub give_up-requires-clause-shown : goal.give_up-requires-clause-shown
give_up-requires-clause-shown g c κs within =
    let s = g.Q.Desk.start in
    let ready = c.args.unit.now.ready in
    let on = still_on c.in-CloneShard.at.index.number c.in-CloneShard.at.number c.in-CloneShard.uuid.number c.in-CloneShard.source.number (option_map number_of ready.copy.base)
    (ticket_of s (g.Q.Desk.seen c.args.desk.now) ready.ticket) (ticket_of s (g.Q.Desk.seen c.work.new.desk) ready.ticket) (copy_at g (goal.at.give_up-requires-clause-shown g c).In-CloneShard) c.in-Err.ensures.went.worked in
    let e = evidence g.Q.Stage.Counted.faults g.Q.Fetch.Counted.faults g.Q.Shard.Counted.faults g.Q.Target.Counted.faults g.Q.Shard.Shard.told g.Q.Target.Target.told in
    end_shown e s (g.Q.Desk.seen c.args.desk.now) (g.Q.Desk.seen c.work.new.desk) ready.ticket c.in-CloneShard.at.index.number
    c.in-CloneShard.at.number c.in-Err.trouble c.ending_of.result c.in-Err.ensures.went.worked on.at.work c.in-Err.ensures.trouble c.ending_of.ensures

pub give_up-requires-clause-present : goal.give_up-requires-clause-present
give_up-requires-clause-present g c κs within =
    let s = g.Q.Desk.start in
    let ready = c.args.unit.now.ready in
    let on = still_on c.in-CloneShard.at.index.number c.in-CloneShard.at.number c.in-CloneShard.uuid.number c.in-CloneShard.source.number (option_map number_of ready.copy.base)
    (ticket_of s (g.Q.Desk.seen c.args.desk.now) ready.ticket) (ticket_of s (g.Q.Desk.seen c.work.new.desk) ready.ticket) (copy_at g (goal.at.give_up-requires-clause-present g c).In-CloneShard) c.in-Err.ensures.went.worked in
    let e = evidence g.Q.Stage.Counted.faults g.Q.Fetch.Counted.faults g.Q.Shard.Counted.faults g.Q.Target.Counted.faults g.Q.Shard.Shard.told g.Q.Target.Target.told in
    end_present e s (g.Q.Desk.seen c.args.desk.now) (g.Q.Desk.seen c.work.new.desk) ready.ticket c.in-CloneShard.at.index.number
    c.in-CloneShard.at.number c.in-Err.trouble c.ending_of.result c.in-Err.ensures.went.worked on.at.work c.in-Err.ensures.trouble c.ending_of.ensures

pub returns-in-Err-clause-refused : goal.returns-in-Err-clause-refused
returns-in-Err-clause-refused g c =
    let s = g.Q.Desk.start in
    let ready = c.args.unit.now.ready in
    let on = still_on c.in-CloneShard.at.index.number c.in-CloneShard.at.number c.in-CloneShard.uuid.number c.in-CloneShard.source.number (option_map number_of ready.copy.base)
    (ticket_of s (g.Q.Desk.seen c.args.desk.now) ready.ticket) (ticket_of s (g.Q.Desk.seen c.work.new.desk) ready.ticket) (copy_at g (goal.at.returns-in-Err-clause-refused g c).In-CloneShard) c.in-Err.ensures.went.worked in
    let e = evidence g.Q.Stage.Counted.faults g.Q.Fetch.Counted.faults g.Q.Shard.Counted.faults g.Q.Target.Counted.faults g.Q.Shard.Shard.told g.Q.Target.Target.told in
    unit_ended e s (g.Q.Desk.seen c.args.desk.now) (g.Q.Desk.seen c.work.new.desk) ready.ticket c.in-CloneShard.at.index.number
    c.in-CloneShard.at.number c.in-Err.trouble c.ending_of.result c.in-Err.ensures.went.worked on.at.work c.in-Err.ensures.trouble c.ending_of.ensures
    (g.Q.Desk.seen c.give_up.new.desk) c.give_up.result c.give_up.ensures.end

pub returns-in-Err-clause-grew : goal.returns-in-Err-clause-grew
returns-in-Err-clause-grew g c =
    let seen = g.Q.Desk.seen in
    grew_by_on g.Q.Desk.start c.args.unit.now.ready.ticket (seen c.args.desk.now) (seen c.work.new.desk) (seen c.give_up.new.desk) c.work.ensures.grew c.give_up.ensures.grew

pub returns-in-Err-clause-calls : goal.returns-in-Err-clause-calls
returns-in-Err-clause-calls g c = c.give_up.ensures.others ∙ c.work.ensures.calls
