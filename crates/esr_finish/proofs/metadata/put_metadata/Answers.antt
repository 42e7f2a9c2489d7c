use Rattle.std.proofs.Common.{◌∙◌}
use Rattle.esr_finish.specs.Runs.{taken_on, went_on}
use Rattle.esr_model.specs.Names.{Snap}
use Rattle.esr_formats.specs.Infos.{info_of_code}
use Rattle.esr_desk.specs.Start.{ticket_of}
use Rattle.esr_finish.proofs.Naming.{none_unnoted, global_new, indices_new}
use Rattle.esr_finish.proofs.metadata.put_metadata.Goals as goal

pub returns-in_err-put_global-clause-went : goal.returns-in_err-put_global-clause-went
returns-in_err-put_global-clause-went g c =
    let seen = g.Q.Desk.seen in
    went_on g.Q.Desk.start (seen c.args.desk.now) (seen c.put_info.new.desk) (seen c.put_global.new.desk) c.args.ticket c.put_info.ensures.went c.put_global.ensures.went

pub returns-clause-went : goal.returns-clause-went
returns-clause-went g c =
    let s = g.Q.Desk.start in
    let who = c.args.ticket in
    let old = g.Q.Desk.seen c.args.desk.now in
    let info = g.Q.Desk.seen c.put_info.new.desk in
    let global = g.Q.Desk.seen c.put_global.new.desk in
    let new = g.Q.Desk.seen c.put_indices.new.desk in
    went_on s old global new who (went_on s old info global who c.put_info.ensures.went c.put_global.ensures.went) c.put_indices.ensures.went

pub put_info-requires-clause-new : goal.put_info-requires-clause-new
put_info-requires-clause-new g c κs within = none_unnoted (ticket_of g.Q.Desk.start (g.Q.Desk.seen c.args.desk.now) c.args.ticket) (Snap c.args.info.now.uuid.number) c.requires.new

pub put_global-requires-clause-new : goal.put_global-requires-clause-new
put_global-requires-clause-new g c κs within = global_new g.Q.Desk.start (g.Q.Desk.seen c.args.desk.now) (g.Q.Desk.seen c.put_info.new.desk) c.args.ticket (info_of_code c.args.info.now) c.requires.new c.in_ok-put_info.ensures.ok

pub put_indices-requires-clause-new : goal.put_indices-requires-clause-new
put_indices-requires-clause-new g c κs within =
    let seen = g.Q.Desk.seen in
    indices_new g.Q.Desk.start (seen c.args.desk.now) (seen c.put_info.new.desk) (seen c.put_global.new.desk) c.args.ticket (info_of_code c.args.info.now) c.requires.new c.in_ok-put_info.ensures.ok c.in_ok-put_global.ensures.ok

pub put_global-requires-clause-mine : goal.put_global-requires-clause-mine
put_global-requires-clause-mine g c κs within = taken_on (g.Q.Desk.calls c.args.desk.now) (g.Q.Desk.calls c.put_info.new.desk) c.args.ticket c.put_info.ensures.calls c.requires.mine

pub put_indices-requires-clause-mine : goal.put_indices-requires-clause-mine
put_indices-requires-clause-mine g c κs within =
    taken_on (g.Q.Desk.calls c.args.desk.now) (g.Q.Desk.calls c.put_global.new.desk) c.args.ticket (c.put_global.ensures.calls ∙ c.put_info.ensures.calls) c.requires.mine

pub returns-in_err-put_global-clause-calls : goal.returns-in_err-put_global-clause-calls
returns-in_err-put_global-clause-calls g c = c.put_global.ensures.calls ∙ c.put_info.ensures.calls

pub returns-clause-calls : goal.returns-clause-calls
returns-clause-calls g c = c.put_indices.ensures.calls ∙ c.put_global.ensures.calls ∙ c.put_info.ensures.calls
