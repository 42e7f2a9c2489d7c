use Rattle.std.proofs.Common.{[], Some, ap, ◌∙◌}
use Rattle.esr_core.specs.World.{Ticket}
use Rattle.esr_core.specs.Entry.{CommitStep}
use Rattle.esr_formats.specs.Names.{name_of}
use Rattle.esr_desk.specs.Evidence.{evidence}
use Rattle.esr_desk.specs.Start.{ticket_of}
use Rattle.esr_desk.specs.Told.{begin_fresh, untold_fresh}
use Rattle.esr_unit.specs.Refusals.{passed_on}
use Rattle.esr_upload.specs.Trouble.{Shown}
use Rattle.esr_upload.specs.Runs.{went_same}
use Rattle.esr_upload.proofs.Putting.{committed_one, put_went}
use Rattle.esr_upload.proofs.Refusing.{put_shown}
use Rattle.esr_upload.proofs.publish.put_own.Goals as goal

pub put-requires-clause-new : goal.put-requires-clause-new
put-requires-clause-new g c κs within =
    let may = c.requires.may in
    begin_fresh g.Q.Desk.start (g.Q.Desk.seen c.args.desk.now) c.args.ticket (name_of c.args.name) c.requires.tells may.stored (may.once c.requires.data)

pub put-requires-clause-whole : goal.put-requires-clause-whole
put-requires-clause-whole g c κs within =
    untold_fresh g.Q.Desk.start (g.Q.Desk.seen c.args.desk.now) c.args.ticket (CommitStep (name_of c.args.name)) c.requires.tells (c.requires.may.once c.requires.data)

pub returns-in_err-put-clause-trouble : goal.returns-in_err-put-clause-trouble
returns-in_err-put-clause-trouble g c =
    let s = g.Q.Desk.start in
    let who = c.args.ticket in
    let new = g.Q.Desk.seen c.put.new.desk in
    let e = evidence g.Q.Stage.Counted.faults g.Q.Fetch.Counted.faults g.Q.Shard.Counted.faults g.Q.Target.Counted.faults g.Q.Shard.Shard.told g.Q.Target.Target.told in
    let work = c.requires.work in
    let trouble = c.in_err-put.field-0.0 in
    passed_on c.from_residual.result (Shown e 0 (Some []) s new who) trouble c.from_residual.ensures.1
    (put_shown e 0 (Some []) s new who work.0 work.1 (ap (λ (t : Ticket). t.work) c.in_err-put.ensures.left ∙ work.2) (name_of c.args.name) trouble c.refusals_are_of_their_steps.ensures c.in_err-put.ensures.trouble)

pub returns-in_err-put-clause-went : goal.returns-in_err-put-clause-went
returns-in_err-put-clause-went g c = went_same g.Q.Desk.start (g.Q.Desk.seen c.args.desk.now) (g.Q.Desk.seen c.put.new.desk) c.args.ticket c.put.ensures.grew c.in_err-put.ensures.left

pub returns-clause-ok : goal.returns-clause-ok
returns-clause-ok g c =
    let s = g.Q.Desk.start in
    let who = c.args.ticket in
    committed_one s (name_of c.args.name) c.args.bytes.now c.in_ok-put.field-0 (ticket_of s (g.Q.Desk.seen c.args.desk.now) who) (ticket_of s (g.Q.Desk.seen c.put.new.desk) who) c.requires.data c.in_ok-put.ensures.found c.in_ok-put.ensures.own

pub returns-clause-tells : goal.returns-clause-tells
returns-clause-tells g c = c.in_ok-put.ensures.tells c.requires.tells

pub returns-clause-went : goal.returns-clause-went
returns-clause-went g c = put_went g.Q.Desk.start (g.Q.Desk.seen c.args.desk.now) (g.Q.Desk.seen c.put.new.desk) c.args.ticket (name_of c.args.name) c.args.bytes.now c.put.ensures.grew (returns-clause-ok g c)
