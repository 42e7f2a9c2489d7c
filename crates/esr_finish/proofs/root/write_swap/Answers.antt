use Rattle.esr_formats.specs.Infos.{info_of_code}
use Rattle.esr_formats.specs.Roots.{root_of}
use Rattle.esr_desk.specs.Start.{ticket_of}
use Rattle.esr_finish.specs.Went.{Went}
use Rattle.esr_finish.specs.Runs.{taken_on, went_on}
use Rattle.esr_finish.proofs.Swaps.{root_next}
use Rattle.std.proofs.Common.{ap, ◌∙◌}
use Rattle.esr_core.specs.World.{Ticket}
use Rattle.esr_finish.proofs.root.write_swap.Goals as goal
use Rattle.esr_finish.proofs.root.write_swap.Goals.{In_ok-generation}

-- how far it went when the root was put
put_went : (g : _) (c : In_ok-generation g) → Went g.Q.Desk.start (g.Q.Desk.seen c.args.desk.now) (g.Q.Desk.seen c.put_root.new.desk) c.args.ticket
put_went g c = went_on g.Q.Desk.start (g.Q.Desk.seen c.args.desk.now) (g.Q.Desk.seen c.put_metadata.new.desk) (g.Q.Desk.seen c.put_root.new.desk) c.args.ticket c.put_metadata.ensures.went c.put_root.ensures.went

pub put_root-requires-clause-may : goal.put_root-requires-clause-may
put_root-requires-clause-may g c κs within =
    let s = g.Q.Desk.start in
    let t0 = ticket_of s (g.Q.Desk.seen c.args.desk.now) c.args.ticket in
    let t1 = ticket_of s (g.Q.Desk.seen c.put_metadata.new.desk) c.args.ticket in
    root_next s t0 t1 (info_of_code c.args.info.now) (root_of c.args.root.now) c.requires.may c.in_ok-put_metadata.ensures.ok c.put_metadata.ensures.went.worked

pub returns-in_err-generation-clause-went : goal.returns-in_err-generation-clause-went
returns-in_err-generation-clause-went g c =
    let seen = g.Q.Desk.seen in
    went_on g.Q.Desk.start (seen c.args.desk.now) (seen c.put_metadata.new.desk) (seen c.put_root.new.desk) c.args.ticket c.put_metadata.ensures.went c.put_root.ensures.went

pub returns-clause-went : goal.returns-clause-went
returns-clause-went g c =
    let seen = g.Q.Desk.seen in
    went_on g.Q.Desk.start (seen c.args.desk.now) (seen c.put_root.new.desk) (seen c.try_latest.new.desk) c.args.ticket (put_went g (goal.at.returns-clause-went g c).In_ok-generation) c.try_latest.ensures.went

pub put_metadata-requires-clause-new : goal.put_metadata-requires-clause-new
put_metadata-requires-clause-new g c κs within = c.requires.may.unnoted

pub try_latest-requires-clause-untried : goal.try_latest-requires-clause-untried
try_latest-requires-clause-untried g c κs within =
    ap (λ (t : Ticket). t.tried_latest) (c.in_ok-generation.ensures.ok.is) ∙ ap (λ (t : Ticket). t.tried_latest) c.in_ok-put_metadata.ensures.ok.is ∙ c.requires.may.untried

pub put_root-requires-clause-mine : goal.put_root-requires-clause-mine
put_root-requires-clause-mine g c κs within = taken_on (g.Q.Desk.calls c.args.desk.now) (g.Q.Desk.calls c.put_metadata.new.desk) c.args.ticket c.put_metadata.ensures.calls c.requires.mine

pub try_latest-requires-clause-mine : goal.try_latest-requires-clause-mine
try_latest-requires-clause-mine g c κs within =
    taken_on (g.Q.Desk.calls c.args.desk.now) (g.Q.Desk.calls c.put_root.new.desk) c.args.ticket (c.put_root.ensures.calls ∙ c.put_metadata.ensures.calls) c.requires.mine

pub returns-in_err-generation-clause-calls : goal.returns-in_err-generation-clause-calls
returns-in_err-generation-clause-calls g c = c.put_root.ensures.calls ∙ c.put_metadata.ensures.calls

pub returns-clause-calls : goal.returns-clause-calls
returns-clause-calls g c = c.try_latest.ensures.calls ∙ c.put_root.ensures.calls ∙ c.put_metadata.ensures.calls

pub returns-in_err-try_latest-clause-went : goal.returns-in_err-try_latest-clause-went
returns-in_err-try_latest-clause-went g c =
    let seen = g.Q.Desk.seen in
    went_on g.Q.Desk.start (seen c.args.desk.now) (seen c.put_root.new.desk) (seen c.try_latest.new.desk) c.args.ticket (put_went g (goal.at.returns-in_err-try_latest-clause-went g c).In_ok-generation) c.try_latest.ensures.went

pub returns-in_err-try_latest-clause-calls : goal.returns-in_err-try_latest-clause-calls
returns-in_err-try_latest-clause-calls g c = c.try_latest.ensures.calls ∙ c.put_root.ensures.calls ∙ c.put_metadata.ensures.calls
