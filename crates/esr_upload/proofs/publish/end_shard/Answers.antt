use Rattle.esr_model.specs.Names.{ShardSnap}
use Rattle.esr_core.specs.Entry.{DoneStep, HasEnded}
use Rattle.esr_results.specs.Results.{result_of}
use Rattle.esr_desk.specs.Calls.{Call, HasTaken}
use Rattle.esr_desk.specs.Start.{ticket_of}
use Rattle.esr_desk.specs.Grew.{grew_by_on, outcome_grew_by}
use Rattle.esr_upload.specs.Published.{snap_blob}
use Rattle.esr_upload.proofs.Noting.{index_unnoted}
use Rattle.std.proofs.Common.{[], Some, List, sym, subst, ◌∙◌}
use Rattle.esr_desk.specs.Evidence.{evidence}
use Rattle.esr_unit.specs.declared.trouble.Trouble.TheVariants.{Step}
use Rattle.esr_unit.specs.Refusals.{passed_on}
use Rattle.esr_upload.specs.Trouble.{Shown}
use Rattle.esr_upload.specs.Worked.{Went}
use Rattle.esr_upload.specs.Ends.{if_err}
use Rattle.esr_upload.proofs.Refusing.{done_shown}
use Rattle.esr_upload.specs.Runs.{went_on, went_same}
use Rattle.esr_upload.proofs.Ending.{has_done}
use Rattle.esr_upload.proofs.publish.end_shard.Goals as goal
use Rattle.esr_upload.proofs.publish.end_shard.Goals.{In_ok-put_index}

-- how far it went when its two blobs were written
put_went : (g : _) (c : In_ok-put_index g) → Went g.Q.Desk.start (g.Q.Desk.seen c.args.desk.now) (g.Q.Desk.seen c.put_index.new.desk) c.args.ticket
put_went g c = went_on g.Q.Desk.start (g.Q.Desk.seen c.args.desk.now) (g.Q.Desk.seen c.put_snap.new.desk) (g.Q.Desk.seen c.put_index.new.desk) c.args.ticket c.put_snap.ensures.went c.put_index.ensures.went

pub returns-in_err-end_shard-clause-trouble : goal.returns-in_err-end_shard-clause-trouble
returns-in_err-end_shard-clause-trouble g c =
    let s = g.Q.Desk.start in
    let who = c.args.ticket in
    let mid = g.Q.Desk.seen c.put_index.new.desk in
    let new = g.Q.Desk.seen c.end_shard.new.self in
    let refusal = c.in_err-end_shard.field-0.0 in
    let e = evidence g.Q.Stage.Counted.faults g.Q.Fetch.Counted.faults g.Q.Shard.Counted.faults g.Q.Target.Counted.faults g.Q.Shard.Shard.told g.Q.Target.Target.told in
    passed_on c.from_residual-in_err-end_shard.result (Shown e 0 (Some []) s new who) (Step refusal) c.from_residual-in_err-end_shard.ensures.1
    (done_shown e 0 (Some []) s mid new who (result_of c.args.outcome.now) refusal c.refusals_are_of_their_steps.ensures c.in_err-end_shard.ensures.step)

pub returns-in_err-end_shard-clause-went : goal.returns-in_err-end_shard-clause-went
returns-in_err-end_shard-clause-went g c =
    let s = g.Q.Desk.start in
    let who = c.args.ticket in
    let mid = g.Q.Desk.seen c.put_index.new.desk in
    let new = g.Q.Desk.seen c.end_shard.new.self in
    let ended = went_same s mid new who (outcome_grew_by s mid new who (DoneStep (result_of c.args.outcome.now)) (λ x. HasEnded) c.end_shard.result c.end_shard.ensures.step) c.in_err-end_shard.ensures.kept in
    if_err c.from_residual-in_err-end_shard.result (went_on s (g.Q.Desk.seen c.args.desk.now) mid new who (put_went g (goal.at.returns-in_err-end_shard-clause-went g c).In_ok-put_index) ended)

pub returns-in_err-end_shard-clause-grew : goal.returns-in_err-end_shard-clause-grew
returns-in_err-end_shard-clause-grew g c =
    let s = g.Q.Desk.start in
    let who = c.args.ticket in
    let mid = g.Q.Desk.seen c.put_index.new.desk in
    let new = g.Q.Desk.seen c.end_shard.new.self in
    grew_by_on s who (g.Q.Desk.seen c.args.desk.now) mid new (put_went g (goal.at.returns-in_err-end_shard-clause-grew g c).In_ok-put_index).grew
    (outcome_grew_by s mid new who (DoneStep (result_of c.args.outcome.now)) (λ x. HasEnded) c.end_shard.result c.end_shard.ensures.step)

pub returns-clause-ok : goal.returns-clause-ok
returns-clause-ok g c =
    has_done g.Q.Desk.start (g.Q.Desk.seen c.args.desk.now) (g.Q.Desk.seen c.put_index.new.desk) (g.Q.Desk.seen c.end_shard.new.self) c.args.ticket (result_of c.args.outcome.now) (put_went g (goal.at.returns-clause-ok g c).In_ok-put_index)
    c.in_ok-end_shard.ensures.step c.in_ok-end_shard.ensures.own

pub put_snap-requires-clause-unnoted : goal.put_snap-requires-clause-unnoted
put_snap-requires-clause-unnoted g c κs within =
    let at = c.args.outcome.now.shard in
    λ has. c.requires.files (ShardSnap at.index.number at.number c.args.snap.now.uuid.number) has

pub put_index-requires-clause-unnoted : goal.put_index-requires-clause-unnoted
put_index-requires-clause-unnoted g c κs within =
    let s = g.Q.Desk.start in
    let who = c.args.ticket in
    let outcome = c.args.outcome.now in
    let snap = snap_blob outcome.shard c.args.snap.now in
    index_unnoted s outcome.shard.index.number outcome.shard.number c.args.snap.now.uuid.number outcome.generation.number outcome.generation.number snap.1
    (ticket_of s (g.Q.Desk.seen c.args.desk.now) who) (ticket_of s (g.Q.Desk.seen c.put_snap.new.desk) who) c.requires.files c.in_ok-put_snap.ensures.ok

pub returns-in_err-put_index-clause-went : goal.returns-in_err-put_index-clause-went
returns-in_err-put_index-clause-went g c =
    let s = g.Q.Desk.start in
    let who = c.args.ticket in
    let old = g.Q.Desk.seen c.args.desk.now in
    let one = g.Q.Desk.seen c.put_snap.new.desk in
    let two = g.Q.Desk.seen c.put_index.new.desk in
    if_err c.from_residual-in_err-put_index.result (went_on s old one two who c.put_snap.ensures.went c.put_index.ensures.went)

pub returns-in_err-put_index-clause-grew : goal.returns-in_err-put_index-clause-grew
returns-in_err-put_index-clause-grew g c =
    grew_by_on g.Q.Desk.start c.args.ticket (g.Q.Desk.seen c.args.desk.now) (g.Q.Desk.seen c.put_snap.new.desk) (g.Q.Desk.seen c.put_index.new.desk) c.put_snap.ensures.went.grew c.put_index.ensures.went.grew

pub returns-clause-grew : goal.returns-clause-grew
returns-clause-grew g c =
    let s = g.Q.Desk.start in
    let who = c.args.ticket in
    let mid = g.Q.Desk.seen c.put_index.new.desk in
    let new = g.Q.Desk.seen c.end_shard.new.self in
    grew_by_on s who (g.Q.Desk.seen c.args.desk.now) mid new (put_went g (goal.at.returns-clause-grew g c).In_ok-put_index).grew
    (outcome_grew_by s mid new who (DoneStep (result_of c.args.outcome.now)) (λ x. HasEnded) c.end_shard.result c.end_shard.ensures.step)

pub put_index-requires-clause-mine : goal.put_index-requires-clause-mine
put_index-requires-clause-mine g c κs within = subst (λ (calls : List Call). HasTaken calls c.args.ticket) (sym c.put_snap.ensures.calls) c.requires.mine

pub end_shard-requires-clause-mine : goal.end_shard-requires-clause-mine
end_shard-requires-clause-mine g c = subst (λ (calls : List Call). HasTaken calls c.args.ticket) (sym (c.put_index.ensures.calls ∙ c.put_snap.ensures.calls)) c.requires.mine
