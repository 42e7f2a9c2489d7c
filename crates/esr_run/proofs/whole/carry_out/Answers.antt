use Rattle.std.proofs.Common.{inl, ap}
use Rattle.esr_desk.specs.Evidence.{evidence}
use Rattle.esr_run.specs.Start.{telling}
use Rattle.esr_run.specs.Causes.{Given}
use Rattle.esr_run.specs.Stops.{end_of}
use Rattle.esr_script.specs.Jobs.{job_of}
use Rattle.esr_run.specs.Asked.{wanted_of}
use Rattle.esr_run.proofs.Numbering.{numbered_lines}
use Rattle.esr_run.proofs.Restoring.{none_restored, restored_opened}
use Rattle.esr_run.proofs.Smoothly.{complete_stopped, complete_opened, complete_wanting}
use Rattle.esr_run.proofs.Ending.{untouched, verdict_stopped, verdict_opened, run_opened}
use Rattle.esr_run.proofs.whole.carry_out.Goals as goal

pub returns-in-Err-clause-run : goal.returns-in-Err-clause-run
returns-in-Err-clause-run g c = inl (untouched (telling (g.S.Sources.told c.args.host.now.sources.now) (g.T.Targets.told c.args.host.now.targets.now)) (g.D.Depot.look c.args.depot)
    (g.D.Depot.look c.ended_at.result.depot) c.ended_at.result.history c.new.result (ap g.D.Depot.look c.ended_at.ensures.depot) c.only_now.ensures c.ended_at.ensures.history c.new.ensures)

pub returns-in-Err-clause-told : goal.returns-in-Err-clause-told
returns-in-Err-clause-told g c =
    let given : Given = record { words = c.args.words.now; script = g.I.Lines.left c.args.script.now; faults = g.I.Counted.faults c.args.script.now; moment = c.args.host.now.moment } in
    verdict_stopped c.ended_at.result.verdict.status c.ended_at.result.verdict.text (evidence g.D.Stage.Counted.faults g.D.Fetch.Counted.faults g.S.Shard.Counted.faults g.T.Target.Counted.faults g.S.Shard.Shard.told g.T.Target.Target.told) given
    (telling (g.S.Sources.told c.args.host.now.sources.now) (g.T.Targets.told c.args.host.now.targets.now)) (g.I.Counted.faults c.asked_for.new.script) (g.D.Depot.look c.args.depot) (g.D.Depot.look c.ended_at.result.depot)
    (g.D.Counted.faults c.args.depot) (g.D.Counted.faults c.ended_at.result.depot) c.ended_at.result.history c.new.result (end_of c.in-Err.stop) c.ended_at.ensures.told c.in-Err.ensures.err
    (untouched (telling (g.S.Sources.told c.args.host.now.sources.now) (g.T.Targets.told c.args.host.now.targets.now)) (g.D.Depot.look c.args.depot)
    (g.D.Depot.look c.ended_at.result.depot) c.ended_at.result.history c.new.result (ap g.D.Depot.look c.ended_at.ensures.depot) c.only_now.ensures c.ended_at.ensures.history c.new.ensures)

pub returns-clause-run : goal.returns-clause-run
returns-clause-run g c = inl (untouched (telling (g.S.Sources.told c.args.host.now.sources.now) (g.T.Targets.told c.args.host.now.targets.now)) (g.D.Depot.look c.args.depot) (g.D.Depot.look c.ended_at-in-Err-room_for_one.result.depot)
    c.ended_at-in-Err-room_for_one.result.history c.new-in-Err-room_for_one.result (ap g.D.Depot.look c.ended_at-in-Err-room_for_one.ensures.depot) c.only_now.ensures c.ended_at-in-Err-room_for_one.ensures.history c.new-in-Err-room_for_one.ensures)

pub returns-in-Ok-room_for_one-clause-told : goal.returns-in-Ok-room_for_one-clause-told
returns-in-Ok-room_for_one-clause-told g c =
    let given : Given = record { words = c.args.words.now; script = g.I.Lines.left c.args.script.now; faults = g.I.Counted.faults c.args.script.now; moment = c.args.host.now.moment } in
    verdict_opened c.open_and_carry.result.0.verdict.status c.open_and_carry.result.0.verdict.text
    (evidence g.D.Stage.Counted.faults g.D.Fetch.Counted.faults g.S.Shard.Counted.faults g.T.Target.Counted.faults g.S.Shard.Shard.told g.T.Target.Target.told) given
    (telling (g.S.Sources.told c.args.host.now.sources.now) (g.T.Targets.told c.args.host.now.targets.now)) (g.I.Counted.faults c.asked_for.new.script) c.in-Ok.asked.part_size c.in-Ok.asked.workers
    (g.D.Depot.look c.args.depot) (g.D.Depot.look c.open_and_carry.result.0.depot) (g.D.Counted.faults c.args.depot) (g.D.Counted.faults c.open_and_carry.result.0.depot) c.in-Ok.asked.script
    c.open_and_carry.result.0.history c.open_and_carry.result.1 c.in-Ok.ensures.size c.in-Ok.ensures.workers (c.in-Ok.ensures.script c.args.host.now.moment) c.open_and_carry.ensures.told

pub returns-in-Err-clause-complete : goal.returns-in-Err-clause-complete
returns-in-Err-clause-complete g c old new =
    let given : Given = record { words = c.args.words.now; script = g.I.Lines.left c.args.script.now; faults = g.I.Counted.faults c.args.script.now; moment = c.args.host.now.moment } in
    complete_stopped _ given (telling (g.S.Sources.told c.args.host.now.sources.now) (g.T.Targets.told c.args.host.now.targets.now)) (g.I.Counted.faults c.asked_for.new.script)
    (g.D.Depot.look c.args.depot) (g.D.Depot.look c.ended_at.result.depot) old new c.ended_at.result.history c.new.result
    c.ended_at.result.verdict.status c.ended_at.result.verdict.text (end_of c.in-Err.stop) c.ended_at.ensures.told c.in-Err.ensures.err

pub returns-in-Ok-room_for_one-clause-complete : goal.returns-in-Ok-room_for_one-clause-complete
returns-in-Ok-room_for_one-clause-complete g c old new =
    let given : Given = record { words = c.args.words.now; script = g.I.Lines.left c.args.script.now; faults = g.I.Counted.faults c.args.script.now; moment = c.args.host.now.moment } in
    complete_opened _ given (telling (g.S.Sources.told c.args.host.now.sources.now) (g.T.Targets.told c.args.host.now.targets.now))
    (g.I.Counted.faults c.asked_for.new.script) c.in-Ok.asked.part_size c.in-Ok.asked.workers c.in-Ok.asked.script (g.D.Depot.look c.args.depot) (g.D.Depot.look c.open_and_carry.result.0.depot) old new
    c.open_and_carry.result.0.history c.open_and_carry.result.1 c.open_and_carry.result.0.verdict.status c.in-Ok.ensures.size c.in-Ok.ensures.workers (c.in-Ok.ensures.script c.args.host.now.moment) c.open_and_carry.ensures.complete

pub returns-clause-complete : goal.returns-clause-complete
returns-clause-complete g c old new =
    let given : Given = record { words = c.args.words.now; script = g.I.Lines.left c.args.script.now; faults = g.I.Counted.faults c.args.script.now; moment = c.args.host.now.moment } in
    complete_wanting _ given (telling (g.S.Sources.told c.args.host.now.sources.now) (g.T.Targets.told c.args.host.now.targets.now)) (g.I.Counted.faults c.asked_for.new.script)
    (g.D.Depot.look c.args.depot) (g.D.Depot.look c.ended_at-in-Err-room_for_one.result.depot) old new c.ended_at-in-Err-room_for_one.result.history c.new-in-Err-room_for_one.result
    c.ended_at-in-Err-room_for_one.result.verdict.status c.ended_at-in-Err-room_for_one.result.verdict.text c.ended_at-in-Err-room_for_one.ensures.told

pub open_and_carry-requires-clause-good : goal.open_and_carry-requires-clause-good
open_and_carry-requires-clause-good g c κs within = (c.in-Ok.ensures.script c.args.host.now.moment).good

pub returns-in-Ok-room_for_one-clause-run : goal.returns-in-Ok-room_for_one-clause-run
returns-in-Ok-room_for_one-clause-run g c =
    let given : Given = record { words = c.args.words.now; script = g.I.Lines.left c.args.script.now; faults = g.I.Counted.faults c.args.script.now; moment = c.args.host.now.moment } in
    run_opened _ given (telling (g.S.Sources.told c.args.host.now.sources.now) (g.T.Targets.told c.args.host.now.targets.now)) c.in-Ok.asked.part_size c.in-Ok.asked.workers c.in-Ok.asked.script
    (g.D.Depot.look c.args.depot) (g.D.Depot.look c.open_and_carry.result.0.depot) (g.D.Counted.faults c.args.depot) (g.D.Counted.faults c.open_and_carry.result.0.depot)
    c.open_and_carry.result.0.history c.open_and_carry.result.1 (c.in-Ok.ensures.script c.args.host.now.moment) c.in-Ok.ensures.size c.in-Ok.ensures.workers c.open_and_carry.ensures.run

pub returns-in-Err-clause-restored : goal.returns-in-Err-clause-restored
returns-in-Err-clause-restored g c =
    let given : Given = record { words = c.args.words.now; script = g.I.Lines.left c.args.script.now; faults = g.I.Counted.faults c.args.script.now; moment = c.args.host.now.moment } in
    none_restored _ given (telling (g.S.Sources.told c.args.host.now.sources.now) (g.T.Targets.told c.args.host.now.targets.now)) (g.D.Depot.look c.args.depot)
    (g.D.Depot.look c.ended_at.result.depot) c.ended_at.result.history c.new.result c.ended_at.result.targets c.ended_at.result.verdict.status c.ended_at.ensures.history c.ended_at.ensures.targets

pub returns-clause-restored : goal.returns-clause-restored
returns-clause-restored g c =
    let given : Given = record { words = c.args.words.now; script = g.I.Lines.left c.args.script.now; faults = g.I.Counted.faults c.args.script.now; moment = c.args.host.now.moment } in
    none_restored _ given (telling (g.S.Sources.told c.args.host.now.sources.now) (g.T.Targets.told c.args.host.now.targets.now)) (g.D.Depot.look c.args.depot)
    (g.D.Depot.look c.ended_at-in-Err-room_for_one.result.depot) c.ended_at-in-Err-room_for_one.result.history c.new-in-Err-room_for_one.result c.ended_at-in-Err-room_for_one.result.targets c.ended_at-in-Err-room_for_one.result.verdict.status
    c.ended_at-in-Err-room_for_one.ensures.history c.ended_at-in-Err-room_for_one.ensures.targets

pub returns-in-Ok-room_for_one-clause-restored : goal.returns-in-Ok-room_for_one-clause-restored
returns-in-Ok-room_for_one-clause-restored g c =
    let given : Given = record { words = c.args.words.now; script = g.I.Lines.left c.args.script.now; faults = g.I.Counted.faults c.args.script.now; moment = c.args.host.now.moment } in
    restored_opened _ given (telling (g.S.Sources.told c.args.host.now.sources.now) (g.T.Targets.told c.args.host.now.targets.now)) c.in-Ok.asked.part_size c.in-Ok.asked.workers c.in-Ok.asked.script (g.D.Depot.look c.args.depot)
    (g.D.Depot.look c.open_and_carry.result.0.depot) c.open_and_carry.result.0.history c.open_and_carry.result.1 c.open_and_carry.result.0.targets c.open_and_carry.result.0.verdict.status
    c.in-Ok.ensures.size c.in-Ok.ensures.workers (c.in-Ok.ensures.script c.args.host.now.moment) c.open_and_carry.ensures.restored

pub open_and_carry-requires-clause-lines : goal.open_and_carry-requires-clause-lines
open_and_carry-requires-clause-lines g c κs within = numbered_lines (wanted_of (job_of c.args.words.now)) (g.I.Lines.left c.args.script.now) c.in-Ok.asked.script (c.in-Ok.ensures.script c.args.host.now.moment)
