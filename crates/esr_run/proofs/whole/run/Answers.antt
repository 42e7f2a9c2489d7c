use Rattle.esr_desk.specs.Evidence.{evidence}
use Rattle.esr_run.specs.Start.{telling}
use Rattle.esr_run.specs.Causes.{Given, IsCauseOf}
use Rattle.esr_run.proofs.Smoothly.{complete_printed}
use Rattle.esr_run.proofs.Ending.{printed, stays_wanting}
use Rattle.esr_run.proofs.Restoring.{restored_printed}
use Rattle.esr_run.proofs.whole.run.Goals as goal

pub returns-clause-end : goal.returns-clause-end
returns-clause-end g c =
    let given : Given = record { words = c.args.words.now; script = g.I.Lines.left c.args.script.now; faults = g.I.Counted.faults c.args.script.now; moment = c.args.host.now.moment } in
    let r = c.carry_out-done.result.0 in
    printed c.print_verdict-status.result r.verdict.status r.verdict.text (g.O.Out.contents c.args.out.now) (g.O.Out.contents c.print_verdict-status.new.out) (g.O.Counted.faults c.args.out.now) (g.O.Counted.faults c.print_verdict-status.new.out)
    (IsCauseOf (evidence g.D.Stage.Counted.faults g.D.Fetch.Counted.faults g.S.Shard.Counted.faults g.T.Target.Counted.faults g.S.Shard.Shard.told g.T.Target.Target.told) given (telling (g.S.Sources.told c.args.host.now.sources.now)
    (g.T.Targets.told c.args.host.now.targets.now)) (g.I.Counted.faults c.carry_out-done.new.script) (g.D.Depot.look c.args.depot)
    (g.D.Depot.look r.depot) (g.D.Counted.faults c.args.depot) (g.D.Counted.faults r.depot) r.history c.carry_out-done.result.1)
    c.carry_out-done.ensures.told c.print_verdict-status.ensures.printed

pub returns-clause-complete : goal.returns-clause-complete
returns-clause-complete g c =
    let given : Given = record { words = c.args.words.now; script = g.I.Lines.left c.args.script.now; faults = g.I.Counted.faults c.args.script.now; moment = c.args.host.now.moment } in
    let r = c.carry_out-done.result.0 in
    complete_printed _ given (telling (g.S.Sources.told c.args.host.now.sources.now) (g.T.Targets.told c.args.host.now.targets.now)) (g.I.Counted.faults c.carry_out-done.new.script)
    (g.D.Depot.look c.args.depot) (g.D.Depot.look r.depot) (g.O.Counted.faults c.args.out.now) (g.O.Counted.faults c.print_verdict-status.new.out) r.history c.carry_out-done.result.1
    c.print_verdict-status.result r.verdict.status r.verdict.text (g.O.Out.contents c.args.out.now) (g.O.Out.contents c.print_verdict-status.new.out)
    (c.carry_out-done.ensures.complete (g.O.Counted.faults c.args.out.now) (g.O.Counted.faults c.print_verdict-status.new.out)) c.print_verdict-status.ensures.printed

pub returns-clause-restored : goal.returns-clause-restored
returns-clause-restored g c =
    let given : Given = record { words = c.args.words.now; script = g.I.Lines.left c.args.script.now; faults = g.I.Counted.faults c.args.script.now; moment = c.args.host.now.moment } in
    let r = c.carry_out-done.result.0 in
    restored_printed _ given (telling (g.S.Sources.told c.args.host.now.sources.now) (g.T.Targets.told c.args.host.now.targets.now)) (g.D.Depot.look c.args.depot) (g.D.Depot.look r.depot) r.history c.carry_out-done.result.1 r.targets
    c.print_verdict-status.result r.verdict.status c.carry_out-done.ensures.restored
    (stays_wanting c.print_verdict-status.result r.verdict.status r.verdict.text (g.O.Out.contents c.args.out.now) (g.O.Out.contents c.print_verdict-status.new.out)
    (g.O.Counted.faults c.args.out.now) (g.O.Counted.faults c.print_verdict-status.new.out) c.print_verdict-status.ensures.printed)
