use Rattle.std.proofs.Common.{◌≡◌, ◌⊎◌, List, [], sym, subst}
use Rattle.esr_core.specs.Entry.{Moment}
use Rattle.esr_depot.specs.Look.{now}
use Rattle.esr_desk.specs.Once.{AreOnce, AreRemovedOnce}
use Rattle.esr_desk.specs.Verify.Tested.{AreTested}
use Rattle.esr_desk.specs.Evidence.{evidence}
use Rattle.esr_run.specs.Checked.{asks_check}
use Rattle.esr_run.specs.Verified.{AreWhole}
use Rattle.esr_run.specs.Waits.{AreFew}
use Rattle.esr_run.specs.Made.{HasFallen, AreDone, AskedUnlessStopped}
use Rattle.esr_run.proofs.Making.{done_or}
use Rattle.esr_repo.specs.Log.{image_at, log_of}
use Rattle.esr_run.proofs.Ending.{logged}
use Rattle.esr_run.proofs.Told.{told_now}
use Rattle.esr_run.proofs.Completing.{entries_are}
use Rattle.esr_run.proofs.Restoring.{by_lines}
use Rattle.esr_run.proofs.whole.run_told.Goals as goal

pub carry_on-worked-requires-clause-waits : goal.carry_on-worked-requires-clause-waits
carry_on-worked-requires-clause-waits g c κs within = record {
  alone = c.requires.alone;
  some = c.requires.workers.0;
  few = c.requires.workers.1;
  workable = record { outside = c.requires.outside; tracked = c.requires.begun.read_tracked; ops = c.requires.begun.order.tracked };
}

pub returns-clause-shown : goal.returns-clause-shown
returns-clause-shown g c = logged (evidence g.D.Stage.Counted.faults g.D.Fetch.Counted.faults g.S.Shard.Counted.faults g.T.Target.Counted.faults g.S.Shard.Shard.told g.T.Target.Target.told) g.K.Told.start c.carry_on-worked.result.repo
    (log_of (g.D.Depot.look c.into_parts-depot.result.0) g.K.Told.clock c.into_parts-depot.result.1) c.carry_on-worked.result.faults c.into_parts-depot.ensures.log c.carry_on-worked.ensures.shown

pub returns-clause-once : goal.returns-clause-once
returns-clause-once g c = subst (λ (l : List Moment). AreOnce g.K.Told.start l) (sym c.into_parts-depot.ensures.log) c.carry_on-worked.ensures.once

pub returns-clause-tested : goal.returns-clause-tested
returns-clause-tested g c = subst (λ (l : List Moment). AreTested g.K.Told.start l) (sym c.into_parts-depot.ensures.log) c.carry_on-worked.ensures.tested

pub returns-clause-single : goal.returns-clause-single
returns-clause-single g c =
    let look = g.D.Depot.look c.into_parts-depot.result.0 in
    c.no_step_is_made_twice.ensures g.K.Told.start (log_of look g.K.Told.clock c.into_parts-depot.result.1) c.into_parts-depot.ensures.repo.2.steady.legal

pub returns-clause-removed : goal.returns-clause-removed
returns-clause-removed g c = subst AreRemovedOnce (sym c.into_parts-depot.ensures.log) c.carry_on-worked.ensures.removed

pub returns-clause-done : goal.returns-clause-done
returns-clause-done g c =
    subst (λ (l : List Moment). (c.verdict_after-verdict.result.0.status ≡ 8) ⊎ (AreDone g.K.Told.start c.args.host.now.moment c.args.asked.now.script [] l ⊎ HasFallen g.K.Told.start c.args.host.now.moment c.args.asked.now.script [] l))
    (sym c.into_parts-depot.ensures.log)
    (done_or (AreDone g.K.Told.start c.args.host.now.moment c.args.asked.now.script [] c.carry_on-worked.result.repo ⊎ HasFallen g.K.Told.start c.args.host.now.moment c.args.asked.now.script [] c.carry_on-worked.result.repo)
    c.verdict_after-verdict.result.0.status c.carry_on-worked.result.carried c.carry_on-worked.ensures.done
    (λ lost. c.verdict_after-verdict.ensures.wanting (c.targets_by_lines-listed.ensures.wanting lost)))

pub returns-clause-restored : goal.returns-clause-restored
returns-clause-restored g c =
    let look = g.D.Depot.look c.into_parts-depot.result.0 in
    by_lines c.each_target_is_of_its_line.ensures (evidence g.D.Stage.Counted.faults g.D.Fetch.Counted.faults g.S.Shard.Counted.faults g.T.Target.Counted.faults g.S.Shard.Shard.told g.T.Target.Target.told)
    g.K.Told.start c.args.host.now.moment c.args.asked.now.script c.carry_on-worked.result.repo (log_of look g.K.Told.clock c.into_parts-depot.result.1) c.into_parts-depot.result.1
    c.requires.begun.order.tracked c.requires.begun.read_tracked c.into_parts-depot.ensures.repo.2.steady.legal c.requires.lines
    c.carry_on-worked.ensures.made c.requires.alone c.into_parts-depot.ensures.log (entries_are (image_at look) g.K.Told.clock c.into_parts-depot.result.1)
    c.carry_on-worked.result.restored c.carry_on-worked.ensures.restored c.targets_by_lines-listed.result c.verdict_after-verdict.result.1
    c.verdict_after-verdict.result.0.status c.targets_by_lines-listed.ensures.listed c.verdict_after-verdict.ensures.wanting c.verdict_after-verdict.ensures.targets

pub returns-clause-legal : goal.returns-clause-legal
returns-clause-legal g c =
    let is = c.into_parts-depot.ensures.repo.2 in
    record { clock_is = is.clock_is; legal = is.steady.legal; image = is.steady.image; tells = told_now (now (g.D.Depot.look c.into_parts-depot.result.0)) g.K.Told.start.tells is.tells.untold }

pub returns-clause-verified : goal.returns-clause-verified
returns-clause-verified g c = subst (AreWhole g.K.Told.start c.args.asked.now.workers (asks_check c.args.asked.now.script)) (sym c.into_parts-depot.ensures.log) c.carry_on-worked.ensures.whole

pub returns-clause-few : goal.returns-clause-few
returns-clause-few g c = subst (AreFew c.args.asked.now.workers c.args.asked.now.script) (sym c.into_parts-depot.ensures.log) c.carry_on-worked.ensures.few

pub returns-clause-apart : goal.returns-clause-apart
returns-clause-apart g c = subst (AskedUnlessStopped g.K.Told.start []) (sym c.into_parts-depot.ensures.log) c.carry_on-worked.ensures.apart
