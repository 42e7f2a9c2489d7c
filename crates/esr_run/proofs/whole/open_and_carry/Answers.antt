use Rattle.std.proofs.Common.{◌≤◌, inl, inr, refl, ap, sym, ◌∙◌, subst}
use Rattle.esr_depot.specs.Look.{now}
use Rattle.esr_formats.specs.Clusters.{cluster_of}
use Rattle.esr_formats.specs.Roots.{root_of}
use Rattle.esr_opening.specs.Opening.{Kept}
use Rattle.esr_desk.specs.Evidence.{evidence}
use Rattle.esr_run.specs.Causes.{IsTold}
use Rattle.esr_run.specs.Faults.{listed}
use Rattle.esr_run.specs.Worlds.{begun_world, begins}
use Rattle.esr_run.specs.Start.{telling, is_calm_by}
use Rattle.esr_run.specs.RunEnds.{calm_enough, is_outside}
use Rattle.esr_run.proofs.Smoothly.{taken_calm, opens_well, refused_well}
use Rattle.esr_run.proofs.Ending.{refused_at, unopened, opened_run, verdict_opening, verdict_refused}
use Rattle.esr_run.proofs.Restoring.{opens_restored, opens_none}
use Rattle.esr_run.proofs.Counting.{counted_from, counted_none, named_none}
use Rattle.esr_run.proofs.whole.open_and_carry.Goals as goal

pub run_told-requires-clause-begun : goal.run_told-requires-clause-begun
run_told-requires-clause-begun g c κs within =
    let k : Kept = record { cluster = c.in-Ok.opening.cluster; root = c.in-Ok.opening.root; infos = c.in-Ok.opening.infos; plan = c.in-Ok.opening.progress; next = c.in-Ok.opening.next.number } in
    begins c.laws.ensures.read_tracked (telling (g.S.Sources.told c.args.host.now.sources.now) (g.T.Targets.told c.args.host.now.targets.now)) c.args.asked.now.part_size
    (is_calm_by (g.D.Depot.look c.in-Ok.opening.depot).sure) (g.D.Depot.look c.args.depot) (g.D.Depot.look c.in-Ok.opening.depot) k c.in-Ok.ensures.opened c.in-Ok.ensures.listed c.only_now.ensures

pub run_told-requires-clause-outside : goal.run_told-requires-clause-outside
run_told-requires-clause-outside g c κs within =
    is_outside (g.S.Sources.told c.args.host.now.sources.now) (g.T.Targets.told c.args.host.now.targets.now) c.args.asked.now.part_size (is_calm_by (g.D.Depot.look c.in-Ok.opening.depot).sure) (g.D.Depot.look c.in-Ok.opening.depot)
    (begun_world (now (g.D.Depot.look c.in-Ok.opening.depot)) (cluster_of c.in-Ok.opening.cluster) (root_of c.in-Ok.opening.root) c.in-Ok.opening.progress) c.requires.sized

pub returns-in-Ok-clause-run : goal.returns-in-Ok-clause-run
returns-in-Ok-clause-run g c =
    let k : Kept = record { cluster = c.in-Ok.opening.cluster; root = c.in-Ok.opening.root; infos = c.in-Ok.opening.infos; plan = c.in-Ok.opening.progress; next = c.in-Ok.opening.next.number } in
    inr (opened_run c.laws.ensures c.kept_laws.ensures _ (telling (g.S.Sources.told c.args.host.now.sources.now) (g.T.Targets.told c.args.host.now.targets.now))
    c.args.asked.now.part_size c.args.asked.now.workers c.args.host.now.moment c.args.asked.now.script
    (is_calm_by (g.D.Depot.look c.in-Ok.opening.depot).sure) (g.D.Depot.look c.args.depot) (g.D.Depot.look c.in-Ok.opening.depot) (g.D.Depot.look c.run_told.result.0.depot) k c.run_told.result.0.history c.run_told.result.1
    c.in-Ok.ensures.opened (taken_calm (g.D.Depot.look c.args.depot).sure (g.D.Depot.look c.in-Ok.opening.depot).sure c.in-Ok.ensures.spent) c.run_told.ensures.legal c.run_told.ensures.past c.run_told.ensures.shown
    c.run_told.ensures.once c.run_told.ensures.tested c.run_told.ensures.single c.run_told.ensures.removed c.run_told.ensures.calm c.run_told.ensures.made c.run_told.ensures.verified c.run_told.ensures.few c.run_told.ensures.apart)

pub returns-in-Ok-clause-told : goal.returns-in-Ok-clause-told
returns-in-Ok-clause-told g c =
    let k : Kept = record { cluster = c.in-Ok.opening.cluster; root = c.in-Ok.opening.root; infos = c.in-Ok.opening.infos; plan = c.in-Ok.opening.progress; next = c.in-Ok.opening.next.number } in
    verdict_opening c.laws.ensures c.kept_laws.ensures _ (telling (g.S.Sources.told c.args.host.now.sources.now) (g.T.Targets.told c.args.host.now.targets.now))
    c.args.asked.now.part_size c.args.asked.now.workers c.args.host.now.moment c.args.asked.now.script
    (is_calm_by (g.D.Depot.look c.in-Ok.opening.depot).sure) (g.D.Depot.look c.args.depot) (g.D.Depot.look c.in-Ok.opening.depot) (g.D.Depot.look c.run_told.result.0.depot) k c.run_told.result.0.history c.run_told.result.1
    (g.D.Counted.faults c.args.depot) (g.D.Counted.faults c.run_told.result.0.depot) c.run_told.result.0.verdict.status c.run_told.result.0.verdict.text c.in-Ok.ensures.opened
    (taken_calm (g.D.Depot.look c.args.depot).sure (g.D.Depot.look c.in-Ok.opening.depot).sure c.in-Ok.ensures.spent)
    c.run_told.ensures.legal c.run_told.ensures.past c.run_told.ensures.shown c.run_told.ensures.once c.run_told.ensures.tested c.run_told.ensures.single c.run_told.ensures.removed
    c.run_told.ensures.calm c.run_told.ensures.made c.run_told.ensures.verified c.run_told.ensures.few c.run_told.ensures.apart c.run_told.ensures.told c.run_told.ensures.done

pub returns-in-Err-clause-run : goal.returns-in-Err-clause-run
returns-in-Err-clause-run g c =
    inl (unopened c.laws.ensures _ (telling (g.S.Sources.told c.args.host.now.sources.now) (g.T.Targets.told c.args.host.now.targets.now)) (g.D.Depot.look c.args.depot)
    (g.D.Depot.look c.ended_at.result.depot) (g.D.Counted.faults c.args.depot) (g.D.Counted.faults c.ended_at.result.depot) c.ended_at.result.history c.faults_of.result c.in-Err.refusal
    (refused_at g.D.Fetch.Counted.faults (g.D.Depot.look c.args.depot) (g.D.Depot.look c.in-Err.depot) (g.D.Depot.look c.ended_at.result.depot)
    (g.D.Counted.faults c.args.depot) (g.D.Counted.faults c.in-Err.depot) (g.D.Counted.faults c.ended_at.result.depot) c.in-Err.refusal
    (ap g.D.Depot.look c.ended_at.ensures.depot) (ap g.D.Counted.faults c.ended_at.ensures.depot) c.in-Err.ensures.refused)
    c.ended_at.ensures.history (c.faults_of.ensures ∙ ap listed c.stop_of-stop.ensures.fetch))

pub returns-in-Err-clause-told : goal.returns-in-Err-clause-told
returns-in-Err-clause-told g c =
    verdict_refused c.ended_at.result.verdict.status c.ended_at.result.verdict.text (evidence g.D.Stage.Counted.faults g.D.Fetch.Counted.faults g.S.Shard.Counted.faults g.T.Target.Counted.faults g.S.Shard.Shard.told g.T.Target.Target.told)
    (telling (g.S.Sources.told c.args.host.now.sources.now) (g.T.Targets.told c.args.host.now.targets.now)) c.args.asked.now.part_size c.args.asked.now.workers c.args.host.now.moment
    (g.D.Depot.look c.args.depot) (g.D.Depot.look c.ended_at.result.depot) (g.D.Counted.faults c.args.depot) (g.D.Counted.faults c.ended_at.result.depot)
    c.args.asked.now.script c.ended_at.result.history c.faults_of.result c.in-Err.refusal
    (subst (IsTold c.ended_at.result.verdict.status c.ended_at.result.verdict.text) c.stop_of-stop.ensures.stop c.ended_at.ensures.told)
    (refused_at g.D.Fetch.Counted.faults (g.D.Depot.look c.args.depot) (g.D.Depot.look c.in-Err.depot) (g.D.Depot.look c.ended_at.result.depot)
    (g.D.Counted.faults c.args.depot) (g.D.Counted.faults c.in-Err.depot) (g.D.Counted.faults c.ended_at.result.depot) c.in-Err.refusal
    (ap g.D.Depot.look c.ended_at.ensures.depot) (ap g.D.Counted.faults c.ended_at.ensures.depot) c.in-Err.ensures.refused)
    c.ended_at.ensures.history (c.faults_of.ensures ∙ ap listed c.stop_of-stop.ensures.fetch)

pub returns-in-Ok-clause-counted : goal.returns-in-Ok-clause-counted
returns-in-Ok-clause-counted g c = counted_from (g.D.Counted.faults c.args.depot) (g.D.Counted.faults c.in-Ok.opening.depot) (g.D.Counted.faults c.run_told.result.0.depot) c.run_told.result.0.history c.in-Ok.ensures.counted c.run_told.ensures.counted

pub returns-in-Err-clause-counted : goal.returns-in-Err-clause-counted
returns-in-Err-clause-counted g c = counted_none (g.D.Counted.faults c.args.depot) (g.D.Counted.faults c.ended_at.result.depot) c.ended_at.result.history c.ended_at.ensures.history
    (subst (λ n. g.D.Counted.faults c.args.depot ≤ n) (sym (ap g.D.Counted.faults c.ended_at.ensures.depot)) c.in-Err.ensures.recounted)

pub returns-in-Err-clause-named : goal.returns-in-Err-clause-named
returns-in-Err-clause-named g c = named_none c.ended_at.result.history c.ended_at.ensures.history

pub run_told-requires-clause-calm : goal.run_told-requires-clause-calm
run_told-requires-clause-calm g c κs within = calm_enough (g.D.Depot.look c.in-Ok.opening.depot).sure

pub run_told-requires-clause-alone : goal.run_told-requires-clause-alone
run_told-requires-clause-alone g c κs within = refl

pub run_told-requires-clause-earlier : goal.run_told-requires-clause-earlier
run_told-requires-clause-earlier g c κs within = refl

pub returns-in-Ok-clause-complete : goal.returns-in-Ok-clause-complete
returns-in-Ok-clause-complete g c =
    let k : Kept = record { cluster = c.in-Ok.opening.cluster; root = c.in-Ok.opening.root; infos = c.in-Ok.opening.infos; plan = c.in-Ok.opening.progress; next = c.in-Ok.opening.next.number } in
    opens_well c.laws.ensures c.kept_laws.ensures c.quiet_laws.ensures _
    (telling (g.S.Sources.told c.args.host.now.sources.now) (g.T.Targets.told c.args.host.now.targets.now)) c.args.asked.now.part_size c.args.asked.now.workers c.args.host.now.moment c.args.asked.now.script
    (is_calm_by (g.D.Depot.look c.in-Ok.opening.depot).sure) (g.D.Depot.look c.args.depot) (g.D.Depot.look c.in-Ok.opening.depot) (g.D.Depot.look c.run_told.result.0.depot) k c.run_told.result.0.history c.run_told.result.1
    c.run_told.result.0.verdict.status c.run_told.result.0.verdict.text c.in-Ok.ensures.opened (taken_calm (g.D.Depot.look c.args.depot).sure (g.D.Depot.look c.in-Ok.opening.depot).sure c.in-Ok.ensures.spent)
    c.run_told.ensures.legal c.run_told.ensures.past c.run_told.ensures.shown c.run_told.ensures.once c.run_told.ensures.tested c.run_told.ensures.single c.run_told.ensures.removed
    c.run_told.ensures.calm c.run_told.ensures.made c.run_told.ensures.verified c.run_told.ensures.few c.run_told.ensures.apart c.run_told.ensures.named c.run_told.ensures.told c.run_told.ensures.done

pub returns-in-Err-clause-complete : goal.returns-in-Err-clause-complete
returns-in-Err-clause-complete g c =
    refused_well _ (telling (g.S.Sources.told c.args.host.now.sources.now) (g.T.Targets.told c.args.host.now.targets.now)) c.args.asked.now.part_size c.args.asked.now.workers c.args.host.now.moment c.args.asked.now.script
    (g.D.Depot.look c.args.depot) (g.D.Depot.look c.in-Err.depot) (g.D.Depot.look c.ended_at.result.depot) (g.D.Counted.faults c.args.depot) (g.D.Counted.faults c.in-Err.depot)
    c.ended_at.result.history c.faults_of.result c.ended_at.result.verdict.status c.ended_at.result.verdict.text c.in-Err.refusal
    (subst (IsTold c.ended_at.result.verdict.status c.ended_at.result.verdict.text) c.stop_of-stop.ensures.stop c.ended_at.ensures.told) c.in-Err.ensures.refused c.in-Err.ensures.sure

pub returns-in-Ok-clause-restored : goal.returns-in-Ok-clause-restored
returns-in-Ok-clause-restored g c =
    let k : Kept = record { cluster = c.in-Ok.opening.cluster; root = c.in-Ok.opening.root; infos = c.in-Ok.opening.infos; plan = c.in-Ok.opening.progress; next = c.in-Ok.opening.next.number } in
    opens_restored c.laws.ensures c.kept_laws.ensures _ (telling (g.S.Sources.told c.args.host.now.sources.now) (g.T.Targets.told c.args.host.now.targets.now))
    c.args.asked.now.part_size c.args.asked.now.workers c.args.host.now.moment c.args.asked.now.script
    (is_calm_by (g.D.Depot.look c.in-Ok.opening.depot).sure) (g.D.Depot.look c.args.depot) (g.D.Depot.look c.in-Ok.opening.depot) (g.D.Depot.look c.run_told.result.0.depot) k c.run_told.result.0.history c.run_told.result.1
    c.run_told.result.0.targets c.run_told.result.0.verdict.status c.in-Ok.ensures.opened (taken_calm (g.D.Depot.look c.args.depot).sure (g.D.Depot.look c.in-Ok.opening.depot).sure c.in-Ok.ensures.spent)
    c.run_told.ensures.legal c.run_told.ensures.past c.run_told.ensures.shown c.run_told.ensures.once c.run_told.ensures.tested c.run_told.ensures.single c.run_told.ensures.removed
    c.run_told.ensures.calm c.run_told.ensures.made c.run_told.ensures.verified c.run_told.ensures.few c.run_told.ensures.apart c.run_told.ensures.restored

pub returns-in-Err-clause-restored : goal.returns-in-Err-clause-restored
returns-in-Err-clause-restored g c =
    opens_none _ (telling (g.S.Sources.told c.args.host.now.sources.now) (g.T.Targets.told c.args.host.now.targets.now)) c.args.asked.now.part_size c.args.asked.now.workers c.args.host.now.moment c.args.asked.now.script (g.D.Depot.look c.args.depot)
    (g.D.Depot.look c.ended_at.result.depot) c.ended_at.result.history c.faults_of.result c.ended_at.result.targets c.ended_at.result.verdict.status c.ended_at.ensures.history c.ended_at.ensures.targets
