use Rattle.esr_repo.specs.Repo.{Kept}
use Rattle.esr_repo.proofs.Pasts.{begun_whole, same_infos}
use Rattle.esr_repo.proofs.Failing.{begun_faults}
use Rattle.esr_repo.proofs.Calms.{calm_begun}
use Rattle.esr_repo.proofs.repo.Repo.from_opening.Goals as goal

pub new-requires-clause-whole : goal.new-requires-clause-whole
new-requires-clause-whole g c =
    let k : Kept = record { cluster = c.args.opening.cluster; root = c.args.opening.root; infos = c.args.opening.infos; plan = c.args.opening.progress; next = c.args.opening.next.number } in
    same_infos k c.into_vec.result.items c.into_vec.ensures (begun_whole (g.D.Depot.look c.args.opening.depot) g.K.Told.start g.K.Told.clock g.K.Told.past k c.requires.begun)

pub new-requires-clause-faults : goal.new-requires-clause-faults
new-requires-clause-faults g c = begun_faults g.K.Told.faults (g.D.Counted.faults c.args.opening.depot) c.requires.counted

pub new-requires-clause-calm : goal.new-requires-clause-calm
new-requires-clause-calm g c = calm_begun g.K.Told.start.quiet (g.D.Depot.look c.args.opening.depot).sure c.requires.calm
