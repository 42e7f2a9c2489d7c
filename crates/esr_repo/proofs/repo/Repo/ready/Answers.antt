use Rattle.std.proofs.Common.{ap, ◌∙◌, w64, rules}
use Rattle.std.proofs.lemmas.Int.{to_z-of_z}
use Rattle.esr_formats.specs.Clusters.{count_of}
use Rattle.esr_progress.specs.Lowest.{ok_maps}
use Rattle.esr_desk.specs.Start.{world_of}
use Rattle.esr_repo.proofs.ReadyUnits.{given_in}
use Rattle.esr_repo.proofs.repo.Repo.ready.Goals as goal

pub returns-clause-next : goal.returns-clause-next
returns-clause-next g c =
    let w = world_of g.K.Told.start c.args.self.now in
    ok_maps c.next_unit.result c.next_unit.ensures.unit
    (λ o h.
    h w (given_in w c.plan.result.now c.safe_root-root.result.now _ c.term.result c.plan.ensures c.safe_root-root.ensures (ap count_of (to_z-of_z w64 c.safe.result (search rules)) ∙ c.safe.ensures.count) c.term.ensures.term))
