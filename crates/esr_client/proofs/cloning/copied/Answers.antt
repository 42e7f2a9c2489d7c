use Rattle.esr_desk.specs.Start.{world_of}
use Rattle.esr_client.proofs.Accepts.{asked_in}
use Rattle.esr_client.proofs.cloning.copied.Goals as goal

pub returns : goal.returns
returns g c =
    c.clonable.ensures (world_of g.K.Told.start c.args.repo.now)
    (asked_in (world_of g.K.Told.start c.args.repo.now) c.plan.result.now c.safe_root.result.now c.term.result c.next_id-next.result.number c.plan.ensures c.safe_root.ensures c.term.ensures.term c.next_id-next.ensures.number)
