use Rattle.esr_repo.proofs.Grounds.{grounds_of}
use Rattle.esr_repo.proofs.repo.Repo.grounds.Goals as goal

pub returns : goal.returns
returns g c = grounds_of g.K.Told.start c.args.self.now c.refusals_are_of_their_steps.ensures c.is_legal.ensures c.never_fails.ensures c.rules.ensures.of_ops c.rules.ensures.read_tracked
