use Rattle.esr_solo.proofs.Stepping.{never}
use Rattle.esr_solo.proofs.desk.SoloDesk.never_fails.Goals as goal

pub returns : goal.returns
returns g c = λ quiet. never g.K.Told.start.quiet c.self.inside.repo c.args.self.now c.self.inside.left c.self.view_is c.self.invariant.0 c.never_fails.ensures quiet
