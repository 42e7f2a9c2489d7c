use Rattle.std.proofs.Common.{rules, ap, ◌∙◌}
use Rattle.esr_turns.proofs.Keeps.{looks}
use Rattle.esr_turns.proofs.lock.TurnLock.wait.Goals as goal

pub load-serving-requires : goal.load-serving-requires
load-serving-requires g c = (search rules, search rules, looks _ _ _ _ _ _ c.args.ticket (ap (λ m. m.0.stage) c.loop.invariant.1 ∙ c.requires.waits.0))
