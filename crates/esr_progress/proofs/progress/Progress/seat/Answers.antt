use Rattle.std.proofs.Common.{ap, ◌∙◌}
use Rattle.std.specs.FinMap as fin
use Rattle.esr_ops.specs.Plan.{Plan}
use Rattle.esr_progress.proofs.progress.Progress.seat.Goals as goal

pub returns : goal.returns
returns c = c.seat.ensures ∙ ap (λ (p : Plan). fin.get p.seats c.args.ticket) c.self.view_is
