use Rattle.esr_core.specs.Laws.StepFrames.{step_frame, caller_stays}
use Rattle.esr_core.proofs.each_step_leaves_the_others.Goals as goal

pub returns : goal.returns
returns c = record { frame = step_frame; caller = caller_stays }
