use Rattle.esr_readers.proofs.ReadersStay.{is_given, stays_there}
use Rattle.esr_readers.proofs.readers_stay_as_given.Goals as goal

pub returns : goal.returns
returns c = record { given = is_given c.answers_tell_their_steps.ensures.gave; stay = stays_there c.steps_keep_order.ensures }
