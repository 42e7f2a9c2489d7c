use Rattle.esr_readers.proofs.ReadersStay.{asked_number, asked_apart, asked_one, ops_rise, readers_are}
use Rattle.esr_readers.proofs.readers_are_of_their_ask.Goals as goal

pub returns : goal.returns
returns c = record {
  of = readers_are c.steps_keep_order.ensures c.answers_tell_their_steps.ensures.began;
  apart = λ f size w m o uuid indices r q t a e. asked_apart c.answers_tell_their_steps.ensures.began f size w m o uuid indices a e t r q;
  one_id = λ f size w m o uuid indices r q a e. asked_one c.answers_tell_their_steps.ensures.began f size w m o uuid indices a e r q;
  numbered = asked_number c.answers_tell_their_steps.ensures.began;
  rises = ops_rise c.steps_keep_order.ensures;
}
