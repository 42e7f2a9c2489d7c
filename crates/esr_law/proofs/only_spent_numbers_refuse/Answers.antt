use Rattle.esr_law.proofs.Spending.{spent_so}
use Rattle.esr_law.proofs.only_spent_numbers_refuse.Goals as goal

pub returns : goal.returns
returns c = λ f size w log m refusal first legal h is. spent_so f size (c.asks_draw_few.ensures f) (c.each_refusal_has_its_cause.ensures f size) (c.each_step_has_its_maker.ensures f size) w log m refusal first legal h is
