use Rattle.esr_opening.proofs.Fitting.{in_order}
use Rattle.esr_opening.proofs.laws.opened_worlds_are_in_order.Goals as goal

pub returns : goal.returns
returns c = λ held cluster root fit back few. in_order held cluster root fit back few c.opened_worlds_are_tracked.ensures c.opened_worlds_are_ranked.ensures
