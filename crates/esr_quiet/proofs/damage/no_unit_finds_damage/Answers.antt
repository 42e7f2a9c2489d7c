use Rattle.esr_quiet.proofs.UnitDamage.{none_damaged}
use Rattle.esr_quiet.proofs.damage.no_unit_finds_damage.Goals as goal

pub returns : goal.returns
returns c b = λ counts s log faults over shown. none_damaged s log (b.each_world_is_lawful.ensures s log over) counts faults shown
