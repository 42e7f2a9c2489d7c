use Rattle.esr_quiet.proofs.law.no_unit_fails.Goals as goal

pub returns : goal.returns
returns c b = λ counts s log faults smooth shown. b.none_fail_where_free.ensures counts s log faults smooth (b.each_world_is_free.ensures s log smooth) shown
