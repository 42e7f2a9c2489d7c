use Rattle.esr_quiet.proofs.law.only_rules_refuse.Goals as goal

pub returns : goal.returns
returns c = λ s log smooth. c.rules_refuse_where_free.ensures s log smooth (c.each_world_is_free.ensures s log smooth)
