use Rattle.esr_meta.proofs.global.global_value.Goals as goal

pub returns-clause-valid : goal.returns-clause-valid
returns-clause-valid c = record { moment = c.number.ensures.range; name = c.as_str.ensures.rule; uuid = c.id_value.ensures.range }
