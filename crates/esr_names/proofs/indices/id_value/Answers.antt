use Rattle.esr_names.proofs.indices.id_value.Goals as goal

pub unreachable-requires : goal.unreachable-requires
unreachable-requires c = c.in_default.ensures.cases.0 c.id_text-bytes.ensures.utf8
