use Rattle.esr_names.specs.IdTextLaws.{read_id-id_text}
use Rattle.esr_names.proofs.ids.id_reads_back.Goals as goal

pub returns : goal.returns
returns c = λ n fits. read_id-id_text (record { number = n }) fits
