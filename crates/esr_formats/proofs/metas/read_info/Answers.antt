use Rattle.esr_meta.specs.Info.{info_text, info_from}
use Rattle.esr_formats.specs.Infos.{info_of_code, code_info, info_kind}
use Rattle.esr_formats.proofs.ByKind.{IsRead-kind_by}
use Rattle.esr_formats.proofs.metas.read_info.Goals as goal

pub returns-clause-read : goal.returns-clause-read
unfolding info_kind
returns-clause-read c = IsRead-kind_by code_info info_of_code info_text info_from c.args.bytes.now c.info_read.result c.info_read.ensures.exact
