use Rattle.esr_meta.specs.Global.{global_text, global_from}
use Rattle.esr_formats.specs.Globals.{global_of_code, code_global, global_kind}
use Rattle.esr_formats.proofs.ByKind.{IsRead-kind_by}
use Rattle.esr_formats.proofs.metas.read_global.Goals as goal

pub returns-clause-read : goal.returns-clause-read
unfolding global_kind
returns-clause-read c = IsRead-kind_by code_global global_of_code global_text global_from c.args.bytes.now c.global_read.result c.global_read.ensures.exact
