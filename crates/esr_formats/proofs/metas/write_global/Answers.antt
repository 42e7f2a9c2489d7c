use Rattle.std.proofs.Common.{arith}
use Rattle.esr_meta.specs.Global.{IsGlobal}
use Rattle.esr_formats.proofs.ByKind.{IfOk-text}
use Rattle.esr_formats.proofs.MetaTexts.{global_kind-text, global_reads_back}
use Rattle.esr_formats.proofs.metas.write_global.Goals as goal

pub returns-clause-text : goal.returns-clause-text
returns-clause-text c = IfOk-text c.global_text.result _ _ (global_kind-text c.args.meta.now) c.global_text.ensures.text

whole : (c : goal.After-global_text) → IsGlobal c.args.meta.now
whole c = record { moment = omega arith; name = c.as_str-name.ensures.rule; uuid = omega arith }

pub returns-clause-reads : goal.returns-clause-reads
returns-clause-reads c = global_reads_back c.args.meta.now (whole c)
