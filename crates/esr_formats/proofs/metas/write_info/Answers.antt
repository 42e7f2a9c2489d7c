use Rattle.std.proofs.Common.{subst}
use Rattle.esr_meta.specs.Info.{IsInfo}
use Rattle.esr_formats.proofs.ByKind.{IfOk-text}
use Rattle.esr_formats.proofs.MetaTexts.{info_kind-text, info_reads_back}
use Rattle.esr_formats.proofs.metas.write_info.Goals as goal

pub returns-clause-text : goal.returns-clause-text
returns-clause-text c = IfOk-text c.info_text.result _ _ (info_kind-text c.args.info.now) c.info_text.ensures.text

pub returns-clause-reads : goal.returns-clause-reads
returns-clause-reads c = info_reads_back c.args.info.now (subst IsInfo c.info.view_is c.info.invariant)
