use Rattle.std.proofs.Common.{subst}
use Rattle.esr_meta.specs.Index.{IsIndexMeta}
use Rattle.esr_formats.proofs.ByKind.{IfOk-text}
use Rattle.esr_formats.proofs.MetaTexts.{index_meta_kind-text, index_meta_reads_back}
use Rattle.esr_formats.proofs.metas.write_index_meta.Goals as goal

pub returns-clause-text : goal.returns-clause-text
returns-clause-text c = IfOk-text c.index_meta_text.result _ _ (index_meta_kind-text c.args.meta.now) c.index_meta_text.ensures.text

pub returns-clause-reads : goal.returns-clause-reads
returns-clause-reads c = index_meta_reads_back c.args.meta.now (subst IsIndexMeta c.meta.view_is c.meta.invariant)
