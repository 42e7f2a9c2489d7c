use Rattle.esr_meta.specs.Index.{index_meta_text, index_meta_from}
use Rattle.esr_formats.specs.IndexMetas.{index_meta_of, code_index_meta, index_meta_kind}
use Rattle.esr_formats.proofs.ByKind.{IsRead-kind_by}
use Rattle.esr_formats.proofs.metas.read_index_meta.Goals as goal

pub returns-clause-read : goal.returns-clause-read
unfolding index_meta_kind
returns-clause-read c = IsRead-kind_by code_index_meta index_meta_of index_meta_text index_meta_from c.args.bytes.now c.index_meta_read.result c.index_meta_read.ensures.exact
