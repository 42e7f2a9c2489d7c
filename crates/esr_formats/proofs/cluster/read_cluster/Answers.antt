use Rattle.esr_record.specs.Reading.{record_from}
use Rattle.esr_record.specs.Text.{record_text}
use Rattle.esr_formats.specs.Clusters.{cluster_of, code_cluster, cluster_kind}
use Rattle.esr_formats.proofs.ByKind.{IsRead-kind_by}
use Rattle.esr_formats.proofs.cluster.read_cluster.Goals as goal

pub returns-clause-read : goal.returns-clause-read
unfolding cluster_kind
returns-clause-read c = IsRead-kind_by code_cluster cluster_of record_text record_from c.args.bytes.now c.record_read.result c.record_read.ensures.exact
