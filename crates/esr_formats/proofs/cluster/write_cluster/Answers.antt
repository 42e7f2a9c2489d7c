use Rattle.std.proofs.Common.{subst}
use Rattle.esr_record.specs.Record.{IsRecord}
use Rattle.esr_formats.proofs.ByKind.{IfOk-text}
use Rattle.esr_formats.proofs.RecordTexts.{cluster_kind-text, cluster_reads_back}
use Rattle.esr_formats.proofs.cluster.write_cluster.Goals as goal

whole : (c : goal.After-record_text) → IsRecord c.args.cluster.now
whole c = subst IsRecord c.cluster.view_is (record { numbers = c.cluster.invariant; ops = c.as_slice-ops.ensures.valid })

pub returns-clause-text : goal.returns-clause-text
returns-clause-text c = IfOk-text c.record_text.result _ _ (cluster_kind-text c.args.cluster.now (whole c)) c.record_text.ensures.text

pub returns-clause-reads : goal.returns-clause-reads
returns-clause-reads c = cluster_reads_back c.args.cluster.now (whole c)
