use Rattle.std.proofs.Common.{ap}
use Rattle.esr_record.specs.Record.{Record}
use Rattle.esr_formats.specs.Clusters.{cluster_of}
use Rattle.esr_repo.proofs.swap.with_ops.Goals as goal

pub returns-clause-ledger : goal.returns-clause-ledger
returns-clause-ledger c = ap (λ (r : Record). (cluster_of r).ledger) c.cluster.view_is
