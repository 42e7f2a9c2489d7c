use Rattle.std.proofs.Common.{sym, ap, ◌∙◌, subst, ℕ, ◌<◌, ◌^◌}
use Rattle.esr_formats.specs.Clusters.{cluster_of}
use Rattle.esr_model.specs.Values.{ClusterRecord}
use Rattle.esr_core.specs.Entry.{ElectStep}
use Rattle.esr_repo.specs.Fresh.{free_fresh}
use Rattle.esr_desk.specs.Refusals.{refusal_of}
use Rattle.esr_desk.specs.Start.{world_of}
use Rattle.esr_client.proofs.Elections.{elect_room, elect_record, may_refuse_elect}
use Rattle.esr_client.proofs.election.elect.Goals as goal

pub check-requires-clause-fresh : goal.check-requires-clause-fresh
check-requires-clause-fresh g c = free_fresh g.K.Told.start c.args.repo.now 0 ElectStep tt

pub refuse-requires-clause-may : goal.refuse-requires-clause-may
refuse-requires-clause-may g c =
    may_refuse_elect g.K.Told.start c.check.new.self c.in_ok-cluster.cluster c.in-Err.refusal (refusal_of c.entry_refusal.result)
    (ap cluster_of c.in_ok-cluster.ensures ∙ c.record.ensures.record) c.in-Err.ensures.answer c.entry_refusal.ensures.terms

pub elected-renewed-requires-clause-next : goal.elected-renewed-requires-clause-next
elected-renewed-requires-clause-next g c =
    (elect_record c.in_ok-cluster.cluster c.elect.new.self (world_of g.K.Told.start c.check.new.self) c.in-Ok.term (ap cluster_of c.in_ok-cluster.ensures ∙ c.record.ensures.record) c.in-Ok.ensures.ok.0 c.in-Ok.ensures.ok.1).0

pub elected-renewed-requires-clause-record : goal.elected-renewed-requires-clause-record
elected-renewed-requires-clause-record g c =
    (elect_record c.in_ok-cluster.cluster c.elect.new.self (world_of g.K.Told.start c.check.new.self) c.in-Ok.term (ap cluster_of c.in_ok-cluster.ensures ∙ c.record.ensures.record) c.in-Ok.ensures.ok.0 c.in-Ok.ensures.ok.1).1

pub elected-renewed-requires-clause-room : goal.elected-renewed-requires-clause-room
elected-renewed-requires-clause-room g c =
    elect_room c.in_ok-cluster.cluster c.in-Ok.term c.in-Ok.ensures.answer
    (subst (λ (n : ℕ). n < 2 ^ 63) (c.term-term.ensures.term ∙ sym (ap (λ (r : ClusterRecord). r.ledger.term) (ap cluster_of c.in_ok-cluster.ensures ∙ c.record.ensures.record))) c.term-term.ensures.most)

pub returns-clause-range : goal.returns-clause-range
returns-clause-range g c =
    elect_room c.in_ok-cluster.cluster c.in-Ok.term c.in-Ok.ensures.answer
    (subst (λ (n : ℕ). n < 2 ^ 63) (c.term-term.ensures.term ∙ sym (ap (λ (r : ClusterRecord). r.ledger.term) (ap cluster_of c.in_ok-cluster.ensures ∙ c.record.ensures.record))) c.term-term.ensures.most)
