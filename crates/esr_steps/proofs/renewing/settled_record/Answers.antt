use Rattle.std.proofs.Common.{ap, ◌∙◌, rules, subst, sym}
use Rattle.esr_formats.specs.Clusters.{cluster_of}
use Rattle.esr_ops.specs.Plan.{seat_of_code}
use Rattle.esr_record.specs.Record.{Record, AreNumbers}
use Rattle.esr_steps.proofs.Swapping.{raised_in, settled_ledger}
use Rattle.esr_steps.proofs.renewing.settled_record.Goals as goal

pub settle-requires-clause-above : goal.settle-requires-clause-above
settle-requires-clause-above g c same =
    (raised_in g.K.Told.start c.args.repo.now c.args.ticket c.requires.may.0 c.in_ok-cluster.cluster (seat_of_code c.seat-seat.result) c.in-Some.generation c.rules.ensures.ranked c.requires.may.1 c.requires.present
    (ap cluster_of c.in_ok-cluster.ensures ∙ c.record.ensures.record) (subst (λ (r : Record). AreNumbers r.pending r.safe r.term) (sym c.in_ok-cluster.ensures) c.record.ensures.numbers) c.seat-seat.ensures c.in-Some.is).above

pub settle-requires-clause-given : goal.settle-requires-clause-given
settle-requires-clause-given g c same =
    (raised_in g.K.Told.start c.args.repo.now c.args.ticket c.requires.may.0 c.in_ok-cluster.cluster (seat_of_code c.seat-seat.result) c.in-Some.generation c.rules.ensures.ranked c.requires.may.1 c.requires.present
    (ap cluster_of c.in_ok-cluster.ensures ∙ c.record.ensures.record) (subst (λ (r : Record). AreNumbers r.pending r.safe r.term) (sym c.in_ok-cluster.ensures) c.record.ensures.numbers) c.seat-seat.ensures c.in-Some.is).given

pub returns : goal.returns
returns g c = λ n own.
    settled_ledger g.K.Told.start c.args.repo.now c.args.ticket c.in_ok-cluster.cluster c.settle.new.self
    (seat_of_code c.seat-seat.result) c.in-Some.generation n (ap cluster_of c.in_ok-cluster.ensures ∙ c.record.ensures.record) c.seat-seat.ensures c.in-Some.is
    (raised_in g.K.Told.start c.args.repo.now c.args.ticket c.requires.may.0 c.in_ok-cluster.cluster (seat_of_code c.seat-seat.result) c.in-Some.generation c.rules.ensures.ranked c.requires.may.1 c.requires.present
    (ap cluster_of c.in_ok-cluster.ensures ∙ c.record.ensures.record) (subst (λ (r : Record). AreNumbers r.pending r.safe r.term) (sym c.in_ok-cluster.ensures) c.record.ensures.numbers) c.seat-seat.ensures c.in-Some.is)
    (search rules) own
