use Rattle.std.proofs.Common.{List, sym, ap, ◌∙◌, subst, w64, rules}
use Rattle.std.proofs.lemmas.Int.{to_z-of_z}
use Rattle.esr_model.specs.Values.{ClusterRecord}
use Rattle.esr_core.specs.Entry.{Moment}
use Rattle.esr_record.specs.Record.{Record, AreNumbers}
use Rattle.esr_formats.specs.Clusters.{count_of, cluster_of}
use Rattle.esr_ops.specs.Plan.{seat_of_code}
use Rattle.esr_desk.specs.Conditions.{CanRaise}
use Rattle.esr_desk.specs.Refusals.{refusal_of}
use Rattle.esr_desk.specs.Start.{world_of, ticket_of}
use Rattle.esr_steps.proofs.Swapping.{may_refuse_raise, raise_present, raise_room, raised_record, raised_ticket, raise_left}
use Rattle.esr_steps.proofs.ending.raise.Goals as goal

pub refuse-requires-clause-may : goal.refuse-requires-clause-may
refuse-requires-clause-may g c =
    may_refuse_raise g.K.Told.start c.check.new.self c.args.ticket (seat_of_code c.seat-own.result) c.in_ok-cluster.cluster c.in-Err.refusal (refusal_of c.entry_refusal.result)
    (subst (λ (log : List Moment). CanRaise g.K.Told.start (ticket_of g.K.Told.start log c.args.ticket)) (sym c.in_ok-check.ensures.step.0) c.requires.may)
    c.seat-own.ensures (ap cluster_of c.in_ok-cluster.ensures ∙ c.record-2.ensures.record) c.in-Err.ensures.answer c.entry_refusal.ensures.stale c.entry_refusal.ensures.spent

pub raised-requires-clause-present : goal.raised-requires-clause-present
raised-requires-clause-present g c =
    raise_present g.K.Told.start c.check.new.self c.args.ticket (seat_of_code c.seat-own.result) c.in_ok-cluster.cluster c.in_default.field-0 c.seat-own.ensures
    (ap cluster_of c.in_ok-cluster.ensures ∙ c.record-2.ensures.record) c.in_default.ensures.answer

pub raised-requires-clause-pending : goal.raised-requires-clause-pending
raised-requires-clause-pending g c =
    c.count-generation.ensures ∙ ap count_of (to_z-of_z w64 c.behind-repo.inside.pending (search rules)) ∙ ap (λ (r : Record). count_of r.pending) c.behind-repo.view_is ∙ ap (λ (r : ClusterRecord). r.ledger.pending) c.record.ensures.record

pub raised-requires-clause-room : goal.raised-requires-clause-room
raised-requires-clause-room g c =
    raise_room (world_of g.K.Told.start c.check.new.self) (seat_of_code c.seat-own.result).term c.in_ok-cluster.cluster c.in_default.field-0 c.count-generation.result (ap cluster_of c.in_ok-cluster.ensures ∙ c.record-2.ensures.record)
    (subst (λ (r : Record). AreNumbers r.pending r.safe r.term) (sym c.in_ok-cluster.ensures) c.record-2.ensures.numbers) c.in_default.ensures.answer
    (c.count-generation.ensures ∙ ap count_of (to_z-of_z w64 c.behind-repo.inside.pending (search rules)) ∙ ap (λ (r : Record). count_of r.pending) c.behind-repo.view_is ∙ ap (λ (r : ClusterRecord). r.ledger.pending) c.record.ensures.record)

pub raised-requires-clause-record : goal.raised-requires-clause-record
raised-requires-clause-record g c =
    raised_record (world_of g.K.Told.start c.check.new.self) c.args.ticket c.in_ok-cluster.cluster c.raise.new.self c.in_default.field-0 (ap cluster_of c.in_ok-cluster.ensures ∙ c.record-2.ensures.record)
    (subst (λ (r : Record). AreNumbers r.pending r.safe r.term) (sym c.in_ok-cluster.ensures) c.record-2.ensures.numbers) c.in_default.ensures.ok.0 c.in_default.ensures.ok.1

pub returns-in_err-swap-clause-kept : goal.returns-in_err-swap-clause-kept
returns-in_err-swap-clause-kept g c = raise_left g.K.Told.start c.args.repo.now c.swap.new.self c.args.ticket c.from_residual-in_err-swap.result c.requires.may (search rules)

pub returns-clause-range : goal.returns-clause-range
returns-clause-range g c =
    raise_room (world_of g.K.Told.start c.check.new.self) (seat_of_code c.seat-own.result).term c.in_ok-cluster.cluster c.in_default.field-0 c.count-generation.result (ap cluster_of c.in_ok-cluster.ensures ∙ c.record-2.ensures.record)
    (subst (λ (r : Record). AreNumbers r.pending r.safe r.term) (sym c.in_ok-cluster.ensures) c.record-2.ensures.numbers) c.in_default.ensures.answer
    (c.count-generation.ensures ∙ ap count_of (to_z-of_z w64 c.behind-repo.inside.pending (search rules)) ∙ ap (λ (r : Record). count_of r.pending) c.behind-repo.view_is ∙ ap (λ (r : ClusterRecord). r.ledger.pending) c.record.ensures.record)

pub returns-clause-own : goal.returns-clause-own
returns-clause-own g c =
    raised_ticket g.K.Told.start c.args.repo.now c.check.new.self c.swap.new.self c.args.ticket c.count-generation.result c.in_ok-check.ensures.step.0
    (c.count-generation.ensures ∙ ap count_of (to_z-of_z w64 c.behind-repo.inside.pending (search rules)) ∙ ap (λ (r : Record). count_of r.pending) c.behind-repo.view_is ∙ ap (λ (r : ClusterRecord). r.ledger.pending) c.record.ensures.record)
    c.requires.may c.in_ok-swap.ensures.step
