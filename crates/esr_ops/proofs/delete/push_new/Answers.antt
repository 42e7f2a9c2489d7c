use Rattle.std.proofs.Common.{List, [], map, ap, sym, ◌∙◌, subst}
use Rattle.esr_names.specs.declared.ids.Id.{Id}
use Rattle.esr_model.specs.Shelf.{names_uuid}
use Rattle.esr_formats.specs.Ids.{number_of}
use Rattle.esr_record.specs.Op.{AreUuids}
use Rattle.esr_record.specs.UuidLists.{AreUuids_push}
use Rattle.esr_ops.specs.Tests.{with_uuid-there}
use Rattle.esr_ops.proofs.NamedUuids.{pushed_new, fresh_id}
use Rattle.esr_ops.proofs.delete.push_new.Goals as goal

pub returns-then-names-clause-named : goal.returns-then-names-clause-named
returns-then-names-clause-named c =
    sym (with_uuid-there (map number_of c.args.uuids.now) c.args.uuid.number
    (ap (λ (us : List Id). names_uuid (map number_of us) c.args.uuid.number) (sym c.as_slice.ensures) ∙ sym c.names.ensures ∙ c.if-names.true))

pub returns-clause-named : goal.returns-clause-named
returns-clause-named c =
    let apart = ap (λ (us : List Id). names_uuid (map number_of us) c.args.uuid.number) (sym c.as_slice.ensures) ∙ sym c.names.ensures ∙ c.if-names.false in
    pushed_new c.args.uuids.now c.args.uuid apart c.push.new.self c.in_ok-push.ensures.ok

pub returns-clause-valid : goal.returns-clause-valid
returns-clause-valid c valid =
    let apart = ap (λ (us : List Id). names_uuid (map number_of us) c.args.uuid.number) (sym c.as_slice.ensures) ∙ sym c.names.ensures ∙ c.if-names.false in
    subst (AreUuids []) (sym c.in_ok-push.ensures.ok) (AreUuids_push c.args.uuids.now c.args.uuid valid c.rule.ensures (fresh_id c.args.uuids.now c.args.uuid apart))
