use Rattle.std.proofs.Common.{ℕ, List, [], map, get_or, sym, ap, ◌∙◌, subst}
use Rattle.std.proofs.lemmas.List.{drop_all, get_or_default}
use Rattle.esr_names.specs.declared.ids.Id.{Id}
use Rattle.esr_formats.specs.Ids.{number_of}
use Rattle.esr_record.specs.Op.{AreUuids}
use Rattle.esr_ops.specs.Deletes.{with_uuids}
use Rattle.esr_ops.proofs.NamedUuids.{uuids_step}
use Rattle.esr_ops.proofs.delete.with_uuids.Goals as goal

pub loop-uuid-init : goal.loop-uuid-init
loop-uuid-init c = (
  ap (λ (us : List Id). with_uuids (map number_of us) (map number_of c.args.uuids.now)) (sym c.in_ok-all.ensures),
  subst (AreUuids []) (sym c.in_ok-all.ensures) c.requires,
)

pub loop-uuid-preserved : goal.loop-uuid-preserved
loop-uuid-preserved c =
    let xs : List Id = c.args.uuids.now in
    let i : ℕ = c.loop-uuid.uuid-index in
    let none : Id = record { number = 0 } in
    let x : Id = get_or xs i none in (
      uuids_step c.args.known.now xs c.loop-uuid.all c.push_new.new.uuids i x c.loop-uuid-test.true (get_or_default xs i none x c.loop-uuid-test.true) c.loop-uuid.invariant.0 c.in_ok-push_new.ensures.named,
      c.in_ok-push_new.ensures.valid c.loop-uuid.invariant.1,
    )

pub returns-clause-named : goal.returns-clause-named
returns-clause-named c =
    sym (c.loop-uuid.invariant.0 ∙ ap (λ (us : List Id). with_uuids (map number_of c.loop-uuid.all) (map number_of us)) (drop_all c.loop-uuid.uuid-index c.args.uuids.now c.loop-uuid-test.false))

pub returns-clause-valid : goal.returns-clause-valid
returns-clause-valid c = c.loop-uuid.invariant.1
