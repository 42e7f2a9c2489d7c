use Rattle.std.proofs.Common.{List, [], map, option_map, sym, ap, ◌∙◌, subst}
use Rattle.std.proofs.lemmas.List.{drop_all}
use Rattle.esr_names.specs.declared.ids.Id.{Id}
use Rattle.esr_model.specs.Values.{Bytes}
use Rattle.esr_formats.specs.Ids.{number_of}
use Rattle.esr_formats.specs.Roots.{root_of}
use Rattle.esr_record.specs.Op.{AreUuids}
use Rattle.esr_accept.specs.AskedDeletes.{uuids_named}
use Rattle.esr_accept.proofs.NamedUuids.{names_step}
use Rattle.esr_accept.proofs.delete.uuids_named.Goals as goal

pub loop-name-init : goal.loop-name-init
loop-name-init c = (
  ap (λ (us : List Id). uuids_named (root_of c.args.root.now) c.args.ops.now (map number_of us) c.args.names.now) (sym c.new-uuids.ensures),
  subst (AreUuids []) (sym c.new-uuids.ensures) tt,
)

pub loop-name-preserved : goal.loop-name-preserved
loop-name-preserved c = (
  names_step (root_of c.args.root.now) c.args.ops.now c.args.names.now c.loop-name.uuids c.add.new.uuids c.loop-name.name-index c.name-item.result (option_map number_of c.name_user.result) c.loop-name-test.true c.name-item.is
      c.loop-name.invariant.0 c.name_user.ensures c.in_ok-add.ensures.named,
  c.in_ok-add.ensures.valid c.loop-name.invariant.1,
)

pub returns-clause-named : goal.returns-clause-named
returns-clause-named c =
    sym (c.loop-name.invariant.0 ∙ ap (λ (names : List Bytes). uuids_named (root_of c.args.root.now) c.args.ops.now (map number_of c.loop-name.uuids) names) (drop_all c.loop-name.name-index c.args.names.now c.loop-name-test.false))

pub returns-clause-valid : goal.returns-clause-valid
returns-clause-valid c = c.loop-name.invariant.1
