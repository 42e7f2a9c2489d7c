use Rattle.std.proofs.Common.{Option, option_map, sym, ap, ◌∙◌}
use Rattle.esr_names.specs.declared.ids.Id.{Id}
use Rattle.esr_root.specs.Root.{Root}
use Rattle.esr_formats.specs.Ids.{number_of}
use Rattle.esr_opening.proofs.Below.{uuid_first, index_first}
use Rattle.esr_opening.proofs.ids.foreign_id.Goals as goal

pub returns-in-Some : goal.returns-in-Some
returns-in-Some c =
    uuid_first c.args.bound.number c.args.root.now c.as_slice.result.now c.in-Some.uuid.number (c.as_slice.ensures.items ∙ ap (λ (r : Root). r.snapshots) c.root.view_is)
    (sym (ap (λ (o : Option Id). option_map number_of o) c.in-Some.is) ∙ c.foreign_uuid.ensures)

pub returns-in-None : goal.returns-in-None
returns-in-None c =
    index_first c.args.bound.number c.args.root.now c.as_slice.result.now c.as_slice-in-None.result.now (option_map number_of c.foreign_index.result) (c.as_slice.ensures.items ∙ ap (λ (r : Root). r.snapshots) c.root.view_is)
    (c.as_slice-in-None.ensures.items ∙ ap (λ (r : Root). r.indices) c.root.view_is) (sym (ap (λ (o : Option Id). option_map number_of o) c.in-None.is) ∙ c.foreign_uuid.ensures) c.foreign_index.ensures
