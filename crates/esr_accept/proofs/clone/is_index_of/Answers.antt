use Rattle.std.proofs.Common.{Bool, List, ◌&&◌, map, sym, ap, ◌∙◌}
use Rattle.esr_names.specs.declared.ids.Id.{Id}
use Rattle.esr_model.specs.Shelf.{names_uuid}
use Rattle.esr_formats.specs.Ids.{number_of}
use Rattle.esr_ops.specs.Lists.{same_bytes-is}
use Rattle.esr_accept.proofs.clone.is_index_of.Goals as goal

pub returns-then-eq : goal.returns-then-eq
returns-then-eq c =
    let x = c.args.index.now in
    c.names.ensures ∙ ap (λ (us : List Id). names_uuid (map number_of us) c.args.uuid.number) c.as_slice.ensures
    ∙ ap (λ (b : Bool). b && names_uuid (map number_of x.snapshots) c.args.uuid.number) (sym (same_bytes-is x.name c.args.name.now ∙ sym c.eq.ensures ∙ c.if-eq.true))

pub returns-else-eq : goal.returns-else-eq
returns-else-eq c =
    let x = c.args.index.now in
    c.if-eq.false ∙ ap (λ (b : Bool). b && names_uuid (map number_of x.snapshots) c.args.uuid.number) (sym (same_bytes-is x.name c.args.name.now ∙ sym c.eq.ensures ∙ c.if-eq.false))
