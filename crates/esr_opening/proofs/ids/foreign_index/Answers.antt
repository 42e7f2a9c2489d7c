use Rattle.std.proofs.Common.{Option, option_map, sym, ap, ◌∙◌}
use Rattle.esr_names.specs.declared.ids.Id.{Id}
use Rattle.esr_formats.specs.Ids.{number_of}
use Rattle.esr_opening.proofs.Below.{found_here, none_here}
use Rattle.esr_opening.proofs.ids.foreign_index.Goals as goal

pub returns-in-Some : goal.returns-in-Some
returns-in-Some c =
    found_here c.args.bound.number c.args.indices.now c.loop-index.index-index c.index-item.result c.in-Some.id.number c.loop-index-test.true c.index-item.is
    (sym (ap (λ (o : Option Id). option_map number_of o) c.in-Some.is) ∙ c.foreign_of.ensures)
    ∙ sym c.loop-index.invariant

pub loop-index-preserved : goal.loop-index-preserved
loop-index-preserved c =
    c.loop-index.invariant
    ∙ none_here c.args.bound.number c.args.indices.now c.loop-index.index-index c.index-item.result c.loop-index-test.true c.index-item.is (sym (ap (λ (o : Option Id). option_map number_of o) c.in_default.is) ∙ c.foreign_of.ensures)
