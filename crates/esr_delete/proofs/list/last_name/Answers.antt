use Rattle.std.proofs.Common.{Some, option_map, sym, ap, ◌∙◌}
use Rattle.std.specs.Option.{option_copied}
use Rattle.esr_depot.specs.declared.listing.Listed.{Listed}
use Rattle.esr_delete.proofs.Listing.{last_is}
use Rattle.esr_delete.proofs.list.last_name.Goals as goal

pub returns-in-Some : goal.returns-in-Some
returns-in-Some c = ap Some c.as_str.ensures.text ∙ ap (option_map (λ (l : Listed). l.name)) (sym (ap option_copied c.in-Some.is) ∙ c.last.ensures.value) ∙ last_is c.args.page.now

pub returns-in-None : goal.returns-in-None
returns-in-None c = ap (option_map (λ (l : Listed). l.name)) (sym (ap option_copied c.in-None.is) ∙ c.last.ensures.value) ∙ last_is c.args.page.now
