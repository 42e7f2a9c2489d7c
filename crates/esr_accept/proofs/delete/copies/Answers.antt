use Rattle.std.proofs.Common.{map, option_map, sym, ap, ◌∙◌}
use Rattle.esr_formats.specs.Ids.{number_of}
use Rattle.esr_accept.specs.AskedDeletes.{copies}
use Rattle.esr_accept.proofs.delete.copies.Goals as goal

pub returns-in-Some : goal.returns-in-Some
returns-in-Some c = c.names.ensures ∙ ap (copies (map number_of c.args.uuids.now)) (sym (ap (option_map number_of) c.in-Some.is) ∙ c.source.ensures)

pub returns-in-None : goal.returns-in-None
returns-in-None c = ap (copies (map number_of c.args.uuids.now)) (sym (ap (option_map number_of) c.in-None.is) ∙ c.source.ensures)
