use Rattle.std.proofs.Common.{map, option_map, sym, ap, ◌∙◌}
use Rattle.esr_core.specs.Deletes.{with_uuid}
use Rattle.esr_formats.specs.Ids.{number_of}
use Rattle.esr_accept.proofs.delete.add.Goals as goal

pub returns-in_default-clause-named : goal.returns-in_default-clause-named
returns-in_default-clause-named c = ap (with_uuid (map number_of c.args.uuids.now)) (sym (ap (option_map number_of) c.in_default.is))

pub returns-clause-named : goal.returns-clause-named
returns-clause-named c = c.in_ok-push_new.ensures.named ∙ ap (with_uuid (map number_of c.args.uuids.now)) (sym (ap (option_map number_of) c.in-Some.is))
