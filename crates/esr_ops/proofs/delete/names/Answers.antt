use Rattle.std.proofs.Common.{sym, ◌∙◌}
use Rattle.esr_ops.proofs.NamedUuids.{names-any}
use Rattle.esr_ops.proofs.delete.names.Goals as goal

pub returns : goal.returns
returns c = c.are_with.ensures ∙ sym (names-any c.args.uuid.number c.args.uuids.now)
