use Rattle.std.proofs.Common.{sym, ◌∙◌}
use Rattle.esr_ops.proofs.NamedUuids.{listed-any}
use Rattle.esr_ops.proofs.delete.is_listed.Goals as goal

pub returns : goal.returns
returns c = c.stand_with.ensures ∙ sym (listed-any c.args.snaps.now c.args.uuid.number)
