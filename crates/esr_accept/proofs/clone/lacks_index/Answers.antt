use Rattle.std.proofs.Common.{sym, ap, ◌∙◌}
use Rattle.std.specs.Prelude.{not}
use Rattle.esr_accept.proofs.Clonables.{index-any}
use Rattle.esr_accept.proofs.clone.lacks_index.Goals as goal

pub returns : goal.returns
returns c = ap not (c.has_index.ensures ∙ sym (index-any c.args.indices.now c.args.uuid.number c.args.name.now))
