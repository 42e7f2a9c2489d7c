use Rattle.std.proofs.Common.{◌∙◌}
use Rattle.esr_drive.proofs.Working.{whole_by}
use Rattle.esr_drive.proofs.crew.close.Goals as goal

pub returns-clause-whole : goal.returns-clause-whole
returns-clause-whole g c = c.into_desk.ensures ∙ whole_by g.B.Since.before c.close-sitting.result c.args.pass.seen c.is_legal.ensures.begins c.close-sitting.ensures.history
