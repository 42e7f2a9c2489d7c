use Rattle.std.proofs.Common.{option_copied, sym, ap, ◌∙◌}
use Rattle.esr_report.specs.Replies.{final_out}
use Rattle.esr_report.specs.Aborts.{unless_out}
use Rattle.esr_report.proofs.Aborting.{unnamed_aborts, named_aborts}
use Rattle.esr_report.proofs.aborts.aborts_at.Goals as goal

pub returns-in-Some : goal.returns-in-Some
returns-in-Some c =
    c.unless_out.ensures ∙ ap (unless_out (final_out c.args.before.now c.args.op)) c.abort_by.ensures
    ∙ named_aborts c.args.before.now c.args.op c.args.entry.now c.in-Some.name.now (sym c.name_of_op.ensures ∙ ap option_copied c.in-Some.is)

pub returns-in-None : goal.returns-in-None
returns-in-None c = sym (unnamed_aborts c.args.before.now c.args.op c.args.entry.now (sym c.name_of_op.ensures ∙ ap option_copied c.in-None.is))
