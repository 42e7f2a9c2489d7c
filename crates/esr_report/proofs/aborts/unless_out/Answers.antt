use Rattle.std.proofs.Common.{ℕ, Option, Some, option_map, is_some, sym, ap, ◌∙◌}
use Rattle.esr_report.specs.declared.tickets.End.{End}
use Rattle.esr_report.specs.Replies.{final_out}
use Rattle.esr_report.specs.Ends.{reply_of_end}
use Rattle.esr_report.specs.Aborts.{unless_out}
use Rattle.esr_report.proofs.Aborting.{unless_none, out_none, out_not}
use Rattle.esr_report.proofs.aborts.unless_out.Goals as goal

pub returns-in_default : goal.returns-in_default
returns-in_default c =
    let out : Option ℕ = final_out c.args.before.now c.args.op in
    sym (ap (λ (e : Option End). unless_out out (option_map reply_of_end e)) c.in_default.is ∙ unless_none out)

pub returns-then-is_some : goal.returns-then-is_some
returns-then-is_some c =
    sym (out_none (final_out c.args.before.now c.args.op) (option_map reply_of_end c.args.end) (ap is_some (sym c.final_out.ensures) ∙ sym c.is_some.ensures ∙ c.if-is_some.true))

pub returns : goal.returns
returns c =
    let out : Option ℕ = final_out c.args.before.now c.args.op in
    sym (ap (λ (e : Option End). unless_out out (option_map reply_of_end e)) c.in-Some.is
    ∙ out_not out (option_map reply_of_end (Some c.in-Some.end)) (ap is_some (sym c.final_out.ensures) ∙ sym c.is_some.ensures ∙ c.if-is_some.false))
