use Rattle.std.proofs.Common.{Bool, sym, ap, ◌∙◌}
use Rattle.esr_delete.specs.Removed.{passed_by}
use Rattle.esr_delete.proofs.remove.passed.Goals as goal

pub returns-then-clean : goal.returns-then-clean
returns-then-clean c = ap (λ (b : Bool). passed_by b c.args.answer) (sym c.if-clean.true)

pub returns-else-clean : goal.returns-else-clean
returns-else-clean c = c.borne.ensures ∙ ap (λ (b : Bool). passed_by b c.args.answer) (sym c.if-clean.false)
