use Rattle.std.proofs.Common.{Bool, ◌||◌, not, sym, ap, ◌∙◌}
use Rattle.esr_delete.proofs.root.goes_on.Goals as goal

pub returns-then-put : goal.returns-then-put
returns-then-put c = c.if-put.true ∙ ap (λ (b : Bool). b || not c.args.clean) (sym c.if-put.true)

pub returns-else-put : goal.returns-else-put
returns-else-put c = ap (λ (b : Bool). b || not c.args.clean) (sym c.if-put.false)
