use Rattle.std.proofs.Common.{◌≡◌, ◌∙◌, sym, ap, subst, not, ◌==◌, List, rules}
use Rattle.std.specs.List.{filter}
use Rattle.std.proofs.lemmas.Fn.{filter_same}
use Rattle.esr_record.specs.declared.op.RecordOp.{RecordOp}
use Rattle.esr_record.specs.Op.{AreOps}
use Rattle.esr_record.proofs.Rising.{AreOps_filter}
use Rattle.esr_record.proofs.ops.RecordOps.remove.Goals as goal

filtered : (c : goal.After-retain) → c.retain.new.self.items ≡ filter (λ (o : RecordOp). not (o.op == c.args.op)) c.self.inside.items.items
filtered c = filter_same _ _ _ (λ x b f' k. search rules) _ _ c.retain.ensures.filtered

pub invariant_of-self : goal.invariant_of-self
invariant_of-self c =
    subst (AreOps 0) (sym (filtered c)) (AreOps_filter 0 c.self.inside.items.items (λ (o : RecordOp). not (o.op == c.args.op)) c.self.invariant)

pub returns : goal.returns
returns c = filtered c ∙ ap (filter (λ (o : RecordOp). not (o.op == c.args.op))) c.self.view_is
