use Rattle.std.proofs.Common.{ap, sym, subst, ◌∙◌}
use Rattle.esr_root.specs.Root.{Root}
use Rattle.esr_root.specs.Indices.{AreIndices}
use Rattle.esr_dooming.specs.Reading.{AreFew}
use Rattle.esr_dooming.proofs.Changed.{gone_are}
use Rattle.esr_dooming.proofs.Placed.{gone_few}
use Rattle.esr_dooming.proofs.gone.gone.Goals as goal

pub returns-clause-exact : goal.returns-clause-exact
returns-clause-exact c =
    gone_are c.args.root.now c.args.next.now c.as_slice-before.result.now c.as_slice-after.result.now c.new-gone.result c.push_indices.new.gone c.new-gone.ensures
    (c.as_slice-before.ensures.items ∙ ap (λ (r : Root). r.indices) c.root.view_is) (c.as_slice-after.ensures.items ∙ ap (λ (r : Root). r.indices) c.next.view_is) c.in_ok-push_indices.ensures

pub returns-clause-few : goal.returns-clause-few
returns-clause-few c =
    let are =
    gone_are c.args.root.now c.args.next.now c.as_slice-before.result.now c.as_slice-after.result.now c.new-gone.result c.push_indices.new.gone c.new-gone.ensures
    (c.as_slice-before.ensures.items ∙ ap (λ (r : Root). r.indices) c.root.view_is) (c.as_slice-after.ensures.items ∙ ap (λ (r : Root). r.indices) c.next.view_is) c.in_ok-push_indices.ensures in
    subst AreFew (sym are) (gone_few c.args.root.now c.args.next.now (subst AreIndices (ap (λ (r : Root). r.indices) c.root.view_is) c.as_slice-before.ensures.rule))
