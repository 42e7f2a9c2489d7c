use Rattle.std.proofs.Common.{ap, ◌∙◌}
use Rattle.esr_root.specs.Root.{Root}
use Rattle.esr_meta.specs.Info.{Info}
use Rattle.esr_agreement.proofs.Served.{agrees_so, agrees_not}
use Rattle.esr_agreement.proofs.agreement.agrees.Goals as goal

pub returns-then-is_info_of : goal.returns-then-is_info_of
returns-then-is_info_of c =
    agrees_so c.args.root.now c.args.snap.now c.args.info.now c.as_slice-indices.result.now c.as_slice-refs.result.now c.is_info_of.result c.has_indices.result
    (c.as_slice-indices.ensures.items ∙ ap (λ (r : Root). r.indices) c.root.view_is) (c.as_slice-refs.ensures ∙ ap (λ (i : Info). i.indices) c.info.view_is) c.if-is_info_of.true c.is_info_of.ensures c.has_indices.ensures

pub returns-else-is_info_of : goal.returns-else-is_info_of
returns-else-is_info_of c = agrees_not c.args.root.now c.args.snap.now c.args.info.now c.is_info_of.result c.if-is_info_of.false c.is_info_of.ensures
