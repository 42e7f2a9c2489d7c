use Rattle.std.proofs.lemmas.Result.{IfOk-weaker}
use Rattle.esr_formats.specs.Formats.{formats}
use Rattle.esr_model.specs.Image.{At, Stands, Picked}
use Rattle.esr_plain.specs.Exactly.{Always, IsExactly}
use Rattle.esr_plain.proofs.Standing.{picked_by}
use Rattle.esr_plain.proofs.stands.picked.Goals as goal
use Rattle.std.proofs.Common.{◌-◌}

pub returns-else-count-eq0 : goal.returns-else-count-eq0
returns-else-count-eq0 c =
    IfOk-weaker c.whole.result (λ o. Always (λ f. IsExactly (Stands f (At f c.args.image.now) (c.args.count - 1)) o)) (λ o. Always (λ f. IsExactly (Picked f (At f c.args.image.now) c.args.count) o))
    (λ o exact known told. let f = formats known told in picked_by f (At f c.args.image.now) c.args.count c.if-count-eq0.false o (exact known told))
    c.whole.ensures
