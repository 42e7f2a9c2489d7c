use Rattle.std.proofs.lemmas.Result.{IfOk-weaker}
use Rattle.esr_formats.specs.Roots.{root_of}
use Rattle.esr_formats.specs.Formats.{formats}
use Rattle.esr_model.specs.Image.{AllPairs, At, SnapStands, RootStands}
use Rattle.esr_plain.specs.Exactly.{Always, IsExactly}
use Rattle.esr_plain.proofs.Loops.{so, not_so}
use Rattle.esr_plain.proofs.Standing.{root_stands}
use Rattle.esr_plain.proofs.stands.root_shelf.Goals as goal

pub returns-then-branch : goal.returns-then-branch
returns-then-branch c =
    IfOk-weaker c.shelf_of.result (λ o. Always (λ f. IsExactly (AllPairs (SnapStands f (At f c.args.image.now) (root_of c.args.root.now)) (root_of c.args.root.now).snapshots) o))
    (λ o. Always (λ f. IsExactly (RootStands f (At f c.args.image.now) (root_of c.args.root.now)) o))
    (λ o exact known told.
    let f = formats known told in
    let has = At f c.args.image.now in
    let root = root_of c.args.root.now in
    root_stands f has root (so c.in_ok-indices_stand.field-0 (c.in_ok-indices_stand.ensures known told) c.if-branch.true) o (exact known told))
    c.shelf_of.ensures

pub returns-else-branch : goal.returns-else-branch
returns-else-branch c = λ known told shelf stands. not_so c.in_ok-indices_stand.field-0 (c.in_ok-indices_stand.ensures known told) c.if-branch.false stands.indices
