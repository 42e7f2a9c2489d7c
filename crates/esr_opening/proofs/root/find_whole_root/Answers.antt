use Rattle.std.proofs.Common.{◌≡◌, List, sym, ap, ◌∙◌, to_z, of_z, w64, rules}
use Rattle.std.proofs.lemmas.Int.{to_z-of_z}
use Rattle.esr_depot.specs.Image.{Image}
use Rattle.esr_depot.specs.Look.{now}
use Rattle.esr_root.specs.Root.{Root}
use Rattle.esr_meta.specs.Info.{Info}
use Rattle.esr_opening.specs.Found.{root_in}
use Rattle.esr_opening.specs.Terms.{whole_root_in}
use Rattle.esr_opening.proofs.Answering.{passed, refused_first}
use Rattle.esr_opening.proofs.Steps.{no_whole_root}
use Rattle.esr_opening.proofs.root.find_whole_root.Goals as goal

pub returns-in_err-root-clause-answer : goal.returns-in_err-root-clause-answer
returns-in_err-root-clause-answer g c =
    let safe = to_z w64 (of_z w64 c.args.safe) in
    let is : safe ≡ c.args.safe = to_z-of_z w64 c.args.safe (search rules) in
    let held = now (g.D.Depot.look c.args.depot.now) in
    let x = g.D.Counted.faults c.args.depot.now in
    let y = g.D.Counted.faults c.find_root.new.depot in
    passed g.D.Fetch.Counted.faults held x y (λ (i : Image). whole_root_in i.blobs c.args.safe) (λ (o : Root × List Info). o.0) c.from_residual.result c.in_err-root.field-0.0 c.from_residual.ensures.1
    (refused_first g.D.Fetch.Counted.faults held x y (λ (i : Image). root_in i.blobs safe) (λ (i : Image). whole_root_in i.blobs c.args.safe) c.in_err-root.field-0.0
    (λ i o here fails. no_whole_root i.blobs c.args.safe o (ap (root_in i.blobs) (sym is) ∙ fails))
    c.in_err-root.ensures.answer)
