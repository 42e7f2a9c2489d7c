use Rattle.std.proofs.Common.{◌≡◌, List, ap, ◌∙◌, to_z, of_z, w64, rules}
use Rattle.std.proofs.lemmas.Int.{to_z-of_z}
use Rattle.esr_depot.specs.Look.{now}
use Rattle.esr_record.specs.Record.{Record}
use Rattle.esr_root.specs.Root.{Root}
use Rattle.esr_meta.specs.Info.{Info}
use Rattle.esr_opening.specs.Found.{found}
use Rattle.esr_opening.proofs.Answering.{passed}
use Rattle.esr_opening.proofs.Finding.{record_refused, root_refused, own_refused, both_found}
use Rattle.esr_opening.proofs.opening.find.Goals as goal

-- without the infos
abbrev both_of : Record × Root × List Info → Record × Root
both_of o = (o.0, o.1)

pub returns-in_err-cluster-clause-answer : goal.returns-in_err-cluster-clause-answer
returns-in_err-cluster-clause-answer g c =
    let faults = g.D.Fetch.Counted.faults in
    let a = now (g.D.Depot.look c.args.depot.now) in
    let x = g.D.Counted.faults c.args.depot.now in
    let y = g.D.Counted.faults c.find_record.new.depot in
    passed faults a x y found both_of c.from_residual.result c.in_err-cluster.field-0.0 c.from_residual.ensures.1 (record_refused faults a x y c.in_err-cluster.field-0.0 c.in_err-cluster.ensures.answer)

pub returns-in_err-root-clause-answer : goal.returns-in_err-root-clause-answer
returns-in_err-root-clause-answer g c =
    let safe = to_z w64 (of_z w64 c.cluster.inside.safe) in
    let is : safe ≡ c.in_ok-cluster.cluster.safe = to_z-of_z w64 c.cluster.inside.safe (search rules) ∙ ap (λ (r : Record). r.safe) c.cluster.view_is in
    let faults = g.D.Fetch.Counted.faults in
    let a = now (g.D.Depot.look c.args.depot.now) in
    let b = now (g.D.Depot.look c.find_record.new.depot) in
    let x = g.D.Counted.faults c.args.depot.now in
    let y = g.D.Counted.faults c.find_record.new.depot in
    let z = g.D.Counted.faults c.find_whole_root.new.depot in
    passed faults a x z found both_of c.from_residual-in_err-root.result c.in_err-root.field-0.0 c.from_residual-in_err-root.ensures.1
    (root_refused faults a b x y z c.in_ok-cluster.cluster safe c.in_err-root.field-0.0 c.find_record.ensures.looked.kept.same c.find_record.ensures.looked.later is
    c.in_ok-cluster.ensures.answer c.in_err-root.ensures.answer)

pub returns-in_err-check_own-clause-answer : goal.returns-in_err-check_own-clause-answer
returns-in_err-check_own-clause-answer g c =
    let safe = to_z w64 (of_z w64 c.cluster.inside.safe) in
    let is : safe ≡ c.in_ok-cluster.cluster.safe = to_z-of_z w64 c.cluster.inside.safe (search rules) ∙ ap (λ (r : Record). r.safe) c.cluster.view_is in
    let faults = g.D.Fetch.Counted.faults in
    let a = now (g.D.Depot.look c.args.depot.now) in
    let b = now (g.D.Depot.look c.find_record.new.depot) in
    let x = g.D.Counted.faults c.args.depot.now in
    let z = g.D.Counted.faults c.find_whole_root.new.depot in
    passed faults a x z found both_of c.from_residual-in_err-check_own.result c.in_err-check_own.field-0.0 c.from_residual-in_err-check_own.ensures.1
    (own_refused faults a b x z c.in_ok-cluster.cluster safe c.in_ok-root.root c.in_err-check_own.field-0.0 c.find_record.ensures.looked.kept.same is
    c.in_ok-cluster.ensures.answer c.in_ok-root.ensures.answer c.in_err-check_own.ensures.says)

pub returns-clause-answer : goal.returns-clause-answer
returns-clause-answer g c =
    let safe = to_z w64 (of_z w64 c.cluster.inside.safe) in
    let is : safe ≡ c.in_ok-cluster.cluster.safe = to_z-of_z w64 c.cluster.inside.safe (search rules) ∙ ap (λ (r : Record). r.safe) c.cluster.view_is in
    let a = now (g.D.Depot.look c.args.depot.now) in
    let b = now (g.D.Depot.look c.find_record.new.depot) in
    both_found a b c.in_ok-cluster.cluster safe c.in_ok-root.root c.in_ok-check_own.field-0 c.find_record.ensures.looked.kept.same is c.in_ok-cluster.ensures.answer
    c.in_ok-root.ensures.answer c.in_ok-check_own.ensures.says
