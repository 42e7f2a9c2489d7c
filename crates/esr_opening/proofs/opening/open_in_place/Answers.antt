use Rattle.std.proofs.Common.{subst}
use Rattle.esr_model.specs.Values.{ReadsBack}
use Rattle.esr_depot.specs.Look.{now}
use Rattle.esr_record.specs.Record.{Record}
use Rattle.esr_formats.specs.Clusters.{cluster_of, cluster_kind}
use Rattle.esr_opening.specs.Opening.{IsOpenRefused}
use Rattle.esr_opening.specs.declared.refusal.OpenRefusal.TheVariants.{Memory}
use Rattle.esr_opening.proofs.Answering.{err_passed}
use Rattle.esr_opening.proofs.Begins.{begun, find_refused, not_begun}
use Rattle.esr_opening.proofs.Listing.{listed_of}
use Rattle.esr_opening.proofs.opening.open_in_place.Goals as goal

pub returns-in_err-cluster-clause-refused : goal.returns-in_err-cluster-clause-refused
returns-in_err-cluster-clause-refused g c =
    let faults = g.D.Fetch.Counted.faults in
    let before = g.D.Depot.look c.args.depot.now in
    let mid = g.D.Depot.look c.find.new.depot in
    let x = g.D.Counted.faults c.args.depot.now in
    let y = g.D.Counted.faults c.find.new.depot in
    err_passed c.from_residual.result (IsOpenRefused faults before mid x y) c.in_err-cluster.field-0.0 c.from_residual.ensures.1
    (find_refused faults before mid x y c.in_err-cluster.field-0.0 c.find.ensures.looked c.in_err-cluster.ensures.answer)

pub returns-in_err-next-clause-refused : goal.returns-in_err-next-clause-refused
returns-in_err-next-clause-refused g c =
    let faults = g.D.Fetch.Counted.faults in
    let before = g.D.Depot.look c.args.depot.now in
    let mid = g.D.Depot.look c.find.new.depot in
    let x = g.D.Counted.faults c.args.depot.now in
    let y = g.D.Counted.faults c.find.new.depot in
    err_passed c.from_residual-in_err-next.result (IsOpenRefused faults before mid x y) Memory c.from_residual-in_err-next.ensures.1 c.find.ensures.looked.kept

pub returns-in_err-begin_term-clause-refused : goal.returns-in_err-begin_term-clause-refused
returns-in_err-begin_term-clause-refused g c =
    let faults = g.D.Fetch.Counted.faults in
    let before = g.D.Depot.look c.args.depot.now in
    let mid = g.D.Depot.look c.find.new.depot in
    let after = g.D.Depot.look c.begin_term.new.depot in
    let x = g.D.Counted.faults c.args.depot.now in
    let y = g.D.Counted.faults c.find.new.depot in
    let z = g.D.Counted.faults c.begin_term.new.depot in
    let fit = c.in_ok-cluster.ensures.fit in
    let is = c.in_ok-next.ensures.record in
    let back = subst (λ (r : Record). ReadsBack cluster_kind (cluster_of r)) is c.begin_term.ensures.reads in
    err_passed c.from_residual-in_err-begin_term.result (IsOpenRefused faults before after x z) c.in_err-begin_term.field-0.0 c.from_residual-in_err-begin_term.ensures.1
    (not_begun faults before mid after x y z c.in_ok-cluster.cluster c.in_ok-next.next c.in_ok-cluster.root c.in_err-begin_term.field-0.0 c.find.ensures.looked c.in_ok-cluster.ensures.answer fit
    (c.opened_worlds_are_in_order.ensures (now before) c.in_ok-cluster.cluster c.in_ok-cluster.root fit back c.in_ok-next.ensures.few) is c.begin_term.ensures.left c.in_err-begin_term.ensures.refused)

pub returns-clause-opened : goal.returns-clause-opened
returns-clause-opened g c =
    let before = g.D.Depot.look c.args.depot.now in
    let mid = g.D.Depot.look c.find.new.depot in
    let after = g.D.Depot.look c.begin_term.new.depot in
    let x = g.D.Counted.faults c.args.depot.now in
    let y = g.D.Counted.faults c.find.new.depot in
    let fit = c.in_ok-cluster.ensures.fit in
    let is = c.in_ok-next.ensures.record in
    let back = subst (λ (r : Record). ReadsBack cluster_kind (cluster_of r)) is c.begin_term.ensures.reads in
    begun before mid after x y c.in_ok-cluster.cluster c.in_ok-next.next c.in_ok-cluster.root c.in_ok-cluster.infos c.in_ok-next.progress c.find.ensures.looked c.in_ok-cluster.ensures.answer fit c.in_ok-cluster.ensures.infos
    (c.opened_worlds_are_in_order.ensures (now before) c.in_ok-cluster.cluster c.in_ok-cluster.root fit back c.in_ok-next.ensures.few) is
    c.in_ok-next.ensures.list c.in_ok-begin_term.ensures.swapped c.in_ok-begin_term.ensures.bounded c.in_ok-cluster.ensures.calls c.begin_term.ensures.calls
    c.begin_term.ensures.left

pub returns-clause-listed : goal.returns-clause-listed
returns-clause-listed g c = listed_of (now (g.D.Depot.look c.args.depot.now)) c.in_ok-cluster.root c.in_ok-cluster.infos c.in_ok-cluster.ensures.infos

pub returns-clause-infos : goal.returns-clause-infos
returns-clause-infos g c = c.in_ok-cluster.ensures.infos
