use Rattle.std.proofs.Common.{◌≤◌, List, length, map, subst, arith}
use Rattle.esr_names.specs.declared.blob.BlobName.{BlobName as CodeName}
use Rattle.esr_core.specs.Entry.{RemoveDoomed, PruneStep, WasRemoved}
use Rattle.esr_formats.specs.Names.{name_of}
use Rattle.esr_desk.specs.Start.{ticket_of}
use Rattle.esr_desk.specs.Grew.{grew_by_none, outcome_grew_by}
use Rattle.esr_unit.specs.Refusals.{passed_on}
use Rattle.esr_delete.specs.Refused.{IsRemovalRefused}
use Rattle.esr_delete.specs.Removed.{Removed}
use Rattle.esr_delete.proofs.Removing.{can_remove, fresh_removal, batch_layout}
use Rattle.esr_delete.proofs.Passing.{passed_removed, passed_refused}
use Rattle.esr_delete.proofs.remove.remove_first.Goals as goal

pub returns-in_err-batch-clause-grew : goal.returns-in_err-batch-clause-grew
returns-in_err-batch-clause-grew g c = grew_by_none g.Q.Desk.start c.args.ticket (g.Q.Desk.seen c.args.desk.now)

pub remove-requires-clause-layout : goal.remove-requires-clause-layout
remove-requires-clause-layout g c = batch_layout c.args.names.now c.in_ok-batch.batch c.min-count.result c.in_ok-batch.ensures c.requires.layout

pub remove-requires-clause-may : goal.remove-requires-clause-may
remove-requires-clause-may g c =
    let names = c.args.names.now in
    let n = c.min-count.result in
    let some : 1 ≤ n = omega (arith, c.min-count.ensures, c.requires.some) in
    let few : n ≤ 1000 = omega (arith, c.min-count.ensures) in
    let within : n ≤ length names = omega (arith, c.min-count.ensures) in
    can_remove g.Q.Desk.start (ticket_of g.Q.Desk.start (g.Q.Desk.seen c.args.desk.now) c.args.ticket) names c.in_ok-batch.batch n c.in_ok-batch.ensures some few within c.requires.may

pub remove-requires-clause-new : goal.remove-requires-clause-new
remove-requires-clause-new g c =
    let names = c.args.names.now in
    let n = c.min-count.result in
    let some : 1 ≤ n = omega (arith, c.min-count.ensures, c.requires.some) in
    let within : n ≤ length names = omega (arith, c.min-count.ensures) in
    fresh_removal g.Q.Desk.start (g.Q.Desk.seen c.args.desk.now) c.args.ticket names c.in_ok-batch.batch n c.in_ok-batch.ensures some within c.requires.new

pub returns-in_err-passed-clause-refused : goal.returns-in_err-passed-clause-refused
returns-in_err-passed-clause-refused g c =
    let s = g.Q.Desk.start in
    let old = g.Q.Desk.seen c.args.desk.now in
    let new = g.Q.Desk.seen c.remove.new.self in
    let who = c.args.ticket in
    passed_on c.from_residual-in_err-passed.result (IsRemovalRefused c.args.clean s new who) c.in_err-passed.field-0.0 c.from_residual-in_err-passed.ensures.1
    (passed_refused c.args.clean s old new who (map name_of c.in_ok-batch.batch) c.remove.result c.in_err-passed.field-0.0 c.refusals_are_of_their_steps.ensures c.requires.may.over c.remove.ensures.own c.in_err-passed.ensures c.remove.ensures.step)

pub returns-in_err-passed-clause-grew : goal.returns-in_err-passed-clause-grew
returns-in_err-passed-clause-grew g c =
    outcome_grew_by g.Q.Desk.start (g.Q.Desk.seen c.args.desk.now) (g.Q.Desk.seen c.remove.new.self) c.args.ticket (PruneStep (RemoveDoomed (map name_of c.in_ok-batch.batch))) (λ x. WasRemoved) c.remove.result c.remove.ensures.step

pub returns-clause-removed : goal.returns-clause-removed
returns-clause-removed g c =
    let s = g.Q.Desk.start in
    let old = g.Q.Desk.seen c.args.desk.now in
    let new = g.Q.Desk.seen c.remove.new.self in
    let who = c.args.ticket in
    subst (λ (l : List CodeName). Removed c.args.clean s old new who (map name_of l)) c.in_ok-batch.ensures
    (passed_removed c.args.clean s old new who (map name_of c.in_ok-batch.batch) c.remove.result c.in_ok-passed.field-0 c.requires.mine.some c.in_ok-passed.ensures c.remove.ensures.step)

pub returns-clause-grew : goal.returns-clause-grew
returns-clause-grew g c =
    outcome_grew_by g.Q.Desk.start (g.Q.Desk.seen c.args.desk.now) (g.Q.Desk.seen c.remove.new.self) c.args.ticket (PruneStep (RemoveDoomed (map name_of c.in_ok-batch.batch))) (λ x. WasRemoved) c.remove.result c.remove.ensures.step
