use Rattle.std.proofs.Common.{◌≡◌, [], ◌++◌, ◌∙◌, length, take, refl, sym}
use Rattle.std.proofs.lemmas.Bool.{eqb-true}
use Rattle.esr_desk.specs.Start.{ticket_of}
use Rattle.esr_desk.specs.Grew.{grew_by_none, grew_by_on}
use Rattle.esr_finish.specs.Runs.{taken_on}
use Rattle.esr_unit.specs.Refusals.{passed_on}
use Rattle.esr_delete.specs.Refused.{IsRemovalRefused}
use Rattle.esr_delete.proofs.Removing.{still_new, still_once, none_removed, more_removed, whole_more, rest_may, rest_layout, all_removed}
use Rattle.esr_delete.proofs.remove.remove_all.Goals as goal

pub loop-rest-init : goal.loop-rest-init
loop-rest-init g c = record {
  front = [];
  whole = refl;
  removed = none_removed c.args.clean g.Q.Desk.start (g.Q.Desk.seen c.args.desk.now) c.args.ticket;
  once = c.requires.once;
  new = c.requires.new;
  own = refl;
  grew = grew_by_none g.Q.Desk.start c.args.ticket (g.Q.Desk.seen c.args.desk.now);
  calls = refl;
}

pub remove_first-requires-clause-layout : goal.remove_first-requires-clause-layout
remove_first-requires-clause-layout g c κs within =
    let inv = c.loop-rest.invariant in
    rest_layout c.args.names.now inv.front c.loop-rest.rest.now inv.whole c.requires.layout

pub remove_first-requires-clause-may : goal.remove_first-requires-clause-may
remove_first-requires-clause-may g c κs within =
    let s = g.Q.Desk.start in
    let who = c.args.ticket in
    let inv = c.loop-rest.invariant in
    rest_may s (ticket_of s (g.Q.Desk.seen c.args.desk.now) who) (ticket_of s (g.Q.Desk.seen c.loop-rest.desk) who) c.args.names.now inv.front c.loop-rest.rest.now inv.whole inv.own c.requires.may

pub loop-rest-preserved : goal.loop-rest-preserved
loop-rest-preserved g c =
    let s = g.Q.Desk.start in
    let old = g.Q.Desk.seen c.args.desk.now in
    let mid = g.Q.Desk.seen c.loop-rest.desk in
    let new = g.Q.Desk.seen c.remove_first.new.desk in
    let who = c.args.ticket in
    let inv = c.loop-rest.invariant in
    let rest = c.loop-rest.rest.now in
    let n = c.in_ok-count.count in
    record {
      front = inv.front ++ take n rest;
      whole = whole_more c.args.names.now inv.front rest n inv.whole;
      removed = more_removed c.args.clean s old mid new who inv.front (take n rest) c.requires.mine.some inv.removed c.in_ok-count.ensures.removed;
      once = still_once rest n inv.once;
      new = still_new c.args.clean s mid new who rest n c.requires.mine.some inv.new inv.once c.in_ok-count.ensures.removed;
      own = c.remove_first.ensures.own ∙ inv.own;
      grew = grew_by_on s who old mid new inv.grew c.remove_first.ensures.grew;
      calls = c.remove_first.ensures.calls ∙ inv.calls;
    }

pub returns-in_err-count-clause-own : goal.returns-in_err-count-clause-own
returns-in_err-count-clause-own g c = c.remove_first.ensures.own ∙ c.loop-rest.invariant.own

pub returns-in_err-count-clause-grew : goal.returns-in_err-count-clause-grew
returns-in_err-count-clause-grew g c =
    let seen = g.Q.Desk.seen in
    grew_by_on g.Q.Desk.start c.args.ticket (seen c.args.desk.now) (seen c.loop-rest.desk) (seen c.remove_first.new.desk) c.loop-rest.invariant.grew c.remove_first.ensures.grew

pub returns-clause-removed : goal.returns-clause-removed
returns-clause-removed g c =
    let inv = c.loop-rest.invariant in
    let none : length c.loop-rest.rest.now ≡ 0 = eqb-true (length c.loop-rest.rest.now) 0 (sym c.loop-rest-test.ensures) in
    all_removed c.args.clean g.Q.Desk.start (g.Q.Desk.seen c.args.desk.now) (g.Q.Desk.seen c.loop-rest.desk) c.args.ticket c.args.names.now inv.front c.loop-rest.rest.now inv.whole none inv.removed

pub remove_first-requires-clause-mine : goal.remove_first-requires-clause-mine
remove_first-requires-clause-mine g c κs within = taken_on (g.Q.Desk.calls c.args.desk.now) (g.Q.Desk.calls c.loop-rest.desk) c.args.ticket c.loop-rest.invariant.calls c.requires.mine

pub returns-in_err-count-clause-calls : goal.returns-in_err-count-clause-calls
returns-in_err-count-clause-calls g c = c.remove_first.ensures.calls ∙ c.loop-rest.invariant.calls

pub returns-in_err-count-clause-refused : goal.returns-in_err-count-clause-refused
returns-in_err-count-clause-refused g c =
    passed_on c.from_residual.result (IsRemovalRefused c.args.clean g.Q.Desk.start (g.Q.Desk.seen c.remove_first.new.desk) c.args.ticket) c.in_err-count.field-0.0 c.from_residual.ensures.1 c.in_err-count.ensures.refused

pub remove_first-requires-clause-new : goal.remove_first-requires-clause-new
remove_first-requires-clause-new g c κs within = c.loop-rest.invariant.new
