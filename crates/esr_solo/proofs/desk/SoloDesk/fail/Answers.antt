use Rattle.std.proofs.Common.{◌≡◌, List, OnOk, OnErr, ap, ◌∙◌, subst}
use Rattle.esr_core.specs.Entry.{HasEnded, Moment}
use Rattle.esr_desk.specs.Entries.{why_of}
use Rattle.esr_desk.specs.Calls.{calls_at}
use Rattle.esr_desk.specs.Own.{own_of}
use Rattle.esr_desk.specs.Hands.{fail_step, own_failed}
use Rattle.esr_solo.proofs.Showing.{same_objects}
use Rattle.esr_solo.proofs.Calls.{calls_hand, calls_same, calls_wanting}
use Rattle.esr_solo.proofs.Stepping.{waited_as, outcome, spent, keeps_report, teller_is}
use Rattle.esr_solo.proofs.desk.SoloDesk.fail.Goals as goal

pub returns-then-self-eq0-clause-step : goal.returns-then-self-eq0-clause-step
returns-then-self-eq0-clause-step g c = spent g.K.Told.start c.self.inside.repo c.args.self.now c.args.failure.who.number c.self.inside.left c.self.view_is c.self.invariant.8 c.self.invariant.0 c.if-self-eq0.true

pub returns-then-self-eq0-clause-calls : goal.returns-then-self-eq0-clause-calls
returns-then-self-eq0-clause-calls g c = calls_same c.args.failure.who.hand c.args.self.now (fail_step c.args.failure.who.hand (why_of c.args.failure.why)) (λ _. HasEnded) (calls_at 0 c.args.self.now)

pub returns-then-is_err-clause-step : goal.returns-then-is_err-clause-step
returns-then-is_err-clause-step g c = (waited_as g.K.Told.start c.self.inside.repo c.args.self.now c.args.failure.who.number c.self.view_is c.self.invariant.8, tt)

pub returns-then-is_err-clause-calls : goal.returns-then-is_err-clause-calls
returns-then-is_err-clause-calls g c = ap (calls_at 0) c.self.view_is ∙ calls_wanting c.args.failure.who.hand c.self.inside.repo (fail_step c.args.failure.who.hand (why_of c.args.failure.why)) (λ _. HasEnded) (calls_at 0 c.args.self.now)

pub invariant_of-self : goal.invariant_of-self
invariant_of-self g c = (
  c.self.invariant.0,
  same_objects _ g.K.Told.start c.self.inside.repo c.self.inside.faults.items c.reserve.new.self.items c.reserve.ensures.items c.self.invariant.1,
  c.self.invariant.2,
  c.self.invariant.3,
  c.self.invariant.4,
  c.self.invariant.5,
  c.self.invariant.6,
  c.self.invariant.7,
  c.self.invariant.8,
)

pub invariant_of-self-2 : goal.invariant_of-self-2
invariant_of-self-2 g c =
    keeps_report _ g.K.Told.start c.self.inside.repo c.fail-answer.new.repo c.args.failure.who.number c.self.inside.faults.items c.self.inside.targets.items c.self.inside.left c.spend.new.left 1099511627776 c.self.invariant c.if-self-eq0.false
    c.args.failure.who.hand c.args.self.now (why_of c.args.failure.why) c.fail-answer.result c.reserve.new.self.items c.keep.new.faults.items c.args.failure.by c.spend.ensures.left c.self.view_is
    (teller_is c.args.failure.who.hand (calls_at 0 c.args.self.now) c.args.failure.who.number c.requires.mine) c.requires.shown c.reserve.ensures.items
    c.keep.ensures c.fail-answer.ensures.step

pub returns-clause-step : goal.returns-clause-step
returns-clause-step g c =
    outcome g.K.Told.start c.self.inside.repo c.args.self.now c.fail-answer.new.repo c.args.failure.who.number (fail_step c.args.failure.who.hand (why_of c.args.failure.why))
    (λ _. HasEnded) c.fail-answer.result c.self.inside.left c.self.view_is c.self.invariant.8 c.self.invariant.0 c.if-self-eq0.false c.spend.ensures.grounds c.fail-answer.ensures.step

pub returns-clause-calls : goal.returns-clause-calls
returns-clause-calls g c = calls_hand c.args.failure.who.hand g.K.Told.start c.self.inside.repo c.args.self.now c.fail-answer.new.repo c.args.failure.who.number
    (fail_step c.args.failure.who.hand (why_of c.args.failure.why)) (λ _. HasEnded) c.fail-answer.result c.self.view_is c.requires.mine c.fail-answer.ensures.step

pub returns-then-is_err-clause-kept : goal.returns-then-is_err-clause-kept
returns-then-is_err-clause-kept g c = ap (λ (log : List Moment). own_of g.K.Told.start log c.args.failure.who.number) c.self.view_is

pub returns-clause-own : goal.returns-clause-own
returns-clause-own g c =
    subst (λ (log : List Moment). OnOk c.fail-answer.result (own_of g.K.Told.start c.fail-answer.new.repo c.args.failure.who.number ≡ own_failed c.args.failure.who.hand (own_of g.K.Told.start log c.args.failure.who.number)))
    c.self.view_is c.fail-answer.ensures.own

pub returns-clause-kept : goal.returns-clause-kept
returns-clause-kept g c =
    subst (λ (log : List Moment). OnErr c.fail-answer.result (own_of g.K.Told.start c.fail-answer.new.repo c.args.failure.who.number ≡ own_of g.K.Told.start log c.args.failure.who.number))
    c.self.view_is c.fail-answer.ensures.kept
