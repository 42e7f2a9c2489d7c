use Rattle.std.proofs.Common.{◌≡◌, false, List, Result, OnOk, OnErr, ap, sym, subst}
use Rattle.esr_core.specs.Entry.{ReadStep, RestoredShard, HasEnded, Moment}
use Rattle.esr_desk.specs.declared.refusal.StepRefusal.{StepRefusal}
use Rattle.esr_desk.specs.Outcome.{Outcome}
use Rattle.esr_desk.specs.Own.{reader_of}
use Rattle.esr_desk.specs.Calls.{calls_at}
use Rattle.esr_solo.proofs.Listing.{same_targets, ok_listed, err_listed}
use Rattle.esr_solo.proofs.Calls.{calls_ticket}
use Rattle.esr_solo.proofs.Stepping.{waited_as, outcome, spent, keeps_target}
use Rattle.esr_solo.proofs.desk.SoloDesk.end_restore.Goals as goal

pub returns-then-self-eq0-clause-step : goal.returns-then-self-eq0-clause-step
returns-then-self-eq0-clause-step g c = spent g.K.Told.start c.self.inside.repo c.args.self.now c.args.done.ticket c.self.inside.left c.self.view_is c.self.invariant.8 c.self.invariant.0 c.if-self-eq0.true

pub returns-then-is_err-clause-step : goal.returns-then-is_err-clause-step
returns-then-is_err-clause-step g c = (waited_as g.K.Told.start c.self.inside.repo c.args.self.now c.args.done.ticket c.self.view_is c.self.invariant.8, tt)

pub returns-then-is_err-clause-kept : goal.returns-then-is_err-clause-kept
returns-then-is_err-clause-kept g c = ap (λ (log : List Moment). reader_of g.K.Told.start log c.args.done.ticket) c.self.view_is

pub returns-then-is_err-clause-calls : goal.returns-then-is_err-clause-calls
returns-then-is_err-clause-calls g c = ap (calls_at 0) c.self.view_is

pub invariant_of-self : goal.invariant_of-self
invariant_of-self g c = (
  c.self.invariant.0,
  c.self.invariant.1,
  same_targets _ g.K.Told.start c.self.inside.repo c.self.inside.targets.items c.reserve.new.self.items c.reserve.ensures.items c.self.invariant.2,
  c.self.invariant.3,
  c.self.invariant.4,
  c.self.invariant.5,
  c.self.invariant.6,
  c.self.invariant.7,
  c.self.invariant.8,
)

pub invariant_of-self-2 : goal.invariant_of-self-2
invariant_of-self-2 g c =
    keeps_target _ g.K.Told.start c.self.inside.repo c.end_restore-answer.new.repo c.args.done.ticket c.self.inside.faults.items c.self.inside.targets.items c.self.inside.left c.spend.new.left 1099511627776 c.self.invariant c.if-self-eq0.false
    c.args.self.now c.args.done.files c.args.done.bytes c.end_restore-answer.result c.reserve.new.self.items c.list.new.targets.items
    c.args.done.target c.spend.ensures.left c.self.view_is c.requires.filled c.reserve.ensures.items c.list.ensures.items c.end_restore-answer.ensures.step

pub returns-clause-step : goal.returns-clause-step
returns-clause-step g c =
    subst (λ (r : Result Unit StepRefusal). Outcome g.K.Told.start c.args.self.now c.end_restore-answer.new.repo c.args.done.ticket (ReadStep (RestoredShard c.args.done.files c.args.done.bytes)) (λ _. HasEnded) r) (sym c.list.ensures.answer)
    (outcome g.K.Told.start c.self.inside.repo c.args.self.now c.end_restore-answer.new.repo c.args.done.ticket (ReadStep (RestoredShard c.args.done.files c.args.done.bytes))
    (λ _. HasEnded) c.end_restore-answer.result c.self.inside.left c.self.view_is c.self.invariant.8 c.self.invariant.0 c.if-self-eq0.false c.spend.ensures.grounds c.end_restore-answer.ensures.step)

pub returns-clause-own : goal.returns-clause-own
returns-clause-own g c =
    ok_listed c.list.result c.end_restore-answer.result (reader_of g.K.Told.start c.end_restore-answer.new.repo c.args.done.ticket ≡ record (reader_of g.K.Told.start c.args.self.now c.args.done.ticket) { out = false }) c.list.ensures.answer
    (subst (λ (log : List Moment). OnOk c.end_restore-answer.result (reader_of g.K.Told.start c.end_restore-answer.new.repo c.args.done.ticket ≡ record (reader_of g.K.Told.start log c.args.done.ticket) { out = false }))
    c.self.view_is c.end_restore-answer.ensures.own)

pub returns-clause-kept : goal.returns-clause-kept
returns-clause-kept g c =
    err_listed c.list.result c.end_restore-answer.result (reader_of g.K.Told.start c.end_restore-answer.new.repo c.args.done.ticket ≡ reader_of g.K.Told.start c.args.self.now c.args.done.ticket) c.list.ensures.answer
    (subst (λ (log : List Moment). OnErr c.end_restore-answer.result (reader_of g.K.Told.start c.end_restore-answer.new.repo c.args.done.ticket ≡ reader_of g.K.Told.start log c.args.done.ticket)) c.self.view_is c.end_restore-answer.ensures.kept)

pub returns-clause-target : goal.returns-clause-target
returns-clause-target g c = c.list.ensures.target

pub returns-clause-calls : goal.returns-clause-calls
returns-clause-calls g c = calls_ticket g.K.Told.start c.self.inside.repo c.args.self.now c.end_restore-answer.new.repo c.args.done.ticket
    (ReadStep (RestoredShard c.args.done.files c.args.done.bytes)) (λ _. HasEnded) c.end_restore-answer.result c.self.view_is c.requires.mine.some c.end_restore-answer.ensures.step
