use Rattle.esr_desk.specs.Calls.{calls_at}
use Rattle.esr_solo.proofs.Stepping.{keeps, outcome, spent, is_few, is_short, turns_left_of, fetch_reports, fetch_restores, fetch_commits, fetch_tests, fetch_removes}
use Rattle.std.proofs.Common.{◌≡◌, ◌<◌, ◌^◌, IfOk, OnErr, length, true, IsTrue, List, sym, subst}
use Rattle.esr_formats.specs.Names.{name_of}
use Rattle.esr_desk.specs.Own.{own_of}
use Rattle.esr_desk.specs.Hands.{fetch_step, own_fetched}
use Rattle.esr_desk.specs.Outcome.{fetch_reply}
use Rattle.esr_solo.proofs.Calls.{calls_same, calls_hand}
use Rattle.esr_core.specs.Entry.{Moment}
use Rattle.esr_desk.specs.Once.{IsFresh}
use Rattle.esr_solo.proofs.desk.SoloDesk.fetch.Goals as goal

pub returns-then-self-eq0-clause-step : goal.returns-then-self-eq0-clause-step
returns-then-self-eq0-clause-step g c = spent g.K.Told.start c.self.inside.repo c.args.self.now c.args.who.number c.self.inside.left c.self.view_is c.self.invariant.8 c.self.invariant.0 c.if-self-eq0.true

pub invariant_of-self : goal.invariant_of-self
invariant_of-self g c =
    keeps _ g.K.Told.start c.self.inside.repo c.fetch-answer.new.repo c.args.who.number c.self.inside.faults.items c.self.inside.targets.items c.self.inside.left c.spend.new.left _ c.self.invariant c.if-self-eq0.false
    (fetch_step c.args.who.hand (name_of c.args.name)) fetch_reply c.fetch-answer.result c.spend.ensures.left (λ o. fetch_reports c.args.who.hand (name_of c.args.name) (fetch_reply o))
    (λ o. fetch_restores c.args.who.hand (name_of c.args.name) o) (fetch_commits c.args.who.hand g.K.Told.start c.self.inside.repo c.args.who.number (name_of c.args.name)) c.fetch-answer.ensures.step
    (fetch_tests c.args.who.hand g.K.Told.start c.self.inside.repo c.fetch-answer.new.repo (name_of c.args.name) c.fetch-answer.result) (fetch_removes c.args.who.hand c.self.inside.repo c.args.who.number (name_of c.args.name))

pub returns-clause-step : goal.returns-clause-step
returns-clause-step g c = outcome g.K.Told.start c.self.inside.repo c.args.self.now c.fetch-answer.new.repo c.args.who.number
    (fetch_step c.args.who.hand (name_of c.args.name)) fetch_reply c.fetch-answer.result c.self.inside.left c.self.view_is c.self.invariant.8 c.self.invariant.0 c.if-self-eq0.false c.spend.ensures.grounds c.fetch-answer.ensures.step

pub returns-clause-calls : goal.returns-clause-calls
returns-clause-calls g c = calls_hand c.args.who.hand g.K.Told.start c.self.inside.repo c.args.self.now c.fetch-answer.new.repo c.args.who.number
    (fetch_step c.args.who.hand (name_of c.args.name)) fetch_reply c.fetch-answer.result c.self.view_is c.requires.mine c.fetch-answer.ensures.step

pub returns-then-self-eq0-clause-calls : goal.returns-then-self-eq0-clause-calls
returns-then-self-eq0-clause-calls g c = calls_same c.args.who.hand c.args.self.now (fetch_step c.args.who.hand (name_of c.args.name)) fetch_reply (calls_at 0 c.args.self.now)

pub returns-clause-few : goal.returns-clause-few
returns-clause-few g c = is_few g.K.Told.start c.self.inside.repo c.fetch-answer.new.repo c.args.who.number
    (fetch_step c.args.who.hand (name_of c.args.name)) fetch_reply c.fetch-answer.result c.self.inside.left c.self.invariant.0 c.if-self-eq0.false c.fetch-answer.ensures.step

pub returns-clause-sure : goal.returns-clause-sure
returns-clause-sure g c = turns_left_of c.fetch-answer.result (g.K.Told.start.quiet ≡ true) (length c.self.inside.repo < 2 ^ 41)
    (λ f. IsTrue (g.D.Fetch.Fetch.is_sure f)) (is_short c.self.inside.repo c.self.inside.left c.self.invariant.0 c.if-self-eq0.false) c.fetch-answer.ensures.sure

pub fetch-answer-requires-clause-new : goal.fetch-answer-requires-clause-new
fetch-answer-requires-clause-new g c = subst (λ (log : List Moment). IsFresh g.K.Told.start log c.args.who.number (fetch_step c.args.who.hand (name_of c.args.name))) (sym c.self.view_is) c.requires.new

pub returns-clause-own : goal.returns-clause-own
returns-clause-own g c =
    subst (λ (log : List Moment). IfOk c.fetch-answer.result (λ o. own_of g.K.Told.start c.fetch-answer.new.repo c.args.who.number
    ≡ own_fetched c.args.who.hand g.D.Fetch.Fetch.left (name_of c.args.name) o (own_of g.K.Told.start log c.args.who.number))) c.self.view_is c.fetch-answer.ensures.own

pub returns-clause-kept : goal.returns-clause-kept
returns-clause-kept g c =
    subst (λ (log : List Moment). OnErr c.fetch-answer.result (own_of g.K.Told.start c.fetch-answer.new.repo c.args.who.number ≡ own_of g.K.Told.start log c.args.who.number)) c.self.view_is c.fetch-answer.ensures.kept
