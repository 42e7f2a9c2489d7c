use Rattle.std.proofs.Common.{sym, subst}
use Rattle.esr_core.specs.Entry.{Step}
use Rattle.esr_formats.specs.Names.{name_of}
use Rattle.esr_desk.specs.Entries.{step_of}
use Rattle.esr_desk.specs.Hands.{fetch_step}
use Rattle.esr_repo.specs.May.{MayFetch}
use Rattle.esr_repo.specs.Calls.{FetchDid}
use Rattle.esr_repo.specs.Fresh.{fresh_as, goes_as, own_as}
use Rattle.esr_steps.proofs.Written.{fetch_did}
use Rattle.esr_steps.proofs.HandSteps.{fetch_reads, may_fetch_by, fetch_own, fetch_own_kept}
use Rattle.esr_steps.proofs.hands.fetch.Goals as goal

pub check-requires-clause-fresh : goal.check-requires-clause-fresh
check-requires-clause-fresh g c = fresh_as g.K.Told.start c.args.repo.now c.args.who (step_of c.fetches.result) (fetch_step c.args.hand (name_of c.args.name)) c.fetches.ensures c.requires.new

pub check-requires-clause-own : goal.check-requires-clause-own
check-requires-clause-own g c = own_as g.K.Told.start c.args.repo.now c.args.who (step_of c.fetches.result) (fetch_step c.args.hand (name_of c.args.name)) c.fetches.ensures
    (fetch_reads c.args.hand g.K.Told.start c.args.repo.now c.args.who (name_of c.args.name) c.rules.ensures.read_tracked c.requires.may)

pub call_fetch-requires-clause-goes : goal.call_fetch-requires-clause-goes
call_fetch-requires-clause-goes g c =
    goes_as g.K.Told.start c.check.new.self c.args.who (step_of c.fetches.result) (step_of c.fetches-2.result) (fetch_step c.args.hand (name_of c.args.name)) c.fetches.ensures c.fetches-2.ensures c.in_ok-check.ensures.goes

pub call_fetch-requires-clause-may : goal.call_fetch-requires-clause-may
call_fetch-requires-clause-may g c =
    subst (λ (step : Step). MayFetch g.K.Told.start c.check.new.self c.args.who step (name_of c.args.name)) (sym c.fetches-2.ensures)
    (may_fetch_by c.args.hand g.K.Told.start c.args.repo.now c.check.new.self c.args.who (name_of c.args.name) c.in_ok-check.ensures.step.0 c.rules-2.ensures.tracked c.rules-2.ensures.of_ops c.rules-2.ensures.tests c.requires.may)

pub returns-clause-step : goal.returns-clause-step
returns-clause-step g c =
    fetch_did g.D.Fetch.Fetch.left g.K.Told.start c.args.repo.now c.check.new.self c.call_fetch.new.self c.args.who (fetch_step c.args.hand (name_of c.args.name)) (name_of c.args.name) c.call_fetch.result c.in_ok-check.ensures.step.0
    (subst (λ (step : Step). FetchDid g.D.Fetch.Fetch.left g.K.Told.start c.check.new.self c.call_fetch.new.self c.args.who step (name_of c.args.name) c.call_fetch.result) c.fetches-2.ensures c.call_fetch.ensures.step)

pub returns-clause-own : goal.returns-clause-own
returns-clause-own g c =
    fetch_own c.entries_tell_the_caller.ensures c.args.hand g.D.Fetch.Fetch.left g.K.Told.start c.args.repo.now c.check.new.self c.call_fetch.new.self c.args.who
    (name_of c.args.name) c.call_fetch.result c.in_ok-check.ensures.step.0 c.rules-2.ensures.read_tracked c.requires.may
    (subst (λ (step : Step). FetchDid g.D.Fetch.Fetch.left g.K.Told.start c.check.new.self c.call_fetch.new.self c.args.who step (name_of c.args.name) c.call_fetch.result) c.fetches-2.ensures c.call_fetch.ensures.step)

pub returns-clause-kept : goal.returns-clause-kept
returns-clause-kept g c =
    fetch_own_kept c.entries_tell_the_caller.ensures c.args.hand g.D.Fetch.Fetch.left g.K.Told.start c.args.repo.now c.check.new.self c.call_fetch.new.self c.args.who (name_of c.args.name) c.call_fetch.result c.in_ok-check.ensures.step.0
    (subst (λ (step : Step). FetchDid g.D.Fetch.Fetch.left g.K.Told.start c.check.new.self c.call_fetch.new.self c.args.who step (name_of c.args.name) c.call_fetch.result) c.fetches-2.ensures c.call_fetch.ensures.step)
