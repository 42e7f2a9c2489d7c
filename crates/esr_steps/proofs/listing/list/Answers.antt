use Rattle.std.proofs.Common.{List, option_copied, subst}
use Rattle.esr_core.specs.Entry.{Step, ListStep, WasListed}
use Rattle.esr_depot.specs.declared.listing.Listed.{Listed}
use Rattle.esr_desk.specs.Entries.{step_of}
use Rattle.esr_desk.specs.Listing.{page_of}
use Rattle.esr_repo.specs.Next.{Did}
use Rattle.esr_repo.specs.Stepping.{did_from}
use Rattle.esr_repo.specs.Fresh.{fresh_as, goes_as, own_as}
use Rattle.esr_steps.proofs.ListSteps.{lists_page, listed_ticket, unlisted_ticket}
use Rattle.esr_steps.proofs.listing.list.Goals as goal

pub call_list-requires-clause-is : goal.call_list-requires-clause-is
call_list-requires-clause-is g c = c.in_ok-step.ensures

pub call_list-requires-clause-may : goal.call_list-requires-clause-may
call_list-requires-clause-may g c = lists_page g.K.Told.start c.args.repo.now c.check.new.self c.args.ticket (option_copied c.args.after) c.in_ok-check.ensures.step.0 c.requires.may

pub call_list-requires-clause-goes : goal.call_list-requires-clause-goes
call_list-requires-clause-goes g c =
    goes_as g.K.Told.start c.check.new.self c.args.ticket (step_of c.in_ok-lists.field-0) (step_of c.in_ok-step.step) (ListStep (option_copied c.args.after)) c.in_ok-lists.ensures c.in_ok-step.ensures c.in_ok-check.ensures.goes

pub returns-clause-step : goal.returns-clause-step
returns-clause-step g c =
    subst (λ (step : Step). Did g.K.Told.start c.args.repo.now c.call_list.new.self c.args.ticket step (λ (page : List Listed). WasListed (page_of page)) c.call_list.result) c.in_ok-step.ensures
    (did_from g.K.Told.start c.args.repo.now c.check.new.self c.call_list.new.self c.args.ticket (step_of c.in_ok-step.step) (λ (page : List Listed). WasListed (page_of page)) c.call_list.result c.in_ok-check.ensures.step.0 c.call_list.ensures.step)

pub returns-clause-own : goal.returns-clause-own
returns-clause-own g c = listed_ticket g.K.Told.start c.args.repo.now c.call_list.new.self c.args.ticket (option_copied c.args.after) c.call_list.result c.requires.may.out (returns-clause-step g c)

pub returns-clause-kept : goal.returns-clause-kept
returns-clause-kept g c = unlisted_ticket g.K.Told.start c.args.repo.now c.call_list.new.self c.args.ticket (option_copied c.args.after) c.call_list.result (returns-clause-step g c)

pub check-requires-clause-fresh : goal.check-requires-clause-fresh
check-requires-clause-fresh g c = fresh_as g.K.Told.start c.args.repo.now c.args.ticket (step_of c.in_ok-lists.field-0) (ListStep (option_copied c.args.after)) c.in_ok-lists.ensures c.requires.new

pub check-requires-clause-own : goal.check-requires-clause-own
check-requires-clause-own g c = own_as g.K.Told.start c.args.repo.now c.args.ticket (step_of c.in_ok-lists.field-0) (ListStep (option_copied c.args.after)) c.in_ok-lists.ensures tt
