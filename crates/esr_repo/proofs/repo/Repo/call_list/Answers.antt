use Rattle.std.proofs.Common.{refl, option_copied}
use Rattle.esr_core.specs.Entry.{WasListed, Entry}
use Rattle.esr_depot.specs.Calls.{SameImage}
use Rattle.esr_desk.specs.Entries.{step_of}
use Rattle.esr_desk.specs.Listing.{page_of}
use Rattle.esr_repo.proofs.BlobCalls.{before_step, Pushed, pushed_as}
use Rattle.esr_repo.proofs.Listings.{is_page, list_ok, list_fault}
use Rattle.esr_repo.proofs.Pasts.{made_whole}
use Rattle.esr_repo.proofs.Failing.{unfailed_faults}
use Rattle.esr_repo.proofs.Calms.{calm_goes}
use Rattle.esr_repo.proofs.Errors.{error_kept, error_step}
use Rattle.esr_repo.proofs.repo.Repo.call_list.Goals as goal

pub invariant_of-self-in-Ok : goal.invariant_of-self-in-Ok
invariant_of-self-in-Ok g c =
    let b = before_step c.laws.ensures c.self.invariant.0.repo c.self.view_is c.requires.live in
    let e : Entry = record { who = c.args.who; step = step_of c.args.step; reply = WasListed (page_of c.in-Ok.pages.page) } in
    let p : Pushed c.self.inside.history.items c.reserve.new.self.items c.push_reserved.new.self.items e =
    pushed_as c.reserve.new.self.items c.push_reserved.new.self.items _ c.reserve.ensures.items c.push_reserved.ensures.items (λ j. record { who = c.args.who; step = step_of c.args.step; reply = WasListed (page_of (c.in-Ok.ensures.copy j)) }) in (
      made_whole b g.K.Told.past c.self.invariant.0.past (g.met.D.Depot.only_now c.list.new.self)
          (list_ok b (g.D.Depot.look c.list.new.self) c.args.who (option_copied c.args.after) c.requires.may c.in-Ok.pages c.in-Ok.pages.page
          (step_of c.args.step) c.requires.is c.in-Ok.ensures.page c.in-Ok.ensures.listing c.in-Ok.ensures.call c.requires.goes c.reserve.new.self.items c.push_reserved.new.self.items p),
      unfailed_faults c.self.invariant.1 p (g.D.Counted.faults c.list.new.self) refl c.in-Ok.ensures.cause.later,
      calm_goes (g.D.Depot.look c.self.inside.depot).sure c.self.invariant.2 p (g.D.Depot.look c.list.new.self).sure refl c.in-Ok.ensures.sure.spent,
    )

pub returns-in-Ok-clause-step : goal.returns-in-Ok-clause-step
returns-in-Ok-clause-step g c =
    let b = before_step c.laws.ensures c.self.invariant.0.repo c.self.view_is c.requires.live in
    let e : Entry = record { who = c.args.who; step = step_of c.args.step; reply = WasListed (page_of c.in-Ok.pages.page) } in
    let p : Pushed c.self.inside.history.items c.reserve.new.self.items c.push_reserved.new.self.items e =
    pushed_as c.reserve.new.self.items c.push_reserved.new.self.items _ c.reserve.ensures.items c.push_reserved.ensures.items (λ j. record { who = c.args.who; step = step_of c.args.step; reply = WasListed (page_of (c.in-Ok.ensures.copy j)) }) in
    (list_ok b (g.D.Depot.look c.list.new.self) c.args.who (option_copied c.args.after) c.requires.may c.in-Ok.pages c.in-Ok.pages.page
    (step_of c.args.step) c.requires.is c.in-Ok.ensures.page c.in-Ok.ensures.listing c.in-Ok.ensures.call c.requires.goes c.reserve.new.self.items c.push_reserved.new.self.items p).added

pub returns-in-Ok-clause-page : goal.returns-in-Ok-clause-page
returns-in-Ok-clause-page g c = is_page (option_copied c.args.after) c.in-Ok.pages.page c.in-Ok.ensures.page

pub invariant_of-self-in-Err : goal.invariant_of-self-in-Err
invariant_of-self-in-Err g c =
    let b = before_step c.laws.ensures c.self.invariant.0.repo c.self.view_is c.requires.live in
    error_kept b (g.D.Depot.look c.list.new.self) c.args.who (step_of c.args.step) c.reserve.new.self.items c.refuse_call.new.history.items c.reserve.ensures.items (λ _. SameImage) SameImage
    c.self.invariant.0 c.self.invariant.1 c.self.invariant.2 (g.met.D.Depot.only_now c.list.new.self) (g.D.Counted.faults c.list.new.self) c.in-Err.error c.in-Err.ensures.call c.in-Err.ensures.cause c.in-Err.ensures.sure c.refuse_call.ensures.entries
    (λ is p. list_fault b (g.D.Depot.look c.list.new.self) c.args.who (option_copied c.args.after) c.requires.may c.in-Err.error
    (step_of c.args.step) is c.requires.is c.in-Err.ensures.call c.requires.goes c.reserve.new.self.items c.refuse_call.new.history.items p)

pub returns-in-Err-clause-step : goal.returns-in-Err-clause-step
returns-in-Err-clause-step g c =
    let b = before_step c.laws.ensures c.self.invariant.0.repo c.self.view_is c.requires.live in
    error_step b (g.D.Depot.look c.list.new.self) c.args.who (step_of c.args.step) c.reserve.new.self.items c.refuse_call.new.history.items c.reserve.ensures.items
    (λ _. SameImage) SameImage c.in-Err.error c.in-Err.ensures.call c.refuse_call.ensures.entries
    (λ is p. list_fault b (g.D.Depot.look c.list.new.self) c.args.who (option_copied c.args.after) c.requires.may c.in-Err.error
    (step_of c.args.step) is c.requires.is c.in-Err.ensures.call c.requires.goes c.reserve.new.self.items c.refuse_call.new.history.items p)
    c.refuse_call.result c.refuse_call.ensures.is
