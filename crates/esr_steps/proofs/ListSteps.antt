-- The step that lists a page of the container's blobs.
use Rattle.std.proofs.Common.{◌≡◌, ℕ, true, List, Option, Result, Ok, Err, IfOk, OnErr, refl, sym, ◌∙◌, subst}
use Rattle.esr_model.specs.Values.{Bytes}
use Rattle.esr_core.specs.Entry.{ListStep, WasListed, Moment}
use Rattle.esr_core.specs.Steps.{listing}
use Rattle.esr_core.specs.Allowed.{ListsPage}
use Rattle.esr_depot.specs.declared.listing.Listed.{Listed}
use Rattle.esr_desk.specs.declared.refusal.StepRefusal.{StepRefusal}
use Rattle.esr_desk.specs.Delete.Conditions.{CanList}
use Rattle.esr_desk.specs.Listing.{page_of}
use Rattle.esr_desk.specs.Start.{Start, world_of, ticket_of}
use Rattle.esr_repo.specs.Next.{Did}
use Rattle.esr_repo.specs.Grown.{out_is, added_ticket, changed_ticket}
use Rattle.esr_steps.proofs.Stepping.{kept_by}

pub lists_page : (s : Start) (old log : List Moment) (k : ℕ) (from : Option Bytes) → log ≡ old → CanList (ticket_of s old k) from → ListsPage (world_of s log) k from
lists_page s old log k from e before =
    let can : CanList (ticket_of s log k) from = subst (λ (l : List Moment). CanList (ticket_of s l k) from) (sym e) before in
    record { t = ticket_of s log k; out = out_is s log k can.out; uuids = can.uuids; plan = can.plan; work = can.work; clean = can.clean; unsettled = can.unsettled; unended = can.unended; from_is = can.after_is }

-- what it makes of the ticket
pub listed_ticket : (s : Start) (old new : List Moment) (k : ℕ) (from : Option Bytes) (r : Result (List Listed) StepRefusal) → (ticket_of s old k).out ≡ true → Did s old new k (ListStep from) (λ page. WasListed (page_of page)) r
    → IfOk r (λ page. ticket_of s new k ≡ listing (ticket_of s old k) (page_of page))
listed_ticket s old new k from (Ok page) out did = added_ticket s old new k (ListStep from) (WasListed (page_of page)) did k ∙ changed_ticket s old k (λ t. listing t (page_of page)) out
listed_ticket s old new k from (Err e) out did = tt

pub unlisted_ticket : (s : Start) (old new : List Moment) (k : ℕ) (from : Option Bytes) (r : Result (List Listed) StepRefusal) → Did s old new k (ListStep from) (λ page. WasListed (page_of page)) r
    → OnErr r (ticket_of s new k ≡ ticket_of s old k)
unlisted_ticket s old new k from (Ok page) did = tt
unlisted_ticket s old new k from (Err e) did = kept_by s old new k (ListStep from) e (λ image. refl) did
