-- Runs of steps, one after another.
use Rattle.std.proofs.Common.{◌≡◌, ℕ, List, refl, sym, ap, ◌∙◌, subst}
use Rattle.esr_core.specs.World.{Ticket}
use Rattle.esr_core.specs.Entry.{Moment}
use Rattle.esr_desk.specs.Start.{Start, ticket_of}
use Rattle.esr_desk.specs.Calls.{Call, HasTaken}
use Rattle.esr_desk.specs.Grew.{grew_by_none, grew_by_on}
use Rattle.esr_finish.specs.Went.{Worked, Went}

-- a ticket stays the desk's own
pub taken_on : (old new : List Call) (who : ℕ) → new ≡ old → HasTaken old who → HasTaken new who
taken_on old new who same taken = subst (λ (calls : List Call). HasTaken calls who) (sym same) taken

pub worked_not : (t : Ticket) → Worked t t
worked_not t = record { noted = t.noted; wrote = t.wrote; raised = t.raised; tried = t.tried_latest; is = refl }

pub worked_on : (a b c : Ticket) → Worked a b → Worked b c → Worked a c
worked_on a b c first second = record {
  noted = second.noted;
  wrote = second.wrote;
  raised = second.raised;
  tried = second.tried;
  is = second.is ∙ ap (λ (t : Ticket). record t { noted = second.noted; wrote = second.wrote; raised = second.raised; tried_latest = second.tried }) first.is;
}

pub went_not : (s : Start) (log : List Moment) (who : ℕ) → Went s log log who
went_not s log who = record { grew = grew_by_none s who log; worked = worked_not (ticket_of s log who) }

pub went_on : (s : Start) (old mid new : List Moment) (who : ℕ) → Went s old mid who → Went s mid new who → Went s old new who
went_on s old mid new who first second = record {
  grew = grew_by_on s who old mid new first.grew second.grew;
  worked = worked_on (ticket_of s old who) (ticket_of s mid who) (ticket_of s new who) first.worked second.worked;
}
