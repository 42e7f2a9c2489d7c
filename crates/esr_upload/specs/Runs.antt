-- Histories, tickets and shards that go on.
use Rattle.std.proofs.Common.{◌≡◌, ℕ, List, refl, sym, ap, ◌∙◌, subst}
use Rattle.esr_core.specs.World.{Ticket}
use Rattle.esr_core.specs.Entry.{Moment}
use Rattle.esr_desk.specs.Start.{Start, ticket_of}
use Rattle.esr_desk.specs.Grew.{GrewBy, grew_by_none, grew_by_on}
use Rattle.esr_upload.specs.Worked.{Worked, Went}

pub worked_none : (t : Ticket) → Worked t t
worked_none t = record { first = t.first; drawn = t.drawn; noted = t.noted; wrote = t.wrote; read = t.read; is = refl }

pub worked_on : (a b c : Ticket) → Worked a b → Worked b c → Worked a c
worked_on a b c one two = record {
  first = two.first;
  drawn = two.drawn;
  noted = two.noted;
  wrote = two.wrote;
  read = two.read;
  is = two.is ∙ ap (λ (t : Ticket). record t { first = two.first; drawn = two.drawn; noted = two.noted; wrote = two.wrote; read = two.read }) one.is;
}

pub went_none : (s : Start) (log : List Moment) (who : ℕ) → Went s log log who
went_none s log who = record { grew = grew_by_none s who log; worked = worked_none (ticket_of s log who) }

pub went_on : (s : Start) (old mid new : List Moment) (who : ℕ) → Went s old mid who → Went s mid new who → Went s old new who
went_on s old mid new who first second = record {
  grew = grew_by_on s who old mid new first.grew second.grew;
  worked = worked_on (ticket_of s old who) (ticket_of s mid who) (ticket_of s new who) first.worked second.worked;
}

-- a history that went on, without the ticket
pub went_same : (s : Start) (old new : List Moment) (who : ℕ) → GrewBy s who old new → ticket_of s new who ≡ ticket_of s old who → Went s old new who
went_same s old new who grew same = record { grew = grew; worked = subst (λ (t : Ticket). Worked (ticket_of s old who) t) (sym same) (worked_none (ticket_of s old who)) }

pub drew_went : (s : Start) (old new : List Moment) (who first n : ℕ) → GrewBy s who old new → ticket_of s new who ≡ record (ticket_of s old who) { first = first; drawn = n } → Went s old new who
drew_went s old new who first n grew is =
    let t = ticket_of s old who in
    record { grew = grew; worked = record { first = first; drawn = n; noted = t.noted; wrote = t.wrote; read = t.read; is = is } }
