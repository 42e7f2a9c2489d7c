use Rattle.std.proofs.Common.{◌≡◌, ◌≤◌, ℕ, List, [], ◌∷◌, ◌++◌, sym, ap, ◌∙◌, subst, nat_cmp}
use Rattle.esr_core.specs.Entry.{Given, Gave, Moment}
use Rattle.std.specs.FinMap as fin
use Rattle.esr_desk.specs.Start.{Start, Legal, formats_of, no_ticket, or_no_ticket, ticket_of}
use Rattle.esr_core.specs.History.{world_from}
use Rattle.esr_quiet.specs.Numbers.{HasNoTickets}
use Rattle.esr_quiet.proofs.Numbers.{Numbered, numbered_from}
use Rattle.esr_quiet.proofs.Others.{given_by}
use Rattle.esr_quiet.specs.PrefixLaws.{legal_rest}
use Rattle.esr_quiet.proofs.number.tickets_are_numbered.Goals as goal

begun : (s : Start) → HasNoTickets s → Numbered s.world
begun s h = record { next = h.next; none = ap (λ m. fin.get m 0) h.none ∙ fin.get-empty nat_cmp 0 }

none_is : (s : Start) (log : List Moment) → HasNoTickets s → ticket_of s log 0 ≡ no_ticket
none_is s log h = ap or_no_ticket (numbered_from (formats_of s) log s.world (begun s h)).none

from_one : (s : Start) (log : List Moment) (m : Moment) (ticket op : ℕ) (unit : Given) → HasNoTickets s → Legal s (log ++ m ∷ []) → m.entry.reply ≡ Gave ticket op unit → 1 ≤ ticket
from_one s log m ticket op unit h legal gave =
    let is = (given_by (formats_of s) s.part_size (world_from (formats_of s) s.world log) m (legal_rest (formats_of s) s.part_size log (m ∷ []) s.world legal).0 ticket op unit gave).1 in
    subst (λ n. 1 ≤ n) (sym is) (numbered_from (formats_of s) log s.world (begun s h)).next

pub returns : goal.returns
returns c = record { none = none_is; given = from_one }
