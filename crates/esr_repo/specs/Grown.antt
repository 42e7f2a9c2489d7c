-- Histories that go on by one moment, and what it makes of tickets.
use Rattle.std.specs.Prelude.{◌≡◌, ℕ, Bool, true, cond, List, [], ◌∷◌, ◌++◌, Option, Some, None}
use Rattle.std.proofs.Common.{refl, sym, ap, ◌∙◌}
use Rattle.std.specs.Ordering.{nat_cmp}
use Rattle.std.specs.Cmp.{nat_cmp_total, eq_by_cmp_equiv}
use Rattle.std.specs.FinMap.{FinMap}
use Rattle.std.specs.FinMap as fin
use Rattle.esr_model.specs.Values.{Formats}
use Rattle.esr_core.specs.World.{World, Ticket, Reader}
use Rattle.esr_core.specs.Restores.{IsReading}
use Rattle.esr_core.specs.Steps.{IsOut}
use Rattle.esr_core.specs.Entry.{Step, Reply, Moment}
use Rattle.esr_core.specs.Past.{with_entry}
use Rattle.esr_core.specs.After.{with_given, change, answered, after}
use Rattle.esr_core.specs.Allowed.{Allowed}
use Rattle.esr_core.specs.History.{world_from, IsLegal}
use Rattle.esr_ops.specs.Plan.{Plan, seat_of, seat_out, reader_seat, reader_out, IsPlanOf}
use Rattle.esr_progress.specs.Plans.{seat_there, reader_there as reader_shown}
use Rattle.esr_desk.specs.Start.{Start, formats_of, world_of, Legal, no_ticket, or_no_ticket, ticket_of}
use Rattle.esr_desk.specs.Own.{no_reader, or_no_reader, reader_of, caller_of, as_client, own_of}
use Rattle.esr_desk.specs.Made.{world_more}
use Rattle.esr_repo.specs.Next.{Added}

legal-append : (f : Formats) (n : ℕ) (w : World) (xs ys : List Moment) → IsLegal f n w xs → IsLegal f n (world_from f w xs) ys → IsLegal f n w (xs ++ ys)
legal-append f n w [] ys h k = k
legal-append f n w (x ∷ xs) ys h k = (h.0, legal-append f n (after f w x) xs ys h.1 k)

-- a history that is legal, and a moment that is allowed after it
pub legal_step : (s : Start) (log : List Moment) (m : Moment) → Legal s log → Allowed (formats_of s) s.part_size (world_of s log) m → Legal s (log ++ m ∷ [])
legal_step s log m legal allowed = legal-append (formats_of s) s.part_size s.world log (m ∷ []) legal (allowed, tt)

pub world_step : (s : Start) (log : List Moment) (m : Moment) → world_of s (log ++ m ∷ []) ≡ after (formats_of s) (world_of s log) m
world_step s log m = world_more (formats_of s) s.world log (m ∷ [])

-- the world after an added entry
pub added_world : (s : Start) (old new : List Moment) (who : ℕ) (step : Step) (reply : Reply) (a : Added s old new who step reply)
    → world_of s new ≡ after (formats_of s) (world_of s old) (record { entry = record { who = who; step = step; reply = reply }; image = a.image })
added_world s old new who step reply a = ap (world_of s) a.is ∙ world_step s old (record { entry = record { who = who; step = step; reply = reply }; image = a.image })

-- what was made, with an added entry
pub added_entries : (s : Start) (old new : List Moment) (who : ℕ) (step : Step) (reply : Reply) → Added s old new who step reply
    → (world_of s new).entries ≡ with_entry (world_of s old).entries (record { who = who; step = step; reply = reply })
added_entries s old new who step reply a = ap (λ (w : World). w.entries) (added_world s old new who step reply a)

-- a ticket after an added entry
pub added_ticket : (s : Start) (old new : List Moment) (who : ℕ) (step : Step) (reply : Reply) (a : Added s old new who step reply) (k : ℕ)
    → ticket_of s new k ≡ or_no_ticket (fin.get (answered (formats_of s) (world_of s old) who step reply a.image).tickets k)
added_ticket s old new who step reply a k = ap (λ (w : World). or_no_ticket (fin.get w.tickets k)) (added_world s old new who step reply a)

not_out : no_ticket.out ≡ true → ⊥
not_out e = cc

-- a ticket that is out was given
pub out_is : (s : Start) (log : List Moment) (k : ℕ) → (ticket_of s log k).out ≡ true → IsOut (world_of s log) k (ticket_of s log k)
out_is s log k out = go (fin.get (world_of s log).tickets k) refl out
  where
    go : (o : Option Ticket) → fin.get (world_of s log).tickets k ≡ o → (or_no_ticket o).out ≡ true → IsOut (world_of s log) k (ticket_of s log k)
    go None e h = absurd (not_out h)
    go (Some t) e h =
        let is : t ≡ ticket_of s log k = sym (ap or_no_ticket e) in
        record { there = e ∙ ap Some is; out = ap (λ (x : Ticket). x.out) (sym is) ∙ h }

-- what was put is there
pub put_there : (tickets : FinMap nat_cmp Ticket) (k : ℕ) (t : Ticket) → fin.get (fin.insert tickets k t) k ≡ Some t
put_there tickets k t = fin.get-insert nat_cmp_total tickets k t k ∙ ap (λ (b : Bool). cond b (Some t) (fin.get tickets k)) ((eq_by_cmp_equiv nat_cmp_total).refl k)

-- a ticket that is out, given anew
pub changed_ticket : (s : Start) (log : List Moment) (k : ℕ) (g : Ticket → Ticket) → (ticket_of s log k).out ≡ true → or_no_ticket (fin.get (change (world_of s log) k g).tickets k) ≡ g (ticket_of s log k)
changed_ticket s log k g out =
    let there = (out_is s log k out).there in
    ap (λ (o : Option Ticket). or_no_ticket (fin.get (with_given (world_of s log) k g o).tickets k)) there ∙ ap or_no_ticket (put_there (world_of s log).tickets k (g (ticket_of s log k)))

-- ---- the tickets of restores

-- one after an added entry
pub added_reader : (s : Start) (old new : List Moment) (who : ℕ) (step : Step) (reply : Reply) (a : Added s old new who step reply) (k : ℕ)
    → reader_of s new k ≡ or_no_reader (fin.get (answered (formats_of s) (world_of s old) who step reply a.image).readers k)
added_reader s old new who step reply a k = ap (λ (w : World). or_no_reader (fin.get w.readers k)) (added_world s old new who step reply a)

no_reader_out : no_reader.out ≡ true → ⊥
no_reader_out e = cc

-- one that is out was given
pub reading_is : (s : Start) (log : List Moment) (k : ℕ) → (reader_of s log k).out ≡ true → IsReading (world_of s log) k (reader_of s log k)
reading_is s log k out = go (fin.get (world_of s log).readers k) refl out
  where
    go : (o : Option Reader) → fin.get (world_of s log).readers k ≡ o → (or_no_reader o).out ≡ true → IsReading (world_of s log) k (reader_of s log k)
    go None e h = absurd (no_reader_out h)
    go (Some q) e h =
        let is : q ≡ reader_of s log k = sym (ap or_no_reader e) in
        record { there = e ∙ ap Some is; out = ap (λ (x : Reader). x.out) (sym is) ∙ h }

-- what was put is there
pub reader_there : (readers : FinMap nat_cmp Reader) (k : ℕ) (q : Reader) → fin.get (fin.insert readers k q) k ≡ Some q
reader_there readers k q = fin.get-insert nat_cmp_total readers k q k ∙ ap (λ (b : Bool). cond b (Some q) (fin.get readers k)) ((eq_by_cmp_equiv nat_cmp_total).refl k)

-- ---- what the list of ops keeps of those that are out

pub seat_found : (s : Start) (log : List Moment) (k : ℕ) (p : Plan) → IsPlanOf (world_of s log) p → (ticket_of s log k).out ≡ true → fin.get p.seats k ≡ Some (seat_of (ticket_of s log k))
seat_found s log k p h out = h.seats k ∙ ap seat_out (out_is s log k out).there ∙ seat_there (ticket_of s log k) out

pub reader_found : (s : Start) (log : List Moment) (k : ℕ) (p : Plan) → IsPlanOf (world_of s log) p → (reader_of s log k).out ≡ true → fin.get p.readers k ≡ Some (reader_seat (reader_of s log k))
reader_found s log k p h out = h.readers k ∙ ap reader_out (reading_is s log k out).there ∙ reader_shown (reader_of s log k) out

-- ---- all that someone is and has done

pub own_same : (s : Start) (old new : List Moment) (k : ℕ) → ticket_of s new k ≡ ticket_of s old k → reader_of s new k ≡ reader_of s old k → caller_of s new ≡ caller_of s old
    → own_of s new k ≡ own_of s old k
own_same s old new k ticket reader caller = λ j. record { ticket = ticket j; reader = reader j; caller = as_client k (caller j) }
