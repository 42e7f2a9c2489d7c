-- Ids that are drawn.
use Rattle.std.proofs.Common.{◌≡◌, ℕ, suc, ◌+◌, ◌<◌, ◌≤◌, true, List, Option, Some, None, refl, sym, ap, ◌∙◌, subst}
use Rattle.esr_model.specs.Kept.{first_id}
use Rattle.esr_core.specs.World.{World, Ticket}
use Rattle.esr_core.specs.Entry.{DrawStep, DrawnFrom, Refused, IdsSpent, Moment}
use Rattle.esr_core.specs.After.{change, with_given}
use Rattle.esr_core.specs.Allowed.{MayDraw, Allows, Drawing, DrawSpent}
use Rattle.std.specs.FinMap as fin
use Rattle.esr_ops.specs.Plan.{Plan, seat_out, IsPlanOf}
use Rattle.esr_steps.proofs.Stepping.{same_seats}
use Rattle.esr_desk.specs.Conditions.{CanDraw}
use Rattle.esr_desk.specs.Start.{Start, formats_of, world_of, ticket_of}
use Rattle.esr_repo.specs.Next.{Added}
use Rattle.esr_repo.specs.May.{MayNote, MayRefuse}
use Rattle.esr_repo.specs.Grown.{out_is, added_ticket, changed_ticket}

may_draw : (s : Start) (log : List Moment) (k n : ℕ) → CanDraw s (ticket_of s log k) n → MayDraw (formats_of s) (world_of s log) k n
may_draw s log k n can = record { t = ticket_of s log k; out = out_is s log k can.out; shard = can.shard; once = can.once; some = can.some; most = can.most; few = can.few }

abbrev drawing : ℕ → ℕ → Ticket → Ticket
drawing first n t = record t { first = first; drawn = n }

-- the list of ops doesn't read how many ids a ticket drew
drawn_plan : (w : World) (k n next : ℕ) (p : Plan) → IsPlanOf w p → IsPlanOf (record (change w k (drawing w.next_id n)) { next_id = next }) p
drawn_plan w k n next p h = go (fin.get w.tickets k) refl
  where
    put : (t : Ticket) → fin.get w.tickets k ≡ Some t → (q : ℕ) → fin.get p.seats q ≡ seat_out (fin.get (fin.insert w.tickets k (drawing w.next_id n t)) q)
    put t there q = h.seats q ∙ same_seats w.tickets k t (drawing w.next_id n t) there refl q

    go : (o : Option Ticket) → fin.get w.tickets k ≡ o → IsPlanOf (record (with_given w k (drawing w.next_id n) o) { next_id = next }) p
    go None there = record { ops = h.ops; deletes = h.deletes; completed = h.completed; seats = h.seats; next_op = h.next_op; next_ticket = h.next_ticket; restores = h.restores; restore_count = h.restore_count; readers = h.readers }
    go (Some t) there = record { ops = h.ops; deletes = h.deletes; completed = h.completed; seats = put t there; next_op = h.next_op; next_ticket = h.next_ticket; restores = h.restores; restore_count = h.restore_count; readers = h.readers }

pub may_note_draw : (s : Start) (log : List Moment) (k n first next : ℕ) → CanDraw s (ticket_of s log k) n → first ≡ (world_of s log).next_id → next ≡ (world_of s log).next_id + n → next < first_id (suc (world_of s log).term)
    → MayNote s log k (DrawStep n) (DrawnFrom first) None next
may_note_draw s log k n first next can first_is next_is below = record {
  plain = refl;
  allows = λ image tells same. Drawing k n first image (record { may = may_draw s log k n can; first_is = first_is; fits = subst (λ (x : ℕ). x < first_id (suc (world_of s log).term)) next_is below }) same;
  plan_is = λ image old h. drawn_plan (world_of s log) k n ((world_of s log).next_id + n) old h;
  next_is = λ image. next_is;
}

pub may_refuse_draw : (s : Start) (log : List Moment) (k n next : ℕ) → CanDraw s (ticket_of s log k) n → next ≡ (world_of s log).next_id → first_id (suc (world_of s log).term) ≤ (world_of s log).next_id + n
    → MayRefuse s log k (DrawStep n) (IdsSpent next)
may_refuse_draw s log k n next can next_is spent = record {
  plain = refl;
  allows = λ image tells same. subst (λ (x : ℕ). Allows (formats_of s) s.part_size (world_of s log) k (DrawStep n) (Refused (IdsSpent x)) image) (sym next_is) (DrawSpent k n image (may_draw s log k n can) spent same);
}

pub drawn_ticket : (s : Start) (old mid new : List Moment) (k n first : ℕ) → mid ≡ old → first ≡ (world_of s mid).next_id → (ticket_of s old k).out ≡ true → Added s mid new k (DrawStep n) (DrawnFrom first)
    → ticket_of s new k ≡ record (ticket_of s old k) { first = first; drawn = n }
drawn_ticket s old mid new k n first e first_is out a =
    let here : (ticket_of s mid k).out ≡ true = subst (λ (log : List Moment). (ticket_of s log k).out ≡ true) (sym e) out in
    added_ticket s mid new k (DrawStep n) (DrawnFrom first) a k
    ∙ changed_ticket s mid k (drawing (world_of s mid).next_id n) here
    ∙ ap (λ (x : ℕ). drawing x n (ticket_of s mid k)) (sym first_is)
    ∙ ap (λ (log : List Moment). drawing first n (ticket_of s log k)) e
