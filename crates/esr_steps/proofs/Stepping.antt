-- What a step makes of its ticket, whatever is answered.
use Rattle.std.proofs.Common.{◌≡◌, ℕ, Bool, true, false, cond, List, Option, Some, None, nat_cmp, refl, sym, ap, ◌∙◌, subst}
use Rattle.std.specs.Prelude.{is_some}
use Rattle.std.specs.Ordering.{eq_by_cmp}
use Rattle.std.specs.Cmp.{nat_cmp_total}
use Rattle.std.specs.FinMap.{FinMap, nat_cmp-IsAntisymmetric}
use Rattle.std.specs.FinMap as fin
use Rattle.esr_core.specs.Laws.NumberMaps.{tied}
use Rattle.esr_ops.specs.Plan.{Plan, seat_out, IsPlanOf}
use Rattle.esr_model.specs.Image.{Image}
use Rattle.esr_core.specs.World.{World, Ticket}
use Rattle.esr_core.specs.Entry.{Step, Reply, Refused, DepotFault, Moment}
use Rattle.esr_core.specs.After.{with_given, change, faulted}
use Rattle.esr_desk.specs.Refusals.{refusal_of}
use Rattle.esr_desk.specs.declared.refusal.StepRefusal.{StepRefusal}
use Rattle.esr_desk.specs.declared.refusal.StepRefusal.TheVariants as steps
use Rattle.esr_desk.specs.declared.refusal.EntryRefusal.TheVariants as code
use Rattle.esr_desk.specs.Start.{Start, formats_of, world_of, or_no_ticket, ticket_of}
use Rattle.esr_desk.specs.Own.{reader_of}
use Rattle.esr_repo.specs.Next.{Added, AddedOr}
use Rattle.esr_repo.specs.Grown.{seat_found, reader_found, added_ticket}

-- an entry after a check that added nothing
pub added_from : (s : Start) (old mid new : List Moment) (who : ℕ) (step : Step) (reply : Reply) → mid ≡ old → Added s mid new who step reply → Added s old new who step reply
added_from s old mid new who step reply e a = subst (λ (log : List Moment). Added s log new who step reply) e a

-- a refusal leaves the ticket, where a failed call of the container leaves the world
pub kept_by : (s : Start) (old new : List Moment) (who : ℕ) (step : Step) (e : StepRefusal) → ((image : Option Image) → faulted (formats_of s) (world_of s old) who step image ≡ world_of s old) → AddedOr s old new who step e
    → ticket_of s new who ≡ ticket_of s old who
kept_by s old new who step steps.Memory still same = ap (λ (log : List Moment). ticket_of s log who) same
kept_by s old new who step steps.TurnsSpent still never = absurd never
kept_by s old new who step (steps.Refused code.DepotFault) still a =
    added_ticket s old new who step (Refused DepotFault) a who ∙ ap (λ (w : World). or_no_ticket (fin.get w.tickets who)) (still a.image)
kept_by s old new who step (steps.Refused x) still a = added_ticket s old new who step (Refused (refusal_of x)) a who

-- the next id stays where a ticket is given anew
pub next_given : (w : World) (k : ℕ) (g : Ticket → Ticket) → (change w k g).next_id ≡ w.next_id
next_given w k g = go (fin.get w.tickets k)
  where
    go : (o : Option Ticket) → (with_given w k g o).next_id ≡ w.next_id
    go None = refl
    go (Some t) = refl

-- a ticket given anew keeps its seat where what is kept of it stays
pub same_seats : (tickets : FinMap nat_cmp Ticket) (k : ℕ) (t v : Ticket) → fin.get tickets k ≡ Some t → seat_out (Some v) ≡ seat_out (Some t) → (q : ℕ)
    → seat_out (fin.get tickets q) ≡ seat_out (fin.get (fin.insert tickets k v) q)
same_seats tickets k t v there same q =
    sym (ap seat_out (fin.get-insert nat_cmp_total tickets k v q) ∙ go (eq_by_cmp nat_cmp q k) refl)
  where
    go : (b : Bool) → eq_by_cmp nat_cmp q k ≡ b → seat_out (cond b (Some v) (fin.get tickets q)) ≡ seat_out (fin.get tickets q)
    go true e = same ∙ sym (ap seat_out (ap (fin.get tickets) (nat_cmp-IsAntisymmetric q k (tied (nat_cmp q k) e)) ∙ there))
    go false e = refl

-- what the list keeps of a ticket that is out, which the look at the step has left
pub seat_is_kept : (s : Start) (old log : List Moment) (k : ℕ) (p : Plan) → log ≡ old → (ticket_of s old k).out ≡ true → IsPlanOf (world_of s log) p → is_some (fin.get p.seats k) ≡ true
seat_is_kept s old log k p e out h =
    let here : (ticket_of s log k).out ≡ true = subst (λ (l : List Moment). (ticket_of s l k).out ≡ true) (sym e) out in
    ap is_some (seat_found s log k p h here)

pub reader_is_kept : (s : Start) (old log : List Moment) (k : ℕ) (p : Plan) → log ≡ old → (reader_of s old k).out ≡ true → IsPlanOf (world_of s log) p → is_some (fin.get p.readers k) ≡ true
reader_is_kept s old log k p e out h =
    let here : (reader_of s log k).out ≡ true = subst (λ (l : List Moment). (reader_of s l k).out ≡ true) (sym e) out in
    ap is_some (reader_found s log k p h here)
