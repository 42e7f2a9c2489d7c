-- Laws of a list's ops, deletes and tickets in a world whose plan it is.
use Rattle.std.proofs.Common.{◌≡◌, ℕ, Bool, true, List, Some, refl, sym, ap, ◌∙◌, nat_cmp}
use Rattle.std.specs.FinMap as fin
use Rattle.esr_model.specs.Values.{RootData}
use Rattle.esr_core.specs.World.{World, Op, Deletion, Ticket}
use Rattle.esr_core.specs.Laws.Maps.{entry_got, got_entry}
use Rattle.esr_ops.specs.Plan.{Plan, Seat, seat_of, seat_out, RestorePlan, TicketMaps, IsGivenIn, IsPlanOf}
use Rattle.esr_ops.specs.Seats.{any_seat}
use Rattle.esr_ops.specs.Inside.{plan_with, IsProgress}
use Rattle.esr_ops.specs.Entries.{get_from}
use Rattle.esr_progress.specs.Plans.{ticket_of, seat_there}
use Rattle.esr_ops.specs.Tests.{any_true, any_here}

-- ---- seats by their tickets

-- a test that passes for a seat
pub any_there : (p : Seat → Bool) (m : TicketMaps) (k : ℕ) (s : Seat) → fin.get m.seats k ≡ Some s → p s ≡ true → any_seat p m ≡ true
any_there p m k s e h = any_here (λ (x : ℕ × Seat). p x.1) (fin.entries m.seats) (k, s) (got_entry m.seats k s e) h

pub any_found : (p : Seat → Bool) (m : TicketMaps) → any_seat p m ≡ true → (k : ℕ) × ((s : Seat) × (fin.get m.seats k ≡ Some s) × (p s ≡ true))
any_found p m e =
    let (x, there, h) = any_true (λ (x : ℕ × Seat). p x.1) (fin.entries m.seats) e in
    (x.0, (x.1, entry_got m.seats x.0 x.1 there, h))

module _ (ops : List (ℕ × Op)) (deletes : List (ℕ × Deletion)) (completed : List ℕ) (seats : TicketMaps) (next : ℕ) (restores : List (ℕ × RestorePlan))
    (now : Plan) (view : plan_with ops deletes completed seats next restores ≡ now) (h : IsProgress ops deletes next restores)
    (root : RootData) (safe term : ℕ) (w : World) (is : IsGivenIn now root safe term w) where
  pub find_op : (q : ℕ) → fin.get w.ops q ≡ fin.find nat_cmp q ops
  find_op q = ap (λ m. fin.get m q) (sym is.plan.ops) ∙ ap (λ (p : Plan). fin.get p.ops q) (sym view) ∙ get_from ops q

  pub find_delete : (d : ℕ) → fin.get w.deletes d ≡ fin.find nat_cmp d deletes
  find_delete d = ap (λ m. fin.get m d) (sym is.plan.deletes) ∙ ap (λ (p : Plan). fin.get p.deletes d) (sym view) ∙ get_from deletes d

  -- ---- tickets that are out

  seat_is : (k : ℕ) → fin.get seats.seats k ≡ seat_out (fin.get w.tickets k)
  seat_is k = ap (λ (p : Plan). fin.get p.seats k) view ∙ is.plan.seats k

  pub seat_by : (k : ℕ) (t : Ticket) → fin.get w.tickets k ≡ Some t → t.out ≡ true → fin.get seats.seats k ≡ Some (seat_of t)
  seat_by k t e out = seat_is k ∙ ap seat_out e ∙ seat_there t out

  pub by_seat : (k : ℕ) (s : Seat) → fin.get seats.seats k ≡ Some s → (t : Ticket) × (fin.get w.tickets k ≡ Some t) × (t.out ≡ true) × (seat_of t ≡ s)
  by_seat k s e = ticket_of w now is.plan k s (sym (ap (λ (p : Plan). fin.get p.seats k) view) ∙ e)

module _ (ops : List (ℕ × Op)) (deletes : List (ℕ × Deletion)) (completed : List ℕ) (seats : TicketMaps) (next : ℕ) (restores : List (ℕ × RestorePlan))
    (now : Plan) (view : plan_with ops deletes completed seats next restores ≡ now) (h : IsProgress ops deletes next restores) where
  module _ (w : World) (is : IsPlanOf w now) where
    in_world : IsGivenIn now w.root w.safe w.term w
    in_world = record { plan = is; root_is = refl; safe_is = refl; term_is = refl }

    pub got_op : (q : ℕ) → fin.get w.ops q ≡ fin.find nat_cmp q ops
    got_op = find_op ops deletes completed seats next restores now view h w.root w.safe w.term w in_world

    pub got_delete : (q : ℕ) → fin.get w.deletes q ≡ fin.find nat_cmp q deletes
    got_delete = find_delete ops deletes completed seats next restores now view h w.root w.safe w.term w in_world
