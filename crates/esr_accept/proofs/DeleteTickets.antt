-- Which deletes and ops a ticket has, in a world of which the list tells.
use Rattle.std.proofs.Common.{◌≡◌, ℕ, Bool, true, false, ◌&&◌, ◌==◌, List, Some, None, Option, refl, sym, ap, ◌∙◌}
use Rattle.std.specs.Prelude.{not, is_some}
use Rattle.std.specs.List.{list_any}
use Rattle.std.specs.FinMap as fin
use Rattle.std.proofs.lemmas.Bool.{and_from, and_parts}
use Rattle.esr_core.specs.World.{World, Op, Deletion, Work, Finalize, Ticket}
use Rattle.esr_core.specs.Deletes.{is_swap, is_unaborted}
use Rattle.esr_core.specs.Deletes as core
use Rattle.esr_core.specs.Laws.Maps.{entry_got, got_entry}
use Rattle.esr_ops.specs.Plan.{Plan, Seat, kind_of, seat_of, RestorePlan, IsPlanOf, IsGivenIn, TicketMaps}
use Rattle.esr_ops.specs.Seats.{any_seat, has_op, swaps_op, is_master}
use Rattle.esr_ops.specs.Inside.{plan_with, IsProgress}
use Rattle.esr_accept.specs.AskedDeletes.{is_taken, is_swapped}
use Rattle.esr_progress.specs.Lookups.{seat_by, by_seat as law-by_seat, any_there, any_found}
use Rattle.esr_ops.specs.Tests.{any_true, any_here}

pub and_apart : (a b c : Bool) → ((a && b) && c) ≡ (a && (b && c))
and_apart true b c = refl
and_apart false b c = refl

-- two tests of which each passes where the other does
pub same_tests : (a b : Bool) → (a ≡ true → b ≡ true) → (b ≡ true → a ≡ true) → a ≡ b
same_tests true b f g = sym (f refl)
same_tests false true f g = g refl
same_tests false false f g = refl

pub swaps_is : (work : Work) → is_master (kind_of work) ≡ is_swap work
swaps_is (Finalize info results made) = refl
swaps_is work = refl

pub unaborted_is : (o : Option ℕ) → not (is_some o) ≡ is_unaborted o
unaborted_is None = refl
unaborted_is (Some by) = refl

module _ (ops : List (ℕ × Op)) (deletes : List (ℕ × Deletion)) (completed : List ℕ) (seats : TicketMaps) (next : ℕ)
    (restores : List (ℕ × RestorePlan)) (now : Plan) (view : plan_with ops deletes completed seats next restores ≡ now) (h : IsProgress ops deletes next restores)
    (term : ℕ) (w : World) (plan : IsPlanOf w now) (term_is : w.term ≡ term) where
  given : IsGivenIn now w.root w.safe term w
  given = record { plan = plan; root_is = refl; safe_is = refl; term_is = term_is }

  -- a test on seats that is one on their tickets, while these are out
  module _ (on_ticket : ℕ × Ticket → Bool) (on_seat : Seat → Bool) (same : (k : ℕ) (t : Ticket) → (t.out && on_seat (seat_of t)) ≡ on_ticket (k, t)) where
    by_ticket : list_any on_ticket (fin.entries w.tickets) ≡ true → any_seat on_seat seats ≡ true
    by_ticket e =
        let (x, m, hit) = any_true on_ticket (fin.entries w.tickets) e in
        let (out, test) = and_parts x.1.out (on_seat (seat_of x.1)) (same x.0 x.1 ∙ hit) in
        any_there on_seat seats x.0 (seat_of x.1) (seat_by ops deletes completed seats next restores now view h w.root w.safe term w given x.0 x.1 (entry_got w.tickets x.0 x.1 m) out) test

    by_seat : any_seat on_seat seats ≡ true → list_any on_ticket (fin.entries w.tickets) ≡ true
    by_seat e =
        let (k, found) = any_found on_seat seats e in
        let (t, there, out, is) = law-by_seat ops deletes completed seats next restores now view h w.root w.safe term w given k found.0 found.1 in
        any_here on_ticket (fin.entries w.tickets) (k, t) (got_entry w.tickets k t there) (sym (same k t) ∙ and_from t.out (on_seat (seat_of t)) out (ap on_seat is ∙ found.2))

    seats_same : list_any on_ticket (fin.entries w.tickets) ≡ any_seat on_seat seats
    seats_same = same_tests _ _ by_ticket by_seat

  has_op_is : (o k : ℕ) (t : Ticket) → (t.out && has_op term o (seat_of t)) ≡ core.has_op w.term o (k, t)
  has_op_is o k t = ap (λ (n : ℕ). t.out && ((t.term == n) && (t.op == o))) (sym term_is)

  swaps_op_is : (o k : ℕ) (t : Ticket) → (t.out && swaps_op term o (seat_of t)) ≡ core.swaps_op w.term o (k, t)
  swaps_op_is o k t =
      ap (λ (b : Bool). t.out && b) (and_apart (has_op term o (seat_of t)) (not t.settled) (is_master (kind_of t.work)))
      ∙ sym (and_apart t.out (has_op term o (seat_of t)) (not t.settled && is_master (kind_of t.work)))
      ∙ (λ j. has_op_is o k t j && (not t.settled && swaps_is t.work j))

  pub taken_is : (o : ℕ) → core.is_taken w o ≡ is_taken seats term o
  taken_is o = seats_same (core.has_op w.term o) (has_op term o) (has_op_is o)

  pub swapped_is : (o : ℕ) → core.is_swapped w o ≡ is_swapped seats term o
  swapped_is o = seats_same (core.swaps_op w.term o) (swaps_op term o) (swaps_op_is o)
