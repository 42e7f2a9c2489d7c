-- Tickets that are out, and the unit of a cleanup, in a world of which the list tells.
use Rattle.std.proofs.Common.{◌≡◌, ℕ, ◌<◌, Bool, true, false, cond, eqb, ltb, ◌&&◌, ◌||◌, List, [], ◌∷◌, None, Some, refl, sym, ap, ◌∙◌, subst, inl, inr, true≢false, eq-eqb, arith, nat_cmp, T, Less, Equal, Greater}
use Rattle.std.specs.Prelude.{not, is_some, ◌==◌}
use Rattle.std.specs.Ordering.{is_lt}
use Rattle.std.specs.FinMap as fin
use Rattle.std.specs.FinMap.Entries.{below_all}
use Rattle.std.proofs.lemmas.Bool.{or_cases, not-true, or_left, or_right, true_from_ne_false, ltb-true}
use Rattle.esr_model.specs.Values.{Has}
use Rattle.esr_core.specs.World.{World, Op, Deletion, Ticket}
use Rattle.esr_core.specs.Ready.{ReadyCleanup}
use Rattle.esr_core.specs.Steps.{IsOut}
use Rattle.esr_core.specs.Allowed.{HasTicket}
use Rattle.esr_core.specs.Laws.Maps.{entry_got, got_entry}
use Rattle.esr_core.specs.Laws.Tests.{clash}
use Rattle.esr_ops.specs.Plan.{Plan, Seat, seat_of, seat_out, RestorePlan, TicketMaps, IsPlanOf}
use Rattle.esr_ops.specs.Inside.{plan_with, IsProgress}
use Rattle.esr_ops.specs.Units.{IsLowest}
use Rattle.esr_progress.specs.Choice.{first_number, has_other, cleanup_waits}
use Rattle.esr_ops.specs.Entries.{eqb_is, find-member}
use Rattle.esr_progress.specs.Lookups.{got_op as law-got_op, got_delete as law-got_delete}
use Rattle.esr_ops.specs.Numbers.{found_member}
use Rattle.esr_progress.specs.Plans.{ticket_of, seat_there}
use Rattle.esr_ops.specs.Tests.{any_true, any_here}
use Rattle.esr_progress.proofs.Choices.{is_false}

-- ---- the first of a list

some_number : {A : Type 0} (es : List (ℕ × A)) → is_some (first_number es) ≡ true → (e : ℕ × A) × Has es e
some_number [] h = absurd (true≢false (sym h))
some_number (e ∷ es) h = (e, inl refl)

has_number : {A : Type 0} (es : List (ℕ × A)) (e : ℕ × A) → Has es e → is_some (first_number es) ≡ true
has_number [] e m = absurd m
has_number (x ∷ es) e m = refl

-- ---- the first of entries that rise

less_by : (a b : ℕ) → T (is_lt (nat_cmp a b)) → a < b
less_by a b h = go (ltb a b) (eqb a b) refl h
  where
    go : (l e : Bool) → ltb a b ≡ l → T (is_lt (cond l Less (cond e Equal Greater))) → a < b
    go true e is h = ltb-true a b is
    go false true is h = absurd h
    go false false is h = absurd h

left_of : (a b : Bool) → T (a && b) → T a
left_of true b h = tt
left_of false b h = absurd h

right_of : (a b : Bool) → T (a && b) → T b
right_of true b h = h
right_of false b h = absurd h

above : (q p : ℕ) (s : Seat) (es : List (ℕ × Seat)) → T (below_all nat_cmp q es) → Has es (p, s) → q < p
above q p s [] h m = absurd m
above q p s (e ∷ es) h (inl is) = less_by q p (subst (λ (z : ℕ × Seat). T (is_lt (nat_cmp q z.0))) is (left_of _ _ h))
above q p s (e ∷ es) h (inr m) = above q p s es (right_of _ _ h) m

none_below : (x : ℕ × Seat) (es : List (ℕ × Seat)) → T (fin.is_sorted nat_cmp (x ∷ es)) → (p : ℕ) (s : Seat) → Has (x ∷ es) (p, s) → p < x.0 → ⊥
none_below x es r p s (inl is) lt = let same : x.0 ≡ p = ap (λ (z : ℕ × Seat). z.0) is in omega (arith, same, lt)
none_below x es r p s (inr m) lt = let over : x.0 < p = above x.0 p s es (left_of _ _ r) m in omega (arith, over, lt)

module _ (ops : List (ℕ × Op)) (deletes : List (ℕ × Deletion)) (completed : List ℕ) (seats : TicketMaps) (next : ℕ) (restores : List (ℕ × RestorePlan))
    (now : Plan) (view : plan_with ops deletes completed seats next restores ≡ now) (h : IsProgress ops deletes next restores) where
  module _ (w : World) (is : IsPlanOf w now) where
    got_op : (q : ℕ) → fin.get w.ops q ≡ fin.find nat_cmp q ops
    got_op = law-got_op ops deletes completed seats next restores now view h w is

    got_delete : (q : ℕ) → fin.get w.deletes q ≡ fin.find nat_cmp q deletes
    got_delete = law-got_delete ops deletes completed seats next restores now view h w is

    -- ---- tickets that are out

    entry_of : (k : ℕ) (t : Ticket) → IsOut w k t → Has (fin.entries seats.seats) (k, seat_of t)
    entry_of k t out = got_entry seats.seats k (seat_of t) (ap (λ (p : Plan). fin.get p.seats k) view ∙ is.seats k ∙ ap seat_out out.there ∙ seat_there t out.out)

    ticket_at : (k : ℕ) (s : Seat) → Has (fin.entries seats.seats) (k, s) → HasTicket w k
    ticket_at k s m =
        let (t, there, out, same) = ticket_of w now is k s (sym (ap (λ (p : Plan). fin.get p.seats k) view) ∙ entry_got seats.seats k s m) in
        (t, record { there = there; out = out })

    none_shows : first_number (fin.entries seats.seats) ≡ None → (k : ℕ) → HasTicket w k → ⊥
    none_shows e k (t, out) = clash _ (has_number (fin.entries seats.seats) (k, seat_of t) (entry_of k t out)) (ap is_some e)

    -- the lowest ticket that is out
    lowest_in : (es : List (ℕ × Seat)) → T (fin.is_sorted nat_cmp es) → fin.entries seats.seats ≡ es → IsLowest (HasTicket w) (first_number es)
    lowest_in [] r e = λ k h. none_shows (ap first_number e) k h
    lowest_in (x ∷ es) r e = (
      ticket_at x.0 x.1 (subst (λ (l : List (ℕ × Seat)). Has l x) (sym e) (inl refl)),
      λ p lt h. none_below x es r p (seat_of h.0) (subst (λ (l : List (ℕ × Seat)). Has l (p, seat_of h.0)) e (entry_of p h.0 h.1)) lt,
    )

    pub lowest_ticket : IsLowest (HasTicket w) (first_number (fin.entries seats.seats))
    lowest_ticket = lowest_in (fin.entries seats.seats) (fin.entries_sorted seats.seats) refl

    -- ---- its unit

    abbrev waits_at : ℕ → Bool
    waits_at d = cleanup_waits ops deletes seats d

    pub cleanup_tested : (d : ℕ) (x : Deletion) → ReadyCleanup w d x → not (cleanup_waits ops deletes seats d) ≡ true
    cleanup_tested d x r = ap not (is_false (waits_at d) (λ e. elim (or_cases (is_some (first_number ops) || has_other deletes d) (is_some (first_number (fin.entries seats.seats))) e) [
      | inl two ↦ elim (or_cases (is_some (first_number ops)) (has_other deletes d) two) [
        | inl first ↦ let (z, m) = some_number ops first in r.no_op z.0 z.1 (got_op z.0 ∙ found_member ops h.ops_numbered.rise z m)
        | inr second ↦
            let (z, m, other) = any_true (λ (z : ℕ × Deletion). not (z.0 == d)) deletes second in
            clash (z.0 == d) (eq-eqb z.0 d (r.no_other z.0 z.1 (got_delete z.0 ∙ found_member deletes h.deletes_numbered.rise z m))) (not-true (z.0 == d) other)
      ]
      | inr shown ↦
          let (z, m) = some_number (fin.entries seats.seats) shown in
          let (t, out) = ticket_at z.0 z.1 m in
          r.no_ticket z.0 t out.there out.out
    ]))

    pub cleanup_by : (d : ℕ) (x : Deletion) → fin.get w.deletes d ≡ Some x → x.failed ≡ false → x.clean ≡ true → not (cleanup_waits ops deletes seats d) ≡ true → ReadyCleanup w d x
    cleanup_by d x there unfailed cleans e =
        let none : waits_at d ≡ false = not-true (waits_at d) e in
        let opens : Bool = is_some (first_number ops) || has_other deletes d in
        record {
          there = there;
          unfailed = unfailed;
          cleans = cleans;
          no_op = λ o q got.
              clash (waits_at d) (or_left opens (is_some (first_number (fin.entries seats.seats))) (or_left (is_some (first_number ops)) (has_other deletes d) (has_number ops (o, q) (find-member o ops q (sym (got_op o) ∙ got))))) none;
          no_other = λ c y got. eqb_is c d (true_from_ne_false (c == d) (λ f.
              clash (waits_at d) (or_left opens (is_some (first_number (fin.entries seats.seats))) (or_right (is_some (first_number ops)) (has_other deletes d)
              (any_here (λ (z : ℕ × Deletion). not (z.0 == d)) deletes (c, y) (find-member c deletes y (sym (got_delete c) ∙ got)) (ap not f)))) none));
          no_ticket = λ k t got out.
              clash (waits_at d) (or_right opens (is_some (first_number (fin.entries seats.seats))) (has_number (fin.entries seats.seats) (k, seat_of t) (entry_of k t (record { there = got; out = out })))) none;
        }
