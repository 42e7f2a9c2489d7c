-- What stands against a cleanup, and the list with one more, in a world of which the list tells.
use Rattle.std.proofs.Common.{◌≡◌, ℕ, ◌+◌, ◌<◌, ◌^◌, List, [], ◌∷◌, ◌++◌, Option, Some, None, map, refl, sym, ap, ◌∙◌, subst, inl, inr, arith, nat_cmp}
use Rattle.std.specs.FinMap as fin
use Rattle.esr_model.specs.Lists.{Has-map}
use Rattle.esr_core.specs.World.{World, Op, Deletion}
use Rattle.esr_core.specs.Ready.{IsOpen}
use Rattle.esr_core.specs.After.{cleanup_opened}
use Rattle.esr_core.specs.Allowed.{HasTicket}
use Rattle.esr_ops.specs.Deletes.{cleanup_begun}
use Rattle.esr_ops.specs.Plan.{Plan, RestorePlan, IsPlanOf, IsAskedIn, TicketMaps}
use Rattle.esr_ops.specs.Inside.{plan_with, numbers_of, Rise, IsProgress}
use Rattle.esr_ops.specs.Units.{IsLowest}
use Rattle.esr_progress.specs.Choice.{first_number, lower_of}
use Rattle.esr_accept.specs.Asking.{open_cleanup, cleanup_refusal}
use Rattle.esr_accept.specs.AskedDeletes.{aborted_by}
use Rattle.esr_accept.specs.Accepting.{IsCleanupRuledOn}
use Rattle.esr_ops.specs.Entries.{find-member}
use Rattle.esr_progress.specs.Lookups.{got_op as law-got_op, got_delete as law-got_delete}
use Rattle.esr_progress.specs.Lowest.{lowest_of}
use Rattle.esr_ops.specs.Numbers.{found_member}
use Rattle.esr_accept.proofs.Accepts.{IsListed, listed, cleanup_there, no_cleanup}
use Rattle.esr_accept.proofs.DeletePlans.{opened_keeps, one_opened}

-- of numbers that rise the first is the lowest
number_lowest : {A : Type 0} (f : ℕ → Option A) (es : List (ℕ × A)) → Rise (numbers_of es) → ((q : ℕ) → f q ≡ fin.find nat_cmp q es) → IsLowest (λ n. (x : A) × (f n ≡ Some x)) (first_number es)
number_lowest {A} f [] rise is = λ n h. find-member n [] h.0 (sym (is n) ∙ h.1)
number_lowest {A} f (e ∷ es) rise is = (
  (e.1, is e.0 ∙ found_member (e ∷ es) rise e (inl refl)),
  λ p lt h. elim (find-member p (e ∷ es) h.0 (sym (is p) ∙ h.1)) [
    | inl same ↦ absurd (omega (arith, lt, ap (λ (z : ℕ × A). z.0) same))
    | inr later ↦ (let above : e.0 < p = rise.0 p (Has-map (λ (z : ℕ × A). z.0) es (p, h.0) later) in absurd (omega (arith, lt)))
  ],
)

-- a delete that names none aborts none
none_aborted : (seats : TicketMaps) (ops : List (ℕ × Op)) → map (aborted_by seats 0 [] 0) ops ≡ ops
none_aborted seats [] = refl
none_aborted seats (e ∷ ops) = ap (λ (es : List (ℕ × Op)). e ∷ es) (none_aborted seats ops)

module _ (ops : List (ℕ × Op)) (deletes : List (ℕ × Deletion)) (completed : List ℕ) (seats : TicketMaps) (next : ℕ) (restores : List (ℕ × RestorePlan))
    (now : Plan) (view : plan_with ops deletes completed seats next restores ≡ now) (h : IsProgress ops deletes next restores) where
  pub cleanup_keeps : (new_ops : List (ℕ × Op)) → new_ops ≡ ops → (new_deletes : List (ℕ × Deletion)) → new_deletes ≡ deletes ++ (next, cleanup_begun) ∷ [] → next < 2 ^ 62
      → IsProgress new_ops new_deletes (next + 1) (fin.entries now.restores)
  cleanup_keeps new_ops ops_are new_deletes deletes_are room =
      opened_keeps ops deletes completed seats next restores now view h 0 [] 0 new_ops (ops_are ∙ sym (none_aborted seats ops)) new_deletes (next, cleanup_begun) refl deletes_are room

  module _ (w : World) (is : IsPlanOf w now) where
    asked : IsAskedIn now w.root w.term w.next_id w
    asked = record { plan = is; root_is = refl; term_is = refl; next_is = refl }

    lists : IsListed ops deletes now
    lists = listed ops deletes completed seats next restores now h view

    got_op : (q : ℕ) → fin.get w.ops q ≡ fin.find nat_cmp q ops
    got_op = law-got_op ops deletes completed seats next restores now view h w is

    got_delete : (q : ℕ) → fin.get w.deletes q ≡ fin.find nat_cmp q deletes
    got_delete = law-got_delete ops deletes completed seats next restores now view h w is

    -- ---- the rules

    open_lowest : IsLowest (IsOpen w) (lower_of (first_number ops) (first_number deletes))
    open_lowest =
        lowest_of (λ n. (op : Op) × (fin.get w.ops n ≡ Some op)) (λ n. (x : Deletion) × (fin.get w.deletes n ≡ Some x)) (first_number ops) (first_number deletes)
        (number_lowest (fin.get w.ops) ops h.ops_numbered.rise got_op) (number_lowest (fin.get w.deletes) deletes h.deletes_numbered.rise got_delete)

    ruled_by : (cleanup lowest ticket : Option ℕ) → open_cleanup deletes ≡ cleanup → IsLowest (IsOpen w) lowest → IsLowest (HasTicket w) ticket → IsCleanupRuledOn w (cleanup_refusal cleanup lowest ticket)
    ruled_by (Some d) lowest ticket a b c = cleanup_there ops deletes now w.root w.term w.next_id lists w asked d a
    ruled_by None (Some o) ticket a b c = (no_cleanup ops deletes now w.root w.term w.next_id lists w asked a, b)
    ruled_by None None (Some k) a b c = (b, c)
    ruled_by None None None a b c = record { none_open = b; no_ticket = c }

    pub ruled : (ticket : Option ℕ) → IsLowest (HasTicket w) ticket → IsCleanupRuledOn w (cleanup_refusal (open_cleanup deletes) (lower_of (first_number ops) (first_number deletes)) ticket)
    ruled ticket lowest = ruled_by (open_cleanup deletes) (lower_of (first_number ops) (first_number deletes)) ticket refl open_lowest lowest

    -- ---- the list with it

    pub cleanup_is : (new_ops : List (ℕ × Op)) → new_ops ≡ ops → (new_deletes : List (ℕ × Deletion)) → new_deletes ≡ deletes ++ (next, cleanup_begun) ∷ []
        → (new : Plan) → new ≡ record now { ops = fin.from_entries new_ops; deletes = fin.from_entries new_deletes; next_op = next + 1 } → IsPlanOf (cleanup_opened w) new
    cleanup_is new_ops ops_are new_deletes deletes_are new new_is =
        let ops_now : fin.from_entries {R = nat_cmp} new_ops ≡ w.ops = ap (λ (es : List (ℕ × Op)). fin.from_entries {R = nat_cmp} es) ops_are ∙ ap (λ (p : Plan). p.ops) view ∙ is.ops in
        subst (IsPlanOf (cleanup_opened w)) (sym new_is) (one_opened ops deletes completed seats next restores now view h w.term w is refl w.ops new_ops ops_now cleanup_begun new_deletes deletes_are)
