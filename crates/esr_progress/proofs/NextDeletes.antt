-- The unit of a delete or cleanup that is ready, in a world of which the list tells.
use Rattle.std.proofs.Common.{◌≡◌, ◌⊎◌, ℕ, suc, ◌<◌, Bool, true, false, ◌&&◌, List, Some, None, cond, map, take, refl, sym, ap, ◌∙◌, subst, inl, inr, nat_cmp}
use Rattle.std.specs.Prelude.{not, nat_lt, slice_get}
use Rattle.std.specs.List.{list_any, position}
use Rattle.std.specs.FinMap as fin
use Rattle.std.proofs.lemmas.Bool.{lt-ltb, ltb-true, and_parts, not-true}
use Rattle.std.proofs.lemmas.Option.{same_Some}
use Rattle.esr_model.specs.Values.{Has, RootData, Formats}
use Rattle.esr_core.specs.World.{World, Op, Deletion, Deleting, Drop}
use Rattle.esr_core.specs.Ready.{ReadyDelete, ReadyCleanup}
use Rattle.esr_core.specs.Steps.{plain_ticket}
use Rattle.esr_core.specs.Turns.{cleaning_ticket}
use Rattle.esr_core.specs.After.{taken_by}
use Rattle.esr_core.specs.Laws.Tests.{clash}
use Rattle.esr_formats.specs.Ids.{number_of}
use Rattle.esr_formats.specs.Roots.{root_of}
use Rattle.esr_formats.specs.Clusters.{count_of}
use Rattle.esr_ops.specs.declared.unit.Seat.{Seat as CodeSeat}
use Rattle.esr_ops.specs.declared.unit.SeatKind.{SeatKind}
use Rattle.esr_ops.specs.declared.unit.SeatKind.TheVariants as kinds
use Rattle.esr_ops.specs.declared.unit.Work.{Work as CodeWork}
use Rattle.esr_ops.specs.declared.unit.Work.TheVariants as works
use Rattle.esr_ops.specs.declared.unit.Copied.{Copied}
use Rattle.esr_ops.specs.Plan.{Plan, OfDelete, OfDrop, seat_of_code, RestorePlan, TicketMaps, IsPlanOf, IsGivenIn}
use Rattle.esr_ops.specs.Inside.{plan_with, numbers_of, Rise, IsProgress}
use Rattle.esr_ops.specs.Units.{given_by, GivesWork, LeavesDelete, HasDeleteReady, IsLowest, LowestUnit}
use Rattle.esr_progress.specs.Choice.{barred, is_out_of, is_swapping, cleanup_waits, delete_ready}
use Rattle.esr_ops.specs.Deletes.{IsWorkBy, IsDeleteWork, delete_kind, gives_cleanup}
use Rattle.esr_ops.specs.Entries.{find-member}
use Rattle.esr_ops.specs.Lists.{position-None, Has-at}
use Rattle.esr_progress.specs.Lookups.{find_delete, find_op}
use Rattle.esr_ops.specs.Numbers.{entries_from, found_member}
use Rattle.esr_ops.specs.Tests.{any_true, any_here, first_place}
use Rattle.esr_progress.proofs.Choices.{is_false, place_lower}
use Rattle.esr_progress.proofs.Cleanups.{cleanup_tested, cleanup_by}
use Rattle.esr_progress.proofs.NextUnits.{some_out, some_barred, some_swapping, none_out, none_barred, none_swapping, ops_is, ticketed}

-- ---- the test

abbrev tested : Bool → Bool → Bool → Bool → Bool → Bool → Bool → Bool
tested failed out clean alone bar before swap = cond failed (not out) (cond clean alone ((not bar && not before) && not swap))

failed_ready : (failed out clean alone bar before swap : Bool) → failed ≡ true → out ≡ false → tested failed out clean alone bar before swap ≡ true
failed_ready failed out clean alone bar before swap f o = (λ j. tested (f j) (o j) clean alone bar before swap)

going_ready : (failed out clean alone bar before swap : Bool) → failed ≡ false → clean ≡ false → bar ≡ false → before ≡ false → swap ≡ false → tested failed out clean alone bar before swap ≡ true
going_ready failed out clean alone bar before swap f c b e s = (λ j. tested (f j) out (c j) alone (b j) (e j) (s j))

alone_ready : (failed out clean alone bar before swap : Bool) → failed ≡ false → clean ≡ true → alone ≡ true → tested failed out clean alone bar before swap ≡ true
alone_ready failed out clean alone bar before swap f c a = (λ j. tested (f j) out (c j) (a j) bar before swap)

so_ready : (failed out clean alone bar before swap : Bool) → tested failed out clean alone bar before swap ≡ true
    → ((failed ≡ true) × (out ≡ false)) ⊎ (((failed ≡ false) × (clean ≡ false) × (bar ≡ false) × (before ≡ false) × (swap ≡ false)) ⊎ ((failed ≡ false) × (clean ≡ true) × (alone ≡ true)))
so_ready true out clean alone bar before swap e = inl (refl, not-true out e)
so_ready false out true alone bar before swap e = inr (inr (refl, refl, e))
so_ready false out false alone bar before swap e =
    let (two, s) = and_parts (not bar && not before) (not swap) e in
    let (b, f) = and_parts (not bar) (not before) two in
    inr (inl (refl, refl, not-true bar b, not-true before f, not-true swap s))

-- an op of a lower number is open
abbrev preceded : List (ℕ × Op) → ℕ → Bool
preceded ops number = list_any (λ (e : ℕ × Op). nat_lt e.0 number) ops

-- the numbers stay where the ops are copied
pub copied_numbers : (ops copied : List (ℕ × Op)) → copied ≡ ops → (deletes : List (ℕ × Deletion)) (completed : List ℕ) (seats : TicketMaps) (next : ℕ) (restores : List (ℕ × RestorePlan)) (now : Plan)
    → plan_with ops deletes completed seats next restores ≡ now
    → IsProgress ops deletes next restores → numbers_of copied ≡ numbers_of (fin.entries now.ops)
copied_numbers ops copied same deletes completed seats next restores now view h =
    ap numbers_of (same ∙ sym (entries_from ops h.ops_numbered.rise)) ∙ ap (λ (p : Plan). numbers_of (fin.entries p.ops)) view

module _ (ops : List (ℕ × Op)) (deletes : List (ℕ × Deletion)) (completed : List ℕ) (seats : TicketMaps) (next : ℕ)
    (restores : List (ℕ × RestorePlan)) (now : Plan) (view : plan_with ops deletes completed seats next restores ≡ now) (h : IsProgress ops deletes next restores)
    (root : RootData) (safe term : ℕ) (w : World) (is : IsGivenIn now root safe term w) where
  rise : Rise (numbers_of deletes)
  rise = h.deletes_numbered.rise

  -- ---- a listed delete
  module _ (d : ℕ × Deletion) (m : Has deletes d) where
    got : fin.get w.deletes d.0 ≡ Some d.1
    got = find_delete ops deletes completed seats next restores now view h root safe term w is d.0 ∙ found_member deletes rise d m

    leaving : LeavesDelete w d.0 → delete_ready ops deletes seats term d ≡ true
    leaving r =
        failed_ready d.1.failed (is_out_of seats term d.0) d.1.clean (not (cleanup_waits ops deletes seats d.0)) (barred deletes d.0) (preceded ops d.0) (is_swapping seats term)
        (ap (λ (x : Deletion). x.failed) (same_Some d.1 r.deletion (sym got ∙ r.there)) ∙ r.failed)
        (is_false _ (λ s. let (k, out) = some_out ops deletes completed seats next restores now view h root safe term w is d.0 s in r.idle k out))

    going : (x : Deletion) → ReadyDelete w d.0 x → delete_ready ops deletes seats term d ≡ true
    going x r =
        going_ready d.1.failed (is_out_of seats term d.0) d.1.clean (not (cleanup_waits ops deletes seats d.0)) (barred deletes d.0) (preceded ops d.0) (is_swapping seats term)
        (ap (λ (y : Deletion). y.failed) (same_Some d.1 x (sym got ∙ r.there)) ∙ r.unfailed)
        (ap (λ (y : Deletion). y.clean) (same_Some d.1 x (sym got ∙ r.there)) ∙ r.deletes)
        (is_false _ (λ b. r.first_delete (some_barred ops deletes completed seats next restores now view h root safe term w is d.0 b)))
        (is_false _ (λ b.
        let (e, there, lower) = any_true (λ (e : ℕ × Op). nat_lt e.0 d.0) ops b in
        r.first e.0 e.1 (ltb-true e.0 d.0 lower) (find_op ops deletes completed seats next restores now view h root safe term w is e.0 ∙ found_member ops h.ops_numbered.rise e there)))
        (is_false _ (λ s. let (k, out) = some_swapping ops deletes completed seats next restores now view h root safe term w is s in r.no_swap k out))

    cleaning : (x : Deletion) → ReadyCleanup w d.0 x → delete_ready ops deletes seats term d ≡ true
    cleaning x r =
        alone_ready d.1.failed (is_out_of seats term d.0) d.1.clean (not (cleanup_waits ops deletes seats d.0)) (barred deletes d.0) (preceded ops d.0) (is_swapping seats term)
        (ap (λ (y : Deletion). y.failed) (same_Some d.1 x (sym got ∙ r.there)) ∙ r.unfailed)
        (ap (λ (y : Deletion). y.clean) (same_Some d.1 x (sym got ∙ r.there)) ∙ r.cleans)
        (cleanup_tested ops deletes completed seats next restores now view h w is.plan d.0 x r)

    is_tested : HasDeleteReady w d.0 → delete_ready ops deletes seats term d ≡ true
    is_tested (inl r) = leaving r
    is_tested (inr (x, inl r)) = going x r
    is_tested (inr (x, inr r)) = cleaning x r

    leaves : d.1.failed ≡ true → is_out_of seats term d.0 ≡ false → LeavesDelete w d.0
    leaves failed out = record { deletion = d.1; there = got; failed = failed; idle = none_out ops deletes completed seats next restores now view h root safe term w is d.0 out }

    own_ready : d.1.failed ≡ false → d.1.clean ≡ false → barred deletes d.0 ≡ false → preceded ops d.0 ≡ false → is_swapping seats term ≡ false → ReadyDelete w d.0 d.1
    own_ready failed clean bar before swap = record {
      there = got;
      unfailed = failed;
      deletes = clean;
      first = λ p q lt o.
          clash _ (any_here (λ (e : ℕ × Op). nat_lt e.0 d.0) ops (p, q) (find-member p ops q (sym (find_op ops deletes completed seats next restores now view h root safe term w is p) ∙ o)) (lt-ltb p d.0 lt)) before;
      first_delete = none_barred ops deletes completed seats next restores now view h root safe term w is d.0 bar;
      no_swap = none_swapping ops deletes completed seats next restores now view h root safe term w is swap;
    }

    own_cleanup : d.1.failed ≡ false → d.1.clean ≡ true → not (cleanup_waits ops deletes seats d.0) ≡ true → ReadyCleanup w d.0 d.1
    own_cleanup failed clean e = cleanup_by ops deletes completed seats next restores now view h w is.plan d.0 d.1 got failed clean e

    is_ready : delete_ready ops deletes seats term d ≡ true → HasDeleteReady w d.0
    is_ready e = elim (so_ready d.1.failed (is_out_of seats term d.0) d.1.clean (not (cleanup_waits ops deletes seats d.0)) (barred deletes d.0) (preceded ops d.0) (is_swapping seats term) e) [
      | inl x ↦ inl (leaves x.0 x.1)
      | inr y ↦ elim y [ inl x ↦ inr (d.1, inl (own_ready x.0 x.1 x.2 x.3 x.4)) | inr x ↦ inr (d.1, inr (own_cleanup x.0 x.1 x.2)) ]
    ]

  -- a delete of which a unit is ready is listed
  listed : (o : ℕ) → HasDeleteReady w o → (x : Deletion) × Has deletes (o, x)
  listed o (inl r) = (r.deletion, find-member o deletes r.deletion (sym (find_delete ops deletes completed seats next restores now view h root safe term w is o) ∙ r.there))
  listed o (inr (x, inl r)) = (x, find-member o deletes x (sym (find_delete ops deletes completed seats next restores now view h root safe term w is o) ∙ r.there))
  listed o (inr (x, inr r)) = (x, find-member o deletes x (sym (find_delete ops deletes completed seats next restores now view h root safe term w is o) ∙ r.there))

  pub no_delete : position (delete_ready ops deletes seats term) deletes ≡ None → (o : ℕ) → HasDeleteReady w o → ⊥
  no_delete e o r = let (x, m) = listed o r in clash _ (is_tested (o, x) m r) (position-None (delete_ready ops deletes seats term) deletes e (o, x) m)

  -- ---- the first of which one is ready
  module _ (at : ℕ) (d : ℕ × Deletion) (found : position (delete_ready ops deletes seats term) deletes ≡ Some at) (there : slice_get deletes at ≡ Some d) where
    member : Has deletes d
    member = Has-at deletes at d there

    here : (delete_ready ops deletes seats term d ≡ true) × ((z : ℕ × Deletion) → Has (take at deletes) z → delete_ready ops deletes seats term z ≡ false)
    here = first_place (delete_ready ops deletes seats term) deletes at d found there

    lowest : (p : ℕ) → p < d.0 → HasDeleteReady w p → ⊥
    lowest p lt r = let (x, m) = listed p r in clash _ (is_tested (p, x) m r) (here.1 (p, x) (place_lower deletes rise at d there (p, x) m lt))

    pub lowest_delete : (o : ℕ) → o ≡ d.0 → IsLowest (HasDeleteReady w) (Some o)
    lowest_delete o o_is = subst (λ (n : ℕ). IsLowest (HasDeleteReady w) (Some n)) (sym o_is) (is_ready d member here.0, lowest)

    -- ---- what is given

    abbrev seat_for : SeatKind → Bool → ℕ → CodeSeat
    seat_for kind clean o = record { kind = kind; clean = clean; op = o; term = term; raised = None; settled = false }

    abbrev seated : SeatKind → Bool → Plan
    seated kind clean = record now { ops = fin.from_entries ops; seats = fin.insert now.seats now.next_ticket (seat_of_code (seat_for kind clean d.0)); next_ticket = suc now.next_ticket }

    -- what the unit is, and the list with its ticket
    abbrev IsGivenDelete : CodeWork → SeatKind → Bool → Copied → Type 0
    IsGivenDelete work kind clean copy = GivesWork w d.0 work copy × ((f : Formats) → IsPlanOf (taken_by f w d.0 (given_by work copy) (fin.get w.ops d.0)) (seated kind clean))

    ops_stay : fin.from_entries {R = nat_cmp} ops ≡ w.ops
    ops_stay = ops_is ops deletes completed seats next restores now view h root safe term w is

    picked : ((d.1.failed ≡ true) × (is_out_of seats term d.0 ≡ false))
        ⊎ (((d.1.failed ≡ false) × (d.1.clean ≡ false) × (barred deletes d.0 ≡ false) × (preceded ops d.0 ≡ false) × (is_swapping seats term ≡ false))
        ⊎ ((d.1.failed ≡ false) × (d.1.clean ≡ true) × (not (cleanup_waits ops deletes seats d.0) ≡ true)))
    picked = so_ready d.1.failed (is_out_of seats term d.0) d.1.clean (not (cleanup_waits ops deletes seats d.0)) (barred deletes d.0) (preceded ops d.0) (is_swapping seats term) here.0

    is_idle : d.1.failed ≡ true → is_out_of seats term d.0 ≡ false
    is_idle failed = elim picked [ inl x ↦ x.1 | inr y ↦ elim y [ inl x ↦ absurd (clash d.1.failed failed x.0) | inr x ↦ absurd (clash d.1.failed failed x.0) ] ]

    goes : d.1.failed ≡ false → d.1.clean ≡ false → ReadyDelete w d.0 d.1
    goes failed clean = elim picked [
      | inl x ↦ absurd (clash d.1.failed x.0 failed)
      | inr y ↦ elim y [ inl x ↦ own_ready d member x.0 x.1 x.2 x.3 x.4 | inr x ↦ absurd (clash d.1.clean x.1 clean) ]
    ]

    cleans : d.1.failed ≡ false → d.1.clean ≡ true → ReadyCleanup w d.0 d.1
    cleans failed clean = elim picked [
      | inl x ↦ absurd (clash d.1.failed x.0 failed)
      | inr y ↦ elim y [ inl x ↦ absurd (clash d.1.clean clean x.1) | inr x ↦ own_cleanup d member x.0 x.1 x.2 ]
    ]

    gives_by : (copy : Copied) (b c : Bool) → d.1.failed ≡ b → d.1.clean ≡ c → (work : CodeWork) → IsWorkBy b c d.1.uuids work → IsGivenDelete work (cond b kinds.Drop kinds.Delete) (not b && c) copy
    gives_by copy true c failed clean work hw = subst (λ (z : CodeWork). IsGivenDelete z kinds.Drop false copy) (sym hw) (
      record { stopped = inr (d.1, got d member, failed); idle = (leaves d member failed (is_idle failed)).idle },
      λ f. ticketed ops deletes completed seats next restores now view h root safe term w is (plain_ticket w d.0 Drop) (seat_of_code (seat_for kinds.Drop false d.0)) (fin.from_entries ops) w.ops ops_stay
          (λ i. record { kind = OfDrop; clean = false; op = d.0; term = is.term_is i; raised = None; settled = false }) refl,
    )
    gives_by copy false true failed clean work hw = subst (λ (z : CodeWork). IsGivenDelete z kinds.Delete true copy) (sym hw) (
      (d.1, cleans failed clean),
      λ f. ticketed ops deletes completed seats next restores now view h root safe term w is (cleaning_ticket w d.0) (seat_of_code (seat_for kinds.Delete true d.0)) (fin.from_entries ops) w.ops ops_stay
          (λ i. record { kind = OfDelete; clean = true; op = d.0; term = is.term_is i; raised = None; settled = false }) refl,
    )
    gives_by copy false false failed clean (works.Delete ids) hw = (
      (d.1, goes failed clean, hw),
      λ f. ticketed ops deletes completed seats next restores now view h root safe term w is (plain_ticket w d.0 (Deleting (map number_of ids) None)) (seat_of_code (seat_for kinds.Delete false d.0)) (fin.from_entries ops) w.ops ops_stay
          (λ i. record { kind = OfDelete; clean = false; op = d.0; term = is.term_is i; raised = None; settled = false }) refl,
    )
    gives_by copy false false failed clean work hw = absurd hw

    pub delete_is : (ticket : ℕ) → ticket ≡ seats.next → (o : ℕ) → o ≡ d.0 → (work : CodeWork) (kind : SeatKind) (clean : Bool) (copy : Copied) → IsDeleteWork d.1 work → kind ≡ delete_kind d.1
        → clean ≡ gives_cleanup d.1
        → count_of copy.safe ≡ safe → root_of copy.root ≡ root → (kept : List (ℕ × Op)) → kept ≡ ops
        → (new : Plan) → new ≡ record now { ops = fin.from_entries kept; seats = fin.insert now.seats now.next_ticket (seat_of_code (seat_for kind clean o)); next_ticket = suc now.next_ticket }
        → LowestUnit (HasDeleteReady w) w (Some (new, record { ticket = ticket; op = o; work = work; copy = copy }))
    delete_is ticket ticket_is o o_is work kind clean copy hw kind_is clean_is safe_is root_is kept kept_is new new_is =
        let both : IsGivenDelete work (delete_kind d.1) (gives_cleanup d.1) copy = gives_by copy d.1.failed d.1.clean refl refl work hw in
        let plan_is : seated (delete_kind d.1) (gives_cleanup d.1) ≡ new =
        sym (new_is ∙ (λ i. record now { ops = fin.from_entries (kept_is i); seats = fin.insert now.seats now.next_ticket (seat_of_code (seat_for (kind_is i) (clean_is i) (o_is i))); next_ticket = suc now.next_ticket })) in
        subst (λ (k : ℕ). LowestUnit (HasDeleteReady w) w (Some (new, record { ticket = ticket; op = k; work = work; copy = copy }))) (sym o_is) (
          record {
            ticket = ticket_is ∙ ap (λ (p : Plan). p.next_ticket) view ∙ is.plan.next_ticket;
            lowest = lowest;
            gives = both.0;
            copy = record { safe = safe_is ∙ sym is.safe_is; root = root_is ∙ sym is.root_is };
          },
          λ f. subst (λ (p : Plan). IsPlanOf (taken_by f w d.0 (given_by work copy) (fin.get w.ops d.0)) p) plan_is (both.1 f),
        )
