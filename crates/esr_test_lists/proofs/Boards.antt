-- What stays known of a list of open ops with each thing that is done with it.
use Rattle.std.proofs.Common.{◌≡◌, ℕ, suc, ◌+◌, ◌^◌, ◌<◌, ◌≤◌, Bool, true, false, true≢false, not, ltb, cond, eqb, List, [], Some, None, map, refl, sym, ap, ◌∙◌, subst, inl, inr, arith, nat_cmp}
use Rattle.std.proofs.lemmas.Bool.{cases_lt, ltb-true}
use Rattle.std.proofs.lemmas.Bool.Decides.{Decides-ltb, eqb_tells}
use Rattle.std.specs.Prelude.{Ok}
use Rattle.std.specs.FinMap as fin
use Rattle.esr_model.specs.Values.{Bytes, IndexRef, RootData, Formats, ShardResult}
use Rattle.esr_model.specs.Kept.{first_id}
use Rattle.esr_core.specs.World.{World, Op, ReadState, Ticket, Work, Finalize, Deleting, Swap, swap, swap_of}
use Rattle.esr_core.specs.Tracked.{Named}
use Rattle.esr_core.specs.Entry.{CloneOf, Snapshot}
use Rattle.esr_core.specs.After.{asked, asked_op, new_names, clone_opened, cleanup_opened, change, raised, settled_of, done_of, failed_of, dropped_of, delete_failed, delete_settled, read_over}
use Rattle.esr_core.specs.Deletes.{named_uuids, waiting_delete, running_delete, asked_delete}
use Rattle.esr_core.specs.Restores.{waits, restore_opened}
use Rattle.esr_core.specs.Laws.NameLaws.{named_new, named_up, new_asked}
use Rattle.esr_depot.specs.Look.{Look, now}
use Rattle.esr_formats.specs.Formats.{formats}
use Rattle.esr_formats.specs.Roots.{root_of}
use Rattle.esr_opening.specs.Opening.{Kept, IsOpening, world_in}
use Rattle.esr_ops.specs.declared.command.Accepted.{Accepted}
use Rattle.esr_ops.specs.declared.command.Command.{Command}
use Rattle.esr_ops.specs.declared.command.Command.TheVariants as commands
use Rattle.esr_ops.specs.declared.unit.ReadyUnit.{ReadyUnit}
use Rattle.esr_ops.specs.Asked.{asked_of, asked_index_of, IsAskable}
use Rattle.esr_accept.specs.Accepting.{Accepting, AcceptingDelete, AcceptingCleanup}
use Rattle.esr_progress.specs.Plans.{ticket_of}
use Rattle.esr_ops.specs.Plan.{Plan, Seat, UnitKind, OfFinalize, OfDelete, kind_of, seat_of, seat_out, IsPlanOf, IsAskedIn, IsGivenIn}
use Rattle.esr_ops.specs.Units.{given_of, NextUnit}
use Rattle.esr_ops.specs.Entries.{get_put}
use Rattle.esr_test_lists.specs.Board.{is_final, is_delete, IsStart, IsBoard}
use Rattle.esr_test_lists.proofs.Following.{Follows, taken, dones, fails, delete_fails, changes, raises, settles, delete_settles, drops, reads, asks}

-- a list that isn't long has room
pub few_ops : (n : ℕ) → ltb 100000 n ≡ false → n < 2 ^ 62
few_ops n e = elim (cases_lt 100000 n) [ inl lt ↦ absurd (true≢false (sym ((Decides-ltb 100000 n).1 lt) ∙ e)) | inr le ↦ omega (arith, le) ]

-- what a test that answers no shows
pub fits : (m n : ℕ) (r : Bool) → r ≡ not (ltb m n) → r ≡ false → m < n
fits m n r is e = ltb-true m n (both (ltb m n) (sym is ∙ e))
  where
    both : (b : Bool) → not b ≡ false → b ≡ true
    both true h = refl
    both false h = absurd (true≢false h)

pub no_less : (m n : ℕ) (r : Bool) → r ≡ ltb m n → r ≡ false → n ≤ m
no_less m n r is e = elim (cases_lt m n) [ inl lt ↦ absurd (true≢false (sym ((Decides-ltb m n).1 lt) ∙ sym is ∙ e)) | inr le ↦ le ]

never : {A : Type 0} → true ≡ false → A
never e = absurd (true≢false e)

any_formats : Formats
any_formats = formats (λ _ _ _. false) (λ _ _ _. None)

-- ---- an opened list

pub started : (before after : Look) (k : Kept) → IsOpening before after k → IsStart k.plan (root_of k.root) k.next
started before after k o =
    let w : World = world_in (now before) o.cluster o.root in
    record {
      w = w;
      plan = o.kept.plan;
      first = o.kept.plan.next_ticket;
      named =
          subst (λ (r : RootData). Named r k.plan.ops k.next) (sym o.kept.root)
          (subst (λ (ops : fin.FinMap nat_cmp Op). Named w.root ops k.next) (sym o.kept.plan.ops)
          (subst (λ (n : ℕ). Named w.root w.ops n) (sym o.kept.next) o.order.tracked.named));
    }

pub opened_board : {p : Plan} {root : RootData} {next : ℕ} (term : ℕ) → IsStart p root next → term < 2 ^ 63 → next < first_id (suc term) → IsBoard p root term next 0 false
opened_board term start low below = record { w = start.w; plan = start.plan; few = omega (arith, start.first); low_term = low; in_term = below; named = λ e. start.named }

-- ---- tickets and their swaps

-- a kind for which these tests answer no
pub of_finalize : (k : UnitKind) (r : Bool) → r ≡ not (is_final k) → r ≡ false → k ≡ OfFinalize
of_finalize OfFinalize r is e = refl
of_finalize k r is e = absurd (true≢false (sym is ∙ e))

pub of_delete : (k : UnitKind) (r : Bool) → r ≡ not (is_delete k) → r ≡ false → k ≡ OfDelete
of_delete OfDelete r is e = refl
of_delete k r is e = absurd (true≢false (sym is ∙ e))

abbrev with_kind : Ticket → UnitKind → Seat
with_kind t kind = record { kind = kind; clean = t.clean; op = t.op; term = t.term; raised = t.raised; settled = t.settled }

finalizes : (f : Formats) (work : Work) (root : RootData) → kind_of work ≡ OfFinalize → (s : Swap) × (swap_of f work root ≡ Some s)
finalizes f (Finalize info results made) root e = (_, refl)
finalizes f work root e = absurd cc

module _ {p : Plan} {root : RootData} {term next given : ℕ} {begun : Bool} (b : IsBoard p root term next given begun) where
  -- the world of the list, with this root, term and next id
  abbrev pub world : (safe pending : ℕ) → World
  world safe pending = record b.w { root = root; term = term; next_id = next; safe = safe; pending = pending }

  -- another list that is it
  pub renewed : (new : Plan) → new ≡ p → IsBoard new root term next given begun
  renewed new e = subst (λ (q : Plan). IsBoard q root term next given begun) (sym e) b

  plan_in : (safe pending : ℕ) → IsPlanOf (world safe pending) p
  plan_in safe pending = record {
    ops = b.plan.ops;
    deletes = b.plan.deletes;
    completed = b.plan.completed;
    seats = b.plan.seats;
    next_op = b.plan.next_op;
    next_ticket = b.plan.next_ticket;
    restores = b.plan.restores;
    restore_count = b.plan.restore_count;
    readers = b.plan.readers;
  }

  pub asked_in : IsAskedIn p root term next (world 0 0)
  asked_in = record { plan = plan_in 0 0; root_is = refl; term_is = refl; next_is = refl }

  pub given_in : (safe : ℕ) → IsGivenIn p root safe term (world safe 0)
  given_in safe = record { plan = plan_in safe 0; root_is = refl; safe_is = refl; term_is = refl }

  pub few_tickets : given < 4294967296 → p.next_ticket < 2 ^ 62
  few_tickets few = omega (arith, few, b.few)

  moved : (n : ℕ) (w v : World) (new : Plan) (later more : ℕ) → IsPlanOf w p → Follows n w v → IsPlanOf v new → later < first_id (suc term) → given + n ≤ more → IsBoard new root term later more true
  moved n w v new later more is f plan below few = record {
    w = v;
    plan = plan;
    few = let a : v.next_ticket ≤ w.next_ticket + n = f in omega (arith, a, plan.next_ticket, is.next_ticket, b.few, few);
    low_term = b.low_term;
    in_term = below;
    named = λ e. never e;
  }

  -- ---- another term or id

  pub elected : (new first : ℕ) → new < 2 ^ 63 → first < first_id (suc new) → IsBoard p root new first given true
  elected new first low below = record { w = b.w; plan = b.plan; few = b.few; low_term = low; in_term = below; named = λ e. never e }

  pub skipped : (later : ℕ) → next ≤ later → later < first_id (suc term) → IsBoard p root term later given begun
  skipped later le below = record { w = b.w; plan = b.plan; few = b.few; low_term = b.low_term; in_term = below; named = λ e. named_up root p.ops next later le (b.named e) }

  module _ (new : Plan) where
    at : (n : ℕ) (w v : World) (more : ℕ) → IsPlanOf w p → Follows n w v → IsPlanOf v new → given + n ≤ more → IsBoard new root term next more true
    at n w v more is f plan few = moved n w v new next more is f plan b.in_term few

    -- ---- what is asked for

    pub accepted : (answer : Accepted) (command : Command) → IsAskable (asked_of command) → begun ≡ false → Accepting (world 0 0) (asked_of command) (Ok (new, answer)) → IsBoard new root term (next + answer.drawn) given begun
    accepted answer (commands.Create name indices moment) askable unbegun h =
        let w : World = world 0 0 in
        let asks_for = map asked_index_of indices in
        let named : Named root w.ops next = subst (λ (ops : fin.FinMap nat_cmp Op). Named root ops next) b.plan.ops (b.named unbegun) in
        let there : Named root (fin.insert w.ops w.next_op (asked_op w name asks_for moment)) (next + suc (new_names w asks_for)) =
        named_new w named (asked_op w name asks_for moment) (next + suc (new_names w asks_for)) (new_asked w named name asks_for moment askable.0 h.0.unused) in
        record {
          w = asked w (Snapshot name asks_for moment);
          plan = h.1.plan;
          few = let e : new.next_ticket ≡ b.w.next_ticket = h.1.plan.next_ticket in omega (arith, e, b.plan.next_ticket, b.few);
          low_term = b.low_term;
          in_term = h.1.fits;
          named = λ e. subst (λ ops. Named root ops (next + answer.drawn)) (sym h.1.plan.ops)
              (subst (λ (drawn : ℕ). Named root (fin.insert w.ops w.next_op (asked_op w name asks_for moment)) (next + drawn)) (sym h.1.drawn) there);
        }
    accepted answer command askable unbegun h = absurd askable

    pub cloned : (later : ℕ) (name : Bytes) (moment : ℕ) (copy : CloneOf) → later < first_id (suc term) → ((w : World) → IsPlanOf w p → w.next_id ≡ next → IsPlanOf (clone_opened w name moment copy) new)
        → IsBoard new root term later given true
    cloned later name moment copy below h =
        moved 0 (world 0 0) (clone_opened (world 0 0) name moment copy) new later given (plan_in 0 0) (omega arith) (h (world 0 0) (plan_in 0 0) refl) below (omega arith)

    pub restoring : (uuid : ℕ) (place : Bytes) (indices : List IndexRef) → ((w : World) → IsPlanOf w p → IsPlanOf (restore_opened w uuid place indices) new) → IsBoard new root term next given true
    restoring uuid place indices h = at 0 b.w (restore_opened b.w uuid place indices) given b.plan (omega arith) (h b.w b.plan) (omega arith)

    pub deleting : (names : List Bytes) (op : ℕ) → ((w : World) → IsPlanOf w p → w.root ≡ root → w.term ≡ term → AcceptingDelete w names (Ok (new, op))) → IsBoard new root term next given true
    deleting names op h =
        let w : World = world 0 0 in
        at 0 w (asked_delete w names) given (plan_in 0 0) (asks w names (waiting_delete w) (running_delete w (named_uuids w names))) (h w (plan_in 0 0) refl refl).2 (omega arith)

    pub cleaning : (op : ℕ) → ((w : World) → IsPlanOf w p → AcceptingCleanup w (Ok (new, op))) → IsBoard new root term next given true
    cleaning op h = at 0 b.w (cleanup_opened b.w) given b.plan (omega arith) (h b.w b.plan).2 (omega arith)

    -- ---- what is given and reported

    pub gave : (safe : ℕ) (u : ReadyUnit) → NextUnit (world safe 0) (Some (new, u)) → IsBoard new root term next (given + 1) true
    gave safe u n = let w : World = world safe 0 in at 1 w _ (given + 1) (plan_in safe 0) (taken any_formats w u.op (given_of u) (fin.get w.ops u.op)) (n.1 any_formats) (omega arith)

    module _ (k : ℕ) where
      pub done : (r : ShardResult) → ((w : World) → IsPlanOf w p → IsPlanOf (done_of w k r (fin.get w.tickets k)) new) → IsBoard new root term next given true
      done r h = at 0 b.w _ given b.plan (dones b.w k r (fin.get b.w.tickets k)) (h b.w b.plan) (omega arith)

      pub failed : ((w : World) → IsPlanOf w p → w.term ≡ term → IsPlanOf (failed_of w k (fin.get w.tickets k)) new) → IsBoard new root term next given true
      failed h = let w : World = world 0 0 in at 0 w _ given (plan_in 0 0) (fails w k (fin.get w.tickets k)) (h w (plan_in 0 0) refl) (omega arith)

      pub undeleted : ((w : World) → IsPlanOf w p → w.term ≡ term → IsPlanOf (delete_failed w k (fin.get w.tickets k)) new) → IsBoard new root term next given true
      undeleted h = let w : World = world 0 0 in at 0 w _ given (plan_in 0 0) (delete_fails w k (fin.get w.tickets k)) (h w (plan_in 0 0) refl) (omega arith)

      pub raising : (n : ℕ) → ((w : World) → IsPlanOf w p → w.pending ≡ n → IsPlanOf (raised w k) new) → IsBoard new root term next given true
      raising n h = let w : World = world 0 n in at 0 w (raised w k) given (plan_in 0 n) (raises w k (λ t. record t { raised = Some w.pending }) (fin.get w.tickets k)) (h w (plan_in 0 n) refl) (omega arith)

      pub ending : ((w : World) → IsPlanOf w p → IsPlanOf (change w k (λ t. record t { out = false })) new) → IsBoard new root term next given true
      ending h = at 0 b.w _ given b.plan (changes b.w k (λ t. record t { out = false }) (fin.get b.w.tickets k)) (h b.w b.plan) (omega arith)

      pub dropping : ((w : World) → IsPlanOf w p → IsPlanOf (dropped_of w k (fin.get w.tickets k)) new) → IsBoard new root term next given true
      dropping h = at 0 b.w _ given b.plan (drops b.w k (fin.get b.w.tickets k)) (h b.w b.plan) (omega arith)

      pub reading : (state : ReadState) → waits state ≡ false → ((w : World) (s : ReadState) → waits s ≡ false → IsPlanOf w p → IsPlanOf (read_over w k s (fin.get w.readers k)) new) → IsBoard new root term next given true
      reading state over h = at 0 b.w _ given b.plan (reads b.w k state (fin.get b.w.readers k)) (h b.w state over b.plan) (omega arith)

      -- ---- a swap settles: of a ticket that has a seat, and in it the generation that it raised

      module _ (seat : Seat) (n : ℕ) (there : Some seat ≡ fin.get p.seats k) (raised_is : seat.raised ≡ Some n) where
        abbrev mine : (t : Ticket) × (fin.get b.w.tickets k ≡ Some t) × (t.out ≡ true) × (seat_of t ≡ seat)
        mine = ticket_of b.w p b.plan k seat (sym there)

        pub settling : seat.kind ≡ OfFinalize
            → ((f : Formats) (w : World) (t : Ticket) (s : Swap) (m : ℕ) → IsPlanOf w p → fin.get w.tickets k ≡ Some t → swap f t ≡ Some s → t.raised ≡ Some m → IsPlanOf (settled_of f w k (Some t)) new)
            → IsBoard new root term next given true
        settling kind h =
            let t : Ticket = mine.0 in
            let s = finalizes any_formats t.work t.root (ap (λ (x : Seat). x.kind) mine.3 ∙ kind) in
            at 0 b.w _ given b.plan (settles any_formats b.w k t (swap any_formats t) t.raised) (h any_formats b.w t s.0 n b.plan mine.1 s.1 (ap (λ (x : Seat). x.raised) mine.3 ∙ raised_is)) (omega arith)

        -- the list doesn't tell the plan of a delete, so it is that of a world where there is one
        module _ (kind : seat.kind ≡ OfDelete) where
          abbrev t : Ticket
          t = mine.0

          abbrev planned_swap : Swap
          planned_swap = record { root = root; own = []; commands = [] }

          abbrev planned_ticket : Ticket
          planned_ticket = record t { work = Deleting [] (Some planned_swap) }

          abbrev planned : World
          planned = record b.w { tickets = fin.insert b.w.tickets k planned_ticket }

          same : seat_of planned_ticket ≡ seat_of t
          same = ap (with_kind t) (sym (ap (λ (x : Seat). x.kind) mine.3 ∙ kind))

          put_at : (j : ℕ) (c : Bool) → eqb j k ≡ c → fin.get planned.tickets j ≡ cond c (Some planned_ticket) (fin.get b.w.tickets j)
          put_at j c e = get_put b.w.tickets k planned_ticket j ∙ ap (λ (d : Bool). cond d (Some planned_ticket) (fin.get b.w.tickets j)) e

          planned_seats : (j : ℕ) → fin.get p.seats j ≡ seat_out (fin.get planned.tickets j)
          planned_seats j = elim (eqb_tells j k) [
            | inl it ↦ b.plan.seats j ∙ ap (λ (q : ℕ). seat_out (fin.get b.w.tickets q)) it.1 ∙ ap seat_out mine.1 ∙ ap (λ (x : Seat). cond t.out (Some x) None) (sym same) ∙ sym (ap seat_out (put_at j true it.0))
            | inr it ↦ b.plan.seats j ∙ sym (ap seat_out (put_at j false it.0))
          ]

          planned_there : fin.get planned.tickets k ≡ Some planned_ticket
          planned_there = elim (eqb_tells k k) [ inl it ↦ put_at k true it.0 | inr it ↦ absurd (it.1 refl) ]

          plan_of : IsPlanOf planned p
          plan_of = record {
            ops = b.plan.ops;
            deletes = b.plan.deletes;
            completed = b.plan.completed;
            seats = planned_seats;
            next_op = b.plan.next_op;
            next_ticket = b.plan.next_ticket;
            restores = b.plan.restores;
            restore_count = b.plan.restore_count;
            readers = b.plan.readers;
          }

          pub settling_delete : ((f : Formats) (w : World) (t : Ticket) (s : Swap) (m : ℕ) → IsPlanOf w p → fin.get w.tickets k ≡ Some t → swap f t ≡ Some s → t.raised ≡ Some m → IsPlanOf (delete_settled f w k (Some t)) new)
              → IsBoard new root term next given true
          settling_delete h =
              at 0 planned _ given plan_of (delete_settles any_formats planned k planned_ticket (swap any_formats planned_ticket) planned_ticket.raised)
              (h any_formats planned planned_ticket planned_swap n plan_of planned_there refl (ap (λ (x : Seat). x.raised) mine.3 ∙ raised_is)) (omega arith)
