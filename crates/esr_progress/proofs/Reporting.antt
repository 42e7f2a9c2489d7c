-- Worlds after a report, and the plans that the code makes.
use Rattle.std.proofs.Common.{◌≡◌, ℕ, suc, List, ◌++◌, nat_cmp, Bool, true, false, cond, ◌&&◌, ◌==◌, Option, Some, None, refl, sym, ap, ◌∙◌, subst}
use Rattle.std.specs.Prelude.{not, is_some}
use Rattle.std.specs.FinMap as fin
use Rattle.std.proofs.lemmas.Option.{same_Some}
use Rattle.esr_model.specs.Names.{BlobName}
use Rattle.esr_model.specs.Values.{RootData, ShardResult, Formats}
use Rattle.esr_core.specs.World.{World, Op, Deletion, Ticket, Swap, swap, Work, Shard, Finalize}
use Rattle.esr_core.specs.Steps.{completing}
use Rattle.esr_core.specs.Pruning.{dooms}
use Rattle.esr_core.specs.After.{with_given, change, raised, settled_by, settled_of, done_of, failed_of, is_stale, dropped_of, delete_failed_by, delete_failed, deletes_left, delete_settled_by, delete_settled}
use Rattle.esr_core.specs.After as after
use Rattle.esr_ops.specs.Plan.{Plan, Seat, seat_of, seat_out, kind_of, IsPlanOf}
use Rattle.esr_ops.specs.Seats.{is_of_shard, is_stale_seat}
use Rattle.esr_progress.specs.Changes.{without_seat, op_marked, op_failed, seat_settled, seat_raised, seat_changed, op_left, op_dropped, delete_left, done_by, done_in, failed_by, failed_in, delete_failing, deletion_failed_by, deletion_failed_in}
use Rattle.esr_progress.proofs.Plans.{seats_put, seats_left, of_seat}

module _ (w : World) (p : Plan) (is : IsPlanOf w p) (k : ℕ) where
  -- ---- the ticket alone

  -- it is given anew or has ended, and its op, its delete and what has completed with it
  ticket_so : (safe : ℕ) (root : RootData) (doomed : List BlobName) (ops now_ops : fin.FinMap nat_cmp Op) (deletes now_deletes : fin.FinMap nat_cmp Deletion) (completed now_completed : List ℕ) (v : Ticket) (seats : fin.FinMap nat_cmp Seat)
      → now_ops ≡ ops → now_deletes ≡ deletes → now_completed ≡ completed → ((q : ℕ) → fin.get seats q ≡ seat_out (fin.get (fin.insert w.tickets k v) q))
      → IsPlanOf (record w { safe = safe; root = root; doomed = doomed; ops = ops; deletes = deletes; completed = completed; tickets = fin.insert w.tickets k v })
      (record p { ops = now_ops; deletes = now_deletes; completed = now_completed; seats = seats })
  ticket_so safe root doomed ops now_ops deletes now_deletes completed now_completed v seats ops_are deletes_are completed_are seats_are =
      record {
        ops = ops_are;
        deletes = deletes_are;
        completed = completed_are;
        seats = seats_are;
        next_op = is.next_op;
        next_ticket = is.next_ticket;
        restores = is.restores;
        restore_count = is.restore_count;
        readers = is.readers;
      }

  abbrev ended : Ticket → Ticket
  ended t = record t { out = false }

  -- the ticket has ended
  end_put : (t : Ticket) → IsPlanOf (record w { tickets = fin.insert w.tickets k (ended t) }) (without_seat p k)
  end_put t = ticket_so w.safe w.root w.doomed w.ops p.ops w.deletes p.deletes w.completed p.completed (ended t) (fin.remove p.seats k) is.ops is.deletes is.completed (seats_left w p is k (ended t) refl)

  module _ (there : is_some (fin.get p.seats k) ≡ true) where
    ended_there : IsPlanOf (change w k ended) (without_seat p k)
    ended_there = of_seat w p is k (λ o s. IsPlanOf (with_given w k ended o) (without_seat p k)) (λ t out at. end_put t) there

    raised_by : (n : ℕ) → w.pending ≡ n → IsPlanOf (raised w k) (seat_changed (seat_raised n) p k (fin.get p.seats k))
    raised_by n e =
        let x : IsPlanOf (change w k (λ t. record t { raised = Some w.pending })) (seat_changed (seat_raised n) p k (fin.get p.seats k)) =
        of_seat w p is k (λ o s. IsPlanOf (with_given w k (λ t. record t { raised = Some w.pending }) o) (seat_changed (seat_raised n) p k s))
        (λ t out at.
        ticket_so w.safe w.root w.doomed w.ops p.ops w.deletes p.deletes w.completed p.completed (record t { raised = Some w.pending }) (fin.insert p.seats k (seat_raised n (seat_of t))) is.ops is.deletes is.completed
        (seats_put w p is k (record t { raised = Some w.pending }) (seat_raised n (seat_of t)) (ap (λ m. seat_raised m (seat_of t)) e) out)) there in
        record { ops = x.ops; deletes = x.deletes; completed = x.completed; seats = x.seats; next_op = x.next_op; next_ticket = x.next_ticket; restores = x.restores; restore_count = x.restore_count; readers = x.readers }

    -- ---- its op leaves

    dropped_by : IsPlanOf (dropped_of w k (fin.get w.tickets k)) (op_dropped p k (fin.get p.seats k))
    dropped_by = of_seat w p is k (λ o s. IsPlanOf (dropped_of w k o) (op_dropped p k s)) (λ t out at.
        ticket_so w.safe w.root w.doomed (fin.remove w.ops t.op) (fin.remove p.ops t.op) (fin.remove w.deletes t.op) (fin.remove p.deletes t.op) w.completed p.completed
        (ended t) (fin.remove p.seats k) (λ j. fin.remove (is.ops j) t.op) (λ j. fin.remove (is.deletes j) t.op) is.completed (seats_left w p is k (ended t) refl)) there

    -- it has settled: this ticket is out
    settling : (t : Ticket) → t.out ≡ true → (q : ℕ) → fin.get (fin.insert p.seats k (seat_settled (seat_of t))) q ≡ seat_out (fin.get (fin.insert w.tickets k (record t { settled = true })) q)
    settling t out = seats_put w p is k (record t { settled = true }) (seat_settled (seat_of t)) refl out

    settled_there : (f : Formats) (t : Ticket) (s : Swap) (n : ℕ) → fin.get w.tickets k ≡ Some t → swap f t ≡ Some s → t.raised ≡ Some n → IsPlanOf (settled_of f w k (Some t)) (op_left seat_settled p k (fin.get p.seats k))
    settled_there f t s n at swaps raises =
        subst (λ (o : Option Ticket). IsPlanOf (settled_of f w k o) (op_left seat_settled p k (fin.get p.seats k))) at
        (of_seat w p is k (λ o x. o ≡ Some t → IsPlanOf (settled_of f w k o) (op_left seat_settled p k x)) (λ v out held same.
        let is_t : v ≡ t = same_Some v t same in
        subst (λ (u : Ticket). IsPlanOf (settled_of f w k (Some u)) (op_left seat_settled p k (Some (seat_of u)))) (sym is_t)
        (subst (λ (o : Option Swap). IsPlanOf (settled_by f w k t o t.raised) (op_left seat_settled p k (Some (seat_of t)))) (sym swaps)
        (subst (λ (o : Option ℕ). IsPlanOf (settled_by f w k t (Some s) o) (op_left seat_settled p k (Some (seat_of t)))) (sym raises)
        (ticket_so (suc n) s.root w.doomed (fin.remove w.ops t.op) (fin.remove p.ops t.op) (fin.remove w.deletes t.op) (fin.remove p.deletes t.op) w.completed p.completed
        (record t { settled = true }) (fin.insert p.seats k (seat_settled (seat_of t))) (λ j. fin.remove (is.ops j) t.op) (λ j. fin.remove (is.deletes j) t.op) is.completed (settling t (ap (λ (u : Ticket). u.out) (sym is_t) ∙ out)))))) there at)

    delete_settled_there : (f : Formats) (t : Ticket) (s : Swap) (n : ℕ) → fin.get w.tickets k ≡ Some t → swap f t ≡ Some s → t.raised ≡ Some n → IsPlanOf (delete_settled f w k (Some t)) (delete_left p k (fin.get p.seats k))
    delete_settled_there f t s n at swaps raises =
        subst (λ (o : Option Ticket). IsPlanOf (delete_settled f w k o) (delete_left p k (fin.get p.seats k))) at
        (of_seat w p is k (λ o x. o ≡ Some t → IsPlanOf (delete_settled f w k o) (delete_left p k x)) (λ v out held same.
        let is_t : v ≡ t = same_Some v t same in
        subst (λ (u : Ticket). IsPlanOf (delete_settled f w k (Some u)) (delete_left p k (Some (seat_of u)))) (sym is_t)
        (subst (λ (o : Option Swap). IsPlanOf (delete_settled_by f w k t o t.raised) (delete_left p k (Some (seat_of t)))) (sym swaps)
        (subst (λ (o : Option ℕ). IsPlanOf (delete_settled_by f w k t (Some s) o) (delete_left p k (Some (seat_of t)))) (sym raises)
        (ticket_so (suc n) s.root (dooms f t ++ w.doomed) (fin.remove w.ops t.op) (fin.remove p.ops t.op) (deletes_left w t) (cond t.clean p.deletes (fin.remove p.deletes t.op)) w.completed p.completed
        (record t { settled = true }) (fin.insert p.seats k (seat_settled (seat_of t))) (λ j. fin.remove (is.ops j) t.op)
        (λ j. cond t.clean (is.deletes j) (fin.remove (is.deletes j) t.op)) is.completed (settling t (ap (λ (u : Ticket). u.out) (sym is_t) ∙ out)))))) there at)

    -- ---- its op goes on

    done_there : (r : ShardResult) → IsPlanOf (done_of w k r (fin.get w.tickets k)) (done_in p k r (fin.get p.seats k))
    done_there r = of_seat w p is k (λ o s. IsPlanOf (done_of w k r o) (done_in p k r s)) (λ t out at.
        subst (λ m. IsPlanOf (after.done_by w k r t (fin.get w.ops t.op)) (done_by p k r (seat_of t) (fin.get m t.op))) (sym is.ops) (inner t (fin.get w.ops t.op))) there
      where
        inner : (t : Ticket) (o : Option Op) → IsPlanOf (after.done_by w k r t o) (done_by p k r (seat_of t) o)
        inner t None = is
        inner t (Some op) =
            ticket_so w.safe w.root w.doomed (fin.insert w.ops t.op (op_marked k r op)) (fin.insert p.ops t.op (op_marked k r op)) w.deletes p.deletes
            (completing w.completed t.op (op_marked k r op).shards) (completing p.completed t.op (op_marked k r op).shards)
            (ended t) (fin.remove p.seats k) (λ j. fin.insert (is.ops j) t.op (op_marked k r op)) is.deletes (λ j. completing (is.completed j) t.op (op_marked k r op).shards) (seats_left w p is k (ended t) refl)

    not_is : (b : Bool) → cond b false true ≡ not b
    not_is true = refl
    not_is false = refl

    stale_by : (t : Ticket) (x : Work) → is_stale w t x ≡ (not (is_of_shard (kind_of x)) && not (t.term == w.term))
    stale_by t (Shard index number) = refl
    stale_by t (Finalize info results made) = not_is (t.term == w.term)
    stale_by t x = not_is (t.term == w.term)

    failed_there : (term : ℕ) → w.term ≡ term → IsPlanOf (failed_of w k (fin.get w.tickets k)) (failed_in term p k (fin.get p.seats k))
    failed_there term e = of_seat w p is k (λ o s. IsPlanOf (failed_of w k o) (failed_in term p k s)) (λ t out at.
        let same : is_stale w t t.work ≡ is_stale_seat term (seat_of t) = stale_by t t.work ∙ ap (λ n. not (is_of_shard (kind_of t.work)) && not (t.term == n)) e in
        subst (λ b. IsPlanOf (failed_of w k (Some t)) (cond b (without_seat p k) (failed_by p k (seat_of t) (fin.get p.ops t.op)))) same (either t (is_stale w t t.work))) there
      where
        inner : (t : Ticket) (o : Option Op) → IsPlanOf (after.failed_by w k t o) (failed_by p k (seat_of t) o)
        inner t None = is
        inner t (Some op) =
            ticket_so w.safe w.root w.doomed (fin.insert w.ops t.op (op_failed k op)) (fin.insert p.ops t.op (op_failed k op)) w.deletes p.deletes w.completed p.completed
            (ended t) (fin.remove p.seats k) (λ j. fin.insert (is.ops j) t.op (op_failed k op)) is.deletes is.completed (seats_left w p is k (ended t) refl)

        fresh : (t : Ticket) → IsPlanOf (after.failed_by w k t (fin.get w.ops t.op)) (failed_by p k (seat_of t) (fin.get p.ops t.op))
        fresh t = subst (λ m. IsPlanOf (after.failed_by w k t (fin.get w.ops t.op)) (failed_by p k (seat_of t) (fin.get m t.op))) (sym is.ops) (inner t (fin.get w.ops t.op))

        either : (t : Ticket) (b : Bool) → IsPlanOf (cond b (record w { tickets = fin.insert w.tickets k (ended t) }) (after.failed_by w k t (fin.get w.ops t.op)))
            (cond b (without_seat p k) (failed_by p k (seat_of t) (fin.get p.ops t.op)))
        either t true = end_put t
        either t false = fresh t

    delete_failed_there : (term : ℕ) → w.term ≡ term → IsPlanOf (delete_failed w k (fin.get w.tickets k)) (deletion_failed_in term p k (fin.get p.seats k))
    delete_failed_there term e = of_seat w p is k (λ o s. IsPlanOf (delete_failed w k o) (deletion_failed_in term p k s)) (λ t out at.
        let same : is_stale w t t.work ≡ is_stale_seat term (seat_of t) = stale_by t t.work ∙ ap (λ n. not (is_of_shard (kind_of t.work)) && not (t.term == n)) e in
        subst (λ b. IsPlanOf (delete_failed w k (Some t)) (cond b (without_seat p k) (deletion_failed_by p k (seat_of t) (fin.get p.deletes t.op)))) same (either t (is_stale w t t.work))) there
      where
        inner : (t : Ticket) (o : Option Deletion) → IsPlanOf (delete_failed_by w k t o) (deletion_failed_by p k (seat_of t) o)
        inner t None = is
        inner t (Some x) =
            ticket_so w.safe w.root w.doomed w.ops p.ops (fin.insert w.deletes t.op (delete_failing x)) (fin.insert p.deletes t.op (delete_failing x)) w.completed p.completed
            (ended t) (fin.remove p.seats k) is.ops (λ j. fin.insert (is.deletes j) t.op (delete_failing x)) is.completed (seats_left w p is k (ended t) refl)

        fresh : (t : Ticket) → IsPlanOf (delete_failed_by w k t (fin.get w.deletes t.op)) (deletion_failed_by p k (seat_of t) (fin.get p.deletes t.op))
        fresh t = subst (λ m. IsPlanOf (delete_failed_by w k t (fin.get w.deletes t.op)) (deletion_failed_by p k (seat_of t) (fin.get m t.op))) (sym is.deletes) (inner t (fin.get w.deletes t.op))

        either : (t : Ticket) (b : Bool) → IsPlanOf (cond b (record w { tickets = fin.insert w.tickets k (ended t) }) (delete_failed_by w k t (fin.get w.deletes t.op)))
            (cond b (without_seat p k) (deletion_failed_by p k (seat_of t) (fin.get p.deletes t.op)))
        either t true = end_put t
        either t false = fresh t

-- ---- what the code makes of a copy

module _ (p q new : Plan) (k : ℕ) (copied : q ≡ p) (there : is_some (fin.get p.seats k) ≡ true) where
  pub ended_is : new ≡ without_seat q k → (w : World) → IsPlanOf w p → IsPlanOf (change w k (λ t. record t { out = false })) new
  ended_is e w is = subst (IsPlanOf (change w k (λ t. record t { out = false }))) (sym (e ∙ ap (λ (z : Plan). without_seat z k) copied)) (ended_there w p is k there)

  pub raised_is : (n : ℕ) → new ≡ seat_changed (seat_raised n) q k (fin.get q.seats k) → (w : World) → IsPlanOf w p → w.pending ≡ n → IsPlanOf (raised w k) new
  raised_is n e w is pending = subst (IsPlanOf (raised w k)) (sym (e ∙ ap (λ (z : Plan). seat_changed (seat_raised n) z k (fin.get z.seats k)) copied)) (raised_by w p is k there n pending)

  pub dropped_is : new ≡ op_dropped q k (fin.get q.seats k) → (w : World) → IsPlanOf w p → IsPlanOf (dropped_of w k (fin.get w.tickets k)) new
  dropped_is e w is = subst (IsPlanOf (dropped_of w k (fin.get w.tickets k))) (sym (e ∙ ap (λ (z : Plan). op_dropped z k (fin.get z.seats k)) copied)) (dropped_by w p is k there)

  pub settled_is : new ≡ op_left seat_settled q k (fin.get q.seats k)
      → (f : Formats) (w : World) (t : Ticket) (s : Swap) (n : ℕ) → IsPlanOf w p → fin.get w.tickets k ≡ Some t → swap f t ≡ Some s → t.raised ≡ Some n → IsPlanOf (settled_of f w k (Some t)) new
  settled_is e f w t s n is at swaps raises = subst (IsPlanOf (settled_of f w k (Some t))) (sym (e ∙ ap (λ (z : Plan). op_left seat_settled z k (fin.get z.seats k)) copied)) (settled_there w p is k there f t s n at swaps raises)

  pub done_is : (r : ShardResult) → new ≡ done_in q k r (fin.get q.seats k) → (w : World) → IsPlanOf w p → IsPlanOf (done_of w k r (fin.get w.tickets k)) new
  done_is r e w is = subst (IsPlanOf (done_of w k r (fin.get w.tickets k))) (sym (e ∙ ap (λ (z : Plan). done_in z k r (fin.get z.seats k)) copied)) (done_there w p is k there r)

  pub failed_is : (term : ℕ) → new ≡ failed_in term q k (fin.get q.seats k) → (w : World) → IsPlanOf w p → w.term ≡ term → IsPlanOf (failed_of w k (fin.get w.tickets k)) new
  failed_is term e w is in_term = subst (IsPlanOf (failed_of w k (fin.get w.tickets k))) (sym (e ∙ ap (λ (z : Plan). failed_in term z k (fin.get z.seats k)) copied)) (failed_there w p is k there term in_term)

  pub delete_failed_is : (term : ℕ) → new ≡ deletion_failed_in term q k (fin.get q.seats k) → (w : World) → IsPlanOf w p → w.term ≡ term → IsPlanOf (delete_failed w k (fin.get w.tickets k)) new
  delete_failed_is term e w is in_term = subst (IsPlanOf (delete_failed w k (fin.get w.tickets k))) (sym (e ∙ ap (λ (z : Plan). deletion_failed_in term z k (fin.get z.seats k)) copied)) (delete_failed_there w p is k there term in_term)

  pub delete_settled_is : new ≡ delete_left q k (fin.get q.seats k)
      → (f : Formats) (w : World) (t : Ticket) (s : Swap) (n : ℕ) → IsPlanOf w p → fin.get w.tickets k ≡ Some t → swap f t ≡ Some s → t.raised ≡ Some n → IsPlanOf (delete_settled f w k (Some t)) new
  delete_settled_is e f w t s n is at swaps raises =
      subst (IsPlanOf (delete_settled f w k (Some t))) (sym (e ∙ ap (λ (z : Plan). delete_left z k (fin.get z.seats k)) copied)) (delete_settled_there w p is k there f t s n at swaps raises)
