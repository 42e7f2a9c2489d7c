-- The steps that end a ticket without a call of the container.
use Rattle.std.proofs.Common.{◌≡◌, ◌≢◌, ◌⊎◌, ◌<◌, ℕ, Bool, true, false, List, [], Option, Some, None, refl, sym, ap, ◌∙◌, subst, inl, inr, arith}
use Rattle.std.proofs.lemmas.Bool.{eqb-true, eq-eqb}
use Rattle.std.specs.FinMap as fin
use Rattle.std.specs.Prelude.{◌==◌, if◌then◌else◌}
use Rattle.esr_model.specs.Shelf.{Command}
use Rattle.esr_model.specs.Values.{SnapInfo, ShardResult}
use Rattle.esr_core.specs.World.{World, Op, Ticket, Work, Shard, Finalize, Deleting, Drop}
use Rattle.esr_core.specs.Entry.{Why, FailedStep, FinishStep, HasEnded, Moment}
use Rattle.esr_core.specs.Ready.{IsShard, IsMaster}
use Rattle.esr_core.specs.Steps.{with_ticket}
use Rattle.esr_core.specs.After.{change, is_stale, failed_by, failed_of}
use Rattle.esr_core.specs.Allowed.{Finishes, Failing, Finishing}
use Rattle.esr_core.specs.Tracked.{Tracked}
use Rattle.esr_ops.specs.Plan.{Plan, IsPlanOf}
use Rattle.esr_desk.specs.Conditions.{CanFail, CanFinish}
use Rattle.esr_desk.specs.Start.{Start, world_of, or_no_ticket, ticket_of}
use Rattle.esr_repo.specs.Next.{Added}
use Rattle.esr_repo.specs.Tickets.{AreStale}
use Rattle.esr_repo.specs.May.{MayNote}
use Rattle.esr_repo.specs.Grown.{out_is, put_there, added_ticket, changed_ticket}
use Rattle.esr_steps.proofs.Stepping.{next_given}

abbrev pub ended : Ticket → Ticket
ended t = record t { out = false }

-- ---- a settled unit ends

pub may_finish : (s : Start) (old log : List Moment) (k : ℕ) (plan p : Plan) (next : ℕ) → log ≡ old → CanFinish s old k → AreStale (world_of s log) → IsPlanOf (world_of s log) plan
    → ((w : World) → IsPlanOf w plan → IsPlanOf (change w k ended) p) → next ≡ (world_of s log).next_id
    → MayNote s log k FinishStep HasEnded (Some p) next
may_finish s old log k plan p next e before stale plan_is goes next_is =
    let can : CanFinish s log k = subst (λ (l : List Moment). CanFinish s l k) (sym e) before in
    record {
      plain = refl;
      allows = λ image tells same. Finishing k image (finishes can) same;
      plan_is = λ image q h. goes (world_of s log) plan_is;
      next_is = λ image. next_is ∙ sym (next_given (world_of s log) k ended);
    }
  where
    less : (a b : ℕ) → a < b → a ≢ b
    less a b lt same = omega (arith, lt, same)

    same : (a b : Ticket) → Some a ≡ Some b → a ≡ b
    same a b q = cc

    over : (t : Ticket) → fin.get (world_of s log).tickets k ≡ Some t → (v : Ticket) × (fin.get (world_of s log).tickets k ≡ Some v) × (v.term < (world_of s log).term) → t.term ≢ (world_of s log).term
    over t there (v, is, lt) = less t.term (world_of s log).term (subst (λ (x : Ticket). x.term < (world_of s log).term) (same v t (sym is ∙ there)) lt)

    finishes : CanFinish s log k → Finishes (world_of s log) k
    finishes can =
        let out = out_is s log k can.out in
        record {
          t = ticket_of s log k;
          out = out;
          no_shard = can.no_shard;
          done = elim can.done [
            | inl over ↦ inl (over.settled, over.unpruned)
            | inr was ↦ inr (over (ticket_of s log k) out.there (stale k was), was)
          ];
        }

pub finished_ticket : (s : Start) (old mid new : List Moment) (k : ℕ) → mid ≡ old → CanFinish s old k → Added s mid new k FinishStep HasEnded → ticket_of s new k ≡ record (ticket_of s old k) { out = false }
finished_ticket s old mid new k e can a =
    let here : (ticket_of s mid k).out ≡ true = subst (λ (log : List Moment). (ticket_of s log k).out ≡ true) (sym e) can.out in
    added_ticket s mid new k FinishStep HasEnded a k ∙ changed_ticket s mid k ended here ∙ ap (λ (log : List Moment). ended (ticket_of s log k)) e

-- ---- a unit fails

no_op : Op
no_op = record { name = []; uuid = 0; moment = 0; indices = []; shards = []; failed = false; source = None; aborted = None }

-- the op of a unit, where it counts
abbrev OpOf : World → Ticket → Type 0
OpOf w t = (op : Op) × ((IsShard t.work ⊎ (t.term ≡ w.term)) → fin.get w.ops t.op ≡ Some op)

no_unit : IsShard Drop ⊎ IsMaster Drop → ⊥
no_unit (inl h) = h
no_unit (inr h) = h

op_of : (w : World) (k : ℕ) (t : Ticket) → Tracked w → fin.get w.tickets k ≡ Some t → CanFail t → OpOf w t
op_of w k t tracked there can = go t.work refl can.unit
  where
    present : (info : SnapInfo) (results : List ShardResult) (made : Command) → t.work ≡ Finalize info results made → (b : Bool) → (t.term == w.term) ≡ b → OpOf w t
    present info results made is true e =
        let final = tracked.finals k t info results made there can.out can.unsettled (eqb-true t.term w.term e) is in
        (final.op, λ counts. final.op_there)
    present info results made is false e = (no_op, λ counts. absurd (never counts))
      where
        never : IsShard t.work ⊎ (t.term ≡ w.term) → ⊥
        never (inl shard) = subst IsShard is shard
        never (inr same) = different (sym (eq-eqb t.term w.term same) ∙ e)
          where
            different : true ≡ false → ⊥
            different q = cc

    go : (work : Work) → t.work ≡ work → IsShard work ⊎ IsMaster work → OpOf w t
    go (Shard index number) is unit = let shard = tracked.shards k t index number there can.out is in (shard.op, λ counts. shard.op_there)
    go (Finalize info results made) is unit = present info results made is (t.term == w.term) refl
    go (Deleting uuids plan) is unit = absurd (can.unpruned uuids plan is)
    go Drop is unit = absurd (no_unit unit)

next_failed : (w : World) (k : ℕ) (o : Option Ticket) → (failed_of w k o).next_id ≡ w.next_id
next_failed w k None = refl
next_failed w k (Some t) = go (is_stale w t t.work)
  where
    by_op : (op : Option Op) → (failed_by w k t op).next_id ≡ w.next_id
    by_op None = refl
    by_op (Some op) = refl

    go : (b : Bool) → (if b then with_ticket w k (ended t) else failed_by w k t (fin.get w.ops t.op)).next_id ≡ w.next_id
    go true = refl
    go false = by_op (fin.get w.ops t.op)

pub may_fail : (s : Start) (old log : List Moment) (k : ℕ) (why : Why) (p : Plan) (next : ℕ) → log ≡ old → CanFail (ticket_of s old k) → Tracked (world_of s log)
    → IsPlanOf (failed_of (world_of s log) k (fin.get (world_of s log).tickets k)) p → next ≡ (world_of s log).next_id
    → MayNote s log k (FailedStep why) HasEnded (Some p) next
may_fail s old log k why p next e before tracked goes next_is =
    let can : CanFail (ticket_of s log k) = subst (λ (l : List Moment). CanFail (ticket_of s l k)) (sym e) before in
    let out = out_is s log k can.out in
    let op = op_of (world_of s log) k (ticket_of s log k) tracked out.there can in
    record {
      plain = refl;
      allows = λ image tells same. Failing k why image (record { t = ticket_of s log k; out = out; unsettled = can.unsettled; unit = can.unit; op = op.0; op_there = op.1 }) same;
      plan_is = λ image q h. goes;
      next_is = λ image. next_is ∙ sym (next_failed (world_of s log) k (fin.get (world_of s log).tickets k));
    }

-- it counts where it isn't a stale master's
counts_now : (w : World) (t : Ticket) → IsShard t.work ⊎ IsMaster t.work → is_stale w t t.work ≡ false → IsShard t.work ⊎ (t.term ≡ w.term)
counts_now w t unit fresh = go t.work unit fresh
  where
    same : (b : Bool) → (t.term == w.term) ≡ b → (if b then false else true) ≡ false → t.term ≡ w.term
    same true q f = eqb-true t.term w.term q
    same false q f = cc

    go : (work : Work) → IsShard work ⊎ IsMaster work → is_stale w t work ≡ false → IsShard work ⊎ (t.term ≡ w.term)
    go (Shard index number) u f = inl tt
    go (Finalize info results made) u f = inr (same (t.term == w.term) refl f)
    go (Deleting uuids plan) u f = inr (same (t.term == w.term) refl f)
    go Drop u f = absurd (no_unit u)

failed_puts : (w : World) (k : ℕ) (t : Ticket) → Tracked w → fin.get w.tickets k ≡ Some t → CanFail t → or_no_ticket (fin.get (failed_of w k (Some t)).tickets k) ≡ ended t
failed_puts w k t tracked there can = go (is_stale w t t.work) refl
  where
    puts : or_no_ticket (fin.get (fin.insert w.tickets k (ended t)) k) ≡ ended t
    puts = ap or_no_ticket (put_there w.tickets k (ended t))

    go : (b : Bool) → is_stale w t t.work ≡ b → or_no_ticket (fin.get (if b then with_ticket w k (ended t) else failed_by w k t (fin.get w.ops t.op)).tickets k) ≡ ended t
    go true e = puts
    go false e =
        let op = op_of w k t tracked there can in
        ap (λ (o : Option Op). or_no_ticket (fin.get (failed_by w k t o).tickets k)) (op.1 (counts_now w t can.unit e)) ∙ puts

pub failed_ticket : (s : Start) (old mid new : List Moment) (k : ℕ) (why : Why) → mid ≡ old → CanFail (ticket_of s old k) → Tracked (world_of s mid) → Added s mid new k (FailedStep why) HasEnded
    → ticket_of s new k ≡ record (ticket_of s old k) { out = false }
failed_ticket s old mid new k why e before tracked a =
    let can : CanFail (ticket_of s mid k) = subst (λ (l : List Moment). CanFail (ticket_of s l k)) (sym e) before in
    let there = (out_is s mid k can.out).there in
    added_ticket s mid new k (FailedStep why) HasEnded a k
    ∙ ap (λ (o : Option Ticket). or_no_ticket (fin.get (failed_of (world_of s mid) k o).tickets k)) there
    ∙ failed_puts (world_of s mid) k (ticket_of s mid k) tracked there can
    ∙ ap (λ (log : List Moment). ended (ticket_of s log k)) e
