-- A shard that is done.
use Rattle.std.proofs.Common.{◌≡◌, ℕ, false, List, Option, Some, None, refl, sym, ap, ◌∙◌, subst}
use Rattle.std.specs.FinMap as fin
use Rattle.esr_model.specs.Values.{ShardResult}
use Rattle.esr_model.specs.Image.{Image}
use Rattle.esr_core.specs.World.{World, Op, Ticket}
use Rattle.esr_core.specs.Entry.{DoneStep, HasEnded, Moment}
use Rattle.esr_core.specs.After.{done_by, done_of}
use Rattle.esr_core.specs.Allowed.{Allows, SameBlobs, Doing}
use Rattle.esr_core.specs.Tracked.{Tracked}
use Rattle.esr_ops.specs.Plan.{Plan, IsPlanOf}
use Rattle.esr_desk.specs.Conditions.{CanEnd}
use Rattle.esr_desk.specs.Start.{Start, formats_of, world_of, or_no_ticket, ticket_of}
use Rattle.esr_repo.specs.Next.{Added}
use Rattle.esr_repo.specs.May.{CanTell, MayNote}
use Rattle.esr_repo.specs.Grown.{out_is, put_there, added_ticket}
use Rattle.esr_repo.specs.Stepping.{told_if}
use Rattle.esr_steps.proofs.Stepping.{added_from}

-- where the container tells, the ticket wrote what the result says
done_allows : (s : Start) (log : List Moment) (k : ℕ) (r : ShardResult) (image : Option Image) → Tracked (world_of s log) → CanEnd s (ticket_of s log k) r → CanTell s image → SameBlobs (world_of s log) image
    → Allows (formats_of s) s.part_size (world_of s log) k (DoneStep r) HasEnded image
done_allows s log k r image tracked can tells same =
    let out = out_is s log k can.out in
    let shard = tracked.shards k (ticket_of s log k) r.index r.shard out.there can.out can.is in
    Doing k r image
    (record {
      t = ticket_of s log k;
      out = out;
      is = can.is;
      op = shard.op;
      op_there = shard.op_there;
      s = shard.s;
      s_there = shard.s_there;
      state = shard.state;
      place_is = shard.place_is;
      name_is = shard.name_is;
      source_is = sym shard.source_is;
      drew = can.drew;
      last = can.last;
      snap_noted = can.snap_noted;
      index_noted = can.index_noted;
      done = told_if s image _ tells can.done;
    })
    same

next_done : (w : World) (k : ℕ) (r : ShardResult) (o : Option Ticket) → (done_of w k r o).next_id ≡ w.next_id
next_done w k r None = refl
next_done w k r (Some t) = go (fin.get w.ops t.op)
  where
    go : (op : Option Op) → (done_by w k r t op).next_id ≡ w.next_id
    go None = refl
    go (Some op) = refl

pub may_note_done : (s : Start) (old log : List Moment) (k : ℕ) (r : ShardResult) (plan p : Plan) (next : ℕ) → log ≡ old → Tracked (world_of s log) → CanEnd s (ticket_of s old k) r → IsPlanOf (world_of s log) plan
    → ((w : World) → IsPlanOf w plan → IsPlanOf (done_of w k r (fin.get w.tickets k)) p) → next ≡ (world_of s log).next_id → MayNote s log k (DoneStep r) HasEnded (Some p) next
may_note_done s old log k r plan p next e tracked before plan_is goes next_is =
    let can : CanEnd s (ticket_of s log k) r = subst (λ (l : List Moment). CanEnd s (ticket_of s l k) r) (sym e) before in
    record {
      plain = refl;
      allows = λ image tells same. done_allows s log k r image tracked can tells same;
      plan_is = λ image q h. goes (world_of s log) plan_is;
      next_is = λ image. next_is ∙ sym (next_done (world_of s log) k r (fin.get (world_of s log).tickets k));
    }

-- ---- its ticket

abbrev end : Ticket → Ticket
end t = record t { out = false }

done_puts : (s : Start) (old : List Moment) (k : ℕ) (r : ShardResult) → Tracked (world_of s old) → CanEnd s (ticket_of s old k) r
    → or_no_ticket (fin.get (done_of (world_of s old) k r (fin.get (world_of s old).tickets k)).tickets k) ≡ end (ticket_of s old k)
done_puts s old k r tracked can =
    let there = (out_is s old k can.out).there in
    let shard = tracked.shards k (ticket_of s old k) r.index r.shard there can.out can.is in
    ap (λ (o : Option Ticket). or_no_ticket (fin.get (done_of (world_of s old) k r o).tickets k)) there
    ∙ ap (λ (o : Option Op). or_no_ticket (fin.get (done_by (world_of s old) k r (ticket_of s old k) o).tickets k)) shard.op_there
    ∙ ap or_no_ticket (put_there (world_of s old).tickets k (end (ticket_of s old k)))

pub done_ticket : (s : Start) (old mid new : List Moment) (k : ℕ) (r : ShardResult) → mid ≡ old → Tracked (world_of s mid) → CanEnd s (ticket_of s old k) r → Added s mid new k (DoneStep r) HasEnded
    → ticket_of s new k ≡ record (ticket_of s old k) { out = false }
done_ticket s old mid new k r e tracked can a =
    added_ticket s old new k (DoneStep r) HasEnded (added_from s old mid new k (DoneStep r) HasEnded e a) k ∙ done_puts s old k r (subst (λ (log : List Moment). Tracked (world_of s log)) e tracked) can
