-- An op leaves of which no unit is out.
use Rattle.std.proofs.Common.{◌≡◌, ℕ, List, false, true≢false, Option, Some, None, refl, sym, ap, ◌∙◌, subst, inl, inr, nat_cmp}
use Rattle.std.specs.FinMap.{FinMap}
use Rattle.std.specs.FinMap as fin
use Rattle.esr_core.specs.Laws.NumberMaps.{was_in, left_in, stays_in}
use Rattle.esr_model.specs.Names.{BlobName}
use Rattle.esr_model.specs.Values.{Bytes, RootData, Formats}
use Rattle.esr_model.specs.Shelf.{Shelved}
use Rattle.esr_core.specs.World.{World, Ticket, HeldIn}
use Rattle.esr_core.specs.Ready.{IsMaster, IsShard, SwapIsOut, UnitIsOut}
use Rattle.esr_core.specs.Steps.{IsOut, with_ticket}
use Rattle.esr_core.specs.Turns.{Dropped, CleanDropped}
use Rattle.esr_core.specs.Generations.{DoneAt, IsLive, Carries, Base, Carried}
use Rattle.esr_core.specs.Queue.{Lawful}
use Rattle.esr_core.proofs.Law.{quiet, ended_same}
use Rattle.esr_core.proofs.Ops.{shard_law_on}
use Rattle.esr_core.proofs.Owning.{OnWith, own_on, plan_on}
use Rattle.esr_core.specs.Laws.Maps.{Ops}
use Rattle.esr_core.proofs.Queues.{Like, queue_ticket, queue_remove, unit_back}

module _ (f : Formats) (has : BlobName → Bytes → Type 0) (root : RootData) (ops : Ops) (o : ℕ) where
  pub done_was : (uuid index shard g : ℕ) → DoneAt (fin.remove ops o) uuid index shard g → DoneAt ops uuid index shard g
  done_was uuid index shard g d =
      record { number = d.number; op = d.op; there = (left_in ops o d.number d.op d.there).1; uuid_is = d.uuid_is; s = d.s; s_there = d.s_there; r = d.r; state = d.state; index_is = d.index_is; shard_is = d.shard_is; generation_is = d.generation_is }

  live_was : (index shard g : ℕ) → IsLive root (fin.remove ops o) index shard g → IsLive root ops index shard g
  live_was index shard g (inl h) = inl h
  live_was index shard g (inr (u, a)) = inr (u, done_was u index shard g a)

  on_with : OnWith ops (fin.remove ops o)
  on_with = λ p op e. (op, (left_in ops o p op e).1, refl, (λ index shard has. has))

  carries_now : (index shard g : ℕ) → Carries f has root ops index shard g → Carries f has root (fin.remove ops o) index shard g
  carries_now index shard g c = record { stands = c.stands; own = own_on ops (fin.remove ops o) on_with f has index shard g c.own; done = λ u h a below. c.done u h (done_was u index shard h a) below; listed = c.listed }

  base_now : (index shard : ℕ) (base : Option ℕ) → Base f has root ops index shard base → Base f has root (fin.remove ops o) index shard base
  base_now index shard None h = λ g live. h g (live_was index shard g live)
  base_now index shard (Some b) h = (λ g live. h.0 g (live_was index shard g live), carries_now index shard b h.1)

  pub carried_left : (safe term : ℕ) (tickets : FinMap nat_cmp Ticket) → ((j : ℕ) → UnitIsOut tickets term o j → ⊥) → Carried f has safe term root ops tickets → Carried f has safe term root (fin.remove ops o) tickets
  carried_left safe term tickets idle c =
      record {
        root_is = c.root_is;
        ops = λ p op e. c.ops p op (left_in ops o p op e).1;
        together = λ p q a b apart e h. c.together p q a b apart (left_in ops o p a e).1 (left_in ops o q b h).1;
        carries = λ i n g live. carries_now i n g (c.carries i n g (live_was i n g live));
        shards = λ j u e out i n is. let l = c.shards j u e out i n is in
            shard_law_on f has root ops (fin.remove ops o) j u i n l (stays_in ops o u.op (λ same. idle j (record { t = u; there = e; out = out; op_is = same; counts = inl (subst IsShard (sym is) tt) })) ∙ l.op_there)
            (base_now i n u.base l.base);
        one_shard = c.one_shard;
        plans = λ j u e out uns pres uuids s is. plan_on ops (fin.remove ops o) on_with f root s (c.plans j u e out uns pres uuids s is);
        finals = λ j u e out uns pres info results made is. let l = c.finals j u e out uns pres info results made is in record {
          op = l.op;
          op_there = stays_in ops o u.op (λ same. idle j (record { t = u; there = e; out = out; op_is = same; counts = inr pres })) ∙ l.op_there;
          done = l.done;
          info_is = l.info_is;
          made_is = l.made_is;
          root_is = l.root_is;
        };
        held = λ p op z j e m state. c.held p op z j (left_in ops o p op e).1 m state;
      }

pub leaves_lawful : (f : Formats) (w : World) (shelf : List Shelved) → Lawful f w shelf → (o : ℕ) → ((j : ℕ) → UnitIsOut w.tickets w.term o j → ⊥)
    → Lawful f (record w { ops = fin.remove w.ops o; deletes = fin.remove w.deletes o }) shelf
leaves_lawful f w shelf l o idle =
    record {
      sound = record {
        rooted = record { kept = l.sound.rooted.kept; doomed_begun = l.sound.rooted.doomed_begun; tickets = l.sound.rooted.tickets; single = l.sound.rooted.single };
        carried = carried_left f (HeldIn f w) w.root w.ops o w.safe w.term w.tickets idle l.sound.carried;
        fresh = l.sound.fresh;
      };
      queue = queue_remove w.term w.root w.ops w.deletes w.completed w.next_op w.tickets l.queue o
          (λ k t e out pres is same. idle k (record { t = t; there = e; out = out; op_is = same; counts = inr pres }))
          (λ k h t e same. let one = same_ticket k h t e in idle k (record { t = h.t; there = h.there; out = h.out; op_is = ap (λ (x : Ticket). x.op) one ∙ same; counts = inr h.present }));
    }
  where
    same_ticket : (k : ℕ) (h : SwapIsOut w.tickets w.term k) (t : Ticket) → fin.get w.tickets k ≡ Some t → h.t ≡ t
    same_ticket k h t e = same_some h.t t (sym h.there ∙ e)
      where
        same_some : {A : Type 0} (x y : A) → Some x ≡ Some y → x ≡ y
        same_some x y e = cc

-- a ticket that ends, of no shard
pub like_ended : (t : Ticket) → Like t (record t { out = false })
like_ended t = record { op = refl; term = refl; out = λ e. absurd (true≢false (sym e)); settled = λ e. e; master = λ m. m; shard = λ s. s; drop = λ d. d }

pub ended_lawful : (f : Formats) (w : World) (shelf : List Shelved) → Lawful f w shelf → (k : ℕ) (t : Ticket) → IsOut w k t → (IsShard t.work → ⊥) → Lawful f (with_ticket w k (record t { out = false })) shelf
ended_lawful f w shelf l k t out not =
    let old = l.sound.rooted.tickets k t out.there in
    record {
      sound = quiet f w shelf l.sound k t (record t { out = false }) out.there (ended_same t not)
          (record {
            term = old.term;
            raised = old.raised;
            shape = old.shape;
            clean_root = old.clean_root;
            listed = old.listed;
            clean = λ s i. absurd (true≢false (sym i.out));
            last = λ s i. absurd (true≢false (sym i.out));
            swaps = λ s i. absurd (true≢false (sym i.out));
          })
          (λ s i e. absurd (true≢false (sym i.out)));
      queue = queue_ticket w.term w.tickets k t (record t { out = false }) out.there (like_ended t) w.root w.ops w.deletes w.completed w.next_op (λ e. absurd (true≢false (sym e))) l.queue;
    }

-- a ticket of no shard ends, and its op leaves, of which no other unit is out
left_lawful : (f : Formats) (w : World) (shelf : List Shelved) → Lawful f w shelf → (k : ℕ) (t : Ticket) → IsOut w k t → (IsShard t.work → ⊥) → ((j : ℕ) → UnitIsOut w.tickets w.term t.op j → j ≡ k)
    → Lawful f (record (with_ticket w k (record t { out = false })) { ops = fin.remove w.ops t.op; deletes = fin.remove w.deletes t.op }) shelf
left_lawful f w shelf l k t out not alone = leaves_lawful f (with_ticket w k v) shelf (ended_lawful f w shelf l k t out not) t.op idle
  where
    v : Ticket
    v = record t { out = false }

    idle : (j : ℕ) → UnitIsOut (fin.insert w.tickets k v) w.term t.op j → ⊥
    idle j h = elim (was_in w.tickets k v j h.t h.there) [
      | inl e ↦ true≢false (sym h.out ∙ ap (λ (x : Ticket). x.out) (sym e.1))
      | inr e ↦ e.0 (alone j (unit_back w.term w.tickets k t v out.there (like_ended t) t.op j h))
    ]

pub dropped_lawful : (f : Formats) (w : World) (shelf : List Shelved) → Lawful f w shelf → (k : ℕ) (new : World) → Dropped w k new → Lawful f new shelf
dropped_lawful f w shelf l k new d =
    subst (λ x. Lawful f x shelf) (sym d.new_is) (left_lawful f w shelf l k d.t d.out (λ s. subst IsShard d.work s) (l.queue.drops k d.t d.out.there d.out.out d.present d.work).alone)

pub clean_dropped_lawful : (f : Formats) (w : World) (shelf : List Shelved) → Lawful f w shelf → (k : ℕ) (new : World) → CleanDropped w k new → Lawful f new shelf
clean_dropped_lawful f w shelf l k new d =
    subst (λ x. Lawful f x shelf) (sym d.new_is) (left_lawful f w shelf l k d.t d.out (λ s. subst IsShard d.work s)
    (λ j h. l.queue.sole k d.t d.out.there d.out.out (subst IsMaster (sym d.work) tt) d.present d.x d.there d.cleans j h.t h.there h.out))
