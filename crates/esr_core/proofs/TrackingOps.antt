-- What an op that comes or leaves changes in the order of a world.
use Rattle.std.proofs.Common.{◌≡◌, ◌≢◌, ℕ, suc, ◌+◌, ◌<◌, ◌≤◌, List, true, false, true≢false, Some, None, sym, ap, ◌∙◌, subst, inl, inr, arith, Option}
use Rattle.std.specs.FinMap as fin
use Rattle.std.proofs.lemmas.Option.{same_Some}
use Rattle.esr_core.specs.Laws.NumberMaps.{was_in, other_in, left_in, stays_in}
use Rattle.esr_core.specs.Laws.ShardStates.{pending_out}
use Rattle.esr_model.specs.Values.{Has, RootData, SnapInfo, ShardResult}
use Rattle.esr_model.specs.Shelf.{Command}
use Rattle.esr_model.specs.Kept.{first_id}
use Rattle.esr_core.specs.World.{World, Op, Deletion, ShardWork, Done, Finalize, Ticket, Deleting, Swap}
use Rattle.esr_core.specs.Ready.{Goes, Stopped, IsShard}
use Rattle.esr_core.specs.Tracked.{FinalTracked, Named, Tracked, IsWithin}
use Rattle.esr_core.specs.Laws.DoneShards.{done_of}
use Rattle.esr_core.specs.Laws.Maps.{Deletes}
use Rattle.esr_core.specs.Laws.NameLaws.{IsNewOp, named_new}
use Rattle.esr_core.proofs.Tracking.{delete_up}

pub goes_not_stopped : (op : Op) → Goes op → Stopped op → ⊥
goes_not_stopped op g (inl failed) = true≢false (sym failed ∙ g.unfailed)
goes_not_stopped op g (inr h) = some_none (sym h.1 ∙ g.unaborted)
  where
    some_none : {n : ℕ} → Some n ≡ None → ⊥
    some_none e = cc

-- an op with a shard that isn't done has no finalization out
pub final_apart : (w : World) → Tracked w → (op : Op) (s : ShardWork) → Has op.shards s → ((r : ShardResult) → s.state ≡ Done r → ⊥) → (o : ℕ) → fin.get w.ops o ≡ Some op
    → (u : Ticket) (info : SnapInfo) (results : List ShardResult) → FinalTracked w.root w.ops u info results → u.op ≢ o
final_apart w l op s m undone o there u info results x same =
    let one : x.op ≡ op = same_Some _ _ (sym x.op_there ∙ ap (fin.get w.ops) same ∙ there) in
    let (r, state, in_results) = done_of x.op.shards results x.done s (subst (λ (y : Op). Has y.shards s) (sym one) m) in
    undone r state

-- ---- a new op

module _ (w : World) (l : Tracked w) (op : Op) (next : ℕ) (c : IsNewOp w op next) (fits : next < first_id (suc w.term)) where
  stays : (o : ℕ) (x : Op) → fin.get w.ops o ≡ Some x → fin.get (fin.insert w.ops w.next_op op) o ≡ Some x
  stays o x e = other_in w.ops w.next_op op o (λ same. let b : o < w.next_op = l.numbers o x e in omega (arith, b, same)) ∙ e

  pub tracked_came : Tracked (record w { ops = fin.insert w.ops w.next_op op; next_op = suc w.next_op; next_id = next })
  tracked_came =
      record {
        numbers = λ o x e. elim (was_in w.ops w.next_op op o x e) [ inl h ↦ let same : o ≡ w.next_op = h.0 in omega (arith, same) | inr h ↦ let b : o < w.next_op = l.numbers o x h.1 in omega (arith, b) ];
        delete_numbers = λ d x e. let b : d < w.next_op = l.delete_numbers d x e in omega (arith, b);
        apart = λ o x d e h. elim (was_in w.ops w.next_op op o x e) [ inl z ↦ let b : o < w.next_op = l.delete_numbers o d h in let same : o ≡ w.next_op = z.0 in omega (arith, b, same) | inr z ↦ l.apart o x d z.1 h ];
        tickets = λ k t e. let x = l.tickets k t e in let b : t.first + t.drawn ≤ w.next_id = x.2 in let up : w.next_id ≤ next = c.up in (x.0, x.1, omega (arith, b, up));
        begun = λ k t e. let b : t.op < w.next_op = l.begun k t e in omega (arith, b);
        first_ticket = l.first_ticket;
        shards = λ k t i n e out is. let h = l.shards k t i n e out is in
            record {
              op = h.op;
              op_there = stays t.op h.op h.op_there;
              uuid_is = h.uuid_is;
              source_is = h.source_is;
              s = h.s;
              s_there = h.s_there;
              state = h.state;
              index_is = h.index_is;
              number_is = h.number_is;
              place_is = h.place_is;
              name_is = h.name_is;
            };
        held = λ o x s j e m state. elim (was_in w.ops w.next_op op o x e) [
          | inl h ↦ absurd (pending_out (sym (c.pending s (subst (λ (y : Op). Has y.shards s) (sym h.1) m)) ∙ state))
          | inr h ↦ l.held o x s j h.1 m state
        ];
        finals = λ k t info rs made e out uns pres is. let h = l.finals k t info rs made e out uns pres is in
            record { op = h.op; op_there = stays t.op h.op h.op_there; done = h.done; goes = h.goes; uuid_is = h.uuid_is; info_is = h.info_is; root_is = h.root_is };
        drops = λ k t e out pres is. let h = l.drops k t e out pres is in record {
          stopped = λ x there. elim (was_in w.ops w.next_op op t.op x there) [ inl z ↦ absurd (let b : t.op < w.next_op = l.begun k t e in let same : t.op ≡ w.next_op = z.0 in omega (arith, b, same)) | inr z ↦ h.stopped x z.1 ];
          idle = h.idle;
          failed = h.failed;
        };
        deleting = λ k t uuids plan e out uns pres is. delete_up w.root w.deletes w.next_id next t plan c.up (l.deleting k t uuids plan e out uns pres is);
        deletions = l.deletions;
        one_swap = l.one_swap;
        named = named_new w l.named op next c;
        in_term = record { from = let b : first_id w.term ≤ w.next_id = l.in_term.from in let up : w.next_id ≤ next = c.up in omega (arith, b, up); below = fits };
      }

-- ---- an op that leaves, with the root that is safe then; of deletes it leaves, too, or all stay

module _ (w : World) (l : Tracked w) (o : ℕ) (root : RootData) (named : Named root (fin.remove w.ops o) w.next_id)
    (no_shard : (k : ℕ) (t : Ticket) → fin.get w.tickets k ≡ Some t → t.out ≡ true → IsShard t.work → t.op ≢ o)
    (aside : (k : ℕ) (t : Ticket) (info : SnapInfo) (results : List ShardResult) (made : Command) → fin.get w.tickets k ≡ Some t
    → t.out ≡ true → t.settled ≡ false → t.term ≡ w.term → t.work ≡ Finalize info results made → (t.op ≢ o) × (root ≡ w.root))
    (others : (k : ℕ) (t : Ticket) (uuids : List ℕ) (plan : Option Swap) → fin.get w.tickets k ≡ Some t → t.out ≡ true → t.settled ≡ false → t.term ≡ w.term → t.work ≡ Deleting uuids plan → (t.op ≢ o) × (root ≡ w.root))
    (deletes : Deletes) (less : (d : ℕ) (x : Deletion) → fin.get deletes d ≡ Some x → fin.get w.deletes d ≡ Some x) (more : (d : ℕ) → d ≢ o → fin.get deletes d ≡ fin.get w.deletes d)
    (cleaning : (k : ℕ) (t : Ticket) → fin.get w.tickets k ≡ Some t → t.out ≡ true → t.term ≡ w.term → t.clean ≡ true → fin.get deletes t.op ≡ fin.get w.deletes t.op) where
  pub tracked_left : Tracked (record w { root = root; ops = fin.remove w.ops o; deletes = deletes })
  tracked_left =
      record {
        numbers = λ p q e. l.numbers p q (left_in w.ops o p q e).1;
        delete_numbers = λ d x e. l.delete_numbers d x (less d x e);
        apart = λ p q d e h. l.apart p q d (left_in w.ops o p q e).1 (less p d h);
        tickets = l.tickets;
        begun = l.begun;
        first_ticket = l.first_ticket;
        shards = λ k t i n e out is.
            let h = l.shards k t i n e out is in
            record {
              op = h.op;
              op_there = stays_in w.ops o t.op (no_shard k t e out (subst IsShard (sym is) tt)) ∙ h.op_there;
              uuid_is = h.uuid_is;
              source_is = h.source_is;
              s = h.s;
              s_there = h.s_there;
              state = h.state;
              index_is = h.index_is;
              number_is = h.number_is;
              place_is = h.place_is;
              name_is = h.name_is;
            };
        held = λ p q z j e m state. l.held p q z j (left_in w.ops o p q e).1 m state;
        finals = λ k t info rs made e out uns pres is.
            let h = l.finals k t info rs made e out uns pres is in
            let (away, same) = aside k t info rs made e out uns pres is in
            record { op = h.op; op_there = stays_in w.ops o t.op away ∙ h.op_there; done = h.done; goes = h.goes; uuid_is = h.uuid_is; info_is = h.info_is; root_is = h.root_is ∙ sym same };
        drops = λ k t e out pres is. let h = l.drops k t e out pres is in
            record { stopped = λ q there. h.stopped q (left_in w.ops o t.op q there).1; idle = h.idle; failed = λ x there. h.failed x (less t.op x there) };
        deleting = λ k t uuids plan e out uns pres is.
            let h = l.deleting k t uuids plan e out uns pres is in
            let (away, same) = others k t uuids plan e out uns pres is in
            record { x = h.x; there = more t.op away ∙ h.there; unfailed = h.unfailed; root_is = h.root_is ∙ sym same; planned = λ s at. subst (λ (r : RootData). IsWithin r s.root w.next_id) (sym same) (h.planned s at) };
        deletions = record {
          modes = λ k t uuids plan e is x at. l.deletions.modes k t uuids plan e is x (less t.op x at);
          cleaning = λ k t e out pres clean.
              let h = l.deletions.cleaning k t e out pres clean in
              record { x = h.x; there = cleaning k t e out pres clean ∙ h.there; cleans = h.cleans; unfailed = h.unfailed; alone = h.alone };
        };
        one_swap = l.one_swap;
        named = named;
        in_term = record { from = l.in_term.from; below = l.in_term.below };
      }
