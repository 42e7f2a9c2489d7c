-- The unit that is given, in a world of which the list tells.
use Rattle.std.proofs.Common.{◌≡◌, ℕ, suc, zero, ◌<◌, true, false, ◌||◌, List, [], ◌∷◌, Option, Some, None, option_map, map, length, get_or, take, refl, sym, ap, ◌∙◌, subst, inl, inr, true≢false, arith, eq-eqb, nat_cmp}
use Rattle.std.specs.Prelude.{not, nat_lt, slice_get, ◌==◌, IfSome}
use Rattle.std.specs.List.{position}
use Rattle.std.specs.FinMap as fin
use Rattle.std.proofs.Math.ListN.{set}
use Rattle.std.proofs.lemmas.Bool.{lt-ltb, ltb-true, and_parts, or_left, or_right, and_from, or_cases, not-true, true_from_ne_false}
use Rattle.std.proofs.lemmas.Option.{slice_get_within, slice_get-get_or, get_or_from_slice_get, same_Some, none-some}
use Rattle.esr_model.specs.Lists.{Has-map, Has-mapped}
use Rattle.esr_names.specs.declared.blob.ShardId.{ShardId}
use Rattle.esr_model.specs.Values.{Bytes, Has, RootData, ShardResult, Formats}
use Rattle.esr_core.specs.Entry.{GivenShard, GivenClone}
use Rattle.esr_model.specs.Image.{Generation}
use Rattle.esr_core.specs.World.{World, Op, Deletion, ShardState, Done, ShardWork, ReadState, Restored, NotRestored, RestoreShard, Restoring, Ticket, Work, Shard, Finalize, Deleting, Drop, AllDone}
use Rattle.esr_core.specs.Ready.{Barrier, Waits, Before, IsMaster, IsShard, SwapIsOut, UnitIsOut, ReadyShard, ReadyFinalize, ReadyDrop}
use Rattle.esr_core.specs.Restores.{waits}
use Rattle.esr_core.specs.Steps.{all_done, is_done, given, Largest, final_ticket, shard_ticket, plain_ticket}
use Rattle.esr_core.specs.Generations.{IsLive}
use Rattle.esr_core.specs.Allowed.{GivesShard}
use Rattle.esr_core.specs.After.{shard_of, taken_by, taken_shard}
use Rattle.esr_core.specs.Laws.Tests.{clash}
use Rattle.esr_formats.specs.Ids.{number_of}
use Rattle.esr_formats.specs.Roots.{root_of}
use Rattle.esr_formats.specs.Clusters.{count_of}
use Rattle.esr_results.specs.Results.{result_of}
use Rattle.esr_progress.specs.declared.ready.Kind.{Kind}
use Rattle.esr_progress.specs.declared.ready.Kind.TheVariants as ready
use Rattle.esr_ops.specs.declared.unit.Seat.{Seat as CodeSeat}
use Rattle.esr_ops.specs.declared.unit.SeatKind.{SeatKind}
use Rattle.esr_ops.specs.declared.unit.SeatKind.TheVariants as kinds
use Rattle.esr_ops.specs.declared.unit.Work.{Work as CodeWork}
use Rattle.esr_ops.specs.declared.unit.Work.TheVariants as works
use Rattle.esr_ops.specs.declared.unit.Copied.{Copied}
use Rattle.esr_ops.specs.Plan.{Plan, Seat, OfShard, OfFinalize, OfDrop, kind_of, seat_of, seat_of_code, RestorePlan, read_state, read_work, restore_plan, TicketMaps, IsPlanOf, IsGivenIn}
use Rattle.esr_ops.specs.Seats.{is_swap_out, is_unit_out, is_master, is_of_shard}
use Rattle.esr_ops.specs.Ops.{has_stopped, is_free, IsMost, IsShardWork, IsFinalWork}
use Rattle.esr_ops.specs.Inside.{plan_with, numbers_of, Rise, IsProgress}
use Rattle.esr_ops.specs.Units.{given_by, ShardGiven, CloneGiven, GivesWork, LeavesSnap, HasSnapReady, LowestUnit, IsLowest}
use Rattle.esr_progress.specs.Choice.{barred, is_out_of, is_swapping, is_final, ready_of, NoneBefore, IsReadyAt, IsWorkFor, IsSeatOf, IsSeatFor, IsLiveIn, IsBaseFor, given_entry}
use Rattle.esr_ops.specs.Shards.{AreShards}
use Rattle.esr_ops.specs.Entries.{get_from, find-member, eqb_is}
use Rattle.esr_ops.specs.Lists.{Has-at, position-None}
use Rattle.esr_progress.specs.Lookups.{find_op as law-find_op, find_delete as law-find_delete, seat_by as law-seat_by, by_seat as law-by_seat, any_there, any_found}
use Rattle.esr_ops.specs.Most.{most_like}
use Rattle.esr_ops.specs.Numbers.{entries_from, found_member}
use Rattle.esr_progress.specs.Plans.{restore_of_plan}
use Rattle.esr_ops.specs.Tests.{any_here, any_true, place_below, first_place, place_within, place_of}
use Rattle.esr_progress.proofs.Choices.{number_below, is_false, NoneWaits, says_free, goes_by, free_says, not_earliest, all_done_by, goes_on, none_earlier, has_by, stopped_by, picked, place_lower, Has-taken, shard_found, free_alike, stands_taken}
use Rattle.esr_progress.proofs.Entries.{FirstAt, first_at, from_set}
use Rattle.esr_progress.proofs.Numbers.{numbers-set}
use Rattle.esr_progress.proofs.Plans.{seats_put}
use Rattle.esr_progress.proofs.Takes.{set_same}

-- ---- kinds of work

shard_kind : (work : Work) → IsShard work → is_of_shard (kind_of work) ≡ true
shard_kind (Shard index number) h = refl
shard_kind (Finalize info results made) h = absurd h
shard_kind work h = absurd h

kind_shard : (work : Work) → is_of_shard (kind_of work) ≡ true → IsShard work
kind_shard (Shard index number) e = tt
kind_shard (Finalize info results made) e = true≢false (sym e)
kind_shard work e = true≢false (sym e)

master_kind : (work : Work) → IsMaster work → is_master (kind_of work) ≡ true
master_kind (Finalize info results made) h = refl
master_kind (Deleting uuids plan) h = refl
master_kind work h = absurd h

kind_master : (work : Work) → is_master (kind_of work) ≡ true → IsMaster work
kind_master (Finalize info results made) e = tt
kind_master (Deleting uuids plan) e = tt
kind_master work e = true≢false (sym e)

-- the results of shards that are done
some_results : (shards : List ShardWork) → all_done shards ≡ true → (results : List ShardResult) × AllDone shards results
some_results [] e = ([], tt)
some_results (s ∷ shards) e =
    let (here, rest) = and_parts _ _ e in
    let (r, is) = done_by s.state here in
    let (results, all) = some_results shards rest in
    (r ∷ results, (is, all))
  where
    done_by : (st : ShardState) → is_done st ≡ true → (r : ShardResult) × (st ≡ Done r)
    done_by (Done r) e = (r, refl)
    done_by st e = absurd (true≢false (sym e))

-- ---- shards of restores

read_waits : (state : ReadState) → Waits (read_state state) → waits state ≡ true
read_waits (Restored files bytes) h = absurd h
read_waits (NotRestored why) h = absurd h
read_waits state h = refl

waits_read : (state : ReadState) → waits state ≡ true → Waits (read_state state)
waits_read (Restored files bytes) e = true≢false (sym e)
waits_read (NotRestored why) e = true≢false (sym e)
waits_read state e = tt

pub if_some : {A : Type 0} (o : Option A) (P : A → Type 0) (x : A) → o ≡ Some x → IfSome o P → P x
if_some {A} o P x e h = subst (λ (z : Option A). IfSome z P) e h

-- the entry of a number that rises
pub has_taken : {A : Type 0} (xs : List A) (i j : ℕ) (x : A) → j < i → slice_get xs j ≡ Some x → Has (take i xs) x
has_taken [] i j x lt e = absurd (none-some x e)
has_taken (y ∷ xs) zero j x lt e = absurd (omega arith)
has_taken (y ∷ xs) (suc i) zero x lt e = inl (same_Some y x e)
has_taken (y ∷ xs) (suc i) (suc j) x lt e = inr (has_taken xs i j x (omega arith) e)

pub entry_at : {A : Type 0} (ops : List (ℕ × A)) → Rise (numbers_of ops) → (at : ℕ) (e : ℕ × A) → slice_get ops at ≡ Some e → FirstAt ops e.0 at
entry_at {A} ops rise at e there =
    let lt : at < length ops = slice_get_within ops at e there in
    first_at ops e.0 at e lt (ap (λ (x : ℕ × A). x.0) (get_or_from_slice_get ops at e e there))
    (λ j below same. let less = number_below ops rise at e there (get_or ops j e) (has_taken ops at j (get_or ops j e) below (slice_get-get_or ops j e (omega arith))) in absurd (omega (arith, less, same)))

-- the numbers stay where a shard is given
given_numbers : (ops : List (ℕ × Op)) → Rise (numbers_of ops) → (at : ℕ) (e : ℕ × Op) → slice_get ops at ≡ Some e → (seat : SeatKind) (ticket : ℕ) → numbers_of (set ops at (given_entry seat ticket e)) ≡ numbers_of ops
given_numbers ops rise at e there (kinds.Shard shard) ticket = numbers-set ops e.0 at (record e.1 { shards = map (given ticket shard.index.number shard.number) e.1.shards }) (entry_at ops rise at e there)
given_numbers ops rise at e there seat ticket = numbers-set ops e.0 at e.1 (entry_at ops rise at e there)

pub same_numbers : (ops here : List (ℕ × Op)) → here ≡ ops → (deletes : List (ℕ × Deletion)) (completed : List ℕ) (seats : TicketMaps) (next : ℕ) (restores : List (ℕ × RestorePlan)) (now : Plan)
    → plan_with ops deletes completed seats next restores ≡ now → IsProgress ops deletes next restores
    → (at : ℕ) (e : ℕ × Op) → slice_get ops at ≡ Some e → (seat : SeatKind) (ticket : ℕ) (given_list : List (ℕ × Op)) → IfSome (slice_get here at) (λ (x : ℕ × Op). given_list ≡ set here at (given_entry seat ticket x))
    → numbers_of given_list ≡ numbers_of (fin.entries now.ops)
same_numbers ops here same deletes completed seats next restores now view h at e there seat ticket given_list given_is =
    let list_is : given_list ≡ set here at (given_entry seat ticket e) = if_some (slice_get here at) (λ (x : ℕ × Op). given_list ≡ set here at (given_entry seat ticket x)) e (ap (λ es. slice_get es at) same ∙ there) given_is in
    ap numbers_of (list_is ∙ ap (λ es. set es at (given_entry seat ticket e)) same) ∙ given_numbers ops h.ops_numbered.rise at e there seat ticket
    ∙ ap numbers_of (sym (entries_from ops h.ops_numbered.rise)) ∙ ap (λ (p : Plan). numbers_of (fin.entries p.ops)) view

module _ (ops : List (ℕ × Op)) (deletes : List (ℕ × Deletion)) (completed : List ℕ) (seats : TicketMaps) (next : ℕ)
    (restores : List (ℕ × RestorePlan)) (now : Plan) (view : plan_with ops deletes completed seats next restores ≡ now) (h : IsProgress ops deletes next restores)
    (root : RootData) (safe term : ℕ) (w : World) (is : IsGivenIn now root safe term w) where
  rise : Rise (numbers_of ops)
  rise = h.ops_numbered.rise

  find_op : (q : ℕ) → fin.get w.ops q ≡ fin.find nat_cmp q ops
  find_op = law-find_op ops deletes completed seats next restores now view h root safe term w is

  find_delete : (d : ℕ) → fin.get w.deletes d ≡ fin.find nat_cmp d deletes
  find_delete = law-find_delete ops deletes completed seats next restores now view h root safe term w is

  find_restore : (q : ℕ) → fin.get now.restores q ≡ fin.find nat_cmp q restores
  find_restore q = ap (λ (p : Plan). fin.get p.restores q) (sym view) ∙ get_from restores q

  -- no restore before the number has the shard unread or being read
  abbrev IsUnread : ℕ → ShardWork → Type 0
  IsUnread o s = (p : ℕ) (r : Restoring) (z : RestoreShard) → p < o → fin.get w.restores p ≡ Some r → Has r.shards z → z.ref.id ≡ s.ref.id → z.number ≡ s.number → waits z.state ≡ false

  none_reads : (o : ℕ) (s : ShardWork) → NoneWaits (λ (x : RestorePlan). x.shards) restores o s → IsUnread o s
  none_reads o s none p r z lt there m id number = is_false (waits z.state) (λ e.
      none p (restore_plan r) (read_work r.place z) lt (sym (find_restore p) ∙ is.plan.restores p ∙ ap (option_map restore_plan) there) (Has-map (read_work r.place) r.shards z m) id number (waits_read z.state e))

  reads_none : (o : ℕ) (s : ShardWork) → IsUnread o s → NoneWaits (λ (x : RestorePlan). x.shards) restores o s
  reads_none o s unread p x z lt found m id number held =
      let (r, there, same) = restore_of_plan w now is.plan p x (find_restore p ∙ found) in
      let (v, vm, v_is) = Has-mapped (read_work r.place) r.shards z (subst (λ (y : RestorePlan). Has y.shards z) (sym same) m) in
      clash (waits v.state) (read_waits v.state (subst (λ (y : ShardWork). Waits y.state) (sym v_is) held))
      (unread p r v lt there vm (ap (λ (y : ShardWork). y.ref.id) v_is ∙ id) (ap (λ (y : ShardWork). y.number) v_is ∙ number))

  pub none_barred : (o : ℕ) → barred deletes o ≡ false → Barrier w.deletes o → ⊥
  none_barred o e b =
      clash _ (any_here (λ (d : ℕ × Deletion). nat_lt d.0 o) deletes (b.number, b.deletion) (find-member b.number deletes b.deletion (sym (find_delete b.number) ∙ b.there)) (lt-ltb b.number o b.before)) e

  pub some_barred : (o : ℕ) → barred deletes o ≡ true → Barrier w.deletes o
  some_barred o e =
      let (d, m, lower) = any_true (λ (d : ℕ × Deletion). nat_lt d.0 o) deletes e in
      record { number = d.0; deletion = d.1; there = find_delete d.0 ∙ found_member deletes h.deletes_numbered.rise d m; before = ltb-true d.0 o lower }

  completed_is : completed ≡ w.completed
  completed_is = ap (λ (p : Plan). p.completed) view ∙ is.plan.completed

  seat_by : (k : ℕ) (t : Ticket) → fin.get w.tickets k ≡ Some t → t.out ≡ true → fin.get seats.seats k ≡ Some (seat_of t)
  seat_by = law-seat_by ops deletes completed seats next restores now view h root safe term w is

  by_seat : (k : ℕ) (s : Seat) → fin.get seats.seats k ≡ Some s → (t : Ticket) × (fin.get w.tickets k ≡ Some t) × (t.out ≡ true) × (seat_of t ≡ s)
  by_seat = law-by_seat ops deletes completed seats next restores now view h root safe term w is

  pub none_out : (o : ℕ) → is_out_of seats term o ≡ false → (k : ℕ) → UnitIsOut w.tickets w.term o k → ⊥
  none_out o e k u =
      let counts : (is_of_shard (kind_of u.t.work) || (u.t.term == term)) ≡ true = elim u.counts [
        | inl shard ↦ or_left _ _ (shard_kind u.t.work shard)
        | inr present ↦ or_right _ _ (eq-eqb u.t.term term (present ∙ is.term_is))
      ] in
      clash _ (any_there (is_unit_out term o) seats k (seat_of u.t) (seat_by k u.t u.there u.out) (and_from _ _ (eq-eqb u.t.op o u.op_is) counts)) e

  pub some_out : (o : ℕ) → is_out_of seats term o ≡ true → (k : ℕ) × UnitIsOut w.tickets w.term o k
  some_out o e =
      let (k, found) = any_found (is_unit_out term o) seats e in
      let (t, there, out, same) = by_seat k found.0 found.1 in
      let (op_is, counts) = and_parts _ _ (ap (is_unit_out term o) same ∙ found.2) in
      (k, record { t = t; there = there; out = out; op_is = eqb_is t.op o op_is; counts = elim (or_cases _ _ counts) [ inl shard ↦ inl (kind_shard t.work shard) | inr present ↦ inr (eqb_is t.term term present ∙ sym is.term_is) ] })

  pub none_swapping : is_swapping seats term ≡ false → (k : ℕ) → SwapIsOut w.tickets w.term k → ⊥
  none_swapping e k u =
      clash _ (any_there (is_swap_out term) seats k (seat_of u.t) (seat_by k u.t u.there u.out)
      (and_from _ _ (and_from _ _ (ap not u.unsettled) (eq-eqb u.t.term term (u.present ∙ is.term_is))) (master_kind u.t.work u.swaps))) e

  pub some_swapping : is_swapping seats term ≡ true → (k : ℕ) × SwapIsOut w.tickets w.term k
  some_swapping e =
      let (k, found) = any_found (is_swap_out term) seats e in
      let (t, there, out, same) = by_seat k found.0 found.1 in
      let (first, swaps) = and_parts _ _ (ap (is_swap_out term) same ∙ found.2) in
      let (unsettled, present) = and_parts _ _ first in
      (k, record { t = t; there = there; out = out; unsettled = not-true _ unsettled; present = eqb_is t.term term present ∙ sym is.term_is; swaps = kind_master t.work swaps })

  -- ---- units of the op at a place
  module _ (at : ℕ) (e : ℕ × Op) (there : slice_get ops at ≡ Some e) where
    found : fin.find nat_cmp e.0 ops ≡ Some e.1
    found = found_member ops rise e (Has-at ops at e there)

    got : fin.get w.ops e.0 ≡ Some e.1
    got = find_op e.0 ∙ found

    same_op : (op : Op) → fin.get w.ops e.0 ≡ Some op → op ≡ e.1
    same_op op o = same_Some op e.1 (sym o ∙ got)

    shard_ready : (s : ShardWork) → ReadyShard w e.0 e.1 s → is_free ops restores e.0 s ≡ true
    shard_ready s r = says_free ops restores e.0 s rise h.restores_numbered.rise r.pending (λ p q z lt f. r.first p q z lt (find_op p ∙ f)) (reads_none e.0 s r.unread)

    ready_shard : (s : ShardWork) → has_stopped e.1 ≡ false → barred deletes e.0 ≡ false → Has e.1.shards s → is_free ops restores e.0 s ≡ true → ReadyShard w e.0 e.1 s
    ready_shard s goes unbarred m free =
        let (pending, none, unread) = free_says ops restores e.0 s free in
        record { op_there = got; s_there = m; pending = pending; goes = goes_by e.1 goes; no_barrier = none_barred e.0 unbarred; first = λ p q z lt f. none p q z lt (sym (find_op p) ∙ f); unread = none_reads e.0 s unread }

    final_ready : (results : List ShardResult) → ReadyFinalize w e.0 e.1 results → is_final ops deletes completed seats term e ≡ true
    final_ready results r = and_from _ _ (all_done_by e.1.shards results r.done) (and_from _ _
        (ap not (is_false _ (λ s. let (k, out) = some_swapping s in r.no_swap k out)))
        (true_from_ne_false _ (λ s.
        let x = not_earliest ops rise deletes completed e.0 s in
        r.earliest x.p x.q (find_op x.p ∙ x.found) (goes_by x.q x.goes) (none_barred x.p x.unbarred) (subst (λ (ns : List ℕ). Before ns x.p e.0) completed_is x.before))))

    ready_final : (results : List ShardResult) → has_stopped e.1 ≡ false → barred deletes e.0 ≡ false → AllDone e.1.shards results → is_final ops deletes completed seats term e ≡ true → ReadyFinalize w e.0 e.1 results
    ready_final results goes unbarred done final =
        let (all, rest) = and_parts _ _ final in
        let (swap, early) = and_parts _ _ rest in
        record {
          op_there = got;
          done = done;
          goes = goes_by e.1 goes;
          no_barrier = none_barred e.0 unbarred;
          no_swap = none_swapping (not-true _ swap);
          earliest = λ p q f g b before. none_earlier ops rise deletes completed e.0 early
              (record { p = p; q = q; found = sym (find_op p) ∙ f; goes = goes_on q g; unbarred = is_false _ (λ s. b (some_barred p s)); before = subst (λ (ns : List ℕ). Before ns p e.0) (sym completed_is) before });
        }

    drop_ready : LeavesSnap w e.0 → (has_stopped e.1 ≡ true) × (is_out_of seats term e.0 ≡ false)
    drop_ready r = (
      ap has_stopped (sym (same_op r.op r.there)) ∙ has_by r.op r.stopped,
      is_false _ (λ s. let (k, out) = some_out e.0 s in r.idle k out),
    )

    leaves : has_stopped e.1 ≡ true → is_out_of seats term e.0 ≡ false → LeavesSnap w e.0
    leaves stopped out = record { op = e.1; there = got; stopped = stopped_by e.1 stopped; idle = none_out e.0 out }

    ready_drop : has_stopped e.1 ≡ true → is_out_of seats term e.0 ≡ false → ReadyDrop w e.0
    ready_drop stopped out = record { stopped = inl (e.1, got, stopped_by e.1 stopped); idle = none_out e.0 out }

    -- where the search finds none, none is ready
    none_ready : ready_of ops deletes completed seats restores term e ≡ None → HasSnapReady w e.0 → ⊥
    none_ready none (inl (op, s, r0)) =
        let r = subst (λ (o : Op). ReadyShard w e.0 o s) (same_op op r0.op_there) r0 in
        elim (picked ops deletes completed seats restores term e None none) [
          | inl x ↦ clash _ x.0 (goes_on e.1 r.goes)
          | inr x ↦ elim x.1 [
            | inl bar ↦ r.no_barrier (some_barred e.0 bar)
            | inr y ↦ clash _ (shard_ready s r) (position-None (is_free ops restores e.0) e.1.shards y.0 s r.s_there)
          ]
        ]
    none_ready none (inr (inl (op, results, r0))) =
        let r = subst (λ (o : Op). ReadyFinalize w e.0 o results) (same_op op r0.op_there) r0 in
        elim (picked ops deletes completed seats restores term e None none) [
          | inl x ↦ clash _ x.0 (goes_on e.1 r.goes)
          | inr x ↦ elim x.1 [
            | inl bar ↦ r.no_barrier (some_barred e.0 bar)
            | inr y ↦ clash _ (final_ready results r) y.1
          ]
        ]
    none_ready none (inr (inr r)) =
        let (stopped, out) = drop_ready r in
        elim (picked ops deletes completed seats restores term e None none) [
          | inl x ↦ clash _ x.1 out
          | inr x ↦ clash _ stopped x.0
        ]

  -- an op of which a unit is ready is in the list
  open_of : (o : ℕ) → HasSnapReady w o → (op : Op) × Has ops (o, op)
  open_of o (inl (op, s, r)) = (op, find-member o ops op (sym (find_op o) ∙ r.op_there))
  open_of o (inr (inl (op, results, r))) = (op, find-member o ops op (sym (find_op o) ∙ r.op_there))
  open_of o (inr (inr r)) = (r.op, find-member o ops r.op (sym (find_op o) ∙ r.there))

  lowest : (at : ℕ) (e : ℕ × Op) → slice_get ops at ≡ Some e → NoneBefore ops deletes completed seats restores term at → (p : ℕ) → p < e.0 → HasSnapReady w p → ⊥
  lowest at e there before p lt r =
      let (op, m) = open_of p r in
      let (k, below, here) = place_below ops at (p, op) (place_lower ops rise at e there (p, op) m lt) in
      none_ready k (p, op) here (before k (p, op) below here) r

  is_ready_op : (at : ℕ) (e : ℕ × Op) → slice_get ops at ≡ Some e → (kind : Kind) → ready_of ops deletes completed seats restores term e ≡ Some kind → HasSnapReady w e.0
  is_ready_op at e there ready.Drop chosen = let (stopped, out) = picked ops deletes completed seats restores term e (Some ready.Drop) chosen in inr (inr (leaves at e there stopped out))
  is_ready_op at e there ready.Finalize chosen =
      let (goes, free, final, unbarred) = picked ops deletes completed seats restores term e (Some ready.Finalize) chosen in
      let (results, done) = some_results e.1.shards (and_parts _ _ final).0 in
      inr (inl (e.1, results, ready_final at e there results goes unbarred done final))
  is_ready_op at e there (ready.Shard i) chosen =
      let (goes, free, unbarred) = picked ops deletes completed seats restores term e (Some (ready.Shard i)) chosen in
      let (within, here) = place_within (is_free ops restores e.0) e.1.shards i free in
      inl (e.1, here.0, ready_shard at e there here.0 goes unbarred (Has-at e.1.shards i here.0 here.1) (first_place (is_free ops restores e.0) e.1.shards i here.0 free here.1).0)

  -- the lowest op of which a unit is ready
  pub lowest_op : (at : ℕ) (kind : Kind) (r : IsReadyAt ops deletes completed seats restores term at kind) (e : ℕ × Op) → slice_get ops at ≡ Some e → (o : ℕ) → o ≡ e.0 → IsLowest (HasSnapReady w) (Some o)
  lowest_op at kind r e there o is_number =
      let entry : r.e ≡ e = same_Some r.e e (sym r.there ∙ there) in
      let found : ready_of ops deletes completed seats restores term e ≡ Some kind = ap (ready_of ops deletes completed seats restores term) (sym entry) ∙ r.is in
      subst (λ (n : ℕ). IsLowest (HasSnapReady w) (Some n)) (sym is_number) (is_ready_op at e there kind found, lowest at e there r.before)

  pub nothing : NoneBefore ops deletes completed seats restores term (length ops) → (o : ℕ) → HasSnapReady w o → ⊥
  nothing before o r =
      let (op, m) = open_of o r in
      let (k, here) = place_of ops (o, op) m in
      none_ready k (o, op) here (before k (o, op) (slice_get_within ops k (o, op) here) here) r

  -- ---- what is given

  -- a ticket more
  pub ticketed : (t : Ticket) (s : Seat) (ops_now : fin.FinMap nat_cmp Op) (ops_then : fin.FinMap nat_cmp Op) → ops_now ≡ ops_then → seat_of t ≡ s → t.out ≡ true
      → IsPlanOf (record w { ops = ops_then; tickets = fin.insert w.tickets w.next_ticket t; next_ticket = suc w.next_ticket })
      (record now { ops = ops_now; seats = fin.insert now.seats now.next_ticket s; next_ticket = suc now.next_ticket })
  ticketed t s ops_now ops_then ops_is seat out = record {
    ops = ops_is;
    deletes = is.plan.deletes;
    completed = is.plan.completed;
    seats = λ k. ap (λ n. fin.get (fin.insert now.seats n s) k) is.plan.next_ticket ∙ seats_put w now is.plan w.next_ticket t s seat out k;
    next_op = is.plan.next_op;
    next_ticket = ap suc is.plan.next_ticket;
    restores = is.plan.restores;
    restore_count = is.plan.restore_count;
    readers = is.plan.readers;
  }

  pub ops_is : fin.from_entries {R = nat_cmp} ops ≡ w.ops
  ops_is = ap (λ (p : Plan). p.ops) view ∙ is.plan.ops

  -- the seat, and the list, of a unit of this op
  abbrev seat_for : SeatKind → ℕ → CodeSeat
  seat_for kind o = record { kind = kind; clean = false; op = o; term = term; raised = None; settled = false }

  abbrev seated : SeatKind → ℕ × Op → ℕ → ℕ → Plan
  seated kind e at ticket = record now { ops = fin.from_entries (set ops at (given_entry kind ticket e)); seats = fin.insert now.seats now.next_ticket (seat_of_code (seat_for kind e.0)); next_ticket = suc now.next_ticket }

  -- what the unit is, and the list with its ticket
  abbrev IsGivenBy : ℕ × Op → ℕ → ℕ → CodeWork → SeatKind → Copied → Type 0
  IsGivenBy e at ticket work kind copy = GivesWork w e.0 work copy × ((f : Formats) → IsPlanOf (taken_by f w e.0 (given_by work copy) (fin.get w.ops e.0)) (seated kind e at ticket))

  module _ (at : ℕ) (e : ℕ × Op) (there : slice_get ops at ≡ Some e) (rule : AreShards e.1.shards) (ticket : ℕ) (ticket_is : ticket ≡ seats.next) (copy : Copied) where
    unchanged : (kind : SeatKind) → given_entry kind ticket e ≡ e → fin.from_entries {R = nat_cmp} (set ops at (given_entry kind ticket e)) ≡ w.ops
    unchanged kind same = ap (λ (x : ℕ × Op). fin.from_entries {R = nat_cmp} (set ops at x)) same ∙ ap (λ (es : List (ℕ × Op)). fin.from_entries {R = nat_cmp} es) (set_same ops at e there) ∙ ops_is

    gives_drop : ready_of ops deletes completed seats restores term e ≡ Some ready.Drop → IsGivenBy e at ticket works.Drop kinds.Drop copy
    gives_drop chosen =
        let (stopped, out) = picked ops deletes completed seats restores term e (Some ready.Drop) chosen in (
          ready_drop at e there stopped out,
          λ f. ticketed (plain_ticket w e.0 Drop) (seat_of_code (seat_for kinds.Drop e.0)) _ w.ops (unchanged kinds.Drop refl)
              (λ i. record { kind = OfDrop; clean = false; op = e.0; term = is.term_is i; raised = None; settled = false }) refl,
        )

    gives_final : (work : CodeWork) → ready_of ops deletes completed seats restores term e ≡ Some ready.Finalize → IsFinalWork e.1 work → IsGivenBy e at ticket work kinds.Finalize copy
    gives_final (works.Finalize info shards) chosen h =
        let (goes, free, final, unbarred) = picked ops deletes completed seats restores term e (Some ready.Finalize) chosen in (
          (e.1, ready_final at e there (map result_of shards) goes unbarred h.0 final, h.1),
          λ f.
              subst (λ (o : Option Op). IsPlanOf (taken_by f w e.0 (given_by (works.Finalize info shards) copy) o) (seated kinds.Finalize e at ticket)) (sym (got at e there))
              (ticketed (final_ticket f w e.0 e.1 (map result_of shards)) (seat_of_code (seat_for kinds.Finalize e.0)) _ w.ops (unchanged kinds.Finalize refl)
              (λ i. record { kind = OfFinalize; clean = false; op = e.0; term = is.term_is i; raised = None; settled = false }) refl),
        )
    gives_final work chosen h = absurd h

    largest_by : (index number : ℕ) (base : Option ℕ) → IsMost (IsLive w.root w.ops index number) base → Largest w index number base
    largest_by index number None m = m
    largest_by index number (Some b) m = m

    live : (index number : ℕ) (base : Option ℕ) → IsMost (IsLiveIn root ops index number) base → IsMost (IsLive w.root w.ops index number) base
    live index number base m = most_like (IsLiveIn root ops index number) (IsLive w.root w.ops index number) base to back m
      where
        to : (g : ℕ) → IsLiveIn root ops index number g → IsLive w.root w.ops index number g
        to g (inl x) = inl (subst (λ (r : RootData). Generation r index number g) (sym is.root_is) x)
        to g (inr (x, hx, (s, hs, d))) = inr (
          x.1.uuid,
          record {
            number = x.0;
            op = x.1;
            there = find_op x.0 ∙ found_member ops rise x hx;
            uuid_is = refl;
            s = s;
            s_there = hs;
            r = d.r;
            state = d.state;
            index_is = d.index_is;
            shard_is = d.number_is;
            generation_is = d.generation_is;
          },
        )

        back : (g : ℕ) → IsLive w.root w.ops index number g → IsLiveIn root ops index number g
        back g (inl x) = inl (subst (λ (r : RootData). Generation r index number g) is.root_is x)
        back g (inr (uuid, d)) =
            inr ((d.number, d.op), find-member d.number ops d.op (sym (find_op d.number) ∙ d.there), (d.s, d.s_there, record { r = d.r; state = d.state; index_is = d.index_is; number_is = d.shard_is; generation_is = d.generation_is }))

    module _ (i : ℕ) (found : ready_of ops deletes completed seats restores term e ≡ Some (ready.Shard i)) (s : ShardWork) (here : slice_get e.1.shards i ≡ Some s) where
      free_at : position (is_free ops restores e.0) e.1.shards ≡ Some i
      free_at = (picked ops deletes completed seats restores term e (Some (ready.Shard i)) found).1

      before_it : (z : ShardWork) → Has (take i e.1.shards) z → is_free ops restores e.0 z ≡ false
      before_it = (first_place (is_free ops restores e.0) e.1.shards i s free_at here).1

      is_ready : ReadyShard w e.0 e.1 s
      is_ready = ready_shard at e there s (picked ops deletes completed seats restores term e (Some (ready.Shard i)) found).0
          (picked ops deletes completed seats restores term e (Some (ready.Shard i)) found).2 (Has-at e.1.shards i s here) (first_place (is_free ops restores e.0) e.1.shards i s free_at here).0

      is_found : (index number : ℕ) → s.ref.id ≡ index → s.number ≡ number → shard_of e.1.shards index number ≡ Some s
      is_found index number id n = shard_found index number e.1.shards i s here id n
          (λ z m zid zn.
          let hz = Has-taken e.1.shards i z m in
          let same : is_free ops restores e.0 s ≡ is_free ops restores e.0 z = free_alike ops restores e.0 s z (id ∙ sym zid) (n ∙ sym zn) (rule.alike s z (Has-at e.1.shards i s here) hz (id ∙ sym zid) (n ∙ sym zn)) in
          clash _ (sym same ∙ (first_place (is_free ops restores e.0) e.1.shards i s free_at here).0) (before_it z m))

      -- the op gives it, whatever it copies
      gives_at : (index number : ℕ) (source base : Option ℕ) → e.1.source ≡ source → s.ref.id ≡ index → s.number ≡ number → IsMost (IsLiveIn root ops s.ref.id s.number) base
          → (g : GivesShard w e.0 index number source base) × (g.op ≡ e.1) × (g.s ≡ s)
      gives_at index number source base source_is id n most = (
        record {
          op = e.1;
          source_is = source_is;
          s = s;
          found = is_found index number id n;
          ready = is_ready;
          first = λ z before r. clash _ (shard_ready at e there z r) (before_it z (stands_taken e.1.shards i z s here before));
          largest = largest_by s.ref.id s.number base (live s.ref.id s.number base most);
        },
        refl,
        refl,
      )

      few_at : (number : ℕ) → s.number ≡ number → number < 1024
      few_at number n = subst (λ (k : ℕ). k < 1024) n (rule.few s (Has-at e.1.shards i s here))

      gives_one : (index number uuid : ℕ) (name place : Bytes) (base : Option ℕ) → e.1.source ≡ None → s.ref.id ≡ index → s.number ≡ number → uuid ≡ e.1.uuid → name ≡ s.ref.name → place ≡ s.place
          → IsMost (IsLiveIn root ops s.ref.id s.number) base → ShardGiven w e.0 index number base uuid name place
      gives_one index number uuid name place base source_is id n uuid_is name_is place_is most =
          let (g, op_is, s_is) = gives_at index number None base source_is id n most in
          record {
            gives = g;
            uuid_is = uuid_is ∙ ap (λ (x : Op). x.uuid) (sym op_is);
            name_is = name_is ∙ ap (λ (x : ShardWork). x.ref.name) (sym s_is);
            place_is = place_is ∙ ap (λ (x : ShardWork). x.place) (sym s_is);
            few = few_at number n;
          }

      gives_copy : (index number source uuid : ℕ) (name : Bytes) (base : Option ℕ) → e.1.source ≡ Some source → s.ref.id ≡ index → s.number ≡ number → uuid ≡ e.1.uuid → name ≡ s.ref.name
          → IsMost (IsLiveIn root ops s.ref.id s.number) base → CloneGiven w e.0 index number source base uuid name
      gives_copy index number source uuid name base source_is id n uuid_is name_is most =
          let (g, op_is, s_is) = gives_at index number (Some source) base source_is id n most in
          record { gives = g; uuid_is = uuid_is ∙ ap (λ (x : Op). x.uuid) (sym op_is); name_is = name_is ∙ ap (λ (x : ShardWork). x.ref.name) (sym s_is); few = few_at number n }

      -- the list in which it is given
      takes_at : (index number : ℕ) (base : Option ℕ) (own : ShardId) → s.ref.id ≡ index → s.number ≡ number → s.ref.id ≡ own.index.number → s.number ≡ own.number
          → IsPlanOf (taken_shard w e.0 e.1 base (shard_of e.1.shards index number)) (seated (kinds.Shard own) e at ticket)
      takes_at index number base own id n own_id own_number =
          let count : ticket ≡ w.next_ticket = ticket_is ∙ ap (λ (p : Plan). p.next_ticket) view ∙ is.plan.next_ticket in
          let put : fin.from_entries {R = nat_cmp} (set ops at (given_entry (kinds.Shard own) ticket e)) ≡ fin.insert w.ops e.0 (record e.1 { shards = map (given w.next_ticket s.ref.id s.number) e.1.shards }) =
          from_set ops e.0 at (record e.1 { shards = map (given ticket own.index.number own.number) e.1.shards }) (entry_at ops rise at e there)
          ∙ (λ j. fin.insert (ops_is j) e.0 (record e.1 { shards = map (given (count j) (sym own_id j) (sym own_number j)) e.1.shards })) in
          subst (λ (o : Option ShardWork). IsPlanOf (taken_shard w e.0 e.1 base o) (seated (kinds.Shard own) e at ticket)) (sym (is_found index number id n))
          (ticketed (shard_ticket w e.0 e.1 s base) (seat_of_code (seat_for (kinds.Shard own) e.0)) _ _ put
          (λ j. record { kind = OfShard (own_id j) (own_number j); clean = false; op = e.0; term = is.term_is j; raised = None; settled = false }) refl)

      takes_one : (index number : ℕ) (base : Option ℕ) (own : ShardId) → s.ref.id ≡ index → s.number ≡ number → s.ref.id ≡ own.index.number → s.number ≡ own.number
          → (f : Formats) → IsPlanOf (taken_by f w e.0 (GivenShard index number base) (fin.get w.ops e.0)) (seated (kinds.Shard own) e at ticket)
      takes_one index number base own id n own_id own_number f =
          subst (λ (o : Option Op). IsPlanOf (taken_by f w e.0 (GivenShard index number base) o) (seated (kinds.Shard own) e at ticket)) (sym (got at e there)) (takes_at index number base own id n own_id own_number)

      takes_copy : (index number source : ℕ) (base : Option ℕ) (own : ShardId) → s.ref.id ≡ index → s.number ≡ number → s.ref.id ≡ own.index.number → s.number ≡ own.number
          → (f : Formats) → IsPlanOf (taken_by f w e.0 (GivenClone index number source base) (fin.get w.ops e.0)) (seated (kinds.Shard own) e at ticket)
      takes_copy index number source base own id n own_id own_number f =
          subst (λ (o : Option Op). IsPlanOf (taken_by f w e.0 (GivenClone index number source base) o) (seated (kinds.Shard own) e at ticket)) (sym (got at e there)) (takes_at index number base own id n own_id own_number)

      most_at : (own : ShardId) → IsSeatOf s (kinds.Shard own) → IsBaseFor root ops (kinds.Shard own) copy.base → IsMost (IsLiveIn root ops s.ref.id s.number) (option_map number_of copy.base)
      most_at own seat base =
          subst (λ (a : ℕ). IsMost (IsLiveIn root ops a s.number) (option_map number_of copy.base)) (sym seat.0) (subst (λ (n : ℕ). IsMost (IsLiveIn root ops own.index.number n) (option_map number_of copy.base)) (sym seat.1) base)

      gives_shard : (work : CodeWork) (kind : SeatKind) → IsShardWork e.1 s work → IsSeatOf s kind → IsBaseFor root ops kind copy.base → IsGivenBy e at ticket work kind copy
      gives_shard work kinds.Finalize h seat base = absurd seat
      gives_shard work kinds.Delete h seat base = absurd seat
      gives_shard work kinds.Drop h seat base = absurd seat
      gives_shard (works.Shard uuid shard index place) (kinds.Shard own) h seat base = (
        gives_one shard.index.number shard.number uuid.number index place (option_map number_of copy.base) h.0 (sym h.2) (sym h.3) h.1 h.4 h.5 (most_at own seat base),
        takes_one shard.index.number shard.number (option_map number_of copy.base) own (sym h.2) (sym h.3) seat.0 seat.1,
      )
      gives_shard (works.CloneShard source uuid shard index) (kinds.Shard own) h seat base = (
        gives_copy shard.index.number shard.number source.number uuid.number index (option_map number_of copy.base) h.0 (sym h.2) (sym h.3) h.1 h.4 (most_at own seat base),
        takes_copy shard.index.number shard.number source.number (option_map number_of copy.base) own (sym h.2) (sym h.3) seat.0 seat.1,
      )
      gives_shard work kind h seat base = absurd h

    gives_any : (kind : Kind) → ready_of ops deletes completed seats restores term e ≡ Some kind → (work : CodeWork) (seat : SeatKind) → IsWorkFor e.1 kind work → IsSeatFor e.1 kind seat → IsBaseFor root ops seat copy.base
        → IsGivenBy e at ticket work seat copy
    gives_any (ready.Shard i) found work seat hw hs base =
        let (within, at_i) = place_within (is_free ops restores e.0) e.1.shards i (picked ops deletes completed seats restores term e (Some (ready.Shard i)) found).1 in
        gives_shard i found at_i.0 at_i.1 work seat (if_some _ (λ s. IsShardWork e.1 s work) at_i.0 at_i.1 hw) (if_some _ (λ s. IsSeatOf s seat) at_i.0 at_i.1 hs) base
    gives_any ready.Finalize found work seat hw hs base = subst (λ (k : SeatKind). IsGivenBy e at ticket work k copy) (sym hs) (gives_final work found hw)
    gives_any ready.Drop found work seat hw hs base =
        subst (λ (k : SeatKind). IsGivenBy e at ticket work k copy) (sym hs) (subst (λ (k : CodeWork). IsGivenBy e at ticket k kinds.Drop copy) (sym hw) (gives_drop found))

  pub next_is : (at : ℕ) (kind : Kind) (r : IsReadyAt ops deletes completed seats restores term at kind) (e : ℕ × Op) → slice_get ops at ≡ Some e → AreShards e.1.shards → (ticket : ℕ) → ticket ≡ seats.next
      → (o : ℕ) → o ≡ e.0 → (work : CodeWork) (seat : SeatKind) (copy : Copied) → IsWorkFor e.1 kind work → IsSeatFor e.1 kind seat → IsBaseFor root ops seat copy.base → count_of copy.safe ≡ safe → root_of copy.root ≡ root
      → (given_list : List (ℕ × Op)) → IfSome (slice_get ops at) (λ (x : ℕ × Op). given_list ≡ set ops at (given_entry seat ticket x))
      → (new : Plan) → new ≡ record now { ops = fin.from_entries given_list; seats = fin.insert now.seats now.next_ticket (seat_of_code (seat_for seat o)); next_ticket = suc now.next_ticket }
      → LowestUnit (HasSnapReady w) w (Some (new, record { ticket = ticket; op = o; work = work; copy = copy }))
  next_is at kind r e there rule ticket ticket_is o o_is work seat copy hw hs base safe_is root_is given_list given_is new new_is =
      let entry : r.e ≡ e = same_Some r.e e (sym r.there ∙ there) in
      let found : ready_of ops deletes completed seats restores term e ≡ Some kind = ap (ready_of ops deletes completed seats restores term) (sym entry) ∙ r.is in
      let both : IsGivenBy e at ticket work seat copy = gives_any at e there rule ticket ticket_is copy kind found work seat hw hs base in
      let list_is : given_list ≡ set ops at (given_entry seat ticket e) = if_some _ (λ (x : ℕ × Op). given_list ≡ set ops at (given_entry seat ticket x)) e there given_is in
      let plan_is : seated seat e at ticket ≡ new =
      sym (new_is ∙ (λ i. record now { ops = fin.from_entries (list_is i); seats = fin.insert now.seats now.next_ticket (seat_of_code (seat_for seat (o_is i))); next_ticket = suc now.next_ticket })) in
      subst (λ (k : ℕ). LowestUnit (HasSnapReady w) w (Some (new, record { ticket = ticket; op = k; work = work; copy = copy }))) (sym o_is) (
        record {
          ticket = ticket_is ∙ ap (λ (p : Plan). p.next_ticket) view ∙ is.plan.next_ticket;
          lowest = lowest at e there r.before;
          gives = both.0;
          copy = record { safe = safe_is ∙ sym is.safe_is; root = root_is ∙ sym is.root_is };
        },
        λ f. subst (λ (p : Plan). IsPlanOf (taken_by f w e.0 (given_by work copy) (fin.get w.ops e.0)) p) plan_is (both.1 f),
      )
