-- The unit of a restore's shard, in a world of which the list tells.
use Rattle.std.proofs.Common.{◌≡◌, ℕ, suc, zero, ◌+◌, ◌<◌, true, false, ◌&&◌, List, [], ◌∷◌, Option, Some, None, cond, option_map, map, length, get_or, take, refl, sym, ap, ◌∙◌, subst, inl, inr, true≢false, arith, eq-eqb, nat_cmp}
use Rattle.std.specs.Prelude.{slice_get, ◌==◌, IfSome}
use Rattle.std.specs.List.{position}
use Rattle.std.specs.FinMap as fin
use Rattle.std.proofs.Math.ListN.{set}
use Rattle.std.proofs.lemmas.Bool.{cases_lt, and_from, and_parts}
use Rattle.std.proofs.lemmas.Option.{slice_get_read, slice_get_within, slice_get-map, same_Some, none-some}
use Rattle.esr_model.specs.Lists.{Has-map}
use Rattle.esr_names.specs.declared.blob.ShardId.{ShardId}
use Rattle.esr_model.specs.Values.{Has, RootData, Formats}
use Rattle.esr_core.specs.Entry.{GivenRestore}
use Rattle.esr_core.specs.World.{World, Op, Deletion, ShardWork, ReadState, Unread, RestoreShard, Restoring}
use Rattle.esr_core.specs.Ready.{ReadyRestore}
use Rattle.esr_core.specs.Restores.{restore_shard, handed, reader_of, shard_handed}
use Rattle.esr_core.specs.Steps.{given}
use Rattle.esr_core.specs.Allowed.{GivesRestore}
use Rattle.esr_core.specs.After.{taken_by, taken_restore, taken_restore_shard}
use Rattle.esr_core.specs.Laws.Tests.{clash}
use Rattle.esr_formats.specs.Roots.{root_of}
use Rattle.esr_formats.specs.Clusters.{count_of}
use Rattle.esr_ops.specs.declared.unit.Work.{Work as CodeWork}
use Rattle.esr_ops.specs.declared.unit.Work.TheVariants as works
use Rattle.esr_ops.specs.declared.unit.Copied.{Copied}
use Rattle.esr_ops.specs.Plan.{Plan, RestorePlan, read_state, read_work, restore_plan, reader_of_code, TicketMaps, IsPlanOf}
use Rattle.esr_ops.specs.Shards.{is_pending, AreShards}
use Rattle.esr_ops.specs.Restores.{is_unread, IsRestoreWork}
use Rattle.esr_ops.specs.Inside.{plan_with, numbers_of, Rise, IsProgress}
use Rattle.esr_ops.specs.Units.{given_by, GivesWork, HasUnread, IsLowest, LowestUnit}
use Rattle.esr_progress.specs.Choice.{NoneUnread, IsUnreadAt, given_restore}
use Rattle.esr_ops.specs.Entries.{eqb_is, get_from, find-member}
use Rattle.esr_ops.specs.Lists.{position-None, Has-at, position-map}
use Rattle.esr_ops.specs.Numbers.{entries_from, found_member}
use Rattle.esr_progress.specs.Plans.{restore_of_plan, restores_put, restores_put_count}
use Rattle.esr_ops.specs.Tests.{place_within, place_of, place_below, first_place}
use Rattle.esr_progress.proofs.Choices.{is_false, place_lower, Has-taken, stands_taken}
use Rattle.esr_progress.proofs.Entries.{from_set}
use Rattle.esr_progress.proofs.NextUnits.{entry_at, if_some}
use Rattle.esr_progress.proofs.Numbers.{numbers-set}
use Rattle.esr_progress.proofs.Plans.{readers_put}
use Rattle.esr_progress.proofs.Reading.{works-handed}

-- ---- the search

module _ (restores : List (ℕ × RestorePlan)) where
  pub unread_here : (at i : ℕ) (e : ℕ × RestorePlan) → at < length restores → e ≡ get_or restores at e → position is_unread e.1.shards ≡ Some i → NoneUnread restores at → IsUnreadAt restores at i
  unread_here at i e lt is found before = record { e = e; there = slice_get_read restores (length restores) at e refl lt is; is = found; before = before }

  pub none_unread_more : (at : ℕ) (e : ℕ × RestorePlan) → at < length restores → e ≡ get_or restores at e → position is_unread e.1.shards ≡ None → NoneUnread restores at → NoneUnread restores (at + 1)
  none_unread_more at e lt is none before k x below there = elim (cases_lt k at) [
    | inl less ↦ before k x less there
    | inr le ↦
        let same : k ≡ at = omega (arith, below, le) in
        let one : e ≡ x = same_Some e x (sym (slice_get_read restores (length restores) at e refl lt is) ∙ ap (slice_get restores) (sym same) ∙ there) in
        ap (λ (z : ℕ × RestorePlan). position is_unread z.1.shards) (sym one) ∙ none
  ]

-- the restore at the place, read
module _ (restores here : List (ℕ × RestorePlan)) (same : here ≡ restores) (at i : ℕ) (r : IsUnreadAt here at i) where
  pub unread_in : IsUnreadAt restores at i
  unread_in = subst (λ (es : List (ℕ × RestorePlan)). IsUnreadAt es at i) same r

  module _ (e : ℕ × RestorePlan) (is : e ≡ get_or restores at e) where
    pub restore_there : slice_get restores at ≡ Some e
    restore_there = slice_get_read restores (length restores) at e refl (slice_get_within restores at unread_in.e unread_in.there) is

    pub unread_within : i < length e.1.shards
    unread_within =
        let one : unread_in.e ≡ e = same_Some unread_in.e e (sym unread_in.there ∙ restore_there) in
        (place_within is_unread e.1.shards i (ap (λ (z : ℕ × RestorePlan). position is_unread z.1.shards) (sym one) ∙ unread_in.is)).0

-- ---- the shard of its id and number

unread_by : (state : ReadState) → is_pending (read_state state) ≡ true → state ≡ Unread
unread_by Unread e = refl
unread_by state e = absurd (true≢false (sym e))

restore_found : (index number : ℕ) (xs : List RestoreShard) (i : ℕ) (s : RestoreShard) → slice_get xs i ≡ Some s → s.ref.id ≡ index → s.number ≡ number
    → ((z : RestoreShard) → Has (take i xs) z → z.ref.id ≡ index → z.number ≡ number → ⊥) → restore_shard xs index number ≡ Some s
restore_found index number [] i s there id n other = absurd (none-some s there)
restore_found index number (x ∷ xs) zero s there id n other =
    let is : x ≡ s = same_Some x s there in
    ap (λ c. cond c (Some x) (restore_shard xs index number)) (and_from _ _ (eq-eqb x.ref.id index (ap (λ (z : RestoreShard). z.ref.id) is ∙ id)) (eq-eqb x.number number (ap (λ (z : RestoreShard). z.number) is ∙ n))) ∙ ap (λ z. Some z) is
restore_found index number (x ∷ xs) (suc i) s there id n other =
    let not_this : ((x.ref.id == index) && (x.number == number)) ≡ false = is_false _ (λ e. let (a, b) = and_parts _ _ e in other x (inl refl) (eqb_is _ _ a) (eqb_is _ _ b)) in
    ap (λ c. cond c (Some x) (restore_shard xs index number)) not_this ∙ restore_found index number xs i s there id n (λ z m. other z (inr m))

pub restore_numbers : (restores here : List (ℕ × RestorePlan)) → here ≡ restores → (ops : List (ℕ × Op)) (deletes : List (ℕ × Deletion)) (completed : List ℕ) (seats : TicketMaps) (next : ℕ) (now : Plan)
    → plan_with ops deletes completed seats next restores ≡ now
    → IsProgress ops deletes next restores → (at : ℕ) (e : ℕ × RestorePlan) → slice_get restores at ≡ Some e → (shard : ShardId) (ticket : ℕ) (given_list : List (ℕ × RestorePlan))
    → IfSome (slice_get here at) (λ (x : ℕ × RestorePlan). given_list ≡ set here at (given_restore shard ticket x)) → numbers_of given_list ≡ numbers_of (fin.entries now.restores)
restore_numbers restores here same ops deletes completed seats next now view h at e there shard ticket given_list given_is =
    let list_is : given_list ≡ set here at (given_restore shard ticket e) =
    if_some (slice_get here at) (λ (x : ℕ × RestorePlan). given_list ≡ set here at (given_restore shard ticket x)) e (ap (λ es. slice_get es at) same ∙ there) given_is in
    ap numbers_of (list_is ∙ ap (λ es. set es at (given_restore shard ticket e)) same) ∙ numbers-set restores e.0 at (given_restore shard ticket e).1 (entry_at restores h.restores_numbered.rise at e there)
    ∙ ap numbers_of (sym (entries_from restores h.restores_numbered.rise)) ∙ ap (λ (p : Plan). numbers_of (fin.entries p.restores)) view

module _ (ops : List (ℕ × Op)) (deletes : List (ℕ × Deletion)) (completed : List ℕ) (seats : TicketMaps) (next : ℕ) (restores : List (ℕ × RestorePlan)) (now : Plan) (view : plan_with ops deletes completed seats next restores ≡ now)
    (h : IsProgress ops deletes next restores) (w : World) (is : IsPlanOf w now) where
  rise : Rise (numbers_of restores)
  rise = h.restores_numbered.rise

  find_restore : (q : ℕ) → fin.get now.restores q ≡ fin.find nat_cmp q restores
  find_restore q = ap (λ (p : Plan). fin.get p.restores q) (sym view) ∙ get_from restores q

  -- a restore of the world is listed
  listed : (o : ℕ) (r : Restoring) → fin.get w.restores o ≡ Some r → Has restores (o, restore_plan r)
  listed o r e = find-member o restores (restore_plan r) (sym (find_restore o) ∙ is.restores o ∙ ap (option_map restore_plan) e)

  none_there : (o : ℕ) (r : Restoring) (s : RestoreShard) → ReadyRestore w o r s → position is_unread (restore_plan r).shards ≡ None → ⊥
  none_there o r s ready none =
      clash _ (ap (λ (z : ReadState). is_pending (read_state z)) ready.unread) (position-None is_unread (restore_plan r).shards none (read_work r.place s) (Has-map (read_work r.place) r.shards s ready.s_there))

  pub none_is_unread : NoneUnread restores (length restores) → (o : ℕ) → HasUnread w o → ⊥
  none_is_unread before o (r, s, ready) =
      let (k, here) = place_of restores (o, restore_plan r) (listed o r ready.there) in
      none_there o r s ready (before k (o, restore_plan r) (slice_get_within restores k (o, restore_plan r) here) here)

  module _ (at : ℕ) (e : ℕ × RestorePlan) (there : slice_get restores at ≡ Some e) where
    pub lowest_unread : NoneUnread restores at → (p : ℕ) → p < e.0 → HasUnread w p → ⊥
    lowest_unread before p lt (r, s, ready) =
        let (k, below, here) = place_below restores at (p, restore_plan r) (place_lower restores rise at e there (p, restore_plan r) (listed p r ready.there) lt) in
        none_there p r s ready (before k (p, restore_plan r) below here)

    found : fin.get now.restores e.0 ≡ Some e.1
    found = find_restore e.0 ∙ found_member restores rise e (Has-at restores at e there)

    open_one : (r : Restoring) × (fin.get w.restores e.0 ≡ Some r) × (restore_plan r ≡ e.1)
    open_one = restore_of_plan w now is e.0 e.1 found

    abbrev r : Restoring
    r = open_one.0

    module _ (i : ℕ) (unread : position is_unread e.1.shards ≡ Some i) where
      first_of : position (λ (s : RestoreShard). is_unread (read_work r.place s)) r.shards ≡ Some i
      first_of = sym (position-map is_unread (read_work r.place) r.shards) ∙ ap (λ (x : RestorePlan). position is_unread x.shards) open_one.2 ∙ unread

      -- its first unread shard
      one : (i < length r.shards) × ((s : RestoreShard) × (slice_get r.shards i ≡ Some s))
      one = place_within (λ (s : RestoreShard). is_unread (read_work r.place s)) r.shards i first_of

      abbrev s : RestoreShard
      s = one.1.0

      around : (is_unread (read_work r.place s) ≡ true) × ((z : RestoreShard) → Has (take i r.shards) z → is_unread (read_work r.place z) ≡ false)
      around = first_place (λ (z : RestoreShard). is_unread (read_work r.place z)) r.shards i s first_of one.1.1

      is_ready : ReadyRestore w e.0 r s
      is_ready = record { there = open_one.1; s_there = Has-at r.shards i s one.1.1; unread = unread_by s.state around.0 }

      pub has_unread : HasUnread w e.0
      has_unread = (r, s, is_ready)

      module _ (rule : AreShards e.1.shards) where
        alike : AreShards (restore_plan r).shards
        alike = subst (λ (x : RestorePlan). AreShards x.shards) (sym open_one.2) rule

        in_plan : (z : RestoreShard) → Has r.shards z → Has (restore_plan r).shards (read_work r.place z)
        in_plan z m = Has-map (read_work r.place) r.shards z m

        is_found : (index number : ℕ) → s.ref.id ≡ index → s.number ≡ number → restore_shard r.shards index number ≡ Some s
        is_found index number id n = restore_found index number r.shards i s one.1.1 id n
            (λ z m zid zn.
            let same = alike.alike (read_work r.place s) (read_work r.place z) (in_plan s is_ready.s_there) (in_plan z (Has-taken r.shards i z m)) (id ∙ sym zid) (n ∙ sym zn) in
            clash _ (ap is_pending (sym same) ∙ around.0) (around.1 z m))

        gives_it : (index number uuid : ℕ) → s.ref.id ≡ index → s.number ≡ number → uuid ≡ r.uuid → GivesRestore w e.0 index number uuid
        gives_it index number uuid id n uuid_is = record {
          r = r;
          s = s;
          found = is_found index number id n;
          ready = is_ready;
          first = λ z before un. clash _ (ap (λ (x : ReadState). is_pending (read_state x)) un) (around.1 z (stands_taken r.shards i z s one.1.1 before));
          uuid_is = uuid_is;
        }

        -- the shard as the plan tells it
        told : slice_get e.1.shards i ≡ Some (read_work r.place s)
        told = ap (λ (x : RestorePlan). slice_get x.shards i) (sym open_one.2) ∙ slice_get-map (read_work r.place) r.shards i ∙ ap (option_map (read_work r.place)) one.1.1

        gives_work : (work : CodeWork) (copy : Copied) → IsRestoreWork e.1 (read_work r.place s) work → GivesWork w e.0 work copy
        unfolding gives_it one
        gives_work (works.RestoreShard uuid shard index place) copy hw = record {
          gives = gives_it shard.index.number shard.number uuid.number (sym hw.1) (sym hw.2) (hw.0 ∙ ap (λ (x : RestorePlan). x.uuid) (sym open_one.2));
          name_is = hw.3;
          place_is = hw.4;
          few = subst (λ (k : ℕ). k < 1024) (sym hw.2) (alike.few (read_work r.place s) (in_plan s is_ready.s_there));
        }
        gives_work work copy hw = absurd hw

        -- the list in which it is given
        abbrev with_read : ShardId → ℕ → Plan
        with_read own ticket =
            record now { restores = fin.from_entries (set restores at (given_restore own ticket e)); readers = fin.insert now.readers now.next_ticket (reader_of_code (record { op = e.0; shard = own })); next_ticket = suc now.next_ticket }

        module _ (own : ShardId) (ticket : ℕ) (ticket_is : ticket ≡ seats.next) (own_id : s.ref.id ≡ own.index.number) (own_number : s.number ≡ own.number) where
          count : ticket ≡ w.next_ticket
          count = ticket_is ∙ ap (λ (p : Plan). p.next_ticket) view ∙ is.next_ticket

          abbrev handed_over : Restoring
          handed_over = record r { shards = map (handed w.next_ticket s.ref.id s.number) r.shards }

          plan_handed : restore_plan handed_over ≡ (given_restore own ticket e).1
          plan_handed =
              (λ j. record { uuid = r.uuid; shards = works-handed r.place w.next_ticket s.ref.id s.number r.shards j })
              ∙ (λ j. record { uuid = r.uuid; shards = map (given (sym count j) (own_id j) (own_number j)) (map (read_work r.place) r.shards) })
              ∙ ap (λ (x : RestorePlan). record x { shards = map (given ticket own.index.number own.number) x.shards }) open_one.2

          put_is : fin.from_entries {R = nat_cmp} (set restores at (given_restore own ticket e)) ≡ fin.insert now.restores e.0 (given_restore own ticket e).1
          put_is = from_set restores e.0 at (given_restore own ticket e).1 (entry_at restores rise at e there) ∙ ap (λ (p : Plan). fin.insert p.restores e.0 (given_restore own ticket e).1) view

          handed_plan : IsPlanOf (shard_handed w e.0 r s)
              (record now { restores = fin.insert now.restores e.0 (given_restore own ticket e).1; readers = fin.insert now.readers now.next_ticket (reader_of_code (record { op = e.0; shard = own })); next_ticket = suc now.next_ticket })
          handed_plan = record {
            ops = is.ops;
            deletes = is.deletes;
            completed = is.completed;
            seats = is.seats;
            next_op = is.next_op;
            next_ticket = ap suc is.next_ticket;
            restores = restores_put w now is e.0 handed_over (given_restore own ticket e).1 plan_handed;
            restore_count = restores_put_count w now is e.0 handed_over (given_restore own ticket e).1;
            readers = λ k. ap (λ n. fin.get (fin.insert now.readers n (reader_of_code (record { op = e.0; shard = own }))) k) is.next_ticket
                ∙ readers_put w now is w.next_ticket (reader_of e.0 r s) (reader_of_code (record { op = e.0; shard = own })) (λ j. record { op = e.0; index = own_id j; number = own_number j }) refl k;
          }

          takes_it : (index number uuid : ℕ) → s.ref.id ≡ index → s.number ≡ number → (f : Formats) → IsPlanOf (taken_by f w e.0 (GivenRestore index number uuid) (fin.get w.ops e.0)) (with_read own ticket)
          takes_it index number uuid id n f =
              subst (λ (o : Option Restoring). IsPlanOf (taken_restore w e.0 index number o) (with_read own ticket)) (sym open_one.1)
              (subst (λ (o : Option RestoreShard). IsPlanOf (taken_restore_shard w e.0 r o) (with_read own ticket)) (sym (is_found index number id n))
              (subst (λ (m : fin.FinMap nat_cmp RestorePlan).
              IsPlanOf (shard_handed w e.0 r s) (record now { restores = m; readers = fin.insert now.readers now.next_ticket (reader_of_code (record { op = e.0; shard = own })); next_ticket = suc now.next_ticket }))
              (sym put_is) handed_plan))

          takes_work : (work : CodeWork) (copy : Copied) → IsRestoreWork e.1 (read_work r.place s) work → (f : Formats) → IsPlanOf (taken_by f w e.0 (given_by work copy) (fin.get w.ops e.0)) (with_read own ticket)
          takes_work (works.RestoreShard uuid shard index place) copy hw f = takes_it shard.index.number shard.number uuid.number (sym hw.1) (sym hw.2) f
          takes_work work copy hw f = absurd hw

  pub lowest_restore : (at i : ℕ) (x : IsUnreadAt restores at i) (e : ℕ × RestorePlan) → slice_get restores at ≡ Some e → (o : ℕ) → o ≡ e.0 → IsLowest (HasUnread w) (Some o)
  lowest_restore at i x e there o o_is =
      let entry : x.e ≡ e = same_Some x.e e (sym x.there ∙ there) in
      let unread : position is_unread e.1.shards ≡ Some i = ap (λ (z : ℕ × RestorePlan). position is_unread z.1.shards) (sym entry) ∙ x.is in
      subst (λ (n : ℕ). IsLowest (HasUnread w) (Some n)) (sym o_is) (has_unread at e there i unread, lowest_unread at e there x.before)

  pub restore_is : (at i : ℕ) (x : IsUnreadAt restores at i) (e : ℕ × RestorePlan) → slice_get restores at ≡ Some e → AreShards e.1.shards → (ticket : ℕ) → ticket ≡ seats.next → (o : ℕ) → o ≡ e.0
      → (work : CodeWork) (own : ShardId) (copy : Copied)
      → IfSome (slice_get e.1.shards i) (λ z. (z.ref.id ≡ own.index.number) × (z.number ≡ own.number)) → IfSome (slice_get e.1.shards i) (λ z. IsRestoreWork e.1 z work) → (root : RootData) (safe : ℕ) → w.safe ≡ safe
      → w.root ≡ root
      → count_of copy.safe ≡ safe → root_of copy.root ≡ root → (given_list : List (ℕ × RestorePlan)) → IfSome (slice_get restores at) (λ (z : ℕ × RestorePlan). given_list ≡ set restores at (given_restore own ticket z))
      → (new : Plan) → new ≡ record now { restores = fin.from_entries given_list; readers = fin.insert now.readers now.next_ticket (reader_of_code (record { op = o; shard = own })); next_ticket = suc now.next_ticket }
      → LowestUnit (HasUnread w) w (Some (new, record { ticket = ticket; op = o; work = work; copy = copy }))
  restore_is at i x e there rule ticket ticket_is o o_is work own copy hs hw root safe w_safe w_root safe_is root_is given_list given_is new new_is =
      let entry : x.e ≡ e = same_Some x.e e (sym x.there ∙ there) in
      let unread : position is_unread e.1.shards ≡ Some i = ap (λ (z : ℕ × RestorePlan). position is_unread z.1.shards) (sym entry) ∙ x.is in
      let z : ShardWork = read_work (r at e there).place (s at e there i unread) in
      let own_is = if_some _ (λ (y : ShardWork). (y.ref.id ≡ own.index.number) × (y.number ≡ own.number)) z (told at e there i unread rule) hs in
      let work_is = if_some _ (λ (y : ShardWork). IsRestoreWork e.1 y work) z (told at e there i unread rule) hw in
      let list_is : given_list ≡ set restores at (given_restore own ticket e) = if_some _ (λ (y : ℕ × RestorePlan). given_list ≡ set restores at (given_restore own ticket y)) e there given_is in
      let plan_is : with_read at e there i unread rule own ticket ≡ new =
      sym (new_is ∙ (λ j. record now { restores = fin.from_entries (list_is j); readers = fin.insert now.readers now.next_ticket (reader_of_code (record { op = o_is j; shard = own })); next_ticket = suc now.next_ticket })) in
      subst (λ (k : ℕ). LowestUnit (HasUnread w) w (Some (new, record { ticket = ticket; op = k; work = work; copy = copy }))) (sym o_is) (
        record {
          ticket = ticket_is ∙ ap (λ (p : Plan). p.next_ticket) view ∙ is.next_ticket;
          lowest = lowest_unread at e there x.before;
          gives = gives_work at e there i unread rule work copy work_is;
          copy = record { safe = safe_is ∙ sym w_safe; root = root_is ∙ sym w_root };
        },
        λ f. subst (λ (p : Plan). IsPlanOf (taken_by f w e.0 (given_by work copy) (fin.get w.ops e.0)) p) plan_is (takes_work at e there i unread rule own ticket ticket_is own_is.0 own_is.1 work copy work_is f),
      )

-- ---- a shard given

pub given_read : (restores copied : List (ℕ × RestorePlan)) (at : ℕ) (shard : ShardId) (ticket : ℕ) (x y : ℕ × RestorePlan) → at < length restores → copied ≡ restores → x ≡ get_or copied at x → y ≡ given_restore shard ticket x
    → IfSome (slice_get restores at) (λ (e : ℕ × RestorePlan). set copied at y ≡ set restores at (given_restore shard ticket e))
given_read restores copied at shard ticket x y lt same there now =
    subst (λ (o : Option (ℕ × RestorePlan)). IfSome o (λ (e : ℕ × RestorePlan). set copied at y ≡ set restores at (given_restore shard ticket e)))
    (sym (slice_get_read restores (length restores) at x refl lt (there ∙ ap (λ (es : List (ℕ × RestorePlan)). get_or es at x) same))) (λ i. set (same i) at (now i))
