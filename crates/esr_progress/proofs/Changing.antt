-- A plan after a change of its lists.
use Rattle.std.proofs.Common.{◌≡◌, ℕ, ◌-◌, Bool, true, false, cond, eqb, List, [], ◌∷◌, ◌++◌, Option, Some, None, option_map, get_or, refl, sym, ap, ◌∙◌, subst, nat_cmp, true≢false, eq-eqb}
use Rattle.std.specs.Prelude.{not, is_some}
use Rattle.std.specs.List.{position, filter, list_any}
use Rattle.std.specs.FinMap as fin
use Rattle.std.proofs.lemmas.Option.{get_or_from_slice_get, none-some, same_Some}
use Rattle.std.proofs.Math.ListN.{set}
use Rattle.esr_model.specs.Values.{Has, ShardResult}
use Rattle.esr_core.specs.World.{Op, Deletion}
use Rattle.esr_core.specs.Steps.{all_done}
use Rattle.esr_ops.specs.Plan.{Plan, Seat, ReaderSeat, RestorePlan, TicketMaps}
use Rattle.esr_ops.specs.Inside.{plan_with, numbers_of, AreNumbers, IsProgress}
use Rattle.esr_ops.specs.Restores.{is_waiting}
use Rattle.esr_progress.specs.Changes.{without_seat, without_reader, without_snap, without_op, with_completed, op_changed, op_marked, done_by, restore_over, restore_changed, restore_kept, read_by, delete_changed}
use Rattle.esr_ops.specs.Entries.{get_from, get_put, same_maps, get_left}
use Rattle.esr_progress.proofs.Entries.{position_missed, position_found, FirstAt, from_set, from_filter}
use Rattle.esr_progress.proofs.Numbers.{numbers-set, numbers-filter, kept_number}

-- ---- an op

pub missed_op : (ops : List (ℕ × Op)) (o : ℕ) → position (λ e. eqb e.0 o) ops ≡ None → fin.get (fin.from_entries {R = nat_cmp} ops) o ≡ None
missed_op ops o e = get_from ops o ∙ position_missed ops o e

pub found_op : (ops : List (ℕ × Op)) (o i : ℕ) (x : ℕ × Op) → position (λ e. eqb e.0 o) ops ≡ Some i → x ≡ get_or ops i x → fin.get (fin.from_entries {R = nat_cmp} ops) o ≡ Some x.1
found_op ops o i x found is =
    let at = position_found ops o i x found in
    get_from ops o ∙ at.found ∙ ap (λ (e : ℕ × Op). Some e.1) (sym (is ∙ get_or_from_slice_get ops i at.e x at.there))

pub has_op_is : (ops : List (ℕ × Op)) (o : ℕ) (i : Option ℕ) → i ≡ position (λ e. eqb e.0 o) ops → is_some i ≡ is_some (fin.get (fin.from_entries {R = nat_cmp} ops) o)
has_op_is ops o None e = sym (ap is_some (missed_op ops o (sym e)))
has_op_is [] o (Some i) e = absurd (none-some i (sym e))
has_op_is (x ∷ ops) o (Some i) e = sym (ap is_some (get_from (x ∷ ops) o ∙ (position_found (x ∷ ops) o i x (sym e)).found))

module _ (g : Op → Op) (deletes : List (ℕ × Deletion)) (completed : List ℕ) (seats : TicketMaps) (next : ℕ) (restores : List (ℕ × RestorePlan)) (o : ℕ) where
  pub op_missed : (ops : List (ℕ × Op)) → position (λ e. eqb e.0 o) ops ≡ None
      → plan_with ops deletes completed seats next restores ≡ op_changed g (plan_with ops deletes completed seats next restores) o (fin.get (fin.from_entries {R = nat_cmp} ops) o)
  op_missed ops e = sym (ap (op_changed g (plan_with ops deletes completed seats next restores) o) (get_from ops o ∙ position_missed ops o e))

  module _ (ops : List (ℕ × Op)) (i : ℕ) (x new : ℕ × Op) (found : position (λ e. eqb e.0 o) ops ≡ Some i) (x_is : x ≡ get_or ops i x) (new_is : new ≡ (x.0, g x.1)) where
    at : FirstAt ops o i
    at = position_found ops o i x found

    same : x ≡ at.e
    same = x_is ∙ get_or_from_slice_get ops i at.e x at.there

    put_is : new ≡ (o, g at.e.1)
    put_is = new_is ∙ (λ j. ((same j).0, g (same j).1)) ∙ (λ j. (at.key j, g at.e.1))

    pub op_put : plan_with (set ops i new) deletes completed seats next restores ≡ op_changed g (plan_with ops deletes completed seats next restores) o (fin.get (fin.from_entries {R = nat_cmp} ops) o)
    op_put =
        let map_is : fin.from_entries {R = nat_cmp} (set ops i new) ≡ fin.insert (fin.from_entries {R = nat_cmp} ops) o (g at.e.1) = ap (λ v. fin.from_entries {R = nat_cmp} (set ops i v)) put_is ∙ from_set ops o i (g at.e.1) at in
        let there : fin.get (fin.from_entries {R = nat_cmp} ops) o ≡ Some at.e.1 = get_from ops o ∙ at.found in
        (λ j. record (plan_with ops deletes completed seats next restores) { ops = map_is j }) ∙ sym (ap (op_changed g (plan_with ops deletes completed seats next restores) o) there)

    pub op_put_numbers : numbers_of (set ops i new) ≡ numbers_of ops
    op_put_numbers = ap (λ v. numbers_of (set ops i v)) put_is ∙ numbers-set ops o i (g at.e.1) at

    pub op_put_keeps : IsProgress ops deletes next restores → IsProgress (set ops i new) deletes next restores
    op_put_keeps h = record {
      ops_numbered = subst (λ ns. AreNumbers ns next) (sym op_put_numbers) h.ops_numbered;
      deletes_numbered = h.deletes_numbered;
      restores_numbered = h.restores_numbered;
      apart = λ n m. h.apart n (subst (λ (ns : List ℕ). Has ns n) op_put_numbers m);
      first = h.first;
      most = h.most;
    }

module _ (ops : List (ℕ × Op)) (deletes : List (ℕ × Deletion)) (o : ℕ) where
  pub left_keeps : (next : ℕ) (restores : List (ℕ × RestorePlan)) → IsProgress ops deletes next restores → IsProgress (filter (λ e. not (eqb e.0 o)) ops) (filter (λ e. not (eqb e.0 o)) deletes) next restores
  left_keeps next restores h = record {
    ops_numbered = numbers-filter (λ e. not (eqb e.0 o)) ops next h.ops_numbered;
    deletes_numbered = numbers-filter (λ e. not (eqb e.0 o)) deletes next h.deletes_numbered;
    restores_numbered = h.restores_numbered;
    apart = λ n a b. h.apart n (kept_number (λ e. not (eqb e.0 o)) ops n a) (kept_number (λ e. not (eqb e.0 o)) deletes n b);
    first = h.first;
    most = h.most;
  }

  pub left_is : (completed : List ℕ) (seats : TicketMaps) (next : ℕ) (restores : List (ℕ × RestorePlan))
      → plan_with (filter (λ e. not (eqb e.0 o)) ops) (filter (λ e. not (eqb e.0 o)) deletes) completed seats next restores ≡ without_op (plan_with ops deletes completed seats next restores) o
  left_is completed seats next restores = λ j. record (plan_with ops deletes completed seats next restores) { ops = from_filter ops o j; deletes = from_filter deletes o j }

  -- a snapshot alone
  pub snap_left_keeps : (next : ℕ) (restores : List (ℕ × RestorePlan)) → IsProgress ops deletes next restores → IsProgress (filter (λ e. not (eqb e.0 o)) ops) deletes next restores
  snap_left_keeps next restores h = record {
    ops_numbered = numbers-filter (λ e. not (eqb e.0 o)) ops next h.ops_numbered;
    deletes_numbered = h.deletes_numbered;
    restores_numbered = h.restores_numbered;
    apart = λ n a b. h.apart n (kept_number (λ e. not (eqb e.0 o)) ops n a) b;
    first = h.first;
    most = h.most;
  }

  pub snap_left_is : (completed : List ℕ) (seats : TicketMaps) (next : ℕ) (restores : List (ℕ × RestorePlan))
      → plan_with (filter (λ e. not (eqb e.0 o)) ops) deletes completed seats next restores ≡ without_snap (plan_with ops deletes completed seats next restores) o
  snap_left_is completed seats next restores = λ j. record (plan_with ops deletes completed seats next restores) { ops = from_filter ops o j }

-- ---- a delete

pub has_delete_is : (deletes : List (ℕ × Deletion)) (o : ℕ) (i : Option ℕ) → i ≡ position (λ e. eqb e.0 o) deletes → is_some i ≡ is_some (fin.get (fin.from_entries {R = nat_cmp} deletes) o)
has_delete_is deletes o None e = sym (ap is_some (get_from deletes o ∙ position_missed deletes o (sym e)))
has_delete_is [] o (Some i) e = absurd (none-some i (sym e))
has_delete_is (x ∷ deletes) o (Some i) e = sym (ap is_some (get_from (x ∷ deletes) o ∙ (position_found (x ∷ deletes) o i x (sym e)).found))

module _ (g : Deletion → Deletion) (ops : List (ℕ × Op)) (completed : List ℕ) (seats : TicketMaps) (next : ℕ) (restores : List (ℕ × RestorePlan)) (o : ℕ) where
  pub delete_missed : (deletes : List (ℕ × Deletion)) → position (λ e. eqb e.0 o) deletes ≡ None
      → plan_with ops deletes completed seats next restores ≡ delete_changed g (plan_with ops deletes completed seats next restores) o (fin.get (fin.from_entries {R = nat_cmp} deletes) o)
  delete_missed deletes e = sym (ap (delete_changed g (plan_with ops deletes completed seats next restores) o) (get_from deletes o ∙ position_missed deletes o e))

  module _ (deletes : List (ℕ × Deletion)) (i : ℕ) (x new : ℕ × Deletion) (found : position (λ e. eqb e.0 o) deletes ≡ Some i) (x_is : x ≡ get_or deletes i x) (new_is : new ≡ (x.0, g x.1)) where
    delete_at : FirstAt deletes o i
    delete_at = position_found deletes o i x found

    same_delete : x ≡ delete_at.e
    same_delete = x_is ∙ get_or_from_slice_get deletes i delete_at.e x delete_at.there

    delete_is : new ≡ (o, g delete_at.e.1)
    delete_is = new_is ∙ (λ j. ((same_delete j).0, g (same_delete j).1)) ∙ (λ j. (delete_at.key j, g delete_at.e.1))

    pub delete_put : plan_with ops (set deletes i new) completed seats next restores ≡ delete_changed g (plan_with ops deletes completed seats next restores) o (fin.get (fin.from_entries {R = nat_cmp} deletes) o)
    delete_put =
        let map_is : fin.from_entries {R = nat_cmp} (set deletes i new) ≡ fin.insert (fin.from_entries {R = nat_cmp} deletes) o (g delete_at.e.1) =
        ap (λ v. fin.from_entries {R = nat_cmp} (set deletes i v)) delete_is ∙ from_set deletes o i (g delete_at.e.1) delete_at in
        let there : fin.get (fin.from_entries {R = nat_cmp} deletes) o ≡ Some delete_at.e.1 = get_from deletes o ∙ delete_at.found in
        (λ j. record (plan_with ops deletes completed seats next restores) { deletes = map_is j }) ∙ sym (ap (delete_changed g (plan_with ops deletes completed seats next restores) o) there)

    pub delete_put_numbers : numbers_of (set deletes i new) ≡ numbers_of deletes
    delete_put_numbers = ap (λ v. numbers_of (set deletes i v)) delete_is ∙ numbers-set deletes o i (g delete_at.e.1) delete_at

    pub delete_put_keeps : IsProgress ops deletes next restores → IsProgress ops (set deletes i new) next restores
    delete_put_keeps h = record {
      ops_numbered = h.ops_numbered;
      deletes_numbered = subst (λ ns. AreNumbers ns next) (sym delete_put_numbers) h.deletes_numbered;
      restores_numbered = h.restores_numbered;
      apart = λ n m d. h.apart n m (subst (λ (ns : List ℕ). Has ns n) delete_put_numbers d);
      first = h.first;
      most = h.most;
    }

-- ---- a restore

pub missed_restore : (restores : List (ℕ × RestorePlan)) (o : ℕ) → position (λ e. eqb e.0 o) restores ≡ None → fin.get (fin.from_entries {R = nat_cmp} restores) o ≡ None
missed_restore restores o e = get_from restores o ∙ position_missed restores o e

pub found_restore : (restores : List (ℕ × RestorePlan)) (o i : ℕ) (x : ℕ × RestorePlan) → position (λ e. eqb e.0 o) restores ≡ Some i → x ≡ get_or restores i x → fin.get (fin.from_entries {R = nat_cmp} restores) o ≡ Some x.1
found_restore restores o i x found is =
    let at = position_found restores o i x found in
    get_from restores o ∙ at.found ∙ ap (λ (e : ℕ × RestorePlan). Some e.1) (sym (is ∙ get_or_from_slice_get restores i at.e x at.there))

pub has_restore_is : (restores : List (ℕ × RestorePlan)) (o : ℕ) (i : Option ℕ) → i ≡ position (λ e. eqb e.0 o) restores → is_some i ≡ is_some (fin.get (fin.from_entries {R = nat_cmp} restores) o)
has_restore_is restores o None e = sym (ap is_some (missed_restore restores o (sym e)))
has_restore_is [] o (Some i) e = absurd (none-some i (sym e))
has_restore_is (x ∷ restores) o (Some i) e = sym (ap is_some (get_from (x ∷ restores) o ∙ (position_found (x ∷ restores) o i x (sym e)).found))

module _ (g : RestorePlan → RestorePlan) (ops : List (ℕ × Op)) (deletes : List (ℕ × Deletion)) (completed : List ℕ) (seats : TicketMaps) (next o : ℕ) where
  pub restore_missed : (restores : List (ℕ × RestorePlan)) → position (λ e. eqb e.0 o) restores ≡ None
      → plan_with ops deletes completed seats next restores ≡ restore_changed g (plan_with ops deletes completed seats next restores) o (fin.get (fin.from_entries {R = nat_cmp} restores) o)
  restore_missed restores e = sym (ap (restore_changed g (plan_with ops deletes completed seats next restores) o) (missed_restore restores o e))

  module _ (restores : List (ℕ × RestorePlan)) (i : ℕ) (x new : ℕ × RestorePlan) (found : position (λ e. eqb e.0 o) restores ≡ Some i) (x_is : x ≡ get_or restores i x) (new_is : new ≡ (x.0, g x.1)) where
    restore_at : FirstAt restores o i
    restore_at = position_found restores o i x found

    same_restore : x ≡ restore_at.e
    same_restore = x_is ∙ get_or_from_slice_get restores i restore_at.e x restore_at.there

    restore_is : new ≡ (o, g restore_at.e.1)
    restore_is = new_is ∙ (λ j. ((same_restore j).0, g (same_restore j).1)) ∙ (λ j. (restore_at.key j, g restore_at.e.1))

    pub restore_put : plan_with ops deletes completed seats next (set restores i new) ≡ restore_changed g (plan_with ops deletes completed seats next restores) o (fin.get (fin.from_entries {R = nat_cmp} restores) o)
    restore_put =
        let map_is : fin.from_entries {R = nat_cmp} (set restores i new) ≡ fin.insert (fin.from_entries {R = nat_cmp} restores) o (g restore_at.e.1) =
        ap (λ v. fin.from_entries {R = nat_cmp} (set restores i v)) restore_is ∙ from_set restores o i (g restore_at.e.1) restore_at in
        let there : fin.get (fin.from_entries {R = nat_cmp} restores) o ≡ Some restore_at.e.1 = get_from restores o ∙ restore_at.found in
        (λ j. record (plan_with ops deletes completed seats next restores) { restores = map_is j }) ∙ sym (ap (restore_changed g (plan_with ops deletes completed seats next restores) o) there)

    restore_put_numbers : numbers_of (set restores i new) ≡ numbers_of restores
    restore_put_numbers = ap (λ v. numbers_of (set restores i v)) restore_is ∙ numbers-set restores o i (g restore_at.e.1) restore_at

    pub restore_put_keeps : IsProgress ops deletes next restores → IsProgress ops deletes next (set restores i new)
    restore_put_keeps h =
        record { ops_numbered = h.ops_numbered; deletes_numbered = h.deletes_numbered; restores_numbered = subst (λ ns. AreNumbers ns next) (sym restore_put_numbers) h.restores_numbered; apart = h.apart; first = h.first; most = h.most }

module _ (ops : List (ℕ × Op)) (deletes : List (ℕ × Deletion)) (completed : List ℕ) (seats : TicketMaps) (next : ℕ) (restores : List (ℕ × RestorePlan)) (o : ℕ) where
  pub restore_left_keeps : IsProgress ops deletes next restores → IsProgress ops deletes next (filter (λ e. not (eqb e.0 o)) restores)
  restore_left_keeps h = record { ops_numbered = h.ops_numbered; deletes_numbered = h.deletes_numbered; restores_numbered = numbers-filter (λ e. not (eqb e.0 o)) restores next h.restores_numbered; apart = h.apart; first = h.first; most = h.most }

  pub restore_none : position (λ e. eqb e.0 o) restores ≡ None
      → plan_with ops deletes completed seats next restores ≡ restore_kept (plan_with ops deletes completed seats next restores) o (fin.get (fin.from_entries {R = nat_cmp} restores) o)
  restore_none e = sym (ap (restore_kept (plan_with ops deletes completed seats next restores) o) (missed_restore restores o e))

  pub restore_stays : (i : ℕ) (x : ℕ × RestorePlan) → position (λ e. eqb e.0 o) restores ≡ Some i → x ≡ get_or restores i x → list_any is_waiting x.1.shards ≡ true
      → plan_with ops deletes completed seats next restores ≡ restore_kept (plan_with ops deletes completed seats next restores) o (fin.get (fin.from_entries {R = nat_cmp} restores) o)
  restore_stays i x found is waits =
      sym (ap (restore_kept (plan_with ops deletes completed seats next restores) o) (found_restore restores o i x found is)
      ∙ (λ j. record (plan_with ops deletes completed seats next restores) { restores = cond (waits j) (fin.from_entries restores) (fin.remove (fin.from_entries restores) o) }))

  pub restore_leaves : (i : ℕ) (x : ℕ × RestorePlan) → position (λ e. eqb e.0 o) restores ≡ Some i → x ≡ get_or restores i x → list_any is_waiting x.1.shards ≡ false
      → plan_with ops deletes completed seats next (filter (λ e. not (eqb e.0 o)) restores) ≡ restore_kept (plan_with ops deletes completed seats next restores) o (fin.get (fin.from_entries {R = nat_cmp} restores) o)
  restore_leaves i x found is over =
      (λ j. record (plan_with ops deletes completed seats next restores) { restores = from_filter restores o j })
      ∙ sym (ap (restore_kept (plan_with ops deletes completed seats next restores) o) (found_restore restores o i x found is)
      ∙ (λ j. record (plan_with ops deletes completed seats next restores) { restores = cond (over j) (fin.from_entries restores) (fin.remove (fin.from_entries restores) o) }))

remove_put : {A : Type 0} (m : fin.FinMap nat_cmp A) (k : ℕ) (v : A) → fin.remove (fin.insert m k v) k ≡ fin.remove m k
remove_put {A} m k v = same_maps _ _ (λ q. get_left (fin.insert m k v) k q ∙ ap (cond (eqb q k) None) (get_put m k v q) ∙ past (eqb q k) q ∙ sym (get_left m k q))
  where
    past : (b : Bool) (q : ℕ) → cond b None (cond b (Some v) (fin.get m q)) ≡ cond b None (fin.get m q)
    past true q = refl
    past false q = refl

put_or_left : (m : fin.FinMap nat_cmp RestorePlan) (o : ℕ) (r : RestorePlan) (b : Bool) → cond b (fin.insert m o r) (fin.remove (fin.insert m o r) o) ≡ cond b (fin.insert m o r) (fin.remove m o)
put_or_left m o r true = refl
put_or_left m o r false = remove_put m o r

abbrev between : Plan → ℕ → ReaderSeat → Option RestorePlan → Plan
between p k s o = restore_changed (restore_over k) (without_reader p k) s.op o

-- the reader ends, what it has is over, and the restore leaves where that was its last shard
pub read_put : (p q t new : Plan) (k : ℕ) (s : ReaderSeat) → is_some (fin.get p.restores s.op) ≡ true → q ≡ without_reader p k → t ≡ restore_changed (restore_over k) q s.op (fin.get q.restores s.op)
    → new ≡ restore_kept t s.op (fin.get t.restores s.op) → new ≡ read_by p k s (fin.get p.restores s.op)
read_put p q t new k s there q_is t_is new_is =
    new_is
    ∙ ap (λ (z : Plan). restore_kept z s.op (fin.get z.restores s.op)) (t_is ∙ ap (λ (z : Plan). restore_changed (restore_over k) z s.op (fin.get z.restores s.op)) q_is)
    ∙ go (fin.get p.restores s.op) there
  where
    go : (o : Option RestorePlan) → is_some o ≡ true → restore_kept (between p k s o) s.op (fin.get (between p k s o).restores s.op) ≡ read_by p k s o
    go None e = absurd (true≢false (sym e))
    go (Some r) e =
        ap (restore_kept (between p k s (Some r)) s.op) (get_put p.restores s.op (restore_over k r) s.op ∙ ap (λ b. cond b (Some (restore_over k r)) (fin.get p.restores s.op)) (eq-eqb s.op s.op refl))
        ∙ (λ j. record p { restores = put_or_left p.restores s.op (restore_over k r) (list_any is_waiting (restore_over k r).shards) j; readers = fin.remove p.readers k })

pub read_missed : (p : Plan) (k : ℕ) (s : ReaderSeat) → is_some (fin.get p.restores s.op) ≡ false → p ≡ read_by p k s (fin.get p.restores s.op)
read_missed p k s none = go (fin.get p.restores s.op) none
  where
    go : (o : Option RestorePlan) → is_some o ≡ false → p ≡ read_by p k s o
    go None e = refl
    go (Some r) e = absurd (true≢false e)

pub done_put : (p q t new : Plan) (k : ℕ) (r : ShardResult) (s : Seat) (b : Bool) → Some b ≡ option_map (λ (op : Op). all_done (op_marked k r op).shards) (fin.get p.ops s.op) → q ≡ with_completed b p s.op
    → t ≡ without_seat q k
    → new ≡ op_changed (op_marked k r) t s.op (fin.get t.ops s.op) → new ≡ done_by p k r s (fin.get p.ops s.op)
done_put p q t new k r s b done q_is t_is new_is =
    new_is ∙ ap (λ (z : Plan). op_changed (op_marked k r) z s.op (fin.get z.ops s.op)) (t_is ∙ ap (λ (z : Plan). without_seat z k) q_is) ∙ go (fin.get p.ops s.op) done
  where
    go : (o : Option Op) → Some b ≡ option_map (λ (op : Op). all_done (op_marked k r op).shards) o → op_changed (op_marked k r) (without_seat (with_completed b p s.op) k) s.op o ≡ done_by p k r s o
    go None e = absurd (none-some b (sym e))
    go (Some op) e = ap (λ (z : Bool). record p { ops = fin.insert p.ops s.op (op_marked k r op); completed = cond z (p.completed ++ s.op ∷ []) p.completed; seats = fin.remove p.seats k }) (same_Some b (all_done (op_marked k r op).shards) e)

pub done_missed : (p : Plan) (k : ℕ) (r : ShardResult) (s : Seat) → ◌≡◌ {A = Option Bool} None (option_map (λ (op : Op). all_done (op_marked k r op).shards) (fin.get p.ops s.op)) → p ≡ done_by p k r s (fin.get p.ops s.op)
done_missed p k r s none = go (fin.get p.ops s.op) none
  where
    go : (o : Option Op) → ◌≡◌ {A = Option Bool} None (option_map (λ (op : Op). all_done (op_marked k r op).shards) o) → p ≡ done_by p k r s o
    go None e = refl
    go (Some op) e = absurd (none-some (all_done (op_marked k r op).shards) e)
