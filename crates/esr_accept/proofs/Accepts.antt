-- What accepting a command answers, in any world with this list, this root and the next id.
use Rattle.std.proofs.Common.{◌≡◌, ◌⊎◌, ℕ, suc, ◌+◌, ◌<◌, ◌≤◌, Bool, true, false, true≢false, List, Option, Some, None, map, length, refl, sym, ap, ◌∙◌, subst, inl, inr, arith, nat_cmp}
use Rattle.std.specs.Prelude.{not, nat_lt}
use Rattle.std.specs.FinMap.{FinMap}
use Rattle.std.specs.FinMap as fin
use Rattle.std.proofs.lemmas.Bool.{cases_lt, not-false}
use Rattle.std.proofs.lemmas.Bool.Decides.{Decides-ltb}
use Rattle.esr_record.specs.declared.op.Making.{Making}
use Rattle.esr_model.specs.Values.{Bytes, Has, RootSnap, RootData}
use Rattle.esr_model.specs.Uploads.{same_bytes}
use Rattle.esr_model.specs.Kept.{first_id}
use Rattle.esr_core.specs.World.{World, Op, Deletion}
use Rattle.esr_core.specs.Entry.{AskedIndex, Asked, Snapshot}
use Rattle.esr_core.specs.Steps.{completing}
use Rattle.esr_core.specs.After.{known_id, refs_from, all_pending, asked_op, asked}
use Rattle.esr_core.specs.Generations.{WritesBack, OpTexts}
use Rattle.esr_core.specs.Allowed.{NoCleanup, IsNameOf, IsUnused, open_count}
use Rattle.esr_core.specs.Tracked.{Named}
use Rattle.esr_names.specs.declared.index_ref.IndexRef.{IndexRef as CodeRef}
use Rattle.std.proofs.lemmas.List.{length-map}
use Rattle.std.proofs.lemmas.Option.{same_Some, none-some}
use Rattle.esr_core.specs.Laws.SnapshotOps.{neither}
use Rattle.esr_formats.specs.Refs.{ref_of_code, AreApart}
use Rattle.esr_ops.specs.Asked.{IsAskable}
use Rattle.esr_formats.specs.Formats.{formats}
use Rattle.esr_ops.specs.declared.refusal.Refusal.{Refusal}
use Rattle.esr_ops.specs.declared.command.Accepted.{Accepted}
use Rattle.esr_ops.specs.Plan.{Plan, RestorePlan, IsPlanOf, IsAskedIn, TicketMaps}
use Rattle.esr_ops.specs.Inside.{numbers_of, Rise, IsProgress, plan_with}
use Rattle.esr_accept.specs.Accepting.{MayAccept, IsAccepted, IsRefused, drawn_by}
use Rattle.esr_accept.specs.Asking.{open_cleanup, snap_uuid, op_uuid, name_user, known_in, first_refusal, refs_by, new_by, op_begun}
use Rattle.esr_ops.specs.Entries.{get_from, find-member}
use Rattle.esr_ops.specs.Numbers.{found_member, entries_from}
use Rattle.esr_accept.proofs.Drawn.{new-same, refs-same, refs_apart, length-refs_by}
use Rattle.esr_accept.proofs.Finds.{len_from, found, missed, same_true, same_false, either_some, are_known}

-- the lists that a plan is of
pub record IsListed (ops : List (ℕ × Op)) (deletes : List (ℕ × Deletion)) (p : Plan) : Type 0 where
  pub ops_rise : Rise (numbers_of ops)
  pub deletes_rise : Rise (numbers_of deletes)
  pub ops_are : p.ops ≡ fin.from_entries ops
  pub deletes_are : p.deletes ≡ fin.from_entries deletes

module _ (ops : List (ℕ × Op)) (deletes : List (ℕ × Deletion)) (p : Plan) (root : RootData) (term next : ℕ) (h : IsListed ops deletes p) (w : World) (is : IsAskedIn p root term next w) where
  ops_in : w.ops ≡ fin.from_entries ops
  ops_in = sym is.plan.ops ∙ h.ops_are

  deletes_in : w.deletes ≡ fin.from_entries deletes
  deletes_in = sym is.plan.deletes ∙ h.deletes_are

  -- ---- look-ups

  pub op_there : (e : ℕ × Op) → Has ops e → fin.get w.ops e.0 ≡ Some e.1
  op_there e m = ap (λ (z : FinMap nat_cmp Op). fin.get z e.0) ops_in ∙ get_from ops e.0 ∙ found_member ops h.ops_rise e m

  pub op_listed : (o : ℕ) (op : Op) → fin.get w.ops o ≡ Some op → Has ops (o, op)
  op_listed o op e = find-member o ops op (sym (get_from ops o) ∙ ap (λ (z : FinMap nat_cmp Op). fin.get z o) (sym ops_in) ∙ e)

  delete_there : (e : ℕ × Deletion) → Has deletes e → fin.get w.deletes e.0 ≡ Some e.1
  delete_there e m = ap (λ (z : FinMap nat_cmp Deletion). fin.get z e.0) deletes_in ∙ get_from deletes e.0 ∙ found_member deletes h.deletes_rise e m

  delete_listed : (d : ℕ) (x : Deletion) → fin.get w.deletes d ≡ Some x → Has deletes (d, x)
  delete_listed d x e = find-member d deletes x (sym (get_from deletes d) ∙ ap (λ (z : FinMap nat_cmp Deletion). fin.get z d) (sym deletes_in) ∙ e)

  pub knows : (name : Bytes) → known_id w name ≡ known_in root ops name
  knows name = λ j. known_in (is.root_is j) ((ap fin.entries ops_in ∙ entries_from ops h.ops_rise) j) name

  pub count : open_count w ≡ length ops + length deletes
  count = λ j. (ap fin.len ops_in ∙ len_from ops h.ops_rise) j + (ap fin.len deletes_in ∙ len_from deletes h.deletes_rise) j

  pub cleanup_there : (d : ℕ) → open_cleanup deletes ≡ Some d → (x : Deletion) × (fin.get w.deletes d ≡ Some x) × (x.clean ≡ true)
  cleanup_there d e =
      let r = found open_cleanup (λ (y : ℕ × Deletion). y.1.clean) (λ (y : ℕ × Deletion). y.0) refl (λ x xs. refl) deletes d e in
      (r.x.1, ap (fin.get w.deletes) (sym r.value) ∙ delete_there r.x r.there, r.hit)

  pub no_cleanup : open_cleanup deletes ≡ None → NoCleanup w
  no_cleanup e d x got = missed open_cleanup (λ (y : ℕ × Deletion). y.1.clean) (λ (y : ℕ × Deletion). y.0) refl (λ x xs. refl) deletes (d, x) e (delete_listed d x got)

  pub user_there : (name : Bytes) (uuid : ℕ) → (snap_uuid root.snapshots name ≡ Some uuid) ⊎ (op_uuid ops name ≡ Some uuid) → IsNameOf w name uuid
  user_there name uuid (inl e) =
      let r = found (λ (xs : List RootSnap). snap_uuid xs name) (λ (s : RootSnap). same_bytes s.name name) (λ (s : RootSnap). s.uuid) refl (λ x xs. refl) root.snapshots uuid e in
      inl (r.x, subst (λ (z : RootData). Has z.snapshots r.x) (sym is.root_is) r.there, same_true r.x.name name r.hit, r.value)
  user_there name uuid (inr e) =
      let r = found (λ (xs : List (ℕ × Op)). op_uuid xs name) (λ (s : ℕ × Op). same_bytes s.1.name name) (λ (s : ℕ × Op). s.1.uuid) refl (λ x xs. refl) ops uuid e in
      inr (r.x.0, r.x.1, op_there r.x r.there, same_true r.x.1.name name r.hit, r.value)

  pub unused : (name : Bytes) → name_user root ops name ≡ None → IsUnused w name
  unused name e uuid (inl (s, there, name_is, uuid_is)) =
      let none = (neither (snap_uuid root.snapshots name) (op_uuid ops name) e).0 in
      same_false s.name name
      (missed (λ (xs : List RootSnap). snap_uuid xs name) (λ (x : RootSnap). same_bytes x.name name) (λ (x : RootSnap). x.uuid) refl (λ x xs. refl) root.snapshots s none (subst (λ (z : RootData). Has z.snapshots s) is.root_is there)) name_is
  unused name e uuid (inr (o, op, got, name_is, uuid_is)) =
      let none = (neither (snap_uuid root.snapshots name) (op_uuid ops name) e).1 in
      same_false op.name name (missed (λ (xs : List (ℕ × Op)). op_uuid xs name) (λ (x : ℕ × Op). same_bytes x.1.name name) (λ (x : ℕ × Op). x.1.uuid) refl (λ x xs. refl) ops (o, op) none (op_listed o op got)) name_is

  -- ---- the first rule that refuses

  pub full_is : not (nat_lt (length ops + length deletes) 1000) ≡ true → 1000 ≤ open_count w
  full_is e = elim (cases_lt (length ops + length deletes) 1000) [ inl lt ↦ absurd (true≢false (sym e ∙ ap not ((Decides-ltb _ _).1 lt))) | inr le ↦ omega (arith, count) ]

  pub room_is : not (nat_lt (length ops + length deletes) 1000) ≡ false → open_count w < 1000
  room_is e = let lt : length ops + length deletes < 1000 = (Decides-ltb _ _).0 (not-false _ e) in omega (arith, count)

  module _ (name : Bytes) (command : Asked) where
    refused_by : (cleanup user : Option ℕ) (full : Bool) (r : Refusal) → open_cleanup deletes ≡ cleanup → name_user root ops name ≡ user → not (nat_lt (length ops + length deletes) 1000) ≡ full
        → Some r ≡ first_refusal cleanup user full → IsRefused w name command r
    refused_by (Some d) user full r a b c e = subst (IsRefused w name command) (sym (same_Some _ _ e)) (cleanup_there d a)
    refused_by None (Some uuid) full r a b c e = subst (IsRefused w name command) (sym (same_Some _ _ e)) (no_cleanup a, user_there name uuid (either_some _ _ uuid b))
    refused_by None None true r a b c e = subst (IsRefused w name command) (sym (same_Some _ _ e)) (refl, no_cleanup a, unused name b, full_is c)
    refused_by None None false r a b c e = absurd (none-some r (sym e))

    pub refused : (r : Refusal) → Some r ≡ first_refusal (open_cleanup deletes) (name_user root ops name) (not (nat_lt (length ops + length deletes) 1000)) → IsRefused w name command r
    refused r e = refused_by _ _ _ r refl refl refl e

  may_by : (name : Bytes) (cleanup user : Option ℕ) (full : Bool) → open_cleanup deletes ≡ cleanup → name_user root ops name ≡ user → not (nat_lt (length ops + length deletes) 1000) ≡ full
      → ◌≡◌ {A = Option Refusal} None (first_refusal cleanup user full) → MayAccept w name
  may_by name None None false a b c e = record { no_cleanup = no_cleanup a; unused = unused name b; room = room_is c }
  may_by name cleanup user full a b c e = absurd (none-some _ e)

  pub may_accept : (name : Bytes) → ◌≡◌ {A = Option Refusal} None (first_refusal (open_cleanup deletes) (name_user root ops name) (not (nat_lt (length ops + length deletes) 1000))) → MayAccept w name
  may_accept name e = may_by name _ _ _ refl refl refl e

  -- ---- the op that is added
  module _ (name : Bytes) (indices : List AskedIndex) (moment : ℕ) where
    pub draws : drawn_by w (Snapshot name indices moment) ≡ suc (new_by (known_in root ops) indices)
    draws = ap suc (new-same (known_in root ops) w knows indices)

    -- what is made
    pub record Makes (m : Making) : Type 0 where
      pub name_is : m.name ≡ name
      pub uuid_is : m.uuid.number ≡ next
      pub moment_is : m.moment ≡ moment
      pub indices_are : map ref_of_code m.indices ≡ refs_by (known_in root ops) (suc next) indices

    op_is : (m : Making) → Makes m → op_begun m indices ≡ asked_op w name indices moment
    op_is m makes =
        let are : map ref_of_code m.indices ≡ refs_from w (suc w.next_id) indices =
        makes.indices_are ∙ ap (λ (n : ℕ). refs_by (known_in root ops) (suc n) indices) (sym is.next_is) ∙ sym (refs-same (known_in root ops) w knows (suc w.next_id) indices) in
        λ j. record {
          name = makes.name_is j;
          uuid = (makes.uuid_is ∙ sym is.next_is) j;
          moment = makes.moment_is j;
          indices = are j;
          shards = all_pending indices (are j);
          failed = false;
          source = None;
          aborted = None;
        }

    plan_is : (m : Making) → Makes m → (k : ℕ) → k ≡ p.next_op
        → IsPlanOf (asked w (Snapshot name indices moment)) (record p { ops = fin.insert p.ops k (op_begun m indices); completed = completing p.completed k (op_begun m indices).shards; next_op = suc p.next_op })
    plan_is m makes k k_is = record {
      ops = λ j. fin.insert (is.plan.ops j) ((k_is ∙ is.plan.next_op) j) (op_is m makes j);
      deletes = is.plan.deletes;
      completed = λ j. completing (is.plan.completed j) ((k_is ∙ is.plan.next_op) j) (op_is m makes j).shards;
      seats = is.plan.seats;
      next_op = ap suc is.plan.next_op;
      next_ticket = is.plan.next_ticket;
      restores = is.plan.restores;
      restore_count = is.plan.restore_count;
      readers = is.plan.readers;
    }

    pub accepted : (m : Making) (new : Plan) (a : Accepted) → Makes m
        → ((known : Bytes → Bytes → ℕ → Bool) (told : Bytes → Bytes → ℕ → Option (List (Bytes × Bytes))) → WritesBack (formats known told) m.name m.uuid.number m.moment (map ref_of_code m.indices))
        → a.op ≡ p.next_op → a.drawn ≡ suc (new_by (known_in root ops) indices) → next + a.drawn < first_id (suc term)
        → new ≡ record p { ops = fin.insert p.ops a.op (op_begun m indices); completed = completing p.completed a.op (op_begun m indices).shards; next_op = suc p.next_op }
        → IsAccepted w (Snapshot name indices moment) new a
    accepted m new a makes written op_number drawn fits new_is = record {
      number = op_number ∙ is.plan.next_op;
      drawn = drawn ∙ sym draws;
      fits = subst (λ (n : ℕ). n + a.drawn < first_id (suc w.term)) (sym is.next_is) (subst (λ (t : ℕ). next + a.drawn < first_id (suc t)) (sym is.term_is) fits);
      plan = subst (IsPlanOf (asked w (Snapshot name indices moment))) (sym new_is) (plan_is m makes a.op op_number);
      texts = λ known told. subst (OpTexts (formats known told)) (op_is m makes) (written known told);
    }

    pub spent : (drawn : ℕ) → drawn ≡ suc (new_by (known_in root ops) indices) → first_id (suc term) ≤ next + drawn → first_id (suc w.term) ≤ w.next_id + drawn_by w (Snapshot name indices moment)
    spent drawn e above =
        subst (λ (n : ℕ). first_id (suc w.term) ≤ n + drawn_by w (Snapshot name indices moment)) (sym is.next_is)
        (subst (λ (t : ℕ). first_id (suc t) ≤ next + drawn_by w (Snapshot name indices moment)) (sym is.term_is) (subst (λ (d : ℕ). first_id (suc term) ≤ next + d) (e ∙ sym draws) above))

-- ---- the lists of a plan

pub listed : (ops : List (ℕ × Op)) (deletes : List (ℕ × Deletion)) (completed : List ℕ) (seats : TicketMaps) (next : ℕ) (restores : List (ℕ × RestorePlan)) (p : Plan) → IsProgress ops deletes next restores
    → plan_with ops deletes completed seats next restores ≡ p → IsListed ops deletes p
listed ops deletes completed seats next restores p h view = record {
  ops_rise = h.ops_numbered.rise;
  deletes_rise = h.deletes_numbered.rise;
  ops_are = ap (λ (q : Plan). q.ops) (sym view);
  deletes_are = ap (λ (q : Plan). q.deletes) (sym view);
}

-- ---- the indices of what is made

module _ (ops : List (ℕ × Op)) (root : RootData) (next : ℕ) (indices : List AskedIndex) (refs : List CodeRef) (are : map ref_of_code refs ≡ refs_by (known_in root ops) (suc next) indices) where
  pub refs_fit : (deletes : List (ℕ × Deletion)) (p : Plan) → IsListed ops deletes p → Named root p.ops next → (command : Asked) (name : Bytes) (moment : ℕ) → command ≡ Snapshot name indices moment → IsAskable command
      → AreApart (map ref_of_code refs)
  refs_fit deletes p h named command name moment is askable =
      let fit : IsAskable (Snapshot name indices moment) = subst IsAskable is askable in
      subst AreApart (sym are) (refs_apart (known_in root ops) next (suc next) indices (are_known root ops p.ops next h.ops_rise h.ops_are named) (omega arith) fit.0 fit.1)

  pub refs_count : length refs ≡ length indices
  refs_count = sym (length-map refs ref_of_code) ∙ ap length are ∙ length-refs_by (known_in root ops) (suc next) indices
