-- What accepting a restore answers.
use Rattle.std.proofs.Common.{◌≡◌, ℕ, zero, suc, ◌+◌, ◌<◌, ◌≤◌, Bool, true, false, cond, List, [], ◌∷◌, ◌++◌, Some, None, option_map, map, length, refl, sym, ap, ◌∙◌, subst, inl, inr, true≢false, arith, nat_cmp, slice_get}
use Rattle.std.specs.Prelude.{not, nat_lt}
use Rattle.std.proofs.lemmas.Bool.{cases_lt, not-false}
use Rattle.std.proofs.lemmas.Bool.Decides.{Decides-ltb}
use Rattle.std.specs.List.{AllByRecursion}
use Rattle.std.specs.FinMap.{FinMap}
use Rattle.std.specs.FinMap as fin
use Rattle.std.proofs.lemmas.List.{map-append}
use Rattle.std.proofs.lemmas.Option.{same_Some}
use Rattle.esr_model.specs.Lists.{Has-map}
use Rattle.esr_names.specs.declared.ids.Id.{Id}
use Rattle.esr_names.specs.declared.index_ref.IndexRef.{IndexRef as CodeRef}
use Rattle.esr_model.specs.Values.{Bytes, Has, IndexRef, RootSnap, RootData}
use Rattle.esr_model.specs.Shelf.{names_uuid}
use Rattle.esr_model.specs.Places.{numbered, places}
use Rattle.esr_model.specs.Uploads.{same_bytes}
use Rattle.esr_core.specs.World.{World, Op, Deletion, Pending, Restoring}
use Rattle.esr_core.specs.Restores.{unread, restore_of, restore_opened}
use Rattle.esr_core.specs.Allowed.{IsListed, IsSpared, IsBeingDeleted}
use Rattle.esr_formats.specs.Refs.{ref_of_code, AreApart}
use Rattle.esr_ops.specs.declared.shard.ShardState.TheVariants as states
use Rattle.esr_ops.specs.declared.shard.OpenShard.{OpenShard}
use Rattle.esr_ops.specs.Plan.{Plan, RestorePlan, read_work, restore_plan, IsPlanOf, TicketMaps}
use Rattle.esr_ops.specs.Shards.{name_or_none, count_or_none}
use Rattle.esr_ops.specs.Restores.{work_of_read, restore_with, LiesIn, IsOpenRestore}
use Rattle.esr_ops.specs.Inside.{numbers_of, Rise, IsProgress, plan_with}
use Rattle.esr_accept.specs.Asking.{snap_uuid, deleting, shards_from, shards_of, restore_begun}
use Rattle.esr_progress.specs.Changes.{put_plan}
use Rattle.esr_ops.specs.Entries.{get_from, find-member}
use Rattle.esr_ops.specs.Lists.{all_member}
use Rattle.esr_ops.specs.Numbers.{found_member}
use Rattle.esr_progress.specs.Plans.{restores_put, restores_put_count, restores_left, restores_left_count, any_waits-works}
use Rattle.esr_accept.proofs.Begun.{all_of}
use Rattle.esr_accept.proofs.Finds.{len_from, found, missed, same_true, same_false}

-- none of a lower number names it
first_by : (x : ℕ × Deletion) (deletes : List (ℕ × Deletion)) → Rise (numbers_of (x ∷ deletes)) → (uuid d : ℕ) (y : ℕ × Deletion) → y.0 < d → (b : Bool) → names_uuid x.1.uuids uuid ≡ b
    → cond b (Some x.0) (deleting deletes uuid) ≡ Some d
    → (deleting deletes uuid ≡ Some d → Has deletes y → names_uuid y.1.uuids uuid ≡ false) → Has (x ∷ deletes) y → names_uuid y.1.uuids uuid ≡ false
first_by x deletes r uuid d y lt true t is rest (inl same) = absurd (omega (arith, same_Some x.0 d is, ap (λ (z : ℕ × Deletion). z.0) same))
first_by x deletes r uuid d y lt true t is rest (inr later) = let above : x.0 < y.0 = r.0 y.0 (Has-map (λ (z : ℕ × Deletion). z.0) deletes y later) in absurd (omega (arith, same_Some x.0 d is))
first_by x deletes r uuid d y lt false t is rest (inl same) = ap (λ (z : ℕ × Deletion). names_uuid z.1.uuids uuid) (sym same) ∙ t
first_by x deletes r uuid d y lt false t is rest (inr later) = rest is later

first_deleting : (deletes : List (ℕ × Deletion)) → Rise (numbers_of deletes) → (uuid d : ℕ) → deleting deletes uuid ≡ Some d → (y : ℕ × Deletion) → Has deletes y → y.0 < d → names_uuid y.1.uuids uuid ≡ false
first_deleting [] r uuid d e y m lt = absurd m
first_deleting (x ∷ deletes) r uuid d e y m lt = first_by x deletes r uuid d y lt (names_uuid x.1.uuids uuid) refl e (λ is later. first_deleting deletes r.1 uuid d is y later lt) m

module _ (ops : List (ℕ × Op)) (deletes : List (ℕ × Deletion)) (completed : List ℕ) (seats : TicketMaps) (next : ℕ) (restores : List (ℕ × RestorePlan)) (p : Plan) (view : plan_with ops deletes completed seats next restores ≡ p)
    (h : IsProgress ops deletes next restores) (w : World) (is : IsPlanOf w p) where
  deletes_in : w.deletes ≡ fin.from_entries deletes
  deletes_in = sym is.deletes ∙ ap (λ (q : Plan). q.deletes) (sym view)

  delete_there : (e : ℕ × Deletion) → Has deletes e → fin.get w.deletes e.0 ≡ Some e.1
  delete_there e m = ap (λ (z : FinMap nat_cmp Deletion). fin.get z e.0) deletes_in ∙ get_from deletes e.0 ∙ found_member deletes h.deletes_numbered.rise e m

  delete_listed : (d : ℕ) (x : Deletion) → fin.get w.deletes d ≡ Some x → Has deletes (d, x)
  delete_listed d x e = find-member d deletes x (sym (get_from deletes d) ∙ ap (λ (z : FinMap nat_cmp Deletion). fin.get z d) (sym deletes_in) ∙ e)

  pub count_is : fin.len w.restores ≡ length restores
  count_is = sym is.restore_count ∙ ap (λ (q : Plan). fin.len q.restores) (sym view) ∙ len_from restores h.restores_numbered.rise

  pub full_is : not (nat_lt (length restores) 1000) ≡ true → 1000 ≤ fin.len w.restores
  full_is e = elim (cases_lt (length restores) 1000) [ inl lt ↦ absurd (true≢false (sym e ∙ ap not ((Decides-ltb _ _).1 lt))) | inr le ↦ omega (arith, count_is) ]

  pub room_is : not (nat_lt (length restores) 1000) ≡ false → fin.len w.restores < 1000
  room_is e = let lt : length restores < 1000 = (Decides-ltb _ _).0 (not-false _ e) in omega (arith, count_is)

  pub being_deleted : (uuid d : ℕ) → deleting deletes uuid ≡ Some d → IsBeingDeleted w uuid d
  being_deleted uuid d e =
      let r = found (λ (xs : List (ℕ × Deletion)). deleting xs uuid) (λ (y : ℕ × Deletion). names_uuid y.1.uuids uuid) (λ (y : ℕ × Deletion). y.0) refl (λ x xs. refl) deletes d e in
      record {
        x = r.x.1;
        there = ap (fin.get w.deletes) (sym r.value) ∙ delete_there r.x r.there;
        names = r.hit;
        lowest = λ f y lt got. first_deleting deletes h.deletes_numbered.rise uuid d e (f, y) (delete_listed f y got) lt;
      }

  pub is_spared : (uuid : ℕ) → deleting deletes uuid ≡ None → IsSpared w uuid
  is_spared uuid e d x got = missed (λ (xs : List (ℕ × Deletion)). deleting xs uuid) (λ (y : ℕ × Deletion). names_uuid y.1.uuids uuid) (λ (y : ℕ × Deletion). y.0) refl (λ x xs. refl) deletes (d, x) e (delete_listed d x got)

module _ (w : World) (root : RootData) (root_is : w.root ≡ root) (name : Bytes) where
  pub is_listed : (uuid : ℕ) → snap_uuid root.snapshots name ≡ Some uuid → IsListed w name uuid
  is_listed uuid e =
      let r = found (λ (xs : List RootSnap). snap_uuid xs name) (λ (s : RootSnap). same_bytes s.name name) (λ (s : RootSnap). s.uuid) refl (λ x xs. refl) root.snapshots uuid e in
      (r.x, subst (λ (z : RootData). Has z.snapshots r.x) (sym root_is) r.there, same_true r.x.name name r.hit, r.value)

  pub not_listed : snap_uuid root.snapshots name ≡ None → (uuid : ℕ) → IsListed w name uuid → ⊥
  not_listed e uuid (s, there, name_is, uuid_is) =
      same_false s.name name
      (missed (λ (xs : List RootSnap). snap_uuid xs name) (λ (x : RootSnap). same_bytes x.name name) (λ (x : RootSnap). x.uuid) refl (λ x xs. refl) root.snapshots s e (subst (λ (z : RootData). Has z.snapshots s) root_is there)) name_is

-- ---- a restore as it begins

module _ (refs : List CodeRef) (place : Bytes) where
  reads-from : (at : ℕ) (r : CodeRef) → slice_get refs at ≡ Some r → (first n : ℕ) → map (work_of_read refs place) (shards_from at r.id first n) ≡ map (read_work place) (map unread (numbered (ref_of_code r) first n))
  reads-from at r is first zero = refl
  reads-from at r is first (suc n) = λ j. record { ref = record { id = r.id.number; name = name_or_none (is j); shards = count_or_none (is j) }; number = first; place = place; state = Pending } ∷ reads-from at r is (suc first) n j

  reads-of : (at : ℕ) (rs : List CodeRef) → ((i : ℕ) → slice_get refs (at + i) ≡ slice_get rs i) → map (work_of_read refs place) (shards_of at rs) ≡ map (read_work place) (map unread (places (map ref_of_code rs)))
  reads-of at [] are = refl
  reads-of at (r ∷ rs) are =
      let here : at + 0 ≡ at = omega arith in
      map-append (work_of_read refs place) (shards_from at r.id 0 r.shards) (shards_of (suc at) rs)
      ∙ (λ j. reads-from at r (ap (slice_get refs) (sym here) ∙ are 0) 0 r.shards j ++ reads-of (suc at) rs (λ i. let past : suc at + i ≡ at + suc i = omega arith in ap (slice_get refs) past ∙ are (suc i)) j)
      ∙ sym (ap (map (read_work place)) (map-append unread (numbered (ref_of_code r) 0 r.shards) (places (map ref_of_code rs)))
      ∙ map-append (read_work place) (map unread (numbered (ref_of_code r) 0 r.shards)) (map unread (places (map ref_of_code rs))))

  pub begun_is : (uuid : Id) (shards : List OpenShard) → shards ≡ shards_of 0 refs → restore_with uuid place refs shards ≡ restore_begun uuid.number place (map ref_of_code refs)
  begun_is uuid shards is =
      (λ j. record { uuid = uuid.number; shards = map (work_of_read refs place) (is j) })
      ∙ (λ j. record { uuid = uuid.number; shards = reads-of 0 refs (λ i. let z : 0 + i ≡ i = omega arith in ap (slice_get refs) z) j })

pub restore_begins : (refs : List CodeRef) (shards : List OpenShard) → AreApart (map ref_of_code refs) → shards ≡ shards_of 0 refs → IsOpenRestore refs shards
restore_begins refs shards apart is =
    let pending : AllByRecursion (λ (s : OpenShard). s.state ≡ states.Pending) shards =
    subst (AllByRecursion (λ (s : OpenShard). s.state ≡ states.Pending)) (sym is) (all_of (λ (s : OpenShard). s.state ≡ states.Pending) 0 refs apart (λ j k index lt few. refl)) in
    record {
      within = subst (AllByRecursion (LiesIn refs)) (sym is) (all_of (LiesIn refs) 0 refs apart (λ j k index lt few. (omega arith, few)));
      alike = λ a b ha hb i n. all_member _ shards pending a ha ∙ sym (all_member _ shards pending b hb);
    }

module _ (w : World) (p : Plan) (is : IsPlanOf w p) (uuid : ℕ) (place : Bytes) (indices : List IndexRef) where
  with_restores : (restores : FinMap nat_cmp Restoring) (plans : FinMap nat_cmp RestorePlan) → ((o : ℕ) → fin.get plans o ≡ option_map restore_plan (fin.get restores o)) → fin.len plans ≡ fin.len restores
      → IsPlanOf (record w { restores = restores; next_op = suc w.next_op }) (record p { restores = plans; next_op = suc p.next_op })
  with_restores restores plans are count =
      record {
        ops = is.ops;
        deletes = is.deletes;
        completed = is.completed;
        seats = is.seats;
        next_op = ap suc is.next_op;
        next_ticket = is.next_ticket;
        restores = are;
        restore_count = count;
        readers = is.readers;
      }

  opened_with : (b c : Bool) → b ≡ c → IsPlanOf (record w { restores = cond b (fin.insert w.restores w.next_op (restore_of uuid place indices)) (fin.remove w.restores w.next_op); next_op = suc w.next_op })
      (record p { restores = cond c (fin.insert p.restores w.next_op (restore_begun uuid place indices)) (fin.remove p.restores w.next_op); next_op = suc p.next_op })
  opened_with true true e =
      with_restores (fin.insert w.restores w.next_op (restore_of uuid place indices)) (fin.insert p.restores w.next_op (restore_begun uuid place indices))
      (restores_put w p is w.next_op (restore_of uuid place indices) (restore_begun uuid place indices) refl) (restores_put_count w p is w.next_op (restore_of uuid place indices) (restore_begun uuid place indices))
  opened_with false false e = with_restores (fin.remove w.restores w.next_op) (fin.remove p.restores w.next_op) (restores_left w p is w.next_op) (restores_left_count w p is w.next_op)
  opened_with true false e = absurd (true≢false e)
  opened_with false true e = absurd (true≢false (sym e))

  pub opened_is : (r : ℕ × RestorePlan) → r ≡ (p.next_op, restore_begun uuid place indices) → (new : Plan) → new ≡ record p { restores = put_plan p.restores r.0 r.1; next_op = suc p.next_op }
      → IsPlanOf (restore_opened w uuid place indices) new
  opened_is r r_is new new_is =
      subst (IsPlanOf (restore_opened w uuid place indices))
      (sym (new_is ∙ ap (λ (x : ℕ × RestorePlan). record p { restores = put_plan p.restores x.0 x.1; next_op = suc p.next_op }) (r_is ∙ λ j. (is.next_op j, restore_begun uuid place indices))))
      (opened_with _ _ (any_waits-works place (restore_of uuid place indices).shards))
