-- Which rule refuses a clone, in a world of which the list tells.
use Rattle.std.proofs.Common.{◌≡◌, ℕ, suc, ◌<◌, ◌≤◌, true, false, true≢false, List, [], ◌∷◌, Option, Some, None, option_map, map, take, drop, refl, sym, ap, ◌∙◌, subst, inl, inr}
use Rattle.std.specs.Prelude.{not, nat_lt, ◌||◌}
use Rattle.std.specs.List.{list_any, position}
use Rattle.std.proofs.lemmas.Bool.{cases_lt, and_parts, and_from, not-true, not-false}
use Rattle.std.proofs.lemmas.Bool.Decides.{Decides-ltb}
use Rattle.std.proofs.lemmas.Option.{same_Some, none-some}
use Rattle.esr_names.specs.declared.ids.Id.{Id}
use Rattle.esr_root.specs.declared.indices.RootIndex.{RootIndex as CodeIndex}
use Rattle.esr_model.specs.Values.{Bytes, Has, RootData}
use Rattle.esr_model.specs.Kept.{first_id}
use Rattle.esr_model.specs.Shelf.{names_uuid}
use Rattle.esr_model.specs.Uploads.{same_bytes}
use Rattle.esr_core.specs.World.{World, Op, Deletion}
use Rattle.esr_core.specs.Allowed.{IsListed, HasIndexNamed, HaveIndices, IsFirstMissing, MayName, MayClone}
use Rattle.esr_core.specs.Laws.Tests.{clash}
use Rattle.esr_core.specs.Laws.DeleteRoots.{has_names, names_has}
use Rattle.esr_formats.specs.Ids.{number_of}
use Rattle.esr_formats.specs.Roots.{root_index_of}
use Rattle.esr_ops.specs.declared.refusal.Refusal.{Refusal}
use Rattle.esr_ops.specs.Plan.{Plan, RestorePlan, IsAskedIn, TicketMaps}
use Rattle.esr_ops.specs.Inside.{plan_with, IsProgress}
use Rattle.esr_accept.specs.Asking.{open_cleanup, snap_uuid, op_uuid, name_user, deleting, is_index_of, lacks_index, name_refusal, source_refusal}
use Rattle.esr_accept.specs.Accepting.{IsCloneRefused}
use Rattle.esr_ops.specs.Lists.{position-None}
use Rattle.esr_ops.specs.Tests.{any_true, any_here, first_place, place_within}
use Rattle.esr_accept.proofs.Accepts.{IsListed as AreListed, cleanup_there, no_cleanup, user_there, unused}
use Rattle.esr_accept.proofs.DeleteRules.{parts_at}
use Rattle.esr_accept.proofs.Finds.{same_true, same_one, either_some}
use Rattle.esr_accept.proofs.Restorables.{is_listed, not_listed, being_deleted, is_spared}

-- ---- uuids of an index

-- the test over the indices of the code
pub index-any : (indices : List CodeIndex) (uuid : ℕ) (name : Bytes) → list_any (is_index_of uuid name) (map root_index_of indices) ≡ list_any (λ (x : CodeIndex). is_index_of uuid name (root_index_of x)) indices
index-any [] uuid name = refl
index-any (x ∷ indices) uuid name = ap (λ b. is_index_of uuid name (root_index_of x) || b) (index-any indices uuid name)

not_less : (a b : ℕ) → not (nat_lt a b) ≡ true → b ≤ a
not_less a b e = elim (cases_lt a b) [ inl lt ↦ absurd (true≢false (sym e ∙ ap not ((Decides-ltb _ _).1 lt))) | inr le ↦ le ]

is_less : (a b : ℕ) → not (nat_lt a b) ≡ false → a < b
is_less a b e = (Decides-ltb _ _).0 (not-false _ e)

-- ---- the indices of its source

module _ (w : World) (root : RootData) (root_is : w.root ≡ root) (uuid : ℕ) where
  index_there : (name : Bytes) → lacks_index root.indices uuid name ≡ false → HasIndexNamed w uuid name
  index_there name e =
      let (x, m, hit) = any_true (is_index_of uuid name) root.indices (not-false _ e) in
      let (same, has) = and_parts (same_bytes x.name name) (names_uuid x.snapshots uuid) hit in
      (x, subst (λ (r : RootData). Has r.indices x) (sym root_is) m, same_true x.name name same, names_has x.snapshots uuid has)

  index_missing : (name : Bytes) → lacks_index root.indices uuid name ≡ true → HasIndexNamed w uuid name → ⊥
  index_missing name e (x, m, name_is, has) =
      let same : same_bytes x.name name ≡ true = elim (same_one x.name name) [ inl t ↦ t.0 | inr f ↦ absurd (f.1 name_is) ] in
      clash (list_any (is_index_of uuid name) root.indices)
      (any_here (is_index_of uuid name) root.indices x (subst (λ (r : RootData). Has r.indices x) root_is m) (and_from (same_bytes x.name name) (names_uuid x.snapshots uuid) same (has_names x.snapshots uuid has))) (not-true _ e)

  all_there : (names : List Bytes) → position (lacks_index root.indices uuid) names ≡ None → HaveIndices w uuid names
  all_there names e name m = index_there name (position-None (lacks_index root.indices uuid) names e name m)

  first_lacking : (names : List Bytes) (i : ℕ) → position (lacks_index root.indices uuid) names ≡ Some i → IsFirstMissing w uuid names i
  first_lacking names i e =
      let (name, there) = (place_within (lacks_index root.indices uuid) names i e).1 in
      let (here, before) = first_place (lacks_index root.indices uuid) names i name e there in
      let (are, place) = parts_at names i name there in
      record {
        front = take i names;
        name = name;
        back = drop (suc i) names;
        is = are;
        place_is = place;
        before = λ other m. index_there other (before other m);
        missing = index_missing name here;
      }

-- ---- the rules

module _ (ops : List (ℕ × Op)) (deletes : List (ℕ × Deletion)) (p : Plan) (root : RootData) (term next : ℕ) (h : AreListed ops deletes p) (w : World) (is : IsAskedIn p root term next w) where
  module _ (source name : Bytes) (names : List Bytes) where
    pub name_refused : (cleanup : Option ℕ) (user : Option Id) → cleanup ≡ open_cleanup deletes → option_map number_of user ≡ name_user root ops name → (r : Refusal) → Some r ≡ name_refusal cleanup user
        → IsCloneRefused w source name names r
    name_refused (Some op) user a b r e = subst (IsCloneRefused w source name names) (sym (same_Some _ _ e)) (cleanup_there ops deletes p root term next h w is op (sym a))
    name_refused None (Some uuid) a b r e =
        subst (IsCloneRefused w source name names) (sym (same_Some _ _ e))
        (no_cleanup ops deletes p root term next h w is (sym a), user_there ops deletes p root term next h w is name uuid.number (either_some (snap_uuid root.snapshots name) (op_uuid ops name) uuid.number (sym b)))
    name_refused None None a b r e = absurd (none-some r (sym e))

  pub may_name : (name : Bytes) (cleanup : Option ℕ) (user : Option Id) → cleanup ≡ open_cleanup deletes → option_map number_of user ≡ name_user root ops name → ◌≡◌ {A = Option Refusal} None (name_refusal cleanup user)
      → MayName w name
  may_name name None None a b e = record { no_cleanup = no_cleanup ops deletes p root term next h w is (sym a); unused = unused ops deletes p root term next h w is name (sym b) }
  may_name name cleanup user a b e = absurd (none-some _ e)

  pub source_listed : (source : Bytes) (found : Option Id) → option_map number_of found ≡ snap_uuid root.snapshots source → (uuid : Id) → found ≡ Some uuid → IsListed w source uuid.number
  source_listed source found found_is uuid e = is_listed w root is.root_is source uuid.number (sym found_is ∙ ap (option_map number_of) e)

  pub source_unlisted : (source : Bytes) (found : Option Id) → option_map number_of found ≡ snap_uuid root.snapshots source → found ≡ None → (uuid : ℕ) → IsListed w source uuid → ⊥
  source_unlisted source found found_is e = not_listed w root is.root_is source (sym found_is ∙ ap (option_map number_of) e)

  pub ids_spent : not (nat_lt (suc next) (first_id (suc term))) ≡ true → first_id (suc w.term) ≤ suc w.next_id
  ids_spent e = subst (λ (n : ℕ). first_id (suc w.term) ≤ suc n) (sym is.next_is) (subst (λ (t : ℕ). first_id (suc t) ≤ suc next) (sym is.term_is) (not_less _ _ e))

  pub id_left : not (nat_lt (suc next) (first_id (suc term))) ≡ false → suc w.next_id < first_id (suc w.term)
  id_left e = subst (λ (n : ℕ). suc n < first_id (suc w.term)) (sym is.next_is) (subst (λ (t : ℕ). suc next < first_id (suc t)) (sym is.term_is) (is_less _ _ e))

module _ (ops : List (ℕ × Op)) (deletes : List (ℕ × Deletion)) (completed : List ℕ) (seats : TicketMaps) (next_op : ℕ) (restores : List (ℕ × RestorePlan)) (p : Plan) (view : plan_with ops deletes completed seats next_op restores ≡ p)
    (h : IsProgress ops deletes next_op restores) (root : RootData) (term next : ℕ) (w : World) (is : IsAskedIn p root term next w)
    (source name : Bytes) (names : List Bytes) (may : MayName w name) (uuid : ℕ) (there : IsListed w source uuid) where
  pub source_refused : (doomed missing : Option ℕ) → doomed ≡ deleting deletes uuid → missing ≡ position (lacks_index root.indices uuid) names → (r : Refusal) → Some r ≡ source_refusal doomed missing
      → IsCloneRefused w source name names r
  source_refused (Some d) missing a b r e =
      subst (IsCloneRefused w source name names) (sym (same_Some _ _ e)) (may, (uuid, there, being_deleted ops deletes completed seats next_op restores p view h w is.plan uuid d (sym a)))
  source_refused None (Some i) a b r e =
      subst (IsCloneRefused w source name names) (sym (same_Some _ _ e))
      (uuid, record { named = may; listed = there; spared = is_spared ops deletes completed seats next_op restores p view h w is.plan uuid (sym a) }, first_lacking w root is.root_is uuid names i (sym b))
  source_refused None None a b r e = absurd (none-some r (sym e))

  pub may_clone : (doomed missing : Option ℕ) → doomed ≡ deleting deletes uuid → missing ≡ position (lacks_index root.indices uuid) names → ◌≡◌ {A = Option Refusal} None (source_refusal doomed missing)
      → MayClone w source name names uuid
  may_clone None None a b e = record {
    copies = record { named = may; listed = there; spared = is_spared ops deletes completed seats next_op restores p view h w is.plan uuid (sym a) };
    there = all_there w root is.root_is uuid names (sym b);
  }
  may_clone doomed missing a b e = absurd (none-some _ e)
