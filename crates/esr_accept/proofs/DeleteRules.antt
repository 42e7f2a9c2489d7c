-- What asking for a delete answers, in a world of which the list tells.
use Rattle.std.proofs.Common.{◌≡◌, ℕ, zero, suc, ◌+◌, ◌<◌, Bool, true, false, ◌&&◌, cond, List, [], ◌∷◌, ◌++◌, Option, Some, None, option_map, length, take, drop, refl, sym, ap, ◌∙◌, subst, inl, inr, true≢false, arith, nat_cmp, slice_get}
use Rattle.std.specs.Prelude.{not, is_some, nat_lt}
use Rattle.std.specs.List.{position, filter}
use Rattle.std.specs.FinMap as fin
use Rattle.std.proofs.lemmas.Bool.{cases_lt, true_from_ne_false, and_parts}
use Rattle.std.proofs.lemmas.Bool.Decides.{Decides-ltb}
use Rattle.std.proofs.lemmas.Option.{same_Some, none-some}
use Rattle.esr_model.specs.Lists.{Has-map}
use Rattle.esr_model.specs.Values.{Bytes, Has, RootData}
use Rattle.esr_model.specs.Shelf.{names_uuid}
use Rattle.esr_core.specs.World.{World, Op, Deletion, Restoring}
use Rattle.esr_core.specs.Allowed.{open_count, AreNamed, IsFirstUnused, Copies, ReadsOne, IsLowest, MayDelete, AcceptsDelete}
use Rattle.esr_core.specs.Deletes.{named_uuids, is_listed_uuid, name_the_same, waits_for_ticket, runs_for, first_delete, waiting_delete, running_delete, number_by, delete_number, delete_by, delete_opened, delete_merged, asked_delete}
use Rattle.esr_core.specs.Deletes as core
use Rattle.esr_core.specs.Laws.Maps.{entry_got}
use Rattle.esr_ops.specs.declared.refusal.Refusal.TheVariants as refusals
use Rattle.esr_ops.specs.Plan.{Plan, RestorePlan, restore_plan, IsPlanOf, IsAskedIn, TicketMaps}
use Rattle.esr_ops.specs.Inside.{plan_with, numbers_of, Rise, IsProgress}
use Rattle.esr_accept.specs.Asking.{snap_uuid, op_uuid, open_cleanup, name_user}
use Rattle.esr_accept.specs.AskedDeletes.{is_unused, uuids_named, copies, copying, reading, rule_on, is_taken, waits_in, runs_in, is_joined}
use Rattle.esr_accept.specs.Accepting.{IsDeleteRefused, IsRuledOn}
use Rattle.esr_ops.specs.Entries.{get_from, find-member}
use Rattle.esr_ops.specs.Lists.{position-None}
use Rattle.esr_ops.specs.Numbers.{entries_from, found_member}
use Rattle.esr_progress.specs.Plans.{restore_of_plan}
use Rattle.esr_ops.specs.Tests.{first_place, place_within}
use Rattle.esr_accept.proofs.NamedUuids.{with_named-is}
use Rattle.esr_accept.proofs.Accepts.{IsListed, listed, count, user_there, unused, op_there, op_listed, cleanup_there, no_cleanup}
use Rattle.esr_accept.proofs.DeleteTickets.{taken_is, and_apart}
use Rattle.esr_accept.proofs.Finds.{either_some, missed, found}

-- ---- the first of a list

-- the place at which something stands parts the list
pub parts_at : {A : Type 0} (xs : List A) (i : ℕ) (x : A) → slice_get xs i ≡ Some x → (xs ≡ take i xs ++ x ∷ drop (suc i) xs) × (i ≡ length (take i xs))
parts_at [] i x e = absurd (none-some x e)
parts_at (y ∷ ys) zero x e = (ap (λ z. z ∷ ys) (same_Some y x e), refl)
parts_at (y ∷ ys) (suc i) x e = let (are, place) = parts_at ys i x e in (ap (λ zs. y ∷ zs) are, ap suc place)

module _ {A : Type 0} (f : List (ℕ × A) → Option ℕ) (t : ℕ × A → Bool) (cons : (x : ℕ × A) (xs : List (ℕ × A)) → f (x ∷ xs) ≡ cond (t x) (Some x.0) (f xs)) where
  lower_by : (x : ℕ × A) (xs : List (ℕ × A)) → Rise (numbers_of (x ∷ xs)) → (d : ℕ) (y : ℕ × A) → y.0 < d → (b : Bool) → t x ≡ b → cond b (Some x.0) (f xs) ≡ Some d → (f xs ≡ Some d → Has xs y → t y ≡ false)
      → Has (x ∷ xs) y → t y ≡ false
  lower_by x xs r d y lt true is e rest (inl same) = absurd (omega (arith, same_Some x.0 d e, ap (λ (z : ℕ × A). z.0) same))
  lower_by x xs r d y lt true is e rest (inr later) = let above : x.0 < y.0 = r.0 y.0 (Has-map (λ (z : ℕ × A). z.0) xs y later) in absurd (omega (arith, same_Some x.0 d e))
  lower_by x xs r d y lt false is e rest (inl same) = ap t (sym same) ∙ is
  lower_by x xs r d y lt false is e rest (inr later) = rest e later

  -- no entry of a lower number than the first that passes does
  none_lower : (xs : List (ℕ × A)) → Rise (numbers_of xs) → (d : ℕ) → f xs ≡ Some d → (y : ℕ × A) → Has xs y → y.0 < d → t y ≡ false
  none_lower [] r d e y m lt = absurd m
  none_lower (x ∷ xs) r d e y m lt = lower_by x xs r d y lt (t x) refl (sym (cons x xs) ∙ e) (λ is later. none_lower xs r.1 d is y later lt) m

first_same : (f g : ℕ × Deletion → Bool) → ((e : ℕ × Deletion) → f e ≡ g e) → (deletes : List (ℕ × Deletion)) → first_delete f deletes ≡ first_delete g deletes
first_same f g same [] = refl
first_same f g same (e ∷ deletes) = λ j. cond (same e j) (Some e.0) (first_same f g same deletes j)

clean_copies : (uuids : List ℕ) (o : Option ℕ) → copies uuids o ≡ true → (source : ℕ) × (o ≡ Some source) × (names_uuid uuids source ≡ true)
clean_copies uuids None e = absurd (true≢false (sym e))
clean_copies uuids (Some source) e = (source, refl, e)

someone : (o : Option ℕ) → not (is_some o) ≡ false → (uuid : ℕ) × (o ≡ Some uuid)
someone None e = absurd (true≢false e)
someone (Some uuid) e = (uuid, refl)

nobody : (o : Option ℕ) → not (is_some o) ≡ true → o ≡ None
nobody None e = refl
nobody (Some uuid) e = absurd (true≢false (sym e))

-- ---- the rules

module _ (ops : List (ℕ × Op)) (deletes : List (ℕ × Deletion)) (completed : List ℕ) (seats : TicketMaps) (next : ℕ)
    (restores : List (ℕ × RestorePlan)) (p : Plan) (view : plan_with ops deletes completed seats next restores ≡ p) (h : IsProgress ops deletes next restores)
    (w : World) (is : IsPlanOf w p) where
  lists : IsListed ops deletes p
  lists = listed ops deletes completed seats next restores p h view

  asked : IsAskedIn p w.root w.term w.next_id w
  asked = record { plan = is; root_is = refl; term_is = refl; next_is = refl }

  ops_entries : fin.entries w.ops ≡ ops
  ops_entries = ap fin.entries (sym is.ops ∙ lists.ops_are) ∙ entries_from ops h.ops_numbered.rise

  deletes_entries : fin.entries w.deletes ≡ deletes
  deletes_entries = ap fin.entries (sym is.deletes ∙ lists.deletes_are) ∙ entries_from deletes h.deletes_numbered.rise

  pub count_is : open_count w ≡ length ops + length deletes
  count_is = count ops deletes p w.root w.term w.next_id lists w asked

  restore_found : (o : ℕ) → fin.get p.restores o ≡ fin.find nat_cmp o restores
  restore_found o = ap (λ (q : Plan). fin.get q.restores o) (sym view) ∙ get_from restores o

  restore_listed : (o : ℕ) (r : Restoring) → fin.get w.restores o ≡ Some r → Has restores (o, restore_plan r)
  restore_listed o r e = find-member o restores (restore_plan r) (sym (restore_found o) ∙ is.restores o ∙ ap (option_map restore_plan) e)

  -- ---- the uuids that are named

  pub named_is : (root : RootData) → w.root ≡ root → (names : List Bytes) (uuids : List ℕ) → uuids ≡ uuids_named root ops [] names → uuids ≡ named_uuids w names
  named_is root root_is names uuids e = e ∙ sym (with_named-is w root root_is ops ops_entries [] names)

  -- ---- the names
  module _ (names : List Bytes) where
    are_named : ((name : Bytes) → Has names name → is_unused w.root ops name ≡ false) → AreNamed w names
    are_named each name m =
        let (uuid, is_it) = someone (name_user w.root ops name) (each name m) in
        (uuid, user_there ops deletes p w.root w.term w.next_id lists w asked name uuid (either_some (snap_uuid w.root.snapshots name) (op_uuid ops name) uuid is_it))

  module _ (names : List Bytes) where
    all_named : position (is_unused w.root ops) names ≡ None → AreNamed w names
    all_named e = are_named names (position-None (is_unused w.root ops) names e)

    first_unnamed : (i : ℕ) → position (is_unused w.root ops) names ≡ Some i → IsFirstUnused w names i
    first_unnamed i e =
        let (name, there) = (place_within (is_unused w.root ops) names i e).1 in
        let (here, before) = first_place (is_unused w.root ops) names i name e there in
        let (are, place) = parts_at names i name there in
        record {
          front = take i names;
          name = name;
          back = drop (suc i) names;
          is = are;
          place_is = place;
          before = are_named (take i names) before;
          unused = unused ops deletes p w.root w.term w.next_id lists w asked name (nobody (name_user w.root ops name) here);
        }

  -- ---- clones and restores
  module _ (uuids : List ℕ) where
    copies_one : (e : ℕ × Op) → Has ops e → copies uuids e.1.source ≡ true → Copies w uuids e.0
    copies_one e m hit =
        let (source, source_is, named) = clean_copies uuids e.1.source hit in
        record { op = e.1; there = op_there ops deletes p w.root w.term w.next_id lists w asked e m; source = source; source_is = source_is; names = named }

    one_copies : (o : ℕ) → Copies w uuids o → (op : Op) × Has ops (o, op) × (copies uuids op.source ≡ true)
    one_copies o c = (c.op, op_listed ops deletes p w.root w.term w.next_id lists w asked o c.op c.there, ap (copies uuids) c.source_is ∙ c.names)

    no_clone : copying ops uuids ≡ None → (o : ℕ) → Copies w uuids o → ⊥
    no_clone e o c =
        let (op, m, hit) = one_copies o c in
        true≢false (sym hit ∙ missed (λ (xs : List (ℕ × Op)). copying xs uuids) (λ (x : ℕ × Op). copies uuids x.1.source) (λ (x : ℕ × Op). x.0) refl (λ x xs. refl) ops (o, op) e m)

    lowest_clone : (o : ℕ) → copying ops uuids ≡ Some o → IsLowest (Copies w uuids) o
    lowest_clone o e =
        let r = found (λ (xs : List (ℕ × Op)). copying xs uuids) (λ (x : ℕ × Op). copies uuids x.1.source) (λ (x : ℕ × Op). x.0) refl (λ x xs. refl) ops o e in (
          subst (Copies w uuids) r.value (copies_one r.x r.there r.hit),
          λ q lt c.
              let (op, m, hit) = one_copies q c in
              true≢false (sym hit ∙ none_lower (λ (xs : List (ℕ × Op)). copying xs uuids) (λ (x : ℕ × Op). copies uuids x.1.source) (λ x xs. refl) ops h.ops_numbered.rise o e (q, op) m lt),
        )

    reads_one : (e : ℕ × RestorePlan) → Has restores e → names_uuid uuids e.1.uuid ≡ true → ReadsOne w uuids e.0
    reads_one e m hit =
        let (r, there, same) = restore_of_plan w p is e.0 e.1 (restore_found e.0 ∙ found_member restores h.restores_numbered.rise e m) in
        record { r = r; there = there; names = ap (λ (x : RestorePlan). names_uuid uuids x.uuid) same ∙ hit }

    no_reader : reading restores uuids ≡ None → (o : ℕ) → ReadsOne w uuids o → ⊥
    no_reader e o c =
        true≢false (sym c.names ∙ missed (λ (xs : List (ℕ × RestorePlan)). reading xs uuids) (λ (x : ℕ × RestorePlan). names_uuid uuids x.1.uuid)
        (λ (x : ℕ × RestorePlan). x.0) refl (λ x xs. refl) restores (o, restore_plan c.r) e (restore_listed o c.r c.there))

    lowest_reader : (o : ℕ) → reading restores uuids ≡ Some o → IsLowest (ReadsOne w uuids) o
    lowest_reader o e =
        let r = found (λ (xs : List (ℕ × RestorePlan)). reading xs uuids) (λ (x : ℕ × RestorePlan). names_uuid uuids x.1.uuid) (λ (x : ℕ × RestorePlan). x.0) refl (λ x xs. refl) restores o e in (
          subst (ReadsOne w uuids) r.value (reads_one r.x r.there r.hit),
          λ q lt c.
              true≢false (sym c.names ∙ none_lower (λ (xs : List (ℕ × RestorePlan)). reading xs uuids) (λ (x : ℕ × RestorePlan). names_uuid uuids x.1.uuid)
              (λ x xs. refl) restores h.restores_numbered.rise o e (q, restore_plan c.r) (restore_listed q c.r c.there) lt),
        )

  -- ---- the first rule
  module _ (names : List Bytes) where
    ruled_by : (cleanup place clone restore : Option ℕ) → open_cleanup deletes ≡ cleanup → position (is_unused w.root ops) names ≡ place → copying ops (named_uuids w names) ≡ clone → reading restores (named_uuids w names) ≡ restore
        → IsRuledOn w names (rule_on cleanup place clone restore)
    ruled_by (Some d) place clone restore a b c e = cleanup_there ops deletes p w.root w.term w.next_id lists w asked d a
    ruled_by None (Some i) clone restore a b c e = (no_cleanup ops deletes p w.root w.term w.next_id lists w asked a, first_unnamed names i b)
    ruled_by None None (Some o) restore a b c e = (no_cleanup ops deletes p w.root w.term w.next_id lists w asked a, all_named names b, lowest_clone (named_uuids w names) o c)
    ruled_by None None None (Some o) a b c e = (no_cleanup ops deletes p w.root w.term w.next_id lists w asked a, all_named names b, no_clone (named_uuids w names) c, lowest_reader (named_uuids w names) o e)
    ruled_by None None None None a b c e =
        record { no_cleanup = no_cleanup ops deletes p w.root w.term w.next_id lists w asked a; named = all_named names b; no_clone = no_clone (named_uuids w names) c; no_restore = no_reader (named_uuids w names) e }

    pub ruled : (root : RootData) → w.root ≡ root → (uuids : List ℕ) → uuids ≡ named_uuids w names
        → IsRuledOn w names (rule_on (open_cleanup deletes) (position (is_unused root ops) names) (copying ops uuids) (reading restores uuids))
    ruled root root_is uuids named =
        ruled_by (open_cleanup deletes) (position (is_unused root ops) names) (copying ops uuids) (reading restores uuids)
        refl (λ j. position (is_unused (root_is j) ops) names) (λ j. copying ops (sym named j)) (λ j. reading restores (sym named j))

  -- ---- the delete that it goes into
  module _ (term : ℕ) (term_is : w.term ≡ term) where
    taken_so : (o : ℕ) → core.is_taken w o ≡ is_taken seats term o
    taken_so o = taken_is ops deletes completed seats next restores p view h term w is term_is o

    pub waiting_is : waiting_delete w ≡ first_delete (waits_in seats term) deletes
    waiting_is = ap (first_delete (waits_for_ticket w)) deletes_entries ∙ first_same (waits_for_ticket w) (waits_in seats term) (λ e. ap (λ b. not e.1.failed && not b) (taken_so e.0)) deletes

    pub running_is : (root : RootData) → w.root ≡ root → (uuids : List ℕ) → running_delete w uuids ≡ first_delete (runs_in root.snapshots seats term uuids) deletes
    running_is root root_is uuids =
        ap (first_delete (runs_for w uuids)) deletes_entries
        ∙ first_same (runs_for w uuids) (runs_in root.snapshots seats term uuids)
        (λ e.
        (λ j. not e.1.failed && (taken_so e.0 j && name_the_same (filter (is_listed_uuid (root_is j).snapshots) e.1.uuids) uuids))
        ∙ sym (and_apart (not e.1.failed) (is_taken seats term e.0) (name_the_same (filter (is_listed_uuid root.snapshots) e.1.uuids) uuids))) deletes

-- ---- what is answered

-- the delete that waits is open
pub waiting_there : (w : World) (d : ℕ) → waiting_delete w ≡ Some d → is_some (fin.get w.deletes d) ≡ true
waiting_there w d e =
    let r = found (first_delete (waits_for_ticket w)) (waits_for_ticket w) (λ (x : ℕ × Deletion). x.0) refl (λ x xs. refl) (fin.entries w.deletes) d e in
    ap (λ (k : ℕ). is_some (fin.get w.deletes k)) (sym r.value) ∙ ap is_some (entry_got w.deletes r.x.0 r.x.1 r.there)

module _ (w : World) (names : List Bytes) (p : Plan) where
  pub merged_asked : (d : ℕ) → waiting_delete w ≡ Some d → IsPlanOf (delete_merged w names d (fin.get w.deletes d)) p → IsPlanOf (asked_delete w names) p
  merged_asked d e is = subst (λ (o : Option ℕ). IsPlanOf (delete_by w names o (running_delete w (named_uuids w names))) p) (sym e) is

  joined_by : (o : Option ℕ) → is_some o ≡ true → IsPlanOf w p → IsPlanOf (delete_by w names None o) p
  joined_by None some is = absurd (true≢false (sym some))
  joined_by (Some d) some is = is

  pub joined_asked : waiting_delete w ≡ None → is_some (running_delete w (named_uuids w names)) ≡ true → IsPlanOf w p → IsPlanOf (asked_delete w names) p
  joined_asked none some is = subst (λ (o : Option ℕ). IsPlanOf (delete_by w names o (running_delete w (named_uuids w names))) p) (sym none) (joined_by (running_delete w (named_uuids w names)) some is)

  opened_by : (o : Option ℕ) → is_some o ≡ false → IsPlanOf (delete_opened w (named_uuids w names)) p → IsPlanOf (delete_by w names None o) p
  opened_by None none is = is
  opened_by (Some d) none is = absurd (true≢false none)

  pub opened_asked : waiting_delete w ≡ None → is_some (running_delete w (named_uuids w names)) ≡ false → IsPlanOf (delete_opened w (named_uuids w names)) p → IsPlanOf (asked_delete w names) p
  opened_asked none no_other is = subst (λ (o : Option ℕ). IsPlanOf (delete_by w names o (running_delete w (named_uuids w names))) p) (sym none) (opened_by (running_delete w (named_uuids w names)) no_other is)

neither : (a b : Option ℕ) → not (is_joined a b) ≡ true → (a ≡ None) × (b ≡ None)
neither None None e = (refl, refl)
neither a b e = absurd (true≢false (sym e))

one_of : (a b : Option ℕ) (n : ℕ) → (not (is_joined a b) && not (nat_lt n 1000)) ≡ false → a ≡ None → b ≡ None → n < 1000
one_of None None n e first second = (Decides-ltb n 1000).0 (true_from_ne_false (nat_lt n 1000) (λ past. true≢false (sym (ap not past) ∙ e)))
one_of None (Some d) n e first second = absurd (none-some d (sym second))
one_of (Some d) b n e first second = absurd (none-some d (sym first))

module _ (w : World) (names : List Bytes) (uuids : List ℕ) (named : uuids ≡ named_uuids w names) (waiting running : Option ℕ) (waits : waiting ≡ waiting_delete w) (runs : running ≡ running_delete w uuids) where
  runs_named : running ≡ running_delete w (named_uuids w names)
  runs_named = runs ∙ ap (running_delete w) named

  pub full_refused : MayDelete w names → (not (is_joined waiting running) && not (nat_lt (open_count w) 1000)) ≡ true → IsDeleteRefused w names (refusals.TooMany 1000)
  full_refused may e =
      let (apart, full) = and_parts (not (is_joined waiting running)) (not (nat_lt (open_count w) 1000)) e in
      let (no_waiting, no_running) = neither waiting running apart in (
        refl,
        may,
        (sym waits ∙ no_waiting, sym runs_named ∙ no_running),
        elim (cases_lt (open_count w) 1000) [ inl lt ↦ absurd (true≢false (sym full ∙ ap not ((Decides-ltb _ _).1 lt))) | inr le ↦ le ],
      )

  pub accepts : MayDelete w names → (not (is_joined waiting running) && not (nat_lt (open_count w) 1000)) ≡ false → AcceptsDelete w names
  accepts may e = record { may = may; room = λ new. one_of waiting running (open_count w) e (waits ∙ new.0) (runs_named ∙ new.1) }

  pub number_is : (next op : ℕ) → next ≡ w.next_op → op ≡ number_by next waiting running → op ≡ delete_number w names
  number_is next op next_is op_is = op_is ∙ (λ j. number_by (next_is j) (waits j) (runs_named j))
