-- Each step keeps the rule.
use Rattle.std.proofs.Common.{◌≡◌, ◌≢◌, ◌⊎◌, ℕ, zero, suc, ◌+◌, ◌%◌, ◌^◌, ◌<◌, ◌≤◌, ltb, List, [], ◌∷◌, ◌++◌, length, set, get_or, Bool, true, false, true≢false, cond, Option, Some, unwrap_or, refl, sym, ap, ◌∙◌, subst, ⊎_elim, inl, inr, arith, length-append, mod-eq_of_lt, le_refl, le-ltb, lt-ltb}
use mathlib.Core.Option.{some, none, some-injective, some-ne-none}
use mathlib.Core.Option as maybe
use mathlib.Core.Logic.{dite}
use native.Mathlib.Decide.{ℕ_discrete, dec_le}
use lib.ListN.{get_elem?}
use Rattle.std.proofs.Math.Nat.{le-max_left, le-max_right}
use Rattle.atomic_table.specs.Table.{State, Me, Act, keeps, takes, gives, step, rest, Valid, homes_after, carried_after, Allows, Splits, Joins, opening, Final, Seen}
use Rattle.atomic_table.proofs.Lists.{set_else, set_again, at_snoc, at_longer}
use Rattle.esr_turns.specs.declared.view.View.{View}
use Rattle.esr_turns.specs.declared.view.Stage.{Stage}
use Rattle.esr_turns.specs.declared.view.Stage.TheVariants.{Idle, Waits, Lifted, Counted}
use Rattle.esr_turns.specs.Places.{times, once_below, places_from, merged}
use Rattle.esr_turns.specs.Histories.{StartsWith}
use Rattle.esr_turns.specs.Tickets.{Together, MayAdd}
use Rattle.esr_turns.specs.Views.{HasTicket, has_value, pending, newcomer, without_share, with_share, both_of, spent}
use Rattle.esr_turns.specs.Rule.{total, Stands, Fits, IsPutBack, AtHome, IsOut, Kept}
use Rattle.esr_turns.specs.Kinds.{after_draw, after_look, after_count, after_serve, HasDrawn, HasLooked, HasCounted, HasServed}
use Rattle.esr_turns.proofs.Sums.{total_set, total_same, total_at, total_le, total_le_at, total_snoc, total_only, total_rest, set_at}
use Rattle.esr_turns.proofs.Places.{times_append, length_places, once_places, times_above, times_none, times_merged, length_merged, rises_merged, rises_es, rises_same, rises_places}
use Rattle.esr_turns.proofs.Histories.{starts_trans, starts_same, starts_length, starts_whole, starts_both, length_longer, longer_starts, shorter_starts}
use Rattle.esr_turns.proofs.Tickets.{tickets_es, mine_es, other_es}
use Rattle.esr_turns.proofs.Views.{now_owner, owner_new, owner_old, idle_has_none, idle_waits_not, ticket_or, views_set, same_view, same_stage, joined_put, holder, has_used, fits_still}

module _ {T E : Type 0} (history_of : T → List E) (of gave : E → Option ℕ) where
  abbrev V : Type 0
  V = View T E

  abbrev M : Type 0
  M = Me (Option T) V

  abbrev St : Type 0
  St = State (Option T) V

  abbrev Rule : St → Type 0
  Rule = Kept history_of of gave

  -- what a step has to show, at the words ws
  abbrev Goes : (s : St) (id : ℕ) (me : M) (i : ℕ) (f : ℕ → ℕ) (then : ℕ → M → Type 0) → List ℕ → Type 0
  Goes s id me i f then ws =
      (w : V) × (a : Act (Option T)) × Valid s.homes me.1 a × Rule record { words = set ws i (f (get_or ws i 0)); homes = homes_after s.homes me.1 a; views = set s.views id w } × then (get_or ws i 0) (w, carried_after me.1 a)

  goes : (s : St) (r : Rule s) (id : ℕ) (me : M) (i : ℕ) (f : ℕ → ℕ) (then : ℕ → M → Type 0) → Goes s id me i f then (r.ticket ∷ r.serving ∷ length r.history ∷ []) → Goes s id me i f then s.words
  goes s r id me i f then h = subst (Goes s id me i f then) (sym r.words) h

  few_tickets : (s : St) (r : Rule s) → r.ticket ≤ 2 ^ 40
  few_tickets s r = let a = r.drawn in let b = r.shares in let c = total_le (λ (v : V). v.used) (λ (v : V). v.left + v.used) s.views (λ v. omega arith) in omega arith

  longest_set : (s : St) (r : Rule s) (id : ℕ) (v w : V) → get_elem? s.views id ≡ some v → w.seen ≡ v.seen → (by : ℕ) × (d : V) × (get_elem? (set s.views id w) by ≡ some d) × (d.seen ≡ r.history)
  longest_set s r id v w at same =
      let was = r.longest in
      dite (ℕ_discrete was.0 id)
      (λ is. (id, w, set_at s.views id v w at, same ∙ ap (λ (y : V). y.seen) (sym (same_view s.views was.0 id was.1 v was.2 at is)) ∙ was.3))
      (λ other. (was.0, was.1, set_else s.views id was.0 w other ∙ was.2, was.3))

  newest_set : (s : St) (r : Rule s) (id : ℕ) (v w : V) → get_elem? s.views id ≡ some v → w.last ≡ v.last → (by : ℕ) × (d : V) × (get_elem? (set s.views id w) by ≡ some d) × (d.last ≡ r.serving + 1)
  newest_set s r id v w at same =
      let was = r.newest in
      dite (ℕ_discrete was.0 id)
      (λ is. (id, w, set_at s.views id v w at, same ∙ ap (λ (y : V). y.last) (sym (same_view s.views was.0 id was.1 v was.2 at is)) ∙ was.3))
      (λ other. (was.0, was.1, set_else s.views id was.0 w other ∙ was.2, was.3))

  pub draws : (slots id : ℕ) (me : M) → me.0.stage ≡ Idle → 0 < me.0.left → Allows Rule slots id me 0 (λ n. (n + 1) % 18446744073709551616) (HasDrawn (step slots 0 1 0 none) me)
  draws slots id me idle some_left s r sized at small =
      let v : V = me.0 in
      let t : ℕ = r.ticket in
      let w : V = after_draw v t in
      let owner : ℕ → ℕ = now_owner r.owner t id in
      let few : t ≤ 1099511627776 = few_tickets s r in
      let mine_was : Fits of gave r.history r.owner r.serving t id v = r.each id v at in
      let ordered : r.serving ≤ t = r.ordered in
      let mine : Fits of gave r.history owner r.serving (t + 1) id w = record {
        begins = mine_was.begins;
        told = mine_was.told;
        stands = (ordered, omega arith, owner_new r.owner t id);
        room = let a = mine_was.room in omega arith;
        below = mine_was.below;
        rises = mine_was.rises;
        together = mine_was.together;
        last = mine_was.last;
        entitled = λ some_put. let a = mine_was.entitled some_put in omega arith;
      } in
      let others : (j : ℕ) (d : V) → j ≢ id → get_elem? s.views j ≡ some d → Fits of gave r.history owner r.serving (t + 1) j d =
      λ j d apart there. fits_still of gave r.history r.owner r.serving t r.history owner r.serving (t + 1) j d (r.each j d there) (starts_same r.history) (le_refl r.serving) (r.each j d there).together
      (λ u has from below own. (from, omega arith, owner_old r.owner t id u (λ e. omega arith) ∙ own)) (λ _. (refl, refl)) in
      goes s r id me 0 (λ n. (n + 1) % 18446744073709551616) (HasDrawn (step slots 0 1 0 none) me) (
        w,
        keeps,
        tt,
        record {
          history = r.history;
          tickets = r.tickets;
          owner = owner;
          ticket = t + 1;
          serving = r.serving;
          words = ap (λ n. n ∷ r.serving ∷ length r.history ∷ []) (mod-eq_of_lt (omega arith));
          ordered = omega arith;
          drawn = let a = total_set (λ (u : V). u.used) s.views id v w at in let b = r.drawn in omega arith;
          shares = let a = total_set (λ (u : V). u.left + u.used) s.views id v w at in let b = r.shares in omega arith;
          counted = total_same (λ (u : V). length u.mine) s.views id v w at refl ∙ r.counted;
          places = λ k. total_same (λ (u : V). times k u.mine) s.views id v w at refl ∙ r.places k;
          longest = longest_set s r id v w at refl;
          newest = newest_set s r id v w at refl;
          each = views_set (Fits of gave r.history owner r.serving (t + 1)) s.views id w mine others;
          waits = λ u from below. dite (ℕ_discrete u t)
              (λ is. (w, subst (λ o. get_elem? (set s.views id w) o ≡ some w) (sym (ap owner is ∙ owner_new r.owner t id)) (set_at s.views id v w at), sym is))
              (λ other. let was = r.waits u from (omega arith) in
              let apart : r.owner u ≢ id = λ e. idle_has_none u was.0.stage (same_stage s.views (r.owner u) id was.0 v was.1 at e ∙ idle) was.2 in
              (was.0, ap (get_elem? (set s.views id w)) (owner_old r.owner t id u other) ∙ (set_else s.views id (r.owner u) w apart ∙ was.1), was.2));
          slot = ⊎_elim
              (λ (h : AtHome history_of r.history r.serving s.homes s.views). inl (h.0, h.1, h.2, views_set (λ _ d. IsPutBack r.serving h.0 d) s.views id w (refl, (h.3 id v at).1) (λ j d _ there. h.3 j d there)))
              (λ (h : IsOut s.homes s.views). inr (h.0, (h.1.0, h.1.1, set_else s.views id h.1.0 w (λ e. true≢false (sym h.1.3 ∙ ap has_value (same_stage s.views h.1.0 id h.1.1 v h.1.2 at e ∙ idle))) ∙ h.1.2, h.1.3)))
              r.slot;
        },
        refl,
      )

  alone : (s : St) (r : Rule s) (id : ℕ) → r.owner r.serving ≡ id → (j : ℕ) (d : V) → j ≢ id → get_elem? s.views j ≡ some d → has_value d.stage ≡ false
  alone s r id own j d apart there = which (has_value d.stage) refl
    where
      which : (b : Bool) → has_value d.stage ≡ b → b ≡ false
      which true e = absurd (apart (sym (holder r.history r.owner r.serving r.ticket j d.seen d.used d.stage (r.each j d there).stands e) ∙ own))
      which false e = refl

  waits_set : (s : St) (r : Rule s) (id : ℕ) (v w : V) → get_elem? s.views id ≡ some v → (from : ℕ) → r.serving ≤ from → ((t : ℕ) → from ≤ t → HasTicket t v.stage → HasTicket t w.stage)
      → (t : ℕ) → from ≤ t → t < r.ticket → (d : V) × (get_elem? (set s.views id w) (r.owner t) ≡ some d) × HasTicket t d.stage
  waits_set s r id v w at start le keeps_it t from below =
      let was = r.waits t (omega arith) below in
      dite (ℕ_discrete (r.owner t) id)
      (λ is. (w, ap (get_elem? (set s.views id w)) is ∙ set_at s.views id v w at, keeps_it t from (subst (HasTicket t) (same_stage s.views (r.owner t) id was.0 v was.1 at is) was.2)))
      (λ other. (was.0, set_else s.views id (r.owner t) w other ∙ was.1, was.2))

  slot_set : (s : St) (r : Rule s) (id : ℕ) (v w : V) → get_elem? s.views id ≡ some v → has_value w.stage ≡ has_value v.stage → w.last ≡ v.last → w.put ≡ v.put
      → AtHome history_of r.history r.serving s.homes (set s.views id w) ⊎ IsOut s.homes (set s.views id w)
  slot_set s r id v w at same same_last same_put = ⊎_elim
      (λ (h : AtHome history_of r.history r.serving s.homes s.views). inl (
        h.0,
        h.1,
        h.2,
        views_set (λ _ d. IsPutBack r.serving h.0 d) s.views id w (same ∙ (h.3 id v at).0, λ e. same_put ∙ (h.3 id v at).1 (sym same_last ∙ e)) (λ j d _ there. h.3 j d there),
      ))
      (λ (h : IsOut s.homes s.views). inr (
        h.0,
        dite (ℕ_discrete h.1.0 id)
            (λ is. (id, w, set_at s.views id v w at, same ∙ ap has_value (sym (same_stage s.views h.1.0 id h.1.1 v h.1.2 at is)) ∙ h.1.3))
            (λ other. (h.1.0, h.1.1, set_else s.views id h.1.0 w other ∙ h.1.2, h.1.3)),
      ))
      r.slot

  standing : (s : St) (r : Rule s) (id : ℕ) (v : V) (stage : Stage) → get_elem? s.views id ≡ some v → v.stage ≡ stage → Stands r.history r.owner r.serving r.ticket id v.seen v.used stage
  standing s r id v stage at is = subst (Stands r.history r.owner r.serving r.ticket id v.seen v.used) is (r.each id v at).stands

  -- who has all turns leaves none to the others
  none_else : (s : St) (r : Rule s) (id : ℕ) (v : V) → get_elem? s.views id ≡ some v → v.left + v.used ≡ 1099511627776 → (j : ℕ) (d : V) → j ≢ id → get_elem? s.views j ≡ some d → d.left + d.used ≡ 0
  none_else s r id v at all = let shares = r.shares in total_rest (λ (u : V). u.left + u.used) s.views id v at (omega arith)

  all_places : (s : St) (r : Rule s) (id : ℕ) (v : V) → get_elem? s.views id ≡ some v → v.left + v.used ≡ 1099511627776 → (k : ℕ) → times k v.mine ≡ once_below k (length r.history)
  all_places s r id v at all k =
      sym (total_only (λ (u : V). times k u.mine) s.views id v at (λ j d apart there. times_none k d.mine (let a = none_else s r id v at all j d apart there in let b = (r.each j d there).room in omega arith))) ∙ r.places k

  -- and has seen all
  sees_all : (s : St) (r : Rule s) (id : ℕ) (v : V) → get_elem? s.views id ≡ some v → v.left + v.used ≡ 1099511627776 → r.history ≡ v.seen
  sees_all s r id v at all =
      let was : Fits of gave r.history r.owner r.serving r.ticket id v = r.each id v at in
      starts_whole r.history v.seen was.begins (dite (dec_le (length r.history) (length v.seen)) (λ le. le)
      (λ gt. let less : length v.seen < length r.history = omega arith in
      let a : once_below (length v.seen) (length r.history) ≡ 1 = ap {B = ℕ} (λ (b : Bool). cond b 1 0) (lt-ltb (length v.seen) (length r.history) less) in
      let b : times (length v.seen) v.mine ≡ 0 = was.below (length v.seen) (le_refl (length v.seen)) in
      let c = all_places s r id v at all (length v.seen) in absurd (omega arith)))

  -- and put in the value that lies there
  put_last : (s : St) (r : Rule s) (id : ℕ) (v : V) → get_elem? s.views id ≡ some v → v.left + v.used ≡ 1099511627776 → (h : AtHome history_of r.history r.serving s.homes s.views) → v.put ≡ Some h.0
  put_last s r id v at all h =
      let was = r.newest in
      dite (ℕ_discrete was.0 id)
      (λ is. (h.3 id v at).1 (ap (λ (y : V). y.last) (sym (same_view s.views was.0 id was.1 v was.2 at is)) ∙ was.3))
      (λ other. absurd (
      let last : was.1.last ≡ r.serving + 1 = was.3 in
      let some_turns : 0 < was.1.left + was.1.used = (r.each was.0 was.1 was.2).entitled (omega arith) in
      let none_left : was.1.left + was.1.used ≡ 0 = none_else s r id v at all was.0 was.1 other was.2 in
      let F : ⊥ = omega arith in F))

  places_once : (k : ℕ) (es : List E) → times k (places_from 0 es) ≡ once_below k (length es)
  places_once k es =
      let a : once_below k (0 + length es) ≡ once_below k 0 + times k (places_from 0 es) = once_places k 0 es in
      let b : once_below k 0 ≡ 0 = ap {B = ℕ} (λ (b : Bool). cond b 1 0) (le-ltb k 0 (omega arith)) in
      let c : once_below k (0 + length es) ≡ once_below k (length es) = ap (once_below k) (omega arith) in
      omega arith

  abbrev LooksAt : ℕ → St → ℕ → M → ℕ → ℕ → ℕ → Type 0
  LooksAt slots s id me ticket serving count = Goes s id me 1 (λ n. n) (HasLooked history_of of gave (step slots 1 0 0 none) me) (ticket ∷ serving ∷ count ∷ [])

  looks_other : (slots id : ℕ) (me : M) (t : ℕ) → me.0.stage ≡ Waits t → (s : St) (r : Rule s) → get_elem? s.views id ≡ some me.0 → r.serving ≢ t → LooksAt slots s id me r.ticket r.serving (length r.history)
  looks_other slots id me t is s r at not = (
    me.0,
    keeps,
    tt,
    subst (λ (x : List ℕ × List V). Rule record { words = x.0; homes = s.homes; views = x.1 }) (λ i. (r.words i, sym (set_again s.views id me.0 at) i)) r,
    ((λ u has. ((λ e. absurd (not (e ∙ ap ticket_or (sym has ∙ is)))), λ _. refl)), λ idle. absurd (idle_waits_not t me.0.stage is idle)),
  )

  looks_out : (slots id : ℕ) (me : M) (t : ℕ) → me.0.stage ≡ Waits t → (s : St) (r : Rule s) → get_elem? s.views id ≡ some me.0 → r.serving ≡ t → IsOut s.homes s.views → ⊥
  looks_out slots id me t is s r at turn h =
      let theirs = holder r.history r.owner r.serving r.ticket h.1.0 h.1.1.seen h.1.1.used h.1.1.stage (r.each h.1.0 h.1.1 h.1.2).stands h.1.3 in
      let mine = standing s r id me.0 (Waits t) at is in
      let same : h.1.0 ≡ id = sym theirs ∙ ap r.owner turn ∙ mine.2 in
      true≢false (sym h.1.3 ∙ ap has_value (same_stage s.views h.1.0 id h.1.1 me.0 h.1.2 at same ∙ is))

  looks_home : (slots id : ℕ) (me : M) (t : ℕ) → me.0.stage ≡ Waits t → (s : St) (r : Rule s) → get_elem? s.views id ≡ some me.0 → r.serving ≡ t → AtHome history_of r.history r.serving s.homes s.views
      → LooksAt slots s id me r.ticket r.serving (length r.history)
  looks_home slots id me t is s r at turn h =
      let v : V = me.0 in
      let x : T = h.0 in
      let w : V = after_look v t (history_of x) in
      let was : Fits of gave r.history r.owner r.serving r.ticket id v = r.each id v at in
      let stood = standing s r id v (Waits t) at is in
      let own : r.owner r.serving ≡ id = ap r.owner turn ∙ stood.2 in
      let mine : Fits of gave r.history r.owner r.serving r.ticket id w = record {
        begins = subst (λ l. StartsWith r.history l) (sym h.2) (starts_same r.history);
        told = was.told;
        stands = (sym turn, stood.1, stood.2, h.2);
        room = subst (λ (z : Stage). length v.mine + pending z ≤ v.used) is was.room;
        below = λ k le. was.below k (let a = starts_length r.history v.seen was.begins in let b : length (history_of x) ≡ length r.history = ap length h.2 in omega arith);
        rises = was.rises;
        together = was.together;
        last = was.last;
        entitled = was.entitled;
      } in (
        w,
        takes 0 (Some x),
        ap (λ (l : List (maybe.Option (Option T))). get_elem? l 0) h.1,
        record {
          history = r.history;
          tickets = r.tickets;
          owner = r.owner;
          ticket = r.ticket;
          serving = r.serving;
          words = refl;
          ordered = r.ordered;
          drawn = total_same (λ (u : V). u.used) s.views id v w at refl ∙ r.drawn;
          shares = total_same (λ (u : V). u.left + u.used) s.views id v w at refl ∙ r.shares;
          counted = total_same (λ (u : V). length u.mine) s.views id v w at refl ∙ r.counted;
          places = λ k. total_same (λ (u : V). times k u.mine) s.views id v w at refl ∙ r.places k;
          longest = (id, w, set_at s.views id v w at, h.2);
          newest = newest_set s r id v w at refl;
          each = views_set (Fits of gave r.history r.owner r.serving r.ticket) s.views id w mine (λ j d _ there. r.each j d there);
          waits = waits_set s r id v w at r.serving (le_refl r.serving) (λ u _ has. subst (HasTicket u) is has);
          slot = inr (ap (λ (l : List (maybe.Option (Option T))). set l 0 none) h.1, (id, w, set_at s.views id v w at, refl));
        },
        (
          (λ u has. let same : t ≡ u = ap ticket_or (sym is ∙ has) in (
            (λ e. (
              x,
              ap (λ (y : ℕ). (after_look v y (history_of x), (0, Some x) ∷ me.1)) same,
              subst (λ l. StartsWith l v.seen) (sym h.2) was.begins,
              subst (λ l. Together of gave l v.mine) (sym h.2) was.together,
              (λ all. (h.2 ∙ sees_all s r id v at all, put_last s r id v at all h)),
              (let a = was.last in omega arith),
            )),
            λ not. absurd (not (turn ∙ same)),
          )),
          λ idle. absurd (idle_waits_not t me.0.stage is idle),
        ),
      )

  pub looks : (slots id : ℕ) (me : M) (t : ℕ) → me.0.stage ≡ Waits t → Allows Rule slots id me 1 (λ n. n) (HasLooked history_of of gave (step slots 1 0 0 none) me)
  looks slots id me t is s r sized at small = goes s r id me 1 (λ n. n) (HasLooked history_of of gave (step slots 1 0 0 none) me) (dite (ℕ_discrete r.serving t)
      (λ turn. ⊎_elim (looks_home slots id me t is s r at turn) (λ h. absurd (looks_out slots id me t is s r at turn h)) r.slot)
      (looks_other slots id me t is s r at))

  not_home : (s : St) (r : Rule s) (id : ℕ) (v : V) → get_elem? s.views id ≡ some v → has_value v.stage ≡ true → s.homes ≡ none ∷ []
  not_home s r id v at has = ⊎_elim (λ (h : AtHome history_of r.history r.serving s.homes s.views). absurd (true≢false (sym has ∙ (h.3 id v at).0))) (λ (h : IsOut s.homes s.views). h.0) r.slot

  few_entries : (s : St) (r : Rule s) → length r.history ≤ 1099511627776
  few_entries s r =
      let few : r.ticket ≤ 1099511627776 = few_tickets s r in
      let a : total (λ (v : V). length v.mine) s.views ≤ total (λ (v : V). v.used) s.views =
      total_le_at (λ (v : V). length v.mine) (λ (v : V). v.used) s.views (λ i u e. let room : length u.mine + pending u.stage ≤ u.used = (r.each i u e).room in omega arith) in
      let b = r.counted in
      let c = r.drawn in
      omega arith

  at_most_once : (s : St) (r : Rule s) (k : ℕ) → total (λ (u : V). times k u.mine) s.views ≤ 1
  at_most_once s r k = let a = r.places k in let b : once_below k (length r.history) ≤ 1 = elim (ltb k (length r.history)) as (λ c. cond c 1 0 ≤ 1) [ true ↦ omega arith | false ↦ omega arith ] in omega arith

  pub counts : (slots id : ℕ) (me : M) (t : ℕ) (es : List E) (k : ℕ) → me.0.stage ≡ Lifted t → length es ≡ k → k ≤ 1 → ((e : E) → es ≡ e ∷ [] → MayAdd of gave me.0.seen me.0.mine e)
      → Allows Rule slots id me 2 (λ n. (n + k) % 18446744073709551616) (HasCounted es (step slots 2 k 0 none) me)
  counts slots id me t es k is long one may s r sized at small =
      let v : V = me.0 in
      let n : ℕ = length v.seen in
      let new : List ℕ = places_from n es in
      let w : V = after_count v t es in
      let history : List E = r.history ++ es in
      let was : Fits of gave r.history r.owner r.serving r.ticket id v = r.each id v at in
      let stood = standing s r id v (Lifted t) at is in
      let own : r.owner r.serving ≡ id = ap r.owner (sym stood.0) ∙ stood.2 in
      let sees : v.seen ≡ r.history = stood.3 in
      let few : length r.history ≤ 1099511627776 = few_entries s r in
      let room : length v.mine + 1 ≤ v.used = subst (λ (z : Stage). length v.mine + pending z ≤ v.used) is was.room in
      let added : length (v.mine ++ new) ≡ length v.mine + k = length-append v.mine new ∙ ap (λ z. length v.mine + z) (length_places n es ∙ long) in
      let grown : length history ≡ length r.history + k = length-append r.history es ∙ ap (λ z. length r.history + z) long in
      let may_add : (e : E) → es ≡ e ∷ [] → MayAdd of gave r.history v.mine e = λ e same. subst (λ l. MayAdd of gave l v.mine e) sees (may e same) in
      let mine : Fits of gave history r.owner r.serving r.ticket id w = record {
        begins = subst (λ l. StartsWith history (l ++ es)) (sym sees) (starts_same history);
        told = starts_trans history r.history v.told (es, refl) was.told;
        stands = (stood.0, stood.1, stood.2, ap (λ l. l ++ es) sees, omega arith);
        room = omega arith;
        below = λ j le.
            let both : length (v.seen ++ es) ≡ n + length es = length-append v.seen es in
            let a : times j v.mine ≡ 0 = was.below j (omega arith) in
            let b : times j new ≡ 0 = times_above j n es (omega arith) in
            times_append j v.mine new ∙ omega arith;
        rises = rises_es 0 n v.mine es (omega arith) (omega arith) was.below was.rises;
        together = subst (λ (z : ℕ). Together of gave history (v.mine ++ places_from z es)) (sym (ap length sees))
            (mine_es of gave r.history v.mine es (omega arith) r.tickets may_add was.together (was.below (length r.history) (starts_length r.history v.seen was.begins))
            (λ i. let a = total_at (λ (u : V). times i u.mine) s.views id v at in let b = at_most_once s r i in omega arith));
        last = was.last;
        entitled = was.entitled;
      } in
      let others : (j : ℕ) (d : V) → j ≢ id → get_elem? s.views j ≡ some d → Fits of gave history r.owner r.serving r.ticket j d =
      λ j d apart there. fits_still of gave r.history r.owner r.serving r.ticket history r.owner r.serving r.ticket j d (r.each j d there) (es, refl) (le_refl r.serving)
      (other_es of gave r.history v.mine d.mine es (omega arith) r.tickets may_add (r.each j d there).together ((r.each j d there).below (length r.history) (starts_length r.history d.seen (r.each j d there).begins))
      (λ i some_i. total_rest (λ (u : V). times i u.mine) s.views id v at (let a = at_most_once s r i in omega arith) j d apart there))
      (λ u has from below mine. (from, below, mine)) (λ has. absurd (true≢false (sym has ∙ alone s r id own j d apart there))) in
      goes s r id me 2 (λ n. (n + k) % 18446744073709551616) (HasCounted es (step slots 2 k 0 none) me) (
        w,
        keeps,
        tt,
        record {
          history = history;
          tickets = tickets_es of gave r.history v.mine es (omega arith) r.tickets may_add;
          owner = r.owner;
          ticket = r.ticket;
          serving = r.serving;
          words = ap (λ z. r.ticket ∷ r.serving ∷ z ∷ []) (mod-eq_of_lt (omega arith) ∙ sym grown);
          ordered = r.ordered;
          drawn = total_same (λ (u : V). u.used) s.views id v w at refl ∙ r.drawn;
          shares = total_same (λ (u : V). u.left + u.used) s.views id v w at refl ∙ r.shares;
          counted = let a = total_set (λ (u : V). length u.mine) s.views id v w at in let b = r.counted in omega arith;
          places = λ j.
              let a : total (λ (u : V). times j u.mine) (set s.views id w) + times j v.mine ≡ total (λ (u : V). times j u.mine) s.views + times j (v.mine ++ new) = total_set (λ (u : V). times j u.mine) s.views id v w at in
              let b : total (λ (u : V). times j u.mine) s.views ≡ once_below j (length r.history) = r.places j in
              let c : times j (v.mine ++ new) ≡ times j v.mine + times j new = times_append j v.mine new in
              let d : once_below j (length r.history + length es) ≡ once_below j (length r.history) + times j (places_from (length r.history) es) = once_places j (length r.history) es in
              let e : times j new ≡ times j (places_from (length r.history) es) = ap (λ (l : List E). times j (places_from (length l) es)) sees in
              let f : once_below j (length history) ≡ once_below j (length r.history + length es) = ap (once_below j) (length-append r.history es) in
              omega arith;
          newest = newest_set s r id v w at refl;
          longest = (id, w, set_at s.views id v w at, ap (λ l. l ++ es) sees);
          each = views_set (Fits of gave history r.owner r.serving r.ticket) s.views id w mine others;
          waits = waits_set s r id v w at r.serving (le_refl r.serving) (λ u _ has. subst (HasTicket u) is has);
          slot = inr (not_home s r id v at (ap has_value is), (id, w, set_at s.views id v w at, refl));
        },
        λ u has. ap (λ (y : ℕ). (after_count v y es, me.1)) (ap ticket_or (sym is ∙ has)),
      )

  abbrev value_or : T → List (ℕ × Option T) → T
  value_or d [] = d
  value_or d (p ∷ _) = unwrap_or p.1 d

  pub serves : (slots id : ℕ) (me : M) (t : ℕ) (x : T) → me.0.stage ≡ Counted t → me.1 ≡ (0, Some x) ∷ [] → history_of x ≡ me.0.seen
      → Allows Rule slots id me 1 (λ n. (n + 1) % 18446744073709551616) (HasServed (step slots 1 1 0 none) me)
  serves slots id me t x is has knows s r sized at small =
      let v : V = me.0 in
      let w : V = after_serve v t x in
      let was : Fits of gave r.history r.owner r.serving r.ticket id v = r.each id v at in
      let stood = standing s r id v (Counted t) at is in
      let own : r.owner r.serving ≡ id = ap r.owner (sym stood.0) ∙ stood.2 in
      let few : r.ticket ≤ 1099511627776 = few_tickets s r in
      let now : t ≡ r.serving = stood.0 in
      let below : t < r.ticket = stood.1 in
      let next : ℕ = r.serving + 1 in
      let mine : Fits of gave r.history r.owner next r.ticket id w = record {
        begins = was.begins;
        told = was.told;
        stands = tt;
        room = let a = was.room in omega arith;
        below = was.below;
        rises = was.rises;
        together = was.together;
        last = omega arith;
        entitled = λ _. let used : 0 < v.used = stood.4 in omega arith;
      } in
      let others : (j : ℕ) (d : V) → j ≢ id → get_elem? s.views j ≡ some d → Fits of gave r.history r.owner next r.ticket j d =
      λ j d apart there. fits_still of gave r.history r.owner r.serving r.ticket r.history r.owner next r.ticket j d (r.each j d there) (starts_same r.history) (omega arith) (r.each j d there).together
      (λ u has from less mine. let past : u ≢ r.serving = λ e. apart (sym mine ∙ ap r.owner e ∙ own) in (omega arith, less, mine))
      (λ has. absurd (true≢false (sym has ∙ alone s r id own j d apart there))) in
      goes s r id me 1 (λ n. (n + 1) % 18446744073709551616) (HasServed (step slots 1 1 0 none) me) (
        w,
        gives,
        tt,
        record {
          history = r.history;
          tickets = r.tickets;
          owner = r.owner;
          ticket = r.ticket;
          serving = next;
          words = ap (λ z. r.ticket ∷ z ∷ length r.history ∷ []) (mod-eq_of_lt (omega arith));
          ordered = omega arith;
          drawn = total_same (λ (u : V). u.used) s.views id v w at refl ∙ r.drawn;
          shares = total_same (λ (u : V). u.left + u.used) s.views id v w at refl ∙ r.shares;
          counted = total_same (λ (u : V). length u.mine) s.views id v w at refl ∙ r.counted;
          places = λ k. total_same (λ (u : V). times k u.mine) s.views id v w at refl ∙ r.places k;
          longest = longest_set s r id v w at refl;
          newest = (id, w, set_at s.views id v w at, omega arith);
          each = views_set (Fits of gave r.history r.owner next r.ticket) s.views id w mine others;
          waits = waits_set s r id v w at next (omega arith) (λ u from has. let is_now : t ≡ u = subst (HasTicket u) is has in absurd (omega arith));
          slot = inl (
            x,
            ap (λ (c : List (ℕ × Option T)). homes_after s.homes c gives) has ∙ ap (λ (l : List (maybe.Option (Option T))). set l 0 (some (Some x))) (not_home s r id v at (ap has_value is)),
            knows ∙ stood.3,
            views_set (λ _ d. IsPutBack next x d) s.views id w (refl, λ _. refl) (λ j d apart there. (alone s r id own j d apart there, λ e. absurd (let a = (r.each j d there).last in let F : ⊥ = omega arith in F))),
          );
        },
        λ u y stage_is has_it. ap (λ (z : Me (Option T) V). z) (λ i. (after_serve v (ap ticket_or (sym is ∙ stage_is) i) (ap (value_or x) (sym has ∙ has_it) i), rest (has i))),
      )

  pub agrees : (slots id : ℕ) (me : M) → me.0.stage ≡ Idle → Allows Rule slots id me 1 (λ n. n) (HasLooked history_of of gave (step slots 1 0 0 none) me)
  agrees slots id me idle s r sized at small =
      let v : V = me.0 in
      let was : Fits of gave r.history r.owner r.serving r.ticket id v = r.each id v at in
      let few = total_at (λ (u : V). u.left + u.used) s.views id v at in
      goes s r id me 1 (λ n. n) (HasLooked history_of of gave (step slots 1 0 0 none) me) (
        v,
        keeps,
        tt,
        subst (λ (x : List ℕ × List V). Rule record { words = x.0; homes = s.homes; views = x.1 }) (λ i. (r.words i, sym (set_again s.views id v at) i)) r,
        ((λ t waits. absurd (idle_waits_not t v.stage waits idle)), λ _. (refl, (λ le. starts_both r.history v.seen v.told was.begins was.told le), (let b = r.shares in omega arith))),
      )

  pub splits : (id : ℕ) (v : V) (share : ℕ) → v.stage ≡ Idle → share < v.left → Splits Rule id v (without_share share v) (with_share share v)
  splits id v share idle some_left s r at =
      let w : V = without_share share v in
      let new : V = with_share share v in
      let vs : List V = set s.views id w in
      let was : Fits of gave r.history r.owner r.serving r.ticket id v = r.each id v at in
      let mine : Fits of gave r.history r.owner r.serving r.ticket id w = record {
        begins = was.begins;
        told = was.told;
        stands = was.stands;
        room = was.room;
        below = was.below;
        rises = was.rises;
        together = was.together;
        last = was.last;
        entitled = λ _. omega arith;
      } in
      let theirs : (j : ℕ) → Fits of gave r.history r.owner r.serving r.ticket j new =
      λ j. record { begins = was.begins; told = (r.history, refl); stands = tt; room = omega arith; below = λ k le. refl; rises = tt; together = λ i j t a b. refl; last = omega arith; entitled = λ some_put. absurd (omega arith) } in
      let slot : AtHome history_of r.history r.serving s.homes vs ⊎ IsOut s.homes vs = slot_set s r id v w at refl refl refl in
      record {
        history = r.history;
        tickets = r.tickets;
        owner = r.owner;
        ticket = r.ticket;
        serving = r.serving;
        words = r.words;
        ordered = r.ordered;
        drawn = let a = total_snoc (λ (u : V). u.used) vs new in let b = total_set (λ (u : V). u.used) s.views id v w at in let c = r.drawn in omega arith;
        shares = let a = total_snoc (λ (u : V). u.left + u.used) vs new in let b = total_set (λ (u : V). u.left + u.used) s.views id v w at in let c = r.shares in omega arith;
        counted = let a = total_snoc (λ (u : V). length u.mine) vs new in let b = total_same (λ (u : V). length u.mine) s.views id v w at refl in let c = r.counted in omega arith;
        places = λ k. let a = total_snoc (λ (u : V). times k u.mine) vs new in let b = total_same (λ (u : V). times k u.mine) s.views id v w at refl in let c = r.places k in omega arith;
        newest = let l = newest_set s r id v w at refl in (l.0, l.1, at_longer vs (new ∷ []) l.0 l.1 l.2, l.3);
        longest = let l = longest_set s r id v w at refl in (l.0, l.1, at_longer vs (new ∷ []) l.0 l.1 l.2, l.3);
        each = λ j d there. ⊎_elim (views_set (Fits of gave r.history r.owner r.serving r.ticket) s.views id w mine (λ j d _ there. r.each j d there) j d)
            (λ (e : new ≡ d). subst (Fits of gave r.history r.owner r.serving r.ticket j) e (theirs j)) (at_snoc vs new d j there);
        waits = λ t from below. let x = waits_set s r id v w at r.serving (le_refl r.serving) (λ u _ has. has) t from below in (x.0, at_longer vs (new ∷ []) (r.owner t) x.0 x.1, x.2);
        slot = ⊎_elim
            (λ (h : AtHome history_of r.history r.serving s.homes vs). inl (
              h.0,
              h.1,
              h.2,
              λ j d there. ⊎_elim (h.3 j d) (λ (e : new ≡ d). subst (λ (y : V). IsPutBack r.serving h.0 y) e (refl, λ z. absurd (omega arith))) (at_snoc vs new d j there),
            ))
            (λ (h : IsOut s.homes vs). inr (h.0, (h.1.0, h.1.1, at_longer vs (new ∷ []) h.1.0 h.1.1 h.1.2, h.1.3)))
            slot;
      }

  pub joins : (id : ℕ) (v : V) (other : ℕ) (w : V) → v.stage ≡ Idle → w.stage ≡ Idle → Joins Rule id v other w (both_of v w) spent
  joins id v other w idle idle' s r at apart there =
      let both : V = both_of v w in
      let vs : List V = set s.views id both in
      let old : get_elem? s.views other ≡ some w = sym (set_else s.views id other both apart) ∙ there in
      let was : Fits of gave r.history r.owner r.serving r.ticket id v = r.each id v at in
      let was' : Fits of gave r.history r.owner r.serving r.ticket other w = r.each other w old in
      let lens : (length v.seen ≤ length both.seen) × (length w.seen ≤ length both.seen) = length_longer v.seen w.seen in
      let last : both.last ≤ r.serving + 1 = joined_put v w (λ n _. n ≤ r.serving + 1) was.last was'.last in
      let mine : Fits of gave r.history r.owner r.serving r.ticket id both = record {
        begins = longer_starts r.history v.seen w.seen was.begins was'.begins;
        told = shorter_starts r.history v.seen w.seen was.begins was'.begins;
        stands = subst (Stands r.history r.owner r.serving r.ticket id both.seen both.used) (sym idle) tt;
        room = let a = was.room in let b = was'.room in let c = length_merged v.mine w.mine in omega arith;
        below = λ k le. let a : times k v.mine ≡ 0 = was.below k (omega arith) in let b : times k w.mine ≡ 0 = was'.below k (omega arith) in times_merged k v.mine w.mine ∙ omega arith;
        rises = rises_merged 0 v.mine w.mine was.rises was'.rises;
        together = λ i j t a b. times_merged i v.mine w.mine ∙ ap (λ (y : ℕ × ℕ). y.0 + y.1) (λ z. (was.together i j t a b z, was'.together i j t a b z)) ∙ sym (times_merged j v.mine w.mine);
        last = last;
        entitled = joined_put v w (λ n _. 0 < n → 0 < (v.left + w.left) + (v.used + w.used)) (λ some_put. let a = was.entitled some_put in omega arith) (λ some_put. let a = was'.entitled some_put in omega arith);
      } in
      let gone : Fits of gave r.history r.owner r.serving r.ticket other (spent {T = T} {E = E}) = record {
        begins = (r.history, refl);
        told = (r.history, refl);
        stands = tt;
        room = omega arith;
        below = λ k le. refl;
        rises = tt;
        together = λ i j t a b. refl;
        last = omega arith;
        entitled = λ some_put. absurd (omega arith);
      } in
      let there_still : get_elem? (set vs other spent) id ≡ some both = set_else vs other id spent (λ e. apart (sym e)) ∙ set_at s.views id v both at in
      let begins : StartsWith r.history both.seen = longer_starts r.history v.seen w.seen was.begins was'.begins in
      let whole : (d : V) → d.seen ≡ r.history → length d.seen ≤ length both.seen → (by : ℕ) × (d : V) × (get_elem? (set vs other spent) by ≡ some d) × (d.seen ≡ r.history) =
      λ d all le. (id, both, there_still, let same : length d.seen ≡ length r.history = ap length all in sym (starts_whole r.history both.seen begins (omega arith))) in
      let longest : (by : ℕ) × (d : V) × (get_elem? (set vs other spent) by ≡ some d) × (d.seen ≡ r.history) =
      let l = r.longest in
      dite (ℕ_discrete l.0 id) (λ is. whole v (ap (λ (y : V). y.seen) (sym (same_view s.views l.0 id l.1 v l.2 at is)) ∙ l.3) lens.0)
      (λ not_me. dite (ℕ_discrete l.0 other) (λ is. whole w (ap (λ (y : V). y.seen) (sym (same_view s.views l.0 other l.1 w l.2 old is)) ∙ l.3) lens.1)
      (λ not_them. (l.0, l.1, set_else vs other l.0 spent not_them ∙ (set_else s.views id l.0 both not_me ∙ l.2), l.3))) in
      let newest : (by : ℕ) × (d : V) × (get_elem? (set vs other spent) by ≡ some d) × (d.last ≡ r.serving + 1) =
      let l = r.newest in
      let number : l.1.last ≡ r.serving + 1 = l.3 in
      dite (ℕ_discrete l.0 id)
      (λ is. (id, both, there_still, let same : l.1.last ≡ v.last = ap (λ (y : V). y.last) (same_view s.views l.0 id l.1 v l.2 at is) in let a = le-max_left v.last w.last in omega arith))
      (λ not_me. dite (ℕ_discrete l.0 other)
      (λ is. (id, both, there_still, let same : l.1.last ≡ w.last = ap (λ (y : V). y.last) (same_view s.views l.0 other l.1 w l.2 old is) in let a = le-max_right v.last w.last in omega arith))
      (λ not_them. (l.0, l.1, set_else vs other l.0 spent not_them ∙ (set_else s.views id l.0 both not_me ∙ l.2), l.3))) in
      record {
        history = r.history;
        tickets = r.tickets;
        owner = r.owner;
        ticket = r.ticket;
        serving = r.serving;
        words = r.words;
        ordered = r.ordered;
        drawn = let a = total_set (λ (u : V). u.used) vs other w spent there in let b = total_set (λ (u : V). u.used) s.views id v both at in let c = r.drawn in omega arith;
        shares = let a = total_set (λ (u : V). u.left + u.used) vs other w spent there in let b = total_set (λ (u : V). u.left + u.used) s.views id v both at in let c = r.shares in omega arith;
        counted = let a = total_set (λ (u : V). length u.mine) vs other w spent there in let b = total_set (λ (u : V). length u.mine) s.views id v both at in let c = r.counted in let d = length_merged v.mine w.mine in omega arith;
        places = λ k.
            let a : total (λ (u : V). times k u.mine) (set vs other spent) + times k w.mine ≡ total (λ (u : V). times k u.mine) vs + 0 = total_set (λ (u : V). times k u.mine) vs other w spent there in
            let b : total (λ (u : V). times k u.mine) vs + times k v.mine ≡ total (λ (u : V). times k u.mine) s.views + times k (merged v.mine w.mine) = total_set (λ (u : V). times k u.mine) s.views id v both at in
            let c : total (λ (u : V). times k u.mine) s.views ≡ once_below k (length r.history) = r.places k in
            let d : times k (merged v.mine w.mine) ≡ times k v.mine + times k w.mine = times_merged k v.mine w.mine in
            omega arith;
        longest = longest;
        newest = newest;
        each = views_set (Fits of gave r.history r.owner r.serving r.ticket) vs other spent gone (λ j d _ e. views_set (Fits of gave r.history r.owner r.serving r.ticket) s.views id both mine (λ i y _ e'. r.each i y e') j d e);
        waits = λ t from below.
            let was = r.waits t from below in
            let not_me : r.owner t ≢ id = λ e. idle_has_none t was.0.stage (same_stage s.views (r.owner t) id was.0 v was.1 at e ∙ idle) was.2 in
            let not_them : r.owner t ≢ other = λ e. idle_has_none t was.0.stage (same_stage s.views (r.owner t) other was.0 w was.1 old e ∙ idle') was.2 in
            (was.0, set_else vs other (r.owner t) spent not_them ∙ (set_else s.views id (r.owner t) both not_me ∙ was.1), was.2);
        slot = ⊎_elim
            (λ (h : AtHome history_of r.history r.serving s.homes s.views). inl (
              h.0,
              h.1,
              h.2,
              views_set (λ _ d. IsPutBack r.serving h.0 d) vs other spent (refl, λ z. absurd (omega arith))
                  (λ j d _ e. views_set (λ _ d. IsPutBack r.serving h.0 d) s.views id both (ap has_value idle, joined_put v w (λ n p. n ≡ r.serving + 1 → p ≡ Some h.0) (h.3 id v at).1 (h.3 other w old).1) (λ i y _ e'. h.3 i y e') j d e),
            ))
            (λ (h : IsOut s.homes s.views).
            let not_me : h.1.0 ≢ id = λ e. true≢false (sym h.1.3 ∙ ap has_value (same_stage s.views h.1.0 id h.1.1 v h.1.2 at e ∙ idle)) in
            let not_them : h.1.0 ≢ other = λ e. true≢false (sym h.1.3 ∙ ap has_value (same_stage s.views h.1.0 other h.1.1 w h.1.2 old e ∙ idle')) in
            inr (h.0, (h.1.0, h.1.1, set_else vs other h.1.0 spent not_them ∙ (set_else s.views id h.1.0 both not_me ∙ h.1.2), h.1.3)))
            r.slot;
      }

  pub begins : (x : T) → history_of x ≡ [] → Rule (opening (0 ∷ 0 ∷ 0 ∷ []) (Some x ∷ []) (newcomer x))
  begins x empty = record {
    history = [];
    tickets = record { once = λ i j t a b. absurd (cc); given = λ j t a. absurd (cc) };
    owner = λ _. 0;
    ticket = 0;
    serving = 0;
    words = refl;
    ordered = le_refl 0;
    drawn = refl;
    shares = refl;
    counted = refl;
    places = λ k. sym (ap {B = ℕ} (λ (b : Bool). cond b 1 0) (le-ltb k 0 (omega arith)));
    newest = (0, newcomer x, refl, refl);
    longest = (0, newcomer x, refl, refl);
    each = one (λ by v. Fits of gave [] (λ _. 0) 0 0 by v)
        record { begins = ([], refl); told = ([], refl); stands = tt; room = omega arith; below = λ k le. refl; rises = tt; together = λ i j t a b. refl; last = le_refl 1; entitled = λ _. omega arith };
    waits = λ t from below. absurd (omega arith);
    slot = inl (x, refl, empty, one (λ _ v. IsPutBack 0 x v) (refl, λ _. refl));
  }
    where
      one : (P : ℕ → V → Type 0) → P 0 (newcomer x) → (by : ℕ) (v : V) → get_elem? (newcomer x ∷ []) by ≡ some v → P by v
      one P h zero v e = subst (P 0) (some-injective (newcomer x) v e) h
      one P h (suc by) v e = absurd (some-ne-none v (sym e))

  pub closes : (id : ℕ) (v : V) (ws : List ℕ) (xs : List (Option T)) → Final (Seen Rule id v) ws xs → v.stage ≡ Idle → v.left + v.used ≡ 1099511627776
      → (x : T) × (get_elem? xs 0 ≡ some (Some x)) × (history_of x ≡ v.seen) × (v.mine ≡ places_from 0 v.seen) × (v.put ≡ Some x)
  closes id v ws xs last idle all =
      let s : St = last.0 in
      let r : Rule s = last.1.0 in
      let at : get_elem? s.views id ≡ some v = last.1.1 in
      let rest = none_else s r id v at all in
      let was : Fits of gave r.history r.owner r.serving r.ticket id v = r.each id v at in
      let whole : r.history ≡ v.seen = sees_all s r id v at all in
      let home : AtHome history_of r.history r.serving s.homes s.views = ⊎_elim (λ h. h)
      (λ (h : IsOut s.homes s.views). absurd (
      let apart : h.1.0 ≢ id = λ e. true≢false (sym h.1.3 ∙ ap has_value (same_stage s.views h.1.0 id h.1.1 v h.1.2 at e ∙ idle)) in
      let a = rest h.1.0 h.1.1 apart h.1.2 in
      let f = r.each h.1.0 h.1.1 h.1.2 in
      let b = has_used r.history r.owner r.serving r.ticket h.1.0 h.1.1.seen h.1.1.used (length h.1.1.mine) h.1.1.stage f.stands f.room h.1.3 in
      let F : ⊥ = omega arith in F))
      r.slot in (
        home.0,
        last.4 0 (Some home.0) (ap (λ (l : List (maybe.Option (Option T))). get_elem? l 0) home.1),
        home.2 ∙ whole,
        rises_same 0 0 v.mine (places_from 0 v.seen) was.rises (rises_places 0 0 v.seen (le_refl 0))
            (λ k. all_places s r id v at all k ∙ ap (λ (l : List E). once_below k (length l)) whole ∙ sym (places_once k v.seen)),
        put_last s r id v at all home,
      )
