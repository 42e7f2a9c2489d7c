-- Single views, and lists of them.
use Rattle.std.proofs.Common.{◌≡◌, ◌≢◌, ℕ, ◌+◌, ◌<◌, ◌≤◌, eqb, ltb, max, List, set, Bool, true, false, true≢false, cond, Option, refl, sym, ap, ◌∙◌, subst, ⊎_elim, arith, eq-eqb, ne_eqb, ltb-true, ltb-false}
use Rattle.std.proofs.Math.Nat.{max-eq_left, max-eq_right}
use mathlib.Core.Option.{some, some-injective}
use lib.ListN.{get_elem?}
use Rattle.atomic_table.proofs.Lists.{at_set}
use Rattle.esr_turns.specs.declared.view.View.{View}
use Rattle.esr_turns.specs.declared.view.Stage.{Stage}
use Rattle.esr_turns.specs.declared.view.Stage.TheVariants.{Idle, Waits, Lifted, Counted}
use Rattle.esr_turns.specs.Histories.{StartsWith}
use Rattle.esr_turns.specs.Tickets.{Together}
use Rattle.esr_turns.specs.Views.{HasTicket, has_value, pending, later}
use Rattle.esr_turns.specs.Rule.{Stands, Fits}
use Rattle.esr_turns.proofs.Histories.{starts_trans}

abbrev pub now_owner : (ℕ → ℕ) → ℕ → ℕ → ℕ → ℕ
now_owner owner t id u = cond (eqb u t) id (owner u)

pub owner_new : (owner : ℕ → ℕ) (t id : ℕ) → now_owner owner t id t ≡ id
owner_new owner t id = ap (λ b. cond b id (owner t)) (eq-eqb t t refl)

pub owner_old : (owner : ℕ → ℕ) (t id u : ℕ) → u ≢ t → now_owner owner t id u ≡ owner u
owner_old owner t id u other = ap (λ b. cond b id (owner u)) (ne_eqb u t other)

pub idle_has_none : (t : ℕ) (st : Stage) → st ≡ Idle → HasTicket t st → ⊥
idle_has_none t st is h = subst (HasTicket t) is h

pub idle_waits_not : (t : ℕ) (st : Stage) → st ≡ Waits t → st ≡ Idle → ⊥
idle_waits_not t st is idle = idle_has_none t st idle (subst (HasTicket t) (sym is) refl)

abbrev pub ticket_or : Stage → ℕ
ticket_or Idle = 0
ticket_or (Waits t) = t
ticket_or (Lifted t) = t
ticket_or (Counted t) = t

module _ {T E : Type 0} where
  pub views_set : (K : ℕ → View T E → Type 0) (vs : List (View T E)) (me : ℕ) (w : View T E) → K me w → ((j : ℕ) (d : View T E) → j ≢ me → get_elem? vs j ≡ some d → K j d) → (j : ℕ) (d : View T E)
      → get_elem? (set vs me w) j ≡ some d → K j d
  views_set K vs me w mine others j d e = ⊎_elim (λ (t : (j ≡ me) × (w ≡ d)). subst (λ (x : ℕ × View T E). K x.0 x.1) (λ i. (sym t.0 i, t.1 i)) mine)
      (λ (t : (j ≢ me) × (get_elem? vs j ≡ some d)). others j d t.0 t.1) (at_set vs me j w d e)

  pub same_view : (vs : List (View T E)) (i j : ℕ) (a b : View T E) → get_elem? vs i ≡ some a → get_elem? vs j ≡ some b → i ≡ j → a ≡ b
  same_view vs i j a b e f is = some-injective a b (sym e ∙ ap (get_elem? vs) is ∙ f)

  pub same_stage : (vs : List (View T E)) (i j : ℕ) (a b : View T E) → get_elem? vs i ≡ some a → get_elem? vs j ≡ some b → i ≡ j → a.stage ≡ b.stage
  same_stage vs i j a b e f is = ap (λ (y : View T E). y.stage) (same_view vs i j a b e f is)

  -- what holds of the number and value of each holds of those of the two made one
  pub joined_put : (v w : View T E) (Q : ℕ → Option T → Type 0) → Q v.last v.put → Q w.last w.put → Q (max v.last w.last) (later v.last w.last v.put w.put)
  joined_put v w Q h k = which (ltb v.last w.last) refl
    where
      which : (b : Bool) → ltb v.last w.last ≡ b → Q (max v.last w.last) (cond b w.put v.put)
      which true e = let less = ltb-true v.last w.last e in subst (λ n. Q n w.put) (sym (max-eq_right (omega arith))) k
      which false e = subst (λ n. Q n v.put) (sym (max-eq_left (ltb-false v.last w.last e))) h

module _ {E : Type 0} where
  -- what another view's ticket says stays so
  pub stands_still : (history : List E) (owner : ℕ → ℕ) (serving ticket : ℕ) (history' : List E) (owner' : ℕ → ℕ) (serving' ticket' by : ℕ) (seen : List E) (used : ℕ) (stage : Stage)
      → Stands history owner serving ticket by seen used stage
      → ((t : ℕ) → HasTicket t stage → serving ≤ t → t < ticket → owner t ≡ by → (serving' ≤ t) × (t < ticket') × (owner' t ≡ by))
      → (has_value stage ≡ true → (serving' ≡ serving) × (history' ≡ history))
      → Stands history' owner' serving' ticket' by seen used stage
  stands_still history owner serving ticket history' owner' serving' ticket' by seen used Idle h f g = tt
  stands_still history owner serving ticket history' owner' serving' ticket' by seen used (Waits t) h f g = f t refl h.0 h.1 h.2
  stands_still history owner serving ticket history' owner' serving' ticket' by seen used (Lifted t) h f g = let now = g refl in let is = h.0 in let to = f t refl (omega arith) h.1 h.2 in
      (is ∙ sym now.0, to.1, to.2, h.3 ∙ sym now.1)
  stands_still history owner serving ticket history' owner' serving' ticket' by seen used (Counted t) h f g = let now = g refl in let is = h.0 in let to = f t refl (omega arith) h.1 h.2 in
      (is ∙ sym now.0, to.1, to.2, h.3 ∙ sym now.1, h.4)

  -- who has the value has the ticket that is served
  pub holder : (history : List E) (owner : ℕ → ℕ) (serving ticket by : ℕ) (seen : List E) (used : ℕ) (stage : Stage) → Stands history owner serving ticket by seen used stage → has_value stage ≡ true → owner serving ≡ by
  holder history owner serving ticket by seen used (Lifted t) h has = ap owner (sym h.0) ∙ h.2
  holder history owner serving ticket by seen used (Counted t) h has = ap owner (sym h.0) ∙ h.2
  holder history owner serving ticket by seen used stage h has = absurd (true≢false (sym has))

  -- who has the value has drawn a ticket
  pub has_used : (history : List E) (owner : ℕ → ℕ) (serving ticket by : ℕ) (seen : List E) (used places : ℕ) (stage : Stage) → Stands history owner serving ticket by seen used stage → places + pending stage ≤ used
      → has_value stage ≡ true → 0 < used
  has_used history owner serving ticket by seen used places (Lifted t) h le has = omega arith
  has_used history owner serving ticket by seen used places (Counted t) h le has = h.4
  has_used history owner serving ticket by seen used places stage h le has = absurd (true≢false (sym has))

module _ {T E : Type 0} (of gave : E → Option ℕ) where
  pub fits_still : (history : List E) (owner : ℕ → ℕ) (serving ticket : ℕ) (history' : List E) (owner' : ℕ → ℕ) (serving' ticket' by : ℕ) (v : View T E)
      → Fits of gave history owner serving ticket by v
      → StartsWith history' history
      → serving ≤ serving'
      → Together of gave history' v.mine
      → ((t : ℕ) → HasTicket t v.stage → serving ≤ t → t < ticket → owner t ≡ by → (serving' ≤ t) × (t < ticket') × (owner' t ≡ by))
      → (has_value v.stage ≡ true → (serving' ≡ serving) × (history' ≡ history))
      → Fits of gave history' owner' serving' ticket' by v
  fits_still history owner serving ticket history' owner' serving' ticket' by v h more up own f g = record {
    begins = starts_trans history' history v.seen more h.begins;
    told = starts_trans history' history v.told more h.told;
    stands = stands_still history owner serving ticket history' owner' serving' ticket' by v.seen v.used v.stage h.stands f g;
    room = h.room;
    below = h.below;
    rises = h.rises;
    together = own;
    last = let a = h.last in omega arith;
    entitled = h.entitled;
  }
