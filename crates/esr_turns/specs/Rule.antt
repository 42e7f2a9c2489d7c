-- The rule of the lock: what holds between any two steps, whatever the threads do.
use Rattle.std.specs.Prelude.{◌≡◌, ℕ, ◌+◌, ◌^◌, ◌<◌, ◌≤◌, List, [], ◌∷◌, length, true, false, ◌⊎◌, Option, Some}
use mathlib.Core.Option.{some, none}
use mathlib.Core.Option as maybe
use lib.ListN.{get_elem?}
use Rattle.atomic_table.specs.Table.{State}
use Rattle.esr_turns.specs.declared.view.View.{View}
use Rattle.esr_turns.specs.declared.view.Stage.{Stage}
use Rattle.esr_turns.specs.declared.view.Stage.TheVariants.{Idle, Waits, Lifted, Counted}
use Rattle.esr_turns.specs.Places.{times, once_below, RisesFrom}
use Rattle.esr_turns.specs.Histories.{StartsWith}
use Rattle.esr_turns.specs.Tickets.{Together, Tickets}
use Rattle.esr_turns.specs.Views.{HasTicket, has_value, pending}

-- f of each, added up
abbrev pub total : {A : Type 0} → (A → ℕ) → List A → ℕ
total f [] = 0
total f (x ∷ xs) = f x + total f xs

module _ {E : Type 0} where
  -- a view's ticket is below `ticket`, from `serving` on, and its owner is the view. Who has the value is served, and has seen the whole history
  abbrev pub Stands : List E → (ℕ → ℕ) → ℕ → ℕ → ℕ → List E → ℕ → Stage → Type 0
  Stands history owner serving ticket by seen used Idle = Unit {0}
  Stands history owner serving ticket by seen used (Waits t) = (serving ≤ t) × (t < ticket) × (owner t ≡ by)
  Stands history owner serving ticket by seen used (Lifted t) = (t ≡ serving) × (t < ticket) × (owner t ≡ by) × (seen ≡ history)
  Stands history owner serving ticket by seen used (Counted t) = (t ≡ serving) × (t < ticket) × (owner t ≡ by) × (seen ≡ history) × (0 < used)

module _ {T E : Type 0} where
  -- what holds of one view
  pub record Fits (of gave : E → Option ℕ) (history : List E) (owner : ℕ → ℕ) (serving ticket by : ℕ) (v : View T E) : Type 0 where
    -- what it has seen, and what it was told, is a beginning of the history
    pub begins : StartsWith history v.seen
    pub told : StartsWith history v.told
    pub stands : Stands history owner serving ticket by v.seen v.used v.stage
    -- it has at most one place for each turn that it used
    pub room : length v.mine + pending v.stage ≤ v.used
    -- its places are of entries that it has seen, and rise
    pub below : (k : ℕ) → length v.seen ≤ k → times k v.mine ≡ 0
    pub rises : RisesFrom 0 v.mine
    pub together : Together of gave history v.mine
    -- it put no value in after the one that was put in last, and who put one in has turns
    pub last : v.last ≤ serving + 1
    pub entitled : 0 < v.last → 0 < v.left + v.used

module _ {T E : Type 0} where
  -- the view doesn't have the value, and put this one in if it was the last to put one in
  abbrev pub IsPutBack : ℕ → T → View T E → Type 0
  IsPutBack serving x v = (has_value v.stage ≡ false) × (v.last ≡ serving + 1 → v.put ≡ Some x)

  -- the slot is empty, and a view has the value
  abbrev pub IsOut : List (maybe.Option (Option T)) → List (View T E) → Type 0
  IsOut homes views = (homes ≡ none ∷ []) × ((by : ℕ) × (v : View T E) × (get_elem? views by ≡ some v) × (has_value v.stage ≡ true))

module _ {T E : Type 0} (history_of : T → List E) where
  -- the value lies in the slot with the history, and each view put it back
  abbrev pub AtHome : List E → ℕ → List (maybe.Option (Option T)) → List (View T E) → Type 0
  AtHome history serving homes views = (x : T) × (homes ≡ some (Some x) ∷ []) × (history_of x ≡ history)
      × ((by : ℕ) (v : View T E) → get_elem? views by ≡ some v → IsPutBack serving x v)

module _ {T E : Type 0} (history_of : T → List E) (of gave : E → Option ℕ) where
  -- the rule, of the words, the slot and the views of a table
  pub record Kept (s : State (Option T) (View T E)) : Type 0 where
    -- the history, the view that each ticket is of, and the next tickets to be drawn and to be served
    pub history : List E
    pub owner : ℕ → ℕ
    pub ticket : ℕ
    pub serving : ℕ
    -- the three words
    pub words : s.words ≡ ticket ∷ serving ∷ length history ∷ []
    pub ordered : serving ≤ ticket
    -- each ticket from `serving` on is in its owner's view, and so in exactly one
    pub waits : (t : ℕ) → serving ≤ t → t < ticket → (v : View T E) × (get_elem? s.views (owner t) ≡ some v) × HasTicket t v.stage
    -- the slot is empty exactly where one view has the value
    pub slot : AtHome history_of history serving s.homes s.views ⊎ IsOut s.homes s.views
    -- a view put the last value in
    pub newest : (by : ℕ) × (v : View T E) × (get_elem? s.views by ≡ some v) × (v.last ≡ serving + 1)
    -- the history is the longest that a view has seen
    pub longest : (by : ℕ) × (v : View T E) × (get_elem? s.views by ≡ some v) × (v.seen ≡ history)
    -- each of its places is in exactly one view's `mine`, and no other place is
    pub places : (k : ℕ) → total (λ (v : View T E). times k v.mine) s.views ≡ once_below k (length history)
    pub counted : total (λ (v : View T E). length v.mine) s.views ≡ length history
    pub tickets : Tickets of gave history
    -- the turns that were used are the tickets that were drawn, and with those that are left they are 2 ^ 40
    pub drawn : total (λ (v : View T E). v.used) s.views ≡ ticket
    pub shares : total (λ (v : View T E). v.left + v.used) s.views ≡ 2 ^ 40
    pub each : (by : ℕ) (v : View T E) → get_elem? s.views by ≡ some v → Fits of gave history owner serving ticket by v
