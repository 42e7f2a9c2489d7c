-- What each kind of atomic step tells the seat that makes it. m is the seat before, r the number that it found, and m' the seat after.
use Rattle.std.specs.Prelude.{◌≡◌, ◌≢◌, ℕ, ◌+◌, ◌-◌, ◌^◌, ◌≤◌, List, [], ◌∷◌, ◌++◌, length, Option, Some}
use Rattle.atomic_table.specs.Table.{Me, Step}
use Rattle.esr_turns.specs.declared.view.View.{View}
use Rattle.esr_turns.specs.declared.view.Stage.TheVariants.{Idle, Waits, Lifted, Counted}
use Rattle.esr_turns.specs.Places.{places_from}
use Rattle.esr_turns.specs.Histories.{StartsWith}
use Rattle.esr_turns.specs.Tickets.{Together}

module _ {T E : Type 0} where
  -- one turn is used for the ticket
  abbrev pub after_draw : View T E → ℕ → View T E
  after_draw v ticket = record v { stage = Waits ticket; left = v.left - 1; used = v.used + 1 }

  -- it has seen the whole history
  abbrev pub after_look : View T E → ℕ → List E → View T E
  after_look v ticket history = record v { stage = Lifted ticket; seen = history }

  -- it has seen the entries that it added, whose places are its own
  abbrev pub after_count : View T E → ℕ → List E → View T E
  after_count v ticket added = record v { stage = Counted ticket; seen = v.seen ++ added; mine = v.mine ++ places_from (length v.seen) added }

  -- it has put the value in, after that of a new lock and those of all tickets before
  abbrev pub after_serve : View T E → ℕ → T → View T E
  after_serve v ticket x = record v { stage = Idle; put = Some x; last = ticket + 2 }

  -- the number that it found is its ticket
  abbrev pub HasDrawn : Step (Option T) → Me (Option T) (View T E) → ℕ → Me (Option T) (View T E) → Type 0
  HasDrawn st m r m' = m' ≡ (after_draw m.0 r, m.1)

  -- these entries were added in its turn
  abbrev pub HasCounted : List E → Step (Option T) → Me (Option T) (View T E) → ℕ → Me (Option T) (View T E) → Type 0
  HasCounted added st m r m' = (t : ℕ) → m.0.stage ≡ Lifted t → m' ≡ (after_count m.0 t added, m.1)

  -- the value that it had is back in the slot
  abbrev pub HasServed : Step (Option T) → Me (Option T) (View T E) → ℕ → Me (Option T) (View T E) → Type 0
  HasServed st m r m' = (t : ℕ) (x : T) → m.0.stage ≡ Counted t → m.1 ≡ (0, Some x) ∷ [] → m' ≡ (after_serve m.0 t x, [])

module _ {T E : Type 0} (history_of : T → List E) where
  -- who has all turns had seen the whole history, and had put this value in
  abbrev pub IfAlone : T → View T E → Type 0
  IfAlone x v = v.left + v.used ≡ 2 ^ 40 → (history_of x ≡ v.seen) × (v.put ≡ Some x)

module _ {T E : Type 0} (history_of : T → List E) (of gave : E → Option ℕ) where
  -- the seat has the value. Its history begins with what was seen, and has a ticket's entries together
  abbrev pub HasTaken : Me (Option T) (View T E) → ℕ → Me (Option T) (View T E) → Type 0
  HasTaken m t m' =
      (x : T) × (m' ≡ (after_look m.0 t (history_of x), (0, Some x) ∷ m.1))
      × StartsWith (history_of x) m.0.seen × Together of gave (history_of x) m.0.mine
      × IfAlone history_of x m.0 × (m.0.last ≤ t + 1)

  -- what it was told is a beginning of what it has seen, and it has no more turns than there are
  abbrev pub HasAgreed : Me (Option T) (View T E) → Me (Option T) (View T E) → Type 0
  HasAgreed m m' = (m' ≡ m) × (length m.0.told ≤ length m.0.seen → StartsWith m.0.seen m.0.told) × (m.0.left + m.0.used ≤ 2 ^ 40)

  -- a seat that waits takes the value where its turn has come, and else nothing changes. An idle one learns that its histories agree
  abbrev pub HasLooked : Step (Option T) → Me (Option T) (View T E) → ℕ → Me (Option T) (View T E) → Type 0
  HasLooked st m r m' =
      ((t : ℕ) → m.0.stage ≡ Waits t → (r ≡ t → HasTaken m t m') × (r ≢ t → m' ≡ m))
      × (m.0.stage ≡ Idle → HasAgreed m m')
