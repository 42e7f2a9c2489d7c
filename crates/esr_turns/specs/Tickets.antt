-- The tickets of a history: an entry may give one out, and later entries may be of it.
use Rattle.std.specs.Prelude.{◌≡◌, ◌≢◌, ℕ, ◌<◌, List, Option, Some}
use Rattle.esr_turns.specs.Places.{times}
use Rattle.esr_turns.specs.Histories.{said}

module _ {E : Type 0} (of gave : E → Option ℕ) where
  -- the places of a ticket's entries are with the place of the entry that gave it
  abbrev pub Together : List E → List ℕ → Type 0
  Together history mine = (i j t : ℕ) → said gave history i ≡ Some t → said of history j ≡ Some t → times i mine ≡ times j mine

  -- each ticket is given once, and has entries only once it was given
  pub record Tickets (history : List E) : Type 0 where
    pub once : (i j t : ℕ) → said gave history i ≡ Some t → said gave history j ≡ Some t → i ≡ j
    pub given : (j t : ℕ) → said of history j ≡ Some t → (i : ℕ) × (said gave history i ≡ Some t)

  -- the entry is of no ticket, or of one that an entry at one of these places gave
  abbrev pub IsOfOwnTicket : List E → List ℕ → E → Type 0
  IsOfOwnTicket history mine e = (t : ℕ) → of e ≡ Some t → (i : ℕ) × (said gave history i ≡ Some t) × (0 < times i mine)

  -- the entry gives no ticket that was given
  abbrev pub GivesNewTicket : List E → E → Type 0
  GivesNewTicket history e = (t : ℕ) → gave e ≡ Some t → (i : ℕ) → said gave history i ≢ Some t

  -- whose places these are may add the entry
  abbrev pub MayAdd : List E → List ℕ → E → Type 0
  MayAdd history mine e = IsOfOwnTicket history mine e × GivesNewTicket history e
