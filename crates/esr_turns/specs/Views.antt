-- What the seats at a lock's table know.
use Rattle.std.specs.Prelude.{◌≡◌, ℕ, ◌+◌, ◌-◌, ◌^◌, max, [], Bool, true, false, if◌then◌else◌, nat_lt, Option, Some, None}
use Rattle.esr_turns.specs.declared.view.View.{View}
use Rattle.esr_turns.specs.declared.view.Stage.{Stage}
use Rattle.esr_turns.specs.declared.view.Stage.TheVariants.{Idle, Waits, Lifted, Counted}
use Rattle.esr_turns.specs.Places.{merged}
use Rattle.esr_turns.specs.Histories.{longer, shorter}

-- it has this ticket
abbrev pub HasTicket : ℕ → Stage → Type 0
HasTicket t Idle = ⊥
HasTicket t (Waits u) = u ≡ t
HasTicket t (Lifted u) = u ≡ t
HasTicket t (Counted u) = u ≡ t

-- it has the value
abbrev pub has_value : Stage → Bool
has_value Idle = false
has_value (Waits u) = false
has_value (Lifted u) = true
has_value (Counted u) = true

-- how many entries its turn may still add
abbrev pub pending : Stage → ℕ
pending Idle = 0
pending (Waits u) = 1
pending (Lifted u) = 1
pending (Counted u) = 0

-- what was put with the greater of two numbers
abbrev pub later : {T : Type 0} → ℕ → ℕ → Option T → Option T → Option T
later m n x y = if nat_lt m n then y else x

module _ {T E : Type 0} where
  -- the view of the first seat, which has all turns, and has put the value in
  abbrev pub newcomer : T → View T E
  newcomer x = record { stage = Idle; seen = []; told = []; mine = []; left = 2 ^ 40; used = 0; put = Some x; last = 1 }

  -- a view that gives a share of its turns away
  abbrev pub without_share : ℕ → View T E → View T E
  without_share share v = record v { left = v.left - share }

  -- the view of the new seat that gets the share: it has seen as much, and has neither a place nor put a value in
  abbrev pub with_share : ℕ → View T E → View T E
  with_share share v = record { stage = Idle; seen = v.seen; told = []; mine = []; left = share; used = 0; put = None; last = 0 }

  -- two views made one. It was told the shorter history, and learns by a look that this is the beginning of the longer
  abbrev pub both_of : View T E → View T E → View T E
  both_of v w = record {
    stage = v.stage;
    seen = longer v.seen w.seen;
    told = shorter v.seen w.seen;
    mine = merged v.mine w.mine;
    left = v.left + w.left;
    used = v.used + w.used;
    put = later v.last w.last v.put w.put;
    last = max v.last w.last;
  }

  -- what a view that was joined away is left with
  abbrev pub spent : View T E
  spent = record { stage = Idle; seen = []; told = []; mine = []; left = 0; used = 0; put = None; last = 0 }
