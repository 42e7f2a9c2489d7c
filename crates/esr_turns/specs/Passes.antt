-- What contracts see of a lock and of a pass.
use Rattle.std.specs.Prelude.{ℕ, ◌^◌, List, [], Option, Some}
use Rattle.atomic_table.specs.Seated.{TableId}
use Rattle.esr_turns.specs.declared.view.View.{View}

-- which lock it is
abbrev pub LockId : Type 0
LockId = TableId

-- a pass of a lock round a T, whose history has entries E
pub record Holder (T E : Type 0) : Type 0 where
  pub lock : LockId
  -- the entries that it has seen, and the places of its own among them
  pub seen : List E
  pub mine : List ℕ
  -- the turns that it has left, and has used
  pub left : ℕ
  pub used : ℕ
  -- the value that it put into the lock last, and the number of that: the value of a new lock is number 1, and 0 says that it has put none
  pub put : Option T
  pub last : ℕ

-- the pass whose seat has this view
abbrev pub holder : {T E : Type 0} → LockId → View T E → Holder T E
holder lock v = record { lock = lock; seen = v.seen; mine = v.mine; left = v.left; used = v.used; put = v.put; last = v.last }

-- the pass that comes with a new lock round x
abbrev pub first_pass : {T E : Type 0} → LockId → T → Holder T E
first_pass lock x = record { lock = lock; seen = []; mine = []; left = 2 ^ 40; used = 0; put = Some x; last = 1 }
