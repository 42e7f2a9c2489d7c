-- The history of the desk under the lock begins as it did.
use Rattle.std.proofs.Common.{◌≡◌, ℕ, ◌+◌, ◌-◌, Bool, true, false, List, [], ◌∷◌, ◌++◌, length, drop, sym, ap, ◌∙◌, subst, ⊎_elim, append-nil, append_assoc, length-append, arith}
use Rattle.std.proofs.Math.Seq.{drop-append_seam}
use Rattle.esr_turns.specs.Histories.{StartsWith}
use Rattle.esr_turns.specs.Tickets.{MayAdd}
use Rattle.esr_core.specs.Entry.{Moment}
use Rattle.esr_desk.specs.declared.hand.Hand.{Hand}
use Rattle.esr_desk.specs.Calls.{Call, HasTaken, IsMine}
use Rattle.esr_handle.specs.Owned.{ticket_of_moment, ticket_given}
use Rattle.esr_handle.specs.Turned.{Seen, Came}

-- where a turn comes to its end
pub begins_came : (before : List Moment) (turn : Seen) (value : List Moment) (told : Bool) → Came before turn value told → StartsWith value before
begins_came before turn value told came = ⊎_elim
    (λ (same : (value ≡ before ++ turn.seen) × (told ≡ false)). (turn.seen, same.0))
    (λ (more : (m : Moment) × (value ≡ (before ++ turn.seen) ++ m ∷ []) × MayAdd ticket_of_moment ticket_given turn.seen turn.mine m × (told ≡ true)). (turn.seen ++ more.0 ∷ [], more.1 ∙ append_assoc before turn.seen (more.0 ∷ [])))
    came

-- ---- what the desk has called, as its whole history says

pub mine_of_desk : {calls all : List Call} (ticket : ℕ) → calls ≡ all → HasTaken all ticket → HasTaken calls ticket
mine_of_desk ticket own mine = subst (λ (calls : List Call). HasTaken calls ticket) (sym own) mine

pub mine_of_hand : {calls all : List Call} (hand : Hand) (who : ℕ) → calls ≡ all → IsMine hand all who → IsMine hand calls who
mine_of_hand hand who own mine = subst (λ (calls : List Call). IsMine hand calls who) (sym own) mine

-- ---- as the desk is put into the lock

pub begins_itself : (before log : List Moment) → before ≡ log → StartsWith log before
begins_itself before log is = ([], sym is ∙ sym (append-nil before))

pub counted_then : (before log : List Moment) (left all : ℕ) → before ≡ log → length log + left ≡ all → all - left ≡ length before
counted_then before log left all is turns = so (length before) (length log) left all (ap length is) turns
  where
    so : (n k left all : ℕ) → n ≡ k → k + left ≡ all → all - left ≡ n
    so n k left all e turns = omega (arith, e, turns)

-- ---- the entries since

module _ (before log : List Moment) (begins : StartsWith log before) where
  log_long : length log ≡ length before + length begins.0
  log_long = ap length begins.1 ∙ length-append before begins.0

  since : drop (length before) log ≡ begins.0
  since = ap (drop (length before)) begins.1 ∙ drop-append_seam before begins.0

  pub entries_are : (base left all : ℕ) → base ≡ length before → length log + left ≡ all → all - left - base ≡ length (drop (length before) log)
  entries_are base left all at turns = so (length before) (length log) (length begins.0) base left all at log_long turns ∙ ap length (sym since)
    where
      so : (n k more base left all : ℕ) → base ≡ n → k ≡ n + more → k + left ≡ all → all - left - base ≡ more
      so n k more base left all at long turns = omega (arith, at, long, turns)
