-- The steps of each hand in a turn: what they ask, and what they make of who makes them.
use Rattle.std.proofs.Common.{◌≡◌, ℕ, true, false, List, ◌++◌, length, Option, Some, None, Result, Ok, Err, OnOk, refl, sym, subst}
use Rattle.std.proofs.lemmas.Bool.{false≢true}
use Rattle.esr_model.specs.Names.{BlobName}
use Rattle.esr_model.specs.Values.{Has}
use Rattle.esr_core.specs.World.{Reader}
use Rattle.esr_core.specs.Entry.{Why, Step, Entry, Moment}
use Rattle.esr_core.specs.Past.{Repeats}
use Rattle.esr_desk.specs.declared.hand.Hand.{Hand}
use Rattle.esr_desk.specs.declared.hand.Hand.TheVariants as hands
use Rattle.esr_desk.specs.declared.fault.By.{By}
use Rattle.esr_desk.specs.declared.refusal.StepRefusal.{StepRefusal}
use Rattle.esr_desk.specs.Start.{Start}
use Rattle.esr_desk.specs.Own.{Own, own_of, reader_of}
use Rattle.esr_desk.specs.Once.{IsFresh}
use Rattle.esr_desk.specs.Made.{waited_made}
use Rattle.esr_desk.specs.Calls.{calls_at, HasTaken, IsMine}
use Rattle.esr_desk.specs.Evidence.{Evidence}
use Rattle.esr_desk.specs.Hands.{MayFetch, MayFail}
use Rattle.esr_desk.specs.Outcome.{Waited, fetch_reply}
use Rattle.esr_desk.specs.Shown.{IsShown}
use Rattle.esr_desk.specs.Conditions.{CanFetch, CanFail}
use Rattle.esr_desk.specs.Delete.Conditions.{CanFetchShard, CanFailDelete}
use Rattle.esr_desk.specs.Restore.Conditions.{CanRead}
use Rattle.esr_handle.specs.Owned.{given_by, calls_in}
use Rattle.esr_handle.specs.Turned.{shared, Seen, Turned, Homed}
use Rattle.esr_handle.proofs.Turns.{own_hand}
use Rattle.esr_handle.proofs.Showing.{shown_whole}

pub fetch_none : {F : Type 0} (o : Option F) → given_by (fetch_reply o) ≡ None
fetch_none None = refl
fetch_none (Some f) = refl

-- others make steps, so nothing is said of how long the history is
pub few_shared : {X : Type 0} (result : Result X StepRefusal) (few : Type 0) → OnOk result (false ≡ true → few)
few_shared (Ok x) few = λ e. absurd (false≢true e)
few_shared (Err e) few = tt

read_alike : (s : Start) (q : Reader) (name : BlobName) → CanRead (shared s) q name → CanRead s q name
read_alike s q name h = record { out = h.out; may = h.may }

module _ {s : Start} {before : List Moment} {pass turn : Seen} {value : List Moment} (t : Turned s before pass turn value) (who : ℕ) where
  -- the desk under the lock took it, too
  pub mine_whole : (hand : Hand) → IsMine hand (calls_in (length before) pass.seen pass.mine) who → IsMine hand (calls_at 0 value) who
  mine_whole hands.Check mine = mine
  mine_whole hands.Verify mine = mine
  mine_whole hand mine = t.taken who mine

  waits : (hand : Hand) → IsMine hand (calls_in (length before) pass.seen pass.mine) who → Waited (shared s) (before ++ pass.seen) value who
  waits hand mine = t.waited who (own_hand s before pass turn value t hand who mine)

  module _ (mine : HasTaken (calls_in (length before) pass.seen pass.mine) who) where
    same_own : own_of s (before ++ pass.seen) who ≡ own_of s value who
    same_own = sym ((waits hands.Unit mine).alone mine.some)

    fresh_ticket : (step : Step) → IsFresh (shared s) (before ++ pass.seen) who step → IsFresh s value who step
    fresh_ticket step h = subst (λ (entries : List Entry). (e : Entry) → Has entries e → Repeats e.step step → ⊥) (sym (waited_made (shared s) (before ++ pass.seen) value who mine.some (waits hands.Unit mine))) h

    own_new : (new : List Moment) (home : Seen) (P : Own → Own → Type 0) → Homed before turn new home → P (own_of s value who) (own_of s new who) → P (own_of s (before ++ pass.seen) who) (own_of s (before ++ home.seen) who)
    own_new new home P homed p =
        subst (λ (own : Own). P own (own_of s (before ++ home.seen) who)) (sym same_own)
        (subst (λ (log : List Moment). P (own_of s value who) (own_of s log who)) (sym homed.whole) p)

  -- ---- a fetch

  pub fetch_on : (hand : Hand) (name : BlobName) → IsMine hand (calls_in (length before) pass.seen pass.mine) who → MayFetch hand (shared s) (before ++ pass.seen) who name → MayFetch hand s value who name
  fetch_on hands.Unit name mine h = subst (λ (own : Own). CanFetch own.ticket name) (same_own mine) h
  fetch_on hands.Delete name mine h = subst (λ (own : Own). CanFetchShard own.ticket name) (same_own mine) h
  fetch_on hands.Restore name mine h = subst (λ (own : Own). CanRead s own.reader name) (same_own mine) (read_alike s (reader_of s (before ++ pass.seen) who) name h)
  fetch_on hand name mine h = absurd (false≢true h.0.alone)

  pub fetch_fresh : (hand : Hand) (name : BlobName) (step : Step) → IsMine hand (calls_in (length before) pass.seen pass.mine) who → MayFetch hand (shared s) (before ++ pass.seen) who name → IsFresh (shared s) (before ++ pass.seen) who step
      → IsFresh s value who step
  fetch_fresh hands.Check name step mine may h = absurd (false≢true may.0.alone)
  fetch_fresh hands.Verify name step mine may h = absurd (false≢true may.0.alone)
  fetch_fresh hand name step mine may h = fresh_ticket mine step h

  -- what a fetch makes of who fetches
  pub fetch_own : (hand : Hand) (name : BlobName) (new : List Moment) (home : Seen) (P : Own → Own → Type 0) → IsMine hand (calls_in (length before) pass.seen pass.mine) who → MayFetch hand (shared s) (before ++ pass.seen) who name
      → Homed before turn new home
      → P (own_of s value who) (own_of s new who) → P (own_of s (before ++ pass.seen) who) (own_of s (before ++ home.seen) who)
  fetch_own hands.Unit name new home P mine may homed p = own_new mine new home P homed p
  fetch_own hands.Delete name new home P mine may homed p = own_new mine new home P homed p
  fetch_own hands.Restore name new home P mine may homed p = own_new mine new home P homed p
  fetch_own hands.Check name new home P mine may homed p = absurd (false≢true may.0.alone)
  fetch_own hands.Verify name new home P mine may homed p = absurd (false≢true may.0.alone)

  -- ---- a failure

  pub fail_on : (hand : Hand) → IsMine hand (calls_in (length before) pass.seen pass.mine) who → MayFail hand (shared s) (before ++ pass.seen) who → MayFail hand s value who
  fail_on hands.Unit mine h = subst (λ (own : Own). CanFail own.ticket) (same_own mine) h
  fail_on hands.Delete mine h = subst (λ (own : Own). CanFailDelete own.ticket) (same_own mine) h
  fail_on hands.Restore mine h = subst (λ (own : Own). own.reader.out ≡ true) (same_own mine) h
  fail_on hand mine h = absurd (false≢true h.0.alone)

  pub fail_shown : {S F H T : Type 0} (hand : Hand) (e : Evidence S F H T) (why : Why) (b : By S F H T) → IsMine hand (calls_in (length before) pass.seen pass.mine) who → MayFail hand (shared s) (before ++ pass.seen) who
      → IsShown hand e (shared s) (before ++ pass.seen) who why b → IsShown hand e s value who why b
  fail_shown hand e why b mine may h = shown_whole hand e s (calls_in (length before) pass.seen pass.mine) (before ++ pass.seen) value who why b mine may (waits hand mine) h

  pub fail_own : (hand : Hand) (new : List Moment) (home : Seen) (P : Own → Own → Type 0) → IsMine hand (calls_in (length before) pass.seen pass.mine) who → MayFail hand (shared s) (before ++ pass.seen) who → Homed before turn new home
      → P (own_of s value who) (own_of s new who) → P (own_of s (before ++ pass.seen) who) (own_of s (before ++ home.seen) who)
  fail_own hands.Unit new home P mine may homed p = own_new mine new home P homed p
  fail_own hands.Delete new home P mine may homed p = own_new mine new home P homed p
  fail_own hands.Restore new home P mine may homed p = own_new mine new home P homed p
  fail_own hands.Check new home P mine may homed p = absurd (false≢true may.0.alone)
  fail_own hands.Verify new home P mine may homed p = absurd (false≢true may.0.alone)
