-- The whole history, once all passes were joined: what the crew has made of it.
use Rattle.std.specs.Prelude.{◌==◌, ◌&&◌, if◌then◌else◌}
use Rattle.std.proofs.Common.{◌≡◌, ◌⊎◌, inl, inr, ⊎_elim, ℕ, zero, suc, ◌+◌, ◌≤◌, ne_eqb, List, [], ◌∷◌, ◌++◌, length, Bool, true, false, true≢false, OnOk, IfErr, Ok, Err, refl, sym, ap, ◌∙◌, subst, arith}
use Rattle.esr_model.specs.Values.{Has}
use Rattle.esr_core.specs.Entry.{Step, TakeStep, ElectStep, Entry, Moment}
use Rattle.esr_core.specs.Ready.{AnyReady}
use Rattle.esr_turns.specs.Passes.{LockId}
use Rattle.esr_turns.specs.Places.{places_from}
use Rattle.esr_model.specs.Lists.{Has-left, Has-right}
use Rattle.esr_desk.specs.declared.refusal.StepRefusal.{StepRefusal}
use Rattle.esr_desk.specs.declared.refusal.StepRefusal.TheVariants as steps
use Rattle.esr_desk.specs.Start.{Start, Legal, world_of, ticket_of}
use Rattle.esr_desk.specs.Own.{reader_of}
use Rattle.esr_desk.specs.Calls.{Call, call_of, call_at, calls_at}
use Rattle.esr_desk.specs.Grew.{NoneOut}
use Rattle.esr_quiet.specs.Asked.{is_line_ask, is_asked, as_asked, asked_steps, GrewAsking}
use Rattle.esr_quiet.specs.Asking.{asking_on}
use Rattle.esr_drive.specs.Over.{NoReaderOut, IsOver}
use Rattle.esr_drive.specs.Ended.{WasGiven, EachOver}
use Rattle.esr_drive.specs.Stopped.{IsStopped, StoppedIn, stopped_in}
use Rattle.esr_drive.specs.Takes.{idle_take, idle_takes, idle_call, takes_more}
use Rattle.esr_drive.specs.Works.{WorksOnly}
use Rattle.esr_drive.specs.Elections.{IsOfWait, AllOfWait, WaitsOnly, election, elections, HasElected, elections_more, waits_on, works_wait, works_elect_none}
use Rattle.esr_handle.specs.Owned.{calls_in}
use Rattle.esr_handle.specs.Turned.{Seen}
use Rattle.esr_drive.specs.Worked.{weigh, election_call, IsCrewCall, Answer, AreElected, AreWorked, OutWasGiven, ReaderWasGiven, IsBack, HasSat, HasWaited}
use Rattle.esr_drive.proofs.Weights.{weigh_both, calls_whole}
use Rattle.esr_drive.proofs.Working.{ok_by, err_by}

-- ---- of the entries of who 0

-- each entry is a step of a ticket, a take or an election
of_wait : (place : ℕ) (m : Moment) (who : ℕ) → m.entry.who ≡ who → ((c : Call) → Has (call_of place m.entry who) c → IsCrewCall c) → IsOfWait m
of_wait place m zero is only = inr (only (record { place = place; entry = m.entry }) (inl refl))
of_wait place m (suc k) is only = inl (λ (none : m.entry.who ≡ 0). let e : suc k ≡ 0 = sym is ∙ none in omega (arith, e))

all_of_wait : (place : ℕ) (more : List Moment) → ((c : Call) → Has (calls_at place more) c → IsCrewCall c) → AllOfWait more
all_of_wait place [] only = tt
all_of_wait place (m ∷ more) only = (
  of_wait place m m.entry.who refl (λ c has. only c (Has-left (call_at place m.entry) (calls_at (place + 1) more) c has)),
  all_of_wait (place + 1) more (λ c has. only c (Has-right (call_at place m.entry) (calls_at (place + 1) more) c has)),
)

-- those of a ticket find nothing idle, and elect nobody
idle_one : (place : ℕ) (e : Entry) (who : ℕ) → e.who ≡ who → weigh idle_call (call_of place e who) ≡ idle_take e.who e.step e.reply
idle_one place e zero is = omega arith
idle_one place e (suc k) is = sym (ap (λ (n : ℕ). idle_take n e.step e.reply) is)

idle_whole : (place : ℕ) (more : List Moment) → weigh idle_call (calls_at place more) ≡ idle_takes more
idle_whole place [] = refl
idle_whole place (m ∷ more) =
    let both : weigh idle_call (call_at place m.entry ++ calls_at (place + 1) more) ≡ weigh idle_call (call_at place m.entry) + weigh idle_call (calls_at (place + 1) more) =
    weigh_both idle_call (call_at place m.entry) (calls_at (place + 1) more) in
    let one : weigh idle_call (call_at place m.entry) ≡ idle_take m.entry.who m.entry.step m.entry.reply = idle_one place m.entry m.entry.who refl in
    let rest : weigh idle_call (calls_at (place + 1) more) ≡ idle_takes more = idle_whole (place + 1) more in
    omega (arith, both, one, rest)

election_one : (place : ℕ) (e : Entry) (who : ℕ) → e.who ≡ who → weigh election_call (call_of place e who) ≡ election e.who e.step
election_one place e zero is = omega arith
election_one place e (suc k) is = sym (ap (λ (n : ℕ). election n e.step) is)

election_whole : (place : ℕ) (more : List Moment) → weigh election_call (calls_at place more) ≡ elections more
election_whole place [] = refl
election_whole place (m ∷ more) =
    let both : weigh election_call (call_at place m.entry ++ calls_at (place + 1) more) ≡ weigh election_call (call_at place m.entry) + weigh election_call (calls_at (place + 1) more) =
    weigh_both election_call (call_at place m.entry) (calls_at (place + 1) more) in
    let one : weigh election_call (call_at place m.entry) ≡ election m.entry.who m.entry.step = election_one place m.entry m.entry.who refl in
    let rest : weigh election_call (calls_at (place + 1) more) ≡ elections more = election_whole (place + 1) more in
    omega (arith, both, one, rest)

-- an entry of who 0 is a call
of_client : (place : ℕ) (e : Entry) (who : ℕ) → who ≡ 0 → Has (call_of place e who) (record { place = place; entry = e })
of_client place e zero is = inl refl
of_client place e (suc k) is = absurd (omega (arith, is))

in_calls : (place : ℕ) (more : List Moment) (m : Moment) → Has more m → m.entry.who ≡ 0 → (c : Call) × Has (calls_at place more) c × (c.entry ≡ m.entry)
in_calls place [] m has client = absurd has
in_calls place (x ∷ more) m (inl same) client = (
  record { place = place; entry = x.entry },
  Has-left (call_at place x.entry) (calls_at (place + 1) more) (record { place = place; entry = x.entry }) (of_client place x.entry x.entry.who (ap (λ (y : Moment). y.entry.who) same ∙ client)),
  ap (λ (y : Moment). y.entry) same,
)
in_calls place (x ∷ more) m (inr has) client = let rest = in_calls (place + 1) more m has client in (rest.0, Has-right (call_at place x.entry) (calls_at (place + 1) more) rest.0 rest.1, rest.2)

-- ---- nothing was asked

crew_asks : (step : Step) → (step ≡ TakeStep) ⊎ (step ≡ ElectStep) → is_line_ask step ≡ false
crew_asks step (inl take) = ap is_line_ask take
crew_asks step (inr elect) = ap is_line_ask elect

and_no : (b : Bool) → (b && false) ≡ false
and_no true = refl
and_no false = refl

unasked : (m : Moment) → IsOfWait m → is_asked m.entry ≡ false
unasked m (inl some) = ap (λ (b : Bool). b && is_line_ask m.entry.step) (ne_eqb m.entry.who 0 some)
unasked m (inr crew) = ap (λ (b : Bool). (m.entry.who == 0) && b) (crew_asks m.entry.step crew) ∙ and_no (m.entry.who == 0)

none_asked : (more : List Moment) → AllOfWait more → asked_steps more ≡ []
none_asked [] all = refl
none_asked (m ∷ more) all = ap (λ (b : Bool). if b then as_asked m.entry.step ∷ asked_steps more else asked_steps more) (unasked m all.0) ∙ none_asked more all.1

-- ---- what a wait says

elected_any : (elects : ℕ) (old new : List Moment) (answer : Answer) → elections new ≡ elections old + elects → HasElected elects old new answer
elected_any elects old new (Err steps.Memory) is = omega (arith, is)
elected_any elects old new (Err steps.TurnsSpent) is = omega (arith, is)
elected_any elects old new answer is = is

elected_by : (elects made : ℕ) (old new : List Moment) (answer : Answer) → elections new ≡ elections old + made → AreElected answer made elects → HasElected elects old new answer
elected_by elects made old new (Err steps.TurnsSpent) is h = omega (arith, is, h)
elected_by elects made old new answer is h = omega (arith, is, h)

not_true : (b : Bool) → (b ≡ true → ⊥) → b ≡ false
not_true true no_way = absurd (no_way refl)
not_true false no_way = refl

module _ (s : Start) (old new : List Moment) (workers elects : ℕ) (answer : Answer) (h : HasSat s old new workers elects answer) where
  only_calls : AllOfWait h.more
  only_calls = all_of_wait (length old) h.more h.worked.only

  sat_grew : GrewAsking s [] old new
  sat_grew = record { more = h.more; is = h.is; legal = λ was. h.legal; asked = λ alone. none_asked h.more only_calls }

  sat_only : WaitsOnly old new
  sat_only = record { more = h.more; is = h.is; all = only_calls }

  sat_takes : idle_takes new ≤ idle_takes old + workers
  sat_takes =
      let whole : idle_takes new ≡ idle_takes old + idle_takes h.more = takes_more old h.more new h.is in
      let calls : weigh idle_call (calls_at (length old) h.more) ≡ idle_takes h.more = idle_whole (length old) h.more in
      let few = h.worked.idle in
      omega (arith, whole, calls, few)

  sat_elected : HasElected elects old new answer
  sat_elected =
      let made : weigh election_call (calls_at (length old) h.more) ≡ elections h.more = election_whole (length old) h.more in
      elected_by elects (elections h.more) old new answer (elections_more old h.more new h.is) (subst (λ (n : ℕ). AreElected answer n elects) made h.worked.elected)

  -- what was given since has ended
  given_over : EachOver s new (calls_at (length old) h.more) → (k : ℕ) → WasGiven h.more k → IsOver s new k
  given_over over k g =
      let c = in_calls (length old) h.more g.moment g.there (ap (λ (e : Entry). e.who) g.entry) in
      over c.0 k g.op g.unit c.1 (ap (λ (e : Entry). e.reply) (c.2 ∙ g.entry))

  sat_rest : OutWasGiven → EachOver s new (calls_at (length old) h.more) → NoneOut s old → NoneOut s new
  sat_rest law over rest k = not_true (ticket_of s new k).out (λ out.
      ⊎_elim (λ (was : (ticket_of s old k).out ≡ true). true≢false (sym was ∙ rest k)) (λ (g : WasGiven h.more k). true≢false (sym out ∙ (given_over over k g).ticket))
      (law s old h.more k (subst (Legal s) h.is h.legal) (ap (λ (l : List Moment). (ticket_of s l k).out) (sym h.is) ∙ out)))

  sat_readers : ReaderWasGiven → EachOver s new (calls_at (length old) h.more) → NoReaderOut s old → NoReaderOut s new
  sat_readers law over rest k = not_true (reader_of s new k).out (λ out.
      ⊎_elim (λ (was : (reader_of s old k).out ≡ true). true≢false (sym was ∙ rest k)) (λ (g : WasGiven h.more k). true≢false (sym out ∙ (given_over over k g).reader))
      (law s old h.more k (subst (Legal s) h.is h.legal) (ap (λ (l : List Moment). (reader_of s l k).out) (sym h.is) ∙ out)))

-- the crew was stopped
pub waited_stopped : (s : Start) (old new : List Moment) (workers elects : ℕ) (e : StepRefusal) → HasSat s old new workers elects (Err e) → HasWaited s old new workers elects (Err e)
waited_stopped s old new workers elects e h = record {
  grew = sat_grew s old new workers elects (Err e) h;
  only = sat_only s old new workers elects (Err e) h;
  takes = sat_takes s old new workers elects (Err e) h;
  elected = sat_elected s old new workers elects (Err e) h;
  rest = tt;
  readers = tt;
  ready = tt;
  stopped = h.worked.stopped;
}

-- it wasn't, and what was still ready was worked
pub waited_off : OutWasGiven → ReaderWasGiven → (s : Start) (old mid new : List Moment) (workers elects : ℕ) (answer : Answer) → s.alone ≡ true → HasSat s old mid workers elects (Ok tt)
    → GrewAsking s [] mid new → WorksOnly mid new → idle_takes new ≡ idle_takes mid → OnOk answer (NoneOut s mid → NoneOut s new) → OnOk answer (NoReaderOut s mid → NoReaderOut s new)
    → OnOk answer (AnyReady (world_of s new) → ⊥) → IfErr answer (IsStopped s new) → HasWaited s old new workers elects answer
waited_off given read s old mid new workers elects answer alone h grew only takes rest readers ready stopped = record {
  grew = asking_on s [] [] old mid new (sat_grew s old mid workers elects (Ok tt) h) grew;
  only = waits_on old mid new (sat_only s old mid workers elects (Ok tt) h) (works_wait mid new only);
  takes = (let first : idle_takes mid ≤ idle_takes old + workers = sat_takes s old mid workers elects (Ok tt) h in omega (arith, first, takes));
  elected = (
      let first : elections mid ≡ elections old + elects = sat_elected s old mid workers elects (Ok tt) h in
      let second : elections new ≡ elections mid = works_elect_none mid new only in
      elected_any elects old new answer (second ∙ first));
  rest = ok_by (NoneOut s mid → NoneOut s new) (NoneOut s old → NoReaderOut s old → NoneOut s new) answer (λ to none reads. to (sat_rest s old mid workers elects (Ok tt) h given h.worked.over none)) rest;
  readers = ok_by (NoReaderOut s mid → NoReaderOut s new) (NoneOut s old → NoReaderOut s old → NoReaderOut s new) answer (λ to none reads. to (sat_readers s old mid workers elects (Ok tt) h read h.worked.over reads)) readers;
  ready = ready;
  stopped = err_by (IsStopped s new) (StoppedIn s new) answer (λ e was. stopped_in s new e was) stopped;
}

-- the desk came back with all entries
pub sat_by : (s : Start) (before : List Moment) (lock : LockId) (first last : Seen) (new : List Moment) (workers elects : ℕ) (answer : Answer) → IsBack s before lock first last workers elects answer → new ≡ before ++ last.seen
    → last.mine ≡ places_from 0 last.seen
    → HasSat s before new workers elects answer
sat_by s before lock first last new workers elects answer back is mine = record {
  more = last.seen;
  is = is;
  legal = subst (Legal s) (sym is) back.fit.legal;
  worked =
      subst (λ (l : List Moment). AreWorked s l (calls_at (length before) last.seen) workers elects answer) (sym is)
      (subst (λ (calls : List Call). AreWorked s (before ++ last.seen) calls workers elects answer) (ap (calls_in (length before) last.seen) mine ∙ calls_whole (length before) last.seen) back.worked);
}
