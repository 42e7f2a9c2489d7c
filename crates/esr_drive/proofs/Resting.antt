-- No ticket is out after a round, nor one of a restore.
use Rattle.std.proofs.Common.{◌≡◌, ◌≢◌, ℕ, ◌≤◌, true, true≢false, Option, Some, IfSome, List, [], ◌∷◌, ◌++◌, append-nil, append_assoc, sym, ap, ◌∙◌, subst, ⊎_elim, arith}
use Rattle.std.proofs.lemmas.Bool.{false_from_ne_true}
use Rattle.esr_core.specs.Entry.{Step, TakeStep, NothingReady, Given, Gave, Reply, Entry, Moment}
use Rattle.esr_desk.specs.declared.unit.Unit.{Unit as Taken}
use Rattle.esr_desk.specs.Calls.{Call, HasTaken}
use Rattle.esr_desk.specs.Start.{Start, ticket_of}
use Rattle.esr_desk.specs.Own.{reader_of}
use Rattle.esr_desk.specs.Outcome.{Stepped}
use Rattle.esr_desk.specs.Grew.{AllOf, GrewBy, NoneOut}
use Rattle.esr_model.specs.Values.{Has}
use Rattle.esr_drive.specs.Laws.{Laws}
use Rattle.esr_drive.specs.Over.{NoReaderOut, IsOver}
use Rattle.esr_drive.specs.Ended.{WasGiven}
use Rattle.esr_drive.proofs.Coming.{ticket_from, reader_from}

pub is_some : (n : ℕ) → 1 ≤ n → n ≢ 0
is_some n le e = let has : 1 ≤ n = le in let none : n ≡ 0 = e in omega (arith, has, none)

-- the number of a ticket that was given
pub took_number : (calls : List Call) (o : Option Taken) (u : Taken) → o ≡ Some u → IfSome o (λ x. HasTaken calls x.ready.ticket) → u.ready.ticket ≢ 0
took_number calls o u is h =
    let taken : HasTaken calls u.ready.ticket = subst (λ (x : Option Taken). IfSome x (λ y. HasTaken calls y.ready.ticket)) is h in
    is_some u.ready.ticket taken.some

-- ---- which steps give a ticket

-- no step of a ticket
none_given : (who : ℕ) (more : List Moment) (k : ℕ) → who ≢ 0 → AllOf who more → WasGiven more k → ⊥
none_given who [] k some own given = given.there
none_given who (m ∷ more) k some own given =
    ⊎_elim
    (λ (here : m ≡ given.moment). some (sym own.0 ∙ ap (λ (x : Moment). x.entry.who) here ∙ ap (λ (e : Entry). e.who) given.entry))
    (λ (there : Has more given.moment). none_given who more k some own.1 (record { moment = given.moment; there = there; op = given.op; unit = given.unit; entry = given.entry }))
    given.there

-- the answer gives no unit
abbrev pub GivesNone : Reply → Type 0
GivesNone reply = (ticket op : ℕ) (unit : Given) → reply ≢ Gave ticket op unit

pub nothing_none : GivesNone NothingReady
nothing_none ticket op unit e = cc

-- no step that is answered so
not_given : (m : Moment) (k : ℕ) → GivesNone m.entry.reply → WasGiven (m ∷ []) k → ⊥
not_given m k none given =
    ⊎_elim
    (λ (here : m ≡ given.moment). none k given.op given.unit (ap (λ (x : Moment). x.entry.reply) here ∙ ap (λ (e : Entry). e.reply) given.entry))
    (λ (there : Has [] given.moment). there)
    given.there

pub gave_number : (j o k p : ℕ) (u v : Given) → Gave j o u ≡ Gave k p v → k ≡ j
gave_number j o k p u v e = cc

module _ (laws : Laws) (s : Start) (alone : s.alone ≡ true) where
  front_is : (old new : List Moment) (step : Step) (reply : Reply) (h : Stepped s old new 0 step reply) → h.front ≡ old
  front_is old new step reply h = h.waited.grew ∙ ap (λ (l : List Moment). old ++ l) (h.waited.nobody alone) ∙ append-nil old

  abbrev last_of : {old new : List Moment} {step : Step} {reply : Reply} → Stepped s old new 0 step reply → Moment
  last_of {old} {new} {step} {reply} h = record { entry = record { who = 0; step = step; reply = reply }; image = h.image }

  pub stepped_is : (old new : List Moment) (step : Step) (reply : Reply) (h : Stepped s old new 0 step reply) → new ≡ old ++ last_of h ∷ []
  stepped_is old new step reply h = h.is ∙ ap (λ (l : List Moment). l ++ last_of h ∷ []) (front_is old new step reply h)

  -- ---- where no unit is given

  pub step_rest : (old new : List Moment) (step : Step) (reply : Reply) → GivesNone reply → Stepped s old new 0 step reply → NoneOut s old → NoneOut s new
  step_rest old new step reply none h rest k =
      false_from_ne_true (ticket_of s new k).out (λ out.
      ⊎_elim
      (λ (was : (ticket_of s old k).out ≡ true). true≢false (sym was ∙ rest k))
      (λ (given : WasGiven (last_of h ∷ []) k). not_given (last_of h) k none given)
      (ticket_from laws s old (last_of h ∷ []) new (stepped_is old new step reply h) k h.legal out))

  pub step_readers : (old new : List Moment) (step : Step) (reply : Reply) → GivesNone reply → Stepped s old new 0 step reply → NoReaderOut s old → NoReaderOut s new
  step_readers old new step reply none h rest k =
      false_from_ne_true (reader_of s new k).out (λ out.
      ⊎_elim
      (λ (was : (reader_of s old k).out ≡ true). true≢false (sym was ∙ rest k))
      (λ (given : WasGiven (last_of h ∷ []) k). not_given (last_of h) k none given)
      (reader_from laws s old (last_of h ∷ []) new (stepped_is old new step reply h) k h.legal out))

  -- ---- where one is taken and worked

  module _ (old took new : List Moment) (ticket op : ℕ) (unit : Given) (some : ticket ≢ 0) (h : Stepped s old took 0 TakeStep (Gave ticket op unit)) (g : GrewBy s ticket took new) (over : IsOver s new ticket) where
    whole : new ≡ old ++ (last_of h ∷ g.more)
    whole = g.is ∙ ap (λ (l : List Moment). l ++ g.more) (stepped_is old took TakeStep (Gave ticket op unit) h) ∙ append_assoc old (last_of h ∷ []) g.more

    -- no other ticket is given
    in_round : (k : ℕ) → WasGiven (last_of h ∷ g.more) k → k ≡ ticket
    in_round k given =
        ⊎_elim
        (λ (here : last_of h ≡ given.moment). gave_number ticket op k given.op unit given.unit (ap (λ (x : Moment). x.entry.reply) here ∙ ap (λ (e : Entry). e.reply) given.entry))
        (λ (there : Has g.more given.moment). absurd (none_given ticket g.more k some (g.own alone) (record { moment = given.moment; there = there; op = given.op; unit = given.unit; entry = given.entry })))
        given.there

    pub unit_rest : NoneOut s old → NoneOut s new
    unit_rest rest k =
        false_from_ne_true (ticket_of s new k).out (λ out.
        ⊎_elim
        (λ (was : (ticket_of s old k).out ≡ true). true≢false (sym was ∙ rest k))
        (λ (given : WasGiven (last_of h ∷ g.more) k). true≢false (sym out ∙ ap (λ (j : ℕ). (ticket_of s new j).out) (in_round k given) ∙ over.ticket))
        (ticket_from laws s old (last_of h ∷ g.more) new whole k (g.legal h.legal) out))

    pub unit_readers : NoReaderOut s old → NoReaderOut s new
    unit_readers rest k =
        false_from_ne_true (reader_of s new k).out (λ out.
        ⊎_elim
        (λ (was : (reader_of s old k).out ≡ true). true≢false (sym was ∙ rest k))
        (λ (given : WasGiven (last_of h ∷ g.more) k). true≢false (sym out ∙ ap (λ (j : ℕ). (reader_of s new j).out) (in_round k given) ∙ over.reader))
        (reader_from laws s old (last_of h ∷ g.more) new whole k (g.legal h.legal) out))
