-- The calls that a round adds, and that their tickets have ended; what a take says of readiness.
use Rattle.std.proofs.Common.{◌≡◌, ℕ, ◌+◌, ◌-◌, Bool, true, false, List, [], ◌∷◌, ◌++◌, length, Option, Some, None, Ok, Err, append-nil, append_assoc, refl, sym, ap, ◌∙◌, subst, inl, inr, ⊎_elim, arith}
use Rattle.esr_model.specs.Values.{Has, Formats}
use Rattle.esr_model.specs.Image.{Image}
use Rattle.esr_model.specs.Lists.{Has-either}
use Rattle.esr_core.specs.World.{World}
use Rattle.esr_core.specs.Ready.{AnyReady}
use Rattle.esr_core.specs.Entry.{Given, Step, TakeStep, Reply, NothingReady, Gave, Refusal, Refused, Moment}
use Rattle.esr_core.specs.Allowed as allowed
use Rattle.esr_core.specs.Allowed.{Allows, Allowed}
use Rattle.esr_desk.specs.declared.refusal.StepRefusal.{StepRefusal}
use Rattle.esr_desk.specs.Calls.{Call, with_call, with_refusal}
use Rattle.esr_desk.specs.Start.{Start, Legal, formats_of, world_of}
use Rattle.esr_desk.specs.Outcome.{Stepped}
use Rattle.esr_quiet.specs.PrefixLaws.{legal_rest}
use Rattle.esr_drive.specs.Calls.{TakeCalls, WorkedCalls, found_none}
use Rattle.esr_drive.specs.Ended.{EachOver, AllEnded}
use Rattle.esr_drive.specs.Laws.{Laws}
use Rattle.esr_drive.specs.Over.{IsOver}
use Rattle.esr_drive.specs.Takes.{idle_take, idle_calls}
use Rattle.esr_drive.proofs.Resting.{nothing_none, gave_number, stepped_is}

idle_both : (a b : List Call) → idle_calls (a ++ b) ≡ idle_calls a + idle_calls b
idle_both [] b = omega arith
idle_both (c ∷ a) b = let rest : idle_calls (a ++ b) ≡ idle_calls a + idle_calls b = idle_both a b in omega (arith, rest)

append_same : (a b c : List Call) → a ++ b ≡ a ++ c → b ≡ c
append_same [] b c e = e
append_same (x ∷ a) b c e = append_same a b c (ap rest e)
  where
    rest : List Call → List Call
    rest [] = []
    rest (y ∷ ys) = ys

-- ---- takes

pub calls_none : (calls : List Call) → TakeCalls 0 calls calls
calls_none calls = record { more = []; is = sym (append-nil calls); takes = λ c has. absurd has; idle = refl }

pub calls_on : (count : ℕ) (a b c : List Call) → TakeCalls 0 a b → TakeCalls count b c → TakeCalls count a c
calls_on count a b c first second =
    let whole : idle_calls (first.more ++ second.more) ≡ idle_calls first.more + idle_calls second.more = idle_both first.more second.more in
    let none : idle_calls first.more ≡ 0 = first.idle in
    let some : idle_calls second.more ≡ count = second.idle in
    record {
      more = first.more ++ second.more;
      is = second.is ∙ ap (λ (l : List Call). l ++ second.more) first.is ∙ append_assoc a first.more second.more;
      takes = λ x has. ⊎_elim (first.takes x) (second.takes x) (Has-either first.more second.more x has);
      idle = omega (arith, whole, none, some);
    }

-- one more
pub calls_took : (log : List Moment) (reply : Reply) (old new : List Call) → new ≡ with_call log TakeStep reply old → TakeCalls (idle_take 0 TakeStep reply) old new
calls_took log reply old new is =
    let call : Call = record { place = length log - 1; entry = record { who = 0; step = TakeStep; reply = reply } } in
    record {
      more = call ∷ [];
      is = is;
      takes = λ c has. ⊎_elim (λ (here : call ≡ c). ap (λ (x : Call). x.entry.step) (sym here)) (λ (none : Has [] c). absurd none) has;
      idle = omega arith;
    }

-- ... or none, where it was refused and not told
pub calls_refused : (log : List Moment) (refusal : Option Refusal) (old new : List Call) → new ≡ with_refusal log TakeStep refusal old → TakeCalls 0 old new
calls_refused log None old new is = subst (TakeCalls 0 old) (sym is) (calls_none old)
calls_refused log (Some refusal) old new is = calls_took log (Refused refusal) old new is

-- the work came to its end by a take that found none
pub worked_out : (old new : List Call) → TakeCalls 1 old new → WorkedCalls old new (Ok tt)
worked_out old new t = let last : idle_calls t.more ≡ 1 = t.idle in record { more = t.more; is = t.is; takes = t.takes; idle = omega (arith, last); one = t.idle }

-- ... or was stopped before
pub worked_some : (old new : List Call) (e : StepRefusal) → TakeCalls 0 old new → WorkedCalls old new (Err e)
worked_some old new e t = let none : idle_calls t.more ≡ 0 = t.idle in record { more = t.more; is = t.is; takes = t.takes; idle = omega (arith, none); one = tt }

pub found_true : (did : Bool) → did ≡ true → found_none (Ok did) ≡ 0
found_true did is = ap (λ (b : Bool). found_none (Ok b)) is

pub found_false : (did : Bool) → did ≡ false → found_none (Ok did) ≡ 1
found_false did is = ap (λ (b : Bool). found_none (Ok b)) is

-- ---- whose tickets have ended

all_ended : (s : Start) (log : List Moment) (old new more : List Call) → new ≡ old ++ more → EachOver s log more → AllEnded s log old new
all_ended s log old new more is each others others_is = subst (EachOver s log) (append_same old more others (sym is ∙ others_is)) each

pub ended_none : (s : Start) (log : List Moment) (calls : List Call) → AllEnded s log calls calls
ended_none s log calls = all_ended s log calls calls [] (sym (append-nil calls)) (λ c k o u has. absurd has)

pub ended_on : (s : Start) (mid new : List Moment) (count more : ℕ) (a b c : List Call) → ((k : ℕ) → IsOver s mid k → IsOver s new k) → TakeCalls count a b → TakeCalls more b c → AllEnded s mid a b → AllEnded s new b c
    → AllEnded s new a c
ended_on s mid new count more a b c over first second early late =
    all_ended s new a c (first.more ++ second.more) (second.is ∙ ap (λ (l : List Call). l ++ second.more) first.is ∙ append_assoc a first.more second.more)
    (λ x k o u has gave. ⊎_elim (λ (was : Has first.more x). over k (early first.more first.is x k o u was gave)) (λ (is : Has second.more x). late second.more second.is x k o u is gave) (Has-either first.more second.more x has))

pub ended_took : (s : Start) (log seen : List Moment) (ticket op : ℕ) (unit : Given) (old new : List Call) → new ≡ with_call log TakeStep (Gave ticket op unit) old → IsOver s seen ticket → AllEnded s seen old new
ended_took s log seen ticket op unit old new is over =
    let call : Call = record { place = length log - 1; entry = record { who = 0; step = TakeStep; reply = Gave ticket op unit } } in
    all_ended s seen old new (call ∷ []) is
    (λ c k o u has gave.
    ⊎_elim
    (λ (here : call ≡ c). subst (IsOver s seen) (sym (gave_number ticket op k o unit u (ap (λ (x : Call). x.entry.reply) here ∙ gave))) over)
    (λ (none : Has [] c). absurd none)
    has)

pub ended_idle : (s : Start) (log seen : List Moment) (old new : List Call) → new ≡ with_call log TakeStep NothingReady old → AllEnded s seen old new
ended_idle s log seen old new is =
    let call : Call = record { place = length log - 1; entry = record { who = 0; step = TakeStep; reply = NothingReady } } in
    all_ended s seen old new (call ∷ []) is
    (λ c k o u has gave.
    ⊎_elim
    (λ (here : call ≡ c). absurd (nothing_none k o u (ap (λ (x : Call). x.entry.reply) here ∙ gave)))
    (λ (none : Has [] c). absurd none)
    has)

-- ---- a take that finds no unit

abbrev SaysNone : World → Step → Reply → Type 0
SaysNone w TakeStep NothingReady = AnyReady w → ⊥
SaysNone w step reply = Unit {0}

says_none : (f : Formats) (size : ℕ) (w : World) (who : ℕ) (step : Step) (reply : Reply) (image : Option Image) → Allows f size w who step reply image → SaysNone w step reply
says_none f size w who step reply image (allowed.GivingNothing im none same) = none
says_none f size w who step reply image other = tt

nothing_refused : (refusal : Refusal) → NothingReady ≡ Refused refusal → ⊥
nothing_refused refusal e = cc

-- no record swap had failed, and none was ready
pub found_no_unit : Laws → (s : Start) (old new : List Moment) → s.alone ≡ true → Stepped s old new 0 TakeStep NothingReady → ((world_of s old).deposed ≡ false → AnyReady (world_of s old)) → ⊥
found_no_unit laws s old new alone h ready =
    let f = formats_of s in
    let m : Moment = record { entry = record { who = 0; step = TakeStep; reply = NothingReady }; image = h.image } in
    let a : Allowed f s.part_size (world_of s old) m = (legal_rest f s.part_size old (m ∷ []) s.world (subst (Legal s) (stepped_is laws s alone old new TakeStep NothingReady h) h.legal)).0 in
    elim a.answered [
      | inl alive ↦ says_none f s.part_size (world_of s old) 0 TakeStep NothingReady h.image alive.1 (ready alive.0)
      | inr dead ↦ nothing_refused dead.refusal dead.refused
    ]
