-- What lines make of a history.
use Rattle.std.proofs.Common.{◌≡◌, ◌≢◌, ◌⊎◌, ◌||◌, ℕ, zero, suc, ◌+◌, ◌-◌, ◌^◌, ◌≤◌, take, take_all, true, false, List, [], ◌∷◌, ◌++◌, drop, ◌<◌, Bool, Some, slice_index_or, if◌then◌else◌, length, length-append, None, Option, Result, Ok, Err, OnOk, IfErr, IsErr, nat_cmp, append-nil, append_assoc, refl, sym, ap, ◌∙◌, subst, inl, inr, ⊎_elim, arith}
use Rattle.std.specs.FinMap.{FinMap}
use Rattle.std.specs.FinMap as fin
use Rattle.esr_model.specs.Values.{Has, IndexRef, RootSnap, Formats}
use Rattle.esr_core.specs.World.{World, Ticket, Reader}
use Rattle.esr_core.specs.After.{after}
use Rattle.esr_core.specs.History.{world_from, IsLegal}
use Rattle.esr_core.specs.Tracked.{Tracked}
use Rattle.esr_core.specs.Entry.{Given, Gave, Step, Reply, Accepted, AcceptedRestore, Looked, Refusal, Refused, Moment}
use Rattle.esr_script.specs.declared.item.Item.{Item}
use Rattle.esr_script.specs.declared.item.Item.TheVariants as items
use Rattle.esr_script.specs.declared.item.ScriptLine.{ScriptLine}
use Rattle.esr_desk.specs.declared.refusal.StepRefusal.{StepRefusal}
use Rattle.esr_desk.specs.declared.refusal.StepRefusal.TheVariants as steps
use Rattle.esr_desk.specs.declared.refusal.EntryRefusal.{EntryRefusal}
use Rattle.esr_desk.specs.Refusals.{refusal_of, told_refusal}
use Rattle.esr_desk.specs.Start.{Start, Legal, formats_of, world_of, or_no_ticket, ticket_of}
use Rattle.esr_desk.specs.Outcome.{Stepped, Refusing, Outcome}
use Rattle.esr_desk.specs.Grew.{NoneOut}
use Rattle.esr_desk.specs.Own.{or_no_reader, reader_of}
use Rattle.esr_quiet.specs.Asked.{GrewAsking}
use Rattle.esr_quiet.specs.Asking.{asking_none, asking_on, asks_of, asking_refused}
use Rattle.esr_quiet.specs.Numbers.{HasNoTickets}
use Rattle.esr_drive.specs.Stopped.{StoppedIn}
use Rattle.esr_complete.specs.Lines.{steps_of_item, steps_of, failovers_in, failovers_of}
use Rattle.esr_complete.specs.Answers.{NoReaderOut, IsIdle}
use Rattle.esr_run.specs.Script.{is_carried, first_bad}
use Rattle.esr_run.specs.Laws.{StepsStay}
use Rattle.esr_drive.specs.Elections.{WaitsOnly, elections, HasElected}
use Rattle.esr_check.specs.Began.{HasEndedCheck}
use Rattle.esr_script.specs.Kinds.{is_check}
use Rattle.esr_model.specs.Lists.{Has-left}
use Rattle.esr_run.specs.Checked.{asks_check}
use Rattle.esr_run.specs.Waits.{owed_after, owed_then, LineElected, LineElects}
use Rattle.esr_run.specs.Made.{MadeFirst, SomeStopped, HasStopped, HasNoReaders, AreIn, LineMade, LineRests, WaitEnds, NoneReady, AreElected, WaitEnded, WaitsEnded, Owes, AreMade, AreDone, NoneOpen, WasLeft, AreAsked, LineSpends, WasLookRefused, CheckEnded, ChecksEnded, AsksLine, LinePart, AreInParts, AskedApart, AddsOnly, IsWaiting, InOrStopped, WaitsOrStopped, AskedUnlessStopped}
use Rattle.esr_verify.specs.Began as verifying
use Rattle.esr_check.specs.Began as checking
use Rattle.esr_run.proofs.Apart.{apart_none, apart_on, TakesAfter, is_waiting, waits_apart, line_apart, cut_apart}

abbrev Readers : Type 0
Readers = FinMap nat_cmp Reader

-- ---- a step of who 0 that takes no unit

-- it gives none
abbrev pub GivesNone : Reply → Type 0
GivesNone reply = (ticket op : ℕ) (unit : Given) → reply ≢ Gave ticket op unit

refused_none : (refusal : Refusal) → GivesNone (Refused refusal)
refused_none refusal ticket op unit e = cc

pub accepted_none : (op : ℕ) → GivesNone (Accepted op)
accepted_none op ticket o unit e = cc

pub restore_none : (op uuid : ℕ) (indices : List IndexRef) → GivesNone (AcceptedRestore op uuid indices)
restore_none op uuid indices ticket o unit e = cc

pub looked_none : (snapshots : List RootSnap) (safe : ℕ) → GivesNone (Looked snapshots safe)
looked_none snapshots safe ticket o unit e = cc

pub same_or_not : (k : ℕ) → (k ≡ 0) ⊎ (k ≢ 0)
same_or_not zero = inl refl
same_or_not (suc k) = inr (λ (e : suc k ≡ zero). omega (arith, e))

-- ---- one more moment

pub world_one : (f : Formats) (w : World) (log : List Moment) (m : Moment) → world_from f w (log ++ m ∷ []) ≡ after f (world_from f w log) m
world_one f w [] m = refl
world_one f w (n ∷ log) m = world_one f (after f w n) log m

pub legal_one : (f : Formats) (size : ℕ) (w : World) (log : List Moment) (m : Moment) → IsLegal f size w (log ++ m ∷ []) → IsLegal f size w log × IsLegal f size (world_from f w log) (m ∷ [])
legal_one f size w [] m legal = (tt, legal)
legal_one f size w (n ∷ log) m legal = let h = legal_one f size (after f w n) log m legal.1 in ((legal.0, h.0), h.1)

pub legal_front : (f : Formats) (size : ℕ) (front back : List Moment) (w : World) → IsLegal f size w (front ++ back) → IsLegal f size w front
legal_front f size [] back w legal = tt
legal_front f size (m ∷ front) back w legal = (legal.0, legal_front f size front back (after f w m) legal.1)

-- where no turn was taken before, each of them added an entry
pub all_entries : (s : Start) (log : List Moment) → s.earlier_turns ≡ 0 → 2 ^ 33 ≤ s.earlier_turns + length log → 2 ^ 33 ≤ length log
all_entries s log none spent =
    let most : 2 ^ 33 ≤ s.earlier_turns + length log = spent in
    let zero_turns : s.earlier_turns ≡ 0 = none in
    omega (arith, most, zero_turns)

module _ (laws : StepsStay) (s : Start) (numbered : HasNoTickets s) (ops : Tracked s.world) (alone : s.alone ≡ true) where
  stepped_rests : (old new : List Moment) (step : Step) (reply : Reply) → GivesNone reply → Stepped s old new 0 step reply → NoneOut s old → NoneOut s new
  stepped_rests old new step reply none h rest k =
      let m : Moment = record { entry = record { who = 0; step = step; reply = reply }; image = h.image } in
      let front : h.front ≡ old = h.waited.grew ∙ ap (λ (l : List Moment). old ++ l) (h.waited.nobody alone) ∙ append-nil old in
      let is : new ≡ old ++ m ∷ [] = h.is ∙ ap (λ (l : List Moment). l ++ m ∷ []) front in
      ⊎_elim
      (λ (e : k ≡ 0). ap (λ (j : ℕ). (ticket_of s new j).out) e ∙ ap (λ (t : Ticket). t.out) (laws.none s new numbered))
      (λ (n : k ≢ 0).
      let same : ticket_of s new k ≡ ticket_of s old k = subst (λ (l : List Moment). ticket_of s l k ≡ ticket_of s old k) (sym is) (laws.nothing s old m k (subst (Legal s) is h.legal) refl none n) in
      ap (λ (t : Ticket). t.out) same ∙ rest k)
      (same_or_not k)

  -- no ticket of a restore is given
  same_readers : (old : List Moment) (m : Moment) → AsksLine m.entry.step → Legal s (old ++ m ∷ []) → (world_of s (old ++ m ∷ [])).readers ≡ (world_of s old).readers
  same_readers old m asks legal =
      let f = formats_of s in
      let both = legal_one f s.part_size s.world old m legal in
      let tracked : Tracked (world_of s old) = laws.tracked f s.part_size s.world old ops both.0 in
      ap (λ (w : World). w.readers) (world_one f s.world old m)
      ∙ ⊎_elim (λ a. laws.asks f s.part_size (world_of s old) m a.0 tracked both.1.0 a.1) (λ l. laws.looks f s.part_size (world_of s old) m tracked both.1.0 l) asks

  stepped_readers : (old new : List Moment) (step : Step) (reply : Reply) → AsksLine step → Stepped s old new 0 step reply → NoReaderOut s old → NoReaderOut s new
  stepped_readers old new step reply asks h rest k =
      let m : Moment = record { entry = record { who = 0; step = step; reply = reply }; image = h.image } in
      let front : h.front ≡ old = h.waited.grew ∙ ap (λ (l : List Moment). old ++ l) (h.waited.nobody alone) ∙ append-nil old in
      let is : new ≡ old ++ m ∷ [] = h.is ∙ ap (λ (l : List Moment). l ++ m ∷ []) front in
      ap (λ (l : List Moment). (reader_of s l k).out) is
      ∙ ap (λ (x : Readers). (or_no_reader (fin.get x k)).out) (same_readers old m asks (subst (Legal s) is h.legal))
      ∙ rest k

  stepped_in : (old new : List Moment) (step : Step) (reply : Reply) → AsksLine step → GivesNone reply → Stepped s old new 0 step reply → AreIn s old → AreIn s new
  stepped_in old new step reply asks none h rest = record { tickets = stepped_rests old new step reply none h rest.tickets; readers = stepped_readers old new step reply asks h rest.readers }

  pub rests_by : {X : Type 0} (earlier : s.earlier_turns ≡ 0) (old new : List Moment) (step : Step) (ok : X → Reply) (result : Result X StepRefusal) → AsksLine step → ((x : X) → GivesNone (ok x)) → Outcome s old new 0 step ok result
      → AreIn s old → LineRests s new result
  rests_by earlier old new step ok (Ok x) asks none h rest = stepped_in old new step (ok x) asks (none x) h rest
  rests_by earlier old new step ok (Err steps.Memory) asks none h rest = tt
  rests_by earlier old new step ok (Err steps.TurnsSpent) asks none h rest = all_entries s new earlier h.1
  rests_by earlier old new step ok (Err (steps.Refused refusal)) asks none h rest = inl (stepped_in old new step (Refused (refusal_of refusal)) asks (refused_none (refusal_of refusal)) h.0 rest)

-- ---- turns that are spent

pub spent_by : {X : Type 0} (s : Start) (old new : List Moment) (step : Step) (ok : X → Reply) (result : Result X StepRefusal) → s.earlier_turns ≡ 0 → Outcome s old new 0 step ok result → LineSpends new result
spent_by s old new step ok (Err steps.TurnsSpent) earlier h = all_entries s new earlier h.1
spent_by s old new step ok result earlier h = tt

-- ---- a line that was refused

-- a front of what it asks for was asked, and all of it where the history tells the refusal
pub made_asked : (s : Start) (old new : List Moment) (step wanted : Step) (e : StepRefusal) → asks_of step ≡ wanted ∷ [] → Refusing s old new 0 step (told_refusal e) → LineMade {X = Unit} s (wanted ∷ []) old new (Err e)
made_asked s old new step wanted (steps.Refused refusal) asks h = subst (λ (l : List Step). GrewAsking s l old new) asks (asking_refused s old new step (Some (refusal_of refusal)) h)
made_asked s old new step wanted e asks h = record { first = []; rest = wanted ∷ []; grew = asking_refused s old new step None h; is = refl }

pub made_refused : (s : Start) (old new : List Moment) (step : Step) (e : StepRefusal) → asks_of step ≡ step ∷ [] → Refusing s old new 0 step (told_refusal e) → LineMade {X = Unit} s (step ∷ []) old new (Err e)
made_refused s old new step e asks h = made_asked s old new step step e asks h

-- where it asks for nothing, nothing was asked
none_first : (first rest : List Step) → first ++ rest ≡ [] → first ≡ []
none_first [] rest e = refl
none_first (x ∷ first) rest e = absurd cc

made_nothing : (s : Start) (old new : List Moment) → MadeFirst s [] old new → GrewAsking s [] old new
made_nothing s old new h = subst (λ (l : List Step). GrewAsking s l old new) (none_first h.first h.rest h.is) h.grew

pub made_none : (s : Start) (old new : List Moment) (r : Result Unit StepRefusal) → LineMade s [] old new r → GrewAsking s [] old new
made_none s old new (Err steps.Memory) h = made_nothing s old new h
made_none s old new (Err steps.TurnsSpent) h = made_nothing s old new h
made_none s old new r h = h

-- ---- a wait

pub rests_waiting : (s : Start) (old new : List Moment) (result : Result Unit StepRefusal) → s.earlier_turns ≡ 0 → OnOk result (NoneOut s old → NoReaderOut s old → NoneOut s new)
    → OnOk result (NoneOut s old → NoReaderOut s old → NoReaderOut s new) → IfErr result (StoppedIn s new) → AreIn s old → LineRests s new result
rests_waiting s old new (Ok x) earlier rest readers stopped none = record { tickets = rest none.tickets none.readers; readers = readers none.tickets none.readers }
rests_waiting s old new (Err steps.Memory) earlier rest readers stopped none = tt
rests_waiting s old new (Err steps.TurnsSpent) earlier rest readers stopped none = all_entries s new earlier stopped
rests_waiting s old new (Err (steps.Refused refusal)) earlier rest readers stopped none = inr (inl (refusal_of refusal, stopped))

pub spends_waiting : (s : Start) (new : List Moment) (result : Result Unit StepRefusal) → s.earlier_turns ≡ 0 → IfErr result (StoppedIn s new) → LineSpends new result
spends_waiting s new (Err steps.TurnsSpent) earlier stopped = all_entries s new earlier stopped
spends_waiting s new result earlier stopped = tt

pub made_waiting : (s : Start) (old new : List Moment) (result : Result Unit StepRefusal) → GrewAsking s [] old new → LineMade s [] old new result
made_waiting s old new (Err steps.Memory) g = record { first = []; rest = []; grew = g; is = refl }
made_waiting s old new (Err steps.TurnsSpent) g = record { first = []; rest = []; grew = g; is = refl }
made_waiting s old new result g = g

pub wait_ends : (s : Start) (new : List Moment) (result : Result Unit StepRefusal) → OnOk result (NoneReady s new) → IfErr result (StoppedIn s new) → WaitEnds s new result
wait_ends s new (Ok x) ready stopped = ready
wait_ends s new (Err (steps.Refused refusal)) ready stopped = inl (refusal_of refusal, stopped)
wait_ends s new result ready stopped = tt

-- ---- line after line

-- what was stopped stays so
pub stopped_stays : (s : Start) (asked : List Step) (old new : List Moment) → GrewAsking s asked old new → HasStopped old → HasStopped new
stopped_stays s asked old new g (inl some) =
    let was = some.1 in
    inl (
      some.0,
      record {
        moment = was.moment;
        there = subst (λ (l : List Moment). Has l was.moment) (sym g.is) (Has-left old g.more was.moment was.there);
        same = was.same;
        step = was.step;
        stops = was.stops;
      },
    )
stopped_stays s asked old new g (inr all) =
    let whole : length new ≡ length old + length g.more = ap length g.is ∙ length-append old g.more in
    let most : 2 ^ 33 ≤ length old = all in
    inr (omega (arith, whole, most))

-- ---- waits that have ended

wait_or_not : (item : Item) → (item ≡ items.Wait) ⊎ (item ≢ items.Wait)
wait_or_not items.Wait = inl refl
wait_or_not item = inr (λ e. cc)

-- no ticket is out after a line, and after a wait no unit is ready, unless the work was stopped
abbrev pub LineEnded : Start → Item → List Moment → Type 0
LineEnded s item new = (AreIn s new × (item ≡ items.Wait → NoneReady s new)) ⊎ HasStopped new

pub refused_line : (s : Start) (item : Item) (new : List Moment) → AreIn s new ⊎ HasStopped new → (item ≡ items.Wait → HasStopped new) → LineEnded s item new
refused_line s item new rests stopped =
    ⊎_elim
    (λ (wait : item ≡ items.Wait). inr (stopped wait))
    (λ (other : item ≢ items.Wait). ⊎_elim (λ (none : AreIn s new). inl (none, λ wait. absurd (other wait))) (λ (was : HasStopped new). inr was) rests)
    (wait_or_not item)

wait_on : (s : Start) (moment : ℕ) (before : List ScriptLine) (asked : List Step) (old mid new : List Moment) → GrewAsking s asked mid new → WaitEnded s moment before old mid → WaitEnded s moment before old new
wait_on s moment before asked old mid new g w = record {
  front = w.front;
  back = w.back ++ g.more;
  is = g.is ∙ ap (λ (log : List Moment). log ++ g.more) w.is ∙ append_assoc w.front w.back g.more;
  grew = w.grew;
  elected = w.elected;
  idle = w.idle;
}

wait_here : (s : Start) (moment : ℕ) (done : List ScriptLine) (item : Item) (old mid new : List Moment) → item ≡ items.Wait → GrewAsking s (steps_of moment done) old mid → GrewAsking s (steps_of_item moment item) mid new
    → AreElected done old new → AreIn s new → NoneReady s new → WaitEnded s moment done old new
wait_here s moment done item old mid new wait f g elected none ready = record {
  front = new;
  back = [];
  is = sym (append-nil new);
  grew =
      subst (λ (l : List Step). GrewAsking s l old new) (ap (λ (i : Item). steps_of moment done ++ steps_of_item moment i) wait ∙ append-nil (steps_of moment done)) (asking_on s (steps_of moment done) (steps_of_item moment item) old mid new f g);
  elected = elected;
  idle = record { none_out = none.tickets; no_reader = none.readers; none_ready = ready };
}

-- where a line stands among these and one more: it is the last, or stands before it
split_last : (done : List ScriptLine) (last : ScriptLine) (before : List ScriptLine) (line : ScriptLine) (after : List ScriptLine) → done ++ last ∷ [] ≡ before ++ line ∷ after
    → ((before ≡ done) × (line ≡ last)) ⊎ ((rest : List ScriptLine) × (done ≡ before ++ line ∷ rest))
split_last [] last [] line after e = inl (refl, cc)
split_last [] last (b ∷ before) line after e = absurd (none before line after (let rest : [] ≡ before ++ line ∷ after = cc in rest))
  where
    none : (before : List ScriptLine) (line : ScriptLine) (after : List ScriptLine) → [] ≡ before ++ line ∷ after → ⊥
    none [] line after e = cc
    none (b ∷ before) line after e = cc
split_last (d ∷ done) last [] line after e = let same : d ≡ line = cc in inr (done, ap (λ (l : ScriptLine). l ∷ done) same)
split_last (d ∷ done) last (b ∷ before) line after e =
    let same : d ≡ b = cc in
    let rest : done ++ last ∷ [] ≡ before ++ line ∷ after = cc in
    ⊎_elim
    (λ (here : (before ≡ done) × (line ≡ last)). inl (ap (λ (l : ScriptLine). l ∷ before) (sym same) ∙ ap (λ (l : List ScriptLine). d ∷ l) here.0, here.1))
    (λ (earlier : (r : List ScriptLine) × (done ≡ before ++ line ∷ r)). inr (earlier.0, ap (λ (l : List ScriptLine). d ∷ l) earlier.1 ∙ ap (λ (l : ScriptLine). l ∷ (before ++ line ∷ earlier.0)) same))
    (split_last done last before line after rest)

no_waits : (s : Start) (moment : ℕ) (old new : List Moment) → WaitsEnded s moment [] old new
no_waits s moment old new [] after line e wait = absurd cc
no_waits s moment old new (b ∷ before) after line e wait = absurd cc

waits_next : (s : Start) (moment : ℕ) (done : List ScriptLine) (line : ScriptLine) (old mid new : List Moment) → GrewAsking s (steps_of moment done) old mid → GrewAsking s (steps_of_item moment line.item) mid new
    → WaitsEnded s moment done old mid
    → (line.item ≡ items.Wait → AreElected done old new) → AreIn s new → (line.item ≡ items.Wait → NoneReady s new) → WaitsEnded s moment (done ++ line ∷ []) old new
waits_next s moment done line old mid new f g waits elected none ready before after l is wait =
    ⊎_elim
    (λ (here : (before ≡ done) × (l ≡ line)).
    let own : line.item ≡ items.Wait = sym (ap (λ (x : ScriptLine). x.item) here.1) ∙ wait in
    subst (λ (b : List ScriptLine). WaitEnded s moment b old new) (sym here.0) (wait_here s moment done line.item old mid new own f g (elected own) none (ready own)))
    (λ (earlier : (rest : List ScriptLine) × (done ≡ before ++ l ∷ rest)). wait_on s moment before (steps_of_item moment line.item) old mid new g (waits before earlier.0 l earlier.1 wait))
    (split_last done line before l after is)

-- ---- checks that have ended

-- a line ended as a check does
abbrev pub EndsCheck : Item → List Moment → List Moment → Type 0
EndsCheck item mid new = item ≡ items.Check → HasEndedCheck mid new ⊎ WasLookRefused mid new

check_on : (s : Start) (moment : ℕ) (before : List ScriptLine) (asked : List Step) (old mid new : List Moment) → GrewAsking s asked mid new → CheckEnded s moment before old mid → CheckEnded s moment before old new
check_on s moment before asked old mid new g c = record {
  front = c.front;
  mid = c.mid;
  back = c.back ++ g.more;
  is = g.is ∙ ap (λ (log : List Moment). log ++ g.more) c.is ∙ append_assoc c.mid c.back g.more;
  grew = c.grew;
  ended = c.ended;
}

no_checks : (s : Start) (moment : ℕ) (old new : List Moment) → ChecksEnded s moment [] old new
no_checks s moment old new [] after line e check = absurd cc
no_checks s moment old new (b ∷ before) after line e check = absurd cc

checks_next : (s : Start) (moment : ℕ) (done : List ScriptLine) (line : ScriptLine) (old mid new : List Moment) → GrewAsking s (steps_of moment done) old mid → GrewAsking s (steps_of_item moment line.item) mid new
    → ChecksEnded s moment done old mid → EndsCheck line.item mid new
    → ChecksEnded s moment (done ++ line ∷ []) old new
checks_next s moment done line old mid new f g checks ends before after l is check =
    ⊎_elim
    (λ (here : (before ≡ done) × (l ≡ line)).
    let own : line.item ≡ items.Check = sym (ap (λ (x : ScriptLine). x.item) here.1) ∙ check in
    subst (λ (b : List ScriptLine). CheckEnded s moment b old new) (sym here.0) (record { front = mid; mid = new; back = []; is = sym (append-nil new); grew = f; ended = ends own }))
    (λ (earlier : (rest : List ScriptLine) × (done ≡ before ++ l ∷ rest)). check_on s moment before (steps_of_item moment line.item) old mid new g (checks before earlier.0 l earlier.1 check))
    (split_last done line before l after is)

-- ---- the parts of lines

parts_next : (s : Start) (moment owed : ℕ) (done : List ScriptLine) (line : ScriptLine) (old mid new : List Moment) → AreInParts s moment owed done old mid → GrewAsking s (steps_of_item moment line.item) mid new → LinePart line.item mid new
    → LineElected (owed_then owed done) line.item mid new → AreInParts s moment owed (done ++ line ∷ []) old new
parts_next s moment owed [] line old mid new same g p e =
    (new, subst (λ (l : List Moment). GrewAsking s (steps_of_item moment line.item) l new) same g, subst (λ (l : List Moment). LinePart line.item l new) same p, subst (λ (l : List Moment). LineElected owed line.item l new) same e, refl)
parts_next s moment owed (d ∷ done) line old mid new (first, own, part, elects, rest) g p e = (first, own, part, elects, parts_next s moment (owed_after d.item owed) done line first mid new rest g p e)

-- ---- elections

-- after a line so many are still owed
abbrev pub LineCounts : ℕ → Item → List Moment → List Moment → Type 0
LineCounts owed item mid new = elections new + owed_after item owed ≡ (elections mid + owed) + failovers_in item

owed_next : (owed : ℕ) (done : List ScriptLine) (line : ScriptLine) → owed_then owed (done ++ line ∷ []) ≡ owed_after line.item (owed_then owed done)
owed_next owed [] line = refl
owed_next owed (d ∷ done) line = owed_next (owed_after d.item owed) done line

none_elected : (owed : ℕ) (mid new : List Moment) → elections new + owed ≡ (elections mid + owed) + 0 → elections new ≡ elections mid
none_elected owed mid new counts = let same : elections new + owed ≡ (elections mid + owed) + 0 = counts in omega (arith, same)

line_elected : (owed : ℕ) (item : Item) (mid new : List Moment) → LineCounts owed item mid new → LineElected owed item mid new
line_elected owed items.Wait mid new counts = let all : elections new + 0 ≡ (elections mid + owed) + 0 = counts in omega (arith, all)
line_elected owed items.Failover mid new counts = let same : elections new + suc owed ≡ (elections mid + owed) + 1 = counts in omega (arith, same)
line_elected owed item mid new counts = none_elected owed mid new counts

-- the history tells the answer
abbrev pub IsTold : Result Unit StepRefusal → Type 0
IsTold (Ok x) = Unit {0}
IsTold (Err steps.Memory) = ⊥
IsTold (Err steps.TurnsSpent) = ⊥
IsTold (Err (steps.Refused refusal)) = Unit {0}

wait_counts : (owed : ℕ) (mid new : List Moment) (r : Result Unit StepRefusal) → IsTold r → HasElected owed mid new r → elections new ≡ elections mid + owed
wait_counts owed mid new (Err steps.Memory) told h = absurd told
wait_counts owed mid new (Err steps.TurnsSpent) told h = absurd told
wait_counts owed mid new r told h = h

-- a line that elects nobody
other_counts : (owed : ℕ) (mid new : List Moment) → elections new ≡ elections mid → elections new + owed ≡ (elections mid + owed) + 0
other_counts owed mid new h = let same : elections new ≡ elections mid = h in omega (arith, same)

pub line_counts : (owed : ℕ) (item : Item) (mid new : List Moment) (r : Result Unit StepRefusal) → IsTold r → LineElects owed item mid new r → LineCounts owed item mid new
line_counts owed items.Wait mid new r told h = let all : elections new ≡ elections mid + owed = wait_counts owed mid new r told h in omega (arith, all)
line_counts owed items.Failover mid new r told h = let same : elections new ≡ elections mid = h in omega (arith, same)
line_counts owed item mid new r told h = other_counts owed mid new h

-- a line makes no more than are owed
pub some_counts : (owed : ℕ) (mid new : List Moment) (r : Result Unit StepRefusal) → HasElected owed mid new r → elections new ≤ elections mid + owed
some_counts owed mid new (Ok x) h = let all : elections new ≡ elections mid + owed = h in omega (arith, all)
some_counts owed mid new (Err (steps.Refused refusal)) h = let all : elections new ≡ elections mid + owed = h in omega (arith, all)
some_counts owed mid new r h = h

none_counts : (owed : ℕ) (mid new : List Moment) → elections new ≡ elections mid → elections new ≤ elections mid + owed
none_counts owed mid new h = let same : elections new ≡ elections mid = h in omega (arith, same)

pub line_few : (owed : ℕ) (item : Item) (mid new : List Moment) (r : Result Unit StepRefusal) → LineElects owed item mid new r → elections new ≤ elections mid + owed
line_few owed items.Wait mid new r h = some_counts owed mid new r h
line_few owed item mid new r h = none_counts owed mid new h

failovers_append : (a b : List ScriptLine) → failovers_of (a ++ b) ≡ failovers_of a + failovers_of b
failovers_append [] b = omega arith
failovers_append (line ∷ a) b = let rest : failovers_of (a ++ b) ≡ failovers_of a + failovers_of b = failovers_append a b in omega (arith, rest)

owes_next : (owed : ℕ) (done : List ScriptLine) (line : ScriptLine) (old mid new : List Moment) → Owes owed done old mid → LineCounts owed line.item mid new → Owes (owed_after line.item owed) (done ++ line ∷ []) old new
owes_next owed done line old mid new was counts =
    let before : elections mid + owed ≡ elections old + failovers_of done = was in
    let one : elections new + owed_after line.item owed ≡ (elections mid + owed) + failovers_in line.item = counts in
    let all : failovers_of (done ++ line ∷ []) ≡ failovers_of done + failovers_of (line ∷ []) = failovers_append done (line ∷ []) in
    let last : failovers_of (line ∷ []) ≡ failovers_in line.item + 0 = refl in
    omega (arith, before, one, all, last)

-- a wait makes all that are owed
elected_here : (owed : ℕ) (done : List ScriptLine) (item : Item) (old mid new : List Moment) → item ≡ items.Wait → Owes owed done old mid → LineCounts owed item mid new → AreElected done old new
elected_here owed done item old mid new wait was counts =
    let before : elections mid + owed ≡ elections old + failovers_of done = was in
    let one : elections new + 0 ≡ (elections mid + owed) + 0 = subst (λ (i : Item). LineCounts owed i mid new) wait counts in
    omega (arith, before, one)

-- ---- so many lines were carried out

steps_append : (moment : ℕ) (a b : List ScriptLine) → steps_of moment (a ++ b) ≡ steps_of moment a ++ steps_of moment b
steps_append moment [] b = refl
steps_append moment (line ∷ a) b = ap (λ (l : List Step). steps_of_item moment line.item ++ l) (steps_append moment a b) ∙ sym (append_assoc (steps_of_item moment line.item) (steps_of moment a) (steps_of moment b))

-- no ticket is out, nor was where they asked, and each wait among them has ended
pub record Rested (s : Start) (moment : ℕ) (done : List ScriptLine) (old new : List Moment) : Type 0 where
  pub none_out : AreIn s new
  pub waits : WaitsEnded s moment done old new
  pub apart : AskedApart s old new

pub record Front (s : Start) (moment owed : ℕ) (left lines : List ScriptLine) (old new : List Moment) : Type 0 where
  pub done : List ScriptLine
  pub is : done ++ left ≡ lines
  pub grew : GrewAsking s (steps_of moment done) old new
  pub elected : Owes owed done old new
  pub checks : ChecksEnded s moment done old new
  pub owed_is : owed ≡ owed_then 0 done
  pub parts : AreInParts s moment 0 done old new
  pub rests : s.alone ≡ true → AreIn s old → Rested s moment done old new ⊎ HasStopped new
  pub apart : s.alone ≡ true → AreIn s old → AskedUnlessStopped s old new

pub front_none : (s : Start) (moment : ℕ) (lines : List ScriptLine) (log : List Moment) → Front s moment 0 lines lines log log
front_none s moment lines log = record {
  done = [];
  is = refl;
  grew = asking_none s log;
  elected = refl;
  checks = no_checks s moment log log;
  owed_is = refl;
  parts = refl;
  rests = λ alone none. inl (record { none_out = none; waits = no_waits s moment log log; apart = apart_none (AreIn s) (IsWaiting s) log });
  apart = λ alone none. apart_none (InOrStopped s) (WaitsOrStopped s) log;
}

-- no ticket is out, or the work was stopped; and a wait begins then where no verification is open
in_or_stopped : (s : Start) (moment : ℕ) (done : List ScriptLine) (old new : List Moment) → Rested s moment done old new ⊎ HasStopped new → InOrStopped s new
in_or_stopped s moment done old new (inl r) = inl r.none_out
in_or_stopped s moment done old new (inr was) = inr was

waits_closed : (s : Start) (log : List Moment) → NoneOpen s log → TakesAfter (WaitsOrStopped s) log
waits_closed s log closed front all = inl (is_waiting s log closed front all)

pub front_next : (s : Start) (moment owed : ℕ) (line : ScriptLine) (rest lines : List ScriptLine) (old mid new : List Moment) → Front s moment owed (line ∷ rest) lines old mid → GrewAsking s (steps_of_item moment line.item) mid new
    → LineCounts owed line.item mid new
    → LinePart line.item mid new → NoneOpen s mid → (s.alone ≡ true → AreIn s mid → LineEnded s line.item new) → Front s moment (owed_after line.item owed) rest lines old new
front_next s moment owed line rest lines old mid new f g counts part closed ended =
    let same : steps_of moment (f.done ++ line ∷ []) ≡ steps_of moment f.done ++ steps_of_item moment line.item =
    steps_append moment f.done (line ∷ []) ∙ ap (λ (l : List Step). steps_of moment f.done ++ l) (append-nil (steps_of_item moment line.item)) in
    record {
      done = f.done ++ line ∷ [];
      is = append_assoc f.done (line ∷ []) rest ∙ f.is;
      grew = subst (λ (l : List Step). GrewAsking s l old new) (sym same) (asking_on s (steps_of moment f.done) (steps_of_item moment line.item) old mid new f.grew g);
      elected = owes_next owed f.done line old mid new f.elected counts;
      checks = checks_next s moment f.done line old mid new f.grew g f.checks part.checks;
      owed_is = ap (owed_after line.item) f.owed_is ∙ sym (owed_next 0 f.done line);
      parts = parts_next s moment 0 f.done line old mid new f.parts g part (subst (λ (n : ℕ). LineElected n line.item mid new) f.owed_is (line_elected owed line.item mid new counts));
      rests = λ alone none. ⊎_elim
          (λ (r : Rested s moment f.done old mid). ⊎_elim
          (λ (e : AreIn s new × (line.item ≡ items.Wait → NoneReady s new)). inl (record {
            none_out = e.0;
            waits = waits_next s moment f.done line old mid new f.grew g r.waits (λ wait. elected_here owed f.done line.item old mid new wait f.elected counts) e.0 e.1;
            apart = apart_on (AreIn s) (IsWaiting s) old mid new r.apart (line_apart (AreIn s) (IsWaiting s) s moment line.item mid new alone r.none_out (is_waiting s mid closed) g part);
          }))
          (λ (was : HasStopped new). inr was)
          (ended alone r.none_out))
          (λ (was : HasStopped mid). inr (stopped_stays s (steps_of_item moment line.item) mid new g was))
          (f.rests alone none);
      apart = λ alone none.
          apart_on (InOrStopped s) (WaitsOrStopped s) old mid new (f.apart alone none)
          (line_apart (InOrStopped s) (WaitsOrStopped s) s moment line.item mid new alone (in_or_stopped s moment f.done old mid (f.rests alone none)) (waits_closed s mid closed) g part);
    }

front_steps : (s : Start) (moment owed : ℕ) (left lines : List ScriptLine) (old new : List Moment) (f : Front s moment owed left lines old new) → steps_of moment f.done ++ steps_of moment left ≡ steps_of moment lines
front_steps s moment owed left lines old new f = sym (steps_append moment f.done left) ∙ ap (steps_of moment) f.is

-- the first of the lines asks for these steps
abbrev pub AsksFirst : ℕ → List ScriptLine → List Step → Type 0
AsksFirst moment left wanted = (after : List Step) × (steps_of moment left ≡ wanted ++ after)

pub asks_first : (moment : ℕ) (line : ScriptLine) (left : List ScriptLine) → 1 ≤ length left → line ≡ slice_index_or left 0 line → AsksFirst moment left (steps_of_item moment line.item)
asks_first moment line [] some is = absurd (let none : List ScriptLine = [] in let le : 1 ≤ length none = some in omega (arith, le))
asks_first moment line (x ∷ rest) some is = (steps_of moment rest, ap (λ (l : ScriptLine). steps_of_item moment l.item ++ steps_of moment rest) (sym is))

-- a line that added a front of its own
front_first : (s : Start) (moment owed : ℕ) (left lines : List ScriptLine) (wanted : List Step) (old mid new : List Moment) → AsksFirst moment left wanted → Front s moment owed left lines old mid → MadeFirst s wanted mid new
    → MadeFirst s (steps_of moment lines) old new
front_first s moment owed left lines wanted old mid new asks f h = record {
  first = steps_of moment f.done ++ h.first;
  rest = h.rest ++ asks.0;
  grew = asking_on s (steps_of moment f.done) h.first old mid new f.grew h.grew;
  is = append_assoc (steps_of moment f.done) h.first (h.rest ++ asks.0)
      ∙ ap (λ (l : List Step). steps_of moment f.done ++ l) (sym (append_assoc h.first h.rest asks.0) ∙ ap (λ (l : List Step). l ++ asks.0) h.is ∙ sym asks.1)
      ∙ front_steps s moment owed left lines old mid f;
}

pub front_made : (s : Start) (moment owed : ℕ) (left lines : List ScriptLine) (old new : List Moment) → Front s moment owed left lines old new → MadeFirst s (steps_of moment lines) old new
front_made s moment owed left lines old new f = record { first = steps_of moment f.done; rest = steps_of moment left; grew = f.grew; is = front_steps s moment owed left lines old new f }

-- no more elections than the lines ask for
failovers_front : (done left lines : List ScriptLine) → done ++ left ≡ lines → failovers_of done ≤ failovers_of lines
failovers_front done left lines is =
    let whole : failovers_of lines ≡ failovers_of done + failovers_of left = ap failovers_of (sym is) ∙ failovers_append done left in
    omega (arith, whole)

pub front_owes : (s : Start) (moment owed : ℕ) (left lines : List ScriptLine) (old new : List Moment) → Front s moment owed left lines old new → elections new + owed ≤ elections old + failovers_of lines
front_owes s moment owed left lines old new f =
    let few : failovers_of f.done ≤ failovers_of lines = failovers_front f.done left lines f.is in
    let made : elections new + owed ≡ elections old + failovers_of f.done = f.elected in
    omega (arith, few, made)

pub front_few : (s : Start) (moment owed : ℕ) (left lines : List ScriptLine) (old mid new : List Moment) → Front s moment owed left lines old mid → elections new ≤ elections mid + owed → elections new ≤ elections old + failovers_of lines
front_few s moment owed left lines old mid new f last =
    let all : elections mid + owed ≤ elections old + failovers_of lines = front_owes s moment owed left lines old mid f in
    let one : elections new ≤ elections mid + owed = last in
    omega (arith, all, one)

-- all of them
pub front_all : (s : Start) (moment owed : ℕ) (left lines : List ScriptLine) (old new : List Moment) → left ≡ [] → Front s moment owed left lines old new → NoneOpen s new → s.alone ≡ true → AreIn s old
    → AreMade s moment owed lines old new ⊎ WasLeft s moment owed lines old new
front_all s moment owed left lines old new none f closed alone out =
    let all : f.done ≡ lines = sym (append-nil f.done) ∙ ap (λ (l : List ScriptLine). f.done ++ l) (sym none) ∙ f.is in
    let grew : GrewAsking s (steps_of moment lines) old new = subst (λ (l : List ScriptLine). GrewAsking s (steps_of moment l) old new) all f.grew in
    let elected : Owes owed lines old new = subst (λ (l : List ScriptLine). Owes owed l old new) all f.elected in
    let checks : ChecksEnded s moment lines old new = subst (λ (l : List ScriptLine). ChecksEnded s moment l old new) all f.checks in
    elim (f.rests alone out) [
      | inl r ↦ inl (record {
        grew = grew;
        elected = elected;
        waits = subst (λ (l : List ScriptLine). WaitsEnded s moment l old new) all r.waits;
        checks = checks;
        owed_is = f.owed_is ∙ ap (owed_then 0) all;
        parts = subst (λ (l : List ScriptLine). AreInParts s moment 0 l old new) all f.parts;
        apart = r.apart;
        rests = r.none_out;
        closed = closed;
      })
      | inr (inl was) ↦ inr (inl (record { grew = grew; elected = elected; checks = checks; closed = closed }, was))
      | inr (inr turns) ↦ inr (inr turns)
    ]

-- a line that was left
pub front_cut : (s : Start) (moment owed : ℕ) (left lines : List ScriptLine) (item : Item) (old mid new : List Moment) → Front s moment owed left lines old mid → MadeFirst s (steps_of_item moment item) mid new → AddsOnly item mid new
    → (item ≡ items.Check → checking.BeganOne mid new) → (item ≡ items.Verify → verifying.BeganOne mid new)
    → NoneOpen s mid → s.alone ≡ true → AreIn s old → AskedUnlessStopped s old new
front_cut s moment owed left lines item old mid new f made only checks verifies closed alone none =
    apart_on (InOrStopped s) (WaitsOrStopped s) old mid new (f.apart alone none)
    (cut_apart (InOrStopped s) (WaitsOrStopped s) s moment item mid new alone (in_or_stopped s moment f.done old mid (f.rests alone none)) (waits_closed s mid closed) made only checks verifies)

-- ---- and the work after them

long_on : (a b : List Moment) → 2 ^ 33 ≤ length a → 2 ^ 33 ≤ length (a ++ b)
long_on a b long =
    let whole : length (a ++ b) ≡ length a + length b = length-append a b in
    let most : 2 ^ 33 ≤ length a = long in
    omega (arith, whole, most)

-- the wait at the end begins where no verification is open, unless turns were spent
waits_then : (s : Start) (moment owed : ℕ) (lines : List ScriptLine) (old mid : List Moment) → AreMade s moment owed lines old mid ⊎ WasLeft s moment owed lines old mid → TakesAfter (WaitsOrStopped s) mid
waits_then s moment owed lines old mid (inl a) front all = inl (is_waiting s mid a.closed front all)
waits_then s moment owed lines old mid (inr (inl left)) front all = inl (is_waiting s mid left.0.closed front all)
waits_then s moment owed lines old mid (inr (inr turns)) front all = inr (inr (long_on mid front turns))

pub apart_then : (s : Start) (moment owed : ℕ) (lines : List ScriptLine) (old mid new : List Moment) → (AreIn s old → AskedUnlessStopped s old mid)
    → (AreIn s old → AreMade s moment owed lines old mid ⊎ WasLeft s moment owed lines old mid) → WaitsOnly mid new → AreIn s old
    → AskedUnlessStopped s old new
apart_then s moment owed lines old mid new first made works none =
    apart_on (InOrStopped s) (WaitsOrStopped s) old mid new (first none) (waits_apart (InOrStopped s) (WaitsOrStopped s) mid new (waits_then s moment owed lines old mid (made none)) works)

pub made_then : (s : Start) (wanted : List Step) (old mid new : List Moment) → MadeFirst s wanted old mid → GrewAsking s [] mid new → MadeFirst s wanted old new
made_then s wanted old mid new f g = record {
  first = f.first ++ [];
  rest = f.rest;
  grew = asking_on s f.first [] old mid new f.grew g;
  is = ap (λ (l : List Step). l ++ f.rest) (append-nil f.first) ∙ f.is;
}

then_asked : (s : Start) (moment : ℕ) (lines : List ScriptLine) (old mid new : List Moment) → GrewAsking s (steps_of moment lines) old mid → GrewAsking s [] mid new → GrewAsking s (steps_of moment lines) old new
then_asked s moment lines old mid new all g = subst (λ (l : List Step). GrewAsking s l old new) (append-nil (steps_of moment lines)) (asking_on s (steps_of moment lines) [] old mid new all g)

-- as many elections were made as are owed, or 2 ^ 33 entries
abbrev pub ElectedOr : ℕ → List Moment → List Moment → Type 0
ElectedOr owed mid new = (elections new ≡ elections mid + owed) ⊎ (2 ^ 33 ≤ length new)

pub done_then : (s : Start) (moment owed : ℕ) (lines : List ScriptLine) (old mid new : List Moment) → (AreIn s old → AreMade s moment owed lines old mid ⊎ WasLeft s moment owed lines old mid) → GrewAsking s [] mid new → WaitsOnly mid new
    → ElectedOr owed mid new
    → (AreIn s mid → IsIdle s new ⊎ HasStopped new) → (NoneOpen s mid → NoneOpen s new) → AreIn s old → AreDone s moment lines old new ⊎ WasLeft s moment 0 lines old new
done_then s moment owed lines old mid new made g works counts done closes none = elim counts [
  | inl all ↦ told all (made none)
  | inr turns ↦ inr (inr turns)
]
  where
    checks_then : ChecksEnded s moment lines old mid → ChecksEnded s moment lines old new
    checks_then checks before after line is check = check_on s moment before [] old mid new g (checks before after line is check)

    elected : elections new ≡ elections mid + owed → Owes owed lines old mid → AreElected lines old new
    elected all was =
        let before : elections mid + owed ≡ elections old + failovers_of lines = was in
        let last : elections new ≡ elections mid + owed = all in
        omega (arith, before, last)

    none_owed : elections new ≡ elections mid + owed → Owes owed lines old mid → Owes 0 lines old new
    none_owed all was = let whole : elections new ≡ elections old + failovers_of lines = elected all was in omega (arith, whole)

    asked : elections new ≡ elections mid + owed → AreAsked s moment owed lines old mid → AreAsked s moment 0 lines old new
    asked all a = record { grew = then_asked s moment lines old mid new a.grew g; elected = none_owed all a.elected; checks = checks_then a.checks; closed = closes a.closed }

    made_well : elections new ≡ elections mid + owed → AreMade s moment owed lines old mid → IsIdle s new ⊎ HasStopped new → AreDone s moment lines old new ⊎ WasLeft s moment 0 lines old new
    made_well all a (inl idle) = inl (record {
      grew = then_asked s moment lines old mid new a.grew g;
      elected = elected all a.elected;
      waits = λ before after line is wait. wait_on s moment before [] old mid new g (a.waits before after line is wait);
      checks = checks_then a.checks;
      parted = record { mid = mid; parts = a.parts; elects = all ∙ ap (λ (n : ℕ). elections mid + n) a.owed_is; grew = g; waits = works };
      apart = apart_on (AreIn s) (IsWaiting s) old mid new a.apart (waits_apart (AreIn s) (IsWaiting s) mid new (is_waiting s mid a.closed) works);
      idle = idle;
      closed = closes a.closed;
    })
    made_well all a (inr (inl was)) = inr (inl (asked all (record { grew = a.grew; elected = a.elected; checks = a.checks; closed = a.closed }), was))
    made_well all a (inr (inr turns)) = inr (inr turns)

    left_on : elections new ≡ elections mid + owed → AreAsked s moment owed lines old mid × SomeStopped mid → HasStopped new → WasLeft s moment 0 lines old new
    left_on all left (inl was) = inl (asked all left.0, was)
    left_on all left (inr turns) = inr turns

    turns_on : 2 ^ 33 ≤ length mid → WasLeft s moment 0 lines old new
    turns_on turns =
        let whole : length new ≡ length mid + length g.more = ap length g.is ∙ length-append mid g.more in
        let most : 2 ^ 33 ≤ length mid = turns in
        inr (omega (arith, whole, most))

    told : elections new ≡ elections mid + owed → AreMade s moment owed lines old mid ⊎ WasLeft s moment owed lines old mid → AreDone s moment lines old new ⊎ WasLeft s moment 0 lines old new
    told all (inl a) = made_well all a (done a.rests)
    told all (inr (inl left)) = inr (left_on all left (stopped_stays s [] mid new g (inl left.1)))
    told all (inr (inr turns)) = inr (turns_on turns)

-- ---- by the answer of a line

-- a line that stopped
pub made_stopped : (s : Start) (moment owed : ℕ) (left lines : List ScriptLine) (wanted : List Step) (old mid new : List Moment) (e : StepRefusal) → AsksFirst moment left wanted → Front s moment owed left lines old mid
    → LineMade {X = Unit} s wanted mid new (Err e) → (e ≡ steps.Memory) ⊎ (e ≡ steps.TurnsSpent) → MadeFirst s (steps_of moment lines) old new
made_stopped s moment owed left lines wanted old mid new (steps.Refused refusal) asks f made which = absurd (⊎_elim (λ e. no_memory refusal e) (λ e. no_turns refusal e) which)
  where
    no_memory : (refusal : EntryRefusal) → steps.Refused refusal ≡ steps.Memory → ⊥
    no_memory refusal e = cc

    no_turns : (refusal : EntryRefusal) → steps.Refused refusal ≡ steps.TurnsSpent → ⊥
    no_turns refusal e = cc
made_stopped s moment owed left lines wanted old mid new e asks f made which = front_first s moment owed left lines wanted old mid new asks f made

-- at its beginning no ticket of a repository is out
none_in : (s : Start) → HasNoTickets s → HasNoReaders s → AreIn s []
none_in s numbered unread = record {
  tickets = λ k. ap (λ (m : FinMap nat_cmp Ticket). (or_no_ticket (fin.get m k)).out) numbered.none ∙ ap (λ (o : Option Ticket). (or_no_ticket o).out) (fin.get-empty nat_cmp k);
  readers = λ k. ap (λ (m : Readers). (or_no_reader (fin.get m k)).out) unread ∙ ap (λ (o : Option Reader). (or_no_reader o).out) (fin.get-empty nat_cmp k);
}

pub apart_first : (s : Start) (old new same : List Moment) → (AreIn s old → AskedUnlessStopped s old new) → same ≡ new → old ≡ [] → HasNoTickets s → HasNoReaders s → AskedUnlessStopped s [] same
apart_first s old new same h is begun numbered unread =
    subst (λ (l : List Moment). AskedUnlessStopped s [] l) (sym is) (subst (λ (l : List Moment). AskedUnlessStopped s l new) begun (h (subst (AreIn s) (sym begun) (none_in s numbered unread))))

-- on the history of a repository, from its beginning on
pub done_on : {X E : Type 0} (s : Start) (moment : ℕ) (lines : List ScriptLine) (old new same : List Moment) (r : Result X E) → OnOk r (AreIn s old → AreDone s moment lines old new ⊎ WasLeft s moment 0 lines old new) → same ≡ new
    → old ≡ [] → HasNoTickets s → HasNoReaders s
    → OnOk r (AreDone s moment lines [] same ⊎ WasLeft s moment 0 lines [] same)
done_on {X} {E} s moment lines old new same (Err e) done is begun numbered unread = tt
done_on {X} {E} s moment lines old new same (Ok x) done is begun numbered unread =
    let none : AreIn s [] = none_in s numbered unread in
    subst (λ (l : List Moment). AreDone s moment lines [] l ⊎ WasLeft s moment 0 lines [] l) (sym is)
    (subst (λ (l : List Moment). AreDone s moment lines l new ⊎ WasLeft s moment 0 lines l new) begun (done (subst (AreIn s) (sym begun) none)))

pub done_or : {X E : Type 0} (P : Type 0) (status : ℕ) (r : Result X E) → OnOk r P → (IsErr r → status ≡ 8) → (status ≡ 8) ⊎ P
done_or {X} {E} P status (Ok x) h wanting = inr h
done_or {X} {E} P status (Err e) h wanting = inl (wanting refl)

-- ---- lines of a slice

-- the rest of a slice after its first line
pub take_rest : (left : List ScriptLine) → take (length left - 1) (drop 1 left) ≡ drop 1 left
take_rest [] = take_all (length (drop 1 none) - 1) (drop 1 none) (let few : 0 ≤ 0 = omega arith in few)
  where
    none : List ScriptLine
    none = []
take_rest (x ∷ rest) = take_all (length (x ∷ rest) - 1) rest (let le : length rest ≤ suc (length rest) - 1 = omega arith in le)

step_front : (s : Start) (moment owed : ℕ) (line : ScriptLine) (left lines : List ScriptLine) (old mid new : List Moment) → 1 ≤ length left → line ≡ slice_index_or left 0 line → Front s moment owed left lines old mid
    → GrewAsking s (steps_of_item moment line.item) mid new
    → LineCounts owed line.item mid new → LinePart line.item mid new → NoneOpen s mid → (s.alone ≡ true → AreIn s mid → LineEnded s line.item new) → Front s moment (owed_after line.item owed) (drop 1 left) lines old new
step_front s moment owed line [] lines old mid new some is f g counts part closed ended = absurd (let none : List ScriptLine = [] in let le : 1 ≤ length none = some in omega (arith, le))
step_front s moment owed line (x ∷ rest) lines old mid new some is f g counts part closed ended =
    subst (λ (l : ScriptLine). Front s moment (owed_after l.item owed) rest lines old new) (sym is)
    (front_next s moment owed x rest lines old mid new f (subst (λ (l : ScriptLine). GrewAsking s (steps_of_item moment l.item) mid new) is g) (subst (λ (l : ScriptLine). LineCounts owed l.item mid new) is counts)
    (subst (λ (l : ScriptLine). LinePart l.item mid new) is part) closed (subst (λ (l : ScriptLine). s.alone ≡ true → AreIn s mid → LineEnded s l.item new) is ended))

-- a line that is a check is one of these
asks_has : (done : List ScriptLine) (line : ScriptLine) (rest : List ScriptLine) → is_check line.item ≡ true → asks_check (done ++ line ∷ rest) ≡ true
asks_has [] line rest is = either_true (is_check line.item) (asks_check rest) is
  where
    either_true : (a b : Bool) → a ≡ true → (a || b) ≡ true
    either_true true b same = refl
    either_true false b same = absurd cc
asks_has (d ∷ done) line rest is = later_true (is_check d.item) (asks_check (done ++ line ∷ rest)) (asks_has done line rest is)
  where
    later_true : (a b : Bool) → b ≡ true → (a || b) ≡ true
    later_true true b same = refl
    later_true false b same = same

first_line : (line : ScriptLine) (left : List ScriptLine) → 1 ≤ length left → line ≡ slice_index_or left 0 line → (rest : List ScriptLine) × (left ≡ line ∷ rest)
first_line line [] some is = absurd (let none : List ScriptLine = [] in let le : 1 ≤ length none = some in omega (arith, le))
first_line line (x ∷ rest) some is = (rest, ap (λ (l : ScriptLine). l ∷ rest) (sym is))

pub asks_here : (s : Start) (moment owed : ℕ) (line : ScriptLine) (left lines : List ScriptLine) (old mid : List Moment) → 1 ≤ length left → line ≡ slice_index_or left 0 line → Front s moment owed left lines old mid
    → is_check line.item ≡ true → asks_check lines ≡ true
asks_here s moment owed line left lines old mid some is f check =
    let first = first_line line left some is in
    subst (λ (l : List ScriptLine). asks_check l ≡ true) (ap (λ (l : List ScriptLine). f.done ++ l) (sym first.1) ∙ f.is) (asks_has f.done line first.0 check)

pub front_step : (s : Start) (moment owed after : ℕ) (line : ScriptLine) (left lines : List ScriptLine) (old mid new : List Moment) → 1 ≤ length left → line ≡ slice_index_or left 0 line → after ≡ owed_after line.item owed
    → Front s moment owed left lines old mid
    → GrewAsking s (steps_of_item moment line.item) mid new → LineCounts owed line.item mid new → LinePart line.item mid new → NoneOpen s mid → (s.alone ≡ true → AreIn s mid → LineEnded s line.item new)
    → Front s moment after (take (length left - 1) (drop 1 left)) lines old new
front_step s moment owed after line left lines old mid new some is owes f g counts part closed ended =
    subst (λ (n : ℕ). Front s moment n (take (length left - 1) (drop 1 left)) lines old new) (sym owes)
    (subst (λ (l : List ScriptLine). Front s moment (owed_after line.item owed) l lines old new) (sym (take_rest left)) (step_front s moment owed line left lines old mid new some is f g counts part closed ended))

when_good : (b : Bool) (number : ℕ) (o : Option ℕ) → (if b then o else Some number) ≡ None → o ≡ None
when_good true number o e = e
when_good false number o e = absurd cc

good_rest : (left : List ScriptLine) → first_bad left ≡ None → first_bad (drop 1 left) ≡ None
good_rest [] e = e
good_rest (x ∷ rest) e = when_good (is_carried x.item) x.number (first_bad rest) e

pub good_next : (left : List ScriptLine) → first_bad left ≡ None → first_bad (take (length left - 1) (drop 1 left)) ≡ None
good_next left e = subst (λ (l : List ScriptLine). first_bad l ≡ None) (sym (take_rest left)) (good_rest left e)

is_good : (b : Bool) (number : ℕ) (o : Option ℕ) → (if b then o else Some number) ≡ None → b ≡ true
is_good true number o e = refl
is_good false number o e = absurd cc

pub good_line : (line : ScriptLine) (left : List ScriptLine) → 1 ≤ length left → line ≡ slice_index_or left 0 line → first_bad left ≡ None → is_carried line.item ≡ true
good_line line [] some is e = absurd (let none : List ScriptLine = [] in let le : 1 ≤ length none = some in omega (arith, le))
good_line line (x ∷ rest) some is e = ap (λ (l : ScriptLine). is_carried l.item) is ∙ is_good (is_carried x.item) x.number (first_bad rest) e

pub none_left : (left : List ScriptLine) → length left < 1 → left ≡ []
none_left [] less = refl
none_left (x ∷ rest) less = absurd (let few : suc (length rest) < 1 = less in omega (arith, few))
