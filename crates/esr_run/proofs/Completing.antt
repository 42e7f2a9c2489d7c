-- What a run over quiet objects ends with.
use Rattle.std.proofs.Common.{◌≡◌, ◌≢◌, ◌⊎◌, ℕ, zero, suc, ◌+◌, ◌^◌, ◌<◌, ◌≤◌, Bool, true, false, cond, nat_lt, List, [], ◌∷◌, ◌++◌, append-nil, append_assoc, map, length, length-append, Option, Some, is_some, refl, sym, ap, ◌∙◌, subst, inl, inr, ⊎_elim, arith}
use Rattle.std.specs.Prelude.{◌&&◌, ◌==◌, unwrap_or, if◌then◌else◌}
use Rattle.std.proofs.lemmas.Bool.{ltb-true, ltb-false, le-ltb}
use Rattle.std.proofs.lemmas.Bool.Decides.{eqb_tells}
use Rattle.std.proofs.lemmas.List.Sums.{sum_by-cons}
use Rattle.esr_model.specs.Lists.{Has-left}
use Rattle.esr_model.specs.Values.{Bytes, Has}
use Rattle.esr_model.specs.Image.{Image}
use Rattle.esr_core.specs.World.{World, Caller, Opened}
use Rattle.esr_core.specs.Entry.{AskedIndex, Snapshot, Restore, GivenCleanup, Step, AskStep, TakeStep, ElectStep, Refusal, Gave, Refused, DepotFault, DeposedAt, Entry, Moment}
use Rattle.esr_core.specs.History.{AllKnown, AreTold}
use Rattle.esr_depot.specs.Image.{Image as Held}
use Rattle.esr_depot.specs.Look.{Look, now}
use Rattle.esr_script.specs.declared.item.AskedIndex.{AskedIndex as LineIndex}
use Rattle.esr_script.specs.declared.item.Item.{Item}
use Rattle.esr_script.specs.declared.item.Item.TheVariants as items
use Rattle.esr_script.specs.declared.item.ScriptLine.{ScriptLine}
use Rattle.esr_report.specs.Replies.{is_election_step, is_short, replies}
use Rattle.esr_report.specs.Status.{ending, status_of}
use Rattle.esr_desk.specs.Start.{Start, Legal, formats_of, world_of}
use Rattle.esr_desk.specs.declared.fault.Fault.{Fault}
use Rattle.esr_desk.specs.declared.hand.Hand.TheVariants as hands
use Rattle.esr_desk.specs.Evidence.{Evidence}
use Rattle.esr_desk.specs.Shown.{AreShown}
use Rattle.esr_desk.specs.Once.{AreOnce}
use Rattle.esr_desk.specs.Verify.Tested.{AreTested}
use Rattle.esr_repo.specs.Log.{image_of, image_at, log_from, log_of, tick}
use Rattle.esr_repo.specs.Counted.{is_fault, fault_entries}
use Rattle.esr_repo.specs.Calm.{IsCalm}
use Rattle.esr_repo.specs.Deposed.{FailedSwap, AreDeposedSo}
use Rattle.esr_quiet.specs.Asked.{is_line_ask, is_asked, as_asked, asked_steps, AreSteady}
use Rattle.esr_quiet.specs.Smooth.{IsSmooth, AreCalm, AreUnspent, NoneFailed, NoneUndeleted, NoneUnrestored, NoneUnverified, NoneAsked}
use Rattle.esr_quiet.specs.Refusals.{AreByRule}
use Rattle.esr_quiet.specs.PrefixLaws.{told_front}
use Rattle.esr_complete.specs.Lines.{index_of_line, steps_of_item, steps_of, failovers_of, entries_of, elections_of}
use Rattle.esr_complete.specs.ItemSteps.{only_step, snapshot_item, restore_item}
use Rattle.esr_drive.specs.Elections.{election, elections}
use Rattle.esr_drive.specs.Stopped.{StopsWork, SaidDeposed}
use Rattle.esr_complete.specs.InTurn.{IsInTurn, AreChecksInTurn}
use Rattle.esr_complete.specs.Answers.{AreAnswered, EndsWell}
use Rattle.esr_complete.specs.FaultFree.{IsFaultFreeRun}
use Rattle.esr_run.specs.Start.{Telling, formats_by, steady_by, start_of}
use Rattle.esr_run.specs.Complete.{AsksRestore, IsQuietFor, HasSpent, IsAnsweredWell, Completes}
use Rattle.esr_run.specs.Laws.{QuietLaws}
use Rattle.esr_run.specs.Verified.{AreClosed}
use Rattle.esr_run.specs.Waits.{AreFew}
use Rattle.esr_run.specs.Made.{MadeFirst, SomeStopped, HasStopped, AreIn, AreElected, IsWaiting, AsksOrDraws, AskedUnlessStopped, HasFallen, AreDone, NoneOpen}
use Rattle.esr_run.proofs.Leaving.{long_ends}
use Rattle.esr_run.proofs.Unlisted.{refuses_unlisted}
use Rattle.esr_run.proofs.Long.{QuietFront, asks_much}
use Rattle.esr_run.proofs.Spent.{FirstSpent, find_spent, number_spent}
use Rattle.esr_run.proofs.Parts.{are_parts}
use Rattle.esr_run.proofs.Making.{legal_one, legal_front}
use Rattle.esr_run.proofs.Callers.{waiting_closed}

-- ---- entries and moments

pub entries_are : (at : ℕ → Option Image) (t : ℕ) (es : List Entry) → entries_of (log_from at t es) ≡ es
entries_are at t [] = refl
entries_are at t (e ∷ es) = ap (λ (l : List Entry). e ∷ l) (entries_are at (tick t e) es)

has_entry : (log : List Moment) (m : Moment) → Has log m → Has (entries_of log) m.entry
has_entry [] m h = absurd h
has_entry (n ∷ log) m (inl e) = inl (ap (λ (x : Moment). x.entry) e)
has_entry (n ∷ log) m (inr h) = inr (has_entry log m h)

as_many : (log : List Moment) → length (entries_of log) ≡ length log
as_many [] = refl
as_many (m ∷ log) = ap suc (as_many log)

entries_both : (front back : List Moment) → entries_of (front ++ back) ≡ entries_of front ++ entries_of back
entries_both [] back = refl
entries_both (m ∷ front) back = ap (λ (l : List Entry). m.entry ∷ l) (entries_both front back)

-- ---- how many entries there are

many_or_not : (n m : ℕ) → (m ≤ n) ⊎ (n < m)
many_or_not n m = go (nat_lt n m) refl
  where
    go : (b : Bool) → nat_lt n m ≡ b → (m ≤ n) ⊎ (n < m)
    go true e = inr (ltb-true n m e)
    go false e = inl (ltb-false n m e)

at_most : (n : ℕ) → n < 2 ^ 33 → n ≤ 2 ^ 33
at_most n h = let less : n < 2 ^ 33 = h in omega (arith, less)

-- ---- no failure of the container

counted_more : (x : Entry) (es : List Entry) → fault_entries (x ∷ es) ≡ cond (is_fault x.reply) 1 0 + fault_entries es
counted_more x es = sum_by-cons (λ (y : Entry). cond (is_fault y.reply) 1 0) x es

one_more : (b : Bool) (n : ℕ) → b ≡ true → 1 ≤ cond b 1 0 + n
one_more true n e = let is : 1 ≤ 1 + n = omega arith in is
one_more false n e = absurd cc

rest_more : (b : Bool) (n : ℕ) → 1 ≤ n → 1 ≤ cond b 1 0 + n
rest_more true n h = let is : 1 ≤ 1 + n = omega arith in is
rest_more false n h = let rest : 1 ≤ n = h in let is : 1 ≤ 0 + n = omega (arith, rest) in is

counted_one : (es : List Entry) (e : Entry) → Has es e → is_fault e.reply ≡ true → 1 ≤ fault_entries es
counted_one [] e h fault = absurd h
counted_one (x ∷ es) e (inl is) fault = subst (λ (n : ℕ). 1 ≤ n) (sym (counted_more x es)) (one_more (is_fault x.reply) (fault_entries es) (ap (λ (y : Entry). is_fault y.reply) is ∙ fault))
counted_one (x ∷ es) e (inr h) fault = subst (λ (n : ℕ). 1 ≤ n) (sym (counted_more x es)) (rest_more (is_fault x.reply) (fault_entries es) (counted_one es e h fault))

none_counted : (es : List Entry) (e : Entry) → fault_entries es ≡ 0 → Has es e → e.reply ≡ Refused DepotFault → ⊥
none_counted es e none h is =
    let one : 1 ≤ fault_entries es = counted_one es e h (ap is_fault is) in
    let zeros : fault_entries es ≡ 0 = none in
    omega (arith, one, zeros)

-- ---- who asks

record Place (log : List Moment) (m : Moment) : Type 0 where
  front : List Moment
  back : List Moment
  is : log ≡ front ++ m ∷ back

pub in_middle : {X : Type 0} (a b : List X) (x : X) → Has (a ++ x ∷ b) x
in_middle [] b x = inl refl
in_middle (y ∷ a) b x = inr (in_middle a b x)

place_of : (log : List Moment) (m : Moment) → Has log m → Place log m
place_of [] m h = absurd h
place_of (n ∷ log) m (inl e) = record { front = []; back = log; is = ap (λ (x : Moment). x ∷ log) e }
place_of (n ∷ log) m (inr h) = let p = place_of log m h in record { front = n ∷ p.front; back = p.back; is = ap (λ (l : List Moment). n ∷ l) p.is }

module _ (log : List Moment) (es : List Entry) (entries : entries_of log ≡ es) (none : fault_entries es ≡ 0) where
  never_deposed : AreDeposedSo es → (m : Moment) (place : ℕ) → Has log m → m.entry.reply ≡ Refused (DeposedAt place) → ⊥
  never_deposed named m place h is =
      let p = place_of log m h in
      let whole : es ≡ entries_of p.front ++ m.entry ∷ entries_of p.back = sym entries ∙ ap entries_of p.is ∙ entries_both p.front (m ∷ p.back) in
      let fell : FailedSwap (entries_of p.front) place = named (entries_of p.front) (entries_of p.back) m.entry place whole is in
      let there : Has es fell.entry = subst (λ (l : List Entry). Has l fell.entry) (sym whole)
      (Has-left (entries_of p.front) (m.entry ∷ entries_of p.back) fell.entry (subst (λ (l : List Entry). Has l fell.entry) (sym fell.is) (in_middle fell.front fell.back fell.entry))) in
      none_counted es fell.entry none there fell.reply
    where
      Has-left : (a b : List Entry) (e : Entry) → Has a e → Has (a ++ b) e
      Has-left [] b e h = absurd h
      Has-left (x ∷ a) b e (inl is) = inl is
      Has-left (x ∷ a) b e (inr h) = inr (Has-left a b e h)

  pub calm_is : AreCalm log
  calm_is m h is = none_counted es m.entry none (subst (λ (l : List Entry). Has l m.entry) entries (has_entry log m h)) is

-- ---- what was asked is what lines ask for

pub asked_true : (e : Entry) → e.who ≡ 0 → is_line_ask e.step ≡ true → is_asked e ≡ true
asked_true e who ask = ap (λ (k : ℕ). (k == 0) && is_line_ask e.step) who ∙ ask

behind : (n : Moment) (log : List Moment) (step : Step) (b : Bool) → Has (asked_steps log) step → Has (if b then as_asked n.entry.step ∷ asked_steps log else asked_steps log) step
behind n log step true h = inr h
behind n log step false h = h

pub in_asked : (log : List Moment) (m : Moment) → Has log m → is_asked m.entry ≡ true → Has (asked_steps log) (as_asked m.entry.step)
in_asked [] m h asked = absurd h
in_asked (n ∷ log) m (inl e) asked =
    subst (λ (l : List Step). Has l (as_asked m.entry.step))
    (sym (ap (λ (b : Bool). if b then as_asked n.entry.step ∷ asked_steps log else asked_steps log) (ap (λ (x : Moment). is_asked x.entry) e ∙ asked))) (inl (ap (λ (x : Moment). as_asked x.entry.step) e))
in_asked (n ∷ log) m (inr h) asked = behind n log (as_asked m.entry.step) (is_asked n.entry) (in_asked log m h asked)

pub in_wanted : (first rest wanted : List Step) (step : Step) → first ++ rest ≡ wanted → Has first step → Has wanted step
in_wanted first rest wanted step is h = subst (λ (l : List Step). Has l step) is (go first h)
  where
    go : (a : List Step) → Has a step → Has (a ++ rest) step
    go [] h = absurd h
    go (x ∷ a) (inl e) = inl e
    go (x ∷ a) (inr h) = inr (go a h)

-- a step of lines is that of one
pub record OfLine (moment : ℕ) (lines : List ScriptLine) (step : Step) : Type 0 where
  pub line : ScriptLine
  pub there : Has lines line
  pub step_is : Has (steps_of_item moment line.item) step

either_list : (a b : List Step) (step : Step) → Has (a ++ b) step → Has a step ⊎ Has b step
either_list [] b step h = inr h
either_list (x ∷ a) b step (inl e) = inl (inl e)
either_list (x ∷ a) b step (inr h) = ⊎_elim (λ l. inl (inr l)) (λ r. inr r) (either_list a b step h)

pub of_line : (moment : ℕ) (lines : List ScriptLine) (step : Step) → Has (steps_of moment lines) step → OfLine moment lines step
of_line moment [] step h = absurd h
of_line moment (line ∷ lines) step h = ⊎_elim
    (λ here. record { line = line; there = inl refl; step_is = here })
    (λ later. let o = of_line moment lines step later in record { line = o.line; there = inr o.there; step_is = o.step_is })
    (either_list (steps_of_item moment line.item) (steps_of moment lines) step h)

one_counts : (n : ℕ) → suc n ≡ 1 + n
one_counts n = omega arith

none_counts : (n : ℕ) → n ≡ 0 + n
none_counts n = omega arith

of_nobody : (step : Step) (n : ℕ) → (if is_election_step step then suc n else n) ≡ election 0 step + n
of_nobody ElectStep n = one_counts n
of_nobody step n = none_counts n

of_ticket : (who : ℕ) (step : Step) (n : ℕ) → who ≢ 0 → n ≡ election who step + n
of_ticket zero step n some = absurd (some refl)
of_ticket (suc k) step n some = none_counts n

counts_one : (who : ℕ) (step : Step) (n : ℕ) → (if (who == 0) && is_election_step step then suc n else n) ≡ election who step + n
counts_one who step n = elim (eqb_tells who 0) [
  | inl nobody ↦ ap (λ (b : Bool). if b && is_election_step step then suc n else n) nobody.0 ∙ of_nobody step n ∙ ap (λ (k : ℕ). election k step + n) (sym nobody.1)
  | inr some ↦ ap (λ (b : Bool). if b && is_election_step step then suc n else n) some.0 ∙ of_ticket who step n some.1
]

none_before : (a b : ℕ) → a ≡ 0 + b → a ≡ b
none_before a b e = omega (arith, e)

-- the entries tell as many elections as the history
elections_told : (log : List Moment) → elections_of (entries_of log) ≡ elections log
elections_told [] = refl
elections_told (m ∷ log) =
    counts_one m.entry.who m.entry.step (elections_of (entries_of log)) ∙ ap (λ (n : ℕ). election m.entry.who m.entry.step + n) (elections_told log)

-- the indices of a snapshot that was asked are those of the line's
record OfSnapshot (item : Item) (indices : List AskedIndex) : Type 0 where
  name : Bytes
  line_indices : List LineIndex
  item_is : item ≡ items.Snapshot name line_indices
  indices_are : indices ≡ map index_of_line line_indices

of_snapshot : (moment : ℕ) (item : Item) (name : Bytes) (indices : List AskedIndex) (when : ℕ) → Has (steps_of_item moment item) (AskStep (Snapshot name indices when)) → OfSnapshot item indices
of_snapshot moment item name indices when h =
    let (of, is, same) = snapshot_item moment item name indices when (only_step moment item (AskStep (Snapshot name indices when)) h) in
    record { name = name; line_indices = of; item_is = is; indices_are = sym same }

-- a restore that was asked is that of a restore line
of_restore : (moment : ℕ) (item : Item) (name place : Bytes) → Has (steps_of_item moment item) (AskStep (Restore name place)) → (called : Bytes) × (below : Bytes) × (item ≡ items.Restore called below)
of_restore moment item name place h = (name, place, restore_item moment item name place (only_step moment item (AskStep (Restore name place)) h))

-- whether some line asks for a restore
restore_or_not : (item : Item) → ((name : Bytes) × (place : Bytes) × (item ≡ items.Restore name place)) ⊎ ((name place : Bytes) → item ≡ items.Restore name place → ⊥)
restore_or_not (items.Restore name place) = inl (name, place, refl)
restore_or_not item = inr (λ n p e. cc)

find_restore : (lines : List ScriptLine) → AsksRestore lines ⊎ ((line : ScriptLine) (name place : Bytes) → Has lines line → line.item ≡ items.Restore name place → ⊥)
find_restore [] = inr (λ line name place h e. h)
find_restore (x ∷ lines) = ⊎_elim
    (λ (it : (name : Bytes) × (place : Bytes) × (x.item ≡ items.Restore name place)). inl (x, it.0, it.1, inl refl, it.2))
    (λ (no_restore : (name place : Bytes) → x.item ≡ items.Restore name place → ⊥). ⊎_elim
    (λ (more : AsksRestore lines). inl (more.0, more.1, more.2, inr more.3, more.4))
    (λ (none : (line : ScriptLine) (name place : Bytes) → Has lines line → line.item ≡ items.Restore name place → ⊥).
    inr (λ line name place h e. ⊎_elim (λ is. no_restore name place (ap (λ (l : ScriptLine). l.item) is ∙ e)) (λ has. none line name place has e) h))
    (find_restore lines))
    (restore_or_not x.item)

in_map : (l : List LineIndex) (a : AskedIndex) → Has (map index_of_line l) a → (b : LineIndex) × Has l b × (index_of_line b ≡ a)
in_map [] a h = absurd h
in_map (b ∷ l) a (inl e) = (b, inl refl, e)
in_map (b ∷ l) a (inr h) = let r = in_map l a h in (r.0, inr r.1, r.2)

is_steady : (telling : Telling) (place name : Bytes) (number : ℕ) → telling.is_quiet ≡ true → telling.is_there place name number ≡ Some true → steady_by telling place name number ≡ true
is_steady telling place name number quiet there = ap (λ (b : Bool). b && unwrap_or (telling.is_there place name number) false) quiet ∙ ap (λ (o : Option Bool). unwrap_or o false) there

-- ---- what stops the work

what_stops : (step : Step) (refusal : Refusal) → StopsWork step refusal → ((place : ℕ) × (refusal ≡ DeposedAt place)) ⊎ (refusal ≡ DepotFault)
what_stops step refusal (SaidDeposed st place) = inl (place, refl)
what_stops step refusal other = inr refl

few_before : (a b : List Moment) (m : Moment) → length (a ++ m ∷ b) ≤ 2 ^ 33 → 2 ^ 33 ≤ length a → ⊥
few_before a b m few many =
    let whole : length (a ++ m ∷ b) ≡ length a + suc (length b) = length-append a (m ∷ b) in
    let all : length (a ++ m ∷ b) ≤ 2 ^ 33 = few in
    let most : 2 ^ 33 ≤ length a = many in
    omega (arith, whole, all, most)

-- ---- a run over quiet objects

module _ {S F H T : Type 0} (laws : QuietLaws S F H T) (evidence : Evidence S F H T) (telling : Telling) (size workers moment : ℕ)
    (lines : List ScriptLine) (before after : Look) (world : World) (clock : ℕ) (history : List Entry) (faults : List (Fault S F H T))
    (opened : (i : Held) → now before ≡ Some i → Opened (formats_by telling) (image_of i) world) where
  abbrev s : Start
  s = start_of telling size true before world

  abbrev log : List Moment
  log = log_of after clock history

  module _ (legal : Legal s log) (told : s.tells ≡ true → AreTold log) (shown : AreShown {S = S} {F = F} {H = H} {T = T} evidence s log faults)
      (once : AreOnce s log) (tested : AreTested s log) (calm : IsCalm true after.sure history) (named : AreDeposedSo history)
      (made : MadeFirst s (steps_of moment lines) [] log) (apart : AreClosed s log) (quiet_for : IsQuietFor telling before lines) (known : AllKnown (formats_by telling)) where
    entries : entries_of log ≡ history
    entries = entries_are (image_at after) clock history

    none_faults : length history < 2 ^ 33 → fault_entries history ≡ 0
    none_faults few = (calm refl).0 history [] (sym (append-nil history)) (let less : length history < 2 ^ 33 = few in omega (arith, less))

    -- what who 0 asked is what lines ask for
    wanted : (m : Moment) → Has log m → m.entry.who ≡ 0 → is_line_ask m.entry.step ≡ true → OfLine moment lines (as_asked m.entry.step)
    wanted m h who ask =
        let asked : asked_steps log ≡ made.first = ap asked_steps made.grew.is ∙ made.grew.asked refl in
        let step : Step = as_asked m.entry.step in
        let first : Has made.first step = subst (λ (l : List Step). Has l step) asked (in_asked log m h (asked_true m.entry who ask)) in
        of_line moment lines step (in_wanted made.first made.rest (steps_of moment lines) step made.is first)

    steady : AreSteady s log
    steady m name indices when h who is a number has below =
        let from = wanted m h who (ap is_line_ask is) in
        let snap = of_snapshot moment from.line.item name indices when (subst (λ (step : Step). Has (steps_of_item moment from.line.item) (as_asked step)) is from.step_is) in
        let one = in_map snap.line_indices a (subst (λ (l : List AskedIndex). Has l a) snap.indices_are has) in
        let less : number < one.0.shards = subst (λ (x : AskedIndex). number < x.shards) (sym one.2) below in
        let there : telling.is_there a.place a.name number ≡ Some true =
        subst (λ (x : AskedIndex). telling.is_there x.place x.name number ≡ Some true) one.2 (quiet_for.there from.line snap.name snap.line_indices one.0 number from.there snap.item_is one.1 less) in
        is_steady telling a.place a.name number quiet_for.sources there

    tells : s.tells ≡ true
    tells = ap is_some quiet_for.holds.told

    calm_log : length history < 2 ^ 33 → AreCalm log
    calm_log few = calm_is log history entries (none_faults few)

    none_failed : IsSmooth s log → NoneFailed log
    none_failed smooth = laws.fails evidence s log faults smooth (shown.shown hands.Unit)

    none_undeleted : IsSmooth s log → NoneUndeleted s log
    none_undeleted smooth = laws.deletes evidence s log faults smooth (shown.shown hands.Delete)

    -- no line asks for a restore
    unasked : ((line : ScriptLine) (name place : Bytes) → Has lines line → line.item ≡ items.Restore name place → ⊥) → NoneAsked log
    unasked none m name place h who is =
        let from = wanted m h who (ap is_line_ask is) in
        let it = of_restore moment from.line.item name place (subst (λ (step : Step). Has (steps_of_item moment from.line.item) (as_asked step)) is from.step_is) in
        none from.line it.0 it.1 from.there it.2

    none_unrestored : IsSmooth s log → NoneUnrestored log
    none_unrestored smooth = ⊎_elim
        (λ (asks : AsksRestore lines). laws.restores evidence s log faults smooth (quiet_for.targets asks) (shown.shown hands.Restore))
        (λ none. laws.unasked s log smooth (unasked none))
        (find_restore lines)

    none_unverified : IsSmooth s log → NoneUnverified log
    none_unverified smooth = laws.verifies evidence s log faults smooth (shown.shown hands.Check)

    -- one after another
    in_turn : NoneOpen s log → IsInTurn s log
    in_turn closed = record {
      asked = λ front back m is who ask. ap (λ (c : Caller). c.drawn) (apart front back m is who ask);
      closed = ap (λ (c : Caller). c.drawn) closed;
    }

    rules : IsSmooth s log → AreByRule s log
    rules smooth = laws.rules s log smooth

    -- ---- up to 2 ^ 33 entries nothing fails

    front_is : (front back : List Moment) → log ≡ front ++ back → history ≡ entries_of front ++ entries_of back
    front_is front back is = sym entries ∙ ap entries_of is ∙ entries_both front back

    front_faultless : (front back : List Moment) → log ≡ front ++ back → length front ≤ 2 ^ 33 → fault_entries (entries_of front) ≡ 0
    front_faultless front back is few =
        let same : length (entries_of front) ≡ length front = as_many front in
        let most : length front ≤ 2 ^ 33 = few in
        let less : length (entries_of front) ≤ 2 ^ 41 = omega (arith, same, most) in
        (calm refl).0 (entries_of front) (entries_of back) (front_is front back is) less

    front_deposed : (front back : List Moment) → log ≡ front ++ back → AreDeposedSo (entries_of front)
    front_deposed front back is a b e place whole =
        named a (b ++ entries_of back) e place (front_is front back is ∙ ap (λ (l : List Entry). l ++ entries_of back) whole ∙ append_assoc a (e ∷ b) (entries_of back))

    front_calm : (c : QuietFront log) → AreCalm c.front
    front_calm c = calm_is c.front (entries_of c.front) refl (front_faultless c.front c.back c.is c.few)

    work_goes_on : (c : QuietFront log) (a b : List Moment) → c.front ≡ a ++ b → SomeStopped a → ⊥
    work_goes_on c a b is h =
        let was = h.1 in
        let there : Has c.front was.moment = subst (λ (l : List Moment). Has l was.moment) (sym is) (Has-left a b was.moment was.there) in
        elim (what_stops was.moment.entry.step h.0 was.stops) [
          | inl deposed ↦
              never_deposed c.front (entries_of c.front) refl (front_faultless c.front c.back c.is c.few) (front_deposed c.front c.back c.is) was.moment deposed.0 there (was.same ∙ ap (λ (r : Refusal). Refused r) deposed.1)
          | inr failed ↦ front_calm c was.moment there (was.same ∙ ap (λ (r : Refusal). Refused r) failed)
        ]

    whole : (c : QuietFront log) (a b : List Moment) (m : Moment) → c.front ≡ a ++ m ∷ b → log ≡ a ++ m ∷ (b ++ c.back)
    whole c a b m is = c.is ∙ ap (λ (l : List Moment). l ++ c.back) is ∙ append_assoc a (m ∷ b) c.back

    -- before each of its moments the work goes on
    going : (c : QuietFront log) (a b : List Moment) (m : Moment) → c.front ≡ a ++ m ∷ b → HasStopped a → ⊥
    going c a b m is stopped = ⊎_elim
        (λ (some : SomeStopped a). work_goes_on c a (m ∷ b) is some)
        (λ (many : 2 ^ 33 ≤ length a). few_before a b m (subst (λ (l : List Moment). length l ≤ 2 ^ 33) is c.few) many)
        stopped

    asked_in : AskedUnlessStopped s [] log → (c : QuietFront log) (a b : List Moment) (m : Moment) → c.front ≡ a ++ m ∷ b → m.entry.who ≡ 0 → AsksOrDraws m.entry.step → AreIn s a
    asked_in unless c a b m is who asks = ⊎_elim
        (λ (rests : AreIn s a). rests)
        (λ (stopped : HasStopped a). absurd (going c a b m is stopped))
        (unless.apart a (b ++ c.back) m (sym unless.is ∙ whole c a b m is) who asks)

    -- where a unit is given no verification is open
    given_closed : AskedUnlessStopped s [] log → (c : QuietFront log) (a b : List Moment) (m : Moment) (ticket op : ℕ) → c.front ≡ a ++ m ∷ b → m.entry.reply ≡ Gave ticket op GivenCleanup → NoneOpen s a
    given_closed unless c a b m ticket op is gave =
        let all : Legal s (a ++ m ∷ (b ++ c.back)) = subst (Legal s) (whole c a b m is) legal in
        let one : Legal s (a ++ m ∷ []) = legal_front (formats_of s) size (a ++ m ∷ []) (b ++ c.back) world (subst (Legal s) (sym (append_assoc a (m ∷ []) (b ++ c.back))) all) in
        let step : m.entry.step ≡ TakeStep = (laws.gave (formats_of s) size (world_of s a) m ticket op GivenCleanup (legal_one (formats_of s) size world a m one).1.0 gave).step_is in
        let was : Legal s a = legal_front (formats_of s) size a (m ∷ (b ++ c.back)) world all in
        ⊎_elim
        (λ (waits : IsWaiting s a). waiting_closed laws.leaves s a was waits)
        (λ (stopped : HasStopped a). absurd (going c a b m is stopped))
        (unless.taken a (b ++ c.back) m (sym unless.is ∙ whole c a b m is) step)

    front_smooth : AskedUnlessStopped s [] log → (c : QuietFront log) → IsSmooth s c.front
    front_smooth unless c =
        let within : (m : Moment) → Has c.front m → Has log m = λ m h. subst (λ (l : List Moment). Has l m) (sym c.is) (Has-left c.front c.back m h) in
        record {
          tells = tells;
          quiet = refl;
          known = known;
          image = image_of quiet_for.holds.image;
          shelf = quiet_for.shelf;
          kept = quiet_for.holds.kept;
          opened = opened quiet_for.holds.image quiet_for.holds.told;
          legal = legal_front (formats_of s) size c.front c.back world (subst (Legal s) c.is legal);
          told = told_front c.front c.back (subst AreTold c.is (told tells));
          once = λ a b m name e. once a (b ++ c.back) m name (whole c a b m e);
          tested = λ a b m name e. tested a (b ++ c.back) m name (whole c a b m e);
          steady = λ m name indices when h. steady m name indices when (within m h);
          calm = front_calm c;
          unspent = c.unspent;
          apart = λ a b m command e who step. (asked_in unless c a b m e who (inl (command, step))).tickets;
          tests_apart = record {
            given = λ a b m ticket op e gave. ap (λ (x : Caller). x.drawn) (given_closed unless c a b m ticket op e gave);
            drawn = λ a b m e who step k clean. (asked_in unless c a b m e who (inr step)).tickets k;
          };
        }

    as_long : length history ≡ length log
    as_long = ap length (sym entries) ∙ as_many log

    -- ---- where a number was spent, or 2 ^ 33 entries were made

    -- so many were made before a number was spent
    much : (status : ℕ) → status ≡ status_of (ending lines history) → AreFew workers lines log → AskedUnlessStopped s [] log → (front back : List Moment) → log ≡ front ++ back → AreUnspent front → 2 ^ 33 ≤ length front
        → HasSpent (formats_by telling) size workers moment world lines log history status
    much status is takes unless front back whole unspent many =
        let same : length history ≡ length log = as_long in
        let parts : length log ≡ length front + length back = ap length whole ∙ length-append front back in
        let most : 2 ^ 33 ≤ length front = many in
        let all : 2 ^ 33 ≤ length history = omega (arith, same, parts, most) in
        let long : is_short history ≡ false = le-ltb (length history) (2 ^ 33) all in
        inr (
          all,
          subst (λ (n : ℕ). 2 ≤ n) (sym is) (long_ends lines history long),
          asks_much laws s log refl (front_smooth unless) workers moment lines takes made (refuses_unlisted telling) front back whole unspent many,
        )

    -- or fewer
    spent_so : (status : ℕ) → status ≡ status_of (ending lines history) → AreFew workers lines log → AskedUnlessStopped s [] log → FirstSpent log → HasSpent (formats_by telling) size workers moment world lines log history status
    spent_so status is takes unless first = ⊎_elim
        (λ (many : 2 ^ 33 ≤ length first.front). much status is takes unless first.front (first.moment ∷ first.back) first.is first.unspent many)
        (λ (few : length first.front < 2 ^ 33).
        inl (number_spent laws s log refl (front_smooth unless) workers moment lines takes made legal (told tells) (refuses_unlisted telling) first (at_most (length first.front) few)))
        (many_or_not (length first.front) (2 ^ 33))

    -- ---- where fewer were

    -- the work wasn't stopped
    not_stopped : length history < 2 ^ 33 → HasFallen s moment lines [] log → ⊥
    not_stopped short (inl fell) = calm_log short fell.1.moment fell.1.there fell.1.failed
    not_stopped short (inr all) =
        let many : length history ≡ length log = as_long in
        let most : 2 ^ 33 ≤ length log = all in
        let less : length history < 2 ^ 33 = short in
        omega (arith, many, most, less)

    -- as many masters were elected as lines ask for
    elected_all : AreElected lines [] log → elections_of (entries_of log) ≡ failovers_of lines
    elected_all elected = elections_told log ∙ none_before (elections log) (failovers_of lines) elected

    short_log : length history < 2 ^ 33 → length log < 2 ^ 33
    short_log short =
        let many : length history ≡ length log = as_long in
        let less : length history < 2 ^ 33 = short in
        omega (arith, many, less)

    well : AskedUnlessStopped s [] log → length history < 2 ^ 33 → AreUnspent log → AreDone s moment lines [] log → IsAnsweredWell s moment lines log history
    well unless few_made unspent done =
        let checks : AreChecksInTurn moment lines log = inr (are_parts s moment lines log refl done.parted (never_deposed log history entries (none_faults few_made) named)) in
        let is_smooth : IsSmooth s log = front_smooth unless (record { front = log; back = []; is = sym (append-nil log); few = at_most (length log) (short_log few_made); unspent = unspent }) in
        let asked : asked_steps log ≡ steps_of moment lines = ap asked_steps done.grew.is ∙ done.grew.asked refl in
        let run : IsFaultFreeRun s log lines moment = record {
          smooth = is_smooth;
          units = none_failed is_smooth;
          deletes = none_undeleted is_smooth;
          restores = none_unrestored is_smooth;
          verifies = none_unverified is_smooth;
          checks = checks;
          by_rule = rules is_smooth;
          in_turn = in_turn done.closed;
          idle = done.idle;
          elected = elected_all done.elected;
          asked = asked;
          short = short_log few_made;
        } in
        record {
          answered = subst (λ (es : List Entry). AreAnswered lines (replies lines es)) entries (laws.answered s log lines moment run);
          ends = subst (λ (es : List Entry). EndsWell lines es) entries (laws.ends s log lines moment run);
          waits = done.waits;
        }

  pub completes : (status : ℕ) → Legal s log → (s.tells ≡ true → AreTold log) → AreShown {S = S} {F = F} {H = H} {T = T} evidence s log faults → AreOnce s log → AreTested s log → IsCalm true after.sure history
      → AreDeposedSo history → MadeFirst s (steps_of moment lines) [] log → AreClosed s log → AreDone s moment lines [] log ⊎ HasFallen s moment lines [] log → status ≡ status_of (ending lines history) → AreFew workers lines log
      → AskedUnlessStopped s [] log → IsQuietFor telling before lines
      → Completes telling size workers moment lines before world clock after history status
  completes status legal told shown once tested calm named made apart done is takes unless quiet_for known =
      ⊎_elim
      (λ (first : FirstSpent log). inl (spent_so legal told shown once tested calm named made apart quiet_for known status is takes unless first))
      (λ (unspent : AreUnspent log).
      ⊎_elim
      (λ (many : 2 ^ 33 ≤ length log). inl (much legal told shown once tested calm named made apart quiet_for known status is takes unless log [] (sym (append-nil log)) unspent many))
      (λ (few : length log < 2 ^ 33).
      let short : length history < 2 ^ 33 = subst (λ (n : ℕ). n < 2 ^ 33) (sym (as_long legal told shown once tested calm named made apart quiet_for known)) few in
      inr (
        ⊎_elim
            (λ (all : AreDone s moment lines [] log). well legal told shown once tested calm named made apart quiet_for known unless short unspent all)
            (λ (stopped : HasFallen s moment lines [] log). absurd (not_stopped legal told shown once tested calm named made apart quiet_for known short stopped))
            done,
        is,
      ))
      (many_or_not (length log) (2 ^ 33)))
      (find_spent log)
