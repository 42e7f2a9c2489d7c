-- Where no verification and no check fails each draw, and each look of a check, is followed by the end of what it began, before a line
-- asks for more.
use Rattle.std.proofs.Common.{◌≡◌, ◌≢◌, ℕ, Bool, true, false, ◌==◌, ◌&&◌, if◌then◌else◌, List, [], ◌∷◌, ◌++◌, append-nil, append_assoc, Option, Some, None, option_to_list, refl, sym, ap, ◌∙◌, subst, inl, inr}
use Rattle.std.proofs.lemmas.Bool.Decides.{eqb_tells}
use Rattle.esr_model.specs.Names.{BlobName}
use Rattle.esr_model.specs.Values.{Bytes, Has, Formats}
use Rattle.esr_model.specs.Image.{Image}
use Rattle.esr_core.specs.World.{World, Caller, no_caller, Opened, OpenedEmpty, OpenedRecord}
use Rattle.esr_core.specs.Entry.{Asked, Cleanup, Read, ReadBlob, CheckedAll, DrawTest, VerifiedAll, ReadFails, Why, Step, AskStep, TakeStep, ElectStep, LookStep, ReadStep, HasEnded, DeposedAt, Reply, Refused, Entry, Moment}
use Rattle.esr_core.specs.After.{told_blob, is_heard, caller_told, caller_wrote, caller_read, caller_after}
use Rattle.esr_core.specs.Allowed as allowed
use Rattle.esr_core.specs.Allowed.{ReadAllows, ReadFound, ReadFault, ReaderFailing, CheckingAll, CheckFailing, VerifyAllows, DrawingTest, BeginningTest, CommittingTest, RemovingTests, VerifyingAll, VerifyFailing, Allows, Allowed}
use Rattle.esr_script.specs.declared.item.Item.{Item}
use Rattle.esr_script.specs.declared.item.Item.TheVariants as items
use Rattle.esr_script.specs.declared.item.ScriptLine.{ScriptLine}
use Rattle.esr_script.specs.Kinds.{is_check, asks_step}
use Rattle.esr_model.specs.Lists.{Has-either}
use Rattle.esr_report.specs.Replies.{is_line_step, is_of_line, names_it}
use Rattle.esr_desk.specs.Check.Shown.{AllFetches}
use Rattle.esr_desk.specs.Start.{Start, formats_of, world_of}
use Rattle.esr_desk.specs.Own.{caller_of}
use Rattle.esr_quiet.specs.Asked.{is_line_ask, is_asked, as_asked, asked_steps}
use Rattle.esr_quiet.specs.Smooth.{IsSmooth, NoneFailed, NoneUnverified, NoneChecked}
use Rattle.esr_quiet.specs.Refusals.{AreByRule}
use Rattle.esr_quiet.specs.PrefixLaws.{has_at, quiet_at, legal_at}
use Rattle.esr_quiet.specs.CallerSteps.{caller_one, caller_left}
use Rattle.esr_complete.specs.InTurn.{IsInTurn, IsEndOfCheck, IsCheckPart, IsPart, AreParts, NoneAsksCheck, AreChecksInTurn}
use Rattle.esr_complete.specs.Lines.{step_of_item, steps_of_item, steps_of, entries_of}
use Rattle.esr_complete.specs.ItemSteps.{only_step, naming_item, cleanup_item}
use Rattle.esr_complete.specs.Answers.{IsDeletedBy}
use Rattle.esr_complete.proofs.OpEnds.{IsCalm, calm_unblocked}
use Rattle.esr_complete.proofs.Histories.{calm_of}

-- the step reads nothing
abbrev pub IsNoRead : Step → Type 0
IsNoRead step = (read : Read) → step ≢ ReadStep read

-- what is open
pub data Turn : Type 0 where
  Idle : Turn
  InVerification : Turn
  InCheck : Turn

-- by the id of the verification that is open
abbrev pub turn_by : Option ℕ → Turn
turn_by None = Idle
turn_by (Some id) = InVerification

-- whether a check is asked for, by each step that is asked for: of steps that are asked for by other lines
abbrev pub falses : List Step → List Bool
falses [] = []
falses (step ∷ steps) = false ∷ falses steps

abbrev pub kinds_of_item : Item → List Bool
kinds_of_item item = if asks_step item then is_check item ∷ [] else []

abbrev pub kinds_of : List ScriptLine → List Bool
kinds_of [] = []
kinds_of (line ∷ lines) = kinds_of_item line.item ++ kinds_of lines

-- Each entry is the step of a line, which is asked for; or a draw, which is asked for and opens a verification, whose end closes it; or
-- a look that is asked for and opens a check, whose end closes it; or it is none of these. While one is open nothing is asked for, and
-- none is open at the end. The kinds are those of the steps that are asked for.
pub data InTurn : Turn → List Bool → List Entry → Type 0 where
  AllClosed : InTurn Idle [] []
  IsLine : (kinds : List Bool) (e : Entry) (es : List Entry) → is_asked e ≡ true → is_of_line e ≡ true → IsNoRead e.step → InTurn Idle kinds es → InTurn Idle (false ∷ kinds) (e ∷ es)
  IsDraw : (kinds : List Bool) (e : Entry) (es : List Entry) → is_asked e ≡ true → is_of_line e ≡ false → e.step ≡ ReadStep DrawTest → InTurn InVerification kinds es → InTurn Idle (false ∷ kinds) (e ∷ es)
  IsEnd : (kinds : List Bool) (e : Entry) (es : List Entry) → is_asked e ≡ false → is_of_line e ≡ true → e.step ≡ ReadStep VerifiedAll → e.reply ≡ HasEnded → InTurn Idle kinds es → InTurn InVerification kinds (e ∷ es)
  IsLook : (kinds : List Bool) (e : Entry) (es : List Entry) → is_asked e ≡ true → is_of_line e ≡ true → e.step ≡ LookStep → InTurn InCheck kinds es → InTurn Idle (true ∷ kinds) (e ∷ es)
  IsCheckEnd : (kinds : List Bool) (e : Entry) (es : List Entry) (snapshots blobs : ℕ) → is_asked e ≡ false → is_of_line e ≡ true → e.step ≡ ReadStep (CheckedAll snapshots blobs) → e.reply ≡ HasEnded → InTurn Idle kinds es
      → InTurn InCheck kinds (e ∷ es)
  IsAside : (turn : Turn) (kinds : List Bool) (e : Entry) (es : List Entry) → is_asked e ≡ false → is_of_line e ≡ false → InTurn turn kinds es → InTurn turn kinds (e ∷ es)

-- ---- what is asked for is what lines ask for

-- a line asks for such a step
abbrev IsLineStep : Step → Type 0
IsLineStep (AskStep command) = Unit {0}
IsLineStep LookStep = Unit {0}
IsLineStep (ReadStep DrawTest) = Unit {0}
IsLineStep step = ⊥

behind : (n : Moment) (log : List Moment) (step : Step) (b : Bool) → Has (asked_steps log) step → Has (if b then as_asked n.entry.step ∷ asked_steps log else asked_steps log) step
behind n log step true h = inr h
behind n log step false h = h

pub in_asked : (log : List Moment) (m : Moment) → Has log m → is_asked m.entry ≡ true → Has (asked_steps log) (as_asked m.entry.step)
in_asked [] m h asked = absurd h
in_asked (n ∷ log) m (inl e) asked =
    subst (λ (l : List Step). Has l (as_asked m.entry.step))
    (sym (ap (λ (b : Bool). if b then as_asked n.entry.step ∷ asked_steps log else asked_steps log) (ap (λ (x : Moment). is_asked x.entry) e ∙ asked))) (inl (ap (λ (x : Moment). as_asked x.entry.step) e))
in_asked (n ∷ log) m (inr h) asked = behind n log (as_asked m.entry.step) (is_asked n.entry) (in_asked log m h asked)

-- where there is a step, a line asks for such a one
abbrev IsLineOf : Option Step → Type 0
IsLineOf None = Unit {0}
IsLineOf (Some step) = IsLineStep step

item_step : (moment : ℕ) (item : Item) → IsLineOf (step_of_item moment item)
item_step moment items.Wait = tt
item_step moment item = tt

one_step : (o : Option Step) (step : Step) → IsLineOf o → Has (option_to_list o) step → IsLineStep step
one_step None step line h = absurd h
one_step (Some x) step line (inl same) = subst IsLineStep same line
one_step (Some x) step line (inr h) = absurd h

lines_step : (moment : ℕ) (lines : List ScriptLine) (step : Step) → Has (steps_of moment lines) step → IsLineStep step
lines_step moment [] step h = absurd h
lines_step moment (line ∷ lines) step h = elim (Has-either (steps_of_item moment line.item) (steps_of moment lines) step h) [
  | inl own ↦ one_step (step_of_item moment line.item) step (item_step moment line.item) own
  | inr later ↦ lines_step moment lines step later
]

-- a command that names this is asked for by a line that does
pub lines_naming : (moment : ℕ) (lines : List ScriptLine) (command : Asked) (name : Bytes) → Has (steps_of moment lines) (AskStep command) → names_it command name ≡ true → IsDeletedBy lines name
lines_naming moment [] command name h named = absurd h
lines_naming moment (line ∷ lines) command name h named = elim (Has-either (steps_of_item moment line.item) (steps_of moment lines) (AskStep command) h) [
  | inl own ↦ let (names, item, has) = naming_item moment line.item command name (only_step moment line.item (AskStep command) own) named in (line, names, inl refl, item, has)
  | inr later ↦ let (found, names, there, item, has) = lines_naming moment lines command name later named in (found, names, inr there, item, has)
]

-- a cleanup is asked for by a line that does
pub lines_cleanup : (moment : ℕ) (lines : List ScriptLine) → Has (steps_of moment lines) (AskStep Cleanup) → (line : ScriptLine) × Has lines line × (line.item ≡ items.Cleanup)
lines_cleanup moment [] h = absurd h
lines_cleanup moment (line ∷ lines) h = elim (Has-either (steps_of_item moment line.item) (steps_of moment lines) (AskStep Cleanup) h) [
  | inl own ↦ (line, inl refl, cleanup_item moment line.item (only_step moment line.item (AskStep Cleanup) own))
  | inr later ↦ let (found, there, is) = lines_cleanup moment lines later in (found, inr there, is)
]

-- as it is asked for
line_step : (step : Step) → IsLineStep (as_asked step) → IsLineStep step
line_step (AskStep command) h = tt
line_step step h = h

-- ---- a step

-- what a step does to the id of the open verification
data OneTurn (was now : Option ℕ) (e : Entry) : Type 0 where
  LineTurn : is_asked e ≡ true → is_of_line e ≡ true → IsNoRead e.step → was ≡ None → now ≡ None → OneTurn was now e
  DrawTurn : (id : ℕ) → is_asked e ≡ true → is_of_line e ≡ false → e.step ≡ ReadStep DrawTest → was ≡ None → now ≡ Some id → OneTurn was now e
  EndTurn : (id : ℕ) → is_asked e ≡ false → is_of_line e ≡ true → e.step ≡ ReadStep VerifiedAll → e.reply ≡ HasEnded → was ≡ Some id → now ≡ None → OneTurn was now e
  AsideTurn : is_asked e ≡ false → is_of_line e ≡ false → now ≡ was → OneTurn was now e

-- what was asked for, with an entry before it
abbrev asked_with : Entry → List Step → List Step
asked_with e steps = if is_asked e then as_asked e.step ∷ steps else steps

go_on : (was now : Option ℕ) (e : Entry) (es : List Entry) (steps : List Step) (kinds : List Bool) → OneTurn was now e → InTurn (turn_by now) (falses steps ++ kinds) es → InTurn (turn_by was) (falses (asked_with e steps) ++ kinds) (e ∷ es)
go_on was now e es steps kinds (LineTurn asked line aside none closed) turn =
    subst (λ (o : Option ℕ). InTurn (turn_by o) (falses (asked_with e steps) ++ kinds) (e ∷ es)) (sym none)
    (subst (λ (b : Bool). InTurn Idle (falses (if b then as_asked e.step ∷ steps else steps) ++ kinds) (e ∷ es)) (sym asked)
    (IsLine (falses steps ++ kinds) e es asked line aside (subst (λ (o : Option ℕ). InTurn (turn_by o) (falses steps ++ kinds) es) closed turn)))
go_on was now e es steps kinds (DrawTurn id asked line draw none opened) turn =
    subst (λ (o : Option ℕ). InTurn (turn_by o) (falses (asked_with e steps) ++ kinds) (e ∷ es)) (sym none)
    (subst (λ (b : Bool). InTurn Idle (falses (if b then as_asked e.step ∷ steps else steps) ++ kinds) (e ∷ es)) (sym asked)
    (IsDraw (falses steps ++ kinds) e es asked line draw (subst (λ (o : Option ℕ). InTurn (turn_by o) (falses steps ++ kinds) es) opened turn)))
go_on was now e es steps kinds (EndTurn id asked line step reply opened closed) turn =
    subst (λ (o : Option ℕ). InTurn (turn_by o) (falses (asked_with e steps) ++ kinds) (e ∷ es)) (sym opened)
    (subst (λ (b : Bool). InTurn InVerification (falses (if b then as_asked e.step ∷ steps else steps) ++ kinds) (e ∷ es)) (sym asked)
    (IsEnd (falses steps ++ kinds) e es asked line step reply (subst (λ (o : Option ℕ). InTurn (turn_by o) (falses steps ++ kinds) es) closed turn)))
go_on was now e es steps kinds (AsideTurn asked line same) turn =
    subst (λ (b : Bool). InTurn (turn_by was) (falses (if b then as_asked e.step ∷ steps else steps) ++ kinds) (e ∷ es)) (sym asked)
    (IsAside (turn_by was) (falses steps ++ kinds) e es asked line (subst (λ (o : Option ℕ). InTurn (turn_by o) (falses steps ++ kinds) es) same turn))

abbrev by_nobody : Step → Reply → Entry
by_nobody step reply = record { who = 0; step = step; reply = reply }

-- no verification fails by the step, and no check ends
abbrev GoesWell : Step → Reply → Type 0
GoesWell step reply = ((why : Why) → step ≡ ReadStep (ReadFails why) → reply ≢ HasEnded) × ((snapshots blobs : ℕ) → step ≢ ReadStep (CheckedAll snapshots blobs))

module _ (f : Formats) (size : ℕ) (w : World) where
  abbrev c : Caller
  c = w.caller

  told_drawn : (name : BlobName) (found : Option Bytes) → (caller_told c name found).drawn ≡ c.drawn
  told_drawn name None = refl
  told_drawn name (Some b) = refl

  wrote_drawn : (name : BlobName) (found : Option Bytes) → (caller_wrote c name found).drawn ≡ c.drawn
  wrote_drawn name None = refl
  wrote_drawn name (Some b) = refl

  reads : (read : Read) (reply : Reply) (image : Option Image) → IsCalm (Unit {0}) reply (ReadStep read) → GoesWell (ReadStep read) reply → ReadAllows f w 0 read reply image
      → OneTurn c.drawn (caller_read f c read reply image).drawn (by_nobody (ReadStep read) reply)
  reads read reply image calm well (ReadFound k name im stored by there) = AsideTurn refl refl (told_drawn name (told_blob f im name))
  reads read reply image calm well (ReadFault k name im stored by) = absurd calm
  reads read reply image calm well (ReaderFailing k why im q out) = absurd (well.0 why refl refl)
  reads read reply image calm well (CheckingAll snapshots blobs im checks) = absurd (well.1 snapshots blobs refl)
  reads read reply image calm well (CheckFailing why im looked) = absurd (well.0 why refl refl)
  reads read reply image calm well other = AsideTurn refl refl refl

  verifies : (read : Read) (reply : Reply) (image : Option Image) → IsCalm (Unit {0}) reply (ReadStep read) → GoesWell (ReadStep read) reply → VerifyAllows f w read reply image
      → OneTurn c.drawn (caller_read f c read reply image).drawn (by_nobody (ReadStep read) reply)
  verifies read reply image calm well (DrawingTest im idle fits same) = DrawTurn w.next_id refl refl refl idle.undrawn refl
  verifies read reply image calm well (BeginningTest name im own same) = AsideTurn refl refl refl
  verifies read reply image calm well (CommittingTest name bytes im own new adds) = AsideTurn refl refl (wrote_drawn name (told_blob f im name))
  verifies read reply image calm well (RemovingTests names im may left) = AsideTurn refl refl refl
  verifies read reply image calm well (VerifyingAll im done same) = EndTurn done.id refl refl refl refl done.drawn refl
  verifies read reply image calm well (VerifyFailing why im begun same) = absurd (well.0 why refl refl)
  verifies read reply image calm well other = absurd calm

  by_read : (read : Read) (reply : Reply) (image : Option Image) → IsCalm (Unit {0}) reply (ReadStep read) → GoesWell (ReadStep read) reply → Allows f size w 0 (ReadStep read) reply image
      → OneTurn c.drawn (caller_read f c read reply image).drawn (by_nobody (ReadStep read) reply)
  by_read read reply image calm well (allowed.Reading k r rep im a same) = reads r rep im calm well a
  by_read read reply image calm well (allowed.Verifying r rep im a) = verifies r rep im calm well a

  asked_none : (b : Bool) → c.drawn ≡ None → (if b then no_caller else c).drawn ≡ None
  asked_none true none = refl
  asked_none false none = none

  looked_none : (b : Bool) → c.drawn ≡ None → (if b then record no_caller { looked = true } else c).drawn ≡ None
  looked_none true none = refl
  looked_none false none = none

  one_turn : (step : Step) (reply : Reply) (image : Option Image) → (is_line_ask step ≡ true → IsLineStep step) → (is_line_ask step ≡ true → c.drawn ≡ None) → IsCalm (Unit {0}) reply step → GoesWell step reply
      → Allows f size w 0 step reply image
      → OneTurn c.drawn (caller_after f c 0 step reply image).drawn (by_nobody step reply)
  one_turn (AskStep command) reply image lined closed calm well a = LineTurn refl refl (λ read e. cc) (closed refl) (asked_none (is_heard reply) (closed refl))
  one_turn LookStep reply image lined closed calm well a = LineTurn refl refl (λ read e. cc) (closed refl) (looked_none (is_heard reply) (closed refl))
  one_turn TakeStep reply image lined closed calm well a = AsideTurn refl refl refl
  one_turn ElectStep reply image lined closed calm well a = AsideTurn refl refl refl
  one_turn (ReadStep read) reply image lined closed calm well a = by_read read reply image calm well a
  one_turn step reply image lined closed calm well a = absurd (lined refl)

-- of who 0
turn_of : (f : Formats) (size : ℕ) (w : World) (m : Moment) → m.entry.who ≡ 0 → (is_line_ask m.entry.step ≡ true → IsLineStep m.entry.step) → (is_line_ask m.entry.step ≡ true → w.caller.drawn ≡ None)
    → IsCalm (Unit {0}) m.entry.reply m.entry.step → GoesWell m.entry.step m.entry.reply
    → Allows f size w m.entry.who m.entry.step m.entry.reply m.image → OneTurn w.caller.drawn (caller_after f w.caller m.entry.who m.entry.step m.entry.reply m.image).drawn m.entry
turn_of f size w m nobody lined closed calm well a =
    subst (λ (k : ℕ). Allows f size w k m.entry.step m.entry.reply m.image → OneTurn w.caller.drawn (caller_after f w.caller k m.entry.step m.entry.reply m.image).drawn (record { who = k; step = m.entry.step; reply = m.entry.reply }))
    (sym nobody)
    (λ (x : Allows f size w 0 m.entry.step m.entry.reply m.image). one_turn f size w m.entry.step m.entry.reply m.image lined closed calm well x) a

-- ---- over a history

opened_undrawn : (f : Formats) (image : Image) (w : World) → Opened f image w → w.caller.drawn ≡ None
opened_undrawn f image w (OpenedEmpty none) = refl
opened_undrawn f image w (OpenedRecord cluster text root there reads is) = refl

-- ---- the steps of a check

-- after its end no verification is open
ended_undrawn : (f : Formats) (c : Caller) (read : Read) (image : Option Image) → IsEndOfCheck read → (caller_read f c read HasEnded image).drawn ≡ None
ended_undrawn f c (CheckedAll snapshots blobs) image is = refl
ended_undrawn f c (ReadFails why) image is = refl
ended_undrawn f c read image is = absurd is

-- a fetch that isn't refused belongs to no line
fetch_aside : (name : BlobName) (reply : Reply) → IsCalm (Unit {0}) reply (ReadStep (ReadBlob name)) → is_line_step (ReadStep (ReadBlob name)) reply ≡ false
fetch_aside name (Refused (DeposedAt place)) calm = absurd calm
fetch_aside name HasEnded calm = refl
fetch_aside name reply calm = refl

abbrev AllCalmIn : List Moment → Type 0
AllCalmIn ms = (m : Moment) → Has ms m → IsCalm (Unit {0}) m.entry.reply m.entry.step

-- so fetches leave a check open
fetches_turn : (ms back : List Moment) (kinds : List Bool) → AllFetches ms → AllCalmIn ms → InTurn InCheck kinds (entries_of back) → InTurn InCheck kinds (entries_of (ms ++ back))
fetches_turn [] back kinds all calm turn = turn
fetches_turn (m ∷ ms) back kinds all calm turn =
    let name : BlobName = all.1.0 in
    let asked : is_asked m.entry ≡ false = (λ i. (all.0 i == 0) && is_line_ask (all.1.1 i)) in
    let line : is_of_line m.entry ≡ false = (λ i. (all.0 i == 0) && is_line_step (all.1.1 i) m.entry.reply) ∙ fetch_aside name m.entry.reply (subst (IsCalm (Unit {0}) m.entry.reply) all.1.1 (calm m (inl refl))) in
    IsAside InCheck kinds m.entry (entries_of (ms ++ back)) asked line (fetches_turn ms back kinds all.2 (λ n has. calm n (inr has)) turn)

-- ---- the kinds of what other lines ask for

falses_both : (a b : List Step) → falses (a ++ b) ≡ falses a ++ falses b
falses_both [] b = refl
falses_both (x ∷ a) b = ap (λ (l : List Bool). false ∷ l) (falses_both a b)

item_kinds : (moment : ℕ) (item : Item) → (item ≡ items.Check → ⊥) → falses (steps_of_item moment item) ≡ kinds_of_item item
item_kinds moment items.Check other = absurd (other refl)
item_kinds moment item other = refl

lines_kinds : (moment : ℕ) (lines : List ScriptLine) → NoneAsksCheck lines → falses (steps_of moment lines) ≡ kinds_of lines
lines_kinds moment [] none = refl
lines_kinds moment (line ∷ lines) none =
    falses_both (steps_of_item moment line.item) (steps_of moment lines)
    ∙ (λ i. item_kinds moment line.item (none line (inl refl)) i ++ lines_kinds moment lines (λ l has. none l (inr has)) i)

module _ (s : Start) (log : List Moment) (lines : List ScriptLine) (moment : ℕ) (smooth : IsSmooth s log) (none : NoneFailed log) (unverified : NoneUnverified log) (by_rule : AreByRule s log) (in_turn : IsInTurn s log)
    (asked : asked_steps log ≡ steps_of moment lines) where
  lined : (m : Moment) → Has log m → m.entry.who ≡ 0 → is_line_ask m.entry.step ≡ true → IsLineStep m.entry.step
  lined m has who ask =
      line_step m.entry.step
      (lines_step moment lines (as_asked m.entry.step) (subst (λ (l : List Step). Has l (as_asked m.entry.step)) asked (in_asked log m has (ap (λ (k : ℕ). (k == 0) && is_line_ask m.entry.step) who ∙ ask))))

  -- a step by which no check ends well
  turn_at : (front back : List Moment) (m : Moment) → log ≡ front ++ m ∷ back → ((snapshots blobs : ℕ) → m.entry.who ≡ 0 → m.entry.step ≢ ReadStep (CheckedAll snapshots blobs))
      → OneTurn (caller_of s front).drawn (caller_of s (front ++ m ∷ [])).drawn m.entry
  turn_at front back m is unchecked =
      let has : Has log m = subst (λ (l : List Moment). Has l m) (sym is) (has_at front back m) in
      let a : Allowed (formats_of s) s.part_size (world_of s front) m = legal_at s log smooth front back m is in
      elim (eqb_tells m.entry.who 0) [
        | inl nobody ↦ elim a.answered [
          | inl alive ↦
              subst (λ (x : Caller). OneTurn (caller_of s front).drawn x.drawn m.entry) (sym (caller_one s front m))
              (turn_of (formats_of s) s.part_size (world_of s front) m nobody.1 (lined m has nobody.1) (in_turn.asked front back m is nobody.1) (calm_of s log none by_rule m has)
              ((λ why. unverified m why has nobody.1), (λ snapshots blobs. unchecked snapshots blobs nobody.1)) alive.1)
          | inr dead ↦
              absurd (calm_unblocked (Unit {0}) (world_of s front) m.entry.who m.entry.step dead.refusal (quiet_at s log smooth front (m ∷ back) is).present
              (subst (λ (r : Reply). IsCalm (Unit {0}) r m.entry.step) dead.refused (calm_of s log none by_rule m has)) dead.blocks)
        ]
        | inr some ↦
            AsideTurn (ap (λ (b : Bool). b && is_line_ask m.entry.step) some.0) (ap (λ (b : Bool). b && is_line_step m.entry.step m.entry.reply) some.0)
            (ap (λ (x : Caller). x.drawn) (caller_left s front m a (inl some.1)))
      ]

  abbrev turn_after : List Moment → Turn
  turn_after done = turn_by (caller_of s done).drawn

  -- a part in which no check ends
  part_turn : (done part back : List Moment) (kinds : List Bool) → log ≡ done ++ (part ++ back) → NoneChecked part → InTurn (turn_after (done ++ part)) kinds (entries_of back)
      → InTurn (turn_after done) (falses (asked_steps part) ++ kinds) (entries_of (part ++ back))
  part_turn done [] back kinds is unchecked turn = subst (λ (l : List Moment). InTurn (turn_after l) kinds (entries_of back)) (append-nil done) turn
  part_turn done (m ∷ part) back kinds is unchecked turn =
      go_on (caller_of s done).drawn (caller_of s (done ++ m ∷ [])).drawn m.entry (entries_of (part ++ back)) (asked_steps part) kinds
      (turn_at done (part ++ back) m is (λ snapshots blobs. unchecked m snapshots blobs (inl refl)))
      (part_turn (done ++ m ∷ []) part back kinds (is ∙ sym (append_assoc done (m ∷ []) (part ++ back))) (λ n snapshots blobs there. unchecked n snapshots blobs (inr there))
      (subst (λ (l : List Moment). InTurn (turn_after l) kinds (entries_of back)) (sym (append_assoc done (m ∷ []) part)) turn))

  -- the end of a check isn't that it failed
  ends_well : (m : Moment) → Has log m → m.entry.who ≡ 0 → (read : Read) → IsEndOfCheck read → m.entry.step ≡ ReadStep read → m.entry.reply ≡ HasEnded
      → (snapshots : ℕ) × (blobs : ℕ) × (m.entry.step ≡ ReadStep (CheckedAll snapshots blobs))
  ends_well m has who (CheckedAll snapshots blobs) is_end step ended = (snapshots, blobs, step)
  ends_well m has who (ReadFails why) is_end step ended = absurd (unverified m why has who step ended)
  ends_well m has who read is_end step ended = absurd is_end

  -- the part of a check
  check_turn : (done part back : List Moment) (kinds : List Bool) → IsCheckPart part → log ≡ done ++ (part ++ back) → InTurn (turn_after (done ++ part)) kinds (entries_of back)
      → InTurn (turn_after done) (true ∷ kinds) (entries_of (part ++ back))
  check_turn done part back kinds h is turn =
      let front : List Moment = done ++ h.look ∷ h.fetches in
      let whole : part ++ back ≡ h.look ∷ (h.fetches ++ h.end ∷ back) = ap (λ (l : List Moment). l ++ back) h.is ∙ append_assoc (h.look ∷ h.fetches) (h.end ∷ []) back in
      let from : log ≡ done ++ h.look ∷ (h.fetches ++ h.end ∷ back) = is ∙ ap (λ (l : List Moment). done ++ l) whole in
      let to : done ++ part ≡ front ++ h.end ∷ [] = ap (λ (l : List Moment). done ++ l) h.is ∙ sym (append_assoc done (h.look ∷ h.fetches) (h.end ∷ [])) in
      let at_end : log ≡ front ++ h.end ∷ back = from ∙ sym (append_assoc done (h.look ∷ h.fetches) (h.end ∷ back)) in
      let undrawn : (caller_of s done).drawn ≡ None = in_turn.asked done (h.fetches ++ h.end ∷ back) h.look from h.looker (ap is_line_ask h.looks) in
      let closed : (caller_of s (done ++ part)).drawn ≡ None =
      ap (λ (l : List Moment). (caller_of s l).drawn) to
      ∙ ap (λ (c : Caller). c.drawn) (caller_one s front h.end ∙ (λ i. caller_after (formats_of s) (caller_of s front) (h.ender i) (h.ends i) (h.ended i) h.end.image))
      ∙ ended_undrawn (formats_of s) (caller_of s front) h.read h.end.image h.is_end in
      let end_has : Has log h.end = subst (λ (l : List Moment). Has l h.end) (sym at_end) (has_at front back h.end) in
      let (snapshots, blobs, step) = ends_well h.end end_has h.ender h.read h.is_end h.ends h.ended in
      let end_asked : is_asked h.end.entry ≡ false = (λ i. (h.ender i == 0) && is_line_ask (step i)) in
      let end_line : is_of_line h.end.entry ≡ true = (λ i. (h.ender i == 0) && is_line_step (step i) (h.ended i)) in
      let ending : InTurn InCheck kinds (entries_of (h.end ∷ back)) =
      IsCheckEnd kinds h.end.entry (entries_of back) snapshots blobs end_asked end_line step h.ended (subst (λ (o : Option ℕ). InTurn (turn_by o) kinds (entries_of back)) closed turn) in
      let calm : AllCalmIn h.fetches =
      λ m has. calm_of s log none by_rule m (subst (λ (l : List Moment). Has l m) (sym from) (behind_all done (h.look ∷ (h.fetches ++ h.end ∷ back)) m (inr (before_all h.fetches (h.end ∷ back) m has)))) in
      let look_asked : is_asked h.look.entry ≡ true = (λ i. (h.looker i == 0) && is_line_ask (h.looks i)) in
      let look_line : is_of_line h.look.entry ≡ true = (λ i. (h.looker i == 0) && is_line_step (h.looks i) h.look.entry.reply) in
      let looking : InTurn Idle (true ∷ kinds) (entries_of (h.look ∷ (h.fetches ++ h.end ∷ back))) =
      IsLook kinds h.look.entry (entries_of (h.fetches ++ h.end ∷ back)) look_asked look_line h.looks (fetches_turn h.fetches (h.end ∷ back) kinds h.all calm ending) in
      subst (λ (l : List Moment). InTurn (turn_after done) (true ∷ kinds) (entries_of l)) (sym whole)
      (subst (λ (o : Option ℕ). InTurn (turn_by o) (true ∷ kinds) (entries_of (h.look ∷ (h.fetches ++ h.end ∷ back)))) (sym undrawn) looking)
    where
      before_all : (a b : List Moment) (m : Moment) → Has a m → Has (a ++ b) m
      before_all [] b m h = absurd h
      before_all (x ∷ a) b m (inl e) = inl e
      before_all (x ∷ a) b m (inr h) = inr (before_all a b m h)

      behind_all : (a b : List Moment) (m : Moment) → Has b m → Has (a ++ b) m
      behind_all [] b m h = h
      behind_all (x ∷ a) b m h = inr (behind_all a b m h)

  -- the part of a line
  item_turn : (item : Item) (done part back : List Moment) (kinds : List Bool) → log ≡ done ++ (part ++ back) → asked_steps part ≡ steps_of_item moment item → IsPart item part → InTurn (turn_after (done ++ part)) kinds (entries_of back)
      → InTurn (turn_after done) (kinds_of_item item ++ kinds) (entries_of (part ++ back))
  item_turn items.Check done part back kinds is of own turn = check_turn done part back kinds own is turn
  item_turn item done part back kinds is of own turn = subst (λ (l : List Step). InTurn (turn_after done) (falses l ++ kinds) (entries_of (part ++ back))) of (part_turn done part back kinds is own turn)

  -- what comes after the parts
  rest_turn : (done rest : List Moment) → log ≡ done ++ rest → NoneChecked rest → InTurn (turn_after done) (falses (asked_steps rest) ++ []) (entries_of rest)
  rest_turn done rest is unchecked =
      let closed : InTurn (turn_after (done ++ rest)) [] [] = subst (λ (o : Option ℕ). InTurn (turn_by o) [] []) (sym (ap (λ (l : List Moment). (caller_of s l).drawn) (sym is) ∙ in_turn.closed)) AllClosed in
      subst (λ (l : List Moment). InTurn (turn_after done) (falses (asked_steps rest) ++ []) (entries_of l)) (append-nil rest)
      (part_turn done rest [] [] (is ∙ ap (λ (l : List Moment). done ++ l) (sym (append-nil rest))) unchecked closed)

  parts_turn : (left : List ScriptLine) (done rest : List Moment) → log ≡ done ++ rest → AreParts moment left rest → InTurn (turn_after done) (kinds_of left) (entries_of rest)
  parts_turn [] done rest is (of, unchecked) = subst (λ (l : List Step). InTurn (turn_after done) (falses l ++ []) (entries_of rest)) of (rest_turn done rest is unchecked)
  parts_turn (line ∷ left) done rest is (part, back, split, of, own, more) =
      let from : log ≡ done ++ (part ++ back) = is ∙ ap (λ (l : List Moment). done ++ l) split in
      let later = parts_turn left (done ++ part) back (from ∙ sym (append_assoc done part back)) more in
      subst (λ (l : List Moment). InTurn (turn_after done) (kinds_of_item line.item ++ kinds_of left) (entries_of l)) (sym split) (item_turn line.item done part back (kinds_of left) from of own later)

  turn_all : AreChecksInTurn moment lines log → InTurn (turn_after []) (kinds_of lines) (entries_of log)
  turn_all (inl (none_asks, unchecked)) =
      subst (λ (l : List Bool). InTurn (turn_after []) l (entries_of log)) (append-nil (falses (asked_steps log)) ∙ ap falses asked ∙ lines_kinds moment lines none_asks) (rest_turn [] log refl unchecked)
  turn_all (inr parts) = parts_turn lines [] log refl parts

  pub entries_in_turn : AreChecksInTurn moment lines log → InTurn Idle (kinds_of lines) (entries_of log)
  entries_in_turn checks = subst (λ (o : Option ℕ). InTurn (turn_by o) (kinds_of lines) (entries_of log)) (opened_undrawn (formats_of s) smooth.image s.world smooth.opened) (turn_all checks)
