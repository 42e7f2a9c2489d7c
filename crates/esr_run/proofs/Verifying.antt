-- What lines leave of verifications.
use Rattle.std.proofs.Common.{◌≡◌, ◌≢◌, ◌⊎◌, ℕ, zero, suc, ◌+◌, ◌^◌, ◌≤◌, ◌==◌, ◌&&◌, if◌then◌else◌, length, Bool, true, false, List, [], ◌∷◌, ◌++◌, true≢false, append-nil, append_assoc, Option, Result, Ok, Err, IfErr, nat_cmp, refl, sym, ap, ◌∙◌, subst, inl, inr, ⊎_elim, arith}
use Rattle.std.specs.FinMap.{FinMap}
use Rattle.std.specs.FinMap as fin
use Rattle.esr_model.specs.Lists.{Has-left}
use Rattle.esr_run.proofs.Apart.{no_middle, split_both}
use Rattle.esr_model.specs.Values.{Has, Formats}
use Rattle.esr_model.specs.Names.{BlobName}
use Rattle.esr_model.specs.Image.{Image}
use Rattle.esr_core.specs.World.{World, Ticket, Reader, no_caller}
use Rattle.esr_core.specs.Entry.{Asked, Read, ReadBlob, RestoredShard, DrawTest, BeginTest, CommitTest, RemoveTests, VerifiedAll, ReadFails, Step, AskStep, LookStep, TakeStep, ElectStep, ReadStep, Reply, DeposedAt, AbortedBy, StaleTerm, Refused, HasEnded, DrawnFrom, WasRemoved, Entry, Moment}
use Rattle.esr_core.specs.After.{answered, caller_after}
use Rattle.esr_desk.specs.declared.refusal.StepRefusal.{StepRefusal}
use Rattle.esr_desk.specs.declared.refusal.StepRefusal.TheVariants as steps
use Rattle.esr_desk.specs.declared.refusal.EntryRefusal.{EntryRefusal}
use Rattle.esr_desk.specs.declared.refusal.EntryRefusal.TheVariants as refusals
use Rattle.esr_desk.specs.declared.unit.UnitRefusal.{UnitRefusal}
use Rattle.esr_desk.specs.declared.unit.UnitRefusal.TheVariants as units
use Rattle.esr_desk.specs.Refusals.{refusal_of}
use Rattle.esr_desk.specs.Start.{Start, Legal, formats_of, world_of, ticket_of}
use Rattle.esr_desk.specs.Own.{or_no_reader, caller_of}
use Rattle.esr_desk.specs.Outcome.{Waited, Stepped, Outcome}
use Rattle.esr_desk.specs.Evidence.{Evidence}
use Rattle.esr_quiet.specs.Asked.{is_line_ask, as_asked, asked_steps, GrewAsking}
use Rattle.esr_quiet.specs.Asking.{asking_none}
use Rattle.esr_quiet.specs.Numbers.{HasNoTickets}
use Rattle.esr_quiet.specs.Smooth.{HasDrawn}
use Rattle.esr_drive.specs.Elections.{IsOfWait, AllOfWait, WaitsOnly, election, elections, elections_more}
use Rattle.esr_drive.specs.Takes.{idle_take, idle_takes, takes_more}
use Rattle.esr_verify.specs.Idle.{IsIdle}
use Rattle.esr_verify.specs.Steps.{Answered, test_names, writing, reading, verification}
use Rattle.esr_verify.specs.Verified.{Are, HasVerified}
use Rattle.esr_verify.specs.Refused.{StopsVerify, IsVerifyRefused}
use Rattle.esr_verify.specs.Began.{IsFurther, AllFurther, HasBegun, BeganOne, NotBegun, Begun, AsksOne, NoneVerified}
use Rattle.esr_run.specs.Made.{MadeFirst, AreIn, LineMade, LineRests, LineSpends, VerifyBegins, AsksLine, NoneOpen}
use Rattle.esr_run.specs.Laws.{StepsStay, WorkLeaves}
use Rattle.esr_check.specs.Began.{IsOfCheck}
use Rattle.esr_run.specs.Checked.{HasLooked}
use Rattle.esr_run.specs.Verified.{AreVerified, AreBegun, AreClosed, AreWhole, MayVerify, VerifiesOn}
use Rattle.esr_run.proofs.Completing.{in_middle}
use Rattle.esr_run.proofs.Making.{world_one, legal_front, same_or_not, all_entries}
use Rattle.esr_run.proofs.Callers.{caller_end, caller_worked}
use Rattle.esr_run.proofs.Checks.{NoneZero, no_cons, split_end, Never, NamesFirst, fails_other, begun_fails, maybe_fails, begun_checked, maybe_checked}

-- ---- steps that read nothing for who 0

-- no step of who 0 that reads
abbrev IsAside : Moment → Type 0
IsAside m = (m.entry.who ≢ 0) ⊎ ((read : Read) → m.entry.step ≢ ReadStep read)

not_aside : (m x : Moment) (read : Read) → m ≡ x → x.entry.who ≡ 0 → x.entry.step ≡ ReadStep read → IsAside m → ⊥
not_aside m x read same who step (inl some) = some (ap (λ (y : Moment). y.entry.who) same ∙ who)
not_aside m x read same who step (inr other) = other read (ap (λ (y : Moment). y.entry.step) same ∙ step)

-- none is open where a line asks
abbrev AsksClosed : Start → List Moment → Moment → Type 0
AsksClosed s log m = m.entry.who ≡ 0 → is_line_ask m.entry.step ≡ true → IsIdle (caller_of s log)

pub closed_one : (s : Start) (log : List Moment) (m : Moment) → AsksClosed s log m → AreClosed s log → AreClosed s (log ++ m ∷ [])
closed_one s log m idle was front back x is who asks = elim (split_end log m front x back is) [
  | inl last ↦ subst (λ (l : List Moment). IsIdle (caller_of s l)) (sym last.0) (idle (ap (λ (y : Moment). y.entry.who) last.1 ∙ who) (ap (λ (y : Moment). is_line_ask y.entry.step) last.1 ∙ asks))
  | inr before ↦ was front before.0 x before.1 who asks
]

whole_one : (s : Start) (workers : ℕ) (checks : Bool) (log : List Moment) (m : Moment) → IsAside m → AsksClosed s log m → AreWhole s workers checks log → AreWhole s workers checks (log ++ m ∷ [])
whole_one s workers checks log m aside idle w = record {
  verified = λ front back x is who step reply. elim (split_end log m front x back is) [
    | inl last ↦ absurd (not_aside m x _ last.1 who step aside)
    | inr before ↦ w.verified front before.0 x before.1 who step reply
  ];
  checked = λ front back x snapshots blobs is who step reply. elim (split_end log m front x back is) [
    | inl last ↦ absurd (not_aside m x _ last.1 who step aside)
    | inr before ↦ w.checked front before.0 x snapshots blobs before.1 who step reply
  ];
  begun = λ front back x read is who step. elim (split_end log m front x back is) [
    | inl last ↦ absurd (not_aside m x read last.1 who step aside)
    | inr before ↦ w.begun front before.0 x read before.1 who step
  ];
  closed = closed_one s log m idle w.closed;
  unchecked = λ no. fails_other Never s log m (λ why who step. not_aside m m _ refl who step aside) (w.unchecked no);
  first = fails_other (NamesFirst s) s log m (λ why who step. not_aside m m _ refl who step aside) w.first;
}

no_ask_read : (command : Asked) (read : Read) → AskStep command ≢ ReadStep read
no_ask_read command read e = cc

no_look_read : (read : Read) → LookStep ≢ ReadStep read
no_look_read read e = cc

no_take_read : (read : Read) → TakeStep ≢ ReadStep read
no_take_read read e = cc

no_elect_read : (read : Read) → ElectStep ≢ ReadStep read
no_elect_read read e = cc

asks_aside : (step : Step) → AsksLine step → (read : Read) → step ≢ ReadStep read
asks_aside step (inl ask) read is = no_ask_read ask.0 read (sym ask.1 ∙ is)
asks_aside step (inr look) read is = no_look_read read (sym look ∙ is)

-- ---- who 0 stays idle

pub none_idle : IsIdle no_caller
none_idle = refl

looked_idle : IsIdle (record no_caller { looked = true })
looked_idle = refl

-- by an ask or a look
ask_idle : (f : Formats) (w : World) (command : Asked) (reply : Reply) (image : Option Image) → IsIdle w.caller → IsIdle (caller_after f (answered f w 0 (AskStep command) reply image).caller 0 (AskStep command) reply image)
ask_idle f w command (Refused (DeposedAt place)) image idle = idle
ask_idle f w command (Refused (AbortedBy op)) image idle = idle
ask_idle f w command (Refused (StaleTerm own now)) image idle = idle
ask_idle f w command (Refused refusal) image idle = none_idle
ask_idle f w command reply image idle = none_idle

look_idle : (f : Formats) (w : World) (reply : Reply) (image : Option Image) → IsIdle w.caller → IsIdle (caller_after f (answered f w 0 LookStep reply image).caller 0 LookStep reply image)
look_idle f w (Refused (DeposedAt place)) image idle = idle
look_idle f w (Refused (AbortedBy op)) image idle = idle
look_idle f w (Refused (StaleTerm own now)) image idle = idle
look_idle f w (Refused refusal) image idle = looked_idle
look_idle f w reply image idle = looked_idle

asks_idle : (f : Formats) (w : World) (step : Step) (reply : Reply) (image : Option Image) → AsksLine step → IsIdle w.caller → IsIdle (caller_after f (answered f w 0 step reply image).caller 0 step reply image)
asks_idle f w step reply image (inl ask) idle = subst (λ (x : Step). IsIdle (caller_after f (answered f w 0 x reply image).caller 0 x reply image)) (sym ask.1) (ask_idle f w ask.0 reply image idle)
asks_idle f w step reply image (inr look) idle = subst (λ (x : Step). IsIdle (caller_after f (answered f w 0 x reply image).caller 0 x reply image)) (sym look) (look_idle f w reply image idle)

-- ---- a line that asks for one step

stepped_may : (s : Start) (workers : ℕ) (checks : Bool) (old new : List Moment) (step : Step) (reply : Reply) → AsksLine step → s.alone ≡ true → Stepped s old new 0 step reply → MayVerify s workers checks old
    → MayVerify s workers checks new
stepped_may s workers checks old new step reply asks alone h may =
    let m : Moment = record { entry = record { who = 0; step = step; reply = reply }; image = h.image } in
    let front : h.front ≡ old = h.waited.grew ∙ ap (λ (l : List Moment). old ++ l) (h.waited.nobody alone) ∙ append-nil old in
    let is : new ≡ old ++ m ∷ [] = h.is ∙ ap (λ (l : List Moment). l ++ m ∷ []) front in
    record {
      whole = subst (AreWhole s workers checks) (sym is) (whole_one s workers checks old m (inr (asks_aside step asks)) (λ who asked. may.idle) may.whole);
      idle = subst (λ (l : List Moment). IsIdle (caller_of s l)) (sym is) (subst IsIdle (sym (caller_end s old m)) (asks_idle (formats_of s) (world_of s old) step reply h.image asks may.idle));
      legal = h.legal;
    }

waited_whole : (s : Start) (workers : ℕ) (checks : Bool) (old new : List Moment) → s.alone ≡ true → Waited s old new 0 → AreWhole s workers checks old → AreWhole s workers checks new
waited_whole s workers checks old new alone h w = subst (AreWhole s workers checks) (sym (h.grew ∙ ap (λ (l : List Moment). old ++ l) (h.nobody alone) ∙ append-nil old)) w

pub line_verifies : {X : Type 0} (s : Start) (workers : ℕ) (checks : Bool) (old new : List Moment) (step : Step) (ok : X → Reply) (r : Result X StepRefusal) → AsksLine step → s.alone ≡ true → Outcome s old new 0 step ok r
    → MayVerify s workers checks old → VerifiesOn s workers checks new r
line_verifies s workers checks old new step ok (Ok x) asks alone h may = stepped_may s workers checks old new step (ok x) asks alone h may
line_verifies s workers checks old new step ok (Err (steps.Refused refusal)) asks alone h may = stepped_may s workers checks old new step (Refused (refusal_of refusal)) asks alone h.0 may
line_verifies s workers checks old new step ok r asks alone h may = waited_whole s workers checks old new alone h.0 may.whole

-- ---- a wait

work_aside : (m : Moment) → IsOfWait m → IsAside m
work_aside m (inl some) = inl some
work_aside m (inr (inl take)) = inr (λ read is. no_take_read read (sym take ∙ is))
work_aside m (inr (inr elect)) = inr (λ read is. no_elect_read read (sym elect ∙ is))

work_closed : (s : Start) (log : List Moment) (m : Moment) → IsOfWait m → AsksClosed s log m
work_closed s log m (inl some) who asks = absurd (some who)
work_closed s log m (inr (inl take)) who asks = absurd (true≢false (sym asks ∙ ap is_line_ask take))
work_closed s log m (inr (inr elect)) who asks = absurd (true≢false (sym asks ∙ ap is_line_ask elect))

whole_more : (s : Start) (workers : ℕ) (checks : Bool) (log more : List Moment) → AllOfWait more → AreWhole s workers checks log → AreWhole s workers checks (log ++ more)
whole_more s workers checks log [] work w = subst (AreWhole s workers checks) (sym (append-nil log)) w
whole_more s workers checks log (m ∷ more) work w =
    subst (AreWhole s workers checks) (append_assoc log (m ∷ []) more) (whole_more s workers checks (log ++ m ∷ []) more work.1 (whole_one s workers checks log m (work_aside m work.0) (work_closed s log m work.0) w))

pub waits_may : (leaves : WorkLeaves) (s : Start) (workers : ℕ) (checks : Bool) (old new : List Moment) → WaitsOnly old new → (Legal s old → Legal s new) → MayVerify s workers checks old → MayVerify s workers checks new
waits_may leaves s workers checks old new w legal may =
    let now : Legal s new = legal may.legal in
    record {
      whole = subst (AreWhole s workers checks) (sym w.is) (whole_more s workers checks old w.more w.all may.whole);
      idle = subst IsIdle (sym (ap (caller_of s) w.is ∙ caller_worked leaves s old w.more w.all (subst (Legal s) w.is now))) may.idle;
      legal = now;
    }

pub waits_closed : (leaves : WorkLeaves) (s : Start) (old new : List Moment) → WaitsOnly old new → (Legal s old → Legal s new) → Legal s old → NoneOpen s old → NoneOpen s new
waits_closed leaves s old new w legal was closed = subst IsIdle (sym (ap (caller_of s) w.is ∙ caller_worked leaves s old w.more w.all (subst (Legal s) w.is (legal was)))) closed

pub waits_whole : (s : Start) (workers : ℕ) (checks : Bool) (old new : List Moment) → WaitsOnly old new → AreWhole s workers checks old → AreWhole s workers checks new
waits_whole s workers checks old new w was = subst (AreWhole s workers checks) (sym w.is) (whole_more s workers checks old w.more w.all was)

pub verifies_by : {X : Type 0} (s : Start) (workers : ℕ) (checks : Bool) (new : List Moment) (result : Result X StepRefusal) → MayVerify s workers checks new → VerifiesOn s workers checks new result
verifies_by s workers checks new (Err steps.Memory) may = may.whole
verifies_by s workers checks new (Err steps.TurnsSpent) may = may.whole
verifies_by s workers checks new result may = may

pub verified_whole : (s : Start) (workers : ℕ) (checks : Bool) (new : List Moment) (result : Result Unit StepRefusal) → VerifiesOn s workers checks new result → AreWhole s workers checks new
verified_whole s workers checks new (Err steps.Memory) h = h
verified_whole s workers checks new (Err steps.TurnsSpent) h = h
verified_whole s workers checks new result h = h.whole

-- ---- where nothing has happened yet

pub begun_may : (s : Start) (workers : ℕ) (checks : Bool) (log : List Moment) → log ≡ [] → s.world.caller ≡ no_caller → MayVerify s workers checks log
begun_may s workers checks log empty nobody = subst (MayVerify s workers checks) (sym empty) (record {
  whole = record {
    verified = λ front back m is who step reply. absurd (no_middle front m back is);
    checked = λ front back m snapshots blobs is who step reply. absurd (no_middle front m back is);
    begun = λ front back m read is who step. absurd (no_middle front m back is);
    closed = λ front back m is who asks. absurd (no_middle front m back is);
    unchecked = λ no front back m why is who step reply is_open. no_middle front m back is;
    first = λ front back m why is who step reply is_open. absurd (no_middle front m back is);
  };
  idle = subst IsIdle (sym nobody) none_idle;
  legal = tt;
})

-- ---- a verification

-- what it adds asks for its draw alone
further_asks : (read : Read) → IsFurther read → is_line_ask (ReadStep read) ≡ false
further_asks (ReadBlob name) h = refl
further_asks (BeginTest name) h = refl
further_asks (CommitTest name) h = refl
further_asks (RemoveTests names) h = refl
further_asks VerifiedAll h = refl
further_asks (ReadFails why) h = refl
further_asks read h = absurd h

unasked_more : (rest : List Moment) → AllFurther rest → asked_steps rest ≡ []
unasked_more [] all = refl
unasked_more (m ∷ rest) all =
    ap (λ (b : Bool). if b then as_asked m.entry.step ∷ asked_steps rest else asked_steps rest)
    (ap (λ (b : Bool). (m.entry.who == 0) && b) (ap is_line_ask all.1.1 ∙ further_asks all.1.0 all.1.2) ∙ and_false (m.entry.who == 0))
    ∙ unasked_more rest all.2
  where
    and_false : (b : Bool) → (b && false) ≡ false
    and_false true = refl
    and_false false = refl

draw_asked : (m : Moment) (rest : List Moment) → m.entry.who ≡ 0 → m.entry.step ≡ ReadStep DrawTest → AllFurther rest → asked_steps (m ∷ rest) ≡ ReadStep DrawTest ∷ []
draw_asked m rest who step all =
    ap (λ (b : Bool). if b then as_asked m.entry.step ∷ asked_steps rest else asked_steps rest) (ap (λ (k : ℕ). (k == 0) && is_line_ask m.entry.step) who ∙ ap is_line_ask step)
    ∙ ap (λ (x : Step). as_asked x ∷ asked_steps rest) step ∙ ap (λ (l : List Step). ReadStep DrawTest ∷ l) (unasked_more rest all)

begun_asks : (s : Start) (old new : List Moment) → HasBegun old new → (Legal s old → Legal s new) → GrewAsking s (ReadStep DrawTest ∷ []) old new
begun_asks s old new h legal = record { more = h.draw ∷ h.rest; is = h.is; legal = legal; asked = λ alone. draw_asked h.draw h.rest h.drawer h.drew h.all }

pub all_asked : (s : Start) (wanted : List Step) (old new : List Moment) → GrewAsking s wanted old new → MadeFirst s wanted old new
all_asked s wanted old new g = record { first = wanted; rest = []; grew = g; is = append-nil wanted }

pub none_asked : (s : Start) (wanted : List Step) (old new : List Moment) → new ≡ old → MadeFirst s wanted old new
none_asked s wanted old new is = record { first = []; rest = wanted; grew = subst (λ (l : List Moment). GrewAsking s [] old l) (sym is) (asking_none s old); is = refl }

front_asked : (s : Start) (old new : List Moment) → BeganOne old new → (Legal s old → Legal s new) → MadeFirst s (ReadStep DrawTest ∷ []) old new
front_asked s old new (NotBegun is) legal = none_asked s (ReadStep DrawTest ∷ []) old new is
front_asked s old new (Begun draw rest is drawer drew all) legal =
    all_asked s (ReadStep DrawTest ∷ []) old new (begun_asks s old new (record { draw = draw; rest = rest; is = is; drawer = drawer; drew = drew; all = all }) legal)

-- the answer of a line by that of its verification
abbrev pub line_result : Result Unit UnitRefusal → Result Unit StepRefusal
line_result (Ok x) = Ok tt
line_result (Err (units.Failed why)) = Ok tt
line_result (Err (units.Stopped refusal)) = Err refusal
line_result (Err units.Stale) = Ok tt

pub verify_made : (s : Start) (old new : List Moment) (r : Result Unit UnitRefusal) → AsksOne old new r → (Legal s old → Legal s new) → LineMade s (ReadStep DrawTest ∷ []) old new (line_result r)
verify_made s old new (Err (units.Stopped steps.Memory)) h legal = front_asked s old new h legal
verify_made s old new (Err (units.Stopped steps.TurnsSpent)) h legal = front_asked s old new h legal
verify_made s old new (Err units.Stale) h legal = absurd h
verify_made s old new r h legal = begun_asks s old new h legal

pub verify_begins : (old new : List Moment) (r : Result Unit UnitRefusal) → AsksOne old new r → VerifyBegins old new (line_result r)
verify_begins old new (Err (units.Stopped steps.TurnsSpent)) h = h
verify_begins old new (Err units.Stale) h = absurd h
verify_begins old new r h = h

-- its steps, one after another: each is of who 0 and reads, and restores no shard
abbrev pub NoShard : Read → Type 0
NoShard (RestoredShard files bytes) = ⊥
NoShard read = Unit {0}

abbrev pub AllRead : List Moment → Type 0
AllRead [] = Unit {0}
AllRead (m ∷ more) = (m.entry.who ≡ 0) × ((read : Read) × (m.entry.step ≡ ReadStep read) × NoShard read) × AllRead more

pub record ReadsOnly (old new : List Moment) : Type 0 where
  pub more : List Moment
  pub is : new ≡ old ++ more
  pub all : AllRead more

begun_reads : (old new : List Moment) → HasBegun old new → ReadsOnly old new
begun_reads old new h = record { more = h.draw ∷ h.rest; is = h.is; all = (h.drawer, (DrawTest, h.drew, tt), further_reads h.rest h.all) }
  where
    not_shard : (read : Read) → IsFurther read → NoShard read
    not_shard (ReadBlob name) h = tt
    not_shard (BeginTest name) h = tt
    not_shard (CommitTest name) h = tt
    not_shard (RemoveTests names) h = tt
    not_shard VerifiedAll h = tt
    not_shard (ReadFails why) h = tt
    not_shard read h = absurd h

    further_reads : (rest : List Moment) → AllFurther rest → AllRead rest
    further_reads [] all = tt
    further_reads (m ∷ rest) all = (all.0, (all.1.0, all.1.1, not_shard all.1.0 all.1.2), further_reads rest all.2)

one_reads : (old new : List Moment) → BeganOne old new → ReadsOnly old new
one_reads old new (NotBegun is) = record { more = []; is = is ∙ sym (append-nil old); all = tt }
one_reads old new (Begun draw rest is drawer drew all) = begun_reads old new (record { draw = draw; rest = rest; is = is; drawer = drawer; drew = drew; all = all })

asked_reads : {X : Type 0} (old new : List Moment) (r : Result X UnitRefusal) → AsksOne old new r → ReadsOnly old new
asked_reads old new (Err (units.Stopped steps.Memory)) h = one_reads old new h
asked_reads old new (Err (units.Stopped steps.TurnsSpent)) h = one_reads old new h
asked_reads old new (Err units.Stale) h = absurd h
asked_reads old new r h = begun_reads old new h

-- ---- it leaves tickets

-- turns are spent only where 2 ^ 33 were taken
abbrev pub TurnsAre : Start → List Moment → UnitRefusal → Type 0
TurnsAre s new (units.Stopped steps.TurnsSpent) = 2 ^ 33 ≤ s.earlier_turns + length new
TurnsAre s new (units.Stopped steps.Memory) = Unit {0}
TurnsAre s new (units.Stopped (steps.Refused refusal)) = Unit {0}
TurnsAre s new (units.Failed why) = Unit {0}
TurnsAre s new units.Stale = Unit {0}

pub turns_of : {S F H T : Type 0} (evidence : Evidence S F H T) (s : Start) (old new : List Moment) (r : Result Unit UnitRefusal) → IfErr r (IsVerifyRefused evidence s old new) → IfErr r (TurnsAre s new)
turns_of evidence s old new (Err (units.Stopped steps.TurnsSpent)) h = h
turns_of evidence s old new r h = tt

module _ (laws : StepsStay) (s : Start) (numbered : HasNoTickets s) where
  read_in : (log : List Moment) (m : Moment) (read : Read) → m.entry.who ≡ 0 → m.entry.step ≡ ReadStep read → Legal s (log ++ m ∷ []) → AreIn s log → AreIn s (log ++ m ∷ [])
  read_in log m read who step legal rest = record {
    tickets = λ k. ⊎_elim
        (λ (e : k ≡ 0). ap (λ (j : ℕ). (ticket_of s (log ++ m ∷ []) j).out) e ∙ ap (λ (t : Ticket). t.out) (laws.none s (log ++ m ∷ []) numbered))
        (λ (n : k ≢ 0). ap (λ (t : Ticket). t.out) (laws.checks s log m read k legal who step n) ∙ rest.tickets k)
        (same_or_not k);
    readers = λ k. ap (λ (x : FinMap nat_cmp Reader). (or_no_reader (fin.get x k)).out) (ap (λ (w : World). w.readers) (world_one (formats_of s) s.world log m) ∙ laws.reads (formats_of s) (world_of s log) m read who step) ∙ rest.readers k;
  }

  pub reads_in : (log more : List Moment) → AllRead more → Legal s (log ++ more) → AreIn s log → AreIn s (log ++ more)
  reads_in log [] all legal rest = subst (AreIn s) (sym (append-nil log)) rest
  reads_in log (m ∷ more) all legal rest =
      let whole : (log ++ m ∷ []) ++ more ≡ log ++ m ∷ more = append_assoc log (m ∷ []) more in
      let both : Legal s ((log ++ m ∷ []) ++ more) = subst (Legal s) (sym whole) legal in
      let one : Legal s (log ++ m ∷ []) = legal_front (formats_of s) s.part_size (log ++ m ∷ []) more s.world both in
      subst (AreIn s) whole (reads_in (log ++ m ∷ []) more all.2 both (read_in log m all.1.0 all.0 all.1.1 one rest))

  pub verify_rests : (old new : List Moment) (r : Result Unit UnitRefusal) → AsksOne old new r → Legal s new → s.earlier_turns ≡ 0 → IfErr r (TurnsAre s new) → AreIn s old → LineRests s new (line_result r)
  verify_rests old new r asks legal earlier turns rest =
      let h = asked_reads old new r asks in
      by r turns (subst (AreIn s) (sym h.is) (reads_in old h.more h.all (subst (Legal s) h.is legal) rest))
    where
      by : (x : Result Unit UnitRefusal) → IfErr x (TurnsAre s new) → AreIn s new → LineRests s new (line_result x)
      by (Err (units.Stopped (steps.Refused refusal))) t now = inl now
      by (Err (units.Stopped steps.Memory)) t now = tt
      by (Err (units.Stopped steps.TurnsSpent)) t now = all_entries s new earlier t
      by x t now = now

pub verify_spends : (s : Start) (new : List Moment) (r : Result Unit UnitRefusal) → s.earlier_turns ≡ 0 → IfErr r (TurnsAre s new) → LineSpends new (line_result r)
verify_spends s new (Err (units.Stopped steps.TurnsSpent)) earlier t = all_entries s new earlier t
verify_spends s new r earlier t = tt

-- ---- it takes no unit

no_take : (who : ℕ) (step : Step) (reply : Reply) (read : Read) → step ≡ ReadStep read → idle_take who step reply ≡ 0
no_take zero step reply read is = ap (λ (x : Step). idle_take 0 x reply) is
no_take (suc n) step reply read is = refl

pub reads_takes : (more : List Moment) → AllRead more → idle_takes more ≡ 0
reads_takes [] all = refl
reads_takes (m ∷ more) all =
    let one : idle_take m.entry.who m.entry.step m.entry.reply ≡ 0 = no_take m.entry.who m.entry.step m.entry.reply all.1.0 all.1.1 in
    let rest : idle_takes more ≡ 0 = reads_takes more all.2 in
    omega (arith, one, rest)

pub verify_takes : (old new : List Moment) (r : Result Unit UnitRefusal) → AsksOne old new r → idle_takes new ≡ idle_takes old
verify_takes old new r asks =
    let h = asked_reads old new r asks in
    let whole : idle_takes new ≡ idle_takes old + idle_takes h.more = takes_more old h.more new h.is in
    let none : idle_takes h.more ≡ 0 = reads_takes h.more h.all in
    omega (arith, whole, none)

-- ---- nor does it elect

no_elect : (who : ℕ) (step : Step) (read : Read) → step ≡ ReadStep read → election who step ≡ 0
no_elect zero step read is = ap (election 0) is
no_elect (suc n) step read is = refl

pub reads_elect : (more : List Moment) → AllRead more → elections more ≡ 0
reads_elect [] all = refl
reads_elect (m ∷ more) all =
    let one : election m.entry.who m.entry.step ≡ 0 = no_elect m.entry.who m.entry.step all.1.0 all.1.1 in
    let rest : elections more ≡ 0 = reads_elect more all.2 in
    omega (arith, one, rest)

pub verify_elects : (old new : List Moment) (r : Result Unit UnitRefusal) → AsksOne old new r → elections new ≡ elections old
verify_elects old new r asks =
    let h = asked_reads old new r asks in
    let whole : elections new ≡ elections old + elections h.more = elections_more old h.more new h.is in
    let none : elections h.more ≡ 0 = reads_elect h.more h.all in
    omega (arith, whole, none)

-- ---- and it is whole

-- how a step that reads may stand
abbrev pub StandsAfter : Bool → List Moment → Moment → Type 0
StandsAfter checks log m = (read : Read) → m.entry.step ≡ ReadStep read → (m.entry.step ≡ ReadStep DrawTest) ⊎ ((IsFurther read × HasDrawn log) ⊎ ((checks ≡ true) × IsOfCheck read × HasLooked log))

pub begun_one : (checks : Bool) (log : List Moment) (m : Moment) → StandsAfter checks log m → AreBegun checks log → AreBegun checks (log ++ m ∷ [])
begun_one checks log m how was front back x read is who step = elim (split_end log m front x back is) [
  | inl last ↦ elim (how read (ap (λ (y : Moment). y.entry.step) last.1 ∙ step)) [
    | inl draw ↦ inl (ap (λ (y : Moment). y.entry.step) (sym last.1) ∙ draw)
    | inr d ↦ inr (⊎_elim (λ (v : IsFurther read × HasDrawn log). inl (v.0, subst HasDrawn (sym last.0) v.1)) (λ (k : (checks ≡ true) × IsOfCheck read × HasLooked log). inr (k.0, k.1, subst HasLooked (sym last.0) k.2)) d)
  ]
  | inr before ↦ was front before.0 x read before.1 who step
]

pub same_read : (a b : Read) → ReadStep a ≡ ReadStep b → a ≡ b
same_read a b e = cc

further_stands : (checks : Bool) (log : List Moment) (m : Moment) (read : Read) → m.entry.step ≡ ReadStep read → IsFurther read → HasDrawn log → StandsAfter checks log m
further_stands checks log m read step further drawn other is = inr (inl (subst IsFurther (same_read read other (sym step ∙ is)) further, drawn))

begun_further : (checks : Bool) (log rest : List Moment) → HasDrawn log → AllFurther rest → AreBegun checks log → AreBegun checks (log ++ rest)
begun_further checks log [] drawn all was = subst (AreBegun checks) (sym (append-nil log)) was
begun_further checks log (m ∷ rest) drawn all was =
    subst (AreBegun checks) (append_assoc log (m ∷ []) rest)
    (begun_further checks (log ++ m ∷ []) rest (drawn.0, Has-left log (m ∷ []) drawn.0 drawn.1, drawn.2, drawn.3) all.2 (begun_one checks log m (further_stands checks log m all.1.0 all.1.1 all.1.2 drawn) was))

begun_all : (checks : Bool) (old new : List Moment) → HasBegun old new → AreBegun checks old → AreBegun checks new
begun_all checks old new h was =
    subst (AreBegun checks) (append_assoc old (h.draw ∷ []) h.rest ∙ sym h.is)
    (begun_further checks (old ++ h.draw ∷ []) h.rest (h.draw, in_middle old [] h.draw, h.drawer, h.drew) h.all (begun_one checks old h.draw (λ read is. inl h.drew) was))

begun_maybe : (checks : Bool) (old new : List Moment) → BeganOne old new → AreBegun checks old → AreBegun checks new
begun_maybe checks old new (NotBegun is) was = subst (AreBegun checks) (sym is) was
begun_maybe checks old new (Begun draw rest is drawer drew all) was = begun_all checks old new (record { draw = draw; rest = rest; is = is; drawer = drawer; drew = drew; all = all }) was

-- the draw comes where none is open, and no further step is asked for by a line
closed_further : (s : Start) (log rest : List Moment) → AllFurther rest → AreClosed s log → AreClosed s (log ++ rest)
closed_further s log [] all was = subst (AreClosed s) (sym (append-nil log)) was
closed_further s log (m ∷ rest) all was =
    subst (AreClosed s) (append_assoc log (m ∷ []) rest)
    (closed_further s (log ++ m ∷ []) rest all.2 (closed_one s log m (λ who asks. absurd (true≢false (sym asks ∙ ap is_line_ask all.1.1 ∙ further_asks all.1.0 all.1.2))) was))

closed_all : (s : Start) (old new : List Moment) → HasBegun old new → IsIdle (caller_of s old) → AreClosed s old → AreClosed s new
closed_all s old new h idle was =
    subst (AreClosed s) (append_assoc old (h.draw ∷ []) h.rest ∙ sym h.is)
    (closed_further s (old ++ h.draw ∷ []) h.rest h.all (closed_one s old h.draw (λ who asks. idle) was))

closed_maybe : (s : Start) (old new : List Moment) → BeganOne old new → IsIdle (caller_of s old) → AreClosed s old → AreClosed s new
closed_maybe s old new (NotBegun is) idle was = subst (AreClosed s) (sym is) was
closed_maybe s old new (Begun draw rest is drawer drew all) idle was = closed_all s old new (record { draw = draw; rest = rest; is = is; drawer = drawer; drew = drew; all = all }) idle was

abbrev IsNoEnd : Moment → Type 0
IsNoEnd m = m.entry.step ≡ ReadStep VerifiedAll → m.entry.reply ≢ HasEnded

verified_one : (s : Start) (workers : ℕ) (log : List Moment) (m : Moment) → IsNoEnd m → AreVerified s workers log → AreVerified s workers (log ++ m ∷ [])
verified_one s workers log m none was front back x is who step reply = elim (split_end log m front x back is) [
  | inl last ↦ absurd (none (ap (λ (y : Moment). y.entry.step) last.1 ∙ step) (ap (λ (y : Moment). y.entry.reply) last.1 ∙ reply))
  | inr before ↦ was front before.0 x before.1 who step reply
]

pub verified_more : (s : Start) (workers : ℕ) (log more : List Moment) → ((m : Moment) → Has more m → IsNoEnd m) → AreVerified s workers log → AreVerified s workers (log ++ more)
verified_more s workers log [] none was = subst (AreVerified s workers) (sym (append-nil log)) was
verified_more s workers log (m ∷ more) none was =
    subst (AreVerified s workers) (append_assoc log (m ∷ []) more) (verified_more s workers (log ++ m ∷ []) more (λ x h. none x (inr h)) (verified_one s workers log m (none m (inl refl)) was))

-- ---- one that ended well

-- none of these is the end of a verification
abbrev NoneEnds : List Answered → Type 0
NoneEnds [] = Unit {0}
NoneEnds (a ∷ more) = (a.step ≢ ReadStep VerifiedAll) × NoneEnds more

no_end_append : (a b : List Answered) → NoneEnds a → NoneEnds b → NoneEnds (a ++ b)
no_end_append [] b x y = y
no_end_append (e ∷ a) b x y = (x.0, no_end_append a b x.1 y)

none_writing : (names : List BlobName) → NoneEnds (writing names)
none_writing [] = tt
none_writing (name ∷ names) = (λ e. cc, (λ e. cc, none_writing names))

none_reading : (names : List BlobName) → NoneEnds (reading names)
none_reading [] = tt
none_reading (name ∷ names) = (λ e. cc, none_reading names)

-- all steps of a verification but its end
abbrev before_end : ℕ → List BlobName → List Answered
before_end id names = record { step = ReadStep DrawTest; reply = DrawnFrom id } ∷ writing names ++ reading names ++ record { step = ReadStep (RemoveTests names); reply = WasRemoved } ∷ []

none_before : (id : ℕ) (names : List BlobName) → NoneEnds (before_end id names)
none_before id names = (
  λ e. cc,
  no_end_append (writing names ++ reading names) (record { step = ReadStep (RemoveTests names); reply = WasRemoved } ∷ [])
      (no_end_append (writing names) (reading names) (none_writing names) (none_reading names)) (λ e. cc, tt),
)

abbrev the_end : Answered
the_end = record { step = ReadStep VerifiedAll; reply = HasEnded }

whole_steps : (id : ℕ) (names : List BlobName) → verification id names ≡ before_end id names ++ the_end ∷ []
whole_steps id names = ap (λ (l : List Answered). record { step = ReadStep DrawTest; reply = DrawnFrom id } ∷ l)
    (sym (append_assoc (writing names ++ reading names) (record { step = ReadStep (RemoveTests names); reply = WasRemoved } ∷ []) (the_end ∷ [])))

-- so its end is the last of its moments
last_place : (moments : List Moment) (first : List Answered) (front back : List Moment) (m : Moment) → NoneEnds first → Are moments (first ++ the_end ∷ []) → moments ≡ front ++ m ∷ back → m.entry.step ≡ ReadStep VerifiedAll
    → back ≡ []
last_place [] first front back m none are is step = absurd (no_cons front m back is)
last_place (x ∷ []) [] [] back m none are is step = let rest : [] ≡ back = cc in sym rest
last_place (x ∷ y ∷ moments) [] [] back m none are is step = absurd are.1
last_place (x ∷ []) [] (z ∷ front) back m none are is step = absurd (no_cons front m back (let rest : [] ≡ front ++ m ∷ back = cc in rest))
last_place (x ∷ y ∷ moments) [] (z ∷ front) back m none are is step = absurd are.1
last_place (x ∷ moments) (a ∷ first) [] back m none are is step =
    let same : x ≡ m = cc in
    absurd (none.0 (ap (λ (e : Entry). e.step) (sym are.0) ∙ ap (λ (y : Moment). y.entry.step) same ∙ step))
last_place (x ∷ moments) (a ∷ first) (z ∷ front) back m none are is step = last_place moments first front back m none.1 are.1 (let rest : moments ≡ front ++ m ∷ back = cc in rest) step

ok_verified : (s : Start) (workers : ℕ) (old new : List Moment) → HasVerified s old new workers → AreVerified s workers old → AreVerified s workers new
ok_verified s workers old new h was front back m is who step reply = elim (split_both old h.moments front m back (sym h.is ∙ is)) [
  | inl before ↦ was front before.0 m before.1 who step reply
  | inr own ↦
      let last : back ≡ [] = last_place h.moments (before_end h.id (test_names h.id workers)) own.0 back m (none_before h.id (test_names h.id workers)) (subst (Are h.moments) (whole_steps h.id (test_names h.id workers)) h.are) own.2 step in
      let same : new ≡ front ++ m ∷ [] = is ∙ ap (λ (l : List Moment). front ++ m ∷ l) last in
      (old, subst (λ (l : List Moment). HasVerified s old l workers) same h)
]

err_verified : (s : Start) (workers : ℕ) (old new : List Moment) → NoneVerified old new → AreVerified s workers old → AreVerified s workers new
err_verified s workers old new h was = subst (AreVerified s workers) (sym h.is) (verified_more s workers old h.more h.none was)

deposed_caller : (s : Start) (old new : List Moment) (refusal : EntryRefusal) → StopsVerify s old new (steps.Refused refusal) → caller_of s new ≡ caller_of s old
deposed_caller s old new (refusals.Deposed entry) h = h.1
deposed_caller s old new refusal h = absurd h

-- what a verification that began leaves whole
begun_whole : (s : Start) → NoneZero s → (workers : ℕ) (checks : Bool) (old new : List Moment) → HasBegun old new → AreVerified s workers new → (Legal s old → Legal s new) → MayVerify s workers checks old
    → AreWhole s workers checks new
begun_whole s none_zero workers checks old new asks verified legal may = record {
  verified = verified;
  checked = begun_checked s old new asks may.whole.checked;
  begun = begun_all checks old new asks may.whole.begun;
  closed = closed_all s old new asks may.idle may.whole.closed;
  unchecked = λ no. begun_fails Never s none_zero old new asks (legal may.legal) (may.whole.unchecked no);
  first = begun_fails (NamesFirst s) s none_zero old new asks (legal may.legal) may.whole.first;
}

-- and one that may have made no step
maybe_whole : (s : Start) → NoneZero s → (workers : ℕ) (checks : Bool) (old new : List Moment) → BeganOne old new → AreVerified s workers new → (Legal s old → Legal s new) → MayVerify s workers checks old
    → AreWhole s workers checks new
maybe_whole s none_zero workers checks old new asks verified legal may = record {
  verified = verified;
  checked = maybe_checked s old new asks may.whole.checked;
  begun = begun_maybe checks old new asks may.whole.begun;
  closed = closed_maybe s old new asks may.idle may.whole.closed;
  unchecked = λ no. maybe_fails Never s none_zero old new asks (legal may.legal) (may.whole.unchecked no);
  first = maybe_fails (NamesFirst s) s none_zero old new asks (legal may.legal) may.whole.first;
}

pub verify_well : (s : Start) → NoneZero s → (workers : ℕ) (checks : Bool) (old new : List Moment) → HasBegun old new → HasVerified s old new workers → (Legal s old → Legal s new) → MayVerify s workers checks old
    → MayVerify s workers checks new
verify_well s none_zero workers checks old new asks ok legal may = record {
  whole = begun_whole s none_zero workers checks old new asks (ok_verified s workers old new ok may.whole.verified) legal may;
  idle = subst IsIdle (sym ok.closed) none_idle;
  legal = legal may.legal;
}

pub verify_refused : {S F H T : Type 0} (evidence : Evidence S F H T) (s : Start) → NoneZero s → (workers : ℕ) (checks : Bool) (old new : List Moment) (e : UnitRefusal) → AsksOne {X = Unit} old new (Err e)
    → IsVerifyRefused evidence s old new e → NoneVerified old new → (Legal s old → Legal s new) → MayVerify s workers checks old → VerifiesOn s workers checks new (line_result (Err e))
verify_refused evidence s none_zero workers checks old new (units.Failed why) asks err none legal may = record {
  whole = begun_whole s none_zero workers checks old new asks (err_verified s workers old new none may.whole.verified) legal may;
  idle = subst IsIdle (sym err.0) none_idle;
  legal = legal may.legal;
}
verify_refused evidence s none_zero workers checks old new (units.Stopped (steps.Refused refusal)) asks err none legal may = record {
  whole = begun_whole s none_zero workers checks old new asks (err_verified s workers old new none may.whole.verified) legal may;
  idle = subst IsIdle (sym (deposed_caller s old new refusal err)) may.idle;
  legal = legal may.legal;
}
verify_refused evidence s none_zero workers checks old new (units.Stopped steps.Memory) asks err none legal may = maybe_whole s none_zero workers checks old new asks (err_verified s workers old new none may.whole.verified) legal may
verify_refused evidence s none_zero workers checks old new (units.Stopped steps.TurnsSpent) asks err none legal may = maybe_whole s none_zero workers checks old new asks (err_verified s workers old new none may.whole.verified) legal may
verify_refused evidence s none_zero workers checks old new units.Stale asks err none legal may = absurd asks
