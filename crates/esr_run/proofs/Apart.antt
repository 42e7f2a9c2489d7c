-- Who 0 asks for commands and draws for verifications only where no ticket is out, and takes units in waits alone.
use Rattle.std.proofs.Common.{◌≡◌, ◌≢◌, ◌⊎◌, ℕ, suc, ◌+◌, ◌≤◌, Bool, true, List, [], ◌∷◌, ◌++◌, append-nil, append_assoc, length, length-append, refl, sym, ap, ◌∙◌, subst, inl, inr, ⊎_elim, arith}
use Rattle.std.specs.Prelude.{◌&&◌, ◌==◌, if◌then◌else◌}
use Rattle.esr_model.specs.Values.{Has}
use Rattle.esr_model.specs.Names.{BlobName}
use Rattle.esr_core.specs.Entry.{Asked, Read, ReadBlob, DrawTest, Step, AskStep, LookStep, TakeStep, ElectStep, ReadStep, Moment}
use Rattle.esr_script.specs.declared.item.Item.{Item}
use Rattle.esr_script.specs.declared.item.Item.TheVariants as items
use Rattle.esr_desk.specs.Start.{Start}
use Rattle.esr_desk.specs.Check.Shown.{AllFetches}
use Rattle.esr_desk.specs.Unquiet.{has_here}
use Rattle.esr_quiet.specs.Asked.{is_line_ask, is_asked, as_asked, asked_steps, GrewAsking}
use Rattle.esr_drive.specs.Elections.{IsOfWait, AllOfWait, WaitsOnly}
use Rattle.esr_verify.specs.Began as verifying
use Rattle.esr_verify.specs.Began.{IsFurther, AllFurther, HasBegun}
use Rattle.esr_check.specs.Began as checking
use Rattle.esr_check.specs.Began.{IsOfCheck, AllOfCheck, IsCheckEnd, HasEndedCheck}
use Rattle.esr_complete.specs.Lines.{steps_of_item}
use Rattle.esr_complete.specs.ItemSteps.{few_steps}
use Rattle.esr_run.specs.Made.{MadeFirst, AsksLine, AllAsk, AsksOnly, AddsOnly, WasLookRefused, LinePart, NoneOpen, AsksOrDraws, IsWaiting, AskedWhere}
use Rattle.esr_run.proofs.Parts.{cancel}

-- ---- where a moment stands in two lists

pub split_both : (a b front : List Moment) (m : Moment) (back : List Moment) → a ++ b ≡ front ++ m ∷ back → ((rest : List Moment) × (a ≡ front ++ m ∷ rest)) ⊎ ((q : List Moment) × (front ≡ a ++ q) × (b ≡ q ++ m ∷ back))
split_both [] b front m back e = inr (front, refl, e)
split_both (x ∷ a) b [] m back e = let same : x ≡ m = cc in inl (a, ap (λ (y : Moment). y ∷ a) same)
split_both (x ∷ a) b (y ∷ front) m back e =
    let same : x ≡ y = cc in
    let rest : a ++ b ≡ front ++ m ∷ back = cc in
    elim (split_both a b front m back rest) [
      | inl first ↦ inl (first.0, ap (λ (z : Moment). z ∷ a) same ∙ ap (λ (l : List Moment). y ∷ l) first.1)
      | inr second ↦ inr (second.0, ap (λ (l : List Moment). y ∷ l) second.1 ∙ ap (λ (z : Moment). z ∷ (a ++ second.0)) (sym same), second.2)
    ]

pub no_middle : (front : List Moment) (m : Moment) (back : List Moment) → [] ≡ front ++ m ∷ back → ⊥
no_middle [] m back e = cc
no_middle (x ∷ front) m back e = cc

-- ---- one part after another

module _ (P Q : List Moment → Type 0) where
  pub apart_none : (log : List Moment) → AskedWhere P Q log log
  apart_none log = record {
    more = [];
    is = sym (append-nil log);
    apart = λ front back m is who step. absurd (no_middle front m back is);
    taken = λ front back m is step. absurd (no_middle front m back is);
  }

  pub apart_on : (old mid new : List Moment) → AskedWhere P Q old mid → AskedWhere P Q mid new → AskedWhere P Q old new
  apart_on old mid new first second = record {
    more = first.more ++ second.more;
    is = second.is ∙ ap (λ (l : List Moment). l ++ second.more) first.is ∙ append_assoc old first.more second.more;
    apart = λ front back m is who step. elim (split_both first.more second.more front m back is) [
      | inl here ↦ first.apart front here.0 m here.1 who step
      | inr later ↦ subst P (place front later.0 later.1) (second.apart later.0 back m later.2 who step)
    ];
    taken = λ front back m is step. elim (split_both first.more second.more front m back is) [
      | inl here ↦ first.taken front here.0 m here.1 step
      | inr later ↦ subst Q (place front later.0 later.1) (second.taken later.0 back m later.2 step)
    ];
  }
    where
      place : (front own : List Moment) → front ≡ first.more ++ own → mid ++ own ≡ old ++ front
      place front own is = ap (λ (l : List Moment). l ++ own) first.is ∙ append_assoc old first.more own ∙ ap (λ (l : List Moment). old ++ l) (sym is)

-- where nothing is asked or drawn, and no unit taken
abbrev AsksNone : List Moment → Type 0
AsksNone more = (m : Moment) → Has more m → m.entry.who ≡ 0 → AsksOrDraws m.entry.step → ⊥

abbrev TakesNone : List Moment → Type 0
TakesNone more = (m : Moment) → Has more m → m.entry.step ≡ TakeStep → ⊥

in_more : (more front : List Moment) (m : Moment) (back : List Moment) → more ≡ front ++ m ∷ back → Has more m
in_more more front m back at = subst (λ (l : List Moment). Has l m) (sym at) (has_here front m back)

module _ (P Q : List Moment → Type 0) where
  apart_asking_none : (old new more : List Moment) → new ≡ old ++ more → AsksNone more → TakesNone more → AskedWhere P Q old new
  apart_asking_none old new more is none untaken = record {
    more = more;
    is = is;
    apart = λ front back m at who step. absurd (none m (in_more more front m back at) who step);
    taken = λ front back m at step. absurd (untaken m (in_more more front m back at) step);
  }

  -- what is asked or drawn comes first
  apart_asking_one : (old new : List Moment) (x : Moment) (rest : List Moment) → new ≡ old ++ x ∷ rest → AsksNone rest → TakesNone (x ∷ rest) → P old → AskedWhere P Q old new
  apart_asking_one old new x rest is none untaken rests = record {
    more = x ∷ rest;
    is = is;
    apart = λ front back m at who step. subst P (sym (append-nil old) ∙ ap (λ (l : List Moment). old ++ l) (sym (first front m back at who step))) rests;
    taken = λ front back m at step. absurd (untaken m (in_more (x ∷ rest) front m back at) step);
  }
    where
      first : (front : List Moment) (m : Moment) (back : List Moment) → x ∷ rest ≡ front ++ m ∷ back → m.entry.who ≡ 0 → AsksOrDraws m.entry.step → front ≡ []
      first [] m back at who step = refl
      first (y ∷ front) m back at who step = let later : rest ≡ front ++ m ∷ back = cc in absurd (none m (in_more rest front m back later) who step)

-- ---- steps that ask for nothing, draw for no verification, and take no unit

no_look : AsksOrDraws LookStep → ⊥
no_look (inl ask) = no_command ask.0 ask.1
  where
    no_command : (command : Asked) → LookStep ≡ AskStep command → ⊥
    no_command command e = cc
no_look (inr draw) = cc

no_take : AsksOrDraws TakeStep → ⊥
no_take (inl ask) = no_command ask.0 ask.1
  where
    no_command : (command : Asked) → TakeStep ≡ AskStep command → ⊥
    no_command command e = cc
no_take (inr draw) = cc

no_elect : AsksOrDraws ElectStep → ⊥
no_elect (inl ask) = no_command ask.0 ask.1
  where
    no_command : (command : Asked) → ElectStep ≡ AskStep command → ⊥
    no_command command e = cc
no_elect (inr draw) = cc

no_read : (read : Read) → (read ≢ DrawTest) → AsksOrDraws (ReadStep read) → ⊥
no_read read other (inl ask) = no_command ask.0 ask.1
  where
    no_command : (command : Asked) → ReadStep read ≡ AskStep command → ⊥
    no_command command e = cc
no_read read other (inr draw) = other (let same : read ≡ DrawTest = cc in same)

look_untaken : LookStep ≡ TakeStep → ⊥
look_untaken e = cc

read_untaken : (read : Read) → ReadStep read ≡ TakeStep → ⊥
read_untaken read e = cc

none_asked : AsksNone []
none_asked m has who step = has

none_taken : TakesNone []
none_taken m has step = has

one_more : (x : Moment) (more : List Moment) → (x.entry.who ≡ 0 → AsksOrDraws x.entry.step → ⊥) → AsksNone more → AsksNone (x ∷ more)
one_more x more here later m (inl same) who step = here (ap (λ (y : Moment). y.entry.who) same ∙ who) (subst AsksOrDraws (sym (ap (λ (y : Moment). y.entry.step) same)) step)
one_more x more here later m (inr has) who step = later m has who step

taken_more : (x : Moment) (more : List Moment) → (x.entry.step ≡ TakeStep → ⊥) → TakesNone more → TakesNone (x ∷ more)
taken_more x more here later m (inl same) step = here (ap (λ (y : Moment). y.entry.step) same ∙ step)
taken_more x more here later m (inr has) step = later m has step

-- of a step that reads
reads_more : (x : Moment) (more : List Moment) (read : Read) → x.entry.step ≡ ReadStep read → read ≢ DrawTest → AsksNone more → AsksNone (x ∷ more)
reads_more x more read is other = one_more x more (λ who step. no_read read other (subst AsksOrDraws is step))

untaken_read : (x : Moment) (more : List Moment) (read : Read) → x.entry.step ≡ ReadStep read → TakesNone more → TakesNone (x ∷ more)
untaken_read x more read is = taken_more x more (λ take. read_untaken read (sym is ∙ take))

wait_none : (more : List Moment) → AllOfWait more → AsksNone more
wait_none [] all = none_asked
wait_none (x ∷ more) all =
    one_more x more (λ who step. elim all.0 [ inl some ↦ some who | inr (inl take) ↦ no_take (subst AsksOrDraws take step) | inr (inr elect) ↦ no_elect (subst AsksOrDraws elect step) ]) (wait_none more all.1)

no_draw : (read : Read) → IsFurther read → read ≢ DrawTest
no_draw read further e = subst IsFurther e further

further_none : (more : List Moment) → AllFurther more → AsksNone more
further_none [] all = none_asked
further_none (x ∷ more) all = reads_more x more all.1.0 all.1.1 (no_draw all.1.0 all.1.2) (further_none more all.2)

further_untaken : (more : List Moment) → AllFurther more → TakesNone more
further_untaken [] all = none_taken
further_untaken (x ∷ more) all = untaken_read x more all.1.0 all.1.1 (further_untaken more all.2)

no_blob_draw : (name : BlobName) → ReadBlob name ≢ DrawTest
no_blob_draw name e = cc

fetches_none : (more last : List Moment) → AllFetches more → AsksNone last → AsksNone (more ++ last)
fetches_none [] last all none = none
fetches_none (x ∷ more) last all none = reads_more x (more ++ last) (ReadBlob all.1.0) all.1.1 (no_blob_draw all.1.0) (fetches_none more last all.2 none)

fetches_untaken : (more last : List Moment) → AllFetches more → TakesNone last → TakesNone (more ++ last)
fetches_untaken [] last all none = none
fetches_untaken (x ∷ more) last all none = untaken_read x (more ++ last) (ReadBlob all.1.0) all.1.1 (fetches_untaken more last all.2 none)

-- a front of a wait
wait_front : (more front : List Moment) (m : Moment) (back : List Moment) → AllOfWait more → more ≡ front ++ m ∷ back → AllOfWait front
wait_front more [] m back all at = tt
wait_front [] (y ∷ front) m back all at = absurd (no_middle (y ∷ front) m back at)
wait_front (x ∷ more) (y ∷ front) m back all at =
    let same : x ≡ y = cc in
    let rest : more ≡ front ++ m ∷ back = cc in
    (subst IsOfWait same all.0, wait_front more front m back all.1 rest)

-- units may be taken after a front of a wait
abbrev pub TakesAfter : (List Moment → Type 0) → List Moment → Type 0
TakesAfter Q old = (front : List Moment) → AllOfWait front → Q (old ++ front)

pub is_waiting : (s : Start) (old : List Moment) → NoneOpen s old → TakesAfter (IsWaiting s) old
is_waiting s old closed front all = record { start = old; work = front; is = refl; all = all; closed = closed }

pub waits_apart : (P Q : List Moment → Type 0) (old new : List Moment) → TakesAfter Q old → WaitsOnly old new → AskedWhere P Q old new
waits_apart P Q old new waits w = record {
  more = w.more;
  is = w.is;
  apart = λ front back m at who step. absurd (wait_none w.more w.all m (in_more w.more front m back at) who step);
  taken = λ front back m at step. waits front (wait_front w.more front m back w.all at);
}

-- the end of a check draws nothing
no_end_draw : (read : Read) → IsCheckEnd read → read ≢ DrawTest
no_end_draw read is e = subst IsCheckEnd e is

-- the other steps of a check draw nothing either
no_check_draw : (read : Read) → IsOfCheck read → read ≢ DrawTest
no_check_draw read is e = subst IsOfCheck e is

of_check_none : (more : List Moment) → AllOfCheck more → AsksNone more
of_check_none [] all = none_asked
of_check_none (x ∷ more) all = reads_more x more all.1.0 all.1.1 (no_check_draw all.1.0 all.1.2) (of_check_none more all.2)

of_check_untaken : (more : List Moment) → AllOfCheck more → TakesNone more
of_check_untaken [] all = none_taken
of_check_untaken (x ∷ more) all = untaken_read x more all.1.0 all.1.1 (of_check_untaken more all.2)

module _ (P Q : List Moment → Type 0) where
  check_apart : (old new : List Moment) → HasEndedCheck old new → AskedWhere P Q old new
  check_apart old new e = apart_asking_none P Q old new (e.look ∷ e.fetches ++ e.end ∷ []) (e.is ∙ append_assoc old (e.look ∷ e.fetches) (e.end ∷ []))
      (one_more e.look (e.fetches ++ e.end ∷ []) (λ who step. no_look (subst AsksOrDraws e.looks step)) (fetches_none e.fetches (e.end ∷ []) e.all (reads_more e.end [] e.read e.ends (no_end_draw e.read e.is_end) none_asked)))
      (taken_more e.look (e.fetches ++ e.end ∷ []) (λ take. look_untaken (sym e.looks ∙ take)) (fetches_untaken e.fetches (e.end ∷ []) e.all (untaken_read e.end [] e.read e.ends none_taken)))

  look_apart : (old new : List Moment) → WasLookRefused old new → AskedWhere P Q old new
  look_apart old new r = apart_asking_none P Q old new (r.look ∷ []) r.is (one_more r.look [] (λ who step. no_look (subst AsksOrDraws r.looks step)) none_asked) (taken_more r.look [] (λ take. look_untaken (sym r.looks ∙ take)) none_taken)

  begun_apart : (old new : List Moment) → P old → HasBegun old new → AskedWhere P Q old new
  begun_apart old new rests h = apart_asking_one P Q old new h.draw h.rest h.is (further_none h.rest h.all) (untaken_read h.draw h.rest DrawTest h.drew (further_untaken h.rest h.all)) rests

  -- a check or a verification that may have made no step
  check_begun : (old new : List Moment) → checking.BeganOne old new → AskedWhere P Q old new
  check_begun old new (checking.NotBegun is) = subst (λ (l : List Moment). AskedWhere P Q old l) (sym is) (apart_none P Q old)
  check_begun old new (checking.Begun h) =
      apart_asking_none P Q old new (h.look ∷ h.rest) h.is (one_more h.look h.rest (λ who step. no_look (subst AsksOrDraws h.looks step)) (of_check_none h.rest h.all))
      (taken_more h.look h.rest (λ take. look_untaken (sym h.looks ∙ take)) (of_check_untaken h.rest h.all))

  verify_begun : (old new : List Moment) → P old → verifying.BeganOne old new → AskedWhere P Q old new
  verify_begun old new rests (verifying.NotBegun is) = subst (λ (l : List Moment). AskedWhere P Q old l) (sym is) (apart_none P Q old)
  verify_begun old new rests (verifying.Begun draw rest is drawer drew all) = apart_asking_one P Q old new draw rest is (further_none rest all) (untaken_read draw rest DrawTest drew (further_untaken rest all)) rests

-- ---- a line asks for one step

line_asked : (m : Moment) → m.entry.who ≡ 0 → AsksLine m.entry.step → is_asked m.entry ≡ true
line_asked m who asks = ap (λ (k : ℕ). (k == 0) && is_line_ask m.entry.step) who ∙ ⊎_elim (λ (a : (command : Asked) × (m.entry.step ≡ AskStep command)). ap is_line_ask a.1) (λ (l : m.entry.step ≡ LookStep). ap is_line_ask l) asks

as_many : (more : List Moment) → AllAsk more → length (asked_steps more) ≡ length more
as_many [] all = refl
as_many (m ∷ more) all =
    ap (λ (b : Bool). length (if b then as_asked m.entry.step ∷ asked_steps more else asked_steps more)) (line_asked m all.0 all.1)
    ∙ ap suc (as_many more all.2)

ask_untaken : (step : Step) → AsksLine step → step ≡ TakeStep → ⊥
ask_untaken step (inl ask) take = no_ask ask.0 (sym ask.1 ∙ take)
  where
    no_ask : (command : Asked) → AskStep command ≡ TakeStep → ⊥
    no_ask command e = cc
ask_untaken step (inr look) take = look_untaken (sym look ∙ take)

first_few : (a b c : List Step) → a ++ b ≡ c → length c ≤ 1 → length a ≤ 1
first_few a b c is few =
    let whole : length c ≡ length a + length b = sym (ap (λ (l : List Step). length l) is) ∙ length-append a b in
    let le : length c ≤ 1 = few in
    omega (arith, whole, le)

module _ (P Q : List Moment → Type 0) where
  one_apart : (old new more : List Moment) → new ≡ old ++ more → AllAsk more → length more ≤ 1 → P old → AskedWhere P Q old new
  one_apart old new [] is all few rests = apart_asking_none P Q old new [] is none_asked none_taken
  one_apart old new (x ∷ []) is all few rests = apart_asking_one P Q old new x [] is none_asked (taken_more x [] (ask_untaken x.entry.step all.1) none_taken) rests
  one_apart old new (x ∷ y ∷ more) is all few rests = let le : suc (suc (length more)) ≤ 1 = few in absurd (omega (arith, le))

module _ (P Q : List Moment → Type 0) (s : Start) (moment : ℕ) where
  -- at most one step was asked
  few_apart : (steps : List Step) (old new : List Moment) → length steps ≤ 1 → s.alone ≡ true → P old → GrewAsking s steps old new → AsksOnly old new → AskedWhere P Q old new
  few_apart steps old new few alone rests g a =
      let same : a.more ≡ g.more = cancel old a.more g.more (sym a.is ∙ g.is) in
      let many : length a.more ≡ length steps = sym (as_many a.more a.all) ∙ ap (λ (l : List Moment). length (asked_steps l)) same ∙ ap (λ (l : List Step). length l) (g.asked alone) in
      one_apart P Q old new a.more a.is a.all (subst (λ (n : ℕ). n ≤ 1) (sym many) few) rests

  asks_apart : (item : Item) (old new : List Moment) → s.alone ≡ true → P old → GrewAsking s (steps_of_item moment item) old new → AsksOnly old new → AskedWhere P Q old new
  asks_apart item old new = few_apart (steps_of_item moment item) old new (few_steps moment item)

  -- a front of what a line asks for
  asks_first : (item : Item) (old new : List Moment) → s.alone ≡ true → P old → MadeFirst s (steps_of_item moment item) old new → AsksOnly old new → AskedWhere P Q old new
  asks_first item old new alone rests made a = few_apart made.first old new (first_few made.first made.rest (steps_of_item moment item) made.is (few_steps moment item)) alone rests made.grew a

  pub line_apart : (item : Item) (old new : List Moment) → s.alone ≡ true → P old → TakesAfter Q old → GrewAsking s (steps_of_item moment item) old new → LinePart item old new → AskedWhere P Q old new
  line_apart items.Check old new alone rests waits g p = ⊎_elim (λ ended. check_apart P Q old new ended) (λ refused. look_apart P Q old new refused) (p.checks refl)
  line_apart items.Verify old new alone rests waits g p = begun_apart P Q old new rests (p.verifies refl)
  line_apart items.Wait old new alone rests waits g p = waits_apart P Q old new waits p.only
  line_apart item old new alone rests waits g p = asks_apart item old new alone rests g p.only

  -- a line that was left
  pub cut_apart : (item : Item) (old new : List Moment) → s.alone ≡ true → P old → TakesAfter Q old → MadeFirst s (steps_of_item moment item) old new → AddsOnly item old new → (item ≡ items.Check → checking.BeganOne old new)
      → (item ≡ items.Verify → verifying.BeganOne old new)
      → AskedWhere P Q old new
  cut_apart items.Check old new alone rests waits made only checks verifies = check_begun P Q old new (checks refl)
  cut_apart items.Verify old new alone rests waits made only checks verifies = verify_begun P Q old new rests (verifies refl)
  cut_apart items.Wait old new alone rests waits made only checks verifies = waits_apart P Q old new waits only
  cut_apart item old new alone rests waits made only checks verifies = asks_first item old new alone rests made only
