-- How often takes find no unit ready, and how many elections there are, line by line.
use Rattle.std.proofs.Common.{◌≡◌, ℕ, ◌+◌, ◌-◌, ◌≤◌, true, List, [], ◌∷◌, length, take, drop, slice_index_or, Result, Ok, Err, refl, sym, ap, ◌∙◌, inl, inr, arith}
use Rattle.esr_core.specs.Entry.{Step, Reply, Refused, Moment}
use Rattle.esr_script.specs.declared.item.ScriptLine.{ScriptLine}
use Rattle.esr_desk.specs.declared.refusal.StepRefusal.{StepRefusal}
use Rattle.esr_desk.specs.Refusals.{told_refusal}
use Rattle.esr_desk.specs.Start.{Start}
use Rattle.esr_desk.specs.Outcome.{Outcome}
use Rattle.esr_drive.specs.Takes.{idle_take, idle_takes, stepped_takes, refused_takes}
use Rattle.esr_drive.specs.Elections.{election, elections, elections_more}
use Rattle.esr_complete.specs.Lines.{failovers_of}
use Rattle.esr_run.specs.Waits.{waits_in, waits_of, AreFew}
use Rattle.esr_run.specs.Made.{AsksLine, AllAsk, AsksOnly}
use Rattle.esr_run.proofs.Making.{take_rest}

-- ---- what a line asks for takes no unit

pub no_take : (step : Step) (reply : Reply) → AsksLine step → idle_take 0 step reply ≡ 0
no_take step reply (inl asks) = ap (λ (x : Step). idle_take 0 x reply) asks.1
no_take step reply (inr looks) = ap (λ (x : Step). idle_take 0 x reply) looks

pub line_takes : {X : Type 0} (s : Start) (old new : List Moment) (step : Step) (ok : X → Reply) (result : Result X StepRefusal) → AsksLine step → s.alone ≡ true → Outcome s old new 0 step ok result → idle_takes new ≡ idle_takes old
line_takes s old new step ok (Ok x) asks alone h =
    let whole : idle_takes new ≡ idle_takes old + idle_take 0 step (ok x) = stepped_takes s old new step (ok x) alone h in
    let none : idle_take 0 step (ok x) ≡ 0 = no_take step (ok x) asks in
    omega (arith, whole, none)
line_takes s old new step ok (Err e) asks alone h = refused_takes s old new step (told_refusal e) alone (λ r. no_take step (Refused r) asks) h.0

-- ---- nor does it elect

pub no_elect : (step : Step) → AsksLine step → election 0 step ≡ 0
no_elect step (inl asks) = ap (election 0) asks.1
no_elect step (inr looks) = ap (election 0) looks

all_elect : (more : List Moment) → AllAsk more → elections more ≡ 0
all_elect [] all = refl
all_elect (m ∷ more) all =
    let one : election m.entry.who m.entry.step ≡ 0 = ap (λ (k : ℕ). election k m.entry.step) all.0 ∙ no_elect m.entry.step all.1 in
    let rest : elections more ≡ 0 = all_elect more all.2 in
    omega (arith, one, rest)

pub asks_elect : (old new : List Moment) → AsksOnly old new → elections new ≡ elections old
asks_elect old new a =
    let whole : elections new ≡ elections old + elections a.more = elections_more old a.more new a.is in
    let none : elections a.more ≡ 0 = all_elect a.more a.all in
    omega (arith, whole, none)

-- ---- the lines that are left

waits_next : (workers : ℕ) (line : ScriptLine) (left : List ScriptLine) → 1 ≤ length left → line ≡ slice_index_or left 0 line → waits_of workers left ≡ waits_in workers line.item + waits_of workers (take (length left - 1) (drop 1 left))
waits_next workers line [] some is = absurd (let none : List ScriptLine = [] in let le : 1 ≤ length none = some in omega (arith, le))
waits_next workers line (x ∷ rest) some is =
    ap (λ (l : ScriptLine). waits_in workers l.item + waits_of workers rest) (sym is) ∙ ap (λ (l : List ScriptLine). waits_in workers line.item + waits_of workers l) (sym (take_rest (x ∷ rest)))

-- after one line more
pub waits_on : (workers : ℕ) (line : ScriptLine) (left : List ScriptLine) (old mid new all : ℕ) → 1 ≤ length left → line ≡ slice_index_or left 0 line → mid + waits_of workers left ≤ old + all
    → new ≤ mid + waits_in workers line.item
    → new + waits_of workers (take (length left - 1) (drop 1 left)) ≤ old + all
waits_on workers line left old mid new all some is was one =
    let next : waits_of workers left ≡ waits_in workers line.item + waits_of workers (take (length left - 1) (drop 1 left)) = waits_next workers line left some is in
    omega (arith, next, was, one)

-- where it is the last that is carried out
pub waits_end : (workers : ℕ) (line : ScriptLine) (left : List ScriptLine) (old mid new all : ℕ) → 1 ≤ length left → line ≡ slice_index_or left 0 line → mid + waits_of workers left ≤ old + all
    → new ≤ mid + waits_in workers line.item → new ≤ old + all
waits_end workers line left old mid new all some is was one =
    let next : waits_of workers left ≡ waits_in workers line.item + waits_of workers (take (length left - 1) (drop 1 left)) = waits_next workers line left some is in
    omega (arith, next, was, one)

-- ---- from the beginning on

pub are_few : (workers : ℕ) (old new repo : List Moment) (lines script : List ScriptLine) → idle_takes new ≤ idle_takes old + (waits_of workers lines + workers) → elections new ≤ elections old + failovers_of lines → repo ≡ new
    → old ≡ [] → lines ≡ script → AreFew workers script repo
are_few workers old new repo lines script few elects repo_is none same =
    let here : idle_takes repo ≡ idle_takes new = ap idle_takes repo_is in
    let before : idle_takes old ≡ 0 = ap idle_takes none in
    let waits : waits_of workers lines ≡ waits_of workers script = ap (waits_of workers) same in
    let made : elections repo ≡ elections new = ap elections repo_is in
    let unmade : elections old ≡ 0 = ap elections none in
    let asked : failovers_of lines ≡ failovers_of script = ap failovers_of same in
    record { takes = omega (arith, few, here, before, waits); elects = omega (arith, elects, made, unmade, asked) }
