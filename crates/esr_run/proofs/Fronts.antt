-- What a front of a history in which nothing fails asks for, by the lines of a script.
use Rattle.std.proofs.Common.{◌≡◌, ◌⊎◌, ℕ, zero, suc, ◌+◌, ◌≤◌, List, [], ◌∷◌, ◌++◌, length, length-append, Option, refl, sym, ap, ◌∙◌, subst, inl, inr, arith}
use Rattle.esr_model.specs.Values.{Has, Formats}
use Rattle.esr_model.specs.Image.{Image}
use Rattle.esr_core.specs.World.{World}
use Rattle.esr_core.specs.Entry.{Asked, Step, AskStep, TakeStep, ElectStep, Reply, NothingReady, Gave, Refusal, DeposedAt, Refused, Moment, AbortedBy}
use Rattle.esr_core.specs.Allowed.{Allows, GivingNothing, Allowed, Blocks, ByFailedSwap, ByDelete}
use Rattle.esr_bounds.specs.Work.{asks_by, asks_in, elections_by, elections_in}
use Rattle.esr_bounds.specs.Clients.{commands_by, commands_in, empty_by, empty_in}
use Rattle.esr_desk.specs.Start.{Start, formats_of, world_of}
use Rattle.esr_drive.specs.Takes.{idle_take, idle_takes, takes_more}
use Rattle.esr_drive.specs.Elections.{election, elections, elections_more}
use Rattle.esr_quiet.specs.Asked.{asked_steps}
use Rattle.esr_quiet.specs.Asking.{asked_append}
use Rattle.esr_quiet.specs.Askers.{AsksOrElects, asker}
use Rattle.esr_core.specs.Laws.Rules.{never_rule}
use Rattle.esr_quiet.specs.Smooth.{IsSmooth}
use Rattle.esr_core.specs.Refusing.{IsByRule}
use Rattle.esr_quiet.specs.Refusals.{IsSwapStep, IsOfRule, IsOfTerm, AreByRule}
use Rattle.esr_quiet.specs.PrefixLaws.{place_of, legal_at}
use Rattle.esr_run.specs.Complete.{AreOfClient}

-- ---- how a take is answered

abbrev TakeTells : Step → Reply → Type 0
TakeTells TakeStep NothingReady = Unit {0}
TakeTells TakeStep (Gave ticket op unit) = Unit {0}
TakeTells TakeStep (Refused refusal) = Unit {0}
TakeTells TakeStep reply = ⊥
TakeTells step reply = Unit {0}

take_tells : (f : Formats) (size : ℕ) (w : World) (who : ℕ) (step : Step) (reply : Reply) (image : Option Image) → Allows f size w who step reply image → TakeTells step reply
take_tells f size w who step reply image (GivingNothing im none same) = tt
take_tells f size w who step reply image a = tt

refused_tells : (step : Step) (refusal : Refusal) → TakeTells step (Refused refusal)
refused_tells TakeStep refusal = tt
refused_tells step refusal = tt

told_by : (f : Formats) (size : ℕ) (w : World) (m : Moment) → Allowed f size w m → TakeTells m.entry.step m.entry.reply
told_by f size w m a = elim a.answered [
  | inl alive ↦ take_tells f size w m.entry.who m.entry.step m.entry.reply m.image alive.1
  | inr dead ↦ subst (λ (r : Reply). TakeTells m.entry.step r) (sym dead.refused) (refused_tells m.entry.step dead.refusal)
]

-- ---- one step

pub nobody : (k : ℕ) → suc k ≡ 0 → ⊥
nobody k e = let is : suc k ≡ 0 = e in omega (arith, is)

one_ask : (who : ℕ) (step : Step) → (AsksOrElects step → who ≡ 0) → asks_by step ≡ commands_by who step
one_ask zero (AskStep command) own = refl
one_ask (suc k) (AskStep command) own = absurd (nobody k (own tt))
one_ask who step own = refl

one_election : (who : ℕ) (step : Step) → (AsksOrElects step → who ≡ 0) → elections_by step ≡ election who step
one_election zero ElectStep own = refl
one_election (suc k) ElectStep own = absurd (nobody k (own tt))
one_election who step own = refl

one_take : (who : ℕ) (step : Step) (reply : Reply) → TakeTells step reply → ((refusal : Refusal) → step ≡ TakeStep → reply ≡ Refused refusal → ⊥) → empty_by who step reply ≡ idle_take who step reply
one_take zero TakeStep NothingReady tells unrefused = refl
one_take zero TakeStep (Gave ticket op unit) tells unrefused = refl
one_take zero TakeStep (Refused refusal) tells unrefused = absurd (unrefused refusal refl refl)
one_take zero TakeStep reply tells unrefused = absurd tells
one_take who step reply tells unrefused = refl

-- ---- all of them

own_asks : (log : List Moment) → AreOfClient log → asks_in log ≡ commands_in log
own_asks [] own = refl
own_asks (m ∷ log) own =
    let one : asks_by m.entry.step ≡ commands_by m.entry.who m.entry.step = one_ask m.entry.who m.entry.step (own m (inl refl)) in
    let rest : asks_in log ≡ commands_in log = own_asks log (λ n has. own n (inr has)) in
    omega (arith, one, rest)

own_elections : (log : List Moment) → AreOfClient log → elections_in log ≡ elections log
own_elections [] own = refl
own_elections (m ∷ log) own =
    let one : elections_by m.entry.step ≡ election m.entry.who m.entry.step = one_election m.entry.who m.entry.step (own m (inl refl)) in
    let rest : elections_in log ≡ elections log = own_elections log (λ n has. own n (inr has)) in
    omega (arith, one, rest)

-- a take is refused nowhere
abbrev AreTaken : List Moment → Type 0
AreTaken log = (m : Moment) → Has log m → TakeTells m.entry.step m.entry.reply × ((refusal : Refusal) → m.entry.step ≡ TakeStep → m.entry.reply ≡ Refused refusal → ⊥)

all_takes : (log : List Moment) → AreTaken log → empty_in log ≡ idle_takes log
all_takes [] taken = refl
all_takes (m ∷ log) taken =
    let this = taken m (inl refl) in
    let one : empty_by m.entry.who m.entry.step m.entry.reply ≡ idle_take m.entry.who m.entry.step m.entry.reply = one_take m.entry.who m.entry.step m.entry.reply this.0 this.1 in
    let rest : empty_in log ≡ idle_takes log = all_takes log (λ n has. taken n (inr has)) in
    omega (arith, one, rest)

-- ---- where only rules refuse

no_swap : (step : Step) → AsksOrElects step → IsSwapStep step → ⊥
no_swap (AskStep command) asks swaps = swaps
no_swap ElectStep asks swaps = swaps
no_swap step asks swaps = asks

unruled : (w : World) (who : ℕ) (step : Step) (command : Asked) (refusal : Refusal) → Blocks w who step refusal → IsByRule command refusal → ⊥
unruled w who step command _ (ByFailedSwap place deposed) rule = never_rule command (DeposedAt place) refl rule
unruled w who step command _ (ByDelete by alive aborted) rule = never_rule command (AbortedBy by) refl rule

unblocked : (s : Start) (front : List Moment) (m : Moment) (w : World) (refusal : Refusal) → Blocks w m.entry.who m.entry.step refusal → AsksOrElects m.entry.step → IsOfRule front m refusal ⊎ IsOfTerm s front m refusal → ⊥
unblocked s front m w refusal blocks asks (inl rule) = unruled w m.entry.who m.entry.step rule.0.0 refusal blocks rule.1
unblocked s front m w refusal blocks asks (inr old) = no_swap m.entry.step asks old.swaps

untaken : (s : Start) (front : List Moment) (m : Moment) (refusal : Refusal) → m.entry.step ≡ TakeStep → IsOfRule front m refusal ⊎ IsOfTerm s front m refusal → ⊥
untaken s front m refusal step (inl rule) = let both : AskStep rule.0.0 ≡ TakeStep = sym rule.0.1 ∙ step in cc
untaken s front m refusal step (inr old) = subst IsSwapStep step old.swaps

module _ (s : Start) (log : List Moment) (smooth : IsSmooth s log) (by_rule : AreByRule s log) where
  pub of_client : AreOfClient log
  of_client m has asks =
      let p = place_of log m has in
      elim (asker (formats_of s) s.part_size (world_of s p.front) m (legal_at s log smooth p.front p.back m p.is) asks) [
        | inl client ↦ client
        | inr dead ↦ absurd (unblocked s p.front m (world_of s p.front) dead.refusal dead.blocks asks (by_rule p.front p.back m dead.refusal p.is dead.refused))
      ]

  are_taken : AreTaken log
  are_taken m has =
      let p = place_of log m has in (
        told_by (formats_of s) s.part_size (world_of s p.front) m (legal_at s log smooth p.front p.back m p.is),
        (λ refusal step is. untaken s p.front m refusal step (by_rule p.front p.back m refusal p.is is)),
      )

  pub asks_of_client : asks_in log ≡ commands_in log
  asks_of_client = own_asks log of_client

  pub elections_of_client : elections_in log ≡ elections log
  elections_of_client = own_elections log of_client

  pub takes_of_client : empty_in log ≡ idle_takes log
  takes_of_client = all_takes log are_taken

-- ---- what comes after the front is more

pub fewer_elections : (front back log : List Moment) (most : ℕ) → log ≡ front ++ back → elections log ≤ most → elections front ≤ most
fewer_elections front back log most is few =
    let whole : elections log ≡ elections front + elections back = elections_more front back log is in
    let all : elections log ≤ most = few in
    omega (arith, whole, all)

pub fewer_takes : (front back log : List Moment) (most : ℕ) → log ≡ front ++ back → idle_takes log ≤ most → idle_takes front ≤ most
fewer_takes front back log most is few =
    let whole : idle_takes log ≡ idle_takes front + idle_takes back = takes_more front back log is in
    let all : idle_takes log ≤ most = few in
    omega (arith, whole, all)

pub fewer_asked : (front back log : List Moment) (rest wanted : List Step) → log ≡ front ++ back → asked_steps log ++ rest ≡ wanted → length (asked_steps front) ≤ length wanted
fewer_asked front back log rest wanted is asked =
    let both : asked_steps log ≡ asked_steps front ++ asked_steps back = ap asked_steps is ∙ asked_append front back in
    let parts : length (asked_steps log) ≡ length (asked_steps front) + length (asked_steps back) = ap (λ (l : List Step). length l) both ∙ length-append (asked_steps front) (asked_steps back) in
    let whole : length wanted ≡ length (asked_steps log) + length rest = ap (λ (l : List Step). length l) (sym asked) ∙ length-append (asked_steps log) rest in
    omega (arith, parts, whole)
