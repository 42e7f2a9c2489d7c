-- What one worker has made of its pass, and one that elects; and the passes that they begin with.
use Rattle.std.proofs.Common.{◌≡◌, inl, inr, ⊎_elim, ℕ, zero, suc, ◌+◌, ◌≤◌, List, [], ◌∷◌, ◌++◌, length, drop, true, append-nil, ◌^◌, OnOk, IfErr, Ok, Err, refl, sym, ap, ◌∙◌, subst, arith}
use Rattle.esr_model.specs.Values.{Has}
use Rattle.esr_source.specs.Told.{SourcesTold, TargetsTold}
use Rattle.esr_core.specs.Entry.{Step, TakeStep, ElectStep, Given, Reply, Gave, Moment}
use Rattle.esr_turns.specs.Passes.{LockId, first_pass}
use Rattle.esr_turns.specs.Histories.{StartsWith}
use Rattle.esr_model.specs.Lists.{Has-either}
use Rattle.esr_desk.specs.declared.refusal.StepRefusal.{StepRefusal}
use Rattle.esr_desk.specs.declared.refusal.StepRefusal.TheVariants as steps
use Rattle.esr_desk.specs.Start.{Start, Legal}
use Rattle.esr_desk.specs.Calls.{Call}
use Rattle.esr_desk.specs.Evidence.{NeverFailed}
use Rattle.esr_drive.specs.Outside.{IsOutside}
use Rattle.esr_drive.specs.Calls.{WorkedCalls}
use Rattle.esr_drive.specs.Ended.{EachOver, AllEnded}
use Rattle.esr_drive.specs.Stopped.{IsStopped, StoppedIn, stopped_in}
use Rattle.esr_drive.specs.Takes.{idle_call, idle_calls}
use Rattle.esr_drive.specs.Elections.{election}
use Rattle.esr_handle.specs.Owned.{calls_in}
use Rattle.esr_handle.specs.Turned.{shared, Seen, IsFit}
use Rattle.esr_drive.specs.Worked.{weigh, election_call, Answer, AreElected, AreWorked, AreMade, HasElectedBy, IsNewPass, IsBack}
use Rattle.esr_drive.proofs.Weights.{weigh_both, weigh_idle}

-- ---- as a worker sees the start

pub outside_shared : (s : Start) (sources : SourcesTold) (targets : TargetsTold) (part_size : ℕ) → IsOutside s sources targets part_size → IsOutside (shared s) sources targets part_size
outside_shared s sources targets part_size o = record {
  told = record { told = o.told.told; steady = o.told.steady };
  sure = o.sure;
  tells = o.tells;
  size = o.size;
  sized = o.sized;
}

unshared : (s : Start) (log : List Moment) (e : StepRefusal) → StoppedIn (shared s) log e → StoppedIn s log e
unshared s log steps.Memory h = h
unshared s log e h = h

pub ok_by : (P Q : Type 0) (answer : Answer) → (P → Q) → OnOk answer P → OnOk answer Q
ok_by P Q (Ok x) to h = to h
ok_by P Q (Err e) to h = tt

on_ok : (P : Type 0) (answer : Answer) → P → OnOk answer P
on_ok P (Ok x) h = h
on_ok P (Err e) h = tt

pub err_by : (P Q : StepRefusal → Type 0) (answer : Answer) → ((e : StepRefusal) → P e → Q e) → IfErr answer P → IfErr answer Q
err_by P Q (Ok x) to h = tt
err_by P Q (Err e) to h = to e h

-- ---- a worker

take_elects : (who : ℕ) (step : Step) → step ≡ TakeStep → election who step ≡ 0
take_elects who step is = ap (election who) is ∙ none who
  where
    none : (who : ℕ) → election who TakeStep ≡ 0
    none zero = refl
    none (suc k) = refl

takes_elect : (calls : List Call) → ((c : Call) → Has calls c → c.entry.step ≡ TakeStep) → weigh election_call calls ≡ 0
takes_elect [] takes = refl
takes_elect (c ∷ calls) takes =
    let one : election c.entry.who c.entry.step ≡ 0 = take_elects c.entry.who c.entry.step (takes c (inl refl)) in
    let rest : weigh election_call calls ≡ 0 = takes_elect calls (λ x has. takes x (inr has)) in
    omega (arith, one, rest)

none_elected : (answer : Answer) (made : ℕ) → made ≡ 0 → AreElected answer made 0
none_elected (Err steps.Memory) made none = omega (arith, none)
none_elected (Err steps.TurnsSpent) made none = omega (arith, none)
none_elected answer made none = none

pub worked_by : (s : Start) (log : List Moment) (old new : List Call) (answer : Answer) → old ≡ [] → WorkedCalls old new answer → OnOk answer (AllEnded (shared s) log old new) → IfErr answer (IsStopped (shared s) log)
    → AreWorked s log new 1 0 answer
worked_by s log old new answer none w ended stopped =
    let is : new ≡ w.more = w.is ∙ ap (λ (l : List Call). l ++ w.more) none in
    subst (λ (calls : List Call). AreWorked s log calls 1 0 answer) (sym is) (record {
      only = λ c has. inl (w.takes c has);
      idle = (let same : idle_calls w.more ≡ weigh idle_call w.more = weigh_idle w.more in let few : idle_calls w.more ≤ 1 = w.idle in omega (arith, same, few));
      all = subst (λ (n : ℕ). OnOk answer (n ≡ 1)) (weigh_idle w.more) w.one;
      elected = none_elected answer (weigh election_call w.more) (takes_elect w.more w.takes);
      over = ok_by (AllEnded (shared s) log old new) (EachOver s log w.more) answer (λ all c k o u has gave. let over = all w.more w.is c k o u has gave in record { given = over.given; ticket = over.ticket; reader = over.reader }) ended;
      stopped = err_by (IsStopped (shared s) log) (StoppedIn s log) answer (λ e was. unshared s log e (stopped_in (shared s) log e was)) stopped;
    })

-- ---- one that elects

module _ (old : List Call) where
  pub elected_none : (new : List Call) (answer : Answer) (times : ℕ) → new ≡ old → AreMade answer 0 times → HasElectedBy times old new answer
  elected_none new answer times is made = record { more = []; is = is ∙ sym (nil old); only = λ c has. absurd has; gave = λ c k o u has is. absurd has; idle = refl; made = made }
    where
      nil : (l : List Call) → l ++ [] ≡ l
      nil [] = refl
      nil (x ∷ l) = ap (λ (r : List Call). x ∷ r) (nil l)

  pub elected_one : (new : List Call) (place : ℕ) (reply : Reply) → new ≡ old ++ record { place = place; entry = record { who = 0; step = ElectStep; reply = reply } } ∷ [] → ((k o : ℕ) (u : Given) → reply ≡ Gave k o u → ⊥)
      → HasElectedBy 1 old new (Ok tt)
  elected_one new place reply is gave = record {
    more = record { place = place; entry = record { who = 0; step = ElectStep; reply = reply } } ∷ [];
    is = is;
    only = λ c has. ⊎_elim (λ same. sym (ap (λ (x : Call). x.entry.step) same)) (λ none. absurd none) has;
    gave = λ c k o u has was. ⊎_elim (λ same. gave k o u (ap (λ (x : Call). x.entry.reply) same ∙ was)) (λ none. absurd none) has;
    idle = refl;
    made = refl;
  }

made_more : (answer : Answer) (first rest a b : ℕ) → first ≡ a → AreMade answer rest b → AreMade answer (first + rest) (a + b)
made_more (Ok x) first rest a b is h = omega (arith, is, h)
made_more (Err steps.Memory) first rest a b is h = omega (arith, is, h)
made_more (Err steps.TurnsSpent) first rest a b is h = omega (arith, is, h)
made_more (Err (steps.Refused refusal)) first rest a b is h = absurd h

made_of_more : (answer : Answer) (made a b : ℕ) → (answer ≡ Ok tt → a ≡ b) → a ≤ b → AreMade answer made a → AreMade answer made b
made_of_more (Ok x) made a b same le h = let is : a ≡ b = same refl in omega (arith, is, h)
made_of_more (Err steps.Memory) made a b same le h = omega (arith, le, h)
made_of_more (Err steps.TurnsSpent) made a b same le h = omega (arith, le, h)
made_of_more (Err (steps.Refused refusal)) made a b same le h = absurd h

pub elected_on : (old mid new : List Call) (answer : Answer) (a b times : ℕ) → (answer ≡ Ok tt → a + b ≡ times) → a + b ≤ times → HasElectedBy a old mid (Ok tt) → HasElectedBy b mid new answer → HasElectedBy times old new answer
elected_on old mid new answer a b times same le first second = record {
  more = first.more ++ second.more;
  is = second.is ∙ ap (λ (l : List Call). l ++ second.more) first.is ∙ apart old first.more second.more;
  only = λ c has. ⊎_elim (λ h. first.only c h) (λ h. second.only c h) (Has-either first.more second.more c has);
  gave = λ c k o u has is. ⊎_elim (λ h. first.gave c k o u h is) (λ h. second.gave c k o u h is) (Has-either first.more second.more c has);
  idle = (let whole : weigh idle_call (first.more ++ second.more) ≡ weigh idle_call first.more + weigh idle_call second.more = weigh_both idle_call first.more second.more in let x = first.idle in let y = second.idle in omega (arith, whole, x, y));
  made = subst (λ (n : ℕ). AreMade answer n times) (sym (weigh_both election_call first.more second.more))
      (made_of_more answer (weigh election_call first.more + weigh election_call second.more) (a + b) times same le (made_more answer (weigh election_call first.more) (weigh election_call second.more) a b first.made second.made));
}
  where
    apart : (a b c : List Call) → (a ++ b) ++ c ≡ a ++ (b ++ c)
    apart [] b c = refl
    apart (x ∷ a) b c = ap (λ (l : List Call). x ∷ l) (apart a b c)

made_elected : (answer : Answer) (made times : ℕ) → AreMade answer made times → AreElected answer made times
made_elected (Err steps.TurnsSpent) made times h = h
made_elected (Err (steps.Refused refusal)) made times h = absurd h
made_elected answer made times h = h

pub elected_by : (s : Start) (log : List Moment) (old new : List Call) (times : ℕ) (answer : Answer) → old ≡ [] → HasElectedBy times old new answer → IfErr answer (StoppedIn (shared s) log) → AreWorked s log new 0 times answer
elected_by s log old new times answer none h stopped =
    let is : new ≡ h.more = h.is ∙ ap (λ (l : List Call). l ++ h.more) none in
    subst (λ (calls : List Call). AreWorked s log calls 0 times answer) (sym is) (record {
      only = λ c has. inr (h.only c has);
      idle = (let idle : weigh idle_call h.more ≡ 0 = h.idle in omega (arith, idle));
      all = on_ok (weigh idle_call h.more ≡ 0) answer h.idle;
      elected = made_elected answer (weigh election_call h.more) times h.made;
      over = on_ok (EachOver s log h.more) answer (λ c k o u has gave. absurd (h.gave c k o u has gave));
      stopped = err_by (StoppedIn (shared s) log) (StoppedIn s log) answer (λ e was. unshared s log e was) stopped;
    })

-- ---- passes

-- what a desk with the pass has called, before it stepped
pub none_called : (base : ℕ) (p old : Seen) → old ≡ p → p.mine ≡ [] → calls_in base old.seen old.mine ≡ []
none_called base p old is none = ap (calls_in base old.seen) (ap (λ (q : Seen). q.mine) is ∙ none)

pub back_by : (s : Start) (before : List Moment) (lock picked : LockId) (total : ℕ) (first last back : Seen) (workers elects : ℕ) (answer : Answer) → lock ≡ picked → first.left ≡ total → first.used ≡ 0 → back ≡ last
    → back.lock ≡ picked → back.left + back.used ≡ total → IsFit s before back
    → AreWorked s (before ++ last.seen) (calls_in (length before) last.seen last.mine) workers elects answer → IsBack s before lock first back workers elects answer
back_by s before lock picked total first last back workers elects answer lock_is left unused is own turns fit worked = record {
  own = own ∙ sym lock_is;
  turns = omega (arith, left, unused, turns);
  fit = fit;
  worked = subst (λ (p : Seen). AreWorked s (before ++ p.seen) (calls_in (length before) p.seen p.mine) workers elects answer) (sym is) worked;
}

module _ (s : Start) (before : List Moment) (lock : LockId) (least : ℕ) (whole : Seen) (new : IsNewPass s before lock least whole) where
  -- fewer turns are wanted of it
  pub new_less : (more : ℕ) → more ≤ least → IsNewPass s before lock more whole
  new_less more less = record { own = new.own; mine = new.mine; unused = new.unused; share = (let left : least ≤ whole.left = new.share in omega (arith, less, left)); fit = new.fit }

-- the turns of both are those of the whole
pub split_turns : (share : ℕ) (whole one rest : Seen) → (rest.left + share ≡ whole.left) × (rest.used ≡ whole.used) → (one.left ≡ share) × (one.used ≡ 0) → (one.left + one.used) + (rest.left + rest.used) ≡ whole.left + whole.used
split_turns share whole one rest old new =
    let a : rest.left + share ≡ whole.left = old.0 in
    let b : rest.used ≡ whole.used = old.1 in
    let c : one.left ≡ share = new.0 in
    let d : one.used ≡ 0 = new.1 in
    omega (arith, a, b, c, d)

-- the pass of a new lock round the desk
pub new_first : (s : Start) (before : List Moment) (lock : LockId) (p : Seen) (x : List Moment) → p ≡ first_pass lock x → Legal s before → (s.quiet ≡ true → NeverFailed before) → IsNewPass s before lock (2 ^ 40) p
new_first s before lock p x is legal never = subst (IsNewPass s before lock (2 ^ 40)) (sym is) (record {
  own = refl;
  mine = refl;
  unused = refl;
  share = omega arith;
  fit = record {
    below = λ k le. refl;
    legal = subst (Legal s) (sym (append-nil before)) legal;
    never = λ quiet. subst NeverFailed (sym (append-nil before)) (never quiet);
  };
})

-- ---- the desk that comes back

drop_front : (front rest : List Moment) → drop (length front) (front ++ rest) ≡ rest
drop_front [] rest = refl
drop_front (x ∷ front) rest = drop_front front rest

pub whole_by : (before all seen : List Moment) → StartsWith all before → drop (length before) all ≡ seen → all ≡ before ++ seen
whole_by before all seen starts is =
    let rest : starts.0 ≡ seen = sym (drop_front before starts.0) ∙ ap (drop (length before)) (sym starts.1) ∙ is in
    starts.1 ∙ ap (λ (l : List Moment). before ++ l) rest

-- where it has just been put in, nothing came since
pub none_since : (before all : List Moment) → all ≡ before → drop (length before) all ≡ []
none_since before all is = ap (drop (length before)) (is ∙ sym (append-nil before)) ∙ drop_front before []
