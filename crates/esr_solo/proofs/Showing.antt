-- Failures stay shown as the history goes on.
use Rattle.std.proofs.Common.{◌≡◌, ◌⊎◌, ℕ, suc, ◌+◌, ◌≤◌, ◌<◌, List, [], ◌∷◌, ◌++◌, length, Option, Some, None, Result, Ok, Err, refl, sym, ap, ◌∙◌, subst, inl, inr, ⊎_elim, append_assoc, append-nil, length-append, arith}
use Rattle.esr_model.specs.Lists.{Has-left, Has-right, Has-either}
use Rattle.esr_model.specs.Values.{Has}
use Rattle.esr_core.specs.Entry.{Step, Reply, Refused, Refusal, FailedStep, ReadStep, ReadFails, PruneStep, DeleteFails, HasEnded, Why, Moment}
use Rattle.esr_desk.specs.declared.hand.Hand.{Hand}
use Rattle.esr_desk.specs.declared.hand.Hand.TheVariants as hands
use Rattle.esr_desk.specs.declared.fault.Fault.{Fault}
use Rattle.esr_desk.specs.declared.fault.By.{By}
use Rattle.esr_desk.specs.declared.fault.By.TheVariants as by
use Rattle.esr_desk.specs.declared.refusal.StepRefusal.{StepRefusal}
use Rattle.esr_desk.specs.declared.refusal.StepRefusal.TheVariants as steps
use Rattle.esr_desk.specs.Refusals.{refusal_of}
use Rattle.esr_desk.specs.Start.{Start}
use Rattle.esr_desk.specs.Evidence.{Evidence}
use Rattle.esr_desk.specs.Hands.{fail_step}
use Rattle.esr_desk.specs.Shown.{IsShown, IsTeller, IsReport, IsListed, IsShownOf, IsShownAt, ShowsReport, AreRising, AreShown}
use Rattle.esr_repo.specs.Next.{Added, AddedOr, Did}
use Rattle.esr_solo.specs.Kept.{listed_at, kept_by}

pub no_end : {A : Type 0} (front : List A) (x : A) (back : List A) → [] ≡ front ++ x ∷ back → ⊥
no_end [] x back e = cc
no_end (f ∷ front) x back e = cc

head_is : {A : Type 0} (x y : A) (xs ys : List A) → x ∷ xs ≡ y ∷ ys → x ≡ y
head_is x y xs ys e = cc

tail_is : {A : Type 0} (x y : A) (xs ys : List A) → x ∷ xs ≡ y ∷ ys → xs ≡ ys
tail_is x y xs ys e = cc

pub both : {A : Type 0} (x y : A) (xs ys : List A) → x ≡ y → xs ≡ ys → x ∷ xs ≡ y ∷ ys
both x y xs ys e d = cc

-- a part of a list with one more ends before it, or is all of it
pub last_or : {A : Type 0} (log : List A) (m : A) (front : List A) (x : A) (back : List A) → log ++ m ∷ [] ≡ front ++ x ∷ back → ((front ≡ log) × (m ≡ x)) ⊎ ((rest : List A) × (log ≡ front ++ x ∷ rest))
last_or [] m [] x back e = inl (refl, head_is m x [] back e)
last_or [] m (f ∷ front) x back e = absurd (no_end front x back (tail_is m f [] (front ++ x ∷ back) e))
last_or (l ∷ log) m [] x back e = inr (log, both l x log log (head_is l x (log ++ m ∷ []) back e) refl)
last_or (l ∷ log) m (f ∷ front) x back e =
    let h : l ≡ f = head_is l f (log ++ m ∷ []) (front ++ x ∷ back) e in
    ⊎_elim
    (λ d. inl (both f l front log (sym h) d.0, d.1))
    (λ d. inr (d.0, both l f log (front ++ x ∷ d.0) h d.1))
    (last_or log m front x back (tail_is l f (log ++ m ∷ []) (front ++ x ∷ back) e))

-- a report stays one as the history goes on
longer : (hand : Hand) (log : List Moment) (m : Moment) (place who : ℕ) (why : Why) → IsReport hand log place who why → IsReport hand (log ++ m ∷ []) place who why
longer hand log m place who why r =
    record {
      front = r.front;
      moment = r.moment;
      back = r.back ++ m ∷ [];
      is = ap (λ (l : List Moment). l ++ m ∷ []) r.is ∙ append_assoc r.front (r.moment ∷ r.back) (m ∷ []);
      place_is = r.place_is;
      teller = r.teller;
      of = r.of;
      step = r.step;
      reply = r.reply;
    }

-- a longer list of objects shows as much
more_listed : {S F H T : Type 0} (faults more : List (Fault S F H T)) (place : ℕ) (b : By S F H T) → IsListed faults place b → IsListed (faults ++ more) place b
more_listed faults more place (by.Object object) h = Has-left faults more (record { entry = Some place; object = object }) h
more_listed faults more place b h = tt

own_listed : {S F H T : Type 0} (faults : List (Fault S F H T)) (place : ℕ) (b : By S F H T) → IsListed (faults ++ listed_at place b) place b
own_listed faults place (by.Object object) = Has-right faults (record { entry = Some place; object = object } ∷ []) (record { entry = Some place; object = object }) (inl refl)
own_listed faults place b = tt

-- so is what shows it
shows_longer : {S F H T : Type 0} (e : Evidence S F H T) (s : Start) (log : List Moment) (m : Moment) (fault : Fault S F H T) → ShowsReport e s log fault → ShowsReport e s (log ++ m ∷ []) fault
unfolding longer
shows_longer e s log m fault h = record { place = h.place; entry_is = h.entry_is; hand = h.hand; who = h.who; why = h.why; report = longer h.hand log m h.place h.who h.why h.report; shown = h.shown }

-- ---- which entries report a failure

-- why, by its step
abbrev pub why_told : Step → Option Why
why_told (FailedStep why) = Some why
why_told (ReadStep (ReadFails why)) = Some why
why_told (PruneStep (DeleteFails why)) = Some why
why_told step = None

-- a step by its answer, which reports no failure where it was made
abbrev pub IsNoReportOf : Step → Reply → Type 0
IsNoReportOf step reply = (why : Why) → why_told step ≡ Some why → reply ≡ HasEnded → ⊥

told_by : (hand : Hand) (why : Why) → why_told (fail_step hand why) ≡ Some why
told_by hands.Unit why = refl
told_by hand why = refl

-- an earlier report, by the part of the history that it is in
earlier : (hand : Hand) (log : List Moment) (m : Moment) (place who : ℕ) (why : Why) (r : IsReport hand (log ++ m ∷ []) place who why) → (rest : List Moment) → log ≡ r.front ++ r.moment ∷ rest → IsReport hand log place who why
earlier hand log m place who why r rest is = record { front = r.front; moment = r.moment; back = rest; is = is; place_is = r.place_is; teller = r.teller; of = r.of; step = r.step; reply = r.reply }

-- ---- the places of the objects that are listed

-- each is below the length of the history
place_below : (hand : Hand) (log : List Moment) (place who : ℕ) (why : Why) → IsReport hand log place who why → place < length log
place_below hand log place who why r = below (length r.front) (length r.back) place (length log) r.place_is (ap length r.is ∙ length-append r.front (r.moment ∷ r.back))
  where
    below : (front back place n : ℕ) → front ≡ place → n ≡ front + suc back → place < n
    below front back place n at is = omega (arith, at, is)

rising_none : {S F H T : Type 0} → AreRising {S = S} {F = F} {H = H} {T = T} []
rising_none front back one next is = absurd (no_end front one (next ∷ back) is)

-- the one before the last
last_of : {A : Type 0} (xs : List A) (x : A) (front back : List A) (one next : A) → xs ++ x ∷ [] ≡ front ++ one ∷ next ∷ back → (Has xs one × (x ≡ next)) ⊎ ((rest : List A) × (xs ≡ front ++ one ∷ next ∷ rest))
last_of xs x front back one next is =
    ⊎_elim
    (λ (last : (front ++ one ∷ [] ≡ xs) × (x ≡ next)). inl (subst (λ (l : List _). Has l one) last.0 (Has-right front (one ∷ []) one (inl refl)), last.1))
    (λ (more : (rest : List _) × (xs ≡ (front ++ one ∷ []) ++ next ∷ rest)). inr (more.0, more.1 ∙ append_assoc front (one ∷ []) (next ∷ more.0)))
    (last_or xs x (front ++ one ∷ []) next back (is ∙ sym (append_assoc front (one ∷ []) (next ∷ back))))

rising_more : {S F H T : Type 0} (faults : List (Fault S F H T)) (fault : Fault S F H T) (place : ℕ) → fault.entry ≡ Some place → ((one : Fault S F H T) (p : ℕ) → Has faults one → one.entry ≡ Some p → p < place)
    → AreRising faults → AreRising (faults ++ fault ∷ [])
rising_more faults fault place at below h front back one next is p q one_is next_is =
    ⊎_elim
    (λ (last : Has faults one × (fault ≡ next)). subst (λ (n : ℕ). p < n) (some_same place q (sym at ∙ ap (λ (x : Fault _ _ _ _). x.entry) last.1 ∙ next_is)) (below one p last.0 one_is))
    (λ (more : (rest : List _) × (faults ≡ front ++ one ∷ next ∷ rest)). h front more.0 one next more.1 p q one_is next_is)
    (last_of faults fault front back one next is)
  where
    some_same : (a b : ℕ) → Some a ≡ Some b → a ≡ b
    some_same a b e = cc

-- ---- one more entry

-- one that reports no failure
goes_on : {S F H T : Type 0} (e : Evidence S F H T) (s : Start) (log : List Moment) (m : Moment) (faults : List (Fault S F H T)) → IsNoReportOf m.entry.step m.entry.reply → AreShown e s log faults → AreShown e s (log ++ m ∷ []) faults
unfolding earlier
goes_on e s log m faults none h =
    record {
      shown = λ hand place who why r. ⊎_elim
          (λ (last : (r.front ≡ log) × (m ≡ r.moment)). absurd (none why (ap why_told (ap (λ (x : Moment). x.entry.step) last.1 ∙ r.step) ∙ told_by hand why) (ap (λ (x : Moment). x.entry.reply) last.1 ∙ r.reply)))
          (λ (more : (rest : List Moment) × (log ≡ r.front ++ r.moment ∷ rest)). h.shown hand place who why (earlier hand log m place who why r more.0 more.1))
          (last_or log m r.front r.moment r.back r.is);
      listed = λ fault there. shows_longer e s log m fault (h.listed fault there);
      rising = h.rising;
    }

-- ---- a report whose cause is shown

same_why : (a b : Why) → Some a ≡ Some b → a ≡ b
same_why a b e = cc

-- the hands by whose step a failure is told: of a restore, a check or a verification by one
abbrev IsOneStep : Hand → Hand → Type 0
IsOneStep hands.Unit hands.Unit = Unit {0}
IsOneStep hands.Delete hands.Delete = Unit {0}
IsOneStep hands.Restore hands.Restore = Unit {0}
IsOneStep hands.Check hands.Check = Unit {0}
IsOneStep hands.Check hands.Verify = Unit {0}
IsOneStep hands.Verify hands.Check = Unit {0}
IsOneStep hands.Verify hands.Verify = Unit {0}
IsOneStep a b = ⊥

no_zero : (who : ℕ) → 1 ≤ who → who ≡ 0 → ⊥
no_zero who some is = omega (arith, some, is)

one_step : (a b : Hand) (who : ℕ) (why other : Why) → IsTeller a who → IsTeller b who → fail_step a why ≡ fail_step b other → IsOneStep a b
one_step hands.Unit hands.Unit who why other x y is = tt
one_step hands.Delete hands.Delete who why other x y is = tt
one_step hands.Restore hands.Restore who why other x y is = tt
one_step hands.Check hands.Check who why other x y is = tt
one_step hands.Check hands.Verify who why other x y is = tt
one_step hands.Verify hands.Check who why other x y is = tt
one_step hands.Verify hands.Verify who why other x y is = tt
one_step hands.Restore hands.Check who why other x y is = absurd (no_zero who x y)
one_step hands.Restore hands.Verify who why other x y is = absurd (no_zero who x y)
one_step hands.Check hands.Restore who why other x y is = absurd (no_zero who y x)
one_step hands.Verify hands.Restore who why other x y is = absurd (no_zero who y x)
one_step a b who why other x y is = absurd cc

-- what shows the one shows the other
shown_of : {S F H T : Type 0} (e : Evidence S F H T) (s : Start) (a b : Hand) (log : List Moment) (who : ℕ) (why : Why) (x : By S F H T) → IsOneStep a b → IsShown a e s log who why x → IsShownOf b e s log who why x
shown_of e s hands.Unit hands.Unit log who why x one shown = shown
shown_of e s hands.Delete hands.Delete log who why x one shown = shown
shown_of e s hands.Restore hands.Restore log who why x one shown = shown
shown_of e s hands.Check hands.Check log who why x one shown = inl shown
shown_of e s hands.Check hands.Verify log who why x one shown = inl shown
shown_of e s hands.Verify hands.Check log who why x one shown = inr shown
shown_of e s hands.Verify hands.Verify log who why x one shown = inr shown
shown_of e s a b log who why x one shown = absurd one

own_of_itself : (hand : Hand) → IsOneStep hand hand
own_of_itself hands.Unit = tt
own_of_itself hand = tt

module _ {S F H T : Type 0} (e : Evidence S F H T) (s : Start) (hand : Hand) (log : List Moment) (m : Moment) (faults : List (Fault S F H T))
    (why : Why) (b : By S F H T) (teller : IsTeller hand m.entry.who) (step : m.entry.step ≡ fail_step hand why) (reply : m.entry.reply ≡ HasEnded)
    (shown : IsShown hand e s log m.entry.who why b) (h : AreShown e s log faults) where
  -- by whichever hand it is read
  now_shown : (other : Hand) (place who : ℕ) (told : Why) (r : IsReport other (log ++ m ∷ []) place who told) → (r.front ≡ log) × (m ≡ r.moment) → IsShownAt other e s r.front place who told (faults ++ listed_at (length log) b)
  now_shown other place who told r last =
      let of : m.entry.who ≡ who = ap (λ (x : Moment). x.entry.who) last.1 ∙ r.of in
      let same : fail_step hand why ≡ fail_step other told = sym step ∙ ap (λ (x : Moment). x.entry.step) last.1 ∙ r.step in
      let is : why ≡ told = same_why why told (sym (told_by hand why) ∙ ap why_told same ∙ told_by other told) in
      let at : length log ≡ place = sym (ap length last.0) ∙ r.place_is in
      let one : IsOneStep hand other = one_step hand other m.entry.who why told teller (subst (IsTeller other) (sym of) r.teller) same in
      let now : IsShownOf other e s log m.entry.who why b = shown_of e s hand other log m.entry.who why b one shown in
      record {
        by = b;
        shown = subst (λ (l : List Moment). IsShownOf other e s l who told b) (sym last.0) (subst (λ (w : Why). IsShownOf other e s log who w b) is (subst (λ (k : ℕ). IsShownOf other e s log k why b) of now));
        listed = subst (λ (n : ℕ). IsListed (faults ++ listed_at (length log) b) n b) at (own_listed faults (length log) b);
      }

  now_report : IsReport hand (log ++ m ∷ []) (length log) m.entry.who why
  now_report = record { front = log; moment = m; back = []; is = refl; place_is = refl; teller = teller; of = refl; step = step; reply = reply }

  now_listed : (x : By S F H T) → x ≡ b → (fault : Fault S F H T) → Has (listed_at (length log) x) fault → ShowsReport e s (log ++ m ∷ []) fault
  unfolding now_report
  now_listed (by.Object object) is fault (inl same) =
      subst (ShowsReport e s (log ++ m ∷ [])) same
      (record {
        place = length log;
        entry_is = refl;
        hand = hand;
        who = m.entry.who;
        why = why;
        report = now_report;
        shown = subst (λ (y : By S F H T). IsShownOf hand e s log m.entry.who why y) (sym is) (shown_of e s hand hand log m.entry.who why b (own_of_itself hand) shown);
      })
  now_listed (by.Object object) is fault (inr none) = absurd none
  now_listed x is fault none = absurd none

  old_below : (one : Fault S F H T) (p : ℕ) → Has faults one → one.entry ≡ Some p → p < length log
  old_below one p has at =
      let told = h.listed one has in
      subst (λ (n : ℕ). n < length log) (same told.place p (sym told.entry_is ∙ at)) (place_below told.hand log told.place told.who told.why told.report)
    where
      same : (a b : ℕ) → Some a ≡ Some b → a ≡ b
      same a b e = cc

  now_rising : (x : By S F H T) → AreRising (faults ++ listed_at (length log) x)
  now_rising (by.Object object) = rising_more faults (record { entry = Some (length log); object = object }) (length log) refl old_below h.rising
  now_rising x = subst AreRising (sym (append-nil faults)) h.rising

  pub reports : AreShown e s (log ++ m ∷ []) (faults ++ listed_at (length log) b)
  unfolding earlier
  reports =
      record {
        shown = λ other place who told r. ⊎_elim
            (λ (last : (r.front ≡ log) × (m ≡ r.moment)). now_shown other place who told r last)
            (λ (more : (rest : List Moment) × (log ≡ r.front ++ r.moment ∷ rest)).
            let was = h.shown other place who told (earlier other log m place who told r more.0 more.1) in
            record { by = was.by; shown = was.shown; listed = more_listed faults (listed_at (length log) b) place was.by was.listed })
            (last_or log m r.front r.moment r.back r.is);
        listed = λ fault there. ⊎_elim
            (λ (old : Has faults fault). shows_longer e s log m fault (h.listed fault old))
            (λ (new : Has (listed_at (length log) b) fault). now_listed b refl fault new)
            (Has-either faults (listed_at (length log) b) fault there);
        rising = now_rising b;
      }

-- nothing was reported yet
none_shown : {S F H T : Type 0} (e : Evidence S F H T) (s : Start) → AreShown e s [] []
none_shown e s = record { shown = λ hand place who why r. absurd (no_end r.front r.moment r.back r.is); listed = λ fault there. absurd there; rising = rising_none }

pub begins : {S F H T : Type 0} (e : Evidence S F H T) (s : Start) (log : List Moment) (faults : List (Fault S F H T)) → log ≡ [] → faults ≡ [] → AreShown e s log faults
begins {S} {F} {H} {T} e s log faults none empty = subst (λ (l : List Moment). AreShown e s l faults) (sym none) (subst (λ (f : List (Fault S F H T)). AreShown e s [] f) (sym empty) (none_shown e s))

-- ---- a step of the repository

added : {S F H T : Type 0} (e : Evidence S F H T) (s : Start) (old new : List Moment) (who : ℕ) (step : Step) (reply : Reply) (faults : List (Fault S F H T)) → IsNoReportOf step reply → Added s old new who step reply
    → AreShown e s old faults → AreShown e s new faults
added e s old new who step reply faults none a h =
    subst (λ (l : List Moment). AreShown e s l faults) (sym a.is) (goes_on e s old (record { entry = record { who = who; step = step; reply = reply }; image = a.image }) faults none h)

refused_no : (step : Step) (refusal : Refusal) → IsNoReportOf step (Refused refusal)
refused_no step refusal why told d = cc

added_or : {S F H T : Type 0} (e : Evidence S F H T) (s : Start) (old new : List Moment) (who : ℕ) (step : Step) (x : StepRefusal) (faults : List (Fault S F H T)) → AddedOr s old new who step x → AreShown e s old faults
    → AreShown e s new faults
added_or e s old new who step steps.Memory faults same h = subst (λ (l : List Moment). AreShown e s l faults) (sym same) h
added_or e s old new who step steps.TurnsSpent faults never h = absurd never
added_or e s old new who step (steps.Refused refusal) faults a h = added e s old new who step (Refused (refusal_of refusal)) faults (refused_no step (refusal_of refusal)) a h

-- that isn't the report of a failure
pub did : {X S F H T : Type 0} (e : Evidence S F H T) (s : Start) (old new : List Moment) (who : ℕ) (step : Step) (ok : X → Reply) (result : Result X StepRefusal) (faults : List (Fault S F H T)) → ((x : X) → IsNoReportOf step (ok x))
    → Did s old new who step ok result
    → AreShown e s old faults → AreShown e s new faults
did e s old new who step ok (Ok x) faults none d h = added e s old new who step (ok x) faults (none x) d h
did e s old new who step ok (Err x) faults none d h = added_or e s old new who step x faults d h

-- or is one, by its answer
pub reported : {S F H T : Type 0} (e : Evidence S F H T) (s : Start) (hand : Hand) (old new : List Moment) (who : ℕ) (why : Why) (result : Result Unit StepRefusal) (faults : List (Fault S F H T)) (b : By S F H T) → IsTeller hand who
    → IsShown hand e s old who why b
    → Did s old new who (fail_step hand why) (λ _. HasEnded) result → AreShown e s old faults → AreShown e s new (faults ++ kept_by (length old) b result)
reported e s hand old new who why (Ok x) faults b teller shown d h =
    subst (λ (l : List Moment). AreShown e s l (faults ++ listed_at (length old) b)) (sym d.is)
    (reports e s hand old (record { entry = record { who = who; step = fail_step hand why; reply = HasEnded }; image = d.image }) faults why b teller refl refl shown h)
reported {S} {F} {H} {T} e s hand old new who why (Err x) faults b teller shown d h =
    subst (λ (l : List (Fault S F H T)). AreShown e s new l) (sym (append-nil faults)) (added_or e s old new who (fail_step hand why) x faults d h)

-- the same objects
pub same_objects : {S F H T : Type 0} (e : Evidence S F H T) (s : Start) (log : List Moment) (faults same : List (Fault S F H T)) → same ≡ faults → AreShown e s log faults → AreShown e s log same
same_objects {S} {F} {H} {T} e s log faults same is h = subst (λ (l : List (Fault S F H T)). AreShown e s log l) (sym is) h
