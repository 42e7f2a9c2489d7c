-- Who 0 makes few steps besides the commands that it asks, its looks, takes and elections, and the blobs that checks fetch.
use Rattle.std.proofs.Common.{◌≡◌, ◌⊎◌, ℕ, zero, suc, ◌+◌, ◌*◌, ◌≤◌, List, [], ◌∷◌, Bool, true, false, Some, refl, sym, ap, ◌∙◌, subst, inl, inr, arith}
use Rattle.std.specs.Prelude.{if◌then◌else◌}
use Rattle.esr_model.specs.Names.{BlobName, TestMaster, TestNode}
use Rattle.esr_model.specs.Values.{Has, Formats}
use Rattle.std.specs.FinMap as fin
use Rattle.std.proofs.lemmas.Bool.{cases_Bool}
use Rattle.esr_core.specs.World.{World, Ticket}
use Rattle.esr_core.specs.Past.{Repeats, IsNewStep, with_entry, begins_anew, entries_by}
use Rattle.esr_core.specs.Tracked.{Tracked}
use Rattle.esr_core.specs.ReadTracked.{ReadTracked}
use Rattle.esr_core.specs.Changes.{IsClients, Maker, ClientStep, ReaderStep, UnitStep}
use Rattle.esr_core.specs.Entry.{ReadBlob, RestoredShard, CheckedAll, DrawTest, BeginTest, CommitTest, RemoveTests, VerifiedAll, ReadFails, Step, AskStep, TakeStep, ElectStep, LookStep, ReadStep, Reply, Gave, Entry, Moment}
use Rattle.esr_core.specs.After.{after}
use Rattle.esr_core.specs.Allowed.{Allowed}
use Rattle.esr_core.specs.History.{IsLegal}
use Rattle.esr_bounds.specs.Keys.{IsUnheard, AreHeard, IsHeard}
use Rattle.esr_bounds.specs.Work.{elections_by, elections_in, idle_by, idle_in}
use Rattle.esr_bounds.specs.Clients.{draws_by, looks_by, ends_by, draws_in, looks_in, ends_in, tests_at, tests_by, bare_by, anew_by, tests_in, bare_in, anew_in, most_tests, commands_by, empty_by, fetches_at, fetches_by, commands_in, empty_in, fetches_in, most_of_client}
use Rattle.esr_bounds.specs.Laws.{StepLaws}
use Rattle.esr_core.specs.Laws.NumberMaps.{nothing}
use Rattle.esr_bounds.proofs.Once.{counted, blocked_unheard, looked_at}
use Rattle.esr_bounds.proofs.Verifying.{anew_entries}

-- ---- removals of nothing

abbrev bares : List Entry → ℕ
bares [] = 0
bares (e ∷ entries) = bare_by 0 e.step + bares entries

bare_is : (step : Step) → (bare_by 0 step ≡ 0) ⊎ (step ≡ ReadStep (RemoveTests []))
bare_is (ReadStep (RemoveTests [])) = inr refl
bare_is (ReadStep (RemoveTests (name ∷ names))) = inl refl
bare_is (ReadStep read) = inl refl
bare_is step = inl refl

none_bare : (entries : List Entry) → ((e : Entry) → Has entries e → Repeats e.step (ReadStep (RemoveTests [])) → ⊥) → bares entries ≡ 0
none_bare [] new = refl
none_bare (e ∷ entries) new = elim (bare_is e.step) [
  | inl none ↦ both (bare_by 0 e.step) (bares entries) none (none_bare entries (λ x h. new x (inr h)))
  | inr bare ↦ absurd (new e (inl refl) (subst (λ (s : Step). Repeats s (ReadStep (RemoveTests []))) (sym bare) tt))
]
  where
    both : (a b : ℕ) → a ≡ 0 → b ≡ 0 → a + b ≡ 0
    both a b p q = let one : a ≡ 0 = p in let two : b ≡ 0 = q in omega (arith, one, two)

anew_bare : (step : Step) → begins_anew 0 step ≡ true → bare_by 0 step ≡ 0
anew_bare (ReadStep (RemoveTests [])) anew = absurd cc
anew_bare (ReadStep (RemoveTests (name ∷ names))) anew = refl
anew_bare (ReadStep read) anew = refl
anew_bare step anew = refl

-- one since who 0 began anew
abbrev OneBare : World → Type 0
OneBare w = bares (entries_by w.entries 0) ≤ 1

-- no ticket has the number 0
abbrev pub NoneAtZero : World → Type 0
NoneAtZero w = (t : Ticket) → fin.get w.tickets 0 ≡ Some t → ⊥

module _ (f : Formats) (size : ℕ) (steps : StepLaws f size) where
  -- what a step makes of it
  record Bared (w : World) (m : Moment) : Type 0 where
    one : OneBare (after f w m)
    spends : bare_by m.entry.who m.entry.step + bares (entries_by w.entries 0) ≤ anew_by m.entry.who m.entry.step + bares (entries_by (after f w m).entries 0)

  one_bared : (w : World) (m : Moment) → Allowed f size w m → (IsUnheard m.entry.reply → ⊥) → OneBare w → Bared w m
  one_bared w m a heard one = by m.entry.who refl
    where
      made : Entry
      made = record { who = 0; step = m.entry.step; reply = m.entry.reply }

      at_zero : m.entry.who ≡ 0 → (after f w m).entries ≡ with_entry w.entries made
      at_zero nobody = ap (λ (who : ℕ). with_entry w.entries (record { who = who; step = m.entry.step; reply = m.entry.reply })) nobody

      new : m.entry.who ≡ 0 → IsNewStep w 0 m.entry.step
      new nobody = subst (λ (who : ℕ). IsNewStep w who m.entry.step) nobody (a.once (looked_at f size steps w m a heard).0)

      -- another's step leaves it
      kept : (k : ℕ) → m.entry.who ≡ suc k → entries_by (after f w m).entries 0 ≡ entries_by w.entries 0 → Bared w m
      kept k is same = record {
        one = subst (λ (es : List Entry). bares es ≤ 1) (sym same) one;
        spends =
            subst (λ (who : ℕ). bare_by who m.entry.step + bares (entries_by w.entries 0) ≤ anew_by who m.entry.step + bares (entries_by (after f w m).entries 0)) (sym is)
            (subst (λ (es : List Entry). 0 + bares (entries_by w.entries 0) ≤ anew_by (suc k) m.entry.step + bares es) (sym same) (more (anew_by (suc k) m.entry.step) (bares (entries_by w.entries 0))));
      }
        where
          more : (x n : ℕ) → 0 + n ≤ x + n
          more x n = omega arith

      anew : m.entry.who ≡ 0 → begins_anew 0 m.entry.step ≡ true → Bared w m
      anew nobody begins = record {
        one = subst (λ (es : List Entry). bares es ≤ 1) (sym none) (let is : 0 ≤ 1 = omega arith in is);
        spends =
            subst (λ (who : ℕ). bare_by who m.entry.step + bares (entries_by w.entries 0) ≤ anew_by who m.entry.step + bares (entries_by (after f w m).entries 0)) (sym nobody)
            (le (bare_by 0 m.entry.step) (bares (entries_by w.entries 0)) (anew_by 0 m.entry.step) (bares (entries_by (after f w m).entries 0)) (anew_bare m.entry.step begins) one (ap (λ (b : Bool). if b then 1 else 0) begins));
      }
        where
          none : entries_by (after f w m).entries 0 ≡ []
          none = ap (λ (es : List Entry). entries_by es 0) (at_zero nobody) ∙ anew_entries w.entries m.entry.step m.entry.reply (counted m.entry.reply heard) begins

          le : (b n x y : ℕ) → b ≡ 0 → n ≤ 1 → x ≡ 1 → b + n ≤ x + y
          le b n x y p q r = let none : b ≡ 0 = p in let few : n ≤ 1 = q in let is : x ≡ 1 = r in omega (arith, none, few, is)

      goes_on : m.entry.who ≡ 0 → begins_anew 0 m.entry.step ≡ false → Bared w m
      goes_on nobody old = record {
        one = subst (λ (es : List Entry). bares es ≤ 1) (sym more) (fewer (bare_is m.entry.step));
        spends =
            subst (λ (who : ℕ). bare_by who m.entry.step + bares (entries_by w.entries 0) ≤ anew_by who m.entry.step + bares (entries_by (after f w m).entries 0)) (sym nobody)
            (subst (λ (es : List Entry). bare_by 0 m.entry.step + bares (entries_by w.entries 0) ≤ anew_by 0 m.entry.step + bares es) (sym more) (as_many (bare_by 0 m.entry.step + bares (entries_by w.entries 0)) (anew_by 0 m.entry.step)));
      }
        where
          more : entries_by (after f w m).entries 0 ≡ made ∷ entries_by w.entries 0
          more = ap (λ (es : List Entry). entries_by es 0) (at_zero nobody) ∙ steps.own w.entries made (counted m.entry.reply heard) old

          as_many : (n x : ℕ) → n ≤ x + n
          as_many n x = omega arith

          none_more : (b n : ℕ) → b ≡ 0 → n ≤ 1 → b + n ≤ 1
          none_more b n p q = let none : b ≡ 0 = p in let few : n ≤ 1 = q in omega (arith, none, few)

          first : (b n : ℕ) → b ≡ 1 → n ≡ 0 → b + n ≤ 1
          first b n p q = let is : b ≡ 1 = p in let none : n ≡ 0 = q in omega (arith, is, none)

          fewer : (bare_by 0 m.entry.step ≡ 0) ⊎ (m.entry.step ≡ ReadStep (RemoveTests [])) → bare_by 0 m.entry.step + bares (entries_by w.entries 0) ≤ 1
          fewer (inl none) = none_more (bare_by 0 m.entry.step) (bares (entries_by w.entries 0)) none one
          fewer (inr bare) =
              first (bare_by 0 m.entry.step) (bares (entries_by w.entries 0)) (ap (bare_by 0) bare)
              (none_bare (entries_by w.entries 0) (subst (λ (s : Step). (e : Entry) → Has (entries_by w.entries 0) e → Repeats e.step s → ⊥) bare (new nobody)))

      by : (who : ℕ) → m.entry.who ≡ who → Bared w m
      by zero is = elim (cases_Bool (begins_anew 0 m.entry.step)) [ inl begins ↦ anew is begins | inr old ↦ goes_on is old ]
      by (suc k) is = kept k is (steps.others w.entries m.entry 0 (λ nobody. let clash : 0 ≡ suc k = nobody ∙ is in absurd (omega (arith, clash))))

  bared : (w : World) (log : List Moment) → IsLegal f size w log → AreHeard log → OneBare w → bare_in log + bares (entries_by w.entries 0) ≤ anew_in log + 1
  bared w [] legal heard one = let few : bares (entries_by w.entries 0) ≤ 1 = one in let is : 0 + bares (entries_by w.entries 0) ≤ 0 + 1 = omega (arith, few) in is
  bared w (m ∷ log) legal heard one =
      let step = one_bared w m legal.0 (heard m (inl refl)) one in
      both (bare_by m.entry.who m.entry.step) (bare_in log) (anew_by m.entry.who m.entry.step) (anew_in log) (bares (entries_by w.entries 0)) (bares (entries_by (after f w m).entries 0)) step.spends
      (bared (after f w m) log legal.1 (λ n h. heard n (inr h)) step.one)
    where
      both : (b bs x xs n v : ℕ) → b + n ≤ x + v → bs + v ≤ xs + 1 → (b + bs) + n ≤ (x + xs) + 1
      both b bs x xs n v p q = let one : b + n ≤ x + v = p in let two : bs + v ≤ xs + 1 = q in omega (arith, one, two)

  -- ---- each step of who 0 is one of these

  abbrev Counts : ℕ → Step → Reply → Type 0
  Counts who step reply = idle_by who reply ≤ anew_by who step + (elections_by step + (empty_by who step reply + (draws_by who step + (tests_by who step + (bare_by who step + fetches_by who step)))))

  idle_one : (reply : Reply) → idle_by 0 reply ≤ 1
  idle_one (Gave ticket op unit) = let is : 0 ≤ 1 = omega arith in is
  idle_one reply = let is : 1 ≤ 1 = omega arith in is

  by_anew : (reply : Reply) (b c d e g h : ℕ) → idle_by 0 reply ≤ 1 + (b + (c + (d + (e + (g + h)))))
  by_anew reply b c d e g h = let one : idle_by 0 reply ≤ 1 = idle_one reply in omega (arith, one)

  by_test : (reply : Reply) (name : BlobName) → idle_by 0 reply ≤ 0 + (0 + (0 + (0 + (tests_at name + (0 + fetches_at name)))))
  by_test reply (TestMaster v) = let one : idle_by 0 reply ≤ 1 = idle_one reply in omega (arith, one)
  by_test reply (TestNode v n) = let one : idle_by 0 reply ≤ 1 = idle_one reply in omega (arith, one)
  by_test reply name = let one : idle_by 0 reply ≤ 1 = idle_one reply in let is : idle_by 0 reply ≤ 0 + (0 + (0 + (0 + (0 + (0 + 1))))) = omega (arith, one) in is

  by_take : (reply : Reply) → idle_by 0 reply ≤ 0 + (0 + (empty_by 0 TakeStep reply + (0 + (0 + (0 + 0)))))
  by_take (Gave ticket op unit) = let is : 0 ≤ 0 + (0 + (0 + (0 + (0 + (0 + 0))))) = omega arith in is
  by_take reply = let is : 1 ≤ 0 + (0 + (1 + (0 + (0 + (0 + 0))))) = omega arith in is

  counts_client : (step : Step) (reply : Reply) → IsClients step → Counts 0 step reply
  counts_client (AskStep command) reply own = by_anew reply 0 0 0 0 0 0
  counts_client TakeStep reply own = by_take reply
  counts_client ElectStep reply own = let one : idle_by 0 reply ≤ 1 = idle_one reply in let is : idle_by 0 reply ≤ 0 + (1 + (0 + (0 + (0 + (0 + 0))))) = omega (arith, one) in is
  counts_client LookStep reply own = by_anew reply 0 0 0 0 0 0
  counts_client (ReadStep (ReadBlob name)) reply own = by_test reply name
  counts_client (ReadStep (RestoredShard files bytes)) reply own = absurd own
  counts_client (ReadStep DrawTest) reply own = let one : idle_by 0 reply ≤ 1 = idle_one reply in let is : idle_by 0 reply ≤ 0 + (0 + (0 + (1 + (0 + (0 + 0))))) = omega (arith, one) in is
  counts_client (ReadStep (BeginTest name)) reply own = let one : idle_by 0 reply ≤ 1 = idle_one reply in let is : idle_by 0 reply ≤ 0 + (0 + (0 + (0 + (1 + (0 + 0))))) = omega (arith, one) in is
  counts_client (ReadStep (CommitTest name)) reply own = let one : idle_by 0 reply ≤ 1 = idle_one reply in let is : idle_by 0 reply ≤ 0 + (0 + (0 + (0 + (1 + (0 + 0))))) = omega (arith, one) in is
  counts_client (ReadStep (RemoveTests [])) reply own = let one : idle_by 0 reply ≤ 1 = idle_one reply in let is : idle_by 0 reply ≤ 0 + (0 + (0 + (0 + (0 + (1 + 0))))) = omega (arith, one) in is
  counts_client (ReadStep (RemoveTests (name ∷ names))) reply own = let one : idle_by 0 reply ≤ 1 = idle_one reply in let is : idle_by 0 reply ≤ 0 + (0 + (0 + (0 + (1 + (0 + 0))))) = omega (arith, one) in is
  counts_client (ReadStep other) reply own = by_anew reply 0 0 0 0 0 0
  counts_client step reply own = absurd own

  pub still_none : (w : World) (m : Moment) → Tracked w → NoneAtZero w → NoneAtZero (after f w m)
  still_none w m tracked none v there = elim ((steps.frame w m).come 0 v there) [
    | inl old ↦ none old.0 old.1
    | inr new ↦ let first : 1 ≤ w.next_ticket = tracked.first_ticket in let is : 0 ≡ w.next_ticket = new.0 in omega (arith, first, is)
  ]

  -- what who 0 makes is a step of its own
  pub client_step : (w : World) (m : Moment) → ReadTracked w → NoneAtZero w → Allowed f size w m → (IsUnheard m.entry.reply → ⊥) → m.entry.who ≡ 0 → IsClients m.entry.step
  client_step w m reads none_at a heard nobody = elim (steps.maker w m a) [
    | inl maker ↦ own maker
    | inr dead ↦ absurd (heard (subst IsUnheard (sym dead.refused) (blocked_unheard w m.entry.who m.entry.step dead.refusal dead.blocks)))
  ]
    where
      own : Maker w m.entry.who m.entry.step → IsClients m.entry.step
      own (ClientStep who step) = step
      own (ReaderStep q reading step) = let some : 1 ≤ m.entry.who = (reads.tracked.tickets m.entry.who q reading.there).0 in let none : m.entry.who ≡ 0 = nobody in absurd (omega (arith, some, none))
      own (UnitStep t out step) = absurd (none_at t (subst (λ (who : ℕ). fin.get w.tickets who ≡ Some t) nobody out.there))

  counts_one : (w : World) (m : Moment) → ReadTracked w → NoneAtZero w → Allowed f size w m → (IsUnheard m.entry.reply → ⊥) → Counts m.entry.who m.entry.step m.entry.reply
  counts_one w m reads none_at a heard = by m.entry.who refl
    where
      none_le : (n : ℕ) → 0 ≤ n
      none_le n = omega arith

      by : (who : ℕ) → m.entry.who ≡ who → Counts m.entry.who m.entry.step m.entry.reply
      by zero is = subst (λ (who : ℕ). Counts who m.entry.step m.entry.reply) (sym is) (counts_client m.entry.step m.entry.reply (client_step w m reads none_at a heard is))
      by (suc k) is =
          subst (λ (who : ℕ). Counts who m.entry.step m.entry.reply) (sym is)
          (none_le (anew_by (suc k) m.entry.step
          + (elections_by m.entry.step + (empty_by (suc k) m.entry.step m.entry.reply + (draws_by (suc k) m.entry.step + (tests_by (suc k) m.entry.step + (bare_by (suc k) m.entry.step + fetches_by (suc k) m.entry.step)))))))

  idle_few : (w : World) (log : List Moment) → Tracked w → ReadTracked w → NoneAtZero w → IsLegal f size w log → AreHeard log
      → idle_in log ≤ anew_in log + (elections_in log + (empty_in log + (draws_in log + (tests_in log + (bare_in log + fetches_in log)))))
  idle_few w [] tracked reads none legal heard = let is : 0 ≤ 0 + (0 + (0 + (0 + (0 + (0 + 0))))) = omega arith in is
  idle_few w (m ∷ log) tracked reads none legal heard =
      both (idle_by m.entry.who m.entry.reply) (anew_by m.entry.who m.entry.step) (elections_by m.entry.step) (empty_by m.entry.who m.entry.step m.entry.reply)
      (draws_by m.entry.who m.entry.step) (tests_by m.entry.who m.entry.step) (bare_by m.entry.who m.entry.step) (fetches_by m.entry.who m.entry.step)
      (idle_in log) (anew_in log) (elections_in log) (empty_in log) (draws_in log) (tests_in log) (bare_in log) (fetches_in log) (counts_one w m reads none legal.0 (heard m (inl refl)))
      (idle_few (after f w m) log (steps.tracks w m tracked legal.0) (steps.reads w m tracked reads legal.0) (still_none w m tracked none) legal.1 (λ n h. heard n (inr h)))
    where
      both : (i a e t d x b g js al es ts ds xs bs gs : ℕ) → i ≤ a + (e + (t + (d + (x + (b + g))))) → js ≤ al + (es + (ts + (ds + (xs + (bs + gs)))))
          → i + js ≤ (a + al) + ((e + es) + ((t + ts) + ((d + ds) + ((x + xs) + ((b + bs) + (g + gs))))))
      both i a e t d x b g js al es ts ds xs bs gs p q =
          let one : i ≤ a + (e + (t + (d + (x + (b + g))))) = p in
          let rest : js ≤ al + (es + (ts + (ds + (xs + (bs + gs))))) = q in
          omega (arith, one, rest)

-- ---- who 0 begins anew

anew_one : (who : ℕ) (step : Step) → anew_by who step ≤ commands_by who step + (looks_by who step + ends_by who step)
anew_one zero (AskStep command) = let is : 1 ≤ 1 + (0 + 0) = omega arith in is
anew_one zero LookStep = let is : 1 ≤ 0 + (1 + 0) = omega arith in is
anew_one zero (ReadStep (CheckedAll snapshots blobs)) = let is : 1 ≤ 0 + (0 + 1) = omega arith in is
anew_one zero (ReadStep VerifiedAll) = let is : 1 ≤ 0 + (0 + 1) = omega arith in is
anew_one zero (ReadStep (ReadFails why)) = let is : 1 ≤ 0 + (0 + 1) = omega arith in is
anew_one who step = let is : 0 ≤ 0 + (0 + 0) = omega arith in is

pub anew_few : (log : List Moment) → anew_in log ≤ commands_in log + (looks_in log + ends_in log)
anew_few [] = let is : 0 ≤ 0 + (0 + 0) = omega arith in is
anew_few (m ∷ log) =
    both (anew_by m.entry.who m.entry.step) (commands_by m.entry.who m.entry.step) (looks_by m.entry.who m.entry.step)
    (ends_by m.entry.who m.entry.step) (anew_in log) (commands_in log) (looks_in log) (ends_in log) (anew_one m.entry.who m.entry.step) (anew_few log)
  where
    both : (a c l e al cs ls es : ℕ) → a ≤ c + (l + e) → al ≤ cs + (ls + es) → a + al ≤ (c + cs) + ((l + ls) + (e + es))
    both a c l e al cs ls es p q = let one : a ≤ c + (l + e) = p in let rest : al ≤ cs + (ls + es) = q in omega (arith, one, rest)

-- ---- all together

pub client_few : (f : Formats) (size : ℕ) (steps : StepLaws f size) (w : World) (log : List Moment) → IsHeard f size w log → ends_in log ≤ looks_in log + draws_in log → tests_in log ≤ most_tests * draws_in log
    → idle_in log ≤ most_of_client log
client_few f size steps w log h ends tests =
    sum (idle_in log) (anew_in log) (elections_in log) (empty_in log) (draws_in log) (tests_in log) (bare_in log) (fetches_in log) (commands_in log) (looks_in log) (ends_in log) (bares (entries_by w.entries 0))
    (idle_few f size steps w log h.tracked h.readers (λ t there. nothing w.tickets 0 t h.untouched.tickets there) h.legal h.heard) (anew_few log) ends tests (bared f size steps w log h.legal h.heard none)
  where
    none : bares (entries_by w.entries 0) ≤ 1
    none = subst (λ (es : List Entry). bares (entries_by es 0) ≤ 1) (sym h.untouched.entries) (let is : 0 ≤ 1 = omega arith in is)

    sum : (i a e t d x b g c l n v : ℕ) → i ≤ a + (e + (t + (d + (x + (b + g))))) → a ≤ c + (l + n) → n ≤ l + d → x ≤ 260 * d → b + v ≤ a + 1
        → i ≤ 1 + (2 * c + (4 * l + (263 * d + (e + (t + g)))))
    sum i a e t d x b g c l n v p q r s u =
        let one : i ≤ a + (e + (t + (d + (x + (b + g))))) = p in
        let two : a ≤ c + (l + n) = q in
        let three : n ≤ l + d = r in
        let four : x ≤ 260 * d = s in
        let five : b + v ≤ a + 1 = u in
        omega (arith, one, two, three, four, five)
