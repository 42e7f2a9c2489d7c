-- A ticket stays while another unit is taken and worked.
use Rattle.std.proofs.Common.{◌≡◌, ◌≢◌, ◌⊎◌, ◌≤◌, inl, inr, ⊎_elim, ℕ, true, List, [], ◌∷◌, ◌++◌, append-nil, refl, sym, ap, ◌∙◌, subst, arith}
use Rattle.esr_model.specs.Lists.{Has-left}
use Rattle.esr_model.specs.Values.{Has}
use Rattle.esr_core.specs.World.{World, Ticket}
use Rattle.esr_core.specs.Entry.{Step, TakeStep, ElectStep, Given, Reply, Gave, ElectedTerm, Moment}
use Rattle.esr_core.specs.Past.{entries_by}
use Rattle.esr_core.specs.Laws.Histories.{world_parts}
use Rattle.esr_desk.specs.declared.unit.Unit.{Unit as Taken}
use Rattle.esr_desk.specs.Start.{Start, Legal, formats_of, world_of, ticket_of}
use Rattle.esr_desk.specs.Own.{made_of}
use Rattle.esr_desk.specs.Made.{others_leave}
use Rattle.esr_desk.specs.Calls.{Call, with_call, HasTaken}
use Rattle.esr_desk.specs.Outcome.{Stepped}
use Rattle.esr_desk.specs.Grew.{AllOf, GrewBy}
use Rattle.esr_desk.specs.Once.{HasMadeNone}
use Rattle.esr_desk.specs.Taken.{Took, TookWork}

elected_none : (term ticket op : ℕ) (unit : Given) → ElectedTerm term ≢ Gave ticket op unit
elected_none term ticket op unit e = cc

-- what is said of a unit is said of its ticket
pub took_stays : (s : Start) (old new : List Moment) (u : Taken) → ticket_of s new u.ready.ticket ≡ ticket_of s old u.ready.ticket → Took s old u → Took s new u
took_stays s old new u same took = subst (λ (t : Ticket). TookWork u.ready.work u.new_root u.ready.op u.ready.copy t) (sym same) took

module _ (s : Start) (alone : s.alone ≡ true)
    (steps : (s : Start) (log more : List Moment) (who k : ℕ) → Legal s (log ++ more) → AllOf who more → who ≢ 0 → k ≢ who → ticket_of s (log ++ more) k ≡ ticket_of s log k)
    (gives : (s : Start) (log : List Moment) (m : Moment) (ticket op : ℕ) (unit : Given) (k : ℕ) → Legal s (log ++ m ∷ [])
    → m.entry.step ≡ TakeStep → m.entry.reply ≡ Gave ticket op unit → k ≢ ticket → ticket_of s (log ++ m ∷ []) k ≡ ticket_of s log k) where
  by_take : (old took : List Moment) (ticket op : ℕ) (unit : Given) (k : ℕ) → Stepped s old took 0 TakeStep (Gave ticket op unit) → k ≢ ticket → ticket_of s took k ≡ ticket_of s old k
  by_take old took ticket op unit k h other =
      let m : Moment = record { entry = record { who = 0; step = TakeStep; reply = Gave ticket op unit }; image = h.image } in
      let front : h.front ≡ old = h.waited.grew ∙ ap (λ (l : List Moment). old ++ l) (h.waited.nobody alone) ∙ append-nil old in
      let is : took ≡ old ++ m ∷ [] = h.is ∙ ap (λ (l : List Moment). l ++ m ∷ []) front in
      subst (λ (l : List Moment). ticket_of s l k ≡ ticket_of s old k) (sym is) (gives s old m ticket op unit k (subst (Legal s) is h.legal) refl refl other)

  by_unit : (took new : List Moment) (ticket k : ℕ) → Legal s took → GrewBy s ticket took new → ticket ≢ 0 → k ≢ ticket → ticket_of s new k ≡ ticket_of s took k
  by_unit took new ticket k legal g some other =
      subst (λ (l : List Moment). ticket_of s l k ≡ ticket_of s took k) (sym g.is) (steps s took g.more ticket k (subst (Legal s) g.is (g.legal legal)) (g.own alone) some other)

  -- the ticket of a unit that was taken before
  pub stays_beside : (old took new : List Moment) (ticket op : ℕ) (unit : Given) (held : Taken) → Stepped s old took 0 TakeStep (Gave ticket op unit) → GrewBy s ticket took new → ticket ≢ 0 → ticket ≢ held.ready.ticket
      → Took s old held → Took s new held
  stays_beside old took new ticket op unit held h g some other was =
      let k = held.ready.ticket in
      let apart : k ≢ ticket = λ e. other (sym e) in
      took_stays s old new held (by_unit took new ticket k h.legal g some apart ∙ by_take old took ticket op unit k h apart) was

-- ... while a term begins
pub stays_elected : (s : Start) → s.alone ≡ true
    → ((s : Start) (log : List Moment) (m : Moment) (k : ℕ) → Legal s (log ++ m ∷ []) → m.entry.who ≡ 0
    → ((ticket op : ℕ) (unit : Given) → m.entry.reply ≢ Gave ticket op unit) → k ≢ 0 → ticket_of s (log ++ m ∷ []) k ≡ ticket_of s log k)
    → (old new : List Moment) (term : ℕ) (held : Taken) → Stepped s old new 0 ElectStep (ElectedTerm term) → held.ready.ticket ≢ 0 → Took s old held → Took s new held
stays_elected s alone nothing old new term held h some was =
    let m : Moment = record { entry = record { who = 0; step = ElectStep; reply = ElectedTerm term }; image = h.image } in
    let front : h.front ≡ old = h.waited.grew ∙ ap (λ (l : List Moment). old ++ l) (h.waited.nobody alone) ∙ append-nil old in
    let is : new ≡ old ++ m ∷ [] = h.is ∙ ap (λ (l : List Moment). l ++ m ∷ []) front in
    took_stays s old new held (subst (λ (l : List Moment). ticket_of s l held.ready.ticket ≡ ticket_of s old held.ready.ticket) (sym is) (nothing s old m held.ready.ticket (subst (Legal s) is h.legal) refl (elected_none term) some)) was

-- ---- what it has made, and that it was given

all_has : (who : ℕ) (ms : List Moment) (m : Moment) → AllOf who ms → Has ms m → m.entry.who ≡ who
all_has who [] m all none = absurd none
all_has who (x ∷ ms) m all (inl same) = ap (λ (y : Moment). y.entry.who) (sym same) ∙ all.0
all_has who (x ∷ ms) m all (inr later) = all_has who ms m all.1 later

-- steps of others leave what it has made
made_left : (s : Start) (old more new : List Moment) (k : ℕ) → new ≡ old ++ more → HasMadeNone more k → made_of s new k ≡ made_of s old k
made_left s old more new k is none =
    ap (λ (log : List Moment). made_of s log k) is ∙ ap (λ (w : World). entries_by w.entries k) (world_parts (formats_of s) old more s.world) ∙ others_leave (formats_of s) (world_of s old) more k none

one_step : (s : Start) → s.alone ≡ true → (old new : List Moment) (step : Step) (reply : Reply) (k : ℕ) → Stepped s old new 0 step reply → k ≢ 0 → made_of s new k ≡ made_of s old k
one_step s alone old new step reply k h some =
    let last : Moment = record { entry = record { who = 0; step = step; reply = reply }; image = h.image } in
    let front : h.front ≡ old = h.waited.grew ∙ ap (λ (l : List Moment). old ++ l) (h.waited.nobody alone) ∙ append-nil old in
    made_left s old (last ∷ []) new k (h.is ∙ ap (λ (l : List Moment). l ++ last ∷ []) front)
    (λ m has by made. ⊎_elim (λ (same : last ≡ m). some (sym by ∙ ap (λ (x : Moment). x.entry.who) (sym same))) (λ never. never) has)

-- it has made none while a term begins
pub none_elected : (s : Start) → s.alone ≡ true → (old new : List Moment) (term k : ℕ) → Stepped s old new 0 ElectStep (ElectedTerm term) → k ≢ 0 → made_of s old k ≡ [] → made_of s new k ≡ []
none_elected s alone old new term k h some none = one_step s alone old new ElectStep (ElectedTerm term) k h some ∙ none

-- ... while another unit is taken and worked
pub none_beside : (s : Start) → s.alone ≡ true → (old took new : List Moment) (ticket op : ℕ) (unit : Given) (k : ℕ) → Stepped s old took 0 TakeStep (Gave ticket op unit) → GrewBy s ticket took new → k ≢ 0 → ticket ≢ k
    → made_of s old k ≡ [] → made_of s new k ≡ []
none_beside s alone old took new ticket op unit k h g some other none =
    made_left s took g.more new k g.is (λ m has by made. other (sym (all_has ticket g.more m (g.own alone) has) ∙ by))
    ∙ one_step s alone old took TakeStep (Gave ticket op unit) k h some
    ∙ none

-- a ticket that was given to the desk was so when another one was given
pub taken_more : (log : List Moment) (step : Step) (reply : Reply) (calls now : List Call) (ticket : ℕ) → now ≡ with_call log step reply calls → HasTaken calls ticket → HasTaken now ticket
taken_more log step reply calls now ticket is h = subst (λ (c : List Call). HasTaken c ticket) (sym is) (record {
  place = h.place;
  op = h.op;
  unit = h.unit;
  some = h.some;
  taken = Has-left calls _ _ h.taken;
})

pub is_some : (n : ℕ) → 1 ≤ n → n ≢ 0
is_some n le e = let has : 1 ≤ n = le in let none : n ≡ 0 = e in omega (arith, has, none)
