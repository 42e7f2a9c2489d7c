-- A ticket that isn't of the present term was given before a master was elected; one that is was so in each world since it was given.
use Rattle.std.proofs.Common.{◌≡◌, ◌⊎◌, ℕ, ◌<◌, ◌≤◌, Bool, true, false, true≢false, List, [], ◌∷◌, ◌++◌, append-nil, append_assoc, Option, Some, refl, sym, ap, ◌∙◌, subst, inl, inr, arith, nat_cmp, le_refl}
use Rattle.std.specs.Prelude.{◌≢◌}
use Rattle.std.proofs.lemmas.Bool.Decides.{eqb_tells}
use Rattle.std.specs.FinMap.{FinMap}
use Rattle.std.specs.FinMap as fin
use Rattle.std.proofs.lemmas.Bool.{cases_Bool}
use Rattle.std.proofs.lemmas.Option.{same_Some}
use Rattle.esr_model.specs.Values.{Has, Formats}
use Rattle.esr_model.specs.Image.{Image}
use Rattle.esr_model.specs.Lists.{Has-left}
use Rattle.esr_core.specs.World.{World, Ticket, Opened, OpenedEmpty, OpenedRecord}
use Rattle.esr_core.specs.Entry.{Step, ElectStep, Moment}
use Rattle.esr_core.specs.After.{answered, after}
use Rattle.esr_core.specs.Allowed.{Allowed}
use Rattle.esr_core.specs.Changes.{StepChange, Election, SwapFault}
use Rattle.esr_core.specs.History.{world_from, IsLegal}
use Rattle.esr_core.specs.Laws.Asides.{blocked_stays}
use Rattle.esr_core.specs.Laws.ChangeLaws.{change_of}
use Rattle.esr_core.specs.Laws.StepFrames.{step_frame}
use Rattle.esr_desk.specs.Start.{Start, formats_of, world_of, Legal, or_no_ticket}
use Rattle.esr_quiet.specs.Smooth.{HasElection, IsStaleTicket}
use Rattle.esr_quiet.specs.OverKept.{IsLawful}
use Rattle.esr_core.specs.Laws.NumberMaps.{nothing}
use Rattle.esr_core.specs.Laws.Histories.{world_parts}
use Rattle.esr_quiet.specs.Askers.{AsksOrElects, asker}
use Rattle.esr_quiet.specs.PrefixLaws.{legal_front}

-- who 0 elected no master
abbrev AreUnelected : List Moment → Type 0
AreUnelected log = (m : Moment) → Has log m → m.entry.who ≡ 0 → m.entry.step ≢ ElectStep

-- each ticket is of this term
abbrev AreOf : ℕ → FinMap nat_cmp Ticket → Type 0
AreOf term tickets = (k : ℕ) (t : Ticket) → fin.get tickets k ≡ Some t → t.term ≡ term

-- of the present one
abbrev ArePresent : World → Type 0
ArePresent w = AreOf w.term w.tickets

-- ---- each step

present_step : (f : Formats) (size : ℕ) (w : World) (m : Moment) → Allowed f size w m → (m.entry.who ≡ 0 → m.entry.step ≢ ElectStep) → ArePresent w → ArePresent (after f w m)
present_step f size w m a no_election h k v there =
    let same : (after f w m).term ≡ w.term = elim (step_frame f w m).term [
      | inl e ↦ e
      | inr e ↦ elim (asker f size w m a (subst AsksOrElects (sym e) tt)) [
        | inl who ↦ absurd (no_election who e)
        | inr blocked ↦ ap (λ (x : World). x.term) (blocked_stays f w m blocked)
      ]
    ] in
    elim ((step_frame f w m).come k v there) [
      | inl was ↦ was.2.term ∙ h k was.0 was.1 ∙ sym same
      | inr new ↦ new.1.term ∙ sym same
    ]

-- ---- histories

present_from : (f : Formats) (size : ℕ) (log : List Moment) (w : World) → ArePresent w → IsLegal f size w log → AreUnelected log → ArePresent (world_from f w log)
present_from f size [] w h legal none = h
present_from f size (m ∷ log) w h legal none = present_from f size log (after f w m) (present_step f size w m legal.0 (none m (inl refl)) h) legal.1 (λ n has. none n (inr has))

-- each ticket is of the present term, in each world of the history
abbrev ArePresentIn : Start → List Moment → Type 0
ArePresentIn s log = (front back : List Moment) → log ≡ front ++ back → (k : ℕ) (t : Ticket) → fin.get (world_of s front).tickets k ≡ Some t → t.term ≡ (world_of s front).term

none_opened : (f : Formats) (image : Image) (w : World) → Opened f image w → ArePresent w
none_opened f image w (OpenedEmpty none) k t there = absurd (nothing fin.empty k t refl there)
none_opened f image w (OpenedRecord cluster text root is reads of_root) k t there = absurd (nothing fin.empty k t refl there)

unelected_present : (s : Start) (log : List Moment) (image : Image) → Opened (formats_of s) image s.world → Legal s log → AreUnelected log → ArePresentIn s log
unelected_present s log image opened legal unelected front back is =
    present_from (formats_of s) s.part_size front s.world (none_opened (formats_of s) image s.world opened)
    (legal_front (formats_of s) s.part_size front back s.world (subst (Legal s) is legal)) (λ m has. unelected m (subst (λ (l : List Moment). Has l m) (sym is) (Has-left front back m has)))

-- ---- a ticket that isn't of the present term

abbrev is_elect : Step → Bool
is_elect ElectStep = true
is_elect step = false

elect_step : (step : Step) → is_elect step ≡ true → step ≡ ElectStep
elect_step ElectStep e = refl
elect_step step e = absurd (true≢false (sym e))

elected_or_not : (log : List Moment) → HasElection log ⊎ AreUnelected log
elected_or_not [] = inr (λ n has who is. has)
elected_or_not (m ∷ log) = elim (elected_or_not log) [
  | inl e ↦ inl (e.0, inr e.1, e.2, e.3)
  | inr none ↦ elim (eqb_tells m.entry.who 0) [
    | inl nobody ↦ elim (cases_Bool (is_elect m.entry.step)) [
      | inl elects ↦ inl (m, inl refl, nobody.1, elect_step m.entry.step elects)
      | inr other ↦ inr (λ n has who is. elim has [ inl same ↦ true≢false (sym (ap is_elect (ap (λ (x : Moment). x.entry.step) same ∙ is)) ∙ other) | inr later ↦ none n later who is ])
    ]
    | inr some ↦ inr (λ n has who is. elim has [ inl same ↦ some.1 (ap (λ (x : Moment). x.entry.who) same ∙ who) | inr later ↦ none n later who is ])
  ]
]

-- it is stale
pub stale_or_present : (s : Start) (log : List Moment) (image : Image) → Opened (formats_of s) image s.world → Legal s log → (k : ℕ) (t : Ticket) → fin.get (world_of s log).tickets k ≡ Some t
    → (t.term ≡ (world_of s log).term) ⊎ IsStaleTicket s log k
stale_or_present s log image opened legal k t there = elim (eqb_tells t.term (world_of s log).term) [
  | inl same ↦ inl same.1
  | inr other ↦
      inr (record {
        elected = elim (elected_or_not log) [ inl elected ↦ elected | inr none ↦ absurd (other.1 (unelected_present s log image opened legal none log [] (sym (append-nil log)) k t there)) ];
        apart = λ e. other.1 (ap (λ (o : Option Ticket). (or_no_ticket o).term) (sym there) ∙ e);
      })
]

-- ---- a ticket of the present term

term_change : (f : Formats) (w : World) (who : ℕ) (step : Step) (up : World) → StepChange f w who step up → w.term ≤ up.term
term_change f w who step up (SwapFault is v h) = term_change f w who step v h
term_change f w who step up (Election is) = omega arith
term_change f w who step up h = omega arith

term_after : (f : Formats) (w : World) (m : Moment) → w.term ≤ (after f w m).term
term_after f w m = term_change f w m.entry.who m.entry.step (answered f w m.entry.who m.entry.step m.entry.reply m.image) (change_of f w m.entry.who m.entry.step m.entry.reply m.image)

up_twice : (a b c : ℕ) → a ≤ b → b ≤ c → a ≤ c
up_twice a b c p q = omega (arith, p, q)

-- terms rise
terms_rise : (f : Formats) (log : List Moment) (w : World) → w.term ≤ (world_from f w log).term
terms_rise f [] w = le_refl w.term
terms_rise f (m ∷ log) w = up_twice w.term (after f w m).term (world_from f (after f w m) log).term (term_after f w m) (terms_rise f log (after f w m))

below_apart : (a b : ℕ) → a < b → a ≢ b
below_apart a b below same = omega (arith, below, same)

between : (of kept now last : ℕ) → kept ≡ of → kept ≡ last → of ≤ now → now ≤ last → of ≡ now
between of kept now last a b below rises = omega (arith, a, b, below, rises)

module _ (s : Start) (log : List Moment) (lawful : IsLawful s log) where
  -- a ticket keeps its term
  term_stays : (done rest : List Moment) → log ≡ done ++ rest → (k : ℕ) (t : Ticket) → fin.get (world_of s done).tickets k ≡ Some t → (v : Ticket) × (fin.get (world_of s log).tickets k ≡ Some v) × (v.term ≡ t.term)
  term_stays done [] is k t there = (t, ap (λ (l : List Moment). fin.get (world_of s l).tickets k) (is ∙ append-nil done) ∙ there, refl)
  term_stays done (m ∷ rest) is k t there =
      let f : Formats = formats_of s in
      let w : World = world_of s done in
      let law = lawful.lawful done (m ∷ rest) is in
      let (u, now, unit) = (step_frame f w m).stay k t (below_apart k w.next_ticket (law.1.lawful.sound.fresh k t there)) there in
      let (v, end, same) = term_stays (done ++ m ∷ []) rest (is ∙ sym (append_assoc done (m ∷ []) rest)) k u (ap (λ (x : World). fin.get x.tickets k) (world_parts f done (m ∷ []) s.world) ∙ now) in
      (v, end, same ∙ unit.term)

  -- one that is of the present term at the end was so in each world that has it
  pub of_term_before : (front back : List Moment) → log ≡ front ++ back → (k : ℕ) (t v : Ticket) → fin.get (world_of s front).tickets k ≡ Some t → fin.get (world_of s log).tickets k ≡ Some v → v.term ≡ (world_of s log).term
      → t.term ≡ (world_of s front).term
  of_term_before front back is k t v there end present =
      let law = lawful.lawful front back is in
      let (u, at, same) = term_stays front back is k t there in
      let kept : v.term ≡ t.term = ap (λ (x : Ticket). x.term) (same_Some v u (sym end ∙ at)) ∙ same in
      let rises : (world_of s front).term ≤ (world_of s log).term =
      subst (λ (x : World). (world_of s front).term ≤ x.term) (sym (ap (world_of s) is ∙ world_parts (formats_of s) front back s.world)) (terms_rise (formats_of s) back (world_of s front)) in
      between t.term v.term (world_of s front).term (world_of s log).term kept present (law.1.lawful.sound.rooted.tickets k t there).term rises
