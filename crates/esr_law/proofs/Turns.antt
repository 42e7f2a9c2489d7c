-- A step beside the ticket of a cleanup: it is blocked, another's or the ticket's own.
use Rattle.std.proofs.Common.{◌≡◌, ◌≢◌, ◌⊎◌, ℕ, suc, ◌<◌, ◌≤◌, [], false, Some, None, refl, sym, ap, ◌∙◌, inl, inr, arith}
use Rattle.std.proofs.lemmas.Bool.Decides.{eqb_tells}
use Rattle.std.specs.FinMap as fin
use Rattle.esr_core.specs.Laws.NumberMaps.{same_in}
use Rattle.esr_model.specs.Values.{Formats}
use Rattle.esr_core.specs.World.{World, Ticket}
use Rattle.esr_core.specs.Turns.{cleaning_ticket}
use Rattle.esr_core.specs.Tracked.{Tracked}
use Rattle.esr_core.specs.ReadTracked.{ReadTracked}
use Rattle.esr_core.specs.Changes.{IsUnits, SameUnit, StepFrame, Maker, ClientStep, ReaderStep, UnitStep}
use Rattle.esr_core.specs.Causes.{TakeGave}
use Rattle.esr_core.specs.Entry.{Given, GivenCleanup, Step, TakeStep, Reply, Gave, Moment}
use Rattle.esr_core.specs.After.{answered, after}
use Rattle.esr_core.specs.Allowed.{IsBlocked, Allows, Allowed}
use Rattle.esr_core.specs.Laws.Asides.{block_leaves}
use Rattle.esr_law.specs.Cleanups.{IsGivenCleanup}
use Rattle.esr_law.proofs.OwnSteps.{IsCleaning, Own, own_step}

-- the core's laws of steps, over any container
pub record StepLaws (f : Formats) (size : ℕ) : Type 0 where
  pub tracks : (w : World) (m : Moment) → Tracked w → Allowed f size w m → Tracked (after f w m)
  pub reads : (w : World) (m : Moment) → Tracked w → ReadTracked w → Allowed f size w m → ReadTracked (after f w m)
  pub frame : (w : World) (m : Moment) → StepFrame w (after f w m) m.entry.who m.entry.step
  pub maker : (w : World) (m : Moment) → Allowed f size w m → Maker w m.entry.who m.entry.step ⊎ IsBlocked w m
  pub gave : (w : World) (m : Moment) (k o : ℕ) (unit : Given) → Allowed f size w m → m.entry.reply ≡ Gave k o unit → TakeGave f w m.entry.who m.entry.step k o unit

pub blocked_leaves : (f : Formats) (w : World) (m : Moment) → IsBlocked w m → answered f w m.entry.who m.entry.step m.entry.reply m.image ≡ w
blocked_leaves f w m b = ap (λ (r : Reply). answered f w m.entry.who m.entry.step r m.image) b.refused ∙ block_leaves f w m.entry.who m.entry.step b.refusal m.image b.blocks

-- the ticket later on is a cleanup's too
pub cleaning_on : (t v : Ticket) → SameUnit t v → IsCleaning t → IsCleaning v
cleaning_on t v same c = elim same.work [
  | inl is ↦ record { clean = same.clean ∙ c.clean; uuids = c.uuids; plan = c.plan; work = is ∙ c.work }
  | inr h ↦ record { clean = same.clean ∙ c.clean; uuids = h.0; plan = Some h.2; work = h.4 }
]

pub data Turned (f : Formats) (size : ℕ) (w : World) (m : Moment) (k : ℕ) (t : Ticket) : Type 0 where
  OnBlock : IsBlocked w m → fin.get (after f w m).tickets k ≡ Some t → Turned f size w m k t
  OnOther : k ≢ m.entry.who → Maker w m.entry.who m.entry.step → Allows f size w m.entry.who m.entry.step m.entry.reply m.image → fin.get (after f w m).tickets k ≡ Some t → Turned f size w m k t
  OnOwn : m.entry.who ≡ k → w.deposed ≡ false → IsUnits m.entry.step → Allows f size w m.entry.who m.entry.step m.entry.reply m.image
      → Own f w m.entry.who t m.entry.step m.entry.reply m.image (answered f w m.entry.who m.entry.step m.entry.reply m.image) → Turned f size w m k t

module _ (f : Formats) (size : ℕ) (laws : StepLaws f size) where
  pub fresh : (w : World) → Tracked w → (k : ℕ) (t : Ticket) → fin.get w.tickets k ≡ Some t → k ≢ w.next_ticket
  fresh w tracked k t there same = let b : k < w.next_ticket = (tracked.tickets k t there).0 in omega (arith, b, same)

  pub turned : (w : World) (m : Moment) → Tracked w → ReadTracked w → Allowed f size w m → (k : ℕ) (t : Ticket) → fin.get w.tickets k ≡ Some t → IsCleaning t → k ≢ 0 → Turned f size w m k t
  turned w m tracked reads a k t there c first = elim a.answered [
    | inl alive ↦ elim (laws.maker w m a) [ inl made ↦ by alive.0 alive.1 made | inr blocked ↦ block blocked ]
    | inr blocked ↦ block blocked
  ]
    where
      block : IsBlocked w m → Turned f size w m k t
      block b = OnBlock b (ap (λ (x : World). fin.get x.tickets k) (blocked_leaves f w m b) ∙ there)

      apart : k ≢ m.entry.who → fin.get (after f w m).tickets k ≡ Some t
      apart other = (laws.frame w m).others k other (fresh w tracked k t there) ∙ there

      by : w.deposed ≡ false → Allows f size w m.entry.who m.entry.step m.entry.reply m.image → Maker w m.entry.who m.entry.step → Turned f size w m k t
      by alive allows (ClientStep who own) = let other : k ≢ m.entry.who = λ e. first (e ∙ who) in OnOther other (ClientStep who own) allows (apart other)
      by alive allows (ReaderStep q reading own) =
          let other : k ≢ m.entry.who = λ e. reads.apart.tickets m.entry.who q t reading.there (ap (fin.get w.tickets) (sym e) ∙ there) in OnOther other (ReaderStep q reading own) allows (apart other)
      by alive allows (UnitStep u out unit) = elim (eqb_tells m.entry.who k) [
        | inl mine ↦ OnOwn mine.1 alive unit allows (own_step f size w m.entry.who t (ap (fin.get w.tickets) mine.1 ∙ there) c m.entry.step m.entry.reply m.image unit allows)
        | inr other ↦ let aside : k ≢ m.entry.who = λ e. other.1 (sym e) in OnOther aside (UnitStep u out unit) allows (apart aside)
      ]

-- a ticket that was given just now for a cleanup
pub record IsHandedOut (f : Formats) (w : World) (m : Moment) (k : ℕ) : Type 0 where
  pub op : ℕ
  pub step : m.entry.step ≡ TakeStep
  pub next : k ≡ w.next_ticket
  pub at : fin.get (after f w m).tickets k ≡ Some (cleaning_ticket w op)
  pub safe : (after f w m).safe ≡ w.safe
  pub first : k ≢ 0

pub handed_out : (f : Formats) (size : ℕ) (laws : StepLaws f size) (w : World) (m : Moment) (k : ℕ) → Tracked w → Allowed f size w m → IsGivenCleanup m k → IsHandedOut f w m k
handed_out f size laws w m k tracked a given =
    record {
      op = given.op;
      step = gave.step_is;
      next = gave.number;
      at = ap (λ (x : World). fin.get x.tickets k) made ∙ ap (fin.get (fin.insert w.tickets w.next_ticket (cleaning_ticket w given.op))) gave.number ∙ same_in w.tickets w.next_ticket (cleaning_ticket w given.op);
      safe = ap (λ (x : World). x.safe) made;
      first = λ zero. let one : 1 ≤ w.next_ticket = tracked.first_ticket in let is : k ≡ w.next_ticket = gave.number in omega (arith, one, is, zero);
    }
  where
    gave : TakeGave f w m.entry.who m.entry.step k given.op GivenCleanup
    gave = laws.gave w m k given.op GivenCleanup a given.reply

    made : answered f w m.entry.who m.entry.step m.entry.reply m.image ≡ record w { tickets = fin.insert w.tickets w.next_ticket (cleaning_ticket w given.op); next_ticket = suc w.next_ticket }
    made = ap (λ (s : Step). answered f w m.entry.who s m.entry.reply m.image) gave.step_is ∙ ap (λ (r : Reply). answered f w m.entry.who TakeStep r m.image) given.reply

pub cleaning_given : (w : World) (o : ℕ) → IsCleaning (cleaning_ticket w o)
cleaning_given w o = record { clean = refl; uuids = []; plan = None; work = refl }
