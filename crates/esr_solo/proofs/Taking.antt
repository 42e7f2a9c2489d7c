-- The ticket of a unit that was taken.
use Rattle.std.proofs.Common.{◌≡◌, ℕ, zero, suc, ◌-◌, ◌≤◌, List, [], ◌∷◌, ◌++◌, length, Option, Some, None, IfSome, Result, Ok, IfOk, refl, sym, ap, ◌∙◌, subst, inl, arith}
use Rattle.esr_model.specs.Lists.{Has-right}
use Rattle.esr_model.specs.Values.{Has}
use Rattle.esr_core.specs.Entry.{Entry, TakeStep, Given, Gave, Moment}
use Rattle.esr_core.specs.Past.{entries_by}
use Rattle.esr_ops.specs.Units.{given_of}
use Rattle.esr_desk.specs.declared.unit.Unit.{Unit as Taken}
use Rattle.esr_desk.specs.declared.refusal.StepRefusal.{StepRefusal}
use Rattle.esr_desk.specs.Start.{Start, formats_of, Legal}
use Rattle.esr_desk.specs.Own.{made_of}
use Rattle.esr_desk.specs.Made.{others_leave}
use Rattle.esr_desk.specs.Outcome.{take_reply}
use Rattle.esr_desk.specs.Once.{HasMadeNone}
use Rattle.esr_desk.specs.Numbered.{Numbered}
use Rattle.esr_desk.specs.Calls.{Call, calls_at, HasTaken, calls_own}
use Rattle.esr_repo.specs.Next.{Added, Did}
use Rattle.esr_solo.proofs.Listing.{IsNoRestoration}

-- a take restores no shard
pub took_none : (o : Option Taken) → IsNoRestoration TakeStep (take_reply o)
took_none None before who = refl
took_none (Some u) before who = refl

-- no step was made under its number
abbrev pub IsNewNumber : Type 0
IsNewNumber = (s : Start) (log : List Moment) (m : Moment) (ticket op : ℕ) (unit : Given) → Numbered 1 s.world → Legal s (log ++ m ∷ []) → m.entry.reply ≡ Gave ticket op unit → HasMadeNone (log ++ m ∷ []) ticket

module _ (s : Start) (own new : List Moment) (law : IsNewNumber) (numbered : Numbered 1 s.world) (u : Taken) (d : Added s own new 0 TakeStep (take_reply (Some u))) where
  abbrev taken : Moment
  taken = record { entry = record { who = 0; step = TakeStep; reply = take_reply (Some u) }; image = d.image }

  none_made : HasMadeNone new u.ready.ticket
  none_made = subst (λ (l : List Moment). HasMadeNone l u.ready.ticket) (sym d.is) (law s own taken u.ready.ticket u.ready.op (given_of u.ready) numbered (subst (Legal s) d.is d.legal) refl)

  -- the take itself is of who 0, so the number is another
  from_one : 1 ≤ u.ready.ticket
  from_one = go u.ready.ticket refl
    where
      last : Has new taken
      last = subst (λ (l : List Moment). Has l taken) (sym d.is) (Has-right own (taken ∷ []) taken (inl refl))

      positive : (k : ℕ) → 1 ≤ suc k
      positive k = omega arith

      go : (k : ℕ) → u.ready.ticket ≡ k → 1 ≤ k
      go zero is = absurd (none_made taken last (sym is) (λ place q. cc))
      go (suc k) is = positive k

  is_taken : HasTaken (calls_at 0 new) u.ready.ticket
  is_taken =
      let calls = calls_own own new TakeStep (take_reply (Some u)) taken d.is refl in
      let call : Call = record { place = length new - 1; entry = record { who = 0; step = TakeStep; reply = take_reply (Some u) } } in
      record { place = length new - 1; op = u.ready.op; unit = given_of u.ready; some = from_one; taken = subst (λ (l : List Call). Has l call) (sym calls) (Has-right (calls_at 0 own) (call ∷ []) call (inl refl)) }

pub taken_new : (s : Start) (own new : List Moment) (result : Result (Option Taken) StepRefusal) → IsNewNumber → Numbered 1 s.world → s.world.entries ≡ [] → Did s own new 0 TakeStep take_reply result
    → IfOk result (λ o. IfSome o (λ u. made_of s new u.ready.ticket ≡ []))
taken_new s own new (Ok (Some u)) law numbered none d =
    others_leave (formats_of s) s.world new u.ready.ticket (none_made s own new law numbered u d) ∙ ap (λ (made : List Entry). entries_by made u.ready.ticket) none
taken_new s own new result law numbered none d = tt

pub taken_mine : (s : Start) (own new : List Moment) (result : Result (Option Taken) StepRefusal) → IsNewNumber → Numbered 1 s.world → Did s own new 0 TakeStep take_reply result
    → IfOk result (λ o. IfSome o (λ u. HasTaken (calls_at 0 new) u.ready.ticket))
taken_mine s own new (Ok (Some u)) law numbered d = is_taken s own new law numbered u d
taken_mine s own new result law numbered d = tt
