-- The entries of who 0 that a desk made.
use Rattle.std.specs.Prelude.{◌≡◌, ℕ, zero, suc, ◌+◌, ◌-◌, ◌≤◌, List, [], ◌∷◌, ◌++◌, length, Option, Some, None, Result, Ok, Err}
use Rattle.std.proofs.Common.{refl, sym, ap, ◌∙◌, append-nil, append_assoc, length-append, arith}
use Rattle.esr_model.specs.Values.{Has}
use Rattle.esr_core.specs.Entry.{Entry, Step, TakeStep, Reply, Refusal, Refused, Given, Gave, Moment}
use Rattle.esr_desk.specs.declared.hand.Hand.{Hand}
use Rattle.esr_desk.specs.declared.hand.Hand.TheVariants as hands
use Rattle.esr_desk.specs.declared.refusal.StepRefusal.{StepRefusal}
use Rattle.esr_desk.specs.Refusals.{told_refusal}

-- an entry of who 0, and its place in the history, from 0 on
pub record Call : Type 0 where
  pub place : ℕ
  pub entry : Entry

-- one of these entries, if it is of who 0
abbrev pub call_of : ℕ → Entry → ℕ → List Call
call_of place e zero = record { place = place; entry = e } ∷ []
call_of place e (suc k) = []

abbrev pub call_at : ℕ → Entry → List Call
call_at place e = call_of place e e.who

-- a desk of one thread made all of them: those from this place on
abbrev pub calls_at : ℕ → List Moment → List Call
calls_at place [] = []
calls_at place (m ∷ more) = call_at place m.entry ++ calls_at (place + 1) more

-- one more, the last entry of the history
abbrev pub with_call : List Moment → Step → Reply → List Call → List Call
with_call log step reply calls = calls ++ record { place = length log - 1; entry = record { who = 0; step = step; reply = reply } } ∷ []

abbrev pub with_refusal : List Moment → Step → Option Refusal → List Call → List Call
with_refusal log step None calls = calls
with_refusal log step (Some refusal) calls = with_call log step (Refused refusal) calls

-- ---- a desk of one thread, as the history goes on

calls_more : (place : ℕ) (old : List Moment) (m : Moment) → calls_at place (old ++ m ∷ []) ≡ calls_at place old ++ call_at (place + length old) m.entry
calls_more place [] m = append-nil (call_at place m.entry) ∙ ap (λ (n : ℕ). call_at n m.entry) (same place)
  where
    same : (n : ℕ) → n ≡ n + 0
    same n = omega arith
calls_more place (x ∷ old) m =
    ap (λ (rest : List Call). call_at place x.entry ++ rest) (calls_more (place + 1) old m)
    ∙ sym (append_assoc (call_at place x.entry) (calls_at (place + 1) old) (call_at (place + 1 + length old) m.entry))
    ∙ ap (λ (n : ℕ). (call_at place x.entry ++ calls_at (place + 1) old) ++ call_at n m.entry) (same place (length old))
  where
    same : (n k : ℕ) → n + 1 + k ≡ n + suc k
    same n k = omega arith

-- a step of a ticket leaves them
pub calls_left : (old new : List Moment) (m : Moment) → new ≡ old ++ m ∷ [] → 1 ≤ m.entry.who → calls_at 0 new ≡ calls_at 0 old
calls_left old new m is some = ap (calls_at 0) is ∙ calls_more 0 old m ∙ ap (λ (rest : List Call). calls_at 0 old ++ rest) (none m.entry.who some) ∙ append-nil (calls_at 0 old)
  where
    none : (who : ℕ) → 1 ≤ who → call_of (0 + length old) m.entry who ≡ []
    none zero some = absurd (omega (arith, some))
    none (suc k) some = refl

-- one of who 0 is one more
pub calls_own : (old new : List Moment) (step : Step) (reply : Reply) (m : Moment) → new ≡ old ++ m ∷ [] → m.entry ≡ record { who = 0; step = step; reply = reply } → calls_at 0 new ≡ with_call new step reply (calls_at 0 old)
calls_own old new step reply m is entry =
    ap (calls_at 0) is ∙ calls_more 0 old m
    ∙ ap (λ (e : Entry). calls_at 0 old ++ call_at (0 + length old) e) entry
    ∙ ap (λ (n : ℕ). calls_at 0 old ++ record { place = n; entry = record { who = 0; step = step; reply = reply } } ∷ []) (place (length old) (length new) (ap length is ∙ length-append old (m ∷ [])))
  where
    place : (n k : ℕ) → k ≡ n + 1 → 0 + n ≡ k - 1
    place n k e = omega (arith, e)

-- a step of who 0 is one more, unless the history doesn't tell it
abbrev pub called : {X : Type 0} → List Moment → Step → (X → Reply) → Result X StepRefusal → List Call → List Call
called log step ok (Ok x) calls = with_call log step (ok x) calls
called log step ok (Err e) calls = with_refusal log step (told_refusal e) calls

-- a step of a ticket is none
abbrev pub called_by : {X : Type 0} → Hand → List Moment → Step → (X → Reply) → Result X StepRefusal → List Call → List Call
called_by hands.Unit log step ok result calls = calls
called_by hands.Delete log step ok result calls = calls
called_by hands.Restore log step ok result calls = calls
called_by hands.Check log step ok result calls = called log step ok result calls
called_by hands.Verify log step ok result calls = called log step ok result calls

-- the ticket was given to this desk: nobody else steps for it
pub record HasTaken (calls : List Call) (ticket : ℕ) : Type 0 where
  pub place : ℕ
  pub op : ℕ
  pub unit : Given
  pub some : 1 ≤ ticket
  pub taken : Has calls (record { place = place; entry = record { who = 0; step = TakeStep; reply = Gave ticket op unit } })

-- a ticket's step is made by the desk that took it, a check or a verification by who 0
abbrev pub IsMine : Hand → List Call → ℕ → Type 0
IsMine hands.Unit calls who = HasTaken calls who
IsMine hands.Delete calls who = HasTaken calls who
IsMine hands.Restore calls who = HasTaken calls who
IsMine hands.Check calls who = who ≡ 0
IsMine hands.Verify calls who = who ≡ 0
