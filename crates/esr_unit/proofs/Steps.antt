-- What a step leaves of others' and of its maker's.
use Rattle.std.proofs.Common.{◌≡◌, ◌⊎◌, inl, inr, ⊎_elim, ℕ, ◌≤◌, true, List, ◌++◌, append-nil, Option, Some, None, Result, Ok, Err, refl, sym, ap, ◌∙◌, subst}
use Rattle.esr_model.specs.Names.{BlobName}
use Rattle.esr_model.specs.Values.{Has}
use Rattle.esr_core.specs.Entry.{Step, Reply, Refusal, Refused, Entry, Moment}
use Rattle.esr_desk.specs.declared.hand.Hand.{Hand}
use Rattle.esr_desk.specs.declared.hand.Hand.TheVariants as hands
use Rattle.esr_desk.specs.declared.refusal.StepRefusal.{StepRefusal}
use Rattle.esr_desk.specs.Refusals.{told_refusal}
use Rattle.esr_desk.specs.Start.{Start}
use Rattle.esr_desk.specs.Own.{made_of}
use Rattle.esr_desk.specs.Calls.{Call, IsMine, called_by, HasTaken}
use Rattle.esr_desk.specs.Hands.{MayFetch}
use Rattle.esr_desk.specs.Outcome.{Waited, Stepped, Refusing, Outcome}
use Rattle.esr_desk.specs.Made.{waited_made, stepped_made, client_made}
use Rattle.esr_unit.specs.Fetch.{IsAsked, MadeOne, LeavesCalls}

-- ---- who makes it

-- a ticket, or who 0 where nobody else makes a step
abbrev pub IsMaker : Start → ℕ → Type 0
IsMaker s who = (1 ≤ who) ⊎ ((s.alone ≡ true) × (who ≡ 0))

pub fetch_maker : (hand : Hand) (s : Start) (log : List Moment) (calls : List Call) (who : ℕ) (name : BlobName) → IsMine hand calls who → MayFetch hand s log who name → IsMaker s who
fetch_maker hands.Check s log calls who name mine may = inr (may.0.alone, mine)
fetch_maker hands.Verify s log calls who name mine may = inr (may.0.alone, mine)
fetch_maker hand s log calls who name mine may = inl mine.some

-- it stays the maker's own
pub mine_on : {X : Type 0} (hand : Hand) (log : List Moment) (step : Step) (ok : X → Reply) (result : Result X StepRefusal) (old new : List Call) (who : ℕ) → new ≡ called_by hand log step ok result old → IsMine hand old who
    → IsMine hand new who
mine_on hands.Check log step ok result old new who is mine = mine
mine_on hands.Verify log step ok result old new who is mine = mine
mine_on hand log step ok result old new who is mine = subst (λ (calls : List Call). HasTaken calls who) (sym is) mine

-- a ticket's step leaves the calls
pub leaves_on : {X : Type 0} (hand : Hand) (log : List Moment) (step : Step) (ok : X → Reply) (result : Result X StepRefusal) (old new : List Call) → new ≡ called_by hand log step ok result old → LeavesCalls hand old new
leaves_on hands.Check log step ok result old new is = tt
leaves_on hands.Verify log step ok result old new is = tt
leaves_on hand log step ok result old new is = is

pub leaves_none : (hand : Hand) (calls : List Call) → LeavesCalls hand calls calls
leaves_none hands.Check calls = tt
leaves_none hands.Verify calls = tt
leaves_none hand calls = refl

-- ---- what it has made

waited_one : (s : Start) (old new : List Moment) (who : ℕ) (step : Step) → IsMaker s who → Waited s old new who → MadeOne s old new who step
waited_one s old new who step (inl ticket) h e has = inl (subst (λ (entries : List Entry). Has entries e) (waited_made s old new who ticket h) has)
waited_one s old new who step (inr client) h e has =
    let same : new ≡ old = h.grew ∙ ap (λ (others : List Moment). old ++ others) (h.nobody client.0) ∙ append-nil old in
    inl (subst (λ (log : List Moment). Has (made_of s log who) e) same has)

stepped_one : (s : Start) (old new : List Moment) (who : ℕ) (step : Step) (reply : Reply) → IsMaker s who → Stepped s old new who step reply → MadeOne s old new who step
stepped_one s old new who step reply (inl ticket) h e has = stepped_made s old new who step reply ticket h e has
stepped_one s old new who step reply (inr client) h e has =
    let at_zero : Stepped s old new 0 step reply = subst (λ (k : ℕ). Stepped s old new k step reply) client.1 h in
    let there : Has (made_of s new 0) e = subst (λ (k : ℕ). Has (made_of s new k) e) client.1 has in
    ⊎_elim
    (λ (before : Has (made_of s old 0) e). inl (subst (λ (k : ℕ). Has (made_of s old k) e) (sym client.1) before))
    (λ (here : e.step ≡ step). inr here)
    (client_made s old new step reply client.0 at_zero e there)

refusing_one : (s : Start) (old new : List Moment) (who : ℕ) (step : Step) (refusal : Option Refusal) → IsMaker s who → Refusing s old new who step refusal → MadeOne s old new who step
refusing_one s old new who step None maker h = waited_one s old new who step maker h
refusing_one s old new who step (Some refusal) maker h = stepped_one s old new who step (Refused refusal) maker h

-- this step, or none
pub outcome_one : {X : Type 0} (s : Start) (old new : List Moment) (who : ℕ) (step : Step) (ok : X → Reply) (result : Result X StepRefusal) → IsMaker s who → Outcome s old new who step ok result → MadeOne s old new who step
outcome_one s old new who step ok (Ok x) maker h = stepped_one s old new who step (ok x) maker h
outcome_one s old new who step ok (Err e) maker h = refusing_one s old new who step (told_refusal e) maker h.0

-- ---- that it was made

refusing_asked : (s : Start) (old new : List Moment) (who : ℕ) (step : Step) (refusal : Option Refusal) → Refusing s old new who step refusal → IsAsked s old new who step
refusing_asked s old new who step None h = inl h
refusing_asked s old new who step (Some refusal) h = inr (Refused refusal, h)

pub outcome_asked : {X : Type 0} (s : Start) (old new : List Moment) (who : ℕ) (step : Step) (ok : X → Reply) (result : Result X StepRefusal) → Outcome s old new who step ok result → IsAsked s old new who step
outcome_asked s old new who step ok (Ok x) h = inr (ok x, h)
outcome_asked s old new who step ok (Err e) h = refusing_asked s old new who step (told_refusal e) h.0
