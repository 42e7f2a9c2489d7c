-- Steps of a check that were refused, and objects that failed.
use Rattle.std.proofs.Common.{◌≡◌, ◌⊎◌, inl, inr, ⊎_elim, ℕ, ◌≤◌, true, false, List, [], ◌∷◌, ◌++◌, append_assoc, Option, Some, None, Result, Ok, Err, refl, ap, ◌∙◌, arith}
use Rattle.std.specs.Result.{is_err}
use Rattle.esr_model.specs.Lists.{Has-right}
use Rattle.esr_depot.specs.Calls.{has_failed}
use Rattle.esr_depot.specs.declared.error.CallError.{CallError}
use Rattle.esr_depot.specs.declared.error.CallError.TheVariants.{Failed}
use Rattle.esr_model.specs.Names.{BlobName}
use Rattle.esr_core.specs.Entry.{ReadBlob, CheckedAll, ReadFails, Step, LookStep, ReadStep, Reply, WasAbsent, Refusal, DeposedAt, AbortedBy, DepotFault, Refused, Moment}
use Rattle.esr_core.specs.World.{World}
use Rattle.esr_core.specs.Allowed.{Blocks, ByFailedSwap, ByDelete}
use Rattle.esr_core.specs.Refusing.{MayRefuse, ReadFault}
use Rattle.esr_core.specs.Laws.Tests.{clash}
use Rattle.esr_desk.specs.declared.refusal.EntryRefusal.{EntryRefusal}
use Rattle.esr_desk.specs.declared.refusal.EntryRefusal.TheVariants as refusals
use Rattle.esr_desk.specs.declared.refusal.StepRefusal.{StepRefusal}
use Rattle.esr_desk.specs.declared.refusal.StepRefusal.TheVariants as steps
use Rattle.esr_desk.specs.Refusals.{refusal_of}
use Rattle.esr_desk.specs.Start.{Start, world_of}
use Rattle.esr_desk.specs.Outcome.{Stepped, Grounds, fetch_reply}
use Rattle.esr_desk.specs.Check.Shown.{AllFetches}
use Rattle.esr_unit.specs.Fetch.{IsRefusedBy}
use Rattle.esr_unit.specs.Refusals.{RefusesSo, last_refused}
use Rattle.esr_check.specs.Went.{IsAlive, IsSoFar}
use Rattle.esr_check.specs.Trouble.{HadAnswer, IsFetchRefusal}
use Rattle.esr_check.specs.Fetches.{fetched_all}
use Rattle.esr_check.proofs.Living.{front_is, moment_of, stepped_is}

-- ---- how a step may be refused

abbrev pub IsFault : Refusal → Type 0
IsFault DepotFault = Unit {0}
IsFault refusal = ⊥

-- a fetch since the container failed; a look, and the end of a check, isn't refused
abbrev pub HowRefused : Step → Refusal → Type 0
HowRefused (ReadStep (ReadBlob name)) refusal = IsFault refusal
HowRefused (ReadStep (CheckedAll snapshots blobs)) refusal = ⊥
HowRefused (ReadStep (ReadFails why)) refusal = ⊥
HowRefused LookStep refusal = ⊥
HowRefused step refusal = Unit {0}

how_refused : (step : Step) (refusal : Refusal) → MayRefuse step refusal → HowRefused step refusal
how_refused step refusal (ReadFault name) = tt
how_refused step refusal may = tt

-- since a record swap had failed
abbrev pub IsDeposal : Refusal → Type 0
IsDeposal refusal = (place : ℕ) × (refusal ≡ DeposedAt place)

-- as a delete aborted the op of who made it
abbrev pub IsAbort : Refusal → Type 0
IsAbort (AbortedBy op) = Unit {0}
IsAbort refusal = ⊥

block_so : (w : World) (who : ℕ) (step : Step) (refusal : Refusal) → Blocks w who step refusal → IsDeposal refusal ⊎ IsAbort refusal
block_so w who step refusal (ByFailedSwap place deposed) = inl (place, refl)
block_so w who step refusal (ByDelete op deposed aborted) = inr tt

live_block : (w : World) (who : ℕ) (step : Step) (refusal : Refusal) → w.deposed ≡ false → Blocks w who step refusal → IsAbort refusal
live_block w who step refusal alive (ByFailedSwap place deposed) = absurd (clash w.deposed deposed alive)
live_block w who step refusal alive (ByDelete op deposed aborted) = tt

-- by the law
pub refused_so : RefusesSo → (s : Start) (old new : List Moment) (step : Step) (refusal : Refusal) → Stepped s old new 0 step (Refused refusal) → IsDeposal refusal ⊎ (IsAbort refusal ⊎ HowRefused step refusal)
refused_so law s old new step refusal h = ⊎_elim
    (λ (blocks : Blocks (world_of s h.front) 0 step refusal). ⊎_elim (λ (dead : IsDeposal refusal). inl dead) (λ (abort : IsAbort refusal). inr (inl abort)) (block_so (world_of s h.front) 0 step refusal blocks))
    (λ (may : MayRefuse step refusal). inr (inr (how_refused step refusal may)))
    (last_refused law s old new 0 step refusal h)

-- in a world that isn't deposed
pub live_refusal : RefusesSo → (s : Start) (old new : List Moment) (step : Step) (refusal : Refusal) → s.alone ≡ true → IsAlive s old → Stepped s old new 0 step (Refused refusal) → IsAbort refusal ⊎ HowRefused step refusal
live_refusal law s old new step refusal alone alive h =
    let now : IsAlive s h.front = ap (λ (log : List Moment). (world_of s log).deposed) (front_is s old h.front 0 alone h.waited) ∙ alive in
    ⊎_elim
    (λ (blocks : Blocks (world_of s h.front) 0 step refusal). inl (live_block (world_of s h.front) 0 step refusal now blocks))
    (λ (may : MayRefuse step refusal). inr (how_refused step refusal may))
    (last_refused law s old new 0 step refusal h)

-- no delete aborts a step of who 0
pub never_aborted : (s : Start) (log : List Moment) (x : EntryRefusal) → IsAbort (refusal_of x) → Grounds s log 0 (steps.Refused x) → ⊥
never_aborted s log (refusals.Aborted op) is grounds = let ticket : 1 ≤ 0 = grounds.ticket in omega (arith, ticket)
never_aborted s log x is grounds = is

-- ---- a fetch

all_push : (moments : List Moment) (m : Moment) → AllFetches moments → m.entry.who ≡ 0 → (name : BlobName) × (m.entry.step ≡ ReadStep (ReadBlob name)) → AllFetches (moments ++ m ∷ [])
all_push [] m all of step = (of, step, tt)
all_push (x ∷ moments) m all of step = (all.0, all.1, all_push moments m all.2 of step)

-- one of the check that is open was answered so
pub had_answer : (s : Start) (old new : List Moment) (count : ℕ) (name : BlobName) (reply : Reply) → s.alone ≡ true → IsSoFar s old count → Stepped s old new 0 (ReadStep (ReadBlob name)) reply → HadAnswer new name reply
had_answer s old new count name reply alone so h =
    let m = moment_of s old new (ReadStep (ReadBlob name)) reply alone h in
    let was = so.looked in
    record {
      since = record {
        before = was.before;
        look = was.look;
        fetches = was.fetches ++ m ∷ [];
        is = stepped_is s old new (ReadStep (ReadBlob name)) reply alone h ∙ ap (λ (log : List Moment). log ++ m ∷ []) was.is ∙ append_assoc was.before (was.look ∷ was.fetches) (m ∷ []);
        looker = was.looker;
        looks = was.looks;
        all = all_push was.fetches m (fetched_all was.fetches so.names was.are) refl (name, refl);
      };
      had = record { image = h.image; there = Has-right was.fetches (m ∷ []) m (inl refl) };
    }

entry_refused : (s : Start) (new : List Moment) (name : BlobName) (x : EntryRefusal) → IsFault (refusal_of x) → HadAnswer new name (Refused (refusal_of x)) → Grounds s new 0 (steps.Refused x) → IsFetchRefusal s new (steps.Refused x)
entry_refused s new name refusals.DepotFault how had grounds = ((name, had), grounds)
entry_refused s new name x how had grounds = absurd how

pub fetch_refused : RefusesSo → (s : Start) (old new : List Moment) (count : ℕ) (name : BlobName) (e : StepRefusal) → s.alone ≡ true → IsSoFar s old count → IsRefusedBy s old new 0 (ReadStep (ReadBlob name)) e → IsFetchRefusal s new e
fetch_refused law s old new count name steps.Memory alone so h = tt
fetch_refused law s old new count name steps.TurnsSpent alone so h = h.1
fetch_refused law s old new count name (steps.Refused x) alone so h =
    let how : IsFault (refusal_of x) = ⊎_elim
    (λ (abort : IsAbort (refusal_of x)). absurd (never_aborted s new x abort h.1))
    (λ (how : HowRefused (ReadStep (ReadBlob name)) (refusal_of x)). how)
    (live_refusal law s old new (ReadStep (ReadBlob name)) (refusal_of x) alone so.alive h.0) in
    entry_refused s new name x how (had_answer s old new count name (Refused (refusal_of x)) alone so h.0) h.1

-- none is there
pub absent : {F : Type 0} (o : Option F) (s : Start) (old new : List Moment) (count : ℕ) (name : BlobName) → o ≡ None → s.alone ≡ true → IsSoFar s old count → Stepped s old new 0 (ReadStep (ReadBlob name)) (fetch_reply o)
    → HadAnswer new name WasAbsent
absent None s old new count name is alone so h = had_answer s old new count name WasAbsent alone so h
absent (Some f) s old new count name is alone so h = absurd cc

-- ---- an object that failed

pub did_fail : {T : Type 0} (result : Result T CallError) (e : CallError) → result ≡ Err e → e ≡ Failed → has_failed result ≡ true
did_fail {T} result e is failed = ap (λ (r : Result T CallError). has_failed r) is ∙ ap (λ (x : CallError). has_failed {T = T} (Err x)) failed

pub was_err : {T E : Type 0} (result : Result T E) (e : E) → result ≡ Err e → is_err result ≡ true
was_err (Ok x) e is = absurd cc
was_err (Err x) e is = refl
