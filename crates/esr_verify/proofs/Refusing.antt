-- Steps of a verification that were refused, and objects that failed.
use Rattle.std.proofs.Common.{◌≡◌, ◌⊎◌, inl, inr, ⊎_elim, ℕ, ◌≤◌, true, false, List, [], ◌∷◌, ◌++◌, append_assoc, Result, Ok, Err, IfErr, OnErr, refl, sym, ap, ◌∙◌, subst, arith}
use Rattle.esr_model.specs.Names.{BlobName}
use Rattle.esr_core.specs.World.{World}
use Rattle.esr_core.specs.Allowed.{Blocks, ByFailedSwap, ByDelete}
use Rattle.esr_core.specs.Entry.{Read, ReadBlob, DrawTest, BeginTest, CommitTest, RemoveTests, ReadFails, Step, ReadStep, Reply, DrawnFrom, Refusal, DeposedAt, AbortedBy, IdsSpent, NameTaken, DepotFault, Refused, Moment}
use Rattle.esr_core.specs.Refusing.{MayRefuse, ReadFault, NoTestId, BeginTestFault, CommitTestFault, TestTaken, RemoveFault}
use Rattle.esr_core.specs.Laws.Tests.{clash}
use Rattle.esr_desk.specs.declared.hand.Hand.TheVariants as hands
use Rattle.esr_desk.specs.declared.refusal.EntryRefusal.{EntryRefusal}
use Rattle.esr_desk.specs.declared.refusal.EntryRefusal.TheVariants as refusals
use Rattle.esr_desk.specs.declared.refusal.StepRefusal.{StepRefusal}
use Rattle.esr_desk.specs.declared.refusal.StepRefusal.TheVariants as steps
use Rattle.esr_desk.specs.Refusals.{refusal_of, told_refusal}
use Rattle.esr_desk.specs.Start.{Start, world_of}
use Rattle.esr_desk.specs.Own.{caller_of}
use Rattle.esr_desk.specs.Outcome.{Stepped, Outcome, Grounds}
use Rattle.esr_desk.specs.Evidence.{Evidence}
use Rattle.esr_desk.specs.Verify.Shown.{HadAfterDraw}
use Rattle.esr_unit.specs.declared.trouble.Trouble.{Trouble}
use Rattle.esr_unit.specs.declared.trouble.Trouble.TheVariants as troubles
use Rattle.esr_unit.specs.Shown.{Shown}
use Rattle.esr_unit.specs.Fetch.{IsRefusedBy, FetchErr}
use Rattle.esr_unit.specs.Refusals.{RefusesSo, last_refused}
use Rattle.esr_verify.specs.Law.{DeposesSo}
use Rattle.esr_verify.specs.Began.{IsFurther, NoneVerified}
use Rattle.esr_verify.specs.Went.{IsAlive, GrewFurther, Drew, Kept}
use Rattle.esr_verify.proofs.Listing.{has_last}
use Rattle.esr_verify.proofs.Going.{front_is, stepped_is, outcome_further, refusing_unverified, drew_on, kept_on, drawn_same}

-- ---- a step that was refused

pub had_reply : (s : Start) (old new : List Moment) (id : ℕ) (step : Step) (reply : Reply) → s.alone ≡ true → Drew s old id → Stepped s old new 0 step reply → (caller_of s new).drawn ≡ (caller_of s old).drawn
    → HadAfterDraw new (caller_of s new) step reply
had_reply s old new id step reply alone d h same =
    let draw : Moment = record { entry = record { who = 0; step = ReadStep DrawTest; reply = DrawnFrom id }; image = d.image } in
    let last : Moment = record { entry = record { who = 0; step = step; reply = reply }; image = h.image } in
    record {
      id = id;
      is_open = same ∙ d.is_open;
      had = record {
        before = d.before;
        image = d.image;
        more = d.between ++ last ∷ [];
        is = stepped_is s old new step reply alone h ∙ ap (λ (log : List Moment). log ++ last ∷ []) d.is ∙ append_assoc d.before (draw ∷ d.between) (last ∷ []);
        had = record { image = h.image; there = has_last d.between last };
      };
    }

-- ---- how a step may be refused

-- since a record swap had failed
abbrev pub IsDeposal : Refusal → Type 0
IsDeposal refusal = (place : ℕ) × (refusal ≡ DeposedAt place)

-- as a delete aborted the op of who made it
abbrev pub IsAbort : Refusal → Type 0
IsAbort (AbortedBy op) = Unit {0}
IsAbort refusal = ⊥

-- since the container failed, or a name was taken
abbrev pub IsPlain : Refusal → Type 0
IsPlain DepotFault = Unit {0}
IsPlain (NameTaken name) = Unit {0}
IsPlain refusal = ⊥

-- a draw as no id is left; an end isn't refused
abbrev pub HowRefused : Read → Refusal → Type 0
HowRefused DrawTest refusal = (next : ℕ) × (refusal ≡ IdsSpent next)
HowRefused (ReadFails why) refusal = ⊥
HowRefused read refusal = IsPlain refusal

same_read : (a b : Read) → ReadStep a ≡ ReadStep b → a ≡ b
same_read a b e = cc

so_read : (a b : Read) (refusal : Refusal) → ReadStep a ≡ ReadStep b → HowRefused a refusal → HowRefused b refusal
so_read a b refusal e h = subst (λ (r : Read). HowRefused r refusal) (same_read a b e) h

how_refused : (read : Read) (step : Step) (refusal : Refusal) → MayRefuse step refusal → step ≡ ReadStep read → HowRefused read refusal
how_refused read step refusal (ReadFault name) is = so_read (ReadBlob name) read DepotFault is tt
how_refused read step refusal (NoTestId next) is = so_read DrawTest read (IdsSpent next) is (next, refl)
how_refused read step refusal (BeginTestFault name) is = so_read (BeginTest name) read DepotFault is tt
how_refused read step refusal (CommitTestFault name) is = so_read (CommitTest name) read DepotFault is tt
how_refused read step refusal (TestTaken name) is = so_read (CommitTest name) read (NameTaken name) is tt
how_refused read step refusal (RemoveFault names) is = so_read (RemoveTests names) read DepotFault is tt
how_refused read step refusal may is = absurd cc

block_so : (w : World) (who : ℕ) (step : Step) (refusal : Refusal) → Blocks w who step refusal → IsDeposal refusal ⊎ IsAbort refusal
block_so w who step refusal (ByFailedSwap place deposed) = inl (place, refl)
block_so w who step refusal (ByDelete op deposed aborted) = inr tt

live_block : (w : World) (who : ℕ) (step : Step) (refusal : Refusal) → w.deposed ≡ false → Blocks w who step refusal → IsAbort refusal
live_block w who step refusal alive (ByFailedSwap place deposed) = absurd (clash w.deposed deposed alive)
live_block w who step refusal alive (ByDelete op deposed aborted) = tt

-- by the law
refused_so : RefusesSo → (s : Start) (old new : List Moment) (read : Read) (refusal : Refusal) → Stepped s old new 0 (ReadStep read) (Refused refusal) → IsDeposal refusal ⊎ (IsAbort refusal ⊎ HowRefused read refusal)
refused_so law s old new read refusal h = ⊎_elim
    (λ (blocks : Blocks (world_of s h.front) 0 (ReadStep read) refusal).
    ⊎_elim (λ (dead : IsDeposal refusal). inl dead) (λ (abort : IsAbort refusal). inr (inl abort)) (block_so (world_of s h.front) 0 (ReadStep read) refusal blocks))
    (λ (may : MayRefuse (ReadStep read) refusal). inr (inr (how_refused read (ReadStep read) refusal may refl)))
    (last_refused law s old new 0 (ReadStep read) refusal h)

-- in a world that isn't deposed
pub live_refusal : RefusesSo → (s : Start) (old new : List Moment) (read : Read) (refusal : Refusal) → s.alone ≡ true → IsAlive s old → Stepped s old new 0 (ReadStep read) (Refused refusal) → IsAbort refusal ⊎ HowRefused read refusal
live_refusal law s old new read refusal alone alive h =
    let now : IsAlive s h.front = ap (λ (log : List Moment). (world_of s log).deposed) (front_is s old h.front 0 alone h.waited) ∙ alive in
    ⊎_elim
    (λ (blocks : Blocks (world_of s h.front) 0 (ReadStep read) refusal). inl (live_block (world_of s h.front) 0 (ReadStep read) refusal now blocks))
    (λ (may : MayRefuse (ReadStep read) refusal). inr (how_refused read (ReadStep read) refusal may refl))
    (last_refused law s old new 0 (ReadStep read) refusal h)

-- no delete aborts a step of who 0
pub never_aborted : (s : Start) (log : List Moment) (x : EntryRefusal) → IsAbort (refusal_of x) → Grounds s log 0 (steps.Refused x) → ⊥
never_aborted s log (refusals.Aborted op) is grounds = let ticket : 1 ≤ 0 = grounds.ticket in omega (arith, ticket)
never_aborted s log x is grounds = is

-- a draw is refused since a record swap had failed, or as no id is left
abbrev pub IsDrawRefusal : Refusal → Type 0
IsDrawRefusal (DeposedAt place) = Unit {0}
IsDrawRefusal (IdsSpent next) = Unit {0}
IsDrawRefusal refusal = ⊥

pub draw_refused : RefusesSo → (s : Start) (old new : List Moment) (x : EntryRefusal) → Stepped s old new 0 (ReadStep DrawTest) (Refused (refusal_of x)) → Grounds s new 0 (steps.Refused x) → IsDrawRefusal (refusal_of x)
draw_refused law s old new x h grounds = ⊎_elim
    (λ (dead : IsDeposal (refusal_of x)). subst (λ (r : Refusal). IsDrawRefusal r) (sym dead.1) tt)
    (λ (rest : IsAbort (refusal_of x) ⊎ ((next : ℕ) × (refusal_of x ≡ IdsSpent next))). ⊎_elim
    (λ (abort : IsAbort (refusal_of x)). absurd (never_aborted s new x abort grounds))
    (λ (spent : (next : ℕ) × (refusal_of x ≡ IdsSpent next)). subst (λ (r : Refusal). IsDrawRefusal r) (sym spent.1) tt)
    rest)
    (refused_so law s old new DrawTest (refusal_of x) h)

-- ---- what it shows, after the draw

module _ {S F H T : Type 0} (e : Evidence S F H T) (s : Start) where
  entry_shown : (new : List Moment) (step : Step) (x : EntryRefusal) → IsPlain (refusal_of x) → HadAfterDraw new (caller_of s new) step (Refused (refusal_of x)) → Grounds s new 0 (steps.Refused x)
      → Shown {S = S} {F = F} {H = H} {T = T} hands.Verify e ⊥ s new 0 (troubles.Step (steps.Refused x))
  entry_shown new step refusals.DepotFault how had grounds = record { client = refl; shown = ((step, had), grounds) }
  entry_shown new step (refusals.NameTaken name) how had grounds = record { client = refl; shown = (step, had) }
  entry_shown new step x how had grounds = absurd how

  pub step_refused : RefusesSo → (old new : List Moment) (id : ℕ) (read : Read) (refusal : StepRefusal) → ((r : Refusal) → HowRefused read r → IsPlain r) → s.alone ≡ true → Drew s old id
      → IsRefusedBy s old new 0 (ReadStep read) refusal
      → (caller_of s new).drawn ≡ (caller_of s old).drawn → Shown {S = S} {F = F} {H = H} {T = T} hands.Verify e ⊥ s new 0 (troubles.Step refusal)
  step_refused law old new id read steps.Memory plain alone d h same = tt
  step_refused law old new id read steps.TurnsSpent plain alone d h same = h.1
  step_refused law old new id read (steps.Refused x) plain alone d h same =
      let how : IsPlain (refusal_of x) = ⊎_elim
      (λ (abort : IsAbort (refusal_of x)). absurd (never_aborted s new x abort h.1))
      (λ (how : HowRefused read (refusal_of x)). plain (refusal_of x) how)
      (live_refusal law s old new read (refusal_of x) alone d.alive h.0) in
      entry_shown new (ReadStep read) x how (had_reply s old new id (ReadStep read) (Refused (refusal_of x)) alone d h.0 same) h.1

  -- by its answer
  pub if_refused : {X : Type 0} → RefusesSo → (old new : List Moment) (id : ℕ) (read : Read) (ok : X → Reply) (result : Result X StepRefusal) → ((r : Refusal) → HowRefused read r → IsPlain r) → s.alone ≡ true → Drew s old id
      → Outcome s old new 0 (ReadStep read) ok result → OnErr result (caller_of s new ≡ caller_of s old) → IfErr result (λ refusal. Shown {S = S} {F = F} {H = H} {T = T} hands.Verify e ⊥ s new 0 (troubles.Step refusal))
  if_refused law old new id read ok (Ok x) plain alone drew h kept = tt
  if_refused law old new id read ok (Err refusal) plain alone drew h kept = step_refused law old new id read refusal plain alone drew h (drawn_same (caller_of s old) (caller_of s new) kept)

  -- memory was wanting
  pub wanting : (log : List Moment) (refusal : StepRefusal) → refusal ≡ steps.Memory → Shown {S = S} {F = F} {H = H} {T = T} hands.Verify e ⊥ s log 0 (troubles.Step refusal)
  wanting log refusal is = subst (λ (r : StepRefusal). Shown {S = S} {F = F} {H = H} {T = T} hands.Verify e ⊥ s log 0 (troubles.Step r)) (sym is) tt

  -- a fetch was refused, or failed
  pub fetch_shown : RefusesSo → (old new : List Moment) (id : ℕ) (name : BlobName) (trouble : Trouble S F) → s.alone ≡ true → Drew s old id → FetchErr e.fetch_faults s old new 0 (ReadStep (ReadBlob name)) trouble
      → (caller_of s new).drawn ≡ (caller_of s old).drawn
      → Shown {S = S} {F = F} {H = H} {T = T} hands.Verify e ⊥ s new 0 trouble
  fetch_shown law old new id name (troubles.Step refusal) alone d h same = ⊎_elim
      (λ (by : IsRefusedBy s old new 0 (ReadStep (ReadBlob name)) refusal). step_refused law old new id (ReadBlob name) refusal (λ r how. how) alone d by same)
      (λ (is : refusal ≡ steps.Memory). wanting new refusal is)
      h
  fetch_shown law old new id name (troubles.Fetch fetch) alone d h same = record { client = refl; shown = h }
  fetch_shown law old new id name trouble alone d h same = absurd h

-- after steps before it
pub if_kept : {X : Type 0} → DeposesSo → (s : Start) (old mid new : List Moment) (id : ℕ) (read : Read) (ok : X → Reply) (result : Result X StepRefusal) → s.alone ≡ true → IsFurther read → GrewFurther s old mid
    → NoneVerified old mid → Drew s mid id
    → Outcome s mid new 0 (ReadStep read) ok result → OnErr result (caller_of s new ≡ caller_of s mid) → OnErr result (Kept s old new id)
if_kept law s old mid new id read ok (Ok x) alone further grew none drew h kept = tt
if_kept law s old mid new id read ok (Err e) alone further grew none drew h kept =
    let more = outcome_further s mid new read ok (Err e) alone further h in
    kept_on s old mid new id grew none
    (record { grew = more; drew = drew_on law s mid new id more drew (drawn_same (caller_of s mid) (caller_of s new) kept); unverified = refusing_unverified s mid new read (told_refusal e) alone h.0 })
