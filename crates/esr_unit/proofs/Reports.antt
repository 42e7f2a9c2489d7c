-- Steps that were refused.
use Rattle.std.proofs.Common.{◌≡◌, ◌⊎◌, inl, inr, ℕ, ◌≤◌, List, Option, Some, None, sym, ap, ◌∙◌, subst, true≢false, arith}
use Rattle.esr_names.specs.declared.blob.BlobName.{BlobName as CodeName}
use Rattle.esr_formats.specs.Names.{name_of}
use Rattle.esr_model.specs.Names.{BlobName}
use Rattle.esr_core.specs.World.{World}
use Rattle.esr_core.specs.Allowed.{Blocks, ByDelete}
use Rattle.esr_core.specs.Refusing.{MayRefuse, RefusedSo}
use Rattle.esr_core.specs.Entry.{Why, Step, BeginStep, CommitStep, FailedStep, Refusal, Refused, AbortedBy, Moment}
use Rattle.esr_desk.specs.declared.hand.Hand.{Hand}
use Rattle.esr_desk.specs.declared.hand.Hand.TheVariants as hands
use Rattle.esr_desk.specs.declared.refusal.EntryRefusal.{EntryRefusal}
use Rattle.esr_desk.specs.declared.refusal.EntryRefusal.TheVariants as refusals
use Rattle.esr_desk.specs.declared.refusal.StepRefusal.{StepRefusal}
use Rattle.esr_desk.specs.declared.refusal.StepRefusal.TheVariants as steps
use Rattle.esr_desk.specs.Refusals.{refusal_of, told_refusal}
use Rattle.esr_desk.specs.Start.{Start, world_of}
use Rattle.esr_desk.specs.Own.{Own, own_of}
use Rattle.esr_desk.specs.Outcome.{Stepped, Refusing, Grounds, IsOfOp}
use Rattle.esr_desk.specs.Halts.{Halts}
use Rattle.esr_desk.specs.Hands.{fail_step, MayFail}
use Rattle.esr_unit.specs.Fetch.{IsRefusedBy}
use Rattle.esr_unit.specs.Put.{WasRefused}
use Rattle.esr_unit.specs.Refusals.{RefusesSo, IsBlock, block_is, last_refused}

-- ---- a blob that wasn't put

refused_at : (s : Start) (old new : List Moment) (who : ℕ) (step : Step) (refusal : Option Refusal) → Refusing s old new who step refusal → WasRefused s new who step refusal
refused_at s old new who step None h = tt
refused_at s old new who step (Some refusal) h = (old, h)

pub begin_refused : (s : Start) (old new : List Moment) (who : ℕ) (name : BlobName) (e : StepRefusal) → IsRefusedBy s old new who (BeginStep name) e
    → (WasRefused s new who (BeginStep name) (told_refusal e) ⊎ WasRefused s new who (CommitStep name) (told_refusal e)) × Grounds s new who e
begin_refused s old new who name e h = (inl (refused_at s old new who (BeginStep name) (told_refusal e) h.0), h.1)

pub commit_refused : (s : Start) (old new : List Moment) (who : ℕ) (name at : CodeName) → at ≡ name → (e : StepRefusal) → IsRefusedBy s old new who (CommitStep (name_of at)) e
    → (WasRefused s new who (BeginStep (name_of name)) (told_refusal e) ⊎ WasRefused s new who (CommitStep (name_of name)) (told_refusal e)) × Grounds s new who e
commit_refused s old new who name at same e h =
    (inr (subst (λ (n : CodeName). WasRefused s new who (CommitStep (name_of n)) (told_refusal e)) same (refused_at s old new who (CommitStep (name_of at)) (told_refusal e) h.0)), h.1)

-- ---- a report that was refused

none_failed : (hand : Hand) (why : Why) (refusal : Refusal) → MayRefuse (fail_step hand why) refusal → ⊥
none_failed hands.Unit why refusal may = elim may [ ]
none_failed hand why refusal may = elim may [ ]

so_blocked : (hand : Hand) (w : World) (who : ℕ) (why : Why) (refusal : Refusal) → RefusedSo w who (fail_step hand why) refusal → Blocks w who (fail_step hand why) refusal
so_blocked hand w who why refusal (inl blocks) = blocks
so_blocked hand w who why refusal (inr may) = absurd (none_failed hand why refusal may)

-- an aborted unit may fail
fails_anyway : (w : World) (who : ℕ) (why : Why) (op : ℕ) → Blocks w who (FailedStep why) (AbortedBy op) → ⊥
fails_anyway w who why op (ByDelete by deposed aborted) = aborted.no_failure tt

-- no other is aborted
unaborted : (hand : Hand) (s : Start) (old new : List Moment) (who : ℕ) (why : Why) (op : ℕ) (w : World) → MayFail hand s old who → own_of s new who ≡ own_of s old who → Blocks w who (fail_step hand why) (AbortedBy op)
    → IsOfOp s new who → ⊥
unaborted hands.Unit s old new who why op w may same blocks of = fails_anyway w who why op blocks
unaborted hands.Delete s old new who why op w may same blocks of = of.no_delete may.uuids may.plan (ap (λ (own : Own). own.ticket.work) same ∙ may.work)
unaborted hands.Restore s old new who why op w may same blocks of = true≢false (sym (ap (λ (own : Own). own.reader.out) same ∙ may) ∙ of.no_reader)
unaborted hands.Check s old new who why op w may same blocks of = nobody who may.0.client of.ticket
  where
    nobody : (k : ℕ) → k ≡ 0 → 1 ≤ k → ⊥
    nobody k is some = omega (arith, is, some)
unaborted hands.Verify s old new who why op w may same blocks of = nobody who may.0.client of.ticket
  where
    nobody : (k : ℕ) → k ≡ 0 → 1 ≤ k → ⊥
    nobody k is some = omega (arith, is, some)

module _ (hand : Hand) (s : Start) (old new : List Moment) (who : ℕ) (why : Why) (may : MayFail hand s old who) (same : own_of s new who ≡ own_of s old who) where
  entry_halts : (x : EntryRefusal) (w : World) → Blocks w who (fail_step hand why) (refusal_of x) → IsBlock (refusal_of x) → Stepped s old new who (fail_step hand why) (Refused (refusal_of x)) → Grounds s new who (steps.Refused x)
      → Halts s new who (steps.Refused x)
  entry_halts (refusals.Deposed entry) w blocks is h grounds = (fail_step hand why, record { front = h.front; image = h.image; is = h.is })
  entry_halts (refusals.Aborted op) w blocks is h grounds = absurd (unaborted hand s old new who why op w may same blocks grounds)
  entry_halts x w blocks is h grounds = absurd is

  -- it stops the unit: a record swap had failed, or memory was wanting, or turns were spent
  pub fail_halts : RefusesSo → (refusal : StepRefusal) → IsRefusedBy s old new who (fail_step hand why) refusal → Halts s new who refusal
  fail_halts law steps.Memory h = tt
  fail_halts law steps.TurnsSpent h = h.1
  fail_halts law (steps.Refused x) h =
      let w = world_of s h.0.front in
      let so = so_blocked hand w who why (refusal_of x) (last_refused law s old new who (fail_step hand why) (refusal_of x) h.0) in
      entry_halts x w so (block_is w who (fail_step hand why) (refusal_of x) so) h.0 h.1
