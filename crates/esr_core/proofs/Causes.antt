-- Each refusal has its cause, and what was given or settled was so by its step.
use Rattle.std.proofs.Common.{◌≡◌, ◌⊎◌, ℕ, suc, ◌+◌, ◌≤◌, List, Option, refl, sym, subst, inl, inr, arith, ◌∙◌, le_refl}
use Rattle.esr_core.proofs.Refusing.{same_refusal}
use Rattle.esr_model.specs.Values.{Formats, IndexRef}
use Rattle.esr_model.specs.Kept.{first_id}
use Rattle.esr_model.specs.Delete.{kept_count}
use Rattle.esr_model.specs.Image.{Image}
use Rattle.esr_core.specs.World.{World}
use Rattle.esr_core.specs.Entry.{Asked, Read, ReadStep, Prune, PruneStep, Step, AskStep, Refusal, AcceptedRestore, WasSettled, Refused, Moment}
use Rattle.esr_core.specs.After.{new_names}
use Rattle.esr_core.specs.Allowed as allowed
use Rattle.esr_core.specs.Allowed.{ReadAllows, VerifyAllows, PruneAllows, Allows, Blocks, Allowed, RefusedBy}
use Rattle.esr_core.specs.Causes.{RefusalCause, OfRule, OfCleanup, OfName, OfTestName, OfTerm, OfIds, OfGenerations, OfTerms, OfCall, SettleDid, RestoreBegan}
use Rattle.esr_core.proofs.AskedNumbers.{snapshot_few}

module _ (f : Formats) (size : ℕ) (w : World) where
  one_id : first_id (suc w.term) ≤ suc w.next_id → first_id (suc w.term) ≤ w.next_id + 1
  one_id h = omega (arith, h)

  rule : (command : Asked) (refusal : Refusal) (image : Option Image) → RefusedBy w command refusal → RefusalCause f size w 0 (AskStep command) image refusal
  rule command refusal image (allowed.Cleaning c d x recorded untaken there clean) = OfCleanup c d x refl there clean
  rule command refusal image (allowed.AskSpent name indices moment clear unused room spent) = OfIds (suc (new_names w indices)) (snapshot_few w indices) spent
  rule command refusal image (allowed.CloneSpent source name names moment uuid may room spent) = OfIds 1 (le_refl 1) (one_id spent)
  rule command refusal image other = OfRule _ command refl tt

  read_cause : (k : ℕ) (read : Read) (refusal : Refusal) (image : Option Image) → ReadAllows f w k read (Refused refusal) image → RefusalCause f size w k (ReadStep read) image refusal
  read_cause k read refusal image (allowed.ReadFault j name im stored by) = OfCall

  verify : (read : Read) (refusal : Refusal) (image : Option Image) → VerifyAllows f w read (Refused refusal) image → RefusalCause f size w 0 (ReadStep read) image refusal
  verify read refusal image (allowed.TestSpent im may spent same) = OfIds 1 (le_refl 1) (one_id spent)
  verify read refusal image (allowed.TestTaken name im own there) = OfTestName name own refl there
  verify read refusal image other = OfCall

  prune : (k : ℕ) (step : Prune) (refusal : Refusal) (image : Option Image) → PruneAllows f w k step (Refused refusal) image → RefusalCause f size w k (PruneStep step) image refusal
  prune who step refusal image (allowed.PlanSpent k shards im p spent same) = OfIds (kept_count shards) (le_refl (kept_count shards)) spent
  prune who step refusal image (allowed.SettleDeleteStale k im s apart same) = OfTerm s.t s.may.out apart
  prune who step refusal image other = OfCall

  cause_by : (who : ℕ) (step : Step) (refusal : Refusal) (image : Option Image) → Allows f size w who step (Refused refusal) image → RefusalCause f size w who step image refusal
  cause_by who step refusal image (allowed.Verifying read rep im h) = verify read refusal im h
  cause_by who step refusal image (allowed.Pruning k prunes rep im h) = prune k prunes refusal im h
  cause_by who step refusal image (allowed.Reading k read rep im h same) = read_cause k read refusal im h
  cause_by who step refusal image (allowed.Ruled command r im by same) = rule command refusal im by
  cause_by who step refusal image (allowed.DrawSpent k n im may spent same) = OfIds n (le_refl n) spent
  cause_by who step refusal image (allowed.RaiseStale k im may apart same) = OfTerm may.t may.out apart
  cause_by who step refusal image (allowed.SettleStale k n t s im may apart same) = OfTerm t may.out apart
  cause_by who step refusal image (allowed.DropStale k im may apart same) = OfTerm may.t may.out apart
  cause_by who step refusal image (allowed.RaiseSpent k im may present spent same) = OfGenerations spent
  cause_by who step refusal image (allowed.ElectSpent im spent same) = OfTerms refl refl spent
  cause_by who step refusal image (allowed.Taken k name im c aside there) = OfName name c refl aside there
  cause_by who step refusal image other = OfCall

pub refusal_cause : (f : Formats) (size : ℕ) (w : World) (m : Moment) (refusal : Refusal) → Allowed f size w m → m.entry.reply ≡ Refused refusal
    → Blocks w m.entry.who m.entry.step refusal ⊎ RefusalCause f size w m.entry.who m.entry.step m.image refusal
refusal_cause f size w m refusal a is = elim a.answered [
  | inl alive ↦ inr (cause_by f size w m.entry.who m.entry.step refusal m.image (subst (λ reply. Allows f size w m.entry.who m.entry.step reply m.image) is alive.1))
  | inr blocked ↦ inl (subst (Blocks w m.entry.who m.entry.step) (same_refusal _ refusal (sym blocked.refused ∙ is)) blocked.blocks)
]

-- ---- what an answer tells

module _ (f : Formats) (size : ℕ) (w : World) where
  pruned_by : (who : ℕ) (prune : Prune) (image : Option Image) → PruneAllows f w who prune WasSettled image → SettleDid f w who (PruneStep prune)
  pruned_by who prune image (allowed.SettlingDelete k im s present same) = inr (refl, (s, present))

  settled_by : (who : ℕ) (step : Step) (image : Option Image) → Allows f size w who step WasSettled image → SettleDid f w who step
  settled_by who step image (allowed.Settling k im s same) = inl (refl, s)
  settled_by who step image (allowed.Verifying read rep im h) = elim h [ ]
  settled_by who step image (allowed.Pruning j prune rep im h) = pruned_by j prune im h
  settled_by who step image (allowed.Reading j read rep im h same) = elim h [ ]

module _ (f : Formats) (size : ℕ) (w : World) where
  began_by : (who : ℕ) (step : Step) (o uuid : ℕ) (indices : List IndexRef) (image : Option Image) → Allows f size w who step (AcceptedRestore o uuid indices) image → RestoreBegan f w who step o uuid indices image
  began_by who step o uuid indices image (allowed.OpeningRestore name place p u refs im acc same) = record { who_is = refl; name = name; place = place; step_is = refl; accepts = acc }
  began_by who step o uuid indices image (allowed.Verifying read rep im h) = elim h [ ]
  began_by who step o uuid indices image (allowed.Pruning j prune rep im h) = elim h [ ]
  began_by who step o uuid indices image (allowed.Reading j read rep im h same) = elim h [ ]

no_restore : (o uuid : ℕ) (indices : List IndexRef) (refusal : Refusal) → AcceptedRestore o uuid indices ≡ Refused refusal → ⊥
no_restore o uuid indices refusal e = cc

no_settle : (refusal : Refusal) → WasSettled ≡ Refused refusal → ⊥
no_settle refusal e = cc

pub settle_did : (f : Formats) (size : ℕ) (w : World) (m : Moment) → Allowed f size w m → m.entry.reply ≡ WasSettled → SettleDid f w m.entry.who m.entry.step
settle_did f size w m a is = elim a.answered [
  | inl alive ↦ settled_by f size w m.entry.who m.entry.step m.image (subst (λ reply. Allows f size w m.entry.who m.entry.step reply m.image) is alive.1)
  | inr blocked ↦ absurd (no_settle blocked.refusal (sym is ∙ blocked.refused))
]

pub restore_began : (f : Formats) (size : ℕ) (w : World) (m : Moment) (o uuid : ℕ) (indices : List IndexRef) → Allowed f size w m → m.entry.reply ≡ AcceptedRestore o uuid indices
    → RestoreBegan f w m.entry.who m.entry.step o uuid indices m.image
restore_began f size w m o uuid indices a is = elim a.answered [
  | inl alive ↦ began_by f size w m.entry.who m.entry.step o uuid indices m.image (subst (λ reply. Allows f size w m.entry.who m.entry.step reply m.image) is alive.1)
  | inr blocked ↦ absurd (no_restore o uuid indices blocked.refusal (sym is ∙ blocked.refused))
]
