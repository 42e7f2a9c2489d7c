-- The test blobs that who 0 committed: their names are of the layout, and none is `index.latest`.
use Rattle.std.proofs.Common.{◌≡◌, ◌⊎◌, ℕ, zero, List, ◌∷◌, Bool, true, false, Option, Some, None, refl, sym, ap, ◌∙◌, subst, inl, inr}
use Rattle.std.specs.Prelude.{if◌then◌else◌}
use Rattle.esr_model.specs.Names.{BlobName}
use Rattle.esr_model.specs.Values.{Bytes, Has, Formats}
use Rattle.esr_model.specs.Image.{Image, IsStored}
use Rattle.esr_core.specs.World.{World, Caller, no_caller}
use Rattle.esr_core.specs.Entry.{Read, ReadBlob, CheckedAll, CommitTest, RemoveTests, VerifiedAll, ReadFails, DrawTest, Step, AskStep, LookStep, ReadStep, Reply, WasDone, WasFetched, WasRemoved, HasEnded, Refusal, IdsSpent, Refused, Moment}
use Rattle.esr_core.specs.After.{is_heard, caller_told, caller_wrote, caller_read, caller_after, told_blob, answered, after}
use Rattle.esr_core.specs.Changes.{StepChange}
use Rattle.esr_core.specs.Allowed as allowed
use Rattle.esr_core.specs.Allowed.{IsOwnTest, MayRemoveTests, ReadAllows, VerifyAllows, Allows, Allowed}
use Rattle.esr_core.specs.Laws.StepFrames.{change_caller}

-- the steps on test blobs
abbrev TestsAsk : Formats → World → Read → Reply → Type 0
TestsAsk f w (CommitTest name) WasDone = IsOwnTest f w name
TestsAsk f w (RemoveTests names) reply = MayRemoveTests w names
TestsAsk f w read reply = Unit {0}

verify_asks : (f : Formats) (w : World) (read : Read) (reply : Reply) (image : Option Image) → VerifyAllows f w read reply image → TestsAsk f w read reply
verify_asks f w read reply image (allowed.CommittingTest name bytes im own once adds) = own
verify_asks f w read reply image (allowed.RemovingTests names im may removed) = may
verify_asks f w read reply image (allowed.RemoveTestsFails names im may removes) = may
verify_asks f w read reply image h = tt

read_asks : (f : Formats) (w : World) (k : ℕ) (read : Read) (reply : Reply) (image : Option Image) → ReadAllows f w k read reply image → TestsAsk f w read reply
read_asks f w k read reply image (allowed.ReaderFailing j why im q reading) = tt
read_asks f w k read reply image h = tt

pub tests_ask : (f : Formats) (size : ℕ) (w : World) (who : ℕ) (read : Read) (reply : Reply) (image : Option Image) → Allows f size w who (ReadStep read) reply image → TestsAsk f w read reply
tests_ask f size w who read reply image (allowed.Verifying r rep im h) = verify_asks f w r rep im h
tests_ask f size w who read reply image (allowed.Reading k r rep im h same) = read_asks f w k r rep im h

-- ---- what who 0 committed

abbrev pub TestsStored : Formats → World → Type 0
TestsStored f w = (name : BlobName) → Has w.caller.committed name → IsStored f name

-- a step of who 0 committed it
record IsCommitted (step : Step) (reply : Reply) (name : BlobName) : Type 0 where
  step_is : step ≡ ReadStep (CommitTest name)
  reply_is : reply ≡ WasDone

told_same : (c : Caller) (name : BlobName) (b : Option Bytes) → (caller_told c name b).committed ≡ c.committed
told_same c name None = refl
told_same c name (Some b) = refl

wrote_is : (c : Caller) (name : BlobName) (b : Option Bytes) → (caller_wrote c name b).committed ≡ name ∷ c.committed
wrote_is c name None = refl
wrote_is c name (Some b) = refl

draw_refused : (f : Formats) (c : Caller) (refusal : Refusal) (image : Option Image) (name : BlobName) → Has (caller_read f c DrawTest (Refused refusal) image).committed name → Has c.committed name
draw_refused f c (IdsSpent next) image name h = h
draw_refused f c refusal image name h = h

committed_read : (f : Formats) (c : Caller) (read : Read) (reply : Reply) (image : Option Image) (name : BlobName) → Has (caller_read f c read reply image).committed name → Has c.committed name ⊎ IsCommitted (ReadStep read) reply name
committed_read f c (ReadBlob n) WasFetched image name h = inl (subst (λ (names : List BlobName). Has names name) (told_same c n (told_blob f image n)) h)
committed_read f c (CommitTest n) WasDone image name h = elim (subst (λ (names : List BlobName). Has names name) (wrote_is c n (told_blob f image n)) h) [
  | inl is ↦ inr (record { step_is = ap (λ (x : BlobName). ReadStep (CommitTest x)) is; reply_is = refl })
  | inr before ↦ inl before
]
committed_read f c (CheckedAll snapshots blobs) HasEnded image name h = absurd h
committed_read f c VerifiedAll HasEnded image name h = absurd h
committed_read f c (ReadFails why) HasEnded image name h = absurd h
committed_read f c (RemoveTests names) WasRemoved image name h = inl h
committed_read f c DrawTest (Refused refusal) image name h = inl (draw_refused f c refusal image name h)
committed_read f c read reply image name h = inl h

either_none : (c d : Caller) (b : Bool) (name : BlobName) → (Has d.committed name → ⊥) → Has (if b then d else c).committed name → Has c.committed name
either_none c d true name none h = absurd (none h)
either_none c d false name none h = h

committed_after : (f : Formats) (c : Caller) (who : ℕ) (step : Step) (reply : Reply) (image : Option Image) (name : BlobName) → Has (caller_after f c who step reply image).committed name → Has c.committed name ⊎ IsCommitted step reply name
committed_after f c who (AskStep command) reply image name h = inl (either_none c no_caller (is_heard reply) name (λ x. x) h)
committed_after f c who LookStep reply image name h = inl (either_none c (record no_caller { looked = true }) (is_heard reply) name (λ x. x) h)
committed_after f c zero (ReadStep read) reply image name h = committed_read f c read reply image name h
committed_after f c who step reply image name h = inl h

not_done : (refusal : Refusal) → WasDone ≡ Refused refusal → ⊥
not_done refusal e = cc

pub tests_stored : (f : Formats) (size : ℕ) (w : World) (m : Moment) → StepChange f w m.entry.who m.entry.step (answered f w m.entry.who m.entry.step m.entry.reply m.image) → Allowed f size w m → TestsStored f w
    → TestsStored f (after f w m)
tests_stored f size w m change a stored name h = elim (committed_after f w.caller m.entry.who m.entry.step m.entry.reply m.image name before) [
  | inl was ↦ stored name was
  | inr now ↦ elim a.answered [
    | inl alive ↦ (by now alive.1).stored
    | inr dead ↦ absurd (not_done dead.refusal (sym now.reply_is ∙ dead.refused))
  ]
]
  where
    before : Has (caller_after f w.caller m.entry.who m.entry.step m.entry.reply m.image).committed name
    before = subst (λ (c : Caller). Has (caller_after f c m.entry.who m.entry.step m.entry.reply m.image).committed name) (change_caller f w m.entry.who m.entry.step (answered f w m.entry.who m.entry.step m.entry.reply m.image) change) h

    by : IsCommitted m.entry.step m.entry.reply name → Allows f size w m.entry.who m.entry.step m.entry.reply m.image → IsOwnTest f w name
    by now allows =
        tests_ask f size w m.entry.who (CommitTest name) WasDone m.image
        (subst (λ (r : Reply). Allows f size w m.entry.who (ReadStep (CommitTest name)) r m.image) now.reply_is (subst (λ (s : Step). Allows f size w m.entry.who s m.entry.reply m.image) now.step_is allows))
