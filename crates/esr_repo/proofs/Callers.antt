-- What who 0 has done, after a step.
use Rattle.std.proofs.Common.{◌≡◌, ℕ, zero, suc, Bool, true, false, List, Option, Some, None, refl, sym, ap, ◌∙◌, subst, inl, inr}
use Rattle.std.specs.Prelude.{if◌then◌else◌}
use Rattle.esr_model.specs.Names.{BlobName}
use Rattle.esr_model.specs.Values.{Bytes, Formats}
use Rattle.esr_model.specs.Image.{Image}
use Rattle.esr_core.specs.World.{World, Caller, no_caller}
use Rattle.esr_core.specs.Entry.{Read, ReadBlob, RestoredShard, CheckedAll, DrawTest, CommitTest, RemoveTests, VerifiedAll, ReadFails, Step, AskStep, LookStep, ReadStep, Reply, DrawnFrom, WasDone, WasRemoved, WasFetched, HasEnded, Refusal, Refused, IdsSpent, AbortedBy, DeposedAt, Moment}
use Rattle.esr_core.specs.After.{told_blob, is_heard, caller_told, caller_wrote, caller_ended, caller_read, caller_by, caller_after, after}
use Rattle.esr_core.specs.Allowed.{ReadAllows, VerifyAllows, Allows, Allowed}
use Rattle.esr_core.specs.Allowed as allowed
use Rattle.esr_desk.specs.Refusals.{refusal_of}
use Rattle.esr_desk.specs.declared.refusal.EntryRefusal.{EntryRefusal}
use Rattle.esr_desk.specs.Start.{Start, formats_of, world_of}
use Rattle.esr_desk.specs.Own.{caller_of}
use Rattle.esr_repo.specs.Repo.{IsTest, AreTests}
use Rattle.esr_repo.specs.Next.{Added}
use Rattle.esr_repo.specs.Grown.{added_world}
use Rattle.esr_ops.specs.Plan.{Plan}
use Rattle.esr_repo.proofs.Blocked.{Tells, OfSwap, OfDelete}
use Rattle.esr_repo.proofs.Frames.{caller_stays}

-- ---- the world's caller

-- it is told by the moment alone
pub caller_goes : (f : Formats) (w : World) (m : Moment) → (after f w m).caller ≡ caller_after f w.caller m.entry.who m.entry.step m.entry.reply m.image
caller_goes f w m =
    ap (λ (c : Caller). caller_after f c m.entry.who m.entry.step m.entry.reply m.image) (caller_stays f w m.entry.who m.entry.step m.entry.reply m.image)

pub added_caller : (s : Start) (old new : List Moment) (who : ℕ) (step : Step) (reply : Reply) (a : Added s old new who step reply)
    → caller_of s new ≡ caller_after (formats_of s) (caller_of s old) who step reply a.image
added_caller s old new who step reply a =
    ap (λ (w : World). w.caller) (added_world s old new who step reply a)
    ∙ caller_goes (formats_of s) (world_of s old) (record { entry = record { who = who; step = step; reply = reply }; image = a.image })

-- ---- a refusal

-- refused before it was looked at
abbrev pub IsUnheard : Refusal → Type 0
IsUnheard (DeposedAt place) = Unit {0}
IsUnheard (AbortedBy op) = Unit {0}
IsUnheard refusal = ⊥

unread_block : (f : Formats) (c : Caller) (who : ℕ) (read : Read) (refusal : Refusal) (image : Option Image) → IsUnheard refusal → caller_by f c who read (Refused refusal) image ≡ c
unread_block f c zero (ReadBlob name) refusal image h = refl
unread_block f c zero (RestoredShard files bytes) refusal image h = refl
unread_block f c zero (CheckedAll snapshots blobs) refusal image h = refl
unread_block f c zero DrawTest (DeposedAt place) image h = refl
unread_block f c zero DrawTest (AbortedBy op) image h = refl
unread_block f c zero DrawTest refusal image h = absurd h
unread_block f c zero (CommitTest name) refusal image h = refl
unread_block f c zero (RemoveTests names) refusal image h = refl
unread_block f c zero VerifiedAll refusal image h = refl
unread_block f c zero (ReadFails why) refusal image h = refl
unread_block f c zero read refusal image h = refl
unread_block f c (suc k) read refusal image h = refl

unheard : (f : Formats) (c : Caller) (who : ℕ) (step : Step) (refusal : Refusal) (image : Option Image) → IsUnheard refusal → caller_after f c who step (Refused refusal) image ≡ c
unheard f c who (AskStep command) (DeposedAt place) image h = refl
unheard f c who (AskStep command) (AbortedBy op) image h = refl
unheard f c who (AskStep command) refusal image h = absurd h
unheard f c who LookStep (DeposedAt place) image h = refl
unheard f c who LookStep (AbortedBy op) image h = refl
unheard f c who LookStep refusal image h = absurd h
unheard f c who (ReadStep read) refusal image h = unread_block f c who read refusal image h
unheard f c who step refusal image h = refl

-- it changes nothing of what who 0 has done
block_caller : (s : Start) (old new : List Moment) (who : ℕ) (step : Step) (refusal : Refusal) → IsUnheard refusal → Added s old new who step (Refused refusal) → caller_of s new ≡ caller_of s old
block_caller s old new who step refusal h a = added_caller s old new who step (Refused refusal) a ∙ unheard (formats_of s) (caller_of s old) who step refusal a.image h

pub blocked_caller : (d : Option ℕ) (plan : Plan) (s : Start) (old new : List Moment) (who : ℕ) (step : Step) (refusal : EntryRefusal) → Tells d plan who step refusal → Added s old new who step (Refused (refusal_of refusal))
    → caller_of s new ≡ caller_of s old
blocked_caller d plan s old new who step refusal (OfSwap place fell) a = block_caller s old new who step (DeposedAt place) tt a
blocked_caller d plan s old new who step refusal (OfDelete op none aborted) a = block_caller s old new who step (AbortedBy op) tt a

-- ---- what it has committed are test blobs

tests_none : (looked : Bool) → AreTests (record no_caller { looked = looked })
tests_none looked name has = absurd has

tests_either : (first : Bool) (a b : Caller) → AreTests a → AreTests b → AreTests (if first then a else b)
tests_either true a b p q = p
tests_either false a b p q = q

tests_told : (c : Caller) (name : BlobName) (bytes : Option Bytes) → AreTests c → AreTests (caller_told c name bytes)
tests_told c name None h = h
tests_told c name (Some bytes) h = h

tests_wrote : (c : Caller) (name : BlobName) (bytes : Option Bytes) → IsTest name → AreTests c → AreTests (caller_wrote c name bytes)
tests_wrote c name None own h = λ m has. elim has [ inl e ↦ subst IsTest e own | inr was ↦ h m was ]
tests_wrote c name (Some bytes) own h = λ m has. elim has [ inl e ↦ subst IsTest e own | inr was ↦ h m was ]

tests_ended : (c : Caller) (reply : Reply) → AreTests c → AreTests (caller_ended c reply)
tests_ended c HasEnded h = tests_none false
tests_ended c reply h = h

tests_read : (f : Formats) (c : Caller) (read : Read) (reply : Reply) (image : Option Image) → ((name : BlobName) → read ≡ CommitTest name → reply ≡ WasDone → IsTest name) → AreTests c → AreTests (caller_read f c read reply image)
tests_read f c (ReadBlob name) WasFetched image own h = tests_told c name (told_blob f image name) h
tests_read f c (ReadBlob name) reply image own h = h
tests_read f c (RestoredShard files bytes) reply image own h = h
tests_read f c (CheckedAll snapshots blobs) reply image own h = tests_ended c reply h
tests_read f c DrawTest (DrawnFrom first) image own h = h
tests_read f c DrawTest (Refused (IdsSpent next)) image own h = h
tests_read f c (CommitTest name) WasDone image own h = tests_wrote c name (told_blob f image name) (own name refl refl) h
tests_read f c (RemoveTests names) WasRemoved image own h = h
tests_read f c VerifiedAll reply image own h = tests_ended c reply h
tests_read f c (ReadFails why) reply image own h = tests_ended c reply h
tests_read f c read reply image own h = h

tests_by : (f : Formats) (c : Caller) (who : ℕ) (read : Read) (reply : Reply) (image : Option Image) → ((name : BlobName) → read ≡ CommitTest name → reply ≡ WasDone → IsTest name) → AreTests c
    → AreTests (caller_by f c who read reply image)
tests_by f c zero read reply image own h = tests_read f c read reply image own h
tests_by f c (suc k) read reply image own h = h

tests_after : (f : Formats) (c : Caller) (who : ℕ) (step : Step) (reply : Reply) (image : Option Image) → ((name : BlobName) → step ≡ ReadStep (CommitTest name) → reply ≡ WasDone → IsTest name) → AreTests c
    → AreTests (caller_after f c who step reply image)
tests_after f c who (AskStep command) reply image own h = tests_either (is_heard reply) no_caller c (tests_none false) h
tests_after f c who LookStep reply image own h = tests_either (is_heard reply) (record no_caller { looked = true }) c (tests_none true) h
tests_after f c who (ReadStep read) reply image own h = tests_by f c who read reply image (λ name e d. own name (ap ReadStep e) d) h
tests_after f c who step reply image own h = h

-- a test blob is committed
verified_own : (f : Formats) (w : World) (name : BlobName) (image : Option Image) → VerifyAllows f w (CommitTest name) WasDone image → IsTest name
verified_own f w name image (allowed.CommittingTest it bytes im own new adds) = (own.id, own.test)

unread_own : (f : Formats) (w : World) (who : ℕ) (name : BlobName) (image : Option Image) → ReadAllows f w who (CommitTest name) WasDone image → IsTest name
unread_own f w who name image h = elim h [ ]

allowed_own : (f : Formats) (size : ℕ) (w : World) (who : ℕ) (name : BlobName) (image : Option Image) → Allows f size w who (ReadStep (CommitTest name)) WasDone image → IsTest name
allowed_own f size w who name image (allowed.Verifying read reply im h) = verified_own f w name im h
allowed_own f size w who name image (allowed.Reading k read reply im h same) = unread_own f w k name im h

pub tests_step : (f : Formats) (size : ℕ) (w : World) (m : Moment) → Allowed f size w m → AreTests w.caller → AreTests (after f w m).caller
tests_step f size w m a h = subst AreTests (sym (caller_goes f w m)) (tests_after f w.caller m.entry.who m.entry.step m.entry.reply m.image own h)
  where
    refused : (refusal : Refusal) → WasDone ≡ Refused refusal → ⊥
    refused refusal e = cc

    own : (name : BlobName) → m.entry.step ≡ ReadStep (CommitTest name) → m.entry.reply ≡ WasDone → IsTest name
    own name step reply = elim a.answered [
      | inl alive ↦
          allowed_own f size w m.entry.who name m.image (subst (λ (r : Reply). Allows f size w m.entry.who (ReadStep (CommitTest name)) r m.image) reply (subst (λ (s : Step). Allows f size w m.entry.who s m.entry.reply m.image) step alive.1))
      | inr dead ↦ absurd (refused dead.refusal (sym reply ∙ dead.refused))
    ]
