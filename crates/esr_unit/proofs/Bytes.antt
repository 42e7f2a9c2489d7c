-- What is told of bytes that were read and written.
use Rattle.std.proofs.Common.{◌≡◌, ◌≢◌, Bool, true, false, Option, Some, None, IfSome, Result, Err, refl, ap, ◌∙◌, subst}
use Rattle.std.specs.Prelude.{if◌then◌else◌}
use Rattle.esr_model.specs.Names.{BlobName, Latest}
use Rattle.esr_model.specs.Values.{Bytes}
use Rattle.esr_core.specs.World.{Ticket}
use Rattle.esr_core.specs.After.{is_latest, fetching, caller_told}
use Rattle.esr_depot.specs.Calls.{has_failed}
use Rattle.esr_depot.specs.Told.{Tells}
use Rattle.esr_depot.specs.declared.error.CallError.{CallError}
use Rattle.esr_depot.specs.declared.error.CallError.TheVariants.{Failed}
use Rattle.esr_desk.specs.declared.hand.Hand.{Hand}
use Rattle.esr_desk.specs.declared.hand.Hand.TheVariants as hands
use Rattle.esr_desk.specs.declared.refusal.StepRefusal.{StepRefusal}
use Rattle.esr_desk.specs.declared.refusal.StepRefusal.TheVariants as steps
use Rattle.esr_desk.specs.declared.refusal.EntryRefusal.TheVariants as refusals
use Rattle.esr_desk.specs.Start.{Start, told_bytes}
use Rattle.esr_desk.specs.Own.{Own}
use Rattle.esr_desk.specs.Hands.{own_fetched}
use Rattle.esr_desk.specs.Readers.{with_read}
use Rattle.esr_desk.specs.Taken.{begun_by, tried}

pub did_fail : {T : Type 0} (result : Result T CallError) (e : CallError) → result ≡ Err e → e ≡ Failed → has_failed result ≡ true
did_fail {T} result e is failed = ap (λ (r : Result T CallError). has_failed r) is ∙ ap (λ (x : CallError). has_failed {T = T} (Err x)) failed

-- ---- a fetch

-- what is ensured of the one that came
pub came : {F : Type 0} (o : Option F) (f : F) (P : F → Type 0) → o ≡ Some f → IfSome o P → P f
came (Some g) f P is holds = let same : g ≡ f = cc in subst P same holds
came None f P is holds = absurd cc

-- what was left of it is what was read
pub told_left : (s : Start) (left : Option Bytes) (told bytes : Bytes) → left ≡ told_bytes s told → Tells left bytes → left ≡ told_bytes s bytes
told_left s left told bytes is tells = by s.tells is (subst (λ (o : Option Bytes). Tells o bytes) is tells)
  where
    by : (b : Bool) → left ≡ (if b then Some told else None) → Tells (if b then Some told else None) bytes → left ≡ (if b then Some bytes else None)
    by true is same = is ∙ ap (λ (x : Bytes). Some x) same
    by false is same = is

-- it is noted, whoever fetched it
pub fetched_own : {F : Type 0} (hand : Hand) (s : Start) (left : F → Option Bytes) (name : BlobName) (f : F) (bytes : Bytes) (own : Own) → left f ≡ told_bytes s bytes
    → own_fetched hand left name (Some f) own ≡ own_fetched hand (told_bytes s) name (Some bytes) own
fetched_own hands.Restore s left name f bytes own is = ap (λ (o : Option Bytes). record own { reader = with_read name o own.reader }) is
fetched_own hands.Check s left name f bytes own is = ap (λ (o : Option Bytes). record own { caller = caller_told own.caller name o }) is
fetched_own hands.Verify s left name f bytes own is = ap (λ (o : Option Bytes). record own { caller = caller_told own.caller name o }) is
fetched_own hand s left name f bytes own is = ap (λ (o : Option Bytes). record own { ticket = fetching name o own.ticket }) is

-- a blob that isn't there
pub absent_own : {F : Type 0} (hand : Hand) (s : Start) (left : F → Option Bytes) (name : BlobName) (own : Own) → own_fetched hand left name None own ≡ own_fetched hand (told_bytes s) name None own
absent_own hands.Unit s left name own = refl
absent_own hand s left name own = refl

-- ---- a stage

not_latest : (name : BlobName) (t : Ticket) → name ≢ Latest → (if is_latest name then tried t else t) ≡ t
not_latest Latest t other = absurd (other refl)
not_latest name t other = refl

-- the begin of another blob than `index.latest` leaves the ticket
pub begun_same : {X : Type 0} (name : BlobName) (result : Result X StepRefusal) (t : Ticket) → name ≢ Latest → begun_by name result t ≡ t
begun_same name (Err (steps.Refused refusals.DepotFault)) t other = not_latest name t other
begun_same name result t other = refl
