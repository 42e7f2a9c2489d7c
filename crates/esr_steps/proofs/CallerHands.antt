-- The hands of who 0: a check and a verification fetch a blob, or fail.
use Rattle.std.proofs.Common.{◌≡◌, ℕ, List, Option, None, refl, sym, subst, ◌≢◌, Some, Result, Ok, Err, IfOk, ap, ◌∙◌, inl, inr}
use Rattle.esr_model.specs.Names.{BlobName, Latest}
use Rattle.esr_model.specs.Image.{Image}
use Rattle.esr_model.specs.Values.{Bytes}
use Rattle.esr_core.specs.World.{no_caller, World}
use Rattle.esr_core.specs.Entry.{Why, ReadBlob, ReadFails, ReadStep, WasFetched, WasAbsent, HasEnded, Refused, DepotFault, Moment}
use Rattle.esr_core.specs.Allowed.{IsChecking, MayCheck, ByCheck, ReadFound, ReadMissing, ReadFault, CheckFailing, Reading, MayVerify, IsVerifying, ByVerify, Verifying, VerifyFailing}
use Rattle.esr_core.specs.After.{caller_told}
use Rattle.esr_desk.specs.Start.{Start, formats_of, world_of}
use Rattle.esr_desk.specs.Own.{caller_of}
use Rattle.esr_desk.specs.Check.Conditions.{CanCheck}
use Rattle.esr_desk.specs.declared.refusal.StepRefusal.{StepRefusal}
use Rattle.esr_desk.specs.Caller.{found_by}
use Rattle.esr_desk.specs.Verify.Conditions.{IsOpen, CanFetchTest}
use Rattle.esr_repo.specs.Next.{Added, CallersTold}
use Rattle.esr_repo.specs.May.{CanTell, MayNote, MayFetch}
use Rattle.esr_repo.specs.Stepping.{told_if, drawn_is, test_stored}
use Rattle.esr_repo.specs.Repo.{AreTests}
use Rattle.esr_repo.specs.Calls.{FetchDid}
use Rattle.esr_steps.proofs.Reading.{found_there, found_none}
use Rattle.esr_steps.proofs.Written.{fetch_from}

-- ---- a check

may_check : (s : Start) (log : List Moment) (name : BlobName) (image : Option Image) → CanCheck s log name → CanTell s image → MayCheck (formats_of s) (world_of s log) name image
may_check s log name image can tells = record { is_open = can.is_open; unfetched = can.once; reached = told_if s image _ tells can.reached }

pub may_fetch_reached : (s : Start) (old log : List Moment) (name : BlobName) → log ≡ old → CanCheck s old name → MayFetch s log 0 (ReadStep (ReadBlob name)) name
may_fetch_reached s old log name e before =
    let can : CanCheck s log name = subst (λ (l : List Moment). CanCheck s l name) (sym e) before in
    record {
      is = refl;
      fetches = λ named image tells found. let h = found_there s log name image found in Reading 0 (ReadBlob name) WasFetched image (ReadFound 0 name image (named, can.stored) (ByCheck (may_check s log name image can tells)) h.0) h.1;
      misses = λ named image tells found. let h = found_none s log name image found in Reading 0 (ReadBlob name) WasAbsent image (ReadMissing 0 name image (named, can.stored) (ByCheck (may_check s log name image can tells)) h.0) h.1;
      fails = λ named image tells same. Reading 0 (ReadBlob name) (Refused DepotFault) image (ReadFault 0 name image (named, can.stored) (ByCheck (may_check s log name image can tells))) same;
    }

pub may_note_unchecked : (s : Start) (old log : List Moment) (why : Why) (next : ℕ) → log ≡ old → IsChecking (world_of s old) → next ≡ (world_of s log).next_id → MayNote s log 0 (ReadStep (ReadFails why)) HasEnded None next
may_note_unchecked s old log why next e before next_is =
    let still : IsChecking (world_of s log) = subst (λ (l : List Moment). IsChecking (world_of s l)) (sym e) before in
    record {
      plain = refl;
      allows = λ image tells same. Reading 0 (ReadFails why) HasEnded image (CheckFailing why image still) same;
      plan_is = λ image p h. h;
      next_is = λ image. next_is;
    }

pub unchecked_caller : (law : CallersTold) (s : Start) (old new : List Moment) (why : Why) → Added s old new 0 (ReadStep (ReadFails why)) HasEnded → caller_of s new ≡ no_caller
unchecked_caller law s old new why a = law s old new 0 (ReadStep (ReadFails why)) HasEnded a

-- ---- a verification

pub may_fetch_test : (s : Start) (old log : List Moment) (name : BlobName) → log ≡ old → AreTests (world_of s log).caller → CanFetchTest (caller_of s old) name → MayFetch s log 0 (ReadStep (ReadBlob name)) name
may_fetch_test s old log name e tests before =
    let can : CanFetchTest (caller_of s log) name = subst (λ (l : List Moment). CanFetchTest (caller_of s l) name) (sym e) before in
    let test = tests name can.committed in
    let stored : name ≢ Latest = test_stored test.0 name test.1 in
    let may : MayVerify (world_of s log) name = record { committed = can.committed; unremoved = can.unremoved; once = can.once } in
    record {
      is = refl;
      fetches = λ named image tells found. let h = found_there s log name image found in Reading 0 (ReadBlob name) WasFetched image (ReadFound 0 name image (named, stored) (ByVerify may) h.0) h.1;
      misses = λ named image tells found. let h = found_none s log name image found in Reading 0 (ReadBlob name) WasAbsent image (ReadMissing 0 name image (named, stored) (ByVerify may) h.0) h.1;
      fails = λ named image tells same. Reading 0 (ReadBlob name) (Refused DepotFault) image (ReadFault 0 name image (named, stored) (ByVerify may)) same;
    }

fetched : {F : Type 0} (law : CallersTold) (left : F → Option Bytes) (s : Start) (old new : List Moment) (name : BlobName) (r : Result (Option F) StepRefusal) → FetchDid left s old new 0 (ReadStep (ReadBlob name)) name r
    → IfOk r (λ o. caller_of s new ≡ found_by left name o (caller_of s old))
fetched law left s old new name (Ok None) did = law s old new 0 (ReadStep (ReadBlob name)) WasAbsent did
fetched law left s old new name (Ok (Some f)) did = law s old new 0 (ReadStep (ReadBlob name)) WasFetched did.0 ∙ ap (caller_told (caller_of s old) name) did.1
fetched law left s old new name (Err e) did = tt

pub fetched_caller : {F : Type 0} (law : CallersTold) (left : F → Option Bytes) (s : Start) (old mid new : List Moment) (name : BlobName) (r : Result (Option F) StepRefusal) → mid ≡ old
    → FetchDid left s mid new 0 (ReadStep (ReadBlob name)) name r
    → IfOk r (λ o. caller_of s new ≡ found_by left name o (caller_of s old))
fetched_caller law left s old mid new name r e did = fetched law left s old new name r (fetch_from left s old mid new 0 (ReadStep (ReadBlob name)) name r e did)

is_verifying : (w : World) → IsOpen w.caller → IsVerifying w
is_verifying w (inl still) = inl (drawn_is w.caller still)
is_verifying w (inr spent) = inr spent

pub may_note_unverified : (s : Start) (old log : List Moment) (why : Why) (next : ℕ) → log ≡ old → IsOpen (caller_of s old) → next ≡ (world_of s log).next_id → MayNote s log 0 (ReadStep (ReadFails why)) HasEnded None next
may_note_unverified s old log why next e before next_is =
    let still : IsOpen (caller_of s log) = subst (λ (l : List Moment). IsOpen (caller_of s l)) (sym e) before in
    record {
      plain = refl;
      allows = λ image tells same. Verifying (ReadFails why) HasEnded image (VerifyFailing why image (is_verifying (world_of s log) still) same);
      plan_is = λ image p h. h;
      next_is = λ image. next_is;
    }
