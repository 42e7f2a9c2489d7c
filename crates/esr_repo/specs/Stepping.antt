-- What is known of a step by its answer, once it was looked whether it goes on.
use Rattle.std.proofs.Common.{◌≡◌, ◌≢◌, ℕ, true, List, Option, Some, None, Result, Ok, Err, OnOk, refl, sym, ap, ◌∙◌, subst, zero, IfOk}
use Rattle.esr_model.specs.Image.{Image}
use Rattle.esr_model.specs.Names.{BlobName, Latest}
use Rattle.esr_model.specs.Values.{Formats, Bytes}
use Rattle.esr_core.specs.Entry.{Step, Reply, Refused, Moment, Read, ReadBlob, DrawTest, ReadStep, Refusal}
use Rattle.esr_core.specs.Allowed.{Told}
use Rattle.esr_core.specs.World.{Caller}
use Rattle.esr_core.specs.Restores.{IsTestOf}
use Rattle.esr_core.specs.After.{caller_by}
use Rattle.esr_depot.specs.declared.depot.Commit.{Commit}
use Rattle.esr_formats.specs.Formats.{formats}
use Rattle.esr_formats.specs.Roots.{root_kind}
use Rattle.esr_desk.specs.Refusals.{refusal_of}
use Rattle.esr_desk.specs.declared.refusal.StepRefusal.{StepRefusal}
use Rattle.esr_desk.specs.declared.refusal.StepRefusal.TheVariants as steps
use Rattle.esr_desk.specs.Start.{Start, formats_of}
use Rattle.esr_desk.specs.Own.{caller_of}
use Rattle.esr_repo.specs.Next.{Added, AddedOr, Did, CallersTold}
use Rattle.esr_repo.specs.May.{CanTell}
use Rattle.esr_repo.specs.Calls.{CommitDid}
use Rattle.esr_repo.specs.Client.{HasDrawn}

-- what holds where the container tells
pub told_if : (s : Start) (image : Option Image) (P : Type 0) → CanTell s image → (s.tells ≡ true → P) → Told image (λ blobs. P)
told_if s None P tells h = tt
told_if s (Some i) P tells h = h (tells i refl)

-- the kind of roots, whatever was told
pub root_kind_is : (s : Start) → (formats_of s).root ≡ root_kind
unfolding formats
root_kind_is s = refl

-- what holds of a value holds of what is answered, where that is the value
pub ok_so : {A E : Type 0} (r : Result A E) (x : A) (P : A → Type 0) → IfOk r (λ y. y ≡ x) → P x → IfOk r P
ok_so (Ok y) x P same holds = subst P (sym same) holds
ok_so (Err e) x P same holds = tt

-- ---- after a check that added nothing

pub did_from : {X : Type 0} (s : Start) (old mid new : List Moment) (who : ℕ) (step : Step) (ok : X → Reply) (r : Result X StepRefusal) → mid ≡ old → Did s mid new who step ok r → Did s old new who step ok r
did_from s old mid new who step ok r e d = subst (λ (log : List Moment). Did s log new who step ok r) e d

pub commit_from : (s : Start) (old mid new : List Moment) (k : ℕ) (step : Step) (name : BlobName) (contents : Option Bytes) (r : Result Commit StepRefusal) → mid ≡ old → CommitDid s mid new k step name contents r
    → CommitDid s old new k step name contents r
commit_from s old mid new k step name contents r e did = subst (λ (l : List Moment). CommitDid s l new k step name contents r) e did

-- what an added entry gives, where the step was made
pub on_done : {X P : Type 0} (s : Start) (mid new : List Moment) (who : ℕ) (step : Step) (reply : Reply) (r : Result X StepRefusal) → Did s mid new who step (λ x. reply) r → (Added s mid new who step reply → P) → OnOk r P
on_done s mid new who step reply (Ok x) did f = f did
on_done s mid new who step reply (Err e) did f = tt

-- ---- what who 0 has done

-- a step that reads, and isn't the draw of an id, was refused
unread : (f : Formats) (c : Caller) (who : ℕ) (read : Read) (refusal : Refusal) (image : Option Image) → (read ≡ DrawTest → ⊥) → caller_by f c who read (Refused refusal) image ≡ c
unread f c zero (ReadBlob name) refusal image other = refl
unread f c zero DrawTest refusal image other = absurd (other refl)
unread f c who read refusal image other = refl

-- whatever the refusal of a step that reads
pub refused_caller : (law : CallersTold) (s : Start) (old new : List Moment) (who : ℕ) (read : Read) (e : StepRefusal) → (read ≡ DrawTest → ⊥) → AddedOr s old new who (ReadStep read) e → caller_of s new ≡ caller_of s old
refused_caller law s old new who read steps.Memory other same = ap (caller_of s) same
refused_caller law s old new who read steps.TurnsSpent other never = absurd never
refused_caller law s old new who read (steps.Refused x) other a =
    law s old new who (ReadStep read) (Refused (refusal_of x)) a ∙ unread (formats_of s) (caller_of s old) who read (refusal_of x) a.image other

-- an id that was drawn
pub drawn_is : (c : Caller) → HasDrawn c → (id : ℕ) × (c.drawn ≡ Some id)
drawn_is c still = go c.drawn refl
  where
    go : (o : Option ℕ) → c.drawn ≡ o → (id : ℕ) × (c.drawn ≡ Some id)
    go None e = absurd (still e)
    go (Some id) e = (id, e)

-- a test blob is no pointer to the root
pub test_stored : (id : ℕ) (name : BlobName) → IsTestOf id name → name ≢ Latest
test_stored id name test e = subst (IsTestOf id) e test
