-- One part of a file.
use Rattle.std.proofs.Common.{◌≡◌, ◌≢◌, ℕ, Bool, true, false, List, [], ◌∷◌, Option, Some, None, Result, Ok, Err, refl, sym, ap, ◌∙◌, subst, if◌then◌else◌}
use Rattle.std.specs.Io.KnownBytes.{append_known}
use Rattle.std.proofs.lemmas.Bool.{false≢true}
use Rattle.esr_names.specs.declared.blob.BlobName.{BlobName as CodeName}
use Rattle.esr_model.specs.Names.{BlobName, Latest}
use Rattle.esr_model.specs.Values.{Bytes}
use Rattle.esr_core.specs.World.{Ticket}
use Rattle.esr_core.specs.Entry.{Moment}
use Rattle.esr_core.specs.Allowed.{IsMetadata}
use Rattle.esr_core.specs.After.{committing, is_latest}
use Rattle.esr_depot.specs.declared.depot.Commit.{Commit}
use Rattle.esr_depot.specs.declared.depot.Commit.TheVariants as commits
use Rattle.esr_hash.specs.declared.hasher.Hasher.{Hasher}
use Rattle.esr_parts.specs.Reads.{Copied}
use Rattle.esr_formats.specs.Names.{name_of}
use Rattle.esr_desk.specs.declared.refusal.StepRefusal.{StepRefusal}
use Rattle.esr_desk.specs.declared.refusal.StepRefusal.TheVariants as steps
use Rattle.esr_desk.specs.declared.refusal.EntryRefusal.TheVariants.{DepotFault}
use Rattle.esr_desk.specs.Start.{Start, ticket_of, told_bytes}
use Rattle.esr_desk.specs.Conditions.{CanCommit, Holds}
use Rattle.esr_desk.specs.Taken.{begun_by, committed_by, tried}
use Rattle.esr_desk.specs.Grew.{GrewBy, grew_by_on}
use Rattle.esr_upload.specs.Pieces.{CanStore, PutPart}
use Rattle.esr_upload.specs.Worked.{Worked, Went}
use Rattle.esr_upload.specs.Runs.{went_same}

-- ---- what the steps make of the ticket

not_latest : (name : BlobName) → name ≢ Latest → is_latest name ≡ false
not_latest Latest other = absurd (other refl)
not_latest name other = refl

begun_stays : {X : Type 0} (name : BlobName) (r : Result X StepRefusal) (t : Ticket) → name ≢ Latest → begun_by name r t ≡ t
begun_stays name (Ok x) t other = refl
begun_stays name (Err (steps.Refused DepotFault)) t other = ap (λ (b : Bool). if b then tried t else t) (not_latest name other)
begun_stays name (Err e) t other = refl

pub begun_is : {X : Type 0} (s : Start) (name : CodeName) (r : Result X StepRefusal) (old new : Ticket) → CanStore s old name → new ≡ begun_by (name_of name) r old → new ≡ old
begun_is {X} s name r old new can is = is ∙ begun_stays (name_of name) r old (can.may []).stored

committed_is : (name : BlobName) (contents : Option Bytes) (c : Commit) (t : Ticket) → (c ≡ commits.Exists → ⊥) → committed_by name contents c t ≡ committing name contents t
committed_is name contents commits.Done t new = refl
committed_is name contents commits.Exists t new = absurd (new refl)

append_told : (tells : Bool) (piece : Bytes) → append_known (if tells then Some [] else None) piece ≡ (if tells then Some piece else None)
append_told true piece = refl
append_told false piece = refl

-- the stage holds what was written to it
pub stage_holds : (s : Start) (before now : Option Bytes) (piece : Bytes) → Holds s before [] → now ≡ append_known before piece → Holds s now piece
stage_holds s before now piece none is = is ∙ ap (λ (o : Option Bytes). append_known o piece) none ∙ append_told s.tells piece

committed_whole : (s : Start) (name : CodeName) (contents : Option Bytes) (piece : Bytes) (c : Commit) (old mid new : Ticket) → mid ≡ old → Holds s contents piece → (c ≡ commits.Exists → ⊥)
    → new ≡ committed_by (name_of name) contents c mid → new ≡ committing (name_of name) (told_bytes s piece) old
committed_whole s name contents piece c old mid new same holds fresh is =
    is ∙ committed_is (name_of name) contents c mid fresh ∙ ap (λ (o : Option Bytes). committing (name_of name) o mid) holds ∙ ap (λ (t : Ticket). committing (name_of name) (told_bytes s piece) t) same

-- ---- what it did

pub worked_committing : (name : BlobName) (o : Option Bytes) (t : Ticket) → Worked t (committing name o t)
worked_committing name None t = record { first = t.first; drawn = t.drawn; noted = name ∷ t.noted; wrote = t.wrote; read = t.read; is = refl }
worked_committing name (Some bytes) t = record { first = t.first; drawn = t.drawn; noted = name ∷ t.noted; wrote = (name, bytes) ∷ t.wrote; read = t.read; is = refl }

-- a part that was begun is refused
pub went_refused : (s : Start) (old mid new : List Moment) (who : ℕ) → GrewBy s who old mid → GrewBy s who mid new → ticket_of s mid who ≡ ticket_of s old who → ticket_of s new who ≡ ticket_of s mid who → Went s old new who
went_refused s old mid new who first second begun kept = went_same s old new who (grew_by_on s who old mid new first second) (kept ∙ begun)

went_committed : (s : Start) (old mid new : List Moment) (who : ℕ) (name : BlobName) (o : Option Bytes) → GrewBy s who old mid → GrewBy s who mid new
    → ticket_of s new who ≡ committing name o (ticket_of s old who) → Went s old new who
went_committed s old mid new who name o first second is = record {
  grew = grew_by_on s who old mid new first second;
  worked = subst (λ (t : Ticket). Worked (ticket_of s old who) t) (sym is) (worked_committing name o (ticket_of s old who));
}

pub can_commit : (s : Start) (old mid : Ticket) (name named : CodeName) (bytes : Bytes) → CanStore s old name → mid ≡ old → named ≡ name → CanCommit s mid (name_of named) bytes
can_commit s old mid name named bytes can same is_named =
    let own = subst (λ (t : Ticket). CanCommit s t (name_of name) bytes) (sym same) (can.may bytes) in
    subst (λ (n : CodeName). CanCommit s mid (name_of n) bytes) (sym is_named) own

-- a blob that is no finalization's metadata wasn't there
pub not_there : (name named : CodeName) (c : Commit) → named ≡ name → (IsMetadata (name_of name) → ⊥) → (◌≡◌ {A = Result Commit StepRefusal} (Ok c) (Ok commits.Exists) → IsMetadata (name_of named)) → c ≡ commits.Exists → ⊥
not_there name named c same other found is = other (subst (λ (n : CodeName). IsMetadata (name_of n)) same (found (ap (λ (x : Commit). Ok x) is)))

pub part_put : (s : Start) (left_old left_new before now : Option Bytes) (hasher_old hasher_new : Hasher) (old mid new : Ticket) (name named : CodeName) (size : ℕ) (c : Commit)
    → Copied left_old left_new before now hasher_old hasher_new size true → Holds s before [] → mid ≡ old → named ≡ name → (c ≡ commits.Exists → ⊥) → new ≡ committed_by (name_of named) now c mid
    → PutPart s left_old left_new hasher_old hasher_new old new (name_of name) size true
part_put s left_old left_new before now hasher_old hasher_new old mid new name named size c copied none same is_named fresh is =
    let holds = stage_holds s before now copied.piece none copied.stage_is in
    let own = subst (λ (n : CodeName). new ≡ committed_by (name_of n) now c mid) is_named is in
    record {
      piece = copied.piece;
      took = copied.took;
      fed = copied.fed;
      whole = λ full. (copied.whole full, committed_whole s name now copied.piece c old mid new same holds fresh own);
      short = λ full. copied.short full;
    }

-- the file is at its end before the size is reached
pub part_short : (s : Start) (left_old left_new before now : Option Bytes) (hasher_old hasher_new : Hasher) (old new : Ticket) (name : BlobName) (size : ℕ) → Copied left_old left_new before now hasher_old hasher_new size false
    → PutPart s left_old left_new hasher_old hasher_new old new name size false
part_short s left_old left_new before now hasher_old hasher_new old new name size copied = record {
  piece = copied.piece;
  took = copied.took;
  fed = copied.fed;
  whole = λ full. absurd (false≢true full);
  short = copied.short;
}

pub went_put : (s : Start) (left_old left_new : Option Bytes) (hasher_old hasher_new : Hasher) (old mid new : List Moment) (who : ℕ) (name : BlobName) (size : ℕ) → GrewBy s who old mid → GrewBy s who mid new
    → PutPart s left_old left_new hasher_old hasher_new (ticket_of s old who) (ticket_of s new who) name size true → Went s old new who
went_put s left_old left_new hasher_old hasher_new old mid new who name size first second put = went_committed s old mid new who name (told_bytes s put.piece) first second (put.whole refl).1
