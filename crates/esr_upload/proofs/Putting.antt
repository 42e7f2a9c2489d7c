-- A blob that is written and committed.
use Rattle.std.proofs.Common.{◌≡◌, ℕ, List, Option, Some, None, refl, sym, subst}
use Rattle.esr_upload.proofs.FileParts.{worked_committing}
use Rattle.esr_depot.specs.declared.depot.Commit.{Commit}
use Rattle.esr_depot.specs.declared.depot.Commit.TheVariants as commits
use Rattle.esr_model.specs.Names.{BlobName, ShardSnap, ShardIndex}
use Rattle.esr_model.specs.Values.{Bytes, Formats}
use Rattle.esr_core.specs.World.{Ticket}
use Rattle.esr_core.specs.After.{committing}
use Rattle.esr_core.specs.Entry.{Moment}
use Rattle.esr_core.specs.Allowed.{IsMetadata, IsNumbered}
use Rattle.esr_desk.specs.Start.{Start, ticket_of, told_bytes}
use Rattle.esr_desk.specs.Taken.{committed_by}
use Rattle.esr_desk.specs.Grew.{GrewBy}
use Rattle.esr_upload.specs.Worked.{Worked, Went}

-- a blob of no finalization's metadata that is committed is added
pub committed_one : (s : Start) (name : BlobName) (bytes : Bytes) (c : Commit) (old new : Ticket) → (IsMetadata name → ⊥) → (c ≡ commits.Exists → IsMetadata name) → new ≡ committed_by name (told_bytes s bytes) c old
    → new ≡ committing name (told_bytes s bytes) old
committed_one s name bytes commits.Done old new own found is = is
committed_one s name bytes commits.Exists old new own found is = absurd (own (found refl))

pub put_went : (s : Start) (old new : List Moment) (who : ℕ) (name : BlobName) (bytes : Bytes) → GrewBy s who old new → ticket_of s new who ≡ committing name (told_bytes s bytes) (ticket_of s old who) → Went s old new who
put_went s old new who name bytes grew is = record {
  grew = grew;
  worked = subst (λ (t : Ticket). Worked (ticket_of s old who) t) (sym is) (worked_committing name (told_bytes s bytes) (ticket_of s old who));
}

-- the snapshot of a shard and its index are no parts
pub snap_numbered : (f : Formats) (size : ℕ) (t : Ticket) (n index number uuid : ℕ) (o : Option ℕ) → IsNumbered f size t n (ShardSnap index number uuid) o
snap_numbered f size t n index number uuid None = λ known. tt
snap_numbered f size t n index number uuid (Some source) = tt

pub index_numbered : (f : Formats) (size : ℕ) (t : Ticket) (n index number generation : ℕ) (o : Option ℕ) → IsNumbered f size t n (ShardIndex index number generation) o
index_numbered f size t n index number generation None = λ known. tt
index_numbered f size t n index number generation (Some source) = tt
