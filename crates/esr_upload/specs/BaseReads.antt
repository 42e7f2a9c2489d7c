-- The base of a shard's ticket is fetched and read.
use Rattle.std.proofs.Common.{◌≡◌, inl, inr, ℕ, Bool, true, false, List, ◌∷◌, Option, Some, None, refl, sym, ap, ◌∙◌, subst, []}
use Rattle.std.specs.Prelude.{if◌then◌else◌}
use Rattle.esr_desk.specs.declared.hand.Hand.TheVariants as hands
use Rattle.esr_model.specs.Names.{BlobName, ShardIndex}
use Rattle.esr_model.specs.Values.{Bytes, Has, ShardFiles, Formats}
use Rattle.esr_core.specs.World.{Ticket, Shard}
use Rattle.esr_core.specs.Entry.{Moment}
use Rattle.esr_core.specs.After.{fetching}
use Rattle.esr_core.specs.Allowed.{Based}
use Rattle.esr_desk.specs.Start.{Start, ticket_of, told_bytes}
use Rattle.esr_desk.specs.Own.{Own, own_of}
use Rattle.esr_desk.specs.Hands.{own_fetched}
use Rattle.esr_desk.specs.Grew.{GrewBy}
use Rattle.esr_unit.specs.Fetch.{IsFetched}
use Rattle.esr_upload.specs.Stored.{IsAt, AreBelow}
use Rattle.esr_upload.specs.Worked.{Worked, Went}
use Rattle.esr_upload.specs.Runs.{worked_none}

pub fetching_worked : (t : Ticket) (name : BlobName) (left : Option Bytes) → Worked t (fetching name left t)
fetching_worked t name None = worked_none t
fetching_worked t name (Some bytes) = record { first = t.first; drawn = t.drawn; noted = t.noted; wrote = t.wrote; read = (name, bytes) ∷ t.read; is = refl }

own_worked : (s : Start) (name : BlobName) (o : Option Bytes) (t : Own) → Worked t.ticket (own_fetched hands.Unit (told_bytes s) name o t).ticket
own_worked s name None t = worked_none t.ticket
own_worked s name (Some bytes) t = fetching_worked t.ticket name (told_bytes s bytes)

-- one that was answered
pub fetch_went : (s : Start) (old new : List Moment) (who : ℕ) (name : BlobName) (o : Option Bytes) → GrewBy s who old new → own_of s new who ≡ own_fetched hands.Unit (told_bytes s) name o (own_of s old who) → Went s old new who
fetch_went s old new who name o grew own = record {
  grew = grew;
  worked = subst (λ (t : Own). Worked (ticket_of s old who) t.ticket) (sym own) (own_worked s name o (own_of s old who));
}

-- or that failed
pub left_went : (s : Start) (old new : List Moment) (who : ℕ) (name : BlobName) → GrewBy s who old new → IsFetched hands.Unit s name (own_of s old who) (own_of s new who) → Went s old new who
left_went s old new who name grew (inl same) = record { grew = grew; worked = subst (λ (t : Own). Worked (ticket_of s old who) t.ticket) (sym same) (worked_none (ticket_of s old who)) }
left_went s old new who name grew (inr (bytes, own)) = fetch_went s old new who name (Some bytes) grew own

-- so the ticket is of the same shard
pub went_work : (s : Start) (old new : List Moment) (who index number : ℕ) → Went s old new who → IsAt (ticket_of s old who) index number → (ticket_of s new who).work ≡ Shard index number
went_work s old new who index number went at = ap (λ (t : Ticket). t.work) went.worked.is ∙ at.work

pub told_has : (tells : Bool) (old new : Ticket) (name : BlobName) (b : Bytes) → new ≡ fetching name (if tells then Some b else None) old → tells ≡ true → Has new.read (name, b)
told_has true old new name b is yes_is = subst (λ (t : Ticket). Has t.read (name, b)) (sym is) (inl refl)
told_has false old new name b is yes_is = absurd cc

pub fetching_base : (t : Ticket) (name : BlobName) (left : Option Bytes) → (read : List (BlobName × Bytes)) × (fetching name left t ≡ record t { read = read }) × ((b : BlobName × Bytes) → Has t.read b → Has read b)
fetching_base t blob None = (t.read, refl, λ b h. h)
fetching_base t blob (Some bytes) = ((blob, bytes) ∷ t.read, refl, λ b h. inr h)

-- a ticket that has committed nothing
pub none_below : (t : Ticket) (id : ℕ) → t.noted ≡ [] → AreBelow t id
none_below t id none = λ name has. absurd (subst (λ (names : List BlobName). Has names name) none has)

pub based_on : (f : Formats) (t u : Ticket) (index number : ℕ) (b : Option ℕ) (v : ShardFiles) → u.read ≡ t.read → Based f t index number b v → Based f u index number b v
based_on f t u index number None v same based = based
based_on f t u index number (Some g) v same based = (based.0, subst (λ (l : List (BlobName × Bytes)). Has l (ShardIndex index number g, based.0)) (sym same) based.1, based.2)
