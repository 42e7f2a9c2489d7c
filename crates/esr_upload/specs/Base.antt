-- The index on which the unit of a shard builds.
use Rattle.std.specs.Prelude.{◌≡◌, ℕ, Bool, true, nat_le, List, find, Option, Some, None, IsSome}
use Rattle.esr_names.specs.declared.ids.Id.{Id}
use Rattle.esr_names.specs.declared.blob.ShardId.{ShardId}
use Rattle.esr_model.specs.Names.{BlobName, ShardIndex}
use Rattle.esr_model.specs.Values.{Bytes, Has, ShardFiles}
use Rattle.esr_core.specs.World.{Ticket}
use Rattle.esr_core.specs.Entry.{WasFetched, Moment}
use Rattle.esr_core.specs.Allowed.{Based}
use Rattle.esr_shardidx.specs.declared.entry.FileEntry.{FileEntry as CodeEntry}
use Rattle.esr_shardidx.specs.Indices.{IndexValue}
use Rattle.esr_desk.specs.declared.hand.Hand.TheVariants as hands
use Rattle.esr_desk.specs.Start.{Start, formats_of}
use Rattle.esr_desk.specs.Evidence.{HadFetch}
use Rattle.esr_desk.specs.Unit.Shown.{WasAhead}

-- the ticket has read its base, at most
pub record HasBase (s : Start) (old new : Ticket) (index number : ℕ) (value : ShardFiles) : Type 0 where
  pub read : List (BlobName × Bytes)
  pub is : new ≡ record old { read = read }
  pub kept : (b : BlobName × Bytes) → Has old.read b → Has read b
  pub based : s.tells ≡ true → Based (formats_of s) new index number new.base value

-- the base was fetched, if there is one
abbrev pub HasFetched : List Moment → ℕ → ℕ → ℕ → Option Id → Type 0
HasFetched log who index number None = Unit {0}
HasFetched log who index number (Some g) = HadFetch hands.Unit log who (ShardIndex index number g.number) WasFetched

-- the entry has this id, or a later one
abbrev pub is_from : ℕ → CodeEntry → Bool
is_from first e = nat_le first e.name.number

-- The base has an entry of an id from this one on, the first that the ticket drew; the first such entry shows that it is ahead.
pub record IsBaseAhead (s : Start) (log : List Moment) (who : ℕ) (at : ShardId) (generation : Option Id) (base : IndexValue) (first : ℕ) : Type 0 where
  pub some : IsSome generation
  pub there : IsSome (find (is_from first) base.files)
  pub shown : (g : Id) (e : CodeEntry) → generation ≡ Some g → find (is_from first) base.files ≡ Some e → WasAhead s log who (ShardIndex at.index.number at.number g.number) e.name.number
