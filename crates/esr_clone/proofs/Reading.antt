-- What the source of a clone has of the shard is fetched and read.
use Rattle.std.proofs.Common.{◌≡◌, ◌<◌, inr, ⊎_elim, ℕ, List, [], Option, Some, None, refl, sym, ap, ◌∙◌, subst}
use Rattle.esr_names.specs.declared.ids.Id.{Id}
use Rattle.esr_names.specs.declared.blob.ShardId.{ShardId}
use Rattle.esr_names.specs.declared.blob.BlobName.TheVariants as names
use Rattle.esr_names.specs.Layout.{IsName}
use Rattle.esr_model.specs.Names.{BlobName, ShardSnap, ShardIndex}
use Rattle.esr_model.specs.Values.{Bytes, Has, ShardSnapshot}
use Rattle.esr_core.specs.World.{Ticket}
use Rattle.esr_core.specs.Steps.{IsToFetch}
use Rattle.esr_core.specs.Entry.{Step, FetchStep, Reply, WasFetched, WasAbsent, Entry, Moment}
use Rattle.esr_core.specs.After.{fetching}
use Rattle.esr_core.specs.Past.{Repeats}
use Rattle.esr_json.specs.declared.refusal.ReadRefusal.{ReadRefusal}
use Rattle.esr_json.specs.declared.refusal.ReadRefusal.TheVariants as refusals
use Rattle.esr_json.specs.Steps.{Fails}
use Rattle.esr_shardidx.specs.Snapshots.{shard_snap_from}
use Rattle.esr_formats.specs.Reasons.{reason_of, refused, unreadable, refused_for}
use Rattle.esr_formats.specs.Formats.{formats}
use Rattle.esr_formats.specs.Shards.{shard_snap_kind}
use Rattle.esr_desk.specs.declared.hand.Hand.TheVariants as hands
use Rattle.esr_desk.specs.declared.entry.Why.TheVariants as whys
use Rattle.esr_desk.specs.Start.{Start, ticket_of, told_bytes}
use Rattle.esr_desk.specs.Own.{Own, own_of, made_of}
use Rattle.esr_desk.specs.Once.{IsFresh}
use Rattle.esr_desk.specs.Hands.{own_fetched}
use Rattle.esr_desk.specs.Outcome.{Stepped, fetch_reply}
use Rattle.esr_desk.specs.Evidence.{Evidence, HadFetch}
use Rattle.esr_unit.specs.declared.trouble.Trouble.{Trouble}
use Rattle.esr_unit.specs.declared.trouble.Trouble.TheVariants as troubles
use Rattle.esr_unit.specs.Ending.{unread_as}
use Rattle.esr_unit.specs.Fetch.{MadeOne}
use Rattle.esr_unit.specs.Refusals.{stepped_had}
use Rattle.esr_upload.specs.Stored.{IsAt}
use Rattle.esr_upload.specs.Trouble.{Shown}
use Rattle.esr_upload.specs.BaseReads.{told_has, fetching_worked, fetching_base}
use Rattle.esr_clone.specs.Copied.{HasSource}

-- its name is one of the layout
pub snap_name : (at : ShardId) (source : Id) → at.number < 1024 → IsName (names.ShardSnap at source)
unfolding IsName
snap_name at source few = few

-- it is what the ticket is to fetch
pub to_fetch : (t : Ticket) (index number source : ℕ) → IsAt t index number → t.source ≡ Some source → IsToFetch t (ShardSnap index number source)
to_fetch t index number source at is = (index, number, at.work, inr (source, is, refl))

still_to_fetch : (t u : Ticket) (index number source : ℕ) → u.work ≡ t.work → u.source ≡ t.source → IsAt t index number → t.source ≡ Some source → IsToFetch u (ShardSnap index number source)
still_to_fetch t u index number source work same at is = (index, number, work ∙ at.work, inr (source, same ∙ is, refl))

-- after it was fetched each index is new to the ticket
pub index_new : (s : Start) (old new : List Moment) (who index number source generation : ℕ) → made_of s old who ≡ [] → MadeOne s old new who (FetchStep (ShardSnap index number source))
    → IsFresh s new who (FetchStep (ShardIndex index number generation))
index_new s old new who index number source generation none made e has same = ⊎_elim
    (λ (before : Has (made_of s old who) e). absurd (subst (λ (entries : List Entry). Has entries e) none before))
    (λ (here : e.step ≡ FetchStep (ShardSnap index number source)). differ (subst (λ (x : Step). Repeats x (FetchStep (ShardIndex index number generation))) here same))
    (made e has)
  where
    differ : ShardSnap index number source ≡ ShardIndex index number generation → ⊥
    differ e = cc

-- it was there
pub came_fetched : (s : Start) (old new : List Moment) (who : ℕ) (name : BlobName) (o : Option Bytes) (b : Bytes) → o ≡ Some b → own_of s new who ≡ own_fetched hands.Unit (told_bytes s) name o (own_of s old who)
    → ticket_of s new who ≡ fetching name (told_bytes s b) (ticket_of s old who)
came_fetched s old new who name o b is own = ap (λ (x : Own). x.ticket) (own ∙ ap (λ (y : Option Bytes). own_fetched hands.Unit (told_bytes s) name y (own_of s old who)) is)

pub came_found : (s : Start) (old new : List Moment) (who : ℕ) (name : BlobName) (o : Option Bytes) (b : Bytes) → o ≡ Some b → Stepped s old new who (FetchStep name) (fetch_reply o) → HadFetch hands.Unit new who name WasFetched
came_found s old new who name o b is step =
    stepped_had s old new who (FetchStep name) WasFetched (subst (λ (reply : Reply). Stepped s old new who (FetchStep name) reply) (ap (λ (x : Option Bytes). fetch_reply x) is) step)

module _ {S F H T : Type 0} (e : Evidence S F H T) (n : ℕ) (files : Option (List (Bytes × Bytes))) (s : Start) (old new : List Moment) (who : ℕ) (at : ShardId) (source : Id)
    (is_at : IsAt (ticket_of s old who) at.index.number at.number) (source_is : (ticket_of s old who).source ≡ Some source.number) where
  abbrev pub name : BlobName
  name = ShardSnap at.index.number at.number source.number

  -- it was absent
  pub absent_shown : (o : Option Bytes) → o ≡ None → Stepped s old new who (FetchStep name) (fetch_reply o) → own_of s new who ≡ own_fetched hands.Unit (told_bytes s) name o (own_of s old who)
      → Shown {S = S} {F = F} {H = H} {T = T} e n files s new who (troubles.Found (whys.Absent (names.ShardSnap at source)))
  absent_shown None none step own = (
    (
      still_to_fetch (ticket_of s old who) (ticket_of s new who) at.index.number at.number source.number (ap (λ (t : Own). t.ticket.work) own) (ap (λ (t : Own). t.ticket.source) own) is_at source_is,
      stepped_had s old new who (FetchStep name) WasAbsent step,
    ),
    tt,
  )
  absent_shown (Some b) none step own = absurd cc

  -- its bytes don't read: the reader's reason is the first there is
  unread_at : (b read : Bytes) (r : ReadRefusal) → ticket_of s new who ≡ fetching name (told_bytes s b) (ticket_of s old who) → HadFetch hands.Unit new who name WasFetched → read ≡ b → Fails r (shard_snap_from read)
      → Shown {S = S} {F = F} {H = H} {T = T} e n files s new who (unread_as (names.ShardSnap at source) r)
  unfolding unreadable
  unread_at b read refusals.Memory fetched had one fails = (tt, tt)
  unread_at b read (refusals.Damaged why) fetched had one fails =
      let first = subst (λ (x : Bytes). refused (shard_snap_from x) ≡ Some (reason_of why)) one (refused_for (shard_snap_from read) (refusals.Damaged why) why refl fails) in
      let worked = fetching_worked (ticket_of s old who) name (told_bytes s b) in
      let same = fetched ∙ worked.is in (
        (
          still_to_fetch (ticket_of s old who) (ticket_of s new who) at.index.number at.number source.number (ap (λ (t : Ticket). t.work) same) (ap (λ (t : Ticket). t.source) same) is_at source_is,
          (b, record { had = had; read = λ tells. told_has s.tells (ticket_of s old who) (ticket_of s new who) name b fetched tells }, first),
        ),
        tt,
      )

  pub unread_shown : (b read : Bytes) (r : ReadRefusal) (trouble : Trouble S F) → ticket_of s new who ≡ fetching name (told_bytes s b) (ticket_of s old who) → HadFetch hands.Unit new who name WasFetched → read ≡ b
      → Fails r (shard_snap_from read) → trouble ≡ unread_as (names.ShardSnap at source) r → Shown {S = S} {F = F} {H = H} {T = T} e n files s new who trouble
  unread_shown b read r trouble fetched had one fails is =
      subst (λ (x : Trouble S F). Shown {S = S} {F = F} {H = H} {T = T} e n files s new who x) (sym is) (unread_at b read r fetched had one fails)

-- it reads
pub has_source : (s : Start) (old new : Ticket) (index number source : ℕ) (b : Bytes) (value : ShardSnapshot) → new ≡ fetching (ShardSnap index number source) (told_bytes s b) old → shard_snap_kind.read b ≡ Some value
    → HasSource s old new index number source value
unfolding formats
has_source s old new index number source b value fetched reads =
    let more = fetching_base old (ShardSnap index number source) (told_bytes s b) in record {
      read = more.0;
      is = fetched ∙ more.1;
      read_as = λ tells. record { bytes = b; there = told_has s.tells old new (ShardSnap index number source) b fetched tells; reads = reads };
    }
