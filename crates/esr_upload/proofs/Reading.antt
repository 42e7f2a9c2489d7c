-- The base of a shard's ticket is fetched and read.
use Rattle.std.proofs.Common.{◌≡◌, ◌<◌, inl, ℕ, List, Option, Some, None, refl, sym, ap, ◌∙◌, subst}
use Rattle.esr_names.specs.declared.ids.Id.{Id}
use Rattle.esr_names.specs.declared.blob.ShardId.{ShardId}
use Rattle.esr_names.specs.declared.blob.BlobName.TheVariants as names
use Rattle.esr_names.specs.Layout.{IsName}
use Rattle.esr_model.specs.Names.{BlobName, ShardIndex}
use Rattle.esr_model.specs.Values.{Bytes, ShardFiles}
use Rattle.esr_core.specs.World.{Ticket, Shard}
use Rattle.esr_core.specs.Steps.{IsToFetch}
use Rattle.esr_core.specs.Entry.{FetchStep, WasFetched, WasAbsent, Moment}
use Rattle.esr_core.specs.After.{fetching}
use Rattle.esr_core.specs.Allowed.{Based}
use Rattle.esr_json.specs.declared.refusal.ReadRefusal.{ReadRefusal}
use Rattle.esr_json.specs.declared.refusal.ReadRefusal.TheVariants as refusals
use Rattle.esr_json.specs.Steps.{Fails}
use Rattle.esr_shardidx.specs.Indices.{shard_index_from}
use Rattle.esr_formats.specs.Reasons.{reason_of, refused, unreadable, refused_for}
use Rattle.esr_formats.specs.Formats.{formats}
use Rattle.esr_formats.specs.Shards.{shard_index_kind}
use Rattle.esr_desk.specs.declared.hand.Hand.TheVariants as hands
use Rattle.esr_desk.specs.declared.entry.Why.TheVariants as whys
use Rattle.esr_desk.specs.Start.{Start, formats_of, ticket_of, told_bytes}
use Rattle.esr_desk.specs.Own.{Own, own_of}
use Rattle.esr_desk.specs.Hands.{own_fetched}
use Rattle.esr_desk.specs.Outcome.{Stepped, fetch_reply}
use Rattle.esr_desk.specs.Evidence.{Evidence, HadFetch}
use Rattle.esr_unit.specs.declared.trouble.Trouble.{Trouble}
use Rattle.esr_unit.specs.declared.trouble.Trouble.TheVariants as troubles
use Rattle.esr_unit.specs.Ending.{unread_as}
use Rattle.esr_unit.specs.Refusals.{stepped_had}
use Rattle.esr_upload.specs.Base.{HasBase}
use Rattle.esr_upload.specs.Stored.{IsAt}
use Rattle.esr_upload.specs.Trouble.{Shown}
use Rattle.esr_upload.specs.BaseReads.{fetching_worked, told_has, fetching_base}

-- ---- what a fetch makes of the ticket

-- the name of an index is one of the layout
pub index_name : (shard : ShardId) (base : Id) → shard.number < 1024 → IsName (names.ShardIndex shard base)
unfolding IsName
index_name shard base few = few

-- ---- the base is at fault

-- the ticket is to fetch it
to_fetch : (t : Ticket) (shard : ShardId) (base : Id) → t.work ≡ Shard shard.index.number shard.number → t.base ≡ Some base.number → IsToFetch t (ShardIndex shard.index.number shard.number base.number)
to_fetch t shard base work is = (shard.index.number, shard.number, work, inl (base.number, is, refl))

module _ {S F H T : Type 0} (e : Evidence S F H T) (n : ℕ) (files : Option (List (Bytes × Bytes))) (s : Start) (old new : List Moment) (who : ℕ) (shard : ShardId) (base : Id)
    (at : IsAt (ticket_of s old who) shard.index.number shard.number) (base_is : (ticket_of s old who).base ≡ Some base.number) where
  abbrev pub name : BlobName
  name = ShardIndex shard.index.number shard.number base.number

  -- it was absent
  pub absent_shown : (o : Option Bytes) → o ≡ None → Stepped s old new who (FetchStep name) (fetch_reply o) → own_of s new who ≡ own_fetched hands.Unit (told_bytes s) name o (own_of s old who)
      → Shown {S = S} {F = F} {H = H} {T = T} e n files s new who (troubles.Found (whys.Absent (names.ShardIndex shard base)))
  absent_shown None none step own = (
    (
      to_fetch (ticket_of s new who) shard base (ap (λ (t : Own). t.ticket.work) own ∙ at.work) (ap (λ (t : Own). t.ticket.base) own ∙ base_is),
      stepped_had s old new who (FetchStep name) WasAbsent step,
    ),
    tt,
  )
  absent_shown (Some b) none step own = absurd cc

  -- its bytes don't read: the reader's reason is the first there is
  unread_at : (b read : Bytes) (r : ReadRefusal) → ticket_of s new who ≡ fetching name (told_bytes s b) (ticket_of s old who) → HadFetch hands.Unit new who name WasFetched → read ≡ b → Fails r (shard_index_from read)
      → Shown {S = S} {F = F} {H = H} {T = T} e n files s new who (unread_as (names.ShardIndex shard base) r)
  unfolding unreadable
  unread_at b read refusals.Memory fetched had one fails = (tt, tt)
  unread_at b read (refusals.Damaged why) fetched had one fails =
      let first = subst (λ (x : Bytes). refused (shard_index_from x) ≡ Some (reason_of why)) one (refused_for (shard_index_from read) (refusals.Damaged why) why refl fails) in
      let worked = fetching_worked (ticket_of s old who) name (told_bytes s b) in
      let same = fetched ∙ worked.is in (
        (
          to_fetch (ticket_of s new who) shard base (ap (λ (t : Ticket). t.work) same ∙ at.work) (ap (λ (t : Ticket). t.base) same ∙ base_is),
          (b, record { had = had; read = λ tells. told_has s.tells (ticket_of s old who) (ticket_of s new who) name b fetched tells }, first),
        ),
        tt,
      )

  pub unread_shown : (b read : Bytes) (r : ReadRefusal) (trouble : Trouble S F) → ticket_of s new who ≡ fetching name (told_bytes s b) (ticket_of s old who) → HadFetch hands.Unit new who name WasFetched → read ≡ b
      → Fails r (shard_index_from read) → trouble ≡ unread_as (names.ShardIndex shard base) r → Shown {S = S} {F = F} {H = H} {T = T} e n files s new who trouble
  unread_shown b read r trouble fetched had one fails is =
      subst (λ (x : Trouble S F). Shown {S = S} {F = F} {H = H} {T = T} e n files s new who x) (sym is) (unread_at b read r fetched had one fails)

-- ---- the base is read

pub has_base : (s : Start) (old new : Ticket) (index number base : ℕ) (b : Bytes) (value : ShardFiles) → old.base ≡ Some base → new ≡ fetching (ShardIndex index number base) (told_bytes s b) old
    → shard_index_kind.read b ≡ Some value → HasBase s old new index number value
unfolding formats
has_base s old new index number base b value is fetched reads =
    let more = fetching_base old (ShardIndex index number base) (told_bytes s b) in
    let same = fetched ∙ more.1 in record {
      read = more.0;
      is = same;
      kept = λ b h. more.2 b h;
      based = λ tells. subst (λ (o : Option ℕ). Based (formats_of s) new index number o value) (sym (ap (λ (t : Ticket). t.base) same ∙ is)) (b, told_has s.tells old new (ShardIndex index number base) b fetched tells, reads);
    }
