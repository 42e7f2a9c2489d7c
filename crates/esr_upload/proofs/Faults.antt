-- A base that is at fault, and one that isn't.
use Rattle.std.proofs.Common.{◌≡◌, ◌⊎◌, inl, inr, ℕ, Bool, true, false, List, [], ◌∷◌, map, find, Option, Some, None, refl, sym, ap, ◌∙◌, subst}
use Rattle.std.proofs.lemmas.Bool.{cases_Bool, eqb-true}
use Rattle.esr_names.specs.declared.ids.Id.{Id}
use Rattle.esr_model.specs.Names.{ShardIndex}
use Rattle.esr_model.specs.Values.{Bytes, Has, ShardFiles}
use Rattle.esr_core.specs.World.{Ticket}
use Rattle.esr_core.specs.Entry.{WasFetched, Moment}
use Rattle.esr_core.specs.Allowed.{Based}
use Rattle.esr_shardidx.specs.declared.index.SnapList.{SnapList as CodeList}
use Rattle.esr_shardidx.specs.Indices.{IndexValue, IsShardIndex, has_uuid}
use Rattle.esr_formats.specs.Formats.{formats}
use Rattle.esr_formats.specs.Shards.{snap_list_of, shard_index_of, shard_index_kind}
use Rattle.esr_formats.specs.ReadBack.{shard_index_reads_back}
use Rattle.esr_desk.specs.Start.{Start, formats_of, ticket_of}
use Rattle.esr_desk.specs.declared.hand.Hand.TheVariants as hands
use Rattle.esr_desk.specs.Evidence.{HadFetch}
use Rattle.esr_desk.specs.Unit.Shown.{HasSnapshot, HasDrawn, WasAhead}
use Rattle.esr_upload.specs.Base.{HasBase}
use Rattle.esr_upload.specs.Stored.{IsAt}
use Rattle.esr_upload.specs.Published.{HasIndex}

-- ---- what is ahead

pub has_list : (u : Id) (ls : List CodeList) (l : CodeList) → find (has_uuid u) ls ≡ Some l → Has (map snap_list_of ls) (snap_list_of l) × (l.uuid.number ≡ u.number)
has_list u [] l is = cc
has_list u (x ∷ ls) l is = elim (cases_Bool (has_uuid u x)) [
  | inl here ↦
      let some : ◌≡◌ {A = Option CodeList} (Some x) (Some l) = rw here at is in
      let same : x ≡ l = cc in
      (inl (ap snap_list_of same), subst (λ (y : CodeList). y.uuid.number ≡ u.number) same (eqb-true x.uuid.number u.number here))
  | inr other ↦ let later = has_list u ls l (rw other at is) in (inr later.0, later.1)
]

pub list_ahead : (t : Ticket) (u : Id) (base : IndexValue) (l : CodeList) → t.uuid ≡ u.number → find (has_uuid u) base.snapshots ≡ Some l → HasSnapshot t (shard_index_of base) u.number
list_ahead t u base l own is = let has = has_list u base.snapshots l is in (snap_list_of l, has.0, has.1, sym own)

-- ---- the fault

-- the bytes of the base: those that were read, where the container tells, else its own text
base_bytes : (s : Start) (log : List Moment) (who index number g : ℕ) (base : IndexValue)
    → (s.tells ≡ true → Based (formats_of s) (ticket_of s log who) index number (Some g) (shard_index_of base)) → IsShardIndex base
    → (bytes : Bytes) × (s.tells ≡ true → Has (ticket_of s log who).read (ShardIndex index number g, bytes)) × (shard_index_kind.read bytes ≡ Some (shard_index_of base))
unfolding formats
base_bytes s log who index number g base based whole = elim (cases_Bool s.tells) [
  | inl tells ↦ let read = based tells in (read.0, λ yes_tells. read.1, read.2)
  | inr untold ↦ (shard_index_kind.text (shard_index_of base), λ tells. absurd (contra s.tells tells untold), shard_index_reads_back base whole)
]
  where
    contra : (b : Bool) → b ≡ true → b ≡ false → ⊥
    contra b x y = cc (x, y)

-- the base has this id, which it can't have yet
pub was_ahead : (s : Start) (log : List Moment) (who index number g id : ℕ) (base : IndexValue) → IsAt (ticket_of s log who) index number → (ticket_of s log who).base ≡ Some g
    → HadFetch hands.Unit log who (ShardIndex index number g) WasFetched
    → (s.tells ≡ true → Based (formats_of s) (ticket_of s log who) index number (ticket_of s log who).base (shard_index_of base)) → IsShardIndex base
    → HasSnapshot (ticket_of s log who) (shard_index_of base) id ⊎ HasDrawn (ticket_of s log who) (shard_index_of base) id → WasAhead s log who (ShardIndex index number g) id
was_ahead s log who index number g id base at is had based whole ahead =
    let bytes = base_bytes s log who index number g base (λ tells. subst (λ (b : Option ℕ). Based (formats_of s) (ticket_of s log who) index number b (shard_index_of base)) is (based tells)) whole in
    record {
      base = record { index = index; number = number; base = g; work = at.work; base_is = is; name_is = refl };
      bytes = bytes.0;
      read = record { had = had; read = bytes.1 };
      v = shard_index_of base;
      reads = bytes.2;
      ahead = ahead;
    }

-- ---- no base

empty_based : (s : Start) (t : Ticket) (index number : ℕ) (b : Option ℕ) (base : IndexValue) → b ≡ None → base ≡ record { files = []; snapshots = [] } → Based (formats_of s) t index number b (shard_index_of base)
empty_based s t index number b base none empty = subst (λ (o : Option ℕ). Based (formats_of s) t index number o (shard_index_of base)) (sym none) (ap shard_index_of empty)

empty_whole : (base : IndexValue) → base ≡ record { files = []; snapshots = [] } → IsShardIndex base
empty_whole base empty = subst IsShardIndex (sym empty) (record { entries = tt; rises = tt; lists = tt; named = tt })

pub no_index : (s : Start) (index number : ℕ) (u : Id) (t : Ticket) (base : IndexValue) → t.base ≡ None → base ≡ record { files = []; snapshots = [] } → HasIndex s index number u t t base
no_index s index number u t base none empty = record {
  has_base = record { read = t.read; is = refl; kept = λ b h. h; based = λ tells. empty_based s t index number t.base base none empty };
  none = λ x. empty;
  whole = empty_whole base empty;
  unlisted = ap (λ (v : IndexValue). find (has_uuid u) v.snapshots) empty;
}

pub read_at : (s : Start) (old new : Ticket) (index number : ℕ) (value : ShardFiles) → HasBase s old new index number value → IsAt old index number → IsAt new index number
read_at s old new index number value has at = record {
  out = ap (λ (t : Ticket). t.out) has.is ∙ at.out;
  unsettled = ap (λ (t : Ticket). t.settled) has.is ∙ at.unsettled;
  work = ap (λ (t : Ticket). t.work) has.is ∙ at.work;
}
