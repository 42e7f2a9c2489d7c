-- A shard's ticket draws its ids.
use Rattle.std.proofs.Common.{◌≡◌, inl, inr, ℕ, suc, ◌+◌, ◌≤◌, length, Bool, true, false, List, Option, Some, None, option_map, Result, Ok, Err, IfErr, OnOk, refl, sym, ap, ◌∙◌, subst, arith}
use Rattle.esr_upload.proofs.Closing.{tells_some}
use Rattle.esr_names.specs.declared.ids.Id.{Id}
use Rattle.esr_names.specs.declared.blob.ShardId.{ShardId}
use Rattle.esr_model.specs.Values.{Bytes, or_no_files}
use Rattle.esr_core.specs.World.{Ticket, Shard, Deleting}
use Rattle.esr_core.specs.Ready.{IsShard}
use Rattle.esr_core.specs.Steps.{MostDrawn}
use Rattle.esr_core.specs.Allowed.{Based}
use Rattle.esr_source.specs.declared.files.ListedFile.{ListedFile}
use Rattle.esr_source.specs.Told.{SourcesTold}
use Rattle.esr_source.specs.declared.address.Address.{Address}
use Rattle.esr_source.specs.Address.{address}
use Rattle.esr_shardidx.specs.Indices.{IndexValue}
use Rattle.esr_root.specs.Root.{Root}
use Rattle.esr_formats.specs.Ids.{number_of}
use Rattle.esr_formats.specs.Formats.{formats}
use Rattle.esr_formats.specs.Shards.{shard_index_of}
use Rattle.esr_ops.specs.declared.unit.Work.{Work as CodeWork}
use Rattle.esr_ops.specs.declared.unit.Work.TheVariants as works
use Rattle.esr_ops.specs.declared.unit.Copied.{Copied}
use Rattle.esr_reuse.specs.declared.reuse.Planned.{Planned}
use Rattle.esr_desk.specs.Start.{Start, formats_of}
use Rattle.esr_desk.specs.Conditions.{CanDraw, CanFail}
use Rattle.esr_desk.specs.Taken.{TookWork}
use Rattle.esr_desk.specs.Sources.{TellSame, AreSources}
use Rattle.esr_desk.specs.Unit.Shown.{IsOf}
use Rattle.esr_upload.specs.Stored.{IsAt}
use Rattle.esr_upload.specs.Worked.{Worked}
use Rattle.esr_upload.specs.Entries.{new_count}
use Rattle.esr_upload.specs.Published.{IsUnit, IsPlanned, HasIndex, HasDrawn}
use Rattle.esr_upload.proofs.Planning.{count_le}
use Rattle.esr_upload.proofs.Modelled.{as_many}
use Rattle.esr_upload.proofs.Faults.{read_at}

module _ (s : Start) (told : Option (List (Bytes × Bytes))) (is_there : Option Bool) (listed : Option (List ListedFile)) (index number : ℕ) (uuid : Id) (b : Option ℕ) (base : IndexValue) (ps : List Planned) (old read : Ticket)
    (unit : IsUnit s told is_there index number uuid.number b old) (has : HasIndex s index number uuid old read base) (planned : IsPlanned told listed base ps) (there : is_there ≡ Some false → ⊥) where
  read_place : read.place ≡ old.place
  read_place = ap (λ (t : Ticket). t.place) has.has_base.is

  read_name : read.name ≡ old.name
  read_name = ap (λ (t : Ticket). t.name) has.has_base.is

  read_source : read.source ≡ None
  read_source = ap (λ (t : Ticket). t.source) has.has_base.is ∙ unit.source_is

  is_at : IsAt read index number
  is_at = read_at s old read index number (shard_index_of base) has.has_base unit.at

  told_is : s.known read.place read.name number ≡ true → TellSame told (s.told read.place read.name number)
  told_is known =
      let known_old = subst (λ (n : Bytes). s.known old.place n number ≡ true) read_name (subst (λ (p : Bytes). s.known p read.name number ≡ true) read_place known) in
      elim (unit.tells known_old) [
        | inl same ↦ (same.0, same.1, ap (λ (n : Bytes). s.told read.place n number) read_name ∙ ap (λ (p : Bytes). s.told p old.name number) read_place ∙ same.2)
        | inr absent ↦ absurd (there absent)
      ]

  many : length ps ≡ length planned.files
  many = as_many ps planned.files planned.named

  most_at : (k : ℕ) → k ≡ number → s.known read.place read.name k ≡ true → new_count ps + 1 ≤ suc (length (or_no_files (s.told read.place read.name k)))
  most_at k same known =
      let own = subst (λ (n : ℕ). s.known read.place read.name n ≡ true) same known in
      let tell = told_is own in
      let files = tells_some told tell.0 planned.files tell.1 planned.tells in
      let len : length planned.files ≡ length (or_no_files (s.told read.place read.name k)) =
      ap (λ (l : List (Bytes × Bytes)). length l) files ∙ ap (λ (o : Option (List (Bytes × Bytes))). length (or_no_files o)) (sym tell.2)
      ∙ ap (λ (n : ℕ). length (or_no_files (s.told read.place read.name n))) (sym same) in
      let few = count_le ps in
      let all = many in
      omega (arith, few, all, len)

  number_is : (i k : ℕ) → Shard i k ≡ Shard index number → k ≡ number
  number_is i k same = cc

  most_drawn : (i k : ℕ) → read.work ≡ Shard i k → MostDrawn (formats_of s) read k (new_count ps + 1) read.source
  unfolding formats
  most_drawn i k work = subst (λ (o : Option ℕ). MostDrawn (formats_of s) read k (new_count ps + 1) o) (sym read_source) (λ known. most_at k (number_is i k (sym work ∙ is_at.work)) known)

  pub can_draw : (n : ℕ) → n ≡ new_count ps → CanDraw s read (n + 1)
  can_draw n count = subst (λ (m : ℕ). CanDraw s read (m + 1)) (sym count) (record {
    out = is_at.out;
    shard = subst IsShard (sym is_at.work) tt;
    once = ap (λ (t : Ticket). t.drawn) has.has_base.is ∙ unit.undrawn;
    some = omega arith;
    most = most_drawn;
    few = let few = count_le ps in let all = many in let bound = planned.few in omega (arith, few, all, bound);
  })

  pub has_drawn : (first n : ℕ) (new : Ticket) → n ≡ new_count ps → new ≡ record read { first = first; drawn = n + 1 } → HasDrawn s told listed index number uuid base ps first new
  has_drawn first n new count is = subst (λ (t : Ticket). HasDrawn s told listed index number uuid base ps first t) (sym is) (record {
    at = record { out = is_at.out; unsettled = is_at.unsettled; work = is_at.work };
    uuid_is = ap (λ (t : Ticket). t.uuid) has.has_base.is ∙ unit.uuid_is;
    from = refl;
    drawn = ap (λ (m : ℕ). m + 1) count;
    unnoted = ap (λ (t : Ticket). t.noted) has.has_base.is ∙ unit.unnoted;
    unwritten = ap (λ (t : Ticket). t.wrote) has.has_base.is ∙ unit.unwritten;
    source_is = read_source;
    based = λ tells. based_in read.base (has.has_base.based tells);
    none = has.none;
    whole = has.whole;
    unlisted = has.unlisted;
    planned = planned;
    tells = told_is;
  })
    where
      based_in : (o : Option ℕ) → Based (formats_of s) read index number o (shard_index_of base) → Based (formats_of s) (record read { first = first; drawn = n + 1 }) index number o (shard_index_of base)
      based_in None based = based
      based_in (Some g) based = based

-- for a shard as it is after it was read
pub drawn_for : (s : Start) (listed : Option (List ListedFile)) (index number : ℕ) (uuid : Id) (base : IndexValue) (ps qs : List Planned) (first : ℕ) (t : Ticket) (o q : Option (List (Bytes × Bytes))) → q ≡ o → qs ≡ ps
    → HasDrawn s o listed index number uuid base ps first t → HasDrawn s q listed index number uuid base qs first t
drawn_for s listed index number uuid base ps qs first t o q same list drawn =
    subst (λ (x : Option (List (Bytes × Bytes))). HasDrawn s x listed index number uuid base qs first t) (sym same) (subst (λ (l : List Planned). HasDrawn s o listed index number uuid base l first t) (sym list) drawn)

-- it may fail, however far it went
pub shard_fails : (work : CodeWork) (root : Option Root) (op : ℕ) (copy : Copied) (old new : Ticket) (uuid : Id) (at : ShardId) (name place : Bytes) → work ≡ works.Shard uuid at name place → TookWork work root op copy old → Worked old new
    → CanFail new
shard_fails work root op copy old new uuid at name place is took worked =
    let took_it = subst (λ (w : CodeWork). TookWork w root op copy old) is took in
    let work_is : new.work ≡ Shard at.index.number at.number = ap (λ (x : Ticket). x.work) worked.is ∙ ap (λ (x : Ticket). x.work) took_it.1 in
    record {
      out = ap (λ (x : Ticket). x.out) worked.is ∙ ap (λ (x : Ticket). x.out) took_it.1;
      unsettled = ap (λ (x : Ticket). x.settled) worked.is ∙ ap (λ (x : Ticket). x.settled) took_it.1;
      unit = inl (subst IsShard (sym work_is) tt);
      unpruned = λ uuids plan deletes. let same : Shard at.index.number at.number ≡ Deleting uuids plan = sym work_is ∙ deletes in cc;
    }

-- a shard's unit that was taken, with what is told of its shard
pub took_unit : (s : Start) (c : SourcesTold) (work : CodeWork) (root : Option Root) (op : ℕ) (copy : Copied) (t : Ticket) (uuid : Id) (at : ShardId) (name place : Bytes)
    → AreSources s c → work ≡ works.Shard uuid at name place → TookWork work root op copy t
    → (told : Option (List (Bytes × Bytes))) (there : Option Bool) → told ≡ c.files place name at.number → there ≡ c.is_there place name at.number
    → IsUnit s told there at.index.number at.number uuid.number (option_map number_of copy.base) t
took_unit s c work root op copy t uuid at name place sources is took told there told_is there_is =
    let took_it = subst (λ (w : CodeWork). TookWork w root op copy t) is took in
    subst (λ (x : Ticket). IsUnit s told there at.index.number at.number uuid.number (option_map number_of copy.base) x) (sym took_it.1) (record {
      at = record { out = refl; unsettled = refl; work = refl };
      undrawn = refl;
      unnoted = refl;
      unwritten = refl;
      uuid_is = refl;
      base_is = refl;
      source_is = refl;
      tells = λ known. elim (sources.told place name at.number known) [
        | inl same ↦ inl (same.0, told_is ∙ same.1, same.2)
        | inr absent ↦ inr (there_is ∙ absent.0)
      ];
    })

-- the ticket is that of the address that its shard was made for
pub took_of : (work : CodeWork) (root : Option Root) (op : ℕ) (copy : Copied) (t : Ticket) (uuid : Id) (at : ShardId) (name place : Bytes) → work ≡ works.Shard uuid at name place → TookWork work root op copy t
    → (a : Address) → a ≡ address place name at.number → IsOf t a
took_of work root op copy t uuid at name place is took a made =
    let took_it = subst (λ (w : CodeWork). TookWork w root op copy t) is took in
    subst (λ (b : Address). IsOf t b) (sym made) (record {
      index = at.index.number;
      work = ap (λ (x : Ticket). x.work) took_it.1;
      source = ap (λ (x : Ticket). x.source) took_it.1;
      place = ap (λ (x : Ticket). x.place) took_it.1;
      name = ap (λ (x : Ticket). x.name) took_it.1;
    })

pub ok_on : {T E : Type 0} {A B : Type 0} (r : Result T E) → (A → B) → OnOk r A → OnOk r B
ok_on (Ok x) f h = f h
ok_on (Err e) f h = tt

pub err_on : {T E : Type 0} {A B : Type 0} (r : Result T E) → (A → B) → IfErr r (λ e. A) → IfErr r (λ e. B)
err_on (Ok x) f h = tt
err_on (Err e) f h = f h
