-- The indices of shards are fetched and read.
use Rattle.std.proofs.Common.{◌≡◌, ◌<◌, inl, inr, ⊎_elim, ℕ, ◌==◌, ◌&&◌, Bool, true, false, List, [], ◌∷◌, ◌++◌, Option, Some, None, refl, sym, ap, ◌∙◌, subst}
use Rattle.std.specs.Prelude.{if◌then◌else◌}
use Rattle.std.proofs.lemmas.Bool.{eq-eqb}
use Rattle.esr_model.specs.Lists.{Has-append, Has-left, Has-right}
use Rattle.esr_names.specs.declared.ids.Id.{Id}
use Rattle.esr_names.specs.declared.blob.ShardId.{ShardId}
use Rattle.esr_names.specs.declared.blob.BlobName.TheVariants as names
use Rattle.esr_names.specs.Layout.{IsName}
use Rattle.esr_model.specs.Names.{BlobName, ShardIndex}
use Rattle.esr_model.specs.Values.{Bytes, Has, RootData, ShardFiles, Formats}
use Rattle.esr_model.specs.Image.{Generation, at_shard_of, index_at}
use Rattle.esr_model.specs.Delete.{PrunedShard, is_index, index_bytes, files_by, files_read}
use Rattle.esr_core.specs.World.{Ticket}
use Rattle.esr_core.specs.Entry.{Step, PruneStep, FetchShard, Reply, WasFetched, WasAbsent, Entry, Moment}
use Rattle.esr_core.specs.Past.{Repeats}
use Rattle.esr_core.specs.After.{fetching}
use Rattle.esr_core.specs.Pruning.{IsToRead, AreOfRoot, bare_shard}
use Rattle.esr_core.specs.Laws.Tests.{pair_tells}
use Rattle.esr_core.specs.Laws.DeletePlans.{in_root}
use Rattle.esr_json.specs.declared.refusal.Reason.{Reason}
use Rattle.esr_json.specs.declared.refusal.ReadRefusal.{ReadRefusal}
use Rattle.esr_json.specs.declared.refusal.ReadRefusal.TheVariants as refusals
use Rattle.esr_json.specs.Steps.{Fails}
use Rattle.esr_shardidx.specs.Indices.{shard_index_from}
use Rattle.esr_formats.specs.Formats.{formats}
use Rattle.esr_formats.specs.Reasons.{reason_of, refused, unreadable, refused_for}
use Rattle.esr_formats.specs.Shards.{shard_index_kind}
use Rattle.esr_reach.specs.Held.{HeldShard, held_at, Holds}
use Rattle.esr_dooming.specs.Reading.{HasToRead}
use Rattle.esr_desk.specs.Start.{Start, formats_of, ticket_of, told_bytes}
use Rattle.esr_desk.specs.Outcome.{Stepped, fetch_reply}
use Rattle.esr_desk.specs.declared.hand.Hand.TheVariants as hands
use Rattle.esr_desk.specs.declared.refusal.StepRefusal.{StepRefusal}
use Rattle.esr_desk.specs.Own.{Own, own_of, made_of}
use Rattle.esr_desk.specs.Hands.{own_fetched}
use Rattle.esr_desk.specs.Once.{IsFresh}
use Rattle.esr_desk.specs.Grew.{GrewBy, grew_by_none, grew_by_on}
use Rattle.esr_desk.specs.Evidence.{Evidence, HadFetch, WasUnreadable}
use Rattle.esr_desk.specs.Delete.Conditions.{CanFetchShard}
use Rattle.esr_desk.specs.Delete.Shown.{IsOfDelete}
use Rattle.esr_unit.specs.declared.trouble.Trouble.{Trouble}
use Rattle.esr_unit.specs.declared.trouble.Trouble.TheVariants as troubles
use Rattle.esr_unit.specs.Ending.{unread_as}
use Rattle.esr_unit.specs.Fetch.{FetchErr, IsFetched, MadeOne}
use Rattle.esr_unit.specs.Shown.{Shown}
use Rattle.esr_unit.specs.Refusals.{RefusesSo, stepped_had}
use Rattle.esr_delete.specs.Gathered.{IsUnplanned, HasRead, index_name, MadeFetches, HasMadeFetches, HoldsRead, AreGathered, IsGathered, HasFetched, IsSoFar}
use Rattle.esr_delete.proofs.Going.{read_on, read_same, read_fetched, prune_shown}

-- the name of an index is one of the layout
pub index_laid : (shard : ShardId) (base : Id) → shard.number < 1024 → IsName (names.ShardIndex shard base)
unfolding IsName
index_laid shard base few = few

-- ---- one fetch

-- it has read more at most
pub left_read : (s : Start) (old new : List Moment) (who : ℕ) (name : BlobName) → IsFetched hands.Delete s name (own_of s old who) (own_of s new who) → HasRead (ticket_of s old who) (ticket_of s new who)
left_read s old new who name (inl same) = read_same (ticket_of s old who) (ticket_of s new who) (ap (λ (o : Own). o.ticket) same)
left_read s old new who name (inr fetched) = read_fetched (ticket_of s old who) (ticket_of s new who) name (told_bytes s fetched.0) (ap (λ (o : Own). o.ticket) fetched.1)

pub came_read : (s : Start) (old new : List Moment) (who : ℕ) (name : BlobName) (o : Option Bytes) → own_of s new who ≡ own_fetched hands.Delete (told_bytes s) name o (own_of s old who) → HasRead (ticket_of s old who) (ticket_of s new who)
came_read s old new who name None own = read_same (ticket_of s old who) (ticket_of s new who) (ap (λ (x : Own). x.ticket) own)
came_read s old new who name (Some bytes) own = read_fetched (ticket_of s old who) (ticket_of s new who) name (told_bytes s bytes) (ap (λ (x : Own). x.ticket) own)

-- it was there
pub came_fetched : (s : Start) (old new : List Moment) (who : ℕ) (name : BlobName) (o : Option Bytes) (b : Bytes) → o ≡ Some b → own_of s new who ≡ own_fetched hands.Delete (told_bytes s) name o (own_of s old who)
    → ticket_of s new who ≡ fetching name (told_bytes s b) (ticket_of s old who)
came_fetched s old new who name o b is own = ap (λ (x : Own). x.ticket) (own ∙ ap (λ (y : Option Bytes). own_fetched hands.Delete (told_bytes s) name y (own_of s old who)) is)

pub came_found : (s : Start) (old new : List Moment) (who : ℕ) (name : BlobName) (o : Option Bytes) (b : Bytes) → o ≡ Some b → Stepped s old new who (PruneStep (FetchShard name)) (fetch_reply o)
    → HadFetch hands.Delete new who name WasFetched
came_found s old new who name o b is step =
    stepped_had s old new who (PruneStep (FetchShard name)) WasFetched (subst (λ (reply : Reply). Stepped s old new who (PruneStep (FetchShard name)) reply) (ap (λ (x : Option Bytes). fetch_reply x) is) step)

-- the index is one that is to be read
of_delete : (old new : Ticket) (name : BlobName) → CanFetchShard old name → HasRead old new → IsOfDelete new name
of_delete old new name can read = subst (λ (t : Ticket). IsOfDelete t name) (sym read.is) (record {
  uuids = can.uuids;
  plan = None;
  work = can.work;
  unsettled = can.unsettled;
  index = can.index;
  number = can.number;
  base = can.base;
  to_read = can.to_read;
  name_is = can.name_is;
})

-- it was absent
pub was_absent : (s : Start) (old new : List Moment) (who : ℕ) (name : BlobName) (o : Option Bytes) → o ≡ None → CanFetchShard (ticket_of s old who) name → Stepped s old new who (PruneStep (FetchShard name)) (fetch_reply o)
    → own_of s new who ≡ own_fetched hands.Delete (told_bytes s) name o (own_of s old who) → IsOfDelete (ticket_of s new who) name × HadFetch hands.Delete new who name WasAbsent
was_absent s old new who name o none can step own = (
  of_delete (ticket_of s old who) (ticket_of s new who) name can (came_read s old new who name o own),
  stepped_had s old new who (PruneStep (FetchShard name)) WasAbsent (subst (λ (reply : Reply). Stepped s old new who (PruneStep (FetchShard name)) reply) (ap (λ (x : Option Bytes). fetch_reply x) none) step),
)

-- the fetch was refused, or memory was wanting as it was read, or it failed
pub fetch_shown : {S F H T : Type 0} (e : Evidence S F H T) (s : Start) (old new : List Moment) (who : ℕ) (name : BlobName) (trouble : Trouble S F) → RefusesSo → CanFetchShard (ticket_of s old who) name
    → HasRead (ticket_of s old who) (ticket_of s new who) → FetchErr e.fetch_faults s old new who (PruneStep (FetchShard name)) trouble → Shown {S = S} {F = F} {H = H} {T = T} hands.Delete e ⊥ s new who trouble
fetch_shown {S} {F} {H} {T} e s old new who name (troubles.Step refusal) law can read (inl refused) =
    prune_shown {S = S} {F = F} {H = H} {T = T} e s old new who (FetchShard name) refusal can.uuids None law (ap (λ (t : Ticket). t.out) read.is ∙ can.out) (ap (λ (t : Ticket). t.work) read.is ∙ can.work) refused
fetch_shown {S} {F} {H} {T} e s old new who name (troubles.Step refusal) law can read (inr memory) = subst (λ (r : StepRefusal). Shown {S = S} {F = F} {H = H} {T = T} hands.Delete e ⊥ s new who (troubles.Step r)) (sym memory) tt
fetch_shown e s old new who name (troubles.Fetch fetch) law can read h = h
fetch_shown e s old new who name trouble law can read h = absurd h

told_has : (tells : Bool) (old new : Ticket) (name : BlobName) (b : Bytes) → new ≡ fetching name (if tells then Some b else None) old → tells ≡ true → Has new.read (name, b)
told_has true old new name b is yes_is = subst (λ (t : Ticket). Has t.read (name, b)) (sym is) (inl refl)
told_has false old new name b is yes_is = absurd cc

-- its bytes don't read: the reader's reason is the first there is
was_damaged : (s : Start) (old new : List Moment) (who index number base : ℕ) (b read : Bytes) (why : Reason) → CanFetchShard (ticket_of s old who) (ShardIndex index number base)
    → ticket_of s new who ≡ fetching (ShardIndex index number base) (told_bytes s b) (ticket_of s old who) → HadFetch hands.Delete new who (ShardIndex index number base) WasFetched → read ≡ b
    → Fails (refusals.Damaged why) (shard_index_from read)
    → IsOfDelete (ticket_of s new who) (ShardIndex index number base) × WasUnreadable hands.Delete s new who (ShardIndex index number base) (reason_of why)
unfolding unreadable
was_damaged s old new who index number base b read why can fetched had one fails =
    let name = ShardIndex index number base in
    let first = subst (λ (x : Bytes). refused (shard_index_from x) ≡ Some (reason_of why)) one (refused_for (shard_index_from read) (refusals.Damaged why) why refl fails) in (
      of_delete (ticket_of s old who) (ticket_of s new who) name can (read_fetched (ticket_of s old who) (ticket_of s new who) name (told_bytes s b) fetched),
      (b, record { had = had; read = told_has s.tells (ticket_of s old who) (ticket_of s new who) name b fetched }, first),
    )

pub unread_shown : {S F H T : Type 0} (e : Evidence S F H T) (s : Start) (old new : List Moment) (who : ℕ) (shard : ShardId) (base : Id) (b read : Bytes) (r : ReadRefusal)
    → CanFetchShard (ticket_of s old who) (ShardIndex shard.index.number shard.number base.number)
    → ticket_of s new who ≡ fetching (ShardIndex shard.index.number shard.number base.number) (told_bytes s b) (ticket_of s old who) → HadFetch hands.Delete new who (ShardIndex shard.index.number shard.number base.number) WasFetched
    → read ≡ b
    → Fails r (shard_index_from read) → Shown {S = S} {F = F} {H = H} {T = T} hands.Delete e ⊥ s new who (unread_as {S = S} {F = F} (names.ShardIndex shard base) r)
unread_shown e s old new who shard base b read refusals.Memory can fetched had one fails = tt
unread_shown e s old new who shard base b read (refusals.Damaged why) can fetched had one fails = was_damaged s old new who shard.index.number shard.number base.number b read why can fetched had one fails

-- ---- what is held

-- the index of a shard is found first
own_index : (p : PrunedShard) (bytes : Bytes) (blobs : List (BlobName × Bytes)) → index_bytes ((index_name p, bytes) ∷ blobs) p ≡ Some bytes
own_index p bytes blobs =
    let test : is_index p.index p.number p.base (index_name p) ≡ true = all_equal p.index p.number p.base in
    ap (λ (b : Bool). if b then Some bytes else index_bytes blobs p) test
  where
    all_equal : (i k g : ℕ) → (((i == i) && (k == k)) && (g == g)) ≡ true
    all_equal i k g = λ j. (eq-eqb i i refl j && eq-eqb k k refl j) && eq-eqb g g refl j

-- that of another is none of its
other_index : (p q : PrunedShard) (bytes : Bytes) (blobs : List (BlobName × Bytes)) → ((p.index == q.index) && (p.number == q.number)) ≡ false → index_bytes ((index_name p, bytes) ∷ blobs) q ≡ index_bytes blobs q
other_index p q bytes blobs other =
    let test : is_index q.index q.number q.base (index_name p) ≡ false = ap (λ (b : Bool). b && (p.base == q.base)) other in
    ap (λ (b : Bool). if b then Some bytes else index_bytes blobs q) test

tests_apart : (p q : PrunedShard) → (p.index ≡ q.index → p.number ≡ q.number → ⊥) → ((p.index == q.index) && (p.number == q.number)) ≡ false
tests_apart p q apart = elim (pair_tells p.index q.index p.number q.number) [ inl t ↦ absurd (apart t.1.0 t.1.1) | inr t ↦ t.0 ]

pub no_generation : (f : Formats) (root : RootData) → HoldsRead f root [] []
no_generation f root index number base h = refl

some_is : (x y : ℕ) → ◌≡◌ {A = Option ℕ} (Some x) (Some y) → x ≡ y
some_is x y e = cc

-- what is held and what was read go on together
pub holds_more : (f : Formats) (root : RootData) (blobs : List (BlobName × Bytes)) (held now : List HeldShard) (p : PrunedShard) (bytes : Bytes) (files : ShardFiles) → Generation root p.index p.number p.base
    → f.shard_index.read bytes ≡ Some files
    → Holds held now p.index p.number files → HoldsRead f root blobs held → HoldsRead f root ((index_name p, bytes) ∷ blobs) now
holds_more f root blobs held now p bytes files there reads holds before index number base h =
    let q = bare_shard index number base in
    elim (pair_tells p.index index p.number number) [
      | inl t ↦
          let base_is : p.base ≡ base = some_is p.base base (sym there ∙ (λ j. at_shard_of (index_at root.indices (t.1.0 j)) (t.1.1 j)) ∙ h) in
          let now_is : held_at now index number ≡ Some files = holds index number ∙ ap (λ (b : Bool). if b then Some files else held_at held index number) t.0 in
          let own : index_bytes ((index_name p, bytes) ∷ blobs) q ≡ Some bytes =
          ap (λ (name : BlobName). index_bytes ((name, bytes) ∷ blobs) q) (λ j. ShardIndex (t.1.0 j) (t.1.1 j) (base_is j)) ∙ own_index q bytes blobs in
          now_is ∙ sym reads ∙ sym (ap (files_by f) own)
      | inr t ↦
          holds index number ∙ ap (λ (b : Bool). if b then Some files else held_at held index number) t.0 ∙ before index number base h ∙ sym (ap (files_by f) (other_index p q bytes blobs t.0))
    ]

pub gathered_more : (f : Formats) (blobs : List (BlobName × Bytes)) (p : PrunedShard) (bytes : Bytes) (files : ShardFiles) (before : List PrunedShard) → f.shard_index.read bytes ≡ Some files
    → ((q : PrunedShard) → Has before q → p.index ≡ q.index → p.number ≡ q.number → ⊥) → AreGathered f blobs before → AreGathered f ((index_name p, bytes) ∷ blobs) (before ++ p ∷ [])
gathered_more f blobs p bytes files before reads apart are q m = elim (Has-append before p q m) [
  | inl earlier ↦
      let was = are q earlier in
      (was.0, ap (files_by f) (other_index p q bytes blobs (tests_apart p q (apart q earlier))) ∙ was.1)
  | inr here ↦ subst (λ (x : PrunedShard). (was : ShardFiles) × (files_read f ((index_name p, bytes) ∷ blobs) x ≡ Some was)) here (files, ap (files_by f) (own_index p bytes blobs) ∙ reads)
]

-- ---- the shards one after another

-- it may be fetched, where it is to be read
pub can_fetch : (old mid : Ticket) (clean : Bool) (root : RootData) (uuids : List ℕ) (p : PrunedShard) → IsUnplanned old clean root uuids → HasRead old mid → IsToRead clean root uuids p.index p.number p.base
    → CanFetchShard mid (index_name p)
can_fetch old mid clean root uuids p free read h = subst (λ (t : Ticket). CanFetchShard t (index_name p)) (sym read.is) (record {
  out = free.out;
  unsettled = free.unsettled;
  uuids = uuids;
  work = free.work;
  index = p.index;
  number = p.number;
  base = p.base;
  to_read = subst (λ (c : Bool). IsToRead c old.root uuids p.index p.number p.base) (sym free.mode) (subst (λ (r : RootData). IsToRead clean r uuids p.index p.number p.base) free.root_is h);
  name_is = refl;
})

fetch_same : (i k g j l h : ℕ) → ShardIndex i k g ≡ ShardIndex j l h → (i ≡ j) × (k ≡ l)
fetch_same i k g j l h e = (cc, cc)

-- and it wasn't yet
pub new_fetch : (shards : List PrunedShard) (s : Start) (log : List Moment) (who : ℕ) (p : PrunedShard) → MadeFetches shards s log who → ((q : PrunedShard) → Has shards q → p.index ≡ q.index → p.number ≡ q.number → ⊥)
    → IsFresh s log who (PruneStep (FetchShard (index_name p)))
new_fetch shards s log who p fetches apart e has same =
    let (q, there, is) = fetches e has in
    let names = fetch_same q.index q.number q.base p.index p.number p.base (subst (λ (x : Step). Repeats x (PruneStep (FetchShard (index_name p)))) is same) in
    apart q there (sym names.0) (sym names.1)

told_more : (tells : Bool) (mid new : Ticket) (name : BlobName) (bytes : Bytes) (blobs : List (BlobName × Bytes)) → new ≡ fetching name (if tells then Some bytes else None) mid → (tells ≡ true → mid.read ≡ blobs) → tells ≡ true
    → new.read ≡ (name, bytes) ∷ blobs
told_more true mid new name bytes blobs is so_far yes_is = ap (λ (t : Ticket). t.read) is ∙ ap (λ (read : List (BlobName × Bytes)). (name, bytes) ∷ read) (so_far refl)
told_more false mid new name bytes blobs is so_far yes_is = absurd cc

reads_as : (s : Start) (bytes : Bytes) (files : ShardFiles) → shard_index_kind.read bytes ≡ Some files → (formats_of s).shard_index.read bytes ≡ Some files
unfolding formats
reads_as s bytes files reads = reads

-- nothing is gathered at first
pub none_so_far : (s : Start) (log : List Moment) (who : ℕ) → (ticket_of s log who).read ≡ [] → made_of s log who ≡ [] → IsSoFar s log log who [] []
none_so_far s log who unread none = record {
  blobs = [];
  told = λ tells. unread;
  are_held = no_generation (formats_of s) (ticket_of s log who).root;
  gathered = λ p m. absurd m;
  made = λ e has. absurd (subst (λ (entries : List Entry). Has entries e) none has);
  read = read_same (ticket_of s log who) (ticket_of s log who) refl;
  grew = grew_by_none s who log;
}

-- one index more
pub more_so_far : (s : Start) (old mid new : List Moment) (who : ℕ) (before : List PrunedShard) (held now : List HeldShard) (p : PrunedShard) (files : ShardFiles) → IsSoFar s old mid who before held
    → Generation (ticket_of s old who).root p.index p.number p.base
    → ((q : PrunedShard) → Has before q → p.index ≡ q.index → p.number ≡ q.number → ⊥) → HasFetched s (ticket_of s mid who) (ticket_of s new who) (index_name p) files
    → MadeOne s mid new who (PruneStep (FetchShard (index_name p))) → HasRead (ticket_of s mid who) (ticket_of s new who)
    → GrewBy s who mid new → Holds held now p.index p.number files → IsSoFar s old new who (before ++ p ∷ []) now
more_so_far s old mid new who before held now p files so_far there apart fetched made read grew holds =
    let reads = reads_as s fetched.0 files fetched.2 in record {
      blobs = (index_name p, fetched.0) ∷ so_far.blobs;
      told = told_more s.tells (ticket_of s mid who) (ticket_of s new who) (index_name p) fetched.0 so_far.blobs fetched.1 so_far.told;
      are_held = holds_more (formats_of s) (ticket_of s old who).root so_far.blobs held now p fetched.0 files there reads holds so_far.are_held;
      gathered = gathered_more (formats_of s) so_far.blobs p fetched.0 files before reads apart so_far.gathered;
      made = λ e has. ⊎_elim
          (λ earlier. let (q, in_before, is) = so_far.made e earlier in (q, Has-left before (p ∷ []) q in_before, is))
          (λ last. (p, Has-right before (p ∷ []) p (inl refl), last))
          (made e has);
      read = read_on (ticket_of s old who) (ticket_of s mid who) (ticket_of s new who) so_far.read read;
      grew = grew_by_on s who old mid new so_far.grew grew;
    }

-- all are gathered
pub gathered_all : (s : Start) (old new : List Moment) (who : ℕ) (clean : Bool) (root : RootData) (uuids : List ℕ) (shards : List PrunedShard) (held : List HeldShard) → IsUnplanned (ticket_of s old who) clean root uuids
    → IsSoFar s old new who shards held
    → HasToRead clean root uuids shards
    → IsGathered s (ticket_of s new who) uuids held
gathered_all s old new who clean root uuids shards held free so_far all =
    let mode : (ticket_of s new who).clean ≡ clean = ap (λ (t : Ticket). t.clean) so_far.read.is ∙ free.mode in
    let same : root ≡ (ticket_of s new who).root = free.root_is ∙ sym (ap (λ (t : Ticket). t.root) so_far.read.is) in record {
      blobs = so_far.blobs;
      told = so_far.told;
      are_held = subst (λ (r : RootData). HoldsRead (formats_of s) r so_far.blobs held) (sym free.root_is ∙ same) so_far.are_held;
      are_read = λ index number base h. so_far.gathered (bare_shard index number base) (all index number base
          (subst (λ (c : Bool). IsToRead c root uuids index number base) mode (subst (λ (r : RootData). IsToRead (ticket_of s new who).clean r uuids index number base) (sym same) h)));
    }

pub only_fetches : (shards : List PrunedShard) (s : Start) (log : List Moment) (who : ℕ) → MadeFetches shards s log who → HasMadeFetches s log who
only_fetches shards s log who fetches e has = let (q, there, is) = fetches e has in (index_name q, is)

-- the generation of a shard that is to be read
pub there_in : (root own : RootData) (shards : List PrunedShard) (p : PrunedShard) → root ≡ own → AreOfRoot root shards → Has shards p → Generation own p.index p.number p.base
there_in root own shards p same are m = subst (λ (r : RootData). Generation r p.index p.number p.base) same (in_root root shards p are m)
