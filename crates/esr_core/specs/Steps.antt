-- What each step asks, and the world that it leaves.
use Rattle.std.specs.Prelude.{◌≡◌, ◌≢◌, Bool, ℕ, suc, ◌+◌, ◌<◌, ◌≤◌, ◌⊎◌, true, false, List, [], ◌∷◌, ◌++◌, length, Option, Some, None, map, if◌then◌else◌, ◌==◌, ◌&&◌}
use Rattle.std.specs.FinMap as fin
use Rattle.esr_model.specs.Names.{BlobName, Root, Latest, Snap, Meta, IndexMeta, ShardSnap, ShardIndex, File, Part, TestMaster, TestNode}
use Rattle.esr_model.specs.Values.{Bytes, RootData, SnapInfo, FileEntry, SnapList, ShardFiles, ShardSnapshot, ShardResult, ReadsBack, Formats, files_told}
use Rattle.esr_model.specs.Shelf.{Command}
use Rattle.esr_model.specs.Image.{Blobs, Has, IsStored, At, Present, Reads, Lists, FileStands}
use Rattle.esr_model.specs.Kept.{first_id}
use Rattle.esr_model.specs.Finalize.{finalized_root}
use Rattle.esr_model.specs.Cleanup.{BlobSize, is_short}
use Rattle.esr_core.specs.Generations.{IsLive, AreFilesOf}
use Rattle.esr_core.specs.Ready.{IsShard}
use Rattle.esr_core.specs.World.{World, Ticket, Op, ShardWork, ShardState, Pending, Work, Shard, Finalize, Deleting, Out, Done, GivenUp, AllDone, Swap, swap, marked, info_of, made_of, metadata, HeldIn}

-- the ticket is out under this number
pub record IsOut (w : World) (k : ℕ) (t : Ticket) : Type 0 where
  pub there : fin.get w.tickets k ≡ Some t
  pub out : t.out ≡ true

-- the ticket drew the id
pub record Drew (t : Ticket) (id : ℕ) : Type 0 where
  pub from : t.first ≤ id
  pub below : id < t.first + t.drawn

-- the root of the unit, under the generation that the ticket raised, when the rest of the unit is written
pub record IsNewRoot (f : Formats) (s : Swap) (t : Ticket) (n : ℕ) (bytes : Bytes) : Type 0 where
  pub unsettled : t.settled ≡ false
  pub raised : t.raised ≡ Some n
  pub text : bytes ≡ f.root.text s.root
  pub ready : (name : BlobName) (b : Bytes) → Has s.own (name, b) → Has t.noted name

-- what a master ticket commits
abbrev pub SwapCommits : Formats → Swap → Ticket → BlobName → Bytes → Type 0
SwapCommits f s t name bytes = Has s.own (name, bytes) ⊎ ((n : ℕ) × (name ≡ Root n) × IsNewRoot f s t n bytes)

-- what a shard ticket commits: below its own shard, under its own uuid or an id that it drew
abbrev pub ShardCommits : Ticket → BlobName → Type 0
ShardCommits t (Root n) = ⊥
ShardCommits t Latest = ⊥
ShardCommits t (Snap u) = ⊥
ShardCommits t (Meta u) = ⊥
ShardCommits t (IndexMeta i u) = ⊥
ShardCommits t (ShardSnap i k u) = (t.work ≡ Shard i k) × (u ≡ t.uuid)
ShardCommits t (ShardIndex i k g) = (t.work ≡ Shard i k) × Drew t g
ShardCommits t (File i k x) = (t.work ≡ Shard i k) × Drew t x
ShardCommits t (Part i k x p) = (t.work ≡ Shard i k) × Drew t x
ShardCommits t (TestMaster v) = ⊥
ShardCommits t (TestNode v n) = ⊥

-- a ticket commits only the names of its unit
abbrev pub MayCommit : Formats → Ticket → BlobName → Bytes → Type 0
MayCommit f t name bytes = ((s : Swap) × (swap f t ≡ Some s) × SwapCommits f s t name bytes) ⊎ ((swap f t ≡ None) × ShardCommits t name × IsShard t.work)

abbrev pub with_ticket : World → ℕ → Ticket → World
with_ticket w k t = record w { tickets = fin.insert w.tickets k t }

abbrev pub with_blob : Formats → World → BlobName → Bytes → World
with_blob f w name bytes = record w { blobs = fin.insert w.blobs (f.names.text name) bytes }

abbrev pub noting : Ticket → BlobName → Ticket
noting t name = record t { noted = name ∷ t.noted }

abbrev pub writing : Ticket → BlobName → Bytes → Ticket
writing t name bytes = record t { noted = name ∷ t.noted; wrote = (name, bytes) ∷ t.wrote }

-- a finalization's blob that is there counts as written
pub record CommitExists (f : Formats) (w : World) (k : ℕ) (name : BlobName) (new : World) : Type 0 where
  pub t : Ticket
  pub out : IsOut w k t
  pub info : SnapInfo
  pub results : List ShardResult
  pub made : Command
  pub work : t.work ≡ Finalize info results made
  pub bytes : Bytes
  pub own : Has (metadata f info) (name, bytes)
  pub there : Present f w.blobs name
  pub new_is : new ≡ with_ticket w k (noting t name)

-- a ticket that has done nothing yet
abbrev pub plain_ticket : World → ℕ → Work → Ticket
plain_ticket w o work =
    record {
      work = work;
      op = o;
      uuid = 0;
      place = [];
      name = [];
      source = None;
      term = w.term;
      safe = w.safe;
      root = w.root;
      base = None;
      first = 0;
      drawn = 0;
      noted = [];
      wrote = [];
      read = [];
      raised = None;
      tried_latest = false;
      settled = false;
      out = true;
      clean = false;
      listed = [];
      whole = false;
    }

abbrev pub final_ticket : Formats → World → ℕ → Op → List ShardResult → Ticket
final_ticket f w o op results = record (plain_ticket w o (Finalize (info_of op results) results (made_of f w.blobs op))) { uuid = op.uuid }

-- commit: Done, Exists, and what a failed call may leave
pub record CommitDone (f : Formats) (w : World) (k : ℕ) (name : BlobName) (new : World) : Type 0 where
  pub t : Ticket
  pub out : IsOut w k t
  pub bytes : Bytes
  pub named : IsStored f name
  pub may : MayCommit f t name bytes
  pub absent : fin.get w.blobs (f.names.text name) ≡ None
  pub new_is : new ≡ with_ticket (with_blob f w name bytes) k (writing t name bytes)

pub record CommitFault (f : Formats) (w : World) (k : ℕ) (name : BlobName) (new : World) : Type 0 where
  pub t : Ticket
  pub out : IsOut w k t
  pub bytes : Bytes
  pub named : IsStored f name
  pub may : MayCommit f t name bytes
  pub leaves : (new ≡ w) ⊎ ((fin.get w.blobs (f.names.text name) ≡ None) × (new ≡ with_blob f w name bytes))

pub record Raise (f : Formats) (w : World) (k : ℕ) (new : World) : Type 0 where
  pub t : Ticket
  pub out : IsOut w k t
  pub swapped : Swap
  pub is : swap f t ≡ Some swapped
  pub unsettled : t.settled ≡ false
  pub present : t.term ≡ w.term
  pub once : t.raised ≡ None
  pub new_is : new ≡ record w { pending = suc w.pending; tickets = fin.insert w.tickets k (record t { raised = Some w.pending }) }

abbrev pub settled : World → ℕ → Ticket → ℕ → RootData → World
settled w k t n root = record w { safe = suc n; root = root; ops = fin.remove w.ops t.op; tickets = fin.insert w.tickets k (record t { settled = true }) }

-- the condition of settle, and its command
pub record MaySettle (f : Formats) (w : World) (k n : ℕ) (t : Ticket) (swapped : Swap) : Type 0 where
  pub out : IsOut w k t
  pub is : swap f t ≡ Some swapped
  pub unsettled : t.settled ≡ false
  pub raised : t.raised ≡ Some n
  pub written : Has t.noted (Root n)
  pub ready : (name : BlobName) (b : Bytes) → Has swapped.own (name, b) → Has t.noted name
  pub tried : t.tried_latest ≡ true

-- the next id is the first one of the new term
pub record Elect (w : World) (new : World) : Type 0 where
  pub new_is : new ≡ record w { term = suc w.term; next_id = first_id (suc w.term) }

abbrev pub is_done : ShardState → Bool
is_done (Done r) = true
is_done Pending = false
is_done (Out k) = false
is_done GivenUp = false

abbrev pub all_done : List ShardWork → Bool
all_done [] = true
all_done (s ∷ ss) = is_done s.state && all_done ss

-- an op whose shards are all done completes
abbrev pub completing : List ℕ → ℕ → List ShardWork → List ℕ
completing completed o shards = if all_done shards then completed ++ o ∷ [] else completed

-- a shard index with a snapshot more
pub record Extends (was held : ShardFiles) (uuid : ℕ) (files : List FileEntry) : Type 0 where
  pub keeps : (u : ℕ) (fs : List FileEntry) → Lists was u fs → Lists held u fs
  pub lists : Lists held uuid files
  pub files_from : (e : FileEntry) → Has held.files e → Has was.files e ⊎ Has files e
  pub lists_from : (l : SnapList) → Has held.snapshots l → Has was.snapshots l ⊎ (l.uuid ≡ uuid)

abbrev pub ExtendsBase : Formats → (BlobName → Bytes → Type 0) → ℕ → ℕ → Option ℕ → ShardFiles → ℕ → List FileEntry → Type 0
ExtendsBase f has index shard None held uuid files = Extends (record { files = []; snapshots = [] }) held uuid files
ExtendsBase f has index shard (Some base) held uuid files = (was : ShardFiles) × Reads has (ShardIndex index shard base) f.shard_index was × Extends was held uuid files

-- the shard unit committed its parts, `snap-U.dat` and `index-G`, and its files are those that it was to have
pub record DoneShard (f : Formats) (w : World) (k : ℕ) (r : ShardResult) (new : World) : Type 0 where
  pub t : Ticket
  pub out : IsOut w k t
  pub is : t.work ≡ Shard r.index r.shard
  pub op : Op
  pub op_there : fin.get w.ops t.op ≡ Some op
  pub drew : Drew t r.generation
  pub snap : ShardSnapshot
  pub snap_reads : Reads (HeldIn f w) (ShardSnap r.index r.shard t.uuid) f.shard_snap snap
  pub held : ShardFiles
  pub held_reads : Reads (HeldIn f w) (ShardIndex r.index r.shard r.generation) f.shard_index held
  pub extends : ExtendsBase f (HeldIn f w) r.index r.shard t.base held t.uuid snap.files
  pub s : ShardWork
  pub s_there : Has op.shards s
  pub state : s.state ≡ Out k
  pub files : AreFilesOf f (HeldIn f w) op.source r.index r.shard snap.files
  pub stand : (e : FileEntry) → Has snap.files e → (bytes : Bytes) × FileStands f (HeldIn f w) r.index r.shard e bytes
  pub new_is : new ≡ record w {
    ops = fin.insert w.ops t.op (record op { shards = map (marked k (Done r)) op.shards });
    tickets = fin.insert w.tickets k (record t { out = false });
    completed = completing w.completed t.op (map (marked k (Done r)) op.shards);
  }

-- a finalization: all shards of the op are done, and no swap of the present term is out
pub record TakeFinalize (f : Formats) (w : World) (o : ℕ) (op : Op) (results : List ShardResult) (new : World) : Type 0 where
  pub op_there : fin.get w.ops o ≡ Some op
  pub done : AllDone op.shards results
  pub unfailed : op.failed ≡ false
  -- its root can be written
  pub root_back : ReadsBack f.root (finalized_root w.root (info_of op results) results)
  -- none of its names is doomed
  pub clean : (name : BlobName) (b : Bytes) → Has (metadata f (info_of op results)) (name, b) → Has w.doomed name → ⊥
  pub idle : (k : ℕ) (t : Ticket) (s : Swap) → fin.get w.tickets k ≡ Some t → swap f t ≡ Some s → t.out ≡ true → t.settled ≡ false → t.term ≢ w.term
  pub new_is : new ≡ record w { tickets = fin.insert w.tickets w.next_ticket (final_ticket f w o op results); next_ticket = suc w.next_ticket }

-- `index.latest` was replaced, or not
abbrev pub PutsLatest : Formats → Blobs → Blobs → Type 0
PutsLatest f blobs now = (now ≡ blobs) ⊎ ((bytes : Bytes) × (now ≡ fin.insert blobs (f.names.text Latest) bytes) × ReadsBack f.names Latest)

-- a ticket has tried to replace it
pub record TriesLatest (f : Formats) (w : World) (k : ℕ) (new : World) : Type 0 where
  pub t : Ticket
  pub out : IsOut w k t
  pub s : Swap
  pub is : swap f t ≡ Some s
  pub unsettled : t.settled ≡ false
  pub new_is : new ≡ with_ticket w k (record t { tried_latest = true })

-- `index.latest` is replaced, or its replacement fails: nothing reads it
pub record TryLatest (f : Formats) (w : World) (k : ℕ) (new : World) : Type 0 where
  pub now : Blobs
  pub puts : PutsLatest f w.blobs now
  pub tries : TriesLatest f (record w { blobs = now }) k new

-- a shard's ticket fetches its base, and a clone's the snapshot of the shard that it copies
abbrev pub IsToFetch : Ticket → BlobName → Type 0
IsToFetch t name =
    (index : ℕ) × (shard : ℕ) × (t.work ≡ Shard index shard)
    × (((base : ℕ) × (t.base ≡ Some base) × (name ≡ ShardIndex index shard base)) ⊎ ((source : ℕ) × (t.source ≡ Some source) × (name ≡ ShardSnap index shard source)))

-- a clone's ticket draws one id, another at most one for each file of its source and one more
abbrev pub MostDrawn : Formats → Ticket → ℕ → ℕ → Option ℕ → Type 0
MostDrawn f t number n None = f.known t.place t.name number ≡ true → n ≤ suc (length (files_told f t.place t.name number))
MostDrawn f t number n (Some source) = n ≤ 1

-- a blob that is there is fetched
abbrev pub reading : Ticket → BlobName → Bytes → Ticket
reading t name bytes = record t { read = (name, bytes) ∷ t.read }

pub record FetchFound (f : Formats) (w : World) (k : ℕ) (name : BlobName) (new : World) : Type 0 where
  pub t : Ticket
  pub out : IsOut w k t
  -- a delete fetches before its plan, and nothing that may be removed
  pub aside : (uuids : List ℕ) (plan : Option Swap) → t.work ≡ Deleting uuids plan → (plan ≡ None) × (t.settled ≡ false → t.term ≡ w.term → Has w.doomed name → ⊥)
  pub bytes : Bytes
  pub there : At f w.blobs name bytes
  pub new_is : new ≡ with_ticket w k (reading t name bytes)

-- a page more is listed
abbrev pub listing : Ticket → List BlobSize → Ticket
listing t page = record t { listed = t.listed ++ page; whole = is_short page }

-- before its settle a ticket lists blobs that are there
pub record ListMore (w : World) (k : ℕ) (page : List BlobSize) (new : World) : Type 0 where
  pub t : Ticket
  pub out : IsOut w k t
  pub unsettled : t.settled ≡ false
  pub there : (b : BlobSize) → Has page b → (bytes : Bytes) × (fin.get w.blobs b.text ≡ Some bytes)
  pub new_is : new ≡ with_ticket w k (listing t page)

-- a settled swap ends, or a unit of an older term
pub record Ends (w : World) (k : ℕ) (new : World) : Type 0 where
  pub t : Ticket
  pub out : IsOut w k t
  pub no_shard : IsShard t.work → ⊥
  pub done : (t.settled ≡ true) ⊎ (t.term ≢ w.term)
  pub new_is : new ≡ with_ticket w k (record t { out = false })

-- a shard of an op where the pending one of this place goes to a ticket
abbrev pub given : ℕ → ℕ → ℕ → ShardWork → ShardWork
given k index shard s = if (s.ref.id == index) && (s.number == shard) then record s { state = Out k } else s

-- the largest live generation, or none where there is none
abbrev pub Largest : World → ℕ → ℕ → Option ℕ → Type 0
Largest w index shard None = (g : ℕ) → IsLive w.root w.ops index shard g → ⊥
Largest w index shard (Some base) = IsLive w.root w.ops index shard base × ((g : ℕ) → IsLive w.root w.ops index shard g → g ≤ base)

abbrev pub shard_ticket : World → ℕ → Op → ShardWork → Option ℕ → Ticket
shard_ticket w o op s base =
    record (plain_ticket w o (Shard s.ref.id s.number)) { uuid = op.uuid; place = s.place; name = s.ref.name; source = op.source; base = base }

pub record TakeShard (w : World) (o : ℕ) (op : Op) (s : ShardWork) (base : Option ℕ) (new : World) : Type 0 where
  pub op_there : fin.get w.ops o ≡ Some op
  pub s_there : Has op.shards s
  pub pending : s.state ≡ Pending
  -- no ticket that is out has the shard: by the order of the queue
  pub free : (k : ℕ) (t : Ticket) → fin.get w.tickets k ≡ Some t → t.out ≡ true → t.work ≡ Shard s.ref.id s.number → ⊥
  pub largest : Largest w s.ref.id s.number base
  pub new_is : new ≡ record w { ops = fin.insert w.ops o (record op { shards = map (given w.next_ticket s.ref.id s.number) op.shards }); tickets = fin.insert w.tickets w.next_ticket (shard_ticket w o op s base); next_ticket = suc w.next_ticket }

-- what a removal leaves, done or cut short
pub record Removes (f : Formats) (blobs now : Blobs) (names : List BlobName) : Type 0 where
  pub left : (text bytes : Bytes) → fin.get now text ≡ Some bytes → fin.get blobs text ≡ Some bytes
  pub stays : (name : BlobName) (bytes : Bytes) → At f blobs name bytes → (Has names name → ⊥) → At f now name bytes
  -- whatever its text is: `index.latest` and blobs of no name of the layout stay, too
  pub others : (text bytes : Bytes) → fin.get blobs text ≡ Some bytes → ((name : BlobName) → Has names name → f.names.text name ≡ text → ⊥) → fin.get now text ≡ Some bytes

-- a settled ticket removes names that it doomed
pub record Remove (f : Formats) (w : World) (k : ℕ) (names : List BlobName) (new : World) : Type 0 where
  pub t : Ticket
  pub out : IsOut w k t
  pub settled : t.settled ≡ true
  pub doomed : (name : BlobName) → Has names name → Has w.doomed name
  pub now : Blobs
  pub removes : Removes f w.blobs now names
  pub new_is : new ≡ record w { blobs = now }
