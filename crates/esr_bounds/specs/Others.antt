-- How many steps the tickets of deletes, cleanups and restores make at most.
use Rattle.std.specs.Prelude.{◌≡◌, ℕ, zero, suc, ◌+◌, ◌*◌, ◌==◌, if◌then◌else◌, true, List, [], ◌∷◌, ◌++◌, length, map, Option, Some, None}
use Rattle.std.specs.FinMap as fin
use Rattle.esr_model.specs.Names.{BlobName, ShardSnap, ShardIndex}
use Rattle.esr_model.specs.Values.{Bytes, Has, RootIndex, FileEntry, ShardSnapshot, Formats}
use Rattle.esr_model.specs.Parts.{part_names}
use Rattle.esr_model.specs.Cleanup.{BlobSize}
use Rattle.esr_core.specs.World.{World, Work, Shard, Finalize, Deleting, Drop, Ticket, Reader}
use Rattle.esr_core.specs.Pruning.{dooms}
use Rattle.esr_core.specs.Entry.{ReadBlob, CommitTest, Step, CommitStep, LatestStep, ReadStep, Reply, WasFetched, Moment}
use Rattle.esr_core.specs.History.{world_from}
use Rattle.esr_bounds.specs.Keys.{Key, IndexKey, PageKey, RemovalKey}
use Rattle.esr_bounds.specs.Most.{most_of_drop}
use Rattle.esr_bounds.specs.Units.{shards_in}
use Rattle.esr_bounds.specs.Work.{work_of, asks_in, elections_in, restores_in, idle_in}
use Rattle.esr_bounds.specs.Clients.{draws_in, looks_in, commands_in, empty_in, most_tests, most_of_client}

-- ---- a delete or cleanup

-- the indices of the shards of an index, of those that have a generation, numbered from the first on
abbrev pub shard_indices : ℕ → ℕ → List (Option ℕ) → List BlobName
shard_indices index first [] = []
shard_indices index first (None ∷ generations) = shard_indices index (suc first) generations
shard_indices index first (Some g ∷ generations) = ShardIndex index first g ∷ shard_indices index (suc first) generations

-- of all shards of a root
abbrev pub generation_names : List RootIndex → List BlobName
generation_names [] = []
generation_names (x ∷ xs) = shard_indices x.id 0 x.generations ++ generation_names xs

-- the names at which pages may begin: none, or one that was listed
abbrev pub start_at : BlobSize → Option Bytes
start_at b = Some b.text

abbrev pub page_starts : List BlobSize → List (Option Bytes)
page_starts listed = None ∷ map start_at listed

-- It fetches the index of a shard of the root that it copied, lists a page, or removes, once it has settled, what it doomed; a removal
-- goes by its first name.
abbrev pub DoesPrune : Formats → Ticket → Key → Type 0
DoesPrune f t (IndexKey name) = Has (generation_names t.root.indices) name
DoesPrune f t (PageKey from) = Has (page_starts t.listed) from
DoesPrune f t (RemovalKey name) = (t.settled ≡ true) × Has (dooms f t) name
DoesPrune f t x = Unit {0}

-- so many steps: the index of each shard of its root is fetched, and begun and committed anew, each name that it listed begins a page at
-- most, and each that it dooms a removal
abbrev pub most_of_delete : Formats → Ticket → ℕ
most_of_delete f t = 15 + (3 * length (generation_names t.root.indices) + (length t.listed + length (dooms f t)))

-- how many shards there are: those of the root, and those that are asked
abbrev pub most_shards : World → List Moment → ℕ
most_shards w log = length (generation_names w.root.indices) + shards_in log

-- so many steps by these
abbrev pub most_by_shards : Formats → World → List Moment → Ticket → ℕ
most_by_shards f w log t = 15 + (3 * most_shards w log + (length t.listed + length (dooms f t)))

-- ---- the blobs that there ever were

-- a step that may write one
abbrev pub writes_by : Step → ℕ
writes_by (CommitStep name) = 1
writes_by (ReadStep (CommitTest name)) = 1
writes_by LatestStep = 1
writes_by step = 0

abbrev pub writes_in : List Moment → ℕ
writes_in [] = 0
writes_in (m ∷ log) = writes_by m.entry.step + writes_in log

-- those that were there, and those that were written
abbrev pub most_blobs : World → List Moment → ℕ
most_blobs w log = length (fin.entries w.blobs) + writes_in log

-- how many are written at most: who 0 writes test blobs; a shard, a finalization or a drop no more than it makes steps; a delete or cleanup
-- the indices of its plan, its root and `index.latest`
abbrev pub most_writes : Formats → ℕ → World → List Moment → ℕ
most_writes f size w log =
    most_tests * draws_in log
    + ((work_of f size (suc (elections_in log)) log + w.next_op * (suc (elections_in log) * suc most_of_drop))
    + ((w.next_op + asks_in log) * (suc (elections_in log) * suc (2 + most_shards w log)) + (restores_in log * 1 + w.next_ticket)))

-- ---- a restore

-- the parts of files
abbrev pub pieces_of : ℕ → ℕ → List FileEntry → List BlobName
pieces_of index number [] = []
pieces_of index number (e ∷ files) = part_names index number e ++ pieces_of index number files

abbrev pub pieces_in : ℕ → ℕ → Option ShardSnapshot → List BlobName
pieces_in index number None = []
pieces_in index number (Some snap) = pieces_of index number snap.files

-- those that the snapshot of a shard lists; another blob lists none
abbrev pub pieces_by : Formats → ℕ → ℕ → BlobName → Bytes → List BlobName
pieces_by f index number (ShardSnap i k u) bytes = pieces_in index number (f.shard_snap.read bytes)
pieces_by f index number name bytes = []

-- of what its ticket has read
abbrev pub pieces_read : Formats → ℕ → ℕ → List (BlobName × Bytes) → List BlobName
pieces_read f index number [] = []
pieces_read f index number (b ∷ read) = pieces_by f index number b.0 b.1 ++ pieces_read f index number read

-- so many steps: it fetches the snapshot of its shard and each part of the files that this lists, and ends
abbrev pub most_of_restore : Formats → Reader → ℕ
most_of_restore f q = 2 + length (pieces_read f q.index q.number q.read)

-- a fetch of a ticket that found nothing
abbrev pub lost_at : Step → Reply → ℕ
lost_at (ReadStep (ReadBlob name)) WasFetched = 0
lost_at (ReadStep (ReadBlob name)) reply = 1
lost_at step reply = 0

abbrev pub lost_by : List Moment → ℕ → ℕ
lost_by [] who = 0
lost_by (m ∷ log) who = if m.entry.who == who then lost_at m.entry.step m.entry.reply + lost_by log who else lost_by log who

abbrev pub lost_in : List Moment → ℕ
lost_in [] = 0
lost_in (m ∷ log) = lost_at m.entry.step m.entry.reply + lost_in log

-- ---- all of them

abbrev pub most_if_delete : Formats → Ticket → Work → ℕ
most_if_delete f t (Shard index number) = 0
most_if_delete f t (Finalize info results made) = 0
most_if_delete f t (Deleting uuids plan) = suc (most_of_delete f t)
most_if_delete f t Drop = 0

-- of one number, with its take
abbrev pub most_besides : Formats → Option Ticket → Option Reader → ℕ
most_besides f (Some t) reader = most_if_delete f t t.work
most_besides f None (Some q) = suc (most_of_restore f q)
most_besides f None None = 1

-- and of all tickets up to a number, as they are in a world
abbrev pub most_of_others : Formats → World → ℕ → ℕ
most_of_others f w zero = 0
most_of_others f w (suc k) = most_besides f (fin.get w.tickets (suc k)) (fin.get w.readers (suc k)) + most_of_others f w k

-- How many steps the history has at most where the container tells: those of who 0, the takes that give units aside; those of shards,
-- finalizations and drops, by what was asked; and those of deletes, cleanups and restores, by what these read, listed and doomed.
abbrev pub most_told : Formats → ℕ → World → List Moment → ℕ
most_told f size w log =
    idle_in log
    + ((work_of f size (suc (elections_in log)) log + w.next_op * (suc (elections_in log) * suc most_of_drop)) + most_of_others f (world_from f w log) (world_from f w log).next_ticket)

-- How many steps at most, where no ticket of a delete or cleanup makes more than so many, and none of a restore: those of who 0; those of
-- shards, finalizations and drops; each delete and cleanup once a term, and each shard of a restore once.
abbrev pub most_asked : Formats → ℕ → World → List Moment → ℕ → ℕ → ℕ
most_asked f size w log deleting restoring =
    most_of_client log
    + ((work_of f size (suc (elections_in log)) log + w.next_op * (suc (elections_in log) * suc most_of_drop))
    + ((w.next_op + asks_in log) * (suc (elections_in log) * suc deleting) + (restores_in log * suc restoring + w.next_ticket)))

-- ---- by what is asked alone

-- the blobs that there ever were
abbrev pub all_blobs : Formats → ℕ → World → List Moment → ℕ
all_blobs f size w log = length (fin.entries w.blobs) + most_writes f size w log

-- what the ticket of a delete or cleanup makes, and that of a restore, those that found nothing with it
abbrev pub most_deleting : Formats → ℕ → World → List Moment → ℕ
most_deleting f size w log = 15 + (3 * most_shards w log + 2 * all_blobs f size w log)

abbrev pub most_restoring : Formats → ℕ → World → List Moment → ℕ
most_restoring f size w log = 1 + (all_blobs f size w log + lost_in log)

-- How many steps the history has at most: by the commands, looks, verifications and elections of who 0, its takes that find nothing, and the
-- fetches that find nothing; by the blobs and the shards of the world; and by what is asked.
abbrev pub most_of_all : Formats → ℕ → World → List Moment → ℕ
most_of_all f size w log =
    (1
    + (2 * commands_in log
    + (4 * looks_in log
    + (263 * draws_in log + (elections_in log + (empty_in log + ((commands_in log + (2 * looks_in log + draws_in log)) * all_blobs f size w log + (all_blobs f size w log + lost_in log))))))))
    + ((work_of f size (suc (elections_in log)) log + w.next_op * (suc (elections_in log) * suc most_of_drop))
    + ((w.next_op + asks_in log) * (suc (elections_in log) * suc (most_deleting f size w log)) + (restores_in log * suc (most_restoring f size w log) + w.next_ticket)))
