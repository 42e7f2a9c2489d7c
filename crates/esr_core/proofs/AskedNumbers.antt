-- What an asked command draws.
use Rattle.std.proofs.Common.{◌≡◌, ℕ, suc, ◌+◌, ◌≤◌, List, [], ◌∷◌, length, Option, Some, None, refl, arith, le_refl}
use Rattle.std.specs.FinMap as fin
use Rattle.esr_core.proofs.Numbers.{one_more}
use Rattle.esr_model.specs.Values.{Bytes, Formats}
use Rattle.esr_model.specs.Image.{Image}
use Rattle.esr_core.specs.World.{World, Deletion}
use Rattle.esr_core.specs.Restores.{restore_opened}
use Rattle.esr_core.specs.Deletes.{named_uuids, waiting_delete, running_delete, delete_merged, delete_by}
use Rattle.esr_core.specs.Entry.{AskedIndex, Asked, Snapshot, Clone, DeleteSnapshots, Restore, Cleanup, Step, AskStep, Reply, AcceptedRestore}
use Rattle.esr_core.specs.After.{known_id, next_by, new_names, asked, done_step}
use Rattle.esr_core.specs.Numbers.{ids_by, DrawsFew}

-- ---- numbers

none_more : (a b : ℕ) → a ≡ b → a ≡ b + 0
none_more a b e = let same : a ≡ b = e in omega (arith, same)

none_few : (a : ℕ) → 0 ≤ a
none_few a = omega arith

-- an asked snapshot draws its own id, and one for each new name
next_few : (known : Option ℕ) (n l : ℕ) → n ≤ l → next_by known n ≤ suc l
next_few None n l h = let less : n ≤ l = h in let is : suc n ≤ suc l = omega (arith, less) in is
next_few (Some id) n l h = let less : n ≤ l = h in let is : n ≤ suc l = omega (arith, less) in is

few_new : (w : World) (indices : List AskedIndex) → new_names w indices ≤ length indices
few_new w [] = le_refl 0
few_new w (a ∷ indices) = next_few (known_id w a.name) (new_names w indices) (length indices) (few_new w indices)

suc_few : (n l : ℕ) → n ≤ l → suc n ≤ suc l
suc_few n l h = let less : n ≤ l = h in omega (arith, less)

pub snapshot_few : (w : World) (indices : List AskedIndex) → suc (new_names w indices) ≤ suc (length indices)
snapshot_few w indices = suc_few (new_names w indices) (length indices) (few_new w indices)

-- ---- commands

draws_none : (w : World) (step : Step) (new : World) → new.term ≡ w.term → new.pending ≡ w.pending → new.next_id ≡ w.next_id → DrawsFew w step new
draws_none w step new term pending next = record { term = term; pending = pending; count = 0; next = none_more new.next_id w.next_id next; few = none_few (ids_by step) }

merged_draws : (w : World) (step : Step) (names : List Bytes) (d : ℕ) (x : Option Deletion) → DrawsFew w step (delete_merged w names d x)
merged_draws w step names d None = draws_none w step w refl refl refl
merged_draws w step names d (Some x) = draws_none w step (delete_merged w names d (Some x)) refl refl refl

delete_draws : (w : World) (step : Step) (names : List Bytes) (waiting running : Option ℕ) → DrawsFew w step (delete_by w names waiting running)
delete_draws w step names (Some d) running = merged_draws w step names d (fin.get w.deletes d)
delete_draws w step names None (Some d) = draws_none w step w refl refl refl
delete_draws w step names None None = draws_none w step (delete_by w names None None) refl refl refl

pub asks_draw : (f : Formats) (w : World) (k : ℕ) (command : Asked) (reply : Reply) (image : Option Image) → DrawsFew w (AskStep command) (done_step f w k (AskStep command) reply image)
asks_draw f w k (Snapshot name indices moment) reply image = record { term = refl; pending = refl; count = suc (new_names w indices); next = refl; few = snapshot_few w indices }
asks_draw f w k (Clone source name indices moment None) reply image = draws_none w (AskStep (Clone source name indices moment None)) w refl refl refl
asks_draw f w k (Clone source name indices moment (Some taken)) reply image = record { term = refl; pending = refl; count = 1; next = one_more w.next_id; few = le_refl 1 }
asks_draw f w k (DeleteSnapshots names) reply image = delete_draws w (AskStep (DeleteSnapshots names)) names (waiting_delete w) (running_delete w (named_uuids w names))
asks_draw f w k (Restore name place) (AcceptedRestore o uuid indices) image = draws_none w (AskStep (Restore name place)) (restore_opened w uuid place indices) refl refl refl
asks_draw f w k (Restore name place) reply image = draws_none w (AskStep (Restore name place)) w refl refl refl
asks_draw f w k Cleanup reply image = draws_none w (AskStep Cleanup) (asked w Cleanup) refl refl refl
