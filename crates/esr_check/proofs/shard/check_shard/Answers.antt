use Rattle.std.proofs.Common.{map}
use Rattle.esr_model.specs.Names.{ShardIndex}
use Rattle.esr_formats.specs.Infos.{info_of_code}
use Rattle.esr_formats.specs.Roots.{root_of}
use Rattle.esr_formats.specs.Shards.{shard_index_of}
use Rattle.esr_desk.specs.Own.{caller_of}
use Rattle.esr_check.specs.Names.{Just, IsOfShard, IsSnapOf, IsPieceOf}
use Rattle.esr_check.specs.Pieces.{IsShardOfRoot}
use Rattle.esr_check.specs.Went.{Went}
use Rattle.esr_check.proofs.Going.{went_as, went_both, went_on, some_new, still_new, held_more, lists_more, shard_on}
use Rattle.esr_check.proofs.Naming.{held_of_shard, lists_of_shard, files_of_shard, lists_no_held, files_no_held, files_no_lists}
use Rattle.esr_check.specs.First.{FirstOfLists, FirstOfFiles, FirstOfShard, AtHeld, AtList, AtFile}
use Rattle.esr_check.proofs.Telling.{passes}
use Rattle.esr_check.proofs.shard.check_shard.Goals.{After-check_held, After-check_files}
use Rattle.esr_check.proofs.shard.check_shard.Goals as goal

pub check_held-requires-clause-shard : goal.check_held-requires-clause-shard
check_held-requires-clause-shard g c κs within = c.requires.shard

pub check_held-requires-clause-new : goal.check_held-requires-clause-new
check_held-requires-clause-new g c κs within =
    let s = g.Q.Desk.start in
    let index = c.args.shard.at.index.number in
    let shard = c.args.shard.at.number in
    some_new (caller_of s (g.Q.Desk.seen c.args.desk.now)) (IsOfShard index shard) (Just (ShardIndex index shard c.args.shard.generation.number)) (λ name own. held_of_shard index shard c.args.shard.generation.number name own) c.requires.new

pub returns-in_err-held-clause-went : goal.returns-in_err-held-clause-went
returns-in_err-held-clause-went g c =
    let index = c.args.shard.at.index.number in
    let shard = c.args.shard.at.number in
    went_as g.Q.Desk.start (g.Q.Desk.seen c.args.desk.now) (g.Q.Desk.seen c.check_held.new.desk) (Just (ShardIndex index shard c.args.shard.generation.number))
    (IsOfShard index shard) (λ name own. held_of_shard index shard c.args.shard.generation.number name own) c.check_held.ensures.went

-- it is one of the root still
held_shard : (g : _) (c : After-check_held g)
    → IsShardOfRoot g.Q.Desk.start (g.Q.Desk.seen c.check_held.new.desk) (root_of c.args.shard.root.now) (map info_of_code c.args.shard.infos.now) c.args.shard.at.index.number c.args.shard.at.number c.args.shard.generation.number
held_shard g c =
    let shard = c.args.shard in
    shard_on g.Q.Desk.start (g.Q.Desk.seen c.args.desk.now) (g.Q.Desk.seen c.check_held.new.desk) (Just (ShardIndex shard.at.index.number shard.at.number shard.generation.number))
    (root_of shard.root.now) (map info_of_code shard.infos.now) shard.at.index.number shard.at.number shard.generation.number c.check_held.ensures.went c.requires.shard

-- ---- what the snapshots have

pub check_lists-requires-clause-shard : goal.check_lists-requires-clause-shard
check_lists-requires-clause-shard g c κs within = held_shard g (goal.at.check_lists-requires-clause-shard g c).After-check_held

pub check_lists-requires-clause-new : goal.check_lists-requires-clause-new
check_lists-requires-clause-new g c κs within =
    let s = g.Q.Desk.start in
    let old = g.Q.Desk.seen c.args.desk.now in
    let index = c.args.shard.at.index.number in
    let shard = c.args.shard.at.number in
    let generation = c.args.shard.generation.number in
    still_new s old (g.Q.Desk.seen c.check_held.new.desk) (Just (ShardIndex index shard generation)) (IsSnapOf index shard) (λ name own other. lists_no_held index shard generation name own other)
    (some_new (caller_of s old) (IsOfShard index shard) (IsSnapOf index shard) (λ name own. lists_of_shard index shard name own) c.requires.new) c.check_held.ensures.went

pub returns-in_err-check_lists-clause-went : goal.returns-in_err-check_lists-clause-went
returns-in_err-check_lists-clause-went g c =
    let index = c.args.shard.at.index.number in
    let shard = c.args.shard.at.number in
    let generation = c.args.shard.generation.number in
    went_both g.Q.Desk.start (g.Q.Desk.seen c.args.desk.now) (g.Q.Desk.seen c.check_held.new.desk) (g.Q.Desk.seen c.check_lists.new.desk) (Just (ShardIndex index shard generation)) (IsSnapOf index shard) (IsOfShard index shard)
    (λ name own. held_of_shard index shard generation name own) (λ name own. lists_of_shard index shard name own) c.check_held.ensures.went c.check_lists.ensures.went

-- ---- the files

pub check_files-requires-clause-shard : goal.check_files-requires-clause-shard
check_files-requires-clause-shard g c κs within =
    let shard = c.args.shard in
    shard_on g.Q.Desk.start (g.Q.Desk.seen c.check_held.new.desk) (g.Q.Desk.seen c.check_lists.new.desk) (IsSnapOf shard.at.index.number shard.at.number)
    (root_of shard.root.now) (map info_of_code shard.infos.now) shard.at.index.number shard.at.number shard.generation.number c.check_lists.ensures.went (held_shard g (goal.at.check_files-requires-clause-shard g c).After-check_held)

pub check_files-requires-clause-held : goal.check_files-requires-clause-held
check_files-requires-clause-held g c κs within =
    let s = g.Q.Desk.start in
    held_more s (caller_of s (g.Q.Desk.seen c.check_held.new.desk)) (caller_of s (g.Q.Desk.seen c.check_lists.new.desk)) c.check_lists.ensures.went.grown
    c.args.shard.at.index.number c.args.shard.at.number c.args.shard.generation.number (shard_index_of c.in_ok-held.held) c.in_ok-held.ensures.read

pub check_files-requires-clause-new : goal.check_files-requires-clause-new
check_files-requires-clause-new g c κs within =
    let s = g.Q.Desk.start in
    let old = g.Q.Desk.seen c.args.desk.now in
    let mid = g.Q.Desk.seen c.check_held.new.desk in
    let index = c.args.shard.at.index.number in
    let shard = c.args.shard.at.number in
    let generation = c.args.shard.generation.number in
    still_new s mid (g.Q.Desk.seen c.check_lists.new.desk) (IsSnapOf index shard) (IsPieceOf index shard) (λ name own other. files_no_lists index shard name own other)
    (still_new s old mid (Just (ShardIndex index shard generation)) (IsPieceOf index shard) (λ name own other. files_no_held index shard generation name own other)
    (some_new (caller_of s old) (IsOfShard index shard) (IsPieceOf index shard) (λ name own. files_of_shard index shard name own) c.requires.new) c.check_held.ensures.went) c.check_lists.ensures.went

-- by the files, well or not
files_went : (g : _) (c : After-check_files g) → Went g.Q.Desk.start (g.Q.Desk.seen c.args.desk.now) (g.Q.Desk.seen c.check_files.new.desk) (IsOfShard c.args.shard.at.index.number c.args.shard.at.number)
files_went g c =
    let s = g.Q.Desk.start in
    let old = g.Q.Desk.seen c.args.desk.now in
    let mid = g.Q.Desk.seen c.check_held.new.desk in
    let next = g.Q.Desk.seen c.check_lists.new.desk in
    let new = g.Q.Desk.seen c.check_files.new.desk in
    let index = c.args.shard.at.index.number in
    let shard = c.args.shard.at.number in
    let generation = c.args.shard.generation.number in
    went_on s old next new (IsOfShard index shard)
    (went_both s old mid next (Just (ShardIndex index shard generation)) (IsSnapOf index shard) (IsOfShard index shard)
    (λ name own. held_of_shard index shard generation name own) (λ name own. lists_of_shard index shard name own) c.check_held.ensures.went c.check_lists.ensures.went)
    (went_as s next new (IsPieceOf index shard) (IsOfShard index shard) (λ name own. files_of_shard index shard name own) c.check_files.ensures.went)

pub returns-in_err-check_files-clause-went : goal.returns-in_err-check_files-clause-went
returns-in_err-check_files-clause-went g c = files_went g (goal.at.returns-in_err-check_files-clause-went g c).After-check_files

pub returns-clause-went : goal.returns-clause-went
returns-clause-went g c = files_went g (goal.at.returns-clause-went g c).After-check_files

pub returns-clause-shard : goal.returns-clause-shard
returns-clause-shard g c =
    let s = g.Q.Desk.start in
    let mid = caller_of s (g.Q.Desk.seen c.check_held.new.desk) in
    let next = caller_of s (g.Q.Desk.seen c.check_lists.new.desk) in
    let new = caller_of s (g.Q.Desk.seen c.check_files.new.desk) in
    let index = c.args.shard.at.index.number in
    let shard = c.args.shard.at.number in
    let held = shard_index_of c.in_ok-held.held in
    record {
      held = held;
      read = held_more s next new c.check_files.ensures.went.grown index shard c.args.shard.generation.number held (held_more s mid next c.check_lists.ensures.went.grown index shard c.args.shard.generation.number held c.in_ok-held.ensures.read);
      kept = c.in_ok-held.ensures.kept;
      snaps = lists_more s next new c.check_files.ensures.went.grown (root_of c.args.shard.root.now) (map info_of_code c.args.shard.infos.now) index shard held held.snapshots c.in_ok-check_lists.ensures.snaps;
      files = c.in_ok-check_files.ensures.files;
    }

-- ---- the first that is damaged

pub returns-in_err-held-clause-first : goal.returns-in_err-held-clause-first
returns-in_err-held-clause-first g c =
    let s = g.Q.Desk.start in
    let index = c.args.shard.at.index.number in
    let shard = c.args.shard.at.number in
    let generation = c.args.shard.generation.number in
    passes (Just (ShardIndex index shard generation)) (FirstOfShard s (caller_of s (g.Q.Desk.seen c.check_held.new.desk)) (root_of c.args.shard.root.now) (map info_of_code c.args.shard.infos.now) index shard generation)
    c.from_residual.result c.in_err-held.field-0.0 c.from_residual.ensures.1 (λ name is. AtHeld is) c.in_err-held.ensures.first

pub returns-in_err-check_lists-clause-first : goal.returns-in_err-check_lists-clause-first
returns-in_err-check_lists-clause-first g c =
    let s = g.Q.Desk.start in
    let mid = caller_of s (g.Q.Desk.seen c.check_held.new.desk) in
    let new = caller_of s (g.Q.Desk.seen c.check_lists.new.desk) in
    let index = c.args.shard.at.index.number in
    let shard = c.args.shard.at.number in
    let generation = c.args.shard.generation.number in
    let held = shard_index_of c.in_ok-held.held in
    passes (FirstOfLists s new (root_of c.args.shard.root.now) (map info_of_code c.args.shard.infos.now) index shard held)
    (FirstOfShard s new (root_of c.args.shard.root.now) (map info_of_code c.args.shard.infos.now) index shard generation) c.from_residual-in_err-check_lists.result c.in_err-check_lists.field-0.0 c.from_residual-in_err-check_lists.ensures.1
    (λ name first. AtList held (held_more s mid new c.check_lists.ensures.went.grown index shard generation held c.in_ok-held.ensures.read) c.in_ok-held.ensures.kept first) c.in_err-check_lists.ensures.first

pub returns-in_err-check_files-clause-first : goal.returns-in_err-check_files-clause-first
returns-in_err-check_files-clause-first g c =
    let s = g.Q.Desk.start in
    let mid = caller_of s (g.Q.Desk.seen c.check_held.new.desk) in
    let next = caller_of s (g.Q.Desk.seen c.check_lists.new.desk) in
    let new = caller_of s (g.Q.Desk.seen c.check_files.new.desk) in
    let root = root_of c.args.shard.root.now in
    let infos = map info_of_code c.args.shard.infos.now in
    let index = c.args.shard.at.index.number in
    let shard = c.args.shard.at.number in
    let generation = c.args.shard.generation.number in
    let held = shard_index_of c.in_ok-held.held in
    let grown = c.check_files.ensures.went.grown in
    passes (FirstOfFiles s new index shard held.files) (FirstOfShard s new root infos index shard generation) c.from_residual-in_err-check_files.result c.in_err-check_files.field-0.0 c.from_residual-in_err-check_files.ensures.1
    (λ name first. AtFile held (held_more s next new grown index shard generation held (held_more s mid next c.check_lists.ensures.went.grown index shard generation held c.in_ok-held.ensures.read)) c.in_ok-held.ensures.kept
    (lists_more s next new grown root infos index shard held held.snapshots c.in_ok-check_lists.ensures.snaps) first) c.in_err-check_files.ensures.first
