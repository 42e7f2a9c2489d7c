use Rattle.std.proofs.Common.{◌∙◌, List, map, take, refl, sym, subst}
use Rattle.esr_model.specs.Loops.{has_at, every_more, every_all}
use Rattle.esr_shardidx.specs.declared.entry.FileEntry.{FileEntry as CodeEntry}
use Rattle.esr_shardidx.specs.Entries.{IsEntry}
use Rattle.esr_model.specs.Values.{Has, FileEntry}
use Rattle.esr_formats.specs.Infos.{info_of_code}
use Rattle.esr_formats.specs.Roots.{root_of}
use Rattle.esr_formats.specs.Shards.{entry_of, shard_index_of}
use Rattle.esr_desk.specs.Own.{caller_of}
use Rattle.esr_reach.specs.Names.{AreOnce}
use Rattle.esr_reach.specs.OnceEach.{shard_apart}
use Rattle.esr_check.specs.Names.{IsPieceOf}
use Rattle.esr_check.specs.Pieces.{HasFile, HasFiles}
use Rattle.esr_check.proofs.Going.{went_none, some_new, held_more, files_more, shard_on}
use Rattle.esr_check.proofs.Listing.{Any, at_same, all_at, next_new, any_next, any_all, any_then}
use Rattle.esr_check.proofs.Naming.{FileOf, file_key, file_in}
use Rattle.esr_check.specs.First.{IsNext, FirstOfFile, FirstOfFiles}
use Rattle.esr_check.proofs.Telling.{passes, next_at}
use Rattle.esr_check.proofs.file.check_files.Goals as goal

pub loop-entry-init : goal.loop-entry-init
loop-entry-init g c = record {
  buffer = refl;
  files = λ e has. absurd has;
  so_far = c.requires.so_far;
  went = went_none g.Q.Desk.start (g.Q.Desk.seen c.args.desk.now) (Any (FileOf c.args.shard.at.index.number c.args.shard.at.number) (map entry_of (take 0 c.files-entry-items.result.now)));
}

pub check_file-requires-clause-shard : goal.check_file-requires-clause-shard
check_file-requires-clause-shard g c κs within =
    shard_on g.Q.Desk.start (g.Q.Desk.seen c.args.desk.now) (g.Q.Desk.seen c.loop-entry.desk) (Any (FileOf c.args.shard.at.index.number c.args.shard.at.number) (map entry_of (take c.loop-entry.entry-index c.files-entry-items.result.now)))
    (root_of c.args.shard.root.now) (map info_of_code c.args.shard.infos.now) c.args.shard.at.index.number c.args.shard.at.number c.args.shard.generation.number c.loop-entry.invariant.went c.requires.shard

pub check_file-requires-clause-entry : goal.check_file-requires-clause-entry
check_file-requires-clause-entry g c κs within =
    let here = at_same c.files-entry-items.result.now c.args.held.now.files c.loop-entry.entry-index c.entry-item.result c.files-entry-items.ensures.files c.loop-entry-test.true c.entry-item.is in
    all_at IsEntry c.args.held.now.files c.loop-entry.entry-index c.entry-item.result c.files-entry-items.ensures.whole.entries here.0 here.1

pub check_file-requires-clause-listed : goal.check_file-requires-clause-listed
check_file-requires-clause-listed g c κs within =
    let s = g.Q.Desk.start in
    let own = entry_of c.entry-item.result in
    record {
      held = shard_index_of c.args.held.now;
      read = held_more s (caller_of s (g.Q.Desk.seen c.args.desk.now)) (caller_of s (g.Q.Desk.seen c.loop-entry.desk)) c.loop-entry.invariant.went.grown
          c.args.shard.at.index.number c.args.shard.at.number c.args.shard.generation.number (shard_index_of c.args.held.now) c.requires.held;
      listed = subst (λ (es : List CodeEntry). Has (map entry_of es) own) c.files-entry-items.ensures.files
          (has_at entry_of c.files-entry-items.result.now c.loop-entry.entry-index c.entry-item.result c.loop-entry-test.true c.entry-item.is);
    }

pub check_file-requires-clause-new : goal.check_file-requires-clause-new
check_file-requires-clause-new g c κs within =
    let s = g.Q.Desk.start in
    let old = g.Q.Desk.seen c.args.desk.now in
    let own = c.entry-item.result in
    let index = c.args.shard.at.index.number in
    let shard = c.args.shard.at.number in
    let xs = c.files-entry-items.result.now in
    let once = subst (λ (es : List CodeEntry). AreOnce (map (λ (e : FileEntry). e.name) (map entry_of es))) (sym c.files-entry-items.ensures.files) (shard_apart c.args.held.now c.files-entry-items.ensures.whole).files in
    next_new s old (g.Q.Desk.seen c.loop-entry.desk) (λ (e : FileEntry). e.name) (FileOf index shard) entry_of xs c.loop-entry.entry-index own (λ a b name one two. file_key index shard a b name one two) once c.loop-entry-test.true c.entry-item.is
    (some_new (caller_of s old) (IsPieceOf index shard) (FileOf index shard (entry_of own)) (λ name of. file_in index shard (entry_of own) name of) c.requires.new) c.loop-entry.invariant.went

pub returns-in_err-check_file-clause-went : goal.returns-in_err-check_file-clause-went
returns-in_err-check_file-clause-went g c =
    let index = c.args.shard.at.index.number in
    let shard = c.args.shard.at.number in
    any_then g.Q.Desk.start (g.Q.Desk.seen c.args.desk.now) (g.Q.Desk.seen c.loop-entry.desk) (g.Q.Desk.seen c.check_file.new.desk) (FileOf index shard)
    (IsPieceOf index shard) (map entry_of (take c.loop-entry.entry-index c.files-entry-items.result.now)) (entry_of c.entry-item.result)
    (λ e name own. file_in index shard e name own) c.loop-entry.invariant.went c.check_file.ensures.went

pub loop-entry-preserved : goal.loop-entry-preserved
loop-entry-preserved g c =
    let s = g.Q.Desk.start in
    let mid = g.Q.Desk.seen c.loop-entry.desk in
    let new = g.Q.Desk.seen c.check_file.new.desk in
    let index = c.args.shard.at.index.number in
    let shard = c.args.shard.at.number in
    let xs = c.files-entry-items.result.now in
    let i = c.loop-entry.entry-index in
    let own = c.entry-item.result in
    let inv = c.loop-entry.invariant in
    let went = c.check_file.ensures.went in
    record {
      buffer = c.check_file.ensures.buffer ∙ inv.buffer;
      files = every_more (HasFile s (caller_of s new) index shard) entry_of xs i own c.loop-entry-test.true c.entry-item.is
          (files_more s (caller_of s mid) (caller_of s new) went.grown index shard (map entry_of (take i xs)) inv.files) c.in_ok-check_file.ensures.file;
      so_far = c.in_ok-check_file.ensures.so_far;
      went = any_next s (g.Q.Desk.seen c.args.desk.now) mid new (FileOf index shard) entry_of xs i own c.loop-entry-test.true c.entry-item.is inv.went went;
    }

pub returns-clause-files : goal.returns-clause-files
returns-clause-files g c =
    let s = g.Q.Desk.start in
    let now = caller_of s (g.Q.Desk.seen c.loop-entry.desk) in
    let index = c.args.shard.at.index.number in
    let shard = c.args.shard.at.number in
    subst (λ (es : List CodeEntry). HasFiles s now index shard (map entry_of es)) c.files-entry-items.ensures.files
    (every_all (HasFile s now index shard) entry_of c.files-entry-items.result.now c.loop-entry.entry-index c.loop-entry-test.false c.loop-entry.invariant.files)

pub returns-clause-went : goal.returns-clause-went
returns-clause-went g c =
    let index = c.args.shard.at.index.number in
    let shard = c.args.shard.at.number in
    any_all g.Q.Desk.start (g.Q.Desk.seen c.args.desk.now) (g.Q.Desk.seen c.loop-entry.desk) (FileOf index shard) (IsPieceOf index shard)
    (map entry_of (take c.loop-entry.entry-index c.files-entry-items.result.now)) (λ e name own. file_in index shard e name own) c.loop-entry.invariant.went

pub returns-in_err-check_file-clause-first : goal.returns-in_err-check_file-clause-first
returns-in_err-check_file-clause-first g c =
    let s = g.Q.Desk.start in
    let mid = caller_of s (g.Q.Desk.seen c.loop-entry.desk) in
    let new = caller_of s (g.Q.Desk.seen c.check_file.new.desk) in
    let index = c.args.shard.at.index.number in
    let shard = c.args.shard.at.number in
    let xs = c.files-entry-items.result.now in
    let i = c.loop-entry.entry-index in
    let own = entry_of c.entry-item.result in
    let before = map entry_of (take i xs) in
    let next = subst (λ (es : List CodeEntry). IsNext (map entry_of es) before own) c.files-entry-items.ensures.files (next_at entry_of xs i c.entry-item.result c.loop-entry-test.true c.entry-item.is) in
    passes (FirstOfFile s new index shard own) (FirstOfFiles s new index shard (shard_index_of c.args.held.now).files) c.from_residual.result c.in_err-check_file.field-0.0 c.from_residual.ensures.1
    (λ name first. record { before = before; e = own; next = next; agree = files_more s mid new c.check_file.ensures.went.grown index shard before c.loop-entry.invariant.files; first = first })
    c.in_err-check_file.ensures.first
