use Rattle.esr_formats.specs.Shards.{entry_of}
use Rattle.esr_desk.specs.Own.{caller_of}
use Rattle.esr_check.proofs.Going.{held_more}
use Rattle.esr_check.proofs.Judging.{judged_so, judged_well, has_file}
use Rattle.std.proofs.Common.{refl}
use Rattle.esr_check.specs.First.{FirstOfFile, AtWhole}
use Rattle.esr_check.proofs.Telling.{judged_tells}
use Rattle.esr_check.proofs.file.check_file.Goals as goal

pub read_parts-requires-clause-shard : goal.read_parts-requires-clause-shard
read_parts-requires-clause-shard g c κs within = c.requires.shard

pub read_parts-requires-clause-listed : goal.read_parts-requires-clause-listed
read_parts-requires-clause-listed g c κs within = c.requires.listed

pub returns-in-Some-clause-trouble : goal.returns-in-Some-clause-trouble
returns-in-Some-clause-trouble g c =
    let s = g.Q.Desk.start in
    let old = g.Q.Desk.seen c.args.desk.now in
    let new = g.Q.Desk.seen c.read_parts.new.desk in
    let at = c.args.shard.at in
    let own = c.requires.listed in
    judged_so s new c.read_parts.new.hasher at c.args.shard.generation own.held c.args.entry.now c.end.result c.in_ok-is_exact.is_exact
    (held_more s (caller_of s old) (caller_of s new) c.read_parts.ensures.went.grown at.index.number at.number c.args.shard.generation.number own.held own.read)
    own.listed c.in_ok-is_exact.ensures.read c.end.ensures.joined c.judge.result c.in-Some.why c.judge.ensures c.in-Some.is

pub returns-clause-file : goal.returns-clause-file
returns-clause-file g c =
    let s = g.Q.Desk.start in
    let e = c.args.entry.now in
    has_file s (caller_of s (g.Q.Desk.seen c.read_parts.new.desk)) c.read_parts.new.hasher c.args.shard.at e c.end.result c.in_ok-is_exact.is_exact c.in_ok-is_exact.ensures.read c.end.ensures.joined
    (judged_well c.args.shard.at c.args.shard.generation e c.end.result c.in_ok-is_exact.is_exact c.judge.result c.judge.ensures c.in_default.is)

pub returns-in-Some-clause-first : goal.returns-in-Some-clause-first
returns-in-Some-clause-first g c =
    let s = g.Q.Desk.start in
    let at = c.args.shard.at in
    let e = c.args.entry.now in
    judged_tells (FirstOfFile s (caller_of s (g.Q.Desk.seen c.read_parts.new.desk)) at.index.number at.number (entry_of e)) at c.args.shard.generation e c.end.result c.in_ok-is_exact.is_exact c.judge.result c.in-Some.why c.judge.ensures c.in-Some.is
    (AtWhole c.in_ok-is_exact.ensures.read.found refl)
