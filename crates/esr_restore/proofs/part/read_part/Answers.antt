use Rattle.std.proofs.Common.{subst}
use Rattle.esr_formats.specs.Names.{name_of}
use Rattle.esr_parts.specs.Back.{ReadBack}
use Rattle.esr_parts.specs.declared.back.Extent.{Extent}
use Rattle.esr_parts.specs.declared.back.Extent.TheVariants.{Whole, Short, Long}
use Rattle.esr_desk.specs.Evidence.{evidence}
use Rattle.esr_desk.specs.Own.{reader_of}
use Rattle.esr_unit.specs.Refusals.{passed_on}
use Rattle.esr_restore.specs.Trouble.{IsTrouble}
use Rattle.esr_restore.proofs.Parts.{part_read}
use Rattle.esr_restore.proofs.part.read_part.Goals as goal

pub returns-in_err-blob-clause-trouble : goal.returns-in_err-blob-clause-trouble
returns-in_err-blob-clause-trouble g c =
    let s = g.Q.Desk.start in
    let count = g.Q.Target.Counted.faults c.args.target.now in
    let sure = (g.Q.Target.Target.told c.args.target.now).is_sure in
    passed_on c.from_residual.result
    (IsTrouble (evidence g.Q.Stage.Counted.faults g.Q.Fetch.Counted.faults g.Q.Shard.Counted.faults g.Q.Target.Counted.faults g.Q.Shard.Shard.told g.Q.Target.Target.told) count sure s (g.Q.Desk.seen c.fetch.new.desk) c.args.ticket)
    c.in_err-blob.field-0.0 c.from_residual.ensures.1 (c.in_err-blob.ensures.trouble count sure)

pub returns-in-Ok-Whole-clause-read : goal.returns-in-Ok-Whole-clause-read
returns-in-Ok-Whole-clause-read g c =
    let s = g.Q.Desk.start in
    let who = c.args.ticket in
    part_read s (reader_of s (g.Q.Desk.seen c.args.desk.now) who) (reader_of s (g.Q.Desk.seen c.fetch.new.desk) who) (name_of c.args.part.name)
    (g.Q.Fetch.Fetch.left c.in_ok-blob.blob) (g.Q.Fetch.Fetch.left c.read_back.new.fetch) (g.Q.Fetch.Fetch.is_sure c.in_ok-blob.blob)
    c.args.hasher.now c.read_back.new.hasher (g.Q.Target.Target.told c.args.target.now).begun (g.Q.Target.Target.told c.read_back.new.target).begun c.args.part.size Whole c.in_ok-blob.ensures.came
    (subst (λ (x : Extent). ReadBack (g.Q.Fetch.Fetch.left c.in_ok-blob.blob) (g.Q.Fetch.Fetch.left c.read_back.new.fetch) c.args.hasher.now c.read_back.new.hasher
    (g.Q.Target.Target.told c.args.target.now).begun (g.Q.Target.Target.told c.read_back.new.target).begun c.args.part.size x) c.in-Ok-Whole.field-0-is c.in-Ok-Whole.ensures.back)

pub returns-in-Ok-Short-clause-read : goal.returns-in-Ok-Short-clause-read
returns-in-Ok-Short-clause-read g c =
    let s = g.Q.Desk.start in
    let who = c.args.ticket in
    part_read s (reader_of s (g.Q.Desk.seen c.args.desk.now) who) (reader_of s (g.Q.Desk.seen c.fetch.new.desk) who) (name_of c.args.part.name)
    (g.Q.Fetch.Fetch.left c.in_ok-blob.blob) (g.Q.Fetch.Fetch.left c.read_back.new.fetch) (g.Q.Fetch.Fetch.is_sure c.in_ok-blob.blob)
    c.args.hasher.now c.read_back.new.hasher (g.Q.Target.Target.told c.args.target.now).begun (g.Q.Target.Target.told c.read_back.new.target).begun c.args.part.size Short c.in_ok-blob.ensures.came
    (subst (λ (x : Extent). ReadBack (g.Q.Fetch.Fetch.left c.in_ok-blob.blob) (g.Q.Fetch.Fetch.left c.read_back.new.fetch) c.args.hasher.now c.read_back.new.hasher
    (g.Q.Target.Target.told c.args.target.now).begun (g.Q.Target.Target.told c.read_back.new.target).begun c.args.part.size x) c.in-Ok-Short.field-0-is c.in-Ok-Short.ensures.back)

pub returns-in-Ok-Long-clause-read : goal.returns-in-Ok-Long-clause-read
returns-in-Ok-Long-clause-read g c =
    let s = g.Q.Desk.start in
    let who = c.args.ticket in
    part_read s (reader_of s (g.Q.Desk.seen c.args.desk.now) who) (reader_of s (g.Q.Desk.seen c.fetch.new.desk) who) (name_of c.args.part.name)
    (g.Q.Fetch.Fetch.left c.in_ok-blob.blob) (g.Q.Fetch.Fetch.left c.read_back.new.fetch) (g.Q.Fetch.Fetch.is_sure c.in_ok-blob.blob)
    c.args.hasher.now c.read_back.new.hasher (g.Q.Target.Target.told c.args.target.now).begun (g.Q.Target.Target.told c.read_back.new.target).begun c.args.part.size Long c.in_ok-blob.ensures.came
    (subst (λ (x : Extent). ReadBack (g.Q.Fetch.Fetch.left c.in_ok-blob.blob) (g.Q.Fetch.Fetch.left c.read_back.new.fetch) c.args.hasher.now c.read_back.new.hasher
    (g.Q.Target.Target.told c.args.target.now).begun (g.Q.Target.Target.told c.read_back.new.target).begun c.args.part.size x) c.in-Ok-Long.field-0-is c.in-Ok-Long.ensures.back)

pub returns-in-Ok-Whole-clause-steady : goal.returns-in-Ok-Whole-clause-steady
returns-in-Ok-Whole-clause-steady g c = c.in-Ok-Whole.ensures.steady

pub returns-in-Ok-Short-clause-steady : goal.returns-in-Ok-Short-clause-steady
returns-in-Ok-Short-clause-steady g c = c.in-Ok-Short.ensures.steady

pub returns-in-Ok-Long-clause-steady : goal.returns-in-Ok-Long-clause-steady
returns-in-Ok-Long-clause-steady g c = c.in-Ok-Long.ensures.steady
