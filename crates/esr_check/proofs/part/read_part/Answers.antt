use Rattle.std.proofs.Common.{subst}
use Rattle.std.specs.Result.{is_err}
use Rattle.esr_formats.specs.Names.{name_of}
use Rattle.esr_unit.specs.Objects.{never_err, is_faulty}
use Rattle.esr_parts.specs.Back.{HashedBack}
use Rattle.esr_parts.specs.declared.back.Extent.{Extent}
use Rattle.esr_parts.specs.declared.back.Extent.TheVariants.{Whole, Short, Long}
use Rattle.esr_check.proofs.Parting.{part_read}
use Rattle.esr_check.proofs.Refusing.{was_err}
use Rattle.esr_check.proofs.part.read_part.Goals as goal

pub returns-in-Ok-Whole-clause-read : goal.returns-in-Ok-Whole-clause-read
returns-in-Ok-Whole-clause-read g c =
    let left = g.Q.Fetch.Fetch.left in
    let blob = c.in_ok-blob.blob in
    part_read g.Q.Desk.start (g.Q.Desk.seen c.fetch.new.desk) (name_of c.args.name) (left blob) (left c.hash_back.new.fetch) (g.Q.Fetch.Fetch.is_sure blob) c.args.hasher.now c.hash_back.new.hasher c.args.size Whole c.in_ok-blob.ensures.came
    (subst (λ (x : Extent). HashedBack (left blob) (left c.hash_back.new.fetch) c.args.hasher.now c.hash_back.new.hasher c.args.size x) c.in-Ok-Whole.field-0-is c.in-Ok-Whole.ensures.back)

pub returns-in-Ok-Short-clause-read : goal.returns-in-Ok-Short-clause-read
returns-in-Ok-Short-clause-read g c =
    let left = g.Q.Fetch.Fetch.left in
    let blob = c.in_ok-blob.blob in
    part_read g.Q.Desk.start (g.Q.Desk.seen c.fetch.new.desk) (name_of c.args.name) (left blob) (left c.hash_back.new.fetch) (g.Q.Fetch.Fetch.is_sure blob) c.args.hasher.now c.hash_back.new.hasher c.args.size Short c.in_ok-blob.ensures.came
    (subst (λ (x : Extent). HashedBack (left blob) (left c.hash_back.new.fetch) c.args.hasher.now c.hash_back.new.hasher c.args.size x) c.in-Ok-Short.field-0-is c.in-Ok-Short.ensures.back)

pub returns-in-Ok-Long-clause-read : goal.returns-in-Ok-Long-clause-read
returns-in-Ok-Long-clause-read g c =
    let left = g.Q.Fetch.Fetch.left in
    let blob = c.in_ok-blob.blob in
    part_read g.Q.Desk.start (g.Q.Desk.seen c.fetch.new.desk) (name_of c.args.name) (left blob) (left c.hash_back.new.fetch) (g.Q.Fetch.Fetch.is_sure blob) c.args.hasher.now c.hash_back.new.hasher c.args.size Long c.in_ok-blob.ensures.came
    (subst (λ (x : Extent). HashedBack (left blob) (left c.hash_back.new.fetch) c.args.hasher.now c.hash_back.new.hasher c.args.size x) c.in-Ok-Long.field-0-is c.in-Ok-Long.ensures.back)

pub returns-clause-trouble : goal.returns-clause-trouble
returns-clause-trouble g c =
    is_faulty g.Q.Desk.start (g.Q.Fetch.Counted.faults c.in_ok-blob.blob) (g.Q.Fetch.Counted.faults c.hash_back.new.fetch) (is_err c.hash_back.result) c.hash_back.ensures.cause
    (λ quiet. never_err c.hash_back.result (c.hash_back.ensures.sure_ok (c.in_ok-blob.ensures.came.served quiet))) (was_err c.hash_back.result _ c.in-Err.is)
