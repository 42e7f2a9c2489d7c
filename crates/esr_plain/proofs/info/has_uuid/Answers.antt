use Rattle.std.proofs.Common.{◌≡◌, ℕ, map, subst}
use Rattle.esr_names.specs.declared.ids.Id.{Id}
use Rattle.esr_formats.specs.Ids.{number_of}
use Rattle.esr_model.specs.Values.{Has}
use Rattle.esr_plain.proofs.Loops.{holds, has_read, every_read}
use Rattle.esr_plain.proofs.info.has_uuid.Goals as goal

pub returns-then-one-uuid : goal.returns-then-one-uuid
returns-then-one-uuid c =
    let none : Id = record { number = 0 } in
    holds (subst (λ (n : ℕ). Has (map number_of c.args.uuids.now) n) c.if-one-uuid.true (has_read number_of c.args.uuids.now c.loop-one.one-index none c.loop-one-test.true))

pub loop-one-preserved : goal.loop-one-preserved
loop-one-preserved c =
    let none : Id = record { number = 0 } in
    every_read (λ (n : ℕ). n ≡ c.args.uuid.number → ⊥) number_of c.args.uuids.now c.loop-one.one-index none c.loop-one-test.true c.loop-one.invariant c.if-one-uuid.false
