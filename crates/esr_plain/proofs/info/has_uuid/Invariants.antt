use Rattle.std.proofs.Common.{◌≡◌, ℕ, take, map}
use Rattle.esr_formats.specs.Ids.{number_of}
use Rattle.esr_model.specs.Values.{Has}
use Rattle.esr_plain.proofs.info.has_uuid.Given as goal

abbrev pub invariant-loop-one : goal.invariant-loop-one
invariant-loop-one l = (u : ℕ) → Has (map number_of (take l.one-index l.uuids)) u → u ≡ l.uuid.number → ⊥
