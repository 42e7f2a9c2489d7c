use Rattle.std.proofs.Common.{◌≡◌, false, sym, ap, ◌∙◌, slice_get, ℕ}
use Rattle.esr_shardidx.specs.Indices.{is_at, place_of}
use Rattle.esr_shardidx.proofs.Rising.{absent_at}
use Rattle.esr_shardidx.proofs.marks.find_place.Goals as goal

pub returns-else-is_at-2-clause-absent : goal.returns-else-is_at-2-clause-absent
returns-else-is_at-2-clause-absent c =
    let place : c.place_of-place.result ≡ place_of c.args.name c.args.entries.now = c.place_of-place.ensures.place in
    absent_at c.args.name c.args.entries.now c.requires (ap (λ (i : ℕ). is_at c.args.name (slice_get c.args.entries.now i)) (sym place) ∙ sym c.is_at-2.ensures.test ∙ c.if-is_at-2.false)
