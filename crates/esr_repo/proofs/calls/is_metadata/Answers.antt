use Rattle.std.proofs.Common.{inl, inr, ap}
use Rattle.esr_formats.specs.Names.{name_of}
use Rattle.esr_repo.proofs.calls.is_metadata.Goals as goal

pub returns-in-Snap-clause-yes_it_is : goal.returns-in-Snap-clause-yes_it_is
returns-in-Snap-clause-yes_it_is c =
    λ _. elim c.in-Snap.is [
      | inl snap ↦ (snap.0.number, inl (ap name_of snap.1))
      | inr (inl meta) ↦ (meta.0.number, inr (inl (ap name_of meta.1)))
      | inr (inr index) ↦ (index.1.number, inr (inr (index.0.number, ap name_of index.2)))
    ]
