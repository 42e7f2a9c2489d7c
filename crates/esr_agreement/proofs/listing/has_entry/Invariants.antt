use Rattle.std.proofs.Common.{◌≡◌, take, map}
use Rattle.esr_formats.specs.Shards.{entry_of}
use Rattle.esr_model.specs.Values.{Has, FileEntry}
use Rattle.esr_agreement.proofs.listing.has_entry.Given as goal

abbrev pub invariant-loop-old : goal.invariant-loop-old
invariant-loop-old l = (e : FileEntry) → Has (map entry_of (take l.old-index l.entries)) e → e ≡ entry_of l.entry → ⊥
