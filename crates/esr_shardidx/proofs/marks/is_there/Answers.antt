use Rattle.std.proofs.Common.{◌≡◌, true, false, ℕ, Bool, List, Option, Some, None, slice_get, sym, ◌∙◌}
use Rattle.std.specs.Option.{is_some, IfSome, IfNone}
use Rattle.esr_names.specs.declared.ids.Id.{Id}
use Rattle.esr_shardidx.specs.declared.entry.FileEntry.{FileEntry}
use Rattle.esr_shardidx.specs.Indices.{is_at, has_file}
use Rattle.esr_shardidx.proofs.Rising.{there_at}
use Rattle.esr_shardidx.proofs.marks.is_there.Goals as goal

either : (es : List FileEntry) (u : Id) (o : Option ℕ) → IfSome o (λ i. is_at u (slice_get es i) ≡ true) → IfNone o (has_file es u ≡ false) → is_some o ≡ has_file es u
either es u None some none = sym none
either es u (Some i) some none = sym (there_at u es i some)

pub returns : goal.returns
returns c = c.is_some.ensures ∙ either c.args.entries.now c.args.name c.find_place.result c.find_place.ensures.found c.find_place.ensures.absent
