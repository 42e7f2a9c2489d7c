use Rattle.std.proofs.Common.{◌≡◌, ◌||◌, map, drop}
use Rattle.esr_model.specs.Values.{Bytes}
use Rattle.esr_formats.specs.Names.{name_of}
use Rattle.esr_report.specs.Cleaned.{has_text}
use Rattle.esr_report.specs.Ends.{holds_text}
use Rattle.esr_report.proofs.cleaned.insert_texts.Given as goal

abbrev pub invariant-loop-name : goal.invariant-loop-name
invariant-loop-name l = (text : Bytes) → (holds_text l.fn.texts text || has_text (map name_of l.names) text) ≡ (holds_text l.texts text || has_text (map name_of (drop l.name-index l.names)) text)
