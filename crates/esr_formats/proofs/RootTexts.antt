-- The text of a root of the code reads as the root that it is.
use Rattle.std.proofs.Common.{◌≡◌}
use Rattle.esr_root.specs.Root.{Root, IsRoot}
use Rattle.esr_root.specs.Text.{root_text}
use Rattle.esr_root.specs.Reading.{root_from}
use Rattle.esr_root.specs.RootTexts.{root_from-root_text}
use Rattle.esr_model.specs.Values.{ReadsBack}
use Rattle.esr_formats.specs.Roots.{root_of, code_root, root_kind}
use Rattle.esr_formats.specs.ReadBack.{ReadsBack-kind_by}
use Rattle.esr_formats.proofs.ByKind.{text-kind_by}
use Rattle.esr_formats.proofs.Inverses.{root_back}

pub root_kind-text : (r : Root) → root_kind.text (root_of r) ≡ root_text r
unfolding root_kind
root_kind-text r = text-kind_by code_root root_of root_text root_from r (root_back r)

pub root_reads_back : (r : Root) → IsRoot r → ReadsBack root_kind (root_of r)
unfolding root_kind
root_reads_back r h = ReadsBack-kind_by code_root root_of root_text root_from r (root_back r) (root_from-root_text r h)
