use Rattle.esr_root.specs.Reading.{root_from}
use Rattle.esr_root.specs.Text.{root_text}
use Rattle.esr_formats.specs.Roots.{root_of, code_root, root_kind}
use Rattle.esr_formats.proofs.ByKind.{IsRead-kind_by}
use Rattle.esr_formats.proofs.roots.read_root.Goals as goal

pub returns-clause-read : goal.returns-clause-read
unfolding root_kind
returns-clause-read c = IsRead-kind_by code_root root_of root_text root_from c.args.bytes.now c.root_read.result c.root_read.ensures.exact
