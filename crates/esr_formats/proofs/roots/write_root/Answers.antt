use Rattle.std.proofs.Common.{subst}
use Rattle.esr_root.specs.Root.{IsRoot}
use Rattle.esr_formats.proofs.ByKind.{IfOk-text}
use Rattle.esr_formats.proofs.RootTexts.{root_kind-text, root_reads_back}
use Rattle.esr_formats.proofs.roots.write_root.Goals as goal

pub returns-clause-text : goal.returns-clause-text
returns-clause-text c = IfOk-text c.root_text.result _ _ (root_kind-text c.args.root.now) c.root_text.ensures.text

pub returns-clause-reads : goal.returns-clause-reads
returns-clause-reads c = root_reads_back c.args.root.now (subst IsRoot c.root.view_is c.root.invariant)
