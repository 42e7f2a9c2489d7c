use Rattle.std.proofs.Common.{◌≡◌, [], drop}
use Rattle.esr_script.specs.Items.{read_from, snap_name}
use Rattle.esr_script.specs.declared.refusal.Why.TheVariants.{Name}
use Rattle.esr_script.proofs.names.snap_names.Given as goal

abbrev pub invariant-loop-word : goal.invariant-loop-word
invariant-loop-word l = read_from snap_name Name [] l.words ≡ read_from snap_name Name l.names (drop l.word-index l.words)
