use Rattle.std.proofs.Common.{◌≡◌, [], drop}
use Rattle.esr_script.specs.Items.{read_from, index_name}
use Rattle.esr_script.specs.declared.refusal.Why.TheVariants.{Name}
use Rattle.esr_script.proofs.names.index_names.Given as goal

abbrev pub invariant-loop-word : goal.invariant-loop-word
invariant-loop-word l = read_from index_name Name [] l.words ≡ read_from index_name Name l.names (drop l.word-index l.words)
