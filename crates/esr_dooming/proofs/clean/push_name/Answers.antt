use Rattle.std.proofs.Common.{sym, ◌∙◌}
use Rattle.std.specs.BTreeSet.{contains}
use Rattle.esr_names.specs.contracts.blob.BlobNameOrd.TheImpl as name_block
use Rattle.esr_formats.specs.Names.{name_of}
use Rattle.esr_dooming.proofs.Unreaching.{not_pushed, name_pushed}
use Rattle.esr_dooming.proofs.clean.push_name.Goals as goal

pub returns-then-is_spared : goal.returns-then-is_spared
returns-then-is_spared c = not_pushed c.args.names.now (contains name_block.ghosts.cmp c.args.reached.now) (name_of c.args.name) (sym c.is_spared.ensures ∙ c.if-is_spared.true)

pub returns : goal.returns
returns c = name_pushed c.args.names.now c.push.new.self (contains name_block.ghosts.cmp c.args.reached.now) c.args.name (sym c.is_spared.ensures ∙ c.if-is_spared.false) c.in_ok-push.ensures.ok
