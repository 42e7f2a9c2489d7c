use Rattle.std.proofs.Common.{codes}
use Rattle.esr_lines.specs.Lines.{index_at}
use Rattle.esr_lines.proofs.Texts.{two_texts}
use Rattle.esr_lines.proofs.text.push_no_index.Goals as goal

pub returns : goal.returns
returns c = two_texts c.push_index_at.result c.args.out.now c.push.new.out c.push_index_at.new.out (codes " refused no-index ") (index_at c.args.item.now c.args.place) c.in_ok-push.ensures c.push_index_at.ensures
