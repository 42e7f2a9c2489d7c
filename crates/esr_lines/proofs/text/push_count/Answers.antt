use Rattle.std.specs.Prelude.{decimal}
use Rattle.esr_lines.proofs.Texts.{two_texts}
use Rattle.esr_lines.proofs.text.push_count.Goals as goal

pub returns : goal.returns
returns c = two_texts c.push_number.result c.args.out.now c.push.new.out c.push_number.new.out c.args.words.now (decimal c.args.number) c.in_ok-push.ensures c.push_number.ensures
