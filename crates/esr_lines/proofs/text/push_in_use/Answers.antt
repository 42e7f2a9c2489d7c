use Rattle.std.proofs.Common.{codes}
use Rattle.esr_names.specs.IdText.{id_text}
use Rattle.esr_lines.proofs.Texts.{two_texts}
use Rattle.esr_lines.proofs.text.push_in_use.Goals as goal

pub returns : goal.returns
returns c = two_texts c.push_id.result c.args.out.now c.push.new.out c.push_id.new.out (codes " refused name-in-use ") (id_text c.args.uuid.number) c.in_ok-push.ensures c.push_id.ensures
