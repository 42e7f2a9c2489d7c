use Rattle.esr_formats.specs.Names.{name_kind, name_of}
use Rattle.esr_lines.proofs.Texts.{two_texts}
use Rattle.esr_lines.proofs.text.push_named.Goals as goal

pub returns : goal.returns
returns c = two_texts c.append_name.result c.args.out.now c.push.new.out c.append_name.new.out c.args.words.now (name_kind.text (name_of c.args.name.now)) c.in_ok-push.ensures c.append_name.ensures
