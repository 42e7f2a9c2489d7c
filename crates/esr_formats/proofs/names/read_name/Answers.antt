use Rattle.esr_formats.proofs.NameTexts.{parsed_is, parsed_text}
use Rattle.esr_formats.proofs.names.read_name.Goals as goal

pub returns-clause-read : goal.returns-clause-read
returns-clause-read c = parsed_is c.args.bytes.now c.parse_name.result c.parse_name.ensures.found c.parse_name.ensures.only

pub returns-clause-text : goal.returns-clause-text
returns-clause-text c = parsed_text c.args.bytes.now c.parse_name.result c.parse_name.ensures.found
