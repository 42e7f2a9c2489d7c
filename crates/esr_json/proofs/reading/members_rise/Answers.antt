use Rattle.esr_json.specs.InOrder.{IsInOrder-parsed, Rising-members_at}
use Rattle.esr_json.proofs.reading.members_rise.Goals as goal

pub returns : goal.returns
returns c = λ bytes d key es read found. Rising-members_at key d es (IsInOrder-parsed bytes d read) found
