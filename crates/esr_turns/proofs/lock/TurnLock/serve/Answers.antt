use Rattle.std.proofs.Common.{rules}
use Rattle.esr_turns.proofs.Keeps.{serves}
use Rattle.esr_turns.proofs.lock.TurnLock.serve.Goals as goal

pub fetch_add-requires : goal.fetch_add-requires
fetch_add-requires g c = let home = c.requires.home in (search rules, search rules, serves _ _ _ _ _ _ c.args.ticket home.0 c.requires.counted home.1 home.2)
