use Rattle.std.proofs.Common.{◌+◌, ◌*◌}
use Rattle.esr_drive.specs.Members.{members}
use Rattle.esr_drive.proofs.workers.+drive_and_elect+fn-drive_and_elect-join+arg3.Given as goal

abbrev pub decreases-drive_and_elect : goal.decreases-drive_and_elect
decreases-drive_and_elect g l = 2 * members l.crew.workers l.crew.elections

abbrev pub decreases-join+arg3 : goal.decreases-join+arg3
decreases-join+arg3 g l = 2 * members l.others.workers l.others.elections + 1
