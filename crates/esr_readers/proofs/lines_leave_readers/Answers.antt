use Rattle.esr_readers.proofs.ReadersStay.{ask_leaves, look_leaves, read_leaves}
use Rattle.esr_readers.proofs.lines_leave_readers.Goals as goal

pub returns : goal.returns
returns c = record { asks = ask_leaves; looks = look_leaves; reads = read_leaves }
