use Rattle.esr_core.proofs.AskedShelf.{from_start}
use Rattle.esr_core.proofs.restores_give_the_shelf_of_their_ask.Goals as goal

pub returns : goal.returns
returns c = λ f size shelf w before rest m name place o uuid indices k q files bytes l r legal told step reply reading of by. from_start f size m name place o uuid indices step reply k q of files bytes by before rest w shelf l r legal told reading
