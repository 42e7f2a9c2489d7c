use Rattle.esr_test_lists.proofs.Boards.{started}
use Rattle.esr_test_lists.proofs.lists.Listing.open.Goals as goal

pub board_of-requires : goal.board_of-requires
board_of-requires c = started _ _ _ c.in-Ok.ensures.opened
