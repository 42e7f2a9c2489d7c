-- Steps of a check that fetch.
use Rattle.std.proofs.Common.{List, [], ◌∷◌, ap}
use Rattle.esr_model.specs.Names.{BlobName}
use Rattle.esr_core.specs.Entry.{Entry, Moment}
use Rattle.esr_desk.specs.Check.Shown.{AllFetches}
use Rattle.esr_check.specs.Checked.{AreFetched}

pub fetched_all : (moments : List Moment) (names : List BlobName) → AreFetched moments names → AllFetches moments
fetched_all [] names are = tt
fetched_all (m ∷ moments) [] are = absurd are
fetched_all (m ∷ moments) (n ∷ names) are = (ap (λ (e : Entry). e.who) are.0, (n, ap (λ (e : Entry). e.step) are.0), fetched_all moments names are.1)
