-- Objects that failed, as a run lists them.
use Rattle.std.specs.Prelude.{ℕ, ◌<◌, List, [], ◌∷◌, Option, Some, None}
use Rattle.esr_model.specs.Values.{Has}
use Rattle.esr_opening.specs.declared.refusal.OpenRefusal.{OpenRefusal}
use Rattle.esr_opening.specs.declared.refusal.OpenRefusal.TheVariants as refusals
use Rattle.esr_desk.specs.declared.fault.Fault.{Fault}
use Rattle.esr_desk.specs.declared.fault.FailedObject.TheVariants as objects

-- a fetch of the opening, which has no entry
abbrev pub of_opening : {S F H T : Type 0} → F → Fault S F H T
of_opening fetch = record { entry = None; object = objects.Fetch fetch }

-- the list of that fetch, if there is one
abbrev pub listed : {S F H T : Type 0} → Option F → List (Fault S F H T)
listed None = []
listed (Some fetch) = of_opening fetch ∷ []

-- the fetch whose reading failed, where a container wasn't opened for that
abbrev pub fetch_of : {F : Type 0} → OpenRefusal F → Option F
fetch_of refusals.Memory = None
fetch_of (refusals.DepotFault fetch) = fetch
fetch_of (refusals.Damaged name why) = None
fetch_of (refusals.TermsSpent term) = None

-- a fetch of the opening is listed, whose count of faults shows that it failed
pub record HasFetch {S F H T : Type 0} (count : F → ℕ) (faults : List (Fault S F H T)) : Type 0 where
  pub fetch : F
  pub listed_so : Has faults (of_opening fetch)
  pub failed : 0 < count fetch
