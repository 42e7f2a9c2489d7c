-- Names of test blobs.
use Rattle.std.specs.Prelude.{◌≤◌, ℕ, List, length, map}
use Rattle.esr_names.specs.declared.blob.BlobName.{BlobName as CodeName}
use Rattle.esr_names.specs.Layout.{IsName}
use Rattle.esr_model.specs.Values.{Has}
use Rattle.esr_core.specs.Restores.{AreOnce, IsTestOf}
use Rattle.esr_formats.specs.Names.{name_of}

-- each is a name of the layout, and that of a test blob under the id; none stands twice, and they are no more than one removal takes
pub record AreTests (id : ℕ) (names : List CodeName) : Type 0 where
  pub layout : (name : CodeName) → Has names name → IsName name
  pub own : (name : CodeName) → Has names name → IsTestOf id (name_of name)
  pub once : AreOnce (map name_of names)
  pub few : length names ≤ 1000
