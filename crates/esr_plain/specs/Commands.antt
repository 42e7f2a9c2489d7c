-- Commands as the definitions see them.
use Rattle.std.specs.Prelude.{List, [], ◌∷◌, Option, Some, None, map}
use Rattle.esr_formats.specs.Ids.{number_of}
use Rattle.esr_model.specs.Shelf.{Shelved, Command, Create, Clone, Delete}
use Rattle.esr_plain.specs.declared.shelf.Command.{Command as CodeCommand}
use Rattle.esr_plain.specs.declared.shelf.Command.TheVariants as code

-- the command that a command of the code is
abbrev pub command_of : CodeCommand → Command
command_of (code.Create made) = Create made
command_of (code.Clone source name uuid indices) = Clone source.number name uuid.number indices
command_of (code.Delete uuids) = Delete (map number_of uuids)

-- the one that there may be, as a list
abbrev pub made_list : Option Shelved → List Shelved
made_list None = []
made_list (Some s) = s ∷ []
