-- The parts of a JSON value, or why there is none.
use Rattle.std.specs.Prelude.{ℕ, ℤ, int_lt, String, string_bytes, List, [], ◌∷◌, codes, if◌then◌else◌, Option, Some, None, Result, Ok, Err, option_map, option_and_then}
use Rattle.std.specs.Option.{ok_or}
use Rattle.std.specs.Str.{is_utf8}
use Rattle.serde_json.specs.Data.{Data, Items, no_items, item, Members, no_members, member}
use Rattle.std.specs.declared.alloc.Global.{Global}
use Rattle.serde_json.specs.Read.{read}
use Rattle.serde_json.specs.View.{view}
use Rattle.serde_json.specs.declared.value.Value.{Value}
use Rattle.serde_json.specs.Find.{get, as_str, as_array, as_object, as_number, as_integer}
use Rattle.esr_json.specs.declared.key.Key.{Key}
use Rattle.esr_json.specs.declared.key.Key.TheVariants as keys
use Rattle.esr_json.specs.declared.refusal.Reason.{Reason}
use Rattle.esr_json.specs.declared.refusal.Reason.TheVariants.{Json, Missing, WrongKind, OutOfRange}
use Rattle.esr_json.specs.Steps.{◌>>=◌}

-- a member's name, as it stands in a text
abbrev pub key_text : Key → List ℕ
key_text keys.Bytes = codes "bytes"
key_text keys.Files = codes "files"
key_text keys.Id = codes "id"
key_text keys.Indices = codes "indices"
key_text keys.Kind = codes "kind"
key_text keys.Length = codes "length"
key_text keys.Moment = codes "moment"
key_text keys.Name = codes "name"
key_text keys.Op = codes "op"
key_text keys.Ops = codes "ops"
key_text keys.PartSize = codes "part_size"
key_text keys.Pending = codes "pending"
key_text keys.PhysicalName = codes "physical_name"
key_text keys.Safe = codes "safe"
key_text keys.Sha256 = codes "sha256"
key_text keys.ShardGenerations = codes "shard_generations"
key_text keys.Shards = codes "shards"
key_text keys.Snapshots = codes "snapshots"
key_text keys.Source = codes "source"
key_text keys.State = codes "state"
key_text keys.Term = codes "term"
key_text keys.Uuid = codes "uuid"
key_text keys.Uuids = codes "uuids"

-- the value that the bytes are the text of
abbrev pub parsed : List ℕ → Result Data Reason
parsed bytes = if is_utf8 bytes then ok_or (read bytes) Json else Err Json

-- the items, in order
abbrev pub items_list : Items → List Data
items_list no_items = []
items_list (item d ds) = d ∷ items_list ds

-- the members, in order, each as its name and its value
abbrev pub members_list : Members → List (List ℕ × Data)
members_list no_members = []
members_list (member k d ms) = (k, d) ∷ members_list ms

-- the member of this name
unfoldable pub member_at : Key → Data → Result Data Reason
member_at key d = ok_or (get (key_text key) d) (Missing key)

-- the member that is a text
unfoldable pub text_at : Key → Data → Result (List ℕ) Reason
text_at key d = member_at key d >>= λ e. ok_or (as_str e) (WrongKind key)

-- the member that is a list
unfoldable pub items_at : Key → Data → Result (List Data) Reason
items_at key d = member_at key d >>= λ e. ok_or (option_map items_list (as_array e)) (WrongKind key)

-- the member that is an object
unfoldable pub members_at : Key → Data → Result (List (List ℕ × Data)) Reason
members_at key d = member_at key d >>= λ e. ok_or (option_map members_list (as_object e)) (WrongKind key)

-- the member that is a whole number, from least to limit
unfoldable pub number_at : Key → ℤ → ℤ → Data → Result ℤ Reason
number_at key least limit d = do
  e ← member_at key d
  z ← ok_or (option_and_then as_integer (as_number e)) (WrongKind key)
  if int_lt z least then Err (OutOfRange key least) else (if int_lt limit z then Err (OutOfRange key limit) else Ok z)

-- what stands for an absent member, or else what reading it gives
abbrev pub or_absent : {A : Type 0} → A → Option Data → Result A Reason → Result A Reason
or_absent x None read = Ok x
or_absent x (Some e) read = read

-- a whole number as by number_at, or what stands for an absent one
unfoldable pub number_or : Key → ℤ → ℤ → ℤ → Data → Result ℤ Reason
number_or key least limit absent d = or_absent absent (get (key_text key) d) (number_at key least limit d)

-- the member that is a list, or no items for an absent one
unfoldable pub items_or_none : Key → Data → Result (List Data) Reason
items_or_none key d = or_absent [] (get (key_text key) d) (items_at key d)

-- an element that is a text, of the list that is this member
abbrev pub text_item : Key → Data → Result (List ℕ) Reason
text_item key d = ok_or (as_str d) (WrongKind key)

-- a member of an object, by its name and what its value stands for
abbrev pub entry_view : String Global × Value → List ℕ × Data
entry_view e = (string_bytes e.0, view e.1)
