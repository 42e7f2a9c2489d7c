-- Objects whose members rise by name.
use Rattle.std.specs.Prelude.{◌≡◌, ℕ, List, [], ◌∷◌}
use Rattle.std.specs.List.{AllByRecursion}
use Rattle.std.specs.Ordering.{nat_cmp}
use Rattle.std.specs.Cmp.Lexicographic.{slice_cmp}
use Rattle.std.specs.declared.cmp.Ordering.TheVariants.{Greater}
use Rattle.serde_json.specs.Data.{Data, null, boolean, number, string, array, object, Items, no_items, item, Members, no_members, member, put}
use Rattle.esr_json.specs.Plain.{StandsBefore}

-- the members, with these put in one after another
abbrev pub with_members : Members → List (List ℕ × Data) → Members
with_members found [] = found
with_members found (e ∷ es) = with_members (put e.0 e.1 found) es

-- the names rise in byte order
abbrev pub Rising : List (List ℕ) → Type 0
Rising [] = Unit {0}
Rising (n ∷ ns) = AllByRecursion (λ m. slice_cmp nat_cmp m n ≡ Greater) ns × Rising ns

-- the members of each object rise by name
abbrev mutual
  pub IsInOrder : Data → Type 0
  IsInOrder null = Unit {0}
  IsInOrder (boolean b) = Unit {0}
  IsInOrder (number n) = Unit {0}
  IsInOrder (string s) = Unit {0}
  IsInOrder (array ds) = ItemsAreInOrder ds
  IsInOrder (object ms) = MembersAreInOrder ms

  pub ItemsAreInOrder : Items → Type 0
  ItemsAreInOrder no_items = Unit {0}
  ItemsAreInOrder (item d ds) = IsInOrder d × ItemsAreInOrder ds

  pub MembersAreInOrder : Members → Type 0
  MembersAreInOrder no_members = Unit {0}
  MembersAreInOrder (member k d ms) = IsInOrder d × StandsBefore k ms × MembersAreInOrder ms
