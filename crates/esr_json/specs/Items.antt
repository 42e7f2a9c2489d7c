-- The items and members of a value, as lists.
use Rattle.std.proofs.Common.{◌≡◌, List, [], ◌∷◌, map, String, Global, refl, ap}
use Rattle.serde_json.specs.Data.{Data}
use Rattle.serde_json.specs.View.{view, items_of, items_view, members_view}
use Rattle.serde_json.specs.declared.value.Value.{Value}
use Rattle.esr_json.specs.Access.{items_list, members_list, entry_view}

pub items_listed_of : (ds : List Data) → items_list (items_of ds) ≡ ds
items_listed_of [] = refl
items_listed_of (d ∷ ds) = ap (λ (r : List Data). d ∷ r) (items_listed_of ds)

pub items_listed : (vs : List Value) → items_list (items_view vs) ≡ map view vs
items_listed vs = items_listed_of (map view vs)

pub members_listed : (ms : List (String Global × Value)) → members_list (members_view ms) ≡ map entry_view ms
members_listed [] = refl
members_listed (m ∷ ms) = ap (λ r. entry_view m ∷ r) (members_listed ms)
