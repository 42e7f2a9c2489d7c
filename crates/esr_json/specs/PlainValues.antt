-- Which values are plain, by how they are made.
use Rattle.std.proofs.Common.{◌≡◌, ℕ, ℤ, ◌≤◌, ◌^◌, ◌-◌, ◌≤ℤ◌, IsUtf8, List, [], ◌∷◌, map, pos, negsuc, refl, sym, ap, ◌∙◌, subst, arith}
use Rattle.std.specs.List.{AllByRecursion}
use Rattle.std.specs.Ordering.{nat_cmp}
use Rattle.std.specs.Cmp.Lexicographic.{slice_cmp}
use Rattle.std.specs.declared.cmp.Ordering.TheVariants.{Greater}
use Rattle.json.proofs.Printed.Utf8.{IsUtf8-are_ascii}
use Rattle.serde_json.specs.Data.{Data, Members, no_members, member}
use Rattle.serde_json.specs.Find.{of_integer}
use Rattle.serde_json.specs.View.{items_of}
use Rattle.esr_json.specs.declared.key.Key.TheVariants as keys
use Rattle.esr_json.specs.Access.{key_text, members_list}
use Rattle.esr_json.specs.Named.{with_members, Rising}
use Rattle.esr_json.specs.Plain.{IsWhole, StandsBefore, IsPlain, ItemsArePlain, MembersArePlain}
use Rattle.esr_json.specs.declared.key.Key.{Key}
use Rattle.esr_json.specs.Members.{members_list-with_members}

pub IsWhole-of_integer : (z : ℤ) → negsuc (2 ^ 63 - 1) ≤ℤ z → z ≤ℤ pos (2 ^ 64 - 1) → IsWhole (of_integer z)
IsWhole-of_integer (pos n) low high = grind arith
IsWhole-of_integer (negsuc n) low high = grind arith

-- the names of the members are ASCII
pub IsUtf8-key_text : (key : Key) → IsUtf8 (key_text key)
IsUtf8-key_text keys.Bytes = IsUtf8-are_ascii _ refl
IsUtf8-key_text key = IsUtf8-are_ascii _ refl

-- a list of plain values that are made in one way
pub ItemsArePlain-map : {A : Type 0} (P : A → Type 0) (f : A → Data) → ((x : A) → P x → IsPlain (f x)) → (xs : List A) → AllByRecursion P xs → ItemsArePlain (items_of (map f xs))
ItemsArePlain-map P f plain [] h = tt
ItemsArePlain-map P f plain (x ∷ xs) h = (plain x h.0, ItemsArePlain-map P f plain xs h.1)

-- ---- objects made of a list

-- the members, one for each of the list
abbrev listed : List (List ℕ × Data) → Members
listed [] = no_members
listed (e ∷ es) = member e.0 e.1 (listed es)

listed-members_list : (ms : Members) → listed (members_list ms) ≡ ms
listed-members_list no_members = refl
listed-members_list (member k d ms) = ap (member k d) (listed-members_list ms)

stands_before : {A : Type 0} (name : A → List ℕ) (f : A → Data) (k : List ℕ) (xs : List A) → AllByRecursion (λ m. slice_cmp nat_cmp m k ≡ Greater) (map name xs)
    → StandsBefore k (listed (map (λ x. (name x, f x)) xs))
stands_before name f k [] h = tt
stands_before name f k (x ∷ xs) h = h.0

listed_plain : {A : Type 0} (P : A → Type 0) (name : A → List ℕ) (f : A → Data) → ((x : A) → P x → IsUtf8 (name x)) → ((x : A) → P x → IsPlain (f x)) → (xs : List A)
    → AllByRecursion P xs → Rising (map name xs) → MembersArePlain (listed (map (λ x. (name x, f x)) xs))
listed_plain P name f utf8 plain [] h rises = tt
listed_plain P name f utf8 plain (x ∷ xs) h rises =
    (utf8 x h.0, plain x h.0, stands_before name f (name x) xs rises.0, listed_plain P name f utf8 plain xs h.1 rises.1)

pub MembersArePlain-with_members : {A : Type 0} (P : A → Type 0) (name : A → List ℕ) (f : A → Data) → ((x : A) → P x → IsUtf8 (name x)) → ((x : A) → P x → IsPlain (f x)) → (xs : List A)
    → AllByRecursion P xs → Rising (map name xs) → MembersArePlain (with_members no_members (map (λ x. (name x, f x)) xs))
MembersArePlain-with_members P name f utf8 plain xs h rises =
    let made = with_members no_members (map (λ x. (name x, f x)) xs) in
    let same : listed (map (λ x. (name x, f x)) xs) ≡ made = sym (ap listed (members_list-with_members name f xs rises)) ∙ listed-members_list made in
    subst MembersArePlain same (listed_plain P name f utf8 plain xs h rises)
