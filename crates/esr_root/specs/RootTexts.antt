-- A root is written in full, and read back without a call.
use Rattle.std.proofs.Common.{◌≡◌, ℕ, zero, suc, ◌+◌, ◌<◌, ◌≤◌, ◌^◌, ◌==◌, nat_lt, Bool, true, false, cond, ◌||◌, List, [], ◌∷◌, length, codes, Option, Some, None, Ok, refl, arith}
use Rattle.std.specs.Prelude.{slice_index}
use Rattle.std.specs.List.{list_any}
use Rattle.std.specs.Option.{option_or}
use Rattle.std.specs.Str.{IsUtf8, IsAscii}
use Rattle.std.proofs.lemmas.Bool.{ltb-false, or_parts}
use Rattle.std.proofs.lemmas.Str.{IsUtf8-from_ascii}
use Rattle.esr_json.specs.declared.key.Key.TheVariants as keys
use Rattle.esr_names.specs.NameRule.{byte_rule, fault_at, byte_fault, name_fault, snap_name_fault, index_name_fault}
use Rattle.esr_names.specs.declared.name.BadName.{BadName}
use Rattle.esr_names.specs.declared.name.Rule.{Rule}
use Rattle.esr_names.specs.declared.name.Rule.TheVariants.{Empty, TooLong, First, Outside}
use Rattle.esr_names.specs.declared.ids.Id.{Id}
use Rattle.esr_names.specs.IdTextLaws.{IsUtf8-id_text}
use Rattle.esr_json.specs.Plain.{IsPlain}
use Rattle.esr_json.specs.PlainTexts.{parsed-compact_text}
use Rattle.esr_json.specs.PlainValues.{IsUtf8-key_text, ItemsArePlain-map, MembersArePlain-with_members}
use Rattle.esr_root.specs.Generations.{IsGeneration}
use Rattle.esr_root.specs.Snaps.{IsSnap}
use Rattle.esr_root.specs.Indices.{IsIndex}
use Rattle.esr_root.specs.Root.{Root, IsRoot}
use Rattle.esr_root.specs.Reading.{root_from}
use Rattle.esr_root.specs.Text.{id_data, snap_data, generation_data, index_data, root_data, root_text}
use Rattle.esr_root.specs.declared.snaps.RootSnap.{RootSnap}
use Rattle.esr_root.specs.declared.indices.RootIndex.{RootIndex}
use Rattle.esr_root.specs.RoundTrip.{Rising-names, root_shallow, root_of-root_data}

-- ---- names are ASCII

outside_first : (b : Bool) (rest : Option Rule) → cond b (Some Outside) rest ≡ None → b ≡ false
outside_first true rest h = cc
outside_first false rest h = refl

pub later_fault : (i : ℕ) (o : Option Rule) (later : Option BadName) → fault_at i o later ≡ None → (o ≡ None) × (later ≡ None)
later_fault i None later h = (refl, h)
later_fault i (Some rule) later h = cc

pub bytes_ascii : (i : ℕ) (s : List ℕ) → byte_fault i s ≡ None → IsAscii s
bytes_ascii i [] h k = omega arith
bytes_ascii i (c ∷ cs) h zero =
    let here = later_fault i (byte_rule c) (byte_fault (i + 1) cs) h in
    let test = or_parts (nat_lt c 33) (nat_lt 126 c) (outside_first (nat_lt c 33 || nat_lt 126 c) _ here.0) in
    let most : c ≤ 126 = ltb-false 126 c test.1 in
    omega arith
bytes_ascii i (c ∷ cs) h (suc k) = bytes_ascii (i + 1) cs (later_fault i (byte_rule c) (byte_fault (i + 1) cs) h).1 k

none_of : (b : Bool) (bad : BadName) (rest : Option BadName) → cond b (Some bad) rest ≡ None → rest ≡ None
none_of true bad rest h = cc
none_of false bad rest h = h

pub name_utf8 : (firsts s : List ℕ) → name_fault firsts s ≡ None → IsUtf8 s
unfolding name_fault
name_utf8 firsts s h =
    let begins : Option BadName = cond (list_any (λ x. x == slice_index s 0) firsts) (Some (record { place = 0; rule = First })) (byte_fault 0 s) in
    let longer : Option BadName = cond (nat_lt 255 (length s)) (Some (record { place = 255; rule = TooLong })) begins in
    let some = none_of (length s == 0) (record { place = 0; rule = Empty }) longer h in
    let short = none_of (nat_lt 255 (length s)) (record { place = 255; rule = TooLong }) begins some in
    let bytes = none_of (list_any (λ x. x == slice_index s 0) firsts) (record { place = 0; rule = First }) (byte_fault 0 s) short in
    IsUtf8-from_ascii s (bytes_ascii 0 s bytes)

pub first_none : {A : Type 0} (o p : Option A) → option_or o p ≡ None → o ≡ None
first_none None p h = refl
first_none (Some x) p h = cc

pub snap_name_utf8 : (s : List ℕ) → snap_name_fault s ≡ None → IsUtf8 s
snap_name_utf8 s h = name_utf8 (codes "_") s h

pub index_name_utf8 : (s : List ℕ) → index_name_fault s ≡ None → IsUtf8 s
index_name_utf8 s h = name_utf8 (codes "_-+") s (first_none (name_fault (codes "_-+") s) _ h)

-- ---- the parts

snap_plain : (s : RootSnap) → IsSnap s → IsPlain (snap_data s)
snap_plain s h =
    let small : s.state < 256 = h.state in
    (IsUtf8-key_text keys.Name, snap_name_utf8 s.name h.name, refl, (IsUtf8-key_text keys.State, omega arith, refl, (IsUtf8-key_text keys.Uuid, IsUtf8-id_text s.uuid.number, tt, tt)))

generation_plain : (g : Option Id) → IsGeneration g → IsPlain (generation_data g)
generation_plain None h = IsUtf8-from_ascii (codes "_new") (bytes_ascii 0 (codes "_new") refl)
generation_plain (Some u) h = IsUtf8-id_text u.number

index_plain : (i : RootIndex) → IsIndex i → IsPlain (index_data i)
index_plain i h = (
  IsUtf8-key_text keys.Id,
  IsUtf8-id_text i.id.number,
  refl,
  (
    IsUtf8-key_text keys.ShardGenerations,
    ItemsArePlain-map IsGeneration generation_data generation_plain i.generations h.generations.each,
    refl,
    (IsUtf8-key_text keys.Snapshots, ItemsArePlain-map (λ u. u.number < 2 ^ 128) id_data (λ u small. IsUtf8-id_text u.number) i.snapshots h.snapshots.each, tt, tt),
  ),
)

root_plain : (r : Root) → IsRoot r → IsPlain (root_data r)
unfolding root_data
root_plain r h = (
  IsUtf8-key_text keys.Indices,
  MembersArePlain-with_members IsIndex (λ (i : RootIndex). i.name) index_data (λ i one. index_name_utf8 i.name one.name) index_plain r.indices h.indices.each (Rising-names r.indices h.indices.rises),
  refl,
  (IsUtf8-key_text keys.Snapshots, ItemsArePlain-map IsSnap snap_data snap_plain r.snapshots h.snapshots.each, tt, tt),
)

-- the text of a root reads as that root
pub root_from-root_text : (r : Root) → IsRoot r → root_from (root_text r) ≡ Ok r
root_from-root_text r h = rw (parsed-compact_text (root_data r) (root_plain r h) (root_shallow r).1) (root_of-root_data r h)
