-- The text of a plain value is read back as that value.
use Rattle.std.proofs.Common.{◌≡◌, ℕ, suc, ◌≤◌, max, true, false, Bool, IsUtf8, List, [], ◌∷◌, decimal, Some, option_map, option_and_then, Ok, pos, negsuc, refl, sym, ap, ap₂, ◌∙◌, arith}
use Rattle.std.specs.Fmt.{signed_decimal}
use Rattle.std.specs.Ordering.{nat_cmp, ordering_reverse}
use Rattle.std.specs.Cmp.Lexicographic.{slice_cmp}
use Rattle.std.specs.declared.cmp.Ordering.TheVariants.{Less, Greater}
use Rattle.std.proofs.lemmas.Cmp.{nat_list_cmp_total}
use Rattle.std.proofs.lemmas.Fmt.{IsAscii-decimal, IsAscii-signed}
use Rattle.std.proofs.lemmas.List.{append-nil}
use Rattle.std.proofs.lemmas.Str.{IsUtf8-append, IsUtf8-nil, IsUtf8-from_ascii, is_utf8-from_IsUtf8}
use Rattle.json.specs.Lex.{tokens}
use Rattle.json.proofs.Printed.Decimals.{IsNumber-decimal, IsNumber-signed_decimal}
use Rattle.json.proofs.Printed.Tokens.{tokens-print}
use Rattle.json.proofs.Printed.Trees.{ArePrintable-json_tokens, value-json_tokens}
use Rattle.json.proofs.Printed.Utf8.{IsUtf8-are_ascii, IsUtf8-boolean, IsUtf8-quoted}
use Rattle.serde_json.specs.Data.{Num, unsigned, negative, float, Data, null, boolean, number, string, array, object, Items, no_items, item, Members, no_members, member, put, depth, items_depth, members_depth}
use Rattle.serde_json.specs.Read.{read, max_depth, number_of, of_json, of_items, of_members}
use Rattle.serde_json.specs.Written.{compact_text, items_text, members_text, comma_if, number_text, outline, items_outline, members_outline}
use Rattle.serde_json.proofs.Numbers.{number_of-decimal, number_of-negative}
use Rattle.serde_json.proofs.Texts.{print-outline}
use Rattle.json.specs.Json as json
use Rattle.json.specs.Tree as tree
use Rattle.esr_json.specs.Access.{parsed}
use Rattle.esr_json.specs.Plain.{IsWhole, StandsBefore, IsPlain, ItemsArePlain, MembersArePlain}

-- ---- numbers

number_back : (n : Num) → IsWhole n → number_of (number_text n) ≡ Some n
number_back (unsigned n) h = number_of-decimal n h
number_back (negative (pos n)) h = absurd h
number_back (negative (negsuc n)) h = number_of-negative n h
number_back (float x) h = absurd h

number_ascii : (n : Num) → IsWhole n → IsUtf8 (number_text n)
number_ascii (unsigned n) h = IsUtf8-from_ascii (decimal n) (IsAscii-decimal n h)
number_ascii (negative (pos n)) h = absurd h
number_ascii (negative (negsuc n)) h = IsUtf8-from_ascii (signed_decimal (negsuc n)) (IsAscii-signed (negsuc n) h)
number_ascii (float x) h = absurd h

-- ---- the tokens are numbers, and nest as the value does

mutual
  HasNumbers-outline : (d : Data) → IsPlain d → tree.HasNumbers (outline d)
  HasNumbers-outline null h = tt
  HasNumbers-outline (boolean b) h = tt
  HasNumbers-outline (number (unsigned n)) h = IsNumber-decimal n h
  HasNumbers-outline (number (negative (pos n))) h = absurd h
  HasNumbers-outline (number (negative (negsuc n))) h = IsNumber-signed_decimal (negsuc n) h
  HasNumbers-outline (number (float x)) h = absurd h
  HasNumbers-outline (string s) h = tt
  HasNumbers-outline (array ds) h = ItemsHaveNumbers-outline ds h
  HasNumbers-outline (object ms) h = MembersHaveNumbers-outline ms h

  ItemsHaveNumbers-outline : (ds : Items) → ItemsArePlain ds → tree.ItemsHaveNumbers (items_outline ds)
  ItemsHaveNumbers-outline no_items h = tt
  ItemsHaveNumbers-outline (item d ds) h = (HasNumbers-outline d h.0, ItemsHaveNumbers-outline ds h.1)

  MembersHaveNumbers-outline : (ms : Members) → MembersArePlain ms → tree.MembersHaveNumbers (members_outline ms)
  MembersHaveNumbers-outline no_members h = tt
  MembersHaveNumbers-outline (member k d ms) h = (HasNumbers-outline d h.1, MembersHaveNumbers-outline ms h.3)

mutual
  depth-outline : (d : Data) → tree.depth (outline d) ≡ depth d
  depth-outline null = refl
  depth-outline (boolean b) = refl
  depth-outline (number n) = refl
  depth-outline (string s) = refl
  depth-outline (array ds) = ap suc (items_depth-outline ds)
  depth-outline (object ms) = ap suc (members_depth-outline ms)

  items_depth-outline : (ds : Items) → tree.items_depth (items_outline ds) ≡ items_depth ds
  items_depth-outline no_items = refl
  items_depth-outline (item d ds) = ap₂ max (depth-outline d) (items_depth-outline ds)

  members_depth-outline : (ms : Members) → tree.members_depth (members_outline ms) ≡ members_depth ms
  members_depth-outline no_members = refl
  members_depth-outline (member k d ms) = ap₂ max (depth-outline d) (members_depth-outline ms)

-- ---- members that rise are put behind one another

abbrev append : Members → Members → Members
append no_members ms = ms
append (member k d found) ms = member k d (append found ms)

append_one : (found : Members) (k : List ℕ) (d : Data) (ms : Members) → append (append found (member k d no_members)) ms ≡ append found (member k d ms)
append_one no_members k d ms = refl
append_one (member l e found) k d ms = ap (member l e) (append_one found k d ms)

append_none : (found : Members) → append found no_members ≡ found
append_none no_members = refl
append_none (member l e found) = ap (member l e) (append_none found)

-- the name comes after those of all members
abbrev IsAfter : List ℕ → Members → Type 0
IsAfter k no_members = Unit {0}
IsAfter k (member l e ms) = (slice_cmp nat_cmp k l ≡ Greater) × IsAfter k ms

-- the first of the members does, where there is one
abbrev BeginsAfter : Members → Members → Type 0
BeginsAfter found no_members = Unit {0}
BeginsAfter found (member k d ms) = IsAfter k found

less : (x y : List ℕ) → slice_cmp nat_cmp x y ≡ Greater → slice_cmp nat_cmp y x ≡ Less
less x y h = nat_list_cmp_total.antisymm y x ∙ ap ordering_reverse h

pub greater : (x y z : List ℕ) → slice_cmp nat_cmp x y ≡ Greater → slice_cmp nat_cmp y z ≡ Greater → slice_cmp nat_cmp x z ≡ Greater
greater x y z h k = nat_list_cmp_total.antisymm x z ∙ ap ordering_reverse (nat_list_cmp_total.trans z y x (less y z k) (less x y h))

put-append : (k : List ℕ) (d : Data) (found : Members) → IsAfter k found → put k d found ≡ append found (member k d no_members)
put-append k d no_members h = refl
put-append k d (member l e ms) h = rw h.0 (ap (member l e) (put-append k d ms h.1))

IsAfter-append : (l k : List ℕ) (d : Data) (found : Members) → slice_cmp nat_cmp l k ≡ Greater → IsAfter k found → IsAfter l (append found (member k d no_members))
IsAfter-append l k d no_members over h = (over, tt)
IsAfter-append l k d (member j e ms) over h = (greater l k j over h.0, IsAfter-append l k d ms over h.1)

begins_next : (k : List ℕ) (d : Data) (found ms : Members) → IsAfter k found → StandsBefore k ms → BeginsAfter (append found (member k d no_members)) ms
begins_next k d found no_members h next = tt
begins_next k d found (member l e ms) h next = IsAfter-append l k d found next h

-- ---- the tokens stand for the value

mutual
  of_json-outline : (d : Data) → IsPlain d → of_json (outline d) ≡ Some d
  of_json-outline null h = refl
  of_json-outline (boolean b) h = refl
  of_json-outline (number n) h = ap (option_map number) (number_back n h)
  of_json-outline (string s) h = refl
  of_json-outline (array ds) h = ap (option_map array) (of_items-outline ds h)
  of_json-outline (object ms) h = ap (option_map object) (of_members-outline no_members ms h (begins_first ms))

  of_items-outline : (ds : Items) → ItemsArePlain ds → of_items (items_outline ds) ≡ Some ds
  of_items-outline no_items h = refl
  of_items-outline (item d ds) h = rw (of_json-outline d h.0, of_items-outline ds h.1) refl

  of_members-outline : (found ms : Members) → MembersArePlain ms → BeginsAfter found ms → of_members (members_outline ms) found ≡ Some (append found ms)
  of_members-outline found no_members h after = rw (append_none found) refl
  of_members-outline found (member k d ms) h after =
      ap (option_and_then (λ e. of_members (members_outline ms) (put k e found))) (of_json-outline d h.1)
      ∙ ap (λ m. of_members (members_outline ms) m) (put-append k d found after)
      ∙ of_members-outline (append found (member k d no_members)) ms h.3 (begins_next k d found ms after h.2)
      ∙ ap Some (append_one found k d ms)

  begins_first : (ms : Members) → BeginsAfter no_members ms
  begins_first no_members = tt
  begins_first (member k d ms) = tt

-- ---- the text is UTF-8

comma_utf8 : (later : Bool) → IsUtf8 (comma_if later)
comma_utf8 true = IsUtf8-are_ascii (44 ∷ []) refl
comma_utf8 false = IsUtf8-nil

mutual
  pub IsUtf8-compact_text : (d : Data) → IsPlain d → IsUtf8 (compact_text d)
  IsUtf8-compact_text null h = IsUtf8-are_ascii _ refl
  IsUtf8-compact_text (boolean b) h = IsUtf8-boolean b
  IsUtf8-compact_text (number n) h = number_ascii n h
  IsUtf8-compact_text (string s) h = IsUtf8-quoted s h
  IsUtf8-compact_text (array ds) h = IsUtf8-append (91 ∷ []) _ (IsUtf8-are_ascii (91 ∷ []) refl) (IsUtf8-items_text false ds h)
  IsUtf8-compact_text (object ms) h = IsUtf8-append (123 ∷ []) _ (IsUtf8-are_ascii (123 ∷ []) refl) (IsUtf8-members_text false ms h)

  IsUtf8-items_text : (later : Bool) (ds : Items) → ItemsArePlain ds → IsUtf8 (items_text later ds)
  IsUtf8-items_text later no_items h = IsUtf8-are_ascii (93 ∷ []) refl
  IsUtf8-items_text later (item d ds) h = IsUtf8-append _ _ (comma_utf8 later) (IsUtf8-append _ _ (IsUtf8-compact_text d h.0) (IsUtf8-items_text true ds h.1))

  IsUtf8-members_text : (later : Bool) (ms : Members) → MembersArePlain ms → IsUtf8 (members_text later ms)
  IsUtf8-members_text later no_members h = IsUtf8-are_ascii (125 ∷ []) refl
  IsUtf8-members_text later (member k d ms) h =
      IsUtf8-append _ _ (comma_utf8 later) (IsUtf8-append _ _ (IsUtf8-quoted k h.0)
      (IsUtf8-append (58 ∷ []) _ (IsUtf8-are_ascii (58 ∷ []) refl) (IsUtf8-append _ _ (IsUtf8-compact_text d h.1) (IsUtf8-members_text true ms h.3))))

-- ---- reading

tokens-compact_text : (d : Data) → IsPlain d → tokens (compact_text d) ≡ tree.json_tokens (outline d)
tokens-compact_text d h =
    ap tokens (sym (print-outline d)) ∙ tokens-print (tree.json_tokens (outline d)) (ArePrintable-json_tokens (outline d) (HasNumbers-outline d h))

pub read-compact_text : (d : Data) → IsPlain d → depth d ≤ max_depth → read (compact_text d) ≡ Some d
read-compact_text d h low =
    let ts = tokens-compact_text d h ∙ sym (append-nil _) in
    let value : json.value max_depth (tokens (compact_text d)) ≡ Some (outline d, []) =
    ap (json.value max_depth) ts ∙ value-json_tokens (outline d) max_depth [] (omega (arith, depth-outline d)) in
    ap (λ o. option_and_then of_json (option_and_then (λ p. json.if_last p.0 p.1) o)) value ∙ of_json-outline d h

pub parsed-compact_text : (d : Data) → IsPlain d → depth d ≤ max_depth → parsed (compact_text d) ≡ Ok d
parsed-compact_text d h low = rw (is_utf8-from_IsUtf8 (compact_text d) (IsUtf8-compact_text d h), read-compact_text d h low) refl
