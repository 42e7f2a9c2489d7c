-- What is read of a text has its members in order.
use Rattle.std.proofs.Common.{◌≡◌, ℕ, inl, inr, List, map, Option, Some, None, IfSome, option_map, option_and_then, Result, Ok, Err, refl, ap, ◌∙◌, subst}
use Rattle.std.specs.List.{AllByRecursion}
use Rattle.std.specs.Option.{ok_or}
use Rattle.std.specs.Ordering.{nat_cmp, match_ordering, ordering_reverse}
use Rattle.std.specs.Cmp.Lexicographic.{slice_cmp}
use Rattle.std.specs.Str.{is_utf8}
use Rattle.std.specs.declared.cmp.Ordering.{Ordering}
use Rattle.std.specs.declared.cmp.Ordering.TheVariants.{Less, Equal, Greater}
use Rattle.std.proofs.lemmas.Bool.{cases_Bool}
use Rattle.std.proofs.lemmas.Cmp.{nat_list_cmp_total}
use Rattle.json.specs.Lex.{tokens}
use Rattle.serde_json.specs.Data.{Data, null, boolean, number, string, array, object, item, Members, no_members, member, put}
use Rattle.serde_json.specs.Find.{get, get_member, as_object}
use Rattle.serde_json.specs.Read.{read, max_depth, number_of, of_json, of_items, of_members}
use Rattle.json.specs.Json as json
use Rattle.esr_json.specs.declared.key.Key.{Key}
use Rattle.esr_json.specs.declared.refusal.Reason.{Reason}
use Rattle.esr_json.specs.declared.refusal.Reason.TheVariants.{Json, Missing, WrongKind}
use Rattle.esr_json.specs.Access.{key_text, parsed, member_at, members_at, members_list}
use Rattle.esr_json.specs.Steps.{◌>>=◌}
use Rattle.esr_json.specs.Named.{Rising, IsInOrder, ItemsAreInOrder, MembersAreInOrder}
use Rattle.esr_json.specs.Plain.{StandsBefore}
use Rattle.esr_json.specs.PlainTexts.{greater}

-- ---- putting a member in

above : (k l : List ℕ) → slice_cmp nat_cmp k l ≡ Less → slice_cmp nat_cmp l k ≡ Greater
above k l h = nat_list_cmp_total.antisymm l k ∙ ap ordering_reverse h

one_of_three : (P : Members → Type 0) (o : Ordering) (a b c : Members) → (o ≡ Less → P a) → (o ≡ Equal → P b) → (o ≡ Greater → P c) → P (match_ordering o a b c)
one_of_three P Less a b c x y z = x refl
one_of_three P Equal a b c x y z = y refl
one_of_three P Greater a b c x y z = z refl

stands_put : (l k : List ℕ) (d : Data) (ms : Members) → slice_cmp nat_cmp k l ≡ Greater → StandsBefore l ms → StandsBefore l (put k d ms)
stands_put l k d no_members over h = over
stands_put l k d (member j e ms) over h =
    one_of_three (StandsBefore l) (slice_cmp nat_cmp k j) (member k d (member j e ms)) (member j d ms) (member j e (put k d ms)) (λ e. over) (λ e. h) (λ e. h)

in_order_put : (k : List ℕ) (d : Data) (ms : Members) → IsInOrder d → MembersAreInOrder ms → MembersAreInOrder (put k d ms)
in_order_put k d no_members one h = (one, tt, tt)
in_order_put k d (member l e ms) one h =
    one_of_three MembersAreInOrder (slice_cmp nat_cmp k l) (member k d (member l e ms)) (member l d ms) (member l e (put k d ms))
    (λ less. (one, above k l less, h))
    (λ same. (one, h.1, h.2))
    (λ over. (h.0, stands_put l k d ms over h.1, in_order_put k d ms one h.2))

-- ---- reading

if_mapped : {A B : Type 0} (P : A → Type 0) (Q : B → Type 0) (f : A → B) → ((x : A) → P x → Q (f x)) → (o : Option A) → IfSome o P → IfSome (option_map f o) Q
if_mapped P Q f step None h = tt
if_mapped P Q f step (Some x) h = step x h

if_then : {A B : Type 0} (P : A → Type 0) (Q : B → Type 0) (f : A → Option B) → ((x : A) → P x → IfSome (f x) Q) → (o : Option A) → IfSome o P → IfSome (option_and_then f o) Q
if_then P Q f step None h = tt
if_then P Q f step (Some x) h = step x h

any : {A : Type 0} (o : Option A) → IfSome o (λ x. Unit {0})
any None = tt
any (Some x) = tt

mutual
  in_order : (j : json.Json) → IfSome (of_json j) IsInOrder
  in_order json.null = tt
  in_order (json.boolean b) = tt
  in_order (json.number s) = if_mapped (λ n. Unit {0}) IsInOrder number (λ n h. tt) (number_of s) (any (number_of s))
  in_order (json.string s) = tt
  in_order (json.array js) = if_mapped ItemsAreInOrder IsInOrder array (λ ds h. h) (of_items js) (items_in_order js)
  in_order (json.object ms) = if_mapped MembersAreInOrder IsInOrder object (λ ms h. h) (of_members ms no_members) (members_in_order ms no_members tt)

  items_in_order : (js : json.Items) → IfSome (of_items js) ItemsAreInOrder
  items_in_order json.no_items = tt
  items_in_order (json.item j js) =
      if_then IsInOrder ItemsAreInOrder (λ d. option_map (item d) (of_items js))
      (λ d h. if_mapped ItemsAreInOrder ItemsAreInOrder (item d) (λ ds k. (h, k)) (of_items js) (items_in_order js)) (of_json j) (in_order j)

  members_in_order : (ms : json.Members) (found : Members) → MembersAreInOrder found → IfSome (of_members ms found) MembersAreInOrder
  members_in_order json.no_members found h = h
  members_in_order (json.member k j ms) found h =
      if_then IsInOrder MembersAreInOrder (λ d. of_members ms (put k d found)) (λ d one. members_in_order ms (put k d found) (in_order_put k d found one h)) (of_json j) (in_order j)

read_in_order : (text : List ℕ) → IfSome (read text) IsInOrder
read_in_order text =
    let o = option_and_then (λ p. json.if_last p.0 p.1) (json.value max_depth (tokens text)) in
    if_then (λ j. Unit {0}) IsInOrder of_json (λ j h. in_order j) o (any o)

found_in_order : (o : Option Data) (d : Data) → IfSome o IsInOrder → ok_or o Json ≡ Ok d → IsInOrder d
found_in_order None d h e = cc e
found_in_order (Some x) d h e = let same : x ≡ d = cc e in subst IsInOrder same h

pub IsInOrder-parsed : (bytes : List ℕ) (d : Data) → parsed bytes ≡ Ok d → IsInOrder d
IsInOrder-parsed bytes d e =
    elim (cases_Bool (is_utf8 bytes)) [
      | inl text ↦
          let is : ok_or (read bytes) Json ≡ Ok d = rw text at e in
          found_in_order (read bytes) d (read_in_order bytes) is
      | inr other ↦
          let none : ◌≡◌ {A = Result Data Reason} (Err Json) (Ok d) = rw other at e in
          cc none
    ]

-- ---- the names of a member's members

found_member : (o : Ordering) (e : Data) (rest : Option Data) → IsInOrder e → IfSome rest IsInOrder → IfSome (match_ordering o rest (Some e) rest) IsInOrder
found_member Less e rest one h = h
found_member Equal e rest one h = one
found_member Greater e rest one h = h

get_member_in_order : (k : List ℕ) (ms : Members) → MembersAreInOrder ms → IfSome (get_member k ms) IsInOrder
get_member_in_order k no_members h = tt
get_member_in_order k (member l e ms) h = found_member (slice_cmp nat_cmp k l) e (get_member k ms) h.0 (get_member_in_order k ms h.2)

get_in_order : (k : List ℕ) (d : Data) → IsInOrder d → IfSome (get k d) IsInOrder
get_in_order k null h = tt
get_in_order k (boolean b) h = tt
get_in_order k (number n) h = tt
get_in_order k (string s) h = tt
get_in_order k (array ds) h = tt
get_in_order k (object ms) h = get_member_in_order k ms h

all_after : (k : List ℕ) (ms : Members) → StandsBefore k ms → MembersAreInOrder ms → AllByRecursion (λ m. slice_cmp nat_cmp m k ≡ Greater) (map (λ e. e.0) (members_list ms))
all_after k no_members next h = tt
all_after k (member l d no_members) next h = (next, tt)
all_after k (member l d (member j e ms)) next h = (next, all_after k (member j e ms) (greater j l k h.1 next) h.2)

rising : (ms : Members) → MembersAreInOrder ms → Rising (map (λ e. e.0) (members_list ms))
rising no_members h = tt
rising (member k d ms) h = (all_after k ms h.1 h.2, rising ms h.2)

object_rises : (key : Key) (d : Data) (es : List (List ℕ × Data)) → IsInOrder d → ok_or (option_map members_list (as_object d)) (WrongKind key) ≡ Ok es → Rising (map (λ e. e.0) es)
object_rises key null es h e = cc e
object_rises key (boolean b) es h e = cc e
object_rises key (number n) es h e = cc e
object_rises key (string s) es h e = cc e
object_rises key (array ds) es h e = cc e
object_rises key (object ms) es h e =
    let same : members_list ms ≡ es = cc e in
    subst (λ (xs : List (List ℕ × Data)). Rising (map (λ x. x.0) xs)) same (rising ms h)

found_rises : (key : Key) (o : Option Data) (es : List (List ℕ × Data)) → IfSome o IsInOrder
    → (ok_or o (Missing key) >>= λ x. ok_or (option_map members_list (as_object x)) (WrongKind key)) ≡ Ok es → Rising (map (λ e. e.0) es)
found_rises key None es h e = cc e
found_rises key (Some d) es h e = object_rises key d es h e

pub Rising-members_at : (key : Key) (d : Data) (es : List (List ℕ × Data)) → IsInOrder d → members_at key d ≡ Ok es → Rising (map (λ e. e.0) es)
unfolding members_at member_at
Rising-members_at key d es h e = found_rises key (get (key_text key) d) es (get_in_order (key_text key) d h) e
