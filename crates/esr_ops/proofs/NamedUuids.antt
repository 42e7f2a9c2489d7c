-- The uuids that a delete names.
use Rattle.std.proofs.Common.{◌≡◌, ℕ, ◌||◌, Bool, true, false, cond, eqb, List, [], ◌∷◌, map, refl, ap, ◌∙◌, ◌++◌, Some, length, get_or, drop, sym, ◌+◌, ◌<◌}
use Rattle.std.specs.Prelude.{not, ◌&&◌}
use Rattle.std.specs.List.{list_any, list_all, filter}
use Rattle.std.proofs.lemmas.List.{map-append}
use Rattle.esr_names.specs.declared.ids.Id.{Id}
use Rattle.esr_model.specs.Shelf.{names_uuid}
use Rattle.esr_formats.specs.Ids.{number_of}
use Rattle.esr_root.specs.declared.snaps.RootSnap.{RootSnap as CodeSnap}
use Rattle.esr_core.specs.Deletes.{with_uuid, is_listed_uuid, name_the_same}
use Rattle.esr_formats.specs.Roots.{root_snap_of}
use Rattle.esr_record.specs.Op.{is_id}
use Rattle.esr_ops.specs.Deletes.{with_uuids}
use Rattle.esr_ops.specs.Entries.{eqb_is}
use Rattle.esr_ops.specs.Lists.{left_from}

named_or : (b rest : Bool) → cond b true rest ≡ (b || rest)
named_or true rest = refl
named_or false rest = refl

pub names-any : (u : ℕ) (uuids : List Id) → names_uuid (map number_of uuids) u ≡ list_any (λ (i : Id). eqb i.number u) uuids
names-any u [] = refl
names-any u (x ∷ uuids) = named_or (eqb x.number u) (names_uuid (map number_of uuids) u) ∙ ap (λ b. eqb x.number u || b) (names-any u uuids)

-- ---- the ids of the code

module _ (old : List Id) (u : Id) (apart : names_uuid (map number_of old) u.number ≡ false) where
  pub fresh_id : list_any (is_id u) old ≡ false
  fresh_id = sym (names-any u.number old) ∙ apart

  pub pushed_new : (new : List Id) → new ≡ old ++ u ∷ [] → map number_of new ≡ with_uuid (map number_of old) (Some u.number)
  pushed_new new is = ap (map number_of) is ∙ map-append number_of old (u ∷ []) ∙ sym (ap (λ b. cond b (map number_of old) (map number_of old ++ u.number ∷ [])) apart)

-- one uuid more was added
pub uuids_step : (known uuids now new : List Id) (i : ℕ) (u : Id) → i < length uuids → u ≡ get_or uuids i u → with_uuids (map number_of known) (map number_of uuids) ≡ with_uuids (map number_of now) (map number_of (drop i uuids))
    → map number_of new ≡ with_uuid (map number_of now) (Some u.number) → with_uuids (map number_of known) (map number_of uuids) ≡ with_uuids (map number_of new) (map number_of (drop (i + 1) uuids))
uuids_step known uuids now new i u lt is was added =
    was ∙ ap (λ (us : List Id). with_uuids (map number_of now) (map number_of us)) (left_from uuids i u lt is) ∙ ap (λ (xs : List ℕ). with_uuids xs (map number_of (drop (i + 1) uuids))) (sym added)

-- ---- listed uuids

pub listed-any : (snaps : List CodeSnap) (u : ℕ) → is_listed_uuid (map root_snap_of snaps) u ≡ list_any (λ (s : CodeSnap). eqb s.uuid.number u) snaps
listed-any [] u = refl
listed-any (s ∷ snaps) u = ap (λ b. eqb s.uuid.number u || b) (listed-any snaps u)

-- the test is on what a filter keeps
kept_by : (p : ℕ → Bool) (x u : ℕ) (rest : List ℕ) (b : Bool) → p x ≡ b → (c : Bool) → eqb x u ≡ c → names_uuid (filter p rest) u ≡ (p u && names_uuid rest u)
    → names_uuid (cond b (x ∷ filter p rest) (filter p rest)) u ≡ (p u && cond c true (names_uuid rest u))
kept_by p x u rest true e true is h = ap (λ c. cond c true (names_uuid (filter p rest) u)) is ∙ sym (ap (λ d. d && true) (sym (ap p (eqb_is x u is)) ∙ e))
kept_by p x u rest true e false is h = ap (λ c. cond c true (names_uuid (filter p rest) u)) is ∙ h
kept_by p x u rest false e true is h = h ∙ ap (λ d. d && names_uuid rest u) (sym (ap p (eqb_is x u is)) ∙ e) ∙ sym (ap (λ d. d && true) (sym (ap p (eqb_is x u is)) ∙ e))
kept_by p x u rest false e false is h = h

names-filter : (p : ℕ → Bool) (xs : List ℕ) (u : ℕ) → names_uuid (filter p xs) u ≡ (p u && names_uuid xs u)
names-filter p [] u = nothing (p u)
  where
    nothing : (b : Bool) → false ≡ (b && false)
    nothing true = refl
    nothing false = refl
names-filter p (x ∷ xs) u = kept_by p x u xs (p x) refl (eqb x u) refl (names-filter p xs u)

all_by : (b q rest : Bool) (whole : Bool) → whole ≡ cond b (q && rest) rest → whole ≡ ((not b || q) && rest)
all_by true q rest whole e = e
all_by false q rest whole e = e

pushed_all : (q : ℕ → Bool) (x : ℕ) (xs : List ℕ) (b : Bool) → list_all q (cond b (x ∷ xs) xs) ≡ cond b (q x && list_all q xs) (list_all q xs)
pushed_all q x xs true = refl
pushed_all q x xs false = refl

all-filter : (p q : ℕ → Bool) (xs : List ℕ) → list_all q (filter p xs) ≡ list_all (λ (u : ℕ). not (p u) || q u) xs
all-filter p q [] = refl
all-filter p q (x ∷ xs) =
    all_by (p x) (q x) (list_all q (filter p xs)) (list_all q (filter p (x ∷ xs))) (pushed_all q x (filter p xs) (p x)) ∙ ap (λ b. (not (p x) || q x) && b) (all-filter p q xs)

all-numbers : (q : ℕ → Bool) (ids : List Id) → list_all q (map number_of ids) ≡ list_all (λ (u : Id). q u.number) ids
all-numbers q [] = refl
all-numbers q (u ∷ ids) = ap (λ b. q u.number && b) (all-numbers q ids)

all-same : (f g : ℕ → Bool) → ((u : ℕ) → f u ≡ g u) → (xs : List ℕ) → list_all f xs ≡ list_all g xs
all-same f g same [] = refl
all-same f g same (x ∷ xs) = λ j. same x j && all-same f g same xs j

-- those of all that are listed are just the others
listed_same : (p : ℕ → Bool) (all uuids : List Id) (a b : Bool) → a ≡ list_all (λ (u : Id). p u.number && names_uuid (map number_of all) u.number) uuids
    → b ≡ list_all (λ (u : Id). not (p u.number) || names_uuid (map number_of uuids) u.number) all
    → (a && b) ≡ name_the_same (filter p (map number_of all)) (map number_of uuids)
listed_same p all uuids a b first second =
    let each = first ∙ sym (all-numbers (λ (u : ℕ). p u && names_uuid (map number_of all) u) uuids)
    ∙ sym (all-same (names_uuid (filter p (map number_of all))) (λ (u : ℕ). p u && names_uuid (map number_of all) u) (names-filter p (map number_of all)) (map number_of uuids)) in
    let back = second ∙ sym (all-numbers (λ (u : ℕ). not (p u) || names_uuid (map number_of uuids) u) all) ∙ sym (all-filter p (names_uuid (map number_of uuids)) (map number_of all)) in
    λ j. each j && back j

-- the one test passed, and the other decides
pub listed_so : (p : ℕ → Bool) (all uuids : List Id) (a b : Bool) → a ≡ true → a ≡ list_all (λ (u : Id). p u.number && names_uuid (map number_of all) u.number) uuids
    → b ≡ list_all (λ (u : Id). not (p u.number) || names_uuid (map number_of uuids) u.number) all
    → b ≡ name_the_same (filter p (map number_of all)) (map number_of uuids)
listed_so p all uuids a b passed first second = sym (ap (λ (c : Bool). c && b) passed) ∙ listed_same p all uuids a b first second

-- the one test didn't pass
pub listed_not : (p : ℕ → Bool) (all uuids : List Id) (a : Bool) → a ≡ false → a ≡ list_all (λ (u : Id). p u.number && names_uuid (map number_of all) u.number) uuids
    → false ≡ name_the_same (filter p (map number_of all)) (map number_of uuids)
listed_not p all uuids a failed first =
    let b : Bool = list_all (λ (u : Id). not (p u.number) || names_uuid (map number_of uuids) u.number) all in
    sym (ap (λ (c : Bool). c && b) failed) ∙ listed_same p all uuids a b first refl
