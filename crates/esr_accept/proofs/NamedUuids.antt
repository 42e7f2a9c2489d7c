-- The uuids that the names of a delete name.
use Rattle.std.proofs.Common.{◌≡◌, ℕ, Bool, true, false, cond, eqb, List, [], ◌∷◌, ◌++◌, Option, Some, None, map, length, get_or, drop, refl, sym, ap, ◌∙◌, subst, true≢false, eq-eqb, ◌+◌, ◌<◌}
use Rattle.std.specs.FinMap as fin
use Rattle.esr_names.specs.declared.ids.Id.{Id}
use Rattle.esr_model.specs.Values.{Bytes, RootSnap, RootData}
use Rattle.esr_model.specs.Shelf.{names_uuid}
use Rattle.esr_model.specs.Uploads.{same_bytes}
use Rattle.esr_core.specs.World.{World, Op}
use Rattle.esr_core.specs.After.{or_else}
use Rattle.esr_core.specs.Deletes.{open_uuid, uuid_among, uuid_named, with_uuid, with_named}
use Rattle.esr_formats.specs.Ids.{number_of}
use Rattle.esr_accept.specs.Asking.{snap_uuid, op_uuid, name_user}
use Rattle.esr_accept.specs.AskedDeletes.{uuids_named}
use Rattle.esr_ops.specs.Deletes.{with_uuids}
use Rattle.esr_ops.specs.Entries.{eqb_is}
use Rattle.esr_ops.specs.Lists.{left_from}
use Rattle.esr_ops.specs.Tests.{with_uuid-there}

-- ---- of names

open_uuid-is : (ops : List (ℕ × Op)) (name : Bytes) → open_uuid ops name ≡ op_uuid ops name
open_uuid-is [] name = refl
open_uuid-is (e ∷ ops) name = ap (cond (same_bytes e.1.name name) (Some e.1.uuid)) (open_uuid-is ops name)

chosen_else : (b : Bool) (u : ℕ) (whole a o : Option ℕ) → whole ≡ or_else a o → cond b (Some u) whole ≡ or_else (cond b (Some u) a) o
chosen_else true u whole a o e = refl
chosen_else false u whole a o e = e

uuid_among-is : (snaps : List RootSnap) (ops : List (ℕ × Op)) (name : Bytes) → uuid_among snaps ops name ≡ or_else (snap_uuid snaps name) (op_uuid ops name)
uuid_among-is [] ops name = open_uuid-is ops name
uuid_among-is (s ∷ snaps) ops name = chosen_else (same_bytes s.name name) s.uuid (uuid_among snaps ops name) (snap_uuid snaps name) (op_uuid ops name) (uuid_among-is snaps ops name)

module _ (w : World) (root : RootData) (root_is : w.root ≡ root) (ops : List (ℕ × Op)) (ops_are : fin.entries w.ops ≡ ops) where
  uuid_named-is : (name : Bytes) → uuid_named w name ≡ name_user root ops name
  uuid_named-is name = (λ j. uuid_among (root_is j).snapshots (ops_are j) name) ∙ uuid_among-is root.snapshots ops name

  pub with_named-is : (uuids : List ℕ) (names : List Bytes) → with_named w uuids names ≡ uuids_named root ops uuids names
  with_named-is uuids [] = refl
  with_named-is uuids (name ∷ names) = with_named-is (with_uuid uuids (uuid_named w name)) names ∙ ap (λ (o : Option ℕ). uuids_named root ops (with_uuid uuids o) names) (uuid_named-is name)

-- ---- members of uuids

either_true : (b r : Bool) → r ≡ true → cond b true r ≡ true
either_true true r e = refl
either_true false r e = e

on_left : (b r s : Bool) → cond b true r ≡ true → (r ≡ true → s ≡ true) → cond b true s ≡ true
on_left true r s e f = refl
on_left false r s e f = f e

names-end : (xs : List ℕ) (y : ℕ) → names_uuid (xs ++ y ∷ []) y ≡ true
names-end [] y = ap (λ b. cond b true false) (eq-eqb y y refl)
names-end (x ∷ xs) y = either_true (eqb x y) (names_uuid (xs ++ y ∷ []) y) (names-end xs y)

names-left : (xs ys : List ℕ) (u : ℕ) → names_uuid xs u ≡ true → names_uuid (xs ++ ys) u ≡ true
names-left [] ys u e = absurd (true≢false (sym e))
names-left (x ∷ xs) ys u e = on_left (eqb x u) (names_uuid xs u) (names_uuid (xs ++ ys) u) e (names-left xs ys u)

names-with : (xs : List ℕ) (y u : ℕ) → names_uuid xs u ≡ true → names_uuid (with_uuid xs (Some y)) u ≡ true
names-with xs y u e = elim (names_uuid xs y) as (λ b. names_uuid (cond b xs (xs ++ y ∷ [])) u ≡ true) [ true ↦ e | false ↦ names-left xs (y ∷ []) u e ]

own_by : (xs : List ℕ) (y : ℕ) (b : Bool) → names_uuid xs y ≡ b → names_uuid (cond b xs (xs ++ y ∷ [])) y ≡ true
own_by xs y true e = e
own_by xs y false e = names-end xs y

names-own : (xs : List ℕ) (y : ℕ) → names_uuid (with_uuid xs (Some y)) y ≡ true
names-own xs y = own_by xs y (names_uuid xs y) refl

names-kept : (xs ys : List ℕ) (u : ℕ) → names_uuid xs u ≡ true → names_uuid (with_uuids xs ys) u ≡ true
names-kept xs [] u e = e
names-kept xs (y ∷ ys) u e = names-kept (with_uuid xs (Some y)) ys u (names-with xs y u e)

after_by : (b : Bool) (xs ys : List ℕ) (y u : ℕ) → eqb y u ≡ b → cond b true (names_uuid ys u) ≡ true → (names_uuid ys u ≡ true → names_uuid (with_uuids (with_uuid xs (Some y)) ys) u ≡ true)
    → names_uuid (with_uuids (with_uuid xs (Some y)) ys) u ≡ true
after_by true xs ys y u is e rest = names-kept (with_uuid xs (Some y)) ys u (subst (λ (z : ℕ). names_uuid (with_uuid xs (Some y)) z ≡ true) (eqb_is y u is) (names-own xs y))
after_by false xs ys y u is e rest = rest e

names-after : (xs ys : List ℕ) (u : ℕ) → names_uuid ys u ≡ true → names_uuid (with_uuids xs ys) u ≡ true
names-after xs [] u e = absurd (true≢false (sym e))
names-after xs (y ∷ ys) u e = after_by (eqb y u) xs ys y u refl e (names-after (with_uuid xs (Some y)) ys u)

-- ---- one list after another

pub with_uuids-push : (xs ys : List ℕ) (u : ℕ) → with_uuids xs (ys ++ u ∷ []) ≡ with_uuid (with_uuids xs ys) (Some u)
with_uuids-push xs [] u = refl
with_uuids-push xs (y ∷ ys) u = with_uuids-push (with_uuid xs (Some y)) ys u

one_by : (xs ys : List ℕ) (u : ℕ) (b : Bool) → names_uuid ys u ≡ b → with_uuids xs (cond b ys (ys ++ u ∷ [])) ≡ with_uuid (with_uuids xs ys) (Some u)
one_by xs ys u true e = sym (with_uuid-there (with_uuids xs ys) u (names-after xs ys u e))
one_by xs ys u false e = with_uuids-push xs ys u

with_uuids-one : (xs ys : List ℕ) (o : Option ℕ) → with_uuids xs (with_uuid ys o) ≡ with_uuid (with_uuids xs ys) o
with_uuids-one xs ys None = refl
with_uuids-one xs ys (Some u) = one_by xs ys u (names_uuid ys u) refl

-- what the names add to these is what they name, added to these
pub with_uuids-named : (w : World) (xs ys : List ℕ) (names : List Bytes) → with_uuids xs (with_named w ys names) ≡ with_named w (with_uuids xs ys) names
with_uuids-named w xs ys [] = refl
with_uuids-named w xs ys (name ∷ names) =
    with_uuids-named w xs (with_uuid ys (uuid_named w name)) names ∙ ap (λ (zs : List ℕ). with_named w zs names) (with_uuids-one xs ys (uuid_named w name))

-- one name more was looked up
pub names_step : (root : RootData) (ops : List (ℕ × Op)) (names : List Bytes) (now new : List Id) (i : ℕ) (name : Bytes) (o : Option ℕ) → i < length names → name ≡ get_or names i name
    → uuids_named root ops [] names ≡ uuids_named root ops (map number_of now) (drop i names) → o ≡ name_user root ops name → map number_of new ≡ with_uuid (map number_of now) o
    → uuids_named root ops [] names ≡ uuids_named root ops (map number_of new) (drop (i + 1) names)
names_step root ops names now new i name o lt is was found added =
    was ∙ ap (uuids_named root ops (map number_of now)) (left_from names i name lt is)
    ∙ ap (λ (xs : List ℕ). uuids_named root ops xs (drop (i + 1) names)) (ap (with_uuid (map number_of now)) (sym found) ∙ sym added)
