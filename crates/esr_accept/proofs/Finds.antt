-- What look-ups by a test find, and what is known of the ids of index names.
use Rattle.std.proofs.Common.{◌≡◌, ℕ, List, length, ap, ◌∙◌, nat_cmp, ◌≢◌, ◌⊎◌, ◌<◌, Bool, true, false, true≢false, cond, [], ◌∷◌, Option, Some, None, refl, sym, subst, inl, inr}
use Rattle.std.specs.FinMap as fin
use Rattle.esr_model.specs.Values.{Bytes, Has, IndexRef, RootIndex, RootData}
use Rattle.esr_ops.specs.Inside.{numbers_of, Rise}
use Rattle.std.specs.FinMap.{FinMap}
use Rattle.std.proofs.lemmas.Slice.Eq.{bytes_eq-Decides}
use Rattle.std.proofs.lemmas.Option.{same_Some, none-some}
use Rattle.esr_model.specs.Uploads.{same_bytes}
use Rattle.esr_core.specs.World.{Op}
use Rattle.esr_core.specs.After.{or_else, root_index_id, index_id, open_index_id}
use Rattle.esr_core.specs.Tracked.{Named}
use Rattle.esr_accept.specs.Asking.{known_in}
use Rattle.esr_ops.specs.Entries.{get_from}
use Rattle.esr_ops.specs.Lists.{same_bytes-is}
use Rattle.esr_ops.specs.Numbers.{entries_from, found_member}

module _ {A : Type 0} where
  pub len_from : (es : List (ℕ × A)) → Rise (numbers_of es) → fin.len (fin.from_entries {R = nat_cmp} es) ≡ length es
  len_from es r = fin.len-entries _ ∙ ap length (entries_from es r)

-- two texts are one, or two
pub same_one : (a b : Bytes) → ((same_bytes a b ≡ true) × (a ≡ b)) ⊎ ((same_bytes a b ≡ false) × (a ≢ b))
same_one a b = go (same_bytes a b) refl
  where
    go : (r : Bool) → same_bytes a b ≡ r → ((same_bytes a b ≡ true) × (a ≡ b)) ⊎ ((same_bytes a b ≡ false) × (a ≢ b))
    go true e = inl (e, (bytes_eq-Decides a b).0 (sym (same_bytes-is a b) ∙ e))
    go false e = inr (e, λ p. true≢false (sym (same_bytes-is a b ∙ (bytes_eq-Decides a b).1 p) ∙ e))

pub same_true : (a b : Bytes) → same_bytes a b ≡ true → a ≡ b
same_true a b e = elim (same_one a b) [ inl h ↦ h.1 | inr h ↦ absurd (true≢false (sym e ∙ h.0)) ]

pub same_false : (a b : Bytes) → same_bytes a b ≡ false → a ≢ b
same_false a b e = elim (same_one a b) [ inl h ↦ absurd (true≢false (sym h.0 ∙ e)) | inr h ↦ h.1 ]

-- ---- the first that passes a test

module _ {A : Type 0} (f : List A → Option ℕ) (t : A → Bool) (v : A → ℕ) (nil : f [] ≡ None) (cons : (x : A) (xs : List A) → f (x ∷ xs) ≡ cond (t x) (Some (v x)) (f xs)) where
  pub record Found (xs : List A) (i : ℕ) : Type 0 where
    pub x : A
    pub there : Has xs x
    pub hit : t x ≡ true
    pub value : v x ≡ i

  found_by : (x : A) (xs : List A) (i : ℕ) (b : Bool) → t x ≡ b → cond b (Some (v x)) (f xs) ≡ Some i → (f xs ≡ Some i → Found xs i) → Found (x ∷ xs) i
  found_by x xs i true h e rest = record { x = x; there = inl refl; hit = h; value = same_Some (v x) i e }
  found_by x xs i false h e rest = let r = rest e in record { x = r.x; there = inr r.there; hit = r.hit; value = r.value }

  pub found : (xs : List A) (i : ℕ) → f xs ≡ Some i → Found xs i
  found [] i e = absurd (none-some i (sym nil ∙ e))
  found (x ∷ xs) i e = found_by x xs i (t x) refl (sym (cons x xs) ∙ e) (λ later. found xs i later)

  missed_by : (x y : A) (xs : List A) (b : Bool) → t x ≡ b → cond b (Some (v x)) (f xs) ≡ None → (f xs ≡ None → Has xs y → t y ≡ false) → Has (x ∷ xs) y → t y ≡ false
  missed_by x y xs true h e rest m = absurd (none-some (v x) (sym e))
  missed_by x y xs false h e rest (inl is) = subst (λ (z : A). t z ≡ false) is h
  missed_by x y xs false h e rest (inr m) = rest e m

  pub missed : (xs : List A) (y : A) → f xs ≡ None → Has xs y → t y ≡ false
  missed [] y e m = absurd m
  missed (x ∷ xs) y e m = missed_by x y xs (t x) refl (sym (cons x xs) ∙ e) (λ later there. missed xs y later there) m

-- ---- one look-up, or else another

pub either_some : {A : Type 0} (a b : Option A) (x : A) → or_else a b ≡ Some x → (a ≡ Some x) ⊎ (b ≡ Some x)
either_some None b x e = inr e
either_some (Some y) b x e = inl e

-- ---- the id of an index name

pub record OpenHas (ops : List (ℕ × Op)) (name : Bytes) (i : ℕ) : Type 0 where
  pub e : ℕ × Op
  pub there : Has ops e
  pub r : IndexRef
  pub r_there : Has e.1.indices r
  pub name_is : r.name ≡ name
  pub id_is : r.id ≡ i

open_by : (e : ℕ × Op) (ops : List (ℕ × Op)) (name : Bytes) (i : ℕ) → (index_id e.1.indices name ≡ Some i) ⊎ (open_index_id ops name ≡ Some i) → (open_index_id ops name ≡ Some i → OpenHas ops name i)
    → OpenHas (e ∷ ops) name i
open_by e ops name i (inl h) rest =
    let r = found (λ (rs : List IndexRef). index_id rs name) (λ (x : IndexRef). same_bytes x.name name) (λ (x : IndexRef). x.id) refl (λ x xs. refl) e.1.indices i h in
    record { e = e; there = inl refl; r = r.x; r_there = r.there; name_is = same_true r.x.name name r.hit; id_is = r.value }
open_by e ops name i (inr h) rest = let r = rest h in record { e = r.e; there = inr r.there; r = r.r; r_there = r.r_there; name_is = r.name_is; id_is = r.id_is }

open_has : (ops : List (ℕ × Op)) (name : Bytes) (i : ℕ) → open_index_id ops name ≡ Some i → OpenHas ops name i
open_has [] name i e = absurd (none-some i e)
open_has (p ∷ ops) name i e = open_by p ops name i (either_some (index_id p.1.indices name) (open_index_id ops name) i e) (λ later. open_has ops name i later)

pub record RootHas (root : RootData) (name : Bytes) (i : ℕ) : Type 0 where
  pub x : RootIndex
  pub there : Has root.indices x
  pub name_is : x.name ≡ name
  pub id_is : x.id ≡ i

root_has : (root : RootData) (name : Bytes) (i : ℕ) → root_index_id root.indices name ≡ Some i → RootHas root name i
root_has root name i e =
    let r = found (λ (xs : List RootIndex). root_index_id xs name) (λ (x : RootIndex). same_bytes x.name name) (λ (x : RootIndex). x.id) refl (λ x xs. refl) root.indices i e in
    record { x = r.x; there = r.there; name_is = same_true r.x.name name r.hit; id_is = r.value }

-- known ids go one to one with names, and lie below the next one
pub record AreKnown (known : Bytes → Option ℕ) (next : ℕ) : Type 0 where
  pub one_name : (a b : Bytes) (i : ℕ) → known a ≡ Some i → known b ≡ Some i → a ≡ b
  pub below : (a : Bytes) (i : ℕ) → known a ≡ Some i → i < next

module _ (root : RootData) (ops : List (ℕ × Op)) (map : FinMap nat_cmp Op) (next : ℕ) (rise : Rise (numbers_of ops)) (is : map ≡ fin.from_entries ops) (h : Named root map next) where
  got : (e : ℕ × Op) → Has ops e → fin.get map e.0 ≡ Some e.1
  got e m = ap (λ (z : FinMap nat_cmp Op). fin.get z e.0) is ∙ get_from ops e.0 ∙ found_member ops rise e m

  known_where : (a : Bytes) (i : ℕ) → known_in root ops a ≡ Some i → RootHas root a i ⊎ OpenHas ops a i
  known_where a i e = elim (either_some (root_index_id root.indices a) (open_index_id ops a) i e) [ inl x ↦ inl (root_has root a i x) | inr y ↦ inr (open_has ops a i y) ]

  one : (a b : Bytes) (i : ℕ) → RootHas root a i ⊎ OpenHas ops a i → RootHas root b i ⊎ OpenHas ops b i → a ≡ b
  one a b i (inl x) (inl y) = sym x.name_is ∙ (h.root_indices x.x y.x x.there y.there).one_name (x.id_is ∙ sym y.id_is) ∙ y.name_is
  one a b i (inl x) (inr y) = sym x.name_is ∙ sym ((h.rooted y.e.0 y.e.1 y.r x.x (got y.e y.there) y.r_there x.there).one_name (y.id_is ∙ sym x.id_is)) ∙ y.name_is
  one a b i (inr x) (inl y) = sym x.name_is ∙ (h.rooted x.e.0 x.e.1 x.r y.x (got x.e x.there) x.r_there y.there).one_name (x.id_is ∙ sym y.id_is) ∙ y.name_is
  one a b i (inr x) (inr y) = sym x.name_is ∙ (h.indices x.e.0 y.e.0 x.e.1 y.e.1 x.r y.r (got x.e x.there) (got y.e y.there) x.r_there y.r_there).one_name (x.id_is ∙ sym y.id_is) ∙ y.name_is

  low : (a : Bytes) (i : ℕ) → RootHas root a i ⊎ OpenHas ops a i → i < next
  low a i (inl x) = subst (λ (n : ℕ). n < next) x.id_is (h.root_below.ids x.x x.there)
  low a i (inr x) = subst (λ (n : ℕ). n < next) x.id_is ((h.below x.e.0 x.e.1 (got x.e x.there)).indices x.r x.r_there)

  pub are_known : AreKnown (known_in root ops) next
  are_known = record { one_name = λ a b i p q. one a b i (known_where a i p) (known_where b i q); below = λ a i p. low a i (known_where a i p) }
