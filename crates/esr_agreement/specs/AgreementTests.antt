-- The test of agreement, and what it means.
use Rattle.std.proofs.Common.{◌≡◌, ℕ, true, List, ◌⊎◌, inl, inr, zero, suc, ◌<◌, Bool, ◌==◌, ◌&&◌, nat_lt, [], ◌∷◌, Option, Some, None, refl, sym, ap, ◌∙◌, subst, arith, eq-eqb, false}
use Rattle.std.specs.Str.{bytes_eq}
use Rattle.std.proofs.lemmas.Slice.Eq.{bytes_eq-Decides}
use Rattle.std.specs.Prelude.{if◌then◌else◌, is_some}
use Rattle.std.proofs.lemmas.Bool.{cases_Bool, eqb-true, ltb-true, ltb-false, and_parts, and_from}
use Rattle.std.proofs.lemmas.Map.Text.{is_eq-slice_cmp}
use Rattle.esr_model.specs.Values.{Bytes, Has, IndexRef, RootSnap, RootIndex, RootData, SnapInfo, IsOneEach}
use Rattle.esr_model.specs.Shelf.{names_uuid}
use Rattle.esr_model.specs.Uploads.{same_bytes}
use Rattle.esr_model.specs.Image.{index_at, at_shard, at_shard_of}
use Rattle.esr_agreement.specs.Agreement.{have_generations, serves, is_served, are_served, has_ref, are_told, agrees, Agrees}

pub same_names : (a b : List ℕ) → bytes_eq a b ≡ true → a ≡ b
same_names a b e = (bytes_eq-Decides a b).0 e

pub named_so : (a b : List ℕ) → a ≡ b → bytes_eq a b ≡ true
named_so a b e = (bytes_eq-Decides a b).1 e

pub same_bytes-is : (a b : Bytes) → same_bytes a b ≡ bytes_eq a b
same_bytes-is a b = is_eq-slice_cmp a b

same_so : (a b : Bytes) → same_bytes a b ≡ true → a ≡ b
same_so a b h = same_names a b (sym (same_bytes-is a b) ∙ h)

so_same : (a b : Bytes) → a ≡ b → same_bytes a b ≡ true
so_same a b h = same_bytes-is a b ∙ named_so a b h

names_has : (us : List ℕ) (u : ℕ) → names_uuid us u ≡ true → Has us u
names_has [] u h = absurd cc
names_has (x ∷ us) u h = elim (cases_Bool (x == u)) [
  | inl here ↦ inl (eqb-true x u here)
  | inr other ↦ inr (names_has us u (sym (ap (λ (b : Bool). if b then true else names_uuid us u) other) ∙ h))
]

has_names : (us : List ℕ) (u : ℕ) → Has us u → names_uuid us u ≡ true
has_names [] u h = absurd h
has_names (x ∷ us) u (inl here) = ap (λ (b : Bool). if b then true else names_uuid us u) (eq-eqb x u here)
has_names (x ∷ us) u (inr later) = elim (cases_Bool (x == u)) [
  | inl here ↦ ap (λ (b : Bool). if b then true else names_uuid us u) here
  | inr other ↦ ap (λ (b : Bool). if b then true else names_uuid us u) other ∙ has_names us u later
]

below_or_last : (k n : ℕ) → k < suc n → (k < n) ⊎ (k ≡ n)
below_or_last k n less = elim (cases_Bool (nat_lt k n)) [
  | inl below ↦ inl (ltb-true k n below)
  | inr above ↦ (let le = ltb-false k n above in inr (omega arith))
]

some_of : (o : Option ℕ) → is_some o ≡ true → (g : ℕ) × (o ≡ Some g)
some_of None h = absurd cc
some_of (Some g) h = (g, refl)

of_some : (o : Option ℕ) (g : ℕ) → o ≡ Some g → is_some o ≡ true
of_some o g h = ap is_some h

pub each_generation : (gs : List (Option ℕ)) (n k : ℕ) → have_generations gs n ≡ true → k < n → (g : ℕ) × (at_shard gs k ≡ Some g)
each_generation gs zero k h less = absurd (omega arith)
each_generation gs (suc n) k h less =
    let parts = and_parts (is_some (at_shard gs n)) (have_generations gs n) h in
    elim (below_or_last k n less) [
      | inl below ↦ each_generation gs n k parts.1 below
      | inr last ↦ some_of (at_shard gs k) (ap (λ (j : ℕ). is_some (at_shard gs j)) last ∙ parts.0)
    ]

generations_each : (gs : List (Option ℕ)) (n : ℕ) → ((k : ℕ) → k < n → (g : ℕ) × (at_shard gs k ≡ Some g)) → have_generations gs n ≡ true
generations_each gs zero h = refl
generations_each gs (suc n) h =
    let last = h n (omega arith) in
    and_from (is_some (at_shard gs n)) (have_generations gs n) (of_some (at_shard gs n) last.0 last.1) (generations_each gs n (λ k less. h k (omega arith)))

-- the index of this id
record ServedBy (indices : List RootIndex) (r : IndexRef) (uuid : ℕ) : Type 0 where
  x : RootIndex
  there : Has indices x
  first : index_at indices r.id ≡ Some x
  id_is : x.id ≡ r.id
  serves_it : serves x r uuid ≡ true

served_by : (indices : List RootIndex) (r : IndexRef) (uuid : ℕ) → is_served indices r uuid ≡ true → ServedBy indices r uuid
served_by [] r uuid h = absurd cc
served_by (x ∷ xs) r uuid h = elim (cases_Bool (x.id == r.id)) [
  | inl here ↦ record {
    x = x;
    there = inl refl;
    first = ap (λ (b : Bool). if b then Some x else index_at xs r.id) here;
    id_is = eqb-true x.id r.id here;
    serves_it = sym (ap (λ (b : Bool). if b then serves x r uuid else is_served xs r uuid) here) ∙ h;
  }
  | inr other ↦
      let s = served_by xs r uuid (sym (ap (λ (b : Bool). if b then serves x r uuid else is_served xs r uuid) other) ∙ h) in record {
        x = s.x;
        there = inr s.there;
        first = ap (λ (b : Bool). if b then Some x else index_at xs r.id) other ∙ s.first;
        id_is = s.id_is;
        serves_it = s.serves_it;
      }
]

by_served : (indices : List RootIndex) (r : IndexRef) (uuid : ℕ) (x : RootIndex) → index_at indices r.id ≡ Some x → serves x r uuid ≡ true → is_served indices r uuid ≡ true
by_served [] r uuid x first h = absurd cc
by_served (y ∷ ys) r uuid x first h = elim (cases_Bool (y.id == r.id)) [
  | inl here ↦
      let some : Some y ≡ Some x = sym (ap (λ (b : Bool). if b then Some y else index_at ys r.id) here) ∙ first in
      let same : y ≡ x = cc in
      ap (λ (b : Bool). if b then serves y r uuid else is_served ys r uuid) here ∙ ap (λ (z : RootIndex). serves z r uuid) same ∙ h
  | inr other ↦
      ap (λ (b : Bool). if b then serves y r uuid else is_served ys r uuid) other
      ∙ by_served ys r uuid x (sym (ap (λ (b : Bool). if b then Some y else index_at ys r.id) other) ∙ first) h
]

pub index_found : (indices : List RootIndex) (x : RootIndex) → Has indices x → (y : RootIndex) × (index_at indices x.id ≡ Some y) × Has indices y × (y.id ≡ x.id)
index_found [] x h = absurd h
index_found (y ∷ ys) x (inl here) =
    let same : y.id ≡ x.id = ap (λ (z : RootIndex). z.id) here in
    (y, ap (λ (b : Bool). if b then Some y else index_at ys x.id) (eq-eqb y.id x.id same), inl refl, same)
index_found (y ∷ ys) x (inr later) = elim (cases_Bool (y.id == x.id)) [
  | inl here ↦ (y, ap (λ (b : Bool). if b then Some y else index_at ys x.id) here, inl refl, eqb-true y.id x.id here)
  | inr other ↦ let f = index_found ys x later in (f.0, ap (λ (b : Bool). if b then Some y else index_at ys x.id) other ∙ f.1, inr f.2, f.3)
]

each_served : (indices : List RootIndex) (refs : List IndexRef) (uuid : ℕ) → are_served indices refs uuid ≡ true → (r : IndexRef) → Has refs r → is_served indices r uuid ≡ true
each_served indices [] uuid h r none = absurd none
each_served indices (q ∷ refs) uuid h r (inl here) = subst (λ (p : IndexRef). is_served indices p uuid ≡ true) here (and_parts (is_served indices q uuid) (are_served indices refs uuid) h).0
each_served indices (q ∷ refs) uuid h r (inr later) = each_served indices refs uuid (and_parts (is_served indices q uuid) (are_served indices refs uuid) h).1 r later

served_each : (indices : List RootIndex) (refs : List IndexRef) (uuid : ℕ) → ((r : IndexRef) → Has refs r → is_served indices r uuid ≡ true) → are_served indices refs uuid ≡ true
served_each indices [] uuid h = refl
served_each indices (q ∷ refs) uuid h = and_from (is_served indices q uuid) (are_served indices refs uuid) (h q (inl refl)) (served_each indices refs uuid (λ r has. h r (inr has)))

ref_of : (refs : List IndexRef) (x : RootIndex) → has_ref refs x ≡ true → (r : IndexRef) × Has refs r × (r.name ≡ x.name) × (r.id ≡ x.id)
ref_of [] x h = absurd cc
ref_of (r ∷ refs) x h = elim (cases_Bool ((r.id == x.id) && same_bytes r.name x.name)) [
  | inl here ↦ let parts = and_parts (r.id == x.id) (same_bytes r.name x.name) here in (r, inl refl, same_so r.name x.name parts.1, eqb-true r.id x.id parts.0)
  | inr other ↦ let f = ref_of refs x (sym (ap (λ (b : Bool). if b then true else has_ref refs x) other) ∙ h) in (f.0, inr f.1, f.2, f.3)
]

of_ref : (refs : List IndexRef) (x : RootIndex) (r : IndexRef) → Has refs r → r.name ≡ x.name → r.id ≡ x.id → has_ref refs x ≡ true
of_ref [] x r none name id = absurd none
of_ref (q ∷ refs) x r (inl here) name id =
    ap (λ (b : Bool). if b then true else has_ref refs x)
    (and_from (q.id == x.id) (same_bytes q.name x.name) (eq-eqb q.id x.id (ap (λ (p : IndexRef). p.id) here ∙ id)) (so_same q.name x.name (ap (λ (p : IndexRef). p.name) here ∙ name)))
of_ref (q ∷ refs) x r (inr later) name id = elim (cases_Bool ((q.id == x.id) && same_bytes q.name x.name)) [
  | inl here ↦ ap (λ (b : Bool). if b then true else has_ref refs x) here
  | inr other ↦ ap (λ (b : Bool). if b then true else has_ref refs x) other ∙ of_ref refs x r later name id
]

each_told : (indices : List RootIndex) (refs : List IndexRef) (uuid : ℕ) → are_told indices refs uuid ≡ true → (x : RootIndex) → Has indices x → names_uuid x.snapshots uuid ≡ true → has_ref refs x ≡ true
each_told [] refs uuid h x none has = absurd none
each_told (y ∷ ys) refs uuid h x (inl here) has =
    let first = (and_parts (if names_uuid y.snapshots uuid then has_ref refs y else true) (are_told ys refs uuid) h).0 in
    let named : names_uuid y.snapshots uuid ≡ true = ap (λ (z : RootIndex). names_uuid z.snapshots uuid) here ∙ has in
    subst (λ (z : RootIndex). has_ref refs z ≡ true) here (sym (ap (λ (b : Bool). if b then has_ref refs y else true) named) ∙ first)
each_told (y ∷ ys) refs uuid h x (inr later) has = each_told ys refs uuid (and_parts (if names_uuid y.snapshots uuid then has_ref refs y else true) (are_told ys refs uuid) h).1 x later has

told_each : (indices : List RootIndex) (refs : List IndexRef) (uuid : ℕ) → ((x : RootIndex) → Has indices x → names_uuid x.snapshots uuid ≡ true → has_ref refs x ≡ true) → are_told indices refs uuid ≡ true
told_each [] refs uuid h = refl
told_each (y ∷ ys) refs uuid h = and_from (if names_uuid y.snapshots uuid then has_ref refs y else true) (are_told ys refs uuid) first (told_each ys refs uuid (λ x has. h x (inr has)))
  where
    first : (if names_uuid y.snapshots uuid then has_ref refs y else true) ≡ true
    first = elim (cases_Bool (names_uuid y.snapshots uuid)) [
      | inl has ↦ ap (λ (b : Bool). if b then has_ref refs y else true) has ∙ h y (inl refl) has
      | inr none ↦ ap (λ (b : Bool). if b then has_ref refs y else true) none
    ]

pub test_holds : (root : RootData) (snap : RootSnap) (info : SnapInfo) → agrees root snap info ≡ true → Agrees root snap info
unfolding agrees
test_holds root snap info h =
    let halves = and_parts (same_bytes info.name snap.name && ((info.uuid == snap.uuid) && (info.state == snap.state))) (are_served root.indices info.indices snap.uuid && are_told root.indices info.indices snap.uuid) h in
    let names = and_parts (same_bytes info.name snap.name) ((info.uuid == snap.uuid) && (info.state == snap.state)) halves.0 in
    let numbers = and_parts (info.uuid == snap.uuid) (info.state == snap.state) names.1 in
    let lists = and_parts (are_served root.indices info.indices snap.uuid) (are_told root.indices info.indices snap.uuid) halves.1 in
    let at : (r : IndexRef) → Has info.indices r → ServedBy root.indices r snap.uuid = λ r has. served_by root.indices r snap.uuid (each_served root.indices info.indices snap.uuid lists.0 r has) in
    record {
      name_is = same_so info.name snap.name names.0;
      uuid_is = eqb-true info.uuid snap.uuid numbers.0;
      state_is = eqb-true info.state snap.state numbers.1;
      listed = λ r has.
          let s = at r has in
          let parts = and_parts (same_bytes s.x.name r.name) (names_uuid s.x.snapshots snap.uuid && have_generations s.x.generations r.shards) s.serves_it in
          (s.x, s.there, same_so s.x.name r.name parts.0, s.id_is, names_has s.x.snapshots snap.uuid (and_parts (names_uuid s.x.snapshots snap.uuid) (have_generations s.x.generations r.shards) parts.1).0);
      exact = λ x has_x has_u. ref_of info.indices x (each_told root.indices info.indices snap.uuid lists.1 x has_x (has_names x.snapshots snap.uuid has_u));
      generations = λ r k has less.
          let s = at r has in
          let parts = and_parts (same_bytes s.x.name r.name) (names_uuid s.x.snapshots snap.uuid && have_generations s.x.generations r.shards) s.serves_it in
          let g = each_generation s.x.generations r.shards k (and_parts (names_uuid s.x.snapshots snap.uuid) (have_generations s.x.generations r.shards) parts.1).1 less in
          (g.0, ap (λ (o : Option RootIndex). at_shard_of o k) s.first ∙ g.1);
    }

one_served : (root : RootData) (snap : RootSnap) (info : SnapInfo) → IsOneEach root.indices → Agrees root snap info → (r : IndexRef) → Has info.indices r → is_served root.indices r snap.uuid ≡ true
one_served root snap info one a r has =
    let x = a.listed r has in
    let y = index_found root.indices x.0 x.1 in
    let same : y.0 ≡ x.0 = one y.0 x.0 y.2 x.1 y.3 in
    let first : index_at root.indices r.id ≡ Some x.0 = sym (ap (index_at root.indices) x.3) ∙ y.1 ∙ ap (λ (z : RootIndex). Some z) same in
    by_served root.indices r snap.uuid x.0 first
    (and_from (same_bytes x.0.name r.name) (names_uuid x.0.snapshots snap.uuid && have_generations x.0.generations r.shards) (so_same x.0.name r.name x.2)
    (and_from (names_uuid x.0.snapshots snap.uuid) (have_generations x.0.generations r.shards) (has_names x.0.snapshots snap.uuid x.4)
    (generations_each x.0.generations r.shards (λ k less. let g = a.generations r k has less in (g.0, sym (ap (λ (o : Option RootIndex). at_shard_of o k) first) ∙ g.1)))))

pub holds_test : (root : RootData) (snap : RootSnap) (info : SnapInfo) → IsOneEach root.indices → Agrees root snap info → agrees root snap info ≡ true
unfolding agrees
holds_test root snap info one a =
    and_from (same_bytes info.name snap.name && ((info.uuid == snap.uuid) && (info.state == snap.state))) (are_served root.indices info.indices snap.uuid && are_told root.indices info.indices snap.uuid)
    (and_from (same_bytes info.name snap.name) ((info.uuid == snap.uuid) && (info.state == snap.state)) (so_same info.name snap.name a.name_is)
    (and_from (info.uuid == snap.uuid) (info.state == snap.state) (eq-eqb info.uuid snap.uuid a.uuid_is) (eq-eqb info.state snap.state a.state_is)))
    (and_from (are_served root.indices info.indices snap.uuid) (are_told root.indices info.indices snap.uuid) (served_each root.indices info.indices snap.uuid (one_served root snap info one a))
    (told_each root.indices info.indices snap.uuid (λ x has named. let r = a.exact x has (names_has x.snapshots snap.uuid named) in of_ref info.indices x r.0 r.1 r.2 r.3)))

pub not_so : {P : Type 0} (b : Bool) → (b ≡ true → P) × (P → b ≡ true) → b ≡ false → P → ⊥
not_so b is no_test p = let yes_test = is.1 p in cc

pub so : {P : Type 0} (b : Bool) → (b ≡ true → P) × (P → b ≡ true) → b ≡ true → P
so b is test = is.0 test
