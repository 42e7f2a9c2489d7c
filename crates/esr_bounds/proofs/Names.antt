-- What a ticket may commit, as the ticket goes on.
use Rattle.std.proofs.Common.{◌≡◌, ◌⊎◌, ℕ, zero, suc, ◌+◌, ◌<◌, ◌≤◌, List, [], ◌∷◌, ◌++◌, length, map, true, false, Option, Some, None, refl, sym, ap, ◌∙◌, subst, inl, inr, ⊎_elim, arith}
use Rattle.std.specs.Prelude.{max}
use Rattle.std.proofs.lemmas.Bool.Decides.{eqb_tells}
use Rattle.esr_model.specs.Lists.{Has-left, Has-right, Has-either, Has-map, Has-mapped}
use Rattle.esr_model.specs.Names.{BlobName, Root, ShardSnap, ShardIndex, File, Part}
use Rattle.esr_model.specs.Values.{Bytes, Has, Formats, files_told}
use Rattle.esr_model.specs.Parts.{part_count, parts_from}
use Rattle.esr_core.specs.World.{Work, Shard, Finalize, Deleting, Drop, Ticket, Swap, swap, swap_of}
use Rattle.esr_core.specs.Ready.{IsShard}
use Rattle.esr_core.specs.Steps.{Drew, ShardCommits, MayCommit, IsToFetch}
use Rattle.esr_core.specs.Allowed.{IsNumbered}
use Rattle.esr_bounds.specs.Keys.{Key, BeginKey, CommitKey, FetchKey}
use Rattle.esr_bounds.specs.Most.{most_parts, parts_by, names_under, shard_names, swap_names, root_names, names_of, base_names, source_names, fetch_names, single_keys, keys_of}

-- ---- names under ids

in_parts : (index number file first n p : ℕ) → first ≤ p → p < first + n → Has (parts_from index number file first n) (Part index number file p)
in_parts index number file first zero p from below = let at : first ≤ p = from in let past : p < first + 0 = below in absurd (omega (arith, at, past))
in_parts index number file first (suc n) p from below = elim (eqb_tells first p) [
  | inl here ↦ inl (ap (λ (k : ℕ). Part index number file k) here.1)
  | inr other ↦
      let at : first ≤ p = from in
      let differ : first ≡ p → ⊥ = other.1 in
      let past : p < first + suc n = below in
      inr (in_parts index number file (suc first) n p (above first p at differ) (let same : first + suc n ≡ suc first + n = omega arith in omega (arith, past, same)))
]
  where
    above : (a b : ℕ) → a ≤ b → (a ≡ b → ⊥) → suc a ≤ b
    above a b le apart = let less : a ≤ b = le in let differ : a ≡ b → ⊥ = apart in omega (arith, less, differ)

-- the names under one of the ids
UnderOne : ℕ → ℕ → ℕ → ℕ → BlobName → Type 0
UnderOne index number parts x name = Has (ShardIndex index number x ∷ File index number x ∷ parts_from index number x 0 parts) name

under_one : (index number parts first drawn x : ℕ) (name : BlobName) → first ≤ x → x < first + drawn → UnderOne index number parts x name → Has (names_under index number parts first drawn) name
unfolding UnderOne
under_one index number parts first zero x name from below h = let at : first ≤ x = from in let past : x < first + 0 = below in absurd (omega (arith, at, past))
under_one index number parts first (suc drawn) x name from below h = elim (eqb_tells first x) [
  | inl here ↦ own (subst (λ (y : ℕ). Has (ShardIndex index number y ∷ File index number y ∷ parts_from index number y 0 parts) name) (sym here.1) h)
  | inr other ↦
      let past : x < first + suc drawn = below in
      inr (inr (Has-right (parts_from index number first 0 parts) (names_under index number parts (suc first) drawn) name
      (under_one index number parts (suc first) drawn x name (above first x from other.1) (let same : first + suc drawn ≡ suc first + drawn = omega arith in omega (arith, past, same)) h)))
]
  where
    above : (a b : ℕ) → a ≤ b → (a ≡ b → ⊥) → suc a ≤ b
    above a b le apart = let less : a ≤ b = le in let differ : a ≡ b → ⊥ = apart in omega (arith, less, differ)

    own : Has (ShardIndex index number first ∷ File index number first ∷ parts_from index number first 0 parts) name → Has (names_under index number parts first (suc drawn)) name
    own (inl e) = inl e
    own (inr (inl e)) = inr (inl e)
    own (inr (inr h)) = inr (inr (Has-left (parts_from index number first 0 parts) (names_under index number parts (suc first) drawn) name h))

-- a file has no more parts than the longest
few_parts : (size : ℕ) (files : List (Bytes × Bytes)) (file : Bytes × Bytes) (p : ℕ) → Has files file → p < part_count (length file.1) size → p < most_parts size files
few_parts size [] file p h below = absurd h
few_parts size (g ∷ files) file p (inl e) below = left (part_count (length g.1) size) (most_parts size files) (subst (λ (x : Bytes × Bytes). p < part_count (length x.1) size) (sym e) below)
  where
    left : (a b : ℕ) → p < a → p < max a b
    left a b below = let less : p < a = below in omega (arith, less)
few_parts size (g ∷ files) file p (inr h) below = right (part_count (length g.1) size) (most_parts size files) (few_parts size files file p h below)
  where
    right : (a b : ℕ) → p < b → p < max a b
    right a b below = let less : p < b = below in omega (arith, less)

-- ---- what the ticket of a shard commits

module _ (f : Formats) (size : ℕ) (known : (place name : Bytes) (number : ℕ) → f.known place name number ≡ true) (t : Ticket) (index number : ℕ) where
  abbrev parts : ℕ
  parts = parts_by f size t.place t.name number t.source

  snap_named : (i k u : ℕ) → Shard index number ≡ Shard i k → u ≡ t.uuid → Has (shard_names f size t (Shard index number) t.first t.drawn) (ShardSnap i k u)
  snap_named i k u is own = inl (name_is is own)
    where
      name_is : Shard index number ≡ Shard i k → u ≡ t.uuid → ShardSnap index number t.uuid ≡ ShardSnap i k u
      name_is is own = cc

  -- its place among the names under ids
  under : (i k x : ℕ) (name : BlobName) → Drew t x → UnderOne index number parts x name → Has (shard_names f size t (Shard index number) t.first t.drawn) name
  under i k x name drew h = inr (under_one index number parts t.first t.drawn x name drew.from drew.below h)

  index_named : (i k x : ℕ) → Shard index number ≡ Shard i k → Drew t x → Has (shard_names f size t (Shard index number) t.first t.drawn) (ShardIndex i k x)
  unfolding UnderOne
  index_named i k x is drew = under i k x (ShardIndex i k x) drew (inl (name_is is))
    where
      name_is : Shard index number ≡ Shard i k → ShardIndex index number x ≡ ShardIndex i k x
      name_is is = cc

  file_named : (i k x : ℕ) → Shard index number ≡ Shard i k → Drew t x → Has (shard_names f size t (Shard index number) t.first t.drawn) (File i k x)
  unfolding UnderOne
  file_named i k x is drew = under i k x (File i k x) drew (inr (inl (name_is is)))
    where
      name_is : Shard index number ≡ Shard i k → File index number x ≡ File i k x
      name_is is = cc

  numbered : (i k x p : ℕ) (source : Option ℕ) → IsNumbered f size t number (Part i k x p) source → p < parts_by f size t.place t.name number source
  numbered i k x p None h = let part = h (known t.place t.name number) in few_parts size (files_told f t.place t.name number) part.0 p part.1 part.3
  numbered i k x p (Some source) h = absurd h

  part_named : (i k x p : ℕ) → Shard index number ≡ Shard i k → Drew t x → IsNumbered f size t number (Part i k x p) t.source → Has (shard_names f size t (Shard index number) t.first t.drawn) (Part i k x p)
  unfolding UnderOne
  part_named i k x p is drew h = under i k x (Part i k x p) drew (inr (inr (subst (Has (parts_from index number x 0 parts)) (name_is is) (in_parts index number x 0 parts p (zero_le p) (add_zero p parts (numbered i k x p t.source h))))))
    where
      name_is : Shard index number ≡ Shard i k → Part index number x p ≡ Part i k x p
      name_is is = cc

      zero_le : (n : ℕ) → 0 ≤ n
      zero_le n = omega arith

      add_zero : (p n : ℕ) → p < n → p < 0 + n
      add_zero p n below = let less : p < n = below in omega (arith, less)

  shard_named : (name : BlobName) → t.work ≡ Shard index number → ShardCommits t name → IsNumbered f size t number name t.source → Has (shard_names f size t (Shard index number) t.first t.drawn) name
  shard_named (ShardSnap i k u) is (work, own) h = snap_named i k u (sym is ∙ work) own
  shard_named (ShardIndex i k x) is (work, drew) h = index_named i k x (sym is ∙ work) drew
  shard_named (File i k x) is (work, drew) h = file_named i k x (sym is ∙ work) drew
  shard_named (Part i k x p) is (work, drew) h = part_named i k x p (sym is ∙ work) drew h
  shard_named name is c h = absurd c

-- ---- what a ticket commits

module _ (f : Formats) (size : ℕ) (known : (place name : Bytes) (number : ℕ) → f.known place name number ≡ true) where
  of_shard : (t : Ticket) (name : BlobName) (work : Work) → t.work ≡ work → IsShard work → ShardCommits t name → ((index number : ℕ) → t.work ≡ Shard index number → IsNumbered f size t number name t.source)
      → Has (shard_names f size t work t.first t.drawn) name
  of_shard t name (Shard index number) is shard c numbered = shard_named f size known t index number name is c (numbered index number is)
  of_shard t name (Finalize info results made) is shard c numbered = absurd shard
  of_shard t name work is shard c numbered = absurd shard

  in_swap : (o : Option Swap) (s : Swap) (name : BlobName) (bytes : Bytes) → o ≡ Some s → Has s.own (name, bytes) → Has (swap_names o) name
  in_swap o s name bytes is own = subst (λ (x : Option Swap). Has (swap_names x) name) (sym is) (Has-map (λ (b : BlobName × Bytes). b.0) s.own (name, bytes) own)

  in_root : (o : Option ℕ) (n : ℕ) → o ≡ Some n → Has (root_names o) (Root n)
  in_root o n is = subst (λ (x : Option ℕ). Has (root_names x) (Root n)) (sym is) (inl refl)

  pub own_named : (t : Ticket) (s : Swap) (name : BlobName) (bytes : Bytes) → swap f t ≡ Some s → Has s.own (name, bytes) → Has (names_of f size t) name
  own_named t s name bytes is own =
      Has-right (shard_names f size t t.work t.first t.drawn) (swap_names (swap f t) ++ root_names t.raised) name (Has-left (swap_names (swap f t)) (root_names t.raised) name (in_swap (swap f t) s name bytes is own))

  pub may_named : (t : Ticket) (name : BlobName) (bytes : Bytes) → MayCommit f t name bytes → ((index number : ℕ) → t.work ≡ Shard index number → IsNumbered f size t number name t.source) → Has (names_of f size t) name
  may_named t name bytes (inl c) numbered = ⊎_elim
      (λ (own : Has c.0.own (name, bytes)). own_named t c.0 name bytes c.1 own)
      (λ root. Has-right (shard_names f size t t.work t.first t.drawn) (swap_names (swap f t) ++ root_names t.raised) name
      (Has-right (swap_names (swap f t)) (root_names t.raised) name (subst (Has (root_names t.raised)) (sym root.1) (in_root t.raised root.0 root.2.raised))))
      c.2
  may_named t name bytes (inr c) numbered = Has-left (shard_names f size t t.work t.first t.drawn) (swap_names (swap f t) ++ root_names t.raised) name (of_shard t name t.work refl c.2 c.1 numbered)

  -- ---- what it fetches

  in_base : (index number base : ℕ) (o : Option ℕ) → o ≡ Some base → Has (base_names index number o) (ShardIndex index number base)
  in_base index number base o is = subst (λ (x : Option ℕ). Has (base_names index number x) (ShardIndex index number base)) (sym is) (inl refl)

  in_source : (index number uuid : ℕ) (o : Option ℕ) → o ≡ Some uuid → Has (source_names index number o) (ShardSnap index number uuid)
  in_source index number uuid o is = subst (λ (x : Option ℕ). Has (source_names index number x) (ShardSnap index number uuid)) (sym is) (inl refl)

  pub fetch_named : (t : Ticket) (name : BlobName) → IsToFetch t name → Has (fetch_names t t.work) name
  fetch_named t name (index, number, is, which) =
      subst (λ (work : Work). Has (fetch_names t work) name) (sym is)
      (⊎_elim
      (λ base. Has-left (base_names index number t.base) (source_names index number t.source) name (subst (Has (base_names index number t.base)) (sym base.2) (in_base index number base.0 t.base base.1)))
      (λ source. Has-right (base_names index number t.base) (source_names index number t.source) name (subst (Has (source_names index number t.source)) (sym source.2) (in_source index number source.0 t.source source.1)))
      which)

-- ---- as it goes on

-- the ticket but for what its steps make of it
abbrev pub bare : Ticket → Ticket
bare t = record t { work = Drop; first = 0; drawn = 0; noted = []; wrote = []; read = []; raised = None; tried_latest = false; settled = false; out = false; listed = []; whole = false }

-- the ticket later on: it may have planned, drawn and raised, each once
pub record Grown (t v : Ticket) : Type 0 where
  pub same : bare v ≡ bare t
  pub work : (v.work ≡ t.work) ⊎ ((uuids : List ℕ) × (s : Swap) × (t.work ≡ Deleting uuids None) × (v.work ≡ Deleting uuids (Some s)))
  pub drew : (index number : ℕ) → t.work ≡ Shard index number → ((v.first ≡ t.first) × (v.drawn ≡ t.drawn)) ⊎ (t.drawn ≡ 0)
  pub raised : (v.raised ≡ t.raised) ⊎ (t.raised ≡ None)

-- the keys of names, and these with what it fetches
abbrev pub name_keys : Formats → ℕ → Ticket → List Key
name_keys f size u = map BeginKey (names_of f size u) ++ map CommitKey (names_of f size u)

abbrev pub own_keys : Formats → ℕ → Ticket → List Key
own_keys f size u = map FetchKey (fetch_names u u.work) ++ name_keys f size u

module _ (f : Formats) (size : ℕ) (t v : Ticket) (g : Grown t v) where
  shard_part : (work : Work) → t.work ≡ work → (n : BlobName) → Has (shard_names f size t work t.first t.drawn) n → Has (shard_names f size v work v.first v.drawn) n
  shard_part (Shard index number) is n h = elim (g.drew index number is) [
    | inl kept ↦
        subst (λ (b : Ticket). Has (shard_names f size b (Shard index number) v.first v.drawn) n) (sym g.same)
        (subst (λ (x : ℕ). Has (shard_names f size t (Shard index number) x v.drawn) n) (sym kept.0) (subst (λ (x : ℕ). Has (shard_names f size t (Shard index number) t.first x) n) (sym kept.1) h))
    | inr none ↦ only (subst (λ (x : ℕ). Has (shard_names f size t (Shard index number) t.first x) n) none h)
  ]
    where
      only : Has (ShardSnap index number t.uuid ∷ []) n → Has (shard_names f size v (Shard index number) v.first v.drawn) n
      only (inl e) = inl (ap (λ (b : Ticket). ShardSnap index number b.uuid) g.same ∙ e)
      only (inr h) = absurd h
  shard_part (Finalize info results made) is n h = absurd h
  shard_part work is n h = absurd h

  root_part : (n : BlobName) → Has (root_names t.raised) n → Has (root_names v.raised) n
  root_part n h = elim g.raised [
    | inl kept ↦ subst (λ (o : Option ℕ). Has (root_names o) n) (sym kept) h
    | inr none ↦ absurd (subst (λ (o : Option ℕ). Has (root_names o) n) none h)
  ]

  same_swap : v.work ≡ t.work → swap f v ≡ swap f t
  same_swap is = ap (λ (b : Ticket). swap_of f v.work b.root) g.same ∙ ap (λ (work : Work). swap_of f work t.root) is

  pub names_grown : (n : BlobName) → Has (names_of f size t) n → Has (names_of f size v) n
  names_grown n h = elim g.work [
    | inl kept ↦ ⊎_elim
        (λ (a : Has (shard_names f size t t.work t.first t.drawn) n).
        Has-left (shard_names f size v v.work v.first v.drawn) (swap_names (swap f v) ++ root_names v.raised) n (subst (λ (work : Work). Has (shard_names f size v work v.first v.drawn) n) (sym kept) (shard_part t.work refl n a)))
        (λ (b : Has (swap_names (swap f t) ++ root_names t.raised) n).
        Has-right (shard_names f size v v.work v.first v.drawn) (swap_names (swap f v) ++ root_names v.raised) n
        (⊎_elim
        (λ (own : Has (swap_names (swap f t)) n). Has-left (swap_names (swap f v)) (root_names v.raised) n (subst (λ (o : Option Swap). Has (swap_names o) n) (sym (same_swap kept)) own))
        (λ (root : Has (root_names t.raised) n). Has-right (swap_names (swap f v)) (root_names v.raised) n (root_part n root))
        (Has-either (swap_names (swap f t)) (root_names t.raised) n b)))
        (Has-either (shard_names f size t t.work t.first t.drawn) (swap_names (swap f t) ++ root_names t.raised) n h)
    | inr plans ↦
        let bare_h : Has (shard_names f size t (Deleting plans.0 None) t.first t.drawn ++ (swap_names (swap_of f (Deleting plans.0 None) t.root) ++ root_names t.raised)) n =
        subst (λ (work : Work). Has (shard_names f size t work t.first t.drawn ++ (swap_names (swap_of f work t.root) ++ root_names t.raised)) n) plans.2 h in
        Has-right (shard_names f size v v.work v.first v.drawn) (swap_names (swap f v) ++ root_names v.raised) n (Has-right (swap_names (swap f v)) (root_names v.raised) n (root_part n bare_h))
  ]

  fetch_part : (work : Work) → (n : BlobName) → Has (fetch_names t work) n → Has (fetch_names v work) n
  fetch_part (Shard index number) n h =
      subst (λ (b : Ticket). Has (base_names index number b.base ++ source_names index number b.source) n) (sym g.same) h
  fetch_part (Finalize info results made) n h = absurd h
  fetch_part work n h = absurd h

  pub fetches_grown : (n : BlobName) → Has (fetch_names t t.work) n → Has (fetch_names v v.work) n
  fetches_grown n h = elim g.work [
    | inl kept ↦ subst (λ (work : Work). Has (fetch_names v work) n) (sym kept) (fetch_part t.work n h)
    | inr plans ↦ absurd (subst (λ (work : Work). Has (fetch_names t work) n) plans.2 h)
  ]

  map_grown : (a b : List BlobName) (k : BlobName → Key) → ((n : BlobName) → Has a n → Has b n) → (x : Key) → Has (map k a) x → Has (map k b) x
  map_grown a b k more x h = let r = Has-mapped k a x h in subst (Has (map k b)) r.2 (Has-map k b r.0 (more r.0 r.1))

  pub keys_grown : (x : Key) → Has (keys_of f size t) x → Has (keys_of f size v) x
  keys_grown x h = ⊎_elim
      (λ (single : Has single_keys x). Has-left single_keys (own_keys f size v) x single)
      (λ (other : Has (own_keys f size t) x). Has-right single_keys (own_keys f size v) x
      (⊎_elim
      (λ (fetch : Has (map FetchKey (fetch_names t t.work)) x). Has-left (map FetchKey (fetch_names v v.work)) (name_keys f size v) x (map_grown (fetch_names t t.work) (fetch_names v v.work) FetchKey fetches_grown x fetch))
      (λ (name : Has (name_keys f size t) x). Has-right (map FetchKey (fetch_names v v.work)) (name_keys f size v) x
      (⊎_elim
      (λ (begin : Has (map BeginKey (names_of f size t)) x). Has-left (map BeginKey (names_of f size v)) (map CommitKey (names_of f size v)) x (map_grown (names_of f size t) (names_of f size v) BeginKey names_grown x begin))
      (λ (commit : Has (map CommitKey (names_of f size t)) x). Has-right (map BeginKey (names_of f size v)) (map CommitKey (names_of f size v)) x (map_grown (names_of f size t) (names_of f size v) CommitKey names_grown x commit))
      (Has-either (map BeginKey (names_of f size t)) (map CommitKey (names_of f size t)) x name)))
      (Has-either (map FetchKey (fetch_names t t.work)) (name_keys f size t) x other)))
      (Has-either single_keys (own_keys f size t) x h)
