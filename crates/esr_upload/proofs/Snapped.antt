-- Entries make a snapshot, unless the base has an id that isn't below the new ones.
use Rattle.std.proofs.Common.{◌≡◌, ◌≢◌, ◌⊎◌, inl, inr, ℕ, zero, suc, ◌+◌, ◌-◌, ◌<◌, ◌≤◌, ◌^◌, ◌==◌, ◌&&◌, nat_lt, not, Bool, true, false, List, [], ◌∷◌, ◌++◌, length, map, slice_get, Option, Some, None, option_map, refl, sym, ap, ◌∙◌, subst, arith}
use Rattle.std.specs.List.{list_any, AllByRecursion}
use Rattle.std.specs.Ordering.{nat_cmp, is_lt, is_eq, ordering_reverse}
use Rattle.std.specs.declared.cmp.Ordering.{Ordering}
use Rattle.std.specs.declared.cmp.Ordering.TheVariants.{Less, Equal, Greater}
use Rattle.std.specs.Cmp.Lexicographic.{slice_cmp}
use Rattle.std.proofs.lemmas.Cmp.{nat_list_cmp_total}
use Rattle.std.proofs.lemmas.Bool.{cases_Bool, and_parts, eqb-true, lt-ltb, ltb-true, ltb-false, le-leb}
use Rattle.std.proofs.lemmas.Map.Lookups.{exact_bytes}
use Rattle.esr_names.specs.declared.ids.Id.{Id}
use Rattle.esr_hash.specs.declared.print.Print.{Print}
use Rattle.esr_model.specs.Values.{Bytes, FileEntry, Has}
use Rattle.esr_model.specs.Uploads.{same_bytes, matches, reused}
use Rattle.esr_source.specs.Files.{is_above, is_rising}
use Rattle.esr_shardidx.specs.declared.entry.FileEntry.{FileEntry as CodeEntry}
use Rattle.esr_shardidx.specs.Entries.{last_of, is_below, name_stays, IsEntry, is_sized}
use Rattle.esr_shardidx.specs.Snapshots.{has_name, follows, are_snap_files}
use Rattle.esr_shardidx.specs.Indices.{IndexValue, IsShardIndex, Rises}
use Rattle.esr_shardidx.specs.FileOrder.{all_map, all_push}
use Rattle.esr_shardidx.specs.NamesRise.{less_from}
use Rattle.esr_formats.specs.Shards.{entry_of, code_entry, shard_index_of}
use Rattle.esr_reuse.specs.declared.reuse.Planned.{Planned}
use Rattle.esr_reuse.specs.Plans.{file_planned, Reuses}
use Rattle.esr_upload.specs.Surveyed.{printed, IsShort, names_rise}
use Rattle.esr_upload.specs.Entries.{is_new, entry_at, entries_at}

-- ---- names

below_on : (a b c : Bytes) → is_below a b ≡ true → is_below b c ≡ true → is_below a c ≡ true
below_on a b c first second = ap is_lt (nat_list_cmp_total.trans a b c (less_from (slice_cmp nat_cmp a b) first) (less_from (slice_cmp nat_cmp b c) second))

never_less : (o : Ordering) → o ≡ ordering_reverse o → is_lt o ≡ true → ⊥
never_less Less h less = cc
never_less Equal h less = cc
never_less Greater h less = cc

below_itself : (a : Bytes) → is_below a a ≡ true → ⊥
below_itself a below = never_less (slice_cmp nat_cmp a a) (nat_list_cmp_total.antisymm a a) below

stays_at : (es : List CodeEntry) (i : ℕ) (name : Bytes) → AllByRecursion (λ x. is_below x.physical name ≡ true) es → name_stays (slice_get es i) name ≡ false
stays_at [] i name all = refl
stays_at (e ∷ es) zero name all = rw all.0 refl
stays_at (e ∷ es) (suc i) name all = stays_at es i name all.1

-- ---- what is reused

-- it is among the entries
abbrev pub Among : List CodeEntry → CodeEntry → Type 0
Among es e = Has es e

same_from : (a b : Bytes) → same_bytes a b ≡ true → a ≡ b
same_from a b same = exact_bytes a b (equal_from (slice_cmp nat_cmp a b) same)
  where
    equal_from : (o : Ordering) → is_eq o ≡ true → o ≡ Equal
    equal_from Less h = cc
    equal_from Equal h = refl
    equal_from Greater h = cc

found : (es : List CodeEntry) (physical : Bytes) (len : ℕ) (digest : Bytes) (e : CodeEntry) → ◌≡◌ {A = Option FileEntry} (Some (entry_of e)) (reused (map entry_of es) physical len digest) → Among es e × (e.physical ≡ physical)
found [] physical len digest e is = cc
found (x ∷ es) physical len digest e is = elim (cases_Bool (matches (entry_of x) physical len digest)) [
  | inl here ↦
      let some : ◌≡◌ {A = Option FileEntry} (Some (entry_of e)) (Some (entry_of x)) = rw here at is in
      let entry : entry_of e ≡ entry_of x = cc in
      let same : x ≡ e = sym (ap code_entry entry) in
      let parts = and_parts (same_bytes x.physical physical) ((x.print.len == len) && same_bytes x.print.sha256 digest) here in
      (inl same, ap (λ (y : FileEntry). y.physical) entry ∙ same_from x.physical physical parts.0)
  | inr other ↦ let later = found es physical len digest e (rw other at is) in (inr later.0, later.1)
]

-- ---- which entries there are

-- of the base, or new with an id from the first on and below the next
abbrev Known : List CodeEntry → ℕ → ℕ → CodeEntry → Type 0
Known base first next e = Among base e ⊎ ((first ≤ e.name.number) × (e.name.number < next))

among_all : (P : CodeEntry → Type 0) (es : List CodeEntry) (e : CodeEntry) → AllByRecursion P es → Among es e → P e
among_all P [] e all among = absurd among
among_all P (x ∷ es) e all (inl same) = subst P same all.0
among_all P (x ∷ es) e all (inr later) = among_all P es e all.1 later

-- entries that rise by id are one where they have one id
one_id : (es : List CodeEntry) (x y : CodeEntry) → Rises es → Among es x → Among es y → x.name.number ≡ y.name.number → x ≡ y
one_id [] x y rises at_x at_y same = absurd at_x
one_id (e ∷ es) x y rises (inl is_x) (inl is_y) same = sym is_x ∙ is_y
one_id (e ∷ es) x y rises (inl is_x) (inr at_y) same =
    let above : e.name.number < y.name.number = among_all (λ f. e.name.number < f.name.number) es y rises.0 at_y in
    let number = ap (λ (z : CodeEntry). z.name.number) is_x in
    absurd (omega (arith, above, same, number))
one_id (e ∷ es) x y rises (inr at_x) (inl is_y) same =
    let above : e.name.number < x.name.number = among_all (λ f. e.name.number < f.name.number) es x rises.0 at_x in
    let number = ap (λ (z : CodeEntry). z.name.number) is_y in
    absurd (omega (arith, above, same, number))
one_id (e ∷ es) x y rises (inr at_x) (inr at_y) same = one_id es x y rises.1 at_x at_y same

-- no entry before has the id
none_named : (u : Id) (before : List CodeEntry) → AllByRecursion (λ x. x.name.number ≢ u.number) before → list_any (has_name u) before ≡ false
none_named u [] all = refl
none_named u (x ∷ before) all = elim (cases_Bool (x.name.number == u.number)) [
  | inl same ↦ absurd (all.0 (eqb-true x.name.number u.number same))
  | inr other ↦ rw other (none_named u before all.1)
]

-- what the next entry is
record Next (base : List CodeEntry) (first next after : ℕ) (p : Planned) (e : CodeEntry) : Type 0 where
  name : e.physical ≡ p.physical
  sized : is_sized e ≡ true
  known : Among base e ⊎ ((e.name.number ≡ next) × (after ≡ suc next))

sized_from : (e : CodeEntry) → e.print.len < 2 ^ 60 → 1 ≤ e.part_size → e.part_size ≤ 2 ^ 30 → is_sized e ≡ true
sized_from e short least most = rw (lt-ltb e.print.len (2 ^ 60) short, le-leb 1 e.part_size least, le-leb e.part_size (2 ^ 30) most) refl

-- those before are below the first of the files that follow
abbrev Under : List CodeEntry → List (Bytes × Bytes) → Type 0
Under before [] = Unit {0}
Under before (f ∷ fs) = AllByRecursion (λ x. is_below x.physical f.0 ≡ true) before

none_under : (fs : List (Bytes × Bytes)) → Under [] fs
none_under [] = tt
none_under (f ∷ fs) = tt

module _ (base : IndexValue) (whole : IsShardIndex base) (size first : ℕ) (least : 1 ≤ size) (most : size ≤ 2 ^ 30) (under : AllByRecursion (λ e. e.name.number < first) base.files) where
  next_entry : (next : ℕ) (p : Planned) (r : Option CodeEntry) → p.print.len < 2 ^ 60 → option_map entry_of r ≡ reused (shard_index_of base).files p.physical p.print.len p.print.sha256
      → Next base.files first next (next + is_new r) p (entry_at size next p r)
  next_entry next p None short reuses = record {
    name = refl;
    sized = sized_from (entry_at size next p None) short least most;
    known = inr (refl, omega arith);
  }
  next_entry next p (Some e) short reuses =
      let at = found base.files p.physical p.print.len p.print.sha256 e reuses in
      let entry : IsEntry e = among_all IsEntry base.files e whole.entries at.0 in
      record { name = at.1; sized = sized_from e entry.short entry.least entry.most; known = inl at.0 }

  differs : (next after : ℕ) (p : Planned) (e x : CodeEntry) → first ≤ next → Next base.files first next after p e → Known base.files first next x → is_below x.physical p.physical ≡ true → x.name.number ≡ e.name.number → ⊥
  differs next after p e x le n known below same = elim known [
    | inl old ↦
        let low : x.name.number < first = among_all (λ y. y.name.number < first) base.files x under old in
        elim n.known [
          | inl among ↦
              let is : x ≡ e = one_id base.files x e whole.rises old among same in
              let name : x.physical ≡ p.physical = ap (λ (y : CodeEntry). y.physical) is ∙ n.name in
              below_itself p.physical (subst (λ (b : Bytes). is_below b p.physical ≡ true) name below)
          | inr new ↦ let id = new.0 in omega (arith, low, le, id, same)
        ]
    | inr young ↦ elim n.known [
      | inl among ↦
          let low : e.name.number < first = among_all (λ y. y.name.number < first) base.files e under among in
          let from = young.0 in omega (arith, low, from, same)
      | inr new ↦ let id = new.0 in let end = young.1 in omega (arith, id, end, same)
    ]
  ]

  all_differ : (next after : ℕ) (p : Planned) (e : CodeEntry) (before : List CodeEntry) → first ≤ next → Next base.files first next after p e → AllByRecursion (Known base.files first next) before
      → AllByRecursion (λ x. is_below x.physical p.physical ≡ true) before → AllByRecursion (λ x. x.name.number ≢ e.name.number) before
  all_differ next after p e [] le n known below = tt
  all_differ next after p e (x ∷ before) le n known below = (differs next after p e x le n known.0 below.0, all_differ next after p e before le n known.1 below.1)

  known_on : (next after : ℕ) (p : Planned) (e x : CodeEntry) → Next base.files first next after p e → next ≤ after → Known base.files first next x → Known base.files first after x
  known_on next after p e x n le known = elim known [
    | inl old ↦ inl old
    | inr young ↦ inr (young.0, let end = young.1 in omega (arith, end, le))
  ]

  known_one : (next after : ℕ) (p : Planned) (e : CodeEntry) → first ≤ next → Next base.files first next after p e → Known base.files first after e
  known_one next after p e le n = elim n.known [
    | inl among ↦ inl among
    | inr new ↦ let id = new.0 in let end = new.1 in inr (omega (arith, id, le), omega (arith, id, end))
  ]

  one_follows : (next after : ℕ) (p : Planned) (e : CodeEntry) (before : List CodeEntry) → first ≤ next → Next base.files first next after p e → AllByRecursion (Known base.files first next) before
      → AllByRecursion (λ x. is_below x.physical p.physical ≡ true) before → follows before e ≡ true
  one_follows next after p e before le n known below =
      let sized = n.sized in
      let stays : name_stays (last_of before) e.physical ≡ false = subst (λ (b : Bytes). name_stays (last_of before) b ≡ false) (sym n.name) (stays_at before (length before - 1) p.physical below) in
      let none = none_named e.name before (all_differ next after p e before le n known below) in
      and_all (is_sized e) (name_stays (last_of before) e.physical) (list_any (has_name e.name) before) sized stays none
    where
      and_all : (a b c : Bool) → a ≡ true → b ≡ false → c ≡ false → (a && (not b && not c)) ≡ true
      and_all a b c x y z = rw (x, y, z) refl

  under_on : (before : List CodeEntry) (e : CodeEntry) (f : Bytes × Bytes) (fs : List (Bytes × Bytes)) → e.physical ≡ f.0 → is_rising (Some f.0) (names_rise fs) ≡ true
      → AllByRecursion (λ x. is_below x.physical f.0 ≡ true) before → Under (before ++ e ∷ []) fs
  under_on before e f [] name rising below = tt
  under_on before e f (g ∷ fs) name rising below =
      let step : is_below f.0 g.0 ≡ true = (and_parts (is_above (Some f.0) g.0) (is_rising (Some g.0) (names_rise fs)) rising).0 in
      all_push (λ (x : CodeEntry). is_below x.physical g.0 ≡ true) before e
      (all_map (λ (x : CodeEntry) (h : is_below x.physical f.0 ≡ true). below_on x.physical f.0 g.0 h step) before below)
      (subst (λ (b : Bytes). is_below b g.0 ≡ true) (sym name) step)

  all_follow : (last : Option Bytes) (next : ℕ) (before : List CodeEntry) (ps : List Planned) (fs : List (Bytes × Bytes)) → first ≤ next → map file_planned ps ≡ map printed fs → AllByRecursion IsShort fs
      → AllByRecursion (Reuses (shard_index_of base).files) ps → is_rising last (names_rise fs) ≡ true → AllByRecursion (Known base.files first next) before → Under before fs
      → are_snap_files before (entries_at size next ps) ≡ true
  all_follow last next before [] fs le named short each rising known below = refl
  all_follow last next before (p ∷ ps) [] le named short each rising known below = cc
  all_follow last next before (p ∷ ps) (f ∷ fs) le named short each rising known below =
      let here : file_planned p ≡ printed f = cc in
      let rest : map file_planned ps ≡ map printed fs = cc in
      let name : p.physical ≡ f.0 = ap (λ (x : Bytes × Print). x.0) here in
      let len : p.print.len ≡ length f.1 = ap (λ (x : Bytes × Print). x.1.len) here in
      let lt : p.print.len < 2 ^ 60 = subst (λ (n : ℕ). n < 2 ^ 60) (sym len) short.0 in
      let e : CodeEntry = entry_at size next p p.reused in
      let after : ℕ = next + is_new p.reused in
      let n : Next base.files first next after p e = next_entry next p p.reused lt each.0 in
      let under_p = subst (λ (b : Bytes). AllByRecursion (λ x. is_below x.physical b ≡ true) before) (sym name) below in
      let one = one_follows next after p e before le n known under_p in
      let on : next ≤ after = omega arith in
      let rises = (and_parts (is_above last f.0) (is_rising (Some f.0) (names_rise fs)) rising).1 in
      let more = all_follow (Some f.0) after (before ++ e ∷ []) ps fs (omega (arith, le, on)) rest short.1 each.1 rises
      (all_push (Known base.files first after) before e (all_map (λ (x : CodeEntry) (h : Known base.files first next x). known_on next after p e x n on h) before known) (known_one next after p e le n))
      (under_on before e f fs (n.name ∙ name) rises below) in
      both (follows before e) (are_snap_files (before ++ e ∷ []) (entries_at size after ps)) one more
    where
      both : (a b : Bool) → a ≡ true → b ≡ true → (a && b) ≡ true
      both a b x y = rw (x, y) refl

-- all are below, or one isn't
below_or : (first : ℕ) (es : List CodeEntry) → AllByRecursion (λ e. e.name.number < first) es ⊎ ((e : CodeEntry) × Among es e × (first ≤ e.name.number))
below_or first [] = inl tt
below_or first (e ∷ es) = elim (cases_Bool (nat_lt e.name.number first)) [
  | inl less ↦ elim (below_or first es) [
    | inl all ↦ inl (ltb-true e.name.number first less, all)
    | inr one ↦ inr (one.0, inr one.1, one.2)
  ]
  | inr least ↦ inr (e, inl refl, ltb-false e.name.number first least)
]

pub snap_ahead : (base : IndexValue) (size first : ℕ) (ps : List Planned) (fs : List (Bytes × Bytes)) → IsShardIndex base → 1 ≤ size → size ≤ 2 ^ 30 → map file_planned ps ≡ map printed fs → AllByRecursion IsShort fs
    → AllByRecursion (Reuses (shard_index_of base).files) ps → is_rising None (names_rise fs) ≡ true → are_snap_files [] (entries_at size first ps) ≡ false
    → (e : CodeEntry) × Among base.files e × (first ≤ e.name.number)
snap_ahead base size first ps fs whole least most named short each rising refused = elim (below_or first base.files) [
  | inl under ↦
      let made : are_snap_files [] (entries_at size first ps) ≡ true = all_follow base whole size first least most under None first [] ps fs (omega arith) named short each rising tt (none_under fs) in
      absurd (contra (are_snap_files [] (entries_at size first ps)) made refused)
  | inr one ↦ one
]
  where
    contra : (b : Bool) → b ≡ true → b ≡ false → ⊥
    contra b x y = cc (x, y)
