-- What a finalization writes of a snapshot that can be made reads back.
use Rattle.std.proofs.Common.{◌≡◌, ◌≢◌, ℕ, ◌<◌, ◌^◌, ◌==◌, Bool, false, None, inl, inr, refl, sym, subst, ◌⊎◌, ⊎_elim, List, [], ◌∷◌, ◌++◌, ◌+◌, length, drop, get_or, map, bytes_eq, arith, Option}
use Rattle.std.specs.List.{list_any, AllByRecursion}
use Rattle.std.proofs.lemmas.Bool.{eqb-true, false_from_ne_true, or_from}
use Rattle.std.proofs.lemmas.List.{at_drop_more}
use Rattle.std.proofs.lemmas.Slice.Eq.{bytes_eq-Decides}
use Rattle.esr_names.specs.declared.ids.Id.{Id}
use Rattle.esr_names.specs.declared.index_ref.IndexRef.{IndexRef as CodeRef}
use Rattle.esr_names.specs.NameRule.{snap_name_fault, index_name_fault}
use Rattle.esr_names.specs.Indices.{clashes, IsRef, AreRefs}
use Rattle.esr_meta.specs.Info.{Info}
use Rattle.esr_meta.specs.declared.global.GlobalMeta.{GlobalMeta as CodeGlobal}
use Rattle.esr_meta.specs.Index.{Index}
use Rattle.esr_model.specs.Values.{Bytes, Has, IndexRef, ReadsBack}
use Rattle.esr_core.specs.Generations.{WritesBack}
use Rattle.esr_formats.specs.Refs.{ref_of_code, AreApart}
use Rattle.esr_formats.specs.Formats.{formats}
use Rattle.esr_formats.specs.IndexMetas.{index_meta_kind}
use Rattle.esr_formats.proofs.MetaTexts.{refs_each, info_reads_back, global_reads_back, index_meta_reads_back}

-- its name keeps the rules, and its id fits its type
pub record IsRuled (r : CodeRef) : Type 0 where
  pub name : index_name_fault r.name ≡ None
  pub id : r.id.number < 2 ^ 128

-- what holds of an element and of those after it
pub all_from : (P : CodeRef → Type 0) (xs : List CodeRef) (i : ℕ) (x : CodeRef) → i < length xs → x ≡ get_or xs i x → P x → AllByRecursion P (drop (i + 1) xs) → AllByRecursion P (drop i xs)
all_from P xs i x within there here rest =
    let more : drop i xs ≡ get_or xs i x ∷ drop (i + 1) xs = at_drop_more (λ (ys : List CodeRef). ys) xs i x within in
    subst (AllByRecursion P) (sym more) (subst P there here, rest)

-- ---- indices that are apart can be listed

-- those before have none of the names and ids of the rest
abbrev AreFree : List CodeRef → List CodeRef → Type 0
AreFree before rs = (q : IndexRef) → Has (map ref_of_code rs) q → (b : IndexRef) → Has (map ref_of_code before) b → (q.name ≢ b.name) × (q.id ≢ b.id)

none_clashes : (r : CodeRef) (before : List CodeRef) → ((b : IndexRef) → Has (map ref_of_code before) b → (r.name ≢ b.name) × (r.id.number ≢ b.id)) → list_any (clashes r) before ≡ false
none_clashes r [] apart = refl
none_clashes r (b ∷ bs) apart =
    let here = apart (ref_of_code b) (inl refl) in
    let name : bytes_eq b.name r.name ≡ false = false_from_ne_true _ (λ h. here.0 (sym ((bytes_eq-Decides b.name r.name).0 h))) in
    let id : (b.id.number == r.id.number) ≡ false = false_from_ne_true _ (λ h. here.1 (sym (eqb-true b.id.number r.id.number h))) in
    or_from (clashes r b) (list_any (clashes r) bs) (or_from _ _ name id) (none_clashes r bs (λ c has. apart c (inr has)))

has_before : (before : List CodeRef) (r : CodeRef) (b : IndexRef) → Has (map ref_of_code (before ++ r ∷ [])) b → Has (map ref_of_code before) b ⊎ (ref_of_code r ≡ b)
has_before [] r b (inl here) = inr here
has_before [] r b (inr none) = absurd none
has_before (x ∷ xs) r b (inl here) = inl (inl here)
has_before (x ∷ xs) r b (inr later) = ⊎_elim (λ h. inl (inr h)) (λ here. inr here) (has_before xs r b later)

free_more : (before : List CodeRef) (r : CodeRef) (rs : List CodeRef) → AreFree before (r ∷ rs) → AreApart (ref_of_code r ∷ map ref_of_code rs) → AreFree (before ++ r ∷ []) rs
free_more before r rs free apart q has b has_b =
    ⊎_elim (λ old. free q (inr has) b old) (λ here. subst (λ (x : IndexRef). (q.name ≢ x.name) × (q.id ≢ x.id)) here (apart.2 q has)) (has_before before r b has_b)

pub AreRefs-apart : (before rs : List CodeRef) → AreFree before rs → AllByRecursion IsRuled rs → AreApart (map ref_of_code rs) → AreRefs before rs
AreRefs-apart before [] free ruled apart = tt
AreRefs-apart before (r ∷ rs) free ruled apart =
    let one : IsRuled r = ruled.0 in (
      record { id = one.id; name = one.name; least = apart.0; most = apart.1 },
      none_clashes r before (λ b has. free (ref_of_code r) (inl refl) b has),
      AreRefs-apart (before ++ r ∷ []) rs (free_more before r rs free apart) ruled.1 apart.3,
    )

-- ---- what is written

ref_there : (P : CodeRef → Type 0) (rs : List CodeRef) (q : IndexRef) → AllByRecursion P rs → Has (map ref_of_code rs) q → (r : CodeRef) × P r × (ref_of_code r ≡ q)
ref_there P [] q all none = absurd none
ref_there P (r ∷ rs) q all (inl here) = (r, all.0, here)
ref_there P (r ∷ rs) q all (inr later) = ref_there P rs q all.1 later

index_back : (uuid : Id) (rs : List CodeRef) (q : IndexRef) → uuid.number < 2 ^ 128 → AllByRecursion IsRef rs → Has (map ref_of_code rs) q
    → ReadsBack index_meta_kind (record { index = q; uuid = uuid.number })
index_back uuid rs q fits refs has =
    let found = ref_there IsRef rs q refs has in
    let one : IsRef found.0 = found.1 in
    let m : Index = record { id = found.0.id; name = found.0.name; shards = found.0.shards; uuid = uuid } in
    subst (λ (x : IndexRef). ReadsBack index_meta_kind (record { index = x; uuid = uuid.number })) found.2
    (index_meta_reads_back m (record { id = one.id; name = one.name; least = one.least; most = one.most; uuid = fits }))

pub makings_write_back : (known : Bytes → Bytes → ℕ → Bool) (told : Bytes → Bytes → ℕ → Option (List (Bytes × Bytes))) (name : Bytes) (uuid : Id) (moment : ℕ) (rs : List CodeRef) → snap_name_fault name ≡ None
    → uuid.number < 2 ^ 128 → moment < 2 ^ 64
    → AllByRecursion IsRuled rs → AreApart (map ref_of_code rs) → WritesBack (formats known told) name uuid.number moment (map ref_of_code rs)
unfolding formats
makings_write_back known told name uuid moment rs rule fits early ruled apart =
    let refs : AreRefs [] rs = AreRefs-apart [] rs (λ q has b none. absurd none) ruled apart in
    let info : ℕ → ℕ → Info = λ files bytes. record { bytes = bytes; files = files; indices = rs; moment = moment; name = name; state = 1; uuid = uuid } in
    let global : CodeGlobal = record { moment = moment; name = name; uuid = uuid } in
    record {
      info = λ files bytes few short. info_reads_back (info files bytes) (record { bytes = short; files = few; indices = refs; moment = early; name = rule; state = omega arith; uuid = fits });
      global = global_reads_back global (record { moment = early; name = rule; uuid = fits });
      index = λ q has. index_back uuid rs q fits (refs_each [] rs refs) has;
    }
