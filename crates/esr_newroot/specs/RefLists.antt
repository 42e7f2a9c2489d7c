-- References to indices whose names and ids differ.
use Rattle.std.proofs.Common.{◌≡◌, Bool, false, ◌==◌, List, [], ◌∷◌, ◌++◌, refl, subst, inl, inr}
use Rattle.std.specs.List.{list_any, AllByRecursion, IsDistinct}
use Rattle.std.specs.Str.{bytes_eq}
use Rattle.std.proofs.lemmas.Bool.{or_parts}
use Rattle.esr_names.specs.declared.index_ref.IndexRef.{IndexRef}
use Rattle.esr_names.specs.Indices.{clashes, AreRefs}
use Rattle.esr_root.specs.Ids.{same_id}
use Rattle.esr_root.specs.Lists.{all_weaken}
use Rattle.esr_model.specs.Values.{Has}

abbrev pub one_name : IndexRef → IndexRef → Bool
one_name p q = bytes_eq p.name q.name

abbrev pub one_id : IndexRef → IndexRef → Bool
one_id p q = same_id p.id q.id

-- ---- lists that keep their rule

has_last : (before : List IndexRef) (q : IndexRef) → Has (before ++ q ∷ []) q
has_last [] q = inl refl
has_last (p ∷ before) q = inr (has_last before q)

has_more : (before : List IndexRef) (p q : IndexRef) → Has before p → Has (before ++ q ∷ []) p
has_more [] p q h = absurd h
has_more (x ∷ before) p q (inl e) = inl e
has_more (x ∷ before) p q (inr h) = inr (has_more before p q h)

no_clash : (q p : IndexRef) (before : List IndexRef) → Has before p → list_any (clashes q) before ≡ false → clashes q p ≡ false
no_clash q p [] h e = absurd h
no_clash q p (x ∷ before) (inl is) e = subst (λ (z : IndexRef). clashes q z ≡ false) is (or_parts (clashes q x) (list_any (clashes q) before) e).0
no_clash q p (x ∷ before) (inr h) e = no_clash q p before h (or_parts (clashes q x) (list_any (clashes q) before) e).1

-- none of the later ones clashes with one before them
clear : (p : IndexRef) (before qs : List IndexRef) → Has before p → AreRefs before qs → AllByRecursion (λ q. clashes q p ≡ false) qs
clear p before [] h a = tt
clear p before (q ∷ qs) h a = (no_clash q p before h a.1, clear p (before ++ q ∷ []) qs (has_more before p q h) a.2)

distinct_by : (e : IndexRef → IndexRef → Bool) → ((p q : IndexRef) → clashes q p ≡ false → e p q ≡ false) → (before qs : List IndexRef) → AreRefs before qs → IsDistinct e qs
unfolding IsDistinct
distinct_by e f before [] a = tt
distinct_by e f before (q ∷ qs) a =
    (all_weaken (λ r. clashes r q ≡ false) (λ r. e q r ≡ false) (λ r. f q r) qs (clear q (before ++ q ∷ []) qs (has_last before q) a.2), distinct_by e f (before ++ q ∷ []) qs a.2)

-- one of the later ones differs
pub other_later : (e : IndexRef → IndexRef → Bool) (p : IndexRef) (qs : List IndexRef) (q : IndexRef) → Has qs q → AllByRecursion (λ r. e p r ≡ false) qs → e p q ≡ false
other_later e p [] q h a = absurd h
other_later e p (r ∷ qs) q (inl is) a = subst (λ (z : IndexRef). e p z ≡ false) is a.0
other_later e p (r ∷ qs) q (inr h) a = other_later e p qs q h a.1

pub names_distinct : (qs : List IndexRef) → AreRefs [] qs → IsDistinct one_name qs
names_distinct qs a = distinct_by one_name (λ p q c. (or_parts (bytes_eq p.name q.name) (p.id.number == q.id.number) c).0) [] qs a

pub ids_distinct : (qs : List IndexRef) → AreRefs [] qs → IsDistinct one_id qs
ids_distinct qs a = distinct_by one_id (λ p q c. (or_parts (bytes_eq p.name q.name) (p.id.number == q.id.number) c).1) [] qs a
