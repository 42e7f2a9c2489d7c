-- Sets of names, and names that are left out.
use Rattle.std.proofs.Common.{◌≡◌, ℕ, ◌+◌, ◌<◌, ◌≤◌, List, [], ◌∷◌, ◌++◌, map, length, take, get_or, inl, inr, sym, ap, ◌∙◌, subst}
use Rattle.std.proofs.lemmas.List.{map-append}
use Rattle.std.specs.BTreeSet.{BTreeSet}
use Rattle.esr_model.specs.Loops.{next, all}
use Rattle.esr_names.specs.declared.blob.BlobName.{BlobName as CodeName}
use Rattle.esr_formats.specs.Names.{name_of}
use Rattle.esr_model.specs.Names.{BlobName}
use Rattle.esr_model.specs.Values.{Has}
use Rattle.esr_reach.specs.Names.{AreNames, AreOnce, IsWithout, NoneLeft, LeftOut, Kept}
use Rattle.esr_reach.specs.NameSets.{IsSetOf}

-- ---- a set of names

pub set_all : (names : List CodeName) (i : ℕ) (set : BTreeSet CodeName) → length names ≤ i → IsSetOf set (take i names) → IsSetOf set names
set_all names i set past is name =
    let same = all name_of names i past in (
      λ e. subst (λ (ns : List BlobName). Has ns (name_of name)) same ((is name).0 e),
      λ has. (is name).1 (subst (λ (ns : List BlobName). Has ns (name_of name)) (sym same) has),
    )

-- ---- one list without another

without_left : (new old rest : List BlobName) (n : BlobName) → IsWithout new old rest → Has new n → IsWithout new (old ++ n ∷ []) rest
without_left new old rest n NoneLeft has = LeftOut n [] [] has NoneLeft
without_left new old rest n (LeftOut m older others there before) has = LeftOut m (older ++ n ∷ []) others there (without_left new older others n before has)
without_left new old rest n (Kept m older others none before) has = Kept m (older ++ n ∷ []) others none (without_left new older others n before has)

without_kept : (new old rest : List BlobName) (n : BlobName) → IsWithout new old rest → (Has new n → ⊥) → IsWithout new (old ++ n ∷ []) (rest ++ n ∷ [])
without_kept new old rest n NoneLeft none = Kept n [] [] none NoneLeft
without_kept new old rest n (LeftOut m older others there before) none = LeftOut m (older ++ n ∷ []) (others ++ n ∷ []) there (without_kept new older others n before none)
without_kept new old rest n (Kept m older others absent before) none = Kept m (older ++ n ∷ []) (others ++ n ∷ []) absent (without_kept new older others n before none)

module _ (new : List BlobName) (names : List CodeName) (i : ℕ) (x : CodeName) (less : i < length names) (is : x ≡ get_or names i x) where
  pub left_next : (rest : List CodeName) → IsWithout new (map name_of (take i names)) (map name_of rest) → Has new (name_of x) → IsWithout new (map name_of (take (i + 1) names)) (map name_of rest)
  left_next rest before has =
      subst (λ (old : List BlobName). IsWithout new old (map name_of rest)) (sym (next name_of names i x less is)) (without_left new (map name_of (take i names)) (map name_of rest) (name_of x) before has)

  pub kept_next : (rest more : List CodeName) → more ≡ rest ++ x ∷ [] → IsWithout new (map name_of (take i names)) (map name_of rest) → (Has new (name_of x) → ⊥) → IsWithout new (map name_of (take (i + 1) names)) (map name_of more)
  kept_next rest more pushed before none =
      subst (λ (old : List BlobName). IsWithout new old (map name_of more)) (sym (next name_of names i x less is))
      (subst (λ (ns : List BlobName). IsWithout new (map name_of (take i names) ++ name_of x ∷ []) ns) (sym (ap (map name_of) pushed ∙ map-append name_of rest (x ∷ [])))
      (without_kept new (map name_of (take i names)) (map name_of rest) (name_of x) before none))

has_kept : (new old rest : List BlobName) → IsWithout new old rest → (z : BlobName) → Has rest z → Has old z × (Has new z → ⊥)
has_kept new old rest NoneLeft z has = absurd has
has_kept new old rest (LeftOut m older others there before) z has = let kept = has_kept new older others before z has in (inr kept.0, kept.1)
has_kept new old rest (Kept m older others none before) z (inl here) = (inl here, λ has. none (subst (λ (n : BlobName). Has new n) (sym here) has))
has_kept new old rest (Kept m older others none before) z (inr later) = let kept = has_kept new older others before z later in (inr kept.0, kept.1)

in_kept : (new old rest : List BlobName) → IsWithout new old rest → (z : BlobName) → Has old z → (Has new z → ⊥) → Has rest z
in_kept new old rest NoneLeft z has none = absurd has
in_kept new old rest (LeftOut m older others there before) z (inl here) none = absurd (none (subst (λ (n : BlobName). Has new n) here there))
in_kept new old rest (LeftOut m older others there before) z (inr later) none = in_kept new older others before z later none
in_kept new old rest (Kept m older others absent before) z (inl here) none = inl here
in_kept new old rest (Kept m older others absent before) z (inr later) none = inr (in_kept new older others before z later none)

-- just the old names that aren't new
pub without_names : (new old : List BlobName) (rest : List CodeName) → IsWithout new old (map name_of rest) → AreNames rest (λ (z : BlobName). Has old z × (Has new z → ⊥))
without_names new old rest is z = (has_kept new old (map name_of rest) is z, λ both. in_kept new old (map name_of rest) is z both.0 both.1)

pub without_once : (new old rest : List BlobName) → IsWithout new old rest → AreOnce old → AreOnce rest
without_once new old rest NoneLeft once = tt
without_once new old rest (LeftOut m older others there before) once = without_once new older others before once.1
without_once new old rest (Kept m older others none before) once = (λ has. once.0 (has_kept new older others before m has).0, without_once new older others before once.1)
