-- The names of the indices of what reads as a root differ.
use Rattle.std.proofs.Common.{◌≡◌, inl, inr, ℕ, true, false, true≢false, List, Some, option_map, Result, Ok, Err, Less, is_eq, nat_cmp, refl, sym, ap, ◌∙◌, subst}
use Rattle.std.specs.Result.{result_ok}
use Rattle.std.specs.Cmp.Lexicographic.{slice_cmp}
use Rattle.std.proofs.lemmas.Map.Text.{is_eq-slice_cmp}
use Rattle.std.proofs.lemmas.Slice.Eq.{bytes_eq-Decides}
use Rattle.esr_root.specs.Indices.{by_name}
use Rattle.esr_root.specs.Root.{Root, IsRoot}
use Rattle.esr_root.specs.Reading.{root_from}
use Rattle.esr_root.specs.ReadRoots.{root_is}
use Rattle.esr_formats.specs.Roots.{root_of, root_index_of, root_kind}
use Rattle.esr_formats.specs.Formats.{formats}
use Rattle.esr_model.specs.Values.{Bytes, Has, RootIndex, RootData, Kind}
use Rattle.esr_model.specs.Lists.{Has-mapped, rising_has}
use Rattle.esr_desk.specs.Start.{Start, formats_of}

-- ---- the snapshots of its indices are listed

pub root_kind_is : (s : Start) → (formats_of s).root ≡ root_kind
unfolding formats
root_kind_is s = refl

-- ---- the names of its indices differ

-- two of its indices that have one name are one
abbrev pub AreNamedApart : RootData → Type 0
AreNamedApart root = (x y : RootIndex) → Has root.indices x → Has root.indices y → x.name ≡ y.name → x ≡ y

same_less : (a b : List ℕ) → a ≡ b → slice_cmp nat_cmp a b ≡ Less → ⊥
same_less a b same less = true≢false (sym ((bytes_eq-Decides a b).1 same) ∙ sym (is_eq-slice_cmp a b) ∙ ap is_eq less)

are_named_apart : (root : Root) → IsRoot root → AreNamedApart (root_of root)
are_named_apart root rule x y has_x has_y same =
    let i = Has-mapped root_index_of root.indices x has_x in
    let j = Has-mapped root_index_of root.indices y has_y in
    let names : i.0.name ≡ j.0.name = ap (λ (z : RootIndex). z.name) i.2 ∙ same ∙ sym (ap (λ (z : RootIndex). z.name) j.2) in
    elim (rising_has by_name root.indices i.0 j.0 rule.indices.rises i.1 j.1) [
      | inl one ↦ sym i.2 ∙ ap root_index_of one ∙ j.2
      | inr less ↦ elim less [ inl below ↦ absurd (same_less i.0.name j.0.name names below) | inr above ↦ absurd (same_less j.0.name i.0.name (sym names) above) ]
    ]

read_named : {E : Type 0} (read : Result Root E) (r : RootData) → ((root : Root) → read ≡ Ok root → IsRoot root) → option_map root_of (result_ok read) ≡ Some r → AreNamedApart r
read_named (Err why) r rule h = absurd cc
read_named (Ok root) r rule h = let same : root_of root ≡ r = cc in subst AreNamedApart same (are_named_apart root (rule root refl))

kind_named : (bytes : Bytes) (r : RootData) → root_kind.read bytes ≡ Some r → AreNamedApart r
unfolding root_kind
kind_named bytes r h = read_named (root_from bytes) r (root_is bytes) h

-- in what reads as a root
pub root_named : (s : Start) (bytes : Bytes) (r : RootData) → (formats_of s).root.read bytes ≡ Some r → AreNamedApart r
root_named s bytes r h = kind_named bytes r (ap (λ (kind : Kind RootData). kind.read bytes) (sym (root_kind_is s)) ∙ h)
