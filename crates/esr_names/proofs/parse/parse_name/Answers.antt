use Rattle.std.proofs.Common.{◌≡◌, ℕ, List, Bool, false, bytes_eq, subst, sym, ap, ◌∙◌}
use Rattle.std.proofs.lemmas.Bool.{both_ways, iff_false}
use Rattle.std.proofs.lemmas.Slice.Eq.{bytes_eq-Decides}
use Rattle.esr_names.specs.Layout.{name_text, IsName}
use Rattle.esr_names.specs.Reading.{name_of}
use Rattle.esr_names.specs.NameTexts.{name_of-name_text}
use Rattle.esr_names.proofs.parse.parse_name.Goals as goal
use Rattle.esr_names.proofs.parse.parse_name.Goals.{else-is_name-via-then-is_name+else-eq, else-is_name-via-else-is_name}

-- a test of two texts that answers false, of texts that are equal
unequal : (xs ys : List ℕ) (r : Bool) → r ≡ bytes_eq xs ys → r ≡ false → xs ≡ ys → ⊥
unequal xs ys r is off same = both_ways r off (is ∙ (bytes_eq-Decides xs ys).1 same)

pub returns-in_err-name-clause-only : goal.returns-in_err-name-clause-only
returns-in_err-name-clause-only c = λ name ids ok is.
    let read = ap name_of is ∙ name_of-name_text name ids ok in
    cc (read, c.name_of.ensures, c.in_err-name.was)

pub returns-then-eq-clause-only : goal.returns-then-eq-clause-only
returns-then-eq-clause-only c = λ name ids ok is.
    let read = ap name_of is ∙ name_of-name_text name ids ok in
    cc (read, c.name_of.ensures, c.in_ok-name.was)

pub returns-else-is_name-clause-only : goal.returns-else-is_name-clause-only
returns-else-is_name-clause-only c = λ name ids ok is.
    let read = ap name_of is ∙ name_of-name_text name ids ok in
    let same : c.in_ok-name.name ≡ name = cc (read, c.name_of.ensures, c.in_ok-name.was) in
    elim c.else-is_name.branch [
      | else-is_name-via-then-is_name+else-eq w ↦ absurd (unequal _ _ _ w.eq.ensures w.if-eq.false (c.print_name-len.ensures.text ∙ ap name_text same ∙ sym is))
      | else-is_name-via-else-is_name w ↦ absurd (iff_false c.is_name.ensures w.if-is_name.false (subst IsName (sym same) ok))
    ]
