-- The parts of a history that lines have, where no look was refused.
use Rattle.std.proofs.Common.{◌≡◌, ℕ, true, List, [], ◌∷◌, ◌++◌, append_assoc, refl, sym, ap, ◌∙◌, subst, inl, ⊎_elim}
use Rattle.esr_model.specs.Values.{Has}
use Rattle.esr_core.specs.Entry.{Read, CheckedAll, ReadFails, Refused, DeposedAt, Moment}
use Rattle.esr_script.specs.declared.item.Item.{Item}
use Rattle.esr_script.specs.declared.item.Item.TheVariants as items
use Rattle.esr_script.specs.declared.item.ScriptLine.{ScriptLine}
use Rattle.esr_model.specs.Lists.{Has-left, Has-right}
use Rattle.esr_desk.specs.Start.{Start}
use Rattle.esr_quiet.specs.Asked.{asked_steps}
use Rattle.esr_quiet.specs.Smooth.{NoneChecked}
use Rattle.esr_drive.specs.Elections.{WaitsOnly}
use Rattle.esr_verify.specs.Began.{HasBegun}
use Rattle.esr_check.specs.Began.{IsCheckEnd, HasEndedCheck}
use Rattle.esr_complete.specs.InTurn.{IsEndOfCheck, IsCheckPart, IsPart, AreParts}
use Rattle.esr_run.specs.Waits.{owed_after}
use Rattle.esr_run.specs.Made.{WasLookRefused, AsksOnly, LinePart, AreInParts, AreParted}
use Rattle.esr_run.proofs.Alone.{all_ask, all_wait, begun_none}

tail_same : {A : Type 0} (x : A) (a b : List A) → x ∷ a ≡ x ∷ b → a ≡ b
tail_same x a b e = cc

-- what was added is one
pub cancel : {A : Type 0} (old a b : List A) → old ++ a ≡ old ++ b → a ≡ b
cancel [] a b e = e
cancel (x ∷ old) a b e = cancel old a b (tail_same x (old ++ a) (old ++ b) e)

-- ---- the part of one line

end_is : (read : Read) → IsCheckEnd read → IsEndOfCheck read
end_is (CheckedAll snapshots blobs) is = tt
end_is (ReadFails why) is = tt
end_is read is = absurd is

check_part : (old new more : List Moment) → new ≡ old ++ more → HasEndedCheck old new → IsCheckPart more
check_part old new more is e = record {
  look = e.look;
  fetches = e.fetches;
  end = e.end;
  is = cancel old more (e.look ∷ e.fetches ++ e.end ∷ []) (sym is ∙ e.is ∙ append_assoc old (e.look ∷ e.fetches) (e.end ∷ []));
  looker = e.looker;
  looks = e.looks;
  all = e.all;
  ender = e.ender;
  read = e.read;
  ends = e.ends;
  is_end = end_is e.read e.is_end;
  ended = e.ended;
}

-- no step was refused since a record swap had failed
abbrev pub NeverDeposed : List Moment → Type 0
NeverDeposed log = (m : Moment) (place : ℕ) → Has log m → m.entry.reply ≡ Refused (DeposedAt place) → ⊥

is_part : (item : Item) (old new more : List Moment) → new ≡ old ++ more → LinePart item old new → NeverDeposed more → IsPart item more
is_part items.Check old new more is p never = ⊎_elim
    (λ (e : HasEndedCheck old new). check_part old new more is e)
    (λ (r : WasLookRefused old new). absurd (never r.look r.place (subst (λ (l : List Moment). Has l r.look) (cancel old (r.look ∷ []) more (sym r.is ∙ is)) (inl refl)) r.refused))
    (p.checks refl)
is_part items.Verify old new more is p never =
    let h : HasBegun old new = p.verifies refl in
    subst NoneChecked (cancel old (h.draw ∷ h.rest) more (sym h.is ∙ is)) (begun_none h.draw h.rest h.drew h.all)
is_part items.Wait old new more is p never =
    let w : WaitsOnly old new = p.only in
    subst NoneChecked (cancel old w.more more (sym w.is ∙ is)) (all_wait w.more w.all)
is_part item old new more is p never =
    let a : AsksOnly old new = p.only in
    subst NoneChecked (cancel old a.more more (sym a.is ∙ is)) (all_ask a.more a.all)

-- ---- of one line after another

record Whole (moment : ℕ) (lines : List ScriptLine) (old new : List Moment) : Type 0 where
  all : List Moment
  is : new ≡ old ++ all
  parts : AreParts moment lines all

whole : (s : Start) (moment owed : ℕ) (lines : List ScriptLine) (old mid new tail : List Moment) → s.alone ≡ true → AreInParts s moment owed lines old mid → new ≡ mid ++ tail → asked_steps tail ≡ [] → NoneChecked tail
    → NeverDeposed new → Whole moment lines old new
whole s moment owed [] old mid new tail alone same is asked none never = record { all = tail; is = is ∙ ap (λ (l : List Moment). l ++ tail) same; parts = (asked, none) }
whole s moment owed (line ∷ lines) old mid new tail alone (first, g, p, elects, rest) is asked none never =
    let w = whole s moment (owed_after line.item owed) lines first mid new tail alone rest is asked none never in
    let is_all : new ≡ old ++ (g.more ++ w.all) = w.is ∙ ap (λ (l : List Moment). l ++ w.all) g.is ∙ append_assoc old g.more w.all in
    record {
      all = g.more ++ w.all;
      is = is_all;
      parts = (
        g.more,
        w.all,
        refl,
        g.asked alone,
        is_part line.item old first g.more g.is p (λ m place h. never m place (subst (λ (l : List Moment). Has l m) (sym is_all) (Has-right old (g.more ++ w.all) m (Has-left g.more w.all m h)))),
        w.parts,
      );
    }

pub are_parts : (s : Start) (moment : ℕ) (lines : List ScriptLine) (log : List Moment) → s.alone ≡ true → AreParted s moment lines [] log → NeverDeposed log → AreParts moment lines log
are_parts s moment lines log alone p never =
    let last : WaitsOnly p.mid log = p.waits in
    let same : last.more ≡ p.grew.more = cancel p.mid last.more p.grew.more (sym last.is ∙ p.grew.is) in
    let w = whole s moment 0 lines [] p.mid log last.more alone p.parts last.is (ap asked_steps same ∙ p.grew.asked alone) (all_wait last.more last.all) never in
    subst (AreParts moment lines) (sym w.is) w.parts
