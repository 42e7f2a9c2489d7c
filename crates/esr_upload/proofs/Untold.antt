-- A file that changed is of a shard whose files the sources don't tell.
use Rattle.std.proofs.Common.{◌≡◌, inl, inr, ℕ, true, List, Option, None, sym, ap, ◌∙◌, subst}
use Rattle.std.proofs.lemmas.Bool.{cases_Bool}
use Rattle.esr_model.specs.Values.{Bytes}
use Rattle.esr_core.specs.World.{Ticket, Shard}
use Rattle.esr_desk.specs.Start.{Start}
use Rattle.esr_desk.specs.Unit.Shown.{IsUntold}
use Rattle.esr_upload.specs.Stored.{IsToldBy}
use Rattle.esr_upload.specs.Worked.{Worked}
use Rattle.esr_upload.specs.Trouble.{some_none}

-- the ticket of a shard whose files aren't told
pub untold_at : (s : Start) (told : Option (List (Bytes × Bytes))) (old new : Ticket) (index number : ℕ) → Worked old new → old.work ≡ Shard index number → IsToldBy s told number old → told ≡ None → IsUntold s new
untold_at s told old new index number worked work by none =
    let place : new.place ≡ old.place = ap (λ (t : Ticket). t.place) worked.is in
    let name : new.name ≡ old.name = ap (λ (t : Ticket). t.name) worked.is in (
      index,
      number,
      ap (λ (t : Ticket). t.work) worked.is ∙ work,
      elim (cases_Bool (s.known new.place new.name number)) [
        | inl known ↦
            let of_place : s.known old.place new.name number ≡ true = subst (λ (p : Bytes). s.known p new.name number ≡ true) place known in
            let of_name : s.known old.place old.name number ≡ true = subst (λ (n : Bytes). s.known old.place n number ≡ true) name of_place in
            let same = by.tells of_name in absurd (some_none same.0 (sym same.1 ∙ none))
        | inr unknown ↦ unknown
      ],
    )
