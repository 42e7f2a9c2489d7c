-- What the swaps of a record's numbers answer.
use Rattle.std.specs.Prelude.{◌-◌, ◌^◌, ◌+◌, ◌==◌, ◌+ℤ◌, ℕ, ℤ, pos, if◌then◌else◌, Result, Ok, Err}
use Rattle.std.specs.Ordering.{int_eq}
use Rattle.esr_record.specs.declared.steps.RecordRefusal.{RecordRefusal}
use Rattle.esr_record.specs.declared.steps.RecordRefusal.TheVariants.{StaleTerm, GenerationsSpent, TermsSpent}
use Rattle.esr_record.specs.Record.{Record}

-- one more than the pending generation, where the term is the caller's own and a number is left
abbrev pub raised : ℕ → Record → Result ℤ RecordRefusal
raised own r =
    if own == r.term then (if int_eq r.pending (pos (2 ^ 63 - 1)) then Err (GenerationsSpent r.pending) else Ok (r.pending +ℤ pos 1))
    else Err (StaleTerm own r.term)

-- nothing, where the term is the caller's own
abbrev pub settled : ℕ → Record → Result (Unit {0}) RecordRefusal
settled own r = if own == r.term then Ok tt else Err (StaleTerm own r.term)

-- one more than the term, where a number is left
abbrev pub elected : Record → Result ℕ RecordRefusal
elected r = if r.term == 2 ^ 63 - 1 then Err (TermsSpent r.term) else Ok (r.term + 1)
