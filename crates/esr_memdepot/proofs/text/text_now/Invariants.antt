use Rattle.std.proofs.Common.{◌≡◌, None, drop}
use Rattle.std.specs.Option.{option_copied}
use Rattle.esr_memdepot.specs.Past.{last_text}
use Rattle.esr_memdepot.proofs.text.text_now.Given as goal

-- to go on from here finds what all of them give
abbrev pub invariant-loop-text : goal.invariant-loop-text
invariant-loop-text l = last_text (λ x. x.stands) (drop l.text-index l.texts) (option_copied l.bytes) ≡ last_text (λ x. x.stands) l.texts None
