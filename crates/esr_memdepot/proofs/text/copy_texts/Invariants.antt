use Rattle.std.proofs.Common.{◌≡◌, true, None, drop}
use Rattle.std.specs.List.{list_all}
use Rattle.esr_memdepot.specs.Past.{last_text, left_text, is_text_dated}
use Rattle.esr_memdepot.proofs.text.copy_texts.Given as goal

-- the copies, and over them what the rest leaves
abbrev pub invariant-loop-text : goal.invariant-loop-text
invariant-loop-text l = record {
  same : last_text (left_text l.moment l.leaves) (drop l.text-index l.texts) (last_text (λ x. x.stands) l.copies.items None) ≡ last_text (left_text l.moment l.leaves) l.texts None;
  dated : list_all (is_text_dated 0) l.copies.items ≡ true;
}
