use Rattle.std.proofs.Common.{◌≡◌, [], drop, string_bytes}
use Rattle.std.specs.List.{list_any}
use Rattle.esr_script.specs.Lines.{is_bad_byte, words_from}
use Rattle.esr_script.proofs.line.words_of.Given as goal

abbrev pub invariant-loop-c : goal.invariant-loop-c
invariant-loop-c l = record {
  bytes : list_any is_bad_byte l.line ≡ list_any is_bad_byte (drop l.c-index l.line);
  words : words_from [] [] l.line ≡ words_from l.words (string_bytes l.word) (drop l.c-index l.line);
}
