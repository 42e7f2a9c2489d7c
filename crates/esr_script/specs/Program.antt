-- The command line of the program: its options, and a subcommand for each verb.
use Rattle.std.specs.Prelude.{Bool, true, List, [], ◌∷◌, codes, fold, Some}
use Rattle.clap.specs.Words.{App, Rule, Text, new_app, new_rule, with_rule, with_subcommand, fault_of}
use Rattle.clap.specs.Lexer.{usize_max}
use Rattle.clap.specs.Walk.{is_empty}

-- an option with one value
abbrev pub option : Text → Rule
option name = record (new_rule name) { long = Some name }

-- zero or more words
abbrev pub words_rule : Rule
words_rule = record (new_rule (codes "words")) { range = Some (record { start_inclusive = 0; end_inclusive = usize_max }) }

-- a verb with the words after it
abbrev pub verb_app : Text → App
verb_app verb = with_rule (new_app verb) words_rule

abbrev pub with_verb : App → Text → App
with_verb app verb = with_subcommand app (verb_app verb).top

-- a command whose words don't begin with its name, and which asks for a verb
abbrev pub bare : App
bare = record (new_app (codes "esrepo")) {
  top = record (new_app (codes "esrepo")).top { no_binary_name = true; subcommand_required = true };
}

abbrev pub with_option : App → Text → App
with_option app name = with_rule app (option name)

abbrev pub options : List Text
options = codes "repo" ∷ codes "workers" ∷ codes "chunk-size" ∷ []

abbrev pub verbs : List Text
verbs =
    codes "run" ∷ codes "snapshot" ∷ codes "clone" ∷ codes "delete" ∷ codes "restore" ∷ codes "cleanup" ∷ codes "list"
    ∷ codes "check" ∷ codes "verify" ∷ codes "generate" ∷ []

-- `esrepo [--repo DIR] [--workers N] [--chunk-size N] VERB WORD ..`
unfoldable pub program : App
program = fold with_verb (fold with_option bare options) verbs

-- the command line takes the words
abbrev pub is_taken : List Text → Bool
is_taken words = is_empty (fault_of program words)
