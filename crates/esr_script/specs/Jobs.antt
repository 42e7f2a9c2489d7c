-- What the words of the command line ask for.
use Rattle.std.specs.Prelude.{◌≡◌, ◌≤◌, ℕ, true, false, List, [], ◌∷◌, codes, if◌then◌else◌, Option, Some, None, Result, Ok, Err, unwrap_or, is_ok}
use Rattle.std.specs.Option.{ok_or}
use Rattle.std.specs.Str.{bytes_eq}
use Rattle.clap.specs.Words.{Row, Text, all_of, first_of, found_of, matches_of, rows_of, subcommand_of, subcommand_rows_of}
use Rattle.clap.specs.declared.parser.matches.ArgMatches.{ArgMatches}
use Rattle.esr_script.specs.Items.{item_of}
use Rattle.esr_script.specs.Numbers.{number_in}
use Rattle.esr_script.specs.Program.{program, is_taken}
use Rattle.esr_script.specs.declared.item.Item.{Item}
use Rattle.esr_script.specs.declared.job.Job.{Job}
use Rattle.esr_script.specs.declared.job.JobWork.{JobWork}
use Rattle.esr_script.specs.declared.job.JobWork.TheVariants as work
use Rattle.esr_script.specs.declared.job.Options.{Options}
use Rattle.esr_script.specs.declared.refusal.Why.{Why}
use Rattle.esr_script.specs.declared.refusal.WordsRefusal.{WordsRefusal}
use Rattle.esr_script.specs.declared.refusal.WordsRefusal.TheVariants as refusal

-- what f makes of a value, if there is one
infixl 10 ◌>>=◌
abbrev pub ◌>>=◌ : {A B : Type 0} → Option A → (A → Option B) → Option B
(Some x) >>= f = f x
None >>= f = None

-- the number that an option's text tells, or the usual one where the option isn't there
abbrev pub number_of : ℕ → ℕ → ℕ → Option Text → Option ℕ
number_of least most usual None = Some usual
number_of least most usual (Some text) = number_in least most text

-- the options of a line of words
abbrev pub options_of : List Row → Option Options
options_of rows = do
  workers ← number_of 1 64 4 (first_of (codes "workers") rows)
  part_size ← number_of 1 1073741824 16777216 (first_of (codes "chunk-size") rows)
  Some (record { workers = workers; part_size = part_size })

-- the numbers are within their bounds
pub record IsOptions (options : Options) : Type 0 where
  pub some_worker : 1 ≤ options.workers
  pub few_workers : options.workers ≤ 64
  pub some_byte : 1 ≤ options.part_size
  pub small_parts : options.part_size ≤ 1073741824

-- `run`
abbrev pub run_of : List Text → Option JobWork
run_of [] = Some work.Run
run_of (word ∷ words) = None

-- `generate SEED`
abbrev pub generate_of : List Text → Option JobWork
generate_of (text ∷ []) = number_in 0 18446744073709551615 text >>= λ seed. Some (work.Generate seed)
generate_of _ = None

-- a verb with the words of a script's line
abbrev pub single_of : Result Item Why → Option JobWork
single_of (Ok item) = Some (work.Single item)
single_of (Err why) = None

-- what a verb asks for with the words after it
abbrev pub work_of : Text → List Text → Option JobWork
work_of verb words =
    if bytes_eq verb (codes "run") then run_of words
    else (if bytes_eq verb (codes "generate") then generate_of words else single_of (item_of (verb ∷ words)))

-- the words after the verb
abbrev pub words_in : List Row → List Text
words_in rows = unwrap_or (all_of (codes "words") rows) []

-- the job of the options' matches, and of the verb with its own
abbrev pub job_from : List Row → Option (Text × List Row) → Option Job
job_from rows None = None
job_from rows (Some verb) = do
  options ← options_of rows
  work ← work_of verb.0 (words_in verb.1)
  Some (record { options = options; work = work })

-- what the words ask for
unfoldable pub job_of : List Text → Result Job WordsRefusal
job_of words =
    if is_taken words then ok_or (job_from (matches_of program words) (subcommand_of program words)) refusal.BadWords
    else Err refusal.BadWords

-- DIR, which is `repo` where the option isn't there
abbrev pub folder_of : List Text → Text
folder_of words = unwrap_or (first_of (codes "repo") (matches_of program words)) (codes "repo")

-- DIR where the words ask for something, else `repo`
unfoldable pub place_of : List Text → Text
place_of words = if is_ok (job_of words) then folder_of words else codes "repo"

-- a result is what reading the words gives, unless memory was wanting
abbrev pub GivesWords : {A : Type 0} → Result A WordsRefusal → Result A WordsRefusal → Type 0
GivesWords (Ok x) read = read ≡ Ok x
GivesWords (Err refusal.Memory) read = Unit {0}
GivesWords (Err refusal.BadWords) read = read ≡ Err refusal.BadWords

-- a result is what the command line makes of the words, unless memory was wanting
abbrev pub GivesMatches : Result ArgMatches WordsRefusal → List Text → Type 0
GivesMatches (Ok m) words =
    (is_taken words ≡ true) × (rows_of (found_of m) ≡ matches_of program words) × (subcommand_rows_of m ≡ subcommand_of program words)
GivesMatches (Err refusal.Memory) words = Unit {0}
GivesMatches (Err refusal.BadWords) words = is_taken words ≡ false
