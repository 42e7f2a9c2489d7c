-- How many checks and verifications who 0 begins and ends, and how many steps it makes of them.
use Rattle.std.specs.Prelude.{ℕ, zero, ◌+◌, ◌*◌, if◌then◌else◌, List, [], ◌∷◌}
use Rattle.esr_model.specs.Names.{BlobName, TestMaster, TestNode}
use Rattle.esr_core.specs.Past.{begins_anew}
use Rattle.esr_core.specs.Entry.{ReadBlob, CheckedAll, DrawTest, BeginTest, CommitTest, RemoveTests, VerifiedAll, ReadFails, Step, AskStep, TakeStep, LookStep, ReadStep, Reply, Gave, Moment}
use Rattle.esr_bounds.specs.Work.{elections_in}

-- a verification begins
abbrev pub draws_by : ℕ → Step → ℕ
draws_by zero (ReadStep DrawTest) = 1
draws_by who step = 0

-- a look, with which a check may begin
abbrev pub looks_by : ℕ → Step → ℕ
looks_by zero LookStep = 1
looks_by who step = 0

-- a check or a verification ends
abbrev pub ends_by : ℕ → Step → ℕ
ends_by zero (ReadStep (CheckedAll snapshots blobs)) = 1
ends_by zero (ReadStep VerifiedAll) = 1
ends_by zero (ReadStep (ReadFails why)) = 1
ends_by who step = 0

abbrev pub draws_in : List Moment → ℕ
draws_in [] = 0
draws_in (m ∷ log) = draws_by m.entry.who m.entry.step + draws_in log

abbrev pub looks_in : List Moment → ℕ
looks_in [] = 0
looks_in (m ∷ log) = looks_by m.entry.who m.entry.step + looks_in log

abbrev pub ends_in : List Moment → ℕ
ends_in [] = 0
ends_in (m ∷ log) = ends_by m.entry.who m.entry.step + ends_in log

-- ---- what it makes of them

-- a test blob is fetched
abbrev pub tests_at : BlobName → ℕ
tests_at (TestMaster v) = 1
tests_at (TestNode v n) = 1
tests_at name = 0

-- a test blob is begun, committed or fetched, or some are removed
abbrev pub tests_by : ℕ → Step → ℕ
tests_by zero (ReadStep (BeginTest name)) = 1
tests_by zero (ReadStep (CommitTest name)) = 1
tests_by zero (ReadStep (RemoveTests (name ∷ names))) = 1
tests_by zero (ReadStep (ReadBlob name)) = tests_at name
tests_by who step = 0

-- a removal of nothing
abbrev pub bare_by : ℕ → Step → ℕ
bare_by zero (ReadStep (RemoveTests [])) = 1
bare_by who step = 0

-- who 0 begins anew: it asks or looks, or a check or verification ends
abbrev pub anew_by : ℕ → Step → ℕ
anew_by who step = if begins_anew who step then 1 else 0

abbrev pub tests_in : List Moment → ℕ
tests_in [] = 0
tests_in (m ∷ log) = tests_by m.entry.who m.entry.step + tests_in log

abbrev pub bare_in : List Moment → ℕ
bare_in [] = 0
bare_in (m ∷ log) = bare_by m.entry.who m.entry.step + bare_in log

abbrev pub anew_in : List Moment → ℕ
anew_in [] = 0
anew_in (m ∷ log) = anew_by m.entry.who m.entry.step + anew_in log

-- ---- what it makes besides

-- a command is asked
abbrev pub commands_by : ℕ → Step → ℕ
commands_by zero (AskStep command) = 1
commands_by who step = 0

-- a take that finds no unit ready
abbrev pub empty_by : ℕ → Step → Reply → ℕ
empty_by zero TakeStep (Gave ticket op unit) = 0
empty_by zero TakeStep reply = 1
empty_by who step reply = 0

-- a blob is fetched, other than a test blob
abbrev pub fetches_at : BlobName → ℕ
fetches_at (TestMaster v) = 0
fetches_at (TestNode v n) = 0
fetches_at name = 1

abbrev pub fetches_by : ℕ → Step → ℕ
fetches_by zero (ReadStep (ReadBlob name)) = fetches_at name
fetches_by who step = 0

abbrev pub commands_in : List Moment → ℕ
commands_in [] = 0
commands_in (m ∷ log) = commands_by m.entry.who m.entry.step + commands_in log

abbrev pub empty_in : List Moment → ℕ
empty_in [] = 0
empty_in (m ∷ log) = empty_by m.entry.who m.entry.step m.entry.reply + empty_in log

abbrev pub fetches_in : List Moment → ℕ
fetches_in [] = 0
fetches_in (m ∷ log) = fetches_by m.entry.who m.entry.step + fetches_in log

-- Its steps that give no unit are as many at most: the commands that it asks, its looks and its verifications end with at most one step
-- and one removal of nothing each; elections, takes that find nothing ready, and the fetches of checks are counted each.
abbrev pub most_of_client : List Moment → ℕ
most_of_client log = 1 + (2 * commands_in log + (4 * looks_in log + (263 * draws_in log + (elections_in log + (empty_in log + fetches_in log)))))

-- each of the 65 names of a verification is begun, committed, fetched and removed once
abbrev pub most_tests : ℕ
most_tests = 260
