-- How long a history is at most, by the numbers of what it asks for.
use Rattle.std.proofs.Common.{ℕ, suc, ◌+◌, ◌*◌, List, length}
use Rattle.std.specs.FinMap as fin
use Rattle.esr_model.specs.Values.{Formats}
use Rattle.esr_core.specs.World.{World}
use Rattle.esr_core.specs.Entry.{Moment}
use Rattle.esr_bounds.specs.Most.{most_of_drop}
use Rattle.esr_bounds.specs.Units.{shards_in}
use Rattle.esr_bounds.specs.Work.{work_of, asks_in, elections_in, restores_in}
use Rattle.esr_bounds.specs.Clients.{draws_in, looks_in, commands_in, empty_in, most_tests}
use Rattle.esr_bounds.specs.Others.{generation_names, lost_in}

-- Of who 0 its commands, looks, draws of verifications, elections and takes that find nothing; the fetches that find nothing; the ops that are asked
-- for; the shards of the restores that are accepted; the shards that are asked for; and the steps of the units of these.
pub record Counts : Type 0 where
  pub commands : ℕ
  pub looks : ℕ
  pub draws : ℕ
  pub elections : ℕ
  pub empty : ℕ
  pub lost : ℕ
  pub asks : ℕ
  pub restores : ℕ
  pub shards : ℕ
  pub work : ℕ

-- those of a history
abbrev pub counts_in : Formats → ℕ → List Moment → Counts
counts_in f size log = record {
  commands = commands_in log;
  looks = looks_in log;
  draws = draws_in log;
  elections = elections_in log;
  empty = empty_in log;
  lost = lost_in log;
  asks = asks_in log;
  restores = restores_in log;
  shards = shards_in log;
  work = work_of f size (suc (elections_in log)) log;
}

-- ---- `most_of_all` by these numbers

abbrev pub shards_of : World → Counts → ℕ
shards_of w c = length (generation_names w.root.indices) + c.shards

abbrev pub drops_of : World → Counts → ℕ
drops_of w c = w.next_op * (suc c.elections * suc most_of_drop)

-- each op so many steps more in each term
abbrev pub ops_of : World → Counts → ℕ → ℕ
ops_of w c steps = (w.next_op + c.asks) * (suc c.elections * suc steps)

abbrev pub blobs_of : World → Counts → ℕ
blobs_of w c = length (fin.entries w.blobs) + (most_tests * c.draws + ((c.work + drops_of w c) + (ops_of w c (2 + shards_of w c) + (c.restores * 1 + w.next_ticket))))

abbrev pub deleting_of : World → Counts → ℕ
deleting_of w c = 15 + (3 * shards_of w c + 2 * blobs_of w c)

abbrev pub restoring_of : World → Counts → ℕ
restoring_of w c = 1 + (blobs_of w c + c.lost)

abbrev pub checks_of : World → Counts → ℕ
checks_of w c = (c.commands + (2 * c.looks + c.draws)) * blobs_of w c

abbrev pub most_by : World → Counts → ℕ
most_by w c =
    (1 + (2 * c.commands + (4 * c.looks + (263 * c.draws + (c.elections + (c.empty + (checks_of w c + (blobs_of w c + c.lost))))))))
    + ((c.work + drops_of w c) + (ops_of w c (deleting_of w c) + (c.restores * suc (restoring_of w c) + w.next_ticket)))
