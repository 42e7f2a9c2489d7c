-- What a container shows to proofs.
use Rattle.std.specs.Prelude.{ℕ, Option}
use Rattle.esr_depot.specs.Image.{Image}

-- a container over time
pub record Look : Type 1 where
  -- the moment: it rises by one with each call that doesn't want memory, up to the last value of a u64
  pub clock : ℕ
  -- what it holds at a moment, as it reads, where it tells; the present moment is that of the clock
  pub at : ℕ → Option Image
  -- what a crash at some moment from that one on might have left, during a call or between two
  pub since : ℕ → Image → Type 0
  -- how many calls it is sure to serve without a failure, its own or of the stages and fetches that they give
  pub sure : ℕ

-- what it holds now
abbrev pub now : Look → Option Image
now l = l.at l.clock
