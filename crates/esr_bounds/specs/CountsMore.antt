-- More of any of the numbers that a history asks for is never a shorter bound.
use Rattle.std.proofs.Common.{ℕ, suc, ◌+◌, ◌*◌, ◌≤◌, length, arith}
use Rattle.std.proofs.Math.Nat.{mul-le-mul, mul-le-mul_left, mul-le-mul_right}
use Rattle.std.specs.FinMap as fin
use Rattle.esr_core.specs.World.{World}
use Rattle.esr_bounds.specs.Most.{most_of_drop}
use Rattle.esr_bounds.specs.Clients.{most_tests}
use Rattle.esr_bounds.specs.Others.{generation_names}
use Rattle.esr_bounds.specs.Counts.{Counts, shards_of, drops_of, ops_of, blobs_of, deleting_of, restoring_of, checks_of, most_by}

pub record IsWithin (a b : Counts) : Type 0 where
  pub commands : a.commands ≤ b.commands
  pub looks : a.looks ≤ b.looks
  pub draws : a.draws ≤ b.draws
  pub elections : a.elections ≤ b.elections
  pub empty : a.empty ≤ b.empty
  pub lost : a.lost ≤ b.lost
  pub asks : a.asks ≤ b.asks
  pub restores : a.restores ≤ b.restores
  pub shards : a.shards ≤ b.shards
  pub work : a.work ≤ b.work

up : (n m : ℕ) → n ≤ m → suc n ≤ suc m
up n m p = let less : n ≤ m = p in omega (arith, less)

same : (n : ℕ) → n ≤ n
same n = omega arith

besides : (k n m : ℕ) → n ≤ m → k + n ≤ k + m
besides k n m p = let less : n ≤ m = p in omega (arith, less)

sum_blobs : (g p q x y u v i j r s k : ℕ) → p ≤ q → x ≤ y → u ≤ v → i ≤ j → r ≤ s → g + (p + ((x + u) + (i + (r + k)))) ≤ g + (q + ((y + v) + (j + (s + k))))
sum_blobs g p q x y u v i j r s k one two three four five =
    let tests : p ≤ q = one in
    let work : x ≤ y = two in
    let drops : u ≤ v = three in
    let ops : i ≤ j = four in
    let restores : r ≤ s = five in
    omega (arith, tests, work, drops, ops, restores)

sum_deleting : (a b c d : ℕ) → a ≤ b → c ≤ d → 15 + (3 * a + 2 * c) ≤ 15 + (3 * b + 2 * d)
sum_deleting a b c d p q = let shards : a ≤ b = p in let blobs : c ≤ d = q in omega (arith, shards, blobs)

sum_restoring : (a b c d : ℕ) → a ≤ b → c ≤ d → suc (1 + (a + c)) ≤ suc (1 + (b + d))
sum_restoring a b c d p q = let blobs : a ≤ b = p in let lost : c ≤ d = q in omega (arith, blobs, lost)

sum_anew : (a b c d e f : ℕ) → a ≤ b → c ≤ d → e ≤ f → a + (2 * c + e) ≤ b + (2 * d + f)
sum_anew a b c d e f p q r = let commands : a ≤ b = p in let looks : c ≤ d = q in let draws : e ≤ f = r in omega (arith, commands, looks, draws)

sum_client : (c z l m d n e o t p x y b v s w : ℕ) → c ≤ z → l ≤ m → d ≤ n → e ≤ o → t ≤ p → x ≤ y → b ≤ v → s ≤ w
    → 1 + (2 * c + (4 * l + (263 * d + (e + (t + (x + (b + s))))))) ≤ 1 + (2 * z + (4 * m + (263 * n + (o + (p + (y + (v + w)))))))
sum_client c z l m d n e o t p x y b v s w one two three four five six seven eight =
    let commands : c ≤ z = one in
    let looks : l ≤ m = two in
    let draws : d ≤ n = three in
    let elections : e ≤ o = four in
    let empty : t ≤ p = five in
    let checks : x ≤ y = six in
    let blobs : b ≤ v = seven in
    let lost : s ≤ w = eight in
    omega (arith, commands, looks, draws, elections, empty, checks, blobs, lost)

sum_all : (a b x y u v i j r s k : ℕ) → a ≤ b → x ≤ y → u ≤ v → i ≤ j → r ≤ s → a + ((x + u) + (i + (r + k))) ≤ b + ((y + v) + (j + (s + k)))
sum_all a b x y u v i j r s k one two three four five =
    let client : a ≤ b = one in
    let work : x ≤ y = two in
    let drops : u ≤ v = three in
    let ops : i ≤ j = four in
    let restores : r ≤ s = five in
    omega (arith, client, work, drops, ops, restores)

module _ (w : World) (a b : Counts) (h : IsWithin a b) where
  shards_more : shards_of w a ≤ shards_of w b
  shards_more = besides (length (generation_names w.root.indices)) a.shards b.shards h.shards

  terms_more : (n m : ℕ) → n ≤ m → suc a.elections * suc n ≤ suc b.elections * suc m
  terms_more n m p = mul-le-mul (up a.elections b.elections h.elections) (up n m p)

  drops_more : drops_of w a ≤ drops_of w b
  drops_more = mul-le-mul_left w.next_op (terms_more most_of_drop most_of_drop (same most_of_drop))

  ops_more : (n m : ℕ) → n ≤ m → ops_of w a n ≤ ops_of w b m
  ops_more n m p = mul-le-mul (besides w.next_op a.asks b.asks h.asks) (terms_more n m p)

  blobs_more : blobs_of w a ≤ blobs_of w b
  blobs_more =
      sum_blobs (length (fin.entries w.blobs)) (most_tests * a.draws) (most_tests * b.draws) a.work b.work (drops_of w a) (drops_of w b) (ops_of w a (2 + shards_of w a)) (ops_of w b (2 + shards_of w b))
      (a.restores * 1) (b.restores * 1) w.next_ticket (mul-le-mul_left most_tests h.draws) h.work drops_more (ops_more (2 + shards_of w a) (2 + shards_of w b) (besides 2 (shards_of w a) (shards_of w b) shards_more))
      (mul-le-mul_right 1 h.restores)

  deleting_more : deleting_of w a ≤ deleting_of w b
  deleting_more = sum_deleting (shards_of w a) (shards_of w b) (blobs_of w a) (blobs_of w b) shards_more blobs_more

  checks_more : checks_of w a ≤ checks_of w b
  checks_more = mul-le-mul (sum_anew a.commands b.commands a.looks b.looks a.draws b.draws h.commands h.looks h.draws) blobs_more

  client_more : 1 + (2 * a.commands + (4 * a.looks + (263 * a.draws + (a.elections + (a.empty + (checks_of w a + (blobs_of w a + a.lost)))))))
      ≤ 1 + (2 * b.commands + (4 * b.looks + (263 * b.draws + (b.elections + (b.empty + (checks_of w b + (blobs_of w b + b.lost)))))))
  client_more =
      sum_client a.commands b.commands a.looks b.looks a.draws b.draws a.elections b.elections a.empty b.empty (checks_of w a) (checks_of w b) (blobs_of w a) (blobs_of w b) a.lost b.lost
      h.commands h.looks h.draws h.elections h.empty checks_more blobs_more h.lost

  pub most_more : most_by w a ≤ most_by w b
  most_more =
      sum_all (1 + (2 * a.commands + (4 * a.looks + (263 * a.draws + (a.elections + (a.empty + (checks_of w a + (blobs_of w a + a.lost))))))))
      (1 + (2 * b.commands + (4 * b.looks + (263 * b.draws + (b.elections + (b.empty + (checks_of w b + (blobs_of w b + b.lost)))))))) a.work b.work (drops_of w a) (drops_of w b)
      (ops_of w a (deleting_of w a)) (ops_of w b (deleting_of w b)) (a.restores * suc (restoring_of w a)) (b.restores * suc (restoring_of w b)) w.next_ticket
      client_more h.work drops_more (ops_more (deleting_of w a) (deleting_of w b) deleting_more) (mul-le-mul h.restores (sum_restoring (blobs_of w a) (blobs_of w b) a.lost b.lost blobs_more h.lost))
