use Rattle.std.proofs.Common.{◌≡◌, ◌∙◌, ◌++◌, ◌∷◌, [], ◌<◌, ◌≤◌, true, false, length, map, ap, rules, arith}
use Rattle.std.specs.Option.{option_copied}
use Rattle.esr_depot.specs.declared.listing.Listed.{Listed}
use Rattle.esr_depot.specs.Listing.{size_of, is_after}
use Rattle.esr_depot.proofs.Paging.{page_more, page_early, page_full}
use Rattle.esr_depot.proofs.listing.first_after.Goals as goal
use Rattle.esr_depot.proofs.listing.first_after.Goals.{else-len-lt-PAGE-via-then-len-lt-PAGE+else-is_after, else-len-lt-PAGE-via-else-len-lt-PAGE}

pub loop-name-preserved-then-is_after : goal.loop-name-preserved-then-is_after
loop-name-preserved-then-is_after c =
    let l : Listed = record { name = c.in-Some.name; length = c.in-Some.length } in
    let count : c.len.result ≡ length c.loop-name.page = search rules in
    let few : c.len.result < 1000 = c.if-len-lt-PAGE.true in
    let less : length c.loop-name.page < 1000 = omega (arith, few, count) in
    let later : is_after (option_copied c.args.after) c.in-Some.name ≡ true = search rules in
    let pushed : c.push.new.self ≡ c.loop-name.page ++ l ∷ [] = search rules in
    ap (map size_of) pushed ∙ page_more (option_copied c.args.after) c.loop-name.page c.loop-name.yielded c.loop-name.invariant l less later

pub loop-name-preserved : goal.loop-name-preserved
loop-name-preserved c =
    elim c.else-len-lt-PAGE.branch [
      | else-len-lt-PAGE-via-then-len-lt-PAGE+else-is_after w ↦
          let early : is_after (option_copied c.args.after) c.in-Some.name ≡ false = search rules in
          page_early (option_copied c.args.after) c.loop-name.page c.loop-name.yielded c.loop-name.invariant (c.in-Some.name, c.in-Some.length) early
      | else-len-lt-PAGE-via-else-len-lt-PAGE w ↦
          let count : c.len.result ≡ length c.loop-name.page = search rules in
          let many : 1000 ≤ c.len.result = w.if-len-lt-PAGE.false in
          let full : 1000 ≤ length c.loop-name.page = omega (arith, many, count) in
          page_full (option_copied c.args.after) c.loop-name.page c.loop-name.yielded c.loop-name.invariant (c.in-Some.name, c.in-Some.length) full
    ]
