use Rattle.std.proofs.Common.{◌≡◌, ◌^◌, ◌≤◌, ◌+◌, ◌∙◌, sym, refl, arith}
use Rattle.esr_test_steps.proofs.Sharing.{share_is_new}
use Rattle.esr_test_steps.proofs.both.sit_at.Goals as goal

pub split-most-requires-clause-share : goal.split-most-requires-clause-share
split-most-requires-clause-share g c =
    let few : c.share_of-share.result ≤ 2 ^ 38 = c.share_of-share.ensures in
    let all : c.args.pass.left ≡ 2 ^ 40 = c.requires.all in
    omega (arith, few, all)

pub split-rest-requires-clause-share : goal.split-rest-requires-clause-share
split-rest-requires-clause-share g c =
    let few : c.share_of-share.result ≤ 2 ^ 38 = c.share_of-share.ensures in
    let all : c.args.pass.left ≡ 2 ^ 40 = c.requires.all in
    let most : c.split-most.result.0.left + c.share_of-share.result ≡ c.args.pass.left = c.split-most.ensures.old_turns.0 in
    omega (arith, few, all, most)

pub work_both-one-requires-clause-picked : goal.work_both-one-requires-clause-picked
work_both-one-requires-clause-picked g c = λ lives within. (refl, refl, c.split-rest.ensures.new_turns.0 ∙ sym c.split-most.ensures.new_turns.0)

pub work_both-one-requires-clause-one : goal.work_both-one-requires-clause-one
work_both-one-requires-clause-one g c = λ lives within.
    share_is_new g.Q.Desk.start g.B.Since.before c.args.lock c.args.pass c.split-most.result.1 c.requires.new c.split-most.ensures.own.1 c.split-most.ensures.new_places.0 c.split-most.ensures.new_places.1 c.split-most.ensures.new_turns.1

pub work_both-one-requires-clause-other : goal.work_both-one-requires-clause-other
work_both-one-requires-clause-other g c = λ lives within.
    share_is_new g.Q.Desk.start g.B.Since.before c.args.lock c.args.pass c.split-rest.result.1 c.requires.new c.split-rest.ensures.own.1
    (c.split-rest.ensures.new_places.0 ∙ c.split-most.ensures.old_places.0) c.split-rest.ensures.new_places.1 c.split-rest.ensures.new_turns.1

pub close-sitting-requires-clause-all : goal.close-sitting-requires-clause-all
close-sitting-requires-clause-all g c =
    let share = c.share_of-share.result in
    let all : c.args.pass.left ≡ 2 ^ 40 = c.requires.all in
    let unused : c.args.pass.used ≡ 0 = c.requires.new.unused in
    let most : c.split-most.result.0.left + share ≡ c.args.pass.left = c.split-most.ensures.old_turns.0 in
    let most_used : c.split-most.result.0.used ≡ c.args.pass.used = c.split-most.ensures.old_turns.1 in
    let rest : c.split-rest.result.0.left + share ≡ c.split-most.result.0.left = c.split-rest.ensures.old_turns.0 in
    let rest_used : c.split-rest.result.0.used ≡ c.split-most.result.0.used = c.split-rest.ensures.old_turns.1 in
    let one_all : c.split-most.result.1.left ≡ share = c.split-most.ensures.new_turns.0 in
    let other_all : c.split-rest.result.1.left ≡ share = c.split-rest.ensures.new_turns.0 in
    let one : c.work_both-one.result.0.left + c.work_both-one.result.0.used ≡ c.split-most.result.1.left = c.work_both-one.ensures.turns.0 in
    let other : c.work_both-one.result.1.left + c.work_both-one.result.1.used ≡ c.split-rest.result.1.left = c.work_both-one.ensures.turns.1 in
    let both : c.join-both.result.left ≡ c.work_both-one.result.0.left + c.work_both-one.result.1.left = c.join-both.ensures.turns.0 in
    let both_used : c.join-both.result.used ≡ c.work_both-one.result.0.used + c.work_both-one.result.1.used = c.join-both.ensures.turns.1 in
    let left : c.join-pass.result.left ≡ c.split-rest.result.0.left + c.join-both.result.left = c.join-pass.ensures.turns.0 in
    let used : c.join-pass.result.used ≡ c.split-rest.result.0.used + c.join-both.result.used = c.join-pass.ensures.turns.1 in
    omega (arith, all, unused, most, most_used, rest, rest_used, one_all, other_all, one, other, both, both_used, left, used)
