use Rattle.std.proofs.Common.{rules, arith, ◌≡◌, length}
use Rattle.work_topology.specs.Lane.{scene}
use Rattle.work_topology.proofs.Runs.{ready_all, ran_all, still_together}
use Rattle.work_topology.proofs.together.run_all.Goals as goal

pub deal-requires-clause-some : goal.deal-requires-clause-some
deal-requires-clause-some g c =
    let may = c.requires.may in let same = may.same in let filled = may.some_lane in omega arith

pub deal-requires-clause-few : goal.deal-requires-clause-few
deal-requires-clause-few g c =
    let may = c.requires.may in let same = may.same in let few = may.few_lanes in
    let starts : length c.args.starts.items ≡ c.args.starts.len = search rules in omega arith

pub deal-requires-clause-room : goal.deal-requires-clause-room
deal-requires-clause-room g c =
    let may = c.requires.may in let same = may.same in
    let starts : length c.args.starts.items ≡ c.args.starts.len = search rules in
    let room = c.requires.posts.1 in omega arith

pub run_lanes-requires-after_bounds : goal.run_lanes-requires-after_bounds
run_lanes-requires-after_bounds g c κs within =
    let s = scene (g.J.PassJob.meaning c.args.crew.now.job.now) g.R.Source.seen g.S.Spill.seen c.args.crew.now.blocks.now c.args.crew.now.desk.now c.args.crew.now.queue.now in
    let laws = (g.met.J.PassJob g.world.𝓛 g.world.𝓜 g.world.𝓡 ((λ s x. x), (λ x. x), (λ x. x), λ x. x)).goes_on c.args.crew.now.job.now in
    ready_all s laws c.args.lanes.now c.args.starts.items c.deal.new.posts.items c.args.crew.now.queue.now.capacity c.requires.may c.deal.ensures

pub gather-requires-clause-some : goal.gather-requires-clause-some
gather-requires-clause-some g c =
    let s = scene (g.J.PassJob.meaning c.args.crew.now.job.now) g.R.Source.seen g.S.Spill.seen c.args.crew.now.blocks.now c.args.crew.now.desk.now c.args.crew.now.queue.now in
    let laws = (g.met.J.PassJob g.world.𝓛 g.world.𝓜 g.world.𝓡 ((λ s x. x), (λ x. x), (λ x. x), λ x. x)).goes_on c.args.crew.now.job.now in
    let may = c.requires.may in
    let ran = ran_all s laws c.args.lanes.now c.args.starts.items c.deal.new.posts.items c.args.crew.now.queue.now.capacity may c.deal.ensures c.run_lanes.new.lanes c.run_lanes.new.posts.items c.run_lanes.ensures in
    let len = ran.posts_len' in let filled = may.some_lane in omega arith

pub gather-requires-clause-together : goal.gather-requires-clause-together
gather-requires-clause-together g c =
    let s = scene (g.J.PassJob.meaning c.args.crew.now.job.now) g.R.Source.seen g.S.Spill.seen c.args.crew.now.blocks.now c.args.crew.now.desk.now c.args.crew.now.queue.now in
    let laws = (g.met.J.PassJob g.world.𝓛 g.world.𝓜 g.world.𝓡 ((λ s x. x), (λ x. x), (λ x. x), λ x. x)).goes_on c.args.crew.now.job.now in
    let may = c.requires.may in
    let ran = ran_all s laws c.args.lanes.now c.args.starts.items c.deal.new.posts.items c.args.crew.now.queue.now.capacity may c.deal.ensures c.run_lanes.new.lanes c.run_lanes.new.posts.items c.run_lanes.ensures in
    still_together s laws c.args.lanes.now c.args.starts.items c.deal.new.posts.items c.args.crew.now.queue.now.capacity may c.deal.ensures c.run_lanes.new.lanes c.run_lanes.new.posts.items ran

pub gather-requires-clause-room : goal.gather-requires-clause-room
gather-requires-clause-room g c =
    let s = scene (g.J.PassJob.meaning c.args.crew.now.job.now) g.R.Source.seen g.S.Spill.seen c.args.crew.now.blocks.now c.args.crew.now.desk.now c.args.crew.now.queue.now in
    let laws = (g.met.J.PassJob g.world.𝓛 g.world.𝓜 g.world.𝓡 ((λ s x. x), (λ x. x), (λ x. x), λ x. x)).goes_on c.args.crew.now.job.now in
    let may = c.requires.may in
    let ran = ran_all s laws c.args.lanes.now c.args.starts.items c.deal.new.posts.items c.args.crew.now.queue.now.capacity may c.deal.ensures c.run_lanes.new.lanes c.run_lanes.new.posts.items c.run_lanes.ensures in
    let len = ran.posts_len' in
    let posts : length c.run_lanes.new.posts.items ≡ c.run_lanes.new.posts.len = search rules in
    let room = c.requires.reports.1 in omega arith

pub returns : goal.returns
returns g c = record { posts = c.deal.new.posts.items; posts' = c.run_lanes.new.posts.items; dealt = c.deal.ensures; ran = c.run_lanes.ensures; gathered = c.gather.ensures }
