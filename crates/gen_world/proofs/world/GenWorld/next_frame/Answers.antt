use Rattle.std.proofs.Common.{◌<◌, subst, arith}
use Rattle.std.specs.Prelude.{IfSome}
use Rattle.gen_world.specs.Draws.{frame_count}
use Rattle.gen_world.proofs.FrameList.{count_few}
use Rattle.gen_world.proofs.world.GenWorld.next_frame.Goals as goal

pub overflow_add-self : goal.overflow_add-self
overflow_add-self c =
    let few = count_few c.self.inside.counts c.self.invariant.1 in
    let within = subst (λ found. IfSome found (λ _. c.self.inside.given < frame_count c.self.inside.counts)) c.in-Some.is (c.in_ok-frame_at.ensures {u = tt}).within in
    omega (arith, few, within)
