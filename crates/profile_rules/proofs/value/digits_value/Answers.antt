use Rattle.std.proofs.Common.{arith}
use Rattle.profile_rules.proofs.Digits.{few_digits}
use Rattle.profile_rules.proofs.value.digits_value.Goals as goal

pub overflow_mul-n : goal.overflow_mul-n
overflow_mul-n c = omega (arith, few_digits c.loop-c.n c.loop-c.c-index (omega (arith, c.loop-c.invariant.few)) c.loop-c.invariant.small)

pub overflow_add-n : goal.overflow_add-n
overflow_add-n c =
    omega (arith, few_digits c.loop-c.n c.loop-c.c-index (omega (arith, c.loop-c.invariant.few)) c.loop-c.invariant.small, c.from.ensures, c.type_inv.text c.loop-c.c-index)
