-- `judge_tail`: 20, then 22.
use native.Mathlib.Omega.{arith}
use Rattle.driver.proofs.Refusing.{size_most}
use Rattle.driver.proofs.state.KernelProcessor.judge_tail.Goals as goal

pub overflow_mul-l : goal.overflow_mul-l
overflow_mul-l c =
    let a = c.args in
    let few = size_most a.self.now.limiter a.frames c.requires c.if-frames-gt65536.false in
    omega (arith, few)
