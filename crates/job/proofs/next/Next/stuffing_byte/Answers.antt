-- `job::next::Next::stuffing_byte` meets its contract: each return has the law of a stuffing descriptor for its place.
-- Assumes nothing.
use mathlib.Core.Path.{◌≡◌, sym, ◌∙◌}
use Prim.Native.Nat.{◌-◌}
use native.Mathlib.Omega.{arith}
use Rattle.form.proofs.Stuffing.{stuffing-tag, stuffing-size, stuffing-fill}
use Rattle.job.proofs.Places.{numbers}
use Rattle.job.proofs.next.Next.stuffing_byte.Goals as goal

pub returns-then-self : goal.returns-then-self
returns-then-self c = let e = numbers c.self.view_is in sym (stuffing-fill _ _ (omega arith) (omega arith))

pub returns-then-self-2 : goal.returns-then-self-2
returns-then-self-2 c = let e = numbers c.self.view_is in sym (stuffing-tag _ _ (omega arith) (omega arith))

pub returns : goal.returns
returns c =
    let e = numbers c.self.view_is in
    let n = c.args.self.now in
    let h : c.self.inside.n - c.self.inside.d - 2 ≡ n.slot_size - n.descriptor_size - 2 = omega arith in
    h ∙ sym (stuffing-size _ _ (omega arith) (omega arith))
