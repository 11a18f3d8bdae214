-- `s2xv2_writer::parts::put_core` meets its contract: five runs of stores that meet are one, and their bytes are those that the table packs.
-- Assumes nothing.
use mathlib.Core.Path.{refl}
use Rattle.wire.proofs.Stores.{run}
use Rattle.s2xv2_writer.proofs.parts.put_core.Goals as goal

pub returns : goal.returns
returns c =
    let e₁ = rw c.be_bytes.ensures at c.copy.ensures in
    let e₂ = rw c.flag_bytes-flags.ensures at c.copy-2.ensures in
    let e₃ = rw c.be_bytes_24.ensures at c.copy-3.ensures in
    let e₄ = rw c.be_bytes-2.ensures at c.copy-4.ensures in
    let e₅ = rw c.be_bytes-3.ensures at c.copy-5.ensures in
    run _ _ _ _ _ e₁ (run _ _ _ _ _ e₂ (run _ _ _ _ _ e₃ (run _ _ _ _ _ e₄ e₅ refl) refl) refl) refl
