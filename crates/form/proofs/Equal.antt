-- Any two answers that a contract of this crate allows are equal: each is an equation for the answer.
-- Assumes nothing.
use mathlib.Core.Path.{◌≡◌, sym, ◌∙◌}
use mathlib.Core.Bool.{Bool}
use mathlib.Core.List.{List}
use Prim.Native.Nat.{ℕ}
use Rattle.form.specs.Form.{good_size, form_of}
use Rattle.form.specs.declared.good.Form.{Form}

-- `good::is_size`
pub is-size-equal : (n : ℕ) (a b : Bool) → a ≡ good_size n → b ≡ good_size n → a ≡ b
is-size-equal n a b p q = p ∙ sym q

-- `good::form_of`
pub form-of-equal : (s : List ℕ) (a b : Form) → a ≡ form_of s → b ≡ form_of s → a ≡ b
form-of-equal s a b p q = p ∙ sym q
