-- What the writer of one form answers: the form's bytes, and zeros after them.
use Rattle.std.specs.Prelude.{◌≡◌, ◌-◌, ℕ, take, drop, replicate}
use Rattle.cil_base.specs.Number.{Form, written}
use Rattle.cil_base.specs.declared.compressed.Compressed.{Compressed}

pub record IsForm (form : Form) (n : ℕ) (c : Compressed) : Type 0 where
  pub width : c.len ≡ form.width
  pub front : take c.len c.bytes ≡ written form n
  pub rest : drop c.len c.bytes ≡ replicate (4 - c.len) 0
