-- A search among the forms of commands.
use Rattle.std.proofs.Common.{◌≡◌, ℕ, List, map, drop}
use Rattle.std.specs.Prelude.{bytes_eq, find}
use Rattle.job_text.specs.Forms.{forms, seen_form}
use Rattle.job_text.specs.declared.form.Form.{Form}

-- the forms from a place on have the first of that name
abbrev pub Ahead : List Form → ℕ → List ℕ → Type 0
Ahead fs i text = find (λ form. bytes_eq form.name text) (map seen_form (drop i fs)) ≡ find (λ form. bytes_eq form.name text) forms
