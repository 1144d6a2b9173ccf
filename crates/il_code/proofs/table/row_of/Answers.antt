use Rattle.std.proofs.Common.{◌∙◌, ap, sym}
use Rattle.std.specs.Prelude.{option_map}
use Rattle.il_code.specs.inner.Table.{row_seen}
use Rattle.il_code.proofs.TableFacts.{one_byte_row, no_row, two_byte_row}
use Rattle.il_code.proofs.table.row_of.Goals as goal

pub returns-then-code-lt256 : goal.returns-then-code-lt256
returns-then-code-lt256 c = ap (option_map row_seen) c.row_at.ensures ∙ one_byte_row c.rows.result.now c.args.code c.rows.ensures c.if-code-lt256.true

pub returns-then-code-lt-TWO_BYTES : goal.returns-then-code-lt-TWO_BYTES
returns-then-code-lt-TWO_BYTES c = sym (no_row c.args.code c.if-code-lt256.false c.if-code-lt-TWO_BYTES.true)

pub returns-else-code-lt-TWO_BYTES : goal.returns-else-code-lt-TWO_BYTES
returns-else-code-lt-TWO_BYTES c = ap (option_map row_seen) c.row_at-else-code-lt-TWO_BYTES.ensures ∙ two_byte_row c.rows-else-code-lt-TWO_BYTES.result.now c.args.code c.rows-else-code-lt-TWO_BYTES.ensures c.if-code-lt-TWO_BYTES.false
