-- Rows and links.
use Rattle.std.proofs.Common.{◌≡◌, ℕ, ◌+◌, ◌-◌, ◌≤◌, Bool, true, false, cond, List, [], ◌∷◌, ◌++◌, Option, Some, None, refl, sym, ap, ◌∙◌, arith}
use Rattle.std.specs.List.{filter}
use Rattle.std.proofs.lemmas.List.{append-nil}
use Rattle.std.proofs.lemmas.List.FromFn.{filter_of_map_range_with_len_more}
use Rattle.md_schema.specs.Layout.{Head, OpensTables}
use Rattle.md_schema.specs.LinkedRows.{is_linked, rows_to}
use Rattle.md_schema.specs.Runs.{table_row_count}
use Rattle.md_schema.specs.Width.{rows_of}
use Rattle.cil_base.specs.Token.{Token}
use Rattle.std.specs.Option.{IsSome, option_map, option_map_or}
use Rattle.md_schema.proofs.LinkLemmas.{link_stands}
use Rattle.md_schema.specs.Column.{ColumnOf}
use Rattle.md_schema.specs.Entry.{column_of}
use Rattle.md_schema.specs.Cell.{cell_of}
use Rattle.md_schema.specs.Link.{link_column_of, link_kind_of, link_table_of}
use Rattle.md_schema.specs.Reference.{is_named}
use Rattle.md_schema.specs.declared.column.ColumnKind.{ColumnKind}
use Rattle.md_schema.specs.declared.link.Link.{Link}

pub table_row_count-is : (stream : List ℕ) (head : Head) (table : ℕ) → OpensTables stream head → rows_of head.counts table ≡ table_row_count stream table
table_row_count-is stream head table o = ap (λ (h : Head). rows_of h.counts table) o.seen

pub rows_to-none : (p : Token → Bool) (table : ℕ) → filter p (rows_to table 0) ≡ []
unfolding rows_to
rows_to-none p table = refl

pub rows_to-more : (p : Token → Bool) (table n : ℕ) →
    filter p (rows_to table (n + 1)) ≡ filter p (rows_to table n) ++ cond (p (record { table = table; rid = n + 1 })) (record { table = table; rid = n + 1 } ∷ []) []
unfolding rows_to
rows_to-more p table n = filter_of_map_range_with_len_more p (λ rid. record { table = table; rid = rid }) 1 n (n + 1) (omega arith)

-- one more row
linked-next : (p : Token → Bool) (table rid : ℕ) → 1 ≤ rid →
    filter p (rows_to table (rid + 1 - 1)) ≡ filter p (rows_to table (rid - 1)) ++ cond (p (record { table = table; rid = rid })) (record { table = table; rid = rid } ∷ []) []
linked-next p table rid h =
    let here : rid + 1 - 1 ≡ rid - 1 + 1 = omega arith in
    let same : rid - 1 + 1 ≡ rid = omega arith in
    ap (λ n. filter p (rows_to table n)) here ∙ rows_to-more p table (rid - 1)
    ∙ ap (λ n. filter p (rows_to table (rid - 1)) ++ cond (p (record { table = table; rid = n })) (record { table = table; rid = n } ∷ []) []) same

pub linked-yes : (p : Token → Bool) (table rid : ℕ) (rows new : List Token) → 1 ≤ rid → rows ≡ filter p (rows_to table (rid - 1)) → p (record { table = table; rid = rid }) ≡ true →
    new ≡ rows ++ record { table = table; rid = rid } ∷ [] → new ≡ filter p (rows_to table (rid + 1 - 1))
linked-yes p table rid rows new h so_far it_is e =
    e ∙ ap (λ r. r ++ record { table = table; rid = rid } ∷ []) so_far
    ∙ ap (λ b. filter p (rows_to table (rid - 1)) ++ cond b (record { table = table; rid = rid } ∷ []) []) (sym it_is)
    ∙ sym (linked-next p table rid h)

pub linked-no : (p : Token → Bool) (table rid : ℕ) (rows new : List Token) → 1 ≤ rid → rows ≡ filter p (rows_to table (rid - 1)) → p (record { table = table; rid = rid }) ≡ false →
    new ≡ rows → new ≡ filter p (rows_to table (rid + 1 - 1))
linked-no p table rid rows new h so_far it_is e =
    e ∙ so_far ∙ sym (append-nil (filter p (rows_to table (rid - 1))))
    ∙ ap (λ b. filter p (rows_to table (rid - 1)) ++ cond b (record { table = table; rid = rid } ∷ []) []) (sym it_is)
    ∙ sym (linked-next p table rid h)

some_mapped : {A B : Type 0} (f : A → B) (o : Option A) (y : B) → option_map f o ≡ Some y → IsSome o
some_mapped f None y h = absurd (cc)
some_mapped f (Some x) y h = refl

-- the column of a link stands in its table
pub link_column-stands : (link : Link) → IsSome (column_of (link_table_of link) (link_column_of link))
link_column-stands link =
    let stands = link_stands link in
    some_mapped (λ (column : ColumnOf). column.kind) (column_of (link_table_of link) (link_column_of link)) stands.0 stands.1

-- a row is linked to a token exactly where the number in its column decodes to it
pub linked-test : (stream : List ℕ) (token : Token) (link : Link) (kind : ColumnKind) (rid number : ℕ) → link_kind_of link ≡ Some kind
    → number ≡ cell_of stream (link_table_of link) rid (link_column_of link)
    → is_linked stream token link (record { table = link_table_of link; rid = rid }) ≡ is_named kind number token
unfolding is_linked
linked-test stream token link kind rid number is read =
    let cell = cell_of stream (link_table_of link) rid (link_column_of link) in
    ap (λ (o : Option ColumnKind). option_map_or (λ k. is_named k cell token) o false) is ∙ ap (λ (n : ℕ). is_named kind n token) (sym read)
