-- The commands as data: the name of each, and what its arguments are, in order.
use Rattle.std.specs.Prelude.{ℕ, List, [], ◌∷◌, ◌++◌, Option, bytes_eq, codes, find}
use Rattle.job_text.specs.declared.form.ArgumentKind.{ArgumentKind}
use Rattle.job_text.specs.declared.form.ArgumentKind.TheVariants as kinds
use Rattle.job_text.specs.declared.form.Form.{Form}
use Rattle.job_text.specs.declared.word.Change.TheVariants as changes
use Rattle.job_text.specs.declared.word.Question.TheVariants as questions
use Rattle.job_text.specs.declared.word.Word.{Word}
use Rattle.job_text.specs.declared.word.Word.TheVariants as words

pub record FormOf : Type 0 where
  pub name : List ℕ
  pub word : Word
  pub kinds : List ArgumentKind

-- the form of a command on a module
abbrev form : List ℕ → Word → List ArgumentKind → FormOf
form name word rest = record { name = name; word = word; kinds = kinds.Module ∷ rest }

-- the same on a row of the module
abbrev row_form : List ℕ → Word → List ArgumentKind → FormOf
row_form name word rest = form name word (kinds.Token ∷ rest)

abbrev handler_ends : List ArgumentKind
handler_ends = kinds.TryStart ∷ kinds.TryEnd ∷ kinds.HandlerStart ∷ kinds.HandlerEnd ∷ []

unfoldable pub forms : List FormOf
forms =
    row_form (codes "row") (words.Ask questions.Row) []
    ∷ row_form (codes "sig") (words.Ask questions.Sig) []
    ∷ row_form (codes "body") (words.Ask questions.Body) []
    ∷ row_form (codes "data") (words.Ask questions.Data) []
    ∷ row_form (codes "resource") (words.Ask questions.Resource) []
    ∷ form (codes "facts") (words.Ask questions.Facts) []
    ∷ form (codes "filled") (words.Ask questions.Filled) []
    ∷ row_form (codes "members") (words.Ask questions.Members) (kinds.Table ∷ [])
    ∷ row_form (codes "links") (words.Ask questions.Links) (kinds.Link ∷ [])
    ∷ row_form (codes "name") (words.Ask questions.Name) []
    ∷ row_form (codes "type") (words.Ask questions.TypeInfo) []
    ∷ row_form (codes "method") (words.Ask questions.Method) []
    ∷ form (codes "findtype") (words.Ask questions.FindType) (kinds.Namespace ∷ kinds.Name ∷ [])
    ∷ row_form (codes "findmember") (words.Ask questions.FindMember) (kinds.MemberTable ∷ kinds.Name ∷ kinds.TextOrNull ∷ [])
    ∷ row_form (codes "set") (words.Change changes.Set) (kinds.Column ∷ kinds.Cell ∷ [])
    ∷ row_form (codes "setsig") (words.Change changes.SetSig) (kinds.Sig ∷ [])
    ∷ row_form (codes "ilnew") (words.Change changes.IlNew) []
    ∷ row_form (codes "ildrop") (words.Change changes.IlDrop) []
    ∷ row_form (codes "setdata") (words.Change changes.SetData) (kinds.Bytes ∷ [])
    ∷ row_form (codes "setresource") (words.Change changes.SetResource) (kinds.Bytes ∷ [])
    ∷ row_form (codes "entry") (words.Change changes.SetEntry) []
    ∷ form (codes "add") (words.Change changes.Add) (kinds.Table ∷ kinds.Cells ∷ kinds.SigOrNull ∷ [])
    ∷ row_form (codes "insert") (words.Change changes.Insert) (kinds.Table ∷ kinds.At ∷ kinds.Cells ∷ kinds.SigOrNull ∷ [])
    ∷ form (codes "remove") (words.Change changes.Remove) (kinds.Owner ∷ kinds.Token ∷ [])
    ∷ row_form (codes "ilinsert") (words.Change changes.IlInsert) (kinds.At ∷ kinds.Code ∷ kinds.Operand ∷ [])
    ∷ row_form (codes "ilreplace") (words.Change changes.IlReplace) (kinds.At ∷ kinds.Code ∷ kinds.Operand ∷ [])
    ∷ row_form (codes "ilremove") (words.Change changes.IlRemove) (kinds.At ∷ [])
    ∷ row_form (codes "ilhead") (words.Change changes.IlHead) (kinds.MaxStack ∷ kinds.InitLocals ∷ kinds.Locals ∷ [])
    ∷ row_form (codes "iltry") (words.Change changes.AddHandler) (kinds.HandlerKind ∷ handler_ends ++ kinds.HandlerWith ∷ [])
    ∷ row_form (codes "iluntry") (words.Change changes.RemoveHandler) (kinds.At ∷ [])
    ∷ row_form (codes "resolve") words.Resolve []
    ∷ row_form (codes "attribute") words.Attribute []
    ∷ []

-- a form of the code, as it is here
abbrev pub seen_form : Form → FormOf
seen_form f = record { name = f.name.now; word = f.word; kinds = f.kinds.now }

-- the form of that name
unfoldable pub form_named : List ℕ → Option FormOf
form_named text = find (λ form. bytes_eq form.name text) forms
