-- What a key holds in the file is of its own kind, or a fault that names it.
use Rattle.std.proofs.Common.{◌≡◌, refl, ℕ, Bool, true, false, List}
use Rattle.std.specs.Prelude.{Option, Some, None, Result, Ok, Err, ◌==◌, bit_and, codes, if◌then◌else◌}
use Rattle.cil_base.specs.Token.{Token}
use Rattle.il_code.specs.Body.{Body as BodyOf}
use Rattle.il_code.specs.Decoded.{body_at}
use Rattle.pe_image.specs.Sections.{bytes_from}
use Rattle.sig_tree.specs.declared.tree.SigTree.{SigTree}
use Rattle.node_model.specs.Bodies.{body_slot, read_body}
use Rattle.node_model.specs.Data.{data_slot, read_data}
use Rattle.node_model.specs.Immediate.{read}
use Rattle.node_model.specs.Lists.{read_linked, read_owned, run_slot, tokens_slot}
use Rattle.node_model.specs.Resources.{read_resource, resource_slot}
use Rattle.node_model.specs.Rows.{read_row, row_slot}
use Rattle.node_model.specs.Signatures.{read_sig, sig_slot}
use Rattle.node_model.specs.Streams.{ImageStreams, image_streams, number_of_column}
use Rattle.node_model.specs.Walk.{part}
use Rattle.node_model.specs.declared.key.Key.{Key}
use Rattle.node_model.specs.declared.key.Key.TheVariants as keys
use Rattle.node_model.specs.declared.slot.Fault.{Fault}
use Rattle.node_model.specs.declared.slot.FaultKind.{FaultKind}
use Rattle.node_model.specs.declared.slot.Slot.{Slot}
use Rattle.node_model.specs.declared.slot.Slot.TheVariants as slots
use Rattle.node_model.specs.declared.value.BodyValue.TheVariants.{NoBody, Native}
use Rattle.node_model.specs.declared.value.ResourceValue.{ResourceValue}
use Rattle.node_model.specs.declared.value.Value.{Value}
use Rattle.node_model.specs.declared.value.Value.TheVariants as values
use Rattle.node_model.specs.declared.walk.Halt.{Halt}
use Rattle.node_model.specs.declared.walk.Halt.TheVariants.{Lacks, Faulty}
use Rattle.node_model.proofs.WalkLemmas.{part_fault}

-- something is held, or a fault
abbrev pub is_whole : {A : Type 0} → Result A Halt → Bool
is_whole (Ok a) = true
is_whole (Err (Faulty fault)) = true
is_whole (Err (Lacks k)) = false

pub record IsOwn (k : Key) (s : Slot) : Type 0 where
  pub fits : is_whole (part k (Some s)) ≡ true
  pub named : (f : Fault) → s ≡ slots.Fault f → f.key ≡ k

own_value : (k : Key) (v : Value) → is_whole (part k (Some (slots.Value v))) ≡ true → IsOwn k (slots.Value v)
own_value k v h = record { fits = h; named = λ f e. absurd cc }

own_fault : (k : Key) (kind : FaultKind) (column : ℕ) → IsOwn k (slots.Fault (record { key = k; kind = kind; column = column }))
own_fault k kind column = record { fits = rw (part_fault k (record { key = k; kind = kind; column = column })) refl; named = λ f e. cc }

own_row : (s : ImageStreams) (t : Token) (o : Option ℕ) → IsOwn (keys.Row t) (row_slot s t o)
own_row s t None = own_value _ _ refl
own_row s t (Some column) = own_fault _ _ _

own_sig : (t : Token) (o : Option SigTree) → IsOwn (keys.Sig t) (sig_slot t o)
own_sig t (Some sig) = own_value _ _ refl
own_sig t None = own_fault _ _ _

own_run : (t : Token) (n : ℕ) (o : Option (ℕ × ℕ)) → IsOwn (keys.Owned t n) (run_slot t n o)
own_run t n (Some run) = own_value _ _ refl
own_run t n None = own_fault _ _ _

own_list : (t : Token) (n : ℕ) (all : List Token) (o : Option (ℕ × ℕ)) (x : Bool) → IsOwn (keys.Owned t n) (if x then tokens_slot all else run_slot t n o)
own_list t n all o true = own_value _ _ refl
own_list t n all o false = own_run t n o

own_il : (t : Token) (o : Option BodyOf) → IsOwn (keys.Body t) (body_slot t o)
own_il t (Some body) = own_value _ _ refl
own_il t None = own_fault _ _ _

own_body : (t : Token) (rva : ℕ) (o : Option BodyOf) (x y : Bool)
    → IsOwn (keys.Body t) (if x then slots.Value (values.Body NoBody) else (if y then body_slot t o else slots.Value (values.Body (Native rva))))
own_body t rva o true y = own_value _ _ refl
own_body t rva o false true = own_il t o
own_body t rva o false false = own_value _ _ refl

own_read_body : (s : ImageStreams) (b : List ℕ) (t : Token) → IsOwn (keys.Body t) (read_body s b t)
unfolding read_body
own_read_body s b t =
    let rva = number_of_column s t (codes "RVA") in
    own_body t rva (body_at (bytes_from b rva) s.users) (rva == 0) (bit_and (number_of_column s t (codes "ImplFlags")) 3 == 0)

own_data : (t : Token) (o : Option (List ℕ)) → IsOwn (keys.Data t) (data_slot t o)
own_data t (Some bytes) = own_value _ _ refl
own_data t None = own_fault _ _ _

own_resource : (t : Token) (o : Option ResourceValue) → IsOwn (keys.Resource t) (resource_slot t o)
own_resource t (Some value) = own_value _ _ refl
own_resource t None = own_fault _ _ _

pub own_read : (b : List ℕ) (k : Key) → IsOwn k (read b k)
unfolding read_row read_sig read_owned read_linked read_data read_resource
own_read b (keys.Row t) = own_row (image_streams b) t _
own_read b (keys.Sig t) = own_sig t _
own_read b (keys.Owned t n) = own_list t n _ _ _
own_read b (keys.Linked t l) = own_value _ _ refl
own_read b (keys.Body t) = own_read_body (image_streams b) b t
own_read b (keys.Data t) = own_data t _
own_read b (keys.Resource t) = own_resource t _
own_read b keys.Facts = own_value _ _ refl
