use Rattle.std.proofs.Common.{◌≡◌, ◌∙◌, ℕ, Bool, List, ◌++◌, sym, arith, rules}
use Rattle.std.specs.Prelude.{Ok, Err}
use Rattle.pe_image.specs.Places.{first_refusal}
use Rattle.pe_image.specs.Headers.{header_conditions, headers_of, is_plus, magic_conditions, pe_signature, room_conditions, signature_conditions}
use Rattle.pe_image.specs.declared.refusal.PeRefusal.{PeRefusal}
use Rattle.pe_image.proofs.Firsts.{first-ok, first-past, first-stops}
use Rattle.pe_image.proofs.headers.read_headers.Goals as goal

signature_stops : (b : List ℕ) (e : PeRefusal) → first_refusal (signature_conditions b) (pe_signature b) ≡ Err e → first_refusal (header_conditions b) (headers_of b) ≡ Err e
unfolding header_conditions
signature_stops b e h = first-stops (signature_conditions b) (magic_conditions b ++ room_conditions b) (pe_signature b) e (headers_of b) h

past_signature : (b : List ℕ) (s : ℕ) → first_refusal (signature_conditions b) (pe_signature b) ≡ Ok s → first_refusal (header_conditions b) (headers_of b) ≡ first_refusal (magic_conditions b ++ room_conditions b) (headers_of b)
unfolding header_conditions
past_signature b s h = first-past (signature_conditions b) (magic_conditions b ++ room_conditions b) (pe_signature b) s (headers_of b) h

magic_stops : (b : List ℕ) (s : ℕ) (e : PeRefusal) → first_refusal (signature_conditions b) (pe_signature b) ≡ Ok s → first_refusal (magic_conditions b) (is_plus b) ≡ Err e → first_refusal (header_conditions b) (headers_of b) ≡ Err e
magic_stops b s e h k = past_signature b s h ∙ first-stops (magic_conditions b) (room_conditions b) (is_plus b) e (headers_of b) k

past_magic : (b : List ℕ) (s : ℕ) (p : Bool) → first_refusal (signature_conditions b) (pe_signature b) ≡ Ok s → first_refusal (magic_conditions b) (is_plus b) ≡ Ok p → first_refusal (header_conditions b) (headers_of b) ≡ first_refusal (room_conditions b) (headers_of b)
past_magic b s p h k = past_signature b s h ∙ first-past (magic_conditions b) (room_conditions b) (is_plus b) p (headers_of b) k

pub returns-in_err-signature-clause-read : goal.returns-in_err-signature-clause-read
returns-in_err-signature-clause-read c =
    let stopped = signature_stops c.args.file.now c.in_err-signature.field-0.0 (sym c.in_err-signature.ensures.read) in
    search rules

pub read_magic-requires-clause-there : goal.read_magic-requires-clause-there
read_magic-requires-clause-there c =
    let b = c.args.file.now in
    let same = first-ok (signature_conditions b) (pe_signature b) c.in_ok-signature.signature (sym c.in_ok-signature.ensures.read) in
    omega (arith, same)

pub returns-in_err-plus-clause-read : goal.returns-in_err-plus-clause-read
returns-in_err-plus-clause-read c =
    let stopped = magic_stops c.args.file.now c.in_ok-signature.signature c.in_err-plus.field-0.0 (sym c.in_ok-signature.ensures.read) (sym c.in_err-plus.ensures) in
    search rules

pub read_room-requires-clause-signature : goal.read_room-requires-clause-signature
read_room-requires-clause-signature c =
    let b = c.args.file.now in
    first-ok (signature_conditions b) (pe_signature b) c.in_ok-signature.signature (sym c.in_ok-signature.ensures.read)

pub read_room-requires-clause-plus : goal.read_room-requires-clause-plus
read_room-requires-clause-plus c =
    let b = c.args.file.now in
    first-ok (magic_conditions b) (is_plus b) c.in_ok-plus.plus (sym c.in_ok-plus.ensures)

pub returns-clause-read : goal.returns-clause-read
returns-clause-read c =
    c.read_room.ensures.read ∙ sym (past_magic c.args.file.now c.in_ok-signature.signature c.in_ok-plus.plus (sym c.in_ok-signature.ensures.read) (sym c.in_ok-plus.ensures))
