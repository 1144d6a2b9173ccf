use Rattle.std.proofs.Common.{◌≡◌, ◌^◌, ◌<◌, ℕ, List, length, get_or, sym, ap, ◌∙◌, subst}
use Rattle.il_code.specs.Body.{Body}
use Rattle.il_code.specs.BodyBytes.{body_bytes_by}
use Rattle.il_code.specs.Numbering.{places}
use Rattle.il_code.specs.CodePlaces.{CodePlaces, instr_place}
use Rattle.il_code.specs.Refusal.{first_far, refused_by, refusal_of}
use Rattle.il_code.proofs.DecodedLemmas.{spelled-found}
use Rattle.il_write.proofs.LayoutLemmas.{body_bytes_by-is, refusal-is, answers-by}
use Rattle.il_write.proofs.WrittenLemmas.{read-back}
use Rattle.il_write.proofs.encode.encode_body.Goals as goal

pub returns-in-Some-clause-refused : goal.returns-in-Some-clause-refused
returns-in-Some-clause-refused c =
    let ps : c.as_slice-2.result.now ≡ places c.args.body.now.code = c.as_slice-2.ensures ∙ ap (λ (p : CodePlaces). p.starts) c.in_ok-places.ensures ∙ ap places c.as_slice.ensures ∙ ap (λ (b : Body). places b.code) c.body.view_is in
    answers-by c.in-Some.refusal (refusal_of c.args.body.now) (sym (refusal-is c.args.body.now c.requires.sound) ∙ ap (λ q. refused_by (first_far (instr_place q) c.args.body.now.code) (instr_place q (length c.args.body.now.code)) (length c.args.body.now.handlers)) (sym ps) ∙ sym c.refusal.ensures ∙ c.in-Some.is)

pub returns-clause-bytes : goal.returns-clause-bytes
returns-clause-bytes c =
    let ps : c.as_slice-3.result.now ≡ places c.args.body.now.code = c.as_slice-3.ensures ∙ ap (λ (p : CodePlaces). p.starts) c.in_ok-places.ensures ∙ ap places c.as_slice.ensures ∙ ap (λ (b : Body). places b.code) c.body.view_is in
    c.in_ok-bytes.ensures.bytes
    ∙ ap (λ q. body_bytes_by (instr_place q) c.args.body.now c.as_slice-4.result.now) ps
    ∙ ap (λ t. body_bytes_by (instr_place (places c.args.body.now.code)) c.args.body.now t) c.as_slice-4.ensures
    ∙ body_bytes_by-is c.args.body.now c.args.texts.now c.requires.sound

pub returns-clause-refused : goal.returns-clause-refused
returns-clause-refused c =
    let ps : c.as_slice-2.result.now ≡ places c.args.body.now.code = c.as_slice-2.ensures ∙ ap (λ (p : CodePlaces). p.starts) c.in_ok-places.ensures ∙ ap places c.as_slice.ensures ∙ ap (λ (b : Body). places b.code) c.body.view_is in
    sym (refusal-is c.args.body.now c.requires.sound) ∙ ap (λ q. refused_by (first_far (instr_place q) c.args.body.now.code) (instr_place q (length c.args.body.now.code)) (length c.args.body.now.handlers)) (sym ps) ∙ sym c.refusal.ensures ∙ c.in_default.is

pub returns-clause-read_back : goal.returns-clause-read_back
returns-clause-read_back c = λ users named.
    spelled-found c.in_ok-bytes.bytes users c.args.body.now
    (read-back c.args.body.now c.args.texts.now c.in_ok-bytes.bytes c.requires.sound (returns-clause-refused c) c.in_ok-bytes.ensures.fits (subst (λ (t : List ℕ). (j : ℕ) → get_or t j 0 < 2 ^ 32) c.as_slice-4.ensures c.write_body.ensures.tokens) (returns-clause-bytes c) users named)
