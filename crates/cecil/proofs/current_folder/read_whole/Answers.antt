-- The front of the file is the whole of it, where it is within the limit.
use Rattle.std.proofs.Common.{◌≡◌, [], ◌<◌, IfSome, List, ℕ, length, subst, sym, rules, arith}
use Rattle.cecil.proofs.ReadLemmas.{found_all}
use Rattle.cecil.proofs.current_folder.read_whole.Goals as goal

pub returns-in-Ok-2-clause-all : goal.returns-in-Ok-2-clause-all
returns-in-Ok-2-clause-all g c =
    let buf = c.read_to_end.new.buf in
    let front = c.take-front.result in
    let empty : c.in_ok-bytes.bytes.items ≡ [] = search rules in
    let short : length buf.items < front.limit =
    omega (arith, buf.ok.0, buf.ok.1, buf.small, c.len.ensures, c.take-front.ensures.limit, c.saturating_add.ensures) in
    let all = found_all (g.F.Read.remaining front.inner) c.in_ok-bytes.bytes.items buf.items front.limit empty c.in-Ok-2.ensures.bytes short in
    let file : g.row.F.Denot → Type 0 = λ f. IfSome (g.F.Read.remaining f) (λ left. c.from_vec.result ≡ left) in
    subst file c.take-front.ensures.inner (subst (λ (l : List ℕ). IfSome (g.F.Read.remaining front.inner) (λ left. l ≡ left)) (sym c.from_vec.ensures) all)
