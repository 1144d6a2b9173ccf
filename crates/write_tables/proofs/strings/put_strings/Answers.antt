use Rattle.std.proofs.Common.{ℕ, List, ◌∙◌, ◌+◌, ap, arith, map, rules, take}
use Rattle.std.proofs.lemmas.List.{map_push, take_all}
use Rattle.cil_base.specs.Token.{Token}
use Rattle.node_model.specs.declared.key.Key.TheVariants.{Body}
use Rattle.write_plan.specs.Planned.{kept_value}
use Rattle.write_tables.specs.Contents.{AsUser, user_contents}
use Rattle.write_tables.specs.UserStrings.{body_code, code_strings, method_strings}
use Rattle.write_tables.specs.UserTokens.{string_token}
use Rattle.write_tables.proofs.GatherLemmas.{gathers_begun, gathers_ended, gathers_item, item_more}
use Rattle.write_tables.proofs.strings.put_strings.Goals as goal

pub loop-method-init : goal.loop-method-init
loop-method-init c = gathers_begun (List ℕ) c.args.heaps.now c.new-all.result c.new-all.ensures

pub loop-method-preserved : goal.loop-method-preserved
loop-method-preserved c =
    let of = λ (t : Token). code_strings (body_code (kept_value c.args.plan.now.entries (Body t))) in
    let methods = c.as_slice-methods.result.now in
    let i = c.loop-method.method-index in
    let m = c.method-item.result in
    let more = ap (map of) (item_more Token methods i m (search rules) c.method-item.is) ∙ map_push of (take i methods) m in
    gathers_item (List (List ℕ)) (List (List ℕ)) (List ℕ) (λ texts. map AsUser texts) (λ later texts. map (string_token later.users) texts)
    (map of (take i methods)) (map of (take (i + 1) methods)) (of m) (map of (take i methods)) (map of (take (i + 1) methods)) (of m)
    c.args.heaps.now c.loop-method.heaps c.put_method.new.heaps c.loop-method.all c.push.new.self c.in_ok-tokens.tokens
    more more c.in_ok-push.ensures.ok c.loop-method.invariant c.in_ok-tokens.ensures

pub returns : goal.returns
unfolding user_contents
returns c =
    let plan = c.args.plan.now in
    let of = λ (t : Token). code_strings (body_code (kept_value plan.entries (Body t))) in
    let methods = c.as_slice-methods.result.now in
    let i = c.loop-method.method-index in
    let all = ap (map of) (take_all i methods (omega arith) ∙ c.as_slice-methods.ensures ∙ c.kept-rows.ensures) in
    gathers_ended (List (List ℕ)) (List (List ℕ)) (List ℕ) (λ texts. map AsUser texts) (λ later texts. map (string_token later.users) texts)
    (map of (take i methods)) (method_strings plan) (map of (take i methods)) (method_strings plan)
    c.args.heaps.now c.loop-method.heaps c.loop-method.all all all c.loop-method.invariant
