use Rattle.std.proofs.Common.{sym, subst}
use Rattle.node_model.specs.Parts.{Meets}
use Rattle.node_model.specs.Questions.{key_walk}
use Rattle.node_model.specs.Walk.{said}
use Rattle.node_model.specs.declared.key.Key.{Key}
use Rattle.graph_query.specs.Answered.{slots_asked}
use Rattle.graph_query.proofs.one_key.key_value.Goals as goal

pub returns-in-Row : goal.returns-in-Row
returns-in-Row c = subst (λ (k : Key). Meets c.row_value.result (said (slots_asked c.args.graph.now) (key_walk k))) (sym c.in-Row.is) c.row_value.ensures

pub returns-in-Sig : goal.returns-in-Sig
returns-in-Sig c = subst (λ (k : Key). Meets c.sig_value.result (said (slots_asked c.args.graph.now) (key_walk k))) (sym c.in-Sig.is) c.sig_value.ensures

pub returns-in-Owned : goal.returns-in-Owned
returns-in-Owned c = subst (λ (k : Key). Meets c.owned_value.result (said (slots_asked c.args.graph.now) (key_walk k))) (sym c.in-Owned.is) c.owned_value.ensures

pub returns-in-Linked : goal.returns-in-Linked
returns-in-Linked c = subst (λ (k : Key). Meets c.linked_value.result (said (slots_asked c.args.graph.now) (key_walk k))) (sym c.in-Linked.is) c.linked_value.ensures

pub returns-in-Body : goal.returns-in-Body
returns-in-Body c = subst (λ (k : Key). Meets c.body_value.result (said (slots_asked c.args.graph.now) (key_walk k))) (sym c.in-Body.is) c.body_value.ensures

pub returns-in-Data : goal.returns-in-Data
returns-in-Data c = subst (λ (k : Key). Meets c.data_value.result (said (slots_asked c.args.graph.now) (key_walk k))) (sym c.in-Data.is) c.data_value.ensures

pub returns-in-Resource : goal.returns-in-Resource
returns-in-Resource c = subst (λ (k : Key). Meets c.resource_value.result (said (slots_asked c.args.graph.now) (key_walk k))) (sym c.in-Resource.is) c.resource_value.ensures

pub returns-in-Facts : goal.returns-in-Facts
returns-in-Facts c = subst (λ (k : Key). Meets c.facts_value.result (said (slots_asked c.args.graph.now) (key_walk k))) (sym c.in-Facts.is) c.facts_value.ensures
