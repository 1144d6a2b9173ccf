-- How a key is printed.
use Rattle.std.specs.Prelude.{ℕ, List, ◌∷◌, ◌++◌, codes}
use Rattle.md_schema.specs.Link.{link_name_of}
use Rattle.node_model.specs.declared.key.Key.{Key}
use Rattle.node_model.specs.declared.key.Key.TheVariants.{Row, Sig, Owned, Linked, Body, Data, Resource, Facts}
use Rattle.sig_tree.specs.Printed.{own_text}
use Rattle.dump_text.specs.Rows.{table_text}

abbrev pub key_text : Key → List ℕ
key_text (Row t) = codes "row " ++ own_text t
key_text (Sig t) = codes "sig " ++ own_text t
key_text (Owned t table) = codes "owned " ++ own_text t ++ 0x20 ∷ table_text table
key_text (Linked t link) = codes "linked " ++ own_text t ++ 0x20 ∷ link_name_of link
key_text (Body t) = codes "body " ++ own_text t
key_text (Data t) = codes "data " ++ own_text t
key_text (Resource t) = codes "resource " ++ own_text t
key_text Facts = codes "facts"
