use Rattle.std.proofs.Common.{sym, subst}
use Rattle.node_model.specs.Streams.{ImageStreams}
use Rattle.node_model.specs.declared.key.Key.TheVariants.{Row, Sig, Owned, Body, Data, Resource}
use Rattle.node_read.specs.inner.Opened.{IsRowThere}
use Rattle.node_read.proofs.KeyLemmas.{same_key_is, row_key, row_columns, sig_key, body_key, body_table, data_key, data_table, resource_key, resource_table, owner_there, owner_list}
use Rattle.node_read.proofs.read.read_key.Goals as goal

pub row_slot-requires-clause-row : goal.row_slot-requires-clause-row
row_slot-requires-clause-row c =
    subst (λ (s : ImageStreams). IsRowThere s c.in-Row.token) (sym c.streams-streams.ensures) (row_key c.args.image.now c.in-Row.token (same_key_is c.args.image.now c.args.key.now (Row c.in-Row.token) c.in-Row.is c.requires))

pub row_slot-requires-clause-table : goal.row_slot-requires-clause-table
row_slot-requires-clause-table c = row_columns c.args.image.now c.in-Row.token (same_key_is c.args.image.now c.args.key.now (Row c.in-Row.token) c.in-Row.is c.requires)

pub sig_slot-requires : goal.sig_slot-requires
sig_slot-requires c =
    subst (λ (s : ImageStreams). IsRowThere s c.in-Sig.token) (sym c.streams-streams.ensures) (sig_key c.args.image.now c.in-Sig.token (same_key_is c.args.image.now c.args.key.now (Sig c.in-Sig.token) c.in-Sig.is c.requires))

pub read_body-requires-clause-row : goal.read_body-requires-clause-row
read_body-requires-clause-row c =
    body_key c.args.image.now c.in-Body.token (same_key_is c.args.image.now c.args.key.now (Body c.in-Body.token) c.in-Body.is c.requires)

pub read_body-requires-clause-table : goal.read_body-requires-clause-table
read_body-requires-clause-table c = body_table c.args.image.now c.in-Body.token (same_key_is c.args.image.now c.args.key.now (Body c.in-Body.token) c.in-Body.is c.requires)

pub read_data-requires-clause-row : goal.read_data-requires-clause-row
read_data-requires-clause-row c =
    data_key c.args.image.now c.in-Data.token (same_key_is c.args.image.now c.args.key.now (Data c.in-Data.token) c.in-Data.is c.requires)

pub read_data-requires-clause-table : goal.read_data-requires-clause-table
read_data-requires-clause-table c = data_table c.args.image.now c.in-Data.token (same_key_is c.args.image.now c.args.key.now (Data c.in-Data.token) c.in-Data.is c.requires)

pub read_resource-requires-clause-row : goal.read_resource-requires-clause-row
read_resource-requires-clause-row c =
    resource_key c.args.image.now c.in-Resource.token (same_key_is c.args.image.now c.args.key.now (Resource c.in-Resource.token) c.in-Resource.is c.requires)

pub read_resource-requires-clause-table : goal.read_resource-requires-clause-table
read_resource-requires-clause-table c = resource_table c.args.image.now c.in-Resource.token (same_key_is c.args.image.now c.args.key.now (Resource c.in-Resource.token) c.in-Resource.is c.requires)

pub owned_slot-requires-clause-row : goal.owned_slot-requires-clause-row
owned_slot-requires-clause-row c = λ no.
    subst (λ (s : ImageStreams). IsRowThere s c.in-Owned.token) (sym c.streams-streams.ensures) (owner_there c.args.image.now c.in-Owned.token c.in-Owned.table (same_key_is c.args.image.now c.args.key.now (Owned c.in-Owned.token c.in-Owned.table) c.in-Owned.is c.requires) no)

pub owned_slot-requires-clause-owned : goal.owned_slot-requires-clause-owned
owned_slot-requires-clause-owned c = λ no. owner_list c.args.image.now c.in-Owned.token c.in-Owned.table (same_key_is c.args.image.now c.args.key.now (Owned c.in-Owned.token c.in-Owned.table) c.in-Owned.is c.requires) no
