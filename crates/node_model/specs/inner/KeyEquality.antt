-- Equality of keys, by which they can be looked up.
use Rattle.std.proofs.Common.{◌≡◌, refl, sym, ap, ap₂, ℕ, Bool, true, false, arith}
use Rattle.std.specs.Prelude.{◌==◌, ◌&&◌}
use Rattle.std.proofs.lemmas.Bool.{and_from, and_parts}
use Rattle.std.proofs.lemmas.Bool.Decides.{nat_tests}
use Rattle.cil_base.specs.Token.{Token}
use Rattle.md_schema.specs.contracts.link.LinkPartialEq.TheImpl as links
use Rattle.md_schema.specs.declared.link.Link.{Link}
use Rattle.md_schema.specs.declared.link.Link.TheVariants.{InterfaceImpl, Constant, CustomAttribute, FieldMarshal}
use Rattle.md_schema.specs.declared.link.Link.TheVariants.{DeclSecurity, ClassLayout, FieldLayout, EventMap}
use Rattle.md_schema.specs.declared.link.Link.TheVariants.{PropertyMap, MethodSemantics, MethodImpl, ImplMap}
use Rattle.md_schema.specs.declared.link.Link.TheVariants.{FieldRVA, NestedClass, Nested, GenericParam}
use Rattle.md_schema.specs.declared.link.Link.TheVariants.{GenericParamConstraint}
use Rattle.node_model.specs.Keys.{same_key, same_link, same_token}
use Rattle.node_model.specs.contracts.key.KeyPartialEq.TheImpl.{eq-value}
use Rattle.node_model.specs.declared.key.Key.{Key}
use Rattle.node_model.specs.declared.key.Key.TheVariants.{Row, Sig, Owned, Linked, Body, Data, Resource, Facts}

pub token_is : (a b : Token) → same_token a b ≡ true → a ≡ b
token_is a b e = grind arith

pub token_self : (a : Token) → same_token a a ≡ true
token_self a = grind arith

number_is : (n m : ℕ) → (n == m) ≡ true → n ≡ m
number_is n m e = grind (arith, nat_tests)

number_self : (n : ℕ) → (n == n) ≡ true
number_self n = grind (arith, nat_tests)

link_is : (a b : Link) → same_link a b ≡ true → a ≡ b
link_is InterfaceImpl InterfaceImpl e = refl
link_is Constant Constant e = refl
link_is CustomAttribute CustomAttribute e = refl
link_is FieldMarshal FieldMarshal e = refl
link_is DeclSecurity DeclSecurity e = refl
link_is ClassLayout ClassLayout e = refl
link_is FieldLayout FieldLayout e = refl
link_is EventMap EventMap e = refl
link_is PropertyMap PropertyMap e = refl
link_is MethodSemantics MethodSemantics e = refl
link_is MethodImpl MethodImpl e = refl
link_is ImplMap ImplMap e = refl
link_is FieldRVA FieldRVA e = refl
link_is NestedClass NestedClass e = refl
link_is Nested Nested e = refl
link_is GenericParam GenericParam e = refl
link_is GenericParamConstraint GenericParamConstraint e = refl
link_is _ _ e = absurd cc

link_self : (a : Link) → same_link a a ≡ true
link_self InterfaceImpl = refl
link_self Constant = refl
link_self CustomAttribute = refl
link_self FieldMarshal = refl
link_self DeclSecurity = refl
link_self ClassLayout = refl
link_self FieldLayout = refl
link_self EventMap = refl
link_self PropertyMap = refl
link_self MethodSemantics = refl
link_self MethodImpl = refl
link_self ImplMap = refl
link_self FieldRVA = refl
link_self NestedClass = refl
link_self Nested = refl
link_self GenericParam = refl
link_self GenericParamConstraint = refl

pub key_is : (a b : Key) → same_key a b ≡ true → a ≡ b
key_is (Row a) (Row b) e = ap Row (token_is a b e)
key_is (Sig a) (Sig b) e = ap Sig (token_is a b e)
key_is (Owned a n) (Owned b m) e =
    let parts = and_parts (same_token a b) (n == m) e in ap₂ Owned (token_is a b parts.0) (number_is n m parts.1)
key_is (Linked a l) (Linked b m) e =
    let parts = and_parts (same_token a b) (same_link l m) e in ap₂ Linked (token_is a b parts.0) (link_is l m parts.1)
key_is (Body a) (Body b) e = ap Body (token_is a b e)
key_is (Data a) (Data b) e = ap Data (token_is a b e)
key_is (Resource a) (Resource b) e = ap Resource (token_is a b e)
key_is Facts Facts e = refl
key_is _ _ e = absurd cc

pub key_self : (k : Key) → same_key k k ≡ true
key_self (Row a) = token_self a
key_self (Sig a) = token_self a
key_self (Owned a n) = and_from (same_token a a) (n == n) (token_self a) (number_self n)
key_self (Linked a l) = and_from (same_token a a) (same_link l l) (token_self a) (link_self l)
key_self (Body a) = token_self a
key_self (Data a) = token_self a
key_self (Resource a) = token_self a
key_self Facts = refl

agree : (x y : Bool) → (x ≡ true → y ≡ true) → (y ≡ true → x ≡ true) → x ≡ y
agree true true there back = refl
agree false false there back = refl
agree true false there back = sym (there refl)
agree false true there back = back refl

pub key_turned : (a b : Key) → same_key a b ≡ same_key b a
key_turned a b =
    agree (same_key a b) (same_key b a)
    (λ e. rw (key_is a b e) (key_self b))
    (λ e. rw (key_is b a e) (key_self a))

-- the derived tests of the code are those of the definitions
link_eq : (x y : Link) → (links.eq-value).it x y ≡ same_link x y
link_eq InterfaceImpl InterfaceImpl = refl
link_eq Constant Constant = refl
link_eq CustomAttribute CustomAttribute = refl
link_eq FieldMarshal FieldMarshal = refl
link_eq DeclSecurity DeclSecurity = refl
link_eq ClassLayout ClassLayout = refl
link_eq FieldLayout FieldLayout = refl
link_eq EventMap EventMap = refl
link_eq PropertyMap PropertyMap = refl
link_eq MethodSemantics MethodSemantics = refl
link_eq MethodImpl MethodImpl = refl
link_eq ImplMap ImplMap = refl
link_eq FieldRVA FieldRVA = refl
link_eq NestedClass NestedClass = refl
link_eq Nested Nested = refl
link_eq GenericParam GenericParam = refl
link_eq GenericParamConstraint GenericParamConstraint = refl
link_eq _ _ = refl

pub eq_is_same : (a b : Key) → (eq-value).it a b ≡ same_key a b
eq_is_same (Row a) (Row b) = refl
eq_is_same (Sig a) (Sig b) = refl
eq_is_same (Owned a n) (Owned b m) = refl
eq_is_same (Linked a l) (Linked b m) = ap (λ same. same_token a b && same) (link_eq l m)
eq_is_same (Body a) (Body b) = refl
eq_is_same (Data a) (Data b) = refl
eq_is_same (Resource a) (Resource b) = refl
eq_is_same Facts Facts = refl
eq_is_same _ _ = refl
