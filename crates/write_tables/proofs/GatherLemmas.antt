-- Contents put into heaps one after the other, and what is said of the heaps on the way.
use Rattle.std.proofs.Common.{◌≡◌, ◌∙◌, sym, ap, refl, subst, ℕ, ◌+◌, ◌/◌, ◌<◌, List, [], ◌∷◌, ◌++◌, length, take, get_or, map}
use Rattle.std.specs.Prelude.{IfOk, Result, Ok, Err, Option, None}
use Rattle.std.specs.Option.{option_map_or}
use Rattle.std.specs.List.{flat_map}
use Rattle.std.proofs.lemmas.List.{flat_map_more, map-append, map_push, take_more}
use Rattle.std.proofs.lemmas.List.Sums.{fold-append}
use Rattle.md_heaps.specs.LaidHeaps.{HeapEntries, blob_entry, text_entry, user_entry, with_blob, with_guid, with_text}
use Rattle.md_heaps.specs.LaidHeaps.{IsGuidNumber, with_user}
use Rattle.cil_base.specs.Token.{Token}
use Rattle.md_schema.specs.declared.column.ColumnKind.{ColumnKind}
use Rattle.node_model.specs.declared.cell.Cell.{Cell}
use Rattle.write_plan.specs.Planned.{Planned}
use Rattle.cil_base.specs.declared.no_memory.NoMemory.{NoMemory}
use Rattle.md_heaps.specs.Pools.{StandsAt, entry_place}
use Rattle.md_heaps.proofs.PoolLemmas.{entries_stay}
use Rattle.write_tables.specs.Contents.{HeapContent, AsText, AsGuid, AsBlob, AsUser, with_content, with_contents}
use Rattle.write_tables.specs.Contents.{column_contents}
use Rattle.write_tables.specs.UserTokens.{string_token}
use Rattle.write_tables.specs.WrittenRows.{column_number}
use Rattle.write_tables.specs.inner.Gathered.{Gathers, HeapsStay}

pub stays-same : (h : HeapEntries) → HeapsStay h h
stays-same h = record { texts = λ e p s. s; users = λ e p s. s; guids = λ e p s. s; blobs = λ e p s. s }

pub stays-next : (a b c : HeapEntries) → HeapsStay a b → HeapsStay b c → HeapsStay a c
stays-next a b c first second = record {
  texts = λ e p s. second.texts e p (first.texts e p s);
  users = λ e p s. second.users e p (first.users e p s);
  guids = λ e p s. second.guids e p (first.guids e p s);
  blobs = λ e p s. second.blobs e p (first.blobs e p s);
}

content_stays : (h : HeapEntries) (content : HeapContent) → HeapsStay h (with_content h content)
content_stays h (AsText content) = record {
  texts = entries_stay h.texts (text_entry content);
  users = λ e p s. s;
  guids = λ e p s. s;
  blobs = λ e p s. s;
}
content_stays h (AsGuid content) = record {
  texts = λ e p s. s;
  users = λ e p s. s;
  guids = entries_stay h.guids content;
  blobs = λ e p s. s;
}
content_stays h (AsBlob content) = record {
  texts = λ e p s. s;
  users = λ e p s. s;
  guids = λ e p s. s;
  blobs = entries_stay h.blobs (blob_entry content);
}
content_stays h (AsUser content) = record {
  texts = λ e p s. s;
  users = entries_stay h.users (user_entry content);
  guids = λ e p s. s;
  blobs = λ e p s. s;
}

-- nothing is put in
pub gathers_none : (A : Type 0) (h : HeapEntries) (said : HeapEntries → A) (answer : A)
    → ((later : HeapEntries) → answer ≡ said later) → Gathers A h h [] said answer
gathers_none A h said answer says = record { entries = refl; stays = stays-same h; says = λ later _. says later }

-- one content is put in
pub gathers_one : (A : Type 0) (old new : HeapEntries) (content : HeapContent) (said : HeapEntries → A) (answer : A)
    → new ≡ with_content old content → ((later : HeapEntries) → HeapsStay new later → answer ≡ said later)
    → Gathers A old new (content ∷ []) said answer
gathers_one A old new content said answer is says = record {
  entries = is;
  stays = subst (λ h. HeapsStay old h) (sym is) (content_stays old content);
  says = says;
}

pub gathers_text : (old new : HeapEntries) (text same : List ℕ) (index n : ℕ) → text ≡ same → n ≡ index → new ≡ with_text old text
    → StandsAt new.texts (text_entry text) index
    → Gathers ℕ old new (AsText same ∷ []) (λ later. entry_place later.texts (text_entry same)) n
gathers_text old new text same index n alike number is stands =
    subst (λ t. Gathers ℕ old new (AsText t ∷ []) (λ later. entry_place later.texts (text_entry t)) n) alike
    (gathers_one ℕ old new (AsText text) (λ later. entry_place later.texts (text_entry text)) n is
    (λ later stays. number ∙ (stays.texts (text_entry text) index stands).1))

pub gathers_blob : (old new : HeapEntries) (blob : List ℕ) (index n : ℕ) → n ≡ index → new ≡ with_blob old blob
    → StandsAt new.blobs (blob_entry blob) index
    → Gathers ℕ old new (AsBlob blob ∷ []) (λ later. entry_place later.blobs (blob_entry blob)) n
gathers_blob old new blob index n number is stands =
    gathers_one ℕ old new (AsBlob blob) (λ later. entry_place later.blobs (blob_entry blob)) n is
    (λ later stays. number ∙ (stays.blobs (blob_entry blob) index stands).1)

pub gathers_guid : (old new : HeapEntries) (guid : List ℕ) (index n : ℕ) → n ≡ index → new ≡ with_guid old guid
    → IsGuidNumber new.guids guid index
    → Gathers ℕ old new (AsGuid guid ∷ []) (λ later. entry_place later.guids guid / 16 + 1) n
gathers_guid old new guid index n number is (there, at) =
    gathers_one ℕ old new (AsGuid guid) (λ later. entry_place later.guids guid / 16 + 1) n is
    (λ later stays. number ∙ at
    ∙ ap (λ (place : ℕ). place / 16 + 1) (stays.guids guid (entry_place new.guids guid) (there, refl)).1)

pub gathers_user : (old new : HeapEntries) (units : List ℕ) (index n : ℕ) → n ≡ 0x70000000 + index → new ≡ with_user old units
    → StandsAt new.users (user_entry units) index
    → Gathers ℕ old new (AsUser units ∷ []) (λ later. string_token later.users units) n
gathers_user old new units index n number is stands =
    gathers_one ℕ old new (AsUser units) (λ later. string_token later.users units) n is
    (λ later stays. number ∙ ap (λ (place : ℕ). 0x70000000 + place) (stays.users (user_entry units) index stands).1)

-- the same, of other words for what was put in and for what is said
pub gathers_as : (A : Type 0) (old new : HeapEntries) (contents others : List HeapContent) (said other : HeapEntries → A) (answer : A)
    → contents ≡ others → ((later : HeapEntries) → said later ≡ other later)
    → Gathers A old new contents said answer → Gathers A old new others other answer
gathers_as A old new contents others said other answer same alike g = record {
  entries = g.entries ∙ ap (with_contents old) same;
  stays = g.stays;
  says = λ later stays. g.says later stays ∙ alike later;
}

-- an answer more
pub gathers_more : (A : Type 0) (first old new : HeapEntries) (contents more : List HeapContent) (said : HeapEntries → List A) (says : HeapEntries → A)
    (answers : List A) (answer : A)
    → Gathers (List A) first old contents said answers → Gathers A old new more says answer
    → Gathers (List A) first new (contents ++ more) (λ later. said later ++ says later ∷ []) (answers ++ answer ∷ [])
gathers_more A first old new contents more said says answers answer was is = record {
  entries = is.entries ∙ ap (λ h. with_contents h more) was.entries ∙ sym (fold-append with_content first contents more);
  stays = stays-next first old new was.stays is.stays;
  says = λ later stays.
      ap (λ front. front ++ answer ∷ []) (was.says later (stays-next old new later is.stays stays))
      ∙ ap (λ one. said later ++ one ∷ []) (is.says later stays);
}

-- answers more
pub gathers_append : (A : Type 0) (first old new : HeapEntries) (contents more : List HeapContent) (said says : HeapEntries → List A)
    (answers others : List A)
    → Gathers (List A) first old contents said answers → Gathers (List A) old new more says others
    → Gathers (List A) first new (contents ++ more) (λ later. said later ++ says later) (answers ++ others)
gathers_append A first old new contents more said says answers others was is = record {
  entries = is.entries ∙ ap (λ h. with_contents h more) was.entries ∙ sym (fold-append with_content first contents more);
  stays = stays-next first old new was.stays is.stays;
  says = λ later stays.
      ap (λ front. front ++ others) (was.says later (stays-next old new later is.stays stays))
      ∙ ap (λ back. said later ++ back) (is.says later stays);
}

-- no answer yet
pub gathers_begun : (A : Type 0) (h : HeapEntries) (answers : List A) → answers ≡ [] → Gathers (List A) h h [] (λ later. []) answers
gathers_begun A h answers none = gathers_none (List A) h (λ later. []) answers (λ later. none)

-- the answer for an item more, where what is said goes over other items
pub gathers_item : (X Y A : Type 0) (contents : X → List HeapContent) (said : HeapEntries → Y → A) (front longer : List X) (x : X)
    (seen more : List Y) (y : Y) (first old new : HeapEntries) (answers pushed : List A) (answer : A)
    → longer ≡ front ++ x ∷ [] → more ≡ seen ++ y ∷ [] → pushed ≡ answers ++ answer ∷ []
    → Gathers (List A) first old (flat_map contents front) (λ later. map (said later) seen) answers
    → Gathers A old new (contents x) (λ later. said later y) answer
    → Gathers (List A) first new (flat_map contents longer) (λ later. map (said later) more) pushed
gathers_item X Y A contents said front longer x seen more y first old new answers pushed answer left right push was is =
    subst (Gathers (List A) first new (flat_map contents longer) (λ later. map (said later) more)) (sym push)
    (gathers_as (List A) first new (flat_map contents front ++ contents x) (flat_map contents longer)
    (λ later. map (said later) seen ++ said later y ∷ []) (λ later. map (said later) more) (answers ++ answer ∷ [])
    (flat_map_more contents [] front x ∙ ap (flat_map contents) (sym left))
    (λ later. sym (map_push (said later) seen y) ∙ ap (map (said later)) (sym right))
    (gathers_more A first old new (flat_map contents front) (contents x) (λ later. map (said later) seen) (λ later. said later y) answers answer was is))

-- the answers for all items
pub gathers_ended : (X Y A : Type 0) (contents : X → List HeapContent) (said : HeapEntries → Y → A) (front xs : List X) (seen ys : List Y)
    (first new : HeapEntries) (answers : List A) → front ≡ xs → seen ≡ ys
    → Gathers (List A) first new (flat_map contents front) (λ later. map (said later) seen) answers
    → Gathers (List A) first new (flat_map contents xs) (λ later. map (said later) ys) answers
gathers_ended X Y A contents said front xs seen ys first new answers left right g =
    gathers_as (List A) first new (flat_map contents front) (flat_map contents xs) (λ later. map (said later) seen)
    (λ later. map (said later) ys) answers (ap (flat_map contents) left) (λ later. ap (map (said later)) right) g

-- user strings with their tokens
abbrev pub GathersStrings : HeapEntries → HeapEntries → List (List ℕ) → List ℕ → Type 0
GathersStrings old new strings tokens = Gathers (List ℕ) old new (map AsUser strings) (λ later. map (string_token later.users) strings) tokens

pub strings_more : (first old new : HeapEntries) (front more longer : List (List ℕ)) (tokens others pushed : List ℕ)
    → longer ≡ front ++ more → pushed ≡ tokens ++ others → GathersStrings first old front tokens → GathersStrings old new more others
    → GathersStrings first new longer pushed
strings_more first old new front more longer tokens others pushed left push was is =
    subst (GathersStrings first new longer) (sym push)
    (gathers_as (List ℕ) first new (map AsUser front ++ map AsUser more) (map AsUser longer)
    (λ later. map (string_token later.users) front ++ map (string_token later.users) more) (λ later. map (string_token later.users) longer) (tokens ++ others)
    (sym (map-append AsUser front more) ∙ ap (map AsUser) (sym left))
    (λ later. sym (map-append (string_token later.users) front more) ∙ ap (map (string_token later.users)) (sym left))
    (gathers_append ℕ first old new (map AsUser front) (map AsUser more) (λ later. map (string_token later.users) front)
    (λ later. map (string_token later.users) more) tokens others was is))

-- a number that needs no heap
pub gathers_plain : (h : HeapEntries) (r : Result ℕ NoMemory) (n : ℕ) → IfOk r (λ m. m ≡ n) → IfOk r (Gathers ℕ h h [] (λ later. n))
gathers_plain h (Ok m) n is = gathers_none ℕ h (λ later. n) m (λ later. is)
gathers_plain h (Err e) n is = tt

-- a blob in other words
pub gathers_same_blob : (old new : HeapEntries) (r : Result ℕ NoMemory) (blob other : List ℕ) → blob ≡ other
    → IfOk r (Gathers ℕ old new (AsBlob blob ∷ []) (λ later. entry_place later.blobs (blob_entry blob)))
    → IfOk r (Gathers ℕ old new (AsBlob other ∷ []) (λ later. entry_place later.blobs (blob_entry other)))
gathers_same_blob old new r blob other same g =
    subst (λ b. IfOk r (Gathers ℕ old new (AsBlob b ∷ []) (λ later. entry_place later.blobs (blob_entry b)))) same g

-- an item of a list, as a loop has it
pub item_more : (X : Type 0) (xs : List X) (i : ℕ) (x : X) → i < length xs → x ≡ get_or xs i x → take (i + 1) xs ≡ take i xs ++ x ∷ []
item_more X xs i x below is = take_more xs i x below ∙ ap (λ one. take i xs ++ one ∷ []) (sym is)

-- what a function of items makes of one item more
pub flat_more : (X A : Type 0) (f : X → List A) (xs : List X) (i : ℕ) (x : X) → i < length xs → x ≡ get_or xs i x
    → flat_map f (take (i + 1) xs) ≡ flat_map f (take i xs) ++ f x
flat_more X A f xs i x below is = ap (flat_map f) (item_more X xs i x below is) ∙ sym (flat_map_more f [] (take i xs) x)

-- a GUID of a cell, if it has one
abbrev pub GathersGuid : HeapEntries → HeapEntries → Result ℕ NoMemory → Option (List ℕ) → Type 0
GathersGuid old new r guid =
    IfOk r (Gathers ℕ old new (option_map_or (λ bytes. AsGuid bytes ∷ []) guid [])
    (λ later. option_map_or (λ bytes. entry_place later.guids bytes / 16 + 1) guid 0))

pub gathers_no_guid : (h : HeapEntries) (guid : Option (List ℕ)) → guid ≡ None → GathersGuid h h (Ok 0) guid
gathers_no_guid h guid none = subst (GathersGuid h h (Ok 0)) (sym none) (gathers_none ℕ h (λ later. 0) 0 (λ later. refl))

-- what a row puts in for a column of a kind, with its number
abbrev pub GathersColumn : Planned → Token → Option Cell → ℕ → HeapEntries → HeapEntries → Result ℕ NoMemory → ColumnKind → Type 0
GathersColumn plan row cell placed old new r kind =
    IfOk r (Gathers ℕ old new (column_contents plan (record { row = row; kind = kind; cell = cell }))
    (λ later. column_number plan later placed (record { row = row; kind = kind; cell = cell })))

-- an answer as a list of its own
pub gathers_alone : (A : Type 0) (old new : HeapEntries) (contents : List HeapContent) (said : HeapEntries → A) (answer : A) (answers : List A)
    → answers ≡ answer ∷ [] → Gathers A old new contents said answer → Gathers (List A) old new contents (λ later. said later ∷ []) answers
gathers_alone A old new contents said answer answers alone g = record {
  entries = g.entries;
  stays = g.stays;
  says = λ later stays. alone ∙ ap (λ one. one ∷ []) (g.says later stays);
}

-- an operand that may be a user string
abbrev pub GathersUnits : HeapEntries → HeapEntries → Result (List ℕ) NoMemory → Option (List ℕ) → Type 0
GathersUnits old new r units = IfOk r (GathersStrings old new (option_map_or (λ one. one ∷ []) units []))

pub gathers_no_units : (h : HeapEntries) (tokens : List ℕ) (units : Option (List ℕ)) → tokens ≡ [] → units ≡ None → GathersUnits h h (Ok tokens) units
gathers_no_units h tokens units begun none = subst (GathersUnits h h (Ok tokens)) (sym none) (gathers_begun ℕ h tokens begun)
