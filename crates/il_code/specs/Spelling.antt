-- Which bytes spell a method's body: ECMA-335 II.25.4 and III.
use Rattle.std.specs.Prelude.{◌≡◌, ℕ, ◌+◌, ◌^◌, ◌≤◌, ◌<◌, Bool, true, false, List, [], length, map, take, drop, Some}
use Rattle.std.specs.List.{AllByRecursion, flat_map}
use Rattle.il_code.specs.declared.handler.HandlerKind.{HandlerKind}
use Rattle.il_code.specs.declared.handler.HandlerKind.TheVariants.{Filter}
use Rattle.il_code.specs.declared.handler.Handler.{Handler}
use Rattle.il_code.specs.Body.{Body}
use Rattle.il_code.specs.Code.{at, placed, Stand, TargetsBelow}
use Rattle.il_code.specs.declared.header.Header.{Header}
use Rattle.il_code.specs.Sections.{header_at, Sections}

-- a handler's kind with the place of its filter
abbrev pub placed_kind : (ℕ → ℕ) → HandlerKind → HandlerKind
placed_kind place (Filter start) = Filter (place start)
placed_kind place kind = kind

-- a handler with places as its bounds
abbrev pub placed_handler : (ℕ → ℕ) → Handler → Handler
placed_handler place h = record {
  kind = placed_kind place h.kind;
  try_start = place h.try_start;
  try_end = place h.try_end;
  start = place h.start;
  end = place h.end;
}

-- a filter begins at an instruction
abbrev pub FilterBelow : ℕ → HandlerKind → Type 0
FilterBelow n (Filter start) = start < n
FilterBelow n _ = Unit {0}

-- each bound is the number of an instruction, or of instructions where it is no filter's start
pub record BoundedHandler (n : ℕ) (h : Handler) : Type 0 where
  pub kind : FilterBelow n h.kind
  pub try_start : h.try_start ≤ n
  pub try_end : h.try_end ≤ n
  pub start : h.start ≤ n
  pub end : h.end ≤ n

-- the handlers are those of the sections after the code; a header that says so has sections behind the code
abbrev pub Handled : Bool → List ℕ → ℕ → List Handler → Type 0
Handled false s p hs = hs ≡ []
Handled true s p hs = (parts : List (List Handler)) × (flat_map (λ part. part) parts ≡ hs) × Sections s p parts

-- a front of the bytes s spells the body, whose texts stand in the heap #US: a header with its numbers, its
-- instructions one after the other, and sections with its handlers. Targets and bounds are spelled by the places where
-- those instructions stand.
pub record Spells (v : Body) (s users : List ℕ) : Type 0 where
  pub header : Header
  pub heads : header_at s ≡ Some header
  pub max_stack : v.max_stack ≡ header.max_stack
  pub init_locals : v.init_locals ≡ header.init_locals
  pub locals : v.locals ≡ header.locals
  pub there : header.start + header.size ≤ length s
  pub code : Stand users (take header.size (drop header.start s)) 0 (map (placed (at v.code)) v.code)
  pub targets : AllByRecursion (λ x. TargetsBelow (length v.code) x.operand) v.code
  pub handlers : Handled header.sections s (header.start + header.size) (map (placed_handler (at v.code)) v.handlers)
  pub bounds : AllByRecursion (BoundedHandler (length v.code)) v.handlers
  pub few : length v.handlers < 2 ^ 32
