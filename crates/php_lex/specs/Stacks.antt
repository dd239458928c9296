-- Several elements that are open, one in the other.
use Rattle.std.specs.Prelude.{◌≡◌, ℕ, zero, suc, ◌+◌, ◌-◌, ◌^◌, ◌<◌, ◌≤◌, List, [], ◌∷◌, length, drop}
use Rattle.php_lex.specs.declared.opening.Opening.{Opening}
use Rattle.php_lex.specs.declared.nested.Open.{Open}
use Rattle.php_lex.specs.declared.nested.Step.{Step}
use Rattle.php_lex.specs.declared.nested.Step.TheVariants as steps
use Rattle.php_lex.specs.Quotes.{Element, Single, Double, Nowdoc, Heredoc, Nested}
use Rattle.php_lex.specs.Elements.{Ends}
use Rattle.php_lex.specs.Openings.{element_of}
use Rattle.php_lex.specs.Cut.{inner_levels}

-- how many levels the element outside has, of those that this one has
abbrev pub outside : ℕ → Element → ℕ
outside levels Nested = levels
outside levels Single = suc levels
outside levels (Double quote) = suc levels
outside levels (Nowdoc label) = suc levels
outside levels (Heredoc label) = suc levels

-- the innermost first: what follows the end of the outermost
abbrev pub AllEnd : ℕ → List Element → List ℕ → List ℕ → Type 0
AllEnd levels [] text rest = text ≡ rest
AllEnd levels (e ∷ es) text rest = (after : List ℕ) × Ends levels e text after × AllEnd (outside levels e) es after rest

-- open braces of nested code
abbrev pub braces_on : ℕ → List Element → List Element
braces_on zero es = es
braces_on (suc n) es = Nested ∷ braces_on n es

abbrev pub frames_on : Open → List Element → List Element
frames_on o es = braces_on o.braces (element_of o.opening ∷ es)

-- the elements below the innermost, of which the last was opened last
abbrev pub stack_on : List Open → List Element → List Element
stack_on [] es = es
stack_on (o ∷ os) es = stack_on os (frames_on o es)

abbrev pub stack_of : Open → List Open → List Element
stack_of top below = frames_on top (stack_on below [])

-- the innermost element: nested code, where a brace is open
abbrev pub innermost_by : ℕ → Opening → Element
innermost_by zero opening = element_of opening
innermost_by (suc n) opening = Nested

abbrev pub innermost : Open → Element
innermost o = innermost_by o.braces o.opening

abbrev pub levels_of : List Open → ℕ
levels_of below = inner_levels - length below

-- each count of braces has room for one more at each of so many bytes
abbrev pub HasRoom : ℕ → List Open → Type 0
HasRoom n [] = Unit {0}
HasRoom n (o ∷ os) = (o.braces + n < 2 ^ 64) × HasRoom n os

-- two stands of which the outermost element has the same end
pub record SameAll (levels : ℕ) (es : List Element) (text : List ℕ) (inner : ℕ) (fs : List Element) (later : List ℕ) : Type 0 where
  pub on : (rest : List ℕ) → AllEnd levels es text rest → AllEnd inner fs later rest
  pub back : (rest : List ℕ) → AllEnd inner fs later rest → AllEnd levels es text rest

pub record GoesOn (top : Open) (below : List Open) (text : List ℕ) (outer : List Open) (inner : Open) (len : ℕ) : Type 0 where
  pub some : 0 < len
  pub within : len ≤ length text
  pub levels : length outer ≤ inner_levels
  pub room : HasRoom (length text - len) outer
  pub top_room : inner.braces + (length text - len) < 2 ^ 64
  pub same : SameAll (levels_of below) (stack_of top below) text (levels_of outer) (stack_of inner outer) (drop len text)

pub record IsOver (top : Open) (below : List Open) (text : List ℕ) (len : ℕ) : Type 0 where
  pub some : 0 < len
  pub within : len ≤ length text
  pub ends : AllEnd (levels_of below) (stack_of top below) text (drop len text)

abbrev pub IsStep : Open → List Open → List ℕ → List Open → Step → Type 0
IsStep top below text outer (steps.GoesOn inner len) = GoesOn top below text outer inner len
IsStep top below text outer (steps.Ends len) = IsOver top below text len
IsStep top below text outer steps.Fails = (rest : List ℕ) → AllEnd (levels_of below) (stack_of top below) text rest → ⊥
