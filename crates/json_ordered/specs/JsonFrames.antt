-- What the reader does with the arrays and objects that are open.
use Rattle.std.specs.Prelude.{◌≡◌, ℕ, ◌-◌, ◌+◌, List, [], ◌∷◌, ◌++◌, length, map, reverse, Result, Ok, MatchResult}
use Rattle.std.specs.Borrow.{Bor}
use Rattle.std.specs.Global.{Vec}
use Rattle.json_ordered.specs.declared.doc.Doc.{Doc}
use Rattle.json_ordered.specs.declared.frame.Frame as frames
use Rattle.json_ordered.specs.declared.frame.Frame.TheVariants as frame
use Rattle.json_ordered.specs.declared.step.Step.{Step}
use Rattle.json_ordered.specs.declared.step.Step.TheVariants.{Ended, Coming}
use Rattle.json_ordered.specs.declared.stop.Stop as stops
use Rattle.json_ordered.specs.Json.{most_levels}
use Rattle.json_ordered.specs.JsonTree.{JsonTree, put, put_all}
use Rattle.json_ordered.specs.Docs.{tree_of, pair_of}
use Rattle.json_ordered.specs.JsonReading.{Frame, In_array, In_object, Place, Before_value, Before_name, After_value, State, read_from, start}
use Rattle.json_ordered.specs.JsonSteps.{at, Fails}

-- a member as a map of members has it
abbrev pub entry_of : Vec ℕ × Doc → List ℕ × JsonTree
entry_of m = (m.0.items, tree_of m.1)

abbrev pub frame_of : frames.Frame → Frame
frame_of (frame.Array items) = In_array (map tree_of items.items)
frame_of (frame.Object members name) = In_object (put_all [] (map pair_of members.items)) name.items

-- from the inside out
abbrev pub stack_of : List frames.Frame → List Frame
stack_of all = reverse (map frame_of all)

abbrev pub in_frames : List frames.Frame → Place → State
in_frames all place = at (most_levels - length all) (stack_of all) place

abbrev pub NameSteps : List ℕ → Result (Vec ℕ × Bor (List ℕ)) stops.Stop → Type 0
NameSteps text result = (levels : ℕ) (stack : List Frame) (done : List (List ℕ × JsonTree)) → MatchResult result
    (λ x. read_from (at levels stack (Before_name done)) text ≡ read_from (at levels (In_object done x.0.items ∷ stack) Before_value) x.1.now)
    (λ e. Fails e (read_from (at levels stack (Before_name done)) text))

-- behind a value that has ended, or before one that comes
abbrev pub place_of : Step → Place
place_of Coming = Before_value
place_of (Ended doc) = After_value (tree_of doc)

abbrev pub Turn : State → List ℕ → List frames.Frame → Result (Step × Bor (List ℕ)) stops.Stop → Type 0
Turn from text new result = MatchResult result
    (λ x. read_from from text ≡ read_from (in_frames new (place_of x.0)) x.1.now)
    (λ e. Fails e (read_from from text))

-- a value is read to its end
abbrev pub ValueSteps : Place → List ℕ → Result (Step × Bor (List ℕ)) stops.Stop → Type 0
ValueSteps place text result = (levels : ℕ) (stack : List Frame) → MatchResult result
    (λ x. read_from (at levels stack place) text ≡ read_from (at levels stack (place_of x.0)) x.1.now)
    (λ e. Fails e (read_from (at levels stack place) text))

-- one level up, inside this frame, behind this value
abbrev pub inside : List frames.Frame → Frame → JsonTree → State
inside all f v = at (most_levels - (length all + 1)) (f ∷ stack_of all) (After_value v)

abbrev pub ArrayLeft : List Doc → List ℕ → List frames.Frame → List frames.Frame → Result (Step × Bor (List ℕ)) stops.Stop → Type 0
ArrayLeft items text old new result = (done : List JsonTree) (v : JsonTree) → map tree_of items ≡ done ++ v ∷ [] → Turn (inside old (In_array done) v) text new result

abbrev pub ObjectLeft : List (List ℕ × Doc) → List ℕ → List frames.Frame → List frames.Frame → Result (Step × Bor (List ℕ)) stops.Stop → Type 0
ObjectLeft members text old new result = (done : List (List ℕ × JsonTree)) (name : List ℕ) (v : JsonTree) → put_all [] (map pair_of members) ≡ put done name v → Turn (inside old (In_object done name) v) text new result

abbrev pub FrameLeft : frames.Frame → Doc → List ℕ → List frames.Frame → List frames.Frame → Result (Step × Bor (List ℕ)) stops.Stop → Type 0
FrameLeft f doc text old new result = Turn (inside old (frame_of f) (tree_of doc)) text new result

-- the end of a text, behind its value
abbrev pub Ends : Doc → List ℕ → Result Doc stops.Stop → Type 0
Ends doc text result = (levels : ℕ) → MatchResult result
    (λ d. read_from (at levels [] (After_value (tree_of doc))) text ≡ Ok (tree_of d))
    (λ e. Fails e (read_from (at levels [] (After_value (tree_of doc))) text))

abbrev pub WholeSteps : List ℕ → Result Doc stops.Stop → Type 0
WholeSteps text result = MatchResult result
    (λ doc. read_from (start most_levels) text ≡ Ok (tree_of doc))
    (λ e. Fails e (read_from (start most_levels) text))
