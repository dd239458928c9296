use Rattle.std.proofs.Common.{◌≡◌, ◌++◌, ◌∷◌, take, map}
use Rattle.std.specs.List.{flat_map}
use Rattle.run_answers.proofs.message.put_names.Given as goal

abbrev pub invariant-loop-name : goal.invariant-loop-name
invariant-loop-name l = l.line.items ≡ l.fn.line.items ++ (l.text ++ flat_map (λ name. 32 ∷ name) (map (λ name. name.now) (take l.name-index l.names)))
