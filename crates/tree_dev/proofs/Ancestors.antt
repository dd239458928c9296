-- From a path to the one above it.
use Rattle.std.proofs.Common.{◌≡◌, ℕ, zero, suc, ◌-◌, ◌≤◌, List, [], ◌∷◌, length, take, Some, refl, ap, arith}
use Rattle.std.proofs.lemmas.List.{length-take-le}
use Rattle.std.proofs.Math.Seq.{take-take, take-length}
use Rattle.path_name.specs.Paths.{without_last}
use Rattle.tree_dev.specs.Memory.{prefixes, above}

prefixes-take : (n m : ℕ) (path : List (List ℕ)) → n ≤ m → prefixes n (take m path) ≡ prefixes n path
prefixes-take zero m path le = refl
prefixes-take (suc n) m path le =
    let first = take-take (suc n) m path le in
    let rest = prefixes-take n m path (omega arith) in
    cc

-- the path that a path without its last segment is
pub climbed : (path parent : List (List ℕ)) → Some parent ≡ without_last path → prefixes (length path) path ≡ path ∷ prefixes (length parent) parent
climbed [] parent e = absurd cc
climbed (first ∷ rest) parent e =
    let is : parent ≡ take (length rest) (first ∷ rest) = cc in
    let len : length (take (length rest) (first ∷ rest)) ≡ length rest = length-take-le (length rest) (first ∷ rest) (omega arith) in
    let same = prefixes-take (length rest) (length rest) (first ∷ rest) (omega arith) in
    let whole = take-length (first ∷ rest) in
    rw (is, len, same) (ap (λ p. p ∷ prefixes (length rest) (first ∷ rest)) whole)

pub climbed_above : (path parent : List (List ℕ)) → Some parent ≡ without_last path → above path ≡ prefixes (length parent) parent
climbed_above [] parent e = absurd cc
climbed_above (first ∷ rest) parent e =
    let is : parent ≡ take (length rest) (first ∷ rest) = cc in
    let len : length (take (length rest) (first ∷ rest)) ≡ length rest = length-take-le (length rest) (first ∷ rest) (omega arith) in
    let same = prefixes-take (length rest) (length rest) (first ∷ rest) (omega arith) in
    let one : suc (length rest) - 1 ≡ length rest = omega arith in
    rw (is, len, same) (ap (λ n. prefixes n (first ∷ rest)) one)
