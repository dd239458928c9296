-- Paths by their last segment.
use Rattle.std.proofs.Common.{◌≡◌, ℕ, suc, List, [], ◌∷◌, ◌++◌, length, Option, Some, None, false, refl, sym, ap, ◌∙◌, arith, length-append, append_assoc}
use Rattle.std.proofs.Math.Seq.{take-append_seam}
use Rattle.path_name.specs.Paths.{without_last}
use Rattle.tree_dev.specs.Trees.{behind}
use Rattle.tree_dev.specs.Changes.{is_root}
use Rattle.tree_dev.proofs.Behind.{behind_head, head_behind}

pub record IsSnoc (path : List (List ℕ)) : Type 0 where
  pub front : List (List ℕ)
  pub last : List ℕ
  pub is : path ≡ front ++ last ∷ []

pub snoc_of : (path : List (List ℕ)) → is_root path ≡ false → IsSnoc path
snoc_of [] e = absurd cc
snoc_of (x ∷ []) e = record { front = []; last = x; is = refl }
snoc_of (x ∷ y ∷ rest) e = let more = snoc_of (y ∷ rest) refl in record { front = x ∷ more.front; last = more.last; is = ap (λ p. x ∷ p) more.is }

pub without_last-snoc : (front : List (List ℕ)) (last : List ℕ) → without_last (front ++ last ∷ []) ≡ Some front
without_last-snoc [] last = refl
without_last-snoc (x ∷ xs) last =
    let len : length (xs ++ last ∷ []) ≡ suc (length xs) = simp length-append (omega arith) in
    rw len (ap (λ p. Some (x ∷ p)) (take-append_seam xs (last ∷ [])))

pub parent_of : (path parent : List (List ℕ)) → without_last path ≡ Some parent → (last : List ℕ) × (path ≡ parent ++ last ∷ [])
parent_of [] parent e = absurd cc
parent_of (x ∷ xs) parent e =
    let snoc = snoc_of (x ∷ xs) refl in
    let up : without_last (x ∷ xs) ≡ Some snoc.front = ap without_last snoc.is ∙ without_last-snoc snoc.front snoc.last in
    let same : parent ≡ snoc.front = cc in
    (snoc.last, snoc.is ∙ ap (λ p. p ++ snoc.last ∷ []) (sym same))

-- what stands behind a first part of a path
pub behind_longer : (head path rest more : List (List ℕ)) → behind head path ≡ Some rest → behind head (path ++ more) ≡ Some (rest ++ more)
behind_longer head path rest more e =
    ap (λ p. behind head (p ++ more)) (head_behind head path rest e) ∙ ap (behind head) (append_assoc head rest more) ∙ behind_head head (rest ++ more)

not_behind_case : (head path more : List (List ℕ)) (b : Option (List (List ℕ))) → behind head path ≡ b → behind head (path ++ more) ≡ None → b ≡ None
not_behind_case head path more None e none = refl
not_behind_case head path more (Some rest) e none = let longer = behind_longer head path rest more e in absurd cc

pub not_behind_front : (head path more : List (List ℕ)) → behind head (path ++ more) ≡ None → behind head path ≡ None
not_behind_front head path more none = not_behind_case head path more (behind head path) refl none

-- a path is not a first part of the one above it
no_longer : (front : List (List ℕ)) (last : List ℕ) (b : Option (List (List ℕ))) → behind (front ++ last ∷ []) front ≡ b → b ≡ None
no_longer front last None e = refl
no_longer front last (Some rest) e =
    let is = head_behind (front ++ last ∷ []) front rest e in
    absurd (let n = ap length is in omega (arith, simp length-append at n))

pub not_behind_itself : (front : List (List ℕ)) (last : List ℕ) → behind (front ++ last ∷ []) front ≡ None
not_behind_itself front last = no_longer front last (behind (front ++ last ∷ []) front) refl

pub not_root-append : (front rest : List (List ℕ)) → is_root front ≡ false → is_root (front ++ rest) ≡ false
not_root-append [] rest e = absurd cc
not_root-append (x ∷ xs) rest e = refl

pub not_root_behind : (head path : List (List ℕ)) → behind head path ≡ None → is_root head ≡ false
not_root_behind [] path e = absurd cc
not_root_behind (x ∷ xs) path e = refl
