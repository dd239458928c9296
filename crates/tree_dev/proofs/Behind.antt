-- Paths that begin with a path.
use Rattle.std.proofs.Common.{◌≡◌, Bool, true, false, cond, List, [], ◌∷◌, ◌++◌, ℕ, Some, None, refl, sym, ◌∙◌}
use Rattle.path_name.specs.Orders.{bytes_are_equal, byte_cmp, byte_cmp_exact, byte_equality, byte_ties}
use Rattle.tree_dev.specs.Told.{equal_of}
use Rattle.tree_dev.specs.Trees.{behind}

pub same_bytes : (a b : List ℕ) → bytes_are_equal a b ≡ true → a ≡ b
same_bytes a b e = byte_cmp_exact a b (equal_of (byte_cmp a b) (sym (byte_ties a b) ∙ e))

pub bytes_same : (a : List ℕ) → bytes_are_equal a a ≡ true
bytes_same a = byte_equality.refl a

-- what follows a head stands behind it
pub behind_head : (head rest : List (List ℕ)) → behind head (head ++ rest) ≡ Some rest
behind_head [] rest = refl
behind_head (first ∷ head) rest = rw (bytes_same first) (behind_head head rest)

head_step : (first segment : List ℕ) (head path rest : List (List ℕ)) (b : Bool) → bytes_are_equal first segment ≡ b
    → (behind head path ≡ Some rest → path ≡ head ++ rest) → cond b (behind head path) None ≡ Some rest → segment ∷ path ≡ (first ∷ head) ++ rest
head_step first segment head path rest true same more e = let first_same = same_bytes first segment same in let path_same = more e in cc
head_step first segment head path rest false same more e = absurd cc

-- a path is its head and what stands behind it
pub head_behind : (head path rest : List (List ℕ)) → behind head path ≡ Some rest → path ≡ head ++ rest
head_behind [] path rest e = cc
head_behind (first ∷ head) [] rest e = absurd cc
head_behind (first ∷ head) (segment ∷ path) rest e = head_step first segment head path rest (bytes_are_equal first segment) refl (head_behind head path rest) e
