-- Whether a pattern excludes a file, by what stands behind its folder.
use Rattle.std.proofs.Common.{◌≡◌, ℕ, true, false, List, [], ◌∷◌, length, Option, Some, None, refl, sym, ap, ◌∙◌, arith, inl, inr}
use Rattle.std.specs.Prelude.{◌&&◌, ◌==◌}
use Rattle.std.proofs.lemmas.Bool.Decides.{eqb_tells}
use Rattle.path_name.specs.Paths.{BeginsWith, IsBehind}
use Rattle.tree_dev.specs.Trees.{behind}
use Rattle.tree_dev.proofs.Behind.{behind_head, head_behind}
use Rattle.class_walk.specs.Patterns.{is_filled, matches_front, matches_below, is_excluded_by}
use Rattle.class_walk.specs.declared.pattern.Pattern.{Pattern}

none_behind : (head path : List (List ℕ)) (b : Option (List (List ℕ))) → behind head path ≡ b → (BeginsWith path head → ⊥) → behind head path ≡ None
none_behind head path None is none = is
none_behind head path (Some rest) is none = absurd (none (rest, head_behind head path rest is))

pub none_excluded : (pattern : Pattern) (path : List (List ℕ)) → (BeginsWith path pattern.folder → ⊥) → is_excluded_by pattern path ≡ false
unfolding is_excluded_by
none_excluded pattern path none = ap (matches_below pattern.parts) (none_behind pattern.folder path (behind pattern.folder path) refl none)

pub below_excluded : (pattern : Pattern) (path : List (List ℕ)) (text : List ℕ) → IsBehind path pattern.folder text → is_excluded_by pattern path ≡ (is_filled text && matches_front pattern.parts text)
unfolding is_excluded_by
below_excluded pattern path text (rest, at, is) =
    ap (matches_below pattern.parts) (ap (behind pattern.folder) at ∙ behind_head pattern.folder rest)
    ∙ ap (λ below. is_filled below && matches_front pattern.parts below) (sym is)

pub not_empty : (text : List ℕ) → (length text == 0) ≡ false → is_filled text ≡ true
not_empty [] e = absurd cc
not_empty (byte ∷ bytes) e = refl

pub empty : (text : List ℕ) → (length text == 0) ≡ true → is_filled text ≡ false
empty [] e = refl
empty (byte ∷ bytes) e = elim (eqb_tells (length (byte ∷ bytes)) 0) [ inl same ↦ absurd (omega (arith, same.1)) | inr apart ↦ let f = apart.0 in absurd cc ]
