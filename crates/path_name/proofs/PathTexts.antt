-- A path's text is read as that path, and paths are equal where their texts are.
use Rattle.std.proofs.Common.{◌≡◌, ℕ, ◌+◌, true, List, [], ◌∷◌, ◌++◌, length, Ok, refl, sym, ap, ◌∙◌, append_assoc, Decides}
use Rattle.std.specs.List.{list_all, join_with_byte}
use Rattle.std.specs.Str.{is_utf8, chars}
use Rattle.std.specs.Cmp.Lexicographic.{pointwise_decides, bytes_decides}
use Rattle.std.proofs.lemmas.List.{append-nil}
use Rattle.std.proofs.lemmas.Bool.Decides.{same_from_decides}
use Rattle.path_name.specs.Orders.{bytes_are_equal, paths_are_equal}
use Rattle.path_name.specs.Paths.{is_clean, is_segment, IsPath, path_text, placed, path_step, read_parts, path_of}
use Rattle.path_name.specs.Joined.{segments_of}
use Rattle.path_name.proofs.Joining.{both_true, segment_facts, all_whole, split-join, join-segments_of}
use Rattle.path_name.proofs.Parts.{reads_on}

pub dot_is_clean : is_clean (46 ∷ []) ≡ true
unfolding is_utf8 chars lib.Utf8.encode
dot_is_clean = refl

pub dots_are_clean : is_clean (46 ∷ 46 ∷ []) ≡ true
unfolding is_utf8 chars lib.Utf8.encode
dots_are_clean = refl

segment_step : (before : List (List ℕ)) (at : ℕ) (segment : List ℕ) → is_segment segment ≡ true → path_step before (at, segment) ≡ Ok (before ++ segment ∷ [])
segment_step before at segment h =
    let s = segment_facts segment h in
    rw (s.clean, s.here, s.above) refl

reads_segments : (at : ℕ) (before segments : List (List ℕ)) → IsPath segments → read_parts path_step before (placed at segments) ≡ Ok (before ++ segments)
reads_segments at before [] path = ap Ok (sym (append-nil before))
reads_segments at before (s ∷ rest) path =
    let p = both_true (is_segment s) (list_all is_segment rest) path in
    reads_on path_step before (before ++ s ∷ []) (at, s) (placed (at + length s + 1) rest) (segment_step before at s p.0)
    ∙ reads_segments (at + length s + 1) (before ++ s ∷ []) rest p.1 ∙ ap Ok (append_assoc before (s ∷ []) rest)

-- a path's text is read as that path
pub path_of-path_text : (segments : List (List ℕ)) → IsPath segments → path_of (path_text segments) ≡ Ok segments
unfolding path_of
path_of-path_text [] path = rw dot_is_clean refl
path_of-path_text (s ∷ rest) path =
    ap (λ parts. read_parts path_step [] (placed 0 parts)) (split-join s rest (all_whole (s ∷ rest) path)) ∙ reads_segments 0 [] (s ∷ rest) path

-- texts are equal where their segments are
pub same_paths : (a b : List ℕ) → bytes_are_equal a b ≡ paths_are_equal (segments_of a) (segments_of b)
same_paths a b = same_from_decides _ _ (bytes_decides a b) segments_decide
  where
    segments_decide : Decides (paths_are_equal (segments_of a) (segments_of b)) (a ≡ b)
    segments_decide =
        let d = pointwise_decides bytes_decides (segments_of a) (segments_of b) in
        (λ e. sym (join-segments_of a) ∙ ap (join_with_byte 47) (d.0 e) ∙ join-segments_of b, λ e. d.1 (ap segments_of e))
