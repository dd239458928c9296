-- A folder's text is read as that folder.
use Rattle.std.proofs.Common.{◌≡◌, ℕ, zero, suc, ◌+◌, List, [], ◌∷◌, ◌++◌, length, replicate, true, Ok, refl, sym, ap, ◌∙◌, append_assoc, append-nil, add-zero, zero-add, arith}
use Rattle.std.specs.List.{concat, list_all}
use Rattle.path_name.specs.declared.folder_ref.FolderRef.{FolderRef}
use Rattle.path_name.specs.Paths.{is_segment, IsPath, path_text, placed, read_parts}
use Rattle.path_name.specs.FolderRefs.{folder_step, folder_text, folder_of}
use Rattle.path_name.proofs.Joining.{split, both_true, segment_facts, all_whole, split-join, split_at}
use Rattle.path_name.proofs.Parts.{reads_on}
use Rattle.path_name.proofs.PathTexts.{dot_is_clean, dots_are_clean}

pub concat_more : (n : ℕ) (text : List ℕ) → concat (replicate n text) ++ text ≡ concat (replicate (suc n) text)
concat_more zero text = sym (append-nil text)
concat_more (suc n) text = append_assoc text (concat (replicate n text)) text ∙ ap (λ back. text ++ back) (concat_more n text)

folder : ℕ → List (List ℕ) → FolderRef
folder up path = record { up = up; path = path }

segment_step : (up at : ℕ) (before : List (List ℕ)) (segment : List ℕ) → is_segment segment ≡ true → folder_step (folder up before) (at, segment) ≡ Ok (folder up (before ++ segment ∷ []))
unfolding folder
segment_step up at before segment h =
    let s = segment_facts segment h in
    rw (s.clean, s.here, s.above) refl

up_step : (up at : ℕ) → folder_step (folder up []) (at, 46 ∷ 46 ∷ []) ≡ Ok (folder (up + 1) [])
unfolding folder
up_step up at = rw dots_are_clean refl

here_step : (up at : ℕ) → folder_step (folder up []) (at, 46 ∷ []) ≡ Ok (folder up [])
unfolding folder
here_step up at = rw dot_is_clean refl

reads_segments : (up at : ℕ) (before segments : List (List ℕ)) → IsPath segments → read_parts folder_step (folder up before) (placed at segments) ≡ Ok (folder up (before ++ segments))
reads_segments up at before [] path = ap (λ all. Ok (folder up all)) (sym (append-nil before))
reads_segments up at before (s ∷ rest) path =
    let p = both_true (is_segment s) (list_all is_segment rest) path in
    reads_on folder_step (folder up before) (folder up (before ++ s ∷ [])) (at, s) (placed (at + length s + 1) rest) (segment_step up at before s p.0)
    ∙ reads_segments up (at + length s + 1) (before ++ s ∷ []) rest p.1 ∙ ap (λ all. Ok (folder up all)) (append_assoc before (s ∷ []) rest)

reads_path : (up at : ℕ) (segments : List (List ℕ)) → IsPath segments → read_parts folder_step (folder up []) (placed at (split (path_text segments))) ≡ Ok (folder up segments)
reads_path up at [] path = reads_on folder_step (folder up []) (folder up []) (at, 46 ∷ []) [] (here_step up at)
reads_path up at (s ∷ rest) path =
    ap (λ parts. read_parts folder_step (folder up []) (placed at parts)) (split-join s rest (all_whole (s ∷ rest) path)) ∙ reads_segments up at [] (s ∷ rest) path

reads_folder : (n up at : ℕ) (segments : List (List ℕ)) → IsPath segments → read_parts folder_step (folder up []) (placed at (split (concat (replicate n (46 ∷ 46 ∷ 47 ∷ [])) ++ path_text segments))) ≡ Ok (folder (up + n) segments)
reads_folder zero up at segments path = reads_path up at segments path ∙ ap (λ k. Ok (folder k segments)) (sym (add-zero up))
reads_folder (suc n) up at segments path =
    let text = concat (replicate n (46 ∷ 46 ∷ 47 ∷ [])) ++ path_text segments in
    let sum : up + 1 + n ≡ up + suc n = omega arith in
    ap (λ parts. read_parts folder_step (folder up []) (placed at parts)) (split_at (46 ∷ 46 ∷ []) text)
    ∙ reads_on folder_step (folder up []) (folder (up + 1) []) (at, 46 ∷ 46 ∷ []) (placed (at + 2 + 1) (split text)) (up_step up at)
    ∙ reads_folder n (up + 1) (at + 2 + 1) segments path ∙ ap (λ k. Ok (folder k segments)) sum

-- a folder's text is read as that folder
pub folder_of-folder_text : (f : FolderRef) → IsPath f.path → folder_of (folder_text f) ≡ Ok f
unfolding folder folder_of
folder_of-folder_text f path = reads_folder f.up 0 0 f.path path ∙ ap (λ k. Ok (folder k f.path)) (zero-add f.up)
