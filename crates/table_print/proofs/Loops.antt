-- What loops add, one after the other.
use Rattle.std.proofs.Common.{◌≡◌, ℕ, ◌+◌, ◌<◌, List, [], ◌∷◌, ◌++◌, length, take, All, refl, sym, ap, subst, ◌∙◌, append_assoc, arith}
use Rattle.std.specs.List.{flat_map}
use Rattle.std.proofs.lemmas.List.{length-take-le, flat_map_more}
use Rattle.std.proofs.lemmas.List.Elements.{All-nil, All-cons, All-append}
use Rattle.table_print.specs.TablePrinting.{folders_between, path_expression, folders_text}
use Rattle.table_print.specs.Parts.{separator}

-- one more of which it is true
pub all_more : {X : Type 0} (P : X → Type 0) (xs : List X) (i : ℕ) (x : X) → take (i + 1) xs ≡ take i xs ++ x ∷ [] → All P (take i xs) → P x → All P (take (i + 1) xs)
all_more P xs i x more h p = subst (λ ys. All P ys) (sym more) (All-append P (take i xs) (x ∷ []) h (All-cons P x [] p (All-nil P)))

-- one more folder of a row
pub folders_text-push : (project : List (List ℕ)) (folders : List (List (List ℕ))) (folder : List (List ℕ)) → folders_text project (folders ++ folder ∷ []) ≡ folders_text project folders ++ (separator (length folders) ++ path_expression project folder)
folders_text-push project [] folder = refl
folders_text-push project (first ∷ []) folder = refl
folders_text-push project (first ∷ next ∷ rest) folder =
    ap (λ back. path_expression project first ++ (folders_between ++ back)) (folders_text-push project (next ∷ rest) folder)
    ∙ ap (λ back. path_expression project first ++ back) (sym (append_assoc folders_between (folders_text project (next ∷ rest)) (folders_between ++ path_expression project folder)))
    ∙ sym (append_assoc (path_expression project first) (folders_between ++ folders_text project (next ∷ rest)) (folders_between ++ path_expression project folder))

-- the same in the words of a loop
pub one_more_folder : (project : List (List ℕ)) (folders : List (List (List ℕ))) (folder : List (List ℕ)) (i : ℕ) (before out now : List ℕ) → i < length folders → take (i + 1) folders ≡ take i folders ++ folder ∷ [] → out ≡ before ++ folders_text project (take i folders)
    → now ≡ (out ++ separator i) ++ path_expression project folder → now ≡ before ++ folders_text project (take (i + 1) folders)
one_more_folder project folders folder i before out now l more so_far is =
    let long : length (take i folders) ≡ i = length-take-le i folders (omega arith) in
    let text : folders_text project (take (i + 1) folders) ≡ folders_text project (take i folders) ++ (separator i ++ path_expression project folder)
    = ap (λ fs. folders_text project fs) more ∙ folders_text-push project (take i folders) folder ∙ ap (λ n. folders_text project (take i folders) ++ (separator n ++ path_expression project folder)) long in
    is ∙ ap (λ t. (t ++ separator i) ++ path_expression project folder) so_far ∙ append_assoc (before ++ folders_text project (take i folders)) (separator i) (path_expression project folder)
    ∙ append_assoc before (folders_text project (take i folders)) (separator i ++ path_expression project folder) ∙ ap (λ t. before ++ t) (sym text)

-- one more row
pub one_more_row : {R : Type 0} (text : R → List ℕ) (rows : List R) (row : R) (i : ℕ) (before out now : List ℕ) → take (i + 1) rows ≡ take i rows ++ row ∷ [] → out ≡ before ++ flat_map text (take i rows) → now ≡ out ++ text row → now ≡ before ++ flat_map text (take (i + 1) rows)
one_more_row text rows row i before out now more so_far is = is ∙ ap (λ t. t ++ text row) so_far ∙ flat_map_more text before (take i rows) row ∙ ap (λ rs. before ++ flat_map text rs) (sym more)
