-- Parts joined by `/`, without the empty ones.
use Rattle.std.proofs.Common.{◌≡◌, ℕ, true, List, [], ◌∷◌, ◌++◌, filter, refl, sym, ap, ◌∙◌, append_assoc}
use Rattle.std.specs.List.{slice_split, join_with_byte, list_all}
use Rattle.std.proofs.lemmas.List.{append-nil}
use Rattle.std.proofs.lemmas.List.Folds.{list_all-append}
use Rattle.path_name.specs.Paths.{is_slash}
use Rattle.class_walk.specs.Patterns.{is_filled, cleaned}
use Rattle.class_walk.specs.Matching.{with_part, with_parts}

abbrev pub join : List (List ℕ) → List ℕ
join parts = join_with_byte 47 parts

join_filled : (x : List ℕ) (xs : List (List ℕ)) → is_filled x ≡ true → is_filled (join (x ∷ xs)) ≡ true
join_filled [] xs e = absurd cc
join_filled (byte ∷ bytes) [] e = refl
join_filled (byte ∷ bytes) (y ∷ ys) e = refl

join_more : (x : List ℕ) (xs : List (List ℕ)) (part : List ℕ) → join (x ∷ xs) ++ 47 ∷ part ≡ join (x ∷ (xs ++ part ∷ []))
join_more x [] part = refl
join_more x (y ∷ ys) part = append_assoc x (47 ∷ join (y ∷ ys)) (47 ∷ part) ∙ ap (λ back. x ++ 47 ∷ back) (join_more y ys part)

both : (a b : List (List ℕ)) → list_all is_filled a ≡ true → list_all is_filled b ≡ true → list_all is_filled (a ++ b) ≡ true
both a b all more = rw (list_all-append is_filled a b, all, more) refl

first_filled : (x : List ℕ) (xs : List (List ℕ)) → list_all is_filled (x ∷ xs) ≡ true → is_filled x ≡ true
first_filled [] xs all = absurd cc
first_filled (byte ∷ bytes) xs all = refl

kept : (part : List ℕ) → list_all is_filled (filter is_filled (part ∷ [])) ≡ true
kept [] = refl
kept (byte ∷ bytes) = refl

one_more : (xs : List (List ℕ)) (part : List ℕ) → list_all is_filled xs ≡ true → with_part (join xs) part ≡ join (xs ++ filter is_filled (part ∷ []))
one_more xs [] all = sym (ap join (append-nil xs))
one_more [] (byte ∷ bytes) all = refl
one_more (x ∷ xs) (byte ∷ bytes) all = rw (join_filled x xs (first_filled x xs all)) (join_more x xs (byte ∷ bytes))

filter_first : (part : List ℕ) (parts : List (List ℕ)) → filter is_filled (part ∷ parts) ≡ filter is_filled (part ∷ []) ++ filter is_filled parts
filter_first [] parts = refl
filter_first (byte ∷ bytes) parts = refl

joined_parts : (xs parts : List (List ℕ)) → list_all is_filled xs ≡ true → with_parts (join xs) parts ≡ join (xs ++ filter is_filled parts)
joined_parts xs [] all = sym (ap join (append-nil xs))
joined_parts xs (part ∷ parts) all =
    let first = filter is_filled (part ∷ []) in
    ap (λ clean. with_parts clean parts) (one_more xs part all)
    ∙ joined_parts (xs ++ first) parts (both xs first all (kept part))
    ∙ ap join (append_assoc xs first (filter is_filled parts) ∙ ap (λ back. xs ++ back) (sym (filter_first part parts)))

pub cleaned_is : (text : List ℕ) → with_parts [] (slice_split is_slash text) ≡ cleaned text
unfolding cleaned
cleaned_is text = joined_parts [] (slice_split is_slash text) refl
