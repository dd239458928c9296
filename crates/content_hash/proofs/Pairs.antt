-- The pieces of the hashed text, joined.
use Rattle.std.proofs.Common.{◌≡◌, ℕ, zero, suc, ◌<◌, Bool, true, false, ◌&&◌, List, [], ◌∷◌, ◌++◌, length, map, drop, get_or, Option, Some, None, refl, sym, ap, ◌∙◌, append_assoc, codes, lit<, arith, ◌≤◌, drop-cons, length-drop}
use Rattle.std.specs.Borrow.{Bor}
use Rattle.std.specs.Prelude.{not}
use Rattle.std.specs.List.{list_all, filter_map, join_with_byte}
use Rattle.std.specs.Option.{option_to_list}
use Rattle.std.proofs.lemmas.List.{append-nil, nil_from_length}
use Rattle.std.proofs.lemmas.Fmt.{decimal_digit}
use Rattle.path_name.specs.Orders.{bytes_are_equal}
use Rattle.path_name.specs.Decimals.{decimal_text}
use Rattle.json_ordered.specs.JsonTree.{JsonTree, Null, Boolean, Number, String, Array, Object, object_of, members_of, HasUtf8Texts}
use Rattle.json_ordered.specs.JsonParts.{value_at}
use Rattle.json_ordered.specs.JsonPrinting.{is_kept}
use Rattle.json_ordered.specs.JsonTexts.{compact_text, compact_members, are_places}
use Rattle.json_ordered.proofs.Kept.{kept_string}
use Rattle.json_ordered.proofs.Inside.{texts_inside}
use Rattle.content_hash.specs.HashedText.{hashed_names, pair_at, unless_null, platform_of, config_pair, hashed_pairs, hashed_text_of}
use Rattle.content_hash.specs.HashedParts.{pair_text, is_first, opening, part_of, ending, rest_of, found_pairs}

-- a name that isn't `0`, so that no object with it in front is taken for a list
abbrev pub is_key : List ℕ → Bool
is_key name = not (bytes_are_equal name (codes "0"))

zero_text : decimal_text 0 ≡ codes "0"
zero_text = decimal_digit 0 (lit< tt)

abbrev FirstIsKey : List (List ℕ × JsonTree) → Type 0
FirstIsKey [] = Unit {0}
FirstIsKey (p ∷ ps) = is_key p.0 ≡ true

joined : (p : List ℕ × JsonTree) (ps : List (List ℕ × JsonTree)) → join_with_byte 44 (compact_members (members_of (p ∷ ps))) ++ 125 ∷ [] ≡ pair_text p ++ rest_of false ps
unfolding compact_members
joined p [] = refl
joined p (q ∷ ps) = append_assoc (pair_text p) (44 ∷ join_with_byte 44 (compact_members (members_of (q ∷ ps)))) (125 ∷ []) ∙ ap (λ (t : List ℕ). pair_text p ++ 44 ∷ t) (joined q ps)

no_place : (b c : Bool) → not b ≡ true → b && c ≡ false
no_place true c h = absurd cc
no_place false c h = refl

-- the text of an object whose first name is a key
pub whole : (ps : List (List ℕ × JsonTree)) → FirstIsKey ps → compact_text (object_of ps) ≡ rest_of true ps
unfolding compact_text
whole [] h = refl
whole (p ∷ ps) h = rw (zero_text, no_place (bytes_are_equal p.0 (codes "0")) (are_places 1 (members_of ps)) h) (ap (λ (t : List ℕ). 123 ∷ t) (joined p ps))

-- ---- the keys

names_are_keys : (manifest : JsonTree) (names : List (List ℕ)) → list_all is_key names ≡ true → FirstIsKey (filter_map (pair_at manifest) names)
names_are_keys manifest [] h = tt
names_are_keys manifest (name ∷ names) h =
    let p = parts (is_key name) (list_all is_key names) h in
    by (value_at manifest name) refl p.0 (names_are_keys manifest names p.1)
  where
    parts : (b c : Bool) → b && c ≡ true → (b ≡ true) × (c ≡ true)
    parts true c k = (refl, k)
    parts false c k = absurd cc

    by : (v : Option JsonTree) → value_at manifest name ≡ v → is_key name ≡ true → FirstIsKey (filter_map (pair_at manifest) names) → FirstIsKey (filter_map (pair_at manifest) (name ∷ names))
    by (Some v) e k rest = rw e k
    by None e k rest = rw e rest

pairs_are_keys : (manifest : JsonTree) → FirstIsKey (hashed_pairs manifest)
pairs_are_keys manifest = by (platform_of (value_at manifest (codes "config"))) refl
  where
    by : (v : Option JsonTree) → platform_of (value_at manifest (codes "config")) ≡ v → FirstIsKey (hashed_pairs manifest)
    by (Some v) e = rw e refl
    by None e = rw e (names_are_keys manifest hashed_names refl)

pub text_is : (manifest : JsonTree) → hashed_text_of manifest ≡ rest_of true (hashed_pairs manifest)
text_is manifest = whole (hashed_pairs manifest) (pairs_are_keys manifest)

-- ---- a step of the loop

-- something was added
opened : (out : List ℕ) (first : Bool) (text : List ℕ) → is_first (out ++ (opening first ++ text)) ≡ false
opened [] true text = refl
opened [] false text = refl
opened (byte ∷ out) first text = refl

pub step : (out now all : List ℕ) (p : Option (List ℕ × JsonTree)) (ps : List (List ℕ × JsonTree)) → out ++ rest_of (is_first out) (option_to_list p ++ ps) ≡ all → now ≡ out ++ part_of (is_first out) p → now ++ rest_of (is_first now) ps ≡ all
step out now all (Some p) ps so_far is =
    let text = opening (is_first out) ++ pair_text p in
    let still : is_first now ≡ false = ap is_first is ∙ opened out (is_first out) (pair_text p) in
    rw (still, is) (append_assoc out text (rest_of false ps) ∙ ap (λ (t : List ℕ). out ++ t) (append_assoc (opening (is_first out)) (pair_text p) (rest_of false ps)) ∙ so_far)
step out now all None ps so_far is = let same : now ≡ out = is ∙ append-nil out in rw same so_far

pub begun : (now : List ℕ) (p : Option (List ℕ × JsonTree)) (ps : List (List ℕ × JsonTree)) → now ≡ part_of true p → now ++ rest_of (is_first now) ps ≡ rest_of true (option_to_list p ++ ps)
begun now p ps is = step [] now (rest_of true (option_to_list p ++ ps)) p ps refl is

-- the next key
pub next_key : (manifest : JsonTree) (name : List ℕ) (names : List (List ℕ)) → filter_map (pair_at manifest) (name ∷ names) ≡ option_to_list (pair_at manifest name) ++ filter_map (pair_at manifest) names
next_key manifest name names = by (value_at manifest name) refl
  where
    by : (v : Option JsonTree) → value_at manifest name ≡ v → filter_map (pair_at manifest) (name ∷ names) ≡ option_to_list (pair_at manifest name) ++ filter_map (pair_at manifest) names
    by (Some v) e = rw e refl
    by None e = rw e refl

-- ---- the pieces of a pair

pub found : (manifest value : JsonTree) (name out one two three four now : List ℕ) → list_all is_kept name ≡ true → value_at manifest name ≡ Some value → one ≡ out ++ opening (is_first out) → two ≡ one ++ 34 ∷ [] → three ≡ two ++ name → four ≡ three ++ codes "\":"
    → now ≡ four ++ compact_text value → now ≡ out ++ part_of (is_first out) (pair_at manifest name)
found manifest value name out one two three four now kept e f g h i j =
    rw (e, kept_string name kept) (j ∙ ap (λ (t : List ℕ). t ++ compact_text value) (i ∙ ap (λ (t : List ℕ). t ++ codes "\":") (h ∙ ap (λ (t : List ℕ). t ++ name) (g ∙ ap (λ (t : List ℕ). t ++ 34 ∷ []) f))) ∙ simp append_assoc)

pub platform_text : (manifest value : JsonTree) (out one two now : List ℕ) → platform_of (value_at manifest (codes "config")) ≡ Some value → out ≡ [] → one ≡ out ++ codes "{\"config\":{\"platform\":" → two ≡ one ++ compact_text value → now ≡ two ++ 125 ∷ [] → now ≡ part_of true (config_pair manifest)
unfolding compact_text
platform_text manifest value out one two now e none f g h =
    rw (e, kept_string (codes "config") refl, kept_string (codes "platform") refl, zero_text) (h ∙ ap (λ (t : List ℕ). t ++ 125 ∷ []) (g ∙ ap (λ (t : List ℕ). t ++ compact_text value) (f ∙ ap (λ (t : List ℕ). t ++ codes "{\"config\":{\"platform\":") none)))

pub platform_texts : (manifest value : JsonTree) → platform_of (value_at manifest (codes "config")) ≡ Some value → HasUtf8Texts manifest → HasUtf8Texts value
platform_texts manifest value e h = by_config (value_at manifest (codes "config")) refl e
  where
    by_platform : (v : Option JsonTree) (config : JsonTree) → value_at config (codes "platform") ≡ v → unless_null v ≡ Some value → value_at config (codes "platform") ≡ Some value
    by_platform (Some Null) config f g = absurd cc
    by_platform (Some (Boolean b)) config f g = f ∙ g
    by_platform (Some (Number t)) config f g = f ∙ g
    by_platform (Some (String t)) config f g = f ∙ g
    by_platform (Some (Array vs)) config f g = f ∙ g
    by_platform (Some (Object ms)) config f g = f ∙ g
    by_platform None config f g = absurd cc

    by_config : (v : Option JsonTree) → value_at manifest (codes "config") ≡ v → platform_of v ≡ Some value → HasUtf8Texts value
    by_config (Some config) f g = texts_inside config value (codes "platform") (by_platform (value_at config (codes "platform")) config refl g) (texts_inside manifest config (codes "config") f h)
    by_config None f g = absurd cc

-- ---- the keys in a row

pub kept_at : (names : List (Bor (List ℕ))) (i : ℕ) (d : Bor (List ℕ)) → list_all (λ name. list_all is_kept name.now) names ≡ true → i < length names → list_all is_kept (get_or names i d).now ≡ true
kept_at [] i d h within = absurd (omega arith)
kept_at (name ∷ names) zero d h within = first (list_all is_kept name.now) (list_all (λ n. list_all is_kept n.now) names) h
  where
    first : (b c : Bool) → b && c ≡ true → b ≡ true
    first true c k = refl
    first false c k = absurd cc
kept_at (name ∷ names) (suc i) d h within = kept_at names i d (second (list_all is_kept name.now) (list_all (λ n. list_all is_kept n.now) names) h) (omega arith)
  where
    second : (b c : Bool) → b && c ≡ true → c ≡ true
    second true c k = k
    second false c k = absurd cc

pub key_step : (manifest : JsonTree) (out now all : List ℕ) (names : List (Bor (List ℕ))) (i : ℕ) (d : Bor (List ℕ)) → i < length names
    → out ++ rest_of (is_first out) (found_pairs manifest (drop i names)) ≡ all → now ≡ out ++ part_of (is_first out) (pair_at manifest (get_or names i d).now)
    → now ++ rest_of (is_first now) (found_pairs manifest (drop (suc i) names)) ≡ all
key_step manifest out now all names i d within so_far is =
    step out now all (pair_at manifest (get_or names i d).now) (found_pairs manifest (drop (suc i) names))
    (ap (λ (ps : List (List ℕ × JsonTree)). out ++ rest_of (is_first out) ps) (sym (next_key manifest (get_or names i d).now (map (λ name. name.now) (drop (suc i) names))) ∙ sym (ap (found_pairs manifest) (drop-cons names i d within))) ∙ so_far) is

pub keys_end : (manifest : JsonTree) (out all : List ℕ) (names : List (Bor (List ℕ))) (i : ℕ) → length names ≤ i → out ++ rest_of (is_first out) (found_pairs manifest (drop i names)) ≡ all → out ++ ending (is_first out) ≡ all
keys_end manifest out all names i past so_far =
    ap (λ (ns : List (Bor (List ℕ))). out ++ rest_of (is_first out) (found_pairs manifest ns)) (sym (nil_from_length (drop i names) (omega (arith, length-drop i names)))) ∙ so_far

-- the whole text
pub text_of : (manifest : JsonTree) (config now end : List ℕ) → config ≡ part_of true (config_pair manifest)
    → now ++ ending (is_first now) ≡ config ++ rest_of (is_first config) (filter_map (pair_at manifest) hashed_names) → end ≡ now ++ ending (is_first now) → end ≡ hashed_text_of manifest
text_of manifest config now end is added ends = ends ∙ added ∙ begun config (config_pair manifest) (filter_map (pair_at manifest) hashed_names) is ∙ sym (text_is manifest)
