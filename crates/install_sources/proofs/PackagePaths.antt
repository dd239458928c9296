-- The name of a package is read as a path of two segments.
use Rattle.std.proofs.Common.{◌≡◌, ℕ, zero, suc, ◌<◌, ◌==◌, Bool, true, false, ◌&&◌, ◌||◌, List, [], ◌∷◌, ◌++◌, length, get_or, Ok, refl, ap, ◌∙◌, arith, ltb-true, eqb-true, inl, inr}
use Rattle.std.specs.Prelude.{not, nat_lt}
use Rattle.std.specs.List.{AllByRecursion, list_all, position_or_len}
use Rattle.std.specs.Str.{IsAscii, is_utf8}
use Rattle.std.proofs.Math.Bool.{or-true}
use Rattle.std.proofs.lemmas.Bool.Decides.{nat_tests}
use Rattle.std.proofs.lemmas.List.Folds.{list_all-append}
use Rattle.std.proofs.lemmas.List.Sums.{prefix_len_stops, split_at_first}
use Rattle.std.proofs.lemmas.Str.{IsUtf8-from_ascii, is_utf8-from_IsUtf8}
use Rattle.path_name.specs.Paths.{has_no_slash, is_segment, is_slash, path_of}
use Rattle.path_name.proofs.PathTexts.{path_of-path_text}
use Rattle.tree_dev.specs.Told.{both}
use Rattle.manifest_read.specs.NameGrammar.{IsGroup, IsJoined, IsJoint, joined}
use Rattle.manifest_read.specs.Names.{is_joint, is_name_byte, is_package_name, is_part, project_of, vendor_of}
use Rattle.manifest_read.proofs.NameParts.{part_read}

-- ---- the bytes of a part of a name

abbrev is_part_byte : ℕ → Bool
is_part_byte byte = is_name_byte byte || is_joint byte

all_append : (xs ys : List ℕ) → list_all is_part_byte xs ≡ true → list_all is_part_byte ys ≡ true → list_all is_part_byte (xs ++ ys) ≡ true
all_append xs ys a b = list_all-append is_part_byte xs ys ∙ ap (λ (x : Bool). x && list_all is_part_byte ys) a ∙ b

names_pass : (xs : List ℕ) → list_all is_name_byte xs ≡ true → list_all is_part_byte xs ≡ true
names_pass [] e = refl
names_pass (byte ∷ xs) e =
    let p = both (is_name_byte byte) (list_all is_name_byte xs) e in
    ap (λ (x : Bool). (x || is_joint byte) && list_all is_part_byte xs) p.0 ∙ names_pass xs p.1

joint_byte : (byte : ℕ) → is_joint byte ≡ true → is_part_byte byte ≡ true
joint_byte byte e = ap (λ (x : Bool). is_name_byte byte || x) e ∙ or-true (is_name_byte byte)

joint_passes : (double : Bool) (text : List ℕ) → IsJoint double text → list_all is_part_byte text ≡ true
joint_passes double text (inl one) = ap (list_all is_part_byte) one.2 ∙ ap (λ (x : Bool). x && true) (joint_byte one.0 one.1)
joint_passes double text (inr two) = ap (list_all is_part_byte) two.1

group_passes : (text : List ℕ) → IsGroup text → list_all is_part_byte text ≡ true
group_passes text g = ap (list_all is_part_byte) g.is ∙ names_pass (g.first ∷ g.rest) g.letters

joined_passes : (double : Bool) (more : List (List ℕ × List ℕ)) → AllByRecursion (IsJoined double) more → list_all is_part_byte (joined more) ≡ true
joined_passes double [] all = refl
joined_passes double (pieces ∷ more) all =
    all_append pieces.0 (pieces.1 ++ joined more) (joint_passes double pieces.0 all.0.joint)
    (all_append pieces.1 (joined more) (group_passes pieces.1 all.0.group) (joined_passes double more all.1))

-- ---- a part is a segment

no_nul : (d : ℕ) → is_part_byte d ≡ true → not (d == 0) ≡ true
no_nul d e = grind (arith, nat_tests)

no_slash : (d : ℕ) → is_part_byte d ≡ true → not (d == 47) ≡ true
no_slash d e = grind (arith, nat_tests)

no_dot : (d : ℕ) → is_name_byte d ≡ true → (d == 46) ≡ false
no_dot d e = grind (arith, nat_tests)

small : (d : ℕ) → is_part_byte d ≡ true → d < 128
small d e = grind (arith, nat_tests)

no_nuls : (text : List ℕ) → list_all is_part_byte text ≡ true → list_all (λ byte. not (byte == 0)) text ≡ true
no_nuls [] e = refl
no_nuls (d ∷ ds) e = let p = both (is_part_byte d) (list_all is_part_byte ds) e in rw (no_nul d p.0) (no_nuls ds p.1)

no_slashes : (text : List ℕ) → list_all is_part_byte text ≡ true → has_no_slash text ≡ true
no_slashes [] e = refl
no_slashes (d ∷ ds) e = let p = both (is_part_byte d) (list_all is_part_byte ds) e in rw (no_slash d p.0) (no_slashes ds p.1)

ascii : (text : List ℕ) → list_all is_part_byte text ≡ true → IsAscii text
ascii [] e i = omega arith
ascii (d ∷ ds) e zero = small d (both (is_part_byte d) (list_all is_part_byte ds) e).0
ascii (d ∷ ds) e (suc i) = ascii ds (both (is_part_byte d) (list_all is_part_byte ds) e).1 i

begun_segment : (d : ℕ) (ds : List ℕ) → is_name_byte d ≡ true → list_all is_part_byte (d ∷ ds) ≡ true → is_segment (d ∷ ds) ≡ true
begun_segment d ds first all =
    let p = both (is_part_byte d) (list_all is_part_byte ds) all in
    let utf8 : is_utf8 (d ∷ ds) ≡ true = is_utf8-from_IsUtf8 (d ∷ ds) (IsUtf8-from_ascii (d ∷ ds) (ascii (d ∷ ds) all)) in
    rw (utf8, no_nul d p.0, no_nuls ds p.1, no_slash d p.0, no_slashes ds p.1, no_dot d first) refl

part_segment : (double : Bool) (text : List ℕ) → is_part double text ≡ true → is_segment text ≡ true
part_segment double text e =
    let p = part_read double text e in
    let g = p.is_group in
    let whole : text ≡ g.first ∷ (g.rest ++ joined p.more) = p.is ∙ ap (λ (xs : List ℕ). xs ++ joined p.more) g.is in
    let all : list_all is_part_byte (g.first ∷ (g.rest ++ joined p.more)) ≡ true =
    all_append (g.first ∷ g.rest) (joined p.more) (names_pass (g.first ∷ g.rest) g.letters) (joined_passes double p.more p.are_joined) in
    ap is_segment whole ∙ begun_segment g.first (g.rest ++ joined p.more) (both (is_name_byte g.first) (list_all is_name_byte g.rest) g.letters).0 all

-- ---- both parts

slash_there : (b : Bool) → not b ≡ false → b ≡ true
slash_there true e = refl
slash_there false e = absurd cc

cut : (name : List ℕ) → nat_lt (position_or_len is_slash name) (length name) ≡ true → name ≡ vendor_of name ++ 47 ∷ project_of name
cut name e =
    let within = ltb-true (position_or_len is_slash name) (length name) e in
    let byte = get_or name (position_or_len is_slash name) 0 in
    let is : byte ≡ 47 = eqb-true byte 47 (slash_there (is_slash byte) (prefix_len_stops (λ b. not (is_slash b)) name 0 within)) in
    split_at_first is_slash name 0 within ∙ ap (λ b. vendor_of name ++ b ∷ project_of name) is

two_segments : (v p : List ℕ) → is_segment v ≡ true → is_segment p ≡ true → list_all is_segment (v ∷ p ∷ []) ≡ true
two_segments v p a b = ap (λ (x : Bool). x && (is_segment p && true)) a ∙ ap (λ (x : Bool). x && true) b

pub package_path : (name : List ℕ) → is_package_name name ≡ true → path_of name ≡ Ok (vendor_of name ∷ project_of name ∷ [])
unfolding is_package_name
package_path name e =
    let a = both (nat_lt (position_or_len is_slash name) (length name)) (is_part false (vendor_of name) && is_part true (project_of name)) e in
    let b = both (is_part false (vendor_of name)) (is_part true (project_of name)) a.1 in
    ap path_of (cut name a.0)
    ∙ path_of-path_text (vendor_of name ∷ project_of name ∷ []) (two_segments (vendor_of name) (project_of name) (part_segment false (vendor_of name) b.0) (part_segment true (project_of name) b.1))
