-- The bytes of a name are ASCII, so a name is UTF-8.
use Rattle.std.proofs.Common.{◌≡◌, ℕ, ◌<◌, Bool, true, false, cond, ◌&&◌, ◌||◌, List, [], ◌∷◌, ◌++◌, Option, Some, None, inl, inr, refl, sym, ap, subst, ◌∙◌, arith, ltb-true}
use Rattle.std.specs.Prelude.{◌⊎◌, ◌==◌, nat_lt, codes}
use Rattle.std.specs.List.{list_all, list_any}
use Rattle.std.specs.Str.{IsAscii, IsUtf8}
use Rattle.std.specs.Cmp.Lexicographic.{bytes_decides}
use Rattle.std.proofs.lemmas.Str.{IsAscii-append, IsUtf8-from_ascii}
use Rattle.std.proofs.lemmas.Str.Ascii.{IsAscii-nil, IsAscii-cons}
use Rattle.path_name.specs.Orders.{bytes_are_equal}
use Rattle.manifest_read.specs.declared.names.Reached.{Reached}
use Rattle.manifest_read.specs.declared.names.Reached.TheVariants.{Joint, Group, Dash}
use Rattle.manifest_read.specs.Names.{is_name_byte, is_joint, after_group, reached_by, is_part_from, is_part, is_package_name, platform_words, is_extension, is_platform_name, is_link_name}
use Rattle.manifest_read.proofs.NameParts.{both, package_read, extension_read, part_spelled}

abbrev pub is_low : ℕ → Bool
is_low byte = nat_lt byte 128

low_ascii : (text : List ℕ) → list_all is_low text ≡ true → IsAscii text
low_ascii [] e = IsAscii-nil
low_ascii (byte ∷ text) e =
    let are = both (is_low byte) (list_all is_low text) e in
    IsAscii-cons byte text (ltb-true byte 128 are.0) (low_ascii text are.1)

-- a text of bytes below 128, as this can be computed of a literal
pub low_utf8 : (text : List ℕ) → list_all is_low text ≡ true → IsUtf8 text
low_utf8 text e = IsUtf8-from_ascii text (low_ascii text e)

name_byte_low : (byte : ℕ) → is_name_byte byte ≡ true → byte < 128
name_byte_low byte e = grind arith

joint_low : (byte : ℕ) → is_joint byte ≡ true → byte < 128
joint_low byte e = grind arith

no_dash : (byte : ℕ) → is_joint byte ≡ false → (byte == 45) ≡ false
no_dash byte e = grind arith

-- a byte of another kind ends the reading
other_byte : (double : Bool) (r : Reached) (byte : ℕ) → is_name_byte byte ≡ false → is_joint byte ≡ false → reached_by double r byte ≡ None
other_byte double Joint byte n j = ap (λ b. cond b (Some Group) None) n
other_byte double Group byte n j = ap (λ b. cond b (Some Group) (after_group double byte)) n ∙ ap (λ b. cond b (cond (double && (byte == 45)) (Some Dash) (Some Joint)) None) j
other_byte double Dash byte n j = ap (λ b. cond b (Some Group) (cond (byte == 45) (Some Joint) None)) n ∙ ap (λ b. cond b (Some Joint) None) (no_dash byte j)

byte_low : (double : Bool) (r : Reached) (byte : ℕ) (text : List ℕ) → is_part_from double (reached_by double r byte) text ≡ true → byte < 128
byte_low double r byte text e = by (is_name_byte byte) (is_joint byte) refl refl
  where
    by : (n j : Bool) → is_name_byte byte ≡ n → is_joint byte ≡ j → byte < 128
    by true j n k = name_byte_low byte n
    by false true n k = joint_low byte k
    by false false n k =
        let none : is_part_from double None text ≡ true = ap (λ o. is_part_from double o text) (sym (other_byte double r byte n k)) ∙ e in
        absurd cc

part_from_ascii : (double : Bool) (o : Option Reached) (text : List ℕ) → is_part_from double o text ≡ true → IsAscii text
part_from_ascii double None text e = absurd cc
part_from_ascii double (Some r) [] e = IsAscii-nil
part_from_ascii double (Some r) (byte ∷ text) e = IsAscii-cons byte text (byte_low double r byte text e) (part_from_ascii double (reached_by double r byte) text e)

part_ascii : (double : Bool) (text : List ℕ) → is_part double text ≡ true → IsAscii text
unfolding is_part
part_ascii double text e = part_from_ascii double (Some Joint) text e

pub package_name_utf8 : (name : List ℕ) → is_package_name name ≡ true → IsUtf8 name
package_name_utf8 name e =
    let p = package_read name e in
    let vendor = part_ascii false p.vendor (part_spelled false p.vendor p.is_vendor) in
    let project = part_ascii true p.project (part_spelled true p.project p.is_project) in
    subst IsUtf8 (sym p.is) (IsUtf8-from_ascii (p.vendor ++ 47 ∷ p.project) (IsAscii-append p.vendor (47 ∷ p.project) vendor (IsAscii-cons 47 p.project (omega arith) project)))

extension_utf8 : (name : List ℕ) → is_extension name ≡ true → IsUtf8 name
extension_utf8 name e = by (extension_read name e).is
  where
    part : List ℕ
    part = (extension_read name e).part

    ascii : IsAscii part
    ascii = part_ascii false part (part_spelled false part (extension_read name e).is_part)

    behind : (a b c : ℕ) → a < 128 → b < 128 → c < 128 → IsAscii (a ∷ b ∷ c ∷ 45 ∷ part)
    behind a b c x y z = IsAscii-cons a (b ∷ c ∷ 45 ∷ part) x (IsAscii-cons b (c ∷ 45 ∷ part) y (IsAscii-cons c (45 ∷ part) z (IsAscii-cons 45 part (omega arith) ascii)))

    by : (name ≡ codes "ext-" ++ part) ⊎ (name ≡ codes "lib-" ++ part) → IsUtf8 name
    by (inl is) = subst IsUtf8 (sym is) (IsUtf8-from_ascii (101 ∷ 120 ∷ 116 ∷ 45 ∷ part) (behind 101 120 116 (omega arith) (omega arith) (omega arith)))
    by (inr is) = subst IsUtf8 (sym is) (IsUtf8-from_ascii (108 ∷ 105 ∷ 98 ∷ 45 ∷ part) (behind 108 105 98 (omega arith) (omega arith) (omega arith)))

-- one of some words is UTF-8
one_word : (name word : List ℕ) (words : List (List ℕ)) (b : Bool) → bytes_are_equal name word ≡ b → list_all is_low word ≡ true → (list_any (bytes_are_equal name) words ≡ true → IsUtf8 name)
    → b || list_any (bytes_are_equal name) words ≡ true → IsUtf8 name
one_word name word words true e low more any = subst IsUtf8 (sym ((bytes_decides name word).0 e)) (low_utf8 word low)
one_word name word words false e low more any = more any

word_utf8 : (name : List ℕ) (words : List (List ℕ)) → list_all (list_all is_low) words ≡ true → list_any (bytes_are_equal name) words ≡ true → IsUtf8 name
word_utf8 name [] low e = absurd cc
word_utf8 name (word ∷ words) low e =
    let are = both (list_all is_low word) (list_all (list_all is_low) words) low in
    one_word name word words (bytes_are_equal name word) refl are.0 (word_utf8 name words are.1) e

words_low : list_all (list_all is_low) platform_words ≡ true
unfolding platform_words
words_low = refl

of_either : (name : List ℕ) (a b : Bool) → (a ≡ true → IsUtf8 name) → (b ≡ true → IsUtf8 name) → a || b ≡ true → IsUtf8 name
of_either name true b one other e = one refl
of_either name false b one other e = other e

platform_name_utf8 : (name : List ℕ) → is_platform_name name ≡ true → IsUtf8 name
unfolding is_platform_name
platform_name_utf8 name e = of_either name (list_any (bytes_are_equal name) platform_words) (is_extension name) (word_utf8 name platform_words words_low) (extension_utf8 name) e

pub link_name_utf8 : (name : List ℕ) → is_link_name name ≡ true → IsUtf8 name
unfolding is_link_name
link_name_utf8 name e = of_either name (is_package_name name) (is_platform_name name) (package_name_utf8 name) (platform_name_utf8 name) e
