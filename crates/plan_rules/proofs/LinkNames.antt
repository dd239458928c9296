-- The names of links: those of packages have a `/`, and those of platform packages have none.
use Rattle.std.proofs.Common.{◌≡◌, ℕ, Bool, true, false, not, List, [], ◌∷◌, ◌++◌, refl, sym, ap, ◌∙◌, arith, inl, inr}
use Rattle.std.specs.Prelude.{◌⊎◌, ◌||◌, ◌&&◌, codes}
use Rattle.std.specs.List.{list_any, list_all, AllByRecursion}
use Rattle.std.specs.Cmp.Lexicographic.{same_text}
use Rattle.std.proofs.lemmas.Bool.{false≢true}
use Rattle.std.proofs.lemmas.List.Folds.{list_any-append}
use Rattle.path_name.specs.Orders.{bytes_are_equal}
use Rattle.path_name.specs.Paths.{is_slash}
use Rattle.manifest_read.specs.Names.{is_name_byte, is_joint, is_package_name, platform_words, is_extension, is_platform_name, is_link_name}
use Rattle.manifest_read.specs.NameGrammar.{IsGroup, IsJoint, IsJoined, IsPart, joined}
use Rattle.manifest_read.proofs.NameParts.{package_read, extension_read}
use Rattle.plan_rules.proofs.Lists.{Among, among_any}

left_true : (s t : Bool) → (s && t) ≡ true → s ≡ true
left_true true t e = refl
left_true false t e = e

right_true : (s t : Bool) → (s && t) ≡ true → t ≡ true
right_true true t e = e
right_true false t e = absurd (false≢true e)

-- ---- packages

or_true : (t : Bool) → (t || true) ≡ true
or_true true = refl
or_true false = refl

pub package_slash : (name : List ℕ) → is_package_name name ≡ true → list_any is_slash name ≡ true
package_slash name is =
    let parts = package_read name is in
    ap (list_any is_slash) parts.is ∙ list_any-append is_slash parts.vendor (47 ∷ parts.project) ∙ or_true (list_any is_slash parts.vendor)

-- ---- platform packages

slash_is : (byte : ℕ) → is_slash byte ≡ true → byte ≡ 47
slash_is byte is = grind (arith, is)

-- what says no to a `/` has none
no_slash_by : (p : ℕ → Bool) → p 47 ≡ false → (t : Bool) (byte : ℕ) → is_slash byte ≡ t → p byte ≡ true → t ≡ false
no_slash_by p none true byte e passes = absurd (false≢true (sym none ∙ ap p (sym (slash_is byte e)) ∙ passes))
no_slash_by p none false byte e passes = refl

letters_slash : (text : List ℕ) → list_all is_name_byte text ≡ true → list_any is_slash text ≡ false
letters_slash [] letters = refl
letters_slash (byte ∷ bytes) letters =
    rw (no_slash_by is_name_byte refl (is_slash byte) byte refl (left_true (is_name_byte byte) (list_all is_name_byte bytes) letters))
    (letters_slash bytes (right_true (is_name_byte byte) (list_all is_name_byte bytes) letters))

group_slash : (text : List ℕ) → IsGroup text → list_any is_slash text ≡ false
group_slash text group = ap (list_any is_slash) group.is ∙ letters_slash (group.first ∷ group.rest) group.letters

or_none : (t : Bool) → t ≡ false → (t || false) ≡ false
or_none t e = rw e refl

joint_slash : (text : List ℕ) → IsJoint false text → list_any is_slash text ≡ false
joint_slash text (inl one) = ap (list_any is_slash) one.2 ∙ or_none (is_slash one.0) (no_slash_by is_joint refl (is_slash one.0) one.0 refl one.1)
joint_slash text (inr two) = absurd (false≢true two.0)

joined_slash : (more : List (List ℕ × List ℕ)) → AllByRecursion (IsJoined false) more → list_any is_slash (joined more) ≡ false
joined_slash [] all = refl
joined_slash (pieces ∷ more) all =
    list_any-append is_slash pieces.0 (pieces.1 ++ joined more) ∙ rw (joint_slash pieces.0 all.0.joint) (list_any-append is_slash pieces.1 (joined more) ∙ rw (group_slash pieces.1 all.0.group) (joined_slash more all.1))

part_slash : (text : List ℕ) → IsPart false text → list_any is_slash text ≡ false
part_slash text part = ap (list_any is_slash) part.is ∙ list_any-append is_slash part.group (joined part.more) ∙ rw (group_slash part.group part.is_group) (joined_slash part.more part.are_joined)

front_slash : (name part : List ℕ) → list_any is_slash part ≡ false → (name ≡ codes "ext-" ++ part) ⊎ (name ≡ codes "lib-" ++ part) → list_any is_slash name ≡ false
front_slash name part none (inl e) = ap (list_any is_slash) e ∙ list_any-append is_slash (codes "ext-") part ∙ none
front_slash name part none (inr e) = ap (list_any is_slash) e ∙ list_any-append is_slash (codes "lib-") part ∙ none

extension_slash : (name : List ℕ) → is_extension name ≡ true → list_any is_slash name ≡ false
extension_slash name is = let extension = extension_read name is in front_slash name extension.part (part_slash extension.part extension.is_part) extension.is

word_slash : (word : List ℕ) → Among word platform_words → list_any is_slash word ≡ false
unfolding platform_words
word_slash word (inl e) = ap (list_any is_slash) (sym e)
word_slash word (inr (inl e)) = ap (list_any is_slash) (sym e)
word_slash word (inr (inr (inl e))) = ap (list_any is_slash) (sym e)
word_slash word (inr (inr (inr (inl e)))) = ap (list_any is_slash) (sym e)
word_slash word (inr (inr (inr (inr (inl e))))) = ap (list_any is_slash) (sym e)
word_slash word (inr (inr (inr (inr (inr (inl e)))))) = ap (list_any is_slash) (sym e)
word_slash word (inr (inr (inr (inr (inr (inr (inl e))))))) = ap (list_any is_slash) (sym e)
word_slash word (inr (inr (inr (inr (inr (inr (inr (inl e)))))))) = ap (list_any is_slash) (sym e)
word_slash word (inr (inr (inr (inr (inr (inr (inr (inr (inl e))))))))) = ap (list_any is_slash) (sym e)
word_slash word (inr (inr (inr (inr (inr (inr (inr (inr (inr none))))))))) = absurd none

platform_by : (t : Bool) (name : List ℕ) → list_any (bytes_are_equal name) platform_words ≡ t → (t || is_extension name) ≡ true → list_any is_slash name ≡ false
platform_by true name e is =
    let word = among_any (bytes_are_equal name) platform_words e in
    ap (list_any is_slash) (same_text name word.0 (sym word.2)) ∙ word_slash word.0 word.1
platform_by false name e is = extension_slash name is

pub platform_slash : (name : List ℕ) → is_platform_name name ≡ true → list_any is_slash name ≡ false
unfolding is_platform_name
platform_slash name is = platform_by (list_any (bytes_are_equal name) platform_words) name refl is

-- ---- links that were read

package_by : (t s : Bool) (name : List ℕ) → is_package_name name ≡ t → is_platform_name name ≡ s → (t || s) ≡ true → list_any is_slash name ≡ t
package_by true s name e f is = package_slash name e
package_by false true name e f is = platform_slash name f
package_by false false name e f is = absurd (false≢true is)

platform_otherwise : (t s : Bool) (name : List ℕ) → is_package_name name ≡ t → is_platform_name name ≡ s → (t || s) ≡ true → not (list_any is_slash name) ≡ s
platform_otherwise true true name e f is = absurd (false≢true (sym (platform_slash name f) ∙ package_slash name e))
platform_otherwise true false name e f is = ap not (package_slash name e)
platform_otherwise false true name e f is = ap not (platform_slash name f)
platform_otherwise false false name e f is = absurd (false≢true is)

pub on_package : (name : List ℕ) → is_link_name name ≡ true → list_any is_slash name ≡ is_package_name name
unfolding is_link_name
on_package name is = package_by (is_package_name name) (is_platform_name name) name refl refl is

pub on_platform : (name : List ℕ) → is_link_name name ≡ true → not (list_any is_slash name) ≡ is_platform_name name
unfolding is_link_name
on_platform name is = platform_otherwise (is_package_name name) (is_platform_name name) name refl refl is
