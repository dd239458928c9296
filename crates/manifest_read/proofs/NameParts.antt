-- A name is read exactly where the grammar has it.
use Rattle.std.proofs.Common.{◌≡◌, ℕ, suc, inl, inr, arith, ◌+◌, Bool, true, false, cond, ◌&&◌, ◌||◌, List, [], ◌∷◌, ◌++◌, length, take, drop, get_or, Option, Some, None, refl, sym, ap, subst, ◌∙◌, lt-ltb, ltb-true, eqb-true}
use Rattle.std.specs.Prelude.{◌⊎◌, ◌==◌, not, nat_lt, codes}
use Rattle.std.specs.List.{AllByRecursion, list_all, position_or_len}
use Rattle.std.specs.Cmp.Lexicographic.{bytes_decides}
use Rattle.std.proofs.lemmas.List.{length-append, take-append-drop}
use Rattle.std.proofs.lemmas.List.Sums.{split_at_first, prefix_len_stops}
use Rattle.path_name.specs.Orders.{bytes_are_equal}
use Rattle.path_name.specs.Paths.{is_slash}
use Rattle.manifest_read.specs.declared.names.Reached.{Reached}
use Rattle.manifest_read.specs.declared.names.Reached.TheVariants.{Joint, Group, Dash}
use Rattle.manifest_read.specs.Names.{is_name_byte, is_joint, after_group, after_joint, reached_by, is_part_from, is_part, vendor_of, project_of, is_package_name, is_extension}
use Rattle.manifest_read.specs.NameGrammar.{IsGroup, IsJoint, IsJoined, joined, IsPart, IsPackageName, IsExtension}

pub both : (a b : Bool) → a && b ≡ true → (a ≡ true) × (b ≡ true)
both true true e = (refl, refl)
both true false e = absurd cc
both false b e = absurd cc

all_two : (a b : Bool) → a ≡ true → b ≡ true → a && b ≡ true
all_two true true x y = refl
all_two true false x y = absurd cc
all_two false b x y = absurd cc

-- ---- what is read has the form

-- name bytes, maybe none, and what joints join to them
record Rest (double : Bool) (text : List ℕ) : Type 0 where
  letters : List ℕ
  more : List (List ℕ × List ℕ)
  are_letters : list_all is_name_byte letters ≡ true
  are_joined : AllByRecursion (IsJoined double) more
  is : text ≡ letters ++ joined more

-- behind one `-`: a part, or one more `-` and a part
abbrev Dashed : Bool → List ℕ → Type 0
Dashed double text = IsPart double text ⊎ ((rest : List ℕ) × (text ≡ 45 ∷ rest) × IsPart double rest)

abbrev Read : Bool → Reached → List ℕ → Type 0
Read double Joint text = IsPart double text
Read double Group text = Rest double text
Read double Dash text = Dashed double text

-- one more name byte in front
begun : (double : Bool) (byte : ℕ) (text : List ℕ) → is_name_byte byte ≡ true → Rest double text → IsPart double (byte ∷ text)
begun double byte text e r = record {
  group = byte ∷ r.letters;
  more = r.more;
  is_group = record { first = byte; rest = r.letters; letters = all_two (is_name_byte byte) (list_all is_name_byte r.letters) e r.are_letters; is = refl };
  are_joined = r.are_joined;
  is = ap (λ t. byte ∷ t) r.is;
}

longer : (double : Bool) (byte : ℕ) (text : List ℕ) → is_name_byte byte ≡ true → Rest double text → Rest double (byte ∷ text)
longer double byte text e r = record {
  letters = byte ∷ r.letters;
  more = r.more;
  are_letters = all_two (is_name_byte byte) (list_all is_name_byte r.letters) e r.are_letters;
  are_joined = r.are_joined;
  is = ap (λ t. byte ∷ t) r.is;
}

-- a joint and the part behind it
behind : (double : Bool) (joint text : List ℕ) → IsJoint double joint → IsPart double text → Rest double (joint ++ text)
behind double joint text is p = record {
  letters = [];
  more = (joint, p.group) ∷ p.more;
  are_letters = refl;
  are_joined = (record { joint = is; group = p.is_group }, p.are_joined);
  is = ap (λ t. joint ++ t) p.is;
}

dash : (double : Bool) (byte : ℕ) (text : List ℕ) → is_joint byte ≡ true → (double && (byte == 45)) ≡ true → Dashed double text → Rest double (byte ∷ text)
dash double byte text j e (inl p) = behind double (byte ∷ []) text (inl (byte, j, refl)) p
dash double byte text j e (inr d) =
    let is = both double (byte == 45) e in
    let two : byte ∷ 45 ∷ d.0 ≡ byte ∷ text = ap (λ t. byte ∷ t) (sym d.1) in
    subst (Rest double) two (behind double (byte ∷ 45 ∷ []) d.0 (inr (is.0, ap (λ b. b ∷ 45 ∷ []) (eqb-true byte 45 is.1))) d.2)

after_a_group : (double : Bool) (byte : ℕ) (text : List ℕ) (j d : Bool) → is_joint byte ≡ j → (double && (byte == 45)) ≡ d → ((r : Reached) → is_part_from double (Some r) text ≡ true → Read double r text)
    → is_part_from double (cond j (cond d (Some Dash) (Some Joint)) None) text ≡ true → Rest double (byte ∷ text)
after_a_group double byte text true true j d on e = dash double byte text j d (on Dash e)
after_a_group double byte text true false j d on e = behind double (byte ∷ []) text (inl (byte, j, refl)) (on Joint e)
after_a_group double byte text false d j k on e = absurd cc

after_a_dash : (double : Bool) (byte : ℕ) (text : List ℕ) (d : Bool) → (byte == 45) ≡ d → ((r : Reached) → is_part_from double (Some r) text ≡ true → Read double r text)
    → is_part_from double (cond d (Some Joint) None) text ≡ true → Dashed double (byte ∷ text)
after_a_dash double byte text true d on e = inr (text, ap (λ b. b ∷ text) (eqb-true byte 45 d), on Joint e)
after_a_dash double byte text false d on e = absurd cc

one_byte : (double : Bool) (r : Reached) (byte : ℕ) (text : List ℕ) (n : Bool) → is_name_byte byte ≡ n → ((q : Reached) → is_part_from double (Some q) text ≡ true → Read double q text)
    → is_part_from double (cond n (Some Group) (after_joint double r byte)) text ≡ true → Read double r (byte ∷ text)
one_byte double Joint byte text true n on e = begun double byte text n (on Group e)
one_byte double Group byte text true n on e = longer double byte text n (on Group e)
one_byte double Dash byte text true n on e = inl (begun double byte text n (on Group e))
one_byte double Joint byte text false n on e = absurd cc
one_byte double Group byte text false n on e = after_a_group double byte text (is_joint byte) (double && (byte == 45)) refl refl on e
one_byte double Dash byte text false n on e = after_a_dash double byte text (byte == 45) refl on e

read : (double : Bool) (r : Reached) (text : List ℕ) → is_part_from double (Some r) text ≡ true → Read double r text
read double Joint [] e = absurd cc
read double Group [] e = record { letters = []; more = []; are_letters = refl; are_joined = tt; is = refl }
read double Dash [] e = absurd cc
read double r (byte ∷ text) e = one_byte double r byte text (is_name_byte byte) refl (λ q h. read double q text h) e

pub part_read : (double : Bool) (text : List ℕ) → is_part double text ≡ true → IsPart double text
unfolding is_part
part_read double text e = read double Joint text e

-- ---- what has the form is read

letters_pass : (double : Bool) (letters text : List ℕ) → list_all is_name_byte letters ≡ true → is_part_from double (Some Group) (letters ++ text) ≡ is_part_from double (Some Group) text
letters_pass double [] text e = refl
letters_pass double (byte ∷ letters) text e =
    let is = both (is_name_byte byte) (list_all is_name_byte letters) e in
    ap (λ n. is_part_from double (cond n (Some Group) (after_joint double Group byte)) (letters ++ text)) is.0 ∙ letters_pass double letters text is.1

group_passes : (double : Bool) (r : Reached) (group text : List ℕ) → IsGroup group → is_part_from double (Some r) (group ++ text) ≡ is_part_from double (Some Group) text
group_passes double r group text g =
    let is = both (is_name_byte g.first) (list_all is_name_byte g.rest) g.letters in
    ap (λ t. is_part_from double (Some r) (t ++ text)) g.is
    ∙ ap (λ n. is_part_from double (cond n (Some Group) (after_joint double r g.first)) (g.rest ++ text)) is.0 ∙ letters_pass double g.rest text is.1

-- a joint is no name byte
joint_is_none : (byte : ℕ) → is_joint byte ≡ true → is_name_byte byte ≡ false
joint_is_none byte e = by (byte == 95) (byte == 46) (byte == 45) refl refl refl e
  where
    by : (a b c : Bool) → (byte == 95) ≡ a → (byte == 46) ≡ b → (byte == 45) ≡ c → (a || b || c) ≡ true → is_name_byte byte ≡ false
    by true b c x y z h = ap is_name_byte (eqb-true byte 95 x)
    by false true c x y z h = ap is_name_byte (eqb-true byte 46 y)
    by false false true x y z h = ap is_name_byte (eqb-true byte 45 z)
    by false false false x y z h = absurd cc

one_passes : (double : Bool) (byte : ℕ) (group text : List ℕ) (d : Bool) → IsGroup group → is_part_from double (cond d (Some Dash) (Some Joint)) (group ++ text) ≡ is_part_from double (Some Group) text
one_passes double byte group text true g = group_passes double Dash group text g
one_passes double byte group text false g = group_passes double Joint group text g

joined_passes : (double : Bool) (joint group text : List ℕ) → IsJoint double joint → IsGroup group → is_part_from double (Some Group) (joint ++ (group ++ text)) ≡ is_part_from double (Some Group) text
joined_passes double joint group text (inl j) g =
    let byte = j.0 in
    ap (λ t. is_part_from double (Some Group) (t ++ (group ++ text))) j.2
    ∙ ap (λ n. is_part_from double (cond n (Some Group) (after_group double byte)) (group ++ text)) (joint_is_none byte j.1)
    ∙ ap (λ n. is_part_from double (cond n (cond (double && (byte == 45)) (Some Dash) (Some Joint)) None) (group ++ text)) j.1
    ∙ one_passes double byte group text (double && (byte == 45)) g
joined_passes double joint group text (inr d) g =
    ap (λ t. is_part_from double (Some Group) (t ++ (group ++ text))) d.1
    ∙ ap (λ b. is_part_from double (cond (b && true) (Some Dash) (Some Joint)) (45 ∷ group ++ text)) d.0
    ∙ group_passes double Joint group text g

all_pass : (double : Bool) (more : List (List ℕ × List ℕ)) → AllByRecursion (IsJoined double) more → is_part_from double (Some Group) (joined more) ≡ true
all_pass double [] all = refl
all_pass double (pieces ∷ more) all = joined_passes double pieces.0 pieces.1 (joined more) all.0.joint all.0.group ∙ all_pass double more all.1

pub part_spelled : (double : Bool) (text : List ℕ) → IsPart double text → is_part double text ≡ true
unfolding is_part
part_spelled double text p = ap (is_part_from double (Some Joint)) p.is ∙ group_passes double Joint p.group (joined p.more) p.is_group ∙ all_pass double p.more p.are_joined

-- ---- names of packages

-- no byte of a part is a `/`
after_slash : (double : Bool) (r : Reached) → after_joint double r 47 ≡ None
after_slash double Joint = refl
after_slash double Group = refl
after_slash double Dash = refl

not_slash : (double : Bool) (r : Reached) (byte : ℕ) (text : List ℕ) → is_part_from double (reached_by double r byte) text ≡ true → is_slash byte ≡ false
not_slash double r byte text e = by (is_slash byte) refl
  where
    by : (s : Bool) → is_slash byte ≡ s → is_slash byte ≡ false
    by false h = h
    by true h =
        let none : is_part_from double None text ≡ true = ap (λ o. is_part_from double o text) (sym (after_slash double r)) ∙ ap (λ b. is_part_from double (reached_by double r b) text) (sym (eqb-true byte 47 h)) ∙ e in
        absurd cc

place : (double : Bool) (o : Option Reached) (vendor project : List ℕ) → is_part_from double o vendor ≡ true → position_or_len is_slash (vendor ++ 47 ∷ project) ≡ length vendor
place double None vendor project e = absurd cc
place double (Some r) [] project e = refl
place double (Some r) (byte ∷ vendor) project e =
    let on : 1 + length vendor ≡ suc (length vendor) = omega arith in
    ap (λ s. cond (not s) (1 + position_or_len is_slash (vendor ++ 47 ∷ project)) 0) (not_slash double r byte vendor e)
    ∙ ap (λ n. 1 + n) (place double (reached_by double r byte) vendor project e) ∙ on

front : (xs ys : List ℕ) → take (length xs) (xs ++ ys) ≡ xs
front [] ys = refl
front (x ∷ xs) ys = ap (λ zs. x ∷ zs) (front xs ys)

back : (xs ys : List ℕ) → drop (length xs + 1) (xs ++ 47 ∷ ys) ≡ ys
back [] ys = refl
back (x ∷ xs) ys =
    let on : length (x ∷ xs) + 1 ≡ suc (length xs + 1) = omega arith in
    ap (λ n. drop n (x ∷ xs ++ 47 ∷ ys)) on ∙ back xs ys

shorter : (xs ys : List ℕ) → nat_lt (length xs) (length (xs ++ 47 ∷ ys)) ≡ true
shorter xs ys = lt-ltb (length xs) (length (xs ++ 47 ∷ ys)) (omega (arith, length-append xs (47 ∷ ys)))

pub package_spelled : (name : List ℕ) → IsPackageName name → is_package_name name ≡ true
unfolding is_package_name is_part
package_spelled name p = subst (λ n. is_package_name n ≡ true) (sym p.is) (all_two _ _ within (all_two _ _ vendor project))
  where
    vendor_read : is_part false p.vendor ≡ true
    vendor_read = part_spelled false p.vendor p.is_vendor

    at : position_or_len is_slash (p.vendor ++ 47 ∷ p.project) ≡ length p.vendor
    at = place false (Some Joint) p.vendor p.project vendor_read

    within : nat_lt (position_or_len is_slash (p.vendor ++ 47 ∷ p.project)) (length (p.vendor ++ 47 ∷ p.project)) ≡ true
    within = ap (λ n. nat_lt n (length (p.vendor ++ 47 ∷ p.project))) at ∙ shorter p.vendor p.project

    vendor : is_part false (vendor_of (p.vendor ++ 47 ∷ p.project)) ≡ true
    vendor = ap (λ n. is_part false (take n (p.vendor ++ 47 ∷ p.project))) at ∙ ap (is_part false) (front p.vendor (47 ∷ p.project)) ∙ vendor_read

    project : is_part true (project_of (p.vendor ++ 47 ∷ p.project)) ≡ true
    project = ap (λ n. is_part true (drop (n + 1) (p.vendor ++ 47 ∷ p.project))) at ∙ ap (is_part true) (back p.vendor p.project) ∙ part_spelled true p.project p.is_project

-- the byte between the parts is the first `/`
slash_there : (b : Bool) → not b ≡ false → b ≡ true
slash_there true e = refl
slash_there false e = absurd cc

cut : (name : List ℕ) → nat_lt (position_or_len is_slash name) (length name) ≡ true → name ≡ vendor_of name ++ 47 ∷ project_of name
cut name e =
    let within = ltb-true (position_or_len is_slash name) (length name) e in
    let byte = get_or name (position_or_len is_slash name) 0 in
    let is : byte ≡ 47 = eqb-true byte 47 (slash_there (is_slash byte) (prefix_len_stops (λ b. not (is_slash b)) name 0 within)) in
    split_at_first is_slash name 0 within ∙ ap (λ b. vendor_of name ++ b ∷ project_of name) is

pub package_read : (name : List ℕ) → is_package_name name ≡ true → IsPackageName name
unfolding is_package_name
package_read name e =
    let a = both (nat_lt (position_or_len is_slash name) (length name)) _ e in
    let b = both (is_part false (vendor_of name)) (is_part true (project_of name)) a.1 in
    record { vendor = vendor_of name; project = project_of name; is_vendor = part_read false (vendor_of name) b.0; is_project = part_read true (project_of name) b.1; is = cut name a.0 }

-- ---- extensions

pub extension_spelled : (name : List ℕ) → IsExtension name → is_extension name ≡ true
unfolding is_extension
extension_spelled name x = by x.is
  where
    read_part : is_part false x.part ≡ true
    read_part = part_spelled false x.part x.is_part

    by : (name ≡ codes "ext-" ++ x.part) ⊎ (name ≡ codes "lib-" ++ x.part) → is_extension name ≡ true
    by (inl e) = subst (λ n. is_extension n ≡ true) (sym e) read_part
    by (inr e) = subst (λ n. is_extension n ≡ true) (sym e) read_part

pub extension_read : (name : List ℕ) → is_extension name ≡ true → IsExtension name
unfolding is_extension
extension_read name e =
    let a = both (bytes_are_equal (take 4 name) (codes "ext-") || bytes_are_equal (take 4 name) (codes "lib-")) _ e in
    record { part = drop 4 name; is_part = part_read false (drop 4 name) a.1; is = by (bytes_are_equal (take 4 name) (codes "ext-")) refl a.0 }
  where
    whole : (head : List ℕ) → bytes_are_equal (take 4 name) head ≡ true → name ≡ head ++ drop 4 name
    whole head h = sym (take-append-drop 4 name) ∙ ap (λ t. t ++ drop 4 name) ((bytes_decides (take 4 name) head).0 h)

    by : (b : Bool) → bytes_are_equal (take 4 name) (codes "ext-") ≡ b → b || bytes_are_equal (take 4 name) (codes "lib-") ≡ true → (name ≡ codes "ext-" ++ drop 4 name) ⊎ (name ≡ codes "lib-" ++ drop 4 name)
    by true h k = inl (whole (codes "ext-") h)
    by false h k = inr (whole (codes "lib-") k)
