-- How many files a job writes.
use Rattle.std.proofs.Common.{◌≡◌, ℕ, ◌+◌, ◌≤◌, Bool, true, false, cond, List, [], ◌∷◌, ◌++◌, length, map, Option, Some, None, refl, ap, ◌∙◌, inl, inr, arith}
use Rattle.std.proofs.lemmas.List.Sums.{sum_by-append, sum_by-cons}
use Rattle.std.specs.Bool.{one_answer}
use Rattle.std.specs.Prelude.{sum_by}
use Rattle.path_name.specs.Paths.{without_last}
use Rattle.tree_dev.specs.Told.{both}
use Rattle.tree_dev.specs.Trees.{FileTree}
use Rattle.stage_job.specs.Written.{job_files, part_files}
use Rattle.stage_job.specs.declared.job.Part.{Part}
use Rattle.stage_job.specs.declared.job.Source.{Source}
use Rattle.stage_job.specs.declared.job.Source.TheVariants as sources
use Rattle.package_moves.specs.Differing.{are_bytes, differing_files, is_bytes}
use Rattle.package_moves.specs.Found.{AreStanding}
use Rattle.package_moves.specs.Joined.{if_blocked, if_left, left_after, left_parts, own_parts}
use Rattle.package_moves.specs.Moves.{HasFolders, IsJobFor, is_in_way}
use Rattle.package_moves.specs.Needed.{gone_part, gone_parts, needs_of, unneeded}

-- flags that say of the same parts whether they stand are the same
flags_same : (project : List (List ℕ)) (t : FileTree) (parts : List Part) (one other : List Bool) → AreStanding project t parts one → AreStanding project t parts other → one ≡ other
flags_same project t [] [] [] a b = refl
flags_same project t [] [] (g ∷ gs) a b = absurd b
flags_same project t [] (f ∷ fs) other a b = absurd a
flags_same project t (part ∷ parts) [] other a b = absurd a
flags_same project t (part ∷ parts) (f ∷ fs) [] a b = absurd b
flags_same project t (part ∷ parts) (f ∷ fs) (g ∷ gs) a b =
    ap (λ (x : Bool). x ∷ fs) (one_answer f g a.0 b.0) ∙ ap (λ (xs : List Bool). g ∷ xs) (flags_same project t parts fs gs a.1 b.1)

free : (blocked : List (List ℕ) → Bool) → ((path : List (List ℕ)) → blocked path ≡ false) → (o : Option (List (List ℕ))) → if_blocked blocked o ≡ None
free blocked clear None = refl
free blocked clear (Some folder) = ap (λ (b : Bool). cond b (Some folder) None) (clear folder)

none_plus : (n : ℕ) → 0 + n ≡ n
none_plus n = omega arith

plus_none : (n : ℕ) → n + 0 ≡ n
plus_none n = omega arith

module _ (project : List (List ℕ)) (t : FileTree) where
  abbrev count : List Part → ℕ
  count parts = sum_by (λ part. part_files t part.from) parts

  count_append : (xs ys : List Part) → count (xs ++ ys) ≡ count xs + count ys
  count_append xs ys = sum_by-append (λ part. part_files t part.from) xs ys

  own_count : (flag : Bool) (part : Part) → count (if_left flag part) ≡ cond flag 0 (part_files t part.from)
  own_count true part = refl
  own_count false part = sum_by-cons (λ p. part_files t p.from) part [] ∙ plus_none (part_files t part.from)

  -- nothing is in the way: the parts that are left are those that do not stand
  left_count : (blocked : List (List ℕ) → Bool) (wanted : List Part) → ((path : List (List ℕ)) → blocked path ≡ false) → (earlier parts : List Part) (flags : List Bool)
      → count (left_after blocked wanted earlier parts flags) ≡ differing_files t parts flags
  left_count blocked wanted clear earlier [] flags = refl
  left_count blocked wanted clear earlier (part ∷ parts) [] = refl
  left_count blocked wanted clear earlier (part ∷ parts) (flag ∷ flags) =
      count_append (own_parts wanted earlier part flag (if_blocked blocked (without_last part.target))) (left_after blocked wanted (earlier ++ part ∷ []) parts flags)
      ∙ ap (λ (o : Option (List (List ℕ))). count (own_parts wanted earlier part flag o) + count (left_after blocked wanted (earlier ++ part ∷ []) parts flags))
      (free blocked clear (without_last part.target))
      ∙ ap (λ (n : ℕ). n + count (left_after blocked wanted (earlier ++ part ∷ []) parts flags)) (own_count flag part)
      ∙ ap (λ (n : ℕ). cond flag 0 (part_files t part.from) + n) (left_count blocked wanted clear (earlier ++ part ∷ []) parts flags)

  gone_count : (paths : List (List (List ℕ))) → count (map gone_part paths) ≡ 0
  gone_count [] = refl
  gone_count (path ∷ paths) = sum_by-cons (λ p. part_files t p.from) (gone_part path) (map gone_part paths) ∙ none_plus (count (map gone_part paths)) ∙ gone_count paths

  pub job_count : (wanted parts : List Part) (flags : List Bool) → HasFolders project t wanted → IsJobFor project t wanted parts → AreStanding project t wanted flags
      → job_files t parts ≡ differing_files t wanted flags
  unfolding job_files
  job_count wanted parts flags folders (inl makes) standing = absurd (let a = makes.no_folder in let b = folders.vendor in cc)
  job_count wanted parts flags folders (inr makes) standing =
      ap count makes.parts_are ∙ count_append (left_parts (is_in_way project t wanted) wanted makes.flags) (gone_parts project t wanted)
      ∙ ap (λ (n : ℕ). count (left_parts (is_in_way project t wanted) wanted makes.flags) + n) (gone_count (unneeded (needs_of wanted) project t))
      ∙ plus_none (count (left_parts (is_in_way project t wanted) wanted makes.flags)) ∙ left_count (is_in_way project t wanted) wanted folders.names [] wanted makes.flags
      ∙ ap (differing_files t wanted) (flags_same project t wanted makes.flags flags makes.are_standing standing)

-- ---- packages, and then written files

bytes_one : (t : FileTree) (source : Source) (flag : Bool) → is_bytes source ≡ true → cond flag 0 (part_files t source) ≤ 1
bytes_one t (sources.Copy source) flag is = absurd cc
bytes_one t (sources.Bytes bytes) true is = omega arith
bytes_one t (sources.Bytes bytes) false is = omega arith
bytes_one t (sources.Folder inner) flag is = absurd cc
bytes_one t sources.Gone flag is = absurd cc

bytes_few : (t : FileTree) (written : List Part) (flags : List Bool) → are_bytes written ≡ true → differing_files t written flags ≤ length written
bytes_few t [] flags are = omega arith
bytes_few t (part ∷ parts) [] are = omega arith
bytes_few t (part ∷ parts) (flag ∷ flags) are =
    let parts_are = both (is_bytes part.from) (are_bytes parts) are in
    let one = bytes_one t part.from flag parts_are.0 in
    let more = bytes_few t parts flags parts_are.1 in
    omega (arith, one, more)

-- the first flags are those of the packages
split_few : (project : List (List ℕ)) (t : FileTree) (packages written : List Part) (flags all : List Bool) → AreStanding project t packages flags → AreStanding project t (packages ++ written) all
    → are_bytes written ≡ true → differing_files t (packages ++ written) all ≤ differing_files t packages flags + length written
split_few project t [] written flags all standing every are = let few = bytes_few t written all are in omega (arith, few)
split_few project t (part ∷ parts) written [] all standing every are = absurd standing
split_few project t (part ∷ parts) written (flag ∷ flags) [] standing every are = absurd every
split_few project t (part ∷ parts) written (flag ∷ flags) (first ∷ more) standing every are =
    let same = ap (λ (f : Bool). cond f 0 (part_files t part.from)) (one_answer first flag every.0 standing.0) in
    let rest = split_few project t parts written flags more standing.1 every.1 are in
    omega (arith, same, rest)

pub few_files : (project : List (List ℕ)) (t : FileTree) (packages written parts : List Part) (flags : List Bool) → HasFolders project t (packages ++ written) → are_bytes written ≡ true
    → IsJobFor project t (packages ++ written) parts → AreStanding project t packages flags → job_files t parts ≤ differing_files t packages flags + length written
few_files project t packages written parts flags folders are (inl makes) standing = absurd (let a = makes.no_folder in let b = folders.vendor in cc)
few_files project t packages written parts flags folders are (inr makes) standing =
    let count = job_count project t (packages ++ written) parts makes.flags folders (inr makes) makes.are_standing in
    let few = split_few project t packages written flags makes.flags standing makes.are_standing are in
    omega (arith, count, few)
