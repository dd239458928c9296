-- The eight rules by cases on the text: what each takes, where an earlier rule that takes the text bars the later
-- ones (Composer documentation, "Versions and constraints"; composer/semver, VersionParser::normalize).
use Rattle.std.specs.Prelude.{◌≡◌, ℕ, ◌-◌, ◌<◌, List, ◌∷◌, ◌++◌, length, true, false, not, ◌⊎◌, Result, Ok, Err, codes, slice_index}
use Rattle.std.specs.List.{list_all, list_any}
use Rattle.path_name.specs.Bytes.{is_blank, lowered}
use Rattle.version_norm.specs.declared.fault.VersionFault.{VersionFault}
use Rattle.version_norm.specs.declared.fault.VersionFault.TheVariants.{DateVersion, NotAVersion}
use Rattle.version_norm.specs.declared.version.Numbered.{Numbered}
use Rattle.version_norm.specs.declared.version.Version.{Version}
use Rattle.version_norm.specs.declared.version.Version.TheVariants as versions
use Rattle.version_norm.specs.Versions.{is_flag, is_main_line, is_in_branch_name, is_plus, is_blank_or_comma, is_date}
use Rattle.version_norm.specs.Grammar.{IsClassical, IsNumberedBranch}

-- blanks, a text whose first and last byte are no blanks, and blanks
pub record IsTrimmed (text middle : List ℕ) : Type 0 where
  pub before : List ℕ
  pub after : List ℕ
  pub whole : text ≡ before ++ (middle ++ after)
  pub blank_before : list_all is_blank before ≡ true
  pub blank_after : list_all is_blank after ≡ true
  pub first : is_blank (slice_index middle 0) ≡ false
  pub last : is_blank (slice_index middle (length middle - 1)) ≡ false

-- a text, `@` and a stability in any case
abbrev pub IsFlagged : List ℕ → List ℕ → Type 0
IsFlagged text front = (word : List ℕ) × (text ≡ front ++ 64 ∷ word) × (is_flag word ≡ true)

-- `dev-` in any case and at least one byte, none of them a blank, `,` or `|`
abbrev pub IsBranch : List ℕ → List ℕ → Type 0
IsBranch text name = (mark : List ℕ) × (rest : List ℕ) × (text ≡ mark ++ rest) × (lowered mark ≡ codes "dev-") × (0 < length rest) × (list_all is_in_branch_name rest ≡ true)
    × (name ≡ codes "dev-" ++ rest)

-- a text without blank or comma, with a first `+` that has something on both sides
abbrev pub IsBuilt : List ℕ → List ℕ → Type 0
IsBuilt text front = (build : List ℕ) × (text ≡ front ++ 43 ∷ build) × (list_all (λ byte. not (is_plus byte)) front ≡ true) × (0 < length front) × (0 < length build)
    × (list_any is_blank_or_comma text ≡ false)

-- the rule takes the text in no way
abbrev pub IsNever : {X : Type 0} → (List ℕ → X → Type 0) → List ℕ → Type 0
IsNever {X} Takes text = (x : X) → Takes text x → ⊥

-- what is left of a text: what the cut leaves, or all of it where it takes the text in no way
abbrev pub IsLeft : (List ℕ → List ℕ → Type 0) → List ℕ → List ℕ → Type 0
IsLeft IsCut text left = IsCut text left ⊎ (IsNever IsCut text × (left ≡ text))

-- `master`, `trunk` and `default` with `dev-` before them; another text as it is
abbrev pub IsMarked : List ℕ → List ℕ → Type 0
IsMarked text marked = ((is_main_line text ≡ true) × (marked ≡ codes "dev-" ++ text)) ⊎ ((is_main_line text ≡ false) × (marked ≡ text))

-- What the rules from 3 on give, of a text that rules 1 and 2 have been applied to.
pub data RuleGives : List ℕ → Result Version VersionFault → Type 0 where
  branch : {text name : List ℕ} → IsBranch text name → RuleGives text (Ok (versions.Branch name))
  classical : {text left : List ℕ} {v : Numbered} → IsNever IsBranch text → IsLeft IsBuilt text left → IsClassical left v → RuleGives text (Ok (versions.Numbered v))
  numbered_branch : {text left : List ℕ} {v : Numbered} → IsNever IsBranch text → IsLeft IsBuilt text left → IsNever IsClassical left → IsNumberedBranch left v
      → RuleGives text (Ok (versions.Numbered v))
  date : {text left : List ℕ} → IsNever IsBranch text → IsLeft IsBuilt text left → IsNever IsClassical left → IsNever IsNumberedBranch left → is_date left ≡ true → RuleGives text (Err DateVersion)
  no_version : {text left : List ℕ} → IsNever IsBranch text → IsLeft IsBuilt text left → IsNever IsClassical left → IsNever IsNumberedBranch left → is_date left ≡ false
      → RuleGives text (Err NotAVersion)

-- A text has this version, or this fault: blanks are cut, rule 1 cuts a stability, rule 2 names a main line, and the
-- first of the rules from 3 on that takes what is left gives it.
pub record HasForm (text : List ℕ) (form : Result Version VersionFault) : Type 0 where
  pub middle : List ℕ
  pub front : List ℕ
  pub marked : List ℕ
  pub blanks : IsTrimmed text middle
  pub stability : IsLeft IsFlagged middle front
  pub main_line : IsMarked front marked
  pub rule : RuleGives marked form
