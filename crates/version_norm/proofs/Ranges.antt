-- What the rules read is normal.
use Rattle.std.proofs.Common.{◌≡◌, ℕ, zero, suc, ◌^◌, ◌<◌, Bool, true, false, cond, List, [], ◌∷◌, ◌++◌, length, get_or, Option, Some, None, Result, Ok, Err, refl, sym, subst, arith, inl, inr}
use Rattle.std.specs.Prelude.{codes, ◌&&◌, nat_lt, IfSome, IfOk}
use Rattle.std.specs.List.{list_all, AllByRecursion}
use Rattle.path_name.specs.Given.{GivesValue}
use Rattle.version_norm.specs.declared.fault.VersionFault.{VersionFault}
use Rattle.version_norm.specs.declared.fault.VersionFault.TheVariants.{OutOfMemory}
use Rattle.version_norm.specs.declared.version.Stage.{Stage}
use Rattle.version_norm.specs.declared.version.Numbers.{Numbers}
use Rattle.version_norm.specs.declared.version.Numbered.{Numbered}
use Rattle.version_norm.specs.declared.version.Version.{Version}
use Rattle.version_norm.specs.declared.version.Version.TheVariants as versions
use Rattle.version_norm.specs.Pieces.{Suffix, after_word, anything}
use Rattle.version_norm.specs.Versions.{staged, numbered, is_in_branch_name, branch_named, branch_of, with_branch_mark, without_build, classical_of, numbered_branch_of, fault_of, else_numbered_branch, else_numbered, numbered_form, unflagged_form}
use Rattle.version_norm.specs.VersionOrder.{four_numbers}
use Rattle.version_norm.specs.Grammar.{IsRow, IsPart, IsBranchPart, IsFollowing, IsModifier, four_of, IsClassical, IsNumberedBranch}
use Rattle.version_norm.specs.Normal.{IsNormal, IsNormalVersion}
use Rattle.version_norm.proofs.ReadBack.{number_below}
use Rattle.version_norm.proofs.Read.{classical_takes, numbered_branch_takes}

abbrev AllSmall : List ℕ → Type 0
AllSmall ns = AllByRecursion (λ n. n < 10 ^ 18) ns

row_small : (IsPiece : List ℕ → ℕ → Type 0) → ((piece : List ℕ) (n : ℕ) → IsPiece piece n → n < 10 ^ 18) → (text : List ℕ) (ns : List ℕ) → IsRow IsPiece text ns → AllSmall ns
row_small IsPiece small text [] row = tt
row_small IsPiece small text (n ∷ ns) row = (small row.0 n row.3, row_small IsPiece small row.1 ns row.5)

part_small : (piece : List ℕ) (n : ℕ) → IsPart piece n → n < 10 ^ 18
part_small piece n is = number_below 18 is.0 n is.2

branch_part_small : (piece : List ℕ) (n : ℕ) → IsBranchPart piece n → n < 10 ^ 18
branch_part_small piece n (inl is) = number_below 18 is.0 n is.2
branch_part_small piece n (inr is) = omega (arith, is.3)

following_small : (piece : List ℕ) (n : ℕ) → IsFollowing piece n → n < 10 ^ 18
following_small piece n is = number_below 18 is.1 n is.4

at_small : (ns : List ℕ) (k missing : ℕ) → AllSmall ns → missing < 10 ^ 18 → get_or ns k missing < 10 ^ 18
at_small [] k missing all lt = lt
at_small (n ∷ ns) zero missing all lt = all.0
at_small (n ∷ ns) (suc k) missing all lt = at_small ns k missing all.1 lt

four_small : (missing first : ℕ) (others : List ℕ) → first < 10 ^ 18 → missing < 10 ^ 18 → AllSmall others → AllSmall (four_numbers (four_of missing first others))
four_small missing first others f m all = (f, (at_small others 0 missing all m, (at_small others 1 missing all m, (at_small others 2 missing all m, tt))))

suffix_small : (modifier : List ℕ) (suffix : Option Suffix) → IsModifier modifier suffix → IfSome suffix (λ s. AllSmall s.1)
suffix_small modifier None is = tt
suffix_small modifier (Some s) is = row_small IsFollowing following_small is.2 s.1 is.6

staged_normal : (numbers : Numbers) (stage : Option Stage) (following : List ℕ) (dev : Bool) → AllSmall (four_numbers numbers) → numbers.major < 10 ^ 5 → AllSmall following → IsNormal (staged numbers stage following dev)
staged_normal numbers None following dev small first all = record { numbers = small; following = tt; first = inl first }
staged_normal numbers (Some stage) following dev small first all = record { numbers = small; following = all; first = inl first }

numbered_normal : (numbers : Numbers) (suffix : Option Suffix) (dev : Bool) → AllSmall (four_numbers numbers) → numbers.major < 10 ^ 5 → IfSome suffix (λ s. AllSmall s.1) → IsNormal (numbered numbers suffix dev)
numbered_normal numbers None dev small first all = record { numbers = small; following = tt; first = inl first }
numbered_normal numbers (Some suffix) dev small first all = staged_normal numbers suffix.0 suffix.1 dev small first all

pub classical_normal : (text : List ℕ) (v : Numbered) → IsClassical text v → IsNormal v
classical_normal text v is =
    let first = number_below 5 is.number is.first is.number_is in
    let small = four_small 0 is.first is.others (omega arith) (omega arith) (row_small IsPart part_small is.parts is.others is.parts_are) in
    subst (λ (w : Numbered). IsNormal w) (sym is.version_is) (numbered_normal (four_of 0 is.first is.others) is.suffix is.has_dev small first (suffix_small is.modifier is.suffix is.modifier_is))

branch_normal : (text : List ℕ) (v : Numbered) → IsNumberedBranch text v → IsNormal v
branch_normal text v is =
    let first = number_below 18 is.number is.first is.number_is in
    let small = four_small anything is.first is.others first (omega arith) (row_small IsBranchPart branch_part_small is.parts is.others is.parts_are) in
    subst (λ (w : Numbered). IsNormal w) (sym is.version_is) (record { numbers = small; following = tt; first = inr (refl, refl) })

abbrev named : List ℕ → Option (List ℕ)
named name = Some name

-- a branch's name is read as that name
name_again : (rest : Option (List ℕ)) (name : List ℕ) → branch_named rest ≡ Some name → branch_of name ≡ Some name
name_again None name e = absurd cc
name_again (Some rest) name e =
    elim (nat_lt 0 (length rest) && list_all is_in_branch_name rest) as (λ t. (nat_lt 0 (length rest) && list_all is_in_branch_name rest) ≡ t → cond t (named (codes "dev-" ++ rest)) None ≡ Some name → branch_of name ≡ Some name) [
      | true ↦ λ test h.
          let same : codes "dev-" ++ rest ≡ name = same_name (codes "dev-" ++ rest) name h in
          rw (← same, test) refl
      | false ↦ λ test h. absurd cc
    ] refl e
  where
    same_name : (x y : List ℕ) → ◌≡◌ {A = Option (List ℕ)} (Some x) (Some y) → x ≡ y
    same_name x y h = cc

abbrev formed : Version → Result Version VersionFault
formed v = Ok v

same_form : (v w : Version) → formed v ≡ formed w → v ≡ w
same_form v w e = cc

numbered_form_normal : (text : List ℕ) (version : Version) → numbered_form text ≡ Ok version → IsNormalVersion version
unfolding numbered_form
numbered_form_normal text version e =
    elim (classical_of text) as (λ r. classical_of text ≡ r → else_numbered_branch r (numbered_branch_of text) (fault_of text) ≡ Ok version → IsNormalVersion version) [
      | Ok v ↦ λ is h. subst IsNormalVersion (same_form (versions.Numbered v) version h) (classical_normal text v (classical_takes text v is))
      | Err barred ↦ λ is h.
          elim (numbered_branch_of text) as (λ r. numbered_branch_of text ≡ r → else_numbered_branch (Err barred) r (fault_of text) ≡ Ok version → IsNormalVersion version) [
            | Ok v ↦ λ is_branch g. subst IsNormalVersion (same_form (versions.Numbered v) version g) (branch_normal text v (numbered_branch_takes text v is_branch))
            | Err too ↦ λ is_branch g. absurd cc
          ] refl h
    ] refl e

unflagged_form_normal : (text : List ℕ) (version : Version) → unflagged_form text ≡ Ok version → IsNormalVersion version
unfolding unflagged_form
unflagged_form_normal text version e =
    let marked = with_branch_mark text in
    elim (branch_of marked) as (λ o. branch_of marked ≡ o → else_numbered o (numbered_form (without_build marked)) ≡ Ok version → IsNormalVersion version) [
      | None ↦ λ is h. numbered_form_normal (without_build marked) version h
      | Some name ↦ λ is h. subst IsNormalVersion (same_form (versions.Branch name) version h) (name_again (after_word (codes "dev-") marked) name is)
    ] refl e

pub result_normal : (text : List ℕ) (result : Result Version VersionFault) → GivesValue OutOfMemory (unflagged_form text) result → IfOk result IsNormalVersion
result_normal text (Ok version) given = unflagged_form_normal text version given
result_normal text (Err fault) given = tt
