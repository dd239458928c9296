-- How stable a version is (Composer documentation, "Versions and constraints", "Stability constraints").
use Rattle.std.specs.Prelude.{ℕ, Bool, true, false, Option, Some, None}
use Rattle.version_norm.specs.declared.version.Stage.{Stage}
use Rattle.version_norm.specs.declared.version.Stage.TheVariants as stages
use Rattle.version_norm.specs.declared.version.Modifier.{Modifier}
use Rattle.version_norm.specs.declared.version.Version.{Version}
use Rattle.version_norm.specs.declared.version.Version.TheVariants as versions
use Rattle.version_norm.specs.declared.version.Grade.{Grade}
use Rattle.version_norm.specs.declared.version.Grade.TheVariants as grades

abbrev pub rank_of : Grade → ℕ
rank_of grades.Stable = 0
rank_of grades.Rc = 5
rank_of grades.Beta = 10
rank_of grades.Alpha = 15
rank_of grades.Dev = 20

-- a fix after a release is as stable as the release
abbrev pub stage_stability : Stage → Grade
stage_stability stages.Alpha = grades.Alpha
stage_stability stages.Beta = grades.Beta
stage_stability stages.Rc = grades.Rc
stage_stability stages.Patch = grades.Stable

abbrev pub modifier_stability : Option Modifier → Grade
modifier_stability None = grades.Stable
modifier_stability (Some modifier) = stage_stability modifier.stage

abbrev pub marked_stability : Bool → Option Modifier → Grade
marked_stability true modifier = grades.Dev
marked_stability false modifier = modifier_stability modifier

abbrev pub stability_of : Version → Grade
stability_of (versions.Branch name) = grades.Dev
stability_of (versions.Numbered v) = marked_stability v.dev v.modifier
