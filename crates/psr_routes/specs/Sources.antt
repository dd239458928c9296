-- Rules with the folder that they speak of, as rows are made from them.
use Rattle.std.specs.Prelude.{ℕ, List, map, take, reverse}
use Rattle.std.specs.List.{flat_map}
use Rattle.manifest_read.specs.declared.types.Autoload.{Autoload}
use Rattle.class_paths.specs.declared.types.RouteKind.{RouteKind}
use Rattle.class_paths.specs.declared.types.Route.{Route}
use Rattle.psr_routes.specs.declared.rows.Source as lent
use Rattle.psr_routes.specs.PackageOrder.{Numbered}
use Rattle.psr_routes.specs.Routes.{Source, rows_of_prefix, prefixes_of}

abbrev pub Rules : Type 0
Rules = List (List ℕ) × Autoload

abbrev pub seen : List lent.Source → List Rules
seen sources = map (λ source. (source.folder.now, source.rules.now)) sources

abbrev pub rules_of : List Source → List Rules
rules_of sources = map (λ source. (source.folder, source.rules)) sources

-- those of the first packages of an order, as many as count says, the last one first
abbrev pub member_rules : Numbered → Rules
member_rules one = (one.1.shown, one.1.package.autoload)

abbrev pub rules_below : List Numbered → ℕ → List Rules
rules_below members count = map member_rules (reverse (take count members))

abbrev pub rows_by_rules : RouteKind → Rules → List Route
rows_by_rules kind rules = flat_map (rows_of_prefix kind rules.0) (prefixes_of kind rules.1)

abbrev pub rows_by : RouteKind → List Rules → List Route
rows_by kind rules = flat_map (rows_by_rules kind) rules
