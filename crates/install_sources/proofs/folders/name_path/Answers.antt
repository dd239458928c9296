use Rattle.std.proofs.Common.{◌≡◌, ℕ, List, [], ◌∷◌, Result, Ok, Err, IsOk, rules, sym, ap, ◌∙◌}
use Rattle.std.proofs.lemmas.Result.{IfOk-weaker}
use Rattle.path_name.specs.Paths.{path_of}
use Rattle.path_name.specs.declared.fault.PathFault.{PathFault}
use Rattle.manifest_read.specs.Names.{project_of, vendor_of}
use Rattle.install_sources.proofs.PackagePaths.{package_path}
use Rattle.install_sources.proofs.folders.name_path.Goals as goal

is_ok : (r : Result (List (List ℕ)) PathFault) (path : List (List ℕ)) → r ≡ Ok path → IsOk r
is_ok (Ok x) path e = search rules
is_ok (Err f) path e = absurd cc

same_ok : (a b : List (List ℕ)) → ◌≡◌ {A = Result (List (List ℕ)) PathFault} (Ok a) (Ok b) → a ≡ b
same_ok a b e = cc

pub named_path-requires : goal.named_path-requires
named_path-requires c =
    is_ok (path_of c.as_slice.result.now) (vendor_of c.args.name.now ∷ project_of c.args.name.now ∷ []) (ap path_of c.as_slice.ensures ∙ package_path c.args.name.now c.requires)

pub returns : goal.returns
returns c =
    IfOk-weaker c.named_path.result (λ path. path_of c.as_slice.result.now ≡ Ok path) (λ path. path ≡ vendor_of c.args.name.now ∷ project_of c.args.name.now ∷ [])
    (λ path is. same_ok path (vendor_of c.args.name.now ∷ project_of c.args.name.now ∷ []) (sym is ∙ ap path_of c.as_slice.ensures ∙ package_path c.args.name.now c.requires)) c.named_path.ensures
