-- Each package of a list has a package's name.
use Rattle.std.proofs.Common.{◌≡◌, ℕ, zero, suc, ◌<◌, true, List, [], ◌∷◌, length, get_or, sym, subst, arith}
use Rattle.std.specs.List.{AllByRecursion}
use Rattle.manifest_read.specs.Names.{is_package_name}
use Rattle.manifest_read.specs.WellFormed.{IsMember}
use Rattle.manifest_read.specs.declared.types.Package.{Package}

pub named_item : (packages : List Package) (n : ℕ) (party : Package) → AllByRecursion IsMember packages → (n < length packages) × (party ≡ get_or packages n party) → is_package_name party.name ≡ true
named_item [] n party all turn = absurd (omega (arith, turn.0))
named_item (first ∷ rest) zero party all turn = subst (λ (p : Package). is_package_name p.name ≡ true) (sym turn.1) all.0.name.0
named_item (first ∷ rest) (suc n) party all turn = named_item rest n party all.1 (omega (arith, turn.0), turn.1)
