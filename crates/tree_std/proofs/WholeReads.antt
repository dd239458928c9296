-- What a reader of known bytes gives up to a limit.
use Rattle.std.proofs.Common.{◌≡◌, ℕ, ◌<◌, ◌≤◌, ◌+◌, List, [], ◌++◌, length, take, Option, Some, None, false, refl, sym, ap, ◌∙◌, arith, length-append}
use Rattle.std.specs.Prelude.{nat_lt, IfSome, min}
use Rattle.std.specs.Io.KnownBytes.{Consumes, Keeps}
use Rattle.std.specs.Option.{option_map}
use Rattle.std.proofs.lemmas.Bool.Decides.{nat_tests}
use Rattle.std.proofs.lemmas.List.{length-take, take_all}
use Rattle.tree_dev.specs.Trees.{read_of}
use Rattle.tree_dev.specs.declared.entry.Entry.TheVariants as entries
use Rattle.tree_dev.specs.declared.entry.ReadAnswer.TheVariants as answers

-- a read that an interrupt broke off gave nothing
pub nothing_read : (old new : Option (List ℕ)) → Keeps old new → Consumes old new []
nothing_read None new kept = tt
nothing_read (Some known) None kept = absurd kept
nothing_read (Some known) (Some left) kept = sym kept

whole : (limit : ℕ) (left first items : List ℕ) → items ≡ first ++ take limit left → length items < limit + length first → first ++ left ≡ items
whole limit left first items e short =
    let long : length items ≡ length first + min limit (length left) =
    ap length e ∙ length-append first (take limit left) ∙ ap (λ (n : ℕ). length first + n) (length-take limit left) in
    let within : length left ≤ limit = omega (arith, long, short) in
    sym (e ∙ ap (λ (rest : List ℕ). first ++ rest) (take_all limit left within))

-- fewer bytes than the limit are all of them: some that were read first, and up to a limit what was left behind them
pub whole_read : (most limit : ℕ) (known left : Option (List ℕ)) (first items : List ℕ) → Consumes known left first → IfSome (option_map (take limit) left) (λ bytes. items ≡ first ++ bytes)
    → length items ≤ most → length items < limit + length first → IfSome known (λ bytes. answers.Bytes items ≡ read_of most (Some (entries.File bytes)))
whole_read most limit None left first items began e within short = tt
whole_read most limit (Some known) None first items began e within short = absurd began
whole_read most limit (Some known) (Some left) first items began e within short =
    let same : known ≡ items = began ∙ whole limit left first items e short in
    let test : nat_lt most (length items) ≡ false = grind (arith, nat_tests) in
    rw (same, test) refl
